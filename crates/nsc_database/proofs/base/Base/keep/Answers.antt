use Rattle.std.proofs.Common.{refl, ◌≡◌, ◌∙◌, ◌≤◌, ℕ, List, Option, ap, rules, subst, sym}
use Rattle.std.specs.Prelude.{IfSome}
use Rattle.atomic_table.specs.Seated.{TableId}
use Rattle.nsc_model.specs.declared.record.Record.{Record}
use Rattle.nsc_model.specs.History.{IsPrefix}
use Rattle.nsc_model.specs.Machine.{last_count}
use Rattle.nsc_writer.specs.Loaded.{Loaded}
use Rattle.nsc_writer.specs.Writer.{IsAnswered, Writer}
use Rattle.nsc_database.specs.Frames.{LoadedLastCycle, pass_at}
use Rattle.nsc_database.specs.Holds.{IsKept}
use Rattle.nsc_database.specs.Rests.{Desk, IsFirstLoad}
use Rattle.nsc_turns.proofs.Renewed.{answered_on}
use Rattle.nsc_database.proofs.Beside.{cycle_beside, first_on, kept_beside}
use Rattle.nsc_database.proofs.Shown.{inserted_since}
use Rattle.nsc_database.proofs.Standing.{held_past, held_through, loaded_before}
use Rattle.nsc_database.specs.Made.{Enters, InsertsBehind}
use Rattle.nsc_database.proofs.Added.{adds_both}
use Rattle.nsc_database.proofs.base.Base.keep.Goals as goal

pub keep-requires-clause-answered : goal.keep-requires-clause-answered
keep-requires-clause-answered g c =
    let seen = c.in_ok-follow.ensures.seen ∙ sym (ap (λ (d : Desk). d.writer.seen) c.in_ok-follow.ensures.same) in
    subst (λ (h : List Record). IsAnswered h c.args.insertions.loaded) seen (answered_on c.args.pass.now.pass.seen c.follow.new.pass.pass.seen c.args.insertions.loaded c.in_ok-follow.ensures.frame.legal c.learn.ensures.legal c.in_ok-follow.ensures.frame.before c.requires.first.answered)

pub keep_beside-requires : goal.keep_beside-requires
keep_beside-requires g c =
    let held = held_through _ _ _ c.in_ok-follow.ensures.frame (held_through _ _ _ c.in_ok-said.ensures.frame c.show.ensures.frame) in
    let seen = c.show.ensures.seen ∙ sym (ap (λ (d : Desk). d.writer.seen) c.show.ensures.same) in
    subst (λ (x : Option Loaded × List Record). IfSome x.0 (IsFirstLoad g.D.OfDb.db x.1)) (λ i. (sym c.as_ref.ensures.value i, seen i))
    (first_on g.D.OfDb.db c.args.pass.now.pass.seen c.show.new.pass.pass.seen c.args.insertions.beside held.legal c.learn.ensures.legal held.before c.requires.beside)

pub returns-in_err-said-clause-frame : goal.returns-in_err-said-clause-frame
returns-in_err-said-clause-frame g c = held_through _ _ _ c.in_ok-follow.ensures.frame c.in_err-said.ensures.frame

pub returns-clause-frame : goal.returns-clause-frame
returns-clause-frame g c = held_through _ _ _ c.in_ok-follow.ensures.frame (held_through _ _ _ c.in_ok-said.ensures.frame (held_past _ _ _ _ refl refl refl c.show.ensures.frame c.show_cycle.ensures.frame))

pub returns-clause-kept : goal.returns-clause-kept
returns-clause-kept g c =
    let settings = c.args.self.now.settings in
    let seen = c.in_ok-follow.ensures.seen ∙ sym (ap (λ (d : Desk). d.writer.seen) c.in_ok-follow.ensures.same) in
    let before = subst (IsPrefix c.args.pass.now.pass.seen) seen c.in_ok-follow.ensures.frame.before in
    let last_cycle : Type 0 = LoadedLastCycle c.args.pass.now c.show_cycle.new.pass in
    let begun = (held_through _ _ _ c.in_ok-follow.ensures.frame (held_through _ _ _ c.in_ok-said.ensures.frame c.show.ensures.frame)).searches in
    let said = c.in_ok-said.said in
    let loaded = c.args.insertions.loaded in
    let tried = c.keep.new.self.writer in
    let shown : c.show.new.self.writer ≡ tried = ap (λ (d : Desk). d.writer) c.show.ensures.same in
    let cycle = cycle_beside said _ c.show.new.self.writer c.keep_beside.new.self.writer c.keep_beside.ensures.beside ∙ ap (λ (w : Writer). w.cache.cycle) shown in
    let found : last_count ≤ tried.cache.cycle → last_cycle = λ high. loaded_before c.args.pass.now c.show.new.pass c.show_cycle.new.pass begun (c.show_cycle.ensures.cycle (subst (λ (n : ℕ). last_count ≤ n) (sym cycle) high)) in
    let words = c.show_cycle.new.pass.pass.present.words in
    let is = ap (λ (t : TableId). t.words) (c.show_cycle.ensures.present ∙ c.show.ensures.present ∙ c.in_ok-said.ensures.present) in
    let kept = inserted_since settings words _ last_cycle said loaded c.args.pass.now.pass.seen c.follow.new.self.writer.seen tried.seen before found (subst (λ (n : ℕ). IsKept settings n (last_count ≤ tried.cache.cycle) said loaded c.follow.new.self.writer.seen tried.seen) (sym is) c.in_ok-said.ensures.kept) in
    let still = kept_beside settings words last_cycle said loaded c.args.pass.now.pass.seen _ c.show.new.self.writer c.keep_beside.new.self.writer c.keep_beside.ensures.beside c.keep_beside.ensures.on (subst (λ (w : Writer). IsKept settings words last_cycle said loaded c.args.pass.now.pass.seen w.seen) (sym shown) kept) in
    record {
      said = said;
      inserted = subst (λ (h : List Record). IsKept settings words last_cycle said loaded c.args.pass.now.pass.seen h) (sym c.show_cycle.ensures.seen) still;
      gives = search rules;
    }

pub returns-clause-made : goal.returns-clause-made
returns-clause-made g c =
    adds_both c.in_ok-said.said c.args.insertions c.into_reply.result _ (pass_at c.args.pass.now) (pass_at c.show_cycle.new.pass) c.follow.new.pass.made c.keep.new.pass.made c.show.new.pass.made c.keep_beside.new.made (search rules) c.in_ok-follow.ensures.made
    c.in_ok-said.ensures.made c.show.ensures.made (subst (λ (o : Option Loaded). Enters (InsertsBehind c.in_ok-said.said o) c.show.new.self.writer.seen c.keep_beside.new.self.writer.seen c.show.new.pass.made c.keep_beside.new.made) c.as_ref.ensures.value c.keep_beside.ensures.made) c.show_cycle.ensures.made
