use Rattle.std.proofs.Common.{◌≡◌, ◌∙◌, ◌+◌, ◌≤◌, true, false, List, [], drop, get_or, length, Option, ap, subst, sym, arith, refl}
use Rattle.std.specs.Prelude.{IfSome}
use Rattle.std.proofs.Math.ListN.{drop_of_length-le}
use Rattle.nsc_model.specs.declared.kind.Kind.TheVariants.{PwName}
use Rattle.nsc_pruner.specs.Due.{Due}
use Rattle.nsc_writer.specs.Loaded.{Loaded}
use Rattle.nsc_writer.specs.Writer.{IsAnswered}
use Rattle.nsc_turns.specs.Ticks.{Reloads, ReloadsOne}
use Rattle.nsc_turns.proofs.Renewed.{ReloadsOn, answered_on, last_reloaded, leaves_inserted, leaves_same, none_reloaded, one_ended, one_passed, one_reloaded}
use Rattle.nsc_turns.proofs.ticks.reload.Goals as goal
use Rattle.nsc_turns.proofs.ticks.reload.Goals.{in-Some+then-is_ended, in-Some+else-is_ended, in_default}

pub loop-at-init : goal.loop-at-init
loop-at-init c = none_reloaded c.args.due.now c.args.loads.now c.args.writer.now

pub bounds-due-at : goal.bounds-due-at
bounds-due-at c = omega (arith, c.requires.many)

pub insert_lent-said-requires-clause-answered : goal.insert_lent-said-requires-clause-answered
insert_lent-said-requires-clause-answered c =
    let load = subst (λ (o : Option Loaded). IfSome o (IsAnswered c.args.writer.now.seen)) (sym c.index-loads-at.is ∙ c.in-Some.is) (c.requires.answered c.loop-at.at c.index-loads-at.result c.loop-at-test.true) in
    answered_on c.args.writer.now.seen c.loop-at.writer.seen c.in-Some.loaded c.learn-then-is_ended.ensures.told.legal c.learn.ensures.told.legal c.loop-at.invariant.leaves.on load

pub insert_lent-said-requires-clause-still : goal.insert_lent-said-requires-clause-still
insert_lent-said-requires-clause-still c = c.loop-at.invariant.leaves.slide ∙ c.requires.still

pub loop-at-preserved : goal.loop-at-preserved
loop-at-preserved c = elim c.match-load.branch [
  | in-Some+then-is_ended w ↦
      let leaves = leaves_inserted w.insert_lent-said.result w.in-Some.loaded c.loop-at.writer w.insert_lent-said.new.self w.insert_lent-said.ensures.inserted in
      let ended : (get_or c.args.due.now c.loop-at.at w.index-due-at.result).ended ≡ true = sym (ap (λ (x : Due). x.ended) w.index-due-at.is) ∙ sym w.is_ended.ensures ∙ w.if-is_ended.true in
      subst (ReloadsOn c.args.due.now c.args.loads.now c.args.writer.now (c.loop-at.at + 1)) (sym w.writer-is)
      (one_reloaded c.args.due.now c.args.loads.now c.args.writer.now c.loop-at.at w.index-due-at.result c.index-loads-at.result c.loop-at.writer w.insert_lent-said.new.self c.requires.many c.loop-at-test.true c.loop-at.invariant leaves
      (subst (λ (o : Option Loaded). ReloadsOne (get_or c.args.due.now c.loop-at.at w.index-due-at.result) o c.loop-at.writer w.insert_lent-said.new.self) (sym (sym c.index-loads-at.is ∙ w.in-Some.is)) (one_ended w.insert_lent-said.result w.in-Some.loaded (get_or c.args.due.now c.loop-at.at w.index-due-at.result) c.loop-at.writer w.insert_lent-said.new.self ended w.insert_lent-said.ensures.inserted w.insert_lent-said.ensures.why w.learn-then-is_ended.ensures.told)))
  | in-Some+else-is_ended w ↦
      let off : (get_or c.args.due.now c.loop-at.at w.index-due-at.result).ended ≡ false = sym (ap (λ (x : Due). x.ended) w.index-due-at.is) ∙ sym w.is_ended.ensures ∙ w.if-is_ended.false in
      subst (ReloadsOn c.args.due.now c.args.loads.now c.args.writer.now (c.loop-at.at + 1)) (sym w.writer-is)
      (one_reloaded c.args.due.now c.args.loads.now c.args.writer.now c.loop-at.at w.index-due-at.result c.index-loads-at.result c.loop-at.writer c.loop-at.writer c.requires.many c.loop-at-test.true c.loop-at.invariant (leaves_same c.loop-at.writer c.loop-at.writer refl)
      (subst (λ (o : Option Loaded). ReloadsOne (get_or c.args.due.now c.loop-at.at w.index-due-at.result) o c.loop-at.writer c.loop-at.writer) (sym (sym c.index-loads-at.is ∙ w.in-Some.is)) (one_passed w.in-Some.loaded (get_or c.args.due.now c.loop-at.at w.index-due-at.result) c.loop-at.writer off)))
  | in_default w ↦
      let d : Due = record { number = 0; request = record { kind = PwName; key = [] }; reloads = 0; dropped = true; ended = true } in
      subst (ReloadsOn c.args.due.now c.args.loads.now c.args.writer.now (c.loop-at.at + 1)) (sym w.writer-is)
      (one_reloaded c.args.due.now c.args.loads.now c.args.writer.now c.loop-at.at d c.index-loads-at.result c.loop-at.writer c.loop-at.writer c.requires.many c.loop-at-test.true c.loop-at.invariant (leaves_same c.loop-at.writer c.loop-at.writer refl)
      (subst (λ (o : Option Loaded). ReloadsOne (get_or c.args.due.now c.loop-at.at d) o c.loop-at.writer c.loop-at.writer) (sym (sym c.index-loads-at.is ∙ w.in_default.is)) refl))
]

pub returns : goal.returns
returns c =
    let over : length c.args.loads.now ≤ c.loop-at.at = omega arith in
    c.loop-at.invariant.rest c.loop-at.writer (subst (λ (ls : List (Option Loaded)). Reloads (drop c.loop-at.at c.args.due.now) ls c.loop-at.writer c.loop-at.writer) (sym (drop_of_length-le c.args.loads.now over)) (last_reloaded (drop c.loop-at.at c.args.due.now) c.loop-at.writer))
