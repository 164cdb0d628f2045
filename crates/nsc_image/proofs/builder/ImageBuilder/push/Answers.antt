use Rattle.std.proofs.Common.{◌+◌, List, [], ◌∷◌, ◌++◌, length, sym, ap, subst, ◌∙◌, arith}
use Rattle.nsc_image.specs.Draft.{Draft, IsDraft, draft_of}
use Rattle.nsc_model.specs.Image.{Saved}
use Rattle.nsc_image.proofs.Drafts.{draft_count, pushed_on}
use Rattle.nsc_image.proofs.builder.ImageBuilder.push.Goals as goal

pub overflow_add-self : goal.overflow_add-self
overflow_add-self c =
    let count = draft_count c.self.inside.db c.self.inside.count c.self.inside.bytes.items c.self.invariant in
    let same = ap (λ (d : Draft). length d.entries) c.self.view_is in
    omega (arith, c.requires.count)

pub invariant_of-self-2 : goal.invariant_of-self-2
invariant_of-self-2 c =
    let more = pushed_on c.self.inside.db c.self.inside.count c.self.inside.bytes.items c.args.saved.now c.args.self.now c.self.view_is c.self.invariant c.requires.is c.requires.above c.requires.count in
    subst (IsDraft c.self.inside.db (c.self.inside.count + 1)) (sym c.in_ok-put_saved.ensures.ok) more.draft

pub returns-clause-ok : goal.returns-clause-ok
returns-clause-ok c =
    let more = pushed_on c.self.inside.db c.self.inside.count c.self.inside.bytes.items c.args.saved.now c.args.self.now c.self.view_is c.self.invariant c.requires.is c.requires.above c.requires.count in
    let made : List Saved → Draft = λ l. record { db = c.self.inside.db; entries = l } in
    ap (draft_of c.self.inside.db (c.self.inside.count + 1)) c.in_ok-put_saved.ensures.ok ∙ ap made more.entries
    ∙ ap (λ (d : Draft). let e : Draft = record { db = d.db; entries = d.entries ++ c.args.saved.now ∷ [] } in e) c.self.view_is
