use Rattle.std.proofs.Common.{◌≡◌, ◌<◌, ◌-◌, List, ◌∷◌, length, sym, ap, ◌∙◌, arith, rules}
use Rattle.nsc_model.specs.Image.{Saved}
use Rattle.nsc_image.specs.Reading.{saved_in}
use Rattle.nsc_image.specs.Versions.{number_of}
use Rattle.nsc_image.proofs.ListsBack.{readable_next, saved_in-next, saved_in-none}
use Rattle.nsc_image.proofs.image.EntriesIterator.next.Goals as goal

pub returns-then-self-eq0-clause-steps : goal.returns-then-self-eq0-clause-steps
returns-then-self-eq0-clause-steps c =
    let none = sym c.self.view_is ∙ saved_in-none (number_of c.self.inside.version) c.self.inside.left c.self.inside.bytes.now c.if-self-eq0.true in
    (none, none)

pub entry_at-saved-requires : goal.entry_at-saved-requires
entry_at-saved-requires c = (readable_next (number_of c.self.inside.version) c.self.inside.left c.self.inside.bytes.now (omega arith) c.self.invariant).0

pub behind_entry-self-inside-requires-clause-long : goal.behind_entry-self-inside-requires-clause-long
behind_entry-self-inside-requires-clause-long c = (readable_next (number_of c.self.inside.version) c.self.inside.left c.self.inside.bytes.now (omega arith) c.self.invariant).0.long

pub behind_entry-self-inside-requires-clause-whole : goal.behind_entry-self-inside-requires-clause-whole
behind_entry-self-inside-requires-clause-whole c = (readable_next (number_of c.self.inside.version) c.self.inside.left c.self.inside.bytes.now (omega arith) c.self.invariant).0.whole

pub invariant_of-self : goal.invariant_of-self
invariant_of-self c = rw c.behind_entry-self-inside.ensures (readable_next (number_of c.self.inside.version) c.self.inside.left c.self.inside.bytes.now (omega arith) c.self.invariant).1

pub returns-clause-steps : goal.returns-clause-steps
returns-clause-steps c =
    let next = saved_in-next (number_of c.self.inside.version) c.self.inside.left c.self.inside.bytes.now (omega arith) in
    sym c.self.view_is ∙ rw (c.behind_entry-self-inside.ensures, c.entry_at-saved.ensures) next

pub returns-clause-goes : goal.returns-clause-goes
returns-clause-goes c =
    let left : List Saved = saved_in (number_of c.self.inside.version) (c.self.inside.left - 1) c.behind_entry-self-inside.result.now in
    let next : c.args.self.now ≡ c.entry_at-saved.result ∷ left =
    (let step = saved_in-next (number_of c.self.inside.version) c.self.inside.left c.self.inside.bytes.now (omega arith) in
    sym c.self.view_is ∙ rw (c.behind_entry-self-inside.ensures, c.entry_at-saved.ensures) step) in
    let fewer : length left < length c.args.self.now = (let size = ap length next in omega (arith, size)) in
    search rules
