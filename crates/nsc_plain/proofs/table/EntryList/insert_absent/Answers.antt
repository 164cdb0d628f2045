-- An insertion whose request may have a live entry.
use Rattle.std.proofs.Common.{◌≡◌, ◌∙◌, true, find, Option, Some, None, refl, ap, sym}
use Rattle.std.specs.Option.{is_some}
use Rattle.nsc_model.specs.declared.answer.Request.{Request}
use Rattle.nsc_model.specs.Machine.{Kept}
use Rattle.nsc_plain.proofs.Apart.{asks}
use Rattle.nsc_plain.specs.EntryList.{over}
use Rattle.nsc_plain.proofs.Events.{present_stays}
use Rattle.nsc_plain.proofs.table.EntryList.insert_absent.Goals as goal

some_of : (o : Option Kept) → is_some o ≡ true → (k : Kept) × (o ≡ Some k)
some_of None e = absurd cc
some_of (Some k) e = (k, refl)

pub returns-then-is_live : goal.returns-then-is_live
returns-then-is_live c cache =
    let k = some_of (find (asks c.args.fresh.request) c.args.self.now.entries) (sym (c.is_live.ensures ∙ ap (λ (r : Request). is_some (find (asks r) c.args.self.now.entries)) c.request.ensures) ∙ c.if-is_live.true) in
    present_stays c.args.conf.now c.args.now c.args.version c.args.fresh (over cache c.args.self.now) k.0 k.1
