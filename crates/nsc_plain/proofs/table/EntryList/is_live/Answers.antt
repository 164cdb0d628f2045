-- Whether an entry of a request is live.
use Rattle.std.proofs.Common.{◌≡◌, ◌∙◌, ℕ, Bool, List, find, Option, Some, None, refl, sym, ap}
use Rattle.std.specs.Prelude.{position}
use Rattle.std.specs.Option.{is_some}
use Rattle.nsc_model.specs.Machine.{Kept}
use Rattle.nsc_plain.specs.EntryList.{EntryList}
use Rattle.nsc_plain.proofs.Apart.{asks, found_none, found_some}
use Rattle.nsc_plain.proofs.table.EntryList.is_live.Goals as goal

-- a place was found if, and only if, an element was
one_answer : (p : Kept → Bool) (xs : List Kept) → is_some (position p xs) ≡ is_some (find p xs)
one_answer p xs = by_place (position p xs) refl where
  by_place : (o : Option ℕ) → position p xs ≡ o → is_some o ≡ is_some (find p xs)
  by_place None e = ap is_some (sym (found_none p xs e))
  by_place (Some i) e = let found = found_some p xs i e in ap is_some (sym found.1)

pub returns : goal.returns
returns c =
    let request = c.args.request.now in
    let at : c.find_entry.result ≡ position (asks request) c.self.inside.entries.items = rw (c.deref.ensures.value, c.as_slice.ensures) at c.find_entry.ensures in
    c.is_some.ensures ∙ ap is_some at ∙ one_answer (asks request) c.self.inside.entries.items ∙ ap (λ (t : EntryList). is_some (find (asks request) t.entries)) c.self.view_is
