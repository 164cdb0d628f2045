-- What answers a request spells a reply of its kind.
use Rattle.std.proofs.Common.{ℕ, Bool, List, subst}
use Rattle.nsc_model.specs.declared.answer.Request.{Request}
use Rattle.nsc_model.specs.declared.in_place.InPlace.TheVariants.{Hit}
use Rattle.nsc_model.specs.declared.record.Record.{Record}
use Rattle.nsc_model.specs.Answers.{looked_up}
use Rattle.nsc_model.specs.History.{Answered}
use Rattle.nsc_model.specs.InPlace.{InPlaceClause}
use Rattle.nsc_model.specs.Outcomes.{reply_to}
use Rattle.nsc_model.specs.Stores.{Continues}
use Rattle.nsc_laws.specs.Spelled.{SpellsVersion}
use Rattle.nsc_laws.proofs.SpelledHistories.{answered_law, loaded_law}
use Rattle.nsc_client.specs.Sent.{SpellsReply}

version_spells : (history : List Record) (request : Request) (bytes : List ℕ) → SpellsVersion history request bytes → SpellsReply request.kind bytes
version_spells history request bytes spelled = record { reply = reply_to (looked_up spelled.files request); spelled = spelled.spells }

-- the reply of an entry that was found in place
pub found_spells : (seen after : List Record) (request : Request) (first last : ℕ) (bytes : List ℕ) (number version : ℕ) (not_found : Bool)
    → Continues seen after → InPlaceClause seen after request first last bytes (Hit number version not_found) → SpellsReply request.kind bytes
found_spells seen after request first last bytes number version not_found goes clause =
    let found = clause.2 in
    let entry = found.entry in
    let of_request = subst (λ (r : Request). SpellsVersion after r entry.answer.bytes) found.answers (loaded_law after entry goes.legal goes.fit found.inserted) in
    version_spells after request bytes (subst (λ (b : List ℕ). SpellsVersion after request b) found.said of_request)

-- the reply of a lookup
pub answered_spells : (seen after : List Record) (request : Request) (bytes : List ℕ) → Continues seen after → Answered seen after request bytes → SpellsReply request.kind bytes
answered_spells seen after request bytes goes answered = version_spells after request bytes (answered_law seen after request bytes goes.legal goes.fit answered)
