-- What searches in place found, of the stores of four databases.
use Rattle.std.proofs.Common.{◌≡◌, ◌∙◌, ℕ, ◌+◌, ◌≤◌, ◌==◌, Bool, true, false, List, length, refl, sym, ap, subst, arith, inl}
use Rattle.std.specs.Bool.{OnTrue}
use Rattle.nsc_model.specs.declared.answer.Request.{Request}
use Rattle.nsc_model.specs.declared.databases.Databases.{Databases}
use Rattle.nsc_model.specs.declared.in_place.InPlace.TheVariants.{Hit}
use Rattle.nsc_model.specs.declared.kind.Db.{Db}
use Rattle.nsc_model.specs.declared.kind.Db.TheVariants as db
use Rattle.nsc_model.specs.declared.kind.Kind.{Kind}
use Rattle.nsc_model.specs.declared.kind.Kind.TheVariants as kind
use Rattle.nsc_model.specs.declared.kind.Shape.{Shape}
use Rattle.nsc_model.specs.declared.kind.Shape.TheVariants as shape
use Rattle.nsc_model.specs.declared.record.Record.{Record}
use Rattle.nsc_model.specs.declared.row.Reply.{Reply}
use Rattle.nsc_model.specs.declared.row.Reply.TheVariants.{Found, Absent, Disabled}
use Rattle.nsc_model.specs.declared.row.Row.{Row}
use Rattle.nsc_model.specs.declared.row.Row.TheVariants as row
use Rattle.nsc_model.specs.declared.store.Store as store
use Rattle.nsc_model.specs.Databases.{database_in, with_database}
use Rattle.nsc_model.specs.History.{Answered, HasEnd, Legal}
use Rattle.nsc_model.specs.InPlace.{InPlaceClause}
use Rattle.nsc_model.specs.Kinds.{database_of}
use Rattle.nsc_model.specs.Stores.{Continues, StaysCalm}
use Rattle.nsc_model.specs.Wire.{Spells, field_in, lacking, minus_one, row_found, shape_of, spelled}
use Rattle.nsc_client.specs.declared.hits.Hit.TheVariants as hit
use Rattle.nsc_client.specs.declared.line.LineAsks.TheVariants.{One, HostNamed}
use Rattle.nsc_client.specs.Gate.{SeeMore, searches_of, seen_in}
use Rattle.nsc_client.specs.GateText.{has_entry}
use Rattle.nsc_client.specs.Hits.{IsFound, IsFoundAt, IsHit, Searches}
use Rattle.nsc_client.specs.Sent.{SpellsReply}
use Rattle.nsc_client.proofs.Answering.{both_asked, calm_on, first_asked, one_asked}
use Rattle.nsc_client.proofs.Passes.{calm_with, the_one}
use Rattle.nsc_client.proofs.Spelling.{found_spells}

-- ---- one store

pub found_at : (seen after : List Record) (request : Request) (first last : ℕ) (bytes : List ℕ) (number version : ℕ) (not_found : Bool)
    → Continues seen after → InPlaceClause seen after request first last bytes (Hit number version not_found) → IsFoundAt seen after request bytes
found_at seen after request first last bytes number version not_found goes clause =
    let found = clause.2 in
    record {
      spelled = found_spells seen after request first last bytes number version not_found goes clause;
      answered = record {
        seen_before = goes.before;
        source = inl (record {
          entry_is = found.entry;
          inserted = found.inserted;
          answers = found.answers;
          said = found.said;
          not_seen_to_end = λ ended. found.not_seen_to_end (subst (λ (n : ℕ). HasEnd seen n) found.numbered ended);
        });
      };
    }

-- ---- four stores

searched_with : {S P : Type 0} (g : store.Ghosts S P) (before : Databases P) (which : Db) (one : P) → (g.at one).searches ≡ (g.at (database_in before which)).searches + 1
    → searches_of g before + 1 ≤ searches_of g (with_database before which one)
searched_with g before db.Passwd one is = omega arith
searched_with g before db.Group one is = omega arith
searched_with g before db.Hosts one is = omega arith
searched_with g before db.Services one is = omega arith

pub searches_with : {S P : Type 0} (g : store.Ghosts S P) (before : Databases P) (which : Db) (pass one : P) → pass ≡ database_in before which → (g.at one).searches ≡ (g.at pass).searches + 1
    → StaysCalm (g.at pass) (g.at one) → Searches g before (with_database before which one) 1
searches_with g before which pass one of searches stay =
    let counted : (g.at one).searches ≡ (g.at (database_in before which)).searches + 1 = searches ∙ ap (λ (p : _). (g.at p).searches + 1) of in
    let stays = subst (λ (p : _). StaysCalm (g.at p) (g.at one)) of stay in
    record { searched = searched_with g before which one counted; calm = calm_with g before which one stays }

found_with : {S P : Type 0} (g : store.Ghosts S P) (before : Databases P) (one : P) (request : Request) (bytes : List ℕ)
    → Searches g before (with_database before (database_of request.kind) one) 1 → Legal (g.at one).seen → IsFoundAt (g.at (database_in before (database_of request.kind))).seen (g.at one).seen request bytes
    → IsFound g before (with_database before (database_of request.kind) one) request bytes
found_with g before one request bytes s legal found =
    let which = database_of request.kind in
    let is : one ≡ database_in (with_database before which one) which = the_one before which one in
    record {
      spelled = found.spelled;
      given = λ (reply : Reply). λ spells. record {
        told = record {
          bytes = bytes;
          answered = subst (λ (p : _). Answered (seen_in g before which) (g.at p).seen request bytes) is found.answered;
          spelled = spells;
          legal = subst (λ (p : _). Legal (g.at p).seen) is legal;
        };
        searched = s.searched;
        calm = s.calm;
      };
    }

pub finds_with : {S P : Type 0} (g : store.Ghosts S P) (before : Databases P) (which : Db) (pass one : P) (request : Request) (bytes : List ℕ) (is : Bool)
    → which ≡ database_of request.kind → pass ≡ database_in before which → (g.at one).searches ≡ (g.at pass).searches + 1 → StaysCalm (g.at pass) (g.at one)
    → Continues (g.at pass).seen (g.at one).seen → OnTrue is (IsFoundAt (g.at pass).seen (g.at one).seen request bytes) → OnTrue is (IsFound g before (with_database before which one) request bytes)
finds_with g before which pass one request bytes false of of_pass searches stay goes found = tt
finds_with g before which pass one request bytes true of of_pass searches stay goes found =
    let s = searches_with g before which pass one of_pass searches stay in
    let there = subst (λ (w : Db). Searches g before (with_database before w one) 1) of s in
    let at = subst (λ (p : _). IsFoundAt (g.at p).seen (g.at one).seen request bytes) (of_pass ∙ ap (λ (w : Db). database_in before w) of) found in
    subst (λ (w : Db). IsFound g before (with_database before w one) request bytes) (sym of) (found_with g before one request bytes there goes.legal at)

-- ---- a line

pub no_search : {S P : Type 0} (g : store.Ghosts S P) (before after : Databases P) (count : ℕ) → Searches g before after count → Searches g before after 0
no_search g before after count s = record { searched = (let some = s.searched in omega arith); calm = s.calm }

pub two_searches : {S P : Type 0} (g : store.Ghosts S P) (before mid after : Databases P) (n m : ℕ) → Searches g before mid n → Searches g mid after m → Searches g before after 0
two_searches g before mid after n m s t = record { searched = (let a = s.searched in let b = t.searched in omega arith); calm = calm_on g before mid after s.calm t.calm }

pub one_hit : {S P : Type 0} (g : store.Ghosts S P) (before after : Databases P) (request : Request) (bytes : List ℕ) → IsFound g before after request bytes → IsHit g before after (One request) bytes (hit.Reply request.kind)
one_hit g before after request bytes found = (found.spelled, λ (reply : Reply). λ spells. one_asked g before after request reply (found.given reply spells))

pub first_hit : {S P : Type 0} (g : store.Ghosts S P) (before after : Databases P) (name bytes : List ℕ) → IsFound g before after (record { kind = kind.HostName; key = name }) bytes
    → ((reply : Reply) → Spells kind.HostName reply bytes → has_entry reply ≡ true) → IsHit g before after (HostNamed name) bytes (hit.Reply kind.HostName)
first_hit g before after name bytes found has = (found.spelled, λ (reply : Reply). λ spells. first_asked g before after name reply (found.given reply spells) (has reply spells))

pub second_hit : {S P : Type 0} (g : store.Ghosts S P) (before mid after : Databases P) (name first second : List ℕ) → IsFound g before mid (record { kind = kind.HostName; key = name }) first
    → ((reply : Reply) → Spells kind.HostName reply first → has_entry reply ≡ false) → SeeMore g before mid → SeeMore g mid after
    → IsFound g mid after (record { kind = kind.HostName6; key = name }) second → IsHit g before after (HostNamed name) second (hit.Reply kind.HostName6)
second_hit g before mid after name first second one none more on two =
    let reply = one.spelled.reply in
    let spells = one.spelled.spelled in
    (two.spelled, λ (last : Reply). λ spelled. both_asked g before mid after name reply last (one.given reply spells) (none reply spells) more on (two.given last spelled))

-- ---- the field that tells whether there is an entry

lacks : (shape : Shape) → ((field_in (lacking shape 0 1) 4 == 1) ≡ false) × ((field_in (lacking shape minus_one minus_one) 4 == 1) ≡ false) × (8 ≤ length (lacking shape 0 1)) × (8 ≤ length (lacking shape minus_one minus_one))
lacks shape.User = (refl, refl, omega arith, omega arith)
lacks shape.Group = (refl, refl, omega arith, omega arith)
lacks shape.Ids = (refl, refl, omega arith, omega arith)
lacks shape.Host = (refl, refl, omega arith, omega arith)
lacks shape.Addresses = (refl, refl, omega arith, omega arith)
lacks shape.Service = (refl, refl, omega arith, omega arith)
lacks shape.Netgroup = (refl, refl, omega arith, omega arith)
lacks shape.Member = (refl, refl, omega arith, omega arith)

has : (row : Row) → ((field_in (row_found row) 4 == 1) ≡ true) × (8 ≤ length (row_found row))
has (row.Passwd p) = (refl, omega arith)
has (row.Group h) = (refl, omega arith)
has (row.Host h) = (refl, omega arith)
has (row.Service s) = (refl, omega arith)
has (row.Ai a) = (refl, omega arith)
has (row.Groups ids) = (refl, omega arith)
has (row.Netgroup texts) = (refl, omega arith)
has (row.Member is) = (refl, omega arith)

entry_field : (by : Kind) (reply : Reply) → ((field_in (spelled by reply) 4 == 1) ≡ has_entry reply) × (8 ≤ length (spelled by reply))
entry_field by (Found row) = has row
entry_field by Absent = (let l = lacks (shape_of by) in (l.0, l.2))
entry_field by Disabled = (let l = lacks (shape_of by) in (l.1, l.3))

pub entry_told : (by : Kind) (reply : Reply) (bytes : List ℕ) → Spells by reply bytes → (field_in bytes 4 == 1) ≡ has_entry reply
entry_told by reply bytes spells = ap (λ (b : List ℕ). field_in b 4 == 1) spells.spelling ∙ (entry_field by reply).0

pub has_field : (by : Kind) (bytes : List ℕ) → SpellsReply by bytes → 8 ≤ length bytes
has_field by bytes spells = subst (λ (b : List ℕ). 8 ≤ length b) (sym spells.spelled.spelling) (entry_field by spells.reply).1
