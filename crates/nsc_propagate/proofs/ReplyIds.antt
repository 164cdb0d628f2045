-- The id in the reply to a request by name, and the request by id that it gives.
use Rattle.std.proofs.Common.{◌≡◌, ℕ, ◌≤◌, true, false, List, ◌++◌, flat_map, length, decimal, Option, Some, None, refl, sym, ap, arith}
use Rattle.byteorder.specs.Numbers.{little_number-reads_back}
use Rattle.nsc_model.specs.declared.kind.Kind.{Kind}
use Rattle.nsc_model.specs.declared.kind.Kind.TheVariants.{PwName, PwUid, GrName, GrGid}
use Rattle.nsc_model.specs.declared.answer.Request.{Request}
use Rattle.nsc_model.specs.declared.row.Looked.{Looked}
use Rattle.nsc_model.specs.declared.row.Looked.TheVariants.{Found, NotFound, Unavail}
use Rattle.nsc_model.specs.declared.row.Row.TheVariants as row
use Rattle.nsc_model.specs.Answer.{Answer}
use Rattle.nsc_model.specs.Answers.{answer_of, id_request, looked_up, marked, request_beside}
use Rattle.nsc_model.specs.Content.{Content}
use Rattle.nsc_model.specs.Files.{FilesFit}
use Rattle.nsc_model.specs.Outcomes.{reply_to}
use Rattle.nsc_model.specs.Wire.{Spells, field, field_in, text, text_len}
use Rattle.nsc_laws.proofs.Spelled.{answer_spells}

-- an answer has an id behind sixteen bytes, and this is the request by it
pub record HasId (by : Kind) (answer : Answer) (id : Option Request) : Type 0 where
  pub long : answer.not_found ≡ false → 20 ≤ length answer.bytes
  pub found : answer.not_found ≡ false → id ≡ Some (record { kind = by; key = decimal (field_in answer.bytes 16) })
  pub absent : answer.not_found ≡ true → id ≡ None

user_has : (looked : Looked) → Spells PwName (reply_to looked) (marked PwName looked).bytes → HasId PwUid (marked PwName looked) (id_request PwName looked)
user_has (Found (row.Passwd p)) s = record {
  long = λ on. omega arith;
  found = λ on. ap (λ (n : ℕ). Some (record { kind = PwUid; key = decimal n })) (sym (little_number-reads_back 4 p.uid (field p.gid ++ text_len p.gecos ++ text_len p.dir ++ text_len p.shell ++ text p.name ++ text p.passwd ++ text p.gecos ++ text p.dir ++ text p.shell) s.of_kind.1.uid_fits));
  absent = λ off. absurd cc;
}
user_has (Found other) s = let is = s.of_kind.0 in absurd cc
user_has NotFound s = record { long = λ on. absurd cc; found = λ on. absurd cc; absent = λ off. refl }
user_has Unavail s = record { long = λ on. absurd cc; found = λ on. absurd cc; absent = λ off. refl }

group_has : (looked : Looked) → Spells GrName (reply_to looked) (marked GrName looked).bytes → HasId GrGid (marked GrName looked) (id_request GrName looked)
group_has (Found (row.Group g)) s = record {
  long = λ on. omega arith;
  found = λ on. ap (λ (n : ℕ). Some (record { kind = GrGid; key = decimal n })) (sym (little_number-reads_back 4 g.gid (field (length g.members) ++ flat_map text_len g.members ++ text g.name ++ text g.passwd ++ flat_map text g.members) s.of_kind.1.gid_fits));
  absent = λ off. absurd cc;
}
group_has (Found other) s = let is = s.of_kind.0 in absurd cc
group_has NotFound s = record { long = λ on. absurd cc; found = λ on. absurd cc; absent = λ off. refl }
group_has Unavail s = record { long = λ on. absurd cc; found = λ on. absurd cc; absent = λ off. refl }

-- the answer over a content to a request by name has the id of what the switch finds
pub user_beside : (files : Content) (key : List ℕ) → FilesFit files → HasId PwUid (answer_of files (record { kind = PwName; key = key })) (request_beside files (record { kind = PwName; key = key }))
unfolding answer_of
user_beside files key fit = let request : Request = record { kind = PwName; key = key } in user_has (looked_up files request) (answer_spells files request fit)

pub group_beside : (files : Content) (key : List ℕ) → FilesFit files → HasId GrGid (answer_of files (record { kind = GrName; key = key })) (request_beside files (record { kind = GrName; key = key }))
unfolding answer_of
group_beside files key fit = let request : Request = record { kind = GrName; key = key } in group_has (looked_up files request) (answer_spells files request fit)
