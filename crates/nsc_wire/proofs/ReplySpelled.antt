-- A reply that is read is spelled by the bytes, and a reply that is spelled is read.
use Rattle.std.proofs.Common.{◌≡◌, ℕ, ◌+◌, ◌-◌, ◌^◌, ◌<◌, ◌≤◌, true, false, ltb, eqb, List, [], ◌++◌, length, map, Ok, refl, sym, ap, subst, ◌∙◌, append_assoc, arith, inl, inr}
use Rattle.std.specs.List.{flat_map, AllByRecursion}
use Rattle.std.proofs.lemmas.Bool.{ltb-false, le-ltb, eqb-true}
use Rattle.std.proofs.lemmas.List.{append-nil, nil_from_length}
use Rattle.nsc_model.specs.declared.kind.Kind.{Kind}
use Rattle.nsc_model.specs.declared.row.Row.{Row}
use Rattle.nsc_model.specs.declared.row.Row.TheVariants as row
use Rattle.nsc_model.specs.declared.row.Reply.{Reply}
use Rattle.nsc_model.specs.declared.row.Reply.TheVariants.{Found, Absent, Disabled}
use Rattle.nsc_model.specs.Answer.{reply_limit}
use Rattle.nsc_model.specs.ServiceLines.{exchanged}
use Rattle.nsc_model.specs.declared.kind.Shape.{Shape}
use Rattle.nsc_model.specs.declared.kind.Shape.TheVariants as shape
use Rattle.nsc_model.specs.Wire.{shape_of, row_shape, row_found, lacking, spelled, minus_one, field, text, text_len, IsRow, IsReplyOf, Spells}
use Rattle.nsc_wire.specs.Fields.{fields}
use Rattle.nsc_wire.specs.Replies.{◌>>=◌, number_at, fixed_at, all_fixed, user_at, group_at, ids_at, host_at, addresses_at, service_at, netgroup_at, member_at, row_at, lacking_fields, said_at, reply_at, ended, whole_reply}
use Rattle.nsc_wire.proofs.ReplyFields.{IsBytes, bind_is, bind_ok, chosen, guard_is, guard_not, ok_is, Takes, Takes-then, number_again, number_takes, fixed_again, fixed_takes, all_fixed_again, all_fixed_takes}
use Rattle.nsc_wire.proofs.ReplyRows.{user_body, user_takes, group_body, group_takes, ids_body, ids_take, service_body, service_takes}
use Rattle.nsc_wire.proofs.ReplyAddresses.{address_of, family_of, host_body, host_takes, addresses_body, addresses_take}
use Rattle.nsc_wire.proofs.ReplyNetgroups.{netgroup_body, netgroup_takes, netgroup_again, member_body, member_takes, member_again}
use Rattle.nsc_wire.proofs.ReplyAgain.{user_again, group_again, host_again, service_again, addresses_again, ids_again}

-- ---- rows

-- the bytes of a row after the fields version and found
abbrev pub row_body : Row → List ℕ
row_body (row.Passwd p) = user_body p
row_body (row.Group g) = group_body g
row_body (row.Host h) = host_body h
row_body (row.Service s) = service_body s
row_body (row.Ai a) = addresses_body a
row_body (row.Groups ids) = ids_body ids
row_body (row.Netgroup texts) = netgroup_body texts
row_body (row.Member has) = member_body has

three_right : (a b c : List ℕ) → a ++ b ++ c ≡ a ++ (b ++ c)
three_right a b c = append_assoc a b c

four_right : (a b c d : List ℕ) → a ++ b ++ c ++ d ≡ a ++ (b ++ (c ++ d))
four_right a b c d = append_assoc (a ++ b) c d ∙ append_assoc a b (c ++ d)

five_right : (a b c d e : List ℕ) → a ++ b ++ c ++ d ++ e ≡ a ++ (b ++ (c ++ (d ++ e)))
five_right a b c d e = append_assoc (a ++ b ++ c) d e ∙ four_right a b c (d ++ e)

-- the bytes of a row are these two fields and its bytes after them
pub found_body : (r : Row) → row_found r ≡ field 2 ++ (field 1 ++ row_body r)
found_body (row.Passwd p) =
    ap (λ (texts : List ℕ). field 2 ++ field 1 ++ text_len p.name ++ text_len p.passwd ++ field p.uid ++ field p.gid ++ text_len p.gecos ++ text_len p.dir ++ text_len p.shell ++ texts)
    (five_right (text p.name) (text p.passwd) (text p.gecos) (text p.dir) (text p.shell))
found_body (row.Group g) =
    ap (λ (texts : List ℕ). field 2 ++ field 1 ++ text_len g.name ++ text_len g.passwd ++ field g.gid ++ field (length g.members) ++ texts)
    (four_right (flat_map text_len g.members) (text g.name) (text g.passwd) (flat_map text g.members))
found_body (row.Host h) =
    ap (λ (texts : List ℕ). field 2 ++ field 1 ++ text_len h.name ++ field (length h.aliases) ++ field h.family ++ field (length h.address) ++ field 1 ++ field 0 ++ texts)
    (four_right (text h.name) (flat_map text_len h.aliases) h.address (flat_map text h.aliases))
found_body (row.Service s) =
    ap (λ (texts : List ℕ). field 2 ++ field 1 ++ text_len s.name ++ text_len s.proto ++ field (length s.aliases) ++ field (exchanged s.port) ++ texts)
    (four_right (text s.name) (text s.proto) (flat_map text_len s.aliases) (flat_map text s.aliases))
found_body (row.Ai a) =
    ap (λ (texts : List ℕ). field 2 ++ field 1 ++ field (length a.list) ++ field (length (flat_map address_of a.list)) ++ text_len a.canon ++ field 0 ++ texts)
    (three_right (flat_map address_of a.list) (map family_of a.list) (text a.canon))
found_body (row.Groups ids) = refl
found_body (row.Netgroup texts) = refl
found_body (row.Member has) = refl

-- a row that was read, of a shape
record TakesRow (shape : Shape) (bytes : List ℕ) (r : Row) (rest : List ℕ) : Type 0 where
  takes : Takes bytes (row_body r) rest
  shape_is : row_shape r ≡ shape
  is : IsRow r

row_takes : (shape : Shape) (bytes : List ℕ) (x : Row × List ℕ) → IsBytes bytes → row_at shape bytes ≡ Ok x → TakesRow shape bytes x.0 x.1
unfolding row_at
row_takes shape.User bytes x fits e =
    let a = bind_ok (user_at bytes) (λ p. Ok (row.Passwd p.0, p.1)) x e in
    let t = user_takes bytes a.0 fits a.1 in
    subst (λ (y : Row × List ℕ). TakesRow shape.User bytes y.0 y.1) (ok_is (row.Passwd a.0.0, a.0.1) x a.2) (record { takes = t.0; shape_is = refl; is = t.1 })
row_takes shape.Group bytes x fits e =
    let a = bind_ok (group_at bytes) (λ p. Ok (row.Group p.0, p.1)) x e in
    let t = group_takes bytes a.0 fits a.1 in
    subst (λ (y : Row × List ℕ). TakesRow shape.Group bytes y.0 y.1) (ok_is (row.Group a.0.0, a.0.1) x a.2) (record { takes = t.0; shape_is = refl; is = t.1 })
row_takes shape.Ids bytes x fits e =
    let a = bind_ok (ids_at bytes) (λ p. Ok (row.Groups p.0, p.1)) x e in
    let t = ids_take bytes a.0 fits a.1 in
    subst (λ (y : Row × List ℕ). TakesRow shape.Ids bytes y.0 y.1) (ok_is (row.Groups a.0.0, a.0.1) x a.2) (record { takes = t.0; shape_is = refl; is = t.1 })
row_takes shape.Host bytes x fits e =
    let a = bind_ok (host_at bytes) (λ p. Ok (row.Host p.0, p.1)) x e in
    let t = host_takes bytes a.0 fits a.1 in
    subst (λ (y : Row × List ℕ). TakesRow shape.Host bytes y.0 y.1) (ok_is (row.Host a.0.0, a.0.1) x a.2) (record { takes = t.0; shape_is = refl; is = t.1 })
row_takes shape.Addresses bytes x fits e =
    let a = bind_ok (addresses_at bytes) (λ p. Ok (row.Ai p.0, p.1)) x e in
    let t = addresses_take bytes a.0 fits a.1 in
    subst (λ (y : Row × List ℕ). TakesRow shape.Addresses bytes y.0 y.1) (ok_is (row.Ai a.0.0, a.0.1) x a.2) (record { takes = t.0; shape_is = refl; is = t.1 })
row_takes shape.Service bytes x fits e =
    let a = bind_ok (service_at bytes) (λ p. Ok (row.Service p.0, p.1)) x e in
    let t = service_takes bytes a.0 fits a.1 in
    subst (λ (y : Row × List ℕ). TakesRow shape.Service bytes y.0 y.1) (ok_is (row.Service a.0.0, a.0.1) x a.2) (record { takes = t.0; shape_is = refl; is = t.1 })
row_takes shape.Netgroup bytes x fits e =
    let a = bind_ok (netgroup_at bytes) (λ p. Ok (row.Netgroup p.0, p.1)) x e in
    let t = netgroup_takes bytes a.0 fits a.1 in
    subst (λ (y : Row × List ℕ). TakesRow shape.Netgroup bytes y.0 y.1) (ok_is (row.Netgroup a.0.0, a.0.1) x a.2) (record { takes = t.0; shape_is = refl; is = t.1 })
row_takes shape.Member bytes x fits e =
    let a = bind_ok (member_at bytes) (λ p. Ok (row.Member p.0, p.1)) x e in
    let t = member_takes bytes a.0 fits a.1 in
    subst (λ (y : Row × List ℕ). TakesRow shape.Member bytes y.0 y.1) (ok_is (row.Member a.0.0, a.0.1) x a.2) (record { takes = t; shape_is = refl; is = tt })

-- ---- replies

-- what stands after the field version
abbrev pub said_body : Kind → Reply → List ℕ
said_body kind (Found r) = field 1 ++ row_body r
said_body kind Absent = field 0 ++ fields (lacking_fields (shape_of kind) 1)
said_body kind Disabled = field minus_one ++ fields (lacking_fields (shape_of kind) minus_one)

lacking_body : (shape : Shape) (found error : ℕ) → lacking shape found error ≡ field 2 ++ (field found ++ fields (lacking_fields shape error))
lacking_body shape.User found error = refl
lacking_body shape.Group found error = refl
lacking_body shape.Ids found error = refl
lacking_body shape.Host found error = refl
lacking_body shape.Addresses found error = refl
lacking_body shape.Service found error = refl
lacking_body shape.Netgroup found error = refl
lacking_body shape.Member found error = refl

pub spelled_body : (kind : Kind) (reply : Reply) → spelled kind reply ≡ field 2 ++ said_body kind reply
spelled_body kind (Found r) = found_body r
spelled_body kind Absent = lacking_body (shape_of kind) 0 1
spelled_body kind Disabled = lacking_body (shape_of kind) minus_one minus_one

-- what was read after the field version
record TakesSaid (kind : Kind) (bytes : List ℕ) (reply : Reply) (rest : List ℕ) : Type 0 where
  takes : Takes bytes (said_body kind reply) rest
  is : IsReplyOf kind reply

said_row : (kind : Kind) (bytes after : List ℕ) (x : Reply × List ℕ) → IsBytes after → Takes bytes (field 1) after → (row_at (shape_of kind) after >>= λ row. Ok (Found row.0, row.1)) ≡ Ok x → TakesSaid kind bytes x.0 x.1
said_row kind bytes after x fits number e =
    let a = bind_ok (row_at (shape_of kind) after) (λ row. Ok (Found row.0, row.1)) x e in
    let t = row_takes (shape_of kind) after a.0 fits a.1 in
    subst (λ (y : Reply × List ℕ). TakesSaid kind bytes y.0 y.1) (ok_is (Found a.0.0, a.0.1) x a.2)
    (record { takes = Takes-then bytes (field 1) after (row_body a.0.0) a.0.1 number t.takes; is = (t.shape_is, t.is) })

said_absent : (kind : Kind) (bytes after : List ℕ) (x : Reply × List ℕ) → IsBytes after → Takes bytes (field 0) after → (all_fixed (lacking_fields (shape_of kind) 1) after >>= λ rest. Ok (Absent, rest)) ≡ Ok x → TakesSaid kind bytes x.0 x.1
said_absent kind bytes after x fits number e =
    let values : List ℕ = lacking_fields (shape_of kind) 1 in
    let a = bind_ok (all_fixed values after) (λ rest. Ok (Absent, rest)) x e in
    subst (λ (y : Reply × List ℕ). TakesSaid kind bytes y.0 y.1) (ok_is (Absent, a.0) x a.2)
    (record { takes = Takes-then bytes (field 0) after (fields values) a.0 number (all_fixed_takes values after a.0 fits a.1); is = tt })

said_disabled : (kind : Kind) (bytes after : List ℕ) (x : Reply × List ℕ) → IsBytes after → Takes bytes (field minus_one) after → (all_fixed (lacking_fields (shape_of kind) minus_one) after >>= λ rest. Ok (Disabled, rest)) ≡ Ok x
    → TakesSaid kind bytes x.0 x.1
said_disabled kind bytes after x fits number e =
    let values : List ℕ = lacking_fields (shape_of kind) minus_one in
    let a = bind_ok (all_fixed values after) (λ rest. Ok (Disabled, rest)) x e in
    subst (λ (y : Reply × List ℕ). TakesSaid kind bytes y.0 y.1) (ok_is (Disabled, a.0) x a.2)
    (record { takes = Takes-then bytes (field minus_one) after (fields values) a.0 number (all_fixed_takes values after a.0 fits a.1); is = tt })

said_takes : (kind : Kind) (bytes : List ℕ) (x : Reply × List ℕ) → IsBytes bytes → said_at (shape_of kind) bytes ≡ Ok x → TakesSaid kind bytes x.0 x.1
unfolding said_at
said_takes kind bytes x fits e =
    let a = bind_ok (number_at bytes) _ x e in
    let n = number_takes bytes a.0 fits a.1 in
    let valued = λ (value : ℕ) (is : eqb a.0.0 value ≡ true). subst (λ (v : ℕ). Takes bytes (field v) a.0.1) (eqb-true a.0.0 value is) n.0 in
    elim (chosen (eqb a.0.0 1) _ _ _ a.2) [
      | inl one ↦ said_row kind bytes a.0.1 x n.0.rest_fits (valued 1 one.0) one.1
      | inr other ↦ elim (chosen (eqb a.0.0 0) _ _ _ other.1) [
        | inl absent ↦ said_absent kind bytes a.0.1 x n.0.rest_fits (valued 0 absent.0) absent.1
        | inr off ↦
            let g = guard_is (eqb a.0.0 minus_one) (length bytes) _ x off.1 in
            said_disabled kind bytes a.0.1 x n.0.rest_fits (valued minus_one g.0) g.1
      ]
    ]

-- what is read is spelled
pub whole_spells : (kind : Kind) (bytes : List ℕ) (reply : Reply) → IsBytes bytes → whole_reply kind bytes ≡ Ok reply → Spells kind reply bytes
unfolding whole_reply reply_at ended
whole_spells kind bytes reply fits e =
    let a = bind_ok (reply_at kind bytes) _ reply e in
    let b = bind_ok (ended a.0.1) _ reply a.2 in
    let g = guard_not (ltb reply_limit (length bytes)) (length bytes - reply_limit) (Ok a.0.0) reply b.2 in
    let h = guard_is (eqb (length a.0.1) 0) (length a.0.1) (Ok a.0.1) b.0 b.1 in
    let c = bind_ok (fixed_at 2 bytes) (said_at (shape_of kind)) a.0 a.1 in
    let version = fixed_takes 2 bytes c.0 fits c.1 in
    let said = said_takes kind c.0 a.0 version.rest_fits c.2 in
    let both = Takes-then bytes (field 2) c.0 (said_body kind a.0.0) a.0.1 version said.takes in
    let none : a.0.1 ≡ [] = nil_from_length a.0.1 (eqb-true _ _ h.0) in
    let whole : bytes ≡ spelled kind a.0.0 = both.parts ∙ ap (λ (r : List ℕ). (field 2 ++ said_body kind a.0.0) ++ r) none ∙ append-nil (field 2 ++ said_body kind a.0.0) ∙ sym (spelled_body kind a.0.0) in
    subst (λ (r : Reply). Spells kind r bytes) (ok_is a.0.0 reply g.1) (record { of_kind = said.is; spelling = whole; bound = ltb-false reply_limit (length bytes) g.0 })

-- ---- what is spelled is read

row_again : (r : Row) → IsRow r → length (row_body r) ≤ reply_limit → row_at (row_shape r) (row_body r) ≡ Ok (r, [])
unfolding row_at
row_again (row.Passwd p) is few = rw (user_again p is few) refl
row_again (row.Group g) is few = rw (group_again g is few) refl
row_again (row.Host h) is few = rw (host_again h is few) refl
row_again (row.Service s) is few = rw (service_again s is few) refl
row_again (row.Ai a) is few = rw (addresses_again a is few) refl
row_again (row.Groups ids) is few = rw (ids_again ids is few) refl
row_again (row.Netgroup texts) is few = rw (netgroup_again texts is few) refl
row_again (row.Member has) is few = rw (member_again has) refl

lacking_fit : (shape : Shape) (error : ℕ) → error < 2 ^ 32 → AllByRecursion (λ n. n < 2 ^ 32) (lacking_fields shape error)
lacking_fit shape.User error fits = (omega arith, (omega arith, (omega arith, (omega arith, (omega arith, (omega arith, (omega arith, tt)))))))
lacking_fit shape.Group error fits = (omega arith, (omega arith, (omega arith, (omega arith, tt))))
lacking_fit shape.Ids error fits = (omega arith, tt)
lacking_fit shape.Host error fits = (omega arith, (omega arith, (omega arith, (omega arith, (omega arith, (fits, tt))))))
lacking_fit shape.Addresses error fits = (omega arith, (omega arith, (omega arith, (fits, tt))))
lacking_fit shape.Service error fits = (omega arith, (omega arith, (omega arith, (omega arith, tt))))
lacking_fit shape.Netgroup error fits = (omega arith, (omega arith, tt))
lacking_fit shape.Member error fits = (omega arith, tt)

lacking_again : (shape : Shape) (error : ℕ) → error < 2 ^ 32 → all_fixed (lacking_fields shape error) (fields (lacking_fields shape error)) ≡ Ok []
lacking_again shape error fits =
    let values : List ℕ = lacking_fields shape error in
    ap (all_fixed values) (sym (append-nil (fields values))) ∙ all_fixed_again values [] (lacking_fit shape error fits)

said_again : (kind : Kind) (reply : Reply) → IsReplyOf kind reply → length (said_body kind reply) ≤ reply_limit → said_at (shape_of kind) (said_body kind reply) ≡ Ok (reply, [])
unfolding said_at
said_again kind (Found r) is few =
    let body : row_at (shape_of kind) (row_body r) ≡ Ok (r, []) = subst (λ (shape : Shape). row_at shape (row_body r) ≡ Ok (r, [])) is.0 (row_again r is.1 (omega (arith, few))) in
    bind_is (number_at (field 1 ++ row_body r)) _ (1, row_body r) (Ok (Found r, [])) (number_again 1 (row_body r) (omega arith)) (rw body refl)
said_again kind Absent is few =
    let values : List ℕ = fields (lacking_fields (shape_of kind) 1) in
    bind_is (number_at (field 0 ++ values)) _ (0, values) (Ok (Absent, [])) (number_again 0 values (omega arith)) (rw (lacking_again (shape_of kind) 1 (omega arith)) refl)
said_again kind Disabled is few =
    let values : List ℕ = fields (lacking_fields (shape_of kind) minus_one) in
    bind_is (number_at (field minus_one ++ values)) _ (minus_one, values) (Ok (Disabled, [])) (number_again minus_one values (omega arith)) (rw (lacking_again (shape_of kind) minus_one (omega arith)) refl)

pub whole_again : (kind : Kind) (bytes : List ℕ) (reply : Reply) → Spells kind reply bytes → whole_reply kind bytes ≡ Ok reply
unfolding whole_reply reply_at ended
whole_again kind bytes reply is =
    let body : bytes ≡ field 2 ++ said_body kind reply = is.spelling ∙ spelled_body kind reply in
    let size : length bytes ≡ 4 + length (said_body kind reply) =
    let same : length bytes ≡ length (field 2 ++ said_body kind reply) = ap (λ (b : List ℕ). length b) body in
    omega (arith, same) in
    let few : length (said_body kind reply) ≤ reply_limit = omega (arith, size, is.bound) in
    let short : ltb reply_limit (length bytes) ≡ false = le-ltb reply_limit (length bytes) is.bound in
    let read : reply_at kind bytes ≡ Ok (reply, []) = ap (reply_at kind) body
    ∙ bind_is (fixed_at 2 (field 2 ++ said_body kind reply)) (said_at (shape_of kind)) (said_body kind reply) (Ok (reply, [])) (fixed_again 2 (said_body kind reply) (omega arith)) (said_again kind reply is.of_kind few) in
    bind_is (reply_at kind bytes) _ (reply, []) (Ok reply) read (rw short refl)
