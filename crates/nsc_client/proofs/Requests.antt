-- A request that is sent is read as what it asks.
use Rattle.std.proofs.Common.{◌≡◌, ◌∙◌, ℕ, ◌+◌, ◌≤◌, ◌==◌, ◌++◌, nat_lt, if◌then◌else◌, ℤ, true, false, List, length, take, Some, refl, ap, arith}
use Rattle.std.proofs.lemmas.Bool.{le-ltb}
use Rattle.std.proofs.lemmas.List.{take_all}
use Rattle.byteorder.specs.Numbers.{little_number-reads_back}
use Rattle.nsc_model.specs.declared.kind.Kind.{Kind}
use Rattle.nsc_model.specs.Entry.{key_limit}
use Rattle.nsc_model.specs.Kinds.{kind_numbered, type_number}
use Rattle.nsc_model.proofs.KindNumbers.{kind_again, type_low}
use Rattle.nsc_model.specs.Wire.{Asked, Short, BadVersion, BadType, BadLength, asked_look, field, field_in, request_of, signed_field_in}
use Rattle.nsc_client.specs.SocketLink.{request_for}

-- what is read of fields and of what stands after them
abbrev read_of : (count version type size : ℕ) (v t s : ℤ) (rest : List ℕ) → Asked
read_of count version type size v t s rest =
    if nat_lt count 12 then Short count else (
    if version == 2 then (
    if nat_lt 21 type then BadType t else (
    if nat_lt key_limit size then BadLength s else (
    if nat_lt count (12 + size) then Short count else
    asked_look (kind_numbered type) type (take size rest))))
    else BadVersion v)

read_as : (count version type size : ℕ) (v t s : ℤ) (rest key : List ℕ) (by : Kind) → count ≡ 12 + length key → version ≡ 2 → type ≡ type_number by → size ≡ length key → rest ≡ key
    → length key ≤ key_limit → read_of count version type size v t s rest ≡ asked_look (Some by) (type_number by) key
read_as count version type size v t s rest key by count_is version_is type_is size_is rest_is fits =
    let few : nat_lt count 12 ≡ false = le-ltb count 12 (omega arith) in
    let known : (version == 2) ≡ true = ap (λ (n : ℕ). n == 2) version_is in
    let low : nat_lt 21 type ≡ false = le-ltb 21 type (omega (arith, type_low by)) in
    let short : nat_lt key_limit size ≡ false = le-ltb key_limit size (omega arith) in
    let whole : nat_lt count (12 + size) ≡ false = le-ltb count (12 + size) (omega arith) in
    let look : kind_numbered type ≡ Some by = ap kind_numbered type_is ∙ kind_again by in
    let all : take size rest ≡ key = ap (λ (l : List ℕ). take size l) rest_is ∙ take_all size key (omega arith) in
    rw (few, known, low, short, whole, look, all) refl

pub asks : (by : Kind) (key : List ℕ) → length key ≤ key_limit → request_of (request_for by key) ≡ asked_look (Some by) (type_number by) key
asks by key fits =
    let bytes = request_for by key in
    let type : field_in bytes 4 ≡ type_number by = little_number-reads_back 4 (type_number by) (field (length key) ++ key) (let low = type_low by in omega arith) in
    let size : field_in bytes 8 ≡ length key = little_number-reads_back 4 (length key) key (omega arith) in
    read_as (length bytes) (field_in bytes 0) (field_in bytes 4) (field_in bytes 8) (signed_field_in bytes 0) (signed_field_in bytes 4) (signed_field_in bytes 8) key key by (omega arith) refl type size refl fits
