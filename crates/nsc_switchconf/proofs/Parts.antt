-- What a line has after its name and its colon: the remark may be cut off at the end as well as first.
use Rattle.std.proofs.Common.{◌≡◌, ◌≢◌, ℕ, ◌+◌, Bool, true, false, not, ◌||◌, if◌then◌else◌, ◌==◌, List, [], ◌∷◌, ◌++◌, length, take, drop, Option, Some, None, MatchOption, Bor, refl, sym, ◌∙◌, ap, arith}
use Rattle.std.specs.Cmp.Lexicographic.{pointwise}
use Rattle.std.specs.List.{list_any}
use Rattle.std.specs.Option.{option_copied, option_map}
use Rattle.std.proofs.lemmas.Bool.{eqb-true}
use Rattle.std.proofs.lemmas.Bool.Decides.{Decides-eqb, nat_tests}
use Rattle.std.proofs.lemmas.List.Sums.{take_while-cons}
use Rattle.std.proofs.lemmas.Slice.Eq.{strip_prefix_is}
use Rattle.nsc_base.specs.Text.{before_remark, is_white, trimmed}
use Rattle.nsc_model.specs.Users.{◌>>=◌}
use Rattle.nsc_model.specs.declared.switch.DbName.{DbName}
use Rattle.nsc_model.specs.declared.switch.DbName.TheVariants as list
use Rattle.nsc_model.specs.Switches.{after_colon, after_text, name_text, own_part}

-- ---- remarks

-- a remark begins at once, or after a byte
begins : (b : ℕ) (bytes : List ℕ) → (b == 35) ≡ true → before_remark (b ∷ bytes) ≡ []
begins b bytes is = take_while-cons (λ x. not (x == 35)) b bytes ∙ rw is refl

goes_on : (b : ℕ) (bytes : List ℕ) → (b == 35) ≡ false → before_remark (b ∷ bytes) ≡ b ∷ before_remark bytes
goes_on b bytes is = take_while-cons (λ x. not (x == 35)) b bytes ∙ rw is refl

white_goes_on : (b : ℕ) → is_white b ≡ true → (b == 35) ≡ false
white_goes_on b white = grind (arith, nat_tests)

black-front : (b : ℕ) (bytes : List ℕ) → is_white b ≡ false → trimmed (b ∷ bytes) ≡ b ∷ bytes
black-front b bytes black = rw black refl

white-front : (b : ℕ) (bytes : List ℕ) → is_white b ≡ true → trimmed (b ∷ bytes) ≡ trimmed bytes
white-front b bytes white = rw white refl

pub trimmed-remark : (bytes : List ℕ) → trimmed (before_remark bytes) ≡ before_remark (trimmed bytes)
trimmed-remark [] = refl
trimmed-remark (b ∷ bytes) =
    elim (is_white b) as (λ w. is_white b ≡ w → trimmed (before_remark (b ∷ bytes)) ≡ before_remark (trimmed (b ∷ bytes))) [
      | true ↦ λ white. ap trimmed (goes_on b bytes (white_goes_on b white)) ∙ white-front b (before_remark bytes) white ∙ trimmed-remark bytes ∙ ap before_remark (sym (white-front b bytes white))
      | false ↦ λ black.
          elim (b == 35) as (λ r. (b == 35) ≡ r → trimmed (before_remark (b ∷ bytes)) ≡ before_remark (trimmed (b ∷ bytes))) [
            | true ↦ λ is. ap trimmed (begins b bytes is) ∙ sym (begins b bytes is) ∙ ap before_remark (sym (black-front b bytes black))
            | false ↦ λ is. ap trimmed (goes_on b bytes is) ∙ black-front b (before_remark bytes) black ∙ sym (goes_on b bytes is) ∙ ap before_remark (sym (black-front b bytes black))
          ] refl
    ] refl

-- ---- names

or_false : (a b : Bool) → (a || b) ≡ false → (a ≡ false) × (b ≡ false)
or_false true b h = cc
or_false false b h = (refl, h)

abbrev HasNone : List ℕ → Type 0
HasNone text = list_any (λ b. b == 35) text ≡ false

pub after_text-remark : (text bytes : List ℕ) → HasNone text → after_text text (before_remark bytes) ≡ option_map before_remark (after_text text bytes)
after_text-remark [] bytes none = refl
after_text-remark (x ∷ text) [] none = refl
after_text-remark (x ∷ text) (b ∷ bytes) none =
    let parts = or_false (x == 35) (list_any (λ c. c == 35) text) none in
    elim (x == b) as (λ s. (x == b) ≡ s → after_text (x ∷ text) (before_remark (b ∷ bytes)) ≡ option_map before_remark (if s then after_text text bytes else None)) [
      | true ↦ λ same.
          let is : x ≡ b = eqb-true x b same in
          let more : (b == 35) ≡ false = rw (← is) (parts.0) in
          ap (after_text (x ∷ text)) (goes_on b bytes more) ∙ rw same (after_text-remark text bytes parts.1)
      | false ↦ λ other.
          elim (b == 35) as (λ r. (b == 35) ≡ r → after_text (x ∷ text) (before_remark (b ∷ bytes)) ≡ None) [
            | true ↦ λ is. ap (after_text (x ∷ text)) (begins b bytes is)
            | false ↦ λ is. ap (after_text (x ∷ text)) (goes_on b bytes is) ∙ rw other refl
          ] refl
    ] refl

pub after_colon-remark : (bytes : List ℕ) → after_colon (before_remark bytes) ≡ option_map before_remark (after_colon bytes)
after_colon-remark [] = refl
after_colon-remark (b ∷ bytes) =
    elim (b == 58) as (λ s. (b == 58) ≡ s → after_colon (before_remark (b ∷ bytes)) ≡ option_map before_remark (if s then Some bytes else None)) [
      | true ↦ λ same.
          let more : (b == 35) ≡ false = grind (arith, nat_tests) in
          ap after_colon (goes_on b bytes more) ∙ rw same refl
      | false ↦ λ other.
          elim (b == 35) as (λ r. (b == 35) ≡ r → after_colon (before_remark (b ∷ bytes)) ≡ None) [
            | true ↦ λ is. ap after_colon (begins b bytes is)
            | false ↦ λ is. ap after_colon (goes_on b bytes is) ∙ rw other refl
          ] refl
    ] refl

name_has_none : (name : DbName) → HasNone (name_text name)
name_has_none list.Passwd = refl
name_has_none _ = refl

after_name : (o : Option (List ℕ)) → (option_map before_remark o >>= λ rest. after_colon (trimmed rest)) ≡ option_map before_remark (o >>= λ rest. after_colon (trimmed rest))
after_name None = refl
after_name (Some rest) = ap after_colon (trimmed-remark rest) ∙ after_colon-remark (trimmed rest)

-- the remark is cut off at the end
pub own_part-remark : (name : DbName) (line : List ℕ) → own_part name line ≡ option_map before_remark (after_text (name_text name) (trimmed line) >>= λ rest. after_colon (trimmed rest))
own_part-remark name line =
    ap (λ bytes. after_text (name_text name) bytes >>= λ rest. after_colon (trimmed rest)) (trimmed-remark line)
    ∙ ap (λ o. o >>= λ rest. after_colon (trimmed rest)) (after_text-remark (name_text name) (trimmed line) (name_has_none name))
    ∙ after_name (after_text (name_text name) (trimmed line))

-- ---- what `strip_prefix` gives

after-front : (text rest : List ℕ) → after_text text (text ++ rest) ≡ Some rest
after-front [] rest = refl
after-front (x ∷ text) rest =
    let same : (x == x) ≡ true = (Decides-eqb x x).1 refl in
    rw same (after-front text rest)

after-lacks : (text bytes : List ℕ) → ((rest : List ℕ) → bytes ≢ text ++ rest) → after_text text bytes ≡ None
after-lacks [] bytes lacks = absurd (lacks bytes refl)
after-lacks (x ∷ text) [] lacks = refl
after-lacks (x ∷ text) (b ∷ bytes) lacks =
    elim (x == b) as (λ s. (x == b) ≡ s → (if s then after_text text bytes else None) ≡ None) [
      | true ↦ λ same. after-lacks text bytes (λ rest is. lacks rest (ap (λ c. c ∷ bytes) (sym (eqb-true x b same)) ∙ ap (λ (ys : List ℕ). x ∷ ys) is))
      | false ↦ λ other. refl
    ] refl

abbrev pub Strips : List ℕ → List ℕ → Option (Bor (List ℕ)) → Type 0
Strips bytes text r = MatchOption r (pointwise (λ a b. a == b) (take (length text) bytes) text ≡ false) (λ x. (pointwise (λ a b. a == b) (take (length text) bytes) text ≡ true) × (x.now ≡ drop (length text) bytes) × (length x.now + length text ≡ length bytes))

pub stripped : (bytes text : List ℕ) (r : Option (Bor (List ℕ))) → Strips bytes text r → after_text text bytes ≡ option_copied r
stripped bytes text None h = after-lacks text bytes (strip_prefix_is Decides-eqb bytes text None h)
stripped bytes text (Some x) h = ap (after_text text) (strip_prefix_is Decides-eqb bytes text (Some x) h) ∙ after-front text x.now

colon : (bytes : List ℕ) → after_text (58 ∷ []) bytes ≡ after_colon bytes
colon [] = refl
colon (b ∷ bytes) =
    elim (b == 58) as (λ s. (b == 58) ≡ s → (if 58 == b then Some bytes else None) ≡ (if s then Some bytes else None)) [
      | true ↦ λ same.
          let is : (58 == b) ≡ true = (Decides-eqb 58 b).1 (sym (eqb-true b 58 same)) in
          rw is refl
      | false ↦ λ other.
          let is : (58 == b) ≡ false = grind (arith, nat_tests) in
          rw is refl
    ] refl

-- ---- the part of a line, as it is read

named : (name : DbName) (line bytes text : List ℕ) (r : Option (Bor (List ℕ))) → bytes ≡ trimmed line → text ≡ name_text name → Strips bytes text r → after_text (name_text name) (trimmed line) ≡ option_copied r
named name line bytes text r is word strips = sym (ap (after_text (name_text name)) is) ∙ sym (ap (λ t. after_text t bytes) word) ∙ stripped bytes text r strips

pub unnamed : (name : DbName) (line bytes text : List ℕ) → bytes ≡ trimmed line → text ≡ name_text name → Strips bytes text None → own_part name line ≡ None
unnamed name line bytes text is word strips =
    own_part-remark name line ∙ ap (λ o. option_map before_remark (o >>= λ rest. after_colon (trimmed rest))) (named name line bytes text None is word strips)

pub part_is : (name : DbName) (line bytes text : List ℕ) (left : Bor (List ℕ)) (more : List ℕ) (r : Option (Bor (List ℕ))) → bytes ≡ trimmed line → text ≡ name_text name → Strips bytes text (Some left) → more ≡ trimmed left.now → Strips more (58 ∷ []) r → own_part name line ≡ option_map before_remark (option_copied r)
part_is name line bytes text left more r is word strips goes ends =
    own_part-remark name line
    ∙ ap (λ o. option_map before_remark (o >>= λ rest. after_colon (trimmed rest))) (named name line bytes text (Some left) is word strips)
    ∙ ap (option_map before_remark) (ap after_colon (sym goes) ∙ sym (colon more) ∙ stripped more (58 ∷ []) r ends)
