-- A line that lacks the text of an IPv4 address has no entry of this address.
use Rattle.std.proofs.Common.{◌≡◌, ℕ, ◌+◌, ◌-◌, true, false, List, [], ◌∷◌, ◌++◌, length, take, drop, get_or, decimal, append_assoc, length-drop, Option, Some, None, IfSome, refl, sym, ◌∙◌, ap, arith}
use Rattle.std.specs.Net.Text.{dotted_text}
use Rattle.std.specs.Str.{bytes_eq}
use Rattle.std.proofs.lemmas.Bool.{false_from_ne_true}
use Rattle.std.proofs.lemmas.List.{append-nil, drop-drop, take_all}
use Rattle.std.proofs.lemmas.Slice.Eq.{bytes_eq-Decides}
use Rattle.nsc_base.specs.declared.search.Case.TheVariants.{Counts}
use Rattle.nsc_base.specs.Addresses.{v4_of, v4_text, v6_of}
use Rattle.nsc_base.specs.Found.{Lacks}
use Rattle.nsc_base.specs.Text.{before_remark, words_of}
use Rattle.nsc_base.proofs.AddressLengths.{v6-length}
use Rattle.nsc_addr.proofs.Dotted.{dotted_of_v4}
use Rattle.nsc_model.specs.Entries.{if_named}
use Rattle.nsc_model.specs.Hosts.{host_addressed, host_of_line}
use Rattle.nsc_nets.proofs.Called.{unaddressed, wordless}
use Rattle.nsc_nets.proofs.Lacking.{AllLack, is_other, words_lack}
use Rattle.nsc_nets.proofs.Lengths.{is_spelled, other_bytes, spelled_in}

pub dotted_is : (a b c d : ℕ) → dotted_text a b c d ≡ v4_text (a ∷ b ∷ c ∷ d ∷ [])
dotted_is a b c d = simp append_assoc

-- an IPv4 address has one text
only_text : (text address : List ℕ) → v4_of text ≡ Some address → text ≡ v4_text address
only_text text address is =
    let dotted = dotted_of_v4 text address is in
    dotted.spelled ∙ dotted_is dotted.a dotted.b dotted.c dotted.d ∙ ap v4_text (sym dotted.value)

by_forms : (text address : List ℕ) (v4 v6 : Option (List ℕ)) → length address ≡ 4 → Lacks Counts (v4_text address) text → v4_of text ≡ v4 → IfSome v6 (λ found. length found ≡ 16) → is_spelled address (spelled_in v4 v6) ≡ false
by_forms text address None None four lack is sixteen = refl
by_forms text address None (Some found) four lack is sixteen = other_bytes found address 16 sixteen (λ same. omega (arith, four))
by_forms text address (Some found) v6 four lack is sixteen =
    false_from_ne_true (bytes_eq found address) (λ same.
    let equal : text ≡ v4_text address = only_text text found is ∙ ap v4_text ((bytes_eq-Decides found address).0 same) in
    let never : true ≡ false = sym ((bytes_eq-Decides text (v4_text address)).1 equal) ∙ is_other Counts (v4_text address) text lack in
    cc)

pub no_host_addressed : (address line : List ℕ) → length address ≡ 4 → Lacks Counts (v4_text address) line → if_named (host_addressed address) (host_of_line line) ≡ None
no_host_addressed address line four lack = by_words (words_of (before_remark line)) refl (words_lack Counts (v4_text address) line lack)
  where
    by_words : (words : List (List ℕ)) → words_of (before_remark line) ≡ words → AllLack Counts (v4_text address) words → if_named (host_addressed address) (host_of_line line) ≡ None
    by_words [] is all = wordless (host_addressed address) line is
    by_words (first ∷ others) is all = unaddressed address line first others is (by_forms first address (v4_of first) (v6_of first) four all.0 refl (v6-length first))

-- what was written number by number, each after a dot
pub text_after_dot : (address bytes : List ℕ) (at : ℕ) (past : List ℕ) → length address ≡ 4 → past ≡ [] → length bytes ≡ 16 → drop at bytes ≡ 46 ∷ (decimal (get_or address 0 0) ++ (46 ∷ (decimal (get_or address 1 0) ++ (46 ∷ (decimal (get_or address 2 0) ++ (46 ∷ (decimal (get_or address 3 0) ++ past))))))) → take (16 - (at + 1)) (drop (at + 1) bytes) ≡ v4_text address
text_after_dot (a ∷ b ∷ c ∷ d ∷ []) bytes at past four none size written =
    let whole : take (16 - (at + 1)) (drop (at + 1) bytes) ≡ drop (at + 1) bytes = take_all (16 - (at + 1)) (drop (at + 1) bytes) (omega (arith, size, length-drop (at + 1) bytes)) in
    let later : drop (at + 1) bytes ≡ drop 1 (drop at bytes) = sym (drop-drop 1 at bytes) in
    whole ∙ later ∙ ap (drop 1) written ∙ ap (λ (end : List ℕ). decimal a ++ (46 ∷ (decimal b ++ (46 ∷ (decimal c ++ (46 ∷ (decimal d ++ end))))))) none ∙ ap (λ (end : List ℕ). decimal a ++ (46 ∷ (decimal b ++ (46 ∷ (decimal c ++ (46 ∷ end)))))) (append-nil (decimal d))
text_after_dot [] bytes at past four none size written = absurd (omega arith)
text_after_dot (a ∷ []) bytes at past four none size written = absurd (omega arith)
text_after_dot (a ∷ b ∷ []) bytes at past four none size written = absurd (omega arith)
text_after_dot (a ∷ b ∷ c ∷ []) bytes at past four none size written = absurd (omega arith)
text_after_dot (a ∷ b ∷ c ∷ d ∷ e ∷ rest) bytes at past four none size written = absurd (omega arith)
