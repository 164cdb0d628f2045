-- The entry of a line, from its first two words and those after them.
use Rattle.std.proofs.Common.{◌≡◌, ℕ, true, false, if◌then◌else◌, List, [], ◌∷◌, Some, None, refl, sym, ap}
use Rattle.nsc_base.specs.Text.{before_remark, words_of}
use Rattle.nsc_model.specs.Hosts.{host_of_line, host_of_words}
use Rattle.nsc_model.specs.Users.{has_zero}
use Rattle.nsc_nets.specs.Hosts.{host_of_formed, host_of_two}
use Rattle.nsc_base.specs.Words.{TwoWords, two_of}

-- fewer words than two make no entry
few_words : (words : List (List ℕ)) → None ≡ two_of words → host_of_words words ≡ None
few_words [] h = refl
few_words (first ∷ []) h = refl
few_words (first ∷ second ∷ others) h = cc

two_words : (words : List (List ℕ)) (two : TwoWords) → Some two ≡ two_of words → host_of_two two ≡ host_of_words words
two_words [] two h = cc
two_words (first ∷ []) two h = cc
two_words (first ∷ second ∷ others) two h =
    let same : two ≡ record { first = first; second = second; others = others } = cc in
    ap host_of_two same

pub no_host : (line : List ℕ) → None ≡ two_of (words_of (before_remark line)) → None ≡ host_of_line line
no_host line few =
    elim (has_zero line) as (λ v. None ≡ (if v then None else host_of_words (words_of (before_remark line)))) [
      | true ↦ refl
      | false ↦ sym (few_words (words_of (before_remark line)) few)
    ]

pub host_is : (line : List ℕ) (two : TwoWords) → Some two ≡ two_of (words_of (before_remark line)) → host_of_formed line two ≡ host_of_line line
host_is line two is =
    elim (has_zero line) as (λ v. (if v then None else host_of_two two) ≡ (if v then None else host_of_words (words_of (before_remark line)))) [
      | true ↦ refl
      | false ↦ two_words (words_of (before_remark line)) two is
    ]
