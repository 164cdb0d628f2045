-- What readers were answered, and how much of it differs from the replies.
use Rattle.std.proofs.Common.{◌≡◌, ℕ, ◌<◌, ◌≤◌, List, [], ◌∷◌, Option, Some, length, map, not, zip, refl, sym, ap, subst, ◌∙◌, arith}
use Rattle.std.specs.List.{All, slice_index_or}
use Rattle.std.specs.Str.{bytes_eq}
use Rattle.std.proofs.lemmas.List.Elements.{All-cons, All-nil}
use Rattle.std.proofs.lemmas.List.Sums.{count_by-le-length}
use Rattle.nsc_model.specs.declared.exit.Exit.{Exit}
use Rattle.nsc_model.specs.declared.exit.Exit.TheVariants as exits
use Rattle.nsc_outside.specs.StreamAt.{StreamAt}
use Rattle.nsc_workload.specs.Runs.{AreRead, CountsDiffering, PutsText, TellsDiffering, asked_count, differing_of, reader_count}

-- by the exit of a workload that was not in want of memory
pub told_by : (by : Exit) (text : List ℕ) (before after : StreamAt) (replies : List (List ℕ)) (count : ℕ) → PutsText by text before after → (by ≡ exits.NoMemory → ⊥)
    → CountsDiffering replies count → TellsDiffering by replies count
told_by exits.Ok text before after replies count puts other counts = counts
told_by exits.WriteFault text before after replies count puts other counts = counts
told_by exits.NoMemory text before after replies count puts other counts = absurd (other refl)
told_by _ text before after replies count puts other counts = absurd puts

-- of the same replies and the same count
pub counted_as : (replies replies' : List (List ℕ)) (count count' : ℕ) → replies ≡ replies' → count' ≡ count → CountsDiffering replies count → CountsDiffering replies' count'
counted_as replies replies' count count' same is counts = subst (λ (n : ℕ). CountsDiffering replies' n) (sym is) (subst (λ (rs : List (List ℕ)). CountsDiffering rs count) same counts)

-- ---- the answers

-- where two readers were answered, each has its answers
each_of : (all : List (List (List ℕ))) → length (map Some all) ≡ reader_count → AreRead (map Some all) → All (λ a. length a ≡ asked_count) all
each_of [] two read = absurd (omega (arith, two))
each_of (a ∷ []) two read = absurd (omega (arith, two))
each_of (a ∷ b ∷ []) two read =
    All-cons (λ x. length x ≡ asked_count) a (b ∷ []) (read 0 (Some a) (omega arith)) (All-cons (λ x. length x ≡ asked_count) b [] (read 1 (Some a) (omega arith)) (All-nil (λ x. length x ≡ asked_count)))
each_of (a ∷ b ∷ d ∷ others) two read = absurd (omega (arith, two))

pub each_read : (all : List (List (List ℕ))) (given : List (Option (List (List ℕ)))) → map Some all ≡ given → length given ≡ reader_count → AreRead given → All (λ a. length a ≡ asked_count) all
each_read all given same two read =
    each_of all (subst (λ (g : List (Option (List (List ℕ)))). length g ≡ reader_count) (sym same) two) (subst AreRead (sym same) read)

-- no more answers differ than there are
length-zip : (replies answers : List (List ℕ)) → length (zip replies answers) ≤ length answers
length-zip [] answers = omega arith
length-zip (reply ∷ replies) [] = omega arith
length-zip (reply ∷ replies) (answer ∷ answers) = let low = length-zip replies answers in omega arith

pub differing_low : (replies : List (List ℕ)) (answers : List (List (List ℕ))) (reader : ℕ) (own : List (List ℕ)) → All (λ a. length a ≡ asked_count) answers → reader < length answers → own ≡ slice_index_or answers reader own
    → differing_of replies own ≤ asked_count
differing_low replies answers reader own asked within is =
    let low = count_by-le-length (λ p. not (bytes_eq p.0 p.1)) (zip replies own) in
    let zipped = length-zip replies own in
    let each : length own ≡ asked_count = ap (λ (a : List (List ℕ)). length a) is ∙ asked reader own within in
    omega arith
