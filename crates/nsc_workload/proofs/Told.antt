-- The counts and the digest over the replies are those over the answers.
use Rattle.std.proofs.Common.{◌≡◌, ℕ, zero, suc, ◌+◌, Bool, true, false, cond, not, List, [], ◌∷◌, ◌++◌, count_by, flat_map, map, refl, sym, ap, ◌∙◌}
use Rattle.std.proofs.lemmas.List.Sums.{sum_by-append}
use Rattle.nsc_model.specs.declared.answer.Request.{Request}
use Rattle.nsc_model.specs.declared.kind.Db.{Db}
use Rattle.nsc_model.specs.declared.kind.Db.TheVariants as db
use Rattle.nsc_model.specs.Answer.{Answer}
use Rattle.nsc_model.specs.Answers.{answer_of}
use Rattle.nsc_model.specs.Files.{part_of}
use Rattle.nsc_workload.specs.Runs.{has_row, replies_from}
use Rattle.nsc_workload.specs.Workload.{answer_at, answers_from, files_of, lines_of, request_at, request_count, workload_of}
use Rattle.nsc_workload.proofs.Joined.{map-bytes}
use Rattle.nsc_workload.proofs.Marks.{answer_tells}

not-not : (b : Bool) → not (not b) ≡ b
not-not true = refl
not-not false = refl

counted : (p : List ℕ → Bool) (q : Answer → Bool) (n from : ℕ) → ((i : ℕ) → p (answer_at n i).bytes ≡ q (answer_at n i)) → (count : ℕ) → count_by p (replies_from n from count) ≡ count_by q (answers_from n from count)
counted p q n from same zero = refl
counted p q n from same (suc count) =
    let a = answer_at n (from + count) in
    let before = answers_from n from count in
    let earlier = counted p q n from same count in
    ap (λ replies. count_by p replies) (map-bytes before (a ∷ []))
    ∙ sum_by-append (λ r. cond (p r) 1 0) (map (λ b. b.bytes) before) (a.bytes ∷ [])
    ∙ ap (λ k. k + (0 + cond (p a.bytes) 1 0)) earlier
    ∙ ap (λ b. count_by q before + (0 + cond b 1 0)) (same (from + count))
    ∙ sym (sum_by-append (λ b. cond (q b) 1 0) before (a ∷ []))

joined : (answers : List Answer) → flat_map (λ r. r) (map (λ a. a.bytes) answers) ≡ flat_map (λ a. a.bytes) answers
joined [] = refl
joined (a ∷ answers) = ap (λ rest. a.bytes ++ rest) (joined answers)

pub told : (n : ℕ) (replies : List (List ℕ)) → replies ≡ replies_from n 0 (request_count n) → lines_of (count_by has_row replies) (count_by (λ r. not (has_row r)) replies) (flat_map (λ r. r) replies) ≡ workload_of n
told n replies is =
    let answers = answers_from n 0 (request_count n) in
    let all = replies_from n 0 (request_count n) in
    let found = counted (λ r. has_row r) (λ a. not a.not_found) n 0 (answer_tells n) (request_count n) in
    let missing = counted (λ r. not (has_row r)) (λ a. a.not_found) n 0 (λ i. ap not (answer_tells n i) ∙ not-not (answer_at n i).not_found) (request_count n) in
    ap (λ rs. lines_of (count_by has_row rs) (count_by (λ r. not (has_row r)) rs) (flat_map (λ r. r) rs)) is
    ∙ ap (λ k. lines_of k (count_by (λ r. not (has_row r)) all) (flat_map (λ r. r) all)) found
    ∙ ap (λ k. lines_of (count_by (λ a. not a.not_found) answers) k (flat_map (λ r. r) all)) missing
    ∙ ap (λ bytes. lines_of (count_by (λ a. not a.not_found) answers) (count_by (λ a. a.not_found) answers) bytes) (joined answers)

-- a reply over the database's part of the files, which have no other, is the answer over them
pub held_reply : (n i : ℕ) (which : Db) (request : Request) (reply : List ℕ) → which ≡ db.Passwd → request ≡ request_at n i → reply ≡ (answer_of (part_of which (files_of n)) request).bytes → reply ≡ (answer_at n i).bytes
held_reply n i which request reply users is told =
    told ∙ ap (λ w. (answer_of (part_of w (files_of n)) request).bytes) users ∙ ap (λ r. (answer_of (files_of n) r).bytes) is
