-- The workload of a number: a file of users, requests over it, and the lines that tell of their answers.
use Rattle.std.specs.Prelude.{ℕ, zero, suc, ◌+◌, ◌*◌, ◌%◌, ◌==◌, if◌then◌else◌, not, List, [], ◌∷◌, ◌++◌, count_by, flat_map, codes, decimal, Some}
use Rattle.hex.specs.Hex.{encode_lower}
use Rattle.sha2.specs.Sha256.{sha256}
use Rattle.nsc_model.specs.declared.answer.Request.{Request}
use Rattle.nsc_model.specs.declared.kind.Kind.TheVariants as kind
use Rattle.nsc_model.specs.Answer.{Answer}
use Rattle.nsc_model.specs.Answers.{answer_of}
use Rattle.nsc_model.specs.Content.{Content}
use Rattle.nsc_model.specs.Files.{no_files}

-- the user of a number, and the user's line, passwd(5)
unfoldable pub user_name : ℕ → List ℕ
user_name i = codes "u" ++ decimal i

abbrev pub user_line : ℕ → List ℕ
user_line i = user_name i ++ codes ":x:" ++ decimal (1000 + i) ++ codes ":100::/home/" ++ user_name i ++ codes ":/bin/sh\n"

-- the lines of as many users
abbrev pub users : ℕ → List ℕ
users zero = []
users (suc count) = users count ++ user_line count

-- eight users for each of the number; every other file is absent
abbrev pub files_of : ℕ → Content
files_of n = record no_files { passwd = Some (users (8 * n)) }

-- whom a request asks for: half of those who are asked for have no line
abbrev pub asked_at : ℕ → ℕ → ℕ
asked_at n i = 7 * i % (16 * n)

-- each fourth request is by id, and the others are by name
abbrev pub request_at : ℕ → ℕ → Request
request_at n i =
    if i % 4 == 3 then record { kind = kind.PwUid; key = decimal (1000 + asked_at n i) } else record { kind = kind.PwName; key = user_name (asked_at n i) }

abbrev pub answer_at : ℕ → ℕ → Answer
answer_at n i = answer_of (files_of n) (request_at n i)

-- the answers to as many requests in order, from one on
abbrev pub answers_from : ℕ → ℕ → ℕ → List Answer
answers_from n from zero = []
answers_from n from (suc count) = answers_from n from count ++ answer_at n (from + count) ∷ []

-- there are 64 requests for each of the number
abbrev pub request_count : ℕ → ℕ
request_count n = 64 * n

-- how many requests were found, how many were not, and the digest of all replies
abbrev pub lines_of : ℕ → ℕ → List ℕ → List ℕ
lines_of found not_found replies =
    codes "found " ++ decimal found ++ codes "\nnot found " ++ decimal not_found ++ codes "\nsha256 " ++ encode_lower (sha256 replies) ++ codes "\n"

abbrev pub workload_of : ℕ → List ℕ
workload_of n =
    let answers = answers_from n 0 (request_count n) in
    lines_of (count_by (λ a. not a.not_found) answers) (count_by (λ a. a.not_found) answers) (flat_map (λ a. a.bytes) answers)
