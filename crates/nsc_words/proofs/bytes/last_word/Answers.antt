use Rattle.std.proofs.Common.{◌≡◌, ◌++◌, drop, replicate, length, ap, ◌∙◌, List, ℕ}
use Rattle.byteorder.specs.Endian.{little_number}
use Rattle.nsc_words.specs.Words.{word_of}
use Rattle.nsc_words.proofs.Lows.{little_from-same, padded}
use Rattle.nsc_words.proofs.bytes.last_word.Goals as goal

pub returns : goal.returns
unfolding word_of
returns c =
    let bytes = c.args.bytes.now in
    let word : c.u64_at.result ≡ little_number 8 (c.copy_from_slice.new.self ++ drop (length bytes) (replicate 8 0)) = c.u64_at.ensures in
    let same = little_from-same 0 8 (bytes ++ drop (length bytes) (replicate 8 0)) bytes (padded bytes 8 (length bytes)) in
    word ∙ ap (λ (xs : List ℕ). little_number 8 (xs ++ drop (length bytes) (replicate 8 0))) c.copy_from_slice.ensures.after ∙ same
