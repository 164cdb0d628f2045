use Rattle.std.proofs.Common.{◌≡◌, ◌*◌, ℕ, List, sym, ap, subst, arith}
use Rattle.std.proofs.lemmas.List.{take_rest, drop_all}
use Rattle.byteorder.specs.Endian.{little_number}
use Rattle.nsc_words.specs.Words.{word_of}
use Rattle.nsc_words.proofs.bytes.word_of.Goals as goal

pub returns-then-index-whole : goal.returns-then-index-whole
unfolding word_of
returns-then-index-whole c = c.u64_at.ensures

pub returns-then-index-whole-2 : goal.returns-then-index-whole-2
unfolding word_of
returns-then-index-whole-2 c = subst (λ (xs : List ℕ). c.last_word.result ≡ little_number 8 xs) (take_rest c.args.bytes.now (8 * c.args.index)) c.last_word.ensures

pub returns-else-index-whole-2 : goal.returns-else-index-whole-2
unfolding word_of
returns-else-index-whole-2 c = sym (ap (little_number 8) (drop_all (8 * c.args.index) c.args.bytes.now (omega arith)))
