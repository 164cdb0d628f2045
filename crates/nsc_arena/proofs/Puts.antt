-- A node that was written.
use Rattle.std.proofs.Common.{◌≡◌, ℕ, ◌+◌, ◌<◌, true, List, [], ◌∷◌, length, slice_index, ◌∙◌, arith}
use Rattle.nsc_base.specs.Nodes.{words_for}
use Rattle.nsc_words.specs.declared.node.Node.{Node}
use Rattle.nsc_words.specs.Laid.{Holds}
use Rattle.nsc_words.specs.Packing.{shape_word, size_word}
use Rattle.nsc_words.specs.Words.{word_of}
use Rattle.nsc_arena.specs.Written.{IsWritten}

-- its first words
abbrev pub head_list : Node → List ℕ
head_list n = n.number ∷ shape_word n.kind (length n.key) ∷ size_word (length n.reply) n.not_found ∷ n.version ∷ n.timeout ∷ n.reloads ∷ 1 ∷ []

-- its first words, then its key, and then its reply were written
pub holds_written : (w0 w1 w2 w3 : List ℕ) (at : ℕ) (n : Node) → IsWritten w0 w1 at 7 (slice_index (head_list n)) → IsWritten w1 w2 (at + 8) (words_for (length n.key)) (word_of n.key) → IsWritten w2 w3 (at + 8 + words_for (length n.key)) (words_for (length n.reply)) (word_of n.reply) → Holds w3 at n true
holds_written w0 w1 w2 w3 at n head key reply =
    let first : (i : ℕ) → i < 7 → slice_index w3 (at + i) ≡ slice_index (head_list n) i = λ i h. reply.below (at + i) (omega arith) ∙ key.below (at + i) (omega arith) ∙ head.inside i h in
    record {
      number = first 0 (omega arith);
      shape = first 1 (omega arith);
      size = first 2 (omega arith);
      version = first 3 (omega arith);
      timeout = first 4 (omega arith);
      reloads = first 5 (omega arith);
      state = first 6 (omega arith);
      key = λ i h. reply.below (at + 8 + i) (omega arith) ∙ key.inside i h;
      reply = reply.inside;
    }
