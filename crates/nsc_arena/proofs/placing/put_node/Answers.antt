use Rattle.std.proofs.Common.{◌≡◌, ℕ, ◌+◌, List, length, slice_index, subst, arith}
use Rattle.nsc_base.specs.Nodes.{words_for}
use Rattle.nsc_words.specs.declared.node.Node.{Node}
use Rattle.nsc_words.specs.Words.{word_of}
use Rattle.nsc_arena.specs.Changes.{node_of}
use Rattle.nsc_arena.specs.Written.{IsWritten}
use Rattle.nsc_arena.proofs.Puts.{holds_written}
use Rattle.nsc_arena.proofs.placing.put_node.Goals as goal

pub returns-clause-stands : goal.returns-clause-stands
returns-clause-stands g c =
    let n : Node = node_of c.args.fixed c.args.key.now c.args.reply.now in
    let w0 : List ℕ = g.W.Words.words c.args.table.now in
    let w1 : List ℕ = g.W.Words.words c.put_words.new.table in
    let w2 : List ℕ = g.W.Words.words c.put_bytes.new.table in
    let w3 : List ℕ = g.W.Words.words c.put_bytes-2.new.table in
    let first = subst (λ (ws : List ℕ). IsWritten w0 w1 c.args.at (length ws) (slice_index ws)) c.head_words.ensures c.put_words.ensures.written in
    let count : c.div_ceil.result ≡ words_for (length n.key) = omega (arith, c.div_ceil.ensures) in
    let last = subst (λ (k : ℕ). IsWritten w2 w3 (c.args.at + 8 + k) (words_for (length n.reply)) (word_of n.reply)) count c.put_bytes-2.ensures.written in
    record {
      node = record { kind = c.requires.kind; key = c.requires.key; reply = c.requires.reply; key_bytes = c.put_bytes.ensures.bytes; reply_bytes = c.put_bytes-2.ensures.bytes };
      holds = holds_written w0 w1 w2 w3 c.args.at n first c.put_bytes.ensures.written last;
    }
