use Rattle.std.proofs.Common.{◌≡◌, ◌∙◌, ℕ, ◌+◌, ◌-◌, ◌*◌, ◌<◌, ◌≤◌, ◌++◌, min, take, List, length, sym, ap, subst, arith}
use Rattle.nsc_base.specs.Buf.{Buf}
use Rattle.nsc_base.specs.Nodes.{words_for}
use Rattle.nsc_model.specs.declared.in_place.InPlace.TheVariants.{Hit}
use Rattle.nsc_reader.specs.declared.stage.Stage.TheVariants.{Last, Reply}
use Rattle.nsc_reader.specs.Stages.{Goes, key_words, reply_in}
use Rattle.nsc_reader.proofs.Tellings.{goes_fixed, read_from}
use Rattle.nsc_reader.proofs.Replies.{reply_last, reply_more, with_word}
use Rattle.nsc_reader.proofs.reply.load_reply.Goals as goal

pub returns-then-copied-div_ceil-clause-goes : goal.returns-then-copied-div_ceil-clause-goes
returns-then-copied-div_ceil-clause-goes c =
    let p = c.args.pass.now in
    let layout = c.args.map.now.layout in
    let new = c.fixed-word.new.self in
    let told = c.fixed-word.ensures in
    let key : p.searching.request.key ≡ c.args.key.now = c.requires.key in
    let size : length p.searching.request.key ≡ length c.args.key.now = ap (λ (k : List ℕ). length k) key in
    let count_of : c.div_ceil.result ≡ key_words p = omega arith in
    let at_is : c.args.place + 8 + c.div_ceil.result + c.args.copied ≡ c.args.place + (8 + key_words p + c.args.copied) = omega arith in
    let read = read_from p new c.args.place (8 + key_words p + c.args.copied) (c.args.place + 8 + c.div_ceil.result + c.args.copied) c.fixed-word.result told.pass c.requires.at.found.found.found.node.place_is at_is told.fixed in
    let len : c.size_len-len.result ≡ reply_in c.args.size = c.size_len-len.ensures.value in
    let count : c.min-count.result ≡ min (reply_in c.args.size - 8 * c.args.copied) 8 = c.min-count.ensures ∙ ap (λ (n : ℕ). min (n - 8 * c.args.copied) 8) len in
    let pushed : c.push.new.self.content ≡ with_word c.args.out.now.content c.min-count.result c.fixed-word.result = ap (λ (b : Buf). b.content) c.push.ensures ∙ ap (λ (bs : List ℕ). c.args.out.now.content ++ take c.min-count.result bs) c.to_le_bytes.ensures in
    let short = c.requires.at.found.found.short in
    let few = c.requires.at.few in
    let low = c.if-copied-div_ceil.true in
    let more : c.args.copied + 1 < words_for (reply_in c.args.size) = omega arith in
    let stage = Reply c.args.place c.args.size c.args.number c.args.version (c.args.copied + 1) in
    subst (λ (content : List ℕ). Goes layout p new content (20000 * c.args.place + 9000 - c.args.copied) stage) (sym pushed)
    (goes_fixed layout p new (with_word c.args.out.now.content c.min-count.result c.fixed-word.result) (20000 * c.args.place + 9000 - c.args.copied) stage told.pass
    (reply_more layout c.args.place c.args.size c.args.number c.args.version c.args.copied new.searching.known c.args.out.now.content c.min-count.result c.fixed-word.result p told.known c.requires.at count read more) (omega arith))

pub returns-else-copied-div_ceil-clause-goes : goal.returns-else-copied-div_ceil-clause-goes
returns-else-copied-div_ceil-clause-goes c =
    let p = c.args.pass.now in
    let layout = c.args.map.now.layout in
    let new = c.fixed-word.new.self in
    let told = c.fixed-word.ensures in
    let key : p.searching.request.key ≡ c.args.key.now = c.requires.key in
    let size : length p.searching.request.key ≡ length c.args.key.now = ap (λ (k : List ℕ). length k) key in
    let count_of : c.div_ceil.result ≡ key_words p = omega arith in
    let at_is : c.args.place + 8 + c.div_ceil.result + c.args.copied ≡ c.args.place + (8 + key_words p + c.args.copied) = omega arith in
    let read = read_from p new c.args.place (8 + key_words p + c.args.copied) (c.args.place + 8 + c.div_ceil.result + c.args.copied) c.fixed-word.result told.pass c.requires.at.found.found.found.node.place_is at_is told.fixed in
    let len : c.size_len-len.result ≡ reply_in c.args.size = c.size_len-len.ensures.value in
    let count : c.min-count.result ≡ min (reply_in c.args.size - 8 * c.args.copied) 8 = c.min-count.ensures ∙ ap (λ (n : ℕ). min (n - 8 * c.args.copied) 8) len in
    let pushed : c.push.new.self.content ≡ with_word c.args.out.now.content c.min-count.result c.fixed-word.result = ap (λ (b : Buf). b.content) c.push.ensures ∙ ap (λ (bs : List ℕ). c.args.out.now.content ++ take c.min-count.result bs) c.to_le_bytes.ensures in
    let short = c.requires.at.found.found.short in
    let few = c.requires.at.few in
    let high = c.if-copied-div_ceil.false in
    let last : words_for (reply_in c.args.size) ≤ c.args.copied + 1 = omega arith in
    let stage = Last (Hit c.args.number c.args.version c.size_not_found.result) in
    subst (λ (content : List ℕ). Goes layout p new content (20000 * c.args.place + 9000 - c.args.copied) stage) (sym pushed)
    (goes_fixed layout p new (with_word c.args.out.now.content c.min-count.result c.fixed-word.result) (20000 * c.args.place + 9000 - c.args.copied) stage told.pass
    (reply_last layout c.args.place c.args.size c.args.number c.args.version c.args.copied new.searching.known c.args.out.now.content c.min-count.result c.fixed-word.result c.size_not_found.result p told.known c.requires.at count read last c.size_not_found.ensures.value) (omega arith))
