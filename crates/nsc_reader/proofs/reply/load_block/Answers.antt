use Rattle.std.proofs.Common.{◌≡◌, ◌∙◌, ℕ, ◌+◌, ◌-◌, ◌*◌, ◌<◌, ◌≤◌, ◌++◌, min, take, List, length, sym, ap, subst, arith}
use borrow.Rule.Slice.PartMut.{put_mid}
use Rattle.byteorder.specs.Endian.{little_bytes}
use Rattle.nsc_base.specs.Buf.{Buf}
use Rattle.nsc_base.specs.Nodes.{words_for}
use Rattle.nsc_model.specs.declared.answer.Request.{Request}
use Rattle.nsc_model.specs.declared.in_place.InPlace.TheVariants.{Hit}
use Rattle.nsc_model.proofs.Beginnings.{prefix_all}
use Rattle.nsc_rule.specs.Pass.{Pass}
use Rattle.nsc_reader.specs.Stages.{AtLast, Keeps, key_words, reply_in}
use Rattle.nsc_reader.proofs.Tellings.{keeps_at, read_from}
use Rattle.nsc_reader.proofs.Replies.{IsCopying, block_more, copying_all}
use Rattle.nsc_reader.proofs.Runs.{keeps_then}
use Rattle.nsc_reader.proofs.reply.load_block.Goals as goal

pub loop-index-preserved : goal.loop-index-preserved
loop-index-preserved c =
    let p = c.loop-index.pass in
    let layout = c.args.map.now.layout in
    let new = c.fixed-word.new.self in
    let told = c.fixed-word.ensures in
    let index = c.loop-index.index in
    let so = c.loop-index.invariant in
    let key : p.searching.request.key ≡ c.args.key.now = ap (λ (r : Request). r.key) so.keeps.request ∙ c.requires.key in
    let size : length p.searching.request.key ≡ length c.args.key.now = ap (λ (k : List ℕ). length k) key in
    let count_of : c.div_ceil.result ≡ key_words p = omega arith in
    let at_is : c.args.place + 8 + c.div_ceil.result + c.args.copied + index ≡ c.args.place + (8 + key_words p + (c.args.copied + index)) = omega arith in
    let read = read_from p new c.args.place (8 + key_words p + (c.args.copied + index)) (c.args.place + 8 + c.div_ceil.result + c.args.copied + index) c.fixed-word.result told.pass so.copying.found.found.found.node.place_is at_is told.fixed in
    let len : c.size_len-len.result ≡ reply_in c.args.size = c.size_len-len.ensures.value in
    let below = c.loop-index-test.true in
    let few : c.args.copied + index < words_for (reply_in c.args.size) = omega arith in
    let bytes : c.copy_from_slice.new.self ≡ little_bytes 8 c.fixed-word.result = c.copy_from_slice.ensures.after ∙ c.to_le_bytes.ensures in
    record {
      keeps = keeps_then c.args.pass.now p new so.keeps (subst (λ (q : Pass). Keeps p q) (sym told.pass) (keeps_at p.seen new.searching.known p.searching.gone p (prefix_all p.seen)));
      copying =
          subst (λ (q : Pass). IsCopying layout c.args.place c.args.size c.args.number c.args.version (c.args.copied + (index + 1)) (c.args.out.now.content ++ take (min (8 * (index + 1)) (reply_in c.args.size - 8 * c.args.copied)) (put_mid (8 * index) (8 * index + 8 - 8 * index) c.loop-index.block c.copy_from_slice.new.self)) q) (sym told.pass)
          (block_more layout c.args.place c.args.size c.args.number c.args.version c.args.copied index new.searching.known c.fixed-word.result c.args.out.now.content c.loop-index.block c.copy_from_slice.new.self p told.known so.copying few (omega arith) bytes read);
    }

pub returns-else-copied-count-clause-comes : goal.returns-else-copied-count-clause-comes
returns-else-copied-count-clause-comes c =
    let layout = c.args.map.now.layout in
    let p = c.loop-index.pass in
    let index = c.loop-index.index in
    let so = c.loop-index.invariant in
    let len : c.size_len-len.result ≡ reply_in c.args.size = c.size_len-len.ensures.value in
    let low = c.loop-index-test.false in
    let high = c.loop-index.auto.index-end in
    let few = c.requires.at.few in
    let short = c.requires.at.found.found.short in
    let ended = c.if-copied-count.false in
    let last : words_for (reply_in c.args.size) ≤ c.args.copied + index = omega arith in
    let all : c.min.result ≡ min (8 * index) (reply_in c.args.size - 8 * c.args.copied) = omega arith in
    let content = c.args.out.now.content ++ take (min (8 * index) (reply_in c.args.size - 8 * c.args.copied)) c.loop-index.block in
    let pushed : c.push.new.self.content ≡ content = ap (λ (b : Buf). b.content) c.push.ensures ∙ ap (λ (n : ℕ). c.args.out.now.content ++ take n c.loop-index.block) all in
    record {
      keeps = so.keeps;
      at =
          subst (λ (xs : List ℕ). AtLast xs (Hit c.args.number c.args.version c.size_not_found.result) p) (sym pushed)
          (copying_all layout c.args.place c.args.size c.args.number c.args.version (c.args.copied + index) content c.size_not_found.result p so.copying last c.size_not_found.ensures.value);
      within = omega arith;
    }
