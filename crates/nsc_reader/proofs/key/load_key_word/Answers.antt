use Rattle.std.proofs.Common.{◌≡◌, ◌∙◌, ℕ, ◌+◌, ◌-◌, ◌*◌, ◌<◌, ◌≤◌, List, length, slice_index, sym, ap, subst, arith}
use Rattle.nsc_words.specs.Words.{word_of}
use Rattle.nsc_reader.specs.declared.stage.Stage.TheVariants.{KeyWord, Next, State}
use Rattle.nsc_reader.specs.Stages.{key_words}
use Rattle.nsc_reader.proofs.Tellings.{goes_fixed, read_from}
use Rattle.nsc_reader.proofs.Keys.{word_done, word_other, word_same}
use Rattle.nsc_reader.proofs.key.load_key_word.Goals as goal

pub returns-then-fixed-word_of : goal.returns-then-fixed-word_of
returns-then-fixed-word_of c =
    let p = c.args.pass.now in
    let layout = c.args.map.now.layout in
    let new = c.fixed.new.self in
    let told = c.fixed.ensures in
    let at_is : c.args.place + 8 + c.args.compared ≡ c.args.place + (8 + c.args.compared) = omega arith in
    let read = read_from p new c.args.place (8 + c.args.compared) (c.args.place + 8 + c.args.compared) c.fixed.result told.pass c.requires.at.node.place_is at_is told.fixed in
    let other = λ (is : c.fixed.result ≡ word_of p.searching.request.key c.args.compared). c.if-fixed-word_of.true (is ∙ ap (λ (k : List ℕ). word_of k c.args.compared) c.requires.key ∙ sym c.word_of.ensures) in
    let size : length p.searching.request.key ≡ length c.args.key.now = ap (λ (k : List ℕ). length k) c.requires.key in
    let few = c.requires.at.few in
    let short = c.requires.size in
    record { goes = λ content. goes_fixed layout p new content (20000 * c.args.place + 9300 - c.args.compared) (Next c.args.place) told.pass (word_other layout c.args.place c.args.compared new.searching.known c.fixed.result p told.known c.requires.at read other) (omega arith) }

pub returns-then-compared-div_ceil : goal.returns-then-compared-div_ceil
returns-then-compared-div_ceil c =
    let p = c.args.pass.now in
    let layout = c.args.map.now.layout in
    let new = c.fixed.new.self in
    let told = c.fixed.ensures in
    let at_is : c.args.place + 8 + c.args.compared ≡ c.args.place + (8 + c.args.compared) = omega arith in
    let read = read_from p new c.args.place (8 + c.args.compared) (c.args.place + 8 + c.args.compared) c.fixed.result told.pass c.requires.at.node.place_is at_is told.fixed in
    let key : p.searching.request.key ≡ c.args.key.now = c.requires.key in
    let size : length p.searching.request.key ≡ length c.args.key.now = ap (λ (k : List ℕ). length k) key in
    let is : c.fixed.result ≡ word_of p.searching.request.key c.args.compared = c.if-fixed-word_of.false ∙ c.word_of.ensures ∙ ap (λ (k : List ℕ). word_of k c.args.compared) (sym key) in
    let few = c.requires.at.few in
    let short = c.requires.size in
    let more : c.args.compared + 1 < key_words p = let low = c.if-compared-div_ceil.true in omega arith in
    record { goes = λ content. goes_fixed layout p new content (20000 * c.args.place + 9300 - c.args.compared) (KeyWord c.args.place (c.args.compared + 1)) told.pass (word_same layout c.args.place c.args.compared new.searching.known c.fixed.result p told.known c.requires.at read is more) (omega arith) }

pub returns-else-compared-div_ceil : goal.returns-else-compared-div_ceil
returns-else-compared-div_ceil c =
    let p = c.args.pass.now in
    let layout = c.args.map.now.layout in
    let new = c.fixed.new.self in
    let told = c.fixed.ensures in
    let at_is : c.args.place + 8 + c.args.compared ≡ c.args.place + (8 + c.args.compared) = omega arith in
    let read = read_from p new c.args.place (8 + c.args.compared) (c.args.place + 8 + c.args.compared) c.fixed.result told.pass c.requires.at.node.place_is at_is told.fixed in
    let key : p.searching.request.key ≡ c.args.key.now = c.requires.key in
    let size : length p.searching.request.key ≡ length c.args.key.now = ap (λ (k : List ℕ). length k) key in
    let is : c.fixed.result ≡ word_of p.searching.request.key c.args.compared = c.if-fixed-word_of.false ∙ c.word_of.ensures ∙ ap (λ (k : List ℕ). word_of k c.args.compared) (sym key) in
    let few = c.requires.at.few in
    let short = c.requires.size in
    let below : (i : ℕ) → slice_index p.searching.request.key i < 256 = subst (λ (k : List ℕ). (i : ℕ) → slice_index k i < 256) (sym key) (λ i. (c.type_inv.key i).fits) in
    let enough : key_words p ≤ c.args.compared + 1 = let high = c.if-compared-div_ceil.false in omega arith in
    record { goes = λ content. goes_fixed layout p new content (20000 * c.args.place + 9300 - c.args.compared) (State c.args.place) told.pass (word_done layout c.args.place c.args.compared new.searching.known c.fixed.result p told.known c.requires.at read is enough below) (omega arith) }
