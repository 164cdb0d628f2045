use Rattle.std.proofs.Common.{◌≡◌, ◌∙◌, ℕ, ◌+◌, ◌*◌, List, refl, sym, ap, arith}
use Rattle.nsc_words.specs.Words.{word_of}
use Rattle.nsc_reader.specs.declared.stage.Stage.TheVariants.{Next, Shape}
use Rattle.nsc_reader.proofs.Tellings.{goes_fixed, read_from}
use Rattle.nsc_reader.proofs.Keys.{first_other, first_same}
use Rattle.nsc_reader.proofs.key.load_first_word.Goals as goal

pub returns-then-fixed-word_of : goal.returns-then-fixed-word_of
returns-then-fixed-word_of c =
    let p = c.args.pass.now in
    let layout = c.args.map.now.layout in
    let new = c.fixed.new.self in
    let told = c.fixed.ensures in
    let read = read_from p new c.args.place 8 (c.args.place + 8) c.fixed.result told.pass c.requires.at.node.place_is refl told.fixed in
    let is : c.fixed.result ≡ word_of p.searching.request.key 0 = c.if-fixed-word_of.true ∙ c.word_of.ensures ∙ ap (λ (k : List ℕ). word_of k 0) (sym c.requires.key) in
    record { goes = λ content. goes_fixed layout p new content (20000 * c.args.place + 9500) (Shape c.args.place 1) told.pass (first_same layout c.args.place new.searching.known c.fixed.result p told.known c.requires.at read is) (omega arith) }

pub returns-else-fixed-word_of : goal.returns-else-fixed-word_of
returns-else-fixed-word_of c =
    let p = c.args.pass.now in
    let layout = c.args.map.now.layout in
    let new = c.fixed.new.self in
    let told = c.fixed.ensures in
    let read = read_from p new c.args.place 8 (c.args.place + 8) c.fixed.result told.pass c.requires.at.node.place_is refl told.fixed in
    let other = λ (is : c.fixed.result ≡ word_of p.searching.request.key 0). c.if-fixed-word_of.false (is ∙ ap (λ (k : List ℕ). word_of k 0) c.requires.key ∙ sym c.word_of.ensures) in
    record { goes = λ content. goes_fixed layout p new content (20000 * c.args.place + 9500) (Next c.args.place) told.pass (first_other layout c.args.place new.searching.known c.fixed.result p told.known c.requires.at read other) (omega arith) }
