use Rattle.std.proofs.Common.{◌≡◌, ◌∙◌, ℕ, ◌+◌, ◌*◌, ◌<◌, ◌≤◌, List, length, slice_index, refl, sym, ap, subst, arith}
use Rattle.nsc_words.specs.Layout.{table_words}
use Rattle.nsc_words.specs.Packing.{shape_word}
use Rattle.nsc_model.specs.Entry.{key_limit}
use Rattle.nsc_model.specs.Kinds.{type_number}
use Rattle.nsc_model.specs.declared.answer.Request.{Request}
use Rattle.nsc_model.specs.declared.in_place.InPlace.TheVariants.{NoEntry}
use Rattle.nsc_reader.specs.declared.stage.Stage.TheVariants.{KeyWord, Last, Next, State}
use Rattle.nsc_reader.specs.Stages.{key_words}
use Rattle.nsc_reader.proofs.Tellings.{goes_fixed, read_from}
use Rattle.nsc_reader.proofs.Keys.{shape_done, shape_other, shape_same, shape_wrong}
use Rattle.nsc_reader.proofs.key.load_shape.Goals as goal

pub returns-then-fixed-shape : goal.returns-then-fixed-shape
returns-then-fixed-shape c =
    let p = c.args.pass.now in
    let layout = c.args.map.now.layout in
    let new = c.fixed.new.self in
    let told = c.fixed.ensures in
    let read = read_from p new c.args.place 1 (c.args.place + 1) c.fixed.result told.pass c.requires.at.node.place_is refl told.fixed in
    let other = λ (is : c.fixed.result ≡ shape_word (type_number p.searching.request.kind) (length p.searching.request.key)). c.if-fixed-shape.true (is ∙ ap (λ (r : Request). shape_word (type_number r.kind) (length r.key)) c.requires.request ∙ sym (ap (λ (k : ℕ). shape_word k (length c.args.key.now)) c.number.ensures) ∙ sym c.shape.ensures) in
    record { goes = λ content. goes_fixed layout p new content (20000 * c.args.place + 9400) (Next c.args.place) told.pass (shape_other layout c.args.place c.args.compared new.searching.known c.fixed.result p told.known c.requires.at read other) (omega arith) }

pub returns-then-count-words : goal.returns-then-count-words
returns-then-count-words c =
    let p = c.args.pass.now in
    let layout = c.args.map.now.layout in
    let new = c.fixed.new.self in
    let told = c.fixed.ensures in
    let read = read_from p new c.args.place 1 (c.args.place + 1) c.fixed.result told.pass c.requires.at.node.place_is refl told.fixed in
    let key : p.searching.request.key ≡ c.args.key.now = ap (λ (r : Request). r.key) c.requires.request in
    let size : length p.searching.request.key ≡ length c.args.key.now = ap (λ (k : List ℕ). length k) key in
    let is : c.fixed.result ≡ shape_word (type_number p.searching.request.kind) (length p.searching.request.key) = c.if-fixed-shape.false ∙ c.shape.ensures ∙ ap (λ (k : ℕ). shape_word k (length c.args.key.now)) c.number.ensures ∙ sym (ap (λ (r : Request). shape_word (type_number r.kind) (length r.key)) c.requires.request) in
    let short : length p.searching.request.key ≤ key_limit = subst (λ (k : List ℕ). length k ≤ key_limit) (sym key) c.requires.size in
    let layout_is : c.layout.result ≡ layout = c.layout.ensures.layout in
    let words : c.words-words.result ≡ table_words layout = c.words-words.ensures ∙ ap table_words layout_is in
    let far = c.if-count-words.true in
    let wrong : c.args.place + 8 + key_words p ≤ table_words layout → ⊥ = λ room. omega arith in
    record { goes = λ content. goes_fixed layout p new content (20000 * c.args.place + 9400) (Last NoEntry) told.pass (shape_wrong layout c.args.place c.args.compared new.searching.known c.fixed.result content p told.known c.requires.at read short is wrong) (omega arith) }

pub returns-then-compared-count : goal.returns-then-compared-count
returns-then-compared-count c =
    let p = c.args.pass.now in
    let layout = c.args.map.now.layout in
    let new = c.fixed.new.self in
    let told = c.fixed.ensures in
    let read = read_from p new c.args.place 1 (c.args.place + 1) c.fixed.result told.pass c.requires.at.node.place_is refl told.fixed in
    let key : p.searching.request.key ≡ c.args.key.now = ap (λ (r : Request). r.key) c.requires.request in
    let size : length p.searching.request.key ≡ length c.args.key.now = ap (λ (k : List ℕ). length k) key in
    let is : c.fixed.result ≡ shape_word (type_number p.searching.request.kind) (length p.searching.request.key) = c.if-fixed-shape.false ∙ c.shape.ensures ∙ ap (λ (k : ℕ). shape_word k (length c.args.key.now)) c.number.ensures ∙ sym (ap (λ (r : Request). shape_word (type_number r.kind) (length r.key)) c.requires.request) in
    let short : length p.searching.request.key ≤ key_limit = subst (λ (k : List ℕ). length k ≤ key_limit) (sym key) c.requires.size in
    let layout_is : c.layout.result ≡ layout = c.layout.ensures.layout in
    let words : c.words-words.result ≡ table_words layout = c.words-words.ensures ∙ ap table_words layout_is in
    let inside = c.requires.at.node.inside in
    let room : c.args.place + 8 + key_words p ≤ table_words layout = let near = c.if-count-words.false in omega arith in
    let few : c.args.compared < key_words p = let low = c.if-compared-count.true in omega arith in
    record { goes = λ content. goes_fixed layout p new content (20000 * c.args.place + 9400) (KeyWord c.args.place c.args.compared) told.pass (shape_same layout c.args.place c.args.compared new.searching.known c.fixed.result p told.known c.requires.at read short is room few) (omega arith) }

pub returns-else-compared-count : goal.returns-else-compared-count
returns-else-compared-count c =
    let p = c.args.pass.now in
    let layout = c.args.map.now.layout in
    let new = c.fixed.new.self in
    let told = c.fixed.ensures in
    let read = read_from p new c.args.place 1 (c.args.place + 1) c.fixed.result told.pass c.requires.at.node.place_is refl told.fixed in
    let key : p.searching.request.key ≡ c.args.key.now = ap (λ (r : Request). r.key) c.requires.request in
    let size : length p.searching.request.key ≡ length c.args.key.now = ap (λ (k : List ℕ). length k) key in
    let is : c.fixed.result ≡ shape_word (type_number p.searching.request.kind) (length p.searching.request.key) = c.if-fixed-shape.false ∙ c.shape.ensures ∙ ap (λ (k : ℕ). shape_word k (length c.args.key.now)) c.number.ensures ∙ sym (ap (λ (r : Request). shape_word (type_number r.kind) (length r.key)) c.requires.request) in
    let short : length p.searching.request.key ≤ key_limit = subst (λ (k : List ℕ). length k ≤ key_limit) (sym key) c.requires.size in
    let layout_is : c.layout.result ≡ layout = c.layout.ensures.layout in
    let words : c.words-words.result ≡ table_words layout = c.words-words.ensures ∙ ap table_words layout_is in
    let below : (i : ℕ) → slice_index p.searching.request.key i < 256 = subst (λ (k : List ℕ). (i : ℕ) → slice_index k i < 256) (sym key) (λ i. (c.type_inv.key i).fits) in
    let inside = c.requires.at.node.inside in
    let room : c.args.place + 8 + key_words p ≤ table_words layout = let near = c.if-count-words.false in omega arith in
    let enough : key_words p ≤ c.args.compared = let high = c.if-compared-count.false in omega arith in
    record { goes = λ content. goes_fixed layout p new content (20000 * c.args.place + 9400) (State c.args.place) told.pass (shape_done layout c.args.place c.args.compared new.searching.known c.fixed.result p told.known c.requires.at read short is room enough below) (omega arith) }
