use Rattle.std.proofs.Common.{◌≡◌, ◌∙◌, ℕ, ◌+◌, ◌*◌, ◌≤◌, List, length, refl, ap, arith}
use Rattle.nsc_base.specs.Nodes.{words_for}
use Rattle.nsc_words.specs.Layout.{table_words}
use Rattle.nsc_model.specs.Entry.{kept_limit}
use Rattle.nsc_model.specs.declared.in_place.InPlace.TheVariants.{NoEntry}
use Rattle.nsc_reader.specs.declared.stage.Stage.TheVariants.{Last, Number}
use Rattle.nsc_reader.specs.Stages.{key_words, reply_in}
use Rattle.nsc_reader.proofs.Tellings.{goes_fixed, read_from}
use Rattle.nsc_reader.proofs.Replies.{size_read, size_wrong}
use Rattle.nsc_reader.proofs.reply.load_size.Goals as goal
use Rattle.nsc_reader.proofs.reply.load_size.Goals.{then-len-gt-KEPT_LIMIT-via-then-len-gt-KEPT_LIMIT, then-len-gt-KEPT_LIMIT-via-else-len-gt-KEPT_LIMIT+then-div_ceil-words}

pub returns-then-len-gt-KEPT_LIMIT : goal.returns-then-len-gt-KEPT_LIMIT
returns-then-len-gt-KEPT_LIMIT c =
    let p = c.args.pass.now in
    let layout = c.args.map.now.layout in
    let new = c.fixed-size.new.self in
    let told = c.fixed-size.ensures in
    let read = read_from p new c.args.place 2 (c.args.place + 2) c.fixed-size.result told.pass c.requires.at.node.place_is refl told.fixed in
    let size : length p.searching.request.key ≡ length c.args.key.now = ap (λ (k : List ℕ). length k) c.requires.key in
    let layout_is : c.layout.result ≡ layout = c.layout.ensures.layout in
    let words : c.words-words.result ≡ table_words layout = c.words-words.ensures ∙ ap table_words layout_is in
    let len : c.size_len-len.result ≡ reply_in c.fixed-size.result = c.size_len-len.ensures.value in
    let room = c.requires.at.room in
    let wrong : reply_in c.fixed-size.result ≤ kept_limit → c.args.place + 8 + key_words p + words_for (reply_in c.fixed-size.result) ≤ table_words layout → ⊥ = λ short fits.
    elim c.then-len-gt-KEPT_LIMIT.branch [
      | then-len-gt-KEPT_LIMIT-via-then-len-gt-KEPT_LIMIT w ↦ let far = w.if-len-gt-KEPT_LIMIT.true in omega arith
      | then-len-gt-KEPT_LIMIT-via-else-len-gt-KEPT_LIMIT+then-div_ceil-words w ↦ let far = w.if-div_ceil-words.true in omega arith
    ] in
    record { goes = λ content. goes_fixed layout p new content (20000 * c.args.place + 9003) (Last NoEntry) told.pass (size_wrong layout c.args.place new.searching.known c.fixed-size.result content p told.known c.requires.at read wrong) (omega arith) }

pub returns : goal.returns
returns c =
    let p = c.args.pass.now in
    let layout = c.args.map.now.layout in
    let new = c.fixed-size.new.self in
    let told = c.fixed-size.ensures in
    let read = read_from p new c.args.place 2 (c.args.place + 2) c.fixed-size.result told.pass c.requires.at.node.place_is refl told.fixed in
    let size : length p.searching.request.key ≡ length c.args.key.now = ap (λ (k : List ℕ). length k) c.requires.key in
    let layout_is : c.layout.result ≡ layout = c.layout.ensures.layout in
    let words : c.words-words.result ≡ table_words layout = c.words-words.ensures ∙ ap table_words layout_is in
    let len : c.size_len-len.result ≡ reply_in c.fixed-size.result = c.size_len-len.ensures.value in
    let room = c.requires.at.room in
    let low = c.if-len-gt-KEPT_LIMIT.false in
    let short : reply_in c.fixed-size.result ≤ kept_limit = omega arith in
    let near = c.if-div_ceil-words.false in
    let fits : c.args.place + 8 + key_words p + words_for (reply_in c.fixed-size.result) ≤ table_words layout = omega arith in
    record { goes = λ content. goes_fixed layout p new content (20000 * c.args.place + 9003) (Number c.args.place c.fixed-size.result) told.pass (size_read layout c.args.place new.searching.known c.fixed-size.result p told.known c.requires.at read short fits) (omega arith) }
