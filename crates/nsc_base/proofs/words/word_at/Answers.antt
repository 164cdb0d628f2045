use Rattle.std.proofs.Common.{refl, sym, map, ap, ◌∙◌, ◌≡◌, [], slice_range, arith}
use Rattle.std.proofs.lemmas.List.{take_rest}
use Rattle.nsc_base.specs.Text.{part, words_of}
use Rattle.nsc_base.proofs.Places.{word-found, word-some, words-none}
use Rattle.nsc_base.proofs.Spans.{words-are}
use Rattle.nsc_base.proofs.words.word_at.Goals as goal

pub returns-then-word-eq0-clause-none : goal.returns-then-word-eq0-clause-none
returns-then-word-eq0-clause-none c =
    let part = slice_range c.args.text.now c.args.from c.to.result in
    let none : words_of part ≡ [] = words-none part _ c.run_length-white.result c.run_length-word.result c.if-word-eq0.true (take_rest part c.run_length-white.result)
    c.run_length-white.ensures.within c.run_length-white.ensures.run c.run_length-white.ensures.stop c.run_length-word.ensures.stop in
    (λ _. rw (← c.to.ensures.place) none, λ _. refl)

pub returns-clause-none : goal.returns-clause-none
returns-clause-none c =
    let rest = slice_range c.args.text.now c.args.from c.to.result in
    let cut = words-are rest ∙ ap (map (part rest)) (word-some 0 rest _ c.run_length-white.result c.run_length-word.result (take_rest rest c.run_length-white.result)
    c.run_length-white.ensures.within c.run_length-white.ensures.run
    c.run_length-word.ensures.within (omega arith) c.run_length-word.ensures.run c.run_length-word.ensures.stop) in
    let there : words_of (slice_range c.args.text.now c.args.from c.args.within.to) ≡ words_of rest = ap (λ n. words_of (slice_range c.args.text.now c.args.from n)) (sym c.to.ensures.place) in
    (λ no. cc, λ empty. cc)

pub returns-clause-word : goal.returns-clause-word
returns-clause-word c =
    let part = slice_range c.args.text.now c.args.from c.to.result in
    word-found c.args.text.now c.args.within c.args.from c.to.result c.run_length-white.result c.run_length-word.result _ _ c.new.ensures refl (sym c.to.ensures.place)
    (take_rest part c.run_length-white.result)
    (omega arith) (omega arith)
    c.run_length-white.ensures.within c.run_length-white.ensures.run
    c.run_length-word.ensures.within (omega arith) c.run_length-word.ensures.run c.run_length-word.ensures.stop
