use Rattle.std.proofs.Common.{◌≡◌, ℕ, false, ◌∷◌, slice_range, sym, ◌∙◌, ap}
use Rattle.std.specs.Option.{option_map_or}
use Rattle.std.specs.Str.{bytes_eq}
use Rattle.nsc_base.specs.Text.{before_remark, part, words_of}
use Rattle.nsc_base.specs.Words.{two_of}
use Rattle.nsc_model.specs.Hosts.{Addressed, addressed_of}
use Rattle.nsc_nets.proofs.Called.{addressed, unaddressed}
use Rattle.nsc_nets.proofs.find.addressed_host.Goals as goal

pub returns-then-not-spells-clause-entry : goal.returns-then-not-spells-clause-entry
returns-then-not-spells-clause-entry c =
    let text = c.args.text.now in
    let entry = c.before_line_remark-entry.result in
    let is : words_of (before_remark (part text c.args.line)) ≡ part text c.in_ok-first.first.span ∷ words_of (slice_range text c.in_ok-first.first.next entry.to) =
    ap words_of (sym c.before_line_remark-entry.ensures.bytes ∙ ap (λ (k : ℕ). slice_range text k entry.to) (sym c.from.ensures.place)) ∙ c.in_ok-first.ensures.word.cut in
    sym (unaddressed c.args.address.now (part text c.args.line) _ _ is (ap (λ word. option_map_or (λ (a : Addressed). bytes_eq a.address c.args.address.now) (addressed_of word) false) (sym c.of.ensures.bytes) ∙ sym c.if-not-spells.ensures))

pub returns-clause-entry : goal.returns-clause-entry
returns-clause-entry c =
    let text = c.args.text.now in
    c.formed_host.ensures.entry
    ∙ sym (addressed c.args.address.now (part text c.args.line) _ (c.in_ok-words_after.ensures.words ∙ ap (λ bytes. two_of (words_of bytes)) c.before_line_remark-entry.ensures.bytes)
    (ap (λ span. option_map_or (λ (a : Addressed). bytes_eq a.address c.args.address.now) (addressed_of (part text span)) false) c.in_ok-words_after.ensures.same
    ∙ ap (λ word. option_map_or (λ (a : Addressed). bytes_eq a.address c.args.address.now) (addressed_of word) false) (sym c.of.ensures.bytes) ∙ sym c.if-not-spells.ensures))
