use Rattle.std.proofs.Common.{List, ◌++◌, map, refl, sym, ap, ◌∙◌}
use Rattle.std.proofs.lemmas.List.{append-nil}
use Rattle.nsc_base.specs.declared.span.Span.{Span}
use Rattle.nsc_index.specs.Names.{place_of_name}
use Rattle.nsc_index.proofs.NetRows.{no_words}
use Rattle.nsc_index.proofs.words.add_words.Goals as goal

pub returns : goal.returns
returns c =
    let names = c.loop-word.names.items in
    let left : Span = record { from = c.loop-word.from; to = c.args.within.to } in
    sym (append-nil names) ∙ ap (λ (spans : List Span). names ++ map (place_of_name c.args.line) spans) (sym (no_words c.args.text.now left (c.in_default.ensures.none.0 refl))) ∙ c.loop-word.invariant.all
