use Rattle.std.proofs.Common.{◌∙◌, sym, ap, refl, lit<}
use Rattle.std.specs.Str.Iter.{split_has_more, split_pattern, split_text}
use Rattle.std.proofs.lemmas.Iterator.Splits.{YieldsList-from_str_split}
use Rattle.nsc_run.specs.Named.{with_name, with_names}
use Rattle.nsc_run.specs.Lists.{names_between}
use Rattle.nsc_run.proofs.Names.{done, step, stop}
use Rattle.nsc_run.proofs.lists.Named.with_names.Goals as goal

pub loop-name-init : goal.loop-name-init
loop-name-init c =
    let same = c.into_iter-name-iterator.ensures.into_iter_gives in
    let parts = c.split-name-items.ensures in
    record {
      rest = names_between c.args.list.now;
      yields = YieldsList-from_str_split 44 c.args.list.now (lit< tt) (ap (λ s. split_text s) same ∙ parts.text) (ap (λ s. split_has_more s) same ∙ parts.has_more) (ap (λ s. split_pattern s) same ∙ parts.pattern);
      ends = refl;
    }

pub returns-in_err-named : goal.returns-in_err-named
returns-in_err-named c =
    c.from_residual.ensures
    ∙ sym (stop c.args.scope c.loop-name.name-iterator c.next.new.self c.loop-name.named (with_names c.args.scope (names_between c.args.list.now) c.args.self) c.in-Some.name c.loop-name.invariant c.in-Some.ensures.steps
    (ap (λ text. with_name c.args.scope text c.loop-name.named) (sym c.as_bytes.ensures.value) ∙ sym c.with.ensures ∙ c.in_err-named.was))

pub loop-name-preserved : goal.loop-name-preserved
loop-name-preserved c =
    step c.args.scope c.loop-name.name-iterator c.next.new.self c.loop-name.named (with_names c.args.scope (names_between c.args.list.now) c.args.self) c.in-Some.name c.in_ok-named.named c.loop-name.invariant c.in-Some.ensures.steps
    (ap (λ text. with_name c.args.scope text c.loop-name.named) (sym c.as_bytes.ensures.value) ∙ sym c.with.ensures ∙ c.in_ok-named.was)

pub returns : goal.returns
returns c = sym (done c.args.scope c.loop-name.name-iterator c.next.new.self c.loop-name.named (with_names c.args.scope (names_between c.args.list.now) c.args.self) c.loop-name.invariant c.in-None.ensures.steps)
