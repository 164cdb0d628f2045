use Rattle.std.proofs.Common.{length, ap, ◌∙◌, sym}
use Rattle.std.proofs.lemmas.Bool.{eqb-false, eqb-true}
use Rattle.nsc_writer.specs.Writer.{Writer}
use Rattle.nsc_turns.proofs.Emptied.{empties, empties_none, empties_some, empties_spent}
use Rattle.nsc_turns.proofs.entries.invalidate.Goals as goal

pub compact-requires : goal.compact-requires
compact-requires c = ap (λ (x : Writer). x.slide) c.in-Ok.ensures.done.1 ∙ c.requires

pub returns-then-is_empty-clause-completes : goal.returns-then-is_empty-clause-completes
returns-then-is_empty-clause-completes c =
    let none = eqb-true (length c.args.writer.now.cache.entries) 0 (sym c.is_empty-is_empty.ensures ∙ c.if-is_empty.true) in
    empties c.args.writer.now c.invalidate.new.self c.in-Ok.ensures.below c.in-Ok.ensures.done.1 none

pub returns-in-Ok-compact-clause-completes : goal.returns-in-Ok-compact-clause-completes
returns-in-Ok-compact-clause-completes c =
    let some = eqb-false (length c.args.writer.now.cache.entries) 0 (sym c.is_empty-is_empty.ensures ∙ c.if-is_empty.false) in
    empties_some c.args.writer.now c.invalidate.new.self c.compact.new.writer c.in-Ok.ensures.below c.in-Ok.ensures.done.1 some c.in-Ok-compact.ensures.done.0 c.in-Ok-compact.ensures.done.2

pub returns-in-Err-compact-clause-stops : goal.returns-in-Err-compact-clause-stops
returns-in-Err-compact-clause-stops c =
    let some = eqb-false (length c.args.writer.now.cache.entries) 0 (sym c.is_empty-is_empty.ensures ∙ c.if-is_empty.false) in
    empties_spent c.args.writer.now c.invalidate.new.self c.compact.new.writer c.in-Err-compact.spent.count c.in-Ok.ensures.below c.in-Ok.ensures.done.1 some c.in-Err-compact.ensures.spent.0 c.in-Err-compact.ensures.spent.1 c.in-Err-compact.ensures.spent.2

pub returns-in-Err-clause-stops : goal.returns-in-Err-clause-stops
returns-in-Err-clause-stops c = empties_none c.args.writer.now c.invalidate.new.self c.in-Err.spent.count c.in-Err.ensures.spent.0 c.in-Err.ensures.spent.1 c.in-Err.ensures.spent.2
