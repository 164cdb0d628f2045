use Rattle.std.proofs.Common.{◌≡◌, ◌∙◌, true, false, sym, subst}
use Rattle.std.proofs.lemmas.Bool.{OnTrue_at}
use Rattle.nsc_model.specs.declared.row.Reply.{Reply}
use Rattle.nsc_model.specs.declared.kind.Kind.TheVariants as kind
use Rattle.nsc_model.specs.Wire.{Spells}
use Rattle.nsc_client.specs.GateText.{has_entry}
use Rattle.nsc_client.proofs.Answering.{sees_on}
use Rattle.nsc_client.proofs.FoundInPlace.{first_hit, second_hit}
use Rattle.nsc_client.proofs.hits.hit_named.Goals as goal

pub returns-then-is_found-clause-hit : goal.returns-then-is_found-clause-hit
returns-then-is_found-clause-hit g c =
    let bytes = c.finds.new.out.content in
    let has : (reply : Reply) → Spells kind.HostName reply bytes → has_entry reply ≡ true =
    λ reply. λ spells. sym (c.is_found.ensures kind.HostName reply (subst (λ (b : _). Spells kind.HostName reply b) (sym c.bytes.ensures.content) spells)) ∙ c.if-is_found.true in
    first_hit g.S.Store c.args.passes.now c.finds.new.passes c.args.name.now bytes (OnTrue_at c.if-not-finds.false c.finds.ensures.found) has

pub returns-then-not-finds-2-clause-seen : goal.returns-then-not-finds-2-clause-seen
returns-then-not-finds-2-clause-seen g c = sees_on g.S.Store c.args.passes.now c.finds.new.passes c.finds-2.new.passes c.finds.ensures.seen c.finds-2.ensures.seen

pub returns-clause-seen : goal.returns-clause-seen
returns-clause-seen g c = sees_on g.S.Store c.args.passes.now c.finds.new.passes c.finds-2.new.passes c.finds.ensures.seen c.finds-2.ensures.seen

pub returns-clause-hit : goal.returns-clause-hit
returns-clause-hit g c =
    let bytes = c.finds.new.out.content in
    let none : (reply : Reply) → Spells kind.HostName reply bytes → has_entry reply ≡ false =
    λ reply. λ spells. sym (c.is_found.ensures kind.HostName reply (subst (λ (b : _). Spells kind.HostName reply b) (sym c.bytes.ensures.content) spells)) ∙ c.if-is_found.false in
    second_hit g.S.Store c.args.passes.now c.finds.new.passes c.finds-2.new.passes c.args.name.now bytes c.finds-2.new.out.content (OnTrue_at c.if-not-finds.false c.finds.ensures.found) none
    c.finds.ensures.seen c.finds-2.ensures.seen (OnTrue_at c.if-not-finds-2.false c.finds-2.ensures.found)
