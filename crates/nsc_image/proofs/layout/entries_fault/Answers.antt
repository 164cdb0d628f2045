use Rattle.std.proofs.Common.{◌≡◌, length, None, ◌<◌, false, eqb, sym, ◌∙◌, arith}
use Rattle.std.proofs.lemmas.Bool.{eqb-true, eqb-false}
use Rattle.nsc_image.specs.Faults.{entry_checks, first_failing}
use Rattle.nsc_image.specs.Versions.{number_of}
use Rattle.nsc_image.proofs.Walk.{walk_all, walk_breaks, walk_length, walk_start, walk_step, walk_surplus}
use Rattle.nsc_image.proofs.layout.entries_fault.Goals as goal

pub loop-init : goal.loop-init
loop-init c = walk_start c.args.db (number_of c.args.version) c.args.bytes.now

pub overflow_sub-result : goal.overflow_sub-result
overflow_sub-result c = walk_length c.args.db (number_of c.args.version) c.args.bytes.now c.loop.counter c.loop.last c.loop.rest.now c.loop.invariant

pub returns-in-Some-clause-fault : goal.returns-in-Some-clause-fault
returns-in-Some-clause-fault c =
    walk_breaks c.args.db (number_of c.args.version) c.args.bytes.now c.args.count c.loop.counter c.loop.last c.loop.rest.now c.in-Some.at c.loop.invariant c.loop-test.true (sym c.entry_fault.ensures.fault ∙ c.in-Some.is)

pub loop-preserved : goal.loop-preserved
loop-preserved c =
    let none : first_failing (entry_checks c.args.db (number_of c.args.version) c.loop.last c.loop.rest.now) ≡ None = sym c.entry_fault.ensures.fault ∙ c.in_default.is in
    let w = walk_step c.args.db (number_of c.args.version) c.args.bytes.now c.loop.counter c.loop.last c.loop.rest.now (λ i. omega (arith, c.type_inv.bytes i)) c.loop.invariant none in
    rw (c.behind_entry-rest.ensures, c.u64_at.ensures) w

pub returns-then-is_empty-clause-none : goal.returns-then-is_empty-clause-none
returns-then-is_empty-clause-none c =
    walk_all c.args.db (number_of c.args.version) c.args.bytes.now c.args.count c.loop.counter c.loop.last c.loop.rest.now c.loop.invariant (omega arith) (eqb-true _ _ (sym c.is_empty.ensures ∙ c.if-is_empty.true))

pub overflow_sub-result-2 : goal.overflow_sub-result-2
overflow_sub-result-2 c = walk_length c.args.db (number_of c.args.version) c.args.bytes.now c.loop.counter c.loop.last c.loop.rest.now c.loop.invariant

pub returns-clause-fault : goal.returns-clause-fault
returns-clause-fault c =
    let not_empty : eqb (length c.loop.rest.now) 0 ≡ false = sym c.is_empty.ensures ∙ c.if-is_empty.false in
    let left : 0 < length c.loop.rest.now = (let ne = eqb-false _ _ not_empty in omega arith) in
    walk_surplus c.args.db (number_of c.args.version) c.args.bytes.now c.args.count c.loop.counter c.loop.last c.loop.rest.now c.loop.invariant (omega arith) left
