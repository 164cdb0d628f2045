use Rattle.std.proofs.Common.{◌≡◌, ◌∙◌, ◌==◌, ℕ, true, false, List, [], ◌∷◌, length, refl, sym, subst, arith, rules, inr}
use Rattle.std.proofs.lemmas.Bool.{eqb-true}
use Rattle.nsc_base.specs.Text.{is_filled}
use Rattle.nsc_outside.specs.StreamAt.{stream_in, stream_out}
use Rattle.nsc_client.specs.Gathered.{GathersAnswers, IsStopped}
use Rattle.nsc_client.specs.LinesRead.{IsLastLine}
use Rattle.nsc_client.specs.Serving.{AnswersAll, gate_at}
use Rattle.nsc_client.proofs.Answering.{sees_on}
use Rattle.nsc_client.proofs.Connections.{ends, ends_with, refuses_first, stopped}
use Rattle.nsc_client.proofs.LinesRead.{front-whole}
use Rattle.nsc_client.proofs.gate.serve_lines.Goals as goal

empty : (bytes : List ℕ) → (length bytes == 0) ≡ true → bytes ≡ []
empty [] is = refl
empty (b ∷ bytes) is =
    let none : length (b ∷ bytes) ≡ 0 = eqb-true (length (b ∷ bytes)) 0 is in
    absurd (omega (arith, none))

filled : (bytes : List ℕ) → (length bytes == 0) ≡ false → is_filled bytes ≡ true
filled [] is = cc
filled (b ∷ bytes) is = refl

pub returns-in_default-clause-stopped : goal.returns-in_default-clause-stopped
returns-in_default-clause-stopped g c = refuses_first g.S.Store c.args.stores.now c.args.passes.now (stream_in g.R.Source c.args.conn_in.now) (stream_out g.K.Sink c.args.conn_out.now)

pub returns-then-is_empty-clause-answered : goal.returns-then-is_empty-clause-answered
returns-then-is_empty-clause-answered g c =
    let end = c.in_ok-rest.ensures.answered in
    ends g.S.Store (gate_at c.args.passes.now (stream_in g.R.Source c.args.conn_in.now) (stream_out g.K.Sink c.args.conn_out.now))
    (gate_at c.serve_ended.new.passes (stream_in g.R.Source c.serve_ended.new.conn_in) (stream_out g.K.Sink c.serve_ended.new.conn_out)) c.in_ok-rest.lines c.in_ok-rest.rest.items
    (sym c.as_slice-last.ensures.value ∙ empty c.as_slice-last.result.now (sym c.is_empty.ensures ∙ c.if-is_empty.true)) end.drained end.has

pub returns-in_err-serve_last-clause-seen : goal.returns-in_err-serve_last-clause-seen
returns-in_err-serve_last-clause-seen g c = sees_on g.S.Store c.args.passes.now c.serve_ended.new.passes c.serve_last.new.passes c.serve_ended.ensures.seen c.serve_last.ensures.seen

pub returns-in_err-serve_last-clause-stopped : goal.returns-in_err-serve_last-clause-stopped
returns-in_err-serve_last-clause-stopped g c =
    let end = c.in_ok-rest.ensures.answered in
    let rest = c.in_ok-rest.rest.items in
    let input = stream_in g.R.Source c.serve_ended.new.conn_in in
    let by = c.in_err-serve_last.field-0.0 in
    let last : IsLastLine rest input.bytes = record { lone = end.lone; filled = subst (λ (l : List ℕ). is_filled l ≡ true) c.as_slice-last.ensures.value (filled c.as_slice-last.result.now (sym c.is_empty.ensures ∙ c.if-is_empty.false)); drained = end.drained } in
    let stop = subst (λ (l : List ℕ). IsStopped g.S.Store c.args.stores.now c.serve_ended.new.passes c.serve_last.new.passes (stream_out g.K.Sink c.serve_ended.new.conn_out) (stream_out g.K.Sink c.serve_last.new.conn_out) [] l by)
    (c.as_slice-last.ensures.value ∙ sym (front-whole rest end.lone)) c.in_err-serve_last.ensures.stopped in
    let serves = stopped g.S.Store c.args.stores.now (gate_at c.args.passes.now (stream_in g.R.Source c.args.conn_in.now) (stream_out g.K.Sink c.args.conn_out.now)) c.serve_ended.new.passes c.serve_last.new.passes input
    (stream_out g.K.Sink c.serve_ended.new.conn_out) (stream_out g.K.Sink c.serve_last.new.conn_out) c.in_ok-rest.lines rest [] by (inr last) c.serve_last.ensures.seen stop end.has in
    search (rules, serves, c.from_residual-in_err-serve_last.ensures)

pub returns-clause-seen : goal.returns-clause-seen
returns-clause-seen g c = sees_on g.S.Store c.args.passes.now c.serve_ended.new.passes c.serve_last.new.passes c.serve_ended.ensures.seen c.serve_last.ensures.seen

pub returns-clause-answered : goal.returns-clause-answered
returns-clause-answered g c =
    let end = c.in_ok-rest.ensures.answered in
    let rest = c.in_ok-rest.rest.items in
    let input = stream_in g.R.Source c.serve_ended.new.conn_in in
    let before = gate_at c.args.passes.now (stream_in g.R.Source c.args.conn_in.now) (stream_out g.K.Sink c.args.conn_out.now) in
    let last : IsLastLine rest input.bytes = record { lone = end.lone; filled = subst (λ (l : List ℕ). is_filled l ≡ true) c.as_slice-last.ensures.value (filled c.as_slice-last.result.now (sym c.is_empty.ensures ∙ c.if-is_empty.false)); drained = end.drained } in
    let taken = subst (λ (l : List ℕ). GathersAnswers g.S.Store c.serve_ended.new.passes c.serve_last.new.passes (stream_out g.K.Sink c.serve_ended.new.conn_out) (stream_out g.K.Sink c.serve_last.new.conn_out) [] [] (l ∷ []))
    c.as_slice-last.ensures.value c.in_ok-serve_last.ensures.served in
    let all = ends_with g.S.Store before c.serve_ended.new.passes c.serve_last.new.passes input (stream_out g.K.Sink c.serve_ended.new.conn_out) (stream_out g.K.Sink c.serve_last.new.conn_out) c.in_ok-rest.lines rest last
    c.serve_last.ensures.seen taken end.has in
    subst (λ (n : ℕ). AnswersAll g.S.Store before (gate_at c.serve_last.new.passes input (stream_out g.K.Sink c.serve_last.new.conn_out)) n) (sym c.next_count.ensures) all
