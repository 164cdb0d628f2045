use Rattle.std.proofs.Common.{◌≡◌, ◌∙◌, ℕ, ◌+◌, ◌≤◌, Bool, true, false, List, [], ◌∷◌, length, drop, slice_range, refl, sym, ap, subst, arith, rules, inl}
use Rattle.std.specs.List.{after_first, list_any}
use Rattle.std.proofs.lemmas.List.{take_rest}
use Rattle.nsc_outside.specs.StreamAt.{stream_in, stream_out}
use Rattle.nsc_model.specs.Machine.{next_count}
use Rattle.nsc_client.specs.Gathered.{GathersAnswers, HasGathered, IsStopped}
use Rattle.nsc_client.specs.Held.{ComesOrEnds, GivesNone}
use Rattle.nsc_client.specs.LinesRead.{front_line, is_newline}
use Rattle.nsc_client.specs.Serving.{gate_at}
use Rattle.nsc_client.proofs.Answering.{sees_on}
use Rattle.nsc_client.proofs.Connections.{answers_line, begins, breaks, none_came, reads_part, stopped, writes_all}
use Rattle.nsc_client.proofs.LinesRead.{rest-passed, rest-within}
use Rattle.nsc_client.proofs.gate.serve_ended.Goals as goal

pub loop-init : goal.loop-init
loop-init g c = record {
  passes = c.requires.passes;
  limit = refl;
  within = omega arith;
  has = begins g.S.Store (gate_at c.args.passes.now (stream_in g.R.Source c.args.conn_in.now) (stream_out g.K.Sink c.args.conn_out.now)) c.new-held.result.items c.args.pending.now c.new-held.ensures.items c.requires.empty;
}

pub returns-in_err-serve_short-clause-seen : goal.returns-in_err-serve_short-clause-seen
returns-in_err-serve_short-clause-seen g c = sees_on g.S.Store c.args.passes.now c.loop.passes c.serve_short.new.passes c.loop.invariant.has.goes_on c.serve_short.ensures.seen

-- what is looked at is what is held from the place on
slice-rest : (held slice : List ℕ) (at : ℕ) → slice ≡ held → slice_range slice at (length slice) ≡ drop at held
slice-rest held slice at same = take_rest slice at ∙ ap (λ (l : List ℕ). drop at l) same

pub returns-in_err-serve_short-clause-stopped : goal.returns-in_err-serve_short-clause-stopped
returns-in_err-serve_short-clause-stopped g c =
    let rest = drop c.loop.at c.loop.held.items in
    let slice = slice_range c.deref.result.now c.loop.at (length c.deref.result.now) in
    let same : slice ≡ rest = slice-rest c.loop.held.items c.deref.result.now c.loop.at c.deref.ensures.value in
    let has : list_any is_newline slice ≡ true = c.in-Some-cut_at.ensures.0 in
    let line : c.in-Some-cut_at.line.now ≡ front_line slice = c.in-Some-cut_at.ensures.1 in
    let by = c.in_err-serve_short.field-0.0 in
    let stop : IsStopped g.S.Store c.args.stores.now c.loop.passes c.serve_short.new.passes (stream_out g.K.Sink c.loop.conn_out) (stream_out g.K.Sink c.serve_short.new.conn_out) c.loop.pending (front_line rest) by =
    subst (λ (l : List ℕ). IsStopped g.S.Store c.args.stores.now c.loop.passes c.serve_short.new.passes (stream_out g.K.Sink c.loop.conn_out) (stream_out g.K.Sink c.serve_short.new.conn_out) c.loop.pending l by) (line ∙ ap front_line same) c.in_err-serve_short.ensures.stopped in
    let serves = stopped g.S.Store c.args.stores.now (gate_at c.args.passes.now (stream_in g.R.Source c.args.conn_in.now) (stream_out g.K.Sink c.args.conn_out.now)) c.loop.passes c.serve_short.new.passes (stream_in g.R.Source c.loop.conn_in)
    (stream_out g.K.Sink c.loop.conn_out) (stream_out g.K.Sink c.serve_short.new.conn_out) c.loop.lines rest c.loop.pending by (inl (subst (λ (t : List ℕ). list_any is_newline t ≡ true) same has)) c.serve_short.ensures.seen stop c.loop.invariant.has in
    search (rules, serves, c.from_residual.ensures)

pub loop-preserved-in-Some-cut_at : goal.loop-preserved-in-Some-cut_at
loop-preserved-in-Some-cut_at g c =
    let rest = drop c.loop.at c.loop.held.items in
    let slice = slice_range c.deref.result.now c.loop.at (length c.deref.result.now) in
    let same : slice ≡ rest = slice-rest c.loop.held.items c.deref.result.now c.loop.at c.deref.ensures.value in
    let has : list_any is_newline rest ≡ true = subst (λ (t : List ℕ). list_any is_newline t ≡ true) same c.in-Some-cut_at.ensures.0 in
    let first : c.in-Some-cut_at.line.now ≡ front_line slice = c.in-Some-cut_at.ensures.1 in
    let line : c.in-Some-cut_at.line.now ≡ front_line rest = first ∙ ap front_line same in
    let gathers = subst (λ (l : List ℕ). GathersAnswers g.S.Store c.loop.passes c.serve_short.new.passes (stream_out g.K.Sink c.loop.conn_out) (stream_out g.K.Sink c.serve_short.new.conn_out) c.loop.pending c.serve_short.new.pending (l ∷ [])) line c.in_ok-serve_short.ensures.served in
    let before = gate_at c.args.passes.now (stream_in g.R.Source c.args.conn_in.now) (stream_out g.K.Sink c.args.conn_out.now) in
    let now = gate_at c.serve_short.new.passes (stream_in g.R.Source c.loop.conn_in) (stream_out g.K.Sink c.serve_short.new.conn_out) in
    let answered = answers_line g.S.Store before c.loop.passes c.serve_short.new.passes (stream_in g.R.Source c.loop.conn_in) (stream_out g.K.Sink c.loop.conn_out) (stream_out g.K.Sink c.serve_short.new.conn_out) c.loop.lines rest
    c.loop.pending c.serve_short.new.pending has c.serve_short.ensures.seen gathers c.loop.invariant.has in
    let next : after_first is_newline rest ≡ drop (c.loop.at + (length c.in-Some-cut_at.line.now + 1)) c.loop.held.items =
    sym (ap (λ (l : List ℕ). drop (c.loop.at + (length l + 1)) c.loop.held.items) line ∙ rest-passed c.loop.held.items c.loop.at) in
    let within : c.loop.at + (length c.in-Some-cut_at.line.now + 1) ≤ length c.loop.held.items =
    subst (λ (l : List ℕ). c.loop.at + (length l + 1) ≤ length c.loop.held.items) (sym line) (rest-within c.loop.held.items c.loop.at has) in
    record {
      passes = c.serve_short.ensures.passes;
      limit = c.serve_short.ensures.limit ∙ c.loop.invariant.limit;
      within = within;
      has = subst (λ (n : ℕ). HasGathered g.S.Store before now n (drop (c.loop.at + (length c.in-Some-cut_at.line.now + 1)) c.loop.held.items) c.serve_short.new.pending) (sym c.next_count-lines.ensures) (subst (λ (r : List ℕ). HasGathered g.S.Store before now (next_count c.loop.lines) r c.serve_short.new.pending) next answered);
    }

pub returns-then-not-branch-clause-answered : goal.returns-then-not-branch-clause-answered
returns-then-not-branch-clause-answered g c =
    let before = gate_at c.args.passes.now (stream_in g.R.Source c.args.conn_in.now) (stream_out g.K.Sink c.args.conn_out.now) in
    let input = stream_in g.R.Source c.loop.conn_in in
    let input' = stream_in g.R.Source c.read_more.new.conn_in in
    let output = stream_out g.K.Sink c.flush.new.conn_out in
    let rest = drop c.loop.at c.loop.held.items in
    let new = c.read_more.new.held.items in
    let slice = slice_range c.deref.result.now c.loop.at (length c.deref.result.now) in
    let same : slice ≡ rest = slice-rest c.loop.held.items c.deref.result.now c.loop.at c.deref.ensures.value in
    let all = writes_all g.S.Store before c.loop.passes input (stream_out g.K.Sink c.loop.conn_out) output c.loop.lines rest c.loop.pending c.in_ok-flush.ensures.written c.loop.invariant.has in
    let come : ComesOrEnds input input' rest new c.in_ok-read_more.field-0 = subst (λ (r : List ℕ). ComesOrEnds input input' r new c.in_ok-read_more.field-0) c.drop_front.ensures c.in_ok-read_more.ensures.come in
    let ended : ComesOrEnds input input' rest new false = subst (λ (more : Bool). ComesOrEnds input input' rest new more) c.if-not-branch.true come in
    record {
      has = reads_part g.S.Store before c.loop.passes input input' output c.loop.lines rest new [] ended.0 all;
      lone = subst (λ (t : List ℕ). list_any is_newline t ≡ false) (same ∙ sym ended.1) c.in_default.ensures;
      drained = ended.2;
    }

pub loop-preserved : goal.loop-preserved
loop-preserved g c =
    let before = gate_at c.args.passes.now (stream_in g.R.Source c.args.conn_in.now) (stream_out g.K.Sink c.args.conn_out.now) in
    let input = stream_in g.R.Source c.loop.conn_in in
    let input' = stream_in g.R.Source c.read_more.new.conn_in in
    let output = stream_out g.K.Sink c.flush.new.conn_out in
    let rest = drop c.loop.at c.loop.held.items in
    let new = c.read_more.new.held.items in
    let all = writes_all g.S.Store before c.loop.passes input (stream_out g.K.Sink c.loop.conn_out) output c.loop.lines rest c.loop.pending c.in_ok-flush.ensures.written c.loop.invariant.has in
    let come : ComesOrEnds input input' rest new c.in_ok-read_more.field-0 = subst (λ (r : List ℕ). ComesOrEnds input input' r new c.in_ok-read_more.field-0) c.drop_front.ensures c.in_ok-read_more.ensures.come in
    let more : ComesOrEnds input input' rest new true = subst (λ (more : Bool). ComesOrEnds input input' rest new more) c.if-not-branch.false come in
    record {
      passes = c.loop.invariant.passes;
      limit = c.loop.invariant.limit;
      within = omega arith;
      has = subst (λ (p : List ℕ). HasGathered g.S.Store before (gate_at c.loop.passes input' output) c.loop.lines new p) (sym c.in_ok-flush.ensures.emptied)
          (reads_part g.S.Store before c.loop.passes input input' output c.loop.lines rest new [] more all);
    }

pub returns-in_err-flush-clause-stopped : goal.returns-in_err-flush-clause-stopped
returns-in_err-flush-clause-stopped g c =
    let rest = drop c.loop.at c.loop.held.items in
    let by = c.in_err-flush.field-0.0 in
    let serves = breaks g.S.Store c.args.stores.now (gate_at c.args.passes.now (stream_in g.R.Source c.args.conn_in.now) (stream_out g.K.Sink c.args.conn_out.now)) c.loop.passes (stream_in g.R.Source c.loop.conn_in)
    (stream_out g.K.Sink c.loop.conn_out) (stream_out g.K.Sink c.flush.new.conn_out) c.loop.lines rest c.loop.pending by c.in_err-flush.ensures.broken c.loop.invariant.has in
    search (rules, serves, c.from_residual-in_err-flush.ensures)

pub returns-in_err-read_more-clause-stopped : goal.returns-in_err-read_more-clause-stopped
returns-in_err-read_more-clause-stopped g c =
    let rest = drop c.loop.at c.loop.held.items in
    let slice = slice_range c.deref.result.now c.loop.at (length c.deref.result.now) in
    let same : slice ≡ rest = slice-rest c.loop.held.items c.deref.result.now c.loop.at c.deref.ensures.value in
    let none : list_any is_newline slice ≡ false = c.in_default.ensures in
    let by = c.in_err-read_more.field-0.0 in
    let stop = subst (λ (r : List ℕ). GivesNone (stream_in g.R.Source c.loop.conn_in) (stream_in g.R.Source c.read_more.new.conn_in) r by) c.drop_front.ensures c.in_err-read_more.ensures.none in
    let before = gate_at c.args.passes.now (stream_in g.R.Source c.args.conn_in.now) (stream_out g.K.Sink c.args.conn_out.now) in
    let input = stream_in g.R.Source c.loop.conn_in in
    let output = stream_out g.K.Sink c.flush.new.conn_out in
    let all = writes_all g.S.Store before c.loop.passes input (stream_out g.K.Sink c.loop.conn_out) output c.loop.lines rest c.loop.pending c.in_ok-flush.ensures.written c.loop.invariant.has in
    let serves = none_came g.S.Store c.args.stores.now before c.loop.passes input (stream_in g.R.Source c.read_more.new.conn_in) output c.loop.lines rest by
    (subst (λ (t : List ℕ). list_any is_newline t ≡ false) same none) stop all in
    search (rules, serves, c.from_residual-in_err-read_more.ensures)
