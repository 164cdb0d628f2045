use Rattle.std.proofs.Common.{◌≡◌, ◌≢◌, ℕ, List, length, ap, sym, ◌∙◌, arith}
use Rattle.std.proofs.lemmas.Bool.{eqb-false}
use Rattle.nsc_reader.proofs.Chains.{first_there, none_there, shape_there, wrong_there}
use Rattle.nsc_reader.proofs.chain.arrive.Goals as goal
use Rattle.nsc_reader.proofs.chain.arrive.Goals.{then-found-eq0-via-then-found-eq0, then-found-eq0-via-else-found-eq0+then-found-words}

pub returns-then-found-eq0-clause-at : goal.returns-then-found-eq0-clause-at
returns-then-found-eq0-clause-at c = λ content p key at.
    let words = c.words-words.ensures in
    elim c.then-found-eq0.branch [
      | then-found-eq0-via-then-found-eq0 w ↦ none_there c.args.layout content p c.args.found at w.if-found-eq0.true
      | then-found-eq0-via-else-found-eq0+then-found-words w ↦ let far = w.if-found-words.true in wrong_there c.args.layout content p c.args.found at w.if-found-eq0.false (omega arith)
    ]

pub returns-then-is_empty-clause-at : goal.returns-then-is_empty-clause-at
returns-then-is_empty-clause-at c = λ content p key at.
    let words = c.words-words.ensures in
    let near = c.if-found-words.false in
    shape_there c.args.layout p c.args.found at c.if-found-eq0.false (omega arith)

pub returns-clause-at : goal.returns-clause-at
returns-clause-at c = λ content p key at.
    let words = c.words-words.ensures in
    let near = c.if-place-words.false in
    let other : length c.args.key.now ≢ 0 = eqb-false (length c.args.key.now) 0 (sym c.is_empty.ensures ∙ c.if-is_empty.false) in
    let size : length p.searching.request.key ≡ length c.args.key.now = ap (λ (k : List ℕ). length k) key in
    first_there c.args.layout p c.args.found at c.if-found-eq0.false (omega arith) (omega arith)
