use Rattle.std.proofs.Common.{◌≡◌, ℕ, List, length, sym, ap, subst, arith}
use Rattle.nsc_words.specs.Laid.{Stands}
use Rattle.nsc_arena.proofs.Rows.{inside}
use Rattle.nsc_arena.specs.declared.reading.Head.{Head}
use Rattle.nsc_shelf.proofs.Numbers.{marked_found}
use Rattle.nsc_shelf.proofs.finding.find_from.Goals as goal

pub first_from-requires-clause-laid : goal.first_from-requires-clause-laid
first_from-requires-clause-laid g c = let all = c.requires.laid in (all.0, all.1, c.start_for-from.ensures all.0 all.2)

pub returns-in_default-clause-found : goal.returns-in_default-clause-found
returns-in_default-clause-found g c = λ nodes laid mark. c.in_default.ensures.first nodes laid (c.start_for-from.ensures nodes mark)

pub head_at-head-requires-clause-inside : goal.head_at-head-requires-clause-inside
head_at-head-requires-clause-inside g c =
    let all = c.requires.laid in
    let first = c.in-Some.ensures.first all.0 all.1 (c.start_for-from.ensures all.0 all.2) in
    let here = inside (g.W.Words.words c.args.words.now) c.args.map all.0 first.0 c.requires.layout all.1 first.1 in
    let place = first.2 in
    let fits = here.1 in
    let same : length (g.W.Words.words c.first_from.new.table) ≡ length (g.W.Words.words c.args.words.now) = ap length c.first_from.ensures.same in
    omega arith

pub returns-clause-found : goal.returns-clause-found
returns-clause-found g c = λ nodes laid mark.
    let first = c.in-Some.ensures.first nodes laid (c.start_for-from.ensures nodes mark) in
    let stands = subst (λ (ws : List ℕ). Stands ws first.0) (sym c.first_from.ensures.same) (laid.stands first.0 first.1) in
    (first.0, first.1, first.2, first.3, first.4, first.5, c.head_at-head.ensures.head first.0 stands first.2)

pub returns-clause-marked : goal.returns-clause-marked
returns-clause-marked g c = λ nodes laid mark.
    let first = c.in-Some.ensures.first nodes laid (c.start_for-from.ensures nodes mark) in
    let stands = subst (λ (ws : List ℕ). Stands ws first.0) (sym c.first_from.ensures.same) (laid.stands first.0 first.1) in
    let head = c.head_at-head.ensures.head first.0 stands first.2 in
    marked_found (g.W.Words.words c.args.words.now) c.args.map nodes c.in-Some.at c.head_at-head.result.number first.0 laid first.1 first.2 (ap (λ (h : Head). h.number) head)
