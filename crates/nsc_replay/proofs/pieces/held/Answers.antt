use Rattle.std.proofs.Common.{◌≡◌, ℕ, List, [], ltb, true, false, arith, subst, sym, length, rules}
use Rattle.std.proofs.lemmas.Bool.{lt-ltb, le-ltb}
use Rattle.std.proofs.lemmas.Grind.{common_steps}
use Rattle.std.proofs.lemmas.Result.{err_from_is_err_and}
use Rattle.nsc_model.specs.Files.{file_limit}
use Rattle.nsc_model.specs.Frames.{LongFile, chunk, held_at}
use Rattle.nsc_replay.specs.declared.halt.Halt.TheVariants as halts
use Rattle.nsc_replay.specs.Reading.{Halts, Gets}
use Rattle.nsc_replay.proofs.Steps.{guard_too_long, guard_halts, guard_gets, no_room, gets_empty}
use Rattle.nsc_replay.proofs.pieces.held.Goals as goal

pub returns-then-size-gt-LIMIT-clause-reads : goal.returns-then-size-gt-LIMIT-clause-reads
unfolding held_at
returns-then-size-gt-LIMIT-clause-reads g c =
    let above : ltb file_limit c.args.size ≡ true = lt-ltb _ _ (omega arith) in
    guard_too_long (ltb file_limit c.args.size) c.args.size (chunk c.args.size) (g.R.Source.left c.args.input.now) above

pub returns-then-size-eq0-clause-reads : goal.returns-then-size-eq0-clause-reads
unfolding held_at
returns-then-size-eq0-clause-reads g c =
    let fits : ltb file_limit c.args.size ≡ false = le-ltb _ _ (omega arith) in
    let none : c.from_vec.result ≡ [] = search rules in
    subst (λ (bytes : List ℕ). Gets (held_at c.args.size) (g.R.Source.left c.args.input.now) (g.R.Source.left c.args.input.now) bytes) (sym none)
    (guard_gets (ltb file_limit c.args.size) (LongFile c.args.size) (chunk c.args.size) (g.R.Source.left c.args.input.now) (g.R.Source.left c.args.input.now) [] fits (gets_empty c.args.size (g.R.Source.left c.args.input.now) (omega arith)))

pub returns-in_err-bytes-clause-reads : goal.returns-in_err-bytes-clause-reads
unfolding held_at
returns-in_err-bytes-clause-reads g c =
    let p = err_from_is_err_and c.from_residual.result c.from_residual.ensures.1 in
    let fits : ltb file_limit c.args.size ≡ false = le-ltb _ _ (omega arith) in
    rw (p.1, p.2) (guard_halts (ltb file_limit c.args.size) (LongFile c.args.size) (chunk c.args.size) (g.R.Source.left c.args.input.now) (g.R.Source.left c.args.input.now) halts.NoMemory fits (no_room c.args.size (g.R.Source.left c.args.input.now) (omega arith)))

pub returns-in_err-fill_piece-clause-reads : goal.returns-in_err-fill_piece-clause-reads
unfolding held_at
returns-in_err-fill_piece-clause-reads g c =
    let p = err_from_is_err_and c.from_residual-in_err-fill_piece.result c.from_residual-in_err-fill_piece.ensures.1 in
    let fits : ltb file_limit c.args.size ≡ false = le-ltb _ _ (omega arith) in
    let len : length c.deref_mut.result.now ≡ c.args.size = grind (arith, common_steps) in
    rw (p.1, p.2) (guard_halts (ltb file_limit c.args.size) (LongFile c.args.size) (chunk c.args.size) (g.R.Source.left c.args.input.now) (g.R.Source.left c.fill_piece.new.input) c.in_err-fill_piece.field-0.0 fits
    (subst (λ (n : ℕ). Halts (chunk n) (g.R.Source.left c.args.input.now) (g.R.Source.left c.fill_piece.new.input) c.in_err-fill_piece.field-0.0) len c.in_err-fill_piece.ensures.reads))

pub returns-clause-reads : goal.returns-clause-reads
unfolding held_at
returns-clause-reads g c =
    let fits : ltb file_limit c.args.size ≡ false = le-ltb _ _ (omega arith) in
    let len : length c.deref_mut.result.now ≡ c.args.size = grind (arith, common_steps) in
    let same : c.from_vec-2.result ≡ c.fill_piece.new.piece = grind (arith, common_steps) in
    subst (λ (bytes : List ℕ). Gets (held_at c.args.size) (g.R.Source.left c.args.input.now) (g.R.Source.left c.fill_piece.new.input) bytes) (sym same)
    (guard_gets (ltb file_limit c.args.size) (LongFile c.args.size) (chunk c.args.size) (g.R.Source.left c.args.input.now) (g.R.Source.left c.fill_piece.new.input) c.fill_piece.new.piece fits
    (subst (λ (n : ℕ). Gets (chunk n) (g.R.Source.left c.args.input.now) (g.R.Source.left c.fill_piece.new.input) c.fill_piece.new.piece) len c.in_ok-fill_piece.ensures.reads))
