use Rattle.std.proofs.Common.{List, subst, sym, arith}
use Rattle.nsc_model.specs.Image.{ImageBytes, Saved}
use Rattle.nsc_image.specs.Versions.{number_of}
use Rattle.nsc_image.proofs.Laws.{all_passed, fill_readable}
use Rattle.nsc_image.proofs.verification.checked.Goals as goal

pub new-requires : goal.new-requires
new-requires c = fill_readable c.args.db (number_of c.in_ok-version.version) c.in_ok-version.count c.in_ok-version.entries.now c.in-None.ensures.none

pub returns-in-None-clause-image : goal.returns-in-None-clause-image
returns-in-None-clause-image c = (
  number_of c.in_ok-version.version,
  subst (λ (l : List Saved). ImageBytes c.args.db (number_of c.in_ok-version.version) l c.args.bytes.now) (sym c.new.ensures)
      (all_passed c.args.db c.args.bytes.now (number_of c.in_ok-version.version) c.in_ok-version.count c.in_ok-version.entries.now (λ i. omega (arith, c.type_inv.bytes i)) c.in_ok-version.ensures.ok c.in-None.ensures.none),
)
