use Rattle.std.proofs.Common.{◌≡◌, ◌++◌}
use Rattle.std.specs.List.{flat_map}
use Rattle.nsc_fuzz.specs.Told.{saved_told}
use Rattle.nsc_fuzz.proofs.image.put_entries.Given as goal

abbrev pub invariant-entries : goal.invariant-entries
invariant-entries l = record {
  out : l.out.items ≡ l.initial.out.items ++ flat_map saved_told l.yielded;
  both : l.yielded ++ l.saved-iterator ≡ l.image;
}
