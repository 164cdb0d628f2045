use Rattle.std.proofs.Common.{◌≡◌, ap, rules}
use Rattle.nsc_outside.specs.Release.{Release}
use Rattle.nsc_outside.proofs.held_files.HeldFiles.fetch.Goals as goal

pub returns-clause-answer : goal.returns-clause-answer
returns-clause-answer g c =
    let found : c.is_set-found.new.self.is_set ≡ c.is_set-found.result = ap (λ (r : Release). r.is_set) c.is_set-found.ensures.told in
    rw found (search rules)
