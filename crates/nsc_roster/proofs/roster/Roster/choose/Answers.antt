use Rattle.std.proofs.Common.{rules, ◌≡◌, None}
use Rattle.nsc_roster.specs.declared.roster.HelperState.TheVariants.{Asleep, Called, Awake}
use Rattle.nsc_roster.specs.Rosters.{lowest}
use Rattle.nsc_roster.proofs.Rosters.{one-found}
use Rattle.nsc_roster.proofs.roster.Roster.choose.Goals as goal

pub returns-in_err-sleeper-clause-none : goal.returns-in_err-sleeper-clause-none
returns-in_err-sleeper-clause-none c sound =
    let awake : lowest Awake c.args.self.now ≡ None = search rules in
    let called : lowest Called c.args.self.now ≡ None = search rules in
    let asleep : lowest Asleep c.args.self.now ≡ None = search rules in
    absurd (one-found c.args.self.now sound awake called asleep)
