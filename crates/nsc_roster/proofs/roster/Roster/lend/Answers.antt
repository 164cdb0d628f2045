use Rattle.std.proofs.Common.{rules, ◌≡◌, false}
use Rattle.nsc_roster.specs.Rosters.{IsChosen}
use Rattle.nsc_roster.proofs.Rosters.{chosen-looks}
use Rattle.nsc_roster.proofs.roster.Roster.lend.Goals as goal

pub returns-else-lent-clause-sound : goal.returns-else-lent-clause-sound
returns-else-lent-clause-sound c sound =
    let lent = c.in_ok-lent-in-First.lent in
    let chosen : IsChosen lent c.args.self = search rules in
    let unowed : lent.is_owed ≡ false = search rules in
    record { helpers = sound.helpers; charge = chosen-looks lent c.args.self chosen unowed }
