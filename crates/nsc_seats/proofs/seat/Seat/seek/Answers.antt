use Rattle.std.proofs.Common.{subst}
use Rattle.std.specs.Bool.{OnTrue}
use Rattle.std.specs.Option.{is_some}
use Rattle.nsc_model.specs.InPlace.{IsOdd}
use Rattle.nsc_rule.specs.Pass.{Pass}
use Rattle.nsc_seats.proofs.Retired.{if_left}
use Rattle.nsc_seats.proofs.seat.Seat.seek.Goals as goal

pub returns-clause-left : goal.returns-clause-left
returns-clause-left c =
    subst (λ (p : Pass). OnTrue (is_some p.retired) (IsOdd c.seek.result.answer)) c.self.view_is (if_left _ _ c.seek.ensures.left)
