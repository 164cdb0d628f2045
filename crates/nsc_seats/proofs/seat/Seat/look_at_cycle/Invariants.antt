use Rattle.std.specs.Prelude.{[]}
use Rattle.nsc_model.specs.declared.kind.Kind.TheVariants as kind
use Rattle.nsc_seats.proofs.seat.Seat.look_at_cycle.Given as goal

abbrev pub ghost-first_cycle : goal.ghost-first_cycle
ghost-first_cycle a = record { kind = kind.PwName; key = [] }
