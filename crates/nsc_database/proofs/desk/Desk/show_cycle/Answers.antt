use Rattle.std.proofs.Common.{◌≤◌, inl, inr, subst}
use Rattle.nsc_model.specs.Machine.{last_count}
use Rattle.nsc_database.specs.Rests.{Desk}
use Rattle.nsc_database.proofs.Shown.{found_last}
use Rattle.nsc_database.proofs.Standing.{held_through}
use Rattle.nsc_database.proofs.desk.Desk.show_cycle.Goals as goal

pub returns-clause-frame : goal.returns-clause-frame
returns-clause-frame g c = held_through _ _ _ c.show.ensures.frame (held_through _ _ _ c.look_at_cycle.ensures.frame c.show-2.ensures.frame)

pub returns-clause-cycle : goal.returns-clause-cycle
returns-clause-cycle g c high =
    found_last c.args.pass.now.pass.searching c.show.new.pass.pass.searching c.look_at_cycle.new.self.pass.searching c.show-2.new.pass.pass.searching c.args.self.now.writer.cache.cycle c.show.new.self.writer.cache.cycle
    c.show.ensures.searching c.look_at_cycle.ensures.searches c.look_at_cycle.ensures.known c.look_at_cycle.ensures.most c.show-2.ensures.searching high

pub returns-clause-again : goal.returns-clause-again
returns-clause-again g c = elim c.show-2.ensures.again [
  | inl all ↦ inl all
  | inr high ↦ inr (returns-clause-cycle g c (subst (λ (d : Desk). last_count ≤ d.writer.cache.cycle) c.show.ensures.same high))
]
