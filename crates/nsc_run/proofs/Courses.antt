-- What the course of a run says of its exit.
use Rattle.std.proofs.Common.{◌≡◌, ℕ, List, Option, inl, inr, subst}
use Rattle.nsc_replay.specs.Streams.{Streams}
use Rattle.nsc_model.specs.declared.exit.Exit.{Exit}
use Rattle.nsc_model.specs.declared.exit.Exit.TheVariants as exits
use Rattle.nsc_run.specs.Commands.{Course, IsReplayedBy, NotSet}
use Rattle.nsc_run.proofs.Ends.{ok_run}

-- at Ok the replay is done
pub done_by : (told : Option (Option (List ℕ))) (a b : ℕ) (s : Streams) (exit : Exit) → Course told a b s exit → exit ≡ exits.Ok → IsReplayedBy told s
done_by told a b s exit (inl ran) e = record { settings = ran.settings; of_config = ran.is_set.of_config; replayed = ok_run ran.settings s exit ran.run e }
done_by told a b s exit (inr stopped) e = absurd (subst (NotSet told a b) e stopped.0)
