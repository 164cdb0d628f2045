-- One round of a replay over a source and a sink.
use Rattle.std.proofs.Common.{◌≡◌, ℕ, ◌+◌, ◌<◌, ◌≤◌, List, [], ◌++◌, length, Option, Result, Ok, Err, refl, sym, ap, subst, ◌∙◌, append_assoc, arith, inl, inr}
use Rattle.std.proofs.lemmas.List.{append-nil}
use Rattle.nsc_outside.specs.Stream.{Grows}
use Rattle.nsc_outside.proofs.Streams.{Moves-nothing, Grows-nothing}
use Rattle.nsc_model.specs.Frames as frame
use Rattle.nsc_model.specs.Frames.{Frame, NoFrame, LongFile, frame_at, frame_size, Finish, Spent, place_limit, cut_by}
use Rattle.nsc_model.specs.declared.conf.Conf.{Conf}
use Rattle.nsc_model.specs.Replay.{State, Went, turn_of, Replayed, after_output, replay_from, play}
use Rattle.nsc_model.proofs.Parsers.{front_size}
use Rattle.nsc_model.proofs.Rounds.{Goes, round_goes, round_ends, round_stops, round_refused, round_partial, round_late}
use Rattle.nsc_model.specs.declared.exit.Exit.{Exit}
use Rattle.nsc_model.specs.declared.exit.Exit.TheVariants as exits
use Rattle.nsc_replay.specs.declared.halt.Halt.{Halt}
use Rattle.nsc_replay.specs.declared.halt.Halt.TheVariants as halts
use Rattle.nsc_replay.specs.Frame.{IsFollowed}
use Rattle.nsc_replay.specs.Reading.{Gets, Halts, halt_exit}
use Rattle.nsc_replay.specs.Turns.{DoesNot, FrameIsCutShort, FrameIsDone}
use Rattle.nsc_replay.specs.Streams.{Streams, StreamsAt}
use Rattle.nsc_replay.specs.Runs.{EndsBy, ReplayRun, RoundGoesOn}

followed : (f : Frame) → IsFollowed f → Goes f
followed (frame.Request input) h = tt
followed (frame.SetFile file held) h = tt
followed (frame.Time moment) h = tt
followed (frame.Invalidate db) h = tt
followed frame.End h = h

-- nothing is written for no byte
pub no_output : (settings : Conf) (s : State) (place : ℕ) → (replay_from settings s place []).output ≡ []
unfolding play cut_by
no_output settings s place = refl

same_taken : (had got : Option (List ℕ)) → got ≡ had → Grows had got []
same_taken had got e = subst (λ t. Grows had t []) (sym e) (Grows-nothing had)

-- ---- a frame is done

pub goes_on : (settings : Conf) (s next : State) (place next_place : ℕ) (frame : Frame) (streams : Streams) → place < place_limit → Gets frame_at streams.before.input.bytes streams.after.input.bytes frame → IsFollowed frame
    → FrameIsDone (turn_of settings s frame) next streams.before.output.bytes streams.after.output.bytes → next_place ≡ place + frame_size frame → RoundGoesOn settings s place next next_place streams
goes_on settings s next place next_place frame streams lt found follows done size = by_turn (turn_of settings s frame) refl done where
  by_turn : (turn : Result Went Finish) → turn_of settings s frame ≡ turn → FrameIsDone turn next streams.before.output.bytes streams.after.output.bytes → RoundGoesOn settings s place next next_place streams
  by_turn (Err finish) e d = absurd d
  by_turn (Ok went) e d = record {
    front = found.front;
    out = went.writes;
    transfers = record { moved = found.moved; grown = d.1 };
    place_is = let n : length found.front ≡ frame_size frame = front_size found.front frame found.finds in omega arith;
    goes = λ more.
        let n : length found.front ≡ frame_size frame = front_size found.front frame found.finds in
        let p : place + length found.front ≡ next_place = omega arith in
        round_goes settings s place found.front more frame went lt found.finds (followed frame follows) e
        ∙ (ap (λ k. after_output went.writes (replay_from settings went.state k more)) p ∙ ap (λ t. after_output went.writes (replay_from settings t next_place more)) d.0);
  }

-- ---- a frame ends the replay

cut_short : (settings : Conf) (s : State) (place : ℕ) (frame : Frame) (streams : Streams) (turn : Result Went Finish) → place < place_limit → Gets frame_at streams.before.input.bytes streams.after.input.bytes frame → IsFollowed frame
    → turn_of settings s frame ≡ turn → FrameIsCutShort turn streams.before.output.bytes streams.after.output.bytes → ReplayRun settings s place streams exits.WriteFault
cut_short settings s place frame streams (Err finish) lt found follows e c = absurd c
cut_short settings s place frame streams (Ok went) lt found follows e c =
    let rest = (replay_from settings went.state (place + length found.front) []).output in
    let whole = round_goes settings s place found.front [] frame went lt found.finds (followed frame follows) e in
    let here : replay_from settings s place found.front ≡ after_output went.writes (replay_from settings went.state (place + length found.front) []) = ap (λ (bytes : List ℕ). replay_from settings s place bytes) (sym (append-nil found.front)) ∙ whole in
    record {
      front = found.front;
      out = c.0;
      transfers = record { moved = found.moved; grown = c.2 };
      ends = (c.1.0 ++ rest, ap (λ (r : Replayed). r.output) here ∙ (ap (λ (w : List ℕ). w ++ rest) c.1.1 ∙ append_assoc c.0 c.1.0 rest));
    }

-- what ends a frame ends the replay
pub does_not : (settings : Conf) (s : State) (place : ℕ) (frame : Frame) (streams : Streams) (by : Exit) → place < place_limit → Gets frame_at streams.before.input.bytes streams.after.input.bytes frame → IsFollowed frame
    → DoesNot (turn_of settings s frame) streams.before.output.bytes streams.after.output.bytes by → ReplayRun settings s place streams by
does_not settings s place frame streams exits.NoMemory lt found follows d = record {
  front = found.front;
  out = [];
  transfers = record { moved = found.moved; grown = same_taken streams.before.output.bytes streams.after.output.bytes d };
  ends = inr (record { earlier = []; last = found.front; parts = refl; frame_is = frame; one_frame = found.finds; written_is = sym (no_output settings s place) });
}
does_not settings s place frame streams (exits.Spent count) lt found follows d = record {
  front = found.front;
  out = [];
  transfers = record { moved = found.moved; grown = same_taken streams.before.output.bytes streams.after.output.bytes d.1 };
  ends = inl (λ more. round_ends settings s place found.front more frame (Spent count) lt found.finds (followed frame follows) d.0);
}
does_not settings s place frame streams exits.WriteFault lt found follows d = cut_short settings s place frame streams (turn_of settings s frame) lt found follows refl d
does_not settings s place frame streams _ lt found follows d = absurd d

-- ---- the first E, and what is no frame

-- nothing was written
module _ (settings : Conf) (s : State) (place : ℕ) (streams : Streams) (same : streams.after.output.bytes ≡ streams.before.output.bytes) where
  pub stops : place < place_limit → Gets frame_at streams.before.input.bytes streams.after.input.bytes frame.End → ReplayRun settings s place streams exits.Ok
  stops lt found = record {
    front = found.front;
    out = [];
    transfers = record { moved = found.moved; grown = same_taken streams.before.output.bytes streams.after.output.bytes same };
    ends = λ more. round_stops settings s place found.front more lt found.finds;
  }

  halted_by : (halt : Halt) (h : Halts frame_at streams.before.input.bytes streams.after.input.bytes halt) → EndsBy (halt_exit place halt) settings s place streams.after.input.bytes h.front [] → ReplayRun settings s place streams (halt_exit place halt)
  halted_by halt h ends = record { front = h.front; out = []; transfers = record { moved = h.moved; grown = same_taken streams.before.output.bytes streams.after.output.bytes same }; ends = ends }

  pub halts_run : (halt : Halt) → place < place_limit → Halts frame_at streams.before.input.bytes streams.after.input.bytes halt → ReplayRun settings s place streams (halt_exit place halt)
  halts_run halts.Ended lt h = halted_by halts.Ended h (inr (h.stops.1, round_partial settings s place h.front lt h.stops.0))
  halts_run halts.NoFrame lt h = halted_by halts.NoFrame h (inl (λ more. round_refused settings s place h.front more NoFrame lt h.stops))
  halts_run (halts.LongFile size) lt h = halted_by (halts.LongFile size) h (inl (λ more. round_refused settings s place h.front more (LongFile size) lt h.stops))
  halts_run halts.ReadFault lt h = halted_by halts.ReadFault h (sym (ap (λ (r : Replayed). r.output) (round_partial settings s place h.front lt h.stops)))
  halts_run halts.NoMemory lt h = halted_by halts.NoMemory h (inl (sym (ap (λ (r : Replayed). r.output) (round_partial settings s place h.front lt h.stops))))

-- no frame begins so late
pub late : (settings : Conf) (s : State) (place : ℕ) (at : StreamsAt) → place_limit ≤ place → ReplayRun settings s place (record { before = at; after = at }) (exits.BadFrame place)
late settings s place at le = record { front = []; out = []; transfers = record { moved = Moves-nothing at.input.bytes; grown = Grows-nothing at.output.bytes }; ends = inl (λ more. round_late settings s place more le) }

-- memory was short before anything was read
pub no_start : (settings : Conf) (s : State) (place : ℕ) (at : StreamsAt) → ReplayRun settings s place (record { before = at; after = at }) exits.NoMemory
no_start settings s place at = record { front = []; out = []; transfers = record { moved = Moves-nothing at.input.bytes; grown = Grows-nothing at.output.bytes }; ends = inl (sym (no_output settings s place)) }
