-- What a run says of the whole input, where the source tells it, and of the exit.
use Rattle.std.proofs.Common.{◌≡◌, ℕ, ◌+◌, List, [], ◌++◌, length, drop, Option, Some, None, refl, sym, ap, subst, ◌∙◌, arith, inl, inr}
use Rattle.std.specs.Prelude.{IfSome}
use Rattle.std.proofs.lemmas.List.{drop_at, append-nil}
use Rattle.nsc_outside.specs.Stream.{Moves, IsDrained, Grows}
use Rattle.nsc_model.specs.Frames.{Finish, Done, Bad, Long, Spent}
use Rattle.nsc_model.specs.declared.conf.Conf.{Conf}
use Rattle.nsc_model.specs.Replay.{Replayed, first_state, replay}
use Rattle.nsc_model.specs.declared.exit.Exit.{Exit}
use Rattle.nsc_model.specs.declared.exit.Exit.TheVariants as exits
use Rattle.nsc_replay.specs.Streams.{Counted, Streams}
use Rattle.nsc_replay.specs.Runs.{FinishesBy, ReplayRun}
use Rattle.nsc_run.specs.Commands.{IsReplayed, StreamsCalm, TellsFinish, exit_at}

module _ (settings : Conf) (s : Streams) (bytes : List ℕ) (told : s.before.input.bytes ≡ Some bytes) where
  -- the whole input is the bytes that were read and those that are left
  moved_from : (front : List ℕ) → Moves s.before.input.bytes s.after.input.bytes front → Moves (Some bytes) s.after.input.bytes front
  moved_from front m = subst (λ (left : Option (List ℕ)). Moves left s.after.input.bytes front) told m

  replayed_at : ReplayRun settings first_state 0 s exits.Ok → IsReplayed settings bytes s
  replayed_at r =
      let moved = moved_from r.front r.transfers.moved in
      let rest = moved.0 in
      let same : r.front ++ rest ≡ bytes = sym moved.2 in
      let end : replay settings bytes ≡ record { output = r.out; finish = Done (0 + length r.front) } = ap (replay settings) (sym same) ∙ r.ends rest in
      record {
        place = length r.front;
        done = ap (λ (x : Replayed). x.finish) end ∙ (let zero : 0 + length r.front ≡ length r.front = omega arith in ap Done zero);
        left_is = moved.1 ∙ ap (λ (xs : List ℕ). Some xs) (sym (ap (λ (xs : List ℕ). drop (length r.front) xs) (sym same) ∙ drop_at r.front rest (length r.front) refl));
        grown = subst (Grows s.before.output.bytes s.after.output.bytes) (sym (ap (λ (x : Replayed). x.output) end)) r.transfers.grown;
      }

  -- how the replay of the whole input ends
  finish_tells : (finish : Finish) (front out : List ℕ) → Moves s.before.input.bytes s.after.input.bytes front → FinishesBy finish settings first_state 0 s.after.input.bytes front out → TellsFinish (replay settings bytes).finish (exit_at finish)
  finish_tells finish front out m f =
      let moved = moved_from front m in
      let rest = moved.0 in
      let same : front ++ rest ≡ bytes = sym moved.2 in
      let end : (replay settings bytes).finish ≡ finish = elim f [
        | inl always ↦ ap (λ (x : Replayed). x.finish) (ap (replay settings) (sym same) ∙ always rest)
        | inr here ↦ (let none : rest ≡ [] = subst IsDrained moved.1 here.0 in
            ap (λ (x : Replayed). x.finish) (ap (replay settings) (sym same ∙ (ap (λ (xs : List ℕ). front ++ xs) none ∙ append-nil front)) ∙ here.1))
      ] in
      inl (ap exit_at (sym end))

  tells_at : (exit : Exit) → ReplayRun settings first_state 0 s exit → Counted exit s → StreamsCalm s → TellsFinish (replay settings bytes).finish exit
  tells_at exits.Ok r counts calm = inl (ap exit_at (sym (replayed_at r).done))
  tells_at exits.ReadFault r counts calm = absurd (calm.input counts.input_rose)
  tells_at exits.WriteFault r counts calm = absurd (calm.output counts.output_rose)
  tells_at (exits.BadFrame offset) r counts calm = finish_tells (Bad offset) r.front r.out r.transfers.moved r.ends
  tells_at (exits.TooLong size) r counts calm = finish_tells (Long size) r.front r.out r.transfers.moved r.ends
  tells_at (exits.Spent count) r counts calm = finish_tells (Spent count) r.front r.out r.transfers.moved r.ends
  tells_at exits.NoMemory r counts calm = inr refl
  tells_at _ r counts calm = absurd r.ends

tells_from : (settings : Conf) (s : Streams) (left : Option (List ℕ)) → s.before.input.bytes ≡ left → (exit : Exit) → ReplayRun settings first_state 0 s exit → Counted exit s → StreamsCalm s
    → IfSome left (λ bytes. TellsFinish (replay settings bytes).finish exit)
tells_from settings s None told exit r counts calm = tt
tells_from settings s (Some bytes) told exit r counts calm = tells_at settings s bytes told exit r counts calm

pub tells : (settings : Conf) (s : Streams) (exit : Exit) → ReplayRun settings first_state 0 s exit → Counted exit s → StreamsCalm s → IfSome s.before.input.bytes (λ bytes. TellsFinish (replay settings bytes).finish exit)
tells settings s exit r counts calm = tells_from settings s s.before.input.bytes refl exit r counts calm

replayed_from : (settings : Conf) (s : Streams) (left : Option (List ℕ)) → s.before.input.bytes ≡ left → ReplayRun settings first_state 0 s exits.Ok → IfSome left (λ bytes. IsReplayed settings bytes s)
replayed_from settings s None told r = tt
replayed_from settings s (Some bytes) told r = replayed_at settings s bytes told r

-- the run of an exit that is Ok
pub ok_run : (settings : Conf) (s : Streams) (exit : Exit) → ReplayRun settings first_state 0 s exit → exit ≡ exits.Ok → IfSome s.before.input.bytes (λ bytes. IsReplayed settings bytes s)
ok_run settings s exit r e = replayed_from settings s s.before.input.bytes refl (subst (ReplayRun settings first_state 0 s) e r)
