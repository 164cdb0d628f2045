-- A round, and then the rest of the run.
use Rattle.std.proofs.Common.{◌≡◌, ℕ, ◌+◌, List, Option, ◌++◌, length, sym, ap, ◌∙◌, append_assoc, arith, inl, inr}
use Rattle.std.proofs.lemmas.List.{length-append}
use Rattle.nsc_outside.proofs.Streams.{Moves-then, Grows-then}
use Rattle.nsc_model.specs.Exits.{IsExitOf, Replaying}
use Rattle.nsc_model.specs.Frames.{Finish, Done, Bad, Long, Spent}
use Rattle.nsc_model.specs.declared.conf.Conf.{Conf}
use Rattle.nsc_model.specs.Replay.{State, Replayed, after_output, replay_from}
use Rattle.nsc_model.specs.declared.exit.Exit.{Exit}
use Rattle.nsc_model.specs.declared.exit.Exit.TheVariants as exits
use Rattle.nsc_replay.specs.Streams.{StreamsAt}
use Rattle.nsc_replay.specs.Runs.{EndsBy, FinishesBy, ReplayRun, RoundGoesOn}

module _ (settings : Conf) (s next : State) (place next_place : ℕ) (before mid after : StreamsAt) (a : RoundGoesOn settings s place next next_place (record { before = before; after = mid })) where
  -- what the replay of two parts is, by the replay of the second
  joined : (xs : List ℕ) (r : Replayed) → replay_from settings next next_place xs ≡ r → replay_from settings s place (a.front ++ xs) ≡ after_output a.out r
  joined xs r e = a.goes xs ∙ ap (after_output a.out) e

  regrouped : (xs more : List ℕ) → replay_from settings s place ((a.front ++ xs) ++ more) ≡ replay_from settings s place (a.front ++ (xs ++ more))
  regrouped xs more = ap (λ (bytes : List ℕ). replay_from settings s place bytes) (append_assoc a.front xs more)

  output_joined : (xs : List ℕ) → (replay_from settings s place (a.front ++ xs)).output ≡ a.out ++ (replay_from settings next next_place xs).output
  output_joined xs = ap (λ (r : Replayed). r.output) (a.goes xs)

  finishes : (finish : Finish) (front out : List ℕ) → FinishesBy finish settings next next_place after.input.bytes front out → FinishesBy finish settings s place after.input.bytes (a.front ++ front) (a.out ++ out)
  finishes finish front out f = elim f [
    | inl always ↦ inl (λ more. regrouped front more ∙ joined (front ++ more) _ (always more))
    | inr here ↦ inr (here.0, joined front _ here.1)
  ]

  ends_later : (by : Exit) (front out : List ℕ) → EndsBy by settings next next_place after.input.bytes front out → EndsBy by settings s place after.input.bytes (a.front ++ front) (a.out ++ out)
  ends_later exits.Ok front out f = λ more.
      let p = a.place_is in
      let len : next_place + length front ≡ place + length (a.front ++ front) = omega (arith, length-append a.front front) in
      regrouped front more ∙ (joined (front ++ more) _ (f more) ∙ ap (λ p. record { output = a.out ++ out; finish = Done p }) len)
  ends_later exits.ReadFault front out f = ap (λ (w : List ℕ). a.out ++ w) f ∙ sym (output_joined front)
  ends_later exits.WriteFault front out f = (f.0, output_joined front ∙ (ap (λ (w : List ℕ). a.out ++ w) f.1 ∙ sym (append_assoc a.out out f.0)))
  ends_later (exits.BadFrame offset) front out f = finishes (Bad offset) front out f
  ends_later (exits.TooLong size) front out f = finishes (Long size) front out f
  ends_later (exits.Spent count) front out f = finishes (Spent count) front out f
  ends_later exits.NoMemory front out f = elim f [
    | inl all ↦ inl (ap (λ (w : List ℕ). a.out ++ w) all ∙ sym (output_joined front))
    | inr but ↦ inr (record {
      earlier = a.front ++ but.earlier;
      last = but.last;
      parts = ap (λ (w : List ℕ). a.front ++ w) but.parts ∙ sym (append_assoc a.front but.earlier but.last);
      frame_is = but.frame_is;
      one_frame = but.one_frame;
      written_is = ap (λ (w : List ℕ). a.out ++ w) but.written_is ∙ sym (output_joined but.earlier);
    })
  ]
  ends_later _ front out f = absurd f

  -- a round that goes on, and a run from there, are a run
  pub chained : (by : Exit) → ReplayRun settings next next_place (record { before = mid; after = after }) by → ReplayRun settings s place (record { before = before; after = after }) by
  chained by b = record {
    front = a.front ++ b.front;
    out = a.out ++ b.out;
    transfers = record {
      moved = Moves-then before.input.bytes mid.input.bytes after.input.bytes a.front b.front a.transfers.moved b.transfers.moved;
      grown = Grows-then before.output.bytes mid.output.bytes after.output.bytes a.out b.out a.transfers.grown b.transfers.grown;
    };
    ends = ends_later by b.front b.out b.ends;
  }

-- a run ends as a replay may
pub replays : (settings : Conf) (s : State) (place : ℕ) (left : Option (List ℕ)) (front out : List ℕ) (exit : Exit) → EndsBy exit settings s place left front out → IsExitOf Replaying exit
replays settings s place left front out exits.Usage e = absurd e
replays settings s place left front out (exits.BadConf fault) e = absurd e
replays settings s place left front out exits.SourceFault e = absurd e
replays settings s place left front out exits.NetFault e = absurd e
replays settings s place left front out exits.BadReply e = absurd e
replays settings s place left front out (exits.AuditNo item) e = absurd e
replays settings s place left front out _ e = tt
