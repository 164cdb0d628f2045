-- What a run says at Ok and where no fault came, from what came of it, form by form.
use Rattle.std.proofs.Common.{◌≡◌, ◌∙◌, ℕ, List, Option, Some, None, Result, Ok, Err, refl, sym, ap, subst, inl, inr, arith}
use Rattle.std.specs.Prelude.{IfSome}
use Rattle.nsc_outside.specs.Stream.{Grows}
use Rattle.nsc_outside.specs.StreamAt.{StreamAt}
use Rattle.nsc_model.specs.Reads.{Rose}
use Rattle.nsc_outside.specs.declared.stream.Source as source
use Rattle.nsc_outside.specs.declared.stream.Sink as sink
use Rattle.nsc_model.specs.declared.conf.Conf.{Conf}
use Rattle.nsc_model.specs.Content.{Content}
use Rattle.nsc_model.specs.declared.exit.ConfFault.{ConfFault}
use Rattle.nsc_model.specs.declared.exit.Exit.{Exit}
use Rattle.nsc_model.specs.declared.exit.Exit.TheVariants as exits
use Rattle.nsc_replay.specs.Streams.{Counted, Streams}
use Rattle.nsc_control.specs.declared.ask.AdminAsk.{AdminAsk}
use Rattle.nsc_daemon.specs.Images.{ImagesAt}
use Rattle.nsc_daemon.specs.Ends.{DaemonAt, EndsSo, IsReady, LastTellsEnd}
use Rattle.nsc_workload.specs.Runs.{PutsText}
use Rattle.nsc_workload.specs.Workload.{workload_of}
use Rattle.nsc_run.specs.Commands.{ConfGives, Course, NotSet, RefusesForm, StreamsCalm, TellsAll, settings_by}
use Rattle.nsc_run.specs.Forms.{DaemonOptions, Form, Replay, Ask, Workload, Daemon}
use Rattle.nsc_run.specs.Runs.{Asks, DaemonCourse, IsAsked, IsDone, NeverFail, Outside, PutsBySettings, RunsByForm, TellsAnswered, TellsByForm, TellsServed, TellsWorked}
use Rattle.nsc_run.proofs.Courses.{done_by}
use Rattle.nsc_run.proofs.Ends.{tells}

-- ---- the replay

no_memory_tells : (left : Option (List ℕ)) (r : Result Conf ConfFault) → TellsAll left r exits.NoMemory
no_memory_tells None (Ok settings) = tt
no_memory_tells (Some bytes) (Ok settings) = inr refl
no_memory_tells left (Err fault) = inr refl

-- what a configuration gives that is told, by what one gave that was read
gives_told : (told : Option (Option (List ℕ))) (r : Result Conf ConfFault) (P : Result Conf ConfFault → Type 0) → ConfGives told r → P r → IfSome told (λ text. P (settings_by text))
gives_told None r P c h = tt
gives_told (Some text) r P c h = subst P (sym c.gives ∙ ap settings_by c.as_told) h

always_told : (told : Option (Option (List ℕ))) (P : Result Conf ConfFault → Type 0) → ((r : Result Conf ConfFault) → P r) → IfSome told (λ text. P (settings_by text))
always_told None P all = tt
always_told (Some text) P all = all (settings_by text)

-- why no settings were read, where no file failed
unset_tells : (told : Option (Option (List ℕ))) (a b : ℕ) (P : Result Conf ConfFault → Exit → Type 0)
    → ((fault : ConfFault) → P (Err fault) (exits.BadConf fault)) → ((r : Result Conf ConfFault) → P r exits.NoMemory)
    → (exit : Exit) → NotSet told a b exit → (Rose a b → ⊥) → IfSome told (λ text. P (settings_by text) exit)
unset_tells told a b P bad memory (exits.BadConf fault) n calm = gives_told told (Err fault) (λ r. P r (exits.BadConf fault)) n.0 (bad fault)
unset_tells told a b P bad memory exits.SourceFault n calm = absurd (calm n)
unset_tells told a b P bad memory (exits.TooLong size) n calm = absurd (calm n.1)
unset_tells told a b P bad memory exits.NoMemory n calm = always_told told (λ r. P r exits.NoMemory) memory
unset_tells told a b P bad memory _ n calm = absurd n

replay_tells : (told : Option (Option (List ℕ))) (a b : ℕ) (s : Streams) (exit : Exit) → Course told a b s exit → Counted exit s → (Rose a b → ⊥) → StreamsCalm s → IfSome told (λ text. TellsAll s.before.input.bytes (settings_by text) exit)
replay_tells told a b s exit (inl ran) counts calm still =
    gives_told told (Ok ran.settings) (λ r. TellsAll s.before.input.bytes r exit) ran.is_set.of_config (tells ran.settings s exit ran.run counts still)
replay_tells told a b s exit (inr stopped) counts calm still =
    unset_tells told a b (λ r e. TellsAll s.before.input.bytes r e) (λ fault. inl refl) (no_memory_tells s.before.input.bytes) exit stopped.0 calm

-- ---- a question to a daemon

none_rose : {A : Type 0} (n m : ℕ) → n ≡ 0 → m ≡ 0 → Rose n m → A
none_rose n m e f (inl h) = absurd (omega arith)
none_rose n m e f (inr h) = absurd (omega arith)

module _ {I O : Type 0} (i : source.Ghosts I) (o : sink.Ghosts O) where
  ask_done : (asked : AdminAsk) (peer : Option (List ℕ)) (a b : StreamAt) (n m : ℕ) (exit : Exit) → Asks i o asked peer a b n m exit → exit ≡ exits.Ok → IsAsked i o asked peer a b exits.Ok
  ask_done asked peer a b n m exit (inl h) e = subst (IsAsked i o asked peer a b) e h.0
  ask_done asked peer a b n m exit (inr (inl h)) e = absurd (let x : exits.NoMemory ≡ exits.Ok = sym h.0 ∙ e in cc)
  ask_done asked peer a b n m exit (inr (inr h)) e = absurd (let x : exits.NetFault ≡ exits.Ok = sym h.0 ∙ e in cc)

  asked_tells : (asked : AdminAsk) (peer : Option (List ℕ)) (a b : StreamAt) (exit : Exit) → IsAsked i o asked peer a b exit → NeverFail i o → (Rose a.faults b.faults → ⊥) → TellsAnswered exit
  asked_tells asked peer a b exits.Ok h never calm = inl refl
  asked_tells asked peer a b exits.WriteFault h never calm = absurd (calm h.commands.failed)
  asked_tells asked peer a b exits.NetFault h never calm = absurd (elim h.commands.1 [
    | inl rose ↦ none_rose _ _ (never.inputs h.conn_in) (never.inputs h.conn_in') rose
    | inr rose ↦ none_rose _ _ (never.outputs h.conn_out) (never.outputs h.conn_out') rose
  ])
  asked_tells asked peer a b exits.BadReply h never calm = inr (inr refl)
  asked_tells asked peer a b exits.NoMemory h never calm = inr (inl refl)
  asked_tells asked peer a b _ h never calm = absurd h.commands

  ask_tells : (asked : AdminAsk) (peer : Option (List ℕ)) (a b : StreamAt) (n m : ℕ) (exit : Exit) → Asks i o asked peer a b n m exit → NeverFail i o → (Rose n m → ⊥) → (Rose a.faults b.faults → ⊥) → TellsAnswered exit
  ask_tells asked peer a b n m exit (inl h) never net calm = asked_tells asked peer a b exit h.0 never calm
  ask_tells asked peer a b n m exit (inr (inl h)) never net calm = inr (inl h.0)
  ask_tells asked peer a b n m exit (inr (inr h)) never net calm = absurd (net h.2)

-- ---- a workload

work_done : (text : List ℕ) (a b : StreamAt) (exit : Exit) → PutsText exit text a b → exit ≡ exits.Ok → Grows a.bytes b.bytes text
work_done text a b exit h e = (subst (λ (x : Exit). PutsText x text a b) e h).0

work_tells : (text : List ℕ) (a b : StreamAt) (exit : Exit) → PutsText exit text a b → (Rose a.faults b.faults → ⊥) → TellsWorked exit
work_tells text a b exits.Ok h calm = inl refl
work_tells text a b exits.WriteFault h calm = absurd (calm h.1)
work_tells text a b exits.NoMemory h calm = inr refl
work_tells text a b _ h calm = absurd h

-- ---- the daemon

served_done : (told : Option (Option (List ℕ))) (service : DaemonOptions) (held : Option Content) (i j : ImagesAt) (a b : DaemonAt) (exit : Exit) → DaemonCourse told service held i j a b exit → exit ≡ exits.Ok → IsReady a b × LastTellsEnd a.given b.given × PutsBySettings told i j
served_done told service held i j a b exit (inl h) e =
    let ends = subst (λ (by : Exit). EndsSo by a b) e h.ends in
    (ends.0, ends.1, record { settings = h.settings; of_config = h.of_config; put = h.put e })
served_done told service held i j a b exit (inr h) e = absurd (subst (NotSet told a.source_faults b.source_faults) e h.0)

end_tells : (settings : Conf) (exit : Exit) (a b : DaemonAt) → EndsSo exit a b
    → (Rose a.source_faults b.source_faults → ⊥) → (Rose a.net_faults b.net_faults → ⊥) → (Rose a.output.faults b.output.faults → ⊥) → TellsServed (Ok settings) exit
end_tells settings exits.Ok a b h sources net output = inl refl
end_tells settings exits.WriteFault a b h sources net output = absurd (output h.0)
end_tells settings exits.SourceFault a b h sources net output = absurd (sources h.0)
end_tells settings (exits.TooLong size) a b h sources net output = absurd (sources h.0)
end_tells settings exits.NetFault a b h sources net output = absurd (net h.0)
end_tells settings exits.NoMemory a b h sources net output = inr refl
end_tells settings _ a b h sources net output = absurd h

no_memory_serves : (r : Result Conf ConfFault) → TellsServed r exits.NoMemory
no_memory_serves (Ok settings) = inr refl
no_memory_serves (Err fault) = inr refl

served_tells : (told : Option (Option (List ℕ))) (service : DaemonOptions) (held : Option Content) (i j : ImagesAt) (a b : DaemonAt) (exit : Exit) → DaemonCourse told service held i j a b exit
    → (Rose a.source_faults b.source_faults → ⊥) → (Rose a.net_faults b.net_faults → ⊥) → (Rose a.output.faults b.output.faults → ⊥) → IfSome told (λ text. TellsServed (settings_by text) exit)
served_tells told service held i j a b exit (inl h) sources net output =
    gives_told told (Ok h.settings) (λ r. TellsServed r exit) h.of_config (end_tells h.settings exit a b h.ends sources net output)
served_tells told service held i j a b exit (inr h) sources net output =
    unset_tells told a.source_faults b.source_faults TellsServed (λ fault. inl refl) no_memory_serves exit h.0 sources

-- ---- a run

-- words are not refused with Ok
pub no_refusal : {A : Type 0} (form : Option A) (exit : Exit) → RefusesForm form exit → exit ≡ exits.Ok → ⊥
no_refusal form exit (inl memory) ok = let never : exits.NoMemory ≡ exits.Ok = sym memory ∙ ok in cc
no_refusal form exit (inr usage) ok = let never : exits.Usage ≡ exits.Ok = sym usage.0 ∙ ok in cc

module _ {I O : Type 0} (i : source.Ghosts I) (o : sink.Ghosts O) (a b : Outside) (exit : Exit) where
  pub run_done : (form : Option Form) → RunsByForm i o form a b exit → exit ≡ exits.Ok → IsDone i o form a b
  run_done None h e = absurd (elim h.0 [
    | inl x ↦ let never : exits.Usage ≡ exits.Ok = sym x ∙ e in cc
    | inr x ↦ let never : exits.NoMemory ≡ exits.Ok = sym x ∙ e in cc
  ])
  run_done (Some (Replay config)) h e = done_by _ _ _ _ exit h.0 e
  run_done (Some (Ask asked folder)) h e = ask_done i o asked a.peer _ _ _ _ exit h.0 e
  run_done (Some (Workload number workers)) h e = work_done (workload_of number) _ _ exit h.0 e
  run_done (Some (Daemon service)) h e = served_done _ _ _ _ _ _ _ exit h.0 e

  pub run_tells : (form : Option Form) → RunsByForm i o form a b exit → TellsByForm i o form a b exit
  run_tells None h = h.0
  run_tells (Some (Replay config)) h = replay_tells _ _ _ _ exit h.0 h.1
  run_tells (Some (Ask asked folder)) h = ask_tells i o asked a.peer _ _ _ _ exit h.0
  run_tells (Some (Workload number workers)) h = work_tells (workload_of number) _ _ exit h.0
  run_tells (Some (Daemon service)) h = served_tells _ _ _ _ _ _ _ exit h.0

module _ {I O : Type 0} (i : source.Ghosts I) (o : sink.Ghosts O) (a : Outside) where
  -- memory was short for the words
  unread : (form : Option Form) → RunsByForm i o form a a exits.NoMemory
  unread None = (inr refl, refl)
  unread (Some (Replay config)) = (inr (refl, refl), record { input_stays = refl; output_stays = refl }, record { given_stays = refl; peer_stays = refl; calm = refl }, refl)
  unread (Some (Ask asked folder)) = (inr (inl (refl, refl, refl)), refl, record { held_stays = refl; conf_stays = refl; calm = refl }, refl)
  unread (Some (Workload number workers)) = (refl, refl, record { held_stays = refl; conf_stays = refl; calm = refl }, record { given_stays = refl; peer_stays = refl; calm = refl }, refl)
  unread (Some (Daemon service)) = (inr (refl, refl, refl), refl)

  -- the words were refused
  pub refused : (form : Option Form) (exit : Exit) → RefusesForm form exit → RunsByForm i o form a a exit
  refused form exit (inl memory) = subst (λ (e : Exit). RunsByForm i o form a a e) (sym memory) (unread form)
  refused form exit (inr usage) = subst (λ (f : Option Form). RunsByForm i o f a a exit) (sym usage.1) (inl usage.0, refl)
