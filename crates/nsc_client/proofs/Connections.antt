-- A connection to the gate, one step after another.
use Rattle.std.proofs.Common.{◌≡◌, ◌∙◌, ◌⊎◌, ℕ, ◌+◌, append-nil, true, List, [], ◌∷◌, ◌++◌, length, min, refl, sym, ap, subst, arith, inl, inr}
use Rattle.std.specs.List.{after_first, list_any}
use Rattle.std.proofs.lemmas.List.{length-append}
use Rattle.nsc_outside.specs.Stream.{IsDrained}
use Rattle.nsc_outside.specs.StreamAt.{StreamAt}
use Rattle.nsc_model.specs.declared.databases.Databases.{Databases}
use Rattle.nsc_model.specs.declared.store.LookupFault.TheVariants as fault
use Rattle.nsc_model.specs.declared.store.Store as store
use Rattle.nsc_model.specs.Machine.{last_count, next_count}
use Rattle.nsc_model.specs.Reads.{Rose}
use Rattle.nsc_client.specs.declared.gate.Gated.{Gated}
use Rattle.nsc_client.specs.declared.gate.Gated.TheVariants as gated
use Rattle.nsc_client.specs.declared.link.LinkFault.TheVariants as link
use Rattle.nsc_client.specs.Exchanges.{TakesAnswers}
use Rattle.nsc_client.specs.Gate.{SeeMore}
use Rattle.nsc_client.specs.Gathered.{GathersAnswers, GathersFront, HasGathered, IsBroken, IsStopped, WritesPart}
use Rattle.nsc_client.specs.Held.{ComesIn, GivesNone}
use Rattle.nsc_client.specs.LinesRead.{BeginsWithLine, HasNoNewline, IsLastLine, ReadsAll, ReadsFirst, ReadsLines, front_line, is_newline}
use Rattle.nsc_client.specs.Serving.{AnswersAll, GateAt, OutputFails, ServesGate, StopsAfter, gate_at}
use Rattle.nsc_client.proofs.Answering.{sees_on}
use Rattle.nsc_client.proofs.Exchanges.{none_answered}
use Rattle.nsc_client.proofs.Gathering.{all_taken, fails_after, front_taken, gathers_none, gathers_on, keeps, none_searched, written_after}
use Rattle.nsc_client.proofs.LinesRead.{end_read, front-whole, last_read, line_read, none_read, part_read}

counted_on : (n m : ℕ) → min (min n m + 1) m ≡ min (n + 1) m
counted_on n m = omega arith

count_on : (count : ℕ) (lines : List (List ℕ)) (line : List ℕ) → count ≡ min (length lines) last_count → next_count count ≡ min (length (lines ++ line ∷ [])) last_count
count_on count lines line is = ap next_count is ∙ counted_on (length lines) last_count ∙ ap (λ (n : ℕ). min n last_count) (sym (length-append lines (line ∷ [])))

pub begins : {S P : Type 0} (g : store.Ghosts S P) (at : GateAt P) (rest pending : List ℕ) → rest ≡ [] → pending ≡ [] → HasGathered g at at 0 rest pending
begins g at rest pending none empty = record {
  lines = [];
  read = subst (λ (r : List ℕ). ReadsLines at.input.bytes at.input.bytes [] r) (sym none) (none_read at.input.bytes);
  gathered = gathers_none g at.passes at.passes at.output at.output [] pending (none_searched g at.passes) (subst (λ (p : List ℕ). WritesPart at.output at.output [] p []) (sym empty) (keeps at.output [] []));
  counted = refl;
  goes_on = λ which. inl refl;
  calm = refl;
}

-- the next line was answered
pub answers_line : {S P : Type 0} (g : store.Ghosts S P) (before : GateAt P) (p p' : Databases P) (input o o' : StreamAt) (count : ℕ) (rest pending pending' : List ℕ)
    → list_any is_newline rest ≡ true → SeeMore g p p' → GathersAnswers g p p' o o' pending pending' (front_line rest ∷ []) → HasGathered g before (gate_at p input o) count rest pending
    → HasGathered g before (gate_at p' input o') (next_count count) (after_first is_newline rest) pending'
answers_line g before p p' input o o' count rest pending pending' has on gathers goes = record {
  lines = goes.lines ++ front_line rest ∷ [];
  read = line_read before.input.bytes input.bytes goes.lines rest has goes.read;
  gathered = gathers_on g before.passes p p' before.output o o' [] pending pending' goes.lines (front_line rest ∷ []) goes.goes_on on goes.gathered gathers;
  counted = count_on count goes.lines (front_line rest) goes.counted;
  goes_on = sees_on g before.passes p p' goes.goes_on on;
  calm = goes.calm;
}

-- all that was pending was written
pub writes_all : {S P : Type 0} (g : store.Ghosts S P) (before : GateAt P) (p : Databases P) (input o o' : StreamAt) (count : ℕ) (rest pending : List ℕ)
    → WritesPart o o' pending [] [] → HasGathered g before (gate_at p input o) count rest pending → HasGathered g before (gate_at p input o') count rest []
writes_all g before p input o o' count rest pending w goes = record {
  lines = goes.lines;
  read = goes.read;
  gathered = written_after g before.passes p before.output o o' [] pending goes.lines w goes.gathered;
  counted = goes.counted;
  goes_on = goes.goes_on;
  calm = goes.calm;
}

-- more was read
pub reads_part : {S P : Type 0} (g : store.Ghosts S P) (before : GateAt P) (p : Databases P) (input input' o : StreamAt) (count : ℕ) (rest new pending : List ℕ)
    → ComesIn input input' rest new → HasGathered g before (gate_at p input o) count rest pending → HasGathered g before (gate_at p input' o) count new pending
reads_part g before p input input' o count rest new pending come goes = record {
  lines = goes.lines;
  read = subst (λ (r : List ℕ). ReadsLines before.input.bytes input'.bytes goes.lines r) (sym come.joined) (part_read before.input.bytes input.bytes input'.bytes goes.lines rest come.more goes.read come.moved);
  gathered = goes.gathered;
  counted = goes.counted;
  goes_on = goes.goes_on;
  calm = come.calm ∙ goes.calm;
}

-- nothing is pending
stops_after : {S P : Type 0} (g : store.Ghosts S P) (before now : GateAt P) (count : ℕ) (rest : List ℕ) (goes : HasGathered g before now count rest []) → StopsAfter g before now goes.lines rest
stops_after g before now count rest goes = record { read = goes.read; answered = all_taken g before.passes now.passes before.output now.output goes.lines goes.gathered }

-- all that was pending was written
stops_written : {S P : Type 0} (g : store.Ghosts S P) (before : GateAt P) (p : Databases P) (input o o' : StreamAt) (count : ℕ) (rest pending : List ℕ) → WritesPart o o' pending [] []
    → (goes : HasGathered g before (gate_at p input o) count rest pending) → StopsAfter g before (gate_at p input o') goes.lines rest
stops_written g before p input o o' count rest pending w goes = record {
  read = goes.read;
  answered = all_taken g before.passes p before.output o' goes.lines (written_after g before.passes p before.output o o' [] pending goes.lines w goes.gathered);
}

-- ---- the ends

-- all was read, and nothing is left to answer
pub ends : {S P : Type 0} (g : store.Ghosts S P) (before now : GateAt P) (count : ℕ) (rest : List ℕ) → rest ≡ [] → IsDrained now.input.bytes → HasGathered g before now count rest [] → AnswersAll g before now count
ends g before now count rest none drained goes = record {
  lines = goes.lines;
  read = end_read before.input.bytes now.input.bytes goes.lines (subst (λ (r : List ℕ). ReadsLines before.input.bytes now.input.bytes goes.lines r) none goes.read) drained;
  answered = all_taken g before.passes now.passes before.output now.output goes.lines goes.gathered;
  counted = goes.counted;
  calm = goes.calm;
}

-- all was read, and the last line answered
pub ends_with : {S P : Type 0} (g : store.Ghosts S P) (before : GateAt P) (p p' : Databases P) (input o o' : StreamAt) (count : ℕ) (rest : List ℕ)
    → IsLastLine rest input.bytes → SeeMore g p p' → GathersAnswers g p p' o o' [] [] (rest ∷ []) → HasGathered g before (gate_at p input o) count rest [] → AnswersAll g before (gate_at p' input o') (next_count count)
ends_with g before p p' input o o' count rest last on gathers goes =
    let all = gathers_on g before.passes p p' before.output o o' [] [] [] goes.lines (rest ∷ []) goes.goes_on on goes.gathered gathers in
    record {
      lines = goes.lines ++ rest ∷ [];
      read = last_read before.input.bytes input.bytes goes.lines rest goes.read last;
      answered = all_taken g before.passes p' before.output o' (goes.lines ++ rest ∷ []) all;
      counted = count_on count goes.lines rest goes.counted;
      calm = goes.calm;
    }

-- the line at the front was read whole, and those before it
first_read : {P : Type 0} (before now : GateAt P) (lines : List (List ℕ)) (rest : List ℕ) → BeginsWithLine rest now.input.bytes → ReadsLines before.input.bytes now.input.bytes lines rest
    → ReadsFirst before.input.bytes now.input.bytes (lines ++ front_line rest ∷ [])
first_read before now lines rest (inl has) read = inl (after_first is_newline rest, line_read before.input.bytes now.input.bytes lines rest has read)
first_read before now lines rest (inr last) read =
    inr (subst (λ (l : List ℕ). ReadsAll before.input.bytes now.input.bytes (lines ++ l ∷ [])) (sym (front-whole rest last.lone)) (last_read before.input.bytes now.input.bytes lines rest read last))

-- the line at the front was read whole or is not among them
these_read : {P : Type 0} (before now : GateAt P) (lines more : List (List ℕ)) (rest : List ℕ) → BeginsWithLine rest now.input.bytes → (more ≡ []) ⊎ (more ≡ front_line rest ∷ [])
    → ReadsLines before.input.bytes now.input.bytes lines rest → ReadsFirst before.input.bytes now.input.bytes (lines ++ more)
these_read before now lines more rest whole (inl none) read =
    let same : lines ≡ lines ++ more = sym (ap (λ (l : List (List ℕ)). lines ++ l) none ∙ append-nil lines) in
    subst (λ (l : List (List ℕ)). ReadsFirst before.input.bytes now.input.bytes l) same (inl (rest, read))
these_read before now lines more rest whole (inr one) read =
    subst (λ (m : List (List ℕ)). ReadsFirst before.input.bytes now.input.bytes (lines ++ m)) (sym one) (first_read before now lines rest whole read)

-- the output failed
fails : {S P : Type 0} (g : store.Ghosts S P) (before : GateAt P) (p p' : Databases P) (input o o' : StreamAt) (count : ℕ) (rest pending : List ℕ) (more : List (List ℕ))
    → BeginsWithLine rest input.bytes → SeeMore g p p' → (more ≡ []) ⊎ (more ≡ front_line rest ∷ []) → GathersFront g p p' o o' pending more → HasGathered g before (gate_at p input o) count rest pending
    → OutputFails g before (gate_at p' input o')
fails g before p p' input o o' count rest pending more whole on which front goes = record {
  lines = goes.lines ++ more;
  read = these_read before (gate_at p input o) goes.lines more rest whole which goes.read;
  taken = front_taken g before.passes p' before.output o' (goes.lines ++ more) (fails_after g before.passes p p' before.output o o' [] pending goes.lines more goes.goes_on on goes.gathered front);
  calm = goes.calm;
}

-- the next line, which is whole, was not answered
pub stopped : {S P : Type 0} (g : store.Ghosts S P) (stores : Databases S) (before : GateAt P) (p p' : Databases P) (input o o' : StreamAt) (count : ℕ) (rest pending : List ℕ) (by : Gated)
    → BeginsWithLine rest input.bytes → SeeMore g p p' → IsStopped g stores p p' o o' pending (front_line rest) by → HasGathered g before (gate_at p input o) count rest pending → ServesGate g stores before (gate_at p' input o') by
stopped g stores before p p' input o o' count rest pending (gated.Done n) whole on stop goes = absurd stop
stopped g stores before p p' input o o' count rest pending (gated.TooLongLine size) whole on stop goes =
    let stops = stops_written g before p input o o' count rest pending stop.3 goes in
    record {
      lines = goes.lines;
      rest = rest;
      stops = record { read = stops.read; answered = subst (λ (q : Databases _). TakesAnswers g before.passes q before.output o' goes.lines) (sym stop.2) stops.answered };
      long = stop.1;
      counted = stop.0;
      calm = goes.calm;
    }
stopped g stores before p p' input o o' count rest pending gated.ReadFault whole on stop goes = absurd stop
stopped g stores before p p' input o o' count rest pending gated.WriteFault whole on stop goes = fails g before p p' input o o' count rest pending stop.0 whole on stop.1 stop.2 goes
stopped g stores before p p' input o o' count rest pending (gated.Refused refused) whole on stop goes =
    record {
      lines = goes.lines;
      rest = rest;
      between = p;
      stops = stops_written g before p input o o' count rest pending stop.1.1 goes;
      refusal = stop.1.0;
      goes_on = on;
      fits = stop.0;
      whole = λ other. whole;
      calm = goes.calm;
    }

-- the answers that were pending were not all written
pub breaks : {S P : Type 0} (g : store.Ghosts S P) (stores : Databases S) (before : GateAt P) (p : Databases P) (input o o' : StreamAt) (count : ℕ) (rest pending : List ℕ) (by : Gated)
    → IsBroken o o' pending [] by → HasGathered g before (gate_at p input o) count rest pending → ServesGate g stores before (gate_at p input o') by
breaks g stores before p input o o' count rest pending (gated.Done n) stop goes = absurd stop
breaks g stores before p input o o' count rest pending (gated.TooLongLine size) stop goes = absurd stop
breaks g stores before p input o o' count rest pending gated.ReadFault stop goes = absurd stop
breaks g stores before p input o o' count rest pending gated.WriteFault stop goes =
    let on : SeeMore g p p = λ which. inl refl in
    let front : GathersFront g p p o o' pending [] = record { text = []; answered = none_answered g p p (none_searched g p); written = stop } in
    let same : goes.lines ++ [] ≡ goes.lines = append-nil goes.lines in
    record {
      lines = goes.lines ++ [];
      read = subst (λ (l : List (List ℕ)). ReadsFirst before.input.bytes input.bytes l) (sym same) (inl (rest, goes.read));
      taken = front_taken g before.passes p before.output o' (goes.lines ++ []) (fails_after g before.passes p p before.output o o' [] pending goes.lines [] goes.goes_on on goes.gathered front);
      calm = goes.calm;
    }
breaks g stores before p input o o' count rest pending (gated.Refused refused) stop goes = absurd stop

-- no more was read after bytes that are no whole line
pub none_came : {S P : Type 0} (g : store.Ghosts S P) (stores : Databases S) (before : GateAt P) (p : Databases P) (input input' o : StreamAt) (count : ℕ) (rest : List ℕ) (by : Gated)
    → HasNoNewline rest → GivesNone input input' rest by → HasGathered g before (gate_at p input o) count rest [] → ServesGate g stores before (gate_at p input' o) by
none_came g stores before p input input' o count rest (gated.Done n) lone stop goes = absurd stop
none_came g stores before p input input' o count rest (gated.TooLongLine size) lone stop goes =
    let at : StopsAfter g before (gate_at p input' o) goes.lines rest = subst (λ (i : StreamAt). StopsAfter g before (gate_at p i o) goes.lines rest) (sym stop.0) (stops_after g before (gate_at p input o) count rest goes) in
    record {
      lines = goes.lines;
      rest = rest;
      stops = at;
      long = rw (front-whole rest lone) stop.2;
      counted = stop.1;
      calm = ap (λ (i : StreamAt). i.faults) stop.0 ∙ goes.calm;
    }
none_came g stores before p input input' o count rest gated.ReadFault lone stop goes = record {
  lines = goes.lines;
  rest = rest;
  stops = record { read = subst (λ (b : _). ReadsLines before.input.bytes b goes.lines rest) (sym stop.0) goes.read; answered = all_taken g before.passes p before.output o goes.lines goes.gathered };
  part = lone;
  failed = subst (λ (n : ℕ). Rose n input'.faults) goes.calm stop.1;
}
none_came g stores before p input input' o count rest gated.WriteFault lone stop goes = absurd stop
none_came g stores before p input input' o count rest (gated.Refused link.NoMemory) lone stop goes =
    let at : StopsAfter g before (gate_at p input' o) goes.lines rest = subst (λ (i : StreamAt). StopsAfter g before (gate_at p i o) goes.lines rest) (sym stop.0) (stops_after g before (gate_at p input o) count rest goes) in
    record {
      lines = goes.lines;
      rest = rest;
      between = p;
      stops = at;
      refusal = (fault.NoMemory, refl, λ which. (refl, refl));
      goes_on = λ which. inl refl;
      fits = rw (front-whole rest lone) stop.1;
      whole = λ other. absurd (other refl);
      calm = ap (λ (i : StreamAt). i.faults) stop.0 ∙ goes.calm;
    }
none_came g stores before p input input' o count rest (gated.Refused link.Failed) lone stop goes = absurd stop
none_came g stores before p input input' o count rest (gated.Refused (link.Refused cause)) lone stop goes = absurd stop
none_came g stores before p input input' o count rest (gated.Refused (link.BadReply at)) lone stop goes = absurd stop

-- out of memory before anything is read
pub refuses_first : {S P : Type 0} (g : store.Ghosts S P) (stores : Databases S) (p : Databases P) (input o : StreamAt) → ServesGate g stores (gate_at p input o) (gate_at p input o) (gated.Refused link.NoMemory)
refuses_first g stores p input o = none_came g stores (gate_at p input o) p input input o 0 [] (gated.Refused link.NoMemory) refl (refl, omega arith) (begins g (gate_at p input o) [] [] refl refl)
