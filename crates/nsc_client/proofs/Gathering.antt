-- Answers that are gathered, in one part of a call after another.
use Rattle.std.proofs.Common.{◌≡◌, ◌∙◌, ℕ, ◌≤◌, List, [], ◌∷◌, ◌++◌, Result, Ok, Err, IfErr, IfOk, Some, None, append-nil, append_assoc, length, refl, sym, ap, subst, arith, inl, inr}
use Rattle.std.specs.Result.{OnOk}
use Rattle.nsc_outside.specs.Stream.{Grows, GrowsByFront}
use Rattle.nsc_outside.specs.StreamAt.{StreamAt}
use Rattle.nsc_outside.proofs.Streams.{Grows-nothing, Grows-then}
use Rattle.nsc_model.specs.declared.answer.Request.{Request}
use Rattle.nsc_model.specs.declared.databases.Databases.{Databases}
use Rattle.nsc_model.specs.declared.store.Store as store
use Rattle.nsc_model.specs.Entry.{line_limit}
use Rattle.nsc_model.specs.Reads.{Rose}
use Rattle.nsc_client.specs.declared.gate.Gated.{Gated}
use Rattle.nsc_client.specs.declared.gate.Gated.TheVariants as gated
use Rattle.nsc_client.specs.declared.hits.Hit.{Hit}
use Rattle.nsc_client.specs.declared.hits.Hit.TheVariants as hit
use Rattle.nsc_client.specs.declared.line.LineAsks.{LineAsks}
use Rattle.nsc_client.specs.Exchanges.{AreAnswered, TakesAnswers, TakesFront}
use Rattle.nsc_client.specs.Gate.{SeeMore, requests_of}
use Rattle.nsc_client.specs.GateText.{asking_of}
use Rattle.nsc_client.specs.Gathered.{GathersAnswers, GathersFront, IsBroken, IsStopped, IsUnserved, WritesFront, WritesPart}
use Rattle.nsc_client.specs.Hits.{IsHit, SaysHit, Searches, SpellsHit}
use Rattle.nsc_client.specs.Replying.{IsAnswered}
use Rattle.nsc_client.proofs.Answering.{refused_before}
use Rattle.nsc_client.proofs.Exchanges.{answered_on, none_answered, one_answered}

-- ---- texts

-- what follows for each result
pub on_ok : {A E X Y : Type 0} (r : Result A E) → (X → Y) → OnOk r X → OnOk r Y
on_ok (Ok a) f x = f x
on_ok (Err e) f x = tt

pub if_ok : {A E : Type 0} (P Q : A → Type 0) (r : Result A E) → ((a : A) → P a → Q a) → IfOk r P → IfOk r Q
if_ok P Q (Ok a) f p = f a p
if_ok P Q (Err e) f p = tt

pub if_err : {A E : Type 0} (P Q : E → Type 0) (r : Result A E) → ((e : E) → P e → Q e) → IfErr r P → IfErr r Q
if_err P Q (Ok a) f p = tt
if_err P Q (Err e) f p = f e p

-- a text fits
pub keeps : (o : StreamAt) (p t : List ℕ) → WritesPart o o p (p ++ t) t
keeps o p t = record { taken = []; parts = refl; grown = Grows-nothing o.bytes; calm = refl }

-- a text was added, and then another
pub writes_on : (o o' o'' : StreamAt) (p p' p'' t u : List ℕ) → WritesPart o o' p p' t → WritesPart o' o'' p' p'' u → WritesPart o o'' p p'' (t ++ u)
writes_on o o' o'' p p' p'' t u one two = record {
  taken = one.taken ++ two.taken;
  parts = sym (append_assoc p t u) ∙ ap (λ (l : List ℕ). l ++ u) one.parts ∙ append_assoc one.taken p' u ∙ ap (λ (l : List ℕ). one.taken ++ l) two.parts ∙ sym (append_assoc one.taken two.taken p'');
  grown = Grows-then o.bytes o'.bytes o''.bytes one.taken two.taken one.grown two.grown;
  calm = two.calm ∙ one.calm;
}

-- a text was added, and the output failed at another
pub fails_on : (o o' o'' : StreamAt) (p p' t u : List ℕ) → WritesPart o o' p p' t → WritesFront o' o'' p' u → WritesFront o o'' p (t ++ u)
fails_on o o' o'' p p' t u one two =
    let front = two.front.0 in
    let rest = two.front.1.0 in
    let split : p ++ (t ++ u) ≡ (one.taken ++ front) ++ rest =
    sym (append_assoc p t u) ∙ ap (λ (l : List ℕ). l ++ u) one.parts ∙ append_assoc one.taken p' u ∙ ap (λ (l : List ℕ). one.taken ++ l) two.front.1.1 ∙ sym (append_assoc one.taken front rest) in
    record {
      front = (one.taken ++ front, (rest, split), Grows-then o.bytes o'.bytes o''.bytes one.taken front one.grown two.front.2);
      failed = subst (λ (n : ℕ). Rose n o''.faults) one.calm two.failed;
    }

-- the output failed before a text
fails_before : (o o' : StreamAt) (p t u : List ℕ) → WritesFront o o' p t → WritesFront o o' p (t ++ u)
fails_before o o' p t u one =
    let front = one.front.0 in
    let rest = one.front.1.0 in
    let split : p ++ (t ++ u) ≡ front ++ (rest ++ u) = sym (append_assoc p t u) ∙ ap (λ (l : List ℕ). l ++ u) one.front.1.1 ∙ append_assoc front rest u in
    record { front = (front, (rest ++ u, split), one.front.2); failed = one.failed }

pub broken_on : (o o' o'' : StreamAt) (p p' t u : List ℕ) (by : Gated) → WritesPart o o' p p' t → IsBroken o' o'' p' u by → IsBroken o o'' p (t ++ u) by
broken_on o o' o'' p p' t u gated.WriteFault one two = fails_on o o' o'' p p' t u one two
broken_on o o' o'' p p' t u gated.ReadFault one two = absurd two
broken_on o o' o'' p p' t u (gated.Done n) one two = absurd two
broken_on o o' o'' p p' t u (gated.TooLongLine n) one two = absurd two
broken_on o o' o'' p p' t u (gated.Refused r) one two = absurd two

pub broken_before : (o o' : StreamAt) (p t u : List ℕ) (by : Gated) → IsBroken o o' p t by → IsBroken o o' p (t ++ u) by
broken_before o o' p t u gated.WriteFault one = fails_before o o' p t u one
broken_before o o' p t u gated.ReadFault one = absurd one
broken_before o o' p t u (gated.Done n) one = absurd one
broken_before o o' p t u (gated.TooLongLine n) one = absurd one
broken_before o o' p t u (gated.Refused r) one = absurd one

-- all that was pending is a text that was written, or not
pub all_written : (o o' : StreamAt) (p : List ℕ) → WritesPart o o' [] [] p → WritesPart o o' p [] []
all_written o o' p one = record { taken = one.taken; parts = append-nil p ∙ one.parts; grown = one.grown; calm = one.calm }

pub all_broken : (o o' : StreamAt) (p : List ℕ) (by : Gated) → IsBroken o o' [] p by → IsBroken o o' p [] by
all_broken o o' p gated.WriteFault one = record { front = subst (λ (l : List ℕ). GrowsByFront o.bytes o'.bytes l) (sym (append-nil p)) one.front; failed = one.failed }
all_broken o o' p gated.ReadFault one = absurd one
all_broken o o' p (gated.Done n) one = absurd one
all_broken o o' p (gated.TooLongLine n) one = absurd one
all_broken o o' p (gated.Refused r) one = absurd one

-- ---- answers

pub gathers_on : {S P : Type 0} (g : store.Ghosts S P) (before mid after : Databases P) (o o' o'' : StreamAt) (p p' p'' : List ℕ) (lines more : List (List ℕ)) → SeeMore g before mid → SeeMore g mid after
    → GathersAnswers g before mid o o' p p' lines → GathersAnswers g mid after o' o'' p' p'' more → GathersAnswers g before after o o'' p p'' (lines ++ more)
gathers_on g before mid after o o' o'' p p' p'' lines more seen on one two = record {
  text = one.text ++ two.text;
  answered = answered_on g before mid after lines more one.text two.text seen on one.answered two.answered;
  written = writes_on o o' o'' p p' p'' one.text two.text one.written two.written;
}

pub fails_after : {S P : Type 0} (g : store.Ghosts S P) (before mid after : Databases P) (o o' o'' : StreamAt) (p p' : List ℕ) (lines more : List (List ℕ)) → SeeMore g before mid → SeeMore g mid after
    → GathersAnswers g before mid o o' p p' lines → GathersFront g mid after o' o'' p' more → GathersFront g before after o o'' p (lines ++ more)
fails_after g before mid after o o' o'' p p' lines more seen on one two = record {
  text = one.text ++ two.text;
  answered = answered_on g before mid after lines more one.text two.text seen on one.answered two.answered;
  written = fails_on o o' o'' p p' one.text two.text one.written two.written;
}

-- nothing is pending: the output took all, or a front
pub all_taken : {S P : Type 0} (g : store.Ghosts S P) (before after : Databases P) (o o' : StreamAt) (lines : List (List ℕ)) → GathersAnswers g before after o o' [] [] lines → TakesAnswers g before after o o' lines
all_taken g before after o o' lines one = record {
  text = one.text;
  answered = one.answered;
  grown = subst (λ (l : List ℕ). Grows o.bytes o'.bytes l) (sym (one.written.parts ∙ append-nil one.written.taken)) one.written.grown;
  calm = one.written.calm;
}

pub front_taken : {S P : Type 0} (g : store.Ghosts S P) (before after : Databases P) (o o' : StreamAt) (lines : List (List ℕ)) → GathersFront g before after o o' [] lines → TakesFront g before after o o' lines
front_taken g before after o o' lines one = record { text = one.text; answered = one.answered; front = one.written.front; failed = one.written.failed }

-- searches that answer no line
pub none_searched : {S P : Type 0} (g : store.Ghosts S P) (passes : Databases P) → Searches g passes passes 0
none_searched g passes = record { searched = omega arith; calm = λ which. (refl, refl) }

pub gathers_none : {S P : Type 0} (g : store.Ghosts S P) (before after : Databases P) (o o' : StreamAt) (p p' : List ℕ) → Searches g before after 0 → WritesPart o o' p p' [] → GathersAnswers g before after o o' p p' []
gathers_none g before after o o' p p' s w = record { text = []; answered = none_answered g before after s; written = w }

-- all that was pending was written
pub written_after : {S P : Type 0} (g : store.Ghosts S P) (before after : Databases P) (o o' o'' : StreamAt) (q p : List ℕ) (lines : List (List ℕ)) → WritesPart o' o'' p [] []
    → GathersAnswers g before after o o' q p lines → GathersAnswers g before after o o'' q [] lines
written_after g before after o o' o'' q p lines w one = record {
  text = one.text;
  answered = one.answered;
  written = subst (λ (t : List ℕ). WritesPart o o'' q [] t) (append-nil one.text) (writes_on o o' o'' q p [] one.text [] one.written w);
}

-- ---- lines that were not answered

pub flush_broken : {S P : Type 0} (g : store.Ghosts S P) (stores : Databases S) (before after : Databases P) (o o' : StreamAt) (p line : List ℕ) (by : Gated)
    → Searches g before after 0 → IsBroken o o' p [] by → IsUnserved g stores before after o o' p line by
flush_broken g stores before after o o' p line gated.WriteFault s one = ([], inl refl, record { text = []; answered = none_answered g before after s; written = one })
flush_broken g stores before after o o' p line gated.ReadFault s one = absurd one
flush_broken g stores before after o o' p line (gated.Done n) s one = absurd one
flush_broken g stores before after o o' p line (gated.TooLongLine n) s one = absurd one
flush_broken g stores before after o o' p line (gated.Refused r) s one = absurd one

pub add_broken : {S P : Type 0} (g : store.Ghosts S P) (stores : Databases S) (before after : Databases P) (o o' : StreamAt) (p line text : List ℕ) (by : Gated)
    → AreAnswered g before after (line ∷ []) text → IsBroken o o' p text by → IsUnserved g stores before after o o' p line by
add_broken g stores before after o o' p line text gated.WriteFault answered one = (line ∷ [], inr refl, record { text = text; answered = answered; written = one })
add_broken g stores before after o o' p line text gated.ReadFault answered one = absurd one
add_broken g stores before after o o' p line text (gated.Done n) answered one = absurd one
add_broken g stores before after o o' p line text (gated.TooLongLine n) answered one = absurd one
add_broken g stores before after o o' p line text (gated.Refused r) answered one = absurd one

-- after searches that found nothing, and once what was pending is written
pub unserved_on : {S P : Type 0} (g : store.Ghosts S P) (stores : Databases S) (before mid after : Databases P) (o o' o'' : StreamAt) (p line : List ℕ) (by : Gated) → SeeMore g before mid → SeeMore g mid after
    → Searches g before mid 0 → WritesPart o o' p [] [] → IsUnserved g stores mid after o' o'' [] line by → IsUnserved g stores before after o o'' p line by
unserved_on g stores before mid after o o' o'' p line gated.WriteFault seen on s w is = (is.0, is.1, fails_after g before mid after o o' o'' p [] [] is.0 seen on (gathers_none g before mid o o' p [] s w) is.2)
unserved_on g stores before mid after o o' o'' p line gated.ReadFault seen on s w is = absurd is
unserved_on g stores before mid after o o' o'' p line (gated.Done n) seen on s w is = absurd is
unserved_on g stores before mid after o o' o'' p line (gated.TooLongLine n) seen on s w is = absurd is
unserved_on g stores before mid after o o' o'' p line (gated.Refused r) seen on s w is =
    let requests = requests_of (asking_of line) in
    (refused_before g stores before mid after requests requests r (λ (one : Request). λ has. has) seen s.calm is.0, writes_on o o' o'' p [] [] [] [] w is.1)

pub flush_stopped : {S P : Type 0} (g : store.Ghosts S P) (stores : Databases S) (before after : Databases P) (o o' : StreamAt) (p line : List ℕ) (by : Gated)
    → Searches g before after 0 → IsBroken o o' p [] by → IsStopped g stores before after o o' p line by
flush_stopped g stores before after o o' p line gated.WriteFault s one = ([], inl refl, record { text = []; answered = none_answered g before after s; written = one })
flush_stopped g stores before after o o' p line gated.ReadFault s one = absurd one
flush_stopped g stores before after o o' p line (gated.Done n) s one = absurd one
flush_stopped g stores before after o o' p line (gated.TooLongLine n) s one = absurd one
flush_stopped g stores before after o o' p line (gated.Refused r) s one = absurd one

-- the answer to a line, and a flush after it that failed
pub answer_stopped : {S P : Type 0} (g : store.Ghosts S P) (stores : Databases S) (before after : Databases P) (o o' o'' : StreamAt) (p p' line : List ℕ) (by : Gated)
    → GathersAnswers g before after o o' p p' (line ∷ []) → IsBroken o' o'' p' [] by → IsStopped g stores before after o o'' p line by
answer_stopped g stores before after o o' o'' p p' line gated.WriteFault gathers one =
    let broken = fails_on o o' o'' p p' gathers.text [] gathers.written one in
    (line ∷ [], inr refl, record { text = gathers.text; answered = gathers.answered; written = subst (λ (t : List ℕ). WritesFront o o'' p t) (append-nil gathers.text) broken })
answer_stopped g stores before after o o' o'' p p' line gated.ReadFault gathers one = absurd one
answer_stopped g stores before after o o' o'' p p' line (gated.Done n) gathers one = absurd one
answer_stopped g stores before after o o' o'' p p' line (gated.TooLongLine n) gathers one = absurd one
answer_stopped g stores before after o o' o'' p p' line (gated.Refused r) gathers one = absurd one

pub short_stopped : {S P : Type 0} (g : store.Ghosts S P) (stores : Databases S) (before after : Databases P) (o o' : StreamAt) (p line : List ℕ) (by : Gated)
    → length line ≤ line_limit → IsUnserved g stores before after o o' p line by → IsStopped g stores before after o o' p line by
short_stopped g stores before after o o' p line gated.WriteFault fits is = is
short_stopped g stores before after o o' p line gated.ReadFault fits is = is
short_stopped g stores before after o o' p line (gated.Done n) fits is = is
short_stopped g stores before after o o' p line (gated.TooLongLine n) fits is = absurd is
short_stopped g stores before after o o' p line (gated.Refused r) fits is = (fits, is)

-- ---- a hit

pub hit_spelled : {S P : Type 0} (g : store.Ghosts S P) (before after : Databases P) (asking : LineAsks) (bytes : List ℕ) (found : Hit) → IsHit g before after asking bytes found → SpellsHit found bytes
hit_spelled g before after asking bytes hit.Bad is = tt
hit_spelled g before after asking bytes (hit.Reply by) is = is.0

pub hit_answered : {S P : Type 0} (g : store.Ghosts S P) (before after : Databases P) (line text : List ℕ) (asking : LineAsks) (bytes : List ℕ) (found : Hit) → length line ≤ line_limit → asking ≡ asking_of line
    → IsHit g before after asking bytes found → SaysHit found bytes text → AreAnswered g before after (line ∷ []) text
hit_answered g before after line text asking bytes hit.Bad fits asks is says =
    one_answered g before after line text None fits (subst (λ (a : LineAsks). IsAnswered g before after a None) asks is) says
hit_answered g before after line text asking bytes (hit.Reply by) fits asks is says =
    let reply = is.0.reply in
    let spells = is.0.spelled in
    one_answered g before after line text (Some reply) fits (subst (λ (a : LineAsks). IsAnswered g before after a (Some reply)) asks (is.1 reply spells)) (says reply spells)
