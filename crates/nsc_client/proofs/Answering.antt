-- What was asked for a line, request after request.
use Rattle.std.proofs.Common.{◌≡◌, ℕ, ◌⊎◌, true, false, List, [], ◌∷◌, Result, Ok, Err, IfOk, IfErr, All, None, Some, refl, sym, subst, arith, inl, inr, rules}
use Rattle.std.specs.Prelude.{Contains}
use Rattle.std.proofs.lemmas.List.Elements.{All-cons}
use Rattle.nsc_model.specs.declared.answer.Request.{Request}
use Rattle.nsc_model.specs.declared.databases.Databases.{Databases}
use Rattle.nsc_model.specs.declared.kind.Kind.{Kind}
use Rattle.nsc_model.specs.declared.kind.Kind.TheVariants as kind
use Rattle.nsc_model.specs.declared.record.Record.{Record}
use Rattle.nsc_model.specs.declared.row.Reply.{Reply}
use Rattle.nsc_model.specs.declared.row.Reply.TheVariants.{Found, Absent, Disabled}
use Rattle.nsc_model.specs.declared.store.LookupFault.{LookupFault}
use Rattle.nsc_model.specs.declared.store.LookupFault.TheVariants as fault
use Rattle.nsc_model.specs.declared.store.Store as store
use Rattle.nsc_model.specs.Databases.{database_in}
use Rattle.nsc_model.specs.History.{Answered, IsPrefix, Legal}
use Rattle.nsc_model.specs.Kinds.{database_of}
use Rattle.nsc_model.specs.Stores.{Continues}
use Rattle.nsc_model.specs.Wire.{Spells}
use Rattle.nsc_client.specs.declared.line.LineAsks.TheVariants.{Bad, One, HostNamed}
use Rattle.nsc_client.specs.declared.link.LinkFault.{LinkFault}
use Rattle.nsc_client.specs.Gate.{AreCalm, GaveUp, IsCause, IsRefusal, IsTold, SeeMore, requests_of, seen_in}
use Rattle.nsc_client.specs.GateText.{Told, has_entry, told}
use Rattle.nsc_client.specs.Replying.{IsAnswered, IsGiven}
use Rattle.nsc_client.specs.Sent.{CanBeSent}
use Rattle.nsc_client.proofs.FallenBack.{gives_up_before, stay_on}
use Rattle.nsc_client.proofs.Later.{answered_after, answered_before, prefix_through}

-- ---- a first part of a call, and the rest

goes_on : (less seen : List Record) → (seen ≡ less) ⊎ Continues less seen → IsPrefix less seen
goes_on less seen (inl same) = ([], same)
goes_on less seen (inr on) = on.before

later : (seen mid after : List Record) (request : Request) (bytes : List ℕ) → Legal mid → (after ≡ mid) ⊎ Continues mid after → Answered seen mid request bytes → Answered seen after request bytes × Legal after
later seen mid after request bytes l (inl same) a = subst (λ (h : List Record). Answered seen h request bytes × Legal h) (sym same) (a, l)
later seen mid after request bytes l (inr on) a = (answered_after seen mid after request bytes l on.legal on.before a, on.legal)

pub told_after : {S P : Type 0} (g : store.Ghosts S P) (before mid after : Databases P) (t : Told) → SeeMore g mid after → IsTold g before mid t → IsTold g before after t
told_after g before mid after t more is =
    let which = database_of t.request.kind in
    let both = later (seen_in g before which) (seen_in g mid which) (seen_in g after which) t.request is.bytes is.legal (more which) is.answered in
    record { bytes = is.bytes; answered = both.0; spelled = is.spelled; legal = both.1 }

pub told_before : {S P : Type 0} (g : store.Ghosts S P) (before mid after : Databases P) (t : Told) → SeeMore g before mid → IsTold g mid after t → IsTold g before after t
told_before g before mid after t more is =
    let which = database_of t.request.kind in
    record {
      bytes = is.bytes;
      answered = answered_before (seen_in g before which) (seen_in g mid which) (seen_in g after which) t.request is.bytes (goes_on (seen_in g before which) (seen_in g mid which) (more which)) is.answered;
      spelled = is.spelled;
      legal = is.legal;
    }

more_on : (a b c : List Record) → (b ≡ a) ⊎ Continues a b → (c ≡ b) ⊎ Continues b c → (c ≡ a) ⊎ Continues a c
more_on a b c p (inl same) = subst (λ (h : List Record). (h ≡ a) ⊎ Continues a h) (sym same) p
more_on a b c p (inr on) = inr (record { before = prefix_through a b c (goes_on a b p) on.before; legal = on.legal; fit = on.fit })

pub sees_on : {S P : Type 0} (g : store.Ghosts S P) (before mid after : Databases P) → SeeMore g before mid → SeeMore g mid after → SeeMore g before after
sees_on g before mid after p q which = more_on (seen_in g before which) (seen_in g mid which) (seen_in g after which) (p which) (q which)

pub calm_on : {S P : Type 0} (g : store.Ghosts S P) (before mid after : Databases P) → AreCalm g before mid → AreCalm g mid after → AreCalm g before after
calm_on g before mid after p q which =
    let a = database_in before which in
    let b = database_in mid which in
    let c = database_in after which in
    stay_on (g.at a).faults (g.at b).faults (g.at c).faults (g.at a).file_faults (g.at b).file_faults (g.at c).file_faults (p which) (q which)

-- ---- refusals

gave_up_before : {S P : Type 0} (g : store.Ghosts S P) (stores : Databases S) (before mid after : Databases P) (request : Request) (cause : LookupFault)
    → SeeMore g before mid → AreCalm g before mid → GaveUp g stores mid after request cause → GaveUp g stores before after request cause
gave_up_before g stores before mid after request cause more calm up =
    let which = database_of request.kind in
    let a = database_in before which in
    let b = database_in mid which in
    let c = database_in after which in
    gives_up_before (g.settings (database_in stores which)) (g.at a).seen (g.at b).seen (g.at c).seen request (g.at a).faults (g.at b).faults (g.at c).faults (g.at a).file_faults (g.at b).file_faults (g.at c).file_faults cause
    (goes_on (g.at a).seen (g.at b).seen (more which)) (calm which) up

cause_before : {S P : Type 0} (g : store.Ghosts S P) (stores : Databases S) (before mid after : Databases P) (some all : List Request) (cause : LookupFault)
    → ((r : Request) → Contains some r → Contains all r) → SeeMore g before mid → AreCalm g before mid → IsCause g stores mid after some cause → IsCause g stores before after all cause
cause_before g stores before mid after some all fault.NoMemory within more calm is = calm_on g before mid after calm is
cause_before g stores before mid after some all (fault.Spent count) within more calm is = (is.0, within is.0 is.1, gave_up_before g stores before mid after is.0 (fault.Spent count) more calm is.2)
cause_before g stores before mid after some all (fault.SourceFault file) within more calm is = (is.0, within is.0 is.1, gave_up_before g stores before mid after is.0 (fault.SourceFault file) more calm is.2)
cause_before g stores before mid after some all (fault.TooLong file size) within more calm is = (is.0, within is.0 is.1, gave_up_before g stores before mid after is.0 (fault.TooLong file size) more calm is.2)

pub refused_before : {S P : Type 0} (g : store.Ghosts S P) (stores : Databases S) (before mid after : Databases P) (some all : List Request) (refused : LinkFault)
    → ((r : Request) → Contains some r → Contains all r) → SeeMore g before mid → AreCalm g before mid → IsRefusal g stores mid after some refused → IsRefusal g stores before after all refused
refused_before g stores before mid after some all refused within more calm is = (is.0, is.1, cause_before g stores before mid after some all is.0 within more calm is.2)

-- ---- answers

can_be_sent : (by : Kind) (reply : Reply) (bytes : List ℕ) → Spells by reply bytes → CanBeSent reply
can_be_sent by (Found row) bytes spelled = spelled.of_kind.1
can_be_sent by Absent bytes spelled = tt
can_be_sent by Disabled bytes spelled = tt

pub none_asked : {S P : Type 0} (g : store.Ghosts S P) (passes : Databases P) → IsAnswered g passes passes Bad None
none_asked g passes = record {
  asked = [];
  are_asked = refl;
  told = search rules;
  says = refl;
  searched = omega arith;
  calm = λ which. (refl, refl);
  sent = tt;
}

lone_told : {S P : Type 0} (g : store.Ghosts S P) (before after : Databases P) (t : Told) → IsTold g before after t → All (IsTold g before after) (t ∷ [])
lone_told g before after t is = All-cons (IsTold g before after) t [] is (search rules)

pub one_asked : {S P : Type 0} (g : store.Ghosts S P) (before after : Databases P) (request : Request) (reply : Reply) → IsGiven g before after request reply → IsAnswered g before after (One request) (Some reply)
one_asked g before after request reply given = record {
  asked = record { request = request; reply = reply } ∷ [];
  are_asked = (reply, refl);
  told = lone_told g before after (record { request = request; reply = reply }) given.told;
  says = refl;
  searched = given.searched;
  calm = given.calm;
  sent = can_be_sent request.kind reply given.told.bytes given.told.spelled;
}

pub first_asked : {S P : Type 0} (g : store.Ghosts S P) (before after : Databases P) (name : List ℕ) (reply : Reply)
    → IsGiven g before after (record { kind = kind.HostName; key = name }) reply → has_entry reply ≡ true → IsAnswered g before after (HostNamed name) (Some reply)
first_asked g before after name reply given has = record {
  asked = told kind.HostName name reply ∷ [];
  are_asked = inl (reply, has, refl);
  told = lone_told g before after (told kind.HostName name reply) given.told;
  says = refl;
  searched = given.searched;
  calm = given.calm;
  sent = can_be_sent kind.HostName reply given.told.bytes given.told.spelled;
}

pub both_asked : {S P : Type 0} (g : store.Ghosts S P) (before mid after : Databases P) (name : List ℕ) (first second : Reply)
    → IsGiven g before mid (record { kind = kind.HostName; key = name }) first → has_entry first ≡ false → SeeMore g before mid → SeeMore g mid after
    → IsGiven g mid after (record { kind = kind.HostName6; key = name }) second → IsAnswered g before after (HostNamed name) (Some second)
both_asked g before mid after name first second one none more on two = record {
  asked = told kind.HostName name first ∷ told kind.HostName6 name second ∷ [];
  are_asked = inr (first, second, none, refl);
  told = All-cons (IsTold g before after) (told kind.HostName name first) (told kind.HostName6 name second ∷ [])
      (told_after g before mid after (told kind.HostName name first) on one.told)
      (lone_told g before after (told kind.HostName6 name second) (told_before g before mid after (told kind.HostName6 name second) more two.told));
  says = refl;
  searched = (let a = one.searched in let b = two.searched in omega arith);
  calm = calm_on g before mid after one.calm two.calm;
  sent = can_be_sent kind.HostName6 second two.told.bytes two.told.spelled;
}

pub all_both_asked : {S P : Type 0} (g : store.Ghosts S P) (before mid after : Databases P) (name : List ℕ) (first : Reply) (read : Result Reply LinkFault)
    → IsGiven g before mid (record { kind = kind.HostName; key = name }) first → has_entry first ≡ false → SeeMore g before mid → SeeMore g mid after
    → IfOk read (IsGiven g mid after (record { kind = kind.HostName6; key = name })) → IfOk read (λ reply. IsAnswered g before after (HostNamed name) (Some reply))
all_both_asked g before mid after name first (Ok second) one none more on two = both_asked g before mid after name first second one none more on two
all_both_asked g before mid after name first (Err refused) one none more on two = tt

last_of : (name : List ℕ) (r : Request) → Contains (record { kind = kind.HostName6; key = name } ∷ []) r → Contains (requests_of (HostNamed name)) r
last_of name r has = grind (arith, has)

pub second_refused : {S P : Type 0} (g : store.Ghosts S P) (stores : Databases S) (before mid after : Databases P) (name : List ℕ) (read : Result Reply LinkFault)
    → SeeMore g before mid → AreCalm g before mid → IfErr read (IsRefusal g stores mid after (record { kind = kind.HostName6; key = name } ∷ [])) → IfErr read (IsRefusal g stores before after (requests_of (HostNamed name)))
second_refused g stores before mid after name (Ok reply) more calm is = tt
second_refused g stores before mid after name (Err refused) more calm is =
    refused_before g stores before mid after (record { kind = kind.HostName6; key = name } ∷ []) (requests_of (HostNamed name)) refused (last_of name) more calm is
