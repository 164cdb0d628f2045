-- How the thread that accepts ends.
use Rattle.std.proofs.Common.{◌≡◌, ◌∙◌, ℕ, List, [], ◌∷◌, ◌++◌, Option, Some, None, IfSome, refl, ap, subst, inl, inr, arith}
use Rattle.nsc_outside.specs.Stream.{Moves}
use Rattle.nsc_model.specs.Reads.{Rose}
use Rattle.nsc_model.specs.Content.{Content}
use Rattle.nsc_model.specs.declared.exit.Exit.{Exit}
use Rattle.nsc_model.specs.declared.exit.Exit.TheVariants as exits
use Rattle.nsc_model.specs.Wire.{Asked, Shutdown, request_of}
use Rattle.nsc_outside.specs.declared.files.FileSet as file_set
use Rattle.nsc_sourcebook.specs.Reads.{NotFetched}
use Rattle.nsc_sourcebook.specs.declared.fault.PollFault.{PollFault}
use Rattle.nsc_sourcebook.specs.declared.fault.PollFault.TheVariants as poll
use Rattle.nsc_server.specs.declared.scope.Scopes.{Scopes}
use Rattle.nsc_server.specs.Requests.{closing_of}
use Rattle.nsc_server.proofs.Reading.{shutdown_stays}
use Rattle.nsc_sockets.specs.Connections.{Connection, Gives}
use Rattle.nsc_sockets.specs.declared.listener.Accepted.{Accepted}
use Rattle.nsc_sockets.specs.declared.listener.Accepted.TheVariants as accepted
use Rattle.nsc_sockets.specs.declared.role.Role.{Role}
use Rattle.nsc_sockets.specs.declared.role.Role.TheVariants as role
use Rattle.nsc_daemon.specs.Ends.{AsksEnd, DaemonAt, EndsSo, GivesMore, IsOpeningFault, IsReady, IsToldEnd, LastTellsEnd, StopsSo, TellsEnd, TellsFileLength, TellsHeldLength, opening_exit}

pub told_end : (scopes : Scopes) (on : Role) (left left' : Option (List ℕ)) (front : List ℕ) → Moves left left' front → closing_of scopes on (request_of front) ≡ None → request_of front ≡ Shutdown → TellsEnd on left
told_end scopes on left left' front moved free asked = record { admin = by_role on (subst (λ (a : Asked). closing_of scopes on a ≡ None) asked free); asked = by_left left moved } where
  by_role : (r : Role) → closing_of scopes r Shutdown ≡ None → r ≡ role.Admin
  by_role role.Plain e = absurd cc
  by_role role.Admin e = refl
  by_role role.Gate e = absurd cc

  by_left : (l : Option (List ℕ)) → Moves l left' front → IfSome l AsksEnd
  by_left None m = tt
  by_left (Some bytes) m = ap request_of m.2 ∙ shutdown_stays front m.0 asked

-- the listener gave nothing more
pub goes_same : (given : Option (List Connection)) → GivesMore given given
goes_same None = refl
goes_same (Some given) = ([], refl)

-- it gave what was accepted
pub goes_given : {R K : Type 0} (left : R → Option (List ℕ)) (first before after : Option (List Connection)) (got : Accepted R K) → GivesMore first before → Gives left before after got → GivesMore first after
goes_given left None before after (accepted.Conn on input output) g gives = gives_none before g gives where
  gives_none : (b : Option (List Connection)) → b ≡ None → Gives left b after (accepted.Conn on input output) → after ≡ None
  gives_none None e given = given
  gives_none (Some old) e given = absurd cc
goes_given left None before after accepted.Quiet g gives = gives ∙ g
goes_given left (Some given) before after (accepted.Conn on input output) g gives = gives_one before g.1 gives where
  gives_one : (b : Option (List Connection)) → b ≡ Some (g.0 ++ given) → Gives left b after (accepted.Conn on input output) → GivesMore (Some given) after
  gives_one None e got = absurd cc
  gives_one (Some old) e got = (record { role = on; bytes = got.0 } ∷ g.0, got.2 ∙ ap (λ (l : List Connection). Some (record { role = on; bytes = got.0 } ∷ l)) (some_is old (g.0 ++ given) e)) where
    some_is : (a b : List Connection) → Some a ≡ Some b → a ≡ b
    some_is a b s = cc
goes_given left (Some given) before after accepted.Quiet g gives = (g.0, gives ∙ g.1)

-- what was accepted told the daemon to end
pub ends_by : {R K : Type 0} (left : R → Option (List ℕ)) (first before after : Option (List Connection)) (got : Accepted R K) → GivesMore first before → Gives left before after got → IsToldEnd left got → LastTellsEnd first after
ends_by left None before after got g gives told = tt
ends_by left (Some given) before after (accepted.Conn on input output) g gives told = by_before before g.1 gives where
  by_before : (b : Option (List Connection)) → b ≡ Some (g.0 ++ given) → Gives left b after (accepted.Conn on input output) → LastTellsEnd (Some given) after
  by_before None e got = absurd cc
  by_before (Some old) e got = record {
    last = record { role = on; bytes = got.0 };
    more = g.0;
    all = got.2 ∙ ap (λ (l : List Connection). Some (record { role = on; bytes = got.0 } ∷ l)) (some_is old (g.0 ++ given) e);
    admin = told.admin;
    asked = asks (left input) got.1 told.asked;
  } where
    some_is : (a b : List Connection) → Some a ≡ Some b → a ≡ b
    some_is a b s = cc

    asks : (l : Option (List ℕ)) → l ≡ Some got.0 → IfSome l AsksEnd → AsksEnd got.0
    asks l is a = subst (λ (x : Option (List ℕ)). IfSome x AsksEnd) is a
ends_by left (Some given) before after accepted.Quiet g gives told = absurd told

-- the files of a database could not be read at the start
pub at_opening : {F : Type 0} (g : file_set.Ghosts F) (files files' : F) (fault : PollFault) → NotFetched g files files' fault → IsOpeningFault fault (g.faults files) (g.faults files')
at_opening g files files' poll.NoMemory none = tt
at_opening g files files' (poll.SourceFault file) failed = failed.all
at_opening g files files' (poll.TooLong file size) failed = failed.0.all

pub at_length : {F : Type 0} (g : file_set.Ghosts F) (files files' : F) (fault : PollFault) → NotFetched g files files' fault → TellsFileLength fault (g.held files)
at_length g files files' poll.NoMemory none = tt
at_length g files files' (poll.SourceFault file) failed = tt
at_length g files files' (poll.TooLong file size) failed = failed.1

-- then the daemon ends so, and nothing was written
pub unopened : (fault : PollFault) (held : Option Content) (before after : DaemonAt) → after.output ≡ before.output → IsOpeningFault fault before.source_faults after.source_faults → TellsFileLength fault held
    → EndsSo (opening_exit fault) before after
unopened poll.NoMemory held before after silent rose told = inl silent
unopened (poll.SourceFault file) held before after silent rose told = (rose, silent)
unopened (poll.TooLong file size) held before after silent rose told = (rose, silent, told.past)

pub length_held : (fault : PollFault) (held : Option Content) → TellsFileLength fault held → TellsHeldLength (opening_exit fault) held
length_held poll.NoMemory held told = tt
length_held (poll.SourceFault file) held told = tt
length_held (poll.TooLong file size) held told = (file, told)

-- the daemon ends as the thread that accepts did, once it was ready
pub ready_so : (by : Exit) (before after : DaemonAt) → IsReady before after → after.source_faults ≡ before.source_faults → StopsSo by before.given after.given before.net_faults after.net_faults → EndsSo by before after
ready_so exits.Ok before after r s stops = (r, stops.0, stops.1, s)
ready_so exits.NetFault before after r s stops = (stops, inr r)
ready_so _ before after r s stops = absurd stops

-- an end to which no count of the files' faults rises is not that of a file that is too long
pub calm_so : (by : Exit) (held : Option Content) (before after : DaemonAt) → before.source_faults ≡ 0 → after.source_faults ≡ 0 → EndsSo by before after → TellsHeldLength by held
calm_so (exits.TooLong size) held before after b a ends = absurd (unrisen ends.0) where
  unrisen : Rose before.source_faults after.source_faults → ⊥
  unrisen (inl more) = omega arith
  unrisen (inr full) = omega arith
calm_so _ held before after b a ends = tt
