-- What holds of a desk while its lock is free stays so, and what passes see under holds of the lock.
use Rattle.std.proofs.Common.{◌≡◌, ◌∙◌, ℕ, ◌≤◌, ◌⊎◌, false, List, Option, Result, Ok, Err, arith, inl, inr, subst, sym}
use Rattle.std.specs.Prelude.{OnOk}
use Rattle.nsc_outside.specs.declared.files.FileSet as file_set
use Rattle.nsc_model.specs.declared.answer.Request.{Request}
use Rattle.nsc_model.specs.declared.conf.DbConf.{DbConf}
use Rattle.nsc_model.specs.declared.kind.Db.{Db}
use Rattle.nsc_model.specs.Content.{Content}
use Rattle.nsc_model.specs.History.{IsPrefix}
use Rattle.nsc_model.specs.Machine.{is_outdated, room_of}
use Rattle.nsc_model.specs.Stores.{AreLoadedAgain}
use Rattle.nsc_model.specs.declared.store.Spent.{Spent as SpentCount}
use Rattle.nsc_writer.specs.Former.{Former}
use Rattle.nsc_writer.specs.Writer.{Writer}
use Rattle.nsc_sourcebook.specs.Book.{Fetched, Polled, PollsBook, SourceBook}
use Rattle.nsc_writer.proofs.Later.{prefix_through}
use Rattle.nsc_growth.specs.Sized.{IsSized}
use Rattle.nsc_seats.specs.Seats.{Seats}
use Rattle.nsc_database.specs.declared.pass.DbPass.{DbPass}
use Rattle.nsc_database.specs.declared.room.Room as room
use Rattle.nsc_database.specs.Frames.{Goes, Held, LoadedLastCycle}
use Rattle.nsc_database.specs.Rests.{IsAtRest, LoadsAgain, Rests}
use Rattle.nsc_sourcebook.specs.Reads.{IsPart}
use Rattle.nsc_database.proofs.Rests.{keeps_current, keeps_stays, packed_stays, polls_stay, rests_same}
use Rattle.nsc_database.proofs.Shown.{polls_spent}
use Rattle.nsc_database.proofs.Steady.{still_kept, still_polled}

pub at_rest_on : {settings : DbConf} {brought : Request → ℕ} {limit : Option ℕ} {held : Option Content} {which : Db} {ticked : ℕ} (left : List Former) (w w' : Writer) → Rests which brought w w' → IsAtRest settings brought limit held which ticked left w → IsAtRest settings brought limit held which ticked left w'
at_rest_on {settings} {brought} {limit} {held} {which} {ticked} left w w' r s = (r.keeps settings limit ticked s.0, r.packed s.1, λ files e. still_kept files which w.cache w'.cache r.version (s.2 files e), r.again (room_of settings) s.3, r.slide ∙ s.4, subst (IsSized settings) (sym r.layout) s.5, s.6, λ e a. elim (r.inserts e a) [ inl old ↦ s.7 e old | inr own ↦ own ])

pub at_rest_same : {settings : DbConf} {brought : Request → ℕ} {limit : Option ℕ} {held : Option Content} {which : Db} {ticked : ℕ} (left : List Former) (w w' : Writer) → w' ≡ w → IsAtRest settings brought limit held which ticked left w → IsAtRest settings brought limit held which ticked left w'
at_rest_same left w w' is s = at_rest_on left w w' (rests_same w w' is) s

pub at_rest_polled : {settings : DbConf} {brought : Request → ℕ} {limit : Option ℕ} {held : Option Content} {which : Db} {ticked : ℕ} (left : List Former) (fetched : Fetched) (epoch : ℕ) (b b' : SourceBook) (w w' : Writer) (result : Result Polled SpentCount) → PollsBook fetched epoch b b' w w' result → IsPart held which fetched.content
    → IsAtRest settings brought limit held which ticked left w → IsAtRest settings brought limit held which ticked left w'
at_rest_polled {settings} {brought} {limit} {held} {which} {ticked} left fetched epoch b b' w w' (Ok p) q part s =
    let stays = polls_stay fetched.content epoch w w' p.stamp q.0 in (
      keeps_stays settings brought limit ticked w w' stays s.0,
      packed_stays w w' stays s.1,
      λ all e. still_polled fetched.content all which epoch w w' p.stamp q.0 (s.2 all e) (part all e),
      subst (λ (n : ℕ). LoadsAgain (room_of settings) n w'.seen) (sym stays.cycle) (stays.adds.again (room_of settings) w.cache.cycle s.3),
      stays.slide ∙ s.4,
      subst (IsSized settings) (sym stays.layout) s.5,
      s.6,
      λ e a. s.7 e (stays.adds.loads e a),
    )
at_rest_polled {settings} {brought} {limit} {held} {which} {ticked} left fetched epoch b b' w w' (Err spent) q part s = at_rest_same left w w' (polls_spent fetched.content epoch w w' spent q.0).2 s

-- nothing changed
pub at_rest_kept : {settings : DbConf} {brought : Request → ℕ} {limit : Option ℕ} {held : Option Content} {which : Db} {ticked : ℕ} (left left' : List Former) (w w' : Writer) → left' ≡ left → w' ≡ w → IsAtRest settings brought limit held which ticked left w → IsAtRest settings brought limit held which ticked left' w'
at_rest_kept {settings} {brought} {limit} {held} {which} {ticked} left left' w w' same is s = subst (λ (ls : List Former). IsAtRest settings brought limit held which ticked ls w') (sym same) (at_rest_same left w w' is s)

-- where the newest version is the one that the last tick found, or that does not count
pub at_rest_current : {settings : DbConf} {brought : Request → ℕ} {limit : Option ℕ} {held : Option Content} {which : Db} {ticked : ℕ} (left : List Former) (newest : ℕ) (w w' : Writer) → w' ≡ w → newest ≡ w.cache.newest_version → is_outdated settings w.cache.newest_version ticked ≡ false → IsAtRest settings brought limit held which ticked left w
    → IsAtRest settings brought limit held which newest left w'
at_rest_current {settings} {brought} {limit} {held} {which} {ticked} left newest w w' same is current s =
    at_rest_same left w w' same (keeps_current settings brought limit ticked newest w (subst (λ (n : ℕ). is_outdated settings n ticked ≡ false) (sym is) current) s.0, s.1, s.2, s.3, s.4, s.5, s.6, s.7)

-- what holds in any case
pub in_any_case : {T E P : Type 0} (r : Result T E) → P → OnOk r P
in_any_case (Ok x) p = p
in_any_case (Err e) p = tt

-- one hold after the other
pub held_through : {F B : Type 0} {G : file_set.Ghosts F} {R : room.Ghosts B} (a b c : DbPass F B G R) → Held a b → Held b c → Held a c
held_through a b c h i = record { db = i.db ∙ h.db; files = i.files ∙ h.files; before = prefix_through a.pass.seen b.pass.seen c.pass.seen h.before i.before; legal = i.legal; fit = i.fit; searches = let low = h.searches in let more = i.searches in omega arith }

-- one behind a call that changed nothing of the pass but the records that it made
pub held_past : {F B : Type 0} {G : file_set.Ghosts F} {R : room.Ghosts B} (a b b' c : DbPass F B G R) → b'.db ≡ b.db → b'.files ≡ b.files → b'.pass ≡ b.pass → Held a b → Held b' c → Held a c
held_past a b b' c db files pass h i = held_through a b c h (record {
  db = i.db ∙ db;
  files = i.files ∙ files;
  before = subst (λ (s : Seats). IsPrefix s.seen c.pass.seen) pass i.before;
  legal = i.legal;
  fit = i.fit;
  searches = subst (λ (s : Seats). s.searching.searches ≤ c.pass.searching.searches) pass i.searches;
})

pub goes_after : {F B : Type 0} {G : file_set.Ghosts F} {R : room.Ghosts B} (a b c : DbPass F B G R) → Held a b → Goes b c → Goes a c
goes_after a b c h i = record { db = i.db ∙ h.db; before = prefix_through a.pass.seen b.pass.seen c.pass.seen h.before i.before; legal = i.legal; fit = i.fit; searches = let low = h.searches in let more = i.searches in omega arith }

pub goes_on : {F B : Type 0} {G : file_set.Ghosts F} {R : room.Ghosts B} (a b c : DbPass F B G R) → Goes a b → Held b c → Goes a c
goes_on a b c h i = record { db = i.db ∙ h.db; before = prefix_through a.pass.seen b.pass.seen c.pass.seen h.before i.before; legal = i.legal; fit = i.fit; searches = let low = h.searches in let more = i.searches in omega arith }

-- CYCLE was loaded as 2^62 in a call that began earlier
pub loaded_before : {F B : Type 0} {G : file_set.Ghosts F} {R : room.Ghosts B} (a b c : DbPass F B G R) → a.pass.searching.searches ≤ b.pass.searching.searches → LoadedLastCycle b c → LoadedLastCycle a c
loaded_before a b c on l = ((let more = l.0 in omega arith), l.1)

pub again_before : {F B : Type 0} {G : file_set.Ghosts F} {R : room.Ghosts B} (arena : ℕ) (a b c : DbPass F B G R) → a.pass.searching.searches ≤ b.pass.searching.searches → AreLoadedAgain arena c.pass.seen ⊎ LoadedLastCycle b c → AreLoadedAgain arena c.pass.seen ⊎ LoadedLastCycle a c
again_before arena a b c on (inl all) = inl all
again_before arena a b c on (inr found) = inr (loaded_before a b c on found)
