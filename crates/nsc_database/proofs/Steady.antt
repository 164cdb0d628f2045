-- The one version of a database whose file sets all tell one content.
use Rattle.std.proofs.Common.{◌≡◌, ◌∙◌, ℕ, ◌+◌, ◌≤◌, Bool, true, false, cond, eqb, All, List, [], ◌∷◌, ◌++◌, Option, Some, None, Result, Ok, Err, refl, sym, ap, subst, arith, inl, inr}
use Rattle.std.proofs.lemmas.Bool.{false≢true}
use Rattle.std.specs.Prelude.{OnErr, OnOk}
use Rattle.nsc_model.specs.declared.answer.Request.{Request}
use Rattle.nsc_model.specs.declared.kind.Db.{Db}
use Rattle.nsc_model.specs.declared.record.Record.{Record}
use Rattle.nsc_model.specs.declared.record.Record.TheVariants.{Change, Poll, Load, End, Invalid}
use Rattle.nsc_model.specs.Answers.{answer_of}
use Rattle.nsc_model.specs.Content.{Content}
use Rattle.nsc_model.specs.Entry.{Entry}
use Rattle.nsc_model.specs.Files.{part_of, same_files}
use Rattle.nsc_model.specs.History.{Answered, HasLoad, IsPrefix, IsTrueAnswer, Legal, changes, version_in}
use Rattle.nsc_model.specs.Machine.{Cache, last_count, polled}
use Rattle.nsc_model.specs.Reads.{IsOfHeld}
use Rattle.nsc_model.proofs.Contents.{content_same}
use Rattle.nsc_laws.specs.Calls.{Tells}
use Rattle.nsc_laws.proofs.CoreLawRecords.{version_held}
use Rattle.nsc_laws.proofs.RunReplies.{changes_grow}
use Rattle.nsc_laws.proofs.SpelledHistories.{version_below}
use Rattle.nsc_pruner.proofs.Pruned.{head_of, tail_of}
use Rattle.nsc_seats.specs.Seats.{IsBefore}
use Rattle.nsc_writer.specs.Former.{Former}
use Rattle.nsc_writer.specs.declared.loaded.Stamp.{Stamp}
use Rattle.nsc_writer.specs.Writer.{Writer, Polls, emptied_by}
use Rattle.nsc_writer.proofs.Later.{version_on}
use Rattle.nsc_model.specs.Steady.{HasOne, IsSteady}
use Rattle.nsc_database.specs.Steady.{IsStill, KeepsVersion, StaysStill, WasSteady}

-- ---- a cache that keeps its version

pub still_kept : (files : Content) (which : Db) (before after : Cache) → KeepsVersion before after → IsStill files which before → IsStill files which after
still_kept files which before after k s = record { first = k.version ∙ s.first; part = k.sources ∙ s.part }

pub keeps_through : (a b c : Cache) → KeepsVersion a b → KeepsVersion b c → KeepsVersion a c
keeps_through a b c k l = record { version = l.version ∙ k.version; sources = l.sources ∙ k.sources }

pub version_emptied : (w w' : Writer) → w' ≡ emptied_by w → KeepsVersion w.cache w'.cache
version_emptied w w' is = subst (λ (x : Writer). KeepsVersion w.cache x.cache) (sym is) (record { version = refl; sources = refl })

-- a poll of the database's part of the files confirms the version
pub still_polled : (files : Content) (all : Content) (which : Db) (epoch : ℕ) (w w' : Writer) (stamp : Stamp) → Polls (polled files w.cache) epoch w w' (Ok stamp) → IsStill all which w.cache → files ≡ part_of which all → IsStill all which w'.cache
still_polled files all which epoch w w' stamp p s part = by_same (same_files files w.cache.sources) refl p where
  same : same_files files w.cache.sources ≡ true
  same = subst (λ (c : Content). same_files files c ≡ true) (part ∙ sym s.part) (content_same files)

  by_same : (b : Bool) → same_files files w.cache.sources ≡ b → Polls (cond b (Ok (record { cache = w.cache; adds = Poll w.cache.newest_version ∷ [] })) (cond (eqb w.cache.newest_version last_count) (Err (record { cache = w.cache; adds = []; count = last_count }))
      (Ok (record { cache = record w.cache { sources = files; newest_version = w.cache.newest_version + 1 }; adds = Change (w.cache.newest_version + 1) files ∷ [] })))) epoch w w' (Ok stamp) → IsStill all which w'.cache
  by_same true is q = subst (λ (x : Writer). IsStill all which x.cache) (sym q.1) (record { first = s.first; part = s.part })
  by_same false is q = absurd (false≢true (sym is ∙ same))

-- ---- its history

pub one_of_still : (files : Content) (which : Db) (h : List Record) (cache : Cache) → Tells h cache → IsStill files which cache → HasOne files which h
one_of_still files which h cache t s =
    let counted : changes h ≡ cache.newest_version + 1 = t.counted in
    let first : cache.newest_version ≡ 0 = s.first in
    record { one = omega arith; part = subst (λ (n : ℕ). version_in h n ≡ Some (part_of which files)) s.first (t.held ∙ ap (λ (c : Content). Some c) s.part) }

-- and every beginning of it
first_version : (h : List Record) → Legal h → 1 ≤ changes h
first_version [] l = absurd l
first_version (Change v c ∷ []) l = omega arith
first_version (Change v c ∷ s ∷ before) l = let low = first_version (s ∷ before) l.0 in omega arith
first_version (Poll v ∷ before) l = first_version before l.0
first_version (Load e ∷ before) l = first_version before l.0
first_version (End n cause ∷ before) l = first_version before l.0
first_version (Invalid n ∷ before) l = first_version before l.0

one_before : (files : Content) (which : Db) (seen h : List Record) → Legal seen → Legal h → IsPrefix seen h → HasOne files which h → HasOne files which seen
one_before files which seen h legal legal_h p one =
    let some = first_version seen legal in
    let grows = changes_grow p.0 seen in
    let all : changes h ≡ changes (p.0 ++ seen) = ap changes p.1 in
    let only : changes h ≡ 1 = one.one in
    let first = version_held seen 0 legal (omega arith) in
    record { one = omega arith; part = first.1 ∙ sym (version_on seen h 0 first.0 legal_h legal p first.1) ∙ one.part }

-- so is what had been seen by the time that a table was left
pub steady_before : (held : Option Content) (which : Db) (seen : List Record) (left : List Former) → Legal seen → IsBefore seen left → All (WasSteady held which) left → IsSteady held which seen
steady_before held which seen [] legal before all = absurd before
steady_before held which seen (f ∷ left) legal (inl here) all = λ files e. let was = head_of (WasSteady held which) f left all in one_before files which seen f.stock.seen legal was.0 here (was.1 files e)
steady_before held which seen (f ∷ left) legal (inr later) all = steady_before held which seen left legal later (tail_of (WasSteady held which) f left all)

-- and what was seen by a caller that went on to the table that is written, or to one before it
pub steady_followed : {E : Type 0} (r : Result (Unit {0}) E) (held : Option Content) (which : Db) (seen : List Record) (left : List Former) (w : Writer) → OnOk r (seen ≡ w.seen) → OnErr r (IsBefore seen left) → Legal seen → Tells w.seen w.cache → StaysStill held which w.cache → All (WasSteady held which) left → IsSteady held which seen
steady_followed (Ok done) held which seen left w whole before legal t still all = λ files e. subst (HasOne files which) (sym whole) (one_of_still files which w.seen w.cache t (still files e))
steady_followed (Err fault) held which seen left w whole before legal t still all = steady_before held which seen left legal before all

-- ---- answers over it

true_answer : (h : List Record) (e : Entry) → Legal h → HasLoad h e → IsTrueAnswer h e
true_answer [] e l a = absurd l
true_answer (Change v c ∷ []) e l a = absurd a
true_answer (Change v c ∷ r ∷ before) e l a = on (true_answer (r ∷ before) e l.0 a) where
  on : IsTrueAnswer (r ∷ before) e → IsTrueAnswer (Change v c ∷ r ∷ before) e
  on t = (t.0, version_on (r ∷ before) (Change v c ∷ r ∷ before) e.version t.0 l l.0 (Change v c ∷ [], refl) t.1, t.2)
true_answer (Poll v ∷ before) e l a = true_answer before e l.0 a
true_answer (Load entry ∷ before) e l (inl same) = subst (λ (x : Entry). IsTrueAnswer before x) same l.3
true_answer (Load entry ∷ before) e l (inr a) = true_answer before e l.0 a
true_answer (End n cause ∷ before) e l a = true_answer before e l.0 a
true_answer (Invalid n ∷ before) e l a = true_answer before e l.0 a

only_version : (files : Content) (which : Db) (h : List Record) (n : ℕ) (c : Content) → Legal h → HasOne files which h → version_in h n ≡ Some c → c ≡ part_of which files
only_version files which h n c l one is = some_is c (part_of which files) (sym (subst (λ (m : ℕ). version_in h m ≡ Some c) zero_is is) ∙ one.part) where
  some_is : (a b : Content) → Some a ≡ Some b → a ≡ b
  some_is a b s = cc

  zero_is : n ≡ 0
  zero_is = let low = version_below h n c l is in let count : changes h ≡ 1 = one.one in omega arith

pub one_answer : (files : Content) (which : Db) (seen h : List Record) (request : Request) (bytes : List ℕ) → Legal h → HasOne files which h → Answered seen h request bytes → bytes ≡ (answer_of (part_of which files) request).bytes
one_answer files which seen h request bytes l one a = elim a.source [
  | inl e ↦
      let t = true_answer h e.entry_is l e.inserted in
      let c = only_version files which h e.entry_is.version t.0 l one t.1 in
      sym e.said ∙ ap (λ x. x.bytes) t.2 ∙ (λ i. (answer_of (c i) (e.answers i)).bytes)
  | inr p ↦
      let c = only_version files which h p.version_is p.files_are l one p.holds in
      sym p.said ∙ ap (λ (x : Content). (answer_of x request).bytes) c
]

pub is_of_held : (held : Option Content) (which : Db) (seen h : List Record) (request : Request) (bytes : List ℕ) → Legal h → IsSteady held which h → Answered seen h request bytes → IsOfHeld held which request bytes
is_of_held None which seen h request bytes l steady a = tt
is_of_held (Some files) which seen h request bytes l steady a = one_answer files which seen h request bytes l (steady files refl) a
