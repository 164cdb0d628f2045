-- What a growth leaves of what holds of a writer while its lock is free.
use Rattle.std.proofs.Common.{◌≡◌, ◌∙◌, ℕ, zero, suc, ◌+◌, ◌≤◌, All, List, [], ◌∷◌, ◌++◌, Option, Result, Ok, Err, inl, refl, sym, ap, subst, arith}
use Rattle.std.proofs.lemmas.List.Elements.{All-append}
use Rattle.std.specs.Prelude.{OnErr, OnOk}
use Rattle.nsc_words.specs.declared.layout.Layout.{Layout}
use Rattle.nsc_model.specs.declared.answer.Request.{Request}
use Rattle.nsc_model.specs.declared.conf.DbConf.{DbConf}
use Rattle.nsc_model.specs.declared.kind.Db.{Db}
use Rattle.nsc_model.specs.Content.{Content}
use Rattle.nsc_model.specs.Machine.{all_words, next_count, room_of}
use Rattle.nsc_laws.specs.Calls.{Tells}
use Rattle.nsc_writer.specs.Enlarged.{IsEnlarged}
use Rattle.nsc_writer.specs.Former.{Former}
use Rattle.nsc_writer.specs.Writer.{Writer}
use Rattle.nsc_growth.specs.Sized.{IsSized}
use Rattle.nsc_database.specs.Growing.{GoesOver, GrowsOnce, HasLeft}
use Rattle.nsc_database.specs.Rests.{Desk, IsAtRest}
use Rattle.nsc_database.specs.Steady.{StaysStill, WasSteady}
use Rattle.nsc_database.proofs.Again.{again_later}
use Rattle.nsc_database.proofs.Standing.{at_rest_kept}
use Rattle.nsc_database.proofs.Steady.{one_of_still}

-- the table that was left had seen all of the writer's history
steady_left : (held : Option Content) (which : Db) (layout : Layout) (w w' : Writer) (former : Former) (left : List Former) → IsEnlarged layout w w' former → Tells w.seen w.cache → StaysStill held which w.cache → All (WasSteady held which) left → All (WasSteady held which) (left ++ former ∷ [])
steady_left held which layout w w' former left e t still all = All-append (WasSteady held which) left (former ∷ []) all one where
  was : WasSteady held which former
  was = subst (WasSteady held which) (sym e.left) (t.legal, λ files same. one_of_still files which w.seen w.cache t (still files same))

  one : All (WasSteady held which) (former ∷ [])
  one zero d low = was
  one (suc i) d low = absurd (omega arith)

pub at_rest_grown : {settings : DbConf} {brought : Request → ℕ} {limit : Option ℕ} {held : Option Content} {which : Db} {ticked : ℕ} (left : List Former) (layout : Layout) (w w' : Writer) (former : Former) → IsEnlarged layout w w' former → IsSized settings layout → Tells w.seen w.cache → IsAtRest settings brought limit held which ticked left w
    → IsAtRest settings brought limit held which ticked (left ++ former ∷ []) w'
at_rest_grown {settings} {brought} {limit} {held} {which} {ticked} left layout w w' former e sized t s = subst (IsAtRest settings brought limit held which ticked (left ++ former ∷ [])) (sym e.is) (
  record { reloaded = s.0.reloaded; counted = s.0.counted; found = s.0.found },
  λ low. refl,
  λ files same. record { first = (s.2 files same).first; part = (s.2 files same).part },
  again_later (room_of settings) w.cache.cycle (w.cache.cycle + 2) w.seen (omega arith) s.3,
  s.4,
  sized,
  steady_left held which layout w w' former left e t s.2 s.6,
  s.7,
)

-- it grew, or nothing changed
pub at_rest_enlarged : {E : Type 0} {settings : DbConf} {brought : Request → ℕ} {limit : Option ℕ} {held : Option Content} {which : Db} {ticked : ℕ} (r : Result (Unit {0}) E) (layout : Layout) (left left' : List Former) (w w' : Writer)
    → OnOk r ((former : Former) × IsEnlarged layout w w' former × (left' ≡ left ++ former ∷ [])) → OnErr r ((left' ≡ left) × (w' ≡ w)) → IsSized settings layout → Tells w.seen w.cache → IsAtRest settings brought limit held which ticked left w → IsAtRest settings brought limit held which ticked left' w'
at_rest_enlarged {E} {settings} {brought} {limit} {held} {which} {ticked} (Ok done) layout left left' w w' (former, e, longer) stays sized t s = subst (λ (ls : List Former). IsAtRest settings brought limit held which ticked ls w') (sym longer) (at_rest_grown left layout w w' former e sized t s)
at_rest_enlarged {E} {settings} {brought} {limit} {held} {which} {ticked} (Err fault) layout left left' w w' grown stays sized t s = at_rest_kept left left' w w' stays.0 stays.1 s

-- the words that entries take then, and no others
pub used_grown : (layout : Layout) (w w' : Writer) (former : Former) (need : ℕ) → IsEnlarged layout w w' former → all_words w.cache.entries + need ≤ layout.arena → w'.cache.used + need ≤ w'.layout.arena
used_grown layout w w' former need e room = subst (λ (x : Writer). x.cache.used + need ≤ x.layout.arena) (sym e.is) room

-- ---- an insertion that may go to a larger table

-- no table was left
pub once_stayed : (before tried after : Desk) → tried.left ≡ before.left → tried.writer.table ≡ before.writer.table → after ≡ tried → GrowsOnce before after
once_stayed before tried after left table same = inl (ap (λ (d : Desk). d.left) same ∙ left, ap (λ (d : Desk). d.writer.table) same ∙ table)

-- one was, after a first try that found no room in it
pub once_over : (settings : DbConf) (need : ℕ) (before tried after : Desk) → tried.left ≡ before.left → tried.writer.table ≡ before.writer.table → tried.writer.cache.add_failed ≡ next_count before.writer.cache.add_failed → GoesOver settings need tried after → HasLeft before after
once_over settings need before tried after left table failed over = record {
  former = over.former;
  left = over.left ∙ ap (λ (l : List Former). l ++ over.former ∷ []) left;
  from = ap (λ (f : Former). f.table) over.enlarged.left ∙ table;
  to = sym (ap (λ (w : Writer). w.table) over.enlarged.is);
  refused = ap (λ (w : Writer). w.cache.add_failed) over.enlarged.is ∙ failed;
}

-- and whatever follows leaves no more
pub left_still : (before grown after : Desk) → after.left ≡ grown.left → after.writer.table ≡ grown.writer.table → after.writer.cache.add_failed ≡ grown.writer.cache.add_failed → HasLeft before grown → HasLeft before after
left_still before grown after left table failed h = record { former = h.former; left = left ∙ h.left; from = h.from; to = h.to ∙ sym table; refused = failed ∙ h.refused }

-- the history stays
pub over_seen : (settings : DbConf) (need : ℕ) (before after : Desk) → GoesOver settings need before after → after.writer.seen ≡ before.writer.seen
over_seen settings need before after over = ap (λ (w : Writer). w.seen) over.enlarged.is
