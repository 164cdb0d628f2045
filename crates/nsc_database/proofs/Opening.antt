-- What holds of the writer of a database that was opened, with what an image brought back.
use Rattle.std.proofs.Common.{◌≡◌, ◌∙◌, ℕ, zero, suc, ◌+◌, ◌<◌, ◌≤◌, Bool, true, false, cond, All, List, [], ◌∷◌, ◌++◌, get_or, length, Option, Some, None, append_assoc, arith, inl, inr, refl, rules, sym, ap, subst}
use Rattle.std.specs.Prelude.{IfSome}
use Rattle.std.proofs.Math.Nat.{min-le_left}
use Rattle.std.proofs.lemmas.List.Elements.{All-head, All-tail}
use Rattle.std.proofs.lemmas.List.Sums.{sum_by-cons}
use Rattle.nsc_model.specs.declared.answer.Request.{Request}
use Rattle.nsc_model.specs.declared.conf.DbConf.{DbConf}
use Rattle.nsc_model.specs.declared.kind.Db.{Db}
use Rattle.nsc_model.specs.declared.record.Record.{Record}
use Rattle.nsc_model.specs.declared.record.Record.TheVariants.{Load}
use Rattle.nsc_model.specs.Answers.{answer_of}
use Rattle.nsc_model.specs.Content.{Content}
use Rattle.nsc_model.specs.History.{HasLoad}
use Rattle.nsc_model.specs.Image.{IsSaved, Saved}
use Rattle.nsc_model.specs.Kinds.{is_request}
use Rattle.nsc_model.specs.Live.{HasEntry}
use Rattle.nsc_model.specs.Machine.{Cache, Kept, Passed, Refusal, TooLarge, Discarded, Present, Spent, Full, all_words, life_of, refusal, room_of, tried_by}
use Rattle.nsc_model.specs.Reloads.{Reloaded}
use Rattle.nsc_laws.specs.Calls.{Tells, entries_of}
use Rattle.nsc_laws.proofs.Requests.{request_same}
use Rattle.nsc_words.specs.declared.layout.Layout.{Layout}
use Rattle.nsc_writer.specs.Former.{Former}
use Rattle.nsc_writer.specs.Loaded.{Loaded, kept_of}
use Rattle.nsc_writer.specs.Writer.{IsNewest, Writer, passed_by}
use Rattle.nsc_growth.specs.Sized.{IsSized}
use Rattle.nsc_growth.proofs.Sized.{sized_first}
use Rattle.nsc_image.specs.Restoring.{answered_again, loaded_again, restored, restored_by, same_answer, tried_again}
use Rattle.nsc_image.specs.Saving.{IsEntryOf}
use Rattle.nsc_sourcebook.specs.Reads.{IsPart}
use Rattle.nsc_database.specs.Openings.{Begins, BringsReloads, IsBroughtBack, brought_in}
use Rattle.nsc_database.specs.Rests.{InsertsOwn, IsAtRest, IsLoadedOf, IsNew, IsReloaded, LoadsAgain, Rests}
use Rattle.nsc_database.proofs.Again.{again_first, again_more}
use Rattle.nsc_database.proofs.Rests.{keeps_entry, packed_entry, rests_same, rests_through}
use Rattle.nsc_database.proofs.Standing.{at_rest_on}

-- ---- counts of reloads

abbrev IsWithin : (Request → ℕ) → Kept → Type 0
IsWithin brought k = k.reloads ≤ brought k.entry.request

-- each entry has at most the sum of the counts of its request
counted_in : (ks : List Kept) → All (IsWithin (brought_in ks)) ks
counted_in [] i d low = absurd (omega arith)
counted_in (k ∷ ks) zero d low =
    let sums = sum_by-cons (λ (x : Kept). cond (is_request k.entry.request x.entry.request) x.reloads 0) k ks in
    let one : cond (is_request k.entry.request k.entry.request) k.reloads 0 ≡ k.reloads = ap (λ (b : Bool). cond b k.reloads 0) (request_same k.entry.request) in
    omega arith
counted_in (k ∷ ks) (suc i) d low =
    let request : Request = (get_or ks i d).entry.request in
    let sums = sum_by-cons (λ (x : Kept). cond (is_request request x.entry.request) x.reloads 0) k ks in
    let rest = counted_in ks i d (omega arith) in
    omega arith

front_all : (P : Kept → Type 0) (xs ys : List Kept) → All P (xs ++ ys) → All P xs
front_all P [] ys all i d low = absurd (omega arith)
front_all P (x ∷ xs) ys all zero d low = all 0 d (omega arith)
front_all P (x ∷ xs) ys all (suc i) d low = front_all P xs ys (All-tail P x (xs ++ ys) all) i d (omega arith)

last_all : (P : Kept → Type 0) (xs : List Kept) (y : Kept) → All P (xs ++ y ∷ []) → P y
last_all P [] y all = All-head P y [] all
last_all P (x ∷ xs) y all = last_all P xs y (All-tail P x (xs ++ y ∷ []) all)

-- what holds of each entry after an insertion held before it
front_tried : (P : Kept → Type 0) (refused : Option Refusal) (k : Kept) (c : Cache) → All P (tried_by refused k c).cache.entries → All P c.entries
front_tried P None k c all = front_all P c.entries (k ∷ []) all
front_tried P (Some (TooLarge size)) k c all = all
front_tried P (Some (Discarded noted epoch)) k c all = all
front_tried P (Some (Present number)) k c all = all
front_tried P (Some (Spent count)) k c all = all
front_tried P (Some (Full need free)) k c all = all

front_again : (P : Kept → Type 0) (room : ℕ) (o : Option Loaded) (c : Cache) → All P (tried_again room o c).cache.entries → All P c.entries
front_again P room None c all = all
front_again P room (Some l) c all = let k = kept_of l c.inserted in front_tried P (refusal room l.stamp.epoch k.entry c) k c all

front_restored : (P : Kept → Type 0) (room : ℕ) (settings : DbConf) (now : ℕ) (files : Content) (entries : List Saved) (c : Cache) → All P (restored room settings now files entries c).cache.entries → All P c.entries
front_restored P room settings now files [] c all = all
front_restored P room settings now files (s ∷ entries) c all =
    let o = loaded_again settings now files s in
    front_again P room o c (front_restored P room settings now files entries (tried_again room o c).cache all)

-- ---- an entry of an image

-- what an insertion leaves of the writer, whatever refuses it
rests_tried : {which : Db} {brought : Request → ℕ} (refused : Option Refusal) (k : Kept) (w : Writer) → All (IsWithin brought) (tried_by refused k w.cache).cache.entries → IsEntryOf which k.entry → Rests which brought w (passed_by (tried_by refused k w.cache) w)
rests_tried {which} {brought} None k w within own = record {
  on = (Load k.entry ∷ [], refl);
  table = refl;
  layout = refl;
  slide = refl;
  keeps = λ settings limit ticked keeps. keeps_entry settings brought limit ticked k w (let low = last_all (IsWithin brought) w.cache.entries k within in omega arith) keeps;
  packed = λ p. packed_entry k w p;
  again = λ arena l. again_more arena w.cache.cycle (Load k.entry) w.seen tt l;
  version = record { version = refl; sources = refl };
  inserts = λ e a. elim a [ inl same ↦ inr (subst (IsEntryOf which) same own) | inr old ↦ inl old ];
}
rests_tried {which} {brought} (Some (TooLarge size)) k w within own = rests_same w _ refl
rests_tried {which} {brought} (Some (Discarded noted epoch)) k w within own = rests_same w _ refl
rests_tried {which} {brought} (Some (Present number)) k w within own = rests_same w _ refl
rests_tried {which} {brought} (Some (Spent count)) k w within own = rests_same w _ refl
rests_tried {which} {brought} (Some (Full need free)) k w within own = record {
  on = ([], refl);
  table = refl;
  layout = refl;
  slide = refl;
  keeps = λ settings limit ticked keeps. record { reloaded = keeps.reloaded; counted = keeps.counted; found = keeps.found };
  packed = λ p. λ low. p low;
  again = λ arena l. l;
  version = record { version = refl; sources = refl };
  inserts = λ e a. inl a;
}

-- what an entry brings back is of the database
own_again : (which : Db) (version : ℕ) (settings : DbConf) (now : ℕ) (files : Content) (s : Saved) → IsSaved which version s → IfSome (loaded_again settings now files s) (IsLoadedOf which)
own_again which version settings now files s saved = by_test (same_answer s.answer (answer_of files s.request)) where
  by_test : (b : Bool) → IfSome (cond b (Some (answered_again settings now files s)) None) (IsLoadedOf which)
  by_test true = (saved.of_database, let low = min-le_left s.timeout (now + life_of settings (answer_of files s.request)) in let high = saved.timeout_fits in omega arith)
  by_test false = tt

rests_again : {which : Db} {brought : Request → ℕ} (room : ℕ) (o : Option Loaded) (w : Writer) → All (IsWithin brought) (tried_again room o w.cache).cache.entries → IfSome o (IsLoadedOf which) → Rests which brought w (passed_by (tried_again room o w.cache) w)
rests_again {which} {brought} room None w within own = rests_same w _ refl
rests_again {which} {brought} room (Some l) w within own =
    let k = kept_of l w.cache.inserted in
    rests_tried (refusal room l.stamp.epoch k.entry w.cache) k w within (record { of_database = own.0; timeout_fits = own.1 })

-- ---- all of them

restored_first : (settings : DbConf) (now : ℕ) (files : Content) (s : Saved) (entries : List Saved) (w : Writer) → restored_by settings now files (s ∷ entries) w ≡ restored_by settings now files entries (passed_by (tried_again w.layout.arena (loaded_again settings now files s) w.cache) w)
restored_first settings now files s entries w =
    let first : Passed = tried_again w.layout.arena (loaded_again settings now files s) w.cache in
    let rest : Passed = restored w.layout.arena settings now files entries first.cache in
    ap (λ (h : List Record). record w { cache = rest.cache; seen = h }) (append_assoc rest.adds first.adds w.seen)

rests_restored : {which : Db} {brought : Request → ℕ} (version : ℕ) (settings : DbConf) (now : ℕ) (files : Content) (entries : List Saved) (w : Writer) → All (IsSaved which version) entries → All (IsWithin brought) (restored_by settings now files entries w).cache.entries
    → Rests which brought w (restored_by settings now files entries w)
rests_restored {which} {brought} version settings now files [] w all within = rests_same w _ refl
rests_restored {which} {brought} version settings now files (s ∷ entries) w all within =
    let room = w.layout.arena in
    let o = loaded_again settings now files s in
    let w1 : Writer = passed_by (tried_again room o w.cache) w in
    let own = own_again which version settings now files s (All-head (IsSaved which version) s entries all) in
    let first = rests_again room o w (front_restored (IsWithin brought) room settings now files entries w1.cache within) own in
    subst (Rests which brought w) (sym (restored_first settings now files s entries w)) (rests_through w w1 _ first (rests_restored version settings now files entries w1 (All-tail (IsSaved which version) s entries all) within))

-- ---- the writer

at_rest_new : {settings : DbConf} {brought : Request → ℕ} {limit : Option ℕ} {held : Option Content} {which : Db} (w : Writer) (files : Content) → IsNew w files settings → IsPart held which files → IsAtRest settings brought limit held which 0 [] w
at_rest_new {settings} {brought} {limit} {held} {which} w files new part = (
  record {
    reloaded = subst (Reloaded brought limit) (sym new.seen) (search rules);
    counted = subst (λ (k : Cache). All (IsReloaded brought w.seen) k.entries) (sym new.cache) (λ i d low. absurd (omega arith));
    found = search rules;
  },
  λ low. ap (λ (k : Cache). k.used) new.cache ∙ sym (ap (λ (k : Cache). all_words k.entries) new.cache),
  λ all e. record { first = ap (λ (k : Cache). k.newest_version) new.cache; part = ap (λ (k : Cache). k.sources) new.cache ∙ part all e },
  subst (LoadsAgain (room_of settings) w.cache.cycle) (sym new.seen) (again_first (room_of settings) w.cache.cycle files),
  new.still,
  subst (IsSized settings) (sym new.room) (sized_first settings),
  λ i d low. absurd (omega arith),
  λ e a. absurd (subst (λ (h : List Record). HasLoad h e) new.seen a),
)

-- the counts of reloads that an image brought back are those of its live entries
pub at_rest_begun : {settings : DbConf} {limit : Option ℕ} {held : Option Content} {which : Db} (now : ℕ) (image : Option (List ℕ)) (files : Content) (left : List Former) (w w' : Writer) → left ≡ [] → IsNew w files settings → IsPart held which files → IsBroughtBack settings now which image files w w'
    → IsAtRest settings (brought_in w'.cache.entries) limit held which 0 left w'
at_rest_begun {settings} {limit} {held} {which} now image files left w w' none new part brought = subst (λ (ls : List Former). IsAtRest settings (brought_in w'.cache.entries) limit held which 0 ls w') (sym none) (by brought) where
  rests : Writer → Type 0
  rests x = IsAtRest settings (brought_in x.cache.entries) limit held which 0 [] x

  by : IsBroughtBack settings now which image files w w' → rests w'
  by (inl (entries, back, is)) =
      let x = restored_by settings now files entries w in
      subst rests (sym is) (at_rest_on [] w x (rests_restored back.version settings now files entries w back.spelled.each (counted_in x.cache.entries)) (at_rest_new w files new part))
  by (inr (nothing, is)) = subst rests (sym is) (at_rest_new w files new part)

-- and what it begins with
pub begins_of : (settings : DbConf) (now : ℕ) (which : Db) (image : Option (List ℕ)) (files : Content) (w w' : Writer) → IsNew w files settings → IsBroughtBack settings now which image files w w' → Begins settings now which image files w'.seen
begins_of settings now which image files w w' new (inl (entries, back, is)) =
    inl (entries, back, ap (λ (x : Writer). x.seen) is ∙ ap (λ (x : ℕ × Cache × List Record). (restored x.0 settings now files entries x.1).adds ++ x.2) (λ i. (ap (λ (l : Layout). l.arena) new.room i, new.cache i, new.seen i)))
begins_of settings now which image files w w' new (inr (nothing, is)) = inr (nothing, ap (λ (x : Writer). x.seen) is ∙ new.seen)

pub reloads_of : (settings : DbConf) (now : ℕ) (which : Db) (image : Option (List ℕ)) (files : Content) (w w' : Writer) → IsNew w files settings → IsBroughtBack settings now which image files w w' → BringsReloads settings now which image files w'.cache.entries
reloads_of settings now which image files w w' new (inl (entries, back, is)) =
    let counts = ap (λ (x : ℕ × Cache). brought_in (restored x.0 settings now files entries x.1).cache.entries) (λ i. (ap (λ (l : Layout). l.arena) new.room i, new.cache i)) in
    inl (entries, back, ap (λ (x : Writer). brought_in x.cache.entries) is ∙ counts)
reloads_of settings now which image files w w' new (inr (nothing, is)) =
    inr (nothing, ap (λ (x : Writer). brought_in x.cache.entries) is ∙ ap (λ (c : Cache). brought_in c.entries) new.cache)

-- where the files are told, it is steady over them, and no table was left
pub at_rest_held : {settings : DbConf} {brought : Request → ℕ} {limit : Option ℕ} {held : Option Content} {which : Db} (files : Content) (left : List Former) (w : Writer) → left ≡ [] → IsNewest files 0 w.cache → IsPart held which files → IsAtRest settings brought limit None which 0 [] w
    → IsAtRest settings brought limit held which 0 left w
at_rest_held {settings} {brought} {limit} {held} {which} files left w none newest part s =
    subst (λ (ls : List Former). IsAtRest settings brought limit held which 0 ls w) (sym none) (s.0, s.1, λ all e. record { first = newest.number; part = newest.sources ∙ part all e }, s.3, s.4, s.5, λ i d low. absurd (omega arith), s.7)

-- ---- the live entries

entry_among : (ks : List Kept) (i : ℕ) (d : Kept) → i < length ks → HasEntry (entries_of ks) (get_or ks i d).entry
entry_among [] i d low = absurd (omega arith)
entry_among (k ∷ ks) zero d low = inl refl
entry_among (k ∷ ks) (suc i) d low = inr (entry_among ks i d (omega arith))

-- an image of the database may have each of them
pub all_own : (which : Db) (h : List Record) (cache : Cache) → Tells h cache → InsertsOwn which h → All (λ (k : Kept). IsEntryOf which k.entry) cache.entries
all_own which h cache t own i d low = own (get_or cache.entries i d).entry (t.entries_are.live (get_or cache.entries i d).entry (entry_among cache.entries i d low)).inserted
