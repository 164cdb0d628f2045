-- The entries of an image that are back, and those that are left.
use Rattle.std.proofs.Common.{◌≡◌, ℕ, ◌+◌, ◌≤◌, ◌==◌, Bool, true, false, cond, List, [], ◌∷◌, ◌++◌, length, Option, Some, None, refl, sym, ap, subst, ◌∙◌, append_assoc, arith, inl, inr}
use Rattle.std.specs.Prelude.{IfSome}
use Rattle.std.proofs.lemmas.Bool.{eqb-true}
use Rattle.std.proofs.lemmas.List.{append-nil, length_push}
use Rattle.nsc_model.specs.declared.conf.DbConf.{DbConf}
use Rattle.nsc_model.specs.declared.record.Record.{Record}
use Rattle.nsc_model.specs.declared.record.Record.TheVariants.{Change, Poll, Load, End, Invalid}
use Rattle.nsc_model.specs.Answers.{answer_of}
use Rattle.nsc_model.specs.Content.{Content}
use Rattle.nsc_model.specs.Entry.{Entry}
use Rattle.nsc_model.specs.History.{HasEnd, HasLoad, PolledSince, loads, version_in}
use Rattle.nsc_model.specs.Image.{Saved}
use Rattle.nsc_model.specs.Machine.{Cache, Kept, Passed, Refusal, refusal, tried_by}
use Rattle.nsc_laws.specs.Calls.{Tells}
use Rattle.nsc_writer.specs.Loaded.{Loaded, kept_of}
use Rattle.nsc_writer.specs.Writer.{IsAnswered, IsNewest, Writer, passed_by}
use Rattle.nsc_image.specs.Restoring.{answered_again, loaded_again, restored, restored_by, same_answer, tried_again}

-- ---- the records that are added

-- they are of entries over version 0 alone
abbrev pub AreFirst : List Record → Type 0
AreFirst [] = Unit {0}
AreFirst (Change version content ∷ adds) = ⊥
AreFirst (Poll version ∷ adds) = ⊥
AreFirst (Load entry ∷ adds) = (entry.version ≡ 0) × AreFirst adds
AreFirst (End number cause ∷ adds) = ⊥
AreFirst (Invalid epoch ∷ adds) = ⊥

first_both : (xs ys : List Record) → AreFirst xs → AreFirst ys → AreFirst (xs ++ ys)
first_both [] ys a b = b
first_both (Change v c ∷ xs) ys a b = absurd a
first_both (Poll v ∷ xs) ys a b = absurd a
first_both (Load e ∷ xs) ys a b = (a.0, first_both xs ys a.1 b)
first_both (End n cause ∷ xs) ys a b = absurd a
first_both (Invalid n ∷ xs) ys a b = absurd a

first_tried : (refused : Option Refusal) (k : Kept) (cache : Cache) → k.entry.version ≡ 0 → AreFirst (tried_by refused k cache).adds
first_tried None k cache is = (is, tt)
first_tried (Some (Refusal.TooLarge size)) k cache is = tt
first_tried (Some _) k cache is = tt

first_loaded : (room : ℕ) (o : Option Loaded) (cache : Cache) → IfSome o (λ l. l.stamp.version ≡ 0) → AreFirst (tried_again room o cache).adds
first_loaded room None cache is = tt
first_loaded room (Some l) cache is = first_tried (refusal room l.stamp.epoch (kept_of l cache.inserted).entry cache) (kept_of l cache.inserted) cache is

first_again : (settings : DbConf) (now : ℕ) (files : Content) (s : Saved) → IfSome (loaded_again settings now files s) (λ l. l.stamp.version ≡ 0)
first_again settings now files s = by_test (same_answer s.answer (answer_of files s.request)) where
  by_test : (b : Bool) → IfSome (cond b (Some (answered_again settings now files s)) None) (λ l. l.stamp.version ≡ 0)
  by_test true = refl
  by_test false = tt

pub first_restored : (room : ℕ) (settings : DbConf) (now : ℕ) (files : Content) (entries : List Saved) (cache : Cache) → AreFirst (restored room settings now files entries cache).adds
first_restored room settings now files [] cache = tt
first_restored room settings now files (s ∷ entries) cache =
    let first : Passed = tried_again room (loaded_again settings now files s) cache in
    first_both (restored room settings now files entries first.cache).adds first.adds (first_restored room settings now files entries first.cache) (first_loaded room (loaded_again settings now files s) cache (first_again settings now files s))

-- ---- a history without loads, and such records behind it

version_kept : (adds h : List Record) (n : ℕ) → AreFirst adds → version_in (adds ++ h) n ≡ version_in h n
version_kept [] h n first = refl
version_kept (Change v c ∷ adds) h n first = absurd first
version_kept (Poll v ∷ adds) h n first = absurd first
version_kept (Load e ∷ adds) h n first = version_kept adds h n first.1
version_kept (End m cause ∷ adds) h n first = absurd first
version_kept (Invalid m ∷ adds) h n first = absurd first

-- a history that counts no loads has none
no_load : (h : List Record) (e : Entry) → loads h ≡ 0 → HasLoad h e → ⊥
no_load [] e none a = a
no_load (Change v c ∷ h) e none a = no_load h e none a
no_load (Poll v ∷ h) e none a = no_load h e none a
no_load (Load f ∷ h) e none a = absurd (omega (arith, none))
no_load (End n cause ∷ h) e none a = no_load h e none a
no_load (Invalid n ∷ h) e none a = no_load h e none a

load_first : (adds h : List Record) (e : Entry) → AreFirst adds → loads h ≡ 0 → HasLoad (adds ++ h) e → e.version ≡ 0
load_first [] h e first none a = absurd (no_load h e none a)
load_first (Change v c ∷ adds) h e first none a = absurd first
load_first (Poll v ∷ adds) h e first none a = absurd first
load_first (Load f ∷ adds) h e first none a = elim a [
  | inl is ↦ ap (λ (x : Entry). x.version) (sym is) ∙ first.0
  | inr rest ↦ load_first adds h e first.1 none rest
]
load_first (End n cause ∷ adds) h e first none a = absurd first
load_first (Invalid n ∷ adds) h e first none a = absurd first

end_before : (adds h : List Record) (n : ℕ) → AreFirst adds → HasEnd (adds ++ h) n → HasEnd h n
end_before [] h n first a = a
end_before (Change v c ∷ adds) h n first a = absurd first
end_before (Poll v ∷ adds) h n first a = absurd first
end_before (Load f ∷ adds) h n first a = end_before adds h n first.1 a
end_before (End m cause ∷ adds) h n first a = absurd first
end_before (Invalid m ∷ adds) h n first a = absurd first

-- what was polled stays so
polled_behind : (adds h : List Record) (n epoch : ℕ) → PolledSince h n epoch → PolledSince (adds ++ h) n epoch
polled_behind adds h n epoch (moment, (more, is), looks, le) =
    (moment, (adds ++ more, ap (λ (x : List Record). adds ++ x) is ∙ sym (append_assoc adds more moment)), looks, le)

-- a version that has a content was looked at
polled_from : (h : List Record) (n : ℕ) (files : Content) → version_in h n ≡ Some files → PolledSince h n 0
polled_from [] n files is = absurd cc
polled_from (Change v c ∷ h) n files is = by_test (v == n) (λ e. eqb-true v n e) is (λ e. polled_from h n files e) where
  by_test : (b : Bool) → (b ≡ true → v ≡ n) → cond b (Some c) (version_in h n) ≡ Some files → (version_in h n ≡ Some files → PolledSince h n 0) → PolledSince (Change v c ∷ h) n 0
  by_test true same found rest = (Change v c ∷ h, ([], refl), same refl, omega arith)
  by_test false same found rest = polled_behind (Change v c ∷ []) h n 0 (rest found)
polled_from (Poll v ∷ h) n files is = polled_behind (Poll v ∷ []) h n 0 (polled_from h n files is)
polled_from (Load e ∷ h) n files is = polled_behind (Load e ∷ []) h n 0 (polled_from h n files is)
polled_from (End m cause ∷ h) n files is = polled_behind (End m cause ∷ []) h n 0 (polled_from h n files is)
polled_from (Invalid m ∷ h) n files is = polled_behind (Invalid m ∷ []) h n 0 (polled_from h n files is)

-- what is brought back is answered over the content of version 0
answered_first : (adds h : List Record) (settings : DbConf) (now : ℕ) (files : Content) (s : Saved) → AreFirst adds → version_in h 0 ≡ Some files
    → IfSome (loaded_again settings now files s) (IsAnswered (adds ++ h))
answered_first adds h settings now files s first held = by_test (same_answer s.answer (answer_of files s.request)) where
  by_test : (b : Bool) → IfSome (cond b (Some (answered_again settings now files s)) None) (IsAnswered (adds ++ h))
  by_test true = record { files = files; version = version_kept adds h 0 first ∙ held; answer = refl; polled = polled_behind adds h 0 0 (polled_from h 0 files held) }
  by_test false = tt

-- ---- what stays of a cache

-- its newest version, with its number
pub record Keeps (a b : Cache) : Type 0 where
  pub sources : b.sources ≡ a.sources
  pub version : b.newest_version ≡ a.newest_version

keeps_tried : (refused : Option Refusal) (k : Kept) (cache : Cache) → Keeps cache (tried_by refused k cache).cache
keeps_tried None k cache = record { sources = refl; version = refl }
keeps_tried (Some (Refusal.TooLarge size)) k cache = record { sources = refl; version = refl }
keeps_tried (Some _) k cache = record { sources = refl; version = refl }

keeps_loaded : (room : ℕ) (o : Option Loaded) (cache : Cache) → Keeps cache (tried_again room o cache).cache
keeps_loaded room None cache = record { sources = refl; version = refl }
keeps_loaded room (Some l) cache = keeps_tried (refusal room l.stamp.epoch (kept_of l cache.inserted).entry cache) (kept_of l cache.inserted) cache

keeps_restored : (room : ℕ) (settings : DbConf) (now : ℕ) (files : Content) (entries : List Saved) (cache : Cache) → Keeps cache (restored room settings now files entries cache).cache
keeps_restored room settings now files [] cache = record { sources = refl; version = refl }
keeps_restored room settings now files (s ∷ entries) cache =
    let o : Option Loaded = loaded_again settings now files s in
    let first = keeps_loaded room o cache in
    let rest = keeps_restored room settings now files entries (tried_again room o cache).cache in
    record { sources = rest.sources ∙ first.sources; version = rest.version ∙ first.version }

pub newest_restored : (settings : DbConf) (now : ℕ) (files : Content) (before w : Writer) (entries : List Saved) → IsNewest files 0 before.cache
    → w ≡ restored_by settings now files entries before → IsNewest files 0 w.cache
newest_restored settings now files before w entries first is =
    let keeps = keeps_restored before.layout.arena settings now files entries before.cache in
    record {
      sources = ap (λ (x : Writer). x.cache.sources) is ∙ keeps.sources ∙ first.sources;
      number = ap (λ (x : Writer). x.cache.newest_version) is ∙ keeps.version ∙ first.number;
    }

-- a writer whose newest version is 0 has its content in the history
held_first : (files : Content) (h : List Record) (cache : Cache) → Tells h cache → IsNewest files 0 cache → version_in h 0 ≡ Some files
held_first files h cache told first = ap (version_in h) (sym first.number) ∙ told.held ∙ ap (λ (x : Content). Some x) first.sources

-- ---- one more entry

-- the next entry after those that passed
abbrev then_one : ℕ → DbConf → ℕ → Content → Saved → Passed → Passed
then_one room settings now files s passed = let last = tried_again room (loaded_again settings now files s) passed.cache in record { cache = last.cache; adds = last.adds ++ passed.adds }

restored-push : (room : ℕ) (settings : DbConf) (now : ℕ) (files : Content) (entries : List Saved) (s : Saved) (cache : Cache)
    → restored room settings now files (entries ++ s ∷ []) cache ≡ then_one room settings now files s (restored room settings now files entries cache)
restored-push room settings now files [] s cache =
    let first : Passed = tried_again room (loaded_again settings now files s) cache in
    let made : List Record → Passed = λ l. record { cache = first.cache; adds = l } in
    ap made (sym (append-nil first.adds))
restored-push room settings now files (x ∷ entries) s cache =
    let first : Passed = tried_again room (loaded_again settings now files x) cache in
    let rest : Passed = restored room settings now files entries first.cache in
    let last : Passed = tried_again room (loaded_again settings now files s) rest.cache in
    let behind : Passed → Passed = λ p. record { cache = p.cache; adds = p.adds ++ first.adds } in
    let made : List Record → Passed = λ l. record { cache = last.cache; adds = l } in
    ap behind (restored-push room settings now files entries s first.cache) ∙ ap made (append_assoc last.adds rest.adds first.adds)

restored_next : (settings : DbConf) (now : ℕ) (files : Content) (entries : List Saved) (s : Saved) (before w w' : Writer) → w ≡ restored_by settings now files entries before
    → w' ≡ passed_by (tried_again w.layout.arena (loaded_again settings now files s) w.cache) w → w' ≡ restored_by settings now files (entries ++ s ∷ []) before
restored_next settings now files entries s before w w' is next =
    let room : ℕ = before.layout.arena in
    let front : Passed = restored room settings now files entries before.cache in
    let last : Passed = tried_again room (loaded_again settings now files s) front.cache in
    next ∙ ap (λ (x : Writer). passed_by (tried_again x.layout.arena (loaded_again settings now files s) x.cache) x) is
    ∙ ap (λ (h : List Record). record before { cache = last.cache; seen = h }) (sym (append_assoc last.adds front.adds before.seen))
    ∙ ap (λ (p : Passed). passed_by p before) (sym (restored-push room settings now files entries s before.cache))

-- ---- the loop

-- of the entries of an image these are back, `kept` of which were inserted, and those are left
pub record Restores (settings : DbConf) (now : ℕ) (files : Content) (image : List Saved) (before w : Writer) (entries left : List Saved) (kept : ℕ) : Type 0 where
  pub is : w ≡ restored_by settings now files entries before
  pub parts : image ≡ entries ++ left
  pub counted : loads w.seen ≡ kept
  pub few : kept ≤ length entries

-- the records that they add
abbrev adds_of : DbConf → ℕ → Content → Writer → List Saved → List Record
adds_of settings now files before entries = (restored before.layout.arena settings now files entries before.cache).adds

-- the history after them
seen_after : (settings : DbConf) (now : ℕ) (files : Content) (before w : Writer) (entries : List Saved) → w ≡ restored_by settings now files entries before
    → w.seen ≡ adds_of settings now files before entries ++ before.seen
seen_after settings now files before w entries is = ap (λ (x : Writer). x.seen) is

pub answered_next : (settings : DbConf) (now : ℕ) (files : Content) (before w : Writer) (entries : List Saved) (s : Saved) (o : Option Loaded) → Tells before.seen before.cache
    → IsNewest files 0 before.cache → w ≡ restored_by settings now files entries before → o ≡ loaded_again settings now files s → IfSome o (IsAnswered w.seen)
answered_next settings now files before w entries s o told newest is made =
    let adds : List Record = adds_of settings now files before entries in
    let first = first_restored before.layout.arena settings now files entries before.cache in
    let held = held_first files before.seen before.cache told newest in
    subst (λ (h : List Record). IfSome o (IsAnswered h)) (sym (seen_after settings now files before w entries is))
    (subst (λ (l : Option Loaded). IfSome l (IsAnswered (adds ++ before.seen))) (sym made) (answered_first adds before.seen settings now files s first held))

pub versions_first : (settings : DbConf) (now : ℕ) (files : Content) (before w : Writer) (entries : List Saved) → loads before.seen ≡ 0
    → w ≡ restored_by settings now files entries before → (e : Entry) → HasLoad w.seen e → e.version ≡ 0
versions_first settings now files before w entries none is e a =
    load_first (adds_of settings now files before entries) before.seen e (first_restored before.layout.arena settings now files entries before.cache) none
    (subst (λ (h : List Record). HasLoad h e) (seen_after settings now files before w entries is) a)

pub none_ended : (settings : DbConf) (now : ℕ) (files : Content) (before w : Writer) (entries : List Saved) → w ≡ restored_by settings now files entries before
    → (n : ℕ) → HasEnd w.seen n → HasEnd before.seen n
none_ended settings now files before w entries is n a =
    end_before (adds_of settings now files before entries) before.seen n (first_restored before.layout.arena settings now files entries before.cache)
    (subst (λ (h : List Record). HasEnd h n) (seen_after settings now files before w entries is) a)

-- one more entry is back, which was inserted or not
pub restores_next : (settings : DbConf) (now : ℕ) (files : Content) (image : List Saved) (before w w' : Writer) (entries left left' : List Saved) (s : Saved) (o : Option Loaded) (kept kept' : ℕ)
    → Restores settings now files image before w entries left kept → left ≡ s ∷ left' → o ≡ loaded_again settings now files s → w' ≡ passed_by (tried_again w.layout.arena o w.cache) w → loads w'.seen ≡ kept' → kept' ≤ kept + 1
    → Restores settings now files image before w' (entries ++ s ∷ []) left' kept'
restores_next settings now files image before w w' entries left left' s o kept kept' r first made next counted few = record {
  is = restored_next settings now files entries s before w w' r.is (subst (λ (l : Option Loaded). w' ≡ passed_by (tried_again w.layout.arena l w.cache) w) made next);
  parts = r.parts ∙ ap (λ (l : List Saved). entries ++ l) first ∙ sym (append_assoc entries (s ∷ []) left');
  counted = counted;
  few = (let was = r.few in omega (arith, length_push entries s));
}
