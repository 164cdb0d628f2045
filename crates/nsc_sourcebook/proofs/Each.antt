-- The files that a database reads, one after the other in the order of their numbers.
use Rattle.std.proofs.Common.{◌≡◌, ◌≢◌, ℕ, ◌+◌, ◌<◌, ◌≤◌, Bool, true, false, true≢false, eqb, get_or, suc, zero, Option, Some, None, refl, sym, ap, subst, ◌∙◌, arith, inl, inr}
use Rattle.std.specs.Prelude.{◌⊎◌, List}
use Rattle.std.proofs.lemmas.Bool.{eqb-true, eqb-false}
use Rattle.std.proofs.lemmas.Option.{same_Some}
use Rattle.nsc_model.specs.declared.kind.Db.{Db}
use Rattle.nsc_model.specs.declared.kind.Db.TheVariants as db
use Rattle.nsc_model.specs.declared.kind.FileId.{FileId}
use Rattle.nsc_model.specs.declared.kind.FileId.TheVariants as file
use Rattle.nsc_model.specs.Content.{Content}
use Rattle.nsc_model.specs.Files.{file_of, is_read, part_of}
use Rattle.nsc_model.specs.Kinds.{all_files, file_number, file_numbered}
use Rattle.nsc_model.specs.Reads.{AreAsTold, FaultsStay, FileFailed, HasNotFallen, IsAsTold, NoneFell, Rose}
use Rattle.nsc_outside.specs.declared.files.FileSet as file_set
use Rattle.nsc_outside.specs.declared.files.ReadCause.{ReadCause}
use Rattle.nsc_outside.specs.declared.files.ReadCause.TheVariants as causes
use Rattle.nsc_outside.specs.FileSets.{ChangesOnly, IsCause, IsPastLimit, RoseBy, told_of}
use Rattle.nsc_sourcebook.specs.declared.fault.PollFault.{PollFault}
use Rattle.nsc_sourcebook.specs.declared.fault.PollFault.TheVariants as poll
use Rattle.nsc_sourcebook.specs.Faults.{fault_of}
use Rattle.nsc_sourcebook.specs.Reads.{IsFetched, IsPart, NoneFailed, NotFetched}

-- ---- numbers of files

numbered : (f : FileId) → file_numbered (file_number f) ≡ Some f
numbered file.Switch = refl
numbered file.Passwd = refl
numbered file.Group = refl
numbered file.Hosts = refl
numbered file.Services = refl
numbered file.ExtraPasswd = refl
numbered file.ExtraGroup = refl
numbered file.Netgroup = refl

one_file : (f g : FileId) → file_number f ≡ file_number g → f ≡ g
one_file f g e = same_Some f g (sym (numbered f) ∙ ap file_numbered e ∙ numbered g)

file_or_other : (f g : FileId) → (f ≡ g) ⊎ (f ≢ g)
file_or_other f g = by_test (eqb (file_number f) (file_number g)) refl where
  by_test : (b : Bool) → eqb (file_number f) (file_number g) ≡ b → (f ≡ g) ⊎ (f ≢ g)
  by_test true e = inl (one_file f g (eqb-true (file_number f) (file_number g) e))
  by_test false e = inr (λ same. eqb-false (file_number f) (file_number g) e (ap file_number same))

number_at : (i : ℕ) (d : FileId) → i < 8 → file_number (get_or all_files i d) ≡ i
number_at zero d low = refl
number_at (suc zero) d low = refl
number_at (suc (suc zero)) d low = refl
number_at (suc (suc (suc zero))) d low = refl
number_at (suc (suc (suc (suc zero)))) d low = refl
number_at (suc (suc (suc (suc (suc zero))))) d low = refl
number_at (suc (suc (suc (suc (suc (suc zero)))))) d low = refl
number_at (suc (suc (suc (suc (suc (suc (suc zero))))))) d low = refl
number_at (suc (suc (suc (suc (suc (suc (suc (suc i)))))))) d low = absurd (omega arith)

number_below : (f : FileId) → file_number f < 8
number_below file.Switch = omega arith
number_below file.Passwd = omega arith
number_below file.Group = omega arith
number_below file.Hosts = omega arith
number_below file.Services = omega arith
number_below file.ExtraPasswd = omega arith
number_below file.ExtraGroup = omega arith
number_below file.Netgroup = omega arith

-- ---- counts

-- a count that did not fall before it rose
rose_after : (a b c : ℕ) → HasNotFallen a b → Rose b c → Rose a c
rose_after a b c (inl same) rose = subst (λ (n : ℕ). Rose n c) same rose
rose_after a b c (inr (inl less)) (inl more) = inl (omega arith)
rose_after a b c (inr (inl less)) (inr last) = inl (omega (arith, last.0, last.1))
rose_after a b c (inr (inr last)) (inl more) = inl (omega (arith, last.0, last.1))
rose_after a b c (inr (inr last)) (inr still) = inr (last.0, still.1)

kept_on : (a b c : ℕ) → HasNotFallen a b → HasNotFallen b c → HasNotFallen a c
kept_on a b c first (inl same) = subst (HasNotFallen a) (sym same) first
kept_on a b c first (inr rose) = inr (rose_after a b c first rose)

-- counts of which one at most changed, and did not fall
none_fell_but : (id : FileId) (m n : FileId → ℕ) → ChangesOnly id m n → HasNotFallen (m id) (n id) → NoneFell m n
none_fell_but id m n others own f = elim (file_or_other f id) [
  | inl same ↦ subst (λ (g : FileId). HasNotFallen (m g) (n g)) (sym same) own
  | inr other ↦ inl (others f other)
]

none_fell_after : (m n o : FileId → ℕ) → NoneFell m n → NoneFell n o → NoneFell m o
none_fell_after m n o first then f = kept_on (m f) (n f) (o f) (first f) (then f)

-- ---- one file that gave no answer

-- of counts none changed
none_changed : (id : FileId) (m n : FileId → ℕ) → ChangesOnly id m n → n id ≡ m id → n ≡ m
none_changed id m n others own = λ i f. each f i where
  each : (f : FileId) → n f ≡ m f
  each f = elim (file_or_other f id) [ inl same ↦ subst (λ (g : FileId). n g ≡ m g) (sym same) own | inr other ↦ others f other ]

pub not_read : {F : Type 0} (g : file_set.Ghosts F) (file : FileId) (cause : ReadCause) (files files' : F) → RoseBy cause (g.faults files) (g.faults files') → RoseBy cause (g.file_faults files file) (g.file_faults files' file)
    → ChangesOnly file (g.file_faults files) (g.file_faults files') → IsCause (told_of (g.held files) file) cause → NotFetched g files files' (fault_of file cause)
not_read g file causes.NoMemory files files' all own others is = (all, none_changed file (g.file_faults files) (g.file_faults files') others own)
not_read g file causes.Failed files files' all own others is = record { all = all; own = own; others = others }
not_read g file (causes.TooLong size) files files' all own others is = (record { all = all; own = own; others = others }, is)

-- ---- after reads with no fault

failed_since : (file : FileId) (a b c : ℕ) (a' b' c' : FileId → ℕ) → FaultsStay a b a' b' → FileFailed file b c b' c' → FileFailed file a c a' c'
failed_since file a b c a' b' c' same failed = subst (λ (x : ℕ × (FileId → ℕ)). FileFailed file x.0 c x.1 c') (λ i. (same.0 i, same.1 i)) failed

pub not_fetched_since : {F : Type 0} (g : file_set.Ghosts F) (files mid files' : F) (fault : PollFault) → NoneFailed g files mid → g.held mid ≡ g.held files → NotFetched g mid files' fault → NotFetched g files files' fault
not_fetched_since g files mid files' poll.NoMemory same held f = (f.0 ∙ same.0, f.1 ∙ same.1)
not_fetched_since g files mid files' (poll.SourceFault file) same held f = failed_since file _ _ _ _ _ _ same f
not_fetched_since g files mid files' (poll.TooLong file size) same held f =
    (failed_since file _ _ _ _ _ _ same f.0, subst (λ (h : Option Content). IsPastLimit (told_of h file) size) held f.1)

pub fetched_since : {F : Type 0} (g : file_set.Ghosts F) (which : Db) (files mid files' : F) (content : Content) → NoneFell (g.reads files) (g.reads mid) → g.held mid ≡ g.held files → IsFetched g which mid files' content → IsFetched g which files files' content
fetched_since g which files mid files' content kept held is = record {
  looked = record { read = λ f on. rose_after (g.reads files f) (g.reads mid f) (g.reads files' f) (kept f) (is.looked.read f on); only = is.looked.only; told = is.looked.told };
  part = subst (λ (h : Option Content). IsPart h which content) held is.part;
}

-- ---- what is known of the first files

-- a file was read, and is as the read told it
pub record IsReadAs (reads0 reads : FileId → ℕ) (latest : FileId → Option (Option (List ℕ))) (held : Option Content) (content : Content) (f : FileId) : Type 0 where
  pub rose : Rose (reads0 f) (reads f)
  pub told : IsAsTold (latest f) (file_of content f)
  pub part : IsAsTold (told_of held f) (file_of content f)

-- each file of a number below `i` that the database reads was
pub record AreRead (which : Db) (i : ℕ) (reads0 reads : FileId → ℕ) (latest : FileId → Option (Option (List ℕ))) (held : Option Content) (content : Content) : Type 0 where
  pub kept : NoneFell reads0 reads
  pub each : (f : FileId) → file_number f < i → is_read which f ≡ true → IsReadAs reads0 reads latest held content f

pub none_read : (which : Db) (reads : FileId → ℕ) (latest : FileId → Option (Option (List ℕ))) (held : Option Content) (content : Content) → AreRead which 0 reads reads latest held content
none_read which reads latest held content = record { kept = λ f. inl refl; each = λ f low. absurd (omega arith) }

-- of the files of numbers below `i`, and one more
by_next : (P : FileId → Type 0) (which : Db) (i : ℕ) (id : FileId) → file_number id ≡ i → ((f : FileId) → f ≢ id → file_number f < i → is_read which f ≡ true → P f) → (is_read which id ≡ true → P id)
    → (f : FileId) → file_number f < i + 1 → is_read which f ≡ true → P f
by_next P which i id number others own f low on = elim (file_or_other f id) [
  | inl same ↦ subst P (sym same) (own (subst (λ (g : FileId). is_read which g ≡ true) same on))
  | inr other ↦ (let not : file_number f ≢ i = λ e. other (one_file f id (e ∙ sym number)) in others f other (omega arith) on)
]

pub next_skipped : (d : FileId) {which : Db} {i : ℕ} {reads0 reads : FileId → ℕ} {latest : FileId → Option (Option (List ℕ))} {held : Option Content} {content : Content}
    → i < 8 → is_read which (get_or all_files i d) ≡ false → AreRead which i reads0 reads latest held content → AreRead which (i + 1) reads0 reads latest held content
next_skipped d {which} {i} {reads0} {reads} {latest} {held} {content} low off a = record { kept = a.kept; each = by_next (IsReadAs reads0 reads latest held content) which i (get_or all_files i d) (number_at i d low) (λ f other. a.each f) (λ on. absurd (true≢false (sym on ∙ off))) }

pub next_read : (d : FileId) {which : Db} {i : ℕ} {reads0 reads reads' : FileId → ℕ} {latest latest' : FileId → Option (Option (List ℕ))} {held : Option Content} {content content' : Content} {gave : Option (List ℕ)}
    → i < 8 → ChangesOnly (get_or all_files i d) reads reads' → ChangesOnly (get_or all_files i d) latest latest' → ChangesOnly (get_or all_files i d) (file_of content) (file_of content')
    → Rose (reads (get_or all_files i d)) (reads' (get_or all_files i d)) → file_of content' (get_or all_files i d) ≡ gave → IsAsTold (latest' (get_or all_files i d)) gave → IsAsTold (told_of held (get_or all_files i d)) gave
    → AreRead which i reads0 reads latest held content → AreRead which (i + 1) reads0 reads' latest' held content'
next_read d {which} {i} {reads0} {reads} {reads'} {latest} {latest'} {held} {content} {content'} low counts tells stays rose is told part a =
    let id = get_or all_files i d in
    record {
      kept = none_fell_after reads0 reads reads' a.kept (none_fell_but id reads reads' counts (inr rose));
      each = by_next (IsReadAs reads0 reads' latest' held content') which i id (number_at i d low) (λ f other low on. let was = a.each f low on in record {
        rose = subst (Rose (reads0 f)) (sym (counts f other)) was.rose;
        told = subst (λ t. IsAsTold t (file_of content' f)) (sym (tells f other)) (subst (IsAsTold (latest f)) (sym (stays f other)) was.told);
        part = subst (IsAsTold (told_of held f)) (sym (stays f other)) was.part;
      }) (λ on. record {
        rose = rose_after (reads0 id) (reads id) (reads' id) (a.kept id) rose;
        told = subst (IsAsTold (latest' id)) (sym is) told;
        part = subst (IsAsTold (told_of held id)) (sym is) part;
      });
    }

-- ---- all files

all_read : {which : Db} {i : ℕ} {reads0 reads : FileId → ℕ} {latest : FileId → Option (Option (List ℕ))} {held : Option Content} {content : Content} → 8 ≤ i → AreRead which i reads0 reads latest held content
    → (f : FileId) → is_read which f ≡ true → IsReadAs reads0 reads latest held content f
all_read all a f on = let low : file_number f < 8 = number_below f in a.each f (omega arith) on

part_told : (which : Db) (files content : Content) → content ≡ part_of which content → AreAsTold which (told_of (Some files)) content → content ≡ part_of which files
part_told db.Passwd files c only told = only ∙ (λ i. record { switch = told file.Switch refl i; passwd = told file.Passwd refl i; group = None; hosts = None; services = None; extra_passwd = told file.ExtraPasswd refl i; extra_group = None; netgroup = None })
part_told db.Group files c only told = only ∙ (λ i. record { switch = told file.Switch refl i; passwd = None; group = told file.Group refl i; hosts = None; services = None; extra_passwd = None; extra_group = told file.ExtraGroup refl i; netgroup = None })
part_told db.Hosts files c only told = only ∙ (λ i. record { switch = told file.Switch refl i; passwd = None; group = None; hosts = told file.Hosts refl i; services = None; extra_passwd = None; extra_group = None; netgroup = None })
part_told db.Services files c only told = only ∙ (λ i. record { switch = told file.Switch refl i; passwd = None; group = None; hosts = None; services = told file.Services refl i; extra_passwd = None; extra_group = None; netgroup = None })

pub all_fetched : {F : Type 0} (g : file_set.Ghosts F) (which : Db) (i : ℕ) (files files' : F) (content : Content) → 8 ≤ i → content ≡ part_of which content → AreRead which i (g.reads files) (g.reads files') (g.latest files') (g.held files) content → IsFetched g which files files' content
all_fetched g which i files files' content all only a = record {
  looked = record { read = λ f on. (all_read all a f on).rose; only = only; told = λ f on. (all_read all a f on).told };
  part = λ held is. part_told which held content only (subst (λ (h : Option Content). AreAsTold which (told_of h) content) is (λ f on. (all_read all a f on).part));
}
