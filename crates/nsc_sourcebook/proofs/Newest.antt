-- Contents that are the newest ones.
use Rattle.std.proofs.Common.{◌≡◌, ◌∙◌, ℕ, Bool, true, false, List, Option, None, Some, sym, ap, subst}
use Rattle.std.specs.Prelude.{IfSome}
use Rattle.std.specs.Bool.{OnTrue}
use Rattle.nsc_model.specs.declared.kind.Db.{Db}
use Rattle.nsc_model.specs.declared.record.Record.{Record}
use Rattle.nsc_model.specs.Content.{Content}
use Rattle.nsc_model.specs.Files.{part_of, same_files}
use Rattle.nsc_model.specs.History.{version_in, Legal, IsPrefix}
use Rattle.nsc_model.specs.Machine.{Cache}
use Rattle.nsc_model.proofs.Contents.{one_content}
use Rattle.nsc_laws.specs.Calls.{Tells}
use Rattle.nsc_writer.specs.Writer.{IsNewest}
use Rattle.nsc_writer.proofs.Later.{version_on}
use Rattle.nsc_sourcebook.specs.Book.{Fetched, FitsBook, SourceBook}

pub same_is : (b : Bool) (x y z : Content) → b ≡ same_files x y → y ≡ z → OnTrue b (x ≡ z)
same_is true x y z is e = one_content x y (sym is) ∙ e
same_is false x y z is e = tt

content_is : (a b : Content) → Some a ≡ Some b → a ≡ b
content_is a b e = cc

-- a version of a beginning of the history is the newest one, if that has its number
pub newest_is : (n : ℕ) (seen h : List Record) (cache : Cache) (c : Content) → Tells h cache → Legal seen → IsPrefix seen h → version_in seen n ≡ Some c → cache.newest_version ≡ n → cache.sources ≡ c
newest_is n seen h cache c t legal p is same = content_is cache.sources c (sym t.held ∙ ap (version_in h) same ∙ version_on seen h n c t.legal legal p is)

pub newest_held : (h : List Record) (cache : Cache) (content : Content) (version : ℕ) → Tells h cache → IsNewest content version cache → version_in h version ≡ Some content
newest_held h cache content version t newest = sym (ap (version_in h) newest.number) ∙ t.held ∙ ap (λ (c : Content). Some c) newest.sources

-- what fits a book fits it once it has seen more
pub fits_on : (before after : SourceBook) (fetched : Fetched) → Legal before.seen → Legal after.seen → IsPrefix before.seen after.seen → after.db ≡ before.db → FitsBook before fetched → FitsBook after fetched
fits_on before after fetched legal legal_after on is f = record {
  only = subst (λ (which : Db). fetched.content ≡ part_of which fetched.content) (sym is) f.only;
  named = by_version fetched.version f.named;
} where
  by_version : (v : Option ℕ) → IfSome v (λ n. version_in before.seen n ≡ Some fetched.content) → IfSome v (λ n. version_in after.seen n ≡ Some fetched.content)
  by_version None is = tt
  by_version (Some n) is = version_on before.seen after.seen n fetched.content legal_after legal on is
