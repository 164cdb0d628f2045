-- The kinds of a database, by the numbers of both.
use Rattle.std.proofs.Common.{◌≡◌, ℕ, true, Option, Some, None, refl, ◌∙◌, ap, arith}
use Rattle.std.proofs.lemmas.Bool.{eqb-true, eq-eqb}
use Rattle.nsc_model.specs.declared.kind.Db.{Db}
use Rattle.nsc_model.specs.declared.kind.Db.TheVariants as db
use Rattle.nsc_model.specs.declared.kind.Kind.{Kind}
use Rattle.nsc_model.specs.Kinds.{database_of, kind_numbered, type_number}
use Rattle.nsc_model.proofs.KindNumbers.{kind_again, number_again}
use Rattle.nsc_image.specs.Faults.{is_kind_of}
use Rattle.nsc_model.specs.Image.{db_number}
use Rattle.nsc_image.specs.Reading.{kind_or_any}

-- databases have different numbers
same_database : (a b : Db) → db_number a ≡ db_number b → a ≡ b
same_database db.Passwd db.Passwd e = refl
same_database db.Passwd db.Group e = absurd (omega (arith, e))
same_database db.Passwd db.Hosts e = absurd (omega (arith, e))
same_database db.Passwd db.Services e = absurd (omega (arith, e))
same_database db.Group db.Passwd e = absurd (omega (arith, e))
same_database db.Group db.Group e = refl
same_database db.Group db.Hosts e = absurd (omega (arith, e))
same_database db.Group db.Services e = absurd (omega (arith, e))
same_database db.Hosts db.Passwd e = absurd (omega (arith, e))
same_database db.Hosts db.Group e = absurd (omega (arith, e))
same_database db.Hosts db.Hosts e = refl
same_database db.Hosts db.Services e = absurd (omega (arith, e))
same_database db.Services db.Passwd e = absurd (omega (arith, e))
same_database db.Services db.Group e = absurd (omega (arith, e))
same_database db.Services db.Hosts e = absurd (omega (arith, e))
same_database db.Services db.Services e = refl

-- a kind of the database that has this number
pub record IsKind (db : Db) (n : ℕ) : Type 0 where
  pub number_is : type_number (kind_or_any (kind_numbered n)) ≡ n
  pub of_database : database_of (kind_or_any (kind_numbered n)) ≡ db

found_kind : (db : Db) (n : ℕ) (o : Option Kind) → kind_numbered n ≡ o → is_kind_of db o ≡ true → IsKind db n
found_kind db n None e is = absurd cc
found_kind db n (Some k) e is =
    let kind : kind_or_any (kind_numbered n) ≡ k = ap kind_or_any e in
    record {
      number_is = ap type_number kind ∙ number_again n k e;
      of_database = ap database_of kind ∙ same_database (database_of k) db (eqb-true (db_number (database_of k)) (db_number db) is);
    }

-- the test tells a kind of the database, and each kind of the database passes it
pub is_kind : (db : Db) (n : ℕ) → is_kind_of db (kind_numbered n) ≡ true → IsKind db n
is_kind db n is = found_kind db n (kind_numbered n) refl is

pub kind_is : (db : Db) (k : Kind) → database_of k ≡ db → is_kind_of db (kind_numbered (type_number k)) ≡ true
kind_is db k of = ap (is_kind_of db) (kind_again k) ∙ eq-eqb (db_number (database_of k)) (db_number db) (ap db_number of)
