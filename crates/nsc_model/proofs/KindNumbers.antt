-- The kind of a number has that number, and the number of a kind is that of the kind.
use Rattle.std.proofs.Common.{◌≡◌, ℕ, ◌≤◌, Bool, true, false, cond, eqb, Option, Some, None, refl, sym, ◌∙◌, ap, arith}
use Rattle.std.proofs.lemmas.Bool.{eqb-true}
use Rattle.nsc_model.specs.declared.kind.Kind.{Kind}
use Rattle.nsc_model.specs.declared.kind.Kind.TheVariants.{PwName, PwUid, GrName, GrGid, HostName, HostName6, HostAddr, HostAddr6, Ai, InitGroups, ServName, ServPort, NetgrEnt, InNetgr}
use Rattle.nsc_model.specs.Kinds.{kind_numbered, type_number}

-- if there is a kind, it has this number
Numbers : ℕ → Option Kind → Type 0
Numbers n o = (k : Kind) → o ≡ Some k → type_number k ≡ n

none_numbers : (n : ℕ) → Numbers n None
unfolding Numbers
none_numbers n k e = absurd cc

tested_numbers : (b : Bool) (n m : ℕ) (x : Kind) (o : Option Kind) → (b ≡ true → n ≡ m) → type_number x ≡ m → Numbers n o → Numbers n (cond b (Some x) o)
unfolding Numbers
tested_numbers true n m x o same is others k e = let x-is : x ≡ k = cc in ap type_number (sym x-is) ∙ is ∙ sym (same refl)
tested_numbers false n m x o same is others k e = others k e

on : (n : ℕ) (x : Kind) (o : Option Kind) → Numbers n o → Numbers n (cond (eqb n (type_number x)) (Some x) o)
on n x o others = tested_numbers (eqb n (type_number x)) n (type_number x) x o (eqb-true n (type_number x)) refl others

all_numbers : (n : ℕ) → Numbers n (kind_numbered n)
all_numbers n =
    on n PwName _ (on n PwUid _ (on n GrName _ (on n GrGid _ (on n HostName _ (on n HostName6 _ (on n HostAddr _ (on n HostAddr6 _
    (on n Ai _ (on n InitGroups _ (on n ServName _ (on n ServPort _ (on n NetgrEnt _ (on n InNetgr _ (none_numbers n))))))))))))))

-- the kind of a number has that number, and the number of a kind is that of this kind
pub number_again : (n : ℕ) (k : Kind) → kind_numbered n ≡ Some k → type_number k ≡ n
unfolding Numbers
number_again n k e = all_numbers n k e

pub kind_again : (k : Kind) → kind_numbered (type_number k) ≡ Some k
kind_again PwName = refl
kind_again PwUid = refl
kind_again GrName = refl
kind_again GrGid = refl
kind_again HostName = refl
kind_again HostName6 = refl
kind_again HostAddr = refl
kind_again HostAddr6 = refl
kind_again Ai = refl
kind_again InitGroups = refl
kind_again ServName = refl
kind_again ServPort = refl
kind_again NetgrEnt = refl
kind_again InNetgr = refl

pub type_low : (k : Kind) → type_number k ≤ 20
type_low PwName = omega arith
type_low PwUid = omega arith
type_low GrName = omega arith
type_low GrGid = omega arith
type_low HostName = omega arith
type_low HostName6 = omega arith
type_low HostAddr = omega arith
type_low HostAddr6 = omega arith
type_low Ai = omega arith
type_low InitGroups = omega arith
type_low ServName = omega arith
type_low ServPort = omega arith
type_low NetgrEnt = omega arith
type_low InNetgr = omega arith
