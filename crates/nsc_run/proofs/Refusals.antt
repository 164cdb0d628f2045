-- Words that clap refuses.
use Rattle.std.proofs.Common.{◌≡◌, ◌⊎◌, [], ◌∷◌, true, false, ap, refl, inl, inr, rules, subst}
use Rattle.clap.specs.Faults.{is_simple_and_free}
use Rattle.clap.specs.Kinds.{IsAmong, Kinds}
use Rattle.clap.specs.Simple.{is_simple}
use Rattle.clap.specs.Walk.{is_empty}
use Rattle.clap.specs.declared.error.kind.ErrorKind.{ErrorKind}
use Rattle.clap.specs.declared.error.kind.ErrorKind.TheVariants as kind
use Rattle.nsc_run.specs.Commands.{RefusesWords}
use Rattle.nsc_run.specs.Exits.{error_exit}
use Rattle.nsc_run.specs.Forms.{command_app}

pub simple : is_simple command_app ≡ true
simple = refl

pub simple_and_free : is_simple_and_free command_app ≡ true
simple_and_free = refl

exit_for : (k : ErrorKind) → RefusesWords false (error_exit k)
exit_for kind.OutOfMemory = inl refl
exit_for _ = inr (refl, refl)

not_empty : (k : ErrorKind) (ks : Kinds) → false ≡ is_empty (k ∷ ks)
not_empty k ks = search rules

-- the exit for a kind of error that may come
pub refused_by : (kinds : Kinds) (k : ErrorKind) → (k ≡ kind.OutOfMemory) ⊎ IsAmong k kinds → RefusesWords (is_empty kinds) (error_exit k)
refused_by kinds k (inl e) = inl (ap error_exit e)
refused_by [] k (inr never) = absurd never
refused_by (x ∷ xs) k (inr h) = subst (λ good. RefusesWords good (error_exit k)) (not_empty x xs) (exit_for k)
