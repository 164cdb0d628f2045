-- The names of a list, one after another.
use Rattle.std.proofs.Common.{◌≡◌, ◌∙◌, ℕ, List, [], ◌∷◌, Option, Some, None, Bor, ap, sym}
use Rattle.std.specs.Prelude.{option_and_then}
use Rattle.std.specs.Str.Iter.{split_steps}
use Rattle.std.specs.Str.Pattern.{FindsChar}
use Rattle.std.specs.declared.str.Split.{Split}
use Rattle.std.proofs.lemmas.Iterator.{YieldsList}
use Rattle.std.specs.Iterator.{AlwaysYields}
use Rattle.nsc_server.specs.declared.scope.Scope.{Scope}
use Rattle.nsc_run.specs.declared.lists.Named.{Named}
use Rattle.clap.specs.Walk.{Text}
use Rattle.nsc_run.specs.Named.{with_name, with_names}

abbrev pub Steps : Split ℕ → Option (Bor Text) → Split ℕ → Type 0
Steps s r t = split_steps FindsChar (λ a b. b ≡ a) s r t

-- names are still to come, and with these what lists have named ends so
pub record Goes (scope : Scope) (left : Split ℕ) (named : Named) (end : Option Named) : Type 0 where
  pub rest : List Text
  pub yields : YieldsList Steps (λ x. x.now) left rest
  pub ends : with_names scope rest named ≡ end

module _ (scope : Scope) (left left' : Split ℕ) (named : Named) (end : Option Named) where
  step_of : (x : Bor Text) (more : Named) (rest : List Text) → AlwaysYields Steps (λ x. x.now) left rest → with_names scope rest named ≡ end
      → Steps left (Some x) left' → with_name scope x.now named ≡ Some more → Goes scope left' more end
  step_of x more [] yields ends step is = absurd (yields x left' step)
  step_of x more (name ∷ rest) yields ends step is =
      let at = yields.1 x left' step in
      record {
        rest = rest;
        yields = record { runs = at.1 };
        ends = ap (λ found. option_and_then (λ n. with_names scope rest n) found) (sym is ∙ ap (λ n. with_name scope n named) at.0) ∙ ends;
      }

  -- a name more
  pub step : (x : Bor Text) (more : Named) → Goes scope left named end → Steps left (Some x) left' → with_name scope x.now named ≡ Some more → Goes scope left' more end
  step x more h taken is = step_of x more h.rest h.yields.runs h.ends taken is

  stop_of : (x : Bor Text) (rest : List Text) → AlwaysYields Steps (λ x. x.now) left rest → with_names scope rest named ≡ end
      → Steps left (Some x) left' → with_name scope x.now named ≡ None → end ≡ None
  stop_of x [] yields ends taken is = absurd (yields x left' taken)
  stop_of x (name ∷ rest) yields ends taken is =
      let at = yields.1 x left' taken in
      sym ends ∙ ap (λ found. option_and_then (λ n. with_names scope rest n) found) (ap (λ n. with_name scope n named) (sym at.0) ∙ is)

  -- a name that makes no scopes
  pub stop : (x : Bor Text) → Goes scope left named end → Steps left (Some x) left' → with_name scope x.now named ≡ None → end ≡ None
  stop x h taken is = stop_of x h.rest h.yields.runs h.ends taken is

  done_of : (rest : List Text) → AlwaysYields Steps (λ x. x.now) left rest → with_names scope rest named ≡ end → Steps left None left' → end ≡ Some named
  done_of [] yields ends none = sym ends
  done_of (name ∷ rest) yields ends none = absurd (yields.0 left' none)

  -- no name more
  pub done : Goes scope left named end → Steps left None left' → end ≡ Some named
  done h none = done_of h.rest h.yields.runs h.ends none
