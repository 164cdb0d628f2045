-- Rows for the names that stand in a line.
use Rattle.std.proofs.Common.{◌≡◌, ℕ, Bool, true, false, cond, ◌||◌, if◌then◌else◌, List, [], ◌∷◌, filter, map, Option, Some, None, refl, sym, ◌∙◌, ap}
use Rattle.std.specs.List.{AllByRecursion, list_any}
use Rattle.std.specs.Option.{option_map_or}
use Rattle.nsc_base.specs.declared.span.Span.{Span}
use Rattle.nsc_base.specs.Text.{part}
use Rattle.nsc_model.specs.Entries.{if_named}
use Rattle.nsc_index.specs.declared.names.NameAt.{NameAt}
use Rattle.nsc_index.specs.Names.{place_of_name}
use Rattle.nsc_index.proofs.LineRows.{RowsOf}

module _ (text : List ℕ) (passes : NameAt → Bool) (test : List ℕ → Bool) (agree : (line span : Span) → passes (place_of_name line span) ≡ test (part text span)) where
  none_there : (line : Span) (spans : List Span) → filter passes (map (place_of_name line) spans) ≡ [] → list_any test (map (part text) spans) ≡ false
  none_there line [] is = refl
  none_there line (span ∷ spans) is =
      elim (test (part text span)) as (λ v. passes (place_of_name line span) ≡ v → (v || list_any test (map (part text) spans)) ≡ false) [
        | true ↦ λ p. let filled : place_of_name line span ∷ filter passes (map (place_of_name line) spans) ≡ [] = ap (λ v. cond v (place_of_name line span ∷ filter passes (map (place_of_name line) spans)) (filter passes (map (place_of_name line) spans))) (sym p) ∙ is in cc
        | false ↦ λ p. none_there line spans (ap (λ v. cond v (place_of_name line span ∷ filter passes (map (place_of_name line) spans)) (filter passes (map (place_of_name line) spans))) (sym p) ∙ is)
      ] (agree line span)

  some_there : (line : Span) (spans : List Span) (row : NameAt) (rows : List NameAt) → filter passes (map (place_of_name line) spans) ≡ row ∷ rows → list_any test (map (part text) spans) ≡ true
  some_there line [] row rows is = cc
  some_there line (span ∷ spans) row rows is =
      elim (test (part text span)) as (λ v. passes (place_of_name line span) ≡ v → (v || list_any test (map (part text) spans)) ≡ true) [
        | true ↦ λ p. refl
        | false ↦ λ p. some_there line spans row rows (ap (λ v. cond v (place_of_name line span ∷ filter passes (map (place_of_name line) spans)) (filter passes (map (place_of_name line) spans))) (sym p) ∙ is)
      ] (agree line span)

  each_there : (line : Span) (spans : List Span) → AllByRecursion (λ (row : NameAt). row.line ≡ line.from) (filter passes (map (place_of_name line) spans))
  each_there line [] = tt
  each_there line (span ∷ spans) =
      elim (passes (place_of_name line span)) as (λ v. AllByRecursion (λ (row : NameAt). row.line ≡ line.from) (cond v (place_of_name line span ∷ filter passes (map (place_of_name line) spans)) (filter passes (map (place_of_name line) spans)))) [
        | true ↦ (refl, each_there line spans)
        | false ↦ each_there line spans
      ]

  -- a row for each name of each line that has an entry
  pub many_rows : {A : Type 0} (places : Span → Option A) (names : A → Bool) (spans_of : Span → A → List Span) → ((line : Span) (a : A) → places line ≡ Some a → names a ≡ list_any test (map (part text) (spans_of line a)))
      → RowsOf places names (λ line. option_map_or (λ a. map (place_of_name line) (spans_of line a)) (places line) []) passes (λ row. row.line)
  many_rows {A} places names spans_of are = record {
    none = λ line. elim (places line) as (λ o. places line ≡ o → filter passes (option_map_or (λ a. map (place_of_name line) (spans_of line a)) o []) ≡ [] → if_named names o ≡ None) [
      | None ↦ λ has e. refl
      | Some a ↦ λ has e. ap (λ v. if v then Some a else None) (are line a has ∙ none_there line (spans_of line a) e)
    ] refl;
    some = λ line row rows. elim (places line) as (λ o. places line ≡ o → filter passes (option_map_or (λ a. map (place_of_name line) (spans_of line a)) o []) ≡ row ∷ rows → (entry : A) × ((o ≡ Some entry) × (names entry ≡ true))) [
      | None ↦ λ has e. cc
      | Some a ↦ λ has e. (a, (refl, are line a has ∙ some_there line (spans_of line a) row rows e))
    ] refl;
    there = λ line. elim (places line) as (λ o. AllByRecursion (λ (row : NameAt). row.line ≡ line.from) (filter passes (option_map_or (λ a. map (place_of_name line) (spans_of line a)) o []))) [
      | None ↦ tt
      | Some a ↦ each_there line (spans_of line a)
    ];
  }
