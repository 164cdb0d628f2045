-- What a caller reads of the matches, from their rows.
use Rattle.std.proofs.Common.{◌≡◌, ◌∙◌, ap, refl, sym, List, [], ◌∷◌, Option, Some, None, option_map, find}
use Rattle.std.specs.Prelude.{option_and_then, slice_get}
use Rattle.std.specs.Str.{bytes_eq}
use Rattle.std.specs.Borrow.{Bor}
use Rattle.clap.specs.Facts.{Entry}
use Rattle.clap.specs.Matches.{first_value}
use Rattle.clap.specs.Walk.{Row, Text, first_of, row_of, rows_of, texts}
use Rattle.clap.specs.declared.parser.matches.Found.{Found}
use Rattle.clap.proofs.WalkLemmas.{find_row}

first_text : (values : List (Bor Text)) → option_map (λ s. s.now) (slice_get values 0) ≡ slice_get (texts values) 0
first_text [] = refl
first_text (v ∷ vs) = refl

first_at : (found : Option Entry) → option_and_then (λ a. option_map (λ s. s.now) (slice_get a.vals.items 0)) (option_map (λ e. e.1) found) ≡ option_and_then (λ (r : Row). slice_get r.values 0) (option_map row_of found)
first_at None = refl
first_at (Some e) = first_text e.1.vals.items

-- the first value of an id is the first of its row
pub first_of_rows : (f : Found) (id : Text) → first_value f id ≡ first_of id (rows_of f)
first_of_rows f id = first_at (find (λ e. bytes_eq e.0.now id) f.entries.items)
    ∙ ap (λ found. option_and_then (λ (r : Row). slice_get r.values 0) found) (sym (find_row f.entries.items id))
