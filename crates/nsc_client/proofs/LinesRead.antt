-- Bytes that were read, line by line.
use Rattle.std.proofs.Common.{◌≡◌, ◌∙◌, ℕ, ◌+◌, ◌<◌, ◌≤◌, true, false, List, [], ◌∷◌, ◌++◌, All, Option, append-nil, append_assoc, length, get_or, take, drop, refl, sym, ap, subst, arith, inl, inr}
use Rattle.std.specs.List.{after_first, list_any, position_or_len}
use Rattle.std.proofs.lemmas.Bool.{cases_eq, eqb-true}
use Rattle.std.proofs.lemmas.Grind.{flat_map-append}
use Rattle.std.proofs.lemmas.List.{drop-drop, get_or-take, length-drop, take_all}
use Rattle.std.proofs.lemmas.List.Elements.{All-head, All-nil, All-push, All-tail}
use Rattle.std.proofs.lemmas.List.Folds.{length-prefix_len, list_any_at}
use Rattle.std.proofs.lemmas.List.Sums.{fails_before_first, passes_at_first, prefix_len-le-length, split_at_first}
use Rattle.nsc_base.specs.Text.{is_filled, lines_of}
use Rattle.nsc_base.proofs.FirstBytes.{no_byte}
use Rattle.nsc_base.proofs.Pieces.{lines-first, lines-last, none_cuts}
use Rattle.nsc_outside.specs.Stream.{IsDrained, Moves}
use Rattle.nsc_outside.proofs.Streams.{Moves-nothing, Moves-then}
use Rattle.nsc_client.specs.LinesRead.{HasNoNewline, IsLastLine, ReadsAll, ReadsLines, front_line, is_newline, with_newlines}

-- ---- the line at the front

within : (bytes : List ℕ) → position_or_len is_newline bytes ≤ length bytes
within bytes = prefix_len-le-length _ bytes

before_end : (bytes : List ℕ) → list_any is_newline bytes ≡ true → position_or_len is_newline bytes < length bytes
before_end bytes has =
    elim (cases_eq (position_or_len is_newline bytes) (length bytes)) [
      | inl same ↦ (let none : list_any is_newline bytes ≡ false = no_byte is_newline bytes same in absurd cc)
      | inr other ↦ (let low = within bytes in omega arith)
    ]

pub front-size : (bytes : List ℕ) → length (front_line bytes) ≡ position_or_len is_newline bytes
front-size bytes = length-prefix_len _ bytes

-- its newline stands after it
pub front-split : (bytes : List ℕ) → list_any is_newline bytes ≡ true → bytes ≡ front_line bytes ++ 10 ∷ after_first is_newline bytes
front-split bytes has =
    let below = before_end bytes has in
    let newline : get_or bytes (position_or_len is_newline bytes) 0 ≡ 10 = eqb-true _ 10 (passes_at_first is_newline bytes 0 below) in
    split_at_first is_newline bytes 0 below ∙ ap (λ b. front_line bytes ++ b ∷ after_first is_newline bytes) newline

front-lone : (bytes : List ℕ) → HasNoNewline (front_line bytes)
front-lone bytes =
    let size = front-size bytes in
    none_cuts is_newline (front_line bytes) (λ k low.
    let below : k < position_or_len is_newline bytes = omega (arith, size) in
    rw (get_or-take (position_or_len is_newline bytes) bytes k 0 below) (fails_before_first is_newline bytes k 0 below))

-- where there is no newline, it is all
pub front-whole : (bytes : List ℕ) → HasNoNewline bytes → front_line bytes ≡ bytes
front-whole bytes none =
    elim (cases_eq (position_or_len is_newline bytes) (length bytes)) [
      | inl same ↦ ap (λ n. take n bytes) same ∙ take_all (length bytes) bytes (omega arith)
      | inr other ↦ (let low = within bytes in
          let below : position_or_len is_newline bytes < length bytes = omega arith in
          let some : list_any is_newline bytes ≡ true = list_any_at is_newline bytes (position_or_len is_newline bytes) 0 below (passes_at_first is_newline bytes 0 below) in absurd cc)
    ]

-- what is held from a place on, once the line there was passed
pub rest-passed : (held : List ℕ) (at : ℕ) → drop (at + (length (front_line (drop at held)) + 1)) held ≡ after_first is_newline (drop at held)
rest-passed held at =
    let size : at + (length (front_line (drop at held)) + 1) ≡ at + (position_or_len is_newline (drop at held) + 1) = omega (arith, front-size (drop at held)) in
    ap (λ n. drop n held) size ∙ sym (drop-drop (position_or_len is_newline (drop at held) + 1) at held)

pub rest-within : (held : List ℕ) (at : ℕ) → list_any is_newline (drop at held) ≡ true → at + (length (front_line (drop at held)) + 1) ≤ length held
rest-within held at has = omega (arith, front-size (drop at held), before_end (drop at held) has, length-drop at held)

-- ---- lines

-- lines with their newlines come first of the lines of a text
lines-cut : (lines : List (List ℕ)) (rest : List ℕ) → All HasNoNewline lines → lines_of (with_newlines lines ++ rest) ≡ lines ++ lines_of rest
lines-cut [] rest none = refl
lines-cut (line ∷ lines) rest none =
    let parts : ((line ++ 10 ∷ []) ++ with_newlines lines) ++ rest ≡ line ++ 10 ∷ (with_newlines lines ++ rest) = simp append_assoc in
    ap lines_of parts ∙ lines-first line (with_newlines lines ++ rest) (All-head HasNoNewline line lines none) ∙ ap (λ (ls : List (List ℕ)). line ∷ ls) (lines-cut lines rest (All-tail HasNoNewline line lines none))

lone-line : (bytes : List ℕ) → HasNoNewline bytes → is_filled bytes ≡ true → lines_of bytes ≡ bytes ∷ []
lone-line [] none filled = absurd cc
lone-line (b ∷ bytes) none filled = lines-last b bytes none

pub none_read : (at : Option (List ℕ)) → ReadsLines at at [] []
none_read at = record { moved = Moves-nothing at; are_lines = All-nil HasNoNewline }

-- one line more
pub line_read : (before after : Option (List ℕ)) (lines : List (List ℕ)) (rest : List ℕ) → list_any is_newline rest ≡ true → ReadsLines before after lines rest
    → ReadsLines before after (lines ++ front_line rest ∷ []) (after_first is_newline rest)
line_read before after lines rest has read =
    let front = front_line rest in
    let next = after_first is_newline rest in
    let all = with_newlines lines in
    let more : with_newlines (lines ++ front ∷ []) ≡ all ++ ((front ++ 10 ∷ []) ++ []) = flat_map-append (λ (line : List ℕ). line ++ 10 ∷ []) lines (front ∷ []) in
    let grouped : (all ++ ((front ++ 10 ∷ []) ++ [])) ++ next ≡ all ++ (front ++ 10 ∷ next) = simp (append_assoc, append-nil) in
    let same : all ++ rest ≡ with_newlines (lines ++ front ∷ []) ++ next = ap (λ (r : List ℕ). all ++ r) (front-split rest has) ∙ sym grouped ∙ ap (λ (w : List ℕ). w ++ next) (sym more) in
    record {
      moved = subst (λ (m : List ℕ). Moves before after m) same read.moved;
      are_lines = All-push HasNoNewline lines front read.are_lines (front-lone rest);
    }

-- more bytes
pub part_read : (before between after : Option (List ℕ)) (lines : List (List ℕ)) (rest more : List ℕ) → ReadsLines before between lines rest → Moves between after more → ReadsLines before after lines (rest ++ more)
part_read before between after lines rest more read moved = record {
  moved = subst (λ (m : List ℕ). Moves before after m) (append_assoc (with_newlines lines) rest more) (Moves-then before between after (with_newlines lines ++ rest) more read.moved moved);
  are_lines = read.are_lines;
}

-- the end, after the last newline
pub end_read : (before after : Option (List ℕ)) (lines : List (List ℕ)) → ReadsLines before after lines [] → IsDrained after → ReadsAll before after lines
end_read before after lines read drained = record {
  bytes = with_newlines lines ++ [];
  moved = read.moved;
  are_lines = lines-cut lines [] read.are_lines ∙ append-nil lines;
  drained = drained;
}

-- the end, after a last line without a newline
pub last_read : (before after : Option (List ℕ)) (lines : List (List ℕ)) (rest : List ℕ) → ReadsLines before after lines rest → IsLastLine rest after → ReadsAll before after (lines ++ rest ∷ [])
last_read before after lines rest read last = record {
  bytes = with_newlines lines ++ rest;
  moved = read.moved;
  are_lines = lines-cut lines rest read.are_lines ∙ ap (λ (ls : List (List ℕ)). lines ++ ls) (lone-line rest last.lone last.filled);
  drained = last.drained;
}
