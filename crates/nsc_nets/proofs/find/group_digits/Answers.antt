use Rattle.std.proofs.Common.{◌≡◌, ℕ, ◌+◌, ◌*◌, ◌/◌, ◌%◌, ◌<◌, false, [], ◌∷◌, refl, ◌∙◌, ap, arith}
use Rattle.std.specs.Fmt.{digit_glyph}
use Rattle.nsc_addr.proofs.Numerals.{below_0x1000, below_0x10000}
use Rattle.nsc_nets.proofs.find.group_digits.Goals as goal

-- the four digits of two bytes are those of the group
values : (high low : ℕ) → high < 256 → low < 256 → (high / 16 ≡ (high * 256 + low) / 0x1000) × ((high % 16 ≡ (high * 256 + low) / 0x100 % 16) × ((low / 16 ≡ (high * 256 + low) / 0x10 % 16) × (low % 16 ≡ (high * 256 + low) % 16)))
values high low a b = (omega arith, (omega arith, (omega arith, omega arith)))

pub returns-then-high-lt16-clause-text : goal.returns-then-high-lt16-clause-text
returns-then-high-lt16-clause-text c =
    let v = values c.args.high c.args.low (omega arith) (omega arith) in
    let second = c.hex_digit-2.ensures ∙ ap (digit_glyph false) v.1.0 in
    let third = c.hex_digit-3.ensures ∙ ap (digit_glyph false) v.1.1.0 in
    let fourth = c.hex_digit-4.ensures ∙ ap (digit_glyph false) v.1.1.1 in
    (λ i. second i ∷ third i ∷ fourth i ∷ []) ∙ below_0x1000 (c.args.high * 256 + c.args.low) 1 (omega (arith, c.requires)) (omega (arith, c.if-high-lt16.true)) refl

pub returns-else-high-lt16-clause-text : goal.returns-else-high-lt16-clause-text
returns-else-high-lt16-clause-text c =
    let v = values c.args.high c.args.low (omega arith) (omega arith) in
    let first = c.hex_digit.ensures ∙ ap (digit_glyph false) v.0 in
    let second = c.hex_digit-2.ensures ∙ ap (digit_glyph false) v.1.0 in
    let third = c.hex_digit-3.ensures ∙ ap (digit_glyph false) v.1.1.0 in
    let fourth = c.hex_digit-4.ensures ∙ ap (digit_glyph false) v.1.1.1 in
    (λ i. first i ∷ second i ∷ third i ∷ fourth i ∷ []) ∙ below_0x10000 (c.args.high * 256 + c.args.low) 0 (omega (arith, c.if-high-lt16.false)) (omega arith) refl
