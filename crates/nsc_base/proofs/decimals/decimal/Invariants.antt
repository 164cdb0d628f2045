use Rattle.std.proofs.Common.{◌≡◌, ◌<◌, ◌^◌, true, take}
use Rattle.std.specs.List.{list_all}
use Rattle.std.specs.Char.{is_ascii_digit}
use Rattle.nsc_base.specs.Decimal.{value_of}
use Rattle.nsc_base.proofs.decimals.decimal.Given as goal

abbrev pub invariant-loop-byte : goal.invariant-loop-byte
invariant-loop-byte l = record {
  small : l.value < 2 ^ 32;
  spelled : l.value ≡ value_of (take l.byte-index l.text);
  digits : list_all is_ascii_digit (take l.byte-index l.text) ≡ true;
}
