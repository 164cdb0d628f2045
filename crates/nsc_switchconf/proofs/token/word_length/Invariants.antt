use Rattle.std.proofs.Common.{◌≡◌, ◌+◌, drop}
use Rattle.std.specs.List.{prefix_len}
use Rattle.nsc_switchconf.specs.Tokens.{in_word}
use Rattle.nsc_switchconf.proofs.token.word_length.Given as goal

abbrev pub invariant-loop-i : goal.invariant-loop-i
invariant-loop-i l = l.i + prefix_len in_word (drop l.i l.bytes) ≡ prefix_len in_word l.bytes
