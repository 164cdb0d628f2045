use Rattle.std.proofs.Common.{ap, ◌∙◌, take}
use Rattle.nsc_words.specs.Hash.{hash_from}
use Rattle.nsc_words.proofs.Lows.{take_low}
use Rattle.nsc_words.proofs.hashing.hash_word.Goals as goal

pub returns : goal.returns
returns c = c.hash_bytes.ensures ∙ ap (hash_from c.args.hash) (ap (take c.args.count) c.to_le_bytes.ensures ∙ take_low c.args.count 8 0 c.args.word c.requires)
