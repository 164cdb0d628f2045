use Rattle.std.proofs.Common.{◌+◌, List, drop, sym, ◌∙◌, ap}
use Rattle.std.proofs.lemmas.List.{at_drop_all, at_drop_more}
use Rattle.nsc_model.specs.declared.kind.FileId.{FileId}
use Rattle.nsc_model.specs.Content.{Content}
use Rattle.nsc_model.specs.Kinds.{all_files}
use Rattle.nsc_replay.specs.Parts.{all_lent}
use Rattle.nsc_replay.proofs.Parts.{part_lent}
use Rattle.nsc_replay.proofs.sources.Sources.part.Goals as goal

pub returns : goal.returns
returns c =
    sym (at_drop_all (λ left. all_lent c.args.db c.args.self.now left c.loop-file.part) all_files c.loop-file.file-index c.loop-file-test.false) ∙ c.loop-file.invariant ∙ part_lent c.args.db c.args.self.now

pub loop-file-preserved : goal.loop-file-preserved
loop-file-preserved c =
    let left = drop (c.loop-file.file-index + 1) all_files in
    ap (λ (part : Content). all_lent c.args.db c.args.self.now left part) c.in_ok-lend.ensures
    ∙ sym (at_drop_more (λ (files : List FileId). all_lent c.args.db c.args.self.now files c.loop-file.part) all_files c.loop-file.file-index _ c.loop-file-test.true) ∙ c.loop-file.invariant
