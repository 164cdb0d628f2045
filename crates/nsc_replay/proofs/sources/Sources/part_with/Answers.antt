use Rattle.std.proofs.Common.{◌≡◌, ℕ, true, List, Option, sym, ◌∙◌, ap}
use Rattle.std.specs.Arc.{arc_value}
use Rattle.std.specs.Option.{option_map}
use Rattle.nsc_model.specs.Content.{Content}
use Rattle.nsc_model.specs.Files.{is_read, part_of, with_file}
use Rattle.nsc_replay.proofs.Parts.{part_follows}
use Rattle.nsc_replay.proofs.sources.Sources.part_with.Goals as goal

pub returns : goal.returns
returns c =
    let on : is_read c.args.db c.args.file ≡ true = sym c.is_read_by.ensures ∙ c.if-not-is_read_by.false in
    let held : Option (List ℕ) = option_map (λ b. arc_value b) c.in_ok-handle.field-0 in
    c.in_ok-new.ensures.ok ∙ c.share.ensures ∙ ap (λ (part : Content). with_file part c.args.file held) c.in_ok-part.ensures
    ∙ ap (λ (h : Option (List ℕ)). with_file (part_of c.args.db c.args.self.now) c.args.file h) c.in_ok-handle.ensures ∙ part_follows c.args.db c.args.self.now c.args.file c.args.held.now on
