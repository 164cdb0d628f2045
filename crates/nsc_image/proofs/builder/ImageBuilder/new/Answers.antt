use Rattle.nsc_image.proofs.Drafts.{no_entries}
use Rattle.nsc_image.proofs.builder.ImageBuilder.new.Goals as goal

pub returns : goal.returns
returns c = no_entries c.args.db c.in_ok-head.field-0.items
