use Rattle.std.proofs.Common.{◌≡◌, ◌≤◌, None}
use Rattle.nsc_model.specs.Entry.{key_limit, kept_limit}
use Rattle.nsc_image_trials.proofs.shown.show_entries.Given as goal

-- the buffers have room for any entry, and no slide is under way
abbrev pub invariant-entries : goal.invariant-entries
invariant-entries g l = (key_limit ≤ l.key.limit) × (kept_limit ≤ l.reply.limit) × (l.writer.slide ≡ None)
