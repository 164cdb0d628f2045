use Rattle.std.proofs.Common.{◌≡◌, ℕ, List, ◌++◌, length, map, Option}
use Rattle.nsc_model.specs.Entry.{kept_limit, key_limit}
use Rattle.nsc_model.specs.Machine.{due_of}
use Rattle.nsc_base.specs.Buf.{Buf}
use Rattle.nsc_pruner.specs.Due.{Due, due_from}
use Rattle.nsc_writer.specs.Writer.{Writer}
use Rattle.nsc_writer.proofs.Rest.{rest_from}
use Rattle.nsc_pruner.proofs.due.expired.Given as goal

-- the writer and the buffers stay, and those that were passed are listed where they are due
pub record Lists (limit : Option ℕ) (now : ℕ) (before w : Writer) (from : ℕ) (key reply : Buf) (all : List Due) : Type 0 where
  pub same : w ≡ before
  pub key_limit_is : key.limit ≡ key_limit
  pub reply_limit_is : reply.limit ≡ kept_limit
  pub listed : all ++ map (due_from limit) (due_of now (rest_from from before.cache.entries)) ≡ map (due_from limit) (due_of now before.cache.entries)

abbrev pub invariant-entries : goal.invariant-entries
invariant-entries l = Lists l.limit l.now l.initial.writer l.writer l.from l.key l.reply l.all.items

abbrev pub decreases-entries : goal.decreases-entries
decreases-entries l = length (rest_from l.from l.writer.cache.entries)
