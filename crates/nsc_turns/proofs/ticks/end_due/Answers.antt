use Rattle.std.proofs.Common.{◌≡◌, ◌+◌, ◌<◌, ◌∙◌, length, List, Result, ap, sym, subst, arith}
use Rattle.nsc_model.specs.Machine.{Passed, Stopped, all_words, last_count}
use Rattle.nsc_pruner.specs.Due.{Due, marked_by, pruned_by}
use Rattle.nsc_writer.specs.Writer.{Writer}
use Rattle.nsc_turns.specs.Ticks.{ended_of}
use Rattle.nsc_turns.specs.Turns.{Completes, Stops}
use Rattle.nsc_turns.proofs.Events.{compacted_below, compacted_spent}
use Rattle.nsc_turns.proofs.Renewed.{leaves_pruned, none_ended, some_ended}
use Rattle.nsc_turns.proofs.ticks.end_due.Goals as goal

pub compact-requires : goal.compact-requires
compact-requires c = ap (λ (x : Writer). x.slide) c.prune_ends-ended.ensures.pruned ∙ (leaves_pruned c.args.now c.args.due.now c.args.writer.now).slide ∙ c.requires.still

pub returns-then-ended-eq0-clause-completes : goal.returns-then-ended-eq0-clause-completes
returns-then-ended-eq0-clause-completes c =
    let w = pruned_by c.args.now c.args.due.now c.args.writer.now in
    let ended = ended_of (marked_by c.args.now c.args.due.now c.args.writer.now) in
    let none : length ended ≡ 0 = sym (ap (λ (ds : List Due). length (ended_of ds)) c.prune_ends-ended.ensures.marked) ∙ sym c.prune_ends-ended.ensures.count ∙ c.if-ended-eq0.true in
    subst (λ (r : Result Passed Stopped). Completes r w c.prune_ends-ended.new.writer) (sym (none_ended ended w.cache none)) c.prune_ends-ended.ensures.pruned

pub returns-in-Ok-clause-completes : goal.returns-in-Ok-clause-completes
returns-in-Ok-clause-completes c =
    let w = pruned_by c.args.now c.args.due.now c.args.writer.now in
    let ended = ended_of (marked_by c.args.now c.args.due.now c.args.writer.now) in
    let count = c.prune_ends-ended.ensures.count ∙ ap (λ (ds : List Due). length (ended_of ds)) c.prune_ends-ended.ensures.marked in
    let is = c.prune_ends-ended.ensures.pruned in
    let done = c.in-Ok.ensures.done in
    subst (λ (r : Result Passed Stopped). Completes r w c.compact.new.writer) (sym (some_ended ended w.cache (λ none. c.if-ended-eq0.false (count ∙ none)) ∙ compacted_below w.cache (subst (λ (x : Writer). x.cache.cycle < last_count) is done.0)))
    (done.2 ∙ ap (λ (x : Writer). record x { cache = record x.cache { cycle = x.cache.cycle + 2; used = all_words x.cache.entries } }) is)

pub returns-in-Err-clause-stops : goal.returns-in-Err-clause-stops
returns-in-Err-clause-stops c =
    let w = pruned_by c.args.now c.args.due.now c.args.writer.now in
    let ended = ended_of (marked_by c.args.now c.args.due.now c.args.writer.now) in
    let count = c.prune_ends-ended.ensures.count ∙ ap (λ (ds : List Due). length (ended_of ds)) c.prune_ends-ended.ensures.marked in
    let is = c.prune_ends-ended.ensures.pruned in
    let spent = c.in-Err.ensures.spent in
    let last : w.cache.cycle ≡ last_count = sym (ap (λ (x : Writer). x.cache.cycle) is) ∙ spent.0 in
    subst (λ (r : Result Passed Stopped). Stops r c.in-Err.spent.count w c.compact.new.writer) (sym (some_ended ended w.cache (λ none. c.if-ended-eq0.false (count ∙ none)) ∙ compacted_spent w.cache (omega arith)))
    (spent.1, spent.2 ∙ is)
