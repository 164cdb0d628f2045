use Rattle.std.proofs.Common.{None, IfOk, ap, subst, sym, ◌∙◌, arith}
use Rattle.std.specs.Prelude.{IsTrue}
use Rattle.nsc_base.specs.Buf.{Buf}
use Rattle.nsc_image.specs.Draft.{Draft}
use Rattle.nsc_model.specs.Image.{ImageBytes, IsSaved, Saved, image_version, is_above, last_number}
use Rattle.nsc_image.proofs.Saves.{fewer_left, saved_put, saves_all, saves_next, saves_none, step_of}
use Rattle.nsc_image.proofs.saving.save.Goals as goal

pub entries-init : goal.entries-init
entries-init c =
    saves_none c.args.db c.args.writer.now c.in_ok-key.key c.in_ok-reply.reply c.in_ok-builder.builder c.in_ok-builder.ensures (ap (λ (b : Buf). b.limit) c.in_ok-key.ensures) (ap (λ (b : Buf). b.limit) c.in_ok-reply.ensures)

pub push-requires-clause-is : goal.push-requires-clause-is
push-requires-clause-is c =
    let step = step_of c.args.db c.args.writer.now c.entries.writer c.entries.from c.entries.key c.entries.reply c.entry.new.key c.entry.new.reply c.entries.builder c.in-Some.entry c.bytes.result.now c.bytes-in-Some.result.now
    c.entries.invariant c.learn.ensures.told.entries_are.rising c.requires.entries (let few = c.learn.ensures.few c.requires.still in let room = c.learn.ensures.room in omega arith) c.in-Some.ensures.entry c.entry.ensures.key c.entry.ensures.reply
    c.bytes.ensures.content c.bytes.ensures.within c.bytes-in-Some.ensures.content c.bytes-in-Some.ensures.within (omega arith) in
    subst (IsSaved c.entries.builder.db image_version) (sym (saved_put c.in-Some.entry c.bytes.result.now c.bytes-in-Some.result.now c.new-saved.result c.saved_count.result c.new-saved.ensures c.saved_count.ensures)) step.saved

pub push-requires-clause-above : goal.push-requires-clause-above
push-requires-clause-above c =
    let step = step_of c.args.db c.args.writer.now c.entries.writer c.entries.from c.entries.key c.entries.reply c.entry.new.key c.entry.new.reply c.entries.builder c.in-Some.entry c.bytes.result.now c.bytes-in-Some.result.now
    c.entries.invariant c.learn.ensures.told.entries_are.rising c.requires.entries (let few = c.learn.ensures.few c.requires.still in let room = c.learn.ensures.room in omega arith) c.in-Some.ensures.entry c.entry.ensures.key c.entry.ensures.reply
    c.bytes.ensures.content c.bytes.ensures.within c.bytes-in-Some.ensures.content c.bytes-in-Some.ensures.within (omega arith) in
    subst (λ (s : Saved). IsTrue (is_above (last_number None c.entries.builder.entries) s.number)) (sym (saved_put c.in-Some.entry c.bytes.result.now c.bytes-in-Some.result.now c.new-saved.result c.saved_count.result c.new-saved.ensures c.saved_count.ensures)) step.above

pub push-requires-clause-count : goal.push-requires-clause-count
push-requires-clause-count c =
    let step = step_of c.args.db c.args.writer.now c.entries.writer c.entries.from c.entries.key c.entries.reply c.entry.new.key c.entry.new.reply c.entries.builder c.in-Some.entry c.bytes.result.now c.bytes-in-Some.result.now
    c.entries.invariant c.learn.ensures.told.entries_are.rising c.requires.entries (let few = c.learn.ensures.few c.requires.still in let room = c.learn.ensures.room in omega arith) c.in-Some.ensures.entry c.entry.ensures.key c.entry.ensures.reply
    c.bytes.ensures.content c.bytes.ensures.within c.bytes-in-Some.ensures.content c.bytes-in-Some.ensures.within (omega arith) in
    step.room

pub entries-smaller : goal.entries-smaller
entries-smaller c =
    let step = step_of c.args.db c.args.writer.now c.entries.writer c.entries.from c.entries.key c.entries.reply c.entry.new.key c.entry.new.reply c.entries.builder c.in-Some.entry c.bytes.result.now c.bytes-in-Some.result.now
    c.entries.invariant c.learn.ensures.told.entries_are.rising c.requires.entries (let few = c.learn.ensures.few c.requires.still in let room = c.learn.ensures.room in omega arith) c.in-Some.ensures.entry c.entry.ensures.key c.entry.ensures.reply
    c.bytes.ensures.content c.bytes.ensures.within c.bytes-in-Some.ensures.content c.bytes-in-Some.ensures.within (omega arith) in
    fewer_left c.args.writer.now c.entries.writer c.entry.new.self c.entries.from c.in-Some.entry.next step.kept c.entries.invariant.same (c.entry.ensures.same ∙ c.entries.invariant.same) step.left

pub entries-preserved : goal.entries-preserved
entries-preserved c =
    let step = step_of c.args.db c.args.writer.now c.entries.writer c.entries.from c.entries.key c.entries.reply c.entry.new.key c.entry.new.reply c.entries.builder c.in-Some.entry c.bytes.result.now c.bytes-in-Some.result.now
    c.entries.invariant c.learn.ensures.told.entries_are.rising c.requires.entries (let few = c.learn.ensures.few c.requires.still in let room = c.learn.ensures.room in omega arith) c.in-Some.ensures.entry c.entry.ensures.key c.entry.ensures.reply
    c.bytes.ensures.content c.bytes.ensures.within c.bytes-in-Some.ensures.content c.bytes-in-Some.ensures.within (omega arith) in
    saves_next c.args.db c.args.writer.now c.entries.writer c.entry.new.self c.entries.from c.entries.key c.entries.reply c.entry.new.key c.entry.new.reply c.entries.builder c.push.new.self c.in-Some.entry
    c.bytes.result.now c.bytes-in-Some.result.now c.new-saved.result c.entries.invariant step (saved_put c.in-Some.entry c.bytes.result.now c.bytes-in-Some.result.now c.new-saved.result c.saved_count.result c.new-saved.ensures c.saved_count.ensures) c.entry.ensures.same c.entry.ensures.key c.entry.ensures.reply c.in_ok-push.ensures.ok

pub returns-clause-image : goal.returns-clause-image
returns-clause-image c =
    let whole = saves_all c.args.db c.args.writer.now c.entries.writer c.entries.from c.entries.key c.entries.reply c.entries.builder c.entry.new.key.content c.entry.new.reply.content c.entries.invariant c.in_default.ensures.entry in
    subst (λ (d : Draft). IfOk c.seal.result (ImageBytes d.db image_version d.entries)) whole c.seal.ensures
