use Rattle.std.proofs.Common.{◌∙◌, ◌++◌, List, ap}
use Rattle.std.proofs.lemmas.Bool.{OnTrue_from}
use Rattle.nsc_model.specs.History.{NoneLive}
use Rattle.nsc_model.specs.Reads.{IsLookedUp}
use Rattle.nsc_sourcebook.specs.Reads.{NoneFailed}
use Rattle.nsc_database.specs.Ticks.{AreListed, AreOver}
use Rattle.nsc_database.proofs.Standing.{again_before, goes_after, goes_on, held_through, loaded_before}
use Rattle.nsc_database.proofs.Ticked.{emptied_stale, emptied_ticked, files_kept, hold_fault, listed_stale, listed_ticked, noted_low, ticking, was_polled}
use Rattle.nsc_model.specs.declared.record.Record.{Record}
use Rattle.nsc_model.specs.Made.{Adds}
use Rattle.nsc_turns.specs.declared.ticks.Checked.TheVariants as checked
use Rattle.nsc_database.specs.Made.{ChecksBy}
use Rattle.nsc_database.specs.Frames.{pass_at}
use Rattle.nsc_database.proofs.Added.{adds_after, adds_before, refused_hold, refused_poll}
use Rattle.nsc_database.proofs.base.Base.tick.Goals as goal

pub returns-in-Err-poll-clause-frame : goal.returns-in-Err-poll-clause-frame
returns-in-Err-poll-clause-frame g c = goes_after _ _ _ c.in-Ok.ensures.frame c.in-Err-poll.ensures.frame

pub returns-in-Err-poll-clause-steady : goal.returns-in-Err-poll-clause-steady
returns-in-Err-poll-clause-steady g c = OnTrue_from c.args.self.now.settings.enabled _ (λ on. c.in-Err-poll.ensures.steady c.in-Ok.ensures.steady)

pub returns-in-Err-check-clause-frame : goal.returns-in-Err-check-clause-frame
returns-in-Err-check-clause-frame g c = goes_on _ _ _ (goes_after _ _ _ c.in-Ok.ensures.frame c.in-Ok-poll.ensures.frame) c.in-Err-check.ensures.frame

pub returns-in-Err-check-clause-fault : goal.returns-in-Err-check-clause-fault
returns-in-Err-check-clause-fault g c =
    let after = c.check.new.pass.pass.seen in
    let t = ticking _ _ _ _ _ _ c.in-Ok.ensures.frame c.in-Ok.ensures.noted c.in-Ok-poll.ensures.frame c.in-Ok-poll.ensures.polled c.in-Err-check.ensures.frame in
    let begun = (goes_after _ _ _ c.in-Ok.ensures.frame c.in-Ok-poll.ensures.frame).searches in
    hold_fault c.in-Err-check.fault c.args.self.now.settings c.args.now c.args.pass.now.pass.seen after _ _ _ _ _ _ (NoneLive after) (loaded_before c.args.pass.now c.poll.new.pass c.check.new.pass begun) (emptied_stale _ _ _ _ _ _ _ _ t)
    (files_kept (NoneFailed g.F.FileSet) _ _ _ _ c.in-Ok.ensures.frame.files c.in-Err-check.ensures.frame.files c.in-Ok-poll.ensures.no_fault) c.in-Err-check.ensures.fault

pub returns-in-Emptied-clause-frame : goal.returns-in-Emptied-clause-frame
returns-in-Emptied-clause-frame g c = goes_on _ _ _ (goes_after _ _ _ c.in-Ok.ensures.frame c.in-Ok-poll.ensures.frame) c.in-Ok-check.ensures.frame

pub returns-in-Emptied-clause-ticked : goal.returns-in-Emptied-clause-ticked
returns-in-Emptied-clause-ticked g c = OnTrue_from c.args.self.now.settings.enabled _ (λ on.
    let t = ticking _ _ _ _ _ _ c.in-Ok.ensures.frame c.in-Ok.ensures.noted c.in-Ok-poll.ensures.frame c.in-Ok-poll.ensures.polled c.in-Ok-check.ensures.frame in
    let none : NoneLive c.check.new.pass.pass.seen = rw c.in-Emptied.is at c.in-Ok-check.ensures.checked in
    let begun = (goes_after _ _ _ c.in-Ok.ensures.frame c.in-Ok-poll.ensures.frame).searches in
    emptied_ticked _ _ _ _ _ _ _ _ _ _ _ _ _ _ _ t
    (files_kept (λ a b. IsLookedUp g.D.OfDb.db (g.F.FileSet.reads a) (g.F.FileSet.reads b) (g.F.FileSet.latest b) c.in-Ok-poll.polled.content) _ _ _ _ c.in-Ok.ensures.frame.files c.in-Ok-check.ensures.frame.files c.in-Ok-poll.ensures.files)
    none c.in-Ok-check.ensures.reloaded (again_before _ c.args.pass.now c.poll.new.pass c.check.new.pass begun c.in-Ok-check.ensures.again))

pub renew-requires-clause-noted : goal.renew-requires-clause-noted
renew-requires-clause-noted g c =
    noted_low _ _ _ _ _ _ (ticking _ _ _ _ _ _ c.in-Ok.ensures.frame c.in-Ok.ensures.noted c.in-Ok-poll.ensures.frame c.in-Ok-poll.ensures.polled c.in-Ok-check.ensures.frame)

pub renew-requires-clause-polled : goal.renew-requires-clause-polled
renew-requires-clause-polled g c =
    was_polled _ _ _ _ _ _ (ticking _ _ _ _ _ _ c.in-Ok.ensures.frame c.in-Ok.ensures.noted c.in-Ok-poll.ensures.frame c.in-Ok-poll.ensures.polled c.in-Ok-check.ensures.frame)

pub returns-in-Ok-renew-clause-frame : goal.returns-in-Ok-renew-clause-frame
returns-in-Ok-renew-clause-frame g c = goes_on _ _ _ (goes_after _ _ _ c.in-Ok.ensures.frame c.in-Ok-poll.ensures.frame) (held_through _ _ _ c.in-Ok-check.ensures.frame c.renew.ensures.frame)

pub returns-clause-frame : goal.returns-clause-frame
returns-clause-frame g c = goes_on _ _ _ (goes_after _ _ _ c.in-Ok.ensures.frame c.in-Ok-poll.ensures.frame) (held_through _ _ _ c.in-Ok-check.ensures.frame c.renew.ensures.frame)

pub returns-clause-fault : goal.returns-clause-fault
returns-clause-fault g c =
    let last = c.renew.new.pass.pass.seen in
    let t = ticking _ _ _ _ _ _ c.in-Ok.ensures.frame c.in-Ok.ensures.noted c.in-Ok-poll.ensures.frame c.in-Ok-poll.ensures.polled c.in-Ok-check.ensures.frame in
    let listed : AreListed c.args.self.now.settings (g.B.Room.brought g.D.OfDb.db) c.args.self.now.reloads c.args.now c.check.new.pass.pass.seen c.in-Listed.due.items = rw c.in-Listed.is at c.in-Ok-check.ensures.checked in
    let begun = (goes_on _ _ _ (goes_after _ _ _ c.in-Ok.ensures.frame c.in-Ok-poll.ensures.frame) c.in-Ok-check.ensures.frame).searches in
    hold_fault c.in-Err-renew.fault c.args.self.now.settings c.args.now c.args.pass.now.pass.seen last _ _ _ _ _ _ (AreOver c.in-Ok.epoch last c.in-Listed.due.items) (loaded_before c.args.pass.now c.check.new.pass c.renew.new.pass begun)
    (listed_stale _ _ _ _ _ _ _ _ _ _ _ _ t listed c.renew.ensures.frame.before c.renew.ensures.frame.legal)
    (files_kept (NoneFailed g.F.FileSet) _ _ _ _ c.in-Ok.ensures.frame.files (c.renew.ensures.frame.files ∙ c.in-Ok-check.ensures.frame.files) c.in-Ok-poll.ensures.no_fault) c.in-Err-renew.ensures.fault

pub returns-in-Ok-renew-clause-ticked : goal.returns-in-Ok-renew-clause-ticked
returns-in-Ok-renew-clause-ticked g c = OnTrue_from c.args.self.now.settings.enabled _ (λ on.
    let t = ticking _ _ _ _ _ _ c.in-Ok.ensures.frame c.in-Ok.ensures.noted c.in-Ok-poll.ensures.frame c.in-Ok-poll.ensures.polled c.in-Ok-check.ensures.frame in
    let listed : AreListed c.args.self.now.settings (g.B.Room.brought g.D.OfDb.db) c.args.self.now.reloads c.args.now c.check.new.pass.pass.seen c.in-Listed.due.items = rw c.in-Listed.is at c.in-Ok-check.ensures.checked in
    let begun = (goes_on _ _ _ (goes_after _ _ _ c.in-Ok.ensures.frame c.in-Ok-poll.ensures.frame) c.in-Ok-check.ensures.frame).searches in
    listed_ticked _ _ _ _ _ _ _ _ _ _ _ _ _ _ _ _ _ t
    (files_kept (λ a b. IsLookedUp g.D.OfDb.db (g.F.FileSet.reads a) (g.F.FileSet.reads b) (g.F.FileSet.latest b) c.in-Ok-poll.polled.content) _ _ _ _ c.in-Ok.ensures.frame.files (c.renew.ensures.frame.files ∙ c.in-Ok-check.ensures.frame.files) c.in-Ok-poll.ensures.files) listed
    c.renew.ensures.frame.before c.renew.ensures.frame.legal c.in-Ok-renew.ensures.over c.in-Ok-renew.ensures.reloaded (again_before _ c.args.pass.now c.check.new.pass c.renew.new.pass begun c.in-Ok-renew.ensures.again))

-- ---- what it leaves if it gave up

pub returns-in-Err-poll-clause-refused : goal.returns-in-Err-poll-clause-refused
returns-in-Err-poll-clause-refused g c =
    refused_poll c.in-Err-poll.fault (pass_at c.args.pass.now) (pass_at c.poll.new.pass) _ _ _ _ (c.in-Err-poll.ensures.refused ∙ c.in-Ok.ensures.made) c.in-Err-poll.ensures.fault

pub returns-in-Err-check-clause-refused : goal.returns-in-Err-check-clause-refused
returns-in-Err-check-clause-refused g c =
    let begun = (goes_after _ _ _ c.in-Ok.ensures.frame c.in-Ok-poll.ensures.frame).searches in
    refused_hold c.in-Err-check.fault (pass_at c.args.pass.now) (pass_at c.poll.new.pass) (pass_at c.check.new.pass) (loaded_before c.args.pass.now c.poll.new.pass c.check.new.pass begun)
    (adds_after (pass_at c.args.pass.now) (pass_at c.note.new.pass) (pass_at c.poll.new.pass) c.in-Ok.ensures.made c.in-Ok-poll.ensures.made) c.in-Err-check.ensures.refused

pub returns-clause-refused : goal.returns-clause-refused
returns-clause-refused g c =
    let begun = (goes_on _ _ _ (goes_after _ _ _ c.in-Ok.ensures.frame c.in-Ok-poll.ensures.frame) c.in-Ok-check.ensures.frame).searches in
    let listed : Adds (ChecksBy (checked.Listed c.in-Listed.due)) (pass_at c.poll.new.pass) (pass_at c.check.new.pass) = rw c.in-Listed.is at c.in-Ok-check.ensures.made in
    refused_hold c.in-Err-renew.fault (pass_at c.args.pass.now) (pass_at c.check.new.pass) (pass_at c.renew.new.pass) (loaded_before c.args.pass.now c.check.new.pass c.renew.new.pass begun)
    (adds_before (pass_at c.args.pass.now) (pass_at c.poll.new.pass) (pass_at c.check.new.pass)
    (adds_after (pass_at c.args.pass.now) (pass_at c.note.new.pass) (pass_at c.poll.new.pass) c.in-Ok.ensures.made c.in-Ok-poll.ensures.made)
    (listed.made ∙ ap (λ (l : List Record). l ++ c.poll.new.pass.made) listed.holds)) c.in-Err-renew.ensures.refused
