use Rattle.std.proofs.Common.{◌≡◌, ◌<◌, ap, arith}
use Rattle.nsc_workload.specs.Runs.{replies_from}
use Rattle.nsc_workload.proofs.Joined.{ends, goes_on}
use Rattle.nsc_workload.proofs.workers.gathered.Goals as goal

pub loop-share-preserved : goal.loop-share-preserved
loop-share-preserved g c =
    let number = g.W.Work.number c.args.work.now in
    let workers = g.W.Work.workers c.args.work.now in
    let below : c.loop-share.share-index < workers = omega (arith, c.loop-share-test.true, c.requires.len) in
    let some : 0 < workers = omega (arith, below) in
    rw (c.in_ok-put_copies-in-Some.ensures, c.loop-share.invariant, c.as_slice.ensures) (goes_on number workers c.loop-share.share-index c.args.shares.now c.share-item.result c.in-Some.texts some below c.requires.each c.share-item.is c.in-Some.is)

pub returns : goal.returns
returns g c =
    let number = g.W.Work.number c.args.work.now in
    let workers = g.W.Work.workers c.args.work.now in
    let last : c.loop-share.share-index ≡ workers = omega (arith, c.loop-share-test.false, c.loop-share.auto.share-index-end, c.requires.len) in
    let some : 0 < workers = omega (arith, c.count-count.ensures.count, c.count-count.ensures.some) in
    rw (c.loop-share.invariant, last) (ap (λ count. replies_from number 0 count) (ends number workers some))
