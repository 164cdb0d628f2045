use Rattle.std.proofs.Common.{◌≡◌, ◌∙◌, suc, ◌+◌, ◌<◌, List, [], ◌∷◌, length, get_or, set, take, ap, arith, rules, sym}
use Rattle.std.proofs.Math.Seq.{take-suc}
use Rattle.std.proofs.lemmas.List.{set-get_or}
use Rattle.std.proofs.lemmas.List.Sums.{sum_by-append}
use Rattle.nsc_rule.specs.Pass.{Pass}
use Rattle.nsc_seats.specs.Seats.{searches_of, seated}
use Rattle.nsc_seats.proofs.Along.{seat_next}
use Rattle.nsc_seats.proofs.seats.absorb.Goals as goal

pub loop-number-preserved : goal.loop-number-preserved
loop-number-preserved c =
    let n = c.loop-number.number in
    let was = c.loop-number.invariant in
    let others = c.args.others.now.items in
    let other = c.index_mut.result.now in
    let d = c.args.present.now.table in
    let there : other ≡ get_or others n other = c.index_mut.ensures.value ∙ ap (λ (l : List Pass). get_or l n other) was.same in
    let low : n < length others = search rules in
    let next : suc n ≡ n + 1 = omega arith in
    let on = ap (λ (p : Pass). p.retired) there ∙ seat_next others c.args.other.now other d n c.requires.others low in
    let one = c.absorb_at.ensures.next (get_or (seated others c.args.other.now) (suc n) d) on in
    let taken = ap searches_of (take-suc others n other low) ∙ sum_by-append (λ (p : Pass). p.searching.searches) (take n others) (get_or others n other ∷ []) in
    let counted = ap (λ (p : Pass). p.searching.searches) there in
    let more = ap (λ m. searches_of (take m others)) next in
    let before = was.searches in
    let now = c.absorb_at.ensures.searches in
    record {
      same = ap (λ (q : Pass). set c.loop-number.others.items n q) (c.absorb_at.ensures.same ∙ c.index_mut.ensures.value) ∙ set-get_or c.loop-number.others.items n other ∙ was.same;
      seats = c.absorb_at.ensures.seats;
      tables = c.absorb_at.ensures.tables ∙ was.tables;
      count = c.absorb_at.ensures.count ∙ was.count;
      searches = omega arith;
      here = sym (ap (λ l. get_or l (n + 1) d) was.tables) ∙ sym one ∙ ap (λ m. get_or (seated others c.args.other.now) m d) next;
    }
