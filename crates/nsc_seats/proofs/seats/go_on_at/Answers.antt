use Rattle.std.proofs.Common.{◌≡◌, ◌∙◌, suc, ◌+◌, Some, List, [], ◌∷◌, ◌++◌, length, get_or, ap, arith, subst, sym}
use Rattle.std.proofs.lemmas.List.{length-append}
use Rattle.std.proofs.lemmas.List.Sums.{sum_by-append}
use Rattle.nsc_model.specs.History.{IsPrefix}
use Rattle.nsc_rule.specs.Pass.{Pass}
use Rattle.nsc_writer.specs.Former.{Former}
use Rattle.nsc_seats.specs.Seats.{AreAt, AreSeats, first_of, searches_of, seated}
use Rattle.nsc_seats.specs.Tables.{tables}
use Rattle.nsc_seats.proofs.Along.{before_at, on_err, present_table, seats_grown}
use Rattle.nsc_seats.proofs.Chain.{table_next}
use Rattle.nsc_seats.proofs.seats.go_on_at.Goals as goal

pub returns-in_err-reserve-clause-fault : goal.returns-in_err-reserve-clause-fault
returns-in_err-reserve-clause-fault c =
    let table = c.index_mut-table.result.now in
    let there : table ≡ get_or c.args.left.now c.args.number table = c.index_mut-table.ensures.value ∙ ap (λ (l : List Former). get_or l c.args.number table) c.left.view_is in
    let before = subst (λ (x : Pass × Former). IsPrefix x.0.seen x.1.stock.seen) (λ i. (sym c.agree.ensures.same i, there i)) c.agree.ensures.before in
    on_err _ _ (before_at c.agree.new.self.seen c.args.left.now table c.args.number c.requires.within before)

pub returns-in_err-newer-clause-fault : goal.returns-in_err-newer-clause-fault
returns-in_err-newer-clause-fault c =
    let table = c.index_mut-table.result.now in
    let there : table ≡ get_or c.args.left.now c.args.number table = c.index_mut-table.ensures.value ∙ ap (λ (l : List Former). get_or l c.args.number table) c.left.view_is in
    let before = subst (λ (x : Pass × Former). IsPrefix x.0.seen x.1.stock.seen) (λ i. (sym (c.in_err-newer.ensures.stays ∙ c.agree.ensures.same) i, there i)) c.agree.ensures.before in
    on_err _ _ (before_at c.go_on.new.self.seen c.args.left.now table c.args.number c.requires.within before)

pub returns-clause-seats : goal.returns-clause-seats
returns-clause-seats c =
    let former = c.args.former.now.items in
    let present = c.args.present.now in
    let gone = c.go_on.new.self in
    let newer = c.in_ok-newer.newer in
    let is = c.in_ok-newer.ensures.former in
    let same = ap (λ (p : Pass). p.table) (is) ∙ ap (λ (p : Pass). p.table) c.agree.ensures.same in
    let on = ap (λ (p : Pass). p.retired) is ∙ (λ i. Some (sym c.in_ok-newer.ensures.table i)) in
    let whole = subst (λ h. IsPrefix h newer.seen) (sym (ap (λ (p : Pass). p.seen) is)) c.in_ok-newer.ensures.whole in
    let before = subst (λ (p : Pass). IsPrefix p.seen newer.seen) c.agree.ensures.same c.in_ok-newer.ensures.before in
    subst (λ (x : List Pass × Pass). AreSeats x.0 x.1)
    (λ i. (sym (c.push_reserved.ensures.items ∙ (λ j. c.reserve.ensures.items j ++ c.replace.ensures.value j ∷ [])) i, sym c.replace.ensures.after i))
    (seats_grown former present gone newer c.requires.seats same on whole before)

pub returns-clause-searches : goal.returns-clause-searches
returns-clause-searches c =
    let former = c.args.former.now.items in
    let count = λ (p : Pass). p.searching.searches in
    let items = ap searches_of (c.push_reserved.ensures.items ∙ (λ j. c.reserve.ensures.items j ++ c.replace.ensures.value j ∷ [])) ∙ sum_by-append count former (c.go_on.new.self ∷ []) in
    let gone = ap count c.in_ok-newer.ensures.former ∙ ap count c.agree.ensures.same in
    let none = ap count c.replace.ensures.after ∙ c.in_ok-newer.ensures.rested in
    omega arith

pub returns-clause-next : goal.returns-clause-next
returns-clause-next c =
    let former = c.args.former.now.items in
    let left = c.args.left.now in
    let n = c.args.number in
    let gone = c.go_on.new.self in
    let newer = c.in_ok-newer.newer in
    let table = c.index_mut-table.result.now in
    let there : table ≡ get_or left n table = c.index_mut-table.ensures.value ∙ ap (λ (l : List Former). get_or l n table) c.left.view_is in
    let grown : List Pass = former ++ gone ∷ [] in
    let at = c.requires.number in
    let long = length-append former (gone ∷ []) in
    let count : n + 1 ≡ length grown = omega arith in
    let next : suc n ≡ n + 1 = omega arith in
    let is : get_or (seated grown newer) (n + 1) c.args.writer.now.table ≡ get_or (tables left c.args.writer.now.table) (n + 1) c.args.writer.now.table =
    ap (λ m. get_or (seated grown newer) m c.args.writer.now.table) count
    ∙ present_table grown newer c.args.writer.now.table
    ∙ c.in_ok-newer.ensures.table
    ∙ ap (λ (f : Former). f.newer.table) (c.agree.ensures.left ∙ there)
    ∙ sym (table_next (first_of former c.args.present.now) c.args.writer.now.table left table n c.requires.chain c.requires.within)
    ∙ ap (λ m. get_or (tables left c.args.writer.now.table) m c.args.writer.now.table) next in
    subst (λ (x : List Pass × Pass). AreAt (n + 1) x.0 x.1 left c.args.writer.now.table)
    (λ i. (sym (c.push_reserved.ensures.items ∙ (λ j. c.reserve.ensures.items j ++ c.replace.ensures.value j ∷ [])) i, sym c.replace.ensures.after i)) is
