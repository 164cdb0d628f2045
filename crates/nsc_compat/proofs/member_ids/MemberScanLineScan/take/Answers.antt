use Rattle.std.proofs.Common.{◌∙◌, ap, map}
use Rattle.nsc_base.specs.Text.{fields_of, part}
use Rattle.nsc_model.specs.Answers.{id_scan}
use Rattle.nsc_model.specs.Compat.{ids_of_pairs}
use Rattle.nsc_accounts.specs.Once.{all_ids}
use Rattle.nsc_accounts.specs.NamedId.{pair_of}
use Rattle.nsc_compat.proofs.Ids.{name_excluded, pairs_added}
use Rattle.nsc_compat.proofs.member_ids.MemberScanLineScan.take.Goals as goal

pub returns-in_ok-add-in-Excludes : goal.returns-in_ok-add-in-Excludes
returns-in_ok-add-in-Excludes g c =
    let s = c.args.self.now in
    name_excluded (id_scan (g.S.SubLookup.content s.sub.now) s.user.now) (part c.args.text.now c.args.line) c.in-Excludes.name.now c.args.seen.now.excluded c.add.new.self c.args.seen.now.ids c.in-Excludes.ensures c.in_ok-add-in-Excludes.ensures

pub returns-in_ok-add_all-in-AsksAll : goal.returns-in_ok-add_all-in-AsksAll
returns-in_ok-add_all-in-AsksAll g c =
    let s = c.args.self.now in
    let pairs = ap (map pair_of) c.deref.ensures.value ∙ c.in_ok-groups-in-AsksAll.ensures in
    pairs_added (id_scan (g.S.SubLookup.content s.sub.now) s.user.now) (part c.args.text.now c.args.line) (fields_of 58 c.in-AsksAll.all.now) c.args.seen.now.excluded c.args.seen.now.ids c.add_all.new.ids c.in-AsksAll.ensures
    (c.in_ok-add_all-in-AsksAll.ensures ∙ ap (λ those. all_ids c.args.seen.now.ids (ids_of_pairs c.args.seen.now.excluded those)) pairs)
