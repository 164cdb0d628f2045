use Rattle.std.proofs.Common.{◌≡◌, ℕ, List, [], flat_map, map, true, Some, ◌∙◌, ap}
use Rattle.std.proofs.lemmas.Result.{IfOk-weaker}
use Rattle.nsc_base.specs.Text.{lines_of, part}
use Rattle.nsc_model.specs.declared.kind.FileId.TheVariants as file
use Rattle.nsc_model.specs.Answers.{found_or_unavail, gathered_file, id_scan}
use Rattle.nsc_model.specs.Compat.{gathered, sayings}
use Rattle.nsc_model.specs.Files.{file_of}
use Rattle.nsc_model.specs.Groups.{group_of_line, has_member}
use Rattle.nsc_accounts.specs.Matters.{matters}
use Rattle.nsc_compat.proofs.Filtered.{ids_filtered}
use Rattle.nsc_compat.proofs.Ids.{all_gathered}
use Rattle.nsc_compat.proofs.Walked.{lines_there}
use Rattle.nsc_compat.proofs.member_ids.ids_of_user.Goals as goal

pub returns : goal.returns
returns g c =
    let files = g.S.SubLookup.content c.args.sub.now in
    let user = c.args.user.now in
    let scan = id_scan files user in
    let text = c.in-Some.text.now in
    let said = flat_map sayings (map (part text) c.args.lines.now) in
    let file : Some text ≡ files.group = c.in-Some.ensures.value ∙ ap (λ content. file_of content file.Group) c.content.ensures in
    let given = lines_there text files.group (matters group_of_line (has_member user) (λ name. true)) c.args.lines.now file c.requires in
    IfOk-weaker c.scan_lines.result _ _
    (λ looked is.
    is ∙ all_gathered scan said c.new-2.result c.new.result c.new-2.ensures c.new.ensures
    ∙ ap (λ (ls : List (List ℕ)). found_or_unavail (gathered scan (flat_map sayings ls) [])) given ∙ ap found_or_unavail (ids_filtered scan (lines_of text) []) ∙ ap (gathered_file scan) file)
    c.scan_lines.ensures
