use Rattle.std.proofs.Common.{Some, [], ◌≡◌, filter, flat_map, ◌∙◌, ap}
use Rattle.std.proofs.lemmas.Result.{IfOk-weaker}
use Rattle.nsc_base.specs.Text.{lines_of}
use Rattle.nsc_model.specs.Compat.{sayings, scanned, scanned_file}
use Rattle.nsc_model.specs.Files.{file_of}
use Rattle.nsc_compat.specs.Accounts.{is_wanted, scan_of, wanted_names}
use Rattle.nsc_accounts.specs.Matters.{matters}
use Rattle.nsc_compat.proofs.Filtered.{entry_filtered}
use Rattle.nsc_compat.proofs.Walked.{lines_there}
use Rattle.nsc_compat.proofs.entries.entry.Goals as goal

pub returns : goal.returns
returns g c =
    let accounts = g.E.Account.accounts in
    let files = g.S.SubLookup.content c.args.sub.now in
    let asking = c.args.asking in
    let scan = scan_of accounts files asking in
    let text = c.in-Some.text.now in
    let test = matters accounts.entry_of (is_wanted accounts asking.wanted) (wanted_names asking.wanted) in
    let file : Some text ≡ file_of files accounts.file = c.in-Some.ensures.value ∙ ap (λ content. file_of content c.file.result) c.content.ensures ∙ ap (file_of files) c.file.ensures in
    let given = lines_there text (file_of files accounts.file) test c.args.lines.now file c.requires.lines in
    IfOk-weaker c.scan_lines.result _ _
    (λ looked is.
    is ∙ ap (λ lines. scanned scan (flat_map sayings lines) c.new.result) given ∙ ap (scanned scan (flat_map sayings (filter test (lines_of text)))) c.new.ensures
    ∙ entry_filtered accounts files (g.met.E.Account.gives files) asking.kind asking.key asking.wanted c.requires.name (lines_of text) [] ∙ ap (scanned_file scan) file)
    c.scan_lines.ensures
