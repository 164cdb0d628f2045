use Rattle.std.proofs.Common.{ap, ◌∙◌}
use Rattle.std.proofs.lemmas.Result.{IfOk-weaker}
use Rattle.nsc_model.specs.Content.{Content}
use Rattle.nsc_model.specs.Switches.{text_of}
use Rattle.nsc_index.proofs.Sought.{in_file}
use Rattle.nsc_index.proofs.finder.IndexedContentFinder.compat_lines.Goals as goal

pub returns-in-User : goal.returns-in-User
returns-in-User c =
    let text = c.text_in-passwd.ensures.text ∙ ap (λ (files : Content). text_of files.passwd) c.content.ensures in
    IfOk-weaker c.lines_of_name.result _ _ (λ lines are. in_file c.args.self.now c.args.sought _ c.text_in-passwd.result.now lines.items c.in-User.is text are) c.lines_of_name.ensures

pub returns-in-UserId : goal.returns-in-UserId
returns-in-UserId c =
    let text = c.text_in-passwd.ensures.text ∙ ap (λ (files : Content). text_of files.passwd) c.content.ensures in
    IfOk-weaker c.lines_of_id.result _ _ (λ lines are. in_file c.args.self.now c.args.sought _ c.text_in-passwd.result.now lines.items c.in-UserId.is text are) c.lines_of_id.ensures

pub returns-in-Group : goal.returns-in-Group
returns-in-Group c =
    let text = c.text_in-group.ensures.text ∙ ap (λ (files : Content). text_of files.group) c.content-2.ensures in
    IfOk-weaker c.lines_of_name-in-Group.result _ _ (λ lines are. in_file c.args.self.now c.args.sought _ c.text_in-group.result.now lines.items c.in-Group.is text are) c.lines_of_name-in-Group.ensures

pub returns-in-GroupId : goal.returns-in-GroupId
returns-in-GroupId c =
    let text = c.text_in-group.ensures.text ∙ ap (λ (files : Content). text_of files.group) c.content-2.ensures in
    IfOk-weaker c.lines_of_id-in-GroupId.result _ _ (λ lines are. in_file c.args.self.now c.args.sought _ c.text_in-group.result.now lines.items c.in-GroupId.is text are) c.lines_of_id-in-GroupId.ensures

pub returns-in-Member : goal.returns-in-Member
returns-in-Member c =
    let text = c.text_in-group.ensures.text ∙ ap (λ (files : Content). text_of files.group) c.content-2.ensures in
    IfOk-weaker c.lines_of_member.result _ _ (λ lines are. in_file c.args.self.now c.args.sought _ c.text_in-group.result.now lines.items c.in-Member.is text are) c.lines_of_member.ensures
