use Rattle.std.proofs.Common.{◌&&◌, refl, sym, ◌∙◌, ap}
use Rattle.std.specs.Str.{bytes_eq}
use Rattle.nsc_base.specs.Text.{is_filled}
use Rattle.nsc_accounts.proofs.Pieces.{member_from, member_here, member_later, members_left, no_member}
use Rattle.nsc_accounts.proofs.members.has_member.Goals as goal

pub loop-member-init : goal.loop-member-init
loop-member-init c = ap (λ n. member_from c.args.user.now c.args.text.now n c.args.members.to) c.from-from.ensures.place ∙ members_left c.args.user.now c.args.text.now c.args.members c.from-from.ensures.ordered

pub returns-then-names_user : goal.returns-then-names_user
returns-then-names_user c = sym (member_here c.args.user.now c.args.text.now c.args.members c.loop-member.from c.in-Some.member c.in-Some.ensures.field (ap (λ piece. is_filled piece && bytes_eq piece c.args.user.now) (sym c.of.ensures.bytes) ∙ sym c.if-names_user.ensures)) ∙ c.loop-member.invariant

pub loop-member-preserved : goal.loop-member-preserved
loop-member-preserved c = member_later c.args.user.now c.args.text.now c.args.members c.loop-member.from c.in-Some.member c.in-Some.ensures.field (ap (λ piece. is_filled piece && bytes_eq piece c.args.user.now) (sym c.of.ensures.bytes) ∙ sym c.if-names_user.ensures) ∙ c.loop-member.invariant

pub returns : goal.returns
returns c = sym (no_member c.args.user.now c.args.text.now c.loop-member.from c.args.members.to (c.in_default.ensures.none.0 refl)) ∙ c.loop-member.invariant
