use Rattle.std.proofs.Common.{◌≡◌, ℕ, Result, Ok, Err, sym, ◌∙◌, arith}
use Rattle.nsc_model.specs.declared.row.Reply.{Reply}
use Rattle.nsc_wire.proofs.ReplySpelled.{whole_again, whole_spells}
use Rattle.nsc_wire.proofs.decode.decode_reply.Goals as goal

abbrev found : Reply → Result Reply ℕ
found reply = Ok reply

abbrev fault : ℕ → Result Reply ℕ
fault left = Err left

never : (reply : Reply) (left : ℕ) → found reply ≡ fault left → ⊥
never reply left e = absurd cc

pub returns-in-Ok-clause-spelled : goal.returns-in-Ok-clause-spelled
returns-in-Ok-clause-spelled c = whole_spells c.args.kind c.args.bytes.now c.in-Ok.reply (λ i. omega (arith, c.type_inv.bytes i)) c.in-Ok.ensures

pub returns-in-Ok-clause-only : goal.returns-in-Ok-clause-only
returns-in-Ok-clause-only c = λ reply is. sym (whole_again c.args.kind c.args.bytes.now reply is) ∙ c.in-Ok.ensures

pub returns-in-Err-Left-clause-only : goal.returns-in-Err-Left-clause-only
returns-in-Err-Left-clause-only c = λ reply is.
    let broken = rw c.in-Err-Left.field-0-is at c.in-Err-Left.ensures in
    absurd (never reply c.in-Err-Left.left (sym (whole_again c.args.kind c.args.bytes.now reply is) ∙ broken))
