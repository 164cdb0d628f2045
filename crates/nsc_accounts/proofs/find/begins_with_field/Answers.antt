use Rattle.std.proofs.Common.{◌+◌, length, take, drop, ◌∙◌, sym}
use Rattle.std.proofs.lemmas.Slice.Eq.{bytes_eq-Decides}
use Rattle.nsc_accounts.proofs.Begins.{begins, begins_front}
use Rattle.nsc_accounts.proofs.find.begins_with_field.Goals as goal

pub returns-then-bytes-field-eq58 : goal.returns-then-bytes-field-eq58
returns-then-bytes-field-eq58 c =
    let bytes = c.args.bytes.now in
    let field = c.args.field.now in
    let same = bytes_eq-Decides (take (length field) bytes) field in (
      λ is. (drop (length field + 1) bytes, begins bytes field c.if-bytes-field.false c.if-bytes-field-eq58.true (same.0 (sym c.eq.ensures ∙ is))),
      λ there. c.eq.ensures ∙ same.1 (begins_front bytes field there.0 there.1),
    )
