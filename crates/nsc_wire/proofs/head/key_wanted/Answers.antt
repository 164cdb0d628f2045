use Rattle.std.proofs.Common.{◌≡◌, ℕ, List, length, arith, sym, ap, ◌∙◌, subst}
use Rattle.nsc_wire.specs.Request.{Wants, asked_by}
use Rattle.nsc_wire.proofs.Heads.{short_wire, wants_key, wants_none}
use Rattle.nsc_wire.proofs.head.key_wanted.Goals as goal

pub returns-in-Short : goal.returns-in-Short
returns-in-Short c =
    let head : List ℕ = c.args.head.now in
    let twelve : length head ≡ 12 = omega (arith, c.requires, c.if-head-lt-HEAD.false) in
    subst (λ (n : ℕ). Wants head n) (sym c.u32_at.ensures) (wants_key head c.in-Short.have twelve (sym c.read_request.ensures.asked ∙ ap (asked_by head) c.in-Short.is))

pub returns-in_default : goal.returns-in_default
returns-in_default c = wants_none c.args.head.now (λ have is.
    let s = short_wire c.args.head.now c.read_request.result have (c.read_request.ensures.asked ∙ is) in
    c.in_default.not-Short s.0 s.1)
