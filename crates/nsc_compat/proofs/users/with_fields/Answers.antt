use Rattle.std.proofs.Common.{◌≡◌, ℕ, List, [], ◌∷◌, length, map, get_or, arith, rules}
use Rattle.nsc_base.specs.declared.span.Span.{Span}
use Rattle.nsc_base.specs.Text.{part}
use Rattle.nsc_model.specs.declared.row.Passwd.{Passwd}
use Rattle.nsc_model.specs.Compat.{own_or, replaced_user}
use Rattle.nsc_compat.proofs.users.with_fields.Goals as goal

with_seven : (text : List ℕ) (spans : List Span) (n1 n4 n5 n6 : Span) (p : Passwd) (passwd gecos dir shell : List ℕ) → length spans ≡ 7 → passwd ≡ own_or (part text (get_or spans 1 n1)) p.passwd → gecos ≡ own_or (part text (get_or spans 4 n4)) p.gecos
    → dir ≡ own_or (part text (get_or spans 5 n5)) p.dir → shell ≡ own_or (part text (get_or spans 6 n6)) p.shell → record p { passwd = passwd; gecos = gecos; dir = dir; shell = shell } ≡ replaced_user (map (part text) spans) p
with_seven text [] n1 n4 n5 n6 p w g d s seven e1 e2 e3 e4 = absurd (omega arith)
with_seven text (a ∷ []) n1 n4 n5 n6 p w g d s seven e1 e2 e3 e4 = absurd (omega arith)
with_seven text (a ∷ b ∷ []) n1 n4 n5 n6 p w g d s seven e1 e2 e3 e4 = absurd (omega arith)
with_seven text (a ∷ b ∷ c ∷ []) n1 n4 n5 n6 p w g d s seven e1 e2 e3 e4 = absurd (omega arith)
with_seven text (a ∷ b ∷ c ∷ e ∷ []) n1 n4 n5 n6 p w g d s seven e1 e2 e3 e4 = absurd (omega arith)
with_seven text (a ∷ b ∷ c ∷ e ∷ f ∷ []) n1 n4 n5 n6 p w g d s seven e1 e2 e3 e4 = absurd (omega arith)
with_seven text (a ∷ b ∷ c ∷ e ∷ f ∷ i ∷ []) n1 n4 n5 n6 p w g d s seven e1 e2 e3 e4 = absurd (omega arith)
with_seven text (a ∷ b ∷ c ∷ e ∷ f ∷ i ∷ j ∷ []) n1 n4 n5 n6 p w g d s seven e1 e2 e3 e4 = cc
with_seven text (a ∷ b ∷ c ∷ e ∷ f ∷ i ∷ j ∷ k ∷ more) n1 n4 n5 n6 p w g d s seven e1 e2 e3 e4 = absurd (omega arith)

pub returns : goal.returns
returns c =
    let seven : length c.args.fields ≡ 7 = search rules in
    with_seven c.args.all.now c.args.fields c.index-fields-1.result c.index-fields-4.result c.index-fields-5.result c.index-fields-6.result c.args.user c.in_ok-own_or.field-0 c.in_ok-own_or-2.field-0 c.in_ok-own_or-3.field-0 c.in_ok-own_or-4.field-0 seven c.in_ok-own_or.ensures c.in_ok-own_or-2.ensures c.in_ok-own_or-3.ensures c.in_ok-own_or-4.ensures
