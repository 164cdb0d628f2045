-- The reloads of a node count anew.
use Rattle.std.proofs.Common.{◌≡◌, ℕ, ◌+◌, Bool, true, false, cond, eqb, List, refl, sym, ap, subst, ◌∙◌, arith, get_or-set_other}
use Rattle.std.proofs.lemmas.Bool.{eqb-true}
use Rattle.nsc_words.specs.declared.layout.Layout.{Layout}
use Rattle.nsc_words.specs.declared.node.Placed.{Placed}
use Rattle.nsc_words.specs.Laid.{Among, Laid}
use Rattle.nsc_words.specs.Layout.{IsLayout, arena_start}
use Rattle.nsc_arena.specs.Changes.{changed_at, with_reloads}
use Rattle.nsc_arena.specs.Written.{IsSameHead}
use Rattle.nsc_arena.proofs.Changed.{reloads_kept, reloads_laid}
use Rattle.nsc_arena.proofs.Rows.{within}
use Rattle.nsc_rule.specs.declared.view.Plan.{Plan}
use Rattle.nsc_rule.specs.Pen.{Pen}
use Rattle.nsc_rule.specs.Strokes.{reloads_stored}

-- what the plan is then
pub record Anew (plan plan' : Plan) (layout : Layout) (nodes : List Placed) (at : ℕ) : Type 0 where
  pub laid : Laid plan'.words layout (changed_at at (with_reloads 0) nodes)
  pub nodes_are : plan'.nodes ≡ changed_at at (with_reloads 0) nodes
  pub head : IsSameHead plan.words plan'.words
  pub seen : plan'.seen ≡ plan.seen
  pub layout_is : plan'.layout ≡ plan.layout
  pub counted_is : plan'.counted ≡ plan.counted

-- a step is taken where they are not 0
pub anew : (pen pen' : Pen) (layout : Layout) (nodes : List Placed) (p : Placed) (at reloads : ℕ) → pen' ≡ cond (eqb reloads 0) pen (record pen { plan = reloads_stored at 0 pen.plan }) → IsLayout layout → Laid pen.plan.words layout nodes → nodes ≡ pen.plan.nodes → Among p nodes → p.place ≡ at → reloads ≡ p.node.reloads
    → (plan' : Plan) × (pen' ≡ record pen { plan = plan' }) × Anew pen.plan plan' layout nodes at
anew pen pen' layout nodes p at reloads is sizes laid back among place read = by (eqb reloads 0) refl is where
  by : (b : Bool) → eqb reloads 0 ≡ b → pen' ≡ cond b pen (record pen { plan = reloads_stored at 0 pen.plan }) → (plan' : Plan) × (pen' ≡ record pen { plan = plan' }) × Anew pen.plan plan' layout nodes at
  by true t e =
      let kept = reloads_kept layout nodes p at 0 laid.row among place (sym read ∙ eqb-true reloads 0 t) in
      (pen.plan, e, record { laid = subst (Laid pen.plan.words layout) (sym kept) laid; nodes_are = sym back ∙ sym kept; head = λ i low other. refl; seen = refl; layout_is = refl; counted_is = refl })
  by false t e =
      let new : Plan = reloads_stored at 0 pen.plan in
      let here = within (arena_start layout) nodes p laid.row among in (
        new,
        e,
        record {
          laid = reloads_laid pen.plan.words new.words layout nodes p at 0 sizes laid among place refl;
          nodes_are = ap (changed_at at (with_reloads 0)) (sym back);
          head = λ i low other. get_or-set_other pen.plan.words (at + 5) i 0 0 (let start = here.0 in omega arith);
          seen = refl;
          layout_is = refl;
          counted_is = refl;
        },
      )
