use Rattle.std.proofs.Common.{◌∙◌, refl, sym, subst}
use Rattle.nsc_model.specs.declared.kind.Kind.{Kind}
use Rattle.nsc_model.proofs.Beginnings.{prefix_all}
use Rattle.nsc_reader.specs.declared.stage.Progress.TheVariants.{New}
use Rattle.nsc_reader.specs.declared.walk.Walk.{Walk}
use Rattle.nsc_reader.specs.Stages.{Nears, Steps, asked}
use Rattle.nsc_reader.proofs.Steps.{SoFar, last_step, one_step, open_still}
use Rattle.nsc_reader.proofs.Runs.{nearer}
use Rattle.nsc_reader.proofs.searching.walk_on.Goals as goal

-- the first step answers
pub returns-in-Some-clause-answer : goal.returns-in-Some-clause-answer
returns-in-Some-clause-answer c =
    let layout = c.args.map.now.layout in
    let request = asked c.args.kind c.args.key.now in
    let p = c.args.pass.now in
    let new = c.step.new in
    let step = subst (λ (w : Walk). Steps layout (asked w.kind c.args.key.now) w.progress p new.pass new.out.content new.self.progress) c.new-walk.ensures c.step.ensures.steps in
    let none : SoFar layout request p p new.out.content New = record { table = refl; stands = tt; before = prefix_all p.seen; began = prefix_all p.seen; searches = refl } in
    last_step layout request p new.pass new.out.content new.self.progress c.in-Some.answer (one_step layout request p p new.pass new.out.content new.out.content New new.self.progress none step) (sym c.step.ensures.answer ∙ c.in-Some.is)

pub walk-preserved : goal.walk-preserved
walk-preserved c =
    let layout = c.args.map.now.layout in
    let request = asked c.args.kind c.args.key.now in
    let near = c.past_node-is_reloaded in
    let new = c.step-in-walk.new in
    let kind = near.ensures.kind ∙ c.walk.invariant.kind in
    let nears = subst (λ (k : Kind). Nears layout (asked k c.args.key.now) c.walk.walk.progress c.walk.pass near.new.pass near.new.out.content near.new.self.progress) c.walk.invariant.kind near.ensures.nears in
    let step = subst (λ (k : Kind). Steps layout (asked k c.args.key.now) near.new.self.progress near.new.pass new.pass new.out.content new.self.progress) kind c.step-in-walk.ensures.steps in
    let so = nearer layout request c.args.pass.now c.walk.pass near.new.pass c.walk.out.content near.new.out.content c.walk.walk.progress near.new.self.progress c.walk.invariant.so_far nears in
    record {
      kind = c.step-in-walk.ensures.kind ∙ kind;
      limit = c.step-in-walk.ensures.limit ∙ near.ensures.limit ∙ c.walk.invariant.limit;
      unanswered = open_still new.self.progress (sym c.step-in-walk.ensures.answer ∙ c.in_default-step.is);
      so_far = one_step layout request c.args.pass.now near.new.pass new.pass near.new.out.content new.out.content near.new.self.progress new.self.progress so step;
    }

-- a later one does
pub returns-in-Some-step-clause-before : goal.returns-in-Some-step-clause-before
returns-in-Some-step-clause-before c =
    let layout = c.args.map.now.layout in
    let request = asked c.args.kind c.args.key.now in
    let near = c.past_node-is_reloaded in
    let new = c.step-in-walk.new in
    let nears = subst (λ (k : Kind). Nears layout (asked k c.args.key.now) c.walk.walk.progress c.walk.pass near.new.pass near.new.out.content near.new.self.progress) c.walk.invariant.kind near.ensures.nears in
    let step = subst (λ (k : Kind). Steps layout (asked k c.args.key.now) near.new.self.progress near.new.pass new.pass new.out.content new.self.progress) (near.ensures.kind ∙ c.walk.invariant.kind) c.step-in-walk.ensures.steps in
    let near_so = nearer layout request c.args.pass.now c.walk.pass near.new.pass c.walk.out.content near.new.out.content c.walk.walk.progress near.new.self.progress c.walk.invariant.so_far nears in
    let so : SoFar layout request c.args.pass.now new.pass new.out.content new.self.progress = one_step layout request c.args.pass.now near.new.pass new.pass near.new.out.content new.out.content near.new.self.progress new.self.progress near_so step in
    so.before

pub returns-in-Some-step-clause-answer : goal.returns-in-Some-step-clause-answer
returns-in-Some-step-clause-answer c =
    let layout = c.args.map.now.layout in
    let request = asked c.args.kind c.args.key.now in
    let near = c.past_node-is_reloaded in
    let new = c.step-in-walk.new in
    let nears = subst (λ (k : Kind). Nears layout (asked k c.args.key.now) c.walk.walk.progress c.walk.pass near.new.pass near.new.out.content near.new.self.progress) c.walk.invariant.kind near.ensures.nears in
    let step = subst (λ (k : Kind). Steps layout (asked k c.args.key.now) near.new.self.progress near.new.pass new.pass new.out.content new.self.progress) (near.ensures.kind ∙ c.walk.invariant.kind) c.step-in-walk.ensures.steps in
    let near_so = nearer layout request c.args.pass.now c.walk.pass near.new.pass c.walk.out.content near.new.out.content c.walk.walk.progress near.new.self.progress c.walk.invariant.so_far nears in
    let so : SoFar layout request c.args.pass.now new.pass new.out.content new.self.progress = one_step layout request c.args.pass.now near.new.pass new.pass near.new.out.content new.out.content near.new.self.progress new.self.progress near_so step in
    last_step layout request c.args.pass.now new.pass new.out.content new.self.progress c.in-Some-step.answer so (sym c.step-in-walk.ensures.answer ∙ c.in-Some-step.is)
