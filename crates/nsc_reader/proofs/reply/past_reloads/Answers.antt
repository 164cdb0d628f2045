use Rattle.std.proofs.Common.{sym, subst}
use Rattle.nsc_reader.specs.declared.stage.Stage.{Stage}
use Rattle.nsc_reader.specs.Stages.{Comes, left_at}
use Rattle.nsc_reader.proofs.reply.past_reloads.Goals as goal

pub returns-in-State : goal.returns-in-State
returns-in-State g c =
    let layout = c.args.map.now.layout in
    record { comes = subst (λ (s : Stage). Comes layout c.args.pass.now c.load_reloads.new.pass g.content (left_at layout s) s) (sym c.in-State.is) (c.load_reloads.ensures.comes g.content) }
