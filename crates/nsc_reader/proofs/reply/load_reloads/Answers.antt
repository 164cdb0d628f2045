use Rattle.nsc_reader.proofs.Replies.{comes_state}
use Rattle.nsc_reader.proofs.reply.load_reloads.Goals as goal

pub returns : goal.returns
returns c =
    let new = c.fixed.new.self in
    let told = c.fixed.ensures in
    record { comes = λ content. comes_state c.args.map.now.layout c.args.pass.now new content c.args.place told.pass told.known c.requires.at }
