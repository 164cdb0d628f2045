use Rattle.std.proofs.Common.{◌+◌, ◌*◌, refl, arith}
use Rattle.nsc_reader.specs.declared.stage.Stage.TheVariants.{Version}
use Rattle.nsc_reader.proofs.Tellings.{goes_fixed, read_from}
use Rattle.nsc_reader.proofs.Replies.{number_read}
use Rattle.nsc_reader.proofs.reply.load_number.Goals as goal

pub returns : goal.returns
returns c =
    let p = c.args.pass.now in
    let new = c.fixed-number.new.self in
    let told = c.fixed-number.ensures in
    let read = read_from p new c.args.place 0 (c.args.place + 0) c.fixed-number.result told.pass c.requires.at.found.node.place_is refl told.fixed in
    record {
      goes = λ content. goes_fixed c.args.map.now.layout p new content (20000 * c.args.place + 9002) (Version c.args.place c.args.size c.fixed-number.result) told.pass (number_read c.args.map.now.layout c.args.place c.args.size new.searching.known c.fixed-number.result p told.known c.requires.at read) (omega arith);
    }
