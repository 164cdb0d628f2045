use Rattle.std.proofs.Common.{refl}
use Rattle.nsc_server.proofs.Reading.{gets_on}
use Rattle.nsc_server.proofs.request_buffer.RequestBuffer.read_on.Goals as goal

pub returns-clause-more : goal.returns-clause-more
returns-clause-more g c =
    gets_on _ _ _ _ c.self.inside.bytes.items c.fill.new.buf _ c.self.inside.have c.in_ok-got.got c.args.more c.self.view_is c.as_mut_slice-bytes.ensures.value
    c.as_mut_slice-bytes.ensures.len c.self.invariant c.requires c.fill.auto.buf c.in_ok-got.ensures.count c.in_ok-got.ensures.end c.in_ok-got.ensures.moved _ refl
