use Rattle.nsc_laws.proofs.OneReply.{one_reply}
use Rattle.nsc_laws.proofs.replies.bytes_spell_one_reply.Goals as goal

pub returns : goal.returns
returns c = one_reply
