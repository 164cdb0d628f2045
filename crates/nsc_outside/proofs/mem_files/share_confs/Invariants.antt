use Rattle.std.proofs.Common.{◌≡◌, take}
use Rattle.nsc_outside.proofs.mem_files.share_confs.Given as goal

abbrev pub invariant-loop-conf : goal.invariant-loop-conf
invariant-loop-conf l = l.shared.items ≡ take l.conf-index l.confs
