use Rattle.nsc_workload.proofs.run.lines.Given as goal

-- the content that was just made
abbrev pub ghosts-lines_over : goal.ghosts-lines_over
ghosts-lines_over g a = record { files = a.content }
