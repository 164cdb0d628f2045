use Rattle.std.proofs.Common.{refl, rules, sym, ◌∙◌}
use Rattle.nsc_sourcebook.proofs.Each.{all_fetched, next_read, next_skipped}
use Rattle.nsc_sourcebook.proofs.comparing.are_still.Goals as goal
use Rattle.nsc_sourcebook.proofs.comparing.are_still.Goals.{then-is_read_by+else-not-is_still, else-is_read_by}

pub loop-file-preserved : goal.loop-file-preserved
loop-file-preserved g c = elim c.if-is_read_by.branch [
  | then-is_read_by+else-not-is_still w ↦ (let r = w.is_still.ensures in rw w.files-is (record {
    known = next_read _ c.loop-file-test.true r.other_reads r.other_latest (λ other not. refl) (search rules) (sym w.file.ensures.value) (search rules) (search rules) c.loop-file.invariant.known;
    no_fault = (r.faults ∙ c.loop-file.invariant.no_fault.0, r.file_faults ∙ c.loop-file.invariant.no_fault.1);
    held = r.held ∙ c.loop-file.invariant.held;
  }))
  | else-is_read_by w ↦ rw w.files-is (record {
    known = next_skipped _ c.loop-file-test.true (sym c.is_read_by.ensures ∙ w.if-is_read_by.false) c.loop-file.invariant.known;
    no_fault = c.loop-file.invariant.no_fault;
    held = c.loop-file.invariant.held;
  })
]

pub returns-clause-fetched : goal.returns-clause-fetched
returns-clause-fetched g c = all_fetched g.F.FileSet _ _ _ _ _ c.loop-file-test.false (search rules) c.loop-file.invariant.known
