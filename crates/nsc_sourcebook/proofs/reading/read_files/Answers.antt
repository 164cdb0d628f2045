use Rattle.std.proofs.Common.{rules, sym, ◌∙◌}
use Rattle.nsc_sourcebook.proofs.Each.{all_fetched, next_read, next_skipped}
use Rattle.nsc_sourcebook.proofs.reading.read_files.Goals as goal
use Rattle.nsc_sourcebook.proofs.reading.read_files.Goals.{then-is_read_by+in_ok-bytes, else-is_read_by}

pub loop-file-preserved : goal.loop-file-preserved
loop-file-preserved g c = elim c.if-is_read_by.branch [
  | then-is_read_by+in_ok-bytes w ↦ (let r = w.in_ok-bytes.ensures in let put = w.put.ensures in rw (w.files-is, w.content-is) (record {
    known = next_read _ c.loop-file-test.true r.others_read r.others_told put.others r.read put.file r.told (search rules) c.loop-file.invariant.known;
    only = put.only c.loop-file.invariant.only;
    no_fault = (r.no_fault.0 ∙ c.loop-file.invariant.no_fault.0, r.no_fault.1 ∙ c.loop-file.invariant.no_fault.1);
    held = w.read_file.ensures.held ∙ c.loop-file.invariant.held;
  }))
  | else-is_read_by w ↦ rw (w.files-is, w.content-is) (record {
    known = next_skipped _ c.loop-file-test.true (sym c.is_read_by.ensures ∙ w.if-is_read_by.false) c.loop-file.invariant.known;
    only = c.loop-file.invariant.only;
    no_fault = c.loop-file.invariant.no_fault;
    held = c.loop-file.invariant.held;
  })
]

pub returns-clause-fetched : goal.returns-clause-fetched
returns-clause-fetched g c = all_fetched g.F.FileSet _ _ _ _ _ c.loop-file-test.false c.loop-file.invariant.only c.loop-file.invariant.known
