use Rattle.std.proofs.Common.{rules, codes}
use Rattle.std.proofs.lemmas.Result.{IfOk-weaker}
use Rattle.nsc_run.specs.Forms.{flag, lettered, valued}
use Rattle.nsc_run.proofs.Added.{added}
use Rattle.nsc_run.proofs.words.service.Goals as goal

pub returns : goal.returns
returns c =
    let config = added _ _ _ _ (lettered 102 (valued (codes "config-file"))) c.in_ok-arg.ensures (search rules) c.in_ok-errands.ensures (search rules) in
    let foreground = added _ _ _ _ (lettered 70 (flag (codes "foreground"))) c.in_ok-arg-2.ensures (search rules) config (search rules) in
    let threads = added _ _ _ _ (lettered 116 (valued (codes "nthreads"))) c.in_ok-arg-3.ensures (search rules) foreground (search rules) in
    let etc = added _ _ _ _ (valued (codes "etc")) c.in_ok-arg-4.ensures (search rules) threads (search rules) in
    let run_dir = added _ _ _ _ (valued (codes "run-dir")) c.in_ok-arg-5.ensures (search rules) etc (search rules) in
    IfOk-weaker c.arg-6.result _ _ (λ r adds. added _ _ r _ (valued (codes "gate")) adds (search rules) run_dir (search rules)) c.arg-6.ensures
