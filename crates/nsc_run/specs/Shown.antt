-- What is told of a form that was read.
use Rattle.std.specs.Prelude.{ℕ, ◌<◌, ◌≤◌, List, option_map}
use Rattle.nsc_run.specs.Forms.{DaemonOptions, Form}
use Rattle.nsc_run.specs.Forms as forms
use Rattle.nsc_run.specs.Commands.{conf_path}
use Rattle.nsc_run.specs.declared.form.Form as given
use Rattle.nsc_run.specs.declared.form.Form.TheVariants as form
use Rattle.nsc_run.specs.declared.form.DaemonOptions as service

abbrev pub service_shown : service.DaemonOptions → DaemonOptions
service_shown s = record {
  config = option_map (λ p. p.now) s.config;
  workers = s.workers;
  etc = option_map (λ p. p.now) s.etc;
  run_dir = s.run_dir.now;
  gate = option_map (λ p. p.now) s.gate;
  scopes = s.scopes;
}

abbrev pub shown : given.Form → Form
shown (form.Replay config) = forms.Replay (option_map (λ p. p.now) config)
shown (form.Ask asked run_dir) = forms.Ask asked run_dir.now
shown (form.Workload number workers) = forms.Workload number workers
shown (form.Daemon s) = forms.Daemon (service_shown s)

-- the path of a daemon's configuration file
abbrev pub conf_path_for : service.DaemonOptions → List ℕ
conf_path_for s = conf_path (option_map (λ p. p.now) s.etc) (option_map (λ p. p.now) s.config)

-- a workload that can be run: of a number of 1 to 1,000, by 1 to 64 workers
abbrev pub CanRun : given.Form → Type 0
CanRun (form.Replay config) = Unit {0}
CanRun (form.Ask asked run_dir) = Unit {0}
CanRun (form.Workload number workers) = (0 < number) × (number ≤ 1000) × (0 < workers) × (workers ≤ 64)
CanRun (form.Daemon s) = Unit {0}
