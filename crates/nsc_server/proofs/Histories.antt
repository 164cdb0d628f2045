-- What passes have seen.
use Rattle.std.proofs.Common.{◌++◌, List, ◌∙◌, ap, sym, append_assoc}
use Rattle.nsc_model.specs.declared.record.Record.{Record}
use Rattle.nsc_model.specs.declared.databases.Databases.{Databases}
use Rattle.nsc_model.specs.History.{IsPrefix}
use Rattle.nsc_model.specs.Stores.{PassAt}
use Rattle.nsc_server.specs.Passes.{SawMore}

-- what is a beginning of a beginning is one of the whole
prefix_on : (a b c : List Record) → IsPrefix a b → IsPrefix b c → IsPrefix a c
prefix_on a b c first second = (second.0 ++ first.0, second.1 ∙ ap (λ h. second.0 ++ h) first.1 ∙ sym (append_assoc second.0 first.0 a))

-- more was seen, and then more again
pub saw_on : (a b c : Databases PassAt) → SawMore a b → SawMore b c → SawMore a c
saw_on a b c first second = record {
  passwd_saw = prefix_on a.passwd.seen b.passwd.seen c.passwd.seen first.passwd_saw second.passwd_saw;
  group_saw = prefix_on a.group.seen b.group.seen c.group.seen first.group_saw second.group_saw;
  hosts_saw = prefix_on a.hosts.seen b.hosts.seen c.hosts.seen first.hosts_saw second.hosts_saw;
  services_saw = prefix_on a.services.seen b.services.seen c.services.seen first.services_saw second.services_saw;
}
