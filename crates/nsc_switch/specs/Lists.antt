-- The service lists of a content, side by side.
use Rattle.std.specs.Prelude.{List}
use Rattle.nsc_model.specs.declared.kind.Db.{Db}
use Rattle.nsc_model.specs.declared.kind.Db.TheVariants as db
use Rattle.nsc_model.specs.declared.switch.SwitchStep.{SwitchStep}
use Rattle.nsc_model.specs.Content.{Content}
use Rattle.nsc_model.specs.Switches.{compat_list, service_list}

pub record Lists : Type 0 where
  pub passwd : List SwitchStep
  pub group : List SwitchStep
  pub hosts : List SwitchStep
  pub services : List SwitchStep
  pub passwd_compat : List SwitchStep
  pub group_compat : List SwitchStep

-- those of a content
abbrev pub lists_of : Content → Lists
lists_of content = record {
  passwd = service_list content db.Passwd;
  group = service_list content db.Group;
  hosts = service_list content db.Hosts;
  services = service_list content db.Services;
  passwd_compat = compat_list content db.Passwd;
  group_compat = compat_list content db.Group;
}

-- the one of a database
abbrev pub list_in : Lists → Db → List SwitchStep
list_in lists db.Passwd = lists.passwd
list_in lists db.Group = lists.group
list_in lists db.Hosts = lists.hosts
list_in lists db.Services = lists.services

-- the one that the compat lines of a database ask; hosts and services have no compat, so any will do for them
abbrev pub compat_list_in : Lists → Db → List SwitchStep
compat_list_in lists db.Group = lists.group_compat
compat_list_in lists _ = lists.passwd_compat
