-- What is made once of a content.
use Rattle.std.specs.Prelude.{◌≡◌}
use Rattle.std.specs.Arc.{arc_value}
use Rattle.nsc_model.specs.Files.{FilesFit}
use Rattle.nsc_model.specs.Switches.{text_of}
use Rattle.nsc_switch.specs.Lists.{lists_of}
use Rattle.nsc_index.specs.declared.indexed_content.IndexedContent.TheInside.{Inside}
use Rattle.nsc_index.specs.Groups.{IsGroupIndex}
use Rattle.nsc_index.specs.Hosts.{IsHostIndex}
use Rattle.nsc_index.specs.Services.{IsServiceIndex}
use Rattle.nsc_index.specs.Users.{IsUserIndex}

-- its service lists, and an index of each of its files; an absent file is like an empty one
pub record IsIndexedContent (p : Inside) : Type 0 where
  pub lists : p.lists ≡ lists_of (arc_value p.content)
  pub fits : FilesFit (arc_value p.content)
  pub users : IsUserIndex (text_of (arc_value p.content).passwd) p.users
  pub groups : IsGroupIndex (text_of (arc_value p.content).group) p.groups
  pub extra_users : IsUserIndex (text_of (arc_value p.content).extra_passwd) p.extra_users
  pub extra_groups : IsGroupIndex (text_of (arc_value p.content).extra_group) p.extra_groups
  pub hosts : IsHostIndex (text_of (arc_value p.content).hosts) p.hosts
  pub services : IsServiceIndex (text_of (arc_value p.content).services) p.services
