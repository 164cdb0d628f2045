-- Rows of replies that are lent by the bytes that spell them.
use Rattle.std.specs.Prelude.{◌≡◌, ℕ, List, ◌++◌, All, flat_map, length}
use Rattle.nsc_model.specs.declared.row.Passwd.{Passwd}
use Rattle.nsc_model.specs.declared.row.Group.{Group}
use Rattle.nsc_model.specs.declared.row.Host.{Host}
use Rattle.nsc_model.specs.declared.row.Service.{Service}
use Rattle.nsc_model.specs.Wire.{IsText, text}
use Rattle.nsc_client.specs.declared.lent.LentUser.{LentUser}
use Rattle.nsc_client.specs.declared.lent.LentGroup.{LentGroup}
use Rattle.nsc_client.specs.declared.lent.LentHost.{LentHost}
use Rattle.nsc_client.specs.declared.lent.LentService.{LentService}
use Rattle.nsc_client.specs.declared.lent.LentTexts.{LentTexts}

-- the user's entry
abbrev pub user_of : LentUser → Passwd
user_of u = record { name = u.name.now; passwd = u.passwd.now; uid = u.uid; gid = u.gid; gecos = u.gecos.now; dir = u.dir.now; shell = u.shell.now }

-- texts at the front of the bytes, each with its zero byte, and how many they are
pub record LendsTexts (lent : LentTexts) (texts : List (List ℕ)) : Type 0 where
  pub rest : List ℕ
  pub are_texts : All IsText texts
  pub spelled : lent.bytes.now ≡ flat_map text texts ++ rest
  pub counted : lent.count ≡ length texts

pub record LendsGroup (lent : LentGroup) (g : Group) : Type 0 where
  pub name_is : lent.name.now ≡ g.name
  pub passwd_is : lent.passwd.now ≡ g.passwd
  pub gid_is : lent.gid ≡ g.gid
  pub members : LendsTexts lent.members g.members

pub record LendsHost (lent : LentHost) (h : Host) : Type 0 where
  pub name_is : lent.name.now ≡ h.name
  pub family_is : lent.family ≡ h.family
  pub address_is : lent.address.now ≡ h.address
  pub aliases : LendsTexts lent.aliases h.aliases

pub record LendsService (lent : LentService) (s : Service) : Type 0 where
  pub name_is : lent.name.now ≡ s.name
  pub port_is : lent.port ≡ s.port
  pub proto_is : lent.proto.now ≡ s.proto
  pub aliases : LendsTexts lent.aliases s.aliases
