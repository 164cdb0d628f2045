-- The lines of nscd.conf(5), and the settings that they give.
use Rattle.std.specs.Prelude.{ℕ, ◌+◌, Bool, true, false, ◌&&◌, nat_lt, nat_le, if◌then◌else◌, List, [], ◌∷◌, length, drop, codes, Option, Some, None, Result, Ok, Err, option_and_then}
use Rattle.std.specs.List.{list_all}
use Rattle.std.specs.Option.{option_map, option_or}
use Rattle.std.specs.Char.{is_ascii_hexdigit}
use Rattle.std.specs.Str.{bytes_eq, str_eq_ignore_ascii_case}
use Rattle.std.specs.Str.Parse.{digits_value}
use Rattle.nsc_base.specs.Text.{before_remark, is_filled, lines_of, words_of}
use Rattle.nsc_base.specs.Decimal.{decimal_of}
use Rattle.nsc_model.specs.declared.kind.Db.TheVariants as db
use Rattle.nsc_model.specs.declared.conf.Conf.{Conf}
use Rattle.nsc_model.specs.declared.conf.DbConf.{DbConf}
use Rattle.nsc_model.specs.Settings.{default_settings}
use Rattle.nsc_daemonconf.specs.declared.attributes.Attribute.{Attribute}
use Rattle.nsc_daemonconf.specs.declared.attributes.Attribute.TheVariants.{OfDatabase, OfDaemon}
use Rattle.nsc_daemonconf.specs.declared.attributes.DbAttribute.{DbAttribute}
use Rattle.nsc_daemonconf.specs.declared.attributes.DbAttribute.TheVariants as database
use Rattle.nsc_daemonconf.specs.declared.attributes.DaemonAttribute.{DaemonAttribute}
use Rattle.nsc_daemonconf.specs.declared.attributes.DaemonAttribute.TheVariants as daemon
use Rattle.nsc_daemonconf.specs.declared.attributes.ServiceName.{ServiceName}
use Rattle.nsc_daemonconf.specs.declared.attributes.ServiceName.TheVariants.{Database, Netgroup}
use Rattle.nsc_model.specs.declared.exit.ConfFault.{ConfFault}
use Rattle.nsc_model.specs.declared.exit.ConfFault.TheVariants.{UnknownAttribute, BadLine, BadValue}

-- ---- values

abbrev pub yes_or_no : List ℕ → Option Bool
yes_or_no word = if bytes_eq word (codes "yes") then Some true else (if bytes_eq word (codes "no") then Some false else None)

-- a suggested size is 1 to 65,536
abbrev pub size_in : ℕ → Option ℕ
size_in n = if nat_lt 0 n && nat_le n 65536 then Some n else None

abbrev pub size_of : List ℕ → Option ℕ
size_of word = option_and_then size_in (decimal_of word)

-- `0x` and one to eight hexadecimal digits, in either case
abbrev pub is_hexadecimal : List ℕ → Bool
is_hexadecimal (z ∷ x ∷ digits) = bytes_eq (z ∷ x ∷ []) (codes "0x") && is_filled digits && nat_lt (length digits) 9 && list_all is_ascii_hexdigit digits
is_hexadecimal _ = false

abbrev pub hexadecimal_of : List ℕ → Option ℕ
hexadecimal_of word = if is_hexadecimal word then Some (digits_value 16 (drop 2 word)) else None

-- 255 and more reloads are as many as one likes
abbrev pub limit_in : ℕ → Option ℕ
limit_in n = if nat_lt n 255 then Some n else None

-- a limit of reloads, where the word gives one; it may be that there is none
abbrev pub reloads_of : List ℕ → Option (Option ℕ)
reloads_of word =
    if str_eq_ignore_ascii_case word (codes "unlimited") then Some None else
    option_map limit_in (option_or (decimal_of word) (hexadecimal_of word))

-- ---- attributes

-- the attribute of a name
abbrev pub attribute_named : List ℕ → Option Attribute
attribute_named word =
    if bytes_eq word (codes "enable-cache") then Some (OfDatabase database.EnableCache) else (
    if bytes_eq word (codes "positive-time-to-live") then Some (OfDatabase database.PositiveTimeToLive) else (
    if bytes_eq word (codes "negative-time-to-live") then Some (OfDatabase database.NegativeTimeToLive) else (
    if bytes_eq word (codes "suggested-size") then Some (OfDatabase database.SuggestedSize) else (
    if bytes_eq word (codes "check-files") then Some (OfDatabase database.CheckFiles) else (
    if bytes_eq word (codes "persistent") then Some (OfDatabase database.Persistent) else (
    if bytes_eq word (codes "shared") then Some (OfDatabase database.Shared) else (
    if bytes_eq word (codes "max-db-size") then Some (OfDatabase database.MaxDbSize) else (
    if bytes_eq word (codes "auto-propagate") then Some (OfDatabase database.AutoPropagate) else (
    if bytes_eq word (codes "threads") then Some (OfDaemon daemon.Threads) else (
    if bytes_eq word (codes "reload-count") then Some (OfDaemon daemon.ReloadCount) else (
    if bytes_eq word (codes "max-threads") then Some (OfDaemon daemon.MaxThreads) else (
    if bytes_eq word (codes "debug-level") then Some (OfDaemon daemon.DebugLevel) else (
    if bytes_eq word (codes "restart-interval") then Some (OfDaemon daemon.RestartInterval) else (
    if bytes_eq word (codes "paranoia") then Some (OfDaemon daemon.Paranoia) else (
    if bytes_eq word (codes "logfile") then Some (OfDaemon daemon.Logfile) else (
    if bytes_eq word (codes "server-user") then Some (OfDaemon daemon.ServerUser) else (
    if bytes_eq word (codes "stat-user") then Some (OfDaemon daemon.StatUser) else None)))))))))))))))))

-- no setting changes
abbrev pub no_effect : {A : Type 0} → Option A → Option (Conf → Conf)
no_effect value = option_map (λ v s. s) value

-- what a value of an attribute of one database does
abbrev pub database_sets : DbAttribute → List ℕ → Option (DbConf → DbConf)
database_sets database.EnableCache w = option_map (λ b s. record s { enabled = b }) (yes_or_no w)
database_sets database.PositiveTimeToLive w = option_map (λ n s. record s { positive = n }) (decimal_of w)
database_sets database.NegativeTimeToLive w = option_map (λ n s. record s { negative = n }) (decimal_of w)
database_sets database.SuggestedSize w = option_map (λ n s. record s { size = n }) (size_of w)
database_sets database.CheckFiles w = option_map (λ b s. record s { check_files = b }) (yes_or_no w)
database_sets database.Persistent w = option_map (λ b s. record s { persistent = b }) (yes_or_no w)
database_sets database.Shared w = option_map (λ b s. record s { shared = b }) (yes_or_no w)
database_sets database.MaxDbSize w = option_map (λ n s. record s { max_size = n }) (decimal_of w)
database_sets database.AutoPropagate w = option_map (λ b s. record s { propagate = b }) (yes_or_no w)

-- what a value of an attribute of the daemon does
abbrev pub daemon_sets : DaemonAttribute → List ℕ → Option (Conf → Conf)
daemon_sets daemon.Threads w = option_map (λ n s. record s { threads = n }) (decimal_of w)
daemon_sets daemon.ReloadCount w = option_map (λ r s. record s { reloads = r }) (reloads_of w)
daemon_sets daemon.MaxThreads w = no_effect (decimal_of w)
daemon_sets daemon.DebugLevel w = no_effect (decimal_of w)
daemon_sets daemon.RestartInterval w = no_effect (decimal_of w)
daemon_sets daemon.Paranoia w = no_effect (yes_or_no w)
daemon_sets daemon.Logfile w = no_effect (Some w)
daemon_sets daemon.ServerUser w = no_effect (Some w)
daemon_sets daemon.StatUser w = no_effect (Some w)

-- the service of a name
abbrev pub service_by_name : List ℕ → Option ServiceName
service_by_name word =
    if bytes_eq word (codes "passwd") then Some (Database db.Passwd) else (
    if bytes_eq word (codes "group") then Some (Database db.Group) else (
    if bytes_eq word (codes "hosts") then Some (Database db.Hosts) else (
    if bytes_eq word (codes "services") then Some (Database db.Services) else (
    if bytes_eq word (codes "netgroup") then Some Netgroup else None))))

-- the settings with those of one database changed so; netgroups are not cached, and a line about them changes nothing
abbrev pub with_service : ServiceName → (DbConf → DbConf) → Conf → Conf
with_service Netgroup change s = s
with_service (Database db.Passwd) change s = record s { passwd = change s.passwd }
with_service (Database db.Group) change s = record s { group = change s.group }
with_service (Database db.Hosts) change s = record s { hosts = change s.hosts }
with_service (Database db.Services) change s = record s { services = change s.services }

-- ---- lines

-- why a line is refused, by its number: an attribute that is none; a number of words, or a service, that the attribute does
-- not have; or a value that is none of the attribute's
abbrev pub LineFault : Type 0
LineFault = ℕ → ConfFault

abbrev pub or_fault : {A : Type 0} → LineFault → Option A → Result A LineFault
or_fault fault None = Err fault
or_fault fault (Some x) = Ok x

infixl 10 ◌>>=◌
abbrev ◌>>=◌ : {A B E : Type 0} → Result A E → (A → Result B E) → Result B E
(Err e) >>= f = Err e
(Ok x) >>= f = f x

-- what an attribute with these words after it does
abbrev pub attribute_does : Attribute → List (List ℕ) → Result (Conf → Conf) LineFault
attribute_does (OfDatabase attribute) (service ∷ value ∷ []) = do
  which ← or_fault BadLine (service_by_name service)
  change ← or_fault BadValue (database_sets attribute value)
  Ok (with_service which change)
attribute_does (OfDaemon attribute) (value ∷ []) = or_fault BadValue (daemon_sets attribute value)
attribute_does _ _ = Err BadLine

-- what the words of a line do; with no word a line does nothing
abbrev pub words_do : List (List ℕ) → Result (Conf → Conf) LineFault
words_do [] = Ok (λ s. s)
words_do (word ∷ words) = do
  attribute ← or_fault UnknownAttribute (attribute_named word)
  attribute_does attribute words

abbrev pub line_does : List ℕ → Result (Conf → Conf) LineFault
line_does line = words_do (words_of (before_remark line))

-- ---- the whole text

-- one line after settings, and then the lines after it
abbrev pub then_lines : ℕ → Conf → Result (Conf → Conf) LineFault → (Conf → Result Conf ConfFault) → Result Conf ConfFault
then_lines n s (Err fault) next = Err (fault n)
then_lines n s (Ok change) next = next (change s)

-- the settings with what one line does, or the fault of that line
abbrev pub after_line : ℕ → Conf → Result (Conf → Conf) LineFault → Result Conf ConfFault
after_line n s does = then_lines n s does (λ later. Ok later)

-- each line in its order, the first of them with this number: a later one replaces an earlier one, and the first that is
-- refused decides
abbrev pub conf_from : ℕ → Conf → List (List ℕ) → Result Conf ConfFault
conf_from n s [] = Ok s
conf_from n s (line ∷ lines) = then_lines n s (line_does line) (λ later. conf_from (n + 1) later lines)

-- the settings that a text gives
abbrev pub conf_of : List ℕ → Result Conf ConfFault
conf_of text = conf_from 1 default_settings (lines_of text)
