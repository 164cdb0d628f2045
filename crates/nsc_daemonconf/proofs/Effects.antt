-- What a value of an attribute of the daemon does to the settings.
use Rattle.std.proofs.Common.{◌≡◌, ℕ, List, [], ◌∷◌, Option, Some, None, refl, sym, ◌∙◌, ap}
use Rattle.std.specs.Option.{ok_or, option_map}
use Rattle.nsc_model.specs.declared.conf.Conf.{Conf}
use Rattle.nsc_model.specs.declared.exit.ConfFault.TheVariants.{BadValue}
use Rattle.nsc_daemonconf.specs.declared.attributes.Attribute.TheVariants.{OfDaemon}
use Rattle.nsc_daemonconf.specs.declared.attributes.DaemonAttribute.{DaemonAttribute}
use Rattle.nsc_daemonconf.specs.Lines.{after_line, attribute_does, daemon_sets, or_fault}

changed_told : (n : ℕ) (s : Conf) (changed : Option Conf) (value : Option (Conf → Conf)) → changed ≡ option_map (λ change. change s) value → ok_or changed (BadValue n) ≡ after_line n s (or_fault BadValue value)
changed_told n s None None is = refl
changed_told n s None (Some change) is = cc
changed_told n s (Some conf) None is = cc
changed_told n s (Some conf) (Some change) is = cc

-- the same, where the value is the only word
pub daemon_told : (n : ℕ) (s : Conf) (words : List (List ℕ)) (value : List ℕ) (attribute : DaemonAttribute) (changed : Option Conf) → words ≡ value ∷ [] → changed ≡ option_map (λ change. change s) (daemon_sets attribute value) → ok_or changed (BadValue n) ≡ after_line n s (attribute_does (OfDaemon attribute) words)
daemon_told n s words value attribute changed only is =
    changed_told n s changed (daemon_sets attribute value) is ∙ ap (λ ws. after_line n s (attribute_does (OfDaemon attribute) ws)) (sym only)
