use Rattle.std.proofs.Common.{rules, false, ◌&&◌, ◌∙◌, ap}
use Rattle.std.specs.Option.{is_none, option_map_or}
use Rattle.std.specs.Str.{bytes_eq}
use Rattle.nsc_base.specs.Addresses.{v4_of}
use Rattle.nsc_nets.proofs.Lengths.{by_v6}
use Rattle.nsc_nets.proofs.hosts.spells_v6.Goals as goal

pub returns-then-eq : goal.returns-then-eq
returns-then-eq c = search rules ∙ by_v6 c.args.text.now c.args.address.now c.requires

pub returns-else-eq : goal.returns-else-eq
returns-else-eq c = search rules ∙ by_v6 c.args.text.now c.args.address.now c.requires

pub returns-in-None : goal.returns-in-None
returns-in-None c = ap (λ o. option_map_or (λ a. bytes_eq a c.args.address.now) o false && is_none (v4_of c.args.text.now)) c.in-None.ensures ∙ by_v6 c.args.text.now c.args.address.now c.requires
