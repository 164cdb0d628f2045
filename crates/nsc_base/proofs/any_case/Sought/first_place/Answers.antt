use Rattle.std.proofs.Common.{subst, sym}
use Rattle.nsc_base.specs.AnyCase.{NeedsNoCase, sought_text}
use Rattle.nsc_base.specs.Found.{NoneBefore}
use Rattle.nsc_base.specs.declared.any_case.Sought.{Sought}
use Rattle.nsc_base.specs.declared.search.Case.TheVariants.{Ignored}
use Rattle.nsc_base.proofs.AnyCase.{caseless_found, either_found}
use Rattle.nsc_base.proofs.any_case.Sought.first_place.Goals as goal

pub returns-in-Caseless : goal.returns-in-Caseless
returns-in-Caseless c = subst (λ (sought : Sought). NoneBefore Ignored (sought_text sought) c.args.bytes.now c.find.result) (sym c.in-Caseless.is) (caseless_found c.in-Caseless.finder c.args.bytes.now c.find.result (subst NeedsNoCase c.in-Caseless.is c.requires) c.find.ensures)

pub returns-in-Either : goal.returns-in-Either
returns-in-Either c = subst (λ (sought : Sought). NoneBefore Ignored (sought_text sought) c.args.bytes.now c.memchr2.result) (sym c.in-Either.is) (either_found c.in-Either.byte _ _ c.args.bytes.now c.memchr2.result c.to_ascii_lowercase.ensures.value c.to_ascii_uppercase.ensures.value c.memchr2.ensures)
