use Rattle.std.proofs.Common.{◌-◌, ◌∷◌, ◌++◌, [], rules, decimal, drop, length, ◌∙◌, ap, arith, length-append}
use Rattle.std.proofs.lemmas.Fmt.{length-decimal-le}
use Rattle.std.proofs.lemmas.List.{take_all}
use Rattle.nsc_model.specs.ServiceLines.{service_ported}
use Rattle.nsc_nets.proofs.Firsts.{service-entry, service-inside}
use Rattle.nsc_nets.proofs.find.find_service_by_port.Goals as goal

pub write_digits-start-requires : goal.write_digits-start-requires
write_digits-start-requires c = search (rules, length-decimal-le 5)

pub first_service_with-requires : goal.first_service_with-requires
first_service_with-requires c =
    let start = c.write_digits-start.result in
    let rest = drop start c.write_digits-start.new.buf in
    take_all (6 - start) rest (omega (arith, c.write_digits-start.ensures.start, ap length c.write_digits-start.ensures.written, length-append (decimal c.from.result) (47 ∷ []))) ∙ c.write_digits-start.ensures.written ∙ ap (λ n. decimal n ++ 47 ∷ []) c.from.ensures

pub returns-clause-entry : goal.returns-clause-entry
returns-clause-entry c = service-entry (service_ported c.args.port c.args.proto.now) c.args.text.now c.first_service_with.result c.first_service_with.ensures

pub returns-clause-inside : goal.returns-clause-inside
returns-clause-inside c = service-inside (service_ported c.args.port c.args.proto.now) c.args.text.now c.first_service_with.result c.first_service_with.ensures
