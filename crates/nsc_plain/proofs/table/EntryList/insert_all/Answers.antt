use Rattle.std.proofs.Common.{◌≡◌, ◌∷◌, List, rules, sym, subst}
use Rattle.std.specs.Vec.Iter.{into_iter_items}
use Rattle.nsc_plain.specs.Insertion.{Insertion}
use Rattle.nsc_plain.specs.EntryList.{StayApart}
use Rattle.nsc_plain.proofs.Apart.{first_is_new, others_stay_apart}
use Rattle.nsc_plain.proofs.table.EntryList.insert_all.Goals as goal

pub loop-one-init : goal.loop-one-init
loop-one-init c =
    let gives : into_iter_items c.into_iter-one-iterator.result ≡ c.args.fresh.items = search rules in
    record {
      can = tt;
      finite = tt;
      long = search rules;
      memory = search rules;
      apart = subst (λ (all : List Insertion). StayApart c.args.self.now.entries all) (sym gives) c.requires.apart;
      rest = search rules;
    }

pub insert-requires-clause-new : goal.insert-requires-clause-new
insert-requires-clause-new c =
    let steps : into_iter_items c.loop-one.one-iterator ≡ c.in-Some.one ∷ into_iter_items c.next.new.self = search rules in
    first_is_new c.loop-one.self.entries c.in-Some.one (into_iter_items c.next.new.self) (subst (λ (all : List Insertion). StayApart c.loop-one.self.entries all) steps c.loop-one.invariant.apart)

pub loop-one-preserved : goal.loop-one-preserved
loop-one-preserved c =
    let steps : into_iter_items c.loop-one.one-iterator ≡ c.in-Some.one ∷ into_iter_items c.next.new.self = search rules in
    record {
      can = tt;
      finite = tt;
      long = search rules;
      memory = search rules;
      apart = others_stay_apart c.loop-one.self.entries c.insert.new.self.entries c.in-Some.one (into_iter_items c.next.new.self)
          (subst (λ (all : List Insertion). StayApart c.loop-one.self.entries all) steps c.loop-one.invariant.apart) c.insert.ensures.requests;
      rest = search rules;
    }
