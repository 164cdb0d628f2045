use Rattle.std.proofs.Common.{◌≡◌, ◌<◌, length, get_or, ap, ◌∙◌, arith}
use Rattle.std.proofs.lemmas.List.{get_or_default}
use Rattle.nsc_base.proofs.Runs.{inside, length-texts_ended, ordered, text_at}
use Rattle.nsc_base.proofs.texts.Texts.get.Goals as goal

pub begin_of-from-requires : goal.begin_of-from-requires
begin_of-from-requires c = rw c.as_slice.ensures.value (omega (arith, ap length c.self.view_is, length-texts_ended c.self.inside.run.items 0 c.self.inside.ends.items))

pub index-end-requires : goal.index-end-requires
index-end-requires c = omega (arith, ap length c.self.view_is, length-texts_ended c.self.inside.run.items 0 c.self.inside.ends.items, c.self.inside.ends.ok.0)

pub before_zero-requires-clause-ordered : goal.before_zero-requires-clause-ordered
before_zero-requires-clause-ordered c =
    let ends = c.self.inside.ends.items in
    let there : c.args.at < length ends = omega (arith, ap length c.self.view_is, length-texts_ended c.self.inside.run.items 0 ends) in
    let end : c.index-end.result.now ≡ get_or ends c.args.at 0 = c.index-end.ensures ∙ get_or_default ends c.args.at _ _ there in
    rw (end, c.begin_of-from.ensures, c.as_slice.ensures.value) (ordered c.self.inside.run.items ends c.args.at c.self.invariant there)

pub before_zero-requires-clause-inside : goal.before_zero-requires-clause-inside
before_zero-requires-clause-inside c =
    let ends = c.self.inside.ends.items in
    let there : c.args.at < length ends = omega (arith, ap length c.self.view_is, length-texts_ended c.self.inside.run.items 0 ends) in
    let end : c.index-end.result.now ≡ get_or ends c.args.at 0 = c.index-end.ensures ∙ get_or_default ends c.args.at _ _ there in
    rw (end, c.as_slice-2.ensures.value) (inside c.self.inside.run.items ends c.args.at c.self.invariant there)

pub returns : goal.returns
returns c =
    let ends = c.self.inside.ends.items in
    let there : c.args.at < length ends = omega (arith, ap length c.self.view_is, length-texts_ended c.self.inside.run.items 0 ends) in
    let end : c.index-end.result.now ≡ get_or ends c.args.at 0 = c.index-end.ensures ∙ get_or_default ends c.args.at _ _ there in
    rw (c.before_zero.ensures, c.as_slice-2.ensures.value, end, c.begin_of-from.ensures, c.as_slice.ensures.value, ← c.self.view_is) (text_at c.self.inside.run.items 0 ends c.args.at there)
