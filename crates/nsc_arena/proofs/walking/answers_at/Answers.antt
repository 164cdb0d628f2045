use Rattle.std.proofs.Common.{◌≡◌, ℕ, ◌+◌, true, List, slice_index, sym, ap, ◌∙◌}
use Rattle.std.proofs.lemmas.Bool.{false≢true}
use Rattle.nsc_arena.proofs.Answered.{answers_by, same_key}
use Rattle.nsc_arena.proofs.Heads.{kind_at, length_at, usable_by}
use Rattle.nsc_arena.proofs.walking.answers_at.Goals as goal

pub returns-clause-answers : goal.returns-clause-answers
returns-clause-answers g c = λ p at.
    let words : List ℕ = g.W.Words.words c.args.table.now in
    let keyed : g.W.Words.words c.has_bytes.new.table ≡ words = c.has_bytes.ensures.same in
    let state : c.get.result ≡ slice_index words (c.args.at + 6) = c.get.ensures.value ∙ ap (λ (ws : List ℕ). slice_index ws (c.args.at + 6)) keyed in
    let shape : c.get-shape.result ≡ slice_index words (c.args.at + 1) = c.get-shape.ensures.value ∙ ap (λ (ws : List ℕ). slice_index ws (c.args.at + 1)) (c.get.ensures.same ∙ keyed) in
    let usable = usable_by c.args.at p words at c.get.result c.if-get-ne1.false state in
    let kind = sym (kind_at c.args.at p words at c.shape_kind.result c.get-shape.result c.shape_kind.ensures.undoes shape) ∙ c.if-shape_kind-kind.false in
    let size = sym (length_at c.args.at p words at c.shape_len.result c.get-shape.result c.shape_len.ensures.undoes shape) ∙ c.if-shape_len-key.false in
    let key = same_key words c.args.at p c.args.key.now at (λ i. (c.type_inv.key i).fits) size (c.has_bytes.ensures.yes c.if-not-has_bytes.false) in
    answers_by p c.args.kind c.args.key.now true usable kind (λ e. key) (λ e. absurd (false≢true (sym e)))
