use Rattle.std.proofs.Common.{◌≡◌, ℕ, ◌+◌, List, set, slice_index, sym, ap, subst, ◌∙◌}
use Rattle.nsc_words.specs.Laid.{bucket_in, words_in}
use Rattle.nsc_arena.specs.Changes.{IsNext}
use Rattle.nsc_arena.proofs.Chains.{chained, next_at}
use Rattle.nsc_arena.proofs.chaining.chain.Goals as goal

pub returns-clause-laid : goal.returns-clause-laid
returns-clause-laid g c = λ nodes p is_next place.
    let old : List ℕ = g.W.Words.words c.hash_at-hash.new.table in
    let layout = c.args.map in
    let next : IsNext old layout nodes p = subst (λ (ws : List ℕ). IsNext ws layout nodes p) (sym c.hash_at-hash.ensures.same) is_next in
    let at : ℕ = c.args.at in
    let written : ℕ → ℕ → ℕ → List ℕ = λ a b end. set (set (set old (a + 7) (slice_index old b)) b a) 3 end in
    let gives = c.lead-bucket.ensures.gives p (next_at old layout nodes p at c.requires.layout next place) in
    let three : g.W.Words.words c.set-2.new.self ≡ written at c.lead-bucket.result.0 c.lead-bucket.result.1 = c.set-2.ensures.set ∙ ap (λ (ws : List ℕ). set ws 3 c.lead-bucket.result.1) (c.set.ensures.set ∙ ap (λ (ws : List ℕ). set ws c.lead-bucket.result.0 at) c.lead-bucket.ensures.set) in
    let told : written at c.lead-bucket.result.0 c.lead-bucket.result.1 ≡ written at (bucket_in layout p) (at + words_in p.node) = ap (λ (r : ℕ × ℕ). written at r.0 r.1) gives in
    let moved : written at (bucket_in layout p) (at + words_in p.node) ≡ written p.place (bucket_in layout p) (p.place + words_in p.node) = ap (λ (a : ℕ). written a (bucket_in layout p) (a + words_in p.node)) (sym place) in
    chained old (g.W.Words.words c.set-2.new.self) layout nodes p c.requires.layout next (three ∙ told ∙ moved)
