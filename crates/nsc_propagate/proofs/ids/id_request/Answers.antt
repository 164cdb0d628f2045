-- The request by id is that of the row that the switch finds.
use Rattle.std.proofs.Common.{◌≡◌, List, ℕ, ◌≤◌, length, ◌⊎◌, inl, inr, Some, sym, ap, subst, ◌∙◌, decimal}
use Rattle.nsc_model.specs.declared.kind.Kind.{Kind}
use Rattle.nsc_model.specs.declared.kind.Kind.TheVariants.{PwName, PwUid, GrName, GrGid}
use Rattle.nsc_model.specs.Answer.{Answer}
use Rattle.nsc_model.specs.Answers.{answer_of, request_beside}
use Rattle.nsc_model.specs.Content.{Content}
use Rattle.nsc_model.specs.Files.{FilesFit}
use Rattle.nsc_model.specs.Wire.{field_in}
use Rattle.nsc_propagate.proofs.ids.id_request.Goals as goal
use Rattle.nsc_propagate.proofs.ids.id_request.Goals.{in-PwName, in-GrName}
use Rattle.nsc_propagate.proofs.ReplyIds.{HasId, user_beside, group_beside}

-- a kind by name, the kind by id that goes with it, and what an answer to a request of the first has
abbrev Beside : Kind → Kind → Content → Answer → Type 0
Beside kind by files answer = (key : List ℕ) → answer ≡ answer_of files (record { kind = kind; key = key }) → HasId by answer (request_beside files (record { kind = kind; key = key }))

users : (files : Content) (answer : Answer) → FilesFit files → Beside PwName PwUid files answer
users files answer fit key is = subst (λ (a : Answer). HasId PwUid a (request_beside files (record { kind = PwName; key = key }))) (sym is) (user_beside files key fit)

groups : (files : Content) (answer : Answer) → FilesFit files → Beside GrName GrGid files answer
groups files answer fit key is = subst (λ (a : Answer). HasId GrGid a (request_beside files (record { kind = GrName; key = key }))) (sym is) (group_beside files key fit)

abbrev AreKinds : Kind → Kind → Type 0
AreKinds kind by = ((kind ≡ PwName) × (by ≡ PwUid)) ⊎ ((kind ≡ GrName) × (by ≡ GrGid))

here : (files : Content) (answer : Answer) (kind by : Kind) → FilesFit files → AreKinds kind by → Beside kind by files answer
here files answer kind by fit (inl (k, b)) = subst (λ (x : Kind × Kind). Beside x.0 x.1 files answer) (λ i. (sym k i, sym b i)) (users files answer fit)
here files answer kind by fit (inr (k, b)) = subst (λ (x : Kind × Kind). Beside x.0 x.1 files answer) (λ i. (sym k i, sym b i)) (groups files answer fit)

-- src/ids.rt:40:9
pub returns-then-is_not_found-clause-request : goal.returns-then-is_not_found-clause-request
returns-then-is_not_found-clause-request c key is =
    let kinds : AreKinds c.args.kind c.match-kind.by_id = elim c.match-kind.branch [ in-PwName w ↦ inl (w.in-PwName.is, w.by_id-is) | in-GrName w ↦ inr (w.in-GrName.is, w.by_id-is) ] in
    sym ((here c.args.content.now c.args.answer.now c.args.kind c.match-kind.by_id c.learn.ensures kinds key is).absent (sym c.is_not_found.ensures ∙ c.if-is_not_found.true))

-- src/ids.rt:42:9
pub u32_at-id-requires : goal.u32_at-id-requires
u32_at-id-requires c =
    let kinds : AreKinds c.args.kind c.match-kind.by_id = elim c.match-kind.branch [ in-PwName w ↦ inl (w.in-PwName.is, w.by_id-is) | in-GrName w ↦ inr (w.in-GrName.is, w.by_id-is) ] in
    let has = here c.args.content.now c.args.answer.now c.args.kind c.match-kind.by_id c.learn.ensures kinds c.requires.answered.0 c.requires.answered.1 in
    subst (λ (bytes : List ℕ). 20 ≤ length bytes) (sym c.bytes.ensures.value) (has.long (sym c.is_not_found.ensures ∙ c.if-is_not_found.false))

-- src/ids.rt:22:1
pub returns-clause-request : goal.returns-clause-request
returns-clause-request c key is =
    let kinds : AreKinds c.args.kind c.match-kind.by_id = elim c.match-kind.branch [ in-PwName w ↦ inl (w.in-PwName.is, w.by_id-is) | in-GrName w ↦ inr (w.in-GrName.is, w.by_id-is) ] in
    let has = here c.args.content.now c.args.answer.now c.args.kind c.match-kind.by_id c.learn.ensures kinds key is in
    ap (λ (k : List ℕ). Some (record { kind = c.match-kind.by_id; key = k }))
    (c.in_ok-key.ensures ∙ c.as_bytes.ensures.value ∙ c.format.ensures.text ∙ ap (λ (n : ℕ). decimal n) (c.u32_at-id.ensures ∙ ap (λ (bytes : List ℕ). field_in bytes 16) c.bytes.ensures.value))
    ∙ sym (has.found (sym c.is_not_found.ensures ∙ c.if-is_not_found.false))
