-- An insertion that no other caller overtakes.
use Rattle.std.proofs.Common.{◌≡◌, ℕ, Bool, false, ltb, cond, None, Some, sym, ap, subst, rules}
use Rattle.nsc_model.specs.declared.answer.Request.{Request}
use Rattle.nsc_model.specs.Machine.{Cache, Discarded, live_entry, overtaken, present_cause}

not_below : (n : ℕ) → ltb n n ≡ false
not_below n = search rules

pub none_overtakes : (request : Request) (cache : Cache) → live_entry request cache.entries ≡ None → overtaken cache.epoch request cache ≡ None
none_overtakes request cache none =
    subst (λ (b : Bool). cond b (Some (Discarded cache.epoch cache.epoch)) (present_cause (live_entry request cache.entries)) ≡ None) (sym (not_below cache.epoch)) (ap present_cause none)
