-- Texts that are put together.
use Rattle.std.proofs.Common.{◌≡◌, ℕ, List, ◌++◌, ◌∙◌, ap, append_assoc, refl}

-- four texts after one another
pub four_texts : (first second third fourth last a b c d : List ℕ) → second ≡ first ++ a → third ≡ second ++ b → fourth ≡ third ++ c → last ≡ fourth ++ d → last ≡ first ++ (a ++ b ++ c ++ d)
four_texts first second third fourth last a b c d p q r s = s ∙ ap (λ t. t ++ d) (r ∙ ap (λ t. t ++ c) (q ∙ ap (λ t. t ++ b) p)) ∙ simp append_assoc refl
