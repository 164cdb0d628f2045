-- What the steps of printing put into a buffer.
use Rattle.std.proofs.Common.{◌≡◌, ℕ, ◌+◌, ◌<◌, List, [], ◌∷◌, ◌++◌, length, map, take, get_or, sym, ◌∙◌, ap, append_assoc}
use Rattle.std.specs.List.{join_with_byte}
use Rattle.std.proofs.lemmas.List.{take_more, map_push}
use Rattle.nsc_base.specs.Buf.{Buf}
use Rattle.nsc_addr.proofs.Fields.{join-push}

-- the first items, printed with a byte between them
abbrev pub joined : ℕ → (ℕ → List ℕ) → ℕ → List ℕ → List ℕ
joined cut text first later = join_with_byte cut (map text (first ∷ later))

joined-more : (cut : ℕ) (text : ℕ → List ℕ) (first : ℕ) (later : List ℕ) (i : ℕ) → i < length later
    → joined cut text first (take (i + 1) later) ≡ joined cut text first (take i later) ++ cut ∷ text (get_or later i 0)
joined-more cut text first later i below =
    ap (joined cut text first) (take_more later i 0 below) ∙ ap (λ texts. join_with_byte cut (text first ∷ texts)) (map_push text (take i later) (get_or later i 0))
    ∙ join-push cut (text first) (map text (take i later)) (text (get_or later i 0))

-- the buffer with a text after what it held
abbrev pub with_text : Buf → List ℕ → Buf
with_text room text = record { content = room.content ++ text; limit = room.limit }

pub with_text-append : (room : Buf) (xs ys : List ℕ) → with_text (with_text room xs) ys ≡ with_text room (xs ++ ys)
with_text-append room xs ys = ap (λ content. let r : Buf = record { content = content; limit = room.limit } in r) (append_assoc room.content xs ys)

-- one item more
pub with_joined-more : (cut : ℕ) (text : ℕ → List ℕ) (first : ℕ) (later : List ℕ) (i item : ℕ) (old before between after : Buf) → i < length later → item ≡ get_or later i 0
    → before ≡ with_text old (joined cut text first (take i later)) → between ≡ with_text before (cut ∷ []) → after ≡ with_text between (text item)
    → after ≡ with_text old (joined cut text first (take (i + 1) later))
with_joined-more cut text first later i item old before between after below is p q r =
    r ∙ ap (λ room. with_text room (text item)) q ∙ with_text-append before (cut ∷ []) (text item) ∙ ap (λ room. with_text room (cut ∷ text item)) p
    ∙ with_text-append old (joined cut text first (take i later)) (cut ∷ text item)
    ∙ ap (with_text old) (ap (λ n. joined cut text first (take i later) ++ cut ∷ text n) is ∙ sym (joined-more cut text first later i below))
