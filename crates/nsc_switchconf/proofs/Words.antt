-- How a text falls into tokens: a sign by itself, and a word up to the next sign.
use Rattle.std.proofs.Common.{◌≡◌, ℕ, suc, ◌<◌, ◌==◌, Bool, true, false, if◌then◌else◌, List, [], ◌∷◌, take, drop, Some, None, refl, sym, ◌∙◌, ap, arith}
use Rattle.std.specs.List.{prefix_len}
use Rattle.nsc_base.specs.Text.{is_white}
use Rattle.nsc_model.specs.Switches.{Token, Word, Open, Close, Not, Equals, Gap, sign_of, onto_word, put_token, tokens_of}
use Rattle.nsc_switchconf.specs.Tokens.{in_word}

-- no sign is a word
chosen : (white opens closes negates equals : Bool) (bytes : List ℕ) → (if white then Some Gap else (if opens then Some Open else (if closes then Some Close else (if negates then Some Not else (if equals then Some Equals else None))))) ≡ Some (Word bytes) → ⊥
chosen true opens closes negates equals bytes h = cc
chosen false true closes negates equals bytes h = cc
chosen false false true negates equals bytes h = cc
chosen false false false true equals bytes h = cc
chosen false false false false true bytes h = cc
chosen false false false false false bytes h = cc

-- a byte of a word before a sign is a word by itself
alone : (b c : ℕ) (sign : Token) (tokens : List Token) → sign_of c ≡ Some sign → onto_word b (sign ∷ tokens) ≡ Word (b ∷ []) ∷ sign ∷ tokens
alone b c (Word bytes) tokens is = absurd (chosen (is_white c) (c == 91) (c == 93) (c == 33) (c == 61) bytes is)
alone b c Open tokens is = refl
alone b c Close tokens is = refl
alone b c Not tokens is = refl
alone b c Equals tokens is = refl
alone b c Gap tokens is = refl

pub tokens-sign : (b : ℕ) (bytes : List ℕ) (sign : Token) → Some sign ≡ sign_of b → tokens_of (b ∷ bytes) ≡ sign ∷ tokens_of bytes
unfolding tokens_of
tokens-sign b bytes sign is = sym (ap (λ o. put_token o b (tokens_of bytes)) is)

tokens-onto : (b : ℕ) (bytes : List ℕ) → None ≡ sign_of b → tokens_of (b ∷ bytes) ≡ onto_word b (tokens_of bytes)
unfolding tokens_of
tokens-onto b bytes is = sym (ap (λ o. put_token o b (tokens_of bytes)) is)

pub tokens-none : tokens_of [] ≡ []
unfolding tokens_of
tokens-none = refl

run-stops : (c : ℕ) (bytes : List ℕ) (sign : Token) → Some sign ≡ sign_of c → prefix_len in_word (c ∷ bytes) ≡ 0
run-stops c bytes sign is = rw (← is) refl

run-goes : (c : ℕ) (bytes : List ℕ) → None ≡ sign_of c → prefix_len in_word (c ∷ bytes) ≡ suc (prefix_len in_word bytes)
run-goes c bytes is = rw (← is) (omega arith)

-- a word goes on up to the next sign
tokens-run : (b : ℕ) (bytes : List ℕ) → None ≡ sign_of b → tokens_of (b ∷ bytes) ≡ Word (b ∷ take (prefix_len in_word bytes) bytes) ∷ tokens_of (drop (prefix_len in_word bytes) bytes)
tokens-run b [] none = tokens-onto b [] none ∙ ap (onto_word b) tokens-none ∙ ap (λ tokens. Word (b ∷ []) ∷ tokens) (sym tokens-none)
tokens-run b (c ∷ bytes) none =
    elim (sign_of c) as (λ o. o ≡ sign_of c → tokens_of (b ∷ c ∷ bytes) ≡ Word (b ∷ take (prefix_len in_word (c ∷ bytes)) (c ∷ bytes)) ∷ tokens_of (drop (prefix_len in_word (c ∷ bytes)) (c ∷ bytes))) [
      | Some sign ↦ λ is.
          tokens-onto b (c ∷ bytes) none ∙ ap (onto_word b) (tokens-sign c bytes sign is) ∙ alone b c sign (tokens_of bytes) (sym is)
          ∙ ap (λ tokens. Word (b ∷ []) ∷ tokens) (sym (tokens-sign c bytes sign is))
          ∙ ap (λ n. Word (b ∷ take n (c ∷ bytes)) ∷ tokens_of (drop n (c ∷ bytes))) (sym (run-stops c bytes sign is))
      | None ↦ λ is.
          tokens-onto b (c ∷ bytes) none ∙ ap (onto_word b) (tokens-run c bytes is)
          ∙ ap (λ n. Word (b ∷ take n (c ∷ bytes)) ∷ tokens_of (drop n (c ∷ bytes))) (sym (run-goes c bytes is))
    ] refl

pub tokens-word : (text : List ℕ) (b : ℕ) (bytes : List ℕ) (n : ℕ) → text ≡ b ∷ bytes → None ≡ sign_of b → n ≡ prefix_len in_word text → tokens_of text ≡ Word (take n text) ∷ tokens_of (drop n text)
tokens-word text b bytes n is none run =
    let size : n ≡ suc (prefix_len in_word bytes) = run ∙ ap (prefix_len in_word) is ∙ run-goes b bytes none in
    ap tokens_of is ∙ tokens-run b bytes none
    ∙ ap (λ m. Word (take m (b ∷ bytes)) ∷ tokens_of (drop m (b ∷ bytes))) (sym size)
    ∙ ap (λ ys. Word (take n ys) ∷ tokens_of (drop n ys)) (sym is)

-- a word has a byte
pub word-filled : (text : List ℕ) (b : ℕ) (bytes : List ℕ) (n : ℕ) → text ≡ b ∷ bytes → None ≡ sign_of b → n ≡ prefix_len in_word text → 0 < n
word-filled text b bytes n is none run =
    let size : n ≡ suc (prefix_len in_word bytes) = run ∙ ap (prefix_len in_word) is ∙ run-goes b bytes none in
    omega (arith, size)
