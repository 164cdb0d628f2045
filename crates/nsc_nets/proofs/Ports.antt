-- The port and the protocol of a word, cut at its first slash.
use Rattle.std.proofs.Common.{◌≡◌, ◌≢◌, ℕ, ◌<◌, ◌≤◌, true, false, if◌then◌else◌, List, [], ◌∷◌, length, Option, Some, None, refl, sym, ◌∙◌, ap, arith}
use Rattle.std.specs.List.{after_first, before_first, list_any}
use Rattle.nsc_base.specs.declared.span.Span.{Span}
use Rattle.nsc_base.specs.Text.{IsSplit, is_filled, part}
use Rattle.nsc_base.proofs.FirstBytes.{after-none}
use Rattle.nsc_base.proofs.Places.{range-length}
use Rattle.nsc_model.specs.ServiceLines.{is_slash, port_of}
use Rattle.nsc_model.specs.Users.{◌>>=◌}
use Rattle.nsc_nets.specs.Services.{Port, port_of_word}

-- a port with the text that is to be its protocol
abbrev port_with : Option ℕ → List ℕ → Option Port
port_with port proto = port >>= λ n. if is_filled proto then Some (record { port = n; proto = proto }) else None

without_proto : (port : Option ℕ) (proto : List ℕ) → proto ≡ [] → port_with port proto ≡ None
without_proto None proto none = refl
without_proto (Some n) proto none = rw none refl

with_proto : (n : ℕ) (proto : List ℕ) → is_filled proto ≡ true → port_with (Some n) proto ≡ Some (record { port = n; proto = proto })
with_proto n proto filled = rw filled refl

pub empty_is : (bytes : List ℕ) → length bytes ≡ 0 → bytes ≡ []
empty_is [] h = refl
empty_is (b ∷ bytes) h = absurd (omega arith)

filled_is : (bytes : List ℕ) → 0 < length bytes → is_filled bytes ≡ true
filled_is [] h = absurd (omega arith)
filled_is (b ∷ bytes) h = refl

-- a word without a slash
pub no_slash : (word : List ℕ) → list_any is_slash word ≡ false → port_of_word word ≡ None
no_slash word none = without_proto (port_of (before_first is_slash word)) (after_first is_slash word) (after-none is_slash word none)

-- a word with a slash: what stands before it, and after it
pub at_slash : (text : List ℕ) (word digits proto : Span) → IsSplit 47 text word digits proto → port_of_word (part text word) ≡ port_with (port_of (part text digits)) (part text proto)
at_slash text word digits proto is =
    ap (λ (after : List ℕ). port_with (port_of (before_first is_slash (part text word))) after) (sym is.rest_is)
    ∙ ap (λ (before : List ℕ). port_with (port_of before) (part text proto)) (sym is.front_is)

-- with no protocol after it
pub no_proto : (text : List ℕ) (word digits proto : Span) → word.to ≤ length text → IsSplit 47 text word digits proto → proto.from ≡ proto.to → port_of_word (part text word) ≡ None
no_proto text word digits proto inside is ends =
    at_slash text word digits proto is ∙ without_proto _ (part text proto) (empty_is _ (omega (arith, is.rest_in.ends, range-length text proto.from proto.to (omega (arith, is.rest_in.ends)))))

-- with no port before it
pub no_port : (text : List ℕ) (word digits proto : Span) → IsSplit 47 text word digits proto → None ≡ port_of (part text digits) → port_of_word (part text word) ≡ None
no_port text word digits proto is none = at_slash text word digits proto is ∙ ap (λ o. port_with o (part text proto)) (sym none)

-- with both
pub both : (text : List ℕ) (word digits proto : Span) (port : ℕ) → word.to ≤ length text → IsSplit 47 text word digits proto → proto.from ≢ proto.to → Some port ≡ port_of (part text digits) → port_of_word (part text word) ≡ Some (record { port = port; proto = part text proto })
both text word digits proto port inside is more known =
    at_slash text word digits proto is
    ∙ ap (λ o. port_with o (part text proto)) (sym known)
    ∙ with_proto port (part text proto) (filled_is _ (omega (arith, more, is.rest_in.ordered, is.rest_in.ends, range-length text proto.from proto.to (omega (arith, is.rest_in.ends)))))
