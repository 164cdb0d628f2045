-- The lines of a file that matter for what is sought.
use Rattle.std.proofs.Common.{◌≡◌, ℕ, List, sym, subst}
use Rattle.nsc_base.specs.declared.span.Span.{Span}
use Rattle.nsc_model.specs.Content.{Content}
use Rattle.nsc_model.specs.Files.{file_of}
use Rattle.nsc_model.specs.Switches.{text_of}
use Rattle.nsc_accounts.specs.declared.sought.Sought.{Sought}
use Rattle.nsc_accounts.specs.Matters.{AreLines, matters_for, sought_file}

-- of the text of its file
abbrev AreFor : Content → List Span → Sought → Type 0
AreFor files lines sought = AreLines (text_of (file_of files (sought_file sought))) (matters_for sought) lines

pub in_file : (files : Content) (sought this : Sought) (text : List ℕ) (lines : List Span) → sought ≡ this → text ≡ text_of (file_of files (sought_file this)) → AreLines text (matters_for this) lines → AreFor files lines sought
in_file files sought this text lines is same are = subst (AreFor files lines) (sym is) (subst (λ (t : List ℕ). AreLines t (matters_for this) lines) same are)
