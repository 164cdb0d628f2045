-- The tokens of a service list, as the tokens of its text.
use Rattle.std.specs.Prelude.{ℕ, Bool}
use Rattle.std.specs.Option.{is_none}
use Rattle.nsc_model.specs.Switches as switches
use Rattle.nsc_switchconf.specs.declared.token.Token.{Token}
use Rattle.nsc_switchconf.specs.declared.token.Token.TheVariants.{Word, Open, Close, Not, Equals, Gap}

abbrev pub token_of : Token → switches.Token
token_of (Word bytes) = switches.Word bytes.now
token_of Open = switches.Open
token_of Close = switches.Close
token_of Not = switches.Not
token_of Equals = switches.Equals
token_of Gap = switches.Gap

-- the bytes of words
abbrev pub in_word : ℕ → Bool
in_word b = is_none (switches.sign_of b)
