-- Values under tokens: a token is the number of a put and a seat.
use Rattle.std.specs.Prelude.{◌≡◌, ◌≢◌, ℕ, ◌+◌, ◌%◌, ◌/◌, ◌^◌, ◌<◌, ◌==◌, if◌then◌else◌, List, Option, Some, None, slice_index_or}
use Rattle.nsc_tokens.specs.declared.tokens.Held.{Held}

-- the seats of a table, and how many values were put
pub record Tokens (T : Type 0) : Type 0 where
  pub slots : List (Option (Held T))
  pub puts : ℕ

-- how many seats there are
abbrev pub seats : ℕ
seats = 4096

-- the seat that a token names
abbrev pub seat_of : ℕ → ℕ
seat_of token = token % seats

-- the number of the put that gave a token
abbrev pub put_of : ℕ → ℕ
put_of token = token / seats

-- the value in a seat, if it was put under this token
abbrev pub value_under : {T : Type 0} → ℕ → Option (Held T) → Option T
value_under token None = None
value_under token (Some held) = if held.token == token then Some held.value else None

-- the token of the value in a seat
abbrev pub token_in : {T : Type 0} → Option (Held T) → Option ℕ
token_in None = None
token_in (Some held) = Some held.token

-- the value that was put under this token, and has not left
abbrev pub find : {T : Type 0} → Tokens T → ℕ → Option T
find table token = value_under token (slice_index_or table.slots (seat_of token) None)

-- every other token finds what it found
abbrev pub OthersStay : {T : Type 0} → ℕ → Tokens T → Tokens T → Type 0
OthersStay token before after = (other : ℕ) → other ≢ token → find after other ≡ find before other

-- A value was put under a token that is the number of this put, so no earlier one, and it is found under this token alone.
pub record PutsUnder {T : Type 0} (token : ℕ) (value : T) (before after : Tokens T) : Type 0 where
  pub counted : after.puts ≡ before.puts + 1
  pub number : put_of token ≡ after.puts
  pub limit : after.puts < 2 ^ 52
  pub fresh : find before token ≡ None
  pub found : find after token ≡ Some value
  pub others : OthersStay token before after

-- nothing is found under this token any more
pub record LeavesUnder {T : Type 0} (token : ℕ) (before after : Tokens T) : Type 0 where
  pub gone : find after token ≡ None
  pub others : OthersStay token before after
  pub counted : after.puts ≡ before.puts
