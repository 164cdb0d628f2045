-- Sockets that a listener bound.
use Rattle.std.proofs.Common.{◌≡◌, ℕ, List, [], ◌∷◌, Option, Some, None, refl, subst}
use Rattle.nsc_sockets.specs.Connections.{BindsOne, Socket}
use Rattle.nsc_sockets.specs.declared.role.Role.{Role}
use Rattle.nsc_model.specs.declared.exit.Exit.TheVariants as exits
use Rattle.nsc_sourcebook.specs.declared.fault.PollFault.{PollFault}
use Rattle.nsc_sourcebook.specs.declared.fault.PollFault.TheVariants as poll
use Rattle.nsc_daemon.specs.Ends.{IsBound, opening_exit}

-- none so far
pub none_bound : (before : Option (List Socket)) → IsBound before before []
none_bound None = tt
none_bound (Some bound) = refl

-- one more
pub one_bound : (before mid after : Option (List Socket)) (sockets : List Socket) (on : Role) (path : List ℕ) → IsBound before mid sockets → BindsOne mid after on path → IsBound before after (record { role = on; path = path } ∷ sockets)
one_bound None mid after sockets on path had one = tt
one_bound (Some bound) mid after sockets on path had one = subst (λ (m : Option (List Socket)). BindsOne m after on path) had one

-- a start that failed did not end well
pub not_opened : (fault : PollFault) → opening_exit fault ≡ exits.Ok → ⊥
not_opened poll.NoMemory ok = absurd cc
not_opened (poll.SourceFault file) ok = absurd cc
not_opened (poll.TooLong file size) ok = absurd cc
