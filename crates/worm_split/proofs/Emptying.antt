-- What a queue still holds goes onto its link, one item after another.
use Rattle.std.proofs.Common.{◌≡◌, ℕ, ◌+◌, ◌≤◌, List, ◌++◌, length}
use Rattle.worm_flit.specs.declared.Flit.{Flit}
use Rattle.worm_wires.specs.Links.{LinkView}

-- so far, of what was sent and of what was taken before
pub record FlitsSoFar (sent taken now_sent now_taken : List Flit) (old new : LinkView) : Type 0 where
  pub gone : List Flit
  pub same_sent : now_sent ≡ sent
  pub took : now_taken ≡ taken ++ gone
  pub behind : length old.flits + length gone ≤ old.room → new.flits ≡ old.flits ++ gone
  pub credits : new.credits ≡ old.credits
  pub room : new.room ≡ old.room

pub record CreditsSoFar (sent taken now_sent now_taken : List ℕ) (old new : LinkView) : Type 0 where
  pub gone : List ℕ
  pub same_sent : now_sent ≡ sent
  pub took : now_taken ≡ taken ++ gone
  pub behind : length old.credits + length gone ≤ old.room → new.credits ≡ old.credits ++ gone
  pub flits : new.flits ≡ old.flits
  pub room : new.room ≡ old.room
