-- A router at rest: what a turn would do with its channels leaves it as it is.
use Rattle.std.specs.Prelude.{ℕ, ◌≡◌, ◌<◌, ◌≤◌, false, None, replicate}
use Rattle.worm_router.specs.Router.{RouterState, terminal, width, input_at, can_route, leaving}
use Rattle.worm_router.specs.Allocation.{after_allocate, switch_grants, after_choose}

-- no channel of the router has an opening flit that waits for its route; routers have at most 7 ports and 8 channels
abbrev pub RoutesNothing : RouterState → Type 0
RoutesNothing r = (p v : ℕ) → p < 7 → v < 8 → p ≤ terminal r → v < width r → can_route r p v ≡ false

-- no channel may send
abbrev pub SendsNothing : RouterState → Type 0
SendsNothing r = (p v : ℕ) → p ≤ terminal r → v < width r → leaving r p v ≡ None

-- no channel owes a credit
abbrev pub OwesNothing : RouterState → Type 0
OwesNothing r = (p v : ℕ) → p ≤ terminal r → v < width r → (input_at r p v).owed ≡ 0

-- nothing to route, to grant, to send or to give back
pub record IsAtRest (r : RouterState) : Type 0 where
  pub routes_nothing : RoutesNothing r
  pub allocates_nothing : after_allocate r ≡ r
  pub chooses_nothing : after_choose r ≡ r
  pub grants_nothing : switch_grants r ≡ replicate 7 None
  pub owes_nothing : OwesNothing r
