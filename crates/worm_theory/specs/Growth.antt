-- What no step takes back: what sources accepted and sinks received only grows (Dally and Towles, chapter 20).
use Rattle.std.specs.Prelude.{◌≡◌, ℕ, List, [], ◌++◌}
use Rattle.worm_flit.specs.declared.Flit.{Flit}
use Rattle.worm_flit.specs.declared.Lane.{Lane}
use Rattle.worm_flit.specs.Stamps.{of_lane}
use Rattle.worm_theory.specs.Shape.{Shape}
use Rattle.worm_theory.specs.Network.{Network}

-- each sink's list is the old one, and what was delivered since
abbrev pub SinksGrow : Shape → Network → Network → Type 0
SinksGrow s old new = (x : ℕ) → (more : List Flit) × (new.out x s.terminal ≡ old.out x s.terminal ++ more)

-- each source's list is the old one, and what was accepted since
abbrev pub SourcesGrow : Network → Network → Type 0
SourcesGrow old new = (x k : ℕ) → (more : List Flit) × (new.injected x k ≡ old.injected x k ++ more)

-- the lane's sink has grown by flits of other lanes alone
abbrev pub NothingMore : Shape → Network → Network → Lane → Type 0
NothingMore s old new lane = (more : List Flit) × (new.out lane.dst s.terminal ≡ old.out lane.dst s.terminal ++ more)
    × (of_lane lane more ≡ [])
