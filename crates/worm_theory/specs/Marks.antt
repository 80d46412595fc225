-- What a close mark ends.
use Rattle.std.specs.Prelude.{◌≡◌, ℕ, true, List, [], ◌∷◌, ◌++◌}
use Rattle.worm_flit.specs.declared.Lane.{Lane}
use Rattle.worm_flit.specs.declared.Flit.{Flit}
use Rattle.worm_flit.specs.Kinds.{is_mark}
use Rattle.worm_theory.specs.Shape.{Shape, HasLane, Owns, OwnsAlone}
use Rattle.worm_theory.specs.Network.{Network}
use Rattle.worm_theory.specs.Steps.{has_mark, lane_injected}
use Rattle.worm_theory.specs.Cut.{delivered, underway}
use Rattle.worm_theory.specs.Growth.{NothingMore}

-- a mark is the last of its lane that the source accepted
abbrev pub EndsAccepted : Network → Type 0
EndsAccepted net = (lane : Lane) (before : List Flit) (m : Flit) (rest : List Flit)
    → lane_injected net lane ≡ before ++ m ∷ rest → is_mark m.kind ≡ true → rest ≡ []

-- after a delivered mark nothing of the lane is delivered, and nothing of it is under way
abbrev pub EndsDelivered : Shape → Network → Type 0
EndsDelivered s net = (lane : Lane) (c : ℕ) → HasLane s lane → Owns s lane.class c → OwnsAlone s lane.class c →
    (before : List Flit) (m : Flit) (rest : List Flit) → delivered s net lane ≡ before ++ m ∷ rest
    → is_mark m.kind ≡ true → rest ++ underway s net lane c ≡ []

-- nor does a later network's sink have anything more of it
abbrev pub EndsForGood : Shape → Network → Network → Type 0
EndsForGood s old new = (lane : Lane) (c : ℕ) → HasLane s lane → Owns s lane.class c → OwnsAlone s lane.class c
    → has_mark (delivered s old lane) ≡ true → NothingMore s old new lane
