-- Where a channel stands in its packets, and the lists of flits that lead from one such place to another
-- (Dally and Towles, chapter 13, on wormhole flow control).
use Rattle.std.specs.Prelude.{◌≡◌, ◌+◌, false, cond, List, [], ◌∷◌, Option, Some, None}
use Rattle.worm_flit.specs.declared.Lane.{Lane}
use Rattle.worm_flit.specs.declared.Flit.{Flit}
use Rattle.worm_flit.specs.Kinds.{opens, closes}
use Rattle.worm_flit.specs.Stamps.{bare}
use Rattle.worm_flit.specs.Worms.{Opens}

-- between two packets, or within the packet whose last flit so far was this one, its channel number left aside
pub data Worm : Type 0 where
  Between : Worm
  Within : Flit → Worm

-- the flit may come next
abbrev pub MayCome : Worm → Flit → Type 0
MayCome Between f = Opens f
MayCome (Within g) f = (opens f.kind ≡ false) × (f.lane ≡ g.lane) × (f.packet ≡ g.packet) × (f.index ≡ g.index + 1)

-- where a channel stands after this flit
abbrev pub after_flit : Flit → Worm
after_flit f = cond (closes f.kind) Between (Within (bare f))

-- where a channel stands whose last flit was this one
abbrev pub worm_after : Option Flit → Worm
worm_after None = Between
worm_after (Some f) = after_flit f

-- the flits come one after another, and lead from the first place to the second
abbrev pub Runs : Worm → List Flit → Worm → Type 0
Runs from [] to = from ≡ to
Runs from (f ∷ fs) to = MayCome from f × Runs (after_flit f) fs to

-- the lane of the packet that a channel is within, or else of the one that its first flit opens
abbrev pub lane_at : Worm → List Flit → Option Lane
lane_at (Within g) fs = Some g.lane
lane_at Between [] = None
lane_at Between (f ∷ fs) = Some f.lane
