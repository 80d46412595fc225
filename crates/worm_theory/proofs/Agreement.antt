-- Records and the packets that they are for.
use Rattle.std.proofs.Common.{◌≡◌, ℕ, List, [], ◌∷◌, ◌++◌, Some, IsSomeAnd, refl, ap, sym}
use Rattle.worm_flit.specs.declared.Lane.{Lane}
use Rattle.worm_flit.specs.declared.Flit.{Flit}
use Rattle.worm_theory.specs.Worm.{Worm, Between, Within, lane_at, MayCome}
use Rattle.worm_theory.specs.Shape.{Shape}
use Rattle.worm_records.specs.declared.InRecord.{InRecord}
use Rattle.worm_records.specs.declared.InRecord.TheVariants.{Idle, Waiting, Active}
use Rattle.worm_theory.specs.Sound.{Agrees}

lane_at-push : (P : Lane → Type 0) (w : Worm) (fs : List Flit) (f : Flit) → IsSomeAnd (lane_at w fs) P
    → IsSomeAnd (lane_at w (fs ++ f ∷ [])) P
lane_at-push P (Within g) fs f h = h
lane_at-push P Between [] f h = absurd h
lane_at-push P Between (e ∷ es) f h = h

pub Agrees-push : (s : Shape) (x : ℕ) (r : InRecord) (w : Worm) (fs : List Flit) (f : Flit) → Agrees s x r w fs
    → Agrees s x r w (fs ++ f ∷ [])
Agrees-push s x Idle w fs f h = h
Agrees-push s x (Waiting o) w fs f h = (h.0, lane_at-push _ w fs f h.1)
Agrees-push s x (Active o c) w fs f h = lane_at-push _ w fs f h

-- what follows is of the packet that the channel is within
pub lane_at-follows : (w : Worm) (f : Flit) (rest : List Flit) → MayCome w f → lane_at w (f ∷ rest) ≡ Some f.lane
lane_at-follows Between f rest h = refl
lane_at-follows (Within g) f rest h = ap Some (sym h.1)
