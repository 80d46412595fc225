-- What a channel may carry, flit by flit: packet after packet, each whole and in order (Dally and Towles, chapter 13).
use Rattle.std.specs.Prelude.{◌≡◌, ℕ, ◌+◌, true, false, Option, Some, None, List, [], ◌∷◌, ◌++◌}
use Rattle.std.specs.Bool.{MatchBool}
use Rattle.worm_flit.specs.Kinds.{opens, closes}
use Rattle.worm_flit.specs.Stamps.{on_channel}
use Rattle.worm_flit.specs.declared.Flit.{Flit}

-- the flit is the first of a packet
abbrev pub Opens : Flit → Type 0
Opens f = (opens f.kind ≡ true) × (f.index ≡ 0)

-- after a closing flit comes the first one of a packet, and after any other the same packet's next
abbrev pub Follows : Flit → Flit → Type 0
Follows g f = MatchBool (closes g.kind) (Opens f)
    ((opens f.kind ≡ false) × (f.lane ≡ g.lane) × (f.packet ≡ g.packet) × (f.index ≡ g.index + 1))

abbrev pub Leads : Flit → List Flit → Type 0
Leads g [] = Unit {0}
Leads g (f ∷ fs) = Follows g f

-- a worm: each flit follows the one before
abbrev pub IsWorm : List Flit → Type 0
IsWorm [] = Unit {0}
IsWorm (f ∷ fs) = Leads f fs × IsWorm fs

-- the list with the flit added is a worm
abbrev pub Continues : List Flit → Flit → Type 0
Continues fs f = IsWorm (fs ++ f ∷ [])

abbrev pub latest : List Flit → Option Flit
latest [] = None
latest (f ∷ []) = Some f
latest (f ∷ g ∷ gs) = latest (g ∷ gs)

-- the last flit of a channel
abbrev pub latest_on : ℕ → List Flit → Option Flit
latest_on c fs = latest (on_channel c fs)

-- the flit may come after this last one, if there is one
abbrev pub MayFollow : Option Flit → Flit → Type 0
MayFollow None f = Unit {0}
MayFollow (Some g) f = Follows g f
