-- The one text of a list of entries, and the rules that they keep.
use Rattle.std.specs.Prelude.{◌≡◌, ℕ, ◌-◌, ◌<◌, ◌≤◌, List, [], ◌∷◌, ◌++◌, length, map, All, codes, slice_index}
use Rattle.std.specs.Prelude.{slice_index_or, false}
use Rattle.std.specs.Fmt.{decimal}
use Rattle.worm_flit.specs.declared.Lane.{Lane}
use Rattle.worm_mesh.specs.Address.{node_count}
use Rattle.worm_text.specs.Lines.{line, finished}
use Rattle.worm_text.specs.Network.{Network, IsBetween}
use Rattle.worm_text.specs.Traffic.{Said, send, close, is_closed, last_turn}

-- turn, source, destination, class
abbrev pub where_fields : Network → ℕ → Lane → List (List ℕ)
where_fields n turn lane = decimal turn ∷ decimal lane.src ∷ decimal lane.dst ∷ slice_index_or n.classes lane.class []
    ∷ []

abbrev pub entry_line : Network → Said → List ℕ
entry_line n (send turn lane words) = line ((codes "send" ∷ where_fields n turn lane) ++ map decimal words)
entry_line n (close turn lane) = line (codes "close" ∷ where_fields n turn lane)

abbrev pub traffic_lines : Network → List Said → List (List ℕ)
traffic_lines n entries = codes "wormtraffic 1" ∷ map (entry_line n) entries ++ codes "end" ∷ []

abbrev pub traffic_text : Network → List Said → List ℕ
traffic_text n entries = finished (traffic_lines n entries)

-- an entry of a lane of the network, behind these
pub record IsPlaced (n : Network) (before : List Said) (turn : ℕ) (lane : Lane) : Type 0 where
  pub room : length before < 10000
  pub turn_small : turn ≤ 1000000
  pub in_order : last_turn before ≤ turn
  pub src : IsBetween 0 (node_count n.radices - 1) lane.src
  pub dst : IsBetween 0 (node_count n.radices - 1) lane.dst
  pub class : lane.class < length n.classes
  pub open_lane : is_closed before lane ≡ false

abbrev pub IsEntry : Network → List Said → Said → Type 0
IsEntry n before (send turn lane words) =
    IsPlaced n before turn lane × IsBetween 1 32 (length words) × All (IsBetween 0 4294967295) words
IsEntry n before (close turn lane) = IsPlaced n before turn lane × (slice_index n.channels lane.class ≡ 1)

-- each entry keeps the rules behind those before it
abbrev pub AreEntries : Network → List Said → List Said → Type 0
AreEntries n before [] = Unit {0}
AreEntries n before (e ∷ es) = IsEntry n before e × AreEntries n (before ++ e ∷ []) es
