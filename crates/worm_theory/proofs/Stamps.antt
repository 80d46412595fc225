-- No two flits that a lane's source accepted have the same stamp.
use Rattle.std.proofs.Common.{◌≡◌, ℕ, ◌+◌, ◌<◌, ◌≤◌, ◌⊎◌, inl, inr, Bool, false, List, [], ◌∷◌, ◌++◌, map, refl, subst}
use Rattle.std.proofs.Common.{sym, arith}
use Rattle.std.specs.List.{IsDistinct, AllByRecursion}
use Rattle.worm_flit.specs.declared.Lane.{Lane}
use Rattle.worm_flit.specs.declared.Flit.{Flit}
use Rattle.worm_flit.specs.Stamps.{bare}
use Rattle.worm_flit.specs.Packets.{History, closed, fresh, later_flits, packet, packet_flits}
use Rattle.worm_theory.specs.Shape.{Shape, HasLane, Owns, OwnsAlone}
use Rattle.worm_theory.specs.Network.{Network}
use Rattle.worm_theory.specs.Steps.{lane_injected}
use Rattle.worm_theory.specs.Sound.{Sound}
use Rattle.worm_theory.specs.Cut.{same_stamp, delivered, underway, LanesCut}
use Rattle.worm_theory.proofs.Places.{number_cases}

-- the flit's stamp is packet n, index i, or a later one
abbrev NotBefore : ℕ → ℕ → Flit → Type 0
NotBefore n i f = (n < f.packet) ⊎ ((n ≡ f.packet) × (i ≤ f.index))

-- stamps that rise, from packet n, index i
abbrev Rises : ℕ → ℕ → List Flit → Type 0
Rises n i [] = Unit {0}
Rises n i (f ∷ fs) = NotBefore n i f × Rises f.packet (f.index + 1) fs

abbrev AreBelow : ℕ → List Flit → Type 0
AreBelow n [] = Unit {0}
AreBelow n (f ∷ fs) = (f.packet < n) × AreBelow n fs

from-earlier : (a b n i : ℕ) (f : Flit) → (a < n) ⊎ ((a ≡ n) × (b ≤ i)) → NotBefore n i f → NotBefore a b f
from-earlier a b n i f h g = grind arith

rises-earlier : (a b n i : ℕ) (fs : List Flit) → (a < n) ⊎ ((a ≡ n) × (b ≤ i)) → Rises n i fs → Rises a b fs
rises-earlier a b n i [] h r = tt
rises-earlier a b n i (f ∷ fs) h r = (from-earlier a b n i f h r.0, r.1)

rises-append : (a b n : ℕ) (fs gs : List Flit) → (a < n) ⊎ ((a ≡ n) × (b ≡ 0)) → Rises a b fs → AreBelow n fs
    → Rises n 0 gs → Rises a b (fs ++ gs)
rises-append a b n [] gs h r below rest =
    rises-earlier a b n 0 gs (elim h [
      | inl less ↦ inl less
      | inr same ↦ inr (same.0, let e = same.1 in omega arith)
    ]) rest
rises-append a b n (f ∷ fs) gs h r below rest =
    (r.0, rises-append f.packet (f.index + 1) n fs gs (inl below.0) r.1 below.1 rest)

below-append : (n m : ℕ) (fs gs : List Flit) → n ≤ m → AreBelow n fs → AreBelow m gs → AreBelow m (fs ++ gs)
below-append n m [] gs le below rest = rest
below-append n m (f ∷ fs) gs le below rest = (let less = below.0 in omega arith, below-append n m fs gs le below.1 rest)

module _ (lane : Lane) (n : ℕ) where
  later-rises : (i : ℕ) (ws : List ℕ) → Rises n i (later_flits lane n i ws)
  later-rises i [] = tt
  later-rises i (w ∷ []) = (inr (refl, omega arith), tt)
  later-rises i (w ∷ v ∷ ws) = (inr (refl, omega arith), later-rises (i + 1) (v ∷ ws))

  packet-rises : (ws : List ℕ) → Rises n 0 (packet_flits lane n ws)
  packet-rises [] = tt
  packet-rises (w ∷ []) = (inr (refl, omega arith), tt)
  packet-rises (w ∷ v ∷ ws) = (inr (refl, omega arith), later-rises 1 (v ∷ ws))

  later-below : (i : ℕ) (ws : List ℕ) → AreBelow (n + 1) (later_flits lane n i ws)
  later-below i [] = tt
  later-below i (w ∷ []) = (omega arith, tt)
  later-below i (w ∷ v ∷ ws) = (omega arith, later-below (i + 1) (v ∷ ws))

  packet-below : (ws : List ℕ) → AreBelow (n + 1) (packet_flits lane n ws)
  packet-below [] = tt
  packet-below (w ∷ []) = (omega arith, tt)
  packet-below (w ∷ v ∷ ws) = (omega arith, later-below 1 (v ∷ ws))

start : (a n : ℕ) → a ≡ 0 → (a < n) ⊎ ((a ≡ n) × (a ≡ 0))
start a n e = grind arith

history-rises : (lane : Lane) {n : ℕ} {b : Bool} {fs : List Flit} → History lane n b fs → Rises 0 0 fs × AreBelow n fs
history-rises lane fresh = (tt, tt)
history-rises lane (packet {n} {fs} ws some few h) =
    let before = history-rises lane h in (
      rises-append 0 0 n fs (packet_flits lane n ws) (start 0 n refl) before.0 before.1 (packet-rises lane n ws),
      below-append n (n + 1) fs (packet_flits lane n ws) (omega arith) before.1 (packet-below lane n ws),
    )
history-rises lane (closed {n} {fs} h) =
    let before = history-rises lane h in (
      rises-append 0 0 n fs _ (start 0 n refl) before.0 before.1 (inr (refl, omega arith), tt),
      below-append n (n + 1) fs _ (omega arith) before.1 (omega arith, tt),
    )

-- a flit that comes before where stamps rise from differs from all of them
none-same : (f : Flit) (n i : ℕ) (fs : List Flit) → (f.packet < n) ⊎ ((f.packet ≡ n) × (f.index < i)) → Rises n i fs
    → AllByRecursion (λ g. same_stamp f g ≡ false) fs
none-same f n i [] h r = tt
none-same f n i (g ∷ gs) h r =
    let first = r.0 in
    let apart : (f.packet < g.packet) ⊎ ((f.packet ≡ g.packet) × (f.index < g.index)) = grind arith in
    let off : same_stamp f g ≡ false =
    elim (number_cases f.packet g.packet) [
      | inl same_packet ↦ elim (number_cases f.index g.index) [
        | inl same_index ↦ let p = same_packet.1 in let q = same_index.1 in
            absurd (elim apart [
              | inl less ↦ (let l = less in omega arith)
              | inr more ↦ (let m = more.1 in omega arith)
            ])
        | inr other ↦ rw (same_packet.0, other.0)
      ]
      | inr other ↦ rw other.0
    ] in
    let onward : (f.packet < g.packet) ⊎ ((f.packet ≡ g.packet) × (f.index < g.index + 1)) = grind arith in
    (off, none-same f g.packet (g.index + 1) gs onward r.1)

pub rises-distinct : (n i : ℕ) (fs : List Flit) → Rises n i fs → IsDistinct same_stamp fs
unfolding IsDistinct
rises-distinct n i [] r = tt
rises-distinct n i (f ∷ fs) r = (
  none-same f f.packet (f.index + 1) fs (inr (refl, omega arith)) r.1,
  rises-distinct f.packet (f.index + 1) fs r.1,
)

bare-rises : (n i : ℕ) (fs : List Flit) → Rises n i fs → Rises n i (map bare fs)
bare-rises n i [] r = tt
bare-rises n i (f ∷ fs) r = (r.0, bare-rises f.packet (f.index + 1) fs r.1)

pub accepted_once : (s : Shape) (net : Network) → Sound s net → (lane : Lane)
    → IsDistinct same_stamp (lane_injected net lane)
accepted_once s net sound lane = rises-distinct 0 0 (lane_injected net lane)
    (history-rises lane (sound.histories lane)).0

pub cut_once : (s : Shape) (net : Network) → Sound s net → LanesCut s net → (lane : Lane) (c : ℕ) → HasLane s lane
    → Owns s lane.class c → OwnsAlone s lane.class c
    → IsDistinct same_stamp (delivered s net lane ++ underway s net lane c)
cut_once s net sound cut lane c there owned alone =
    subst (λ fs. IsDistinct same_stamp fs) (sym (cut lane c there owned alone))
    (rises-distinct 0 0 (map bare (lane_injected net lane))
    (bare-rises 0 0 (lane_injected net lane) (history-rises lane (sound.histories lane)).0))
