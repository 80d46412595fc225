-- The flits of a packet: whole, of its lane, closed once.
use Rattle.std.proofs.Common.{◌≡◌, ℕ, ◌+◌, ◌<◌, Bool, true, false, cond, ◌⊎◌, inl, inr, ◌==◌, ◌&&◌, List, [], ◌∷◌}
use Rattle.std.proofs.Common.{length, All, refl, sym, ap, ◌∙◌, arith}
use Rattle.std.proofs.lemmas.List.Elements.{All-nil, All-cons}
use Rattle.std.proofs.lemmas.List.Sums.{sum_by-cons}
use Rattle.worm_flit.specs.declared.Lane.{Lane}
use Rattle.worm_flit.specs.declared.Kind.TheVariants.{Head, Body, Tail, Single}
use Rattle.worm_flit.specs.declared.Flit.{Flit}
use Rattle.worm_flit.specs.Stamps.{bare, of_lane}
use Rattle.worm_flit.specs.Kinds.{closes}
use Rattle.worm_flit.specs.Packets.{flit, later_flits, packet_flits}
use Rattle.worm_theory.specs.Worm.{Between, Within, Runs}
use Rattle.worm_theory.proofs.Places.{number_cases}
use Rattle.worm_theory.specs.Steps.{packets_in, has_mark}

later-runs : (lane : Lane) (n i w : ℕ) (ws : List ℕ) (g : Flit) → g.lane ≡ lane → g.packet ≡ n → g.index + 1 ≡ i
    → Runs (Within g) (later_flits lane n i (w ∷ ws)) Between
later-runs lane n i w [] g l k e = ((refl, sym l, sym k, sym e), refl)
later-runs lane n i w (v ∷ ws) g l k e =
    ((refl, sym l, sym k, sym e), later-runs lane n (i + 1) v ws (bare (flit lane n i Body w)) refl refl refl)

pub packet-runs : (lane : Lane) (n : ℕ) (ws : List ℕ) → Runs Between (packet_flits lane n ws) Between
packet-runs lane n [] = refl
packet-runs lane n (w ∷ []) = ((refl, refl), refl)
packet-runs lane n (w ∷ v ∷ ws) = ((refl, refl), later-runs lane n 1 v ws (bare (flit lane n 0 Head w)) refl refl refl)

-- what holds of every flit of the lane's packet holds of each
module _ (P : Flit → Type 0) (lane : Lane) (n : ℕ) (each : (f : Flit) → f.lane ≡ lane → P f) where
  later-all : (i : ℕ) (ws : List ℕ) → All P (later_flits lane n i ws)
  later-all i [] = All-nil P
  later-all i (w ∷ []) = All-cons P (flit lane n i Tail w) [] (each (flit lane n i Tail w) refl) (All-nil P)
  later-all i (w ∷ v ∷ ws) = All-cons P (flit lane n i Body w) (later_flits lane n (i + 1) (v ∷ ws))
      (each (flit lane n i Body w) refl) (later-all (i + 1) (v ∷ ws))

  pub packet-all : (ws : List ℕ) → All P (packet_flits lane n ws)
  packet-all [] = All-nil P
  packet-all (w ∷ []) = All-cons P (flit lane n 0 Single w) [] (each (flit lane n 0 Single w) refl) (All-nil P)
  packet-all (w ∷ v ∷ ws) = All-cons P (flit lane n 0 Head w) (later_flits lane n 1 (v ∷ ws))
      (each (flit lane n 0 Head w) refl) (later-all 1 (v ∷ ws))

-- of one lane all flits are, or none
abbrev pub is_same_lane : Lane → Lane → Bool
is_same_lane other lane = (lane.src == other.src) && (lane.dst == other.dst) && (lane.class == other.class)

pub same_lane_cases : (other lane : Lane)
    → ((is_same_lane other lane ≡ true) × (other ≡ lane)) ⊎ (is_same_lane other lane ≡ false)
same_lane_cases other lane =
    elim (number_cases lane.src other.src) [
      | inl a ↦ elim (number_cases lane.dst other.dst) [
        | inl b ↦ elim (number_cases lane.class other.class) [
          | inl d ↦ inl (rw (a.0, b.0, d.0), sym (λ i. record { src = a.1 i; dst = b.1 i; class = d.1 i }))
          | inr d ↦ inr (rw (a.0, b.0, d.0))
        ]
        | inr b ↦ inr (rw (a.0, b.0))
      ]
      | inr a ↦ inr (rw a.0)
    ]

module _ (other lane : Lane) (n : ℕ) where
  later-own : is_same_lane other lane ≡ true → (i : ℕ) (ws : List ℕ)
      → of_lane other (later_flits lane n i ws) ≡ later_flits lane n i ws
  later-own e i [] = refl
  later-own e i (w ∷ []) = rw e
  later-own e i (w ∷ v ∷ ws) = rw e (ap (λ fs. flit lane n i Body w ∷ fs) (later-own e (i + 1) (v ∷ ws)))

  pub packet-own : is_same_lane other lane ≡ true → (ws : List ℕ)
      → of_lane other (packet_flits lane n ws) ≡ packet_flits lane n ws
  packet-own e [] = refl
  packet-own e (w ∷ []) = rw e
  packet-own e (w ∷ v ∷ ws) = rw e (ap (λ fs. flit lane n 0 Head w ∷ fs) (later-own e 1 (v ∷ ws)))

  later-others : is_same_lane other lane ≡ false → (i : ℕ) (ws : List ℕ) → of_lane other (later_flits lane n i ws) ≡ []
  later-others e i [] = refl
  later-others e i (w ∷ []) = rw e
  later-others e i (w ∷ v ∷ ws) = rw e (later-others e (i + 1) (v ∷ ws))

  pub packet-others : is_same_lane other lane ≡ false → (ws : List ℕ) → of_lane other (packet_flits lane n ws) ≡ []
  packet-others e [] = refl
  packet-others e (w ∷ []) = rw e
  packet-others e (w ∷ v ∷ ws) = rw e (later-others e 1 (v ∷ ws))

module _ (lane : Lane) (n : ℕ) where
  later-closes : (i w : ℕ) (ws : List ℕ) → packets_in (later_flits lane n i (w ∷ ws)) ≡ 1
  later-closes i w [] = refl
  later-closes i w (v ∷ ws) = sum_by-cons (λ (f : Flit). cond (closes f.kind) 1 0) (flit lane n i Body w)
      (later_flits lane n (i + 1) (v ∷ ws)) ∙ ap (λ m. 0 + m) (later-closes (i + 1) v ws)

  pub packet-closes : (ws : List ℕ) → 0 < length ws → packets_in (packet_flits lane n ws) ≡ 1
  packet-closes [] h = absurd (omega arith)
  packet-closes (w ∷ []) h = refl
  packet-closes (w ∷ v ∷ ws) h = sum_by-cons (λ (f : Flit). cond (closes f.kind) 1 0) (flit lane n 0 Head w)
      (later_flits lane n 1 (v ∷ ws)) ∙ ap (λ m. 0 + m) (later-closes 1 v ws)

  later-unmarked : (i : ℕ) (ws : List ℕ) → has_mark (later_flits lane n i ws) ≡ false
  later-unmarked i [] = refl
  later-unmarked i (w ∷ []) = refl
  later-unmarked i (w ∷ v ∷ ws) = later-unmarked (i + 1) (v ∷ ws)

  pub packet-unmarked : (ws : List ℕ) → has_mark (packet_flits lane n ws) ≡ false
  packet-unmarked [] = refl
  packet-unmarked (w ∷ []) = refl
  packet-unmarked (w ∷ v ∷ ws) = later-unmarked 1 (v ∷ ws)
