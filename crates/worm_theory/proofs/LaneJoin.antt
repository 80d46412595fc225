-- The lanes of the joined network are cut.
use Rattle.std.proofs.Common.{◌≡◌, ℕ, inl, inr, List, [], ◌∷◌, ◌++◌, All, Some, None, refl, sym, ap, subst, ◌∙◌}
use Rattle.std.proofs.lemmas.List.Elements.{All-head, All-tail}
use Rattle.worm_flit.specs.declared.Lane.{Lane}
use Rattle.worm_flit.specs.declared.Flit.{Flit}
use Rattle.worm_flit.specs.Stamps.{on_channel}
use Rattle.worm_theory.specs.Shape.{Shape, IsMesh, HasLane, Owns, OwnsAlone}
use Rattle.worm_theory.specs.Network.{Network}
use Rattle.worm_theory.specs.Cut.{held, lane_store, lane_line, delivered, underway, LanesCut}
use Rattle.worm_theory.proofs.Places.{number_cases}
use Rattle.worm_theory.proofs.Packets.{same_lane_cases}
use Rattle.worm_theory.proofs.Cut.{held-append, held-cons}
use Rattle.worm_theory.proofs.CutKeeps.{split_all}
use Rattle.worm_theory.specs.Parts.{Parts}
use Rattle.worm_theory.specs.PartSound.{PartQueues, ComesBy}
use Rattle.worm_theory.specs.Join.{IsRest, joined_parts}
use Rattle.worm_theory.proofs.Passing.{all_grown, with_source}

module _ (s : Shape) (mesh : IsMesh s) (lane : Lane) (there : HasLane s lane) (c : ℕ)
    (alone : OwnsAlone s lane.class c) where
  -- a lane whose class owns one channel is on that channel
  on_own_channel : (x p : ℕ) (fs : List Flit) → All (ComesBy s x p) fs → held lane (on_channel c fs) ≡ held lane fs
  on_own_channel x p [] h = refl
  on_own_channel x p (f ∷ fs) h =
      let later = on_own_channel x p fs (All-tail (ComesBy s x p) f fs h) in
      elim (number_cases c f.vc) [
        | inl on ↦
            let all : held lane (on_channel c (f ∷ fs)) ≡ held lane (f ∷ on_channel c fs) = rw on.0 refl in
            all ∙ held-cons lane f (on_channel c fs) ∙ rw (later, held-cons lane f fs) refl
        | inr off ↦ elim (same_lane_cases lane f.lane) [
          | inl own ↦
              let comes = All-head (ComesBy s x p) f fs h in
              absurd (off.1 (sym (alone f.vc (subst (λ (l : Lane). Owns s l.class f.vc) (sym own.1) comes.owned))))
          | inr other ↦
              let all : held lane (on_channel c (f ∷ fs)) ≡ held lane (on_channel c fs) = rw off.0 refl in
              all ∙ later ∙ sym (held-cons lane f fs ∙ rw other refl)
        ]
      ]

  module _ (old : Network) (parts : Parts) (queues : PartQueues s old parts) (flits : ℕ → ℕ → List Flit)
      (credits : ℕ → ℕ → List ℕ) (rest : IsRest s parts flits credits) where
    links : (x o y : ℕ) → s.neighbour x o ≡ Some y →
        held lane (parts.near.out x o) ≡ held lane (parts.arrived y (s.opposite o)) ++ held lane (flits x o)
    links x o y linked =
        ap (held lane) (rest.links x o y linked).sent ∙ held-append lane (parts.arrived y (s.opposite o)) (flits x o)

    ends : (x o : ℕ) → s.neighbour x o ≡ None → held lane (flits x o) ≡ held lane (parts.near.out x o)
    ends x o none = ap (held lane) (rest.ends x o none).0

    -- a port is a queue of the lane
    lane_queue : (x p : ℕ) → held lane (parts.departed x p) ++ lane_store parts.near lane c x p ≡
        lane_store old lane c x p ++ held lane (parts.arrived x p)
    lane_queue x p =
        let left = on_own_channel x p (parts.departed x p) (queues.departing x p) in
        let came = on_own_channel x p (parts.arrived x p) (queues.arriving x p) in
        ap (λ fs. fs ++ lane_store parts.near lane c x p) (sym left) ∙
        sym (held-append lane (on_channel c (parts.departed x p)) (parts.near.buffer x p c)) ∙
        ap (held lane) (queues.inputs x p c) ∙
        held-append lane (old.buffer x p c) (on_channel c (parts.arrived x p)) ∙
        ap (λ fs. lane_store old lane c x p ++ fs) came

    pub join_lane : Owns s lane.class c → LanesCut s old →
        delivered s (joined_parts parts flits credits) lane ++ underway s (joined_parts parts flits credits) lane c ≡
        held lane (parts.near.injected lane.src lane.class)
    join_lane owned was =
        let source = queues.sources lane.src lane.class in
        let grown =
        all_grown s mesh lane there (lane_store old lane c) (lane_store (joined_parts parts flits credits) lane c)
        (lane_line old lane) (lane_line (joined_parts parts flits credits) lane)
        (λ a b. held lane (parts.near.out a b)) (λ a b. held lane (parts.arrived a b))
        (λ a b. held lane (parts.departed a b))
        links ends (λ x p from. queues.sends lane there x p from) (λ x p from. lane_queue x p) in
        split_all s mesh lane there c alone (joined_parts parts flits credits) ∙
        with_source _ _ (held lane (parts.arrived lane.src s.terminal)) (held lane (old.unfed lane.src lane.class))
        (held lane (parts.near.unfed lane.src lane.class)) (held lane source.0)
        (held lane (old.injected lane.src lane.class)) (held lane (parts.near.injected lane.src lane.class)) grown
        (source.2 lane refl refl) (sym (split_all s mesh lane there c alone old) ∙ was lane c there owned alone)
        (ap (held lane) source.1 ∙ held-append lane (old.injected lane.src lane.class) source.0)

pub join_lanes : (s : Shape) → IsMesh s → (old : Network) (parts : Parts) → PartQueues s old parts →
    (flits : ℕ → ℕ → List Flit) (credits : ℕ → ℕ → List ℕ) → IsRest s parts flits credits → LanesCut s old →
    LanesCut s (joined_parts parts flits credits)
join_lanes s mesh old parts queues flits credits rest was lane c there owned alone =
    join_lane s mesh lane there c alone old parts queues flits credits rest owned was
