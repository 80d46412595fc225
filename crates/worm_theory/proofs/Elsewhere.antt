-- A sound network holds flits of a lane only at the lane's places.
use Rattle.std.proofs.Common.{ℕ, ◌≡◌, ◌≢◌, ◌*◌, ⊎_elim, inl, inr, List, [], ◌∷◌, length, All, arith, refl, ap, sym, ◌∙◌}
use Rattle.std.proofs.Common.{subst}
use Rattle.std.proofs.lemmas.Bool.{cases_eq}
use Rattle.std.proofs.lemmas.List.Elements.{All-head, All-tail}
use Rattle.worm_flit.specs.declared.Lane.{Lane}
use Rattle.worm_flit.specs.declared.Flit.{Flit}
use Rattle.worm_flit.specs.Stamps.{on_channel}
use Rattle.worm_mesh.specs.Address.{AreRadices}
use Rattle.worm_mesh.proofs.Digits.{AreLarge, AreLarge-from_radices}
use Rattle.worm_mesh.proofs.Neighbours.{neighbour_of-some}
use Rattle.worm_route.specs.Route.{port_of}
use Rattle.worm_route.specs.Places.{Buffer, Link, IsPlaceOf}
use Rattle.worm_route.proofs.Onward.{onward, port_arrived}
use Rattle.worm_theory.specs.Shape.{Shape, HasLane, Owns, Enters}
use Rattle.worm_theory.specs.Network.{Network}
use Rattle.worm_theory.specs.Sound.{Sound, InBuffer, Leaves, IsFrom}
use Rattle.worm_theory.specs.Cut.{held}
use Rattle.worm_theory.proofs.Places.{number_cases}
use Rattle.worm_theory.proofs.Packets.{same_lane_cases}
use Rattle.worm_theory.proofs.Cut.{held-cons}
use Rattle.worm_theory.specs.ShapeOf.{shape_of}
use Rattle.worm_theory.specs.LaneMoves.{NoneElsewhere, LanesAreNowhereElse}
use Rattle.worm_theory.proofs.Stands.{entered_place, left_place, in_node}

-- a list none of whose flits can be of the lane
none_held : (lane : Lane) (P : Flit → Type 0) (fs : List Flit) → All P fs → ((f : Flit) → P f → lane ≡ f.lane → ⊥)
    → held lane fs ≡ []
none_held lane P [] h never = refl
none_held lane P (f ∷ fs) h never =
    elim (same_lane_cases lane f.lane) [
      | inl on ↦ absurd (never f (All-head P f fs h) on.1)
      | inr off ↦ rw (held-cons lane f fs, off) (none_held lane P fs (All-tail P f fs h) never)
    ]

-- a link has none of the lane on a channel that the lane's class does not own
none_on : (s : Shape) (lane : Lane) (x o v : ℕ) (fs : List Flit) → All (Leaves s x o) fs → (Owns s lane.class v → ⊥)
    → held lane (on_channel v fs) ≡ []
none_on s lane x o v [] h off = refl
none_on s lane x o v (f ∷ fs) h off =
    let rest = none_on s lane x o v fs (All-tail (Leaves s x o) f fs h) off in
    elim (number_cases v f.vc) [
      | inl here ↦ elim (same_lane_cases lane f.lane) [
        | inl on ↦
            let owned = (All-head (Leaves s x o) f fs h).owned in
            absurd (off (rw (on.1, here.1) owned))
        | inr other ↦ rw (here.0, held-cons lane f (on_channel v fs), other) rest
      ]
      | inr away ↦ rw away.0 rest
    ]

none_elsewhere : (ks counts : List ℕ) (depth : ℕ) (net : Network) (lane : Lane) → AreRadices ks
    → HasLane (shape_of ks counts depth) lane → Sound (shape_of ks counts depth) net
    → NoneElsewhere ks (shape_of ks counts depth) net lane
none_elsewhere ks counts depth net lane mesh there sound =
    record {
      buffers = buffers;
      links = links;
      sinks = sinks;
      sources = sources;
      buffer_channels = buffer_channels;
      link_channels = link_channels;
    }
  where
    l : AreLarge ks
    l = AreLarge-from_radices ks mesh.radices

    buffers : (x p v : ℕ) → (IsPlaceOf ks lane.src lane.dst (Buffer x p) → ⊥) → held lane (net.buffer x p v) ≡ []
    buffers x p v off = none_held lane (InBuffer (shape_of ks counts depth) x p v) (net.buffer x p v)
        (sound.buffered x p v)
        (λ f h own. off (entered_place ks counts depth l lane there
        (subst (λ m. Enters (shape_of ks counts depth) m x p) (sym own) h.1.entered)))

    leaving : (x o : ℕ) → (f : Flit) → Leaves (shape_of ks counts depth) x o f → lane ≡ f.lane
        → (q : ℕ) × Enters (shape_of ks counts depth) lane x q × (port_of ks x lane.dst ≡ o)
    leaving x o f h own = (
      h.from_port,
      subst (λ m. Enters (shape_of ks counts depth) m x h.from_port)
          (sym own) h.entered,
      ap (λ (m : Lane). port_of ks x m.dst) own ∙ h.by_port,
    )

    links : (x o : ℕ) → o ≢ 2 * length ks → (IsPlaceOf ks lane.src lane.dst (Link x o) → ⊥)
        → held lane (net.out x o) ≡ []
    links x o inner off = none_held lane (Leaves (shape_of ks counts depth) x o) (net.out x o) (sound.leaving x o)
        (λ f h own.
        let at = leaving x o f h own in
        let port = at.2 in
        ⊎_elim
        (λ last. let ended : port_of ks x lane.dst ≡ 2 * length ks = rw last (port_arrived ks lane.dst) in
        inner (sym port ∙ ended))
        (λ ne.
        let on = onward ks l x lane.dst (in_node ks counts depth l lane there at.1) there.destination ne in
        let linked = neighbour_of-some ks x (port_of ks x lane.dst) on.to l on.joined in
        off (left_place ks counts depth l lane there
        (record { from_port = at.0; entered = at.1; by_port = port; to = on.to; linked = rw port at linked })))
        (cases_eq x lane.dst))

    sinks : (x : ℕ) → x ≢ lane.dst → held lane (net.out x (2 * length ks)) ≡ []
    sinks x ne = none_held lane (Leaves (shape_of ks counts depth) x (2 * length ks)) (net.out x (2 * length ks))
        (sound.leaving x (2 * length ks))
        (λ f h own.
        let at = leaving x (2 * length ks) f h own in
        let port = at.2 in
        let mesh_port = (onward ks l x lane.dst
        (in_node ks counts depth l lane there at.1) there.destination ne).joined.mesh_port in
        absurd (omega arith))

    sources : (x class : ℕ) → (x ≡ lane.src → class ≡ lane.class → ⊥) → held lane (net.unfed x class) ≡ []
    sources x class off = none_held lane (IsFrom (shape_of ks counts depth) x class) (net.unfed x class)
        (sound.unfed x class)
        (λ f h own. off (sym (ap (λ (m : Lane). m.src) own ∙ h.own))
        (sym (ap (λ (m : Lane). m.class) own ∙ h.own_class)))

    buffer_channels : (x p v : ℕ) → (Owns (shape_of ks counts depth) lane.class v → ⊥)
        → held lane (net.buffer x p v) ≡ []
    buffer_channels x p v off = none_held lane (InBuffer (shape_of ks counts depth) x p v) (net.buffer x p v)
        (sound.buffered x p v)
        (λ f h own. off (subst (λ m. Owns (shape_of ks counts depth) m.class v) (sym own) h.1.owned))

    link_channels : (x o v : ℕ) → (Owns (shape_of ks counts depth) lane.class v → ⊥)
        → held lane (on_channel v (net.out x o)) ≡ []
    link_channels x o v off = none_on (shape_of ks counts depth) lane x o v (net.out x o) (sound.leaving x o) off

pub nowhere_else : (ks counts : List ℕ) (depth : ℕ) (net : Network) → AreRadices ks
    → Sound (shape_of ks counts depth) net → LanesAreNowhereElse ks (shape_of ks counts depth) net
nowhere_else ks counts depth net mesh sound = λ lane there. none_elsewhere ks counts depth net lane mesh there sound
