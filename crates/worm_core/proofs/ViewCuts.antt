-- The view of a lane is what the theory has under way: so with what was delivered it is what was injected, of lanes and
-- packets.
use Rattle.std.proofs.Common.{ℕ, zero, suc, ◌≡◌, ◌+◌, ◌-◌, ◌*◌, ◌<◌, ◌≤◌, ◌==◌, ◌&&◌, true, false, cond, nat_le, nat_lt}
use Rattle.std.proofs.Common.{◌⊎◌, inl, inr, List, [], ◌∷◌, ◌++◌, length, drop, sum, map, min, arith, refl, ap, sym}
use Rattle.std.proofs.Common.{subst, ◌∙◌}
use Rattle.std.specs.Prelude.{flat_map, slice_index, All}
use Rattle.std.specs.List.{range_with_len}
use Rattle.std.proofs.lemmas.Bool.{ne_eqb, eqb-true, eq-eqb}
use Rattle.std.proofs.lemmas.List.{map-append, append-nil}
use Rattle.std.proofs.lemmas.List.Elements.{All-head, All-tail}
use Rattle.worm_flit.specs.declared.Lane.{Lane}
use Rattle.worm_flit.specs.declared.Flit.{Flit}
use Rattle.worm_flit.specs.Channels.{first_channel, owner_of, owns}
use Rattle.worm_flit.specs.Stamps.{bare, is_of_lane, of_lane, on_channel}
use Rattle.worm_flit.proofs.Owners.{owner-from_owns, owns-from_owner}
use Rattle.worm_mesh.specs.Address.{node_count, has_neighbour}
use Rattle.worm_mesh.proofs.Neighbours.{no_port}
use Rattle.worm_route.specs.Places.{Place as Spot, Source as AtSource, Buffer as AtBuffer, Link as AtLink, places_of}
use Rattle.worm_theory.specs.Shape.{HasLane, Owns, OwnsAlone}
use Rattle.worm_theory.specs.Sound.{Leaves}
use Rattle.worm_theory.specs.Cut.{held}
use Rattle.worm_theory.specs.PacketCut.{packet_held, joined}
use Rattle.worm_theory.proofs.Cut.{held-append}
use Rattle.worm_theory.proofs.Channels.{owned_by}
use Rattle.worm_theory.proofs.PacketLists.{packet_one, packet-cons, packet-append}
use Rattle.worm_theory.proofs.Places.{bool_cases}
use Rattle.worm_theory.specs.LaneMoves.{lane_held}
use Rattle.worm_theory.specs.PacketPlaces.{packet_at}
use Rattle.worm_region.specs.Shape.{net_shape}
use Rattle.worm_region.specs.State.{NetState, IsNet, shape, network_of, router_at, sink_at, queue_of, input_of, link_of}
use Rattle.worm_core.specs.LaneView.{channels_of, at_place, held_at, underway_view, joined_view, IsLaneCut}
use Rattle.worm_core.specs.LaneView.{ArePacketsCut}
use Rattle.worm_core.specs.declared.view.Held.{Held}
use Rattle.worm_core.specs.declared.view.Place.{Place}
use Rattle.worm_core.specs.declared.view.Place.TheVariants.{Source, Buffer, Link}
use Rattle.worm_core.proofs.Headline.{delivers}
use Rattle.worm_core.proofs.ViewLists.{channel-more, class_within, none_each}

flits : List Held → List Flit
flits hs = map (λ (h : Held). h.flit) hs

range_cases : (a b n : ℕ) → (n < a) ⊎ (((a ≤ n) × (n < b)) ⊎ (b ≤ n))
range_cases a b n = grind arith

within_true : (a b d : ℕ) → a ≤ b → b < d → (nat_le a b && nat_lt b d) ≡ true
within_true a b d p q = grind arith

within_low : (a b d : ℕ) → (nat_le a b && nat_lt b d) ≡ true → a ≤ b
within_low a b d e = grind arith

within_high : (a b d : ℕ) → (nat_le a b && nat_lt b d) ≡ true → b < d
within_high a b d e = grind arith

-- the channels of a class among all

module _ (counts : List ℕ) (class : ℕ) (there : class < length counts) (f : ℕ → List Flit) where
  abbrev first : ℕ
  first = first_channel counts class

  abbrev count : ℕ
  count = slice_index counts class

  abbrev of_class : ℕ → List Flit
  of_class v = cond (owner_of counts v == class) (f v) []

  own : (v : ℕ) → first ≤ v → v < first + count → of_class v ≡ f v
  own v low high =
      let test : owns counts class v ≡ true =
      within_true (first_channel counts class) v (first_channel counts class + slice_index counts class) low high in
      let is : owner_of counts v ≡ class = owner-from_owns counts class v test in
      rw (eq-eqb (owner_of counts v) class is) refl

  others : (v : ℕ) → v < sum counts → (first ≤ v → v < first + count → ⊥) → of_class v ≡ []
  others v v_in out =
      let no : owner_of counts v ≡ class → ⊥ = λ e.
      let test = owns-from_owner counts class v v_in e in
      out (within_low (first_channel counts class) v (first_channel counts class + slice_index counts class) test)
      (within_high (first_channel counts class) v (first_channel counts class + slice_index counts class) test) in
      rw (ne_eqb (owner_of counts v) class no) refl

  abbrev up_to : ℕ → List Flit
  up_to m = flat_map f (range_with_len (first_channel counts class) m)

  joined_up : (n : ℕ) → n ≤ sum counts → joined n of_class ≡ up_to (min (n - first) count)
  joined_up zero fits = let none : min (0 - first) count ≡ 0 = omega arith in ap up_to (sym none)
  joined_up (suc n) fits =
      let rest = joined_up n (omega arith) in
      elim (range_cases first (first + count) n) [
        | inl before ↦
            let less : n < first = before in
            let same : min (n - first) count ≡ min (suc n - first) count = omega arith in
            ap (λ fs. joined n of_class ++ fs) (others n (omega arith) (λ low high. let at_least : first ≤ n = low in
            omega arith)) ∙ (append-nil (joined n of_class) ∙ (rest ∙ ap up_to same))
        | inr more ↦ elim more [
          | inl inside ↦
              let low : first ≤ n = inside.0 in
              let high : n < first + count = inside.1 in
              let here : min (n - first) count ≡ n - first = omega arith in
              let next : n + 1 - first ≡ min (suc n - first) count = omega arith in
              ap (λ fs. fs ++ of_class n) (rest ∙ ap up_to here)
              ∙ (ap (λ fs. up_to (n - first) ++ fs) (own n low high)
              ∙ (sym (channel-more f first n low) ∙ ap up_to next))
          | inr after ↦
              let past : first + count ≤ n = after in
              let same : min (n - first) count ≡ min (suc n - first) count = omega arith in
              ap (λ fs. joined n of_class ++ fs)
              (others n (omega arith) (λ low high. let below : n < first + count = high in omega arith))
              ∙ (append-nil (joined n of_class) ∙ (rest ∙ ap up_to same))
        ]
      ]

  pub joined_class : joined (sum counts) of_class ≡ flat_map f (channels_of counts class)
  joined_class =
      let within = class_within counts class there in
      let all : min (sum counts - first) count ≡ count = omega arith in
      joined_up (sum counts) (omega arith) ∙ ap up_to all

-- what is read of flits, piece by piece

flits-at_place : (place : Place) (fs : List Flit) → flits (at_place place fs) ≡ fs
unfolding flits
flits-at_place place [] = refl
flits-at_place place (f ∷ fs) = ap (λ gs. f ∷ gs) (flits-at_place place fs)

module _ (lane : Lane) (read : List Flit → List Flit) (none : read [] ≡ []) (joins : (fs gs : List Flit)
    → read (fs ++ gs) ≡ read fs ++ read gs) (absorbs : (fs : List Flit) → read (of_lane lane fs) ≡ read fs) where
  read_flits : {X : Type 0} (g : X → List Held) (xs : List X)
      → read (flits (flat_map g xs)) ≡ flat_map (λ x. read (flits (g x))) xs
  unfolding flits
  read_flits g [] = none
  read_flits g (x ∷ xs) =
      ap read (map-append (λ (h : Held). h.flit) (g x) (flat_map g xs))
      ∙ (joins (flits (g x)) (flits (flat_map g xs)) ∙ ap (λ fs. read (flits (g x)) ++ fs) (read_flits g xs))

  read_place : (place : Place) (fs : List Flit) → read (flits (at_place place (of_lane lane fs))) ≡ read fs
  read_place place fs = ap read (flits-at_place place (of_lane lane fs)) ∙ absorbs fs

  read_channels : (place : ℕ → Place) (fs : ℕ → List Flit) (vs : List ℕ)
      → read (flits (flat_map (λ v. at_place (place v) (of_lane lane (fs v))) vs)) ≡ flat_map (λ v. read (fs v)) vs
  read_channels place fs vs =
      read_flits (λ (v : ℕ). at_place (place v) (of_lane lane (fs v))) vs
      ∙ (λ t. flat_map (λ v. read_place (place v) (fs v) t) vs)

  -- so what the view has is what each place has, read
  read_view : (s : NetState) (holds : Spot → List Flit)
      → ((spot : Spot) → read (flits (held_at s lane spot)) ≡ holds spot)
      → read (joined_view s lane (underway_view s lane)) ≡ read (sink_at s lane.dst).delivered
      ++ flat_map holds (places_of s.mesh lane.src lane.dst)
  unfolding flits
  read_view s holds each =
      joins (sink_at s lane.dst).delivered (flits (underway_view s lane)) ∙
      ap (λ fs. read (sink_at s lane.dst).delivered ++ fs)
      (read_flits (held_at s lane) (places_of s.mesh lane.src lane.dst)
      ∙ (λ t. flat_map (λ spot. each spot t) (places_of s.mesh lane.src lane.dst)))

packet_absorbs : (lane : Lane) (k : ℕ) (fs : List Flit) → packet_held lane k (of_lane lane fs) ≡ packet_held lane k fs
packet_absorbs lane k [] = refl
packet_absorbs lane k (f ∷ fs) =
    let rest = packet_absorbs lane k fs in
    elim (bool_cases (is_of_lane lane f)) [
      | inl of ↦
          let kept : of_lane lane (f ∷ fs) ≡ f ∷ of_lane lane fs = rw of refl in
          ap (packet_held lane k) kept ∙ (packet-cons lane k f (of_lane lane fs)
          ∙ (ap (λ gs. packet_one lane k f ++ gs) rest ∙ sym (packet-cons lane k f fs)))
      | inr other ↦
          let left : of_lane lane (f ∷ fs) ≡ of_lane lane fs = rw other refl in
          let passed : packet_held lane k (f ∷ fs) ≡ packet_held lane k fs = rw other refl in
          ap (packet_held lane k) left ∙ (rest ∙ sym passed)
    ]

held_absorbs : (lane : Lane) (fs : List Flit) → held lane (of_lane lane fs) ≡ held lane fs
held_absorbs lane [] = refl
held_absorbs lane (f ∷ fs) =
    let rest = held_absorbs lane fs in
    elim (bool_cases (is_of_lane lane f)) [
      | inl of ↦
          let kept : of_lane lane (f ∷ fs) ≡ f ∷ of_lane lane fs = rw of refl in
          let again : held lane (f ∷ of_lane lane fs) ≡ bare f ∷ held lane (of_lane lane fs) = rw of refl in
          let first : held lane (f ∷ fs) ≡ bare f ∷ held lane fs = rw of refl in
          ap (held lane) kept ∙ (again ∙ (ap (λ gs. bare f ∷ gs) rest ∙ sym first))
      | inr other ↦
          let left : of_lane lane (f ∷ fs) ≡ of_lane lane fs = rw other refl in
          let passed : held lane (f ∷ fs) ≡ held lane fs = rw other refl in
          ap (held lane) left ∙ (rest ∙ sym passed)
    ]

class_of : (lane : Lane) (f : Flit) → is_of_lane lane f ≡ true → f.lane.class ≡ lane.class
class_of lane f of = grind arith

-- at the terminal there is no link
no_line : (s : NetState) (x o : ℕ) → (o == 2 * length s.mesh) ≡ true → (link_of s x o).flits ≡ []
no_line s x o at =
    let same : o ≡ 2 * length s.mesh = eqb-true o (2 * length s.mesh) at in
    let none : has_neighbour s.mesh x o ≡ false = no_port s.mesh x o (omega arith) in
    rw none refl

module _ (s : NetState) (lane : Lane) where
  abbrev buffers : ℕ → ℕ → ℕ → List Flit
  buffers x p v = (input_of (router_at s x) p v).buffer

  abbrev line : ℕ → ℕ → List Flit
  line x o = (link_of s x o).flits

  abbrev unfed : List Flit
  unfed = drop (queue_of s lane.src lane.class).fed (queue_of s lane.src lane.class).injected

  abbrev range : List ℕ
  range = channels_of s.channels lane.class

  -- packet by packet
  module _ (k : ℕ) (there : lane.class < length s.channels) where
    abbrev read : List Flit → List Flit
    read = packet_held lane k

    packet_place : (spot : Spot) → packet_held lane k (flits (held_at s lane spot))
        ≡ packet_at (shape s) (network_of s) lane k spot
    unfolding network_of net_shape
    packet_place AtSource = read_place lane read refl (packet-append lane k) (packet_absorbs lane k) Source unfed
    packet_place (AtBuffer x p) =
        read_channels lane read refl (packet-append lane k) (packet_absorbs lane k) (λ v. Buffer x p v)
        (buffers x p) range ∙
        sym (joined_class s.channels lane.class there (λ v. packet_held lane k (buffers x p v)))
    packet_place (AtLink x o) =
        let along = read_channels lane read refl (packet-append lane k) (packet_absorbs lane k) (λ v. Link x o v)
        (λ v. on_channel v (line x o)) range in
        elim (bool_cases (o == 2 * length s.mesh)) [
          | inl at ↦ rw at (along ∙ (ap (λ fs. flat_map (λ v. packet_held lane k (on_channel v fs)) range)
              (no_line s x o at) ∙ none_each (λ (v : ℕ). packet_held lane k (on_channel v [])) range
              (λ v. refl)))
          | inr off ↦ rw off (along ∙ sym (joined_class s.channels lane.class there
              (λ v. packet_held lane k (on_channel v (line x o)))))
        ]

  -- of a lane whose class owns one channel
  module _ (net : IsNet s) (there : lane.class < length s.channels) (one : slice_index s.channels lane.class ≡ 1) where
    abbrev c : ℕ
    c = first_channel s.channels lane.class

    owns_first : Owns (shape s) lane.class c
    unfolding net_shape
    owns_first = owned_by s.channels lane.class c
        (within_true c c (c + slice_index s.channels lane.class) (omega arith) (omega arith))

    alone : OwnsAlone (shape s) lane.class c
    unfolding net_shape
    alone v owned =
        let test = owns-from_owner s.channels lane.class v owned.0 owned.1 in
        let low : c ≤ v = within_low c v (c + slice_index s.channels lane.class) test in
        let high : v < c + slice_index s.channels lane.class =
        within_high c v (c + slice_index s.channels lane.class) test in
        omega arith

    one_line : (x o : ℕ) (fs : List Flit) → All (Leaves (shape s) x o) fs → held lane (on_channel c fs) ≡ held lane fs
    one_line x o [] all = refl
    one_line x o (f ∷ fs) all =
        let rest = one_line x o fs (All-tail (Leaves (shape s) x o) f fs all) in
        elim (bool_cases (is_of_lane lane f)) [
          | inl of ↦
              let leaves = All-head (Leaves (shape s) x o) f fs all in
              let class : f.lane.class ≡ lane.class = class_of lane f of in
              let on : f.vc ≡ c = alone f.vc (subst (λ (k : ℕ). Owns (shape s) k f.vc) class leaves.owned) in
              let here : on_channel c (f ∷ fs) ≡ f ∷ on_channel c fs = rw (eq-eqb c f.vc (sym on)) refl in
              let kept : held lane (f ∷ on_channel c fs) ≡ bare f ∷ held lane (on_channel c fs) = rw of refl in
              let first : held lane (f ∷ fs) ≡ bare f ∷ held lane fs = rw of refl in
              ap (held lane) here ∙ (kept ∙ (ap (λ gs. bare f ∷ gs) rest ∙ sym first))
          | inr other ↦
              let passed : held lane (f ∷ fs) ≡ held lane fs = rw other refl in
              let skipped : held lane (on_channel c (f ∷ fs)) ≡ held lane (on_channel c fs) =
              elim (bool_cases (c == f.vc)) [
                | inl on ↦ rw on (rw other refl)
                | inr off ↦ rw off refl
              ] in
              skipped ∙ (rest ∙ sym passed)
        ]

    single : (f : ℕ → List Flit) → flat_map f range ≡ f c
    single f = ap (λ (n : ℕ). flat_map f (range_with_len c n)) one ∙ append-nil (f c)

    lane_place : (spot : Spot) → held lane (flits (held_at s lane spot))
        ≡ lane_held (shape s) (network_of s) lane c spot
    unfolding network_of net_shape
    lane_place AtSource = read_place lane (held lane) refl (held-append lane) (held_absorbs lane) Source unfed
    lane_place (AtBuffer x p) =
        read_channels lane (held lane) refl (held-append lane) (held_absorbs lane) (λ v. Buffer x p v)
        (buffers x p) range ∙ single (λ v. held lane (buffers x p v))
    lane_place (AtLink x o) =
        let along = read_channels lane (held lane) refl (held-append lane) (held_absorbs lane) (λ v. Link x o v)
        (λ v. on_channel v (line x o)) range ∙ single (λ v. held lane (on_channel v (line x o))) in
        elim (bool_cases (o == 2 * length s.mesh)) [
          | inl at ↦ rw at (along ∙ ap (λ fs. held lane (on_channel c fs)) (no_line s x o at))
          | inr off ↦ rw off (along ∙ one_line x o (line x o) (rw off at (net.sound.leaving x o)))
        ]

-- what the theory delivers is what the sink has
sunk : (s : NetState) (x : ℕ) → (network_of s).out x (shape s).terminal ≡ (sink_at s x).delivered
unfolding network_of net_shape
sunk s x = let itself : (2 * length s.mesh == 2 * length s.mesh) ≡ true = grind arith in rw itself refl

module _ (s : NetState) (net : IsNet s) (lane : Lane) (src : lane.src < node_count s.mesh)
    (dst : lane.dst < node_count s.mesh) (there : lane.class < length s.channels) where
  has_lane : HasLane (shape s) lane
  unfolding net_shape
  has_lane = record { source = src; destination = dst; class = there }

  pub view_is_cut : IsLaneCut s lane (underway_view s lane)
  unfolding network_of
  view_is_cut one =
      read_view lane (held lane) refl (held-append lane) (held_absorbs lane) s
      (lane_held (shape s) (network_of s) lane (first_channel s.channels lane.class))
      (lane_place s lane net there one) ∙ (
      ap (λ fs. held lane fs ++ flat_map (lane_held (shape s) (network_of s) lane (first_channel s.channels lane.class))
      (places_of s.mesh lane.src lane.dst)) (sym (sunk s lane.dst)) ∙
      (delivers s net).lanes lane (first_channel s.channels lane.class) has_lane (owns_first s lane net there one)
      (alone s lane net there one))

  pub packets_are_cut : ArePacketsCut s lane (underway_view s lane)
  unfolding network_of
  packets_are_cut k =
      read_view lane (packet_held lane k) refl (packet-append lane k) (packet_absorbs lane k) s
      (packet_at (shape s) (network_of s) lane k) (packet_place s lane k there) ∙ (
      ap (λ fs. packet_held lane k fs ++ flat_map (packet_at (shape s) (network_of s) lane k)
      (places_of s.mesh lane.src lane.dst)) (sym (sunk s lane.dst)) ∙
      (delivers s net).packets lane k has_lane)
