-- How a source keeps each lane's flits in order.
use Rattle.std.proofs.Common.{ℕ, zero, suc, ◌+◌, ◌*◌, ◌≤◌, ◌<◌, ◌≡◌, ◌≢◌, ◌==◌, Bool, true, false, ◌&&◌, List, [], ◌∷◌}
use Rattle.std.proofs.Common.{◌++◌, length, slice_index_or, slice_set, replicate, All, refl, ap, sym, subst, arith}
use Rattle.std.proofs.Common.{append-nil, inl, inr}
use Rattle.std.proofs.lemmas.Grind.{get_or-set_at}
use Rattle.std.proofs.lemmas.Bool.{eq-eqb, ne_eqb, cases_eq}
use Rattle.std.proofs.lemmas.Nat.{same_from_place, rows}
use Rattle.std.proofs.Math.ListN.{length-set}
use Rattle.std.proofs.lemmas.List.{get_or-set_same, get_or-set_other, get_or-replicate, length-replicate}
use Rattle.std.proofs.lemmas.List.Elements.{filter-append, All-append}
use Rattle.worm_flit.specs.declared.Lane.{Lane}
use Rattle.worm_flit.specs.declared.Flit.{Flit}
use Rattle.worm_flit.specs.Packets.{History, PacketState, closed, fresh, later_flits, mark, packet, packet_flits}
use Rattle.worm_flit.specs.Stamps.{is_of_lane, of_lane}
use Rattle.worm_term.specs.Lanes.{lane_of}
use Rattle.worm_term.specs.Queue.{QueueState, empty_queue, appended}
use Rattle.worm_term.specs.Source.{SourceState, IsSource, IsFrom, IsOpen, InOrder, fresh_lane, classes, lane_at}
use Rattle.worm_term.specs.Source.{next_number, with_packet, source_state, after_offer, after_close}
use Rattle.worm_term.specs.declared.source.LaneState.{LaneState}

-- all flits are of this lane
abbrev pub OfLane : Lane → List Flit → Type 0
OfLane lane [] = Unit {0}
OfLane lane (f ∷ fs) = (f.lane ≡ lane) × OfLane lane fs

later_flits-lane : (lane : Lane) (n i : ℕ) (ws : List ℕ) → OfLane lane (later_flits lane n i ws)
later_flits-lane lane n i [] = tt
later_flits-lane lane n i (w ∷ []) = (refl, tt)
later_flits-lane lane n i (w ∷ v ∷ ws) = (refl, later_flits-lane lane n (i + 1) (v ∷ ws))

packet_flits-lane : (lane : Lane) (n : ℕ) (ws : List ℕ) → OfLane lane (packet_flits lane n ws)
packet_flits-lane lane n [] = tt
packet_flits-lane lane n (w ∷ []) = (refl, tt)
packet_flits-lane lane n (w ∷ v ∷ ws) = (refl, later_flits-lane lane n 1 (v ∷ ws))

-- the two are one lane
abbrev same_lane : Lane → Lane → Bool
same_lane a b = (a.src == b.src) && (a.dst == b.dst) && (a.class == b.class)

same_lane-refl : (lane : Lane) → same_lane lane lane ≡ true
same_lane-refl lane = rw (
  eq-eqb lane.src lane.src refl,
  eq-eqb lane.dst lane.dst refl,
  eq-eqb lane.class lane.class refl,
) refl

keeps_own : (lane : Lane) (fs : List Flit) → OfLane lane fs → of_lane lane fs ≡ fs
keeps_own lane [] all = refl
keeps_own lane (f ∷ fs) all =
    let here : is_of_lane lane f ≡ true = rw all.0 (same_lane-refl lane) in
    rw (here, keeps_own lane fs all.1) refl

drops_other : (lane other : Lane) (fs : List Flit) → same_lane lane other ≡ false → OfLane lane fs
    → of_lane other fs ≡ []
drops_other lane other [] differs all = refl
drops_other lane other (f ∷ fs) differs all =
    let here : same_lane f.lane other ≡ false = rw all.0 differs in
    rw here (drops_other lane other fs differs all.1)

of_lane-append : (lane : Lane) (xs ys : List Flit) → of_lane lane (xs ++ ys) ≡ of_lane lane xs ++ of_lane lane ys
of_lane-append lane xs ys = filter-append (is_of_lane lane) xs ys

-- two tests of which one fails
and_false_middle : (a b c : Bool) → b ≡ false → (a && b && c) ≡ false
and_false_middle true b c e = rw e refl
and_false_middle false b c e = refl

differs_by_dst : (node d e class : ℕ) → d ≢ e → same_lane (lane_of node d class) (lane_of node e class) ≡ false
differs_by_dst node d e class ne = and_false_middle (node == node) (d == e) (class == class) (ne_eqb d e ne)

-- a source of which one lane got one more packet
module _ (node nodes classes : ℕ) (queues : List QueueState) (lanes : List LaneState) (d0 c0 : ℕ) (fs : List Flit)
    (is_last : Bool) where
  abbrev had_queue : QueueState
  had_queue = slice_index_or queues c0 empty_queue

  abbrev had_lane : LaneState
  had_lane = slice_index_or lanes (d0 * classes + c0) fresh_lane

  abbrev new_queues : List QueueState
  new_queues = slice_set queues c0 (appended had_queue fs)

  abbrev new_lanes : List LaneState
  new_lanes = slice_set lanes (d0 * classes + c0) (record { next = had_lane.next + 1; closed = is_last })

  abbrev new_lane : LaneState
  new_lane = record { next = had_lane.next + 1; closed = is_last }

  abbrev AfterIt : ℕ → ℕ → Type 0
  AfterIt dst class =
      History (lane_of node dst class)
      (slice_index_or new_lanes (dst * classes + class) fresh_lane).next
      (slice_index_or new_lanes (dst * classes + class) fresh_lane).closed
      (of_lane (lane_of node dst class) (slice_index_or new_queues class empty_queue).injected)

  -- the lane of the packet
  own_lane : d0 < nodes → c0 < classes → length queues ≡ classes → d0 * classes + c0 < length lanes
      → OfLane (lane_of node d0 c0) fs
      → ((xs : List Flit) → History (lane_of node d0 c0) had_lane.next had_lane.closed xs
      → History (lane_of node d0 c0) (had_lane.next + 1) is_last (xs ++ fs))
      → InOrder node nodes classes queues lanes
      → AfterIt d0 c0
  own_lane d_in c_in all_queues line_in own more before =
      let queue_in : c0 < length queues = omega arith in
      rw (
        get_or-set_same queues c0 (appended had_queue fs) empty_queue queue_in,
        get_or-set_same lanes (d0 * classes + c0) new_lane fresh_lane line_in,
        of_lane-append (lane_of node d0 c0) had_queue.injected fs,
        keeps_own (lane_of node d0 c0) fs own,
      )
      (more (of_lane (lane_of node d0 c0) had_queue.injected) (before d0 c0 d_in c_in))

  -- another lane of the class
  beside_it : (dst : ℕ) → dst < nodes → c0 < classes → length queues ≡ classes → dst ≢ d0
      → OfLane (lane_of node d0 c0) fs
      → InOrder node nodes classes queues lanes
      → AfterIt dst c0
  beside_it dst dst_in c_in all_queues other own before =
      let queue_in : c0 < length queues = omega arith in
      let elsewhere : dst * classes + c0 ≢ d0 * classes + c0 =
      λ e. other (same_from_place dst c0 d0 c0 classes c_in c_in e).0 in
      let not_here : d0 ≢ dst = λ e. other (sym e) in
      rw (
        get_or-set_same queues c0 (appended had_queue fs) empty_queue queue_in,
        get_or-set_other lanes (d0 * classes + c0) (dst * classes + c0) new_lane fresh_lane elsewhere,
        of_lane-append (lane_of node dst c0) had_queue.injected fs,
        drops_other (lane_of node d0 c0) (lane_of node dst c0) fs (differs_by_dst node d0 dst c0 not_here) own,
        append-nil,
      )
      (before dst c0 dst_in c_in)

  pub offered_in_order : d0 < nodes → c0 < classes → length queues ≡ classes → d0 * classes + c0 < length lanes
      → OfLane (lane_of node d0 c0) fs
      → ((xs : List Flit) → History (lane_of node d0 c0) had_lane.next had_lane.closed xs
      → History (lane_of node d0 c0) (had_lane.next + 1) is_last (xs ++ fs))
      → InOrder node nodes classes queues lanes
      → InOrder node nodes classes new_queues new_lanes
  offered_in_order d_in c_in all_queues line_in own more before dst class dst_in class_in =
      elim (cases_eq class c0) [
        | inr other ↦
            let elsewhere : dst * classes + class ≢ d0 * classes + c0 =
            λ e. other (same_from_place dst class d0 c0 classes class_in c_in e).1 in
            rw (
              get_or-set_other queues c0 class (appended had_queue fs) empty_queue other,
              get_or-set_other lanes (d0 * classes + c0) (dst * classes + class) new_lane fresh_lane elsewhere,
            )
            (before dst class dst_in class_in)
        | inl same ↦
            subst (λ k. AfterIt dst k) (sym same)
            (elim (cases_eq dst d0) [
              | inr other ↦ beside_it dst dst_in c_in all_queues other own before
              | inl here ↦ subst (λ d. AfterIt d c0) (sym here) (own_lane d_in c_in all_queues line_in own more before)
            ])
      ]

all_from : (node nodes class : ℕ) (lane : Lane) (fs : List Flit) → lane.src ≡ node → lane.dst < nodes
    → lane.class ≡ class → OfLane lane fs → All (IsFrom node nodes class) fs
all_from node nodes class lane [] here there same all k d below = absurd (omega (arith, below))
all_from node nodes class lane (f ∷ fs) here there same all zero d below =
    subst (λ l. IsFrom node nodes class (record f { lane = l })) (sym all.0)
    (record { src_here = here; dst_there = there; of_class = same })
all_from node nodes class lane (f ∷ fs) here there same all (suc k) d below =
    all_from node nodes class lane fs here there same all.1 k d (omega arith)

offered_owned : (node nodes classes : ℕ) (queues : List QueueState) (lane : Lane) (fs : List Flit) → lane.src ≡ node
    → lane.dst < nodes → lane.class < length queues → OfLane lane fs
    → ((class : ℕ) → class < classes → All (IsFrom node nodes class) (slice_index_or queues class empty_queue).injected)
    → (class : ℕ) → class < classes → All (IsFrom node nodes class)
    (slice_index_or (slice_set queues lane.class (appended (slice_index_or queues lane.class empty_queue) fs)) class
    empty_queue).injected
offered_owned node nodes classes queues lane fs here there class_in all before class below =
    elim (cases_eq class lane.class) [
      | inr other ↦ rw (get_or-set_other queues lane.class class
          (appended (slice_index_or queues lane.class empty_queue) fs) empty_queue other) (before class below)
      | inl same ↦
          rw (get_or-set_at queues lane.class class
          (appended (slice_index_or queues lane.class empty_queue) fs) empty_queue same class_in)
          (All-append (IsFrom node nodes class) (slice_index_or queues lane.class empty_queue).injected fs
          (subst (λ k. All (IsFrom node nodes class) (slice_index_or queues k empty_queue).injected) same
          (before class below))
          (all_from node nodes class lane fs here there (sym same) all))
    ]

pub offered_sound : (s : SourceState) (lane : Lane) (fs : List Flit) (is_last : Bool)
    → IsSource s → IsOpen s lane → OfLane lane fs
    → ((xs : List Flit) → History lane (next_number s lane) false xs
    → History lane (next_number s lane + 1) is_last (xs ++ fs))
    → IsSource (with_packet s lane fs is_last)
offered_sound s lane fs is_last sound is_open own more = record {
  all_queues = rw length-set sound.all_queues;
  all_lanes = rw length-set sound.all_lanes;
  in_order =
      let line_in : lane.dst * classes s + lane.class < length s.lanes = let dst_in = is_open.dst_in in let class_in =
      is_open.class_in in let all = sound.all_lanes in grind (arith, rows) in
      let from_here : lane ≡ lane_of s.node lane.dst lane.class =
      ap (λ n. lane_of n lane.dst lane.class) is_open.from_here in
      offered_in_order s.node s.nodes (classes s) s.queues s.lanes lane.dst lane.class fs is_last is_open.dst_in
      is_open.class_in sound.all_queues line_in
      (subst (λ l. OfLane l fs) from_here own)
      (λ xs before.
      let had : History lane (next_number s lane) false xs =
      subst (λ b. History lane (next_number s lane) b xs) is_open.open_yet
      (subst (λ l. History l (next_number s lane) (lane_at s lane).closed xs) (sym from_here) before) in
      subst (λ l. History l (next_number s lane + 1) is_last (xs ++ fs)) from_here (more xs had))
      sound.in_order;
  owned =
      let class_in : lane.class < length s.queues = let below = is_open.class_in in let all = sound.all_queues in
      omega arith in
      offered_owned s.node s.nodes (classes s) s.queues lane fs is_open.from_here is_open.dst_in class_in own
      sound.owned;
}

pub offer_sound : (s : SourceState) (p : PacketState) → IsSource s → IsOpen s p.lane → 1 ≤ length p.words
    → length p.words ≤ 32 → IsSource (after_offer s p)
offer_sound s p sound is_open some few =
    offered_sound s p.lane (packet_flits p.lane (next_number s p.lane) p.words) false sound is_open
    (packet_flits-lane p.lane (next_number s p.lane) p.words)
    (λ xs before. packet p.words some few before)

pub close_sound : (s : SourceState) (lane : Lane) → IsSource s → IsOpen s lane → IsSource (after_close s lane)
close_sound s lane sound is_open =
    offered_sound s lane (mark lane (next_number s lane) ∷ []) true sound is_open (refl, tt)
    (λ xs before. closed before)

pub fresh_sound : (node nodes : ℕ) (channels : List ℕ) (classes : ℕ) (queues : List QueueState) (lanes : List LaneState)
    → classes ≡ length channels → queues ≡ replicate classes empty_queue
    → lanes ≡ replicate (nodes * classes) fresh_lane
    → IsSource (source_state node nodes channels queues lanes)
fresh_sound node nodes channels classes queues lanes is_count all_empty all_fresh = record {
  all_queues = rw all_empty (rw length-replicate is_count);
  all_lanes = rw all_fresh (rw length-replicate (ap (λ n. nodes * n) is_count));
  in_order = λ dst class dst_in class_in.
      let class_below : class < classes = rw is_count class_in in
      let line_in : dst * length channels + class < nodes * classes = rw is_count (grind (arith, rows)) in
      rw (
        all_empty,
        all_fresh,
        get_or-replicate classes class empty_queue empty_queue class_below,
        get_or-replicate (nodes * classes) (dst * length channels + class) fresh_lane fresh_lane line_in,
      ) fresh;
  owned = λ class class_in.
      let class_below : class < classes = rw is_count class_in in
      rw (all_empty, get_or-replicate classes class empty_queue empty_queue class_below)
      (λ k d below. absurd (omega (arith, below)));
}
