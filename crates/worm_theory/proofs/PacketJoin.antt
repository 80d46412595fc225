-- The packets of the joined network are cut, and one channel alone of a node is within each.
use Rattle.std.proofs.Common.{◌≡◌, ℕ, ◌<◌, ◌⊎◌, inl, inr, List, ◌++◌, length, Some, None, refl, sym, ap, subst, ◌∙◌}
use Rattle.std.proofs.Common.{arith, length-append}
use Rattle.worm_flit.specs.declared.Lane.{Lane}
use Rattle.worm_flit.specs.declared.Flit.{Flit}
use Rattle.worm_flit.specs.Stamps.{on_channel}
use Rattle.worm_theory.specs.Worm.{Within, worm_after}
use Rattle.worm_theory.specs.Shape.{Shape, IsMesh, HasLane, Enters}
use Rattle.worm_theory.specs.Network.{Network}
use Rattle.worm_theory.specs.Sound.{Sound, OthersIdle}
use Rattle.worm_theory.specs.PacketCut.{packet_held, packet_store, packet_line, PacketsHold, OneWithin}
use Rattle.worm_theory.proofs.Places.{number_cases}
use Rattle.worm_theory.proofs.Routes.{enters_once, enters_node}
use Rattle.worm_theory.proofs.Cut.{past}
use Rattle.worm_theory.proofs.PacketLists.{packet-append}
use Rattle.worm_theory.proofs.PacketOnly.{PacketCutHolds}
use Rattle.worm_theory.proofs.PacketKeeps.{cut_of, to_packets}
use Rattle.worm_theory.specs.Parts.{Parts}
use Rattle.worm_theory.specs.PartSound.{PartSound, PartQueues}
use Rattle.worm_theory.specs.Join.{IsRest, joined_parts}
use Rattle.worm_theory.proofs.PartLists.{within_from, packet_equal, packet_sent, some_on}
use Rattle.worm_theory.proofs.Passing.{past_grown, all_grown, with_source}
use Rattle.worm_theory.proofs.OneChannel.{last_passes, one_channel, node_queue}

module _ (s : Shape) (mesh : IsMesh s) (old : Network) (was : Sound s old) (hold : PacketsHold s old)
    (idle : OthersIdle s old) (parts : Parts) (sound : PartSound s old parts) (queues : PartQueues s old parts)
    (flits : ℕ → ℕ → List Flit) (credits : ℕ → ℕ → List ℕ) (rest : IsRest s parts flits credits) where
  module _ (lane : Lane) (k : ℕ) (there : HasLane s lane) where
    links : (x o y : ℕ) → s.neighbour x o ≡ Some y →
        packet_held lane k (parts.near.out x o) ≡
        packet_held lane k (parts.arrived y (s.opposite o)) ++ packet_held lane k (flits x o)
    links x o y linked =
        ap (packet_held lane k) (rest.links x o y linked).sent ∙
        packet-append lane k (parts.arrived y (s.opposite o)) (flits x o)

    ends : (x o : ℕ) → s.neighbour x o ≡ None →
        packet_held lane k (flits x o) ≡ packet_held lane k (parts.near.out x o)
    ends x o none = ap (packet_held lane k) (rest.ends x o none).0

    sends : (x p : ℕ) → Enters s lane x p → packet_held lane k (parts.near.out x (s.next_port x lane.dst)) ≡
        packet_held lane k (old.out x (s.next_port x lane.dst)) ++ packet_held lane k (parts.departed x p)
    sends x p from =
        packet_sent lane k (parts.near.out x (s.next_port x lane.dst)) (old.out x (s.next_port x lane.dst))
        (parts.departed x p) (queues.sends lane there x p from)

    each_queue : (x p : ℕ) → Enters s lane x p →
        packet_held lane k (parts.departed x p) ++ packet_store s parts.near lane k x p ≡
        packet_store s old lane k x p ++ packet_held lane k (parts.arrived x p)
    each_queue x p from =
        node_queue s mesh old was hold idle parts sound queues flits credits rest lane there k x p
        (one_channel s mesh old was hold idle parts sound queues flits credits rest lane there k x p from)

    -- what is past a node of the packet was past it at the split, or left the node since
    pub packet_past_grown : (x p : ℕ) → Enters s lane x p →
        past s mesh lane there (packet_store s (joined_parts parts flits credits) lane k)
        (packet_line (joined_parts parts flits credits) lane k) (s.hops x lane.dst) x ≡
        past s mesh lane there (packet_store s old lane k) (packet_line old lane k) (s.hops x lane.dst) x ++
        packet_held lane k (parts.departed x p)
    packet_past_grown x p from =
        past_grown s mesh lane there (packet_store s old lane k)
        (packet_store s (joined_parts parts flits credits) lane k) (packet_line old lane k)
        (packet_line (joined_parts parts flits credits) lane k)
        (λ a b. packet_held lane k (parts.near.out a b)) (λ a b. packet_held lane k (parts.arrived a b))
        (λ a b. packet_held lane k (parts.departed a b))
        links ends sends each_queue (s.hops x lane.dst) x p from (enters_node s mesh lane there from) refl

    join_packet : PacketCutHolds s mesh lane there k (joined_parts parts flits credits)
    join_packet =
        let source = queues.sources lane.src lane.class in
        let grown =
        all_grown s mesh lane there (packet_store s old lane k)
        (packet_store s (joined_parts parts flits credits) lane k) (packet_line old lane k)
        (packet_line (joined_parts parts flits credits) lane k)
        (λ a b. packet_held lane k (parts.near.out a b)) (λ a b. packet_held lane k (parts.arrived a b))
        (λ a b. packet_held lane k (parts.departed a b))
        links ends sends each_queue in
        with_source _ _ (packet_held lane k (parts.arrived lane.src s.terminal))
        (packet_held lane k (old.unfed lane.src lane.class))
        (packet_held lane k (parts.near.unfed lane.src lane.class)) (packet_held lane k source.0)
        (packet_held lane k (old.injected lane.src lane.class))
        (packet_held lane k (parts.near.injected lane.src lane.class)) grown
        (packet_equal lane k (parts.arrived lane.src s.terminal) (parts.near.unfed lane.src lane.class)
        (old.unfed lane.src lane.class) source.0 (source.2 lane refl refl))
        (cut_of s mesh old was hold lane k there)
        (ap (packet_held lane k) source.1 ∙ packet-append lane k (old.injected lane.src lane.class) source.0)

    -- what left a channel since the split, or what is past it at the split, is of the packet that it is within
    left_or_was : (x p v : ℕ) (g : Flit) → lane ≡ g.lane → k ≡ g.packet →
        worm_after (parts.near.last_out x p v) ≡ Within g →
        (worm_after (old.last_out x p v) ≡ Within g) ⊎
        (0 < length (packet_held lane k (on_channel v (parts.departed x p))))
    left_or_was x p v g own num e =
        elim (within_from (on_channel v (parts.departed x p)) (worm_after (old.last_out x p v)) g
        (sym (queues.lasts x p v) ∙ e)) [
          | inl then ↦ inl then
          | inr left ↦ inr (rw (own, num) left)
        ]

    -- what left a channel was there or came to it
    left_came : (x p v : ℕ) → 0 < length (packet_held lane k (on_channel v (parts.departed x p))) →
        0 < length (packet_held lane k (old.buffer x p v ++ on_channel v (parts.arrived x p)))
    left_came x p v some =
        let queue = ap (λ fs. length (packet_held lane k fs)) (queues.inputs x p v) in
        let sum =
        ap length (packet-append lane k (on_channel v (parts.departed x p)) (parts.near.buffer x p v)) ∙
        length-append (packet_held lane k (on_channel v (parts.departed x p)))
        (packet_held lane k (parts.near.buffer x p v)) in
        omega arith

    never_two : (x p v w : ℕ) (g g2 : Flit) → Enters s lane x p → v < s.vcs → w < s.vcs → (v ≡ w → ⊥) →
        lane ≡ g.lane → k ≡ g.packet → lane ≡ g2.lane → k ≡ g2.packet →
        worm_after (parts.near.last_out x p v) ≡ Within g → worm_after (parts.near.last_out x p w) ≡ Within g2 → ⊥
    never_two x p v w g g2 from l m apart own num own2 num2 e e2 =
        let one = one_channel s mesh old was hold idle parts sound queues flits credits rest lane there k x p from in
        elim (left_or_was x p v g own num e) [
          | inl then ↦ elim (left_or_was x p w g2 own2 num2 e2) [
            | inl then2 ↦ apart (hold.one x p v p w g g2 then then2 (sym own ∙ own2) (sym num ∙ num2)).1
            | inr left2 ↦ one.within v w l m apart (g, then, own, num) (left_came x p w left2)
          ]
          | inr left ↦ elim (left_or_was x p w g2 own2 num2 e2) [
            | inl then2 ↦ one.within w v m l (λ same. apart (sym same)) (g2, then2, own2, num2) (left_came x p v left)
            | inr left2 ↦ one.alone v w l m apart (left_came x p v left) (left_came x p w left2)
          ]
        ]

    past_within : (x p v : ℕ) (g : Flit) → Enters s lane x p → worm_after (parts.near.last_out x p v) ≡ Within g →
        lane ≡ g.lane → k ≡ g.packet →
        0 < length (past s mesh lane there (packet_store s (joined_parts parts flits credits) lane k)
        (packet_line (joined_parts parts flits credits) lane k) (s.hops x lane.dst) x)
    past_within x p v g from e own num =
        let then_past =
        past s mesh lane there (packet_store s old lane k) (packet_line old lane k) (s.hops x lane.dst) x in
        let sum =
        ap length (packet_past_grown x p from) ∙ length-append then_past (packet_held lane k (parts.departed x p)) in
        elim (left_or_was x p v g own num e) [
          | inl then ↦ let some = hold.within_past lane k there x p v g from then own num in omega arith
          | inr left ↦
              let some = some_on lane k v (parts.departed x p) left in
              omega arith
        ]

  join_one : OneWithin parts.near
  join_one x p v p2 v2 g g2 e e2 own num =
      let here = last_passes s x p v (parts.near.last_out x p v) g e (sound.passed x p v) in
      let here2 = last_passes s x p2 v2 (parts.near.last_out x p2 v2) g2 e2 (sound.passed x p2 v2) in
      let once =
      enters_once s mesh g.lane here.lane_there here.entered
      (subst (λ l. Enters s l x p2) (sym own) here2.entered) refl in
      let port = once.1 in
      let last2 : worm_after (parts.near.last_out x p v2) ≡ Within g2 =
      ap (λ q. worm_after (parts.near.last_out x q v2)) port ∙ e2 in (
        port,
        elim (number_cases v v2) [
          | inl same ↦ same.1
          | inr apart ↦
              absurd (never_two g.lane g.packet here.lane_there x p v v2 g g2 here.entered here.owned.0 here2.owned.0
              apart.1 refl refl own num e last2)
        ],
      )

  pub join_packets : PacketsHold s (joined_parts parts flits credits)
  join_packets = record {
    cut = to_packets s mesh (joined_parts parts flits credits) (λ lane k there. join_packet lane k there);
    one = join_one;
    within_past = λ lane k there x p v g from e own num. past_within lane k there x p v g from e own num;
  }
