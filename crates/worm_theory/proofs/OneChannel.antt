-- All flits of a packet come to a node on one channel of its port.
use Rattle.std.proofs.Common.{◌≡◌, ℕ, ◌+◌, ◌<◌, ◌≤◌, ◌==◌, inl, inr, List, [], ◌∷◌, ◌++◌, length, All, Option, Some}
use Rattle.std.proofs.Common.{None, IfSome, refl, sym, ap, subst, ◌∙◌, arith, append_assoc, length-append}
use Rattle.std.proofs.lemmas.List.Elements.{All-nil, All-cons, All-head, All-tail, filter-append}
use Rattle.worm_flit.specs.declared.Lane.{Lane}
use Rattle.worm_flit.specs.declared.Flit.{Flit}
use Rattle.worm_flit.specs.Stamps.{on_channel}
use Rattle.worm_theory.specs.Worm.{Within, Runs, worm_after}
use Rattle.worm_theory.specs.Shape.{Shape, IsMesh, HasLane, Owns, Enters, at_source, by_link}
use Rattle.worm_theory.specs.Network.{Network, upstream}
use Rattle.worm_theory.specs.Sound.{Sound, OthersIdle, Passes}
use Rattle.worm_theory.specs.PacketCut.{packet_held, packet_store, packet_line, PacketsHold}
use Rattle.worm_theory.proofs.Places.{number_cases}
use Rattle.worm_theory.proofs.Runs.{Runs-append, Runs-split, nowhere, within-is}
use Rattle.worm_flit.specs.Kinds.{closes}
use Rattle.worm_theory.proofs.Routes.{hop}
use Rattle.worm_theory.proofs.Cut.{ahead, past, ahead-past}
use Rattle.worm_theory.proofs.PacketLists.{IsOn, packet-append, packet_cases, zeros, zeros-append}
use Rattle.worm_theory.proofs.PacketLists.{IsIndexed, joined-two}
use Rattle.worm_theory.proofs.PacketKeeps.{cut_of}
use Rattle.worm_theory.proofs.Histories.{history-indexed, packet-of_lane}
use Rattle.worm_theory.proofs.ChannelLists.{none_of, on-yes, on-other, zeros-two, never_both}
use Rattle.worm_theory.proofs.ChannelLists.{never_within}
use Rattle.worm_theory.proofs.ChannelLines.{stored_none}
use Rattle.worm_theory.specs.Parts.{Parts, opened}
use Rattle.worm_theory.specs.PartSound.{PartSound, PartQueues, ComesBy}
use Rattle.worm_theory.specs.Join.{IsRest}
use Rattle.worm_theory.proofs.PartLists.{Runs-end, packet_equal, packet_sent}
use Rattle.worm_theory.proofs.PortQueue.{packet_queue}

-- the packet that a channel is within passes by it
pub last_passes : (s : Shape) (x p v : ℕ) (last : Option Flit) (g : Flit) → worm_after last ≡ Within g →
    IfSome last (Passes s x p v) → Passes s x p v g
last_passes s x p v None g e h = absurd (nowhere g e)
last_passes s x p v (Some f) g e h =
    let own = ap (λ (r : Flit). r.lane) (within-is (closes f.kind) f g e) in
    record {
      owned = subst (λ (l : Lane). Owns s l.class v) own h.owned;
      lane_there = subst (λ l. HasLane s l) own h.lane_there;
      entered = subst (λ l. Enters s l x p) own h.entered;
    }

-- what is past a node, and stored at it, seen from the next node
passed_on : (past_x past_y store_x store_y line sent left store' came more all : List Flit) →
    past_x ≡ (past_y ++ store_y) ++ line → sent ≡ line ++ left → left ++ store' ≡ store_x ++ came →
    past_x ++ ((store_x ++ came) ++ more) ≡ all →
    past_y ++ (store_y ++ (sent ++ (store' ++ more))) ≡ all
passed_on past_x past_y store_x store_y line sent left store' came more all hops sends queue was =
    rw (
      sends,
      append_assoc line left (store' ++ more),
      ← append_assoc left store' more,
      queue,
      ← append_assoc past_y store_y (line ++ ((store_x ++ came) ++ more)),
      ← append_assoc (past_y ++ store_y) line ((store_x ++ came) ++ more),
      ← hops,
    ) was

-- the same of the source's queue
source_lists : (past store came unfed' unfed accepted all injected whole : List Flit) → all ≡ past ++ store →
    came ++ unfed' ≡ unfed ++ accepted → all ++ unfed ≡ injected → whole ≡ injected ++ accepted →
    past ++ ((store ++ came) ++ unfed') ≡ whole
source_lists past store came unfed' unfed accepted all injected whole order queue was more =
    rw (
      append_assoc store came unfed',
      queue,
      ← append_assoc past store (unfed ++ accepted),
      ← order,
      ← append_assoc all unfed accepted,
      was,
    ) (sym more)

-- and of what came to the next node, the first of what was sent
next_lists : (past store sent came flits tail whole : List Flit) → sent ≡ came ++ flits →
    past ++ (store ++ (sent ++ tail)) ≡ whole → past ++ ((store ++ came) ++ (flits ++ tail)) ≡ whole
next_lists past store sent came flits tail whole order h =
    rw (append_assoc store came (flits ++ tail), ← append_assoc came flits tail, ← order) h

module _ (s : Shape) (mesh : IsMesh s) (old : Network) (was : Sound s old) (hold : PacketsHold s old)
    (idle : OthersIdle s old) (parts : Parts) (sound : PartSound s old parts) (queues : PartQueues s old parts)
    (flits : ℕ → ℕ → List Flit) (credits : ℕ → ℕ → List ℕ) (rest : IsRest s parts flits credits) (lane : Lane)
    (there : HasLane s lane) (k : ℕ) where
  abbrev of_packet : List Flit → List Flit
  of_packet fs = packet_held lane k fs

  abbrev stores : ℕ → ℕ → List Flit
  stores = packet_store s old lane k

  abbrev lines : ℕ → ℕ → List Flit
  lines = packet_line old lane k

  abbrev then_past : ℕ → List Flit
  then_past x = past s mesh lane there stores lines (s.hops x lane.dst) x

  -- all of the packet that its source accepted
  abbrev whole : List Flit
  whole = packet_held lane k (parts.near.injected lane.src lane.class)

  -- what an input channel had at the split, and what came to it since
  abbrev pub came_to : ℕ → ℕ → ℕ → List Flit
  came_to x p v = old.buffer x p v ++ on_channel v (parts.arrived x p)

  -- one channel alone of a port has flits of the packet, or is within it
  pub record OneChannel (x p : ℕ) : Type 0 where
    pub alone : (v w : ℕ) → v < s.vcs → w < s.vcs → (v ≡ w → ⊥) →
        0 < length (packet_held lane k (came_to x p v)) → 0 < length (packet_held lane k (came_to x p w)) → ⊥
    pub within : (v w : ℕ) → v < s.vcs → w < s.vcs → (v ≡ w → ⊥) →
        IsOn lane k (worm_after (old.last_out x p v)) → 0 < length (packet_held lane k (came_to x p w)) → ⊥

  -- what is past a node and what came to it is a beginning of the packet
  abbrev IsBeginning : ℕ → ℕ → Type 0
  IsBeginning x p =
      (more : List Flit) × (then_past x ++ ((stores x p ++ of_packet (parts.arrived x p)) ++ more) ≡ whole)

  whole_indexed : IsIndexed 0 whole
  whole_indexed =
      subst (λ fs. IsIndexed 0 fs) (packet-of_lane lane k (parts.near.injected lane.src lane.class))
      (history-indexed lane k (sound.histories lane))

  in_range : (x p : ℕ) (fs : List Flit) → All (ComesBy s x p) fs → All (λ f. f.vc < s.vcs) fs
  in_range x p [] h = All-nil (λ (f : Flit). f.vc < s.vcs)
  in_range x p (f ∷ fs) h =
      All-cons (λ (g : Flit). g.vc < s.vcs) f fs (All-head (ComesBy s x p) f fs h).owned.0
      (in_range x p fs (All-tail (ComesBy s x p) f fs h))

  -- a port with one channel of the packet is a queue of it
  pub node_queue : (x p : ℕ) → OneChannel x p →
      of_packet (parts.departed x p) ++ packet_store s parts.near lane k x p ≡
      stores x p ++ of_packet (parts.arrived x p)
  node_queue x p one =
      packet_queue lane k s.vcs (parts.departed x p) (parts.arrived x p) (λ v. parts.near.buffer x p v)
      (λ v. old.buffer x p v) (λ v. queues.inputs x p v)
      (in_range x p (parts.departed x p) (queues.departing x p))
      (in_range x p (parts.arrived x p) (queues.arriving x p))
      (λ v w l n apart some. none_of (of_packet (came_to x p w)) (λ some2. one.alone v w l n apart some some2))

  -- At the source a class's first channel gets all.
  fed_none : (v : ℕ) (fs : List Flit) → All (λ f. f.vc ≡ s.first f.lane.class) fs → (v ≡ s.first lane.class → ⊥) →
      of_packet (on_channel v fs) ≡ []
  fed_none v [] h other = refl
  fed_none v (f ∷ fs) h other =
      let later = fed_none v fs (All-tail (λ (g : Flit). g.vc ≡ s.first g.lane.class) f fs h) other in
      elim (number_cases v f.vc) [
        | inl here ↦ elim (packet_cases lane k f) [
          | inl on ↦
              absurd (other (here.1 ∙ All-head (λ (g : Flit). g.vc ≡ s.first g.lane.class) f fs h ∙
              ap (λ (l : Lane). s.first l.class) (sym on.1)))
          | inr off ↦ on-yes lane k v f fs here.0 ∙ rw off.0 later
        ]
        | inr away ↦ on-other lane k v f fs away.0 ∙ later
      ]

  source_none : (v : ℕ) → (v ≡ s.first lane.class → ⊥) → of_packet (came_to lane.src s.terminal v) ≡ []
  source_none v other =
      let fed = fed_none v (parts.arrived lane.src s.terminal) (queues.fed lane.src) other in
      let stored : of_packet (old.buffer lane.src s.terminal v) ≡ [] =
      elim (number_cases (s.owner v) lane.class) [
        | inl own ↦ ap of_packet (idle lane.src v (λ e. other (sym e ∙ ap s.first own.1))).0
        | inr away ↦
            stored_none s lane k lane.src s.terminal v (old.buffer lane.src s.terminal v)
            (was.buffered lane.src s.terminal v) away.1
      ] in
      packet-append lane k (old.buffer lane.src s.terminal v) (on_channel v (parts.arrived lane.src s.terminal)) ∙
      rw (stored, fed) refl

  source_alone : (v w : ℕ) → (v ≡ w → ⊥) → 0 < length (of_packet (came_to lane.src s.terminal v)) →
      0 < length (of_packet (came_to lane.src s.terminal w)) → ⊥
  source_alone v w apart some_v some_w =
      elim (number_cases v (s.first lane.class)) [
        | inl here ↦
            let none = ap length (source_none w (λ e. apart (here.1 ∙ sym e))) in
            absurd (omega arith)
        | inr away ↦ let none = ap length (source_none v away.1) in absurd (omega arith)
      ]

  source_within : (v w : ℕ) → (v ≡ w → ⊥) → IsOn lane k (worm_after (old.last_out lane.src s.terminal v)) →
      0 < length (of_packet (came_to lane.src s.terminal w)) → ⊥
  source_within v w apart on some =
      let passes =
      last_passes s lane.src s.terminal v (old.last_out lane.src s.terminal v) on.0 on.1
      (was.passed lane.src s.terminal v) in
      elim (number_cases v (s.first lane.class)) [
        | inl here ↦ let none = ap length (source_none w (λ e. apart (here.1 ∙ sym e))) in absurd (omega arith)
        | inr away ↦
            let idle_there =
            (idle lane.src v (λ e. away.1 (sym e ∙
            ap s.first (passes.owned.1 ∙ ap (λ (l : Lane). l.class) (sym on.2))))).2 in
            absurd (nowhere on.0 (ap worm_after (sym idle_there) ∙ on.1))
      ]

  source_one : OneChannel lane.src s.terminal
  source_one =
      record { alone = λ v w l n apart. source_alone v w apart; within = λ v w l n apart. source_within v w apart }

  -- what the source fed, and what is yet unfed, is all of the packet
  source_begins : IsBeginning lane.src s.terminal
  source_begins =
      let cut = cut_of s mesh old was hold lane k there in
      let source = queues.sources lane.src lane.class in
      let feeds = source.2 lane refl refl in
      let queue : of_packet (parts.arrived lane.src s.terminal) ++ of_packet (parts.near.unfed lane.src lane.class) ≡
      of_packet (old.unfed lane.src lane.class) ++ of_packet source.0 =
      packet_equal lane k (parts.arrived lane.src s.terminal) (parts.near.unfed lane.src lane.class)
      (old.unfed lane.src lane.class) source.0 feeds in
      let order : ahead s mesh lane there stores lines (s.hops lane.src lane.dst) lane.src s.terminal ≡
      then_past lane.src ++ stores lane.src s.terminal =
      ahead-past s mesh lane there stores lines (s.hops lane.src lane.dst) lane.src s.terminal in
      let all : whole ≡ of_packet (old.injected lane.src lane.class) ++ of_packet source.0 =
      ap of_packet source.1 ∙ packet-append lane k (old.injected lane.src lane.class) source.0 in (
        of_packet (parts.near.unfed lane.src lane.class),
        source_lists (then_past lane.src) (stores lane.src s.terminal) (of_packet (parts.arrived lane.src s.terminal))
            (of_packet (parts.near.unfed lane.src lane.class)) (of_packet (old.unfed lane.src lane.class))
            (of_packet source.0)
            (ahead s mesh lane there stores lines (s.hops lane.src lane.dst) lane.src s.terminal)
            (of_packet (old.injected lane.src lane.class)) whole order queue cut all,
      )

  -- From a node to the next: all that it sent of the packet comes after what was then past the link and in its
  -- buffers.
  module _ (x p y : ℕ) (from : Enters s lane x p) (linked : s.neighbour x (s.next_port x lane.dst) ≡ Some y)
      (one : OneChannel x p) (begins : IsBeginning x p) where
    abbrev o : ℕ
    o = s.next_port x lane.dst

    abbrev q : ℕ
    q = s.opposite (s.next_port x lane.dst)

    hops_on : then_past x ≡ (then_past y ++ stores y q) ++ lines x o
    hops_on =
        let one_less = hop s mesh lane there y from linked in
        rw (
          one_less,
          linked,
          ahead-past s mesh lane there stores lines (s.hops y lane.dst) y
              (s.opposite (s.next_port x lane.dst)),
        )

    abbrev tail : List Flit
    tail = packet_store s parts.near lane k x p ++ begins.0

    sent_begins : then_past y ++ (stores y q ++ (of_packet (parts.near.out x o) ++ tail)) ≡ whole
    sent_begins =
        let sends =
        packet_sent lane k (parts.near.out x o) (old.out x o) (parts.departed x p)
        (queues.sends lane there x p from) in
        passed_on (then_past x) (then_past y) (stores x p) (stores y q) (lines x o) (of_packet (parts.near.out x o))
        (of_packet (parts.departed x p)) (packet_store s parts.near lane k x p)
        (of_packet (parts.arrived x p)) begins.0 whole
        hops_on sends (node_queue x p one) begins.1

    sent_indexed : IsIndexed 0 (then_past y ++ (stores y q ++ (of_packet (parts.near.out x o) ++ tail)))
    sent_indexed = subst (λ fs. IsIndexed 0 fs) (sym sent_begins) whole_indexed

    -- what a channel of the link had, and all that was sent on it since
    abbrev sent_on : ℕ → List Flit
    sent_on v = old.buffer y q v ++ on_channel v (parts.near.out x o)

    sent_runs : (v : ℕ) → Runs (worm_after (old.last_out y q v)) (sent_on v) (upstream parts.near x o v)
    sent_runs v =
        let halves =
        Runs-split (old.buffer y q v) (on_channel v (old.out x o)) (worm_after (old.last_out y q v))
        (upstream old x o v) (was.links x o y v linked) in
        let met = Runs-end (old.buffer y q v) (worm_after (old.last_out y q v)) halves.0 halves.1 in
        Runs-append (old.buffer y q v) (on_channel v (parts.near.out x o)) (worm_after (old.last_out y q v))
        (opened old y q v) (upstream parts.near x o v) (rw met halves.1) (sound.departures x o y v linked)

    room : (v w : ℕ) → v < s.vcs → w < s.vcs → (v ≡ w → ⊥) →
        zeros (of_packet (sent_on v)) + zeros (of_packet (sent_on w)) ≤
        zeros (stores y q ++ (of_packet (parts.near.out x o) ++ tail))
    room v w l n apart =
        let line = of_packet (parts.near.out x o) in
        let all = zeros-append (stores y q) (of_packet (parts.near.out x o) ++ tail) in
        let all2 = zeros-append (of_packet (parts.near.out x o)) tail in
        let stored = joined-two s.vcs v w (λ u. of_packet (old.buffer y q u)) l n apart in
        let on_link = zeros-two lane k v w (parts.near.out x o) apart in
        let part_v =
        ap zeros (packet-append lane k (old.buffer y q v) (on_channel v (parts.near.out x o))) ∙
        zeros-append (of_packet (old.buffer y q v)) (of_packet (on_channel v (parts.near.out x o))) in
        let part_w =
        ap zeros (packet-append lane k (old.buffer y q w) (on_channel w (parts.near.out x o))) ∙
        zeros-append (of_packet (old.buffer y q w)) (of_packet (on_channel w (parts.near.out x o))) in
        omega arith

    entered : Enters s lane y (s.opposite (s.next_port x lane.dst))
    entered = by_link {p = p} from linked

    sent_alone : (v w : ℕ) → v < s.vcs → w < s.vcs → (v ≡ w → ⊥) → 0 < length (of_packet (sent_on v)) →
        0 < length (of_packet (sent_on w)) → ⊥
    sent_alone v w l n apart =
        never_both lane k (then_past y) (stores y q ++ (of_packet (parts.near.out x o) ++ tail)) sent_indexed
        (sent_on v)
        (sent_on w) (worm_after (old.last_out y q v)) (worm_after (old.last_out y q w)) (upstream parts.near x o v)
        (upstream parts.near x o w)
        (sent_runs v) (sent_runs w) (room v w l n apart)
        (λ g e own num. hold.within_past lane k there y q v g entered e own num)
        (λ g e own num. hold.within_past lane k there y q w g entered e own num)
        (λ g g2 e e2 own num own2 num2. apart (hold.one y q v q w g g2 e e2 (sym own ∙ own2) (sym num ∙ num2)).1)

    sent_within : (v w : ℕ) → v < s.vcs → w < s.vcs → (v ≡ w → ⊥) →
        IsOn lane k (worm_after (old.last_out y q v)) → 0 < length (of_packet (sent_on w)) → ⊥
    sent_within v w l n apart on =
        let both = room v w l n apart in
        never_within lane k (then_past y) (stores y q ++ (of_packet (parts.near.out x o) ++ tail)) sent_indexed
        (hold.within_past lane k there y q v on.0 entered on.1 on.2 on.3) (sent_on w) (worm_after (old.last_out y q w))
        (upstream parts.near x o w)
        (sent_runs w) (omega arith)
        (λ other. apart (hold.one y q v q w on.0 other.0 on.1 other.1 (sym on.2 ∙ other.2) (sym on.3 ∙ other.3)).1)

    -- what came was sent
    came_sent : (v : ℕ) → 0 < length (of_packet (came_to y q v)) → 0 < length (of_packet (sent_on v))
    came_sent v some =
        let order = (rest.links x o y linked).sent in
        let split = filter-append (λ (g : Flit). v == g.vc) (parts.arrived y q) (flits x o) in
        let all : sent_on v ≡ came_to y q v ++ on_channel v (flits x o) =
        rw (order, split) (sym (append_assoc (old.buffer y q v) (on_channel v (parts.arrived y q))
        (on_channel v (flits x o)))) in
        let sum =
        ap (λ fs. length (of_packet fs)) all ∙
        ap length (packet-append lane k (came_to y q v) (on_channel v (flits x o))) ∙
        length-append (of_packet (came_to y q v)) (of_packet (on_channel v (flits x o))) in
        omega arith

    next_one : OneChannel y q
    next_one = record {
      alone = λ v w l n apart some some2. sent_alone v w l n apart (came_sent v some) (came_sent w some2);
      within = λ v w l n apart on some. sent_within v w l n apart on (came_sent w some);
    }

    next_begins : IsBeginning y q
    next_begins =
        let order = (rest.links x o y linked).sent in
        let split : of_packet (parts.near.out x o) ≡ of_packet (parts.arrived y q) ++ of_packet (flits x o) =
        ap of_packet order ∙ packet-append lane k (parts.arrived y q) (flits x o) in (
          of_packet (flits x o) ++ tail,
          next_lists (then_past y) (stores y q) (of_packet (parts.near.out x o))
              (of_packet (parts.arrived y q)) (of_packet (flits x o)) tail whole split sent_begins,
        )

  both_at : {x p : ℕ} → Enters s lane x p → OneChannel x p × IsBeginning x p
  both_at at_source = (source_one, source_begins)
  both_at (by_link {x} {p} {y} from linked) =
      let up = both_at from in
      (next_one x p y from linked up.0 up.1, next_begins x p y from linked up.0 up.1)

  pub one_channel : (x p : ℕ) → Enters s lane x p → OneChannel x p
  one_channel x p from = (both_at from).0
