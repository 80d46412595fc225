-- The packets' cut, its links read channel by channel.
use Rattle.std.proofs.Common.{◌≡◌, ℕ, zero, suc, ◌+◌, ◌<◌, ◌≤◌, cond, ◌==◌, inl, inr, List, [], ◌∷◌, ◌++◌, length, All}
use Rattle.std.proofs.Common.{Some, refl, sym, ap, subst, ◌∙◌, arith, append_assoc, length-append}
use Rattle.std.proofs.lemmas.List.Elements.{All-nil, All-cons, All-head, All-tail}
use Rattle.worm_flit.specs.declared.Lane.{Lane}
use Rattle.worm_flit.specs.declared.Flit.{Flit}
use Rattle.worm_flit.specs.Stamps.{on_channel}
use Rattle.worm_theory.specs.Worm.{Between, worm_after}
use Rattle.worm_theory.specs.Shape.{Shape, IsMesh, HasLane, Enters, at_source, by_link}
use Rattle.worm_theory.specs.Network.{Network, upstream}
use Rattle.worm_theory.specs.Sound.{Sound, InBuffer, Leaves}
use Rattle.worm_theory.specs.Cut.{underway_from}
use Rattle.worm_theory.specs.PacketCut.{packet_held, joined, packet_store, packet_line, PacketsHold}
use Rattle.worm_theory.specs.ChannelCut.{class_joined, class_store, class_line}
use Rattle.worm_theory.proofs.Cut.{ahead, ahead-split, past, ahead-past, behind_link}
use Rattle.worm_theory.proofs.PacketLists.{IsOn, packet-append, packet-cons, packet_cases, joined-same, zeros}
use Rattle.worm_theory.proofs.PacketLists.{zeros-append, IsIndexed, joined-two}
use Rattle.worm_theory.proofs.PacketOnly.{PacketCutHolds, indexed}
use Rattle.worm_theory.proofs.ChannelLists.{none_of, on-yes, on-other, joined_line, zeros-two, never_both, never_within}
use Rattle.worm_theory.proofs.Places.{number_cases}
use Rattle.worm_theory.proofs.Runs.{nowhere}

-- what a link holds of the packet, all its channels joined in rising order
abbrev pub channel_line : Shape → Network → Lane → ℕ → ℕ → ℕ → List Flit
channel_line s net lane k x o = joined s.vcs (λ v. packet_held lane k (on_channel v (net.out x o)))

-- A channel has flits of a packet only where the packet's class owns it.
module _ (s : Shape) (lane : Lane) (k : ℕ) where
  pub stored_none : (x p v : ℕ) (fs : List Flit) → All (InBuffer s x p v) fs → (s.owner v ≡ lane.class → ⊥)
      → packet_held lane k fs ≡ []
  stored_none x p v [] h other = refl
  stored_none x p v (f ∷ fs) h other =
      elim (packet_cases lane k f) [
        | inl on ↦ absurd (other ((All-head (InBuffer s x p v) f fs h).1.owned.1
            ∙ ap (λ (l : Lane). l.class) (sym on.1)))
        | inr off ↦ rw (
          packet-cons lane k f fs,
          off.0,
        ) (stored_none x p v fs (All-tail (InBuffer s x p v) f fs h) other)
      ]

  line_none : (x o v : ℕ) (fs : List Flit) → All (Leaves s x o) fs → (s.owner v ≡ lane.class → ⊥)
      → packet_held lane k (on_channel v fs) ≡ []
  line_none x o v [] h other = refl
  line_none x o v (f ∷ fs) h other =
      let rest = line_none x o v fs (All-tail (Leaves s x o) f fs h) other in
      elim (number_cases v f.vc) [
        | inl here ↦ elim (packet_cases lane k f) [
          | inl on ↦ absurd (other (ap s.owner here.1 ∙ (All-head (Leaves s x o) f fs h).owned.1
              ∙ ap (λ (l : Lane). l.class) (sym on.1)))
          | inr off ↦ rw (on-yes lane k v f fs here.0, off.0) rest
        ]
        | inr away ↦ rw (on-other lane k v f fs away.0) rest
      ]

  joined_by_class : (lists : ℕ → List Flit) → ((v : ℕ) → (s.owner v ≡ lane.class → ⊥) → lists v ≡ [])
      → joined s.vcs lists ≡ class_joined s lane.class lists
  joined_by_class lists none =
      joined-same s.vcs lists (λ v. cond (s.owner v == lane.class) (lists v) []) (λ v _.
      elim (number_cases (s.owner v) lane.class) [ inl own ↦ rw own.0 refl | inr other ↦ rw other.0 (none v other.1) ])

  -- so the channels of the class have all of it
  pub store_by_class : (net : Network) → Sound s net → (x p : ℕ)
      → packet_store s net lane k x p ≡ class_store s net lane k x p
  store_by_class net sound x p = joined_by_class (λ v. packet_held lane k (net.buffer x p v))
      (λ v other. stored_none x p v (net.buffer x p v) (sound.buffered x p v) other)

  pub line_by_class : (net : Network) → Sound s net → (x o : ℕ)
      → channel_line s net lane k x o ≡ class_line s net lane k x o
  line_by_class net sound x o = joined_by_class (λ v. packet_held lane k (on_channel v (net.out x o)))
      (λ v other. line_none x o v (net.out x o) (sound.leaving x o) other)

module _ (s : Shape) (mesh : IsMesh s) (lane : Lane) (there : HasLane s lane) (k : ℕ) (net : Network)
    (sound : Sound s net) (hold : PacketsHold s net) where
  pub cut_ahead : PacketCutHolds s mesh lane there k net
  cut_ahead =
      let split = ahead-split s mesh lane there (packet_store s net lane k) (packet_line net lane k)
      (s.hops lane.src lane.dst) lane.src s.terminal there.source refl in
      rw (
        split,
        append_assoc (packet_held lane k (net.out lane.dst s.terminal))
            (underway_from s (packet_store s net lane k) (packet_line net lane k) lane.dst
            (s.hops lane.src lane.dst) lane.src s.terminal) (packet_held lane k (net.unfed lane.src lane.class)),
      )
      (hold.cut lane k there)

  pub in_range : (x o : ℕ) → All (λ f. f.vc < s.vcs) (net.out x o)
  in_range x o = each (net.out x o) (sound.leaving x o)
    where
      each : (fs : List Flit) → All (Leaves s x o) fs → All (λ f. f.vc < s.vcs) fs
      each [] h = All-nil (λ (f : Flit). f.vc < s.vcs)
      each (f ∷ fs) h = All-cons (λ (g : Flit). g.vc < s.vcs) f fs (All-head (Leaves s x o) f fs h).owned.0
          (each fs (All-tail (Leaves s x o) f fs h))

  module _ (y q x : ℕ) (at : Enters s lane y q) (linked : s.neighbour y (s.next_port y lane.dst) ≡ Some x) where
    abbrev o : ℕ
    o = s.next_port y lane.dst

    abbrev p : ℕ
    p = s.opposite (s.next_port y lane.dst)

    abbrev pub coming : ℕ → List Flit
    coming v = net.buffer x p v ++ on_channel v (net.out y o)

    abbrev before : List Flit
    before = past s mesh lane there (packet_store s net lane k) (packet_line net lane k) (s.hops x lane.dst) x

    abbrev tail : List Flit → List Flit
    tail rest = packet_store s net lane k x p ++ (packet_line net lane k y o ++ rest)

    entered : Enters s lane x (s.opposite (s.next_port y lane.dst))
    entered = by_link {p = q} at linked

    -- the packet as it stands, from the sink back: past x, in its buffers, on the link, and the rest
    numbered : (rest : List Flit) × IsIndexed 0 (before ++ tail rest)
    numbered =
        let split = behind_link s mesh lane there (packet_store s net lane k)
        (packet_line net lane k) y q x at linked in
        let line = packet_line net lane k y (s.next_port y lane.dst) in
        let store = packet_store s net lane k x p in
        let hu = packet_held lane k (net.unfed lane.src lane.class) in
        let order : ahead s mesh lane there (packet_store s net lane k) (packet_line net lane k)
        (s.hops lane.src lane.dst) lane.src s.terminal ++ hu ≡ before ++ (store ++ (line ++ (split.0 ++ hu))) =
        ap (λ fs. fs ++ hu) (split.1 ∙ ap (λ fs. fs ++ (line ++ split.0))
        (ahead-past s mesh lane there (packet_store s net lane k) (packet_line net lane k)
        (s.hops x lane.dst) x p)) ∙
        append_assoc (before ++ store) (line ++ split.0) hu ∙ append_assoc before store ((line ++ split.0) ++ hu)
        ∙ ap (λ fs. before ++ (store ++ fs)) (append_assoc line split.0 hu) in (
          split.0 ++ hu,
          subst (λ fs. IsIndexed 0 fs) order
              (indexed s mesh lane there k net sound cut_ahead hold.one hold.within_past),
        )

    room : (rest : List Flit) (v w : ℕ) → v < s.vcs → w < s.vcs → (v ≡ w → ⊥)
        → zeros (packet_held lane k (coming v)) + zeros (packet_held lane k (coming w)) ≤ zeros (tail rest)
    room rest v w v_there w_there apart =
        let store = packet_store s net lane k x p in
        let line = packet_line net lane k y o in
        let whole = zeros-append store (line ++ rest) in
        let whole2 = zeros-append line rest in
        let stored = joined-two s.vcs v w (λ u. packet_held lane k (net.buffer x p u)) v_there w_there apart in
        let on_link = zeros-two lane k v w (net.out y o) apart in
        let part_v = ap zeros (packet-append lane k (net.buffer x p v) (on_channel v (net.out y o)))
        ∙ zeros-append (packet_held lane k (net.buffer x p v)) (packet_held lane k (on_channel v (net.out y o))) in
        let part_w = ap zeros (packet-append lane k (net.buffer x p w) (on_channel w (net.out y o)))
        ∙ zeros-append (packet_held lane k (net.buffer x p w)) (packet_held lane k (on_channel w (net.out y o))) in
        omega arith

    -- no two channels of a link have flits of the packet, in their buffers or coming
    pub link_both : (v w : ℕ) → v < s.vcs → w < s.vcs → (v ≡ w → ⊥)
        → 0 < length (packet_held lane k (coming v)) → 0 < length (packet_held lane k (coming w)) → ⊥
    link_both v w v_there w_there apart =
        never_both lane k before (tail numbered.0) numbered.1 (coming v) (coming w) (worm_after (net.last_out x p v))
        (worm_after (net.last_out x p w)) (upstream net y o v) (upstream net y o w)
        (sound.links y o x v linked) (sound.links y o x w linked) (room numbered.0 v w v_there w_there apart)
        (λ g e l n. hold.within_past lane k there x p v g entered e l n)
        (λ g e l n. hold.within_past lane k there x p w g entered e l n)
        (λ g g2 e e2 l n l2 n2. apart (hold.one x p v p w g g2 e e2 (sym l ∙ l2) (sym n ∙ n2)).1)

    -- nor has one, where another is within the packet
    pub link_within : (v w : ℕ) → v < s.vcs → w < s.vcs → (v ≡ w → ⊥)
        → IsOn lane k (worm_after (net.last_out x p v)) → 0 < length (packet_held lane k (coming w)) → ⊥
    link_within v w v_there w_there apart on =
        let both = room numbered.0 v w v_there w_there apart in
        never_within lane k before (tail numbered.0) numbered.1
        (hold.within_past lane k there x p v on.0 entered on.1 on.2 on.3) (coming w)
        (worm_after (net.last_out x p w)) (upstream net y o w)
        (sound.links y o x w linked) (omega arith)
        (λ other. apart (hold.one x p v p w on.0 other.0 on.1 other.1 (sym on.2 ∙ other.2) (sym on.3 ∙ other.3)).1)

    pub stored_more : (v : ℕ) → 0 < length (packet_held lane k (net.buffer x p v))
        → 0 < length (packet_held lane k (coming v))
    stored_more v some =
        let sum = ap length (packet-append lane k (net.buffer x p v) (on_channel v (net.out y o)))
        ∙ length-append (packet_held lane k (net.buffer x p v)) (packet_held lane k (on_channel v (net.out y o))) in
        omega arith

    pub more : (v : ℕ) → 0 < length (packet_held lane k (on_channel v (net.out y o)))
        → 0 < length (packet_held lane k (coming v))
    more v some =
        let sum = ap length (packet-append lane k (net.buffer x p v) (on_channel v (net.out y o)))
        ∙ length-append (packet_held lane k (net.buffer x p v)) (packet_held lane k (on_channel v (net.out y o))) in
        omega arith

    -- all of a packet's flits on a link are on one channel
    pub link_lines : packet_line net lane k y (s.next_port y lane.dst)
        ≡ channel_line s net lane k y (s.next_port y lane.dst)
    link_lines =
        joined_line lane k s.vcs (net.out y o) (in_range y o)
        (λ v w l m apart some. none_of (packet_held lane k (on_channel w (net.out y o)))
        (λ some2. link_both v w l m apart (more v some) (more w some2)))

  underway_lines : (n x p : ℕ) → Enters s lane x p → x < s.nodes → s.hops x lane.dst ≡ n →
      underway_from s (packet_store s net lane k) (packet_line net lane k) lane.dst n x p
      ≡ underway_from s (packet_store s net lane k) (channel_line s net lane k) lane.dst n x p
  underway_lines zero x p at in_mesh e = refl
  underway_lines (suc n) x p at in_mesh e =
      let on = mesh.goes_on x lane.dst n in_mesh there.destination e in
      let linked = on.1 in
      let rest = underway_lines n on.0 (s.opposite (s.next_port x lane.dst)) (by_link {p = p} at linked) on.2 on.3 in
      rw (linked, rest, link_lines x p on.0 at linked) refl

  -- no two channels of the packet's sink have flits of it
  pub sink_both : (v w : ℕ) → (v ≡ w → ⊥) → 0 < length (packet_held lane k (on_channel v (net.out lane.dst s.terminal)))
      → 0 < length (packet_held lane k (on_channel w (net.out lane.dst s.terminal))) → ⊥
  sink_both v w apart =
      let delivered = packet_line net lane k lane.dst s.terminal in
      let rest = underway_from s (packet_store s net lane k) (packet_line net lane k) lane.dst
      (s.hops lane.src lane.dst) lane.src s.terminal in
      let hu = packet_held lane k (net.unfed lane.src lane.class) in
      let order : ahead s mesh lane there (packet_store s net lane k) (packet_line net lane k)
      (s.hops lane.src lane.dst) lane.src s.terminal ++ hu ≡ delivered ++ (rest ++ hu) =
      ap (λ fs. fs ++ hu) (ahead-split s mesh lane there (packet_store s net lane k) (packet_line net lane k)
      (s.hops lane.src lane.dst) lane.src s.terminal there.source refl) ∙ append_assoc delivered rest hu in
      let numbered = subst (λ fs. IsIndexed 0 fs) order
      (indexed s mesh lane there k net sound cut_ahead hold.one hold.within_past) in
      let two = zeros-two lane k v w (net.out lane.dst s.terminal) apart in
      let sum = zeros-append delivered (rest ++ hu) in
      never_both lane k [] (delivered ++ (rest ++ hu)) numbered (on_channel v (net.out lane.dst s.terminal))
      (on_channel w (net.out lane.dst s.terminal)) Between Between
      (upstream net lane.dst s.terminal v) (upstream net lane.dst s.terminal w) (sound.sinks lane.dst v)
      (sound.sinks lane.dst w) (omega arith)
      (λ g e l n. absurd (nowhere g e)) (λ g e l n. absurd (nowhere g e)) (λ g g2 e e2 l n l2 n2. nowhere g e)

  stores_same : packet_store s net lane k ≡ class_store s net lane k
  stores_same = λ i x p. store_by_class s lane k net sound x p i

  lines_same : channel_line s net lane k ≡ class_line s net lane k
  lines_same = λ i x o. line_by_class s lane k net sound x o i

  abbrev CutBy : (ℕ → ℕ → List Flit) → (ℕ → ℕ → List Flit) → Type 0
  CutBy store line = packet_held lane k (net.out lane.dst s.terminal)
      ++ (underway_from s store line lane.dst (s.hops lane.src lane.dst) lane.src s.terminal
      ++ packet_held lane k (net.unfed lane.src lane.class)) ≡ packet_held lane k (net.injected lane.src lane.class)

  pub channels_cut : CutBy (class_store s net lane k) (class_line s net lane k)
  channels_cut =
      let all : CutBy (packet_store s net lane k) (channel_line s net lane k) =
      rw (← underway_lines (s.hops lane.src lane.dst) lane.src s.terminal at_source there.source refl)
      (hold.cut lane k there) in
      subst (λ line. CutBy (class_store s net lane k) line) lines_same
      (subst (λ store. CutBy store (channel_line s net lane k)) stores_same all)
