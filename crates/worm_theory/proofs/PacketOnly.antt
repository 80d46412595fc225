-- In a sound network the flits of a packet are on one channel of a port.
use Rattle.std.proofs.Common.{◌≡◌, ℕ, ◌<◌, ◌≤◌, inl, inr, List, [], ◌∷◌, ◌++◌, length, Some, refl, sym, ap, subst, ◌∙◌}
use Rattle.std.proofs.Common.{arith, append_assoc, append-nil}
use Rattle.worm_flit.specs.declared.Lane.{Lane}
use Rattle.worm_flit.specs.declared.Flit.{Flit}
use Rattle.worm_flit.specs.Stamps.{on_channel}
use Rattle.worm_theory.specs.Worm.{Between, worm_after}
use Rattle.worm_theory.specs.Shape.{Shape, IsMesh, HasLane, Owns, Enters, at_source, by_link}
use Rattle.worm_theory.specs.Network.{Network, upstream}
use Rattle.worm_theory.specs.Sound.{Sound, unfed_on}
use Rattle.worm_theory.specs.PacketCut.{packet_held, packet_store, packet_line, OneWithin, WithinPast}
use Rattle.worm_theory.proofs.Places.{number_cases}
use Rattle.worm_theory.proofs.Cut.{ahead, past, ahead-past, behind, behind_link}
use Rattle.worm_theory.proofs.PacketLists.{packet-append, zeros, zeros-append, zeros-after, zeros-first, IsIndexed}
use Rattle.worm_theory.proofs.PacketLists.{joined-at}
use Rattle.worm_theory.proofs.Histories.{history-indexed, packet-of_lane}
use Rattle.worm_theory.proofs.PacketChannel.{zeros-on_channel, only_channel}

module _ (s : Shape) (mesh : IsMesh s) (lane : Lane) (there : HasLane s lane) (k : ℕ) (net : Network) where
  abbrev pub stores : ℕ → ℕ → List Flit
  stores = packet_store s net lane k

  abbrev pub lines : ℕ → ℕ → List Flit
  lines = packet_line net lane k

  abbrev pub PacketCutHolds : Type 0
  PacketCutHolds = ahead s mesh lane there stores lines (s.hops lane.src lane.dst) lane.src s.terminal
      ++ packet_held lane k (net.unfed lane.src lane.class) ≡ packet_held lane k (net.injected lane.src lane.class)

  module _ (sound : Sound s net) (cut : PacketCutHolds) (one : OneWithin net) (within : WithinPast s net) where
    pub indexed : IsIndexed 0 (ahead s mesh lane there stores lines (s.hops lane.src lane.dst) lane.src s.terminal
        ++ packet_held lane k (net.unfed lane.src lane.class))
    indexed =
        let history = history-indexed lane k (sound.histories lane) in
        let all = packet-of_lane lane k (net.injected lane.src lane.class) in
        rw (cut, ← all) history

    pub link_only : (y q x : ℕ) → Enters s lane y q → s.neighbour y (s.next_port y lane.dst) ≡ Some x → (v w : ℕ)
        → v < s.vcs → w < s.vcs → (v ≡ w → ⊥) → (a : Flit) (as' : List Flit) →
        packet_held lane k (net.buffer x (s.opposite (s.next_port y lane.dst)) v
        ++ on_channel v (net.out y (s.next_port y lane.dst))) ≡ a ∷ as'
        → packet_held lane k (net.buffer x (s.opposite (s.next_port y lane.dst)) w) ≡ []
    link_only y q x at linked v w v_there w_there apart a as' has =
        let p = s.opposite (s.next_port y lane.dst) in
        let entered : Enters s lane x (s.opposite (s.next_port y lane.dst)) = by_link {p = q} at linked in
        let split = behind_link s mesh lane there stores lines y q x at linked in
        let line = lines y (s.next_port y lane.dst) in
        let before = past s mesh lane there stores lines (s.hops x lane.dst) x in
        let hu = packet_held lane k (net.unfed lane.src lane.class) in
        let order : ahead s mesh lane there stores lines (s.hops lane.src lane.dst) lane.src s.terminal
        ++ packet_held lane k (net.unfed lane.src lane.class) ≡ before
        ++ (stores x p ++ (line ++ (split.0 ++ hu))) =
        ap (λ fs. fs ++ hu) (split.1 ∙ ap (λ fs. fs ++ (line ++ split.0))
        (ahead-past s mesh lane there stores lines (s.hops x lane.dst) x p)) ∙
        append_assoc (before ++ stores x p) (line ++ split.0) hu
        ∙ append_assoc before (stores x p) ((line ++ split.0) ++ hu)
        ∙ ap (λ fs. before ++ (stores x p ++ fs)) (append_assoc line split.0 hu) in
        let numbered = subst (λ fs. IsIndexed 0 fs) order indexed in
        only_channel lane k before (stores x p) line (split.0 ++ hu) numbered s.vcs
        (λ u. net.buffer x p u) refl v w v_there w_there apart
        (on_channel v (net.out y (s.next_port y lane.dst))) (on_channel w (net.out y (s.next_port y lane.dst)))
        (worm_after (net.last_out x p v)) (worm_after (net.last_out x p w))
        (upstream net y (s.next_port y lane.dst) v) (upstream net y (s.next_port y lane.dst) w)
        (sound.links y (s.next_port y lane.dst) x v linked) (sound.links y (s.next_port y lane.dst) x w linked)
        (zeros-on_channel lane k v (net.out y (s.next_port y lane.dst)))
        (λ g e l n. within lane k there x p v g entered e l n) (λ g e l n. within lane k there x p w g entered e l n)
        (λ g g2 e e2 l n l2 n2. apart (one x p v p w g g2 e e2 (sym l ∙ l2) (sym n ∙ n2)).1) a as' has

    pub source_only : (v w : ℕ) → s.owner v ≡ lane.class → v < s.vcs → w < s.vcs → (v ≡ w → ⊥)
        → (a : Flit) (as' : List Flit) →
        packet_held lane k (net.buffer lane.src s.terminal v ++ unfed_on s net lane.src v) ≡ a ∷ as'
        → packet_held lane k (net.buffer lane.src s.terminal w) ≡ []
    source_only v w owned v_there w_there apart a as' has =
        let hu = packet_held lane k (net.unfed lane.src lane.class) in
        let before = past s mesh lane there stores lines (s.hops lane.src lane.dst) lane.src in
        let order : ahead s mesh lane there stores lines (s.hops lane.src lane.dst) lane.src s.terminal
        ++ packet_held lane k (net.unfed lane.src lane.class) ≡ before
        ++ (stores lane.src s.terminal ++ (hu ++ [])) =
        ap (λ fs. fs ++ hu) (ahead-past s mesh lane there stores lines (s.hops lane.src lane.dst) lane.src s.terminal)
        ∙ append_assoc before (stores lane.src s.terminal) hu
        ∙ ap (λ fs. before ++ (stores lane.src s.terminal ++ fs)) (sym (append-nil hu)) in
        let numbered = subst (λ fs. IsIndexed 0 fs) order indexed in
        let comes : zeros (packet_held lane k (unfed_on s net lane.src v)) ≤ zeros hu =
        elim (number_cases (s.first (s.owner v)) v) [
          | inl first ↦ rw (first.0, owned) (omega arith)
          | inr later ↦ rw later.0 (omega arith)
        ] in
        only_channel lane k before (stores lane.src s.terminal) hu [] numbered s.vcs
        (λ u. net.buffer lane.src s.terminal u) refl v w v_there w_there apart
        (unfed_on s net lane.src v) (unfed_on s net lane.src w) (worm_after (net.last_out lane.src s.terminal v))
        (worm_after (net.last_out lane.src s.terminal w)) Between Between
        (sound.sources lane.src v) (sound.sources lane.src w) comes
        (λ g e l n. within lane k there lane.src s.terminal v g at_source e l n)
        (λ g e l n. within lane k there lane.src s.terminal w g at_source e l n)
        (λ g g2 e e2 l n l2 n2. apart (one lane.src s.terminal v s.terminal w g g2 e e2 (sym l ∙ l2) (sym n ∙ n2)).1) a
        as' has

    pub stored_only : {x p : ℕ} → Enters s lane x p → (v w : ℕ) → Owns s lane.class v → w < s.vcs → (v ≡ w → ⊥)
        → (a : Flit) (as' : List Flit) → packet_held lane k (net.buffer x p v) ≡ a ∷ as'
        → packet_held lane k (net.buffer x p w) ≡ []
    stored_only at_source v w owned w_there apart a as' has =
        source_only v w owned.1 owned.0 w_there apart a (as' ++ packet_held lane k (unfed_on s net lane.src v))
        (packet-append lane k (net.buffer lane.src s.terminal v) (unfed_on s net lane.src v)
        ∙ ap (λ fs. fs ++ packet_held lane k (unfed_on s net lane.src v)) has)
    stored_only (by_link {x = y} {p = q} {y = x} at linked) v w owned w_there apart a as' has =
        link_only y q x at linked v w owned.0 w_there apart a
        (as' ++ packet_held lane k (on_channel v (net.out y (s.next_port y lane.dst))))
        (packet-append lane k (net.buffer x (s.opposite (s.next_port y lane.dst)) v)
        (on_channel v (net.out y (s.next_port y lane.dst)))
        ∙ ap (λ fs. fs ++ packet_held lane k (on_channel v (net.out y (s.next_port y lane.dst)))) has)

    -- of a packet whose first flit is stored at a node nothing is past that node
    pub stored_first : {x p : ℕ} → Enters s lane x p → (v : ℕ) → v < s.vcs → (a : Flit) (as' : List Flit)
        → packet_held lane k (net.buffer x p v) ≡ a ∷ as' → a.index ≡ 0
        → 0 < length (past s mesh lane there stores lines (s.hops x lane.dst) x) → ⊥
    stored_first {x} {p} at v v_there a as' has opens some =
        let split = behind s mesh lane there stores lines at in
        let before = past s mesh lane there stores lines (s.hops x lane.dst) x in
        let hu = packet_held lane k (net.unfed lane.src lane.class) in
        let order : ahead s mesh lane there stores lines (s.hops lane.src lane.dst) lane.src s.terminal
        ++ packet_held lane k (net.unfed lane.src lane.class) ≡ before ++ (stores x p ++ (split.0 ++ hu)) =
        ap (λ fs. fs ++ hu) (split.1 ∙ ap (λ fs. fs ++ split.0)
        (ahead-past s mesh lane there stores lines (s.hops x lane.dst) x p)) ∙
        append_assoc (before ++ stores x p) split.0 hu ∙ append_assoc before (stores x p) (split.0 ++ hu) in
        let numbered = subst (λ fs. IsIndexed 0 fs) order indexed in
        let none = zeros-after before (stores x p ++ (split.0 ++ hu)) numbered some in
        let sum = zeros-append (stores x p) (split.0 ++ hu) in
        let least = joined-at s.vcs v (λ u. packet_held lane k (net.buffer x p u)) v_there in
        let positive : 0 < zeros (packet_held lane k (net.buffer x p v)) = rw has (zeros-first a as' opens) in
        omega arith
