-- Each step keeps the cut of each lane.
use Rattle.std.proofs.Common.{◌≡◌, ℕ, suc, ◌<◌, inl, inr, false, List, ◌∷◌, ◌++◌, Some, refl, sym, ap, subst, ◌∙◌}
use Rattle.std.proofs.Common.{arith, append_assoc, append-nil}
use Rattle.worm_flit.specs.declared.Lane.{Lane}
use Rattle.worm_flit.specs.declared.Flit.{Flit}
use Rattle.worm_flit.specs.Stamps.{with_channel, is_of_lane}
use Rattle.worm_theory.specs.Shape.{Shape, IsMesh, HasLane, Owns, Enters, by_link, OwnsAlone}
use Rattle.worm_theory.specs.Network.{Network, same3}
use Rattle.worm_theory.specs.Steps.{offered, fed, sent_by, taken_from}
use Rattle.worm_theory.specs.Sound.{Passes, Leaves, IsFrom}
use Rattle.worm_theory.specs.Cut.{held, lane_store, lane_line}
use Rattle.worm_theory.proofs.Places.{place_cases, place3_cases, same-true, same3-true, same-false}
use Rattle.worm_theory.proofs.Packets.{same_lane_cases}
use Rattle.worm_theory.proofs.Routes.{enters_node, hop}
use Rattle.worm_theory.proofs.Cut.{held_one, held-cons, held-append, held-push, ahead, SameAt, frame, grown, passed_on}
use Rattle.worm_theory.proofs.Cut.{moved_all}

-- one of the tests fails
pub same3-false : (i j k a b c : ℕ) → (i ≡ a → ⊥) → same3 i j k a b c ≡ false
same3-false i j k a b c n = elim (place3_cases i j k a b c) [ inl h ↦ absurd (n h.1) | inr h ↦ h.0 ]

module _ (s : Shape) (mesh : IsMesh s) (lane : Lane) (there : HasLane s lane) (c : ℕ)
    (alone : OwnsAlone s lane.class c) where
  abbrev pub CutHolds : Network → Type 0
  CutHolds net = ahead s mesh lane there (lane_store net lane c) (lane_line net lane)
      (s.hops lane.src lane.dst) lane.src s.terminal ++ held lane (net.unfed lane.src lane.class)
      ≡ held lane (net.injected lane.src lane.class)

  pub offer_cut : (net : Network) (x k : ℕ) (fs : List Flit) → CutHolds net → CutHolds (offered net x k fs)
  offer_cut net x k fs cut =
      elim (place_cases lane.src lane.class x k) [
        | inl here ↦
            let full : net.unfed x k ≡ net.unfed lane.src lane.class = cc in
            let all : net.injected x k ≡ net.injected lane.src lane.class = cc in
            rw (
              here.0,
              full,
              all,
              held-append lane (net.unfed lane.src lane.class) fs,
              held-append lane (net.injected lane.src lane.class) fs,
              ← append_assoc (ahead s mesh lane there (lane_store net lane c) (lane_line net lane)
                  (s.hops lane.src lane.dst) lane.src s.terminal) (held lane (net.unfed lane.src lane.class))
                  (held lane fs),
              cut,
            )
        | inr away ↦ rw away.0 cut
      ]

  module _ (net : Network) (x p v o d : ℕ) (f : Flit) (rest : List Flit) (front : net.buffer x p v ≡ f ∷ rest)
      (pass : Passes s x p v f) (leads : s.next_port x f.lane.dst ≡ o) where
    pub send_quiet : is_of_lane lane f ≡ false → (z : ℕ)
        → SameAt s mesh lane there (lane_store net lane c) (lane_store (sent_by s net x p v o d f rest) lane c)
        (lane_line net lane) (lane_line (sent_by s net x p v o d f rest) lane) z
    send_quiet off z = (
      λ q. elim (place3_cases z q c x p v) [
        | inl here ↦
            let full : net.buffer z q c ≡ f ∷ rest = cc in
            rw (here.0, full, held-cons lane f rest, off)
        | inr away ↦ rw away.0
      ],
      λ e. elim (place_cases z e x o) [
        | inl here ↦ rw (here.0, held-push lane (net.out x o) (with_channel f d), off, append-nil, here.1, here.2)
        | inr away ↦ rw away.0
      ],
    )

    pub send_away : (z : ℕ) → (z ≡ x → ⊥)
        → SameAt s mesh lane there (lane_store net lane c) (lane_store (sent_by s net x p v o d f rest) lane c)
        (lane_line net lane) (lane_line (sent_by s net x p v o d f rest) lane) z
    send_away z other = (
      λ q. rw (same3-false z q c x p v other),
      λ e. rw (same-false z e x o (λ a _. other a)),
    )

    pub send_hop : lane ≡ f.lane → held lane ((sent_by s net x p v o d f rest).out x (s.next_port x lane.dst))
        ++ held lane ((sent_by s net x p v o d f rest).buffer x p c) ≡ held lane (net.out x (s.next_port x lane.dst))
        ++ held lane (net.buffer x p c)
    send_hop own =
        let port : s.next_port x lane.dst ≡ o = ap (λ (l : Lane). s.next_port x l.dst) own ∙ leads in
        let channel : v ≡ c = alone v (subst (λ l. Owns s l.class v) (sym own) pass.owned) in
        let full : net.buffer x p c ≡ f ∷ rest = ap (net.buffer x p) (sym channel) ∙ front in
        let here = same-true x o x o refl refl in
        let place = same3-true x p c x p v refl refl (sym channel) in
        rw (
          port,
          here,
          place,
          full,
          held-push lane (net.out x o) (with_channel f d),
          held-cons lane f rest,
          append_assoc (held lane (net.out x o)) (held_one lane f) (held lane rest),
        )

    pub send_ahead : ahead s mesh lane there (lane_store (sent_by s net x p v o d f rest) lane c)
        (lane_line (sent_by s net x p v o d f rest) lane) (s.hops lane.src lane.dst) lane.src s.terminal
        ≡ ahead s mesh lane there (lane_store net lane c) (lane_line net lane)
        (s.hops lane.src lane.dst) lane.src s.terminal
    send_ahead =
        elim (same_lane_cases lane f.lane) [
          | inl on ↦
              let entered : Enters s lane x p = subst (λ l. Enters s l x p) (sym on.1) pass.entered in
              let change = passed_on s mesh lane there (lane_store net lane c)
              (lane_store (sent_by s net x p v o d f rest) lane c) (lane_line net lane)
              (lane_line (sent_by s net x p v o d f rest) lane) (s.hops x lane.dst) x p
              (enters_node s mesh lane there entered) refl
              (λ z h. send_away z (λ e. let less = rw e at h in absurd (omega arith))) (send_hop on.1) in
              moved_all s mesh lane there (lane_store net lane c) (lane_store (sent_by s net x p v o d f rest) lane c)
              (lane_line net lane) (lane_line (sent_by s net x p v o d f rest) lane) x p entered change
              (λ z h. send_away z (λ e. let less = rw e at h in absurd (omega arith)))
          | inr off ↦
              frame s mesh lane there (lane_store net lane c) (lane_store (sent_by s net x p v o d f rest) lane c)
              (lane_line net lane) (lane_line (sent_by s net x p v o d f rest) lane)
              (s.hops lane.src lane.dst) lane.src s.terminal there.source refl (λ z _. send_quiet off z)
        ]

    pub send_cut : CutHolds net → CutHolds (sent_by s net x p v o d f rest)
    send_cut cut = rw send_ahead cut

  module _ (net : Network) (x p y : ℕ) (linked : s.neighbour x p ≡ Some y) (f : Flit) (rest : List Flit)
      (front : net.out y (s.opposite p) ≡ f ∷ rest) (leaves : Leaves s y (s.opposite p) f) where
    pub take_quiet : is_of_lane lane f ≡ false → (z : ℕ)
        → SameAt s mesh lane there (lane_store net lane c)
        (lane_store (taken_from net x p y (s.opposite p) (f ∷ rest)) lane c) (lane_line net lane)
        (lane_line (taken_from net x p y (s.opposite p) (f ∷ rest)) lane) z
    take_quiet off z = (
      λ q. elim (place3_cases z q c x p f.vc) [
        | inl here ↦ rw (here.0, held-push lane (net.buffer x p f.vc) f, off, append-nil, here.1, here.2, here.3)
        | inr away ↦ rw away.0
      ],
      λ e. elim (place_cases z e y (s.opposite p)) [
        | inl here ↦
            let line : net.out z e ≡ f ∷ rest = cc in
            rw (here.0, line, held-cons lane f rest, off)
        | inr away ↦ rw away.0
      ],
    )

    pub take_away : (z : ℕ) → (z ≡ x → ⊥) → (z ≡ y → ⊥)
        → SameAt s mesh lane there (lane_store net lane c)
        (lane_store (taken_from net x p y (s.opposite p) (f ∷ rest)) lane c) (lane_line net lane)
        (lane_line (taken_from net x p y (s.opposite p) (f ∷ rest)) lane) z
    take_away z not_x not_y = (
      λ q. rw (same3-false z q c x p f.vc not_x),
      λ e. rw (same-false z e y (s.opposite p) (λ a _. not_y a)),
    )

    module _ (own : lane ≡ f.lane) where
      take_entered : Enters s lane y leaves.from_port
      take_entered = subst (λ l. Enters s l y leaves.from_port) (sym own) leaves.entered

      take_port : s.next_port y lane.dst ≡ s.opposite p
      take_port = ap (λ (l : Lane). s.next_port y l.dst) own ∙ leaves.by_port

      take_linked : s.neighbour y (s.next_port y lane.dst) ≡ Some x
      take_linked = ap (s.neighbour y) take_port ∙ mesh.link_back x p y linked

      take_into : s.opposite (s.next_port y lane.dst) ≡ p
      take_into = ap s.opposite take_port ∙ mesh.opposite_twice x p y linked

      take_hop : s.hops y lane.dst ≡ suc (s.hops x lane.dst)
      take_hop = hop s mesh lane there x take_entered take_linked

      apart : x ≡ y → ⊥
      apart e = let one = take_hop in let both = ap (λ z. s.hops z lane.dst) e in absurd (omega arith)

      take_node : x < s.nodes
      take_node = enters_node s mesh lane there (by_link {p = leaves.from_port} take_entered take_linked)

      -- the flit is at the end of the buffer
      take_grown : ahead s mesh lane there (lane_store (taken_from net x p y (s.opposite p) (f ∷ rest)) lane c)
          (lane_line (taken_from net x p y (s.opposite p) (f ∷ rest)) lane) (s.hops x lane.dst) x p
          ≡ ahead s mesh lane there (lane_store net lane c) (lane_line net lane) (s.hops x lane.dst) x p
          ++ held_one lane f
      take_grown =
          let channel : f.vc ≡ c = alone f.vc (subst (λ l. Owns s l.class f.vc) (sym own) leaves.owned) in
          let place = same3-true x p c x p f.vc refl refl (sym channel) in
          let one = take_hop in
          let line : held lane ((taken_from net x p y (s.opposite p) (f ∷ rest)).out x (s.next_port x lane.dst))
          ≡ held lane (net.out x (s.next_port x lane.dst)) =
          rw (same-false x (s.next_port x lane.dst) y (s.opposite p) (λ a _. apart a)) in
          let full : held lane ((taken_from net x p y (s.opposite p) (f ∷ rest)).buffer x p c)
          ≡ held lane (net.buffer x p c) ++ held_one lane f =
          rw (place, held-push lane (net.buffer x p f.vc) f, channel) in
          grown s mesh lane there (lane_store net lane c)
          (lane_store (taken_from net x p y (s.opposite p) (f ∷ rest)) lane c) (lane_line net lane)
          (lane_line (taken_from net x p y (s.opposite p) (f ∷ rest)) lane) (s.hops x lane.dst) x p
          (held_one lane f) take_node refl
          (λ z h. take_away z (λ e. let less = rw e at h in absurd (omega arith)) (λ e. let less = rw e at h in
          absurd (omega arith)))
          line full

      -- and no longer at the front of the link
      take_change : ahead s mesh lane there (lane_store (taken_from net x p y (s.opposite p) (f ∷ rest)) lane c)
          (lane_line (taken_from net x p y (s.opposite p) (f ∷ rest)) lane) (s.hops y lane.dst) y leaves.from_port
          ≡ ahead s mesh lane there (lane_store net lane c) (lane_line net lane) (s.hops y lane.dst) y leaves.from_port
      take_change =
          let near = ahead s mesh lane there (lane_store net lane c) (lane_line net lane) (s.hops x lane.dst) x p in
          let line = same-true y (s.opposite p) y (s.opposite p) refl refl in
          let buffer_same = same3-false y leaves.from_port c x p f.vc (λ e. apart (sym e)) in
          rw (
            take_hop,
            take_linked,
            take_into,
            take_grown,
            take_port,
            line,
            front,
            buffer_same,
            held-cons lane f rest,
            append_assoc (ahead s mesh lane there (lane_store net lane c) (lane_line net lane) (s.hops x lane.dst) x p)
                (held_one lane f) (held lane rest ++ held lane (net.buffer y leaves.from_port c)),
            append_assoc (held_one lane f) (held lane rest) (held lane (net.buffer y leaves.from_port c)),
          )

    pub take_ahead : ahead s mesh lane there (lane_store (taken_from net x p y (s.opposite p) (f ∷ rest)) lane c)
        (lane_line (taken_from net x p y (s.opposite p) (f ∷ rest)) lane) (s.hops lane.src lane.dst) lane.src s.terminal
        ≡ ahead s mesh lane there (lane_store net lane c) (lane_line net lane)
        (s.hops lane.src lane.dst) lane.src s.terminal
    take_ahead =
        elim (same_lane_cases lane f.lane) [
          | inl on ↦
              let one = take_hop on.1 in
              moved_all s mesh lane there (lane_store net lane c)
              (lane_store (taken_from net x p y (s.opposite p) (f ∷ rest)) lane c) (lane_line net lane)
              (lane_line (taken_from net x p y (s.opposite p) (f ∷ rest)) lane) y leaves.from_port
              (take_entered on.1) (take_change on.1)
              (λ z h. take_away z (λ e. let less = rw e at h in absurd (omega arith)) (λ e. let less = rw e at h in
              absurd (omega arith)))
          | inr off ↦
              frame s mesh lane there (lane_store net lane c)
              (lane_store (taken_from net x p y (s.opposite p) (f ∷ rest)) lane c) (lane_line net lane)
              (lane_line (taken_from net x p y (s.opposite p) (f ∷ rest)) lane)
              (s.hops lane.src lane.dst) lane.src s.terminal there.source refl (λ z _. take_quiet off z)
        ]

    pub take_cut : CutHolds net → CutHolds (taken_from net x p y (s.opposite p) (f ∷ rest))
    take_cut cut = rw take_ahead cut

  module _ (net : Network) (x k : ℕ) (class_there : k < s.classes) (f : Flit) (rest : List Flit)
      (front : net.unfed x k ≡ f ∷ rest) (from : IsFrom s x k f) where
    pub feed_quiet : is_of_lane lane f ≡ false → (z : ℕ)
        → SameAt s mesh lane there (lane_store net lane c) (lane_store (fed s net x k (f ∷ rest)) lane c)
        (lane_line net lane) (lane_line (fed s net x k (f ∷ rest)) lane) z
    feed_quiet off z = (
      λ q. elim (place3_cases z q c x s.terminal (s.first k)) [
        | inl here ↦ rw (
          here.0,
          held-push lane (net.buffer x s.terminal (s.first k)) (with_channel f (s.first k)),
          off,
          append-nil,
          here.1,
          here.2,
          here.3,
        )
        | inr away ↦ rw away.0
      ],
      λ e. refl,
    )

    pub feed_away : (z : ℕ) → (z ≡ x → ⊥)
        → SameAt s mesh lane there (lane_store net lane c) (lane_store (fed s net x k (f ∷ rest)) lane c)
        (lane_line net lane) (lane_line (fed s net x k (f ∷ rest)) lane) z
    feed_away z not_x = (λ q. rw (same3-false z q c x s.terminal (s.first k) not_x), λ e. refl)

    pub feed_grown : lane ≡ f.lane → ahead s mesh lane there (lane_store (fed s net x k (f ∷ rest)) lane c)
        (lane_line (fed s net x k (f ∷ rest)) lane) (s.hops lane.src lane.dst) lane.src s.terminal
        ≡ ahead s mesh lane there (lane_store net lane c) (lane_line net lane)
        (s.hops lane.src lane.dst) lane.src s.terminal ++ held_one lane f
    feed_grown own =
        let node : lane.src ≡ x = ap (λ (l : Lane). l.src) own ∙ from.own in
        let class : lane.class ≡ k = ap (λ (l : Lane). l.class) own ∙ from.own_class in
        let channel : s.first k ≡ c = alone (s.first k)
        (subst (λ n. Owns s n (s.first k)) (sym class) (mesh.first_owned k class_there)) in
        let place = same3-true lane.src s.terminal c x s.terminal (s.first k) node refl (sym channel) in
        let full : held lane ((fed s net x k (f ∷ rest)).buffer lane.src s.terminal c)
        ≡ held lane (net.buffer lane.src s.terminal c) ++ held_one lane f =
        rw (place, held-push lane (net.buffer x s.terminal (s.first k)) (with_channel f (s.first k)), channel, node) in
        grown s mesh lane there (lane_store net lane c) (lane_store (fed s net x k (f ∷ rest)) lane c)
        (lane_line net lane) (lane_line (fed s net x k (f ∷ rest)) lane)
        (s.hops lane.src lane.dst) lane.src s.terminal (held_one lane f) there.source refl
        (λ z h. feed_away z (λ e. let at : z ≡ lane.src = e ∙ sym node in let less = rw at at h in
        absurd (omega arith)))
        refl full

    pub feed_cut : CutHolds net → CutHolds (fed s net x k (f ∷ rest))
    feed_cut cut =
        elim (same_lane_cases lane f.lane) [
          | inl on ↦
              let node : lane.src ≡ x = ap (λ (l : Lane). l.src) on.1 ∙ from.own in
              let class : lane.class ≡ k = ap (λ (l : Lane). l.class) on.1 ∙ from.own_class in
              let here = same-true lane.src lane.class x k node class in
              let line : net.unfed lane.src lane.class ≡ f ∷ rest = cc in
              let before = rw line at cut in
              rw (
                feed_grown on.1,
                here,
                append_assoc
                    (ahead s mesh lane there (lane_store net lane c) (lane_line net lane)
                    (s.hops lane.src lane.dst) lane.src s.terminal) (held_one lane f) (held lane rest),
                ← held-cons lane f rest,
              ) before
          | inr off ↦
              let ahead_same = frame s mesh lane there (lane_store net lane c)
              (lane_store (fed s net x k (f ∷ rest)) lane c) (lane_line net lane)
              (lane_line (fed s net x k (f ∷ rest)) lane)
              (s.hops lane.src lane.dst) lane.src s.terminal there.source refl (λ z _. feed_quiet off z) in
              elim (place_cases lane.src lane.class x k) [
                | inl here ↦
                    let line : net.unfed lane.src lane.class ≡ f ∷ rest = cc in
                    let before = rw (line, held-cons lane f rest, off) at cut in
                    rw (ahead_same, here.0) before
                | inr away ↦ rw (ahead_same, away.0) cut
              ]
        ]
