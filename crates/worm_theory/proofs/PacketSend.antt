-- A flit that is sent keeps the cut of each packet.
use Rattle.std.proofs.Common.{◌≡◌, ℕ, ◌<◌, ◌≤◌, ◌⊎◌, inl, inr, true, false, List, [], ◌∷◌, ◌++◌, length, refl, sym, ap}
use Rattle.std.proofs.Common.{subst, ◌∙◌, arith, append_assoc, append-nil, length-append}
use Rattle.worm_flit.specs.declared.Lane.{Lane}
use Rattle.worm_flit.specs.declared.Flit.{Flit}
use Rattle.worm_flit.specs.Stamps.{bare, with_channel}
use Rattle.worm_theory.specs.Shape.{Shape, IsMesh, HasLane, Owns, Enters}
use Rattle.worm_theory.specs.Network.{Network}
use Rattle.worm_theory.specs.Steps.{sent_by}
use Rattle.worm_theory.specs.Sound.{Sound, Passes}
use Rattle.worm_theory.specs.PacketCut.{is_of_packet, packet_held, packet_store, packet_line, OneWithin, WithinPast}
use Rattle.worm_theory.proofs.Places.{number_cases, place_cases, place3_cases, same-true, same3-true, same-false}
use Rattle.worm_theory.proofs.Routes.{enters_node, enters_once}
use Rattle.worm_theory.proofs.Cut.{ahead, past, SameAt, frame, passed_on, moved_all, past_frame, past_grown, past_kept}
use Rattle.worm_theory.proofs.CutSteps.{same3-false}
use Rattle.worm_theory.proofs.PacketLists.{packet-cons, packet-push, packet_cases, joined-same, joined-one}
use Rattle.worm_theory.proofs.PacketOnly.{PacketCutHolds, stored_only}

module _ (s : Shape) (mesh : IsMesh s) (lane : Lane) (there : HasLane s lane) (k : ℕ) (net : Network)
    (sound : Sound s net) (cut : PacketCutHolds s mesh lane there k net) (one : OneWithin net)
    (within : WithinPast s net)
    (x p v o d : ℕ) (f : Flit) (rest : List Flit) (front : net.buffer x p v ≡ f ∷ rest) (pass : Passes s x p v f)
    (leads : s.next_port x f.lane.dst ≡ o) where
  abbrev new : Network
  new = sent_by s net x p v o d f rest

  abbrev Same : ℕ → Type 0
  Same z = SameAt s mesh lane there (packet_store s net lane k) (packet_store s new lane k) (packet_line net lane k)
      (packet_line new lane k) z

  quiet : is_of_packet lane k f ≡ false → (z : ℕ) → Same z
  quiet off z = (
    λ q. joined-same s.vcs (λ u. packet_held lane k (new.buffer z q u))
        (λ u. packet_held lane k (net.buffer z q u)) (λ u _.
        elim (place3_cases z q u x p v) [
          | inl here ↦
              let full : net.buffer z q u ≡ f ∷ rest = cc in
              rw (here.0, full, packet-cons lane k f rest, off)
          | inr away ↦ rw away.0
        ]),
    λ e. elim (place_cases z e x o) [
      | inl here ↦ rw (here.0, packet-push lane k (net.out x o) (with_channel f d), off, append-nil, here.1, here.2)
      | inr away ↦ rw away.0
    ],
  )

  elsewhere : (z : ℕ) → (z ≡ x → ⊥) → Same z
  elsewhere z other = (
    λ q. joined-same s.vcs (λ u. packet_held lane k (new.buffer z q u))
        (λ u. packet_held lane k (net.buffer z q u)) (λ u _. rw (same3-false z q u x p v other)),
    λ e. rw (same-false z e x o (λ a _. other a)),
  )

  nearer : (z : ℕ) → s.hops z lane.dst < s.hops x lane.dst → Same z
  nearer z h = elsewhere z (λ e. let less = rw e at h in absurd (omega arith))

  further : (z : ℕ) → s.hops x lane.dst < s.hops z lane.dst → Same z
  further z h = elsewhere z (λ e. let less = rw e at h in absurd (omega arith))

  -- a flit of this packet
  module _ (test : is_of_packet lane k f ≡ true) (own : lane ≡ f.lane) where
    entered : Enters s lane x p
    entered = subst (λ l. Enters s l x p) (sym own) pass.entered

    owned : Owns s lane.class v
    owned = subst (λ l. Owns s l.class v) (sym own) pass.owned

    holds : packet_held lane k (net.buffer x p v) ≡ bare f ∷ packet_held lane k rest
    holds = rw (front, packet-cons lane k f rest, test)

    others : (w : ℕ) → w < s.vcs → (w ≡ v → ⊥) → packet_held lane k (net.buffer x p w) ≡ []
    others w w_there apart = stored_only s mesh lane there k net sound cut one within entered v w owned w_there
        (λ e. apart (sym e)) (bare f) (packet_held lane k rest) holds

    store_was : packet_store s net lane k x p ≡ bare f ∷ packet_held lane k rest
    store_was = joined-one s.vcs v (λ u. packet_held lane k (net.buffer x p u)) owned.0 others ∙ holds

    store_now : packet_store s new lane k x p ≡ packet_held lane k rest
    store_now =
        joined-one s.vcs v (λ u. packet_held lane k (new.buffer x p u)) owned.0 (λ w w_there apart.
        elim (place3_cases x p w x p v) [
          | inl here ↦ absurd (apart here.3)
          | inr away ↦ rw away.0 (others w w_there apart)
        ]) ∙
        rw (same3-true x p v x p v refl refl refl)

    line_now : packet_line new lane k x (s.next_port x lane.dst) ≡ packet_line net lane k x (s.next_port x lane.dst)
        ++ bare f ∷ []
    line_now =
        let port : s.next_port x lane.dst ≡ o = ap (λ (l : Lane). s.next_port x l.dst) own ∙ leads in
        rw (port, same-true x o x o refl refl, packet-push lane k (net.out x o) (with_channel f d), test)

    hop_same : packet_line new lane k x (s.next_port x lane.dst) ++ packet_store s new lane k x p
        ≡ packet_line net lane k x (s.next_port x lane.dst) ++ packet_store s net lane k x p
    hop_same = rw (
      line_now,
      store_now,
      store_was,
      append_assoc (packet_line net lane k x (s.next_port x lane.dst)) (bare f ∷ []) (packet_held lane k rest),
    )

    change : ahead s mesh lane there (packet_store s new lane k) (packet_line new lane k) (s.hops x lane.dst) x p
        ≡ ahead s mesh lane there (packet_store s net lane k) (packet_line net lane k) (s.hops x lane.dst) x p
    change = passed_on s mesh lane there (packet_store s net lane k) (packet_store s new lane k)
        (packet_line net lane k) (packet_line new lane k) (s.hops x lane.dst) x p
        (enters_node s mesh lane there entered) refl nearer hop_same

    pub past_more : past s mesh lane there (packet_store s new lane k) (packet_line new lane k) (s.hops x lane.dst) x
        ≡ past s mesh lane there (packet_store s net lane k) (packet_line net lane k) (s.hops x lane.dst) x
        ++ bare f ∷ []
    past_more = past_grown s mesh lane there (packet_store s net lane k) (packet_store s new lane k)
        (packet_line net lane k) (packet_line new lane k) (s.hops x lane.dst) x (bare f ∷ [])
        (enters_node s mesh lane there entered) refl nearer line_now

    past_other : (x2 p2 : ℕ) → Enters s lane x2 p2 → (x2 ≡ x → ⊥)
        → past s mesh lane there (packet_store s new lane k) (packet_line new lane k) (s.hops x2 lane.dst) x2
        ≡ past s mesh lane there (packet_store s net lane k) (packet_line net lane k) (s.hops x2 lane.dst) x2
    past_other x2 p2 at other =
        let apart : s.hops x lane.dst ≡ s.hops x2 lane.dst
        → ⊥ = λ e. other (sym (enters_once s mesh lane there entered at e).0) in
        let side : (s.hops x lane.dst < s.hops x2 lane.dst) ⊎ (s.hops x2 lane.dst < s.hops x lane.dst) = grind arith in
        past_kept s mesh lane there (packet_store s net lane k) (packet_store s new lane k) (packet_line net lane k)
        (packet_line new lane k) x p entered change further (s.hops x2 lane.dst) x2 p2 at refl
        ((elsewhere x2 other).1 (s.next_port x2 lane.dst))
        (elim side [ inl less ↦ inl less | inr more ↦ inr (λ z h. nearer z (omega arith)) ])

  pub packet_send_ahead : ahead s mesh lane there (packet_store s new lane k) (packet_line new lane k)
      (s.hops lane.src lane.dst) lane.src s.terminal
      ≡ ahead s mesh lane there (packet_store s net lane k) (packet_line net lane k)
      (s.hops lane.src lane.dst) lane.src s.terminal
  packet_send_ahead =
      elim (packet_cases lane k f) [
        | inl on ↦ moved_all s mesh lane there (packet_store s net lane k) (packet_store s new lane k)
            (packet_line net lane k) (packet_line new lane k) x p (entered on.0 on.1) (change on.0 on.1) further
        | inr off ↦ frame s mesh lane there (packet_store s net lane k) (packet_store s new lane k)
            (packet_line net lane k) (packet_line new lane k)
            (s.hops lane.src lane.dst) lane.src s.terminal there.source refl (λ z _. quiet off.0 z)
      ]

  pub packet_send_cut : PacketCutHolds s mesh lane there k new
  packet_send_cut = rw packet_send_ahead cut

  -- nothing that is past a node comes back
  pub past_stays : (x2 p2 : ℕ) → Enters s lane x2 p2
      → length (past s mesh lane there (packet_store s net lane k) (packet_line net lane k) (s.hops x2 lane.dst) x2)
      ≤ length (past s mesh lane there (packet_store s new lane k) (packet_line new lane k) (s.hops x2 lane.dst) x2)
  past_stays x2 p2 at =
      elim (packet_cases lane k f) [
        | inl on ↦ elim (number_cases x2 x) [
          | inl here ↦ rw (
            here.1,
            past_more on.0 on.1,
            length-append (past s mesh lane there (packet_store s net lane k) (packet_line net lane k)
                (s.hops x lane.dst) x) (bare f ∷ []),
          ) (omega arith)
          | inr away ↦ rw (past_other on.0 on.1 x2 p2 at away.1) (omega arith)
        ]
        | inr off ↦
            rw (past_frame s mesh lane there (packet_store s net lane k) (packet_store s new lane k)
            (packet_line net lane k) (packet_line new lane k) (s.hops x2 lane.dst) x2
            (enters_node s mesh lane there at) refl (λ z _. quiet off.0 z)
            ((quiet off.0 x2).1 (s.next_port x2 lane.dst))) (omega arith)
      ]
