-- A flit that is taken from a link or fed keeps the cut of each packet.
use Rattle.std.proofs.Common.{◌≡◌, ℕ, suc, ◌<◌, ◌⊎◌, inl, inr, true, false, ◌==◌, List, [], ◌∷◌, ◌++◌, Some, refl, sym}
use Rattle.std.proofs.Common.{ap, subst, ◌∙◌, arith, append_assoc, append-nil}
use Rattle.worm_flit.specs.declared.Lane.{Lane}
use Rattle.worm_flit.specs.declared.Flit.{Flit}
use Rattle.worm_flit.specs.Stamps.{bare, with_channel, on_channel}
use Rattle.worm_theory.specs.Shape.{Shape, IsMesh, HasLane, Owns, Enters, by_link}
use Rattle.worm_theory.specs.Network.{Network}
use Rattle.worm_theory.specs.Steps.{taken_from, fed}
use Rattle.worm_theory.specs.Sound.{Sound, Leaves, IsFrom, unfed_on}
use Rattle.worm_theory.specs.PacketCut.{is_of_packet, packet_held, packet_store, packet_line, OneWithin, WithinPast}
use Rattle.worm_theory.proofs.Places.{number_cases, place_cases, place3_cases, same-true, same3-true, same-false}
use Rattle.worm_theory.proofs.Routes.{enters_node, enters_within, enters_once, hop}
use Rattle.worm_theory.proofs.Cut.{ahead, past, ahead-past, SameAt, frame, grown, moved_all, past_frame, past_kept}
use Rattle.worm_theory.proofs.CutSteps.{same3-false}
use Rattle.worm_theory.proofs.PacketLists.{packet_one, packet-cons, packet-append, packet-push, packet_cases}
use Rattle.worm_theory.proofs.PacketLists.{joined-same, joined-one}
use Rattle.worm_theory.proofs.PacketOnly.{PacketCutHolds, link_only, source_only}

-- a list with an element has a first one
first_of : (xs : List Flit) (b : Flit) (ys : List Flit) → (a : Flit) × (as' : List Flit) × (xs ++ b ∷ ys ≡ a ∷ as')
first_of [] b ys = (b, ys, refl)
first_of (x ∷ xs) b ys = (x, xs ++ b ∷ ys, refl)

module _ (s : Shape) (mesh : IsMesh s) (lane : Lane) (there : HasLane s lane) (k : ℕ) (net : Network)
    (sound : Sound s net) (cut : PacketCutHolds s mesh lane there k net) (one : OneWithin net)
    (within : WithinPast s net) where
  module _ (x p y : ℕ) (linked : s.neighbour x p ≡ Some y) (f : Flit) (rest : List Flit)
      (front : net.out y (s.opposite p) ≡ f ∷ rest) (leaves : Leaves s y (s.opposite p) f) where
    abbrev took : Network
    took = taken_from net x p y (s.opposite p) (f ∷ rest)

    abbrev TookSame : ℕ → Type 0
    TookSame z = SameAt s mesh lane there (packet_store s net lane k) (packet_store s took lane k)
        (packet_line net lane k) (packet_line took lane k) z

    take_quiet : is_of_packet lane k f ≡ false → (z : ℕ) → TookSame z
    take_quiet off z = (
      λ q. joined-same s.vcs (λ u. packet_held lane k (took.buffer z q u))
          (λ u. packet_held lane k (net.buffer z q u)) (λ u _.
          elim (place3_cases z q u x p f.vc) [
            | inl here ↦ rw (
              here.0,
              packet-push lane k (net.buffer x p f.vc) f,
              off,
              append-nil,
              here.1,
              here.2,
              here.3,
            )
            | inr away ↦ rw away.0
          ]),
      λ e. elim (place_cases z e y (s.opposite p)) [
        | inl here ↦
            let line : net.out z e ≡ f ∷ rest = cc in
            rw (here.0, line, packet-cons lane k f rest, off)
        | inr away ↦ rw away.0
      ],
    )

    take_away : (z : ℕ) → (z ≡ x → ⊥) → (z ≡ y → ⊥) → TookSame z
    take_away z not_x not_y = (
      λ q. joined-same s.vcs (λ u. packet_held lane k (took.buffer z q u))
          (λ u. packet_held lane k (net.buffer z q u)) (λ u _. rw (same3-false z q u x p f.vc not_x)),
      λ e. rw (same-false z e y (s.opposite p) (λ a _. not_y a)),
    )

    module _ (test : is_of_packet lane k f ≡ true) (own : lane ≡ f.lane) where
      take_entered : Enters s lane y leaves.from_port
      take_entered = subst (λ l. Enters s l y leaves.from_port) (sym own) leaves.entered

      take_port : s.next_port y lane.dst ≡ s.opposite p
      take_port = ap (λ (l : Lane). s.next_port y l.dst) own ∙ leaves.by_port

      take_linked : s.neighbour y (s.next_port y lane.dst) ≡ Some x
      take_linked = ap (s.neighbour y) take_port ∙ mesh.link_back x p y linked

      take_into : s.opposite (s.next_port y lane.dst) ≡ p
      take_into = ap s.opposite take_port ∙ mesh.opposite_twice x p y linked

      take_hop : s.hops y lane.dst ≡ suc (s.hops x lane.dst)
      take_hop = hop s mesh lane there x take_entered take_linked

      apart : x ≡ y → ⊥
      apart e = let step = take_hop in let both = ap (λ z. s.hops z lane.dst) e in absurd (omega arith)

      take_node : x < s.nodes
      take_node = enters_node s mesh lane there (by_link {p = leaves.from_port} take_entered take_linked)

      take_owned : Owns s lane.class f.vc
      take_owned = subst (λ l. Owns s l.class f.vc) (sym own) leaves.owned

      pub take_others : (w : ℕ) → w < s.vcs → (w ≡ f.vc → ⊥) → packet_held lane k (net.buffer x p w) ≡ []
      take_others w w_there other =
          let coming : packet_held lane k (on_channel f.vc (net.out y (s.opposite p)))
          ≡ bare f ∷ packet_held lane k (on_channel f.vc rest) =
          let itself : (f.vc == f.vc) ≡ true = grind arith in
          rw (front, itself, packet-cons lane k f (on_channel f.vc rest), test) in
          let whole = packet-append lane k (net.buffer x p f.vc) (on_channel f.vc (net.out y (s.opposite p)))
          ∙ ap (λ fs. packet_held lane k (net.buffer x p f.vc) ++ fs) coming in
          let first = first_of (packet_held lane k (net.buffer x p f.vc)) (bare f)
          (packet_held lane k (on_channel f.vc rest)) in
          let only = link_only s mesh lane there k net sound cut one within y leaves.from_port x take_entered
          take_linked f.vc w take_owned.0 w_there (λ e. other (sym e)) first.0 first.1 in
          let only_p = rw (take_into, take_port) at only in
          only_p (whole ∙ first.2)

      store_more : packet_store s took lane k x p ≡ packet_store s net lane k x p ++ packet_one lane k f
      store_more =
          let was = joined-one s.vcs f.vc (λ u. packet_held lane k (net.buffer x p u)) take_owned.0 take_others in
          joined-one s.vcs f.vc (λ u. packet_held lane k (took.buffer x p u)) take_owned.0 (λ w w_there other.
          elim (place3_cases x p w x p f.vc) [
            | inl here ↦ absurd (other here.3)
            | inr away ↦ rw away.0 (take_others w w_there other)
          ]) ∙
          rw (same3-true x p f.vc x p f.vc refl refl refl, packet-push lane k (net.buffer x p f.vc) f, was)

      take_nearer : (z : ℕ) → s.hops z lane.dst < s.hops x lane.dst → TookSame z
      take_nearer z h = let step = take_hop in
          take_away z (λ e. let less = rw e at h in absurd (omega arith)) (λ e. let less = rw e at h in
          absurd (omega arith))

      take_further : (z : ℕ) → s.hops y lane.dst < s.hops z lane.dst → TookSame z
      take_further z h = let step = take_hop in
          take_away z (λ e. let less = rw e at h in absurd (omega arith)) (λ e. let less = rw e at h in
          absurd (omega arith))

      take_line_x : packet_line took lane k x (s.next_port x lane.dst)
          ≡ packet_line net lane k x (s.next_port x lane.dst)
      take_line_x = rw (same-false x (s.next_port x lane.dst) y (s.opposite p) (λ a _. apart a))

      take_grown : ahead s mesh lane there (packet_store s took lane k) (packet_line took lane k)
          (s.hops x lane.dst) x p ≡ ahead s mesh lane there (packet_store s net lane k) (packet_line net lane k)
          (s.hops x lane.dst) x p ++ packet_one lane k f
      take_grown = grown s mesh lane there (packet_store s net lane k) (packet_store s took lane k)
          (packet_line net lane k) (packet_line took lane k) (s.hops x lane.dst) x p
          (packet_one lane k f) take_node refl take_nearer take_line_x store_more

      take_line_y : packet_line net lane k y (s.opposite p) ≡ packet_one lane k f
          ++ packet_line took lane k y (s.opposite p)
      take_line_y = rw (same-true y (s.opposite p) y (s.opposite p) refl refl, front, packet-cons lane k f rest)

      take_store_y : (q : ℕ) → packet_store s took lane k y q ≡ packet_store s net lane k y q
      take_store_y q = joined-same s.vcs (λ u. packet_held lane k (took.buffer y q u))
          (λ u. packet_held lane k (net.buffer y q u)) (λ u _. rw (same3-false y q u x p f.vc (λ e. apart (sym e))))

      take_past_y : past s mesh lane there (packet_store s took lane k) (packet_line took lane k) (s.hops y lane.dst) y
          ≡ past s mesh lane there (packet_store s net lane k) (packet_line net lane k) (s.hops y lane.dst) y
      take_past_y =
          rw (
            take_hop,
            take_linked,
            take_into,
            take_grown,
            take_port,
            take_line_y,
            append_assoc (ahead s mesh lane there (packet_store s net lane k) (packet_line net lane k)
                (s.hops x lane.dst) x p) (packet_one lane k f) (packet_line took lane k y (s.opposite p)),
          )

      take_change : ahead s mesh lane there (packet_store s took lane k) (packet_line took lane k)
          (s.hops y lane.dst) y leaves.from_port
          ≡ ahead s mesh lane there (packet_store s net lane k) (packet_line net lane k)
          (s.hops y lane.dst) y leaves.from_port
      take_change =
          ahead-past s mesh lane there (packet_store s took lane k) (packet_line took lane k)
          (s.hops y lane.dst) y leaves.from_port ∙
          ap (λ fs. fs ++ packet_store s took lane k y leaves.from_port) take_past_y ∙
          ap (λ fs. past s mesh lane there (packet_store s net lane k) (packet_line net lane k) (s.hops y lane.dst) y
          ++ fs) (take_store_y leaves.from_port) ∙
          sym (ahead-past s mesh lane there (packet_store s net lane k) (packet_line net lane k)
          (s.hops y lane.dst) y leaves.from_port)

      take_past_other : (x2 p2 : ℕ) → Enters s lane x2 p2 → (x2 ≡ y → ⊥)
          → past s mesh lane there (packet_store s took lane k) (packet_line took lane k) (s.hops x2 lane.dst) x2
          ≡ past s mesh lane there (packet_store s net lane k) (packet_line net lane k) (s.hops x2 lane.dst) x2
      take_past_other x2 p2 at other =
          let no : s.hops y lane.dst ≡ s.hops x2 lane.dst
          → ⊥ = λ e. other (sym (enters_once s mesh lane there take_entered at e).0) in
          let side : (s.hops y lane.dst < s.hops x2 lane.dst) ⊎ (s.hops x2 lane.dst < s.hops y lane.dst) =
          grind arith in
          let step = take_hop in
          past_kept s mesh lane there (packet_store s net lane k) (packet_store s took lane k) (packet_line net lane k)
          (packet_line took lane k) y leaves.from_port take_entered take_change take_further
          (s.hops x2 lane.dst) x2 p2 at refl
          (rw (same-false x2 (s.next_port x2 lane.dst) y (s.opposite p) (λ a _. other a)))
          (elim side [ inl less ↦ inl less | inr more ↦ inr (λ z h. take_nearer z (omega arith)) ])

    take_ahead : ahead s mesh lane there (packet_store s took lane k) (packet_line took lane k)
        (s.hops lane.src lane.dst) lane.src s.terminal
        ≡ ahead s mesh lane there (packet_store s net lane k) (packet_line net lane k)
        (s.hops lane.src lane.dst) lane.src s.terminal
    take_ahead =
        elim (packet_cases lane k f) [
          | inl on ↦ moved_all s mesh lane there (packet_store s net lane k) (packet_store s took lane k)
              (packet_line net lane k) (packet_line took lane k) y leaves.from_port (take_entered on.0 on.1)
              (take_change on.0 on.1) (take_further on.0 on.1)
          | inr off ↦ frame s mesh lane there (packet_store s net lane k) (packet_store s took lane k)
              (packet_line net lane k) (packet_line took lane k)
              (s.hops lane.src lane.dst) lane.src s.terminal there.source refl (λ z _. take_quiet off.0 z)
        ]

    pub packet_take_cut : PacketCutHolds s mesh lane there k took
    packet_take_cut = rw take_ahead cut

    pub take_past : (x2 p2 : ℕ) → Enters s lane x2 p2
        → past s mesh lane there (packet_store s took lane k) (packet_line took lane k) (s.hops x2 lane.dst) x2
        ≡ past s mesh lane there (packet_store s net lane k) (packet_line net lane k) (s.hops x2 lane.dst) x2
    take_past x2 p2 at =
        elim (packet_cases lane k f) [
          | inl on ↦ elim (number_cases x2 y) [
            | inl here ↦ rw here.1 (take_past_y on.0 on.1)
            | inr away ↦ take_past_other on.0 on.1 x2 p2 at away.1
          ]
          | inr off ↦ past_frame s mesh lane there (packet_store s net lane k) (packet_store s took lane k)
              (packet_line net lane k) (packet_line took lane k) (s.hops x2 lane.dst) x2
              (enters_node s mesh lane there at) refl (λ z _. take_quiet off.0 z)
              ((take_quiet off.0 x2).1 (s.next_port x2 lane.dst))
        ]

  module _ (x c : ℕ) (class_there : c < s.classes) (f : Flit) (rest : List Flit) (front : net.unfed x c ≡ f ∷ rest)
      (from : IsFrom s x c f) where
    abbrev given : Network
    given = fed s net x c (f ∷ rest)

    abbrev GivenSame : ℕ → Type 0
    GivenSame z = SameAt s mesh lane there (packet_store s net lane k) (packet_store s given lane k)
        (packet_line net lane k) (packet_line given lane k) z

    feed_quiet : is_of_packet lane k f ≡ false → (z : ℕ) → GivenSame z
    feed_quiet off z = (
      λ q. joined-same s.vcs (λ u. packet_held lane k (given.buffer z q u))
          (λ u. packet_held lane k (net.buffer z q u)) (λ u _.
          elim (place3_cases z q u x s.terminal (s.first c)) [
            | inl here ↦ rw (
              here.0,
              packet-push lane k (net.buffer x s.terminal (s.first c))
                  (with_channel f (s.first c)),
              off,
              append-nil,
              here.1,
              here.2,
              here.3,
            )
            | inr away ↦ rw away.0
          ]),
      λ e. refl,
    )

    feed_away : (z : ℕ) → (z ≡ x → ⊥) → GivenSame z
    feed_away z other = (
      λ q. joined-same s.vcs (λ u. packet_held lane k (given.buffer z q u))
          (λ u. packet_held lane k (net.buffer z q u)) (λ u _. rw (same3-false z q u x s.terminal (s.first c) other)),
      λ e. refl,
    )

    module _ (test : is_of_packet lane k f ≡ true) (own : lane ≡ f.lane) where
      at_node : lane.src ≡ x
      at_node = ap (λ (l : Lane). l.src) own ∙ from.own

      of_class : lane.class ≡ c
      of_class = ap (λ (l : Lane). l.class) own ∙ from.own_class

      feed_owned : Owns s lane.class (s.first c)
      feed_owned = subst (λ n. Owns s n (s.first c)) (sym of_class) (mesh.first_owned c class_there)

      unfed_here : net.unfed lane.src lane.class ≡ f ∷ rest
      unfed_here = let a = at_node in let b = of_class in cc

      unfed_first : unfed_on s net lane.src (s.first c) ≡ f ∷ rest
      unfed_first =
          let owner = feed_owned.1 in
          let class = of_class in
          let back : s.first (s.owner (s.first c)) ≡ s.first c = cc in
          let test_first : (s.first (s.owner (s.first c)) == s.first c) ≡ true = grind arith in
          rw (test_first, owner) unfed_here

      pub feed_others : (w : ℕ) → w < s.vcs → (w ≡ s.first c → ⊥)
          → packet_held lane k (net.buffer lane.src s.terminal w) ≡ []
      feed_others w w_there other =
          let coming : packet_held lane k (unfed_on s net lane.src (s.first c)) ≡ bare f ∷ packet_held lane k rest =
          ap (λ fs. packet_held lane k fs) unfed_first ∙ rw (packet-cons lane k f rest, test) in
          let whole = packet-append lane k (net.buffer lane.src s.terminal (s.first c))
          (unfed_on s net lane.src (s.first c))
          ∙ ap (λ fs. packet_held lane k (net.buffer lane.src s.terminal (s.first c)) ++ fs) coming in
          let first = first_of (packet_held lane k (net.buffer lane.src s.terminal (s.first c))) (bare f)
          (packet_held lane k rest) in
          source_only s mesh lane there k net sound cut one within (s.first c) w feed_owned.1 feed_owned.0 w_there
          (λ e. other (sym e)) first.0 first.1 (whole ∙ first.2)

      feed_store : packet_store s given lane k lane.src s.terminal ≡ packet_store s net lane k lane.src s.terminal
          ++ packet_one lane k f
      feed_store =
          let was = joined-one s.vcs (s.first c)
          (λ u. packet_held lane k (net.buffer lane.src s.terminal u)) feed_owned.0 feed_others in
          joined-one s.vcs (s.first c) (λ u. packet_held lane k (given.buffer lane.src s.terminal u)) feed_owned.0
          (λ w w_there other.
          elim (place3_cases lane.src s.terminal w x s.terminal (s.first c)) [
            | inl here ↦ absurd (other here.3)
            | inr away ↦ rw away.0 (feed_others w w_there other)
          ]) ∙
          rw (
            same3-true lane.src s.terminal (s.first c) x s.terminal (s.first c) at_node refl refl,
            packet-push lane k (net.buffer x s.terminal (s.first c)) (with_channel f (s.first c)),
            was,
            at_node,
          )

      feed_grown : ahead s mesh lane there (packet_store s given lane k) (packet_line given lane k)
          (s.hops lane.src lane.dst) lane.src s.terminal
          ≡ ahead s mesh lane there (packet_store s net lane k) (packet_line net lane k)
          (s.hops lane.src lane.dst) lane.src s.terminal ++ packet_one lane k f
      feed_grown =
          grown s mesh lane there (packet_store s net lane k) (packet_store s given lane k) (packet_line net lane k)
          (packet_line given lane k) (s.hops lane.src lane.dst) lane.src s.terminal
          (packet_one lane k f) there.source refl
          (λ z h. feed_away z (λ e. let at : z ≡ lane.src = e ∙ sym at_node in let less = rw at at h in
          absurd (omega arith)))
          refl feed_store

    pub packet_feed_cut : PacketCutHolds s mesh lane there k given
    packet_feed_cut =
        elim (packet_cases lane k f) [
          | inl on ↦
              let here = same-true lane.src lane.class x c (at_node on.0 on.1) (of_class on.0 on.1) in
              let line = unfed_here on.0 on.1 in
              let before = rw line at cut in
              rw (
                feed_grown on.0 on.1,
                here,
                append_assoc
                    (ahead s mesh lane there (packet_store s net lane k) (packet_line net lane k)
                    (s.hops lane.src lane.dst) lane.src s.terminal) (packet_one lane k f) (packet_held lane k rest),
                ← packet-cons lane k f rest,
              ) before
          | inr off ↦
              let ahead_same = frame s mesh lane there (packet_store s net lane k) (packet_store s given lane k)
              (packet_line net lane k) (packet_line given lane k)
              (s.hops lane.src lane.dst) lane.src s.terminal there.source refl (λ z _. feed_quiet off.0 z) in
              elim (place_cases lane.src lane.class x c) [
                | inl here ↦
                    let line : net.unfed lane.src lane.class ≡ f ∷ rest = cc in
                    let before = rw (line, packet-cons lane k f rest, off.0) at cut in
                    rw (ahead_same, here.0) before
                | inr away ↦ rw (ahead_same, away.0) cut
              ]
        ]

    pub feed_past : (x2 p2 : ℕ) → Enters s lane x2 p2
        → past s mesh lane there (packet_store s given lane k) (packet_line given lane k) (s.hops x2 lane.dst) x2
        ≡ past s mesh lane there (packet_store s net lane k) (packet_line net lane k) (s.hops x2 lane.dst) x2
    feed_past x2 p2 at =
        let up = enters_within s mesh lane there at in
        let nearer : (z : ℕ) → s.hops z lane.dst < s.hops x2 lane.dst → GivenSame z =
        λ z h. elim (packet_cases lane k f) [
          | inl on ↦ feed_away z (λ e. let here : z ≡ lane.src = e ∙ sym (at_node on.0 on.1) in
              let less = rw here at h in absurd (omega arith))
          | inr off ↦ feed_quiet off.0 z
        ] in
        past_frame s mesh lane there (packet_store s net lane k) (packet_store s given lane k) (packet_line net lane k)
        (packet_line given lane k) (s.hops x2 lane.dst) x2 (enters_node s mesh lane there at) refl nearer refl
