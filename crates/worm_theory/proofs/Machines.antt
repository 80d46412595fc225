-- Each step makes at most one move of one lane's machine.
use Rattle.std.proofs.Common.{ℕ, ◌≡◌, ◌≢◌, ◌*◌, ◌<◌, ⊎_elim, inl, inr, true, false, cond, ◌==◌, Option, Some, None}
use Rattle.std.proofs.Common.{List, [], ◌∷◌, ◌++◌, length, map, arith, refl, ap, sym, ◌∙◌, subst}
use Rattle.std.proofs.lemmas.Bool.{cases_eq, eq-eqb, ne_eqb, true≢false}
use Rattle.std.proofs.lemmas.List.{append-nil}
use Rattle.std.proofs.lemmas.List.Elements.{All-head}
use Rattle.worm_flit.specs.declared.Lane.{Lane}
use Rattle.worm_flit.specs.declared.Flit.{Flit}
use Rattle.worm_flit.specs.Stamps.{bare, with_channel, is_of_lane, of_lane}
use Rattle.worm_flit.specs.Packets.{packet_flits, mark}
use Rattle.worm_flit.specs.Channels.{AreChannels}
use Rattle.worm_records.specs.declared.InRecord.{InRecord}
use Rattle.worm_records.specs.declared.InRecord.TheVariants.{Idle, Waiting, Active}
use Rattle.worm_mesh.specs.Address.{neighbour_of, opposite_of, AreRadices}
use Rattle.worm_mesh.proofs.Digits.{AreLarge, AreLarge-from_radices}
use Rattle.worm_mesh.proofs.Neighbours.{Joins-from, opposite_twice}
use Rattle.worm_route.specs.Route.{port_of}
use Rattle.worm_route.specs.Places.{Place, Source, Buffer, Link, places_of, moved_to, ArePlaces, IsLast, IsPlaceOf}
use Rattle.worm_route.specs.LaneMachine.{machine_of, Raises, Appends, IsMoved, IsTaken}
use Rattle.worm_route.proofs.Onward.{onward, port_arrived}
use Rattle.worm_route.proofs.PlacesByNode.{ArePlaces-of}
use Rattle.worm_route.proofs.LaneSteps.{hop_raises, delivery_raises, offer_appends}
use Rattle.worm_theory.specs.Shape.{Shape, IsMesh, HasLane, Owns, Enters, OwnsAlone}
use Rattle.worm_theory.specs.Network.{Network, put2, put3}
use Rattle.worm_theory.specs.Steps.{Step, Offer, CloseLane, Feed, Route, Grant, Send, Take, GiveCredit, TakeCredit}
use Rattle.worm_theory.specs.Steps.{IsPort, IsThere, Enabled, offered, fed, routed, granted, sent, sent_by, taken}
use Rattle.worm_theory.specs.Steps.{taken_from, gave, got, after, next_number}
use Rattle.worm_theory.specs.Sound.{Sound, Passes, Leaves, IsFrom}
use Rattle.worm_theory.specs.Cut.{held, delivered, lane_store, lane_line}
use Rattle.worm_theory.proofs.Places.{place_cases, place3_cases, same-true, same3-true, same-false}
use Rattle.worm_theory.proofs.Packets.{is_same_lane, same_lane_cases, packet-own, packet-others}
use Rattle.worm_theory.proofs.Cut.{held-cons, held-append, held-push}
use Rattle.worm_theory.proofs.CutSteps.{send_quiet, take_quiet, feed_quiet}
use Rattle.worm_theory.proofs.Send.{leading, passing, front_follows}
use Rattle.worm_theory.specs.ShapeOf.{shape_of}
use Rattle.worm_theory.specs.LaneMoves.{lane_held, lane_machine, front_lane, sent_lane, taken_lane, lane_of, IsMove}
use Rattle.worm_theory.specs.LaneMoves.{MovesOne, EachMovesOne}
use Rattle.worm_theory.proofs.Shapes.{shape_is_mesh}
use Rattle.worm_theory.proofs.Stands.{entered_place, left_place, source_place}
use Rattle.worm_theory.proofs.SameLane.{same_lane, is_same, no_lane}

module _ (ks counts : List ℕ) (depth : ℕ) (mesh_holds : AreRadices ks) (counts_hold : AreChannels counts) (lane : Lane)
    (there : HasLane (shape_of ks counts depth) lane) (c : ℕ)
    (alone : OwnsAlone (shape_of ks counts depth) lane.class c) where
  abbrev shape : Shape
  shape = shape_of ks counts depth

  l : AreLarge ks
  l = AreLarge-from_radices ks mesh_holds.radices

  mesh : IsMesh shape
  mesh = shape_is_mesh ks counts depth mesh_holds counts_hold

  places : ArePlaces ks lane.src lane.dst (places_of ks lane.src lane.dst)
  places = ArePlaces-of ks l lane.src lane.dst there.source there.destination

  -- nothing of the lane changes
  same_machine : (net new : Network) → delivered shape new lane ≡ delivered shape net lane
      → ((place : Place) → lane_held shape new lane c place ≡ lane_held shape net lane c place)
      → lane_machine ks shape new lane c ≡ lane_machine ks shape net lane c
  same_machine net new d h = λ i. machine_of (d i) (λ place. h place i) (places_of ks lane.src lane.dst)

  abbrev Raised : Network → Network → Type 0
  Raised net new = Raises (lane_machine ks shape net lane c) (lane_machine ks shape new lane c)

  -- a flit goes from a place to the next
  hop : (net new : Network) (place : Place) (f : Flit) → IsPlaceOf ks lane.src lane.dst place
      → (IsLast lane.dst place → ⊥) → delivered shape new lane ≡ delivered shape net lane
      → IsMoved (lane_held shape net lane c) (lane_held shape new lane c) (moved_to ks lane.src lane.dst place) place f
      → Raised net new
  hop net new place f at not_last d m =
      subst (λ v. Raises (lane_machine ks shape net lane c)
      (machine_of v (lane_held shape new lane c) (places_of ks lane.src lane.dst))) (sym d)
      (hop_raises ks lane.src lane.dst (lane_held shape net lane c) (lane_held shape new lane c)
      (delivered shape net lane) (places_of ks lane.src lane.dst) places at.0 at.1 place f at.2 not_last m)

  -- a flit goes to the sink
  delivery : (net new : Network) (place : Place) (f : Flit) → IsPlaceOf ks lane.src lane.dst place
      → IsLast lane.dst place → delivered shape new lane ≡ delivered shape net lane ++ f ∷ []
      → IsTaken (lane_held shape net lane c) (lane_held shape new lane c) place f → Raised net new
  delivery net new place f at last d m =
      subst (λ v. Raises (lane_machine ks shape net lane c)
      (machine_of v (lane_held shape new lane c) (places_of ks lane.src lane.dst))) (sym d)
      (delivery_raises ks lane.src lane.dst (lane_held shape net lane c) (lane_held shape new lane c)
      (delivered shape net lane) (places_of ks lane.src lane.dst) places at.0 at.1 place f at.2 last m)

  module _ (net : Network) (x k : ℕ) (fs : List Flit) where
    offer_same : held lane fs ≡ [] → lane_machine ks shape (offered net x k fs) lane c
        ≡ lane_machine ks shape net lane c
    offer_same none = same_machine net (offered net x k fs) refl each
      where
        each : (place : Place) → lane_held shape (offered net x k fs) lane c place ≡ lane_held shape net lane c place
        each Source =
            elim (place_cases lane.src lane.class x k) [
              | inl here ↦
                  let full : net.unfed x k ≡ net.unfed lane.src lane.class = cc in
                  rw (
                    here.0,
                    full,
                    held-append lane (net.unfed lane.src lane.class) fs,
                    none,
                  ) (append-nil (held lane (net.unfed lane.src lane.class)))
              | inr away ↦ rw away.0 refl
            ]
        each (Buffer z q) = refl
        each (Link z e) = refl

    offer_own : lane.src ≡ x → lane.class ≡ k
        → Appends (lane_machine ks shape net lane c) (lane_machine ks shape (offered net x k fs) lane c) (held lane fs)
    offer_own node class =
        offer_appends ks lane.src lane.dst (lane_held shape net lane c) (lane_held shape (offered net x k fs) lane c)
        (delivered shape net lane) (places_of ks lane.src lane.dst) places (held lane fs)
        (record { put = put_source; others = others })
      where
        put_source : held lane (put2 net.unfed x k (net.unfed x k ++ fs) lane.src lane.class)
            ≡ held lane (net.unfed lane.src lane.class) ++ held lane fs
        put_source =
            let full : net.unfed x k ≡ net.unfed lane.src lane.class = cc in
            rw (
              same-true lane.src lane.class x k node class,
              full,
            ) (held-append lane (net.unfed lane.src lane.class) fs)

        others : (p : Place) → p ≢ Source → lane_held shape (offered net x k fs) lane c p ≡ lane_held shape net lane c p
        others Source ne = absurd (ne refl)
        others (Buffer z q) ne = refl
        others (Link z e) ne = refl

  module _ (net : Network) (x k : ℕ) (class_there : k < shape.classes) (f : Flit) (rest : List Flit)
      (front : net.unfed x k ≡ f ∷ rest) (from : IsFrom shape x k f) where
    abbrev fed_net : Network
    fed_net = fed shape net x k (f ∷ rest)

    feed_same : is_of_lane lane f ≡ false → lane_machine ks shape fed_net lane c ≡ lane_machine ks shape net lane c
    feed_same off = same_machine net fed_net refl each
      where
        each : (place : Place) → lane_held shape fed_net lane c place ≡ lane_held shape net lane c place
        each Source =
            elim (place_cases lane.src lane.class x k) [
              | inl here ↦
                  let full : net.unfed lane.src lane.class ≡ f ∷ rest = cc in
                  rw (here.0, full, held-cons lane f rest, off) refl
              | inr away ↦ rw away.0 refl
            ]
        each (Buffer z q) = (feed_quiet shape mesh lane there c alone net x k class_there f rest front from off z).0 q
        each (Link z e) = refl

    feed_own : is_of_lane lane f ≡ true → lane ≡ f.lane → Raised net fed_net
    feed_own on own =
        hop net fed_net Source (bare f) (source_place ks counts depth l lane there) (λ e. e) refl
        (record { taken = taken_here; put = put_here; others = others })
      where
        node : lane.src ≡ x
        node = ap (λ (m : Lane). m.src) own ∙ from.own

        class : lane.class ≡ k
        class = ap (λ (m : Lane). m.class) own ∙ from.own_class

        channel : shape.first k ≡ c
        channel = alone (shape.first k) (subst (λ n. Owns shape n (shape.first k)) (sym class)
            (mesh.first_owned k class_there))

        taken_here : held lane (net.unfed lane.src lane.class)
            ≡ bare f ∷ held lane (put2 net.unfed x k rest lane.src lane.class)
        taken_here =
            let full : net.unfed lane.src lane.class ≡ f ∷ rest = cc in
            rw (same-true lane.src lane.class x k node class, full, held-cons lane f rest, on) refl

        put_here : lane_held shape fed_net lane c (Buffer lane.src (2 * length ks))
            ≡ lane_held shape net lane c (Buffer lane.src (2 * length ks)) ++ bare f ∷ []
        put_here =
            rw (
              same3-true lane.src (2 * length ks) c x (2 * length ks) (shape.first k) node refl (sym channel),
              held-push lane (net.buffer x (2 * length ks) (shape.first k)) (with_channel f (shape.first k)),
              on,
              channel,
              node,
            ) refl

        others : (p : Place) → p ≢ Buffer lane.src (2 * length ks) → p ≢ Source
            → lane_held shape fed_net lane c p ≡ lane_held shape net lane c p
        others Source ne ne2 = absurd (ne2 refl)
        others (Buffer z q) ne ne2 =
            elim (place3_cases z q c x (2 * length ks) (shape.first k)) [
              | inl here ↦ let at = here.1 ∙ sym node in absurd (ne (rw (at, here.2) refl))
              | inr away ↦ rw away.0 refl
            ]
        others (Link z e) ne ne2 = refl

  module _ (net : Network) (x p v o d : ℕ) (f : Flit) (rest : List Flit) (front : net.buffer x p v ≡ f ∷ rest)
      (pass : Passes shape x p v f) (leads : shape.next_port x f.lane.dst ≡ o) where
    abbrev sent_net : Network
    sent_net = sent_by shape net x p v o d f rest

    send_same : is_of_lane lane f ≡ false → lane_machine ks shape sent_net lane c ≡ lane_machine ks shape net lane c
    send_same off = same_machine net sent_net ((quiet lane.dst).1 (2 * length ks)) each
      where
        quiet : (z : ℕ) → ((q : ℕ) → lane_store sent_net lane c z q ≡ lane_store net lane c z q) × ((e : ℕ)
            → lane_line sent_net lane z e ≡ lane_line net lane z e)
        quiet z = send_quiet shape mesh lane there c alone net x p v o d f rest front pass leads off z

        each : (place : Place) → lane_held shape sent_net lane c place ≡ lane_held shape net lane c place
        each Source = refl
        each (Buffer z q) = (quiet z).0 q
        each (Link z e) = ap (λ r. cond (e == 2 * length ks) [] r) ((quiet z).1 e)

    module _ (on : is_of_lane lane f ≡ true) (own : lane ≡ f.lane) where
      send_port : port_of ks x lane.dst ≡ o
      send_port = ap (λ (m : Lane). port_of ks x m.dst) own ∙ leads

      send_place : IsPlaceOf ks lane.src lane.dst (Buffer x p)
      send_place = entered_place ks counts depth l lane there (subst (λ m. Enters shape m x p) (sym own) pass.entered)

      send_taken : held lane (net.buffer x p c) ≡ bare f ∷ held lane (put3 net.buffer x p v rest x p c)
      send_taken =
          let channel : v ≡ c = alone v (subst (λ m. Owns shape m.class v) (sym own) pass.owned) in
          let full : net.buffer x p c ≡ f ∷ rest = ap (net.buffer x p) (sym channel) ∙ front in
          rw (same3-true x p c x p v refl refl (sym channel), full, held-cons lane f rest, on) refl

      send_others : (place : Place) → place ≢ Link x o → place ≢ Buffer x p
          → lane_held shape sent_net lane c place ≡ lane_held shape net lane c place
      send_others Source ne ne2 = refl
      send_others (Buffer z q) ne ne2 =
          elim (place3_cases z q c x p v) [
            | inl here ↦ absurd (ne2 (rw (here.1, here.2) refl))
            | inr away ↦ rw away.0 refl
          ]
      send_others (Link z e) ne ne2 =
          elim (place_cases z e x o) [
            | inl here ↦ absurd (ne (rw (here.1, here.2) refl))
            | inr away ↦ rw away.0 refl
          ]

      send_on : (x ≡ lane.dst → ⊥) → (o ≡ 2 * length ks → ⊥) → Raised net sent_net
      send_on not_last not_terminal =
          hop net sent_net (Buffer x p) (bare f) send_place not_last delivered_same
          (record {
            taken = send_taken;
            put = put_here;
            others = λ place ne ne2. send_others place (λ e. ne (rw send_port e)) ne2;
          })
        where
          delivered_same : delivered shape sent_net lane ≡ delivered shape net lane
          delivered_same = rw (same-false lane.dst (2 * length ks) x o (λ e _. not_last (sym e))) refl

          put_here : lane_held shape sent_net lane c (Link x (port_of ks x lane.dst))
              ≡ lane_held shape net lane c (Link x (port_of ks x lane.dst)) ++ bare f ∷ []
          put_here = rw (
            send_port,
            ne_eqb o (2 * length ks) not_terminal,
            same-true x o x o refl refl,
            held-push lane (net.out x o) (with_channel f d),
            on,
          ) refl

      send_out : x ≡ lane.dst → o ≡ 2 * length ks → Raised net sent_net
      send_out last terminal =
          delivery net sent_net (Buffer x p) (bare f) send_place last delivered_more
          (record { taken = send_taken; others = others })
        where
          delivered_more : delivered shape sent_net lane ≡ delivered shape net lane ++ bare f ∷ []
          delivered_more = rw (
            same-true lane.dst (2 * length ks) x o (sym last) (sym terminal),
            held-push lane (net.out x o) (with_channel f d),
            on,
            last,
            terminal,
          ) refl

          others : (place : Place) → place ≢ Buffer x p
              → lane_held shape sent_net lane c place ≡ lane_held shape net lane c place
          others Source ne = refl
          others (Buffer z q) ne = send_others (Buffer z q) (λ e. cc) ne
          others (Link z e) ne =
              elim (place_cases z e x o) [
                | inl here ↦ rw (eq-eqb e (2 * length ks) (here.2 ∙ terminal)) refl
                | inr away ↦ rw away.0 refl
              ]

  module _ (net : Network) (x p y : ℕ) (linked : neighbour_of ks x p ≡ Some y) (f : Flit) (rest : List Flit)
      (front : net.out y (opposite_of p) ≡ f ∷ rest) (leaves : Leaves shape y (opposite_of p) f) where
    abbrev taken_net : Network
    taken_net = taken_from net x p y (opposite_of p) (f ∷ rest)

    take_back : neighbour_of ks y (opposite_of p) ≡ Some x
    take_back = mesh.link_back x p y linked

    take_link : opposite_of p ≡ 2 * length ks → ⊥
    take_link e = let port = (Joins-from ks y (opposite_of p) x l take_back).mesh_port in absurd (omega arith)

    take_same : is_of_lane lane f ≡ false → lane_machine ks shape taken_net lane c ≡ lane_machine ks shape net lane c
    take_same off = same_machine net taken_net ((quiet lane.dst).1 (2 * length ks)) each
      where
        quiet : (z : ℕ) → ((q : ℕ) → lane_store taken_net lane c z q ≡ lane_store net lane c z q) × ((e : ℕ)
            → lane_line taken_net lane z e ≡ lane_line net lane z e)
        quiet z = take_quiet shape mesh lane there c alone net x p y linked f rest front leaves off z

        each : (place : Place) → lane_held shape taken_net lane c place ≡ lane_held shape net lane c place
        each Source = refl
        each (Buffer z q) = (quiet z).0 q
        each (Link z e) = ap (λ r. cond (e == 2 * length ks) [] r) ((quiet z).1 e)

    take_own : is_of_lane lane f ≡ true → lane ≡ f.lane → Raised net taken_net
    take_own on own =
        hop net taken_net (Link y (opposite_of p)) (bare f) link_place (λ e. e) delivered_same
        (subst (λ v. IsMoved (lane_held shape net lane c) (lane_held shape taken_net lane c) v
        (Link y (opposite_of p)) (bare f)) (sym into) moved)
      where
        link_place : IsPlaceOf ks lane.src lane.dst (Link y (opposite_of p))
        link_place = left_place ks counts depth l lane there (record {
          from_port = leaves.from_port;
          entered = subst (λ m. Enters shape m y leaves.from_port) (sym own) leaves.entered;
          by_port = ap (λ (m : Lane). port_of ks y m.dst) own ∙ leaves.by_port;
          to = x;
          linked = take_back;
        })

        into : moved_to ks lane.src lane.dst (Link y (opposite_of p)) ≡ Buffer x p
        into = rw (take_back, opposite_twice p) refl

        delivered_same : delivered shape taken_net lane ≡ delivered shape net lane
        delivered_same = rw (same-false lane.dst (2 * length ks) y (opposite_of p) (λ _ e. take_link (sym e))) refl

        channel : f.vc ≡ c
        channel = alone f.vc (subst (λ m. Owns shape m.class f.vc) (sym own) leaves.owned)

        moved : IsMoved (lane_held shape net lane c) (lane_held shape taken_net lane c) (Buffer x p)
            (Link y (opposite_of p)) (bare f)
        moved = record {
          taken = rw (
            ne_eqb (opposite_of p) (2 * length ks) take_link,
            same-true y (opposite_of p) y (opposite_of p) refl refl,
            front,
            held-cons lane f rest,
            on,
          ) refl;
          put = rw (
            same3-true x p c x p f.vc refl refl (sym channel),
            held-push lane (net.buffer x p f.vc) f,
            on,
            channel,
          ) refl;
          others = others;
        }
          where
            others : (place : Place) → place ≢ Buffer x p → place ≢ Link y (opposite_of p)
                → lane_held shape taken_net lane c place ≡ lane_held shape net lane c place
            others Source ne ne2 = refl
            others (Buffer z q) ne ne2 =
                elim (place3_cases z q c x p f.vc) [
                  | inl here ↦ absurd (ne (rw (here.1, here.2) refl))
                  | inr away ↦ rw away.0 refl
                ]
            others (Link z e) ne ne2 =
                elim (place_cases z e y (opposite_of p)) [
                  | inl here ↦ absurd (ne2 (rw (here.1, here.2) refl))
                  | inr away ↦ rw away.0 refl
                ]

  -- by the lane of a flit, and by what a step reads
  abbrev MovesIf : Option Lane → Network → Network → Type 0
  MovesIf moved net new = (moved ≡ Some lane → Raised net new) × ((moved ≡ Some lane → ⊥)
      → lane_machine ks shape new lane c ≡ lane_machine ks shape net lane c)

  by_lane : (other : Lane) (net new : Network) → (is_same_lane lane other ≡ true → lane ≡ other → Raised net new)
      → (is_same_lane lane other ≡ false → lane_machine ks shape new lane c ≡ lane_machine ks shape net lane c)
      → MovesIf (Some other) net new
  by_lane other net new mine theirs =
      elim (same_lane_cases lane other) [
        | inl on ↦ (λ _. mine on.0 on.1, λ ne. absurd (ne (ap Some (sym on.1))))
        | inr off ↦ (
          λ h. absurd (true≢false (sym (is_same lane other (sym (same_lane other lane h))) ∙ off)),
          λ _. theirs off,
        )
      ]

  nothing : (net : Network) → MovesIf None net net
  nothing net = (λ h. absurd (no_lane lane h), λ _. refl)

  module _ (net : Network) (sound : Sound shape net) where
    feed_moves : (x k : ℕ) (fs : List Flit) → net.unfed x k ≡ fs → k < shape.classes
        → MovesIf (front_lane fs) net (fed shape net x k fs)
    feed_moves x k [] e class_there = nothing net
    feed_moves x k (f ∷ rest) e class_there =
        let from = All-head (IsFrom shape x k) f rest (rw e at (sound.unfed x k)) in
        by_lane f.lane net (fed shape net x k (f ∷ rest)) (λ on own. feed_own net x k class_there f rest e from on own)
        (λ off. feed_same net x k class_there f rest e from off)

    send_moves : (x p v : ℕ) (r : InRecord) (fs : List Flit) → net.in_record x p v ≡ r → net.buffer x p v ≡ fs
        → x < shape.nodes → IsPort shape x p → MovesIf (sent_lane r fs) net (sent shape net x p v r fs)
    send_moves x p v Idle fs e1 e2 in_mesh port = nothing net
    send_moves x p v (Waiting o) fs e1 e2 in_mesh port = nothing net
    send_moves x p v (Active o d) [] e1 e2 in_mesh port = nothing net
    send_moves x p v (Active o d) (f ∷ rest) e1 e2 in_mesh port =
        let follows = front_follows shape mesh net x p v o d f rest e1 e2 port sound.links sound.sources in
        let leads = leading shape net x p v o d f rest e1 e2 follows sound.records in
        let pass = passing shape net x p v o d f rest e1 e2 sound.buffered in
        by_lane f.lane net (sent_by shape net x p v o d f rest)
        (λ on own.
        let out : port_of ks x lane.dst ≡ o = ap (λ (m : Lane). port_of ks x m.dst) own ∙ leads.0 in
        ⊎_elim
        (λ last.
        let ended : port_of ks x lane.dst ≡ 2 * length ks = rw last (port_arrived ks lane.dst) in
        send_out net x p v o d f rest e2 pass leads.0 on own last (sym out ∙ ended))
        (λ ne.
        let mesh_port = (onward ks l x lane.dst in_mesh there.destination ne).joined.mesh_port in
        send_on net x p v o d f rest e2 pass leads.0 on own ne (λ e. absurd (omega arith)))
        (cases_eq x lane.dst))
        (λ off. send_same net x p v o d f rest e2 pass leads.0 off)

    take_on : (x p y : ℕ) (fs : List Flit) → neighbour_of ks x p ≡ Some y → net.out y (opposite_of p) ≡ fs
        → MovesIf (front_lane fs) net (taken_from net x p y (opposite_of p) fs)
    take_on x p y [] linked e = nothing net
    take_on x p y (f ∷ rest) linked e =
        let leaves = All-head (Leaves shape y (opposite_of p)) f rest (rw e at (sound.leaving y (opposite_of p))) in
        by_lane f.lane net (taken_from net x p y (opposite_of p) (f ∷ rest))
        (λ on own. take_own net x p y linked f rest e leaves on own)
        (λ off. take_same net x p y linked f rest e leaves off)

    take_moves : (x p : ℕ) (end : Option ℕ) → neighbour_of ks x p ≡ end
        → MovesIf (taken_lane net (opposite_of p) end) net (taken shape net x p end)
    take_moves x p None e = nothing net
    take_moves x p (Some y) e = take_on x p y (net.out y (opposite_of p)) e refl

    route_moves : (x p v : ℕ) (fs : List Flit) → MovesIf None net (routed shape net x p v fs)
    route_moves x p v [] = nothing net
    route_moves x p v (f ∷ rest) = nothing net

    grant_moves : (x p v d : ℕ) (r : InRecord) → MovesIf None net (granted net x p v d r)
    grant_moves x p v d Idle = nothing net
    grant_moves x p v d (Waiting o) = nothing net
    grant_moves x p v d (Active o e) = nothing net

    give_moves : (x p v : ℕ) (end : Option ℕ) → MovesIf None net (gave shape net x p v end)
    give_moves x p v None = nothing net
    give_moves x p v (Some y) = nothing net

    get_moves : (x o : ℕ) (cs : List ℕ) → MovesIf None net (got net x o cs)
    get_moves x o [] = nothing net
    get_moves x o (d ∷ rest) = nothing net

    abbrev Moves : Step → Type 0
    Moves step = MovesOne shape net step lane (lane_machine ks shape net lane c)
        (lane_machine ks shape (after shape net step) lane c)

    offer_moves : (x : ℕ) (other : Lane) (fs : List Flit) → other.src ≡ x
        → (is_same_lane lane other ≡ true → of_lane lane fs ≡ fs)
        → (is_same_lane lane other ≡ false → of_lane lane fs ≡ []) →
        (◌≡◌ {A = Option Lane} (Some other) (Some lane)
        → Appends (lane_machine ks shape net lane c) (lane_machine ks shape (offered net x other.class fs) lane c)
        (map bare fs)) ×
        ((◌≡◌ {A = Option Lane} (Some other) (Some lane) → ⊥)
        → lane_machine ks shape (offered net x other.class fs) lane c ≡ lane_machine ks shape net lane c)
    offer_moves x other fs node mine theirs =
        elim (same_lane_cases lane other) [
          | inl on ↦ (
            λ _. subst (λ gs. Appends (lane_machine ks shape net lane c)
                (lane_machine ks shape (offered net x other.class fs) lane c) (map bare gs)) (mine on.0)
                (offer_own net x other.class fs (ap (λ (m : Lane). m.src) on.1 ∙ node)
                (ap (λ (m : Lane). m.class) on.1)),
            λ ne. absurd (ne (ap Some (sym on.1))),
          )
          | inr off ↦ (
            λ h. absurd (true≢false (sym (is_same lane other (sym (same_lane other lane h))) ∙ off)),
            λ _. offer_same net x other.class fs (ap (map bare) (theirs off)),
          )
        ]

    of_parts : (step : Step) → (lane_of shape net step ≡ Some lane
        → IsMove net step (lane_machine ks shape net lane c) (lane_machine ks shape (after shape net step) lane c))
        × ((lane_of shape net step ≡ Some lane → ⊥)
        → lane_machine ks shape (after shape net step) lane c ≡ lane_machine ks shape net lane c) → Moves step
    of_parts step h = record { own = h.0; other = h.1 }

    step_moves : (step : Step) → IsThere shape step → Enabled shape net step → Moves step
    step_moves (Offer x other ws) at enabled =
        of_parts (Offer x other ws) (offer_moves x other (packet_flits other (next_number net other) ws) enabled.0.own
        (λ on. packet-own lane other (next_number net other) on ws)
        (λ off. packet-others lane other (next_number net other) off ws))
    step_moves (CloseLane x other) at enabled =
        of_parts (CloseLane x other) (offer_moves x other (mark other (next_number net other) ∷ []) enabled.0.own
        (λ on. rw on refl) (λ off. rw off refl))
    step_moves (Feed x k) at enabled = of_parts (Feed x k) (feed_moves x k (net.unfed x k) refl at.1)
    step_moves (Route x p v) at enabled = of_parts (Route x p v) (route_moves x p v (net.buffer x p v))
    step_moves (Grant x p v d) at enabled = of_parts (Grant x p v d) (grant_moves x p v d (net.in_record x p v))
    step_moves (Send x p v) at enabled = of_parts (Send x p v)
        (send_moves x p v (net.in_record x p v) (net.buffer x p v) refl refl at.0 at.1)
    step_moves (Take x p) at enabled = of_parts (Take x p) (take_moves x p (neighbour_of ks x p) refl)
    step_moves (GiveCredit x p v) at enabled = of_parts (GiveCredit x p v) (give_moves x p v (neighbour_of ks x p))
    step_moves (TakeCredit x o) at enabled = of_parts (TakeCredit x o) (get_moves x o (net.credit_list x o))

pub each_moves_one : (ks counts : List ℕ) (depth : ℕ) → AreRadices ks → AreChannels counts
    → EachMovesOne ks (shape_of ks counts depth)
each_moves_one ks counts depth mesh classes = λ net step lane c there alone sound at enabled.
    step_moves ks counts depth mesh classes lane there c alone net sound step at enabled
