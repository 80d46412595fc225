-- What a pop, a push and a spill leave of the links, where a node's inbox is read and written in the two places where
-- it stands.
use Rattle.std.proofs.Common.{◌≡◌, ℕ, ◌<◌, ◌≤◌, ◌++◌, Bool, true, false, List, [], ◌∷◌, length, length-set, get_or, set}
use Rattle.std.proofs.Common.{cond, drop, Option, Some, None, arith, refl, ap, sym, subst, ◌∙◌}
use Rattle.std.specs.Prelude.{IsSome, slice_get}
use Rattle.std.proofs.lemmas.List.{set-get_or}
use Rattle.worm_flit.specs.SmallSet.{has, IsPut}
use Rattle.worm_mesh.specs.Address.{AreRadices, neighbour_of, opposite_of}
use Rattle.worm_wires.specs.Arrivals.{LinksView, has_front, state_at, with_state}
use Rattle.worm_wires.specs.Inbox.{AreFiled, AreSeenAlike, Inbox, IsFiled, IsWay, IsWayOf, Kind, Tray}
use Rattle.worm_wires.specs.Inbox.{front_of, inbox_by, inboxes_by, links_by, tray_of, whole}
use Rattle.worm_wires.specs.Links.{LinkView, blank_link}
use Rattle.worm_wires.specs.Wiring.{port_links}
use Rattle.worm_wires.specs.declared.inbox.Arrivals.{Arrivals}
use Rattle.worm_wires.specs.declared.inbox.Fronts.{Fronts}
use Rattle.worm_wires.specs.declared.inbox.NodeFronts.{NodeFronts}
use Rattle.worm_wires.specs.declared.wiring.PortLinks.{PortLinks}
use Rattle.worm_wires.proofs.Called.{AreSeen, IsCall}
use Rattle.worm_wires.proofs.EachKind.{IsKind}
use Rattle.worm_wires.proofs.Joined.{AreLinks, call_of, fronts_set, joined_set, links_are, sets_set}
use Rattle.worm_wires.proofs.Spilled.{IsPortSpilled, port_put}
use Rattle.worm_wires.proofs.TrayCalled.{both_written, inbox_written, room_is, seen_is, seen_read, the_list, way}
use Rattle.worm_wires.proofs.TrayCalled.{way_read}
use Rattle.worm_wires.proofs.Ways.{all_listed, alone_at, alone_dropped, comes_by, count_alone, first_by, front_by}
use Rattle.worm_wires.proofs.Ways.{list_dropped}
use Rattle.worm_wires.proofs.Ways.{not_here, not_listed, one_behind, one_pushed, spilled_way, way_alone, way_front}
use Rattle.worm_wires.proofs.Ways.{way_more, way_none, way_same, way_wider, whole_front}
use Rattle.worm_wires.proofs.Wired.{parts}

-- The link of a port that has a neighbour, and of the port that is entered beyond it

module _ {A B : Type 0} {kind : Kind A} {other : Kind B} {put : LinkView → List A → LinkView}
    (is : IsKind kind other put) {mesh : List ℕ} {states : List LinkView} {now : LinksView} (x p : ℕ)
    (seen : record { mesh = mesh; states = states } ≡ now) where
  pub numbered : IsSome (neighbour_of now.mesh x p) → kind.link mesh x p ≡ Some (kind.number now.mesh x p)
  numbered some =
      is.numbered mesh x p (subst (λ (l : LinksView). IsSome (neighbour_of l.mesh x p)) (sym seen) some)
      ∙ ap (λ (l : LinksView). Some (kind.number l.mesh x p)) seen

  pub beyond : {y q : ℕ} → AreRadices mesh → Some y ≡ neighbour_of mesh x p → q ≡ opposite_of p
      → kind.link mesh y q ≡ Some (other.number now.mesh x p)
  beyond {y} radices e entered =
      ap (λ (o : ℕ). kind.link mesh y o) entered ∙ is.beyond mesh x p y radices (sym e)
      ∙ ap (λ (l : LinksView). Some (other.number l.mesh x p)) seen

  pub by_links : {links : PortLinks} → AreRadices mesh → Some links ≡ port_links mesh x p
      → kind.link mesh links.beyond links.entered ≡ Some (other.number now.mesh x p)
  by_links {links} radices there =
      let these = parts mesh x p links there in
      beyond radices (sym these.0) (ap (λ (l : PortLinks). l.entered) these.1)

module _ {A B : Type 0} {kind : Kind A} {other : Kind B} {put : LinkView → List A → LinkView}
    (is : IsKind kind other put) {mesh : List ℕ} {lists : List LinkView} {arrivals : List Arrivals}
    {fronts : List NodeFronts} {now : LinksView} (filed : AreFiled mesh lists arrivals fronts)
    (seen : record { mesh = mesh; states = links_by mesh lists (inboxes_by arrivals fronts) } ≡ now) {x i : ℕ}
    (at : i ≡ x) (x_in : x < 256) (d : Arrivals) (f : NodeFronts) (reads : f ≡ get_or fronts i f) where
  abbrev sets : Arrivals
  sets = get_or arrivals i d

  abbrev tray : Tray A
  tray = tray_of (kind.here sets) (kind.fronts f)

  abbrev front : ℕ → Option A
  front p = slice_get (kind.fronts f).front p

  call : IsCall mesh lists (inboxes_by arrivals fronts) now x i (inbox_by sets f)
  call = call_of filed i now x d f seen x_in at reads

  read : kind.tray (inbox_by sets f) ≡ tray
  read = is.read_tray sets f

  -- what is written

  abbrev box : ℕ → Fronts A → Inbox
  box here these = inbox_by (kind.with_here sets here) (kind.with_fronts f these)

  abbrev fronts_with : Fronts A → List NodeFronts
  fronts_with these = set fronts i (kind.with_fronts f these)

  both_set : (here : ℕ) (these : Fronts A) → inboxes_by (set arrivals i (kind.with_here sets here)) (fronts_with these)
      ≡ set (inboxes_by arrivals fronts) i (box here these)
  both_set here these = joined_set arrivals fronts i (kind.with_here sets here) (kind.with_fronts f these)

  -- of a port with its link

  module _ {p k : ℕ} (by : kind.link mesh x p ≡ Some k) where
    abbrev listed_there : List A
    listed_there = kind.list (get_or lists k blank_link)

    way_at : IsWayOf tray p listed_there (get_or lists k blank_link).room
    way_at = way is call read by

    seen_at : kind.list (state_at now k) ≡ whole (has tray.here p) (front p) listed_there
    seen_at = seen_is is call read by

    pub front_at : slice_get (kind.list (state_at now k)) 0 ≡ front_of tray p
    front_at =
        ap (λ (l : List A). slice_get l 0) seen_at ∙ front_by (has tray.here p) (has tray.more p) (front p) _ _ way_at

    -- where the link has no list

    pub lone_count : has tray.more p ≡ false → length (kind.list (state_at now k)) ≡ cond (has tray.here p) 1 0
    lone_count none =
        ap (λ (l : List A). length l) seen_at
        ∙ count_alone (has tray.here p) (has tray.more p) (front p) _ _ way_at none

    pub lone_at : has tray.more p ≡ false → (n : ℕ) → n < length (kind.list (state_at now k)) → (q : ℕ) (d : A) → q ≡ p
        → slice_get (kind.list (state_at now k)) n ≡ Some (get_or (kind.fronts f).front q d)
    lone_at none n below q d same =
        let long = ap (λ (l : List A). length l) seen_at in
        ap (λ (l : List A). slice_get l n) seen_at
        ∙ alone_at (has tray.here p) (has tray.more p) (front p) _ _ way_at none n (omega (arith, below, long))
        (kind.fronts f).front p q d same refl

    pub popped_alone : {here : ℕ} → has tray.more p ≡ false → IsPut tray.here here p false
        → AreLinks mesh lists (set arrivals i (kind.with_here sets here)) fronts
        (with_state now k (put (state_at now k) (drop 1 (kind.list (state_at now k)))))
    popped_alone {here} none taken =
        let empty = not_listed (has tray.here p) (has tray.more p) (front p) _ _ way_at none in
        links_are filed.all
        (sets_set filed i (kind.with_here sets here) f reads
        ∙ ap (λ (g : NodeFronts). set (inboxes_by arrivals fronts) i (inbox_by (kind.with_here sets here) g))
        (sym (is.fronts_kept f)))
        (inbox_written is call read by (box here (kind.fronts f)) (is.put_tray sets f here (kind.fronts f))
        (is.put_other sets f here (kind.fronts f)) false false None
        record {
          comes = taken;
          listed = record { here = none; elsewhere = λ q q_in away. refl };
          first = λ some. absurd (cc);
          others = λ q away. refl;
        }
        (way_none (front p) _ _ empty) _
        (alone_dropped (has tray.here p) (front p) (front p) _ empty ∙ ap (λ (l : List A). drop 1 l) (sym seen_at)))

    pub pushed_alone : (here : ℕ) (these : Fronts A) (item : A) → has tray.here p ≡ false
        → length (kind.list (state_at now k)) < (state_at now k).room
        → IsFiled tray (tray_of here these) p true false (Some item)
        → AreLinks mesh lists (set arrivals i (kind.with_here sets here)) (fronts_with these)
        (with_state now k (put (state_at now k) (kind.list (state_at now k) ++ item ∷ [])))
    pushed_alone here these item none fits placed =
        let empty = not_here (has tray.here p) (has tray.more p) (front p) _ _ way_at none in
        links_are (rw length-set filed.all) (both_set here these)
        (inbox_written is call read by (box here these) (is.put_tray sets f here these) (is.put_other sets f here these)
        true false (Some item) placed
        (way_alone (slice_get these.front p) _ item _ empty (omega (arith, fits, room_is is call read by))
        (placed.first refl)) _
        (one_pushed (has tray.here p) (front p) (slice_get these.front p) _ item empty none (placed.first refl)
        ∙ ap (λ (l : List A). l ++ item ∷ []) (sym seen_at)))

    -- where none is seen none comes in, and where none comes in the link has no list
    none_here : kind.list (state_at now k) ≡ [] → has tray.here p ≡ false
    none_here empty =
        sym (comes_by (has tray.here p) (has tray.more p) (front p) _ _ way_at)
        ∙ ap (λ (l : List A). has_front l) (sym seen_at ∙ empty)

    pub none_listed : has tray.here p ≡ false → has tray.more p ≡ false
    none_listed none =
        way_at.listed
        ∙ ap (λ (l : List A). has_front l) (not_here (has tray.here p) (has tray.more p) (front p) _ _ way_at none)

    pub none_brought : kind.list (state_at now k) ≡ [] → has tray.more p ≡ false
    none_brought empty = none_listed (none_here empty)

    pub brought : (here : ℕ) (these : Fronts A) (item : A) → kind.list (state_at now k) ≡ []
        → length (kind.list (state_at now k)) < (state_at now k).room
        → IsFiled tray (tray_of here these) p true false (Some item)
        → AreLinks mesh lists (set arrivals i (kind.with_here sets here)) (fronts_with these)
        (with_state now k (put (state_at now k) (kind.list (state_at now k) ++ item ∷ [])))
    brought here these item empty = pushed_alone here these item (none_here empty)

    -- where the link has a list, or gets one

    module _ (j : ℕ) (list : LinkView) {l : LinkView} (number : j ≡ k) (opened : list ≡ l)
        (listed : l ≡ get_or lists j l) where
      there : list ≡ get_or lists j list
      there = subst (λ (v : LinkView). v ≡ get_or lists j v) (sym opened) listed

      way_behind : IsWayOf tray p (kind.list list) list.room
      way_behind = way_read is call read by j list number there

      seen_behind : kind.list (state_at now k) ≡ whole (has tray.here p) (front p) (kind.list list)
      seen_behind = seen_read is call read by j list number there

      -- what is seen on it, where it has one
      pub seen_listed : has tray.more p ≡ true → kind.list (state_at now k) ≡ kind.list list
      seen_listed some =
          seen_behind ∙ all_listed (has tray.here p) (has tray.more p) (front p) (kind.list list) _ way_behind some

      -- what a spill asks of the list, and a push behind those that come in
      pub spills : (cap : ℕ) → list.room ≤ cap → IsWayOf tray p (kind.list list) cap
      spills cap wider = way_wider cap way_behind wider

      pub pushes : length (kind.list (state_at now k)) < (state_at now k).room → (cap : ℕ) → list.room ≤ cap
          → IsWayOf tray p (kind.list list) cap
          × (length (whole (has tray.here p) (front p) (kind.list list)) < cap)
      pushes fits cap wider =
          let long = ap (λ (l : List A). length l) seen_behind in
          let same = room_is is call read by
          ∙ ap (λ (l : LinkView). l.room) (sym (the_list is call read by j list number there)) in
          (spills cap wider, omega (arith, fits, long, same, wider))

      module _ (link : LinkView) (same : other.list link ≡ other.list list) (room : link.room ≡ list.room) where
        pub popped : (here : ℕ) (these : Fronts A) → kind.list link ≡ drop 1 (kind.list list)
            → IsFiled tray (tray_of here these) p (has_front (kind.list link)) (has_front (kind.list link))
            (slice_get (kind.list link) 0)
            → AreLinks mesh (set lists j link) (set arrivals i (kind.with_here sets here)) (fronts_with these)
            (with_state now k (put (state_at now k) (drop 1 (kind.list (state_at now k)))))
        popped here these dropped placed =
            let comes = has_front (kind.list link) in
            links_are (rw length-set filed.all) (both_set here these)
            (both_written is call read by j list number there (box here these) (is.put_tray sets f here these)
            (is.put_other sets f here these) comes comes (slice_get (kind.list link) 0) placed link same room
            (way_front comes comes (slice_get these.front p) (kind.list link) link.room refl refl placed.first) _
            (whole_front comes (slice_get these.front p) _ refl ∙ dropped
            ∙ list_dropped (has tray.here p) (front p) (kind.list list)
            ∙ ap (λ (l : List A). drop 1 l) (sym seen_behind)))

        -- what comes in stays, and goes into the list
        module _ (these : Fronts A)
            (placed : IsFiled tray (tray_of (kind.here sets) these) p (has tray.here p) (has tray.here p) (front p))
          where
            stayed : IsWay (has tray.here p) (has tray.here p) (slice_get these.front p) (kind.list link) link.room
                → (fs : List A) → whole (has tray.here p) (slice_get these.front p) (kind.list link) ≡ fs
                → AreSeen mesh (set lists j link) (set (inboxes_by arrivals fronts) i (box (kind.here sets) these))
                (with_state now k (put (state_at now k) fs))
            stayed =
                both_written is call read by j list number there (box (kind.here sets) these)
                (is.put_tray sets f (kind.here sets) these) (is.put_other sets f (kind.here sets) these)
                (has tray.here p)
                (has tray.here p) (front p) placed link same room

            pub pushed_behind : (item : A) → has tray.here p ≡ true
                → kind.list link ≡ whole (has tray.here p) (front p) (kind.list list) ++ item ∷ []
                → AreLinks mesh (set lists j link) (set arrivals i sets) (fronts_with these)
                (with_state now k (put (state_at now k) (kind.list (state_at now k) ++ item ∷ [])))
            pushed_behind item some pushed =
                let comes = comes_by (has tray.here p) (has tray.more p) (front p) (kind.list list) _ way_behind in
                let first = first_by (has tray.here p) (has tray.more p) (front p) (kind.list list) _ way_behind some in
                links_are (rw length-set filed.all)
                (ap (λ (a : Arrivals). inboxes_by (set arrivals i a) (fronts_with these)) (sym (is.here_kept sets))
                ∙ both_set (kind.here sets) these)
                (stayed
                (subst (λ (b : Bool). IsWay b b (slice_get these.front p) (kind.list link) link.room) (sym some)
                (subst (λ (l : List A). IsWay true true (slice_get these.front p) l link.room) (sym pushed)
                (way_more (slice_get these.front p) _ item _ (comes ∙ some) (placed.first some ∙ sym first)))) _
                (ap (λ (l : List A). whole (has tray.here p) (slice_get these.front p) l) pushed
                ∙ one_behind (has tray.here p) (slice_get these.front p) _ item
                ∙ ap (λ (l : List A). l ++ item ∷ []) (sym seen_behind)))

            moved : kind.list link ≡ whole (has tray.here p) (front p) (kind.list list)
                → AreSeen mesh (set lists j link) (set (inboxes_by arrivals fronts) i (box (kind.here sets) these)) now
            moved all =
                let now_spilled = spilled_way (has tray.here p) (has tray.more p) (front p) (slice_get these.front p)
                (kind.list list) list.room way_behind placed.first in
                let are = stayed
                (way_same (has tray.here p) (has tray.here p) (has tray.here p) (has tray.here p)
                (slice_get these.front p) (slice_get these.front p) (whole (has tray.here p) (front p) (kind.list list))
                (kind.list link) list.room link.room now_spilled.0 refl refl refl all room) (kind.list (state_at now k))
                (ap (λ (l : List A). whole (has tray.here p) (slice_get these.front p) l) all ∙ now_spilled.1
                ∙ sym seen_behind) in
                record {
                  sound = are.sound;
                  seen = are.seen ∙ ap (λ (l : LinkView). with_state now k l) (is.is_put (state_at now k))
                      ∙ (λ t. record { mesh = now.mesh; states = set-get_or now.states k blank_link t });
                }

            pub spilled : kind.list link ≡ whole (has tray.here p) (front p) (kind.list list)
                → AreSeenAlike mesh arrivals lists fronts (set lists j link) (fronts_with these)
                × IsPortSpilled kind other (inboxes_by arrivals fronts) (inboxes_by arrivals (fronts_with these)) x p
            spilled all =
                let set_now = fronts_set filed i d (kind.with_fronts f these) ∙ ap (λ (a : Arrivals).
                set (inboxes_by arrivals fronts) i (inbox_by a (kind.with_fronts f these))) (sym (is.here_kept sets)) in
                let links = links_are (rw length-set filed.all) set_now (moved all) in (
                  record { sound = links.filed; same = ap (λ (l : LinksView). l.states) (links.seen ∙ sym seen) },
                  subst (λ (boxes : List Inbox). IsPortSpilled kind other (inboxes_by arrivals fronts) boxes x p)
                      (sym set_now)
                      (port_put is call read p (box (kind.here sets) these) (is.put_tray sets f (kind.here sets) these)
                      (has tray.here p) (front p) placed (is.put_other sets f (kind.here sets) these)),
                )
