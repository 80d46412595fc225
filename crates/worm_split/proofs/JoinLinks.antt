-- The links of the parts joined: what each has, and what its queues still held.
use Rattle.std.proofs.Common.{◌≡◌, ℕ, ◌+◌, ◌<◌, ◌≤◌, ◌%◌, true, inl, inr, List, []}
use Rattle.std.proofs.Common.{◌++◌, length, Some, refl, arith, sym, ap, subst, ◌∙◌, append-nil}
use Rattle.std.specs.Prelude.{slice_index_or}
use Rattle.worm_flit.specs.declared.Flit.{Flit}
use Rattle.worm_mesh.specs.Address.{has_neighbour, neighbour_of}
use Rattle.worm_mesh.specs.Links.{links_before}
use Rattle.worm_mesh.proofs.Neighbours.{Joins-from, has_neighbour-from_Joins}
use Rattle.worm_theory.proofs.Places.{number_cases}
use Rattle.worm_region.specs.Shape.{net_shape}
use Rattle.worm_region.specs.State.{IsFramed, link_at, network_of, shape}
use Rattle.worm_wires.specs.Links.{LinkView, blank_link}
use Rattle.worm_region.proofs.LinkWritten.{credits_there, out_there}
use Rattle.worm_split.specs.declared.ends.End.{End}
use Rattle.worm_split.specs.declared.ends.End.TheVariants.{Inner, Leaving}
use Rattle.worm_split.specs.Apart.{Apart, AreWays}
use Rattle.worm_split.specs.Ends.{end_at, given_on, pair_at, returned_on, sent_on, taken_on}
use Rattle.worm_split.specs.Exchange.{way_at}
use Rattle.worm_split.specs.Joins.{AreEmptied, AreOfOne, AreParts, IsBetween, IsEmptied, IsEmptiedOf, IsGathered}
use Rattle.worm_split.specs.Joins.{owner_of}
use Rattle.worm_split.specs.PartState.{PartState, IsPart, end_of, part_network, returned_to, taken_by}
use Rattle.worm_split.specs.Splits.{part_at}
use Rattle.worm_split.proofs.Gathered.{IsWay, ends_of_link, end_within, large, owner_below, part_mesh, way_is}

module _ (parts : List PartState) (are : AreParts parts) (kept : Apart) (gathered : IsGathered parts 0 kept) where
  pub hold : (w : ℕ) → w < length parts → IsPart (part_at parts w)
  hold w below = (gathered.parts_hold w (omega arith) below).0

  pub framed : (w : ℕ) → w < length parts → IsFramed (part_at parts w).net
  framed w below = (gathered.parts_hold w (omega arith) below).1

  pub ways : AreWays (part_at parts 0).opening.mesh kept.ways
  ways = subst (λ (m : List ℕ). AreWays m kept.ways) gathered.config.mesh gathered.fits.ways

  -- What the queues of the link by port o from node y to node x still held, and what the link has with it where there
  -- is room.
  pub record IsRest (y o x : ℕ) (links : List LinkView) (fs : List Flit) (cs : List ℕ) : Type 0 where
    pub within : y % length parts ≡ x % length parts → (fs ≡ []) × (cs ≡ [])
    pub apart : (y % length parts ≡ x % length parts → ⊥)
        → ((part_network (owner_of parts y)).out y o ≡ taken_by (owner_of parts x) y o ++ fs)
        × ((part_network (owner_of parts x)).credit_list y o ≡ returned_to (owner_of parts y) y o ++ cs)
    pub flits : let far = (network_of (owner_of parts x).net).out y o in
        length far + length fs ≤ (slice_index_or kept.net.links (links_before
        (part_at parts 0).opening.mesh y o) blank_link).room
        → (slice_index_or links (links_before (part_at parts 0).opening.mesh y o) blank_link).flits ≡ far ++ fs
    pub credits : let near = (network_of (owner_of parts y).net).credit_list y o in
        length near + length cs ≤ (slice_index_or kept.net.links (links_before
        (part_at parts 0).opening.mesh y o) blank_link).room
        → (slice_index_or links (links_before (part_at parts 0).opening.mesh y o) blank_link).credits ≡ near ++ cs

  -- the link by port o of node y, which leads to node x
  module _ (y o x : ℕ) (linked : (shape (part_at parts 0).opening).neighbour y o ≡ Some x) where
    abbrev near : PartState
    near = owner_of parts y

    abbrev far : PartState
    far = owner_of parts x

    abbrev k : ℕ
    k = links_before (part_at parts 0).opening.mesh y o

    pub linked_by : neighbour_of (part_at parts 0).opening.mesh y o ≡ Some x
    unfolding net_shape
    linked_by = linked

    pub way : IsWay kept.ways k y o x
    way = way_is (part_at parts 0).opening.mesh kept.ways
        (large parts are hold) ways y o x linked_by

    pub has : has_neighbour (part_at parts 0).opening.mesh y o ≡ true
    has =
        let l = large parts are hold in
        has_neighbour-from_Joins (part_at parts 0).opening.mesh y o x l (Joins-from
        (part_at parts 0).opening.mesh y o x l linked_by)

    -- a part's end of the link, and what it has of it
    module _ (w : ℕ) (below : w < length parts) where
      abbrev p : PartState
      p = part_at parts w

      has_now : has_neighbour p.net.mesh y o ≡ true
      has_now = rw (part_mesh parts are hold w below) has

      number : links_before p.net.mesh y o ≡ k
      number = ap (λ (m : List ℕ). links_before m y o) (part_mesh parts are hold w below)

      pub end_here : end_of p y o ≡ end_at p.ends k
      end_here = rw has_now (ap (λ (n : ℕ). end_at p.ends n) number)

      pub flits_here : (network_of p.net).out y o ≡ (link_at p.net k).flits
      flits_here = out_there p.net y o (framed w below) has_now ∙ ap (λ (n : ℕ). (link_at p.net n).flits) number

      pub credits_here : (network_of p.net).credit_list y o ≡ (link_at p.net k).credits
      credits_here = credits_there p.net y o (framed w below) has_now ∙ ap (λ (n : ℕ). (link_at p.net n).credits) number

    -- what is gathered
    pub flits_gathered : (slice_index_or kept.net.links k blank_link).flits ≡ (network_of far.net).out y o
    flits_gathered =
        subst (λ (z : ℕ). (slice_index_or kept.net.links k blank_link).flits ≡ (link_at
        (owner_of parts z).net k).flits) way.to
        (gathered.flits k (omega arith)) ∙ sym (flits_here (x % length parts) (owner_below parts are hold x))

    pub credits_gathered : (slice_index_or kept.net.links k blank_link).credits ≡
        (network_of near.net).credit_list y o
    credits_gathered =
        subst (λ (z : ℕ). (slice_index_or kept.net.links k blank_link).credits ≡ (link_at
        (owner_of parts z).net k).credits) way.from
        (gathered.credits k (omega arith)) ∙ sym (credits_here (y % length parts) (owner_below parts are hold y))

    between : (y % length parts ≡ x % length parts → ⊥) → IsBetween (length parts) kept.ways k
    between apart e = apart (subst (λ (z : ℕ). y % length parts ≡ z % length parts) way.to
        (subst (λ (z : ℕ). z % length parts ≡ (way_at kept.ways k).to % length parts) way.from e))

    out_gathered : (y % length parts ≡ x % length parts → ⊥) → (pair_at kept.pairs k).out ≡ end_of near y o
    out_gathered apart =
        subst (λ (z : ℕ). (pair_at kept.pairs k).out ≡ end_at (owner_of parts z).ends k) way.from
        (gathered.outs k (between apart) (omega arith)) ∙ sym (end_here (y % length parts)
        (owner_below parts are hold y))

    into_gathered : (y % length parts ≡ x % length parts → ⊥) → (pair_at kept.pairs k).into ≡ end_of far y o
    into_gathered apart =
        subst (λ (z : ℕ). (pair_at kept.pairs k).into ≡ end_at (owner_of parts z).ends k) way.to
        (gathered.intos k (between apart) (omega arith)) ∙ sym (end_here (x % length parts)
        (owner_below parts are hold x))

    -- the two ends that were put back are of one queue
    pub of_one : (y % length parts ≡ x % length parts → ⊥) → AreOfOne (pair_at kept.pairs k).out
        (pair_at kept.pairs k).into
    of_one apart =
        let meet = ends_of_link parts are hold y o x linked apart in
        rw (out_gathered apart, into_gathered apart, meet.near_is, meet.far_is) (meet.queue, meet.line)

    -- a part sees of the link that enters it its own list, and of the credit line of one that leaves it, too
    pub far_sees : (part_network far).out y o ≡ (network_of far.net).out y o
    far_sees = elim (number_cases (y % length parts) (x % length parts)) [
      | inl here ↦ ap (λ (e : End). sent_on e ((network_of far.net).out y o))
          (end_within parts are hold y o x linked here.1)
      | inr away ↦
          ap (λ (e : End). sent_on e ((network_of far.net).out y o))
          (ends_of_link parts are hold y o x linked away.1).far_is
    ]

    pub near_sees : (part_network near).credit_list y o ≡ (network_of near.net).credit_list y o
    near_sees = elim (number_cases (y % length parts) (x % length parts)) [
      | inl here ↦
          let e : end_of near y o ≡ Inner = rw here.1 (end_within parts are hold y o x linked here.1) in
          ap (λ (e : End). given_on e ((network_of near.net).credit_list y o)) e
      | inr away ↦
          ap (λ (e : End). given_on e ((network_of near.net).credit_list y o))
          (ends_of_link parts are hold y o x linked away.1).near_is
    ]

    module _ (links : List LinkView) (emptied : AreEmptied (length parts)
        (length kept.ways) kept.ways kept.pairs kept.net.links links) where
      rest_within : y % length parts ≡ x % length parts → IsRest y o x links [] []
      rest_within same =
          let k_same : (way_at kept.ways k).from % length parts ≡
          (way_at kept.ways k).to % length parts = rw (way.from, way.to) same in
          let stays = emptied.within k k_same in
          record {
            within = λ e. (refl, refl);
            apart = λ apart. absurd (apart same);
            flits = λ room. ap (λ (l : LinkView). l.flits) stays ∙ (flits_gathered ∙ sym (append-nil _));
            credits = λ room. ap (λ (l : LinkView). l.credits) stays ∙ (credits_gathered ∙ sym (append-nil _));
          }

      rest_between : (y % length parts ≡ x % length parts → ⊥) → (fs : List Flit) × (cs : List ℕ)
          × IsRest y o x links fs cs
      rest_between apart =
          let meet = ends_of_link parts are hold y o x linked apart in
          let a = slice_index_or kept.net.links k blank_link in
          let b = slice_index_or links k blank_link in
          let did = emptied.done k way.within (between apart) in
          let did_near = subst (λ (e : End). IsEmptied e (pair_at kept.pairs k).into a b) (out_gathered apart
          ∙ meet.near_is) did in
          let is : IsEmptiedOf meet.tx meet.back meet.rx meet.give a b
          = subst (λ (e : End). IsEmptied (Leaving meet.tx meet.back) e a b) (into_gathered apart
          ∙ meet.far_is) did_near in (
            is.flits_left,
            is.credits_left,
            record {
              within = λ same. absurd (apart same);
              apart = λ e. (
                ap (λ (end : End). sent_on end ((network_of near.net).out y o)) meet.near_is ∙ (is.in_queue
                    ∙ ap (λ (end : End). taken_on end ++ is.flits_left) (sym meet.far_is)),
                ap (λ (end : End). given_on end ((network_of far.net).credit_list y o)) meet.far_is ∙ (is.in_line
                    ∙ ap (λ (end : End). returned_on end ++ is.credits_left) (sym meet.near_is)),
              );
              flits = λ room.
                  let fits : length a.flits + length is.flits_left ≤ a.room = rw flits_gathered room in
                  is.flits fits ∙ ap (λ (l : List Flit). l ++ is.flits_left) flits_gathered;
              credits = λ room.
                  let fits : length a.credits + length is.credits_left ≤ a.room = rw credits_gathered room in
                  is.credits fits ∙ ap (λ (l : List ℕ). l ++ is.credits_left) credits_gathered;
            },
          )

      pub rest : (fs : List Flit) × (cs : List ℕ) × IsRest y o x links fs cs
      rest = elim (number_cases (y % length parts) (x % length parts)) [
        | inl here ↦ ([], [], rest_within here.1)
        | inr away ↦ rest_between away.1
      ]
