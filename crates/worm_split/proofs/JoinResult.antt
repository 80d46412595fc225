-- What a join gives: a network, its places as their owners had them, later than the one that was split.
use Rattle.std.proofs.Common.{◌≡◌, ℕ, ◌%◌, inl, inr, List, length, Some, sym, ap, subst, ◌∙◌}
use Rattle.std.proofs.lemmas.Bool.{cases_lt}
use Rattle.std.proofs.lemmas.List.{get_or_past}
use Rattle.worm_mesh.specs.declared.mesh.LinkEnds.{LinkEnds}
use Rattle.worm_theory.specs.Growth.{SinksGrow, SourcesGrow}
use Rattle.worm_theory.specs.Shape.{Shape}
use Rattle.worm_theory.specs.Network.{Network}
use Rattle.worm_theory.specs.Sound.{Sound, OthersIdle, OnesClosed}
use Rattle.worm_theory.specs.Cut.{LanesCut}
use Rattle.worm_theory.specs.PacketCut.{PacketsHold}
use Rattle.worm_theory.proofs.Marks.{nothing_more_grown}
use Rattle.worm_region.specs.State.{NetState, IsNet, network_of, shape}
use Rattle.worm_wires.specs.Links.{LinkView}
use Rattle.worm_region.specs.declared.owner.Owner.{Owner}
use Rattle.worm_theory.proofs.Regions.{parts_sinks, parts_sources}
use Rattle.worm_split.specs.Apart.{Apart}
use Rattle.worm_split.specs.Ends.{pair_at}
use Rattle.worm_split.specs.Exchange.{way_at}
use Rattle.worm_split.specs.Joins.{AreEmptied, AreOfOne, AreParts, IsBetween, IsGathered, IsJoinOf, IsLaterThan}
use Rattle.worm_split.specs.Joins.{IsLinkJoined, owner_of}
use Rattle.worm_split.specs.PartState.{PartState}
use Rattle.worm_split.specs.Splits.{part_at}
use Rattle.worm_split.proofs.MadeSoFar.{linked_of}
use Rattle.worm_split.proofs.JoinLinks.{hold, of_one, ways}
use Rattle.worm_split.proofs.Gathered.{first, has_part, mesh, owner_below, was}
use Rattle.worm_split.proofs.JoinNet.{credits_left, flits_left, holds, holds_each, joined, joined_line, joined_out}
use Rattle.worm_split.proofs.JoinNet.{left, nets, owner, queues, returneds, takens}
use Rattle.worm_split.proofs.JoinState.{network_same, new, new_framed, node_same, shape_same}

-- the ends that were put back of each link between two workers are of one queue
pub queues_meet : (parts : List PartState) (are : AreParts parts) (kept : Apart) (gathered : IsGathered parts 0 kept)
    (k : ℕ) → IsBetween (length parts) kept.ways k
    → AreOfOne (pair_at kept.pairs k).out (pair_at kept.pairs k).into
queues_meet parts are kept gathered k between = elim (cases_lt k (length kept.ways)) [
  | inl below ↦
      let O = (part_at parts 0).opening in
      let way = way_at kept.ways k in
      let ends = (ways parts are kept gathered).each k below in
      let frame = (first parts are (hold parts are kept gathered)).opened.framed in
      let linked = linked_of O way.from way.out_port way.to frame ends.joined in
      subst (λ (i : ℕ). AreOfOne (pair_at kept.pairs i).out (pair_at kept.pairs i).into) ends.numbered
      (of_one parts are kept gathered way.from way.out_port way.to linked between)
  | inr past ↦
      let none : way_at kept.ways k ≡ record { from = 0; out_port = 0; to = 0; in_port = 0 } = get_or_past
      kept.ways k _ past in
      absurd (between (ap (λ (z : LinkEnds). z.from % length parts) none
      ∙ sym (ap (λ (z : LinkEnds). z.to % length parts) none)))
]

module _ (parts : List PartState) (are : AreParts parts) (kept : Apart) (gathered : IsGathered parts 0 kept)
    (links : List LinkView)
    (emptied : AreEmptied (length parts)
    (length kept.ways) kept.ways kept.pairs kept.net.links links) where
  abbrev pub result : NetState
  result = new parts are kept gathered links emptied

  abbrev O : NetState
  O = (part_at parts 0).opening

  shape_back : shape result ≡ shape (part_at parts 0).opening
  shape_back = shape_same parts are kept gathered links emptied

  network_back : network_of result ≡ joined parts are kept gathered links emptied
  network_back = network_same parts are kept gathered links emptied

  -- what is known of the joined places is known of the lists
  known : (Q : Shape → Network → Type 0) → Q (shape (part_at parts 0).opening)
      (joined parts are kept gathered links emptied) → Q (shape result) (network_of result)
  known Q h =
      subst (λ (z : Shape). Q z (network_of result)) (sym shape_back)
      (subst (λ (n : Network). Q (shape (part_at parts 0).opening) n) (sym network_back) h)

  pub joined_net : IsNet result
  joined_net =
      let all = holds parts are kept gathered links emptied in
      record {
        framed = new_framed parts are kept gathered links emptied;
        all_owned = gathered.fits.all_owned;
        sound = known Sound all.sound;
        cut = known LanesCut all.cut;
        packets = known PacketsHold all.packets;
        others = known OthersIdle all.others;
        closed = known OnesClosed all.closed;
      }

  -- two parts that own the same nodes are of one worker
  one_worker : (y x : ℕ) → (owner_of parts y).net.own ≡ (owner_of parts x).net.own → y % length parts ≡ x % length parts
  one_worker y x e =
      let each = holds_each parts are kept gathered links emptied in
      let near = are.owns (y % length parts) (owner_below parts are each y) in
      let far = are.owns (x % length parts) (owner_below parts are each x) in
      ap (λ (own : Owner). own.worker) (sym near ∙ (e ∙ far))

  same_owner : (y x : ℕ) → y % length parts ≡ x % length parts → (owner_of parts y).net.own ≡ (owner_of parts x).net.own
  same_owner y x e = ap (λ (w : ℕ). (part_at parts w).net.own) e

  pub joined_link : (y o x : ℕ) → (shape result).neighbour y o ≡ Some x
      → IsLinkJoined (owner_of parts y) (owner_of parts x) result y o
  joined_link y o x linked_now =
      let linked : (shape O).neighbour y o ≡ Some x = subst (λ
      (z : Shape). z.neighbour y o ≡ Some x) shape_back linked_now in
      let rest = left parts are kept gathered links emptied y o x linked in
      record {
        flits_left = flits_left parts are kept gathered links emptied y o;
        credits_left = credits_left parts are kept gathered links emptied y o;
        flits = ap (λ (n : Network). n.out y o) network_back ∙ joined_out parts are kept gathered links emptied y o x
            linked;
        credits = ap (λ (n : Network). n.credit_list y o) network_back
            ∙ joined_line parts are kept gathered links emptied y o x linked;
        within = λ e. rest.within (one_worker y x e);
        between = λ apart. rest.apart (λ e. apart (same_owner y x e));
      }

  pub is_join : IsJoinOf parts result
  is_join = record {
    config = record {
      mesh = gathered.config.mesh;
      channels = gathered.config.channels;
      depth = gathered.config.depth;
      names = gathered.config.names;
    };
    all_owned = gathered.fits.all_owned;
    nodes = λ x there. node_same parts are kept gathered links emptied x;
    links = joined_link;
  }

  sinks : SinksGrow (shape (part_at parts 0).opening) (network_of (part_at parts 0).opening) (network_of result)
  sinks =
      let each = holds_each parts are kept gathered links emptied in
      subst (λ (n : Network). SinksGrow (shape (part_at parts 0).opening) (network_of (part_at parts 0).opening) n)
      (sym network_back)
      (parts_sinks (shape O) (mesh parts are each) (network_of O) (was parts are each)
      (owner parts are kept gathered links emptied)
      (nets parts are kept gathered links emptied) (takens parts are kept gathered links emptied)
      (returneds parts are kept gathered links emptied)
      (has_part parts are each) (flits_left parts are kept gathered links emptied)
      (credits_left parts are kept gathered links emptied)
      (queues parts are kept gathered links emptied))

  sources : SourcesGrow (network_of (part_at parts 0).opening) (network_of result)
  sources =
      let each = holds_each parts are kept gathered links emptied in
      subst (λ (n : Network). SourcesGrow (network_of (part_at parts 0).opening) n) (sym network_back)
      (parts_sources (shape O) (mesh parts are each) (network_of O) (was parts are each)
      (owner parts are kept gathered links emptied)
      (nets parts are kept gathered links emptied) (takens parts are kept gathered links emptied)
      (returneds parts are kept gathered links emptied)
      (has_part parts are each) (flits_left parts are kept gathered links emptied)
      (credits_left parts are kept gathered links emptied)
      (queues parts are kept gathered links emptied))

  pub is_later : IsLaterThan (part_at parts 0).opening result
  is_later =
      let all = holds parts are kept gathered links emptied in
      let now : Sound (shape O) (network_of result) = subst (λ (n : Network). Sound (shape O) n)
      (sym network_back) all.sound in
      let cut : LanesCut (shape O) (network_of result) = subst (λ (n : Network). LanesCut (shape O) n)
      (sym network_back) all.cut in
      record {
        sinks = sinks;
        sources = sources;
        marks = λ lane c there owned alone marked.
            nothing_more_grown (shape O) (network_of O)
            (network_of result) now cut sinks lane c there owned alone marked;
      }
