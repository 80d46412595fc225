-- The lists of the parts joined, as one network's.
use Rattle.std.proofs.Common.{◌≡◌, ℕ, ◌*◌, ◌<◌, ◌%◌, ◌==◌, true, false, cond, List, [], length}
use Rattle.std.proofs.Common.{Option, Some, None, refl, arith, sym, ap, ◌∙◌}
use Rattle.std.specs.Prelude.{slice_index_or}
use Rattle.worm_mesh.specs.Address.{has_neighbour}
use Rattle.worm_mesh.specs.Links.{links_before}
use Rattle.worm_theory.proofs.Bridge.{same_network}
use Rattle.worm_term.specs.Source.{queue_at}
use Rattle.worm_region.specs.Shape.{net_shape}
use Rattle.worm_region.specs.State.{NetState, IsFramed, input_of}
use Rattle.worm_node.specs.NewNodes.{fresh_node}
use Rattle.worm_wires.specs.Links.{LinkView}
use Rattle.worm_region.specs.State.{link_at, network_of, node_at, output_of, shape, sink_at}
use Rattle.worm_node.specs.declared.node.Node.{Node}
use Rattle.worm_region.proofs.LinkWritten.{credits_there, out_there}
use Rattle.worm_split.specs.declared.ends.End.{End}
use Rattle.worm_split.specs.declared.ends.End.TheVariants.{Inner}
use Rattle.worm_split.specs.Apart.{Apart, with_lists}
use Rattle.worm_split.specs.Ends.{sent_on}
use Rattle.worm_split.specs.Joins.{AreEmptied, AreParts, IsGathered, owner_of}
use Rattle.worm_split.specs.PartState.{PartState, IsPart, end_of}
use Rattle.worm_split.specs.Splits.{part_at}
use Rattle.worm_split.proofs.Gathered.{owner_below, part_channels, part_depth, part_mesh}
use Rattle.worm_split.proofs.JoinLinks.{has, hold}
use Rattle.worm_split.proofs.JoinNet.{joined, pair_put, no_link_there, out_put}
use Rattle.worm_split.proofs.PairsEmptied.{emptied_framed}

module _ (parts : List PartState) (are : AreParts parts) (kept : Apart) (gathered : IsGathered parts 0 kept)
    (links : List LinkView)
    (emptied : AreEmptied (length parts)
    (length kept.ways) kept.ways kept.pairs kept.net.links links) where
  abbrev pub new : NetState
  new = with_lists kept.net kept.net.nodes links

  abbrev O : NetState
  O = (part_at parts 0).opening

  each : (w : ℕ) → w < length parts → IsPart (part_at parts w)
  each = hold parts are kept gathered

  pub shape_same : shape new ≡ shape (part_at parts 0).opening
  shape_same = let config = gathered.config in
      λ t. net_shape (config.mesh t) (config.channels t) (config.depth t)

  -- the configuration is that of each part
  module _ (x : ℕ) where
    abbrev q : PartState
    q = owner_of parts x

    below : x % length parts < length parts
    below = owner_below parts are each x

    mesh_as : new.mesh ≡ q.net.mesh
    mesh_as = gathered.config.mesh ∙ sym (part_mesh parts are each (x % length parts) below)

    channels_as : new.channels ≡ q.net.channels
    channels_as = gathered.config.channels ∙ sym (part_channels parts are each (x % length parts) below)

    depth_as : new.depth ≡ q.net.depth
    depth_as = gathered.config.depth ∙ sym (part_depth parts are each (x % length parts) below)

    pub node_same : node_at new x ≡ node_at (owner_of parts x).net x
    node_same =
        let fresh : fresh_node new.mesh new.channels new.depth x ≡ fresh_node q.net.mesh q.net.channels q.net.depth x
        = λ t. fresh_node (mesh_as t) (channels_as t) (depth_as t) x in
        gathered.nodes x (omega arith) (fresh_node new.mesh new.channels new.depth x)
        ∙ ap (λ (n : Node). slice_index_or q.net.nodes x n) fresh

  pub new_framed : IsFramed new
  new_framed = emptied_framed (length parts) kept links gathered.fits emptied

  -- where there is no link, a port has the sink's list, or nothing
  module _ (y o : ℕ) (none : (shape (part_at parts 0).opening).neighbour y o ≡ None) where
    none_then : has_neighbour O.mesh y o ≡ false
    unfolding net_shape
    none_then = no_link_there O.mesh y o none

    none_now : has_neighbour new.mesh y o ≡ false
    none_now = ap (λ (m : List ℕ). has_neighbour m y o) gathered.config.mesh ∙ none_then

    none_part : has_neighbour (q y).net.mesh y o ≡ false
    none_part = ap (λ (m : List ℕ). has_neighbour m y o) (sym (mesh_as y)) ∙ none_now

    bare_out : (m : NetState) → has_neighbour m.mesh y o ≡ false → (network_of m).out y o ≡ cond
        (o == 2 * length m.mesh) (sink_at m y).delivered []
    unfolding network_of
    bare_out m e = rw e refl

    bare_line : (m : NetState) → has_neighbour m.mesh y o ≡ false → (network_of m).credit_list y o ≡ []
    unfolding network_of
    bare_line m e = rw e refl

    out_unlinked : (network_of new).out y o ≡ (joined parts are kept gathered links emptied).out y o
    out_unlinked =
        let inner : end_of (q y) y o ≡ Inner = rw none_part refl in
        let sinks : cond (o == 2 * length new.mesh) (sink_at new y).delivered [] ≡ cond (o == 2 * length
        (q y).net.mesh) (sink_at (q y).net y).delivered []
        = λ t. cond (o == 2 * length (mesh_as y t)) (node_same y t).sink.delivered [] in
        bare_out new none_now ∙ (sinks ∙ (sym (bare_out (q y).net none_part)
        ∙ (ap (λ (e : End). sent_on e ((network_of (q y).net).out y o)) (sym inner) ∙ rw none refl)))

    line_unlinked : (network_of new).credit_list y o ≡ (joined parts are kept gathered links emptied).credit_list y o
    line_unlinked = bare_line new none_now ∙ rw none refl

  module _ (y o x : ℕ) (linked : (shape (part_at parts 0).opening).neighbour y o ≡ Some x) where
    has_now : has_neighbour new.mesh y o ≡ true
    has_now = ap (λ (m : List ℕ). has_neighbour m y o) gathered.config.mesh
        ∙ has parts are kept gathered y o x linked

    number_now : links_before new.mesh y o ≡ links_before O.mesh y o
    number_now = ap (λ (m : List ℕ). links_before m y o) gathered.config.mesh

    out_linked : (network_of new).out y o ≡ (joined parts are kept gathered links emptied).out y o
    out_linked = out_there new y o new_framed has_now ∙ (ap (λ (n : ℕ). (link_at new n).flits) number_now
        ∙ out_put parts are kept gathered links emptied y o x linked)

    line_linked : (network_of new).credit_list y o ≡ (joined parts are kept gathered links emptied).credit_list y o
    line_linked = credits_there new y o new_framed has_now ∙ (ap (λ (n : ℕ). (link_at new n).credits) number_now
        ∙ pair_put parts are kept gathered links emptied y o x linked)

  out_same : (y o : ℕ) (n : Option ℕ) → (shape (part_at parts 0).opening).neighbour y o ≡ n
      → (network_of new).out y o ≡ (joined parts are kept gathered links emptied).out y o
  out_same y o None e = out_unlinked y o e
  out_same y o (Some x) e = out_linked y o x e

  line_same : (y o : ℕ) (n : Option ℕ) → (shape (part_at parts 0).opening).neighbour y o ≡ n
      → (network_of new).credit_list y o ≡ (joined parts are kept gathered links emptied).credit_list y o
  line_same y o None e = line_unlinked y o e
  line_same y o (Some x) e = line_linked y o x e

  places_same : (x : ℕ) (p v : ℕ) → ((network_of new).buffer x p v ≡ (network_of (owner_of parts x).net).buffer x p v)
      × ((network_of new).in_record x p v ≡ (network_of (owner_of parts x).net).in_record x p v)
      × ((network_of new).last_out x p v ≡ (network_of (owner_of parts x).net).last_out x p v)
      × ((network_of new).owed x p v ≡ (network_of (owner_of parts x).net).owed x p v)
      × ((network_of new).holder x p v ≡ (network_of (owner_of parts x).net).holder x p v)
      × ((network_of new).credits x p v ≡ (network_of (owner_of parts x).net).credits x p v)
      × ((network_of new).injected x p ≡ (network_of (owner_of parts x).net).injected x p)
      × ((network_of new).unfed x p ≡ (network_of (owner_of parts x).net).unfed x p)
  unfolding network_of
  places_same x p v = (
    ap (λ (n : Node). (input_of n.router p v).buffer) (node_same x),
    ap (λ (n : Node). (input_of n.router p v).state) (node_same x),
    ap (λ (n : Node). (input_of n.router p v).last_out) (node_same x),
    ap (λ (n : Node). (input_of n.router p v).owed) (node_same x),
    ap (λ (n : Node). (output_of n.router p v).holder) (node_same x),
    ap (λ (n : Node). (output_of n.router p v).credits) (node_same x),
    ap (λ (n : Node). (queue_at n.source p).injected) (node_same x),
    ap (λ (n : Node). Rattle.std.specs.Prelude.drop (queue_at n.source p).fed (queue_at n.source p).injected)
        (node_same x),
  )

  pub network_same : network_of new ≡ joined parts are kept gathered links emptied
  network_same = same_network (network_of new) (joined parts are kept gathered links emptied) (record {
    buffer = λ x p v. (places_same x p v).0;
    in_record = λ x p v. (places_same x p v).1;
    last_out = λ x p v. (places_same x p v).2;
    owed = λ x p v. (places_same x p v).3;
    holder = λ x o c. (places_same x o c).4;
    credits = λ x o c. (places_same x o c).5;
    out = λ y o. out_same y o ((shape (part_at parts 0).opening).neighbour y o) refl;
    credit_list = λ y o. line_same y o ((shape (part_at parts 0).opening).neighbour y o) refl;
    injected = λ x k. (places_same x k 0).6;
    unfed = λ x k. (places_same x k 0).7;
  })
