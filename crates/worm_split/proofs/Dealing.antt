-- A network taken apart is dealt to its workers in rising number: what it has yet of those that come.
use Rattle.std.proofs.Common.{◌≡◌, ℕ, ◌+◌, ◌*◌, ◌≤◌, ◌%◌, Bool, true, false, cond, inl, inr, List, []}
use Rattle.std.proofs.Common.{length, sum, refl, arith, ap, ◌∙◌}
use Rattle.std.specs.Prelude.{slice_index_or}
use Rattle.std.proofs.lemmas.Bool.{cases_lt}
use Rattle.std.proofs.lemmas.List.{get_or-replicate, get_or_past}
use Rattle.std.proofs.Math.ListN.{length-replicate}
use Rattle.worm_mesh.specs.Links.{link_count}
use Rattle.worm_wires.specs.Links.{LinkView, blank_link, empty_link}
use Rattle.worm_region.specs.Owned.{owned_by}
use Rattle.worm_region.specs.State.{NetState, link_at}
use Rattle.worm_node.specs.NewNodes.{fresh_node}
use Rattle.worm_node.specs.declared.node.Node.{Node}
use Rattle.worm_region.specs.declared.owner.Owner.{Owner}
use Rattle.worm_split.specs.declared.ends.End.{End}
use Rattle.worm_split.specs.declared.ends.End.TheVariants.{Inner}
use Rattle.worm_split.specs.declared.ends.EndPair.{EndPair}
use Rattle.worm_split.specs.declared.memory.Seat.{Seat}
use Rattle.worm_split.specs.Apart.{Apart, IsExchanged}
use Rattle.worm_split.specs.Ends.{end_at, end_made, pair_at}
use Rattle.worm_split.specs.Exchange.{far_of, near_of, way_at}
use Rattle.worm_split.specs.PartState.{HasConfigOf}
use Rattle.worm_split.specs.Splits.{ArePairsMade, IsSeat}
use Rattle.worm_split.proofs.Exchanged.{config_then}
use Rattle.worm_split.proofs.Gathered.{not_same}
use Rattle.worm_split.proofs.Gathering.{either_way}
use Rattle.worm_split.proofs.Swapped.{ends_now, link_in, links_now, nodes_now}

pub record IsDealt (O : NetState) (W : ℕ) (pairs : List EndPair) (from : ℕ) (kept : Apart) : Type 0 where
  pub config : HasConfigOf O kept.net
  pub made : ArePairsMade O W kept.ways pairs
  pub nodes : (x : ℕ) → from ≤ x % W → (n : Node) → slice_index_or kept.net.nodes x n ≡ slice_index_or O.nodes x n
  pub flits : (k : ℕ) → from ≤ (way_at kept.ways k).to % W
      → (link_in kept.net.links k).flits ≡ (link_at O k).flits
  pub credits : (k : ℕ) → from ≤ (way_at kept.ways k).from % W
      → (link_in kept.net.links k).credits ≡ (link_at O k).credits
  pub outs : (k : ℕ) → from ≤ (way_at kept.ways k).from % W
      → (pair_at kept.pairs k).out ≡ (pair_at pairs k).out
  pub intos : (k : ℕ) → from ≤ (way_at kept.ways k).to % W
      → (pair_at kept.pairs k).into ≡ (pair_at pairs k).into

module _ (O : NetState) (W w : ℕ) (pairs : List EndPair) (kept new : Apart) (dealt : IsDealt O W pairs w kept)
    (seat : Seat) (is : IsSeat O pairs seat) (new_nodes : List Node) (new_links : List LinkView) (new_ends : List End)
    (did : IsExchanged (record { worker = w; workers = W }) kept new seat.nodes.items new_nodes seat.links.items
    new_links seat.ends.items new_ends) where
  abbrev pub own : Owner
  own = record { worker = w; workers = W }

  later : (x : ℕ) → w + 1 ≤ x % W → owned_by own x ≡ false
  later x from = not_same (x % W) w (λ e. omega arith)

  mine : (x : ℕ) → owned_by own x ≡ true → w ≤ x % W
  mine x e = let same : x % W ≡ w = grind (arith, e) in omega arith

  empty_at : (k : ℕ) → ((link_in seat.links.items k).flits ≡ []) × ((link_in seat.links.items k).credits ≡ [])
  empty_at k =
      let empty = empty_link (sum O.channels * O.depth) in
      elim (cases_lt k (link_count O.mesh)) [
        | inl below ↦
            let at : link_in seat.links.items k ≡ empty = ap (λ (l : List LinkView). link_in l k) is.links
            ∙ get_or-replicate (link_count O.mesh) k empty blank_link below in
            (ap (λ (l : LinkView). l.flits) at, ap (λ (l : LinkView). l.credits) at)
        | inr past ↦
            let long : length seat.links.items ≡ link_count O.mesh = ap (λ (l : List LinkView). length l) is.links
            ∙ length-replicate (link_count O.mesh) empty in
            let at = get_or_past seat.links.items k blank_link (omega arith) in
            (ap (λ (l : LinkView). l.flits) at, ap (λ (l : LinkView). l.credits) at)
      ]

  empty_end : (k : ℕ) → end_at seat.ends.items k ≡ Inner
  empty_end k = elim (cases_lt k (link_count O.mesh)) [
    | inl below ↦ ap (λ (l : List End). end_at l k) is.ends
        ∙ get_or-replicate (link_count O.mesh) k Inner Inner below
    | inr past ↦
        let long : length seat.ends.items ≡ link_count O.mesh = ap (λ (l : List End). length l) is.ends
        ∙ length-replicate (link_count O.mesh) Inner in
        get_or_past seat.ends.items k Inner (omega arith)
  ]

  -- what is left for the workers that come
  pub dealt_on : IsDealt O W pairs (w + 1) new
  dealt_on = record {
    config = config_then O kept.net new.net dealt.config did.config;
    made = rw did.ways dealt.made;
    nodes = λ x from n.
        let other = later x from in
        (nodes_now own kept.net.nodes seat.nodes.items new.net.nodes new_nodes did.nodes x n).0 ∙ (rw other refl
        ∙ dealt.nodes x (omega arith) n);
    flits = rw did.ways (λ k from.
        let other = later (way_at kept.ways k).to from in
        (links_now own kept.ways kept.net.links seat.links.items new.net.links new_links did.links k).flits
        ∙ (rw other refl ∙ dealt.flits k (omega arith)));
    credits = rw did.ways (λ k from.
        let other = later (way_at kept.ways k).from from in
        (links_now own kept.ways kept.net.links seat.links.items new.net.links new_links did.links k).credits
        ∙ (rw other refl ∙ dealt.credits k (omega arith)));
    outs = rw did.ways (λ k from.
        let other = later (way_at kept.ways k).from from in
        (ends_now own kept.ways kept.pairs seat.ends.items new.pairs new_ends did.ends k).out
        ∙ (rw other refl ∙ dealt.outs k (omega arith)));
    intos = rw did.ways (λ k from.
        let other = later (way_at kept.ways k).to from in
        (ends_now own kept.ways kept.pairs seat.ends.items new.pairs new_ends did.ends k).into
        ∙ (rw other (either_way (near_of own kept.ways k) (pair_at kept.pairs k).into)
        ∙ dealt.intos k (omega arith)));
  }

  -- what the worker has
  pub node_own : (x : ℕ) (n : Node) → owned_by own x ≡ true → slice_index_or new_nodes x n ≡ slice_index_or O.nodes x n
  node_own x n e = (nodes_now own kept.net.nodes seat.nodes.items new.net.nodes new_nodes did.nodes x n).1 ∙ (rw e refl
      ∙ dealt.nodes x (mine x e) n)

  pub node_other : (x : ℕ) → owned_by own x ≡ false → slice_index_or new_nodes x
      (fresh_node O.mesh O.channels O.depth x) ≡ fresh_node O.mesh O.channels O.depth x
  node_other x e = (nodes_now own kept.net.nodes seat.nodes.items new.net.nodes new_nodes did.nodes x
      (fresh_node O.mesh O.channels O.depth x)).1 ∙ (rw e refl ∙ is.nodes x)

  flits_by : (k : ℕ) (b : Bool) → far_of own kept.ways k ≡ b
      → cond b (link_in kept.net.links k).flits (link_in seat.links.items k).flits ≡ cond b (link_at O k).flits []
  flits_by k true e = dealt.flits k (mine (way_at kept.ways k).to e)
  flits_by k false e = (empty_at k).0

  pub flits_own : (k : ℕ) → (link_in new_links k).flits ≡ cond (far_of own kept.ways k) (link_at O k).flits []
  flits_own k = (links_now own kept.ways kept.net.links seat.links.items new.net.links new_links did.links
      k).other_flits
      ∙ flits_by k (far_of own kept.ways k) refl

  credits_by : (k : ℕ) (b : Bool) → near_of own kept.ways k ≡ b
      → cond b (link_in kept.net.links k).credits (link_in seat.links.items k).credits ≡ cond b (link_at O k).credits []
  credits_by k true e = dealt.credits k (mine (way_at kept.ways k).from e)
  credits_by k false e = (empty_at k).1

  pub credits_own : (k : ℕ) → (link_in new_links k).credits ≡ cond (near_of own kept.ways k)
      (link_at O k).credits []
  credits_own k = (links_now own kept.ways kept.net.links seat.links.items new.net.links new_links did.links
      k).other_credits
      ∙ credits_by k (near_of own kept.ways k) refl

  ends_by : (k : ℕ) (near far : Bool) → near_of own kept.ways k ≡ near → far_of own kept.ways k ≡ far
      → cond near (cond far (end_at seat.ends.items k) (pair_at kept.pairs k).out) (cond far
      (pair_at kept.pairs k).into (end_at seat.ends.items k)) ≡ end_made near far (pair_at pairs k)
  ends_by k true true e f = empty_end k
  ends_by k true false e f = dealt.outs k (mine (way_at kept.ways k).from e)
  ends_by k false true e f = dealt.intos k (mine (way_at kept.ways k).to f)
  ends_by k false false e f = empty_end k

  pub ends_own : (k : ℕ) → end_at new_ends k ≡ end_made (near_of own kept.ways k)
      (far_of own kept.ways k) (pair_at pairs k)
  ends_own k = (ends_now own kept.ways kept.pairs seat.ends.items new.pairs new_ends did.ends k).own_end
      ∙ ends_by k (near_of own kept.ways k) (far_of own kept.ways k) refl refl
