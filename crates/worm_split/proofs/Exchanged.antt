-- An exchange leaves both sides framed: what stands at a place stood at the same place of one of them.
use Rattle.std.proofs.Common.{◌≡◌, ℕ, ◌*◌, ◌<◌, ◌≤◌, Bool, true, false, cond, List, length, sum, arith}
use Rattle.std.proofs.Common.{refl, sym, subst, ◌∙◌}
use Rattle.std.specs.Prelude.{slice_index_or}
use Rattle.worm_region.specs.Owned.{owned_by}
use Rattle.worm_region.specs.State.{NetState, IsFramed, IsNodeOf, net_state}
use Rattle.worm_node.specs.NewNodes.{fresh_node}
use Rattle.worm_node.specs.declared.node.Node.{Node}
use Rattle.worm_region.specs.declared.owner.Owner.{Owner}
use Rattle.worm_wires.specs.Links.{LinkView}
use Rattle.worm_mesh.specs.declared.mesh.LinkEnds.{LinkEnds}
use Rattle.worm_split.specs.declared.ends.End.{End}
use Rattle.worm_split.specs.declared.ends.EndPair.{EndPair}
use Rattle.worm_split.specs.Apart.{Apart, ArePaired, Fits, IsExchanged, with_lists}
use Rattle.worm_split.specs.Exchange.{EndsSwapped, LinksSwapped, NodesSwapped}
use Rattle.worm_split.specs.PartState.{HasConfigOf}
use Rattle.worm_split.proofs.Swapped.{link_in, nodes_now, rooms_now}

-- configurations, one after another
pub config_then : (a b c : NetState) → HasConfigOf a b → HasConfigOf b c → HasConfigOf a c
config_then a b c first then = record {
  mesh = then.mesh ∙ first.mesh;
  channels = then.channels ∙ first.channels;
  depth = then.depth ∙ first.depth;
  names = then.names ∙ first.names;
}

-- lists that are framed in a network are so in another of one configuration
pub framed_in : (o a b : NetState) (nodes : List Node) (links : List LinkView) → HasConfigOf o a → HasConfigOf o b →
    IsFramed (with_lists a nodes links) → IsFramed (with_lists b nodes links)
framed_in o a b nodes links one other framed =
    let here : IsFramed (net_state a.mesh a.channels a.depth b.names nodes links b.own) = record {
      radices = framed.radices;
      classes = framed.classes;
      least_depth = framed.least_depth;
      most_depth = framed.most_depth;
      all_nodes = framed.all_nodes;
      all_links = framed.all_links;
      each_node = framed.each_node;
      rooms = framed.rooms;
    } in
    let same : net_state a.mesh a.channels a.depth b.names nodes links b.own ≡ with_lists b nodes links = λ t.
    net_state ((one.mesh ∙ sym other.mesh) t) ((one.channels ∙ sym other.channels) t)
    ((one.depth ∙ sym other.depth) t) b.names nodes links b.own in
    subst IsFramed same here

-- and so are others like them
pub framed_with : (s : NetState) (nodes : List Node) (links : List LinkView) → IsFramed s →
    length nodes ≡ length s.nodes → length links ≡ length s.links →
    ((x : ℕ) → x < length s.nodes → IsNodeOf s.mesh s.channels s.depth x
    (slice_index_or nodes x (fresh_node s.mesh s.channels s.depth x))) →
    ((k : ℕ) → k < length s.links → sum s.channels * s.depth ≤ (link_in links k).room) →
    IsFramed (with_lists s nodes links)
framed_with s nodes links framed all_nodes all_links each rooms = record {
  radices = framed.radices;
  classes = framed.classes;
  least_depth = framed.least_depth;
  most_depth = framed.most_depth;
  all_nodes = all_nodes ∙ framed.all_nodes;
  all_links = all_links ∙ framed.all_links;
  each_node = λ x there. each x (omega arith);
  rooms = λ k there. rooms k (omega arith);
}

module _ (own : Owner) (s : NetState) (ways : List LinkEnds) (nodes us vs : List Node) (links ls ms : List LinkView)
    (framed : IsFramed s) (other : IsFramed (with_lists s nodes links))
    (nodes_swapped : NodesSwapped own (length s.nodes) s.nodes nodes us vs)
    (links_swapped : LinksSwapped own ways (length s.links) s.links links ls ms) where
  abbrev IsAt : ℕ → Node → Type 0
  IsAt x n = IsNodeOf s.mesh s.channels s.depth x n

  one_of : (x : ℕ) (b : Bool) (m n : Node) → IsAt x m → IsAt x n → IsAt x (cond b m n) × IsAt x (cond b n m)
  one_of x true m n first second = (first, second)
  one_of x false m n first second = (second, first)

  nodes_at : (x : ℕ) → x < length s.nodes → let fresh = fresh_node s.mesh s.channels s.depth x in
      IsAt x (slice_index_or us x fresh) × IsAt x (slice_index_or vs x fresh)
  nodes_at x there =
      let fresh = fresh_node s.mesh s.channels s.depth x in
      let long = nodes_swapped.one_length in
      let now = nodes_now own s.nodes nodes us vs nodes_swapped x fresh in
      let each = one_of x (owned_by own x) (slice_index_or nodes x fresh) (slice_index_or s.nodes x fresh)
      (other.each_node x (omega arith)) (framed.each_node x there) in
      (subst (IsAt x) (sym now.0) each.0, subst (IsAt x) (sym now.1) each.1)

  rooms : (k : ℕ) → k < length s.links →
      (sum s.channels * s.depth ≤ (link_in ls k).room) × (sum s.channels * s.depth ≤ (link_in ms k).room)
  rooms = rooms_now own ways s.links links ls ms links_swapped (sum s.channels * s.depth) framed.rooms other.rooms

  pub both_framed : IsFramed (with_lists s us ls) × IsFramed (with_lists s vs ms)
  both_framed = (
    framed_with s us ls framed nodes_swapped.same_length links_swapped.same_length
        (λ x there. (nodes_at x there).0) (λ k there. (rooms k there).0),
    framed_with s vs ms framed nodes_swapped.other_length links_swapped.other_length
        (λ x there. (nodes_at x there).1) (λ k there. (rooms k there).1),
  )

-- What is exchanged fits as before.
pub exchanged : (own : Owner) (old kept : Apart) → old ≡ kept → (nodes us vs : List Node) (links ls ms : List LinkView)
    (ends new_ends : List End) (pairs : List EndPair) → Fits old → ArePaired kept nodes links ends
    → NodesSwapped own (length old.net.nodes) old.net.nodes nodes us vs
    → LinksSwapped own old.ways (length old.net.links) old.net.links links ls ms
    → EndsSwapped own old.ways (length old.pairs) old.pairs ends pairs new_ends
    → IsExchanged own kept (record { net = with_lists old.net us ls; ways = old.ways; pairs = pairs }) nodes vs links ms
    ends new_ends
exchanged own old kept is nodes us vs links ls ms ends new_ends pairs fits paired nodes_swapped links_swapped
    ends_swapped =
    let other = subst (λ (k : Apart). IsFramed (with_lists k.net nodes links)) (sym is) paired.framed in
    let framed = both_framed own old.net old.ways nodes us vs links ls ms fits.framed other nodes_swapped links_swapped
    in
    subst (λ (k : Apart). IsExchanged own k (record { net = with_lists old.net us ls; ways = old.ways; pairs = pairs })
    nodes vs links ms ends new_ends) is (record {
      fits = record {
        framed = framed.0;
        all_owned = fits.all_owned;
        ways = fits.ways;
        all_pairs = ends_swapped.same_length ∙ fits.all_pairs;
      };
      config = record { mesh = refl; channels = refl; depth = refl; names = refl };
      ways = refl;
      nodes = nodes_swapped;
      links = links_swapped;
      ends = ends_swapped;
      framed = framed.1;
    })
