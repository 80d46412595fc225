-- The sums over sources and sinks by number are those over the list of nodes.
use Rattle.std.proofs.Common.{◌≡◌, ◌==◌, ℕ, zero, suc, ◌+◌, ◌<◌, ◌≤◌, List, length, get_or, take}
use Rattle.std.proofs.Common.{refl, arith, ap, sym, ◌∙◌}
use Rattle.std.specs.List.{sum_by}
use Rattle.std.proofs.lemmas.List.{take_all}
use Rattle.std.proofs.lemmas.List.Sums.{sum_by_more}
use Rattle.worm_mesh.specs.Address.{node_count}
use Rattle.worm_mesh.specs.Links.{sum_below}
use Rattle.worm_mesh.proofs.Counts.{sum_below_same}
use Rattle.worm_term.specs.Queue.{QueueState, empty_queue}
use Rattle.worm_region.specs.State.{NetState, IsNet, node_at, sink_at}
use Rattle.worm_region.specs.Resting.{no_node, nth_node}
use Rattle.worm_region.specs.Totals.{delivered_total, injected_below, injected_total}
use Rattle.worm_region.specs.UnderWay.{accepted_by, accepted_in, taken_by, taken_in}
use Rattle.worm_region.proofs.FrameKept.{is_nth}

below_is : {A : Type 0} (f : A → ℕ) (d : A) (xs : List A) (n : ℕ) → n ≤ length xs →
    sum_below (λ x. f (get_or xs x d)) n ≡ sum_by f (take n xs)
below_is f d xs zero within = refl
below_is f d xs (suc n) within =
    let next : n + 1 ≡ suc n = omega arith in
    ap (λ (k : ℕ). k + f (get_or xs n d)) (below_is f d xs n (omega arith)) ∙
    sym (sum_by_more f xs n d (omega arith)) ∙ ap (λ (m : ℕ). sum_by f (take m xs)) next

all_is : {A : Type 0} (f : A → ℕ) (d : A) (xs : List A) (n : ℕ) → n ≡ length xs →
    sum_below (λ x. f (get_or xs x d)) n ≡ sum_by f xs
all_is f d xs n e =
    below_is f d xs n (omega arith) ∙ ap (λ (m : ℕ). sum_by f (take m xs)) e ∙
    ap (sum_by f) (take_all (length xs) xs (omega arith))

accepted_at : (s : NetState) (x : ℕ) → IsNet s → x < node_count s.mesh →
    injected_below s x (length s.channels) ≡ accepted_by (nth_node s.nodes x)
unfolding accepted_by
accepted_at s x net x_in =
    let all = net.framed.all_nodes in
    let node = net.framed.each_node x (omega arith) in
    let n = node_at s x in
    let queues : length s.channels ≡ length n.source.queues =
    sym (ap (λ (cs : List ℕ). length cs) node.source_channels) ∙ sym node.source_holds.all_queues in
    all_is (λ (q : QueueState). length q.injected) empty_queue n.source.queues (length s.channels) queues ∙
    ap accepted_by (sym (is_nth s x net.framed x_in))

pub injected_is : (s : NetState) → IsNet s → injected_total s ≡ accepted_in s.nodes
unfolding accepted_in
injected_is s net =
    sum_below_same (λ x. injected_below s x (length s.channels)) (λ x. accepted_by (nth_node s.nodes x))
    (node_count s.mesh) (λ x x_in. accepted_at s x net x_in)
    ∙ all_is accepted_by no_node s.nodes (node_count s.mesh) (sym net.framed.all_nodes)

pub delivered_is : (s : NetState) → IsNet s → delivered_total s ≡ taken_in s.nodes
unfolding taken_in taken_by
delivered_is s net =
    sum_below_same (λ x. length (sink_at s x).delivered) (λ x. taken_by (nth_node s.nodes x)) (node_count s.mesh)
    (λ x x_in. ap taken_by (sym (is_nth s x net.framed x_in)))
    ∙ all_is taken_by no_node s.nodes (node_count s.mesh) (sym net.framed.all_nodes)

-- none is under way exactly where the sums are equal
equal_if_none : (i d n : ℕ) → i ≡ d + n → (n == 0) ≡ (i == d)
equal_if_none i d n e = grind arith

pub none_under_way : (s : NetState) (n : ℕ) → IsNet s → accepted_in s.nodes ≡ taken_in s.nodes + n →
    (n == 0) ≡ (injected_total s == delivered_total s)
none_under_way s n net known =
    rw (injected_is s net, delivered_is s net) (equal_if_none (accepted_in s.nodes) (taken_in s.nodes) n known)
