-- Which classes a source has to feed.
use Rattle.std.proofs.Common.{◌≡◌, ℕ, ◌<◌, ◌≤◌, false, length, List, None, Some, Option, refl}
use Rattle.std.proofs.Common.{arith, nat_lt, subst, sym, true, Bool, ◌∙◌}
use Rattle.std.specs.Prelude.{is_some, option_map}
use Rattle.std.proofs.lemmas.Bool.Decides.{nat_tests}
use Rattle.worm_flit.specs.declared.Flit.{Flit}
use Rattle.worm_flit.specs.Channels.{first_channel}
use Rattle.worm_flit.specs.SmallSet.{has as has_small}
use Rattle.worm_flit.specs.Stamps.{with_channel}
use Rattle.worm_router.specs.Router.{RouterState, input_at, terminal}
use Rattle.worm_router.specs.Busy.{IsFull}
use Rattle.worm_term.specs.Queue.{waiting}
use Rattle.worm_term.specs.Source.{AreUnfed, SourceState, front_of, queue_at}
use Rattle.worm_node.specs.Node.{AreToFeed, can_enter}
use Rattle.worm_node.specs.declared.node.Node.{Node}

none_enters : (r : RouterState) (t : SourceState) (k : ℕ) → is_some (waiting (queue_at t k)) ≡ false
    → can_enter r (terminal r) (front_of t k) ≡ false
none_enters r t k none = by (waiting (queue_at t k)) none where
  by : (o : Option Flit) → is_some o ≡ false
      → can_enter r (terminal r) (option_map (λ f. with_channel f (first_channel t.channels k)) o) ≡ false
  by None none = refl
  by (Some f) none = absurd (cc)

full_enters : (r : RouterState) (t : SourceState) (k : ℕ) → t.channels ≡ r.channels → IsFull r k
    → can_enter r (terminal r) (front_of t k) ≡ false
full_enters r t k same full = by (waiting (queue_at t k)) where
  room : nat_lt (length (input_at r (terminal r) (first_channel t.channels k)).buffer) r.depth ≡ false
  room =
      let past : r.depth ≤ length (input_at r (terminal r) (first_channel t.channels k)).buffer =
      subst (λ (counts : List ℕ). r.depth ≤ length (input_at r (terminal r) (first_channel counts k)).buffer) (sym same)
      full.no_room in
      grind (arith, nat_tests)

  by : (o : Option Flit)
      → can_enter r (terminal r) (option_map (λ f. with_channel f (first_channel t.channels k)) o) ≡ false
  by None = refl
  by (Some f) = room

left_out : (n : Node) (unfed k : ℕ) → n.source.channels ≡ n.router.channels
    → has_small unfed k ≡ is_some (waiting (queue_at n.source k)) → (b : Bool) → has_small unfed k ≡ b
    → (has_small unfed k ≡ true → IsFull n.router k)
    → can_enter n.router (terminal n.router) (front_of n.source k) ≡ false
left_out n unfed k same is true there full = full_enters n.router n.source k same (full there)
left_out n unfed k same is false there full = none_enters n.router n.source k (sym is ∙ there)

pub to_feed : (n : Node) (unfed set : ℕ) → n.source.channels ≡ n.router.channels → AreUnfed n.source.queues unfed
    → ((k : ℕ) → k < 8 → has_small set k ≡ true → has_small unfed k ≡ true)
    → ((k : ℕ) → k < 8 → has_small unfed k ≡ true → has_small set k ≡ false → IsFull n.router k) → AreToFeed n set
to_feed n unfed set same are within full = record {
  some = λ k k_in there. sym (are k k_in) ∙ within k k_in there;
  rest = λ k k_in off. left_out n unfed k same (are k k_in) (has_small unfed k) refl
      (λ there. full k k_in there off);
}
