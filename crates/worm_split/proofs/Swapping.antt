-- Two lists of which items change by a rule, one place after another.
use Rattle.std.proofs.Common.{◌≡◌, ℕ, ◌+◌, ◌<◌, ◌≢◌, Bool, inl, inr, List, length, refl}
use Rattle.std.proofs.Common.{arith, ap, subst, ◌∙◌}
use Rattle.std.specs.Prelude.{slice_set, slice_index_or}
use Rattle.std.proofs.Math.ListN.{length-set}
use Rattle.std.proofs.lemmas.Bool.{cases_lt}
use Rattle.std.proofs.lemmas.List.{get_or_read, get_or-set_other, get_or-set_same}
use Rattle.worm_mesh.specs.declared.mesh.LinkEnds.{LinkEnds}
use Rattle.worm_region.specs.Owned.{owned_by}
use Rattle.worm_wires.specs.Links.{LinkView}
use Rattle.worm_node.specs.declared.node.Node.{Node}
use Rattle.worm_region.specs.declared.owner.Owner.{Owner}
use Rattle.worm_split.specs.declared.ends.End.{End}
use Rattle.worm_split.specs.declared.ends.EndPair.{EndPair}
use Rattle.worm_split.specs.Exchange.{AreSwapped, EndsSwapped, LinksSwapped, NodesSwapped, SwapsEnd, SwapsLink}
use Rattle.worm_split.specs.Exchange.{SwapsNode, far_of, near_of, way_at}

module _ {A B : Type 0} (Swaps : ℕ → A → B → A → B → Type 0) where
  pub begun : (xs : List A) (ys : List B) → length ys ≡ length xs → AreSwapped Swaps 0 xs ys xs ys
  begun xs ys one = record {
    one_length = one;
    same_length = refl;
    other_length = one;
    done = λ k below a b. absurd (omega arith);
    rest = λ k past a b. (refl, refl);
  }

  pub further : (i : ℕ) (xs : List A) (ys : List B) (us : List A) (vs : List B) (new_a : A) (new_b : B)
      → AreSwapped Swaps i xs ys us vs
      → i < length xs → ((a : A) (b : B) → Swaps i (slice_index_or us i a) (slice_index_or vs i b) new_a new_b)
      → AreSwapped Swaps (i + 1) xs ys (slice_set us i new_a) (slice_set vs i new_b)
  further i xs ys us vs new_a new_b so_far there swaps =
      let long = so_far.same_length in
      let other_long = so_far.other_length in
      let us_in : i < length us = omega arith in
      let vs_in : i < length vs = omega arith in
      record {
        one_length = so_far.one_length;
        same_length = length-set us i new_a ∙ long;
        other_length = length-set vs i new_b ∙ other_long;
        done = λ k below a b. elim (cases_lt k i) [
          | inl lt ↦
              let apart : k ≢ i = λ e. omega arith in
              rw (get_or-set_other us i k new_a a apart, get_or-set_other vs i k new_b b apart) (so_far.done k lt a b)
          | inr ge ↦
              let here : k ≡ i = omega arith in
              let was = so_far.rest i (omega arith) a b in
              rw here (rw (get_or-set_same us i new_a a us_in, get_or-set_same vs i new_b b vs_in)
              (subst (λ (u : A). Swaps i u (slice_index_or ys i b) new_a new_b) was.0
              (subst (λ (v : B). Swaps i (slice_index_or us i a) v new_a new_b) was.1 (swaps a b))))
        ];
        rest = λ k past a b.
            let apart : k ≢ i = λ e. omega arith in
            let was = so_far.rest k (omega arith) a b in
            (get_or-set_other us i k new_a a apart ∙ was.0, get_or-set_other vs i k new_b b apart ∙ was.1);
      }

-- the same of items that were read at the place

pub nodes_further : (own : Owner) (k : ℕ) (xs ys us vs : List Node) (a b new_a new_b : Node) (mine : Bool)
    → NodesSwapped own k xs ys us vs
    → k < length xs → a ≡ slice_index_or us k a → b ≡ slice_index_or vs k b → mine ≡ owned_by own k
    → SwapsNode mine a b new_a new_b
    → NodesSwapped own (k + 1) xs ys (slice_set us k new_a) (slice_set vs k new_b)
nodes_further own k xs ys us vs a b new_a new_b mine so_far there a_is b_is mine_is swaps =
    let long = so_far.same_length in
    let other_long = so_far.other_length in
    let a_read = get_or_read us k a (omega arith) a_is in
    let b_read = get_or_read vs k b (omega arith) b_is in
    further (λ j. SwapsNode (owned_by own j)) k xs ys us vs new_a new_b so_far there (λ d e.
    subst (λ (m : Bool). SwapsNode m (slice_index_or us k d) (slice_index_or vs k e) new_a new_b) mine_is
    (subst (λ (x : Node). SwapsNode mine x (slice_index_or vs k e) new_a new_b) (a_read d)
    (subst (λ (y : Node). SwapsNode mine a y new_a new_b) (b_read e) swaps)))

module _ (own : Owner) (ways : List LinkEnds) (k : ℕ) (way : LinkEnds) (way_in : k < length ways)
    (way_is : way ≡ slice_index_or ways k way)
    (near far : Bool) (near_is : near ≡ owned_by own way.from) (far_is : far ≡ owned_by own way.to) where
  way_here : way ≡ way_at ways k
  way_here = get_or_read ways k way way_in way_is _

  near_here : near ≡ near_of own ways k
  near_here = near_is ∙ ap (λ (w : LinkEnds). owned_by own w.from) way_here

  far_here : far ≡ far_of own ways k
  far_here = far_is ∙ ap (λ (w : LinkEnds). owned_by own w.to) way_here

  pub links_further : (xs ys us vs : List LinkView) (a b new_a new_b : LinkView)
      → LinksSwapped own ways k xs ys us vs → k < length xs
      → a ≡ slice_index_or us k a → b ≡ slice_index_or vs k b → SwapsLink near far a b new_a new_b
      → LinksSwapped own ways (k + 1) xs ys (slice_set us k new_a) (slice_set vs k new_b)
  links_further xs ys us vs a b new_a new_b so_far there a_is b_is swaps =
      let long = so_far.same_length in
      let other_long = so_far.other_length in
      let a_read = get_or_read us k a (omega arith) a_is in
      let b_read = get_or_read vs k b (omega arith) b_is in
      further (λ j. SwapsLink (near_of own ways j) (far_of own ways j)) k xs ys us vs new_a new_b so_far there (λ d e.
      subst (λ (n : Bool). SwapsLink n (far_of own ways k) (slice_index_or us k d)
      (slice_index_or vs k e) new_a new_b) near_here
      (subst (λ (f : Bool). SwapsLink near f (slice_index_or us k d) (slice_index_or vs k e) new_a new_b) far_here
      (subst (λ (x : LinkView). SwapsLink near far x (slice_index_or vs k e) new_a new_b) (a_read d)
      (subst (λ (y : LinkView). SwapsLink near far a y new_a new_b) (b_read e) swaps))))

  pub ends_further : (xs : List EndPair) (ys : List End) (us : List EndPair) (vs : List End) (a : EndPair) (b : End)
      (new_a : EndPair) (new_b : End)
      → EndsSwapped own ways k xs ys us vs → k < length xs
      → a ≡ slice_index_or us k a → b ≡ slice_index_or vs k b → SwapsEnd near far a b new_a new_b
      → EndsSwapped own ways (k + 1) xs ys (slice_set us k new_a) (slice_set vs k new_b)
  ends_further xs ys us vs a b new_a new_b so_far there a_is b_is swaps =
      let long = so_far.same_length in
      let other_long = so_far.other_length in
      let a_read = get_or_read us k a (omega arith) a_is in
      let b_read = get_or_read vs k b (omega arith) b_is in
      further (λ j. SwapsEnd (near_of own ways j) (far_of own ways j)) k xs ys us vs new_a new_b so_far there (λ d e.
      subst (λ (n : Bool). SwapsEnd n (far_of own ways k) (slice_index_or us k d)
      (slice_index_or vs k e) new_a new_b) near_here
      (subst (λ (f : Bool). SwapsEnd near f (slice_index_or us k d) (slice_index_or vs k e) new_a new_b) far_here
      (subst (λ (x : EndPair). SwapsEnd near far x (slice_index_or vs k e) new_a new_b) (a_read d)
      (subst (λ (y : End). SwapsEnd near far a y new_a new_b) (b_read e) swaps))))
