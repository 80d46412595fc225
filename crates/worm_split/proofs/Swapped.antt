-- What each list has after an exchange: the other's items at the places that are the worker's, and else its own.
use Rattle.std.proofs.Common.{◌≡◌, ℕ, ◌<◌, ◌≤◌, Bool, true, false, cond, inl, inr, List, [], length, refl, arith}
use Rattle.std.proofs.Common.{sym, ap, ◌∙◌}
use Rattle.std.specs.Prelude.{slice_index_or}
use Rattle.std.proofs.lemmas.Bool.{cases_lt}
use Rattle.std.proofs.lemmas.List.{get_or_past}
use Rattle.worm_mesh.specs.declared.mesh.LinkEnds.{LinkEnds}
use Rattle.worm_region.specs.Owned.{owned_by}
use Rattle.worm_wires.specs.Links.{LinkView, blank_link}
use Rattle.worm_node.specs.declared.node.Node.{Node}
use Rattle.worm_region.specs.declared.owner.Owner.{Owner}
use Rattle.worm_split.specs.declared.ends.End.{End}
use Rattle.worm_split.specs.declared.ends.End.TheVariants.{Inner}
use Rattle.worm_split.specs.declared.ends.EndPair.{EndPair}
use Rattle.worm_split.specs.Ends.{end_at, pair_at, no_pair}
use Rattle.worm_split.specs.Exchange.{EndsSwapped, LinksSwapped, NodesSwapped, far_of, near_of}

abbrev pub link_in : List LinkView → ℕ → LinkView
link_in links k = slice_index_or links k blank_link

either : {A : Type 0} (b : Bool) (a : A) → cond b a a ≡ a
either {A} true a = refl
either {A} false a = refl

all_inner : (near far : Bool) → Inner ≡ cond near (cond far Inner Inner) (cond far Inner Inner)
all_inner true true = refl
all_inner true false = refl
all_inner false true = refl
all_inner false false = refl

all_inner_near : (near far : Bool) → Inner ≡ cond near (cond far Inner Inner) Inner
all_inner_near true true = refl
all_inner_near true false = refl
all_inner_near false far = refl

all_inner_far : (near far : Bool) → Inner ≡ cond near Inner (cond far Inner Inner)
all_inner_far true far = refl
all_inner_far false true = refl
all_inner_far false false = refl

module _ (own : Owner) (xs ys us vs : List Node) (swapped : NodesSwapped own (length xs) xs ys us vs) where
  -- the two lists at a place: as the other had it, where the place is the worker's
  pub nodes_now : (x : ℕ) (n : Node)
      → (slice_index_or us x n ≡ cond (owned_by own x) (slice_index_or ys x n) (slice_index_or xs x n))
      × (slice_index_or vs x n ≡ cond (owned_by own x) (slice_index_or xs x n) (slice_index_or ys x n))
  nodes_now x n = elim (cases_lt x (length xs)) [
    | inl below ↦ swapped.done x below n n
    | inr past ↦
        let one = swapped.one_length in
        let was = swapped.rest x past n n in
        let mine = get_or_past xs x n past in
        let other = get_or_past ys x n (omega arith) in (
          was.0 ∙ (mine ∙ rw (mine, other) (sym (either (owned_by own x) n))),
          was.1 ∙ (other ∙ rw (mine, other) (sym (either (owned_by own x) n))),
        )
  ]

module _ (own : Owner) (ways : List LinkEnds) (xs ys us vs : List LinkView) (swapped : LinksSwapped own ways
    (length xs) xs ys us vs) where
  pub record LinkNow (k : ℕ) : Type 0 where
    pub flits : (link_in us k).flits ≡ cond (far_of own ways k) (link_in ys k).flits (link_in xs k).flits
    pub other_flits : (link_in vs k).flits ≡ cond (far_of own ways k) (link_in xs k).flits (link_in ys k).flits
    pub credits : (link_in us k).credits ≡ cond (near_of own ways k) (link_in ys k).credits (link_in xs k).credits
    pub other_credits : (link_in vs k).credits ≡ cond (near_of own ways k) (link_in xs k).credits (link_in ys k).credits

  pub links_now : (k : ℕ) → LinkNow k
  links_now k = elim (cases_lt k (length xs)) [
    | inl below ↦
        let done = swapped.done k below blank_link blank_link in
        record {
          flits = done.flits;
          other_flits = done.other_flits;
          credits = done.credits;
          other_credits =
              done.other_credits;
        }
    | inr past ↦
        let one = swapped.one_length in
        let was = swapped.rest k past blank_link blank_link in
        let mine : link_in xs k ≡ blank_link = get_or_past xs k blank_link past in
        let other : link_in ys k ≡ blank_link = get_or_past ys k blank_link (omega arith) in
        record {
          flits = ap (λ (l : LinkView). l.flits) (was.0 ∙ mine) ∙ rw (mine, other) (sym (either
              (far_of own ways k) []));
          other_flits = ap (λ (l : LinkView). l.flits) (was.1 ∙ other) ∙ rw (mine, other) (sym (either
              (far_of own ways k) []));
          credits = ap (λ (l : LinkView). l.credits) (was.0 ∙ mine) ∙ rw (mine, other) (sym (either
              (near_of own ways k) []));
          other_credits = ap (λ (l : LinkView). l.credits) (was.1 ∙ other)
              ∙ rw (mine, other) (sym (either (near_of own ways k) []));
        }
  ]

  pub rooms_now : (m : ℕ) → ((k : ℕ) → k < length xs → m ≤ (link_in xs k).room) → ((k : ℕ) → k < length ys
      → m ≤ (link_in ys k).room)
      → (k : ℕ) → k < length xs → (m ≤ (link_in us k).room) × (m ≤ (link_in vs k).room)
  rooms_now m mine other k below =
      let done = swapped.done k below blank_link blank_link in
      let one = swapped.one_length in
      (done.room m (mine k below) (other k (omega arith)), done.other_room m (mine k below) (other k (omega arith)))

module _ (own : Owner) (ways : List LinkEnds) (xs : List EndPair) (ys : List End) (us : List EndPair) (vs : List End)
    (swapped : EndsSwapped own ways (length xs) xs ys us vs) where
  pub record EndNow (k : ℕ) : Type 0 where
    pub own_end : end_at vs k ≡ cond (near_of own ways k) (cond (far_of own ways k) (end_at ys k) (pair_at xs k).out)
        (cond (far_of own ways k) (pair_at xs k).into (end_at ys k))
    pub out : (pair_at us k).out ≡ cond (near_of own ways k) (cond (far_of own ways k) (pair_at xs k).out
        (end_at ys k)) (pair_at xs k).out
    pub into : (pair_at us k).into ≡ cond (near_of own ways k) (pair_at xs k).into (cond (far_of own ways k)
        (end_at ys k) (pair_at xs k).into)

  pub ends_now : (k : ℕ) → EndNow k
  ends_now k = elim (cases_lt k (length xs)) [
    | inl below ↦
        let done = swapped.done k below no_pair Inner in
        record { own_end = done.own_end; out = done.out; into = done.into }
    | inr past ↦
        let one = swapped.one_length in
        let was = swapped.rest k past no_pair Inner in
        let mine : pair_at xs k ≡ no_pair = get_or_past xs k no_pair past in
        let other : end_at ys k ≡ Inner = get_or_past ys k Inner (omega arith) in
        let near = near_of own ways k in
        let far = far_of own ways k in
        record {
          own_end = was.1 ∙ (other ∙ rw (mine, other) (all_inner near far));
          out = ap (λ (l : EndPair). l.out) (was.0 ∙ mine) ∙ rw (mine, other) (all_inner_near near far);
          into = ap (λ (l : EndPair). l.into) (was.0 ∙ mine) ∙ rw (mine, other) (all_inner_far near far);
        }
  ]
