-- What is exchanged between a network taken apart and a worker's own lists, at the split and again at the join: the
-- nodes that the worker owns, the flits on the links that enter them, the credits on their way back to them, and its
-- ends of links.
use Rattle.std.specs.Prelude.{◌≡◌, ℕ, ◌<◌, ◌≤◌, Bool, cond, List, length, slice_index_or}
use Rattle.worm_mesh.specs.declared.mesh.LinkEnds.{LinkEnds}
use Rattle.worm_region.specs.Owned.{owned_by}
use Rattle.worm_wires.specs.Links.{LinkView}
use Rattle.worm_node.specs.declared.node.Node.{Node}
use Rattle.worm_region.specs.declared.owner.Owner.{Owner}
use Rattle.worm_split.specs.declared.ends.End.{End}
use Rattle.worm_split.specs.declared.ends.EndPair.{EndPair}

-- by number of the link, its two nodes and its two ports
abbrev pub way_at : List LinkEnds → ℕ → LinkEnds
way_at ways k = slice_index_or ways k (record { from = 0; out_port = 0; to = 0; in_port = 0 })

-- whether the worker owns the node that the link leaves, and the one that it enters
abbrev pub near_of : Owner → List LinkEnds → ℕ → Bool
near_of own ways k = owned_by own (way_at ways k).from

abbrev pub far_of : Owner → List LinkEnds → ℕ → Bool
far_of own ways k = owned_by own (way_at ways k).to

-- two nodes change places where they are the worker's
abbrev pub SwapsNode : Bool → Node → Node → Node → Node → Type 0
SwapsNode own a b new_a new_b = (new_a ≡ cond own b a) × (new_b ≡ cond own a b)

-- two links' flits change places where the far end is the worker's, their credits where the near end is; both keep
-- what room both had
pub record SwapsLink (near far : Bool) (a b new_a new_b : LinkView) : Type 0 where
  pub flits : new_a.flits ≡ cond far b.flits a.flits
  pub other_flits : new_b.flits ≡ cond far a.flits b.flits
  pub credits : new_a.credits ≡ cond near b.credits a.credits
  pub other_credits : new_b.credits ≡ cond near a.credits b.credits
  pub room : (m : ℕ) → m ≤ a.room → m ≤ b.room → m ≤ new_a.room
  pub other_room : (m : ℕ) → m ≤ a.room → m ≤ b.room → m ≤ new_b.room

-- a worker's end changes places with the one of the pair that is the worker's, where just one node of the link is
pub record SwapsEnd (near far : Bool) (pair : EndPair) (end : End) (new_pair : EndPair) (new_end : End) : Type 0 where
  pub own_end : new_end ≡ cond near (cond far end pair.out) (cond far pair.into end)
  pub out : new_pair.out ≡ cond near (cond far pair.out end) pair.out
  pub into : new_pair.into ≡ cond near pair.into (cond far end pair.into)

-- the items of two lists of one length changed by a rule, up to this place
pub record AreSwapped {A B : Type 0} (Swaps : ℕ → A → B → A → B → Type 0) (count : ℕ)
    (xs : List A) (ys : List B) (new_xs : List A) (new_ys : List B) : Type 0 where
  pub one_length : length ys ≡ length xs
  pub same_length : length new_xs ≡ length xs
  pub other_length : length new_ys ≡ length xs
  pub done : (k : ℕ) → k < count → (a : A) (b : B) →
      Swaps k (slice_index_or xs k a) (slice_index_or ys k b) (slice_index_or new_xs k a) (slice_index_or new_ys k b)
  pub rest : (k : ℕ) → count ≤ k → (a : A) (b : B) →
      (slice_index_or new_xs k a ≡ slice_index_or xs k a) × (slice_index_or new_ys k b ≡ slice_index_or ys k b)

abbrev pub NodesSwapped : Owner → ℕ → List Node → List Node → List Node → List Node → Type 0
NodesSwapped own = AreSwapped (λ k. SwapsNode (owned_by own k))

abbrev pub LinksSwapped : Owner → List LinkEnds → ℕ → List LinkView → List LinkView → List LinkView → List LinkView
    → Type 0
LinksSwapped own ways = AreSwapped (λ k. SwapsLink (near_of own ways k) (far_of own ways k))

abbrev pub EndsSwapped : Owner → List LinkEnds → ℕ → List EndPair → List End → List EndPair → List End → Type 0
EndsSwapped own ways = AreSwapped (λ k. SwapsEnd (near_of own ways k) (far_of own ways k))
