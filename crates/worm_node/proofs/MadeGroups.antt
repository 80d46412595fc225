-- The nodes of a new network are put into their places group by group.
use Rattle.std.proofs.Common.{◌≡◌, ℕ, ◌+◌, ◌%◌, ◌<◌, ◌≤◌, inl, inr, List, Option, None, Some, length, get_or, set}
use Rattle.std.proofs.Common.{get_or-set_same, get_or-set_other, arith, ◌∙◌}
use Rattle.std.proofs.lemmas.Bool.Decides.{eqb_tells}
use Rattle.std.proofs.lemmas.List.{length-set}
use Rattle.worm_node.specs.NewNodes.{AreMade}
use Rattle.worm_node.specs.NewNodes.{fresh_node}
use Rattle.worm_node.specs.declared.node.Node.{Node}

-- of a group the nodes below this number stand in their places, and so do those of the groups before it
pub record AreMadeBelow (mesh channels : List ℕ) (depth group node count : ℕ) (places : List (Option Node)) : Type 0
  where
    pub counted : length places ≡ count
    pub remainder : node % 16 ≡ group
    pub before : AreMade mesh channels depth group places
    pub here : (x : ℕ) → x < count → x % 16 ≡ group → x < node
        → get_or places x None ≡ Some (fresh_node mesh channels depth x)

module _ (mesh channels : List ℕ) (depth group node count : ℕ) (places : List (Option Node))
    (below : AreMadeBelow mesh channels depth group node count places) where
  -- the group's next node is put into its place
  module _ (inside : node < count) where
    abbrev pub after : List (Option Node)
    after = set places node (Some (fresh_node mesh channels depth node))

    is_put : (x : ℕ) → x ≡ node → get_or after x None ≡ Some (fresh_node mesh channels depth x)
    is_put x same =
        let counted = below.counted in
        rw same (get_or-set_same places node (Some (fresh_node mesh channels depth node)) None (omega (arith, counted)))

    stays : (x : ℕ) → get_or places x None ≡ Some (fresh_node mesh channels depth x)
        → get_or after x None ≡ Some (fresh_node mesh channels depth x)
    stays x made = elim (eqb_tells x node) [
      | inl same ↦ is_put x same.1
      | inr other ↦
          get_or-set_other places node x (Some (fresh_node mesh channels depth node)) None other.1 ∙ made
    ]

    pub next : AreMadeBelow mesh channels depth group (node + 16) count after
    next = record {
      counted = length-set places node (Some (fresh_node mesh channels depth node)) ∙ below.counted;
      remainder = let remainder = below.remainder in omega (arith, remainder);
      before = λ x x_in lower.
          let long = length-set places node (Some (fresh_node mesh channels depth node)) in
          stays x (below.before x (omega (arith, x_in, long)) lower);
      here = λ x x_in same x_below. elim (eqb_tells x node) [
        | inl this ↦ is_put x this.1
        | inr other ↦
            let remainder = below.remainder in
            let apart = other.1 in
            stays x (below.here x x_in same (omega (arith, x_below, same, remainder, apart)))
      ];
    }

  -- none of the group is left
  pub done : count ≤ node → AreMade mesh channels depth (group + 1) places
  done past = λ x x_in lower. elim (eqb_tells (x % 16) group) [
    | inl this ↦
        let counted = below.counted in
        below.here x (omega (arith, x_in, counted)) this.1 (omega (arith, x_in, counted, past))
    | inr other ↦
        let apart = other.1 in
        below.before x x_in (omega (arith, lower, apart))
  ]
