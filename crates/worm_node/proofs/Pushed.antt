-- A node more of a new network.
use Rattle.std.proofs.Common.{◌≡◌, ℕ, zero, suc, List, [], ◌∷◌, ◌++◌, length, get_or, refl}
use Rattle.worm_node.specs.NewNodes.{AreFresh, fresh_node}
use Rattle.worm_node.specs.declared.node.Node.{Node}

-- a list whose items are given by their places, and one item more
pushed : {A : Type 0} (f : ℕ → A) (xs : List A) → ((i : ℕ) → get_or xs i (f i) ≡ f i) → (i : ℕ) →
    get_or (xs ++ f (length xs) ∷ []) i (f i) ≡ f i
pushed {A} f [] all zero = refl
pushed {A} f [] all (suc i) = refl
pushed {A} f (x ∷ xs) all zero = all zero
pushed {A} f (x ∷ xs) all (suc i) = pushed (λ (j : ℕ). f (suc j)) xs (λ j. all (suc j)) i

pub fresh_push : (mesh channels : List ℕ) (depth : ℕ) (nodes : List Node) → AreFresh mesh channels depth nodes →
    AreFresh mesh channels depth (nodes ++ fresh_node mesh channels depth (length nodes) ∷ [])
fresh_push mesh channels depth nodes all = pushed (fresh_node mesh channels depth) nodes all
