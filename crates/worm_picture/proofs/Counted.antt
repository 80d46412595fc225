-- Counts, one element more.
use Rattle.std.proofs.Common.{◌≡◌, ◌<◌, ◌+◌, ℕ, List, length, take, get_or, min, max, sym, ap, ◌∙◌, arith}
use Rattle.std.specs.List.{sum_by}
use Rattle.std.proofs.lemmas.List.Sums.{fold_more, sum_by_more}
use Rattle.worm_picture.specs.declared.views.NodeView.{NodeView}
use Rattle.worm_picture.specs.Nodes.{most_by}

-- a sum that goes no further than some number
pub sum_more : {X : Type 0} (f : X → ℕ) (xs : List X) (i : ℕ) (x : X) (most old new : ℕ) → i < length xs
    → x ≡ get_or xs i x → old ≡ min (sum_by f (take i xs)) most → new ≡ min (old + f x) most
    → new ≡ min (sum_by f (take (i + 1) xs)) most
sum_more f xs i x most old new below is before now =
    let more = sum_by_more f xs i x below in
    let same : f x ≡ f (get_or xs i x) = ap f is in
    omega (arith, more, same, before, now)

-- the most so far
pub most_more : (count : NodeView → ℕ) (views : List NodeView) (i : ℕ) (v : NodeView) (old new : ℕ)
    → i < length views → v ≡ get_or views i v → old ≡ most_by count (take i views) → new ≡ max old (count v)
    → new ≡ most_by count (take (i + 1) views)
most_more count views i v old new below is before now =
    now ∙ (λ j. max (before j) (count (is j)))
    ∙ sym (fold_more (λ (most : ℕ) (v : NodeView). max most (count v)) 0 views i v below)
