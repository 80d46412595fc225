-- The ends of one link more.
use Rattle.std.proofs.Common.{◌≡◌, ℕ, ◌+◌, ◌<◌, List, [], ◌∷◌, ◌++◌, length, length-append, arith, ap, ◌∙◌}
use Rattle.worm_mesh.specs.Ends.{AreEndsOf}
use Rattle.worm_mesh.specs.declared.mesh.LinkEnds.{LinkEnds}
use Rattle.worm_split.specs.Exchange.{way_at}
use Rattle.worm_split.proofs.MadeSoFar.{each_push}

pub ways_count : (ways after : List LinkEnds) (ends : LinkEnds) (n : ℕ) → after ≡ ways ++ ends ∷ [] →
    length ways ≡ n → length after ≡ n + 1
ways_count ways after ends n is count =
    let long = ap (λ (l : List LinkEnds). length l) is ∙ length-append ways (ends ∷ []) in
    omega arith

pub ways_each : (mesh : List ℕ) (ways after : List LinkEnds) (ends : LinkEnds) (n : ℕ) → after ≡ ways ++ ends ∷ [] →
    length ways ≡ n → ((k : ℕ) → k < n → AreEndsOf mesh k (way_at ways k)) → AreEndsOf mesh n ends →
    (k : ℕ) → k < n + 1 → AreEndsOf mesh k (way_at after k)
ways_each mesh ways after ends n is count each last =
    each_push (AreEndsOf mesh) (record { from = 0; out_port = 0; to = 0; in_port = 0 }) ways after ends n count is each
    last
