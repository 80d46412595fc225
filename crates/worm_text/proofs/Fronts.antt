-- Lists of lines of which one begins as another.
use Rattle.std.proofs.Common.{◌≡◌, ℕ, ◌<◌, List, [], ◌∷◌, ◌++◌, length, refl, sym, ap, ◌∙◌, arith}
use Rattle.std.proofs.lemmas.List.{length-append}
use Rattle.worm_text.specs.Reader.{AreLines}

pub AreLines-front : (xs ys : List (List ℕ)) → AreLines (xs ++ ys) → AreLines xs
AreLines-front [] ys h = tt
AreLines-front (x ∷ xs) ys h = (h.0, AreLines-front xs ys h.1)

-- a longer front of one list
pub record Longer (xs ls : List (List ℕ)) (p : List ℕ) (ps ys : List (List ℕ)) : Type 0 where
  pub others : List (List ℕ)
  pub front : xs ≡ ls ++ p ∷ others
  pub back : others ++ ys ≡ ps

pub longer : (xs ys ls : List (List ℕ)) (p : List ℕ) (ps : List (List ℕ)) → xs ++ ys ≡ ls ++ p ∷ ps
    → length ls < length xs → Longer xs ls p ps ys
longer [] ys ls p ps e lt = absurd (omega arith)
longer (x ∷ xs) ys [] p ps e lt =
    let head : x ≡ p = cc in
    record { others = xs; front = ap (λ (y : List ℕ). y ∷ xs) head; back = cc }
longer (x ∷ xs) ys (l ∷ ls) p ps e lt =
    let head : x ≡ l = cc in
    let tail : xs ++ ys ≡ ls ++ p ∷ ps = cc in
    let r = longer xs ys ls p ps tail (omega arith) in
    record {
      others = r.others;
      front = ap (λ (y : List ℕ). y ∷ xs) head ∙ ap (λ (y : List (List ℕ)). l ∷ y) r.front;
      back = r.back;
    }

-- a front that leaves something is a front of all but the last
pub fronts : (xs ys zs : List (List ℕ)) (z : List ℕ) → 0 < length ys → xs ++ ys ≡ zs ++ z ∷ []
    → (ms : List (List ℕ)) × (zs ≡ xs ++ ms)
fronts [] ys zs z lt e = (zs, refl)
fronts (x ∷ xs) ys [] z lt e = absurd (let tail : xs ++ ys ≡ [] = cc in
    omega (arith, length-append xs ys, ap length tail))
fronts (x ∷ xs) ys (w ∷ zs) z lt e =
    let head : x ≡ w = cc in
    let tail : xs ++ ys ≡ zs ++ z ∷ [] = cc in
    let r = fronts xs ys zs z lt tail in
    (r.0, ap (λ (y : List ℕ). y ∷ zs) (sym head) ∙ ap (λ (y : List (List ℕ)). x ∷ y) r.1)
