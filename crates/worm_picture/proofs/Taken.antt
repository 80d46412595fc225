-- A list taken apart by a number that each element has: the parts, one behind the other, have the list's elements, each
-- as often.
use Rattle.std.proofs.Common.{◌≡◌, ◌≤◌, ◌<◌, ◌+◌, ℕ, zero, suc, List, [], ◌∷◌, ◌++◌, Bool, true, false, not, ◌&&◌, ◌==◌}
use Rattle.std.proofs.Common.{cond, All, IsPermutation, filter, flat_map, refl, sym, subst, ◌∙◌}
use Rattle.std.proofs.Common.{arith}
use Rattle.std.specs.List.{range_with_len}
use Rattle.std.proofs.lemmas.Bool.Decides.{nat_tests}
use Rattle.std.proofs.lemmas.List.Elements.{All-head, All-tail, All-filter, filter_passes}
use Rattle.std.proofs.lemmas.List.Sorted.{IsPermutation-refl, IsPermutation-trans, IsPermutation-append}
use Rattle.std.proofs.lemmas.List.Sorted.{IsPermutation-append_right, IsPermutation-filter_both}

module _ {X : Type 0} where
  -- a filter of what another keeps
  keeps_both : (c b : Bool) (x : X) (us vs : List X) (p : X → Bool) → p x ≡ b → filter p us ≡ vs
      → filter p (cond c (x ∷ us) us) ≡ cond (c && b) (x ∷ vs) vs
  keeps_both true b x us vs p e h = rw (e, h) refl
  keeps_both false b x us vs p e h = h

  pub filter_twice : (p q : X → Bool) (xs : List X) → filter p (filter q xs) ≡ filter (λ x. q x && p x) xs
  filter_twice p q [] = refl
  filter_twice p q (x ∷ xs) = keeps_both (q x) (p x) x (filter q xs) (filter (λ y. q y && p y) xs) p refl
      (filter_twice p q xs)

  -- two tests that agree at the elements of a list
  pub filter_same : (p q : X → Bool) (xs : List X) → All (λ x. p x ≡ q x) xs → filter p xs ≡ filter q xs
  filter_same p q [] h = refl
  filter_same p q (x ∷ xs) h = rw (
    All-head (λ y. p y ≡ q y) x xs h,
    filter_same p q xs (All-tail (λ y. p y ≡ q y) x xs h),
  ) refl

  pub same_pieces : (n a : ℕ) (f g : ℕ → List X) → ((i : ℕ) → a ≤ i → f i ≡ g i)
      → flat_map f (range_with_len a n) ≡ flat_map g (range_with_len a n)
  same_pieces zero a f g h = refl
  same_pieces (suc n) a f g h = rw (h a (omega arith), same_pieces n (a + 1) f g (λ i le. h i (omega arith))) refl

  pub shuffled_pieces : {A : Type 0} (f g : A → List X) → ((a : A) → IsPermutation (f a) (g a)) → (places : List A)
      → IsPermutation (flat_map f places) (flat_map g places)
  shuffled_pieces f g h [] = IsPermutation-refl []
  shuffled_pieces f g h (a ∷ places) = IsPermutation-append (f a) (g a) (flat_map f places) (flat_map g places) (h a)
      (shuffled_pieces f g h places)

  module _ (key : X → ℕ) where
    abbrev at : ℕ → List X → List X
    at i xs = filter (λ x. key x == i) xs

    abbrev past : ℕ → List X → List X
    past a xs = filter (λ x. not (key x == a)) xs

    abbrev Within : ℕ → ℕ → X → Type 0
    Within a n x = (a ≤ key x) × (key x < a + n)

    both_tests : (k i a : ℕ) → a + 1 ≤ i → (not (k == a) && (k == i)) ≡ (k == i)
    both_tests k i a le = grind (arith, nat_tests)

    above : (k a n : ℕ) → a ≤ k → k < a + suc n → not (k == a) ≡ true → (a + 1 ≤ k) × (k < a + 1 + n)
    above k a n le lt e = let ne : (k == a) ≡ false = grind (arith, nat_tests) in grind (arith, nat_tests)

    none_left : (a : ℕ) (xs : List X) → All (Within a 0) xs → xs ≡ []
    none_left a [] h = refl
    none_left a (x ∷ xs) h = let w = All-head (Within a 0) x xs h in let no : ⊥ = omega (arith, w.0, w.1) in absurd no

    pub taken_apart : (n a : ℕ) (xs : List X) → All (Within a n) xs
        → IsPermutation xs (flat_map (λ i. at i xs) (range_with_len a n))
    taken_apart zero a xs h = subst (λ l. IsPermutation l []) (sym (none_left a xs h)) (IsPermutation-refl [])
    taken_apart (suc n) a xs h =
        let rest : All (Within (a + 1) n) (past a xs) =
        (λ k d lt. let w = All-filter (λ x. not (key x == a)) (Within a (suc n)) xs h k d lt in
        above _ a n w.0 w.1 (filter_passes (λ x. not (key x == a)) xs k d lt)) in
        let same : flat_map (λ i. at i (past a xs)) (range_with_len (a + 1) n)
        ≡ flat_map (λ i. at i xs) (range_with_len (a + 1) n) =
        same_pieces n (a + 1) (λ i. at i (past a xs)) (λ i. at i xs)
        (λ i le. filter_twice (λ x. key x == i) (λ x. not (key x == a)) xs
        ∙ filter_same (λ x. not (key x == a) && (key x == i)) (λ x. key x == i) xs
        (λ k d lt. both_tests _ i a le)) in
        IsPermutation-trans xs (at a xs ++ past a xs) _
        (IsPermutation-filter_both (λ x. key x == a) (λ x. not (key x == a)) (λ x. refl) xs)
        (IsPermutation-append_right (at a xs) (past a xs) _
        (subst (λ l. IsPermutation (past a xs) l) same (taken_apart n (a + 1) (past a xs) rest)))
