-- Lemmas on a list whose first elements are given by a function.
use Rattle.std.proofs.Common.{◌≡◌, ℕ, ◌+◌, ◌-◌, ◌<◌, ◌≤◌, List, [], ◌∷◌, ◌++◌, refl, sym, ap, ◌∙◌, arith, map, length}
use Rattle.std.proofs.Common.{slice_index_or, slice_set, drop, append_assoc, length-append, length-drop, inl, inr}
use Rattle.std.specs.List.{range_with_len}
use Rattle.std.proofs.lemmas.List.{drop_more, set_at, get_or_append_left, get_or-append_right, get_or-drop, ext_get_or}
use Rattle.std.proofs.lemmas.List.FromFn.{length-map-range_with_len, map-range_with_len_more, get_or-map-range_with_len}
use Rattle.std.proofs.lemmas.Bool.{cases_lt}
use Rattle.worm_swalloc.specs.Front.{with_front}

pub with_front_zero : {X : Type 0} (f : ℕ → X) (xs : List X) → with_front 0 f xs ≡ xs
unfolding with_front
with_front_zero f xs = refl

pub slice_set-with_front : {X : Type 0} (n : ℕ) (f : ℕ → X) (xs : List X) (d : X) → n < length xs
    → slice_set (with_front n f xs) n (f n) ≡ with_front (n + 1) f xs
unfolding with_front
slice_set-with_front n f xs d l =
    ap (λ r. slice_set (map f (range_with_len 0 n) ++ r) n (f n)) (drop_more xs n d l)
    ∙ set_at (map f (range_with_len 0 n)) (slice_index_or xs n d) (drop (n + 1) xs) (f n) n
    (length-map-range_with_len f 0 n)
    ∙ sym (append_assoc (map f (range_with_len 0 n)) (f n ∷ []) (drop (n + 1) xs))
    ∙ ap (λ r. r ++ drop (n + 1) xs) (sym (map-range_with_len_more f 0 n n (omega arith)))

pub with_front_more : {X : Type 0} (n : ℕ) (f : ℕ → X) (xs : List X) (d : X) → n < length xs
    → slice_index_or xs n d ≡ f n → with_front n f xs ≡ with_front (n + 1) f xs
unfolding with_front
with_front_more n f xs d l e =
    ap (λ r. map f (range_with_len 0 n) ++ r) (drop_more xs n d l ∙ ap (λ x. x ∷ drop (n + 1) xs) e)
    ∙ sym (append_assoc (map f (range_with_len 0 n)) (f n ∷ []) (drop (n + 1) xs))
    ∙ ap (λ r. r ++ drop (n + 1) xs) (sym (map-range_with_len_more f 0 n n (omega arith)))

pub length-with_front : {X : Type 0} (n : ℕ) (f : ℕ → X) (xs : List X) → n ≤ length xs
    → length (with_front n f xs) ≡ length xs
unfolding with_front
length-with_front n f xs l =
    let a = length-append (map f (range_with_len 0 n)) (drop n xs) in
    let b = length-map-range_with_len f 0 n in
    let c = length-drop n xs in
    omega arith

pub slice_index_or-with_front_below : {X : Type 0} (n i : ℕ) (f : ℕ → X) (xs : List X) (d : X) → i < n
    → slice_index_or (with_front n f xs) i d ≡ f i
unfolding with_front
slice_index_or-with_front_below n i f xs d l =
    let long = length-map-range_with_len f 0 n in
    get_or_append_left (map f (range_with_len 0 n)) (drop n xs) d i (omega arith)
    ∙ get_or-map-range_with_len f 0 n i i d l (omega arith)

pub slice_index_or-with_front_past : {X : Type 0} (n i : ℕ) (f : ℕ → X) (xs : List X) (d : X) → n ≤ i
    → slice_index_or (with_front n f xs) i d ≡ slice_index_or xs i d
unfolding with_front
slice_index_or-with_front_past n i f xs d l =
    get_or-append_right (map f (range_with_len 0 n)) (drop n xs) n i d (length-map-range_with_len f 0 n) l
    ∙ get_or-drop n xs (i - n) d
    ∙ ap (λ k. slice_index_or xs k d) (omega arith)

-- functions that agree below n give the same list
pub with_front_same : {X : Type 0} (n : ℕ) (f g : ℕ → X) (xs : List X) (d : X) → n ≤ length xs
    → ((i : ℕ) → i < n → f i ≡ g i) → with_front n f xs ≡ with_front n g xs
with_front_same n f g xs d l h =
    ext_get_or d (with_front n f xs) (with_front n g xs) (length-with_front n f xs l ∙ sym (length-with_front n g xs l))
    (λ i _. elim (cases_lt i n) [
      | inl below ↦ slice_index_or-with_front_below n i f xs d below ∙ h i below
          ∙ sym (slice_index_or-with_front_below n i g xs d below)
      | inr past ↦ slice_index_or-with_front_past n i f xs d past ∙ sym (slice_index_or-with_front_past n i g xs d past)
    ])

-- a function that gives what stands there leaves the list as it is
pub with_front_kept : {X : Type 0} (n : ℕ) (f : ℕ → X) (xs : List X) (d : X) → n ≤ length xs
    → ((i : ℕ) → i < n → f i ≡ slice_index_or xs i d) → with_front n f xs ≡ xs
with_front_kept n f xs d l h =
    ext_get_or d (with_front n f xs) xs (length-with_front n f xs l)
    (λ i _. elim (cases_lt i n) [
      | inl below ↦ slice_index_or-with_front_below n i f xs d below ∙ h i below
      | inr past ↦ slice_index_or-with_front_past n i f xs d past
    ])

-- what is added as it stood makes no difference
pub with_front_skip : {X : Type 0} (n m : ℕ) (f : ℕ → X) (xs : List X) (d : X) → n ≤ m → m ≤ length xs
    → ((i : ℕ) → n ≤ i → i < m → f i ≡ slice_index_or xs i d) → with_front n f xs ≡ with_front m f xs
with_front_skip n m f xs d from l h =
    ext_get_or d (with_front n f xs) (with_front m f xs)
    (length-with_front n f xs (omega arith) ∙ sym (length-with_front m f xs l))
    (λ i _. elim (cases_lt i n) [
      | inl below ↦ slice_index_or-with_front_below n i f xs d below
          ∙ sym (slice_index_or-with_front_below m i f xs d (omega arith))
      | inr past ↦
          slice_index_or-with_front_past n i f xs d past
          ∙ elim (cases_lt i m) [
            | inl within ↦ sym (h i past within) ∙ sym (slice_index_or-with_front_below m i f xs d within)
            | inr past' ↦ sym (slice_index_or-with_front_past m i f xs d past')
          ]
    ])
