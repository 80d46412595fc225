-- One piece more of a list that is put together piece by piece.
use Rattle.std.proofs.Common.{◌≡◌, ◌<◌, ◌+◌, ℕ, List, [], ◌∷◌, ◌++◌, take, length, get_or, flat_map, map-id, sym, ap}
use Rattle.std.proofs.Common.{◌∙◌, append_assoc, arith}
use Rattle.std.specs.List.{range_with_len}
use Rattle.std.proofs.lemmas.List.{flat_map_more, take_more}
use Rattle.std.proofs.lemmas.List.FromFn.{map-range_with_len_more}

pub range_more : (n : ℕ) → range_with_len 0 (n + 1) ≡ range_with_len 0 n ++ n ∷ []
range_more n =
    let sum : 0 + n ≡ n = omega arith in
    sym (map-id (range_with_len 0 (n + 1))) ∙ map-range_with_len_more (λ (k : ℕ). k) 0 n n sum
    ∙ ap (λ l. l ++ n ∷ []) (map-id (range_with_len 0 n))

-- the pieces of the elements of a list, behind what was there
pub one_piece_more : {X A : Type 0} (f : X → List A) (base : List A) (i : ℕ) (d x : X) (xs : List X) (old new : List A)
    → i < length xs → x ≡ get_or xs i d → old ≡ base ++ flat_map f (take i xs) → new ≡ old ++ f x
    → new ≡ base ++ flat_map f (take (i + 1) xs)
one_piece_more f base i d x xs old new lt is before added =
    added ∙ ap (λ l. l ++ f x) before ∙ flat_map_more f base (take i xs) x
    ∙ ap (λ y. base ++ flat_map f (take i xs ++ y ∷ [])) is
    ∙ ap (λ l. base ++ flat_map f l) (sym (take_more xs i d lt))

-- the pieces of the numbers below one
pub one_number_more : {A : Type 0} (f : ℕ → List A) (base : List A) (n : ℕ) (old new : List A)
    → old ≡ base ++ flat_map f (range_with_len 0 n) → new ≡ old ++ f n
    → new ≡ base ++ flat_map f (range_with_len 0 (n + 1))
one_number_more f base n old new before added =
    added ∙ ap (λ l. l ++ f n) before ∙ flat_map_more f base (range_with_len 0 n) n
    ∙ ap (λ l. base ++ flat_map f l) (sym (range_more n))

-- pieces one after another, behind what was there
pub two_pieces : {A : Type 0} (old a b mid new : List A) → mid ≡ old ++ a → new ≡ mid ++ b → new ≡ old ++ (a ++ b)
two_pieces old a b mid new one two = two ∙ ap (λ l. l ++ b) one ∙ append_assoc old a b

pub three_pieces : {A : Type 0} (old a b c mid more new : List A) → mid ≡ old ++ a → more ≡ mid ++ b → new ≡ more ++ c
    → new ≡ old ++ (a ++ (b ++ c))
three_pieces old a b c mid more new one two three =
    two_pieces old a (b ++ c) mid new one (two_pieces mid b c more new two three)
