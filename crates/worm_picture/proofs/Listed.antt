-- The fullest buffers, listed as far as there is room.
use Rattle.std.proofs.Common.{◌≡◌, ◌+◌, ◌-◌, ◌<◌, ℕ, zero, suc, List, [], ◌∷◌, ◌++◌, length, take, flat_map, get_or}
use Rattle.std.proofs.Common.{refl, sym, ap, subst, ◌∙◌, arith, length-append}
use Rattle.std.specs.List.{range_with_len}
use Rattle.std.proofs.Math.Seq.{take-nil}
use Rattle.std.proofs.lemmas.List.{append-nil}
use Rattle.std.proofs.lemmas.List.Concat.{flat_map-append}
use Rattle.worm_picture.specs.declared.views.Station.{Station}
use Rattle.worm_picture.specs.Map.{ListsBuffers, buffer_line}
use Rattle.worm_picture.proofs.Pieces.{one_number_more, one_piece_more, two_pieces}

take_both : {A : Type 0} (n : ℕ) (xs ys : List A) → take n (xs ++ ys) ≡ take n xs ++ take (n - length xs) ys
take_both n [] ys = let left : n - 0 ≡ n = omega arith in rw (take-nil n, left) refl
take_both zero (x ∷ xs) ys = let none : 0 - length (x ∷ xs) ≡ 0 = omega arith in rw none refl
take_both (suc n) (x ∷ xs) ys =
    let left : suc n - length (x ∷ xs) ≡ n - length xs = omega arith in
    rw left (ap (λ l. x ∷ l) (take_both n xs ys))

module _ (mesh : List ℕ) where
  pub lists_none : (room : ℕ) (text : List ℕ) → ListsBuffers mesh room [] text text room
  lists_none room text = record {
    text = rw (take-nil {A = Station} room) (sym (append-nil text));
    left_is = omega arith;
  }

  pub lists_both : (room mid left : ℕ) (xs ys : List Station) (old text new : List ℕ)
      → ListsBuffers mesh room xs old text mid → ListsBuffers mesh mid ys text new left
      → ListsBuffers mesh room (xs ++ ys) old new left
  lists_both room mid left xs ys old text new a b = record {
    text = two_pieces old _ _ text new a.text b.text
        ∙ ap (λ l. old ++ l) (sym (flat_map-append (buffer_line mesh) (take room xs) (take mid ys))
        ∙ ap (λ n. flat_map (buffer_line mesh) (take room xs ++ take n ys)) a.left_is
        ∙ ap (flat_map (buffer_line mesh)) (sym (take_both room xs ys)));
    left_is = let long = length-append xs ys in omega (arith, a.left_is, b.left_is, long);
  }

  -- those of one element more of a list
  pub lists_one_more : {X : Type 0} (f : X → List Station) (room mid left i : ℕ) (d x : X) (xs : List X)
      (old text new : List ℕ) → i < length xs → x ≡ get_or xs i d
      → ListsBuffers mesh room (flat_map f (take i xs)) old text mid → ListsBuffers mesh mid (f x) text new left
      → ListsBuffers mesh room (flat_map f (take (i + 1) xs)) old new left
  lists_one_more f room mid left i d x xs old text new lt is a b =
      subst (λ l. ListsBuffers mesh room l old new left)
      (one_piece_more f [] i d x xs _ _ lt is refl refl)
      (lists_both room mid left (flat_map f (take i xs)) (f x) old text new a b)

  -- those of one number more
  pub lists_one_number_more : (f : ℕ → List Station) (room mid left n : ℕ) (old text new : List ℕ)
      → ListsBuffers mesh room (flat_map f (range_with_len 0 n)) old text mid
      → ListsBuffers mesh mid (f n) text new left
      → ListsBuffers mesh room (flat_map f (range_with_len 0 (n + 1))) old new left
  lists_one_number_more f room mid left n old text new a b =
      subst (λ l. ListsBuffers mesh room l old new left) (one_number_more f [] n _ _ refl refl)
      (lists_both room mid left (flat_map f (range_with_len 0 n)) (f n) old text new a b)
