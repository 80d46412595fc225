-- Each line of the text of a network that keeps the rules is judged well.
use Rattle.std.proofs.Common.{◌≡◌, lit<, ℕ, suc, zero, ◌<◌, ◌≤◌, ◌^◌, true, leb, List, [], ◌∷◌, ◌++◌, length}
use Rattle.std.proofs.Common.{get_or, replicate, refl, sym, ap, subst, ◌∙◌, append_assoc, arith, map, All}
use Rattle.std.specs.Prelude.{codes}
use Rattle.std.specs.Fmt.{decimal}
use Rattle.std.specs.List.{list_all}
use Rattle.std.proofs.lemmas.Bool.Decides.{nat_tests}
use Rattle.std.proofs.lemmas.List.{append-nil}
use Rattle.std.proofs.lemmas.Fmt.{digits_decimal}
use Rattle.worm_mesh.specs.Address.{node_count}
use Rattle.worm_text.specs.declared.format.Format.{Format}
use Rattle.worm_text.specs.declared.format.Format.TheVariants.{One, Two}
use Rattle.worm_text.specs.declared.key.Key.TheVariants.{Radix, Dims, Depth}
use Rattle.worm_text.specs.Lines.{line}
use Rattle.worm_text.specs.Numerals.{is_name, is_digit}
use Rattle.worm_text.specs.Network.{IsBetween, depth_line, IsMesh}
use Rattle.worm_text.specs.Reading.{◌>>=◌, number_at}
use Rattle.worm_text.specs.Stages.{at_radix, at_dims, at_dims_first, at_radices, at_depth, at_class, widened, copies_at}
use Rattle.worm_text.specs.Stages.{radices_at, radix_stage, dims_stage, dims_first_stage, radices_stage, depth_stage}
use Rattle.worm_text.specs.Stages.{without_classes, judge}
use Rattle.worm_text.proofs.Binds.{fine, bind_at_ok}
use Rattle.worm_text.proofs.Names.{and_true, name_bytes}
use Rattle.worm_text.proofs.Cuts.{IsPlain, ArePlain, cut-line}
use Rattle.worm_text.proofs.FieldLaws.{AreDigits, own, begins_again, number_at_again}
use Rattle.worm_text.proofs.Followed.{All-replicate}
use Rattle.worm_text.proofs.NodeCounts.{nodes_front}

-- ---- plain fields

digit-leb : (b : ℕ) → is_digit b ≡ true → leb 48 b ≡ true
digit-leb b h = grind (arith, nat_tests)

plain_from_digits : (ds : List ℕ) → AreDigits ds → IsPlain ds
plain_from_digits [] h = refl
plain_from_digits (d ∷ ds) h = let p = and_true (is_digit d) (list_all is_digit ds) h in
    rw (digit-leb d p.0, plain_from_digits ds p.1) refl

pub plain-decimal : (n : ℕ) → n < 2 ^ 64 → IsPlain (decimal n)
plain-decimal n small = plain_from_digits (decimal n) (digits_decimal own n small)

le-leb : (b : ℕ) → 48 ≤ b → leb 48 b ≡ true
le-leb b h = grind (arith, nat_tests)

plain_from_bytes : (bs : List ℕ) → ((i : ℕ) → i < length bs → 48 ≤ get_or bs i 0) → IsPlain bs
plain_from_bytes [] h = refl
plain_from_bytes (b ∷ bs) h = rw (
  le-leb b (h 0 (omega arith)),
  plain_from_bytes bs (λ i lt. h (suc i) (omega arith)),
) refl

pub plain_name : (name : List ℕ) → is_name name ≡ true → IsPlain name
plain_name name h = plain_from_bytes name (λ i lt. (name_bytes name h i lt).0)

-- ---- the lines before the classes

pub radix_again : (k : ℕ) → IsBetween 2 16 k → judge at_radix (line (codes "radix" ∷ decimal k ∷ [])) ≡ fine (at_dims k)
unfolding radix_stage
radix_again k between =
    ap radix_stage (cut-line (codes "radix") (decimal k ∷ []) (refl, (plain-decimal k (omega (arith, between)), tt)))
    ∙ rw (begins_again Radix [] (decimal k ∷ []), number_at_again 2 16 k [] (lit< tt) between) refl

widened_again : (radices : List ℕ) (k : ℕ) → node_count (radices ++ k ∷ []) ≤ 256
    → widened radices k ≡ fine (radices ++ k ∷ [])
widened_again radices k few = let t : leb (node_count (radices ++ k ∷ [])) 256 ≡ true = grind (arith, nat_tests) in
    rw t refl

All-tail : {A : Type 0} (P : A → Type 0) (x : A) (xs : List A) → All P (x ∷ xs) → All P xs
All-tail P x xs h i d lt = h (suc i) d (omega arith)

radices_again : (radices ks : List ℕ) (rest : List (List ℕ)) → All (IsBetween 2 16) ks
    → node_count (radices ++ ks) ≤ 256
    → radices_at (length ks) radices (map decimal ks ++ rest) ≡ fine (radices ++ ks, rest)
unfolding radices_at
radices_again radices [] rest each few = ap (λ (x : List ℕ). fine (x, rest)) (sym (append-nil radices))
radices_again radices (k ∷ ks) rest each few =
    let first : IsBetween 2 16 k = each 0 0 (omega arith) in
    let others = All-tail (IsBetween 2 16) k ks each in
    let shift : (radices ++ k ∷ []) ++ ks ≡ radices ++ k ∷ ks = append_assoc radices (k ∷ []) ks in
    let few2 : node_count ((radices ++ k ∷ []) ++ ks) ≤ 256
    = subst (λ (x : List ℕ). node_count x ≤ 256) (sym shift) few in
    let few1 = nodes_front (radices ++ k ∷ []) ks (λ i d lt. omega (arith, (others i d lt).0)) few2 in
    let a = bind_at_ok (number_at 2 16 (decimal k ∷ (map decimal ks ++ rest)))
    (λ k. widened radices k.0 >>= λ more. radices_at (length ks) more k.1) (
      k,
      map decimal ks ++ rest,
    ) (number_at_again 2 16 k (map decimal ks ++ rest) (lit< tt) first) in
    let b = bind_at_ok (widened radices k) (λ more. radices_at (length ks) more (map decimal ks ++ rest))
    (radices ++ k ∷ []) (widened_again radices k few1) in
    a ∙ b ∙ radices_again (radices ++ k ∷ []) ks rest others few2 ∙ ap (λ (x : List ℕ). fine (x, rest)) shift

copies_again : (n : ℕ) (radices : List ℕ) (k : ℕ) → 1 ≤ k → node_count (radices ++ replicate n k) ≤ 256
    → copies_at n radices k ≡ fine (radices ++ replicate n k)
unfolding copies_at
copies_again zero radices k one few = ap (λ (x : List ℕ). fine x) (sym (append-nil radices))
copies_again (suc n) radices k one few =
    let shift : (radices ++ k ∷ []) ++ replicate n k ≡ radices ++ replicate (suc n) k =
    append_assoc radices (k ∷ []) (replicate n k) in
    let few2 : node_count ((radices ++ k ∷ []) ++ replicate n k) ≤ 256 =
    subst (λ (x : List ℕ). node_count x ≤ 256) (sym shift) few in
    let few1 = nodes_front (radices ++ k ∷ []) (replicate n k) (All-replicate (λ x. 1 ≤ x) n k one) few2 in
    bind_at_ok (widened radices k) (λ more. copies_at n more k) (radices ++ k ∷ []) (widened_again radices k few1)
    ∙ copies_again n (radices ++ k ∷ []) k one few2 ∙ ap (λ (x : List ℕ). fine x) shift

alike_is : (xs : List ℕ) (k : ℕ) → All (λ x. x ≡ k) xs → xs ≡ replicate (length xs) k
alike_is [] k h = refl
alike_is (x ∷ xs) k h =
    let first : x ≡ k = h 0 0 (omega arith) in
    let rest = alike_is xs k (All-tail (λ x. x ≡ k) x xs h) in
    ap (λ (y : ℕ). y ∷ xs) first ∙ ap (λ (ys : List ℕ). k ∷ ys) rest

pub dims_again : (radices : List ℕ) → IsMesh One radices
    → judge (at_dims (get_or radices 0 0)) (line (codes "dims" ∷ decimal (length radices) ∷ []))
    ≡ fine (at_depth One radices)
unfolding dims_stage
dims_again radices mesh =
    let k = get_or radices 0 0 in
    let n = length radices in
    let all = alike_is radices k mesh.alike in
    let first : IsBetween 2 16 k = mesh.each 0 0 (omega (arith, mesh.dims)) in
    let few : node_count (replicate n k) ≤ 256 = subst (λ (x : List ℕ). node_count x ≤ 256) all mesh.nodes in
    let copied : copies_at n [] k ≡ fine radices =
    copies_again n [] k (omega (arith, first)) few ∙ ap (λ (x : List ℕ). fine x) (sym all) in
    ap (dims_stage k) (cut-line (codes "dims") (decimal n ∷ []) (
      refl,
      (plain-decimal n (omega (arith, mesh.dims)), tt),
    ))
    ∙ rw (begins_again Dims (Radix ∷ []) (decimal n ∷ []), number_at_again 1 3 n [] (lit< tt) mesh.dims, copied) refl

pub dims_first_again : (n : ℕ) → IsBetween 1 3 n
    → judge at_dims_first (line (codes "dims" ∷ decimal n ∷ [])) ≡ fine (at_radices n)
unfolding dims_first_stage
dims_first_again n between =
    ap dims_first_stage (cut-line (codes "dims") (decimal n ∷ []) (
      refl,
      (plain-decimal n (omega (arith, between)), tt),
    ))
    ∙ rw (begins_again Dims [] (decimal n ∷ []), number_at_again 1 3 n [] (lit< tt) between) refl

pub plain_numbers : (ks : List ℕ) → All (IsBetween 2 16) ks → ArePlain (map decimal ks)
plain_numbers [] h = tt
plain_numbers (k ∷ ks) h = let first : IsBetween 2 16 k = h 0 0 (omega arith) in
    (plain-decimal k (omega (arith, first)), plain_numbers ks (All-tail (IsBetween 2 16) k ks h))

pub radices_line_again : (radices : List ℕ) → IsMesh Two radices
    → judge (at_radices (length radices)) (line (codes "radix" ∷ map decimal radices)) ≡ fine (at_depth Two radices)
unfolding radices_stage
radices_line_again radices mesh =
    let read : radices_at (length radices) [] (map decimal radices) ≡ fine (radices, []) =
    ap (radices_at (length radices) []) (sym (append-nil (map decimal radices)))
    ∙ radices_again [] radices [] mesh.each mesh.nodes in
    ap (radices_stage (length radices)) (cut-line (codes "radix") (map decimal radices) (
      refl,
      plain_numbers radices mesh.each,
    ))
    ∙ rw (begins_again Radix (Dims ∷ []) (map decimal radices), read) refl

pub depth_again : (f : Format) (radices : List ℕ) (depth : ℕ) → IsBetween 1 16 depth
    → judge (at_depth f radices) (depth_line depth) ≡ fine (at_class f (without_classes radices depth))
unfolding depth_stage
depth_again f radices depth between =
    ap (depth_stage f radices) (cut-line (codes "depth") (decimal depth ∷ []) (
      refl,
      (plain-decimal depth (omega (arith, between)), tt),
    ))
    ∙ rw (
      begins_again Depth (Radix ∷ Dims ∷ []) (decimal depth ∷ []),
      number_at_again 1 16 depth [] (lit< tt) between,
    ) refl
