-- The numbers of links.
use Rattle.std.proofs.Common.{ℕ, zero, suc, ◌≡◌, ◌+◌, ◌*◌, ◌<◌, ◌≤◌, inl, inr, Bool, true, false, cond, Option, Some}
use Rattle.std.proofs.Common.{None, List, length, arith, refl, ap, add-one}
use Rattle.std.proofs.lemmas.Bool.{cases_lt, cases_order}
use Rattle.worm_mesh.specs.Address.{node_count, number_of, address_of, shifted, has_neighbour, neighbour_of}
use Rattle.worm_mesh.specs.Links.{count_below, sum_below, degree_of, links_before, link_count, IsLink}
use Rattle.worm_mesh.proofs.Digits.{AreLarge}
use Rattle.worm_mesh.proofs.Neighbours.{has_neighbour-from_Joins, neighbour_of-none}

-- the steps of the two counts, as a loop takes them
pub count_below_yes : (test : ℕ → Bool) (n : ℕ) → test n ≡ true → count_below test (n + 1) ≡ count_below test n + 1
count_below_yes test n e = rw (add-one, e) refl

pub count_below_no : (test : ℕ → Bool) (n : ℕ) → test n ≡ false → count_below test (n + 1) ≡ count_below test n
count_below_no test n e = rw (add-one, e) (omega arith)

pub count_below-le : (test : ℕ → Bool) (n : ℕ) → count_below test n ≤ n
count_below-le test zero = omega arith
count_below-le test (suc n) = elim (test n) as
    (λ b. count_below test n + cond b 1 0 ≤ suc n) [
      | true ↦ omega (arith, count_below-le test n)
      | false ↦ omega (arith, count_below-le test n)
    ]

pub sum_below-le : (f : ℕ → ℕ) (m n : ℕ) → ((k : ℕ) → f k ≤ m) → sum_below f n ≤ m * n
sum_below-le f m zero h = omega arith
sum_below-le f m (suc n) h = omega (arith, sum_below-le f m n h, h n)

-- the next port has a link where it has a neighbour
pub links_before-some : (ks : List ℕ) (x p y : ℕ) → neighbour_of ks x p ≡ Some y
    → links_before ks x (p + 1) ≡ links_before ks x p + 1
links_before-some ks x p y e = by_test (has_neighbour ks x p) refl
  where
    by_test : (b : Bool) → has_neighbour ks x p ≡ b → links_before ks x (p + 1) ≡ links_before ks x p + 1
    by_test true t = omega (arith, count_below_yes (has_neighbour ks x) p t)
    by_test false t =
        let none : neighbour_of ks x p ≡ None = neighbour_of-none ks x p t in
        let clash : ◌≡◌ {A = Option ℕ} None (Some y) = cc in
        cc

pub links_before-none : (ks : List ℕ) (x p : ℕ) → neighbour_of ks x p ≡ None
    → links_before ks x (p + 1) ≡ links_before ks x p
links_before-none ks x p e = by_test (has_neighbour ks x p) refl
  where
    by_test : (b : Bool) → has_neighbour ks x p ≡ b → links_before ks x (p + 1) ≡ links_before ks x p
    by_test true t =
        let some : neighbour_of ks x p ≡ Some (number_of ks (shifted p (address_of ks x))) = rw t refl in
        let clash : ◌≡◌ {A = Option ℕ} None (Some (number_of ks (shifted p (address_of ks x)))) = cc in
        cc
    by_test false t = omega (arith, count_below_no (has_neighbour ks x) p t)

-- a count that goes further is larger
pub count_below_past : (test : ℕ → Bool) (m n : ℕ) → m < n → test m ≡ true → count_below test m + 1 ≤ count_below test n
count_below_past test m zero h e = absurd (omega arith)
count_below_past test m (suc n) h e =
    elim (cases_lt m n) [
      | inl lt ↦ omega (arith, count_below_past test m n lt e)
      | inr ge ↦ let same : m ≡ n = omega arith in rw (← same, e) (omega arith)
    ]

pub sum_below_past : (f : ℕ → ℕ) (m n : ℕ) → m < n → sum_below f m + f m ≤ sum_below f n
sum_below_past f m zero h = absurd (omega arith)
sum_below_past f m (suc n) h =
    elim (cases_lt m n) [
      | inl lt ↦ omega (arith, sum_below_past f m n lt)
      | inr ge ↦ let same : m ≡ n = omega arith in rw (← same) (omega arith)
    ]

pub degree_of-le : (ks : List ℕ) (x : ℕ) → degree_of ks x ≤ 2 * length ks
degree_of-le ks x = count_below-le (has_neighbour ks x) (2 * length ks)

-- a link's number is below that of each link after it
module _ (ks : List ℕ) (l : AreLarge ks) where
  pub before_node : (x p y q : ℕ) → IsLink ks x p → x < y → links_before ks x p < links_before ks y q
  before_node x p y q h lt =
      let there = has_neighbour-from_Joins ks x p h.0 l h.1 in
      omega (
        arith,
        count_below_past (has_neighbour ks x) p (2 * length ks) h.1.mesh_port there,
        sum_below_past (degree_of ks) x y lt,
      )

  pub before_port : (x p q : ℕ) → IsLink ks x p → p < q → links_before ks x p < links_before ks x q
  before_port x p q h lt =
      let there = has_neighbour-from_Joins ks x p h.0 l h.1 in
      omega (arith, count_below_past (has_neighbour ks x) p q lt there)

  pub below_count : (x p : ℕ) → IsLink ks x p → links_before ks x p < link_count ks
  below_count x p h =
      let there = has_neighbour-from_Joins ks x p h.0 l h.1 in
      omega (
        arith,
        count_below_past (has_neighbour ks x) p (2 * length ks) h.1.mesh_port there,
        sum_below_past (degree_of ks) x (node_count ks) h.1.from_node,
      )

  pub one_link : (x p y q : ℕ) → IsLink ks x p → IsLink ks y q → links_before ks x p ≡ links_before ks y q
      → (x ≡ y) × (p ≡ q)
  one_link x p y q h k e =
      elim (cases_order x y) [
        | inl same ↦ elim (cases_order p q) [
          | inl port ↦ (same, port)
          | inr differ ↦ elim differ [
            | inl lt ↦ absurd (omega (arith, before_port x p q h lt, ap (λ v. links_before ks v q) same))
            | inr gt ↦ absurd (omega (arith, before_port y q p k gt, ap (λ v. links_before ks v p) same))
          ]
        ]
        | inr differ ↦ elim differ [
          | inl lt ↦ absurd (omega (arith, before_node x p y q h lt))
          | inr gt ↦ absurd (omega (arith, before_node y q x p k gt))
        ]
      ]
