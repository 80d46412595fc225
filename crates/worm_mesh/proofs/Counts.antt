-- The links that leave the nodes below a node, counted by digits.
use Rattle.std.proofs.Common.{ℕ, zero, suc, ◌≡◌, ◌+◌, ◌-◌, ◌*◌, ◌/◌, ◌%◌, ◌<◌, ◌≤◌, ⊎_elim, Bool, true, false, cond}
use Rattle.std.proofs.Common.{ltb, List, [], ◌∷◌, length, get_or, drop, arith, refl, ap, sym, ◌∙◌}
use Rattle.std.specs.Prelude.{All}
use Rattle.std.proofs.lemmas.List.Elements.{All-head}
use Rattle.std.proofs.Math.Nat.{div-add-mod, mod-lt, mul_comm, zero-div, zero-mod, mul_assoc}
use Rattle.std.proofs.lemmas.Nat.{div-mul-add, mod-mul-add}
use Rattle.std.proofs.lemmas.Bool.{cases_lt, lt-ltb, le-ltb}
use Rattle.worm_mesh.specs.Address.{node_count, has_room, has_neighbour, IsRadix}
use Rattle.worm_mesh.specs.Links.{count_below, sum_below, degree_of, sides_of, degree_by_digits, links_in_rows}
use Rattle.worm_mesh.specs.Links.{link_count, channels_in}
use Rattle.worm_mesh.proofs.Digits.{AreLarge, step_mod, step_div}
use Rattle.worm_mesh.proofs.Numbers.{sum_below-le}

count_below_same : (f g : ℕ → Bool) (n : ℕ) → ((p : ℕ) → p < n → f p ≡ g p) → count_below f n ≡ count_below g n
count_below_same f g zero h = refl
count_below_same f g (suc n) h = rw (count_below_same f g n (λ p lt. h p (omega arith)), h n (omega arith)) refl

count_below_two : (f : ℕ → Bool) (n : ℕ)
    → count_below f (suc (suc n)) ≡ cond (f 0) 1 0 + cond (f 1) 1 0 + count_below (λ p. f (suc (suc p))) n
count_below_two f zero = omega arith
count_below_two f (suc n) = omega (arith, count_below_two f n)

has_room_later : (k : ℕ) (ks : List ℕ) (x p : ℕ) → has_room (k ∷ ks) x (suc (suc p)) ≡ has_room ks (x / k) p
has_room_later k ks x p =
    let half : suc (suc p) / 2 ≡ suc (p / 2) = omega arith in
    let rest : suc (suc p) % 2 ≡ p % 2 = omega arith in
    rw (half, rest) refl

degree_by_ports : (ks : List ℕ) (x : ℕ) → count_below (has_room ks x) (2 * length ks) ≡ degree_by_digits ks x
degree_by_ports [] x = refl
degree_by_ports (k ∷ ks) x =
    let two : 2 * suc (length ks) ≡ suc (suc (2 * length ks)) = omega arith in
    let first : cond (has_room (k ∷ ks) x 0) 1 0 + cond (has_room (k ∷ ks) x 1) 1 0 ≡ sides_of k (x % k) = refl in
    rw two (count_below_two (has_room (k ∷ ks) x) (2 * length ks) ∙ omega (
      arith,
      first,
      count_below_same (λ p. has_room (k ∷ ks) x (suc (suc p))) (has_room ks (x / k)) (2 * length ks)
          (λ p lt. has_room_later k ks x p),
      degree_by_ports ks (x / k),
    ))

tested : (ks : List ℕ) (x p : ℕ) → x < node_count ks → p < 2 * length ks → has_neighbour ks x p ≡ has_room ks x p
tested ks x p n lt = rw (lt-ltb x (node_count ks) n, lt-ltb p (2 * length ks) lt) refl

pub degree_of_is : (ks : List ℕ) (x : ℕ) → x < node_count ks → degree_of ks x ≡ degree_by_digits ks x
degree_of_is ks x n =
    count_below_same (has_neighbour ks x) (has_room ks x) (2 * length ks) (λ p lt. tested ks x p n lt)
    ∙ degree_by_ports ks x

pub sum_below_same : (f g : ℕ → ℕ) (n : ℕ) → ((x : ℕ) → x < n → f x ≡ g x) → sum_below f n ≡ sum_below g n
sum_below_same f g zero h = refl
sum_below_same f g (suc n) h = rw (sum_below_same f g n (λ x lt. h x (omega arith)), h n (omega arith)) refl

-- the sum over the nodes below `node`, by its lowest digit
abbrev pub by_digit : ℕ → (ℕ → ℕ) → ℕ → ℕ
by_digit k f x = links_in_rows k (x / k) (x % k) (sum_below f (x / k)) (f (x / k))

-- one node on, within a run of the lowest digit and at its end
step_room : (q r k s g : ℕ) → q * (2 * (k - 1)) + k * s + (r - 1 + r) + r * g + (cond (ltb 0 r) 1 0 + 1 + g)
    ≡ q * (2 * (k - 1)) + k * s + (r + 1 - 1 + (r + 1)) + (r + 1) * g
step_room q zero k s g = omega arith
step_room q (suc r) k s g =
    let yes_above : ltb 0 (suc r) ≡ true = lt-ltb 0 (suc r) (omega arith) in
    let up : suc r + 1 - 1 ≡ suc r = omega arith in
    let down : suc r - 1 ≡ r = omega arith in
    rw (yes_above, up, down) (omega arith)

step_last : (q r s g h : ℕ) → 0 < r → q * (2 * (r + 1 - 1)) + (r + 1) * s + (r - 1 + r) + r * g + (1 + 0 + g)
    ≡ suc q * (2 * (r + 1 - 1)) + (r + 1) * (s + g) + (0 - 1 + 0) + 0 * h
step_last q r s g h p = omega arith

last_mod : (x k : ℕ) → 0 < k → x % k + 1 ≡ k → suc x % k ≡ 0
last_mod x k p e =
    let whole : suc x ≡ suc (x / k) * k + 0 = omega (arith, div-add-mod x k, mul_comm k (x / k)) in
    rw whole (mod-mul-add (suc (x / k)) k 0 p)

last_div : (x k : ℕ) → 0 < k → x % k + 1 ≡ k → suc x / k ≡ suc (x / k)
last_div x k p e =
    let whole : suc x ≡ suc (x / k) * k + 0 = omega (arith, div-add-mod x k, mul_comm k (x / k)) in
    rw whole (div-mul-add (suc (x / k)) k 0 p)

by_digit_room : (k : ℕ) (f : ℕ → ℕ) (x : ℕ) → 0 < k → x % k + 1 < k
    → by_digit k f x + (sides_of k (x % k) + f (x / k)) ≡ by_digit k f (suc x)
by_digit_room k f x p lt =
    let one : suc x ≡ x + 1 = omega arith in
    let rest : suc x % k ≡ x % k + 1 = ap (λ v. v % k) one ∙ step_mod x k p lt in
    let same : suc x / k ≡ x / k = ap (λ v. v / k) one ∙ step_div x k p lt in
    rw (rest, same, lt-ltb (x % k + 1) k lt) (step_room (x / k) (x % k) k (sum_below f (x / k)) (f (x / k)))

by_digit_last : (k : ℕ) (f : ℕ → ℕ) (x r q : ℕ) → r ≡ x % k → q ≡ x / k → 2 ≤ k → r + 1 ≡ k
    → q * (2 * (k - 1)) + k * sum_below f q + (r - 1 + r) + r * f q + (sides_of k r + f q) ≡ by_digit k f (suc x)
by_digit_last k f x r q e e' h last =
    let rest : suc x % k ≡ 0 = last_mod x k (omega arith) (omega arith) in
    let next : suc x / k ≡ suc q = last_div x k (omega arith) (omega arith) ∙ ap suc (sym e') in
    let some : 0 < r = omega arith in
    rw (
      rest,
      next,
      ← last,
      lt-ltb 0 r some,
      le-ltb (r + 1) (r + 1) (omega arith),
    ) (step_last q r (sum_below f q) (f q) (f (suc q)) some)

pub sum_by_digit : (k : ℕ) (ks : List ℕ) (x : ℕ) → 2 ≤ k
    → sum_below (degree_by_digits (k ∷ ks)) x ≡ by_digit k (degree_by_digits ks) x
sum_by_digit k ks zero h = rw (zero-div k, zero-mod k) (omega arith)
sum_by_digit k ks (suc x) h =
    let before = sum_by_digit k ks x h in
    let p : 0 < k = omega arith in
    let small : x % k < k = mod-lt x p in
    ⊎_elim
    (λ lt. ap (λ v. v + (sides_of k (x % k) + degree_by_digits ks (x / k))) before
    ∙ by_digit_room k (degree_by_digits ks) x p lt)
    (λ ge. ap (λ v. v + (sides_of k (x % k) + degree_by_digits ks (x / k))) before
    ∙ by_digit_last k (degree_by_digits ks) x (x % k) (x / k) refl refl h (omega (arith, ge)))
    (cases_lt (x % k + 1) k)

one_at_most : (b : Bool) → cond b 1 0 ≤ 1
one_at_most true = omega arith
one_at_most false = omega arith

pub degree_by_digits-le : (ks : List ℕ) (x : ℕ) → degree_by_digits ks x ≤ 2 * length ks
degree_by_digits-le [] x = omega arith
degree_by_digits-le (k ∷ ks) x =
    omega (arith, degree_by_digits-le ks (x / k), one_at_most (ltb 0 (x % k)), one_at_most (ltb (x % k + 1) k))

pub sum_by_digits-le : (ks : List ℕ) (x : ℕ) → length ks ≤ 3 → sum_below (degree_by_digits ks) x ≤ 6 * x
sum_by_digits-le ks x few =
    sum_below-le (degree_by_digits ks) 6 x (λ y. omega (arith, degree_by_digits-le ks y))

pub sum_by_degrees : (ks : List ℕ) (x : ℕ) → x ≤ node_count ks
    → sum_below (degree_of ks) x ≡ sum_below (degree_by_digits ks) x
sum_by_degrees ks x h = sum_below_same (degree_of ks) (degree_by_digits ks) x (λ y lt. degree_of_is ks y (omega arith))

-- what the code adds up from the row of a node is the sum over the nodes below it, and small
pub record RowSum (xs : List ℕ) (x k below here : ℕ) : Type 0 where
  pub total : links_in_rows k (x / k) (x % k) below here ≡ sum_below (degree_by_digits xs) x
  pub small : links_in_rows k (x / k) (x % k) below here ≤ 6 * x
  pub few_here : here ≤ 6

row_sum-cons : (k : ℕ) (ks : List ℕ) (x below here : ℕ) → 2 ≤ k → suc (length ks) ≤ 3
    → below ≡ sum_below (degree_by_digits ks) (x / k) → here ≡ degree_by_digits ks (x / k)
    → RowSum (k ∷ ks) x k below here
row_sum-cons k ks x below here large few e e' =
    let sum : links_in_rows k (x / k) (x % k) below here ≡ sum_below (degree_by_digits (k ∷ ks)) x =
    rw (e, e') (sym (sum_by_digit k ks x large)) in
    record {
      total = sum;
      small = rw sum (sum_by_digits-le (k ∷ ks) x few);
      few_here = omega (arith, degree_by_digits-le ks (x / k));
    }

pub row_sum : (xs : List ℕ) (x k below here : ℕ) → 0 < length xs → length xs ≤ 3 → All IsRadix xs → k ≡ get_or xs 0 0
    → below ≡ sum_below (degree_by_digits (drop 1 xs)) (x / k) → here ≡ degree_by_digits (drop 1 xs) (x / k)
    → RowSum xs x k below here
row_sum [] x k below here some few radices e = absurd (omega arith)
row_sum (r ∷ xs) x k below here some few radices e =
    rw e (λ a b. row_sum-cons r xs x below here (All-head IsRadix r xs radices).0 few a b)

pub none_below : (xs : List ℕ) (x : ℕ) → length xs ≡ 0 → sum_below (degree_by_digits xs) x ≡ 0
none_below [] zero e = refl
none_below [] (suc x) e = omega (arith, none_below [] x refl)
none_below (k ∷ xs) x e = absurd (omega arith)

-- the count is the book's number of channels
channels_in_part : (m k n : ℕ) → 0 < k → 2 * (k - 1) * (m * (k * n)) / k ≡ 2 * (k - 1) * (m * n)
channels_in_part m k n p =
    let turned : 2 * (k - 1) * (m * (k * n)) ≡ 2 * (k - 1) * (m * n) * k + 0 = grind arith in
    rw turned (div-mul-add (2 * (k - 1) * (m * n)) k 0 p)

channels_in_is : (m : ℕ) (ks : List ℕ) → AreLarge ks
    → channels_in (m * node_count ks) ks ≡ m * sum_below (degree_by_digits ks) (node_count ks)
channels_in_is m [] l = omega arith
channels_in_is m (k ∷ ks) l =
    let p : 0 < k = omega arith in
    let n = node_count ks in
    let back : k * node_count ks ≡ node_count ks * k + 0 = omega (arith, mul_comm k (node_count ks)) in
    let quotient : k * node_count ks / k ≡ node_count ks = rw back (div-mul-add n k 0 p) in
    let rest : k * node_count ks % k ≡ 0 = rw back (mod-mul-add n k 0 p) in
    let sum : sum_below (degree_by_digits (k ∷ ks)) (k * node_count ks)
    ≡ n * (2 * (k - 1)) + k * sum_below (degree_by_digits ks) n + (0 - 1 + 0) + 0 * degree_by_digits ks n =
    sum_by_digit k ks (k * node_count ks) l.0 ∙ rw (quotient, rest) refl in
    let shifted : m * (k * node_count ks) ≡ m * k * node_count ks = sym (mul_assoc m k (node_count ks)) in
    let later : channels_in (m * (k * node_count ks)) ks ≡ m * k * sum_below (degree_by_digits ks) n =
    ap (λ v. channels_in v ks) shifted ∙ channels_in_is (m * k) ks l.1 in
    rw (channels_in_part m k n p, later, sum)
    (part (k - 1) m k n (sum_below (degree_by_digits ks) n) (degree_by_digits ks n))
  where
    part : (j m k n s g : ℕ) → 2 * j * (m * n) + m * k * s ≡ m * (n * (2 * j) + k * s + (0 - 1 + 0) + 0 * g)
    part j m k n s g = omega arith

pub link_count_is : (ks : List ℕ) → AreLarge ks → link_count ks ≡ channels_in (node_count ks) ks
link_count_is ks l =
    let one : 1 * node_count ks ≡ node_count ks = omega arith in
    sum_by_degrees ks (node_count ks) (omega arith)
    ∙ (omega arith ∙ (sym (channels_in_is 1 ks l) ∙ ap (λ v. channels_in v ks) one))
