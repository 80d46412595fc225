-- Neighbours by their addresses.
use Rattle.std.proofs.Common.{ℕ, ◌≡◌, ◌≢◌, ◌+◌, ◌-◌, ◌*◌, ◌/◌, ◌%◌, ◌<◌, ◌≤◌, ◌⊎◌, ⊎_elim, inl, inr, Bool, true, false}
use Rattle.std.proofs.Common.{ltb, ◌&&◌, Option, Some, None, List, length, get_or, set, arith, refl, ap, sym, ◌∙◌}
use Rattle.std.proofs.Common.{subst, length-set, get_or-set_same, get_or-set_other}
use Rattle.std.proofs.Math.Nat.{div-add-mod}
use Rattle.std.proofs.lemmas.Bool.{lt-ltb, le-ltb, and_from, and_parts, ltb-true, and_left, and_right, true≢false}
use Rattle.std.proofs.lemmas.Bool.{cases_eq}
use Rattle.std.proofs.lemmas.List.{ext_get_or}
use Rattle.worm_mesh.specs.Address.{node_count, stride_of, number_of, address_of, digit_of, IsAddress, Shifts, Joins}
use Rattle.worm_mesh.specs.Address.{AreNeighbours, has_room, has_neighbour, neighbour_of, opposite_of}
use Rattle.worm_mesh.specs.Links.{IsLink}
use Rattle.worm_mesh.proofs.Digits.{AreLarge, length-address_of, digit_of_lt, address_up, address_down, number_up}
use Rattle.worm_mesh.proofs.Digits.{stride_le, number_of-address_of, address_of-number_of, same_node}

pub IsAddress-address_of : (ks : List ℕ) (x : ℕ) → AreLarge ks → x < node_count ks → IsAddress ks x (address_of ks x)
IsAddress-address_of ks x l n = record {
  one_each = length-address_of ks x;
  in_radix = λ d h. digit_of_lt ks x d l h;
  numbered = number_of-address_of ks x l n;
}

-- digits that agree at each place make one node
pub same_from_digits : (ks : List ℕ) (x y : ℕ) → AreLarge ks → x < node_count ks → y < node_count ks
    → ((d : ℕ) → digit_of ks x d ≡ digit_of ks y d) → x ≡ y
same_from_digits ks x y l p q e =
    same_node ks x y l p q (ext_get_or 0 (address_of ks x) (address_of ks y)
    (length-address_of ks x ∙ sym (length-address_of ks y)) (λ d h. e d))

-- the digit at `port`'s dimension, and the others
digit_at : (ks : List ℕ) (x y d v : ℕ) → d < length ks → address_of ks y ≡ set (address_of ks x) d v
    → digit_of ks y d ≡ v
digit_at ks x y d v h e = rw e (get_or-set_same (address_of ks x) d v 0 (omega (arith, length-address_of ks x)))

digit_other : (ks : List ℕ) (x y d v j : ℕ) → j ≢ d → address_of ks y ≡ set (address_of ks x) d v
    → digit_of ks y j ≡ digit_of ks x j
digit_other ks x y d v j ne e = rw e (get_or-set_other (address_of ks x) d j v 0 ne)

pub joins_up : (ks : List ℕ) (x port : ℕ) → AreLarge ks → x < node_count ks → port < 2 * length ks → port % 2 ≡ 1
    → digit_of ks x (port / 2) + 1 < get_or ks (port / 2) 0 → Joins ks x port (x + stride_of ks (port / 2))
joins_up ks x port l n h odd r =
    let d = port / 2 in
    let y = x + stride_of ks d in
    let fits : port / 2 < length ks = omega (arith, div-add-mod port 2) in
    let e = address_up ks x d l fits r in
    let at = digit_at ks x y d (digit_of ks x d + 1) fits e in
    record {
      from_node = n;
      to_node = number_up ks x d l fits n r;
      mesh_port = h;
      shifted = omega (arith, at, odd);
      others = λ j ne. digit_other ks x y d (digit_of ks x d + 1) j ne e;
    }

pub joins_down : (ks : List ℕ) (x port : ℕ) → AreLarge ks → x < node_count ks → port < 2 * length ks → port % 2 ≡ 0
    → 0 < digit_of ks x (port / 2) → Joins ks x port (x - stride_of ks (port / 2))
joins_down ks x port l n h even r =
    let d = port / 2 in
    let y = x - stride_of ks d in
    let fits : port / 2 < length ks = omega (arith, div-add-mod port 2) in
    let e = address_down ks x d l fits r in
    let at = digit_at ks x y d (digit_of ks x d - 1) fits e in
    record {
      from_node = n;
      to_node = omega arith;
      mesh_port = h;
      shifted = omega (arith, at, even);
      others = λ j ne. digit_other ks x y d (digit_of ks x d - 1) j ne e;
    }

-- a port leads to one node
pub Joins-unique : (ks : List ℕ) (x port y z : ℕ) → AreLarge ks → Joins ks x port y → Joins ks x port z → y ≡ z
Joins-unique ks x port y z l p q =
    same_from_digits ks y z l p.to_node q.to_node
    (λ d. ⊎_elim (λ e. rw e (omega (arith, p.shifted, q.shifted))) (λ ne. p.others d ne ∙ sym (q.others d ne))
    (cases_eq d (port / 2)))

pub has_up : (ks : List ℕ) (x port : ℕ) → x < node_count ks → port < 2 * length ks → port % 2 ≡ 1
    → digit_of ks x (port / 2) + 1 < get_or ks (port / 2) 0 → has_neighbour ks x port ≡ true
has_up ks x port n h odd r =
    and_from _ _ (lt-ltb x (node_count ks) n) (and_from _ _ (lt-ltb port (2 * length ks) h) (rw odd (lt-ltb _ _ r)))

pub has_down : (ks : List ℕ) (x port : ℕ) → x < node_count ks → port < 2 * length ks → port % 2 ≡ 0
    → 0 < digit_of ks x (port / 2) → has_neighbour ks x port ≡ true
has_down ks x port n h even r =
    and_from _ _ (lt-ltb x (node_count ks) n) (and_from _ _ (lt-ltb port (2 * length ks) h) (rw even (lt-ltb _ _ r)))

pub no_node : (ks : List ℕ) (x port : ℕ) → node_count ks ≤ x → has_neighbour ks x port ≡ false
no_node ks x port n = and_left _ _ (le-ltb x (node_count ks) n)

pub no_port : (ks : List ℕ) (x port : ℕ) → 2 * length ks ≤ port → has_neighbour ks x port ≡ false
no_port ks x port h = and_right (ltb x (node_count ks)) _ (and_left _ _ (le-ltb port (2 * length ks) h))

odd_or_even : (port : ℕ) → (port % 2 ≡ 0) ⊎ (port % 2 ≡ 1)
odd_or_even port = ⊎_elim inl (λ ne. inr (omega arith)) (cases_eq (port % 2) 0)

pub has_neighbour-from_Joins : (ks : List ℕ) (x port y : ℕ) → AreLarge ks → Joins ks x port y
    → has_neighbour ks x port ≡ true
has_neighbour-from_Joins ks x port y l p =
    let d = port / 2 in
    let fits : port / 2 < length ks = omega (arith, div-add-mod port 2, p.mesh_port) in
    let below = digit_of_lt ks y d l fits in
    ⊎_elim (λ even. has_down ks x port p.from_node p.mesh_port even (omega (arith, p.shifted)))
    (λ odd. has_up ks x port p.from_node p.mesh_port odd (omega (arith, p.shifted))) (odd_or_even port)

-- the function of the digits agrees with the relation
pub neighbour_of-some : (ks : List ℕ) (x port y : ℕ) → AreLarge ks → Joins ks x port y → neighbour_of ks x port ≡ Some y
neighbour_of-some ks x port y l p =
    let d = port / 2 in
    let fits : port / 2 < length ks = omega (arith, div-add-mod port 2, p.mesh_port) in
    let v = digit_of ks x d + port % 2 - (1 - port % 2) in
    let moved : digit_of ks y d ≡ digit_of ks x d + port % 2 - (1 - port % 2) =
    ⊎_elim (λ even. omega (arith, p.shifted)) (λ odd. omega (arith, p.shifted)) (odd_or_even port) in
    let same : address_of ks y ≡ set (address_of ks x) d v =
    ext_get_or 0 (address_of ks y) (set (address_of ks x) d v)
    (length-address_of ks y ∙ (sym (length-address_of ks x) ∙ sym (length-set (address_of ks x) d v)))
    (λ j h. ⊎_elim (λ e. rw e (moved ∙ sym
    (get_or-set_same (address_of ks x) d v 0 (omega (arith, length-address_of ks x)))))
    (λ ne. p.others j ne ∙ sym (get_or-set_other (address_of ks x) d j v 0 ne)) (cases_eq j d)) in
    rw (has_neighbour-from_Joins ks x port y l p)
    (ap Some (ap (number_of ks) (sym same) ∙ number_of-address_of ks y l p.to_node))

pub neighbour_of-none : (ks : List ℕ) (x port : ℕ) → has_neighbour ks x port ≡ false → neighbour_of ks x port ≡ None
neighbour_of-none ks x port e = rw e refl

pub no_Joins : (ks : List ℕ) (x port : ℕ) → AreLarge ks → has_neighbour ks x port ≡ false → (y : ℕ) → Joins ks x port y
    → ⊥
no_Joins ks x port l e y p = true≢false (sym (has_neighbour-from_Joins ks x port y l p) ∙ e)

-- each neighbour stands at some port
joined_minus : (ks : List ℕ) (x y d : ℕ) → x < node_count ks → y < node_count ks → d < length ks
    → digit_of ks x d ≡ digit_of ks y d + 1 → ((e : ℕ) → e ≢ d → digit_of ks y e ≡ digit_of ks x e)
    → (port : ℕ) × Joins ks x port y
joined_minus ks x y d p q fits e others =
    let half : 2 * d / 2 ≡ d = omega arith in
    let rest : 2 * d % 2 ≡ 0 = omega arith in (
      2 * d,
      record {
        from_node = p;
        to_node = q;
        mesh_port = omega arith;
        shifted = rw (half, rest) (omega arith);
        others = rw half others;
      },
    )

joined_plus : (ks : List ℕ) (x y d : ℕ) → x < node_count ks → y < node_count ks → d < length ks
    → digit_of ks y d ≡ digit_of ks x d + 1 → ((e : ℕ) → e ≢ d → digit_of ks y e ≡ digit_of ks x e)
    → (port : ℕ) × Joins ks x port y
joined_plus ks x y d p q fits e others =
    let half : (2 * d + 1) / 2 ≡ d = omega arith in
    let rest : (2 * d + 1) % 2 ≡ 1 = omega arith in (
      2 * d + 1,
      record {
        from_node = p;
        to_node = q;
        mesh_port = omega arith;
        shifted = rw (half, rest) (omega arith);
        others = rw half others;
      },
    )

pub joined : (ks : List ℕ) (x y : ℕ) → AreNeighbours ks x y → (port : ℕ) × Joins ks x port y
joined ks x y h =
    ⊎_elim (λ e. joined_minus ks x y h.one_digit.0 h.from_node h.to_node h.one_digit.1 e h.one_digit.2.others)
    (λ e. joined_plus ks x y h.one_digit.0 h.from_node h.to_node h.one_digit.1 e h.one_digit.2.others)
    h.one_digit.2.by_one

-- and what stands at a port is a neighbour
pub AreNeighbours-from_Joins : (ks : List ℕ) (x port y : ℕ) → Joins ks x port y → AreNeighbours ks x y
AreNeighbours-from_Joins ks x port y p =
    let fits : port / 2 < length ks = omega (arith, div-add-mod port 2, p.mesh_port) in
    record {
      from_node = p.from_node;
      to_node = p.to_node;
      one_digit = (
        port / 2,
        fits,
        record {
          by_one = ⊎_elim (λ even. inl (omega (arith, p.shifted)))
              (λ odd. inr (omega (arith, p.shifted))) (odd_or_even port);
          others = p.others;
        },
      );
    }

-- what the test says, by the side of the port
record Parts (ks : List ℕ) (x port : ℕ) : Type 0 where
  node : x < node_count ks
  mesh_port : port < 2 * length ks
  side : has_room ks x port ≡ true

parts : (ks : List ℕ) (x port : ℕ) → has_neighbour ks x port ≡ true → Parts ks x port
parts ks x port e =
    let first = and_parts (ltb x (node_count ks)) (ltb port (2 * length ks) && has_room ks x port) e in
    let second = and_parts (ltb port (2 * length ks)) (has_room ks x port) first.1 in
    record { node = ltb-true _ _ first.0; mesh_port = ltb-true _ _ second.0; side = second.1 }

pub down : (ks : List ℕ) (x port : ℕ) → AreLarge ks → has_neighbour ks x port ≡ true → port % 2 ≡ 0
    → (stride_of ks (port / 2) ≤ x) × Joins ks x port (x - stride_of ks (port / 2))
down ks x port l e even =
    let p = parts ks x port e in
    let fits : port / 2 < length ks = omega (arith, div-add-mod port 2, p.mesh_port) in
    let room : 0 < digit_of ks x (port / 2) = ltb-true _ _ (rw even at p.side) in
    (stride_le ks x (port / 2) l fits room, joins_down ks x port l p.node p.mesh_port even room)

pub up : (ks : List ℕ) (x port : ℕ) → AreLarge ks → has_neighbour ks x port ≡ true → port % 2 ≡ 1
    → Joins ks x port (x + stride_of ks (port / 2))
up ks x port l e odd =
    let p = parts ks x port e in
    joins_up ks x port l p.node p.mesh_port odd (ltb-true _ _ (rw odd at p.side))

pub IsLink-from_test : (ks : List ℕ) (x port : ℕ) → AreLarge ks → has_neighbour ks x port ≡ true → IsLink ks x port
IsLink-from_test ks x port l e =
    ⊎_elim (λ even. (x - stride_of ks (port / 2), (down ks x port l e even).1))
    (λ odd. (x + stride_of ks (port / 2), up ks x port l e odd)) (odd_or_even port)

-- the function of the digits has a value only where there is a link
pub Joins-from : (ks : List ℕ) (x port y : ℕ) → AreLarge ks → neighbour_of ks x port ≡ Some y → Joins ks x port y
Joins-from ks x port y l e = by_test (has_neighbour ks x port) refl
  where
    by_test : (b : Bool) → has_neighbour ks x port ≡ b → Joins ks x port y
    by_test true t =
        let link = IsLink-from_test ks x port l t in
        let there : neighbour_of ks x port ≡ Some link.0 = neighbour_of-some ks x port link.0 l link.1 in
        let one : link.0 ≡ y = cc in
        subst (λ z. Joins ks x port z) one link.1
    by_test false t =
        let none : neighbour_of ks x port ≡ None = neighbour_of-none ks x port t in
        let clash : ◌≡◌ {A = Option ℕ} None (Some y) = cc in
        cc

-- a link leads back by the opposite port
pub opposite_twice : (port : ℕ) → opposite_of (opposite_of port) ≡ port
opposite_twice port = omega arith

pub Joins-back : (ks : List ℕ) (x port y : ℕ) → Joins ks x port y → Joins ks y (opposite_of port) x
Joins-back ks x port y j =
    let half : opposite_of port / 2 ≡ port / 2 = omega arith in
    let shifted = j.shifted in
    let mesh_port = j.mesh_port in
    record {
      from_node = j.to_node;
      to_node = j.from_node;
      mesh_port = omega arith;
      shifted = rw half (omega arith);
      others = λ d ne. sym (j.others d (λ e. ne (rw half e)));
    }

-- two nodes are joined by one port
pub Joins-port : (ks : List ℕ) (x p q y : ℕ) → Joins ks x p y → Joins ks x q y → p ≡ q
Joins-port ks x p q y j k =
    let one = j.shifted in
    let two = k.shifted in
    ⊎_elim
    (λ same. let three : Shifts q (digit_of ks x (p / 2)) (digit_of ks y (p / 2)) = rw same two in omega arith)
    (λ ne. let keeps = k.others (p / 2) ne in absurd (omega arith))
    (cases_eq (p / 2) (q / 2))

-- a node has one address
pub one_address : (ks : List ℕ) (x : ℕ) (ds : List ℕ) → AreLarge ks → IsAddress ks x ds → ds ≡ address_of ks x
one_address ks x ds l h =
    sym (address_of-number_of ks ds l h.one_each h.in_radix) ∙ ap (address_of ks) h.numbered
