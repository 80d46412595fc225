-- A link is that of one port of one node, on either side of it.
use Rattle.std.proofs.Common.{◌≡◌, ◌==◌, ◌⊎◌, ℕ, true, false, List, Option, Some, None, refl, arith, ap}
use Rattle.std.proofs.Common.{sym, subst, ◌∙◌}
use Rattle.std.specs.Prelude.{option_map, IsSome}
use Rattle.worm_mesh.specs.Address.{AreRadices, Joins, neighbour_of, opposite_of}
use Rattle.worm_mesh.specs.Links.{links_before}
use Rattle.worm_mesh.proofs.Digits.{AreLarge-from_radices}
use Rattle.worm_mesh.proofs.Neighbours.{Joins-from, Joins-back, Joins-unique, neighbour_of-some, opposite_twice}
use Rattle.worm_mesh.proofs.Numbers.{one_link}
use Rattle.worm_wires.specs.Wiring.{in_link, into_from, out_link}

pub number_cases : (k c : ℕ) → (((k == c) ≡ true) × (k ≡ c)) ⊎ (((k == c) ≡ false) × (k ≡ c → ⊥))
number_cases k c = grind arith

-- what leads there leads back
pub back_of : (mesh : List ℕ) (x p y : ℕ) → AreRadices mesh → neighbour_of mesh x p ≡ Some y
    → neighbour_of mesh y (opposite_of p) ≡ Some x
back_of mesh x p y radices e =
    let large = AreLarge-from_radices mesh radices.radices in
    neighbour_of-some mesh y (opposite_of p) x large (Joins-back mesh x p y (Joins-from mesh x p y large e))

-- the link out of a port is the one into the port that it enters
pub into_beyond : (mesh : List ℕ) (x o y : ℕ) → AreRadices mesh → neighbour_of mesh x o ≡ Some y
    → in_link mesh y (opposite_of o) ≡ Some (links_before mesh x o)
into_beyond mesh x o y radices e =
    ap (option_map (λ z. links_before mesh z (opposite_of (opposite_of o)))) (back_of mesh x o y radices e)
    ∙ ap (λ q. Some (links_before mesh x q)) (opposite_twice o)

-- the number of the link into a port that has a neighbour
pub into_is : (mesh : List ℕ) (p : ℕ) (n : Option ℕ) → IsSome n
    → option_map (λ y. links_before mesh y (opposite_of p)) n ≡ Some (into_from mesh p n)
into_is mesh p None some = absurd (cc)
into_is mesh p (Some y) some = refl

pub out_is : (mesh : List ℕ) (x o : ℕ) (n : Option ℕ) → IsSome n
    → option_map (λ y. links_before mesh x o) n ≡ Some (links_before mesh x o)
out_is mesh x o None some = absurd (cc)
out_is mesh x o (Some y) some = refl

-- no other port has the link

into_one : (mesh : List ℕ) (x p y q k : ℕ) → AreRadices mesh → (m n : Option ℕ) → neighbour_of mesh x p ≡ m
    → neighbour_of mesh y q ≡ n → option_map (λ z. links_before mesh z (opposite_of p)) m ≡ Some k
    → option_map (λ z. links_before mesh z (opposite_of q)) n ≡ Some k → (y ≡ x) × (q ≡ p)
into_one mesh x p y q k radices None n e f by same = let no : ◌≡◌ {A = Option ℕ} None (Some k) = by in absurd (cc)
into_one mesh x p y q k radices (Some z) None e f by same =
    let no : ◌≡◌ {A = Option ℕ} None (Some k) = same in absurd (cc)
into_one mesh x p y q k radices (Some z) (Some w) e f by same =
    let large = AreLarge-from_radices mesh radices.radices in
    let here = Joins-back mesh x p z (Joins-from mesh x p z large e) in
    let there = Joins-back mesh y q w (Joins-from mesh y q w large f) in
    let there_k : ◌≡◌ {A = Option ℕ} (Some (links_before mesh w (opposite_of q))) (Some k) = same in
    let here_k : ◌≡◌ {A = Option ℕ} (Some (links_before mesh z (opposite_of p))) (Some k) = by in
    let equal : links_before mesh w (opposite_of q) ≡ links_before mesh z (opposite_of p) = cc in
    let both = one_link mesh large w (opposite_of q) z (opposite_of p) (y, there) (x, here) equal in
    let joined : Joins mesh z (opposite_of p) y = subst (λ (o : ℕ). Joins mesh z o y) both.1
    (subst (λ (v : ℕ). Joins mesh v (opposite_of q) y) both.0 there) in (
      Joins-unique mesh z (opposite_of p) y x large joined here,
      sym (opposite_twice q) ∙ ap opposite_of both.1 ∙ opposite_twice p,
    )

pub in_once : (mesh : List ℕ) (x p y q k : ℕ) → AreRadices mesh → in_link mesh x p ≡ Some k → in_link mesh y q ≡ Some k
    → (y ≡ x) × (q ≡ p)
in_once mesh x p y q k radices by same =
    into_one mesh x p y q k radices (neighbour_of mesh x p) (neighbour_of mesh y q) refl refl by same

out_one : (mesh : List ℕ) (x o y q k : ℕ) → AreRadices mesh → (m n : Option ℕ) → neighbour_of mesh x o ≡ m
    → neighbour_of mesh y q ≡ n → option_map (λ z. links_before mesh x o) m ≡ Some k
    → option_map (λ z. links_before mesh y q) n ≡ Some k → (y ≡ x) × (q ≡ o)
out_one mesh x o y q k radices None n e f by same = let no : ◌≡◌ {A = Option ℕ} None (Some k) = by in absurd (cc)
out_one mesh x o y q k radices (Some z) None e f by same =
    let no : ◌≡◌ {A = Option ℕ} None (Some k) = same in absurd (cc)
out_one mesh x o y q k radices (Some z) (Some w) e f by same =
    let large = AreLarge-from_radices mesh radices.radices in
    let is : ◌≡◌ {A = Option ℕ} (Some (links_before mesh y q)) (Some (links_before mesh x o)) = same ∙ sym by in
    let equal : links_before mesh y q ≡ links_before mesh x o = cc in
    one_link mesh large y q x o (w, Joins-from mesh y q w large f) (z, Joins-from mesh x o z large e) equal

pub out_once : (mesh : List ℕ) (x o y q k : ℕ) → AreRadices mesh → out_link mesh x o ≡ Some k
    → out_link mesh y q ≡ Some k → (y ≡ x) × (q ≡ o)
out_once mesh x o y q k radices by same =
    out_one mesh x o y q k radices (neighbour_of mesh x o) (neighbour_of mesh y q) refl refl by same
