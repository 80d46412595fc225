-- The shape of a mesh is what the theory asks for.
use Rattle.std.proofs.Common.{ℕ, suc, ◌≡◌, ◌*◌, ◌<◌, ⊎_elim, Some, List, length, arith, ap}
use Rattle.std.proofs.lemmas.Bool.{cases_eq}
use Rattle.worm_flit.specs.Channels.{AreChannels}
use Rattle.worm_mesh.specs.Address.{node_count, neighbour_of, opposite_of, AreRadices}
use Rattle.worm_mesh.proofs.Digits.{AreLarge, AreLarge-from_radices}
use Rattle.worm_mesh.proofs.Neighbours.{neighbour_of-some, neighbour_of-none, no_port, Joins-from, Joins-back}
use Rattle.worm_mesh.proofs.Neighbours.{opposite_twice}
use Rattle.worm_route.specs.Route.{port_of, hops_of}
use Rattle.worm_route.proofs.Onward.{onward, hops_nearer, hops_arrived, port_arrived}
use Rattle.worm_theory.specs.Shape.{IsMesh}
use Rattle.worm_theory.specs.ShapeOf.{shape_of}
use Rattle.worm_theory.proofs.Channels.{first_owned}

module _ (ks : List ℕ) (l : AreLarge ks) where
  pub arrives : (x d : ℕ) → x < node_count ks → d < node_count ks → hops_of ks x d ≡ 0
      → (x ≡ d) × (port_of ks x d ≡ 2 * length ks)
  arrives x d p q e =
      ⊎_elim
      (λ same. (same, rw same (port_arrived ks d)))
      (λ ne. absurd (omega (arith, hops_nearer ks l x d p q ne)))
      (cases_eq x d)

  pub goes_on : (x d n : ℕ) → x < node_count ks → d < node_count ks → hops_of ks x d ≡ suc n
      → (y : ℕ) × (neighbour_of ks x (port_of ks x d) ≡ Some y) × (y < node_count ks) × (hops_of ks y d ≡ n)
  goes_on x d n p q e =
      ⊎_elim
      (λ same. absurd (omega (arith, hops_arrived ks l d, ap (λ v. hops_of ks v d) same)))
      (λ ne.
      let on = onward ks l x d p q ne in (
        on.to,
        neighbour_of-some ks x (port_of ks x d) on.to l on.joined,
        on.joined.to_node,
        omega (arith, hops_nearer ks l x d p q ne),
      ))
      (cases_eq x d)

pub shape_is_mesh : (ks counts : List ℕ) (depth : ℕ) → AreRadices ks → AreChannels counts
    → IsMesh (shape_of ks counts depth)
shape_is_mesh ks counts depth mesh classes =
    let l = AreLarge-from_radices ks mesh.radices in
    record {
      link_back = λ x p y e. neighbour_of-some ks y (opposite_of p) x l (Joins-back ks x p y (Joins-from ks x p y l e));
      opposite_twice = λ x p y e. opposite_twice p;
      terminal_alone = λ x. neighbour_of-none ks x (2 * length ks) (no_port ks x (2 * length ks) (omega arith));
      first_owned = λ class h. first_owned counts class classes.each h;
      arrives = λ x d p q e. arrives ks l x d p q e;
      goes_on = λ x d n p q e. goes_on ks l x d n p q e;
    }
