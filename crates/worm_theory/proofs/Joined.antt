-- What the places of a lane hold, joined in their order, is what the theory joins along the route.
use Rattle.std.proofs.Common.{ℕ, zero, suc, ◌≡◌, ◌*◌, ◌<◌, ⊎_elim, Some, List, [], ◌∷◌, ◌++◌, length, reverse, arith}
use Rattle.std.proofs.Common.{refl, ap, sym, ◌∙◌, append_assoc}
use Rattle.std.specs.Prelude.{flat_map}
use Rattle.std.proofs.lemmas.Bool.{cases_eq}
use Rattle.std.proofs.lemmas.List.{reverse-append}
use Rattle.worm_flit.specs.declared.Flit.{Flit}
use Rattle.worm_mesh.specs.Address.{node_count, neighbour_of, opposite_of}
use Rattle.worm_mesh.proofs.Digits.{AreLarge}
use Rattle.worm_mesh.proofs.Neighbours.{neighbour_of-some}
use Rattle.worm_route.specs.Route.{route_of, port_of, hops_of}
use Rattle.worm_route.specs.Places.{Place, Source, Buffer, Link, places_along, places_of}
use Rattle.worm_route.proofs.Onward.{onward, hops_nearer, hops_arrived, route_arrived}
use Rattle.worm_route.proofs.Track.{IsWay-route, BeginsWith}
use Rattle.worm_theory.specs.Shape.{Shape}
use Rattle.worm_theory.specs.Cut.{underway_from}
use Rattle.worm_theory.specs.ShapeOf.{shape_of}

-- the places along the nodes, the first node of the route entered by this port, and further places behind it
abbrev pub between : List ℕ → ℕ → ℕ → List Place → List ℕ → List Place
between ks dst port behind [] = behind
between ks dst port behind (y ∷ []) = Buffer y port ∷ behind
between ks dst port behind (y ∷ x ∷ r) =
    Buffer y (opposite_of (port_of ks x dst)) ∷ Link x (port_of ks x dst) ∷ between ks dst port behind (x ∷ r)

pub between-all : (ks : List ℕ) (dst first : ℕ) (r : List ℕ) → BeginsWith first r
    → between ks dst (2 * length ks) (Source ∷ []) r ≡ places_along ks dst r
between-all ks dst first [] h = absurd h
between-all ks dst first (y ∷ []) h = refl
between-all ks dst first (y ∷ x ∷ r) h =
    ap (λ v. Buffer y (opposite_of (port_of ks x dst)) ∷ Link x (port_of ks x dst) ∷ v)
    (between-all ks dst x (x ∷ r) refl)

pub between-push : (ks : List ℕ) (dst port first x : ℕ) (behind : List Place) (r : List ℕ) → BeginsWith first r →
    between ks dst port behind (r ++ x ∷ [])
    ≡ between ks dst (opposite_of (port_of ks x dst)) (Link x (port_of ks x dst) ∷ Buffer x port ∷ behind) r
between-push ks dst port first x behind [] h = absurd h
between-push ks dst port first x behind (y ∷ []) h = refl
between-push ks dst port first x behind (y ∷ z ∷ r) h =
    ap (λ v. Buffer y (opposite_of (port_of ks z dst)) ∷ Link z (port_of ks z dst) ∷ v)
    (between-push ks dst port z x behind (z ∷ r) refl)

module _ (ks counts : List ℕ) (depth : ℕ) (l : AreLarge ks) (dst : ℕ) (q : dst < node_count ks) (holds : Place
    → List Flit) (line : ℕ → ℕ → List Flit) (links : (x o : ℕ) → o < 2 * length ks
    → holds (Link x o) ≡ line x o) where
  abbrev shape : Shape
  shape = shape_of ks counts depth

  abbrev store : ℕ → ℕ → List Flit
  store x p = holds (Buffer x p)

  pub joined_from : (n x p : ℕ) (behind : List Place) → x < node_count ks → hops_of ks x dst ≡ n →
      flat_map holds (between ks dst p behind (reverse (route_of ks x dst))) ≡ underway_from shape store line dst n x p
      ++ flat_map holds behind
  joined_from zero x p behind in_mesh e =
      ⊎_elim
      (λ same.
      let one : reverse (route_of ks x dst) ≡ x ∷ [] =
      ap (λ v. reverse (route_of ks v dst)) same
      ∙ (ap reverse (route_arrived ks l dst q) ∙ ap (λ v. v ∷ []) (sym same)) in
      rw one refl)
      (λ ne. absurd (omega (arith, hops_nearer ks l x dst in_mesh q ne)))
      (cases_eq x dst)
  joined_from (suc n) x p behind in_mesh e =
      ⊎_elim
      (λ same. absurd (omega (arith, hops_arrived ks l dst, ap (λ v. hops_of ks v dst) same)))
      (λ ne.
      let on = onward ks l x dst in_mesh q ne in
      let port = port_of ks x dst in
      let linked : neighbour_of ks x (port_of ks x dst) ≡ Some on.to =
      neighbour_of-some ks x (port_of ks x dst) on.to l on.joined in
      let way = IsWay-route ks l on.to dst on.joined.to_node q in
      let split : reverse (route_of ks x dst) ≡ reverse (route_of ks on.to dst) ++ x ∷ [] =
      ap reverse on.route ∙ reverse-append (x ∷ []) (route_of ks on.to dst) in
      let rest = joined_from n on.to (opposite_of (port_of ks x dst))
      (Link x (port_of ks x dst) ∷ Buffer x p ∷ behind) on.joined.to_node
      (omega (arith, hops_nearer ks l x dst in_mesh q ne)) in
      ap (λ r. flat_map holds (between ks dst p behind r)) split ∙ (
      ap (flat_map holds) (between-push ks dst p dst x behind (reverse (route_of ks on.to dst)) way.begins) ∙ (
      rest ∙ rw (linked, links x (port_of ks x dst) on.joined.mesh_port) (
      rw (
        append_assoc (underway_from shape store line dst n on.to (opposite_of (port_of ks x dst)))
            (line x (port_of ks x dst) ++ holds (Buffer x p)) (flat_map holds behind),
        append_assoc (line x (port_of ks x dst)) (holds (Buffer x p)) (flat_map holds behind),
      ) refl
      )
      )
      ))
      (cases_eq x dst)

  pub joined_all : (src : ℕ) → src < node_count ks
      → flat_map holds (places_of ks src dst)
      ≡ underway_from shape store line dst (hops_of ks src dst) src (2 * length ks) ++ flat_map holds (Source ∷ [])
  joined_all src p =
      let way = IsWay-route ks l src dst p q in
      ap (flat_map holds) (sym (between-all ks dst dst (reverse (route_of ks src dst)) way.begins))
      ∙ joined_from (hops_of ks src dst) src (2 * length ks) (Source ∷ []) p refl
