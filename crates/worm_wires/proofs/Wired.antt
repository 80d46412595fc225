-- The numbers of a node's links, against the mesh.
use Rattle.std.proofs.Common.{◌≡◌, ℕ, ◌*◌, ◌+◌, ◌<◌, ◌≤◌, ◌≢◌, List, length, Option, Some, None, refl, arith, ap, sym}
use Rattle.std.proofs.Common.{subst, ◌∙◌, get_or, set, below_more, get_or-set_other, get_or-set_same}
use Rattle.std.specs.Prelude.{IfSome, IsSome, false, option_map, true}
use Rattle.std.specs.Option.{SomeIff}
use Rattle.worm_mesh.specs.Address.{AreRadices, neighbour_of, node_count, opposite_of}
use Rattle.worm_mesh.specs.Links.{IsLink, degree_of, links_before, link_count}
use Rattle.worm_mesh.proofs.Digits.{AreLarge-from_radices}
use Rattle.worm_mesh.proofs.Neighbours.{Joins-from, Joins-back, neighbour_of-some, neighbour_of-none, no_port}
use Rattle.worm_mesh.proofs.Numbers.{below_count, degree_of-le, sum_below-le}
use Rattle.worm_wires.specs.Wiring.{AreLinksOf, AreWired, in_link, into_from, kept_number, no_links, out_link}
use Rattle.worm_wires.specs.Wiring.{port_links}
use Rattle.worm_wires.specs.declared.wiring.NodeLinks.{NodeLinks}
use Rattle.worm_wires.specs.declared.wiring.PortLinks.{PortLinks}

out_by : (mesh : List ℕ) (x p : ℕ) → AreRadices mesh → (n r : Option ℕ) → neighbour_of mesh x p ≡ n
    → SomeIff r (IsLink mesh x p) (links_before mesh x p) → r ≡ option_map (λ y. links_before mesh x p) n
out_by mesh x p radices None None e has = refl
out_by mesh x p radices None (Some k) e has =
    let large = AreLarge-from_radices mesh radices.radices in
    let some : ◌≡◌ {A = Option ℕ} None (Some has.0.0) = sym e ∙ neighbour_of-some mesh x p has.0.0 large has.0.1 in
    absurd (cc)
out_by mesh x p radices (Some y) None e has =
    let large = AreLarge-from_radices mesh radices.radices in
    absurd (has (y, Joins-from mesh x p y large e))
out_by mesh x p radices (Some y) (Some k) e has = ap (λ (i : ℕ). Some i) has.1

pub out_numbered : (mesh : List ℕ) (x p : ℕ) → AreRadices mesh → (r : Option ℕ)
    → SomeIff r (IsLink mesh x p) (links_before mesh x p) → r ≡ out_link mesh x p
out_numbered mesh x p radices r has = out_by mesh x p radices (neighbour_of mesh x p) r refl has

-- past the mesh ports there is none
pub out_none : (mesh : List ℕ) (x p : ℕ) → 2 * length mesh ≤ p → out_link mesh x p ≡ None
out_none mesh x p past = ap (λ (n : Option ℕ). option_map (λ y. links_before mesh x p) n)
    (neighbour_of-none mesh x p (no_port mesh x p past))

pub in_none : (mesh : List ℕ) (x p : ℕ) → 2 * length mesh ≤ p → in_link mesh x p ≡ None
in_none mesh x p past = ap (λ (n : Option ℕ). option_map (λ y. links_before mesh y (opposite_of p)) n)
    (neighbour_of-none mesh x p (no_port mesh x p past))

-- one row more of a table
pub row_more : {A : Type 0} (f : ℕ → A) (d : A) (xs : List A) (i : ℕ) (v : A) → i < length xs → v ≡ f i
    → ((k : ℕ) → k < i → get_or xs k d ≡ f k) → (k : ℕ) → k < i + 1 → get_or (set xs i v) k d ≡ f k
row_more f d xs i v there here before =
    below_more _ _ (λ k below. let away : k ≢ i = omega arith in
    rw get_or-set_other (before k below)) (rw get_or-set_same here)

pub wired_more : (mesh : List ℕ) (nodes : List NodeLinks) (i : ℕ) (v : NodeLinks) → i < length nodes
    → AreLinksOf mesh i v → ((x : ℕ) → x < i → AreLinksOf mesh x (get_or nodes x no_links)) → (x : ℕ) → x < i + 1
    → AreLinksOf mesh x (get_or (set nodes i v) x no_links)
wired_more mesh nodes i v there here before =
    below_more _ _ (λ x below. let away : x ≢ i = omega arith in
    rw get_or-set_other (before x below)) (rw get_or-set_same here)

-- what is kept, at a place that is named by other numbers
pub number_kept : (mesh now : List ℕ) (nodes : List NodeLinks) (x p i q : ℕ) → AreWired mesh nodes → mesh ≡ now
    → x < 256 → p < 6 → i ≡ x → q ≡ p
    → get_or (get_or nodes i no_links).outs q 0 ≡ kept_number (out_link now x p)
number_kept mesh now nodes x p i q wired same x_in p_in at_x at_p =
    (λ t. get_or (get_or nodes (at_x t) no_links).outs (at_p t) 0)
    ∙ (wired x x_in p p_in ∙ ap (λ (m : List ℕ). kept_number (out_link m x p)) same)

-- of a port with a neighbour it is the link's
there_kept : (mesh : List ℕ) (x p y : ℕ) → neighbour_of mesh x p ≡ Some y
    → kept_number (out_link mesh x p) ≡ links_before mesh x p
there_kept mesh x p y e = ap (λ (n : Option ℕ). kept_number (option_map (λ z. links_before mesh x p) n)) e

-- of one without a neighbour it is none's
few_links : (mesh : List ℕ) → AreRadices mesh → link_count mesh ≤ 1536
few_links mesh radices =
    let each : (x : ℕ) → degree_of mesh x ≤ 6 = λ x. omega (arith, degree_of-le mesh x, radices.few_dims) in
    omega (arith, sum_below-le (degree_of mesh) 6 (node_count mesh) each, radices.few_nodes)

none_by : (mesh : List ℕ) (x p : ℕ) → AreRadices mesh → (n : Option ℕ) → neighbour_of mesh x p ≡ n
    → kept_number (out_link mesh x p) ≡ 65535 → n ≡ None
none_by mesh x p radices None e kept = refl
none_by mesh x p radices (Some y) e kept =
    let large = AreLarge-from_radices mesh radices.radices in
    let below = below_count mesh large x p (y, Joins-from mesh x p y large e) in
    absurd (omega (arith, below, few_links mesh radices, there_kept mesh x p y e, kept))

pub none_kept : (mesh : List ℕ) (x p : ℕ) → AreRadices mesh → kept_number (out_link mesh x p) ≡ 65535
    → neighbour_of mesh x p ≡ None
none_kept mesh x p radices kept = none_by mesh x p radices (neighbour_of mesh x p) refl kept

pub none_found : (beyond : Option ℕ) → beyond ≡ None
    → (false ≡ true → IsSome beyond) × (IsSome beyond → false ≡ true)
none_found None e = (λ found. absurd (cc), λ some. absurd (cc))
none_found (Some y) e = absurd (cc)

-- the links of a port put together of their parts
pub joined : (mesh : List ℕ) (x p y k j : ℕ) → AreRadices mesh → Some y ≡ neighbour_of mesh x p
    → k ≡ kept_number (out_link mesh x p) → j ≡ kept_number (out_link mesh y (opposite_of p))
    → ◌≡◌ {A = Option PortLinks} (Some (record { beyond = y; entered = opposite_of p; out = k; into = j }))
    (port_links mesh x p)
joined mesh x p y k j radices e out into =
    let large = AreLarge-from_radices mesh radices.radices in
    let back = neighbour_of-some mesh y (opposite_of p) x large
    (Joins-back mesh x p y (Joins-from mesh x p y large (sym e))) in
    let one : k ≡ links_before mesh x p = out ∙ there_kept mesh x p y (sym e) in
    let two : j ≡ links_before mesh y (opposite_of p) = into ∙ there_kept mesh y (opposite_of p) x back in
    rw (← e) (cc)

pub no_links_there : (mesh : List ℕ) (x p : ℕ) → neighbour_of mesh x p ≡ None → port_links mesh x p ≡ None
no_links_there mesh x p e = ap (λ (n : Option ℕ). option_map
    (λ y. record {
      beyond = y;
      entered = opposite_of p;
      out = links_before mesh x p;
      into = links_before mesh y (opposite_of p);
    }) n) e

-- and taken apart
parts_by : (mesh : List ℕ) (x p : ℕ) (links : PortLinks) (n : Option ℕ)
    → ◌≡◌ {A = Option PortLinks} (Some links)
    (option_map (λ y. record {
      beyond = y;
      entered = opposite_of p;
      out = links_before mesh x p;
      into = links_before mesh y (opposite_of p);
    }) n)
    → (n ≡ Some links.beyond) × (links ≡ record {
      beyond = links.beyond;
      entered = opposite_of p;
      out = links_before mesh x p;
      into = links_before mesh links.beyond (opposite_of p);
    })
parts_by mesh x p links None e = let no : ◌≡◌ {A = Option PortLinks} (Some links) None = e in absurd (cc)
parts_by mesh x p links (Some y) e =
    let is : ◌≡◌ {A = Option PortLinks} (Some links)
    (Some (record {
      beyond = y;
      entered = opposite_of p;
      out = links_before mesh x p;
      into = links_before mesh y (opposite_of p);
    })) = e in
    let same : links ≡ record {
      beyond = y;
      entered = opposite_of p;
      out = links_before mesh x p;
      into = links_before mesh y (opposite_of p);
    } = cc in
    let at : links.beyond ≡ y = ap (λ (l : PortLinks). l.beyond) same in (
      ap (λ (v : ℕ). Some v) (sym at),
      same
          ∙ ap (λ (v : ℕ). record {
            beyond = v;
            entered = opposite_of p;
            out = links_before mesh x p;
            into = links_before mesh v (opposite_of p);
          }) (sym at),
    )

pub parts : (mesh : List ℕ) (x p : ℕ) (links : PortLinks)
    → ◌≡◌ {A = Option PortLinks} (Some links) (port_links mesh x p)
    → (neighbour_of mesh x p ≡ Some links.beyond)
    × (links ≡ record {
      beyond = links.beyond;
      entered = opposite_of p;
      out = links_before mesh x p;
      into = links_before mesh links.beyond (opposite_of p);
    })
parts mesh x p links e = parts_by mesh x p links (neighbour_of mesh x p) e

-- the numbers are those of the links out and in
numbers_by : (mesh : List ℕ) (x p : ℕ) (n : Option ℕ)
    → IfSome {T = PortLinks} (option_map (λ y. record {
      beyond = y;
      entered = opposite_of p;
      out = links_before mesh x p;
      into = links_before mesh y (opposite_of p);
    }) n)
    (λ links. links.out ≡ links_before mesh x p)
    × IfSome {T = PortLinks} (option_map (λ y. record {
      beyond = y;
      entered = opposite_of p;
      out = links_before mesh x p;
      into = links_before mesh y (opposite_of p);
    }) n)
    (λ links. links.into ≡ into_from mesh p n)
numbers_by mesh x p None = (tt, tt)
numbers_by mesh x p (Some y) = (refl, refl)

pub numbers : (mesh : List ℕ) (x p : ℕ)
    → IfSome {T = PortLinks} (port_links mesh x p) (λ links. links.out ≡ links_before mesh x p)
    × IfSome {T = PortLinks} (port_links mesh x p) (λ links. links.into ≡ into_from mesh p (neighbour_of mesh x p))
numbers mesh x p = numbers_by mesh x p (neighbour_of mesh x p)

-- each number is a link's
bound_by : (mesh : List ℕ) (x p : ℕ) → AreRadices mesh → (n : Option ℕ) → neighbour_of mesh x p ≡ n
    → IfSome {T = PortLinks} (option_map (λ y. record {
      beyond = y;
      entered = opposite_of p;
      out = links_before mesh x p;
      into = links_before mesh y (opposite_of p);
    }) n)
    (λ links. (links.out < link_count mesh) × (links.into < link_count mesh))
bound_by mesh x p radices None e = tt
bound_by mesh x p radices (Some y) e =
    let large = AreLarge-from_radices mesh radices.radices in
    let joins = Joins-from mesh x p y large e in
    (below_count mesh large x p (y, joins), below_count mesh large y (opposite_of p) (x, Joins-back mesh x p y joins))

pub ports_bound : (mesh : List ℕ) (x p : ℕ) → AreRadices mesh
    → IfSome {T = PortLinks} (port_links mesh x p)
    (λ links. (links.out < link_count mesh) × (links.into < link_count mesh))
ports_bound mesh x p radices = bound_by mesh x p radices (neighbour_of mesh x p) refl

-- the same of links that are there
pub ports_within : (mesh : List ℕ) (x p : ℕ) (links : PortLinks) → AreRadices mesh
    → ◌≡◌ {A = Option PortLinks} (Some links) (port_links mesh x p)
    → (links.out < link_count mesh) × (links.into < link_count mesh)
ports_within mesh x p links radices e =
    subst (λ (o : Option PortLinks). IfSome o (λ l. (l.out < link_count mesh) × (l.into < link_count mesh))) (sym e)
    (ports_bound mesh x p radices)

-- and their numbers by themselves
pub numbers_there : (mesh : List ℕ) (x p : ℕ) (links : PortLinks)
    → ◌≡◌ {A = Option PortLinks} (Some links) (port_links mesh x p)
    → (links.out ≡ links_before mesh x p) × (links.into ≡ into_from mesh p (neighbour_of mesh x p))
numbers_there mesh x p links e =
    let these = parts mesh x p links e in (
      ap (λ (l : PortLinks). l.out) these.1,
      ap (λ (l : PortLinks). l.into) these.1 ∙ sym (ap (λ (n : Option ℕ). into_from mesh p n) these.0),
    )

-- a port with a neighbour is a mesh port
there_by : (mesh : List ℕ) (x p : ℕ) → AreRadices mesh → (n : Option ℕ) → neighbour_of mesh x p ≡ n → IsSome n → p < 6
there_by mesh x p radices None e some = absurd (cc)
there_by mesh x p radices (Some y) e some =
    let joins = Joins-from mesh x p y (AreLarge-from_radices mesh radices.radices) e in
    omega (arith, joins.mesh_port, radices.few_dims)

pub port_there : (mesh : List ℕ) (x p : ℕ) → AreRadices mesh → IsSome (neighbour_of mesh x p) → p < 6
port_there mesh x p radices some = there_by mesh x p radices (neighbour_of mesh x p) refl some
