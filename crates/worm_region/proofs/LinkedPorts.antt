-- A port that has a neighbour is a port of a node of the network.
use Rattle.std.proofs.Common.{◌≡◌, ℕ, ◌<◌, List, None, inl, inr, subst, sym}
use Rattle.std.specs.Prelude.{IsSome}
use Rattle.std.proofs.lemmas.Bool.{cases_lt}
use Rattle.worm_mesh.specs.Address.{neighbour_of, node_count}
use Rattle.worm_mesh.proofs.Neighbours.{no_node}
use Rattle.worm_wires.specs.Arrivals.{LinksView}
use Rattle.worm_region.specs.State.{NetState}

-- the mesh, and what is on its links
abbrev pub links_of : NetState → LinksView
links_of s = record { mesh = s.mesh; states = s.links }

-- a number that was looked for and is not there
pub not_found : IsSome {T = ℕ} None → ⊥
not_found some = absurd (cc)

-- a port with a neighbour is a node's
pub of_node : (mesh : List ℕ) (x p : ℕ) → IsSome (neighbour_of mesh x p) → x < node_count mesh
of_node mesh x p linked = elim (cases_lt x (node_count mesh)) [
  | inl there ↦ there
  | inr past ↦ absurd (not_found (rw (no_node mesh x p past) at linked))
]

pub port_there : (mesh : List ℕ) (x p : ℕ) → IsSome (neighbour_of mesh x p)
    → (x < node_count mesh) × IsSome (neighbour_of mesh x p)
port_there mesh x p linked = (of_node mesh x p linked, linked)

-- of the lists that a region has, where whoever has it sees that the port has a link
pub port_inside : {s seen : NetState} (x p : ℕ) → s ≡ seen → IsSome (neighbour_of seen.mesh x p)
    → IsSome (neighbour_of s.mesh x p)
port_inside x p same linked = subst (λ (s : NetState). IsSome (neighbour_of s.mesh x p)) (sym same) linked
