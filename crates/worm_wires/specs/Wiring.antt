-- The neighbours of a node and the numbers of its links, by mesh port (Dally and Towles, chapter 5).
use Rattle.std.specs.Prelude.{ℕ, ◌≡◌, ◌+◌, ◌*◌, ◌<◌, ◌≤◌, length, List, [], slice_index_or, Option, None, Some}
use Rattle.std.specs.Prelude.{option_map}
use Rattle.worm_mesh.specs.Address.{node_count, neighbour_of, opposite_of, stride_of}
use Rattle.worm_mesh.specs.Links.{links_before}
use Rattle.worm_wires.specs.declared.wiring.NodeLinks.{NodeLinks}
use Rattle.worm_wires.specs.declared.wiring.PortLinks.{PortLinks}

-- the link out of a node by a port, and the link into it by a port, where there is a neighbour
abbrev pub out_link : List ℕ → ℕ → ℕ → Option ℕ
out_link mesh x o = option_map (λ y. links_before mesh x o) (neighbour_of mesh x o)

abbrev pub in_link : List ℕ → ℕ → ℕ → Option ℕ
in_link mesh x p = option_map (λ y. links_before mesh y (opposite_of p)) (neighbour_of mesh x p)

-- the number of the link that comes into a port from this neighbour
abbrev pub into_from : List ℕ → ℕ → Option ℕ → ℕ
into_from mesh p None = 0
into_from mesh p (Some y) = links_before mesh y (opposite_of p)

-- the node beyond a port, the port by which that is entered, and the two numbers
abbrev pub port_links : List ℕ → ℕ → ℕ → Option PortLinks
port_links mesh x p =
    option_map (λ y. record {
      beyond = y;
      entered = opposite_of p;
      out = links_before mesh x p;
      into = links_before mesh y (opposite_of p);
    }) (neighbour_of mesh x p)

-- what is kept of the number of a link, or of there being none: no link has the number 65,535
abbrev pub kept_number : Option ℕ → ℕ
kept_number None = 65535
kept_number (Some k) = k

-- what is kept of a node
abbrev pub AreLinksOf : List ℕ → ℕ → NodeLinks → Type 0
AreLinksOf mesh x links = (p : ℕ) → p < 6 → slice_index_or links.outs p 0 ≡ kept_number (out_link mesh x p)

abbrev pub no_links : NodeLinks
no_links = record { outs = [] }

-- the links of each number, a node's or not
abbrev pub AreWired : List ℕ → List NodeLinks → Type 0
AreWired mesh nodes = (x : ℕ) → x < 256 → AreLinksOf mesh x (slice_index_or nodes x no_links)

-- what a step by each port adds to a node's number, modulo 256: a step down by an even port, a step up by an odd one
abbrev pub AreSteps : List ℕ → List ℕ → Type 0
AreSteps mesh steps =
    (d : ℕ) → d < length mesh → (slice_index_or steps (2 * d) 0 + stride_of mesh d ≡ 256)
    × (slice_index_or steps (2 * d + 1) 0 ≡ stride_of mesh d)

-- what is kept of a mesh: how many nodes it has, their terminal port, what a step by each port adds, and the links of
-- each
pub record IsWired (mesh : List ℕ) (count terminal : ℕ) (steps : List ℕ) (nodes : List NodeLinks) : Type 0 where
  pub counted : count ≡ node_count mesh
  pub few_nodes : count ≤ 256
  pub last_port : terminal ≡ 2 * length mesh
  pub few_ports : terminal ≤ 6
  pub steps_by : AreSteps mesh steps
  pub links : AreWired mesh nodes
