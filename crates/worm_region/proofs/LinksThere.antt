-- A port with a neighbour has a link out of it and one into it, each with a number of the links.
use Rattle.std.proofs.Common.{◌≡◌, ℕ, ◌*◌, ◌<◌, true, length, Some, arith}
use Rattle.worm_mesh.specs.Address.{has_neighbour, neighbour_of, opposite_of}
use Rattle.worm_mesh.specs.Links.{links_before}
use Rattle.worm_mesh.proofs.Digits.{AreLarge-from_radices}
use Rattle.worm_mesh.proofs.Neighbours.{Joins-from, Joins-back, has_neighbour-from_Joins}
use Rattle.worm_mesh.proofs.Numbers.{below_count}
use Rattle.worm_region.specs.State.{NetState, IsFramed}

-- what is at the end of a link: the neighbour, its port, and that the link is there
pub record Feeder (s : NetState) (x p y : ℕ) : Type 0 where
  pub has : has_neighbour s.mesh y (opposite_of p) ≡ true
  pub bound : links_before s.mesh y (opposite_of p) < length s.links
  pub port_in : p < 2 * length s.mesh

pub feeder : (s : NetState) (x p y : ℕ) → IsFramed s → neighbour_of s.mesh x p ≡ Some y → Feeder s x p y
feeder s x p y framed e =
    let large = AreLarge-from_radices s.mesh framed.radices.radices in
    let joined = Joins-from s.mesh x p y large e in
    let other = Joins-back s.mesh x p y joined in
    let all = framed.all_links in
    record {
      has = has_neighbour-from_Joins s.mesh y (opposite_of p) x large other;
      bound = omega (arith, below_count s.mesh large y (opposite_of p) (x, other));
      port_in = joined.mesh_port;
    }

-- the link out of a port that has a neighbour
pub record Leader (s : NetState) (x o y : ℕ) : Type 0 where
  pub has : has_neighbour s.mesh x o ≡ true
  pub bound : links_before s.mesh x o < length s.links
  pub port_in : o < 2 * length s.mesh

pub leader : (s : NetState) (x o y : ℕ) → IsFramed s → neighbour_of s.mesh x o ≡ Some y → Leader s x o y
leader s x o y framed e =
    let large = AreLarge-from_radices s.mesh framed.radices.radices in
    let joined = Joins-from s.mesh x o y large e in
    let all = framed.all_links in
    record {
      has = has_neighbour-from_Joins s.mesh x o y large joined;
      bound = omega (arith, below_count s.mesh large x o (y, joined));
      port_in = joined.mesh_port;
    }
