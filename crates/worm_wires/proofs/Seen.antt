-- What is seen of each link, by the inboxes and the lists behind it.
use Rattle.std.proofs.Common.{◌≡◌, ℕ, List, get_or, Option, Some, ap, ◌∙◌}
use Rattle.worm_mesh.specs.Address.{AreRadices, neighbour_of, opposite_of}
use Rattle.worm_mesh.specs.Links.{links_before}
use Rattle.worm_mesh.proofs.Digits.{AreLarge-from_radices}
use Rattle.worm_mesh.proofs.Neighbours.{Joins-from, has_neighbour-from_Joins}
use Rattle.worm_wires.specs.Inbox.{Inbox, come, flits_beyond, link_by, links_by, of_credits, of_flits}
use Rattle.worm_wires.specs.Links.{LinkView, blank_link}
use Rattle.worm_wires.proofs.ByNumber.{number_at}

module _ (mesh : List ℕ) (links : List LinkView) (inboxes : List Inbox) (radices : AreRadices mesh) where
  -- the link out of a port that has a neighbour
  pub link_at : (x o y : ℕ) → neighbour_of mesh x o ≡ Some y
      → get_or (links_by mesh links inboxes) (links_before mesh x o) blank_link ≡ link_by mesh links inboxes x o
  link_at x o y e =
      let large = AreLarge-from_radices mesh radices.radices in
      let joins = Joins-from mesh x o y large e in
      number_at mesh (link_by mesh links inboxes) blank_link x o joins.from_node joins.mesh_port
      (has_neighbour-from_Joins mesh x o y large joins)

  pub credits_at : (x o y : ℕ) → neighbour_of mesh x o ≡ Some y
      → (get_or (links_by mesh links inboxes) (links_before mesh x o) blank_link).credits
      ≡ come of_credits mesh links inboxes x o
  unfolding link_by
  credits_at x o y e = ap (λ (l : LinkView). l.credits) (link_at x o y e)

  pub room_at : (x o y : ℕ) → neighbour_of mesh x o ≡ Some y
      → (get_or (links_by mesh links inboxes) (links_before mesh x o) blank_link).room
      ≡ (get_or links (links_before mesh x o) blank_link).room
  unfolding link_by
  room_at x o y e = ap (λ (l : LinkView). l.room) (link_at x o y e)

  pub flits_past : (x o y : ℕ) → neighbour_of mesh x o ≡ Some y
      → (get_or (links_by mesh links inboxes) (links_before mesh x o) blank_link).flits
      ≡ come of_flits mesh links inboxes y (opposite_of o)
  unfolding link_by
  flits_past x o y e =
      ap (λ (l : LinkView). l.flits) (link_at x o y e)
      ∙ ap (λ (n : Option ℕ). flits_beyond mesh links inboxes o n) e
