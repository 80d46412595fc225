-- The definitions at worked values that were taken from outside.
use Rattle.std.proofs.Common.{◌≡◌, Some, None, [], ◌∷◌, refl}
use Rattle.worm_mesh.specs.Address.{node_count, address_of, neighbour_of}
use Rattle.worm_mesh.specs.Links.{link_count, links_before, channels_in}

-- a square of four: 48 links
nodes_of_square : node_count (4 ∷ 4 ∷ []) ≡ 16
nodes_of_square = refl

links_of_square : link_count (4 ∷ 4 ∷ []) ≡ 48
links_of_square = refl

channels_in_square : channels_in 16 (4 ∷ 4 ∷ []) ≡ 48
channels_in_square = refl

-- a line of two: its first link leaves node 0 by port 1, its second node 1 by port 0
first_of_line : links_before (2 ∷ []) 0 1 ≡ 0
first_of_line = refl

second_of_line : links_before (2 ∷ []) 1 0 ≡ 1
second_of_line = refl

-- three by two: six nodes, 14 links, of which two are numbered here
nodes_of_six : node_count (3 ∷ 2 ∷ []) ≡ 6
nodes_of_six = refl

address_of_last : address_of (3 ∷ 2 ∷ []) 5 ≡ 2 ∷ 1 ∷ []
address_of_last = refl

links_of_six : link_count (3 ∷ 2 ∷ []) ≡ 14
links_of_six = refl

upwards_from_corner : links_before (3 ∷ 2 ∷ []) 0 3 ≡ 1
upwards_from_corner = refl

upwards_from_middle : links_before (3 ∷ 2 ∷ []) 1 3 ≡ 4
upwards_from_middle = refl

neighbour_above : neighbour_of (3 ∷ 2 ∷ []) 2 3 ≡ Some 5
neighbour_above = refl

no_neighbour_past_edge : neighbour_of (3 ∷ 2 ∷ []) 2 1 ≡ None
no_neighbour_past_edge = refl
