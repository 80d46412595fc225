-- The definitions at worked values that were taken from outside.
use Rattle.std.proofs.Common.{◌≡◌, true, false, [], ◌∷◌, refl}
use Rattle.worm_route.specs.Route.{route_of, port_of, hops_of, walk}
use Rattle.worm_route.specs.Places.{Source, Buffer, Link, places_of}
use Rattle.worm_route.specs.Crossing.{crosses}

-- a square of four, from 1 to 14
route_in_square : route_of (4 ∷ 4 ∷ []) 1 14 ≡ 1 ∷ 2 ∷ 6 ∷ 10 ∷ 14 ∷ []
route_in_square = refl

walk_in_square : walk (4 ∷ 4 ∷ []) 14 4 1 ≡ 1 ∷ 2 ∷ 6 ∷ 10 ∷ 14 ∷ []
walk_in_square = refl

hops_in_square : hops_of (4 ∷ 4 ∷ []) 1 14 ≡ 4
hops_in_square = refl

first_port : port_of (4 ∷ 4 ∷ []) 1 14 ≡ 1
first_port = refl

port_at_corner : port_of (4 ∷ 4 ∷ []) 2 14 ≡ 3
port_at_corner = refl

port_at_end : port_of (4 ∷ 4 ∷ []) 14 14 ≡ 4
port_at_end = refl

-- three by two, there and back
route_there : route_of (3 ∷ 2 ∷ []) 0 5 ≡ 0 ∷ 1 ∷ 2 ∷ 5 ∷ []
route_there = refl

route_back : route_of (3 ∷ 2 ∷ []) 5 0 ≡ 5 ∷ 4 ∷ 3 ∷ 0 ∷ []
route_back = refl

port_upwards : port_of (3 ∷ 2 ∷ []) 2 5 ≡ 3
port_upwards = refl

port_downwards : port_of (3 ∷ 2 ∷ []) 3 0 ≡ 2
port_downwards = refl

-- the links that these two routes cross, and some that they do not
first_hop : crosses (3 ∷ 2 ∷ []) 0 1 0 5 ≡ true
first_hop = refl

last_hop : crosses (3 ∷ 2 ∷ []) 2 3 0 5 ≡ true
last_hop = refl

hop_back : crosses (3 ∷ 2 ∷ []) 3 2 5 0 ≡ true
hop_back = refl

not_upwards_first : crosses (3 ∷ 2 ∷ []) 0 3 0 5 ≡ false
not_upwards_first = refl

not_against_the_route : crosses (3 ∷ 2 ∷ []) 1 0 0 5 ≡ false
not_against_the_route = refl

not_past_the_corner : crosses (3 ∷ 2 ∷ []) 3 1 0 5 ≡ false
not_past_the_corner = refl

-- a square of three, from 0 to 8: ten places for four hops
places_to_eight : places_of (3 ∷ 3 ∷ []) 0 8
    ≡ Buffer 8 2 ∷ Link 5 3 ∷ Buffer 5 2 ∷ Link 2 3 ∷ Buffer 2 0 ∷ Link 1 1 ∷ Buffer 1 0 ∷ Link 0 1 ∷ Buffer 0 4
    ∷ Source ∷ []
places_to_eight = refl

-- a lane whose source is its destination
places_to_self : places_of (2 ∷ []) 1 1 ≡ Buffer 1 2 ∷ Source ∷ []
places_to_self = refl
