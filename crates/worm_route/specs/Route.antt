-- Dimension-order routes (Dally and Towles, chapter 8). A route is a whole list of nodes, by their addresses.
use Rattle.std.specs.Prelude.{ℕ, zero, suc, ◌≡◌, ◌+◌, ◌-◌, cond, nat_lt, nat_le, ◌==◌, List, [], ◌∷◌, ◌++◌, length}
use Rattle.std.specs.Prelude.{take, drop, map, flat_map, slice_index, unwrap_or}
use Rattle.worm_mesh.specs.Address.{address_of, number_of, neighbour_of, Joins}

-- the n numbers from a upwards
abbrev pub rising : ℕ → ℕ → List ℕ
rising a zero = []
rising a (suc n) = a ∷ rising (a + 1) n

-- the n numbers from a downwards
abbrev pub falling : ℕ → ℕ → List ℕ
falling a zero = []
falling a (suc n) = a ∷ falling (a - 1) n

-- the numbers from a to b by ones, b itself left out
abbrev pub run_to : ℕ → ℕ → List ℕ
run_to a b = cond (nat_le a b) (rising a (b - a)) (falling a (a - b))

-- The leg in dimension d: the digits below d are those of t already, the digits above d are still those of s, and digit
-- d runs from that of s to that of t. The leg's last address is left out, since the next leg begins with it.
abbrev pub leg : List ℕ → List ℕ → ℕ → List (List ℕ)
leg s t d = map (λ x. take d t ++ x ∷ drop (suc d) s) (run_to (slice_index s d) (slice_index t d))

-- the addresses from s to t: the legs of the dimensions from 0 up, and t
abbrev pub route_addresses : List ℕ → List ℕ → List (List ℕ)
route_addresses s t = flat_map (leg s t) (rising 0 (length s)) ++ t ∷ []

-- the route from node s to node t
abbrev pub route_of : List ℕ → ℕ → ℕ → List ℕ
route_of ks s t = map (number_of ks) (route_addresses (address_of ks s) (address_of ks t))

-- how far apart two digits are
abbrev pub digit_distance : ℕ → ℕ → ℕ
digit_distance a b = (a - b) + (b - a)

-- the sum of the digits' distances
abbrev pub distance_of : List ℕ → List ℕ → ℕ
distance_of [] t = 0
distance_of (a ∷ s) [] = 0
distance_of (a ∷ s) (b ∷ t) = digit_distance a b + distance_of s t

-- how many links the route from node s to node t takes
abbrev pub hops_of : List ℕ → ℕ → ℕ → ℕ
hops_of ks s t = distance_of (address_of ks s) (address_of ks t)

-- the port that brings the lowest digit nearer that differs, where `port` is the minus port of the first digit's
-- dimension; past the last digit, the terminal
abbrev pub port_from : ℕ → List ℕ → List ℕ → ℕ
port_from port [] t = port
port_from port (a ∷ s) [] = port
port_from port (a ∷ s) (b ∷ t) = cond (a == b) (port_from (port + 2) s t) (cond (nat_lt a b) (port + 1) port)

-- the port by which the route from `here` to `dst` leaves `here`
abbrev pub port_of : List ℕ → ℕ → ℕ → ℕ
port_of ks here dst = port_from 0 (address_of ks here) (address_of ks dst)

-- the nodes that leaving each node by its port for `dst` passes in n steps
abbrev pub walk : List ℕ → ℕ → ℕ → ℕ → List ℕ
walk ks dst zero here = here ∷ []
walk ks dst (suc n) here = here ∷ walk ks dst n (unwrap_or (neighbour_of ks here (port_of ks here dst)) here)

-- `port` of `here` leads to the next node of the route to `dst`
pub record LeadsOn (ks : List ℕ) (here port dst : ℕ) : Type 0 where
  pub to : ℕ
  pub joined : Joins ks here port to
  pub route : route_of ks here dst ≡ here ∷ route_of ks to dst
