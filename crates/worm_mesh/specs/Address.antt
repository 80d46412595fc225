-- Nodes as addresses (Dally and Towles, chapter 5). A list of radices stands for the mesh. An address is a list of
-- digits, one for each dimension, digit d in radix d.
use Rattle.std.specs.Prelude.{ℕ, ◌≡◌, ◌≢◌, ◌+◌, ◌-◌, ◌*◌, ◌/◌, ◌%◌, ◌<◌, ◌≤◌, Bool, ◌&&◌, ◌⊎◌, cond, nat_lt, nat_eq}
use Rattle.std.specs.Prelude.{List, [], ◌∷◌, length, take, set, All, Option, Some, None, slice_index}

-- how many nodes there are: the product of the radices
abbrev pub node_count : List ℕ → ℕ
node_count [] = 1
node_count (k ∷ ks) = k * node_count ks

-- how far apart two nodes are numbered that differ by one in digit d: the product of the radices below d
abbrev pub stride_of : List ℕ → ℕ → ℕ
stride_of ks d = node_count (take d ks)

-- the sum of each digit times the product of the radices below it, all times `weight`
abbrev pub weighted_sum : ℕ → List ℕ → List ℕ → ℕ
weighted_sum weight [] ds = 0
weighted_sum weight (k ∷ ks) [] = 0
weighted_sum weight (k ∷ ks) (d ∷ ds) = d * weight + weighted_sum (weight * k) ks ds

-- the node that has this address
abbrev pub number_of : List ℕ → List ℕ → ℕ
number_of ks ds = weighted_sum 1 ks ds

-- the address of a node
abbrev pub address_of : List ℕ → ℕ → List ℕ
address_of [] node = []
address_of (k ∷ ks) node = node % k ∷ address_of ks (node / k)

-- digit d of a node's address
abbrev pub digit_of : List ℕ → ℕ → ℕ → ℕ
digit_of ks node d = slice_index (address_of ks node) d

-- `ds` is the address of `node`
pub record IsAddress (ks : List ℕ) (node : ℕ) (ds : List ℕ) : Type 0 where
  pub one_each : length ds ≡ length ks
  pub in_radix : (d : ℕ) → d < length ks → slice_index ds d < slice_index ks d
  pub numbered : number_of ks ds ≡ node

-- a radix is 2 to 16
abbrev pub IsRadix : ℕ → Type 0
IsRadix k = (2 ≤ k) × (k ≤ 16)

-- the limits on a mesh
pub record AreRadices (ks : List ℕ) : Type 0 where
  pub some_dims : 0 < length ks
  pub few_dims : length ks ≤ 3
  pub radices : All IsRadix ks
  pub few_nodes : node_count ks ≤ 256

-- Port 2d is the minus side of dimension d, port 2d+1 its plus side. Leaving by `port` takes digit a to digit b: on the
-- minus side b + 1 is a, on the plus side b is a + 1.
abbrev pub Shifts : ℕ → ℕ → ℕ → Type 0
Shifts port a b = b + (1 - port % 2) ≡ a + port % 2

-- `to` is the neighbour of `from` at `port`: their addresses differ in the one digit of the port's dimension, by one
pub record Joins (ks : List ℕ) (from port to : ℕ) : Type 0 where
  pub from_node : from < node_count ks
  pub to_node : to < node_count ks
  pub mesh_port : port < 2 * length ks
  pub shifted : Shifts port (digit_of ks from (port / 2)) (digit_of ks to (port / 2))
  pub others : (d : ℕ) → d ≢ port / 2 → digit_of ks to d ≡ digit_of ks from d

-- two addresses differ in exactly one digit, and there by one
pub record DifferInOne (xs ys : List ℕ) (d : ℕ) : Type 0 where
  pub by_one : (slice_index xs d ≡ slice_index ys d + 1) ⊎ (slice_index ys d ≡ slice_index xs d + 1)
  pub others : (e : ℕ) → e ≢ d → slice_index ys e ≡ slice_index xs e

-- two nodes of the mesh whose addresses differ by one in exactly one digit
pub record AreNeighbours (ks : List ℕ) (from to : ℕ) : Type 0 where
  pub from_node : from < node_count ks
  pub to_node : to < node_count ks
  pub one_digit : (d : ℕ) × (d < length ks) × DifferInOne (address_of ks from) (address_of ks to) d

-- whether the digit of the port's dimension can step to the port's side: down where it is above 0, up where it is not
-- the last
abbrev pub has_room : List ℕ → ℕ → ℕ → Bool
has_room ks node port =
    cond (nat_eq (port % 2) 0) (nat_lt 0 (digit_of ks node (port / 2)))
    (nat_lt (digit_of ks node (port / 2) + 1) (slice_index ks (port / 2)))

-- whether `node` has a neighbour at `port`, both of them the mesh's
abbrev pub has_neighbour : List ℕ → ℕ → ℕ → Bool
has_neighbour ks node port = nat_lt node (node_count ks) && (nat_lt port (2 * length ks) && has_room ks node port)

-- the address that leaving an address by `port` leads to
abbrev pub shifted : ℕ → List ℕ → List ℕ
shifted port ds = set ds (port / 2) (slice_index ds (port / 2) + port % 2 - (1 - port % 2))

-- the neighbour at `port`
abbrev pub neighbour_of : List ℕ → ℕ → ℕ → Option ℕ
neighbour_of ks node port =
    cond (has_neighbour ks node port) (Some (number_of ks (shifted port (address_of ks node)))) None

-- the port of the same dimension on the other side
abbrev pub opposite_of : ℕ → ℕ
opposite_of port = port + 1 - 2 * (port % 2)
