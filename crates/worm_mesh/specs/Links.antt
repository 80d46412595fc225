-- Links and their numbers (Dally and Towles, chapter 5, call links channels). A link is named by the node and the port
-- that it leaves by.
use Rattle.std.specs.Prelude.{ℕ, zero, suc, ◌≡◌, ◌+◌, ◌-◌, ◌*◌, ◌/◌, ◌%◌, Bool, cond, nat_lt, List, [], ◌∷◌, length}
use Rattle.worm_mesh.specs.Address.{node_count, has_neighbour, Joins}

-- how many numbers below n pass
abbrev pub count_below : (ℕ → Bool) → ℕ → ℕ
count_below test zero = 0
count_below test (suc n) = count_below test n + cond (test n) 1 0

-- the sum over the numbers below n
abbrev pub sum_below : (ℕ → ℕ) → ℕ → ℕ
sum_below f zero = 0
sum_below f (suc n) = sum_below f n + f n

-- how many links leave `node` by a port below `port`
abbrev pub links_below_port : List ℕ → ℕ → ℕ → ℕ
links_below_port ks node port = count_below (has_neighbour ks node) port

-- how many links leave `node`
abbrev pub degree_of : List ℕ → ℕ → ℕ
degree_of ks node = links_below_port ks node (2 * length ks)

-- how many links come before the one that leaves `node` by `port`, by rising node, then rising port
abbrev pub links_before : List ℕ → ℕ → ℕ → ℕ
links_before ks node port = sum_below (degree_of ks) node + links_below_port ks node port

-- how many links there are
abbrev pub link_count : List ℕ → ℕ
link_count ks = sum_below (degree_of ks) (node_count ks)

-- there is a link out of `node` by `port`
abbrev pub IsLink : List ℕ → ℕ → ℕ → Type 0
IsLink ks node port = (to : ℕ) × Joins ks node port to

-- no two links have one number
abbrev pub IsNumbering : List ℕ → Type 0
IsNumbering ks =
    (x p y q : ℕ) → IsLink ks x p → IsLink ks y q → links_before ks x p ≡ links_before ks y q → (x ≡ y) × (p ≡ q)

-- on how many sides a digit can step
abbrev pub sides_of : ℕ → ℕ → ℕ
sides_of k a = cond (nat_lt 0 a) 1 0 + cond (nat_lt (a + 1) k) 1 0

-- how many links leave a node, by its digits
abbrev pub degree_by_digits : List ℕ → ℕ → ℕ
degree_by_digits [] node = 0
degree_by_digits (k ∷ ks) node = sides_of k (node % k) + degree_by_digits ks (node / k)

-- how many links leave the nodes of `row` whole rows, each one run of the lowest digit of radix k, and the first
-- `digit` nodes of the next row, where `below` links of the higher dimensions leave the rows before it and `here` leave
-- it
abbrev pub links_in_rows : ℕ → ℕ → ℕ → ℕ → ℕ → ℕ
links_in_rows k row digit below here = row * (2 * (k - 1)) + k * below + (digit - 1 + digit) + digit * here

-- the number of channels as the book has it: 2 * (k - 1) * nodes / k in each dimension of radix k
abbrev pub channels_in : ℕ → List ℕ → ℕ
channels_in nodes [] = 0
channels_in nodes (k ∷ ks) = 2 * (k - 1) * nodes / k + channels_in nodes ks
