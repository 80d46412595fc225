-- Which links a route crosses: read off the route, and as a test that computes (Dally and Towles, chapter 8).
use Rattle.std.specs.Prelude.{ℕ, ◌≡◌, ◌-◌, ◌/◌, ◌%◌, ◌==◌, nat_lt, nat_le, ◌&&◌, Bool, false, cond, List, [], ◌∷◌, ◌++◌}
use Rattle.worm_mesh.specs.Address.{Joins}
use Rattle.worm_route.specs.Route.{route_of}

-- on the route from `src` to `dst` node x is followed by its neighbour at this port
pub record Follows (ks : List ℕ) (x port src dst : ℕ) : Type 0 where
  pub to : ℕ
  pub joined : Joins ks x port to
  pub before : List ℕ
  pub later : List ℕ
  pub route : route_of ks src dst ≡ before ++ x ∷ to ∷ later

-- whether a digit that runs from one value to another, which it does not leave, steps down from `at`; whether it steps
-- up from it
abbrev pub steps_down : ℕ → ℕ → ℕ → Bool
steps_down at first last = nat_le at first && nat_lt last at

abbrev pub steps_up : ℕ → ℕ → ℕ → Bool
steps_up at first last = nat_le first at && nat_lt at last

-- Whether the route from `src` to `dst` crosses the link that leaves node x by this port. A route corrects the lowest
-- dimension first. So where it leaves x by a port of dimension d, x agrees with the destination below d and with the
-- source above d, and its digit d lies between theirs.
abbrev pub crosses : List ℕ → ℕ → ℕ → ℕ → ℕ → Bool
crosses [] x port src dst = false
crosses (k ∷ ks) x port src dst =
    cond (port == 0) (steps_down (x % k) (src % k) (dst % k) && (x / k == src / k))
    (cond (port == 1) (steps_up (x % k) (src % k) (dst % k) && (x / k == src / k))
    ((x % k == dst % k) && crosses ks (x / k) (port - 2) (src / k) (dst / k)))
