-- The fixed parts of a network: its nodes and links, its routes, its classes and their channels
-- (Dally and Towles, chapters 5, 8 and 13).
use Rattle.std.specs.Prelude.{◌≡◌, ℕ, suc, ◌<◌, Option, Some, None}
use Rattle.worm_flit.specs.declared.Lane.{Lane}

pub record Shape : Type 0 where
  pub nodes : ℕ
  pub classes : ℕ
  pub vcs : ℕ
  -- how many flits a buffer holds
  pub depth : ℕ
  -- the terminal port
  pub terminal : ℕ
  -- the node that a port leads to
  pub neighbour : ℕ → ℕ → Option ℕ
  -- the port by which what leaves by this one arrives
  pub opposite : ℕ → ℕ
  -- the port by which a node sends what is for a destination
  pub next_port : ℕ → ℕ → ℕ
  -- how many links the route from a node to a destination has
  pub hops : ℕ → ℕ → ℕ
  -- the class that owns a channel, and a class's first channel
  pub owner : ℕ → ℕ
  pub first : ℕ → ℕ

-- the channel is there, and the class owns it
abbrev pub Owns : Shape → ℕ → ℕ → Type 0
Owns s class c = (c < s.vcs) × (s.owner c ≡ class)

-- the class owns this channel alone
abbrev pub OwnsAlone : Shape → ℕ → ℕ → Type 0
OwnsAlone s class c = (v : ℕ) → Owns s class v → v ≡ c

-- the class owns one channel, its first
abbrev pub OwnsOne : Shape → ℕ → Type 0
OwnsOne s class = OwnsAlone s class (s.first class)

-- What the theory asks of a shape: a link has two ends, the terminal none; a class owns its first channel; and
-- routes lead home.
pub record IsMesh (s : Shape) : Type 0 where
  pub link_back : (x p y : ℕ) → s.neighbour x p ≡ Some y → s.neighbour y (s.opposite p) ≡ Some x
  pub opposite_twice : (x p y : ℕ) → s.neighbour x p ≡ Some y → s.opposite (s.opposite p) ≡ p
  pub terminal_alone : (x : ℕ) → s.neighbour x s.terminal ≡ None
  pub first_owned : (class : ℕ) → class < s.classes → Owns s class (s.first class)
  -- a route ends at its destination, by the terminal, and else each of its links leads one link nearer
  pub arrives : (x d : ℕ) → x < s.nodes → d < s.nodes → s.hops x d ≡ 0 → (x ≡ d) × (s.next_port x d ≡ s.terminal)
  pub goes_on : (x d n : ℕ) → x < s.nodes → d < s.nodes → s.hops x d ≡ suc n
      → (y : ℕ) × (s.neighbour x (s.next_port x d) ≡ Some y) × (y < s.nodes) × (s.hops y d ≡ n)

-- the network has this lane
pub record HasLane (s : Shape) (lane : Lane) : Type 0 where
  pub source : lane.src < s.nodes
  pub destination : lane.dst < s.nodes
  pub class : lane.class < s.classes

-- the route of the lane enters this node by this port: at its source by the terminal, then by one link after another
pub data Enters (s : Shape) (lane : Lane) : ℕ → ℕ → Type 0 where
  at_source : Enters s lane lane.src s.terminal
  by_link : {x p y : ℕ} → Enters s lane x p → s.neighbour x (s.next_port x lane.dst) ≡ Some y
      → Enters s lane y (s.opposite (s.next_port x lane.dst))
