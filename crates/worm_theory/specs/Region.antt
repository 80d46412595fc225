-- A part as its owner keeps it: the places of a network, of which the owner moves some nodes by the network's own
-- steps.
use Rattle.std.specs.Prelude.{◌≡◌, ◌↔◌, ℕ, ◌≤◌, Bool, true, false, cond, List, [], ◌++◌, length, All, Some, None}
use Rattle.std.specs.Prelude.{IfSome}
use Rattle.worm_flit.specs.declared.Lane.{Lane}
use Rattle.worm_flit.specs.declared.Flit.{Flit}
use Rattle.worm_records.specs.declared.InRecord.TheVariants.{Active}
use Rattle.worm_theory.specs.Worm.{worm_after}
use Rattle.worm_theory.specs.Shape.{Shape}
use Rattle.worm_theory.specs.Network.{Network}
use Rattle.worm_theory.specs.Sound.{InBuffer, Agrees, Passes, IsFrom, IsHistory, Leaves}
use Rattle.worm_theory.specs.Steps.{lane_injected}
use Rattle.worm_theory.specs.Parts.{Parts}
use Rattle.worm_theory.specs.PartSound.{PartHolds}
use Rattle.worm_theory.specs.Links.{LinkHolds, MayArrive}

-- All that came and went since the split, which no place of a network holds: what each port sent, the credits that it
-- counted, what arrived at it and left it, the credits that it gave.
pub record Since : Type 0 where
  pub sent : ℕ → ℕ → List Flit
  pub counted : ℕ → ℕ → List ℕ
  pub arrived : ℕ → ℕ → List Flit
  pub departed : ℕ → ℕ → List Flit
  pub given : ℕ → ℕ → List ℕ

-- the nodes of a network, with all that came and went
abbrev pub parts_of : Network → Since → Parts
parts_of net since = record {
  near = record net { out = since.sent; credit_list = since.counted };
  arrived = since.arrived;
  departed = since.departed;
  given = since.given;
}

-- The network as the part has it that owns these nodes; all others stand as at the split. Since then `taken` came off
-- the links that enter it, by the node and port that they come from, and `returned` off the credit lines of those that
-- leave it.
pub record IsPart (s : Shape) (old : Network) (own : ℕ → Bool) (net : Network) (taken : ℕ → ℕ → List Flit)
    (returned : ℕ → ℕ → List ℕ) : Type 0 where
  pub since : Since
  pub holds : PartHolds s old (parts_of net since)
  -- a link within the part has what is on it, and its credit line too
  pub within : (y o x : ℕ) → s.neighbour y o ≡ Some x → own y ≡ true → own x ≡ true →
      LinkHolds s (parts_of net since) y o x (net.out y o) (net.credit_list y o)
  -- a link that leaves it has all that was sent on it since the split; its credit line has what came back and is not
  -- counted
  pub leaving : (y o x : ℕ) → s.neighbour y o ≡ Some x → own y ≡ true → own x ≡ false →
      (since.sent y o ≡ old.out y o ++ net.out y o) ×
      (old.credit_list y o ++ returned y o ≡ since.counted y o ++ net.credit_list y o)
  -- a link that enters it has what came off it and is in no buffer; its credit line has all that was given since the
  -- split
  pub entering : (y o x : ℕ) → s.neighbour y o ≡ Some x → own y ≡ false → own x ≡ true →
      (old.out y o ++ taken y o ≡ since.arrived x (s.opposite o) ++ net.out y o) ×
      MayArrive s old (parts_of net since) x (s.opposite o) (net.out y o) ×
      (since.given x (s.opposite o) ≡ old.credit_list y o ++ net.credit_list y o)
  -- a port with no link has all that it sent, at the terminal the sink's list
  pub ends : (x o : ℕ) → s.neighbour x o ≡ None → own x ≡ true → since.sent x o ≡ net.out x o

-- a network's places at some nodes, and another's at all others; its links and credit lines stay
abbrev pub among : (ℕ → Bool) → Network → Network → Network
among own net other = record net {
  buffer = λ x. cond (own x) (net.buffer x) (other.buffer x);
  in_record = λ x. cond (own x) (net.in_record x) (other.in_record x);
  last_out = λ x. cond (own x) (net.last_out x) (other.last_out x);
  owed = λ x. cond (own x) (net.owed x) (other.owed x);
  holder = λ x. cond (own x) (net.holder x) (other.holder x);
  credits = λ x. cond (own x) (net.credits x) (other.credits x);
  injected = λ x. cond (own x) (net.injected x) (other.injected x);
  unfed = λ x. cond (own x) (net.unfed x) (other.unfed x);
}

-- the same of a network that says anything of the nodes that are not owned
abbrev pub HasPart : Shape → Network → (ℕ → Bool) → Network → (ℕ → ℕ → List Flit) → (ℕ → ℕ → List ℕ) → Type 0
HasPart s old own net taken returned = IsPart s old own (among own net old) taken returned

-- What a part knows of its own nodes, and of the links to them.
pub record OwnSound (s : Shape) (own : ℕ → Bool) (net : Network) : Type 0 where
  -- what is in a buffer is of its channel and came by its route; so did what left it last; and there is no more than
  -- its depth
  pub buffered : (x p v : ℕ) → own x ≡ true → All (InBuffer s x p v) (net.buffer x p v)
  pub passed : (x p v : ℕ) → own x ≡ true → IfSome (net.last_out x p v) (Passes s x p v)
  pub fits : (x p v : ℕ) → own x ≡ true → length (net.buffer x p v) ≤ s.depth
  -- a channel's record fits its packet, and an output channel is held by the one that is active for it
  pub records : (x p v : ℕ) → own x ≡ true →
      Agrees s x (net.in_record x p v) (worm_after (net.last_out x p v)) (net.buffer x p v)
  pub holders : (x o c p v : ℕ) → own x ≡ true → (net.holder x o c ≡ Some (p, v)) ↔ (net.in_record x p v ≡ Active o c)
  -- what a source accepted, and has yet to feed, is of lanes that start there; each lane's list is whole packets by
  -- number
  pub accepted : (x k : ℕ) → own x ≡ true → All (IsFrom s x k) (net.injected x k)
  pub unfed : (x k : ℕ) → own x ≡ true → All (IsFrom s x k) (net.unfed x k)
  pub histories : (lane : Lane) → own lane.src ≡ true → IsHistory lane (lane_injected net lane)
  -- what is on a link to the node, or in its sink, has a channel of its class, and its route leads there
  pub arriving : (y o x : ℕ) → s.neighbour y o ≡ Some x → own x ≡ true → All (Leaves s y o) (net.out y o)
  pub sunk : (x : ℕ) → own x ≡ true → All (Leaves s x s.terminal) (net.out x s.terminal)

-- What such a part has at first: its nodes and the links to them as they were, but nothing on the links that leave it,
-- nor on the credit lines of those that enter it.
pub record Begins (s : Shape) (old : Network) (own : ℕ → Bool) (net : Network) : Type 0 where
  -- the nodes
  pub buffer : (x p v : ℕ) → own x ≡ true → net.buffer x p v ≡ old.buffer x p v
  pub in_record : (x p v : ℕ) → own x ≡ true → net.in_record x p v ≡ old.in_record x p v
  pub last_out : (x p v : ℕ) → own x ≡ true → net.last_out x p v ≡ old.last_out x p v
  pub owed : (x p v : ℕ) → own x ≡ true → net.owed x p v ≡ old.owed x p v
  pub holder : (x o c : ℕ) → own x ≡ true → net.holder x o c ≡ old.holder x o c
  pub credits : (x o c : ℕ) → own x ≡ true → net.credits x o c ≡ old.credits x o c
  pub injected : (x k : ℕ) → own x ≡ true → net.injected x k ≡ old.injected x k
  pub unfed : (x k : ℕ) → own x ≡ true → net.unfed x k ≡ old.unfed x k
  -- the links
  pub within : (y o x : ℕ) → s.neighbour y o ≡ Some x → own y ≡ true → own x ≡ true →
      (net.out y o ≡ old.out y o) × (net.credit_list y o ≡ old.credit_list y o)
  pub leaving : (y o x : ℕ) → s.neighbour y o ≡ Some x → own y ≡ true → own x ≡ false →
      (net.out y o ≡ []) × (net.credit_list y o ≡ old.credit_list y o)
  pub entering : (y o x : ℕ) → s.neighbour y o ≡ Some x → own y ≡ false → own x ≡ true →
      (net.out y o ≡ old.out y o) × (net.credit_list y o ≡ [])
  pub ends : (x o : ℕ) → s.neighbour x o ≡ None → own x ≡ true → net.out x o ≡ old.out x o
