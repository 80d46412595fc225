-- What another worker's node sent or gave comes in by an own port: whether something does, and what the lists are then,
-- told from the link's other end.
use Rattle.std.proofs.Common.{◌≡◌, ℕ, ◌<◌, ◌∷◌, ◌++◌, [], false, sum, Option, Some, None, refl, ap, subst, ◌∙◌}
use Rattle.std.specs.Prelude.{IsSome}
use Rattle.worm_flit.specs.SmallSet.{has}
use Rattle.worm_flit.specs.declared.Flit.{Flit}
use Rattle.worm_mesh.specs.Address.{neighbour_of, node_count, opposite_of}
use Rattle.worm_mesh.proofs.Neighbours.{opposite_twice}
use Rattle.worm_theory.specs.Steps.{IsLinked}
use Rattle.worm_wires.specs.Arrivals.{AreFronts, credits_of, credits_to, flits_of, flits_to, has_front}
use Rattle.worm_wires.specs.Wiring.{into_from}
use Rattle.worm_wires.proofs.Called.{linked_of}
use Rattle.worm_region.specs.Edges.{Arrives, ArrivesBy, ComesBack, ComesBackBy}
use Rattle.worm_region.specs.Moves.{link_into, link_out}
use Rattle.worm_region.specs.Shape.{net_shape}
use Rattle.worm_region.specs.State.{NetState, link_at, shape, with_link}
use Rattle.worm_region.specs.Workable.{EndsElsewhere, IsWorkable, owned}
use Rattle.worm_region.proofs.EdgeMoves.{arrived, credited}
use Rattle.worm_region.proofs.FrameKept.{framed_mesh}
use Rattle.worm_region.proofs.LinkedPorts.{links_of}

-- a set of ports tells whether one comes in by a port

pub flit_told : (s : NetState) (x p set : ℕ) → AreFronts (flits_to (links_of s) x) set
    → IsSome (neighbour_of s.mesh x p) → p < 8 → has set p ≡ has_front (link_at s (link_into s x p)).flits
flit_told s x p set fronts linked p_in =
    fronts p p_in
    ∙ ap (λ (n : Option ℕ). has_front (flits_of s.links n))
    (linked_of s.mesh s.links (links_of s) x p refl linked).into

pub credit_told : (s : NetState) (x o set : ℕ) → AreFronts (credits_to (links_of s) x) set
    → IsSome (neighbour_of s.mesh x o) → o < 8 → has set o ≡ has_front (link_at s (link_out s x o)).credits
credit_told s x o set fronts linked o_in =
    fronts o o_in
    ∙ ap (λ (n : Option ℕ). has_front (credits_of s.links n))
    (linked_of s.mesh s.links (links_of s) x o refl linked).out

-- a port that leads elsewhere has a link

by_end : (n : Option ℕ) (P : ℕ → Type 0) → IsLinked n P → IsSome n
by_end None P linked = absurd linked
by_end (Some y) P linked = refl

pub elsewhere_linked : (s : NetState) (x p : ℕ) → EndsElsewhere (shape s) (owned s) x p
    → IsSome (neighbour_of s.mesh x p)
unfolding net_shape
elsewhere_linked s x p crosses = by_end (neighbour_of s.mesh x p) (λ y. owned s y ≡ false) crosses

-- a flit more on the link into a port, whose neighbour is this
abbrev into_by : NetState → ℕ → Flit → Option ℕ → NetState
into_by s p f n =
    let link = link_at s (into_from s.mesh p n) in
    with_link s (into_from s.mesh p n) (record link { flits = link.flits ++ f ∷ [] })

abbrev pub after_flit_in : NetState → ℕ → ℕ → Flit → NetState
after_flit_in s x p f = into_by s p f (neighbour_of s.mesh x p)

pub flit_comes : (s : NetState) (x p : ℕ) (f : Flit) → IsWorkable s → EndsElsewhere (shape s) (owned s) x p
    → f.vc < sum s.channels → f.lane.dst < node_count s.mesh
    → IsWorkable (after_flit_in s x p f) × ArrivesBy s x p f (after_flit_in s x p f)
unfolding net_shape
flit_comes s x p f net crosses channel goal = by_link (neighbour_of s.mesh x p) refl crosses where
  by_link : (n : Option ℕ) → neighbour_of s.mesh x p ≡ n → IsLinked n (λ y. owned s y ≡ false)
      → IsWorkable (into_by s p f n) × IsLinked n (λ y. Arrives s y (opposite_of p) f (into_by s p f n))
  by_link None e elsewhere = absurd elsewhere
  by_link (Some y) e elsewhere =
      let back : neighbour_of s.mesh y (opposite_of p) ≡ Some x = (framed_mesh s net.framed).link_back x p y e in
      arrived s y (opposite_of p) f net elsewhere (rw back refl) channel goal

-- a credit more on the way back over the link of this number
abbrev with_credit : NetState → ℕ → ℕ → NetState
with_credit s v k = let link = link_at s k in with_link s k (record link { credits = link.credits ++ v ∷ [] })

abbrev pub after_credit_in : NetState → ℕ → ℕ → ℕ → NetState
after_credit_in s x o v = with_credit s v (link_out s x o)

pub credit_comes : (s : NetState) (x o v : ℕ) → IsWorkable s → EndsElsewhere (shape s) (owned s) x o
    → v < sum s.channels → IsWorkable (after_credit_in s x o v) × ComesBackBy s x o v (after_credit_in s x o v)
unfolding net_shape
credit_comes s x o v net crosses channel = by_link (neighbour_of s.mesh x o) refl crosses where
  by_link : (n : Option ℕ) → neighbour_of s.mesh x o ≡ n → IsLinked n (λ y. owned s y ≡ false)
      → IsWorkable (after_credit_in s x o v)
      × IsLinked n (λ y. ComesBack s y (opposite_of o) v (after_credit_in s x o v))
  by_link None e elsewhere = absurd elsewhere
  by_link (Some y) e elsewhere =
      let back : neighbour_of s.mesh y (opposite_of o) ≡ Some x = (framed_mesh s net.framed).link_back x o y e in
      let same : link_into s y (opposite_of o) ≡ link_out s x o =
      ap (λ (n : Option ℕ). into_from s.mesh (opposite_of o) n) back
      ∙ ap (λ (q : ℕ). link_out s x q) (opposite_twice o) in
      subst (λ (k : ℕ). IsWorkable (with_credit s v k) × ComesBack s y (opposite_of o) v (with_credit s v k)) same
      (credited s y (opposite_of o) v net elsewhere (rw back refl) channel)
