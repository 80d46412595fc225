-- What comes into a part of a network and goes out of it over links that are kept elsewhere: a flit that leaves is a
-- Send but for the link, a credit that is given a GiveCredit but for the list; what comes stands at the end of its
-- link (Dally and Towles, chapter 13).
use Rattle.std.specs.Prelude.{◌≡◌, ℕ, ◌++◌, ◌∷◌, [], Some}
use Rattle.worm_flit.specs.declared.Flit.{Flit}
use Rattle.worm_mesh.specs.Address.{neighbour_of, opposite_of}
use Rattle.worm_router.specs.Router.{after_send, after_gave}
use Rattle.worm_theory.specs.Network.{put2}
use Rattle.worm_theory.specs.Steps.{Send, GiveCredit, Enabled, IsLinked, after}
use Rattle.worm_region.specs.State.{NetState, shape, network_of, router_at, link_at, with_router, with_link}
use Rattle.worm_region.specs.Moves.{link_into, link_out}

-- the ready flit left the node
pub record LetsOut (old : NetState) (x p v : ℕ) (new : NetState) : Type 0 where
  pub exact : new ≡ with_router old x (after_send (router_at old x) p v)
  pub enabled : Enabled (shape old) (network_of old) (Send x p v)
  pub after_it : network_of new ≡ record (after (shape old) (network_of old) (Send x p v)) {
    out = (network_of old).out;
  }

-- the node gave the credit
pub record LetsGive (old : NetState) (x p v : ℕ) (new : NetState) : Type 0 where
  pub exact : new ≡ with_router old x (after_gave (router_at old x) p v)
  pub enabled : Enabled (shape old) (network_of old) (GiveCredit x p v)
  pub after_it :
      network_of new ≡ record (after (shape old) (network_of old) (GiveCredit x p v)) {
        credit_list = (network_of old).credit_list;
      }

-- the lists with a flit more at the end of the link out of a node by a port; with a credit more of the link into one
abbrev pub after_arriving : NetState → ℕ → ℕ → Flit → NetState
after_arriving s x o f =
    let link = link_at s (link_out s x o) in
    with_link s (link_out s x o) (record link { flits = link.flits ++ f ∷ [] })

abbrev pub after_credit_back : NetState → ℕ → ℕ → ℕ → NetState
after_credit_back s x p v =
    let link = link_at s (link_into s x p) in
    with_link s (link_into s x p) (record link { credits = link.credits ++ v ∷ [] })

-- the flit came onto the link
pub record Arrives (old : NetState) (x o : ℕ) (f : Flit) (new : NetState) : Type 0 where
  pub exact : new ≡ after_arriving old x o f
  pub after_it :
      let net = network_of old in network_of new ≡ record net { out = put2 net.out x o (net.out x o ++ f ∷ []) }

-- the credit came onto its way back, to the node y at the link's other end
pub record ComesBack (old : NetState) (x p v : ℕ) (new : NetState) : Type 0 where
  pub exact : new ≡ after_credit_back old x p v
  pub after_it : (y : ℕ) → neighbour_of old.mesh x p ≡ Some y →
      let net = network_of old in
      let o = opposite_of p in
      network_of new ≡ record net { credit_list = put2 net.credit_list y o (net.credit_list y o ++ v ∷ []) }

-- the same by the port at the link's other end: a flit that came in by a port, from the node y beyond it, and a credit
-- that came back over the link out of one
abbrev pub ArrivesBy : NetState → ℕ → ℕ → Flit → NetState → Type 0
ArrivesBy old x p f new = IsLinked (neighbour_of old.mesh x p) (λ y. Arrives old y (opposite_of p) f new)

abbrev pub ComesBackBy : NetState → ℕ → ℕ → ℕ → NetState → Type 0
ComesBackBy old x o v new = IsLinked (neighbour_of old.mesh x o) (λ y. ComesBack old y (opposite_of o) v new)
