-- A link that is written is a change at one place of the theory's functions, and of no other.
use Rattle.std.proofs.Common.{◌≡◌, ℕ, ◌*◌, ◌<◌, true, false, cond, ◌==◌, inl, inr, length, refl, arith, ap, ◌∙◌}
use Rattle.std.proofs.Math.ListN.{length-set}
use Rattle.std.proofs.lemmas.List.{get_or-set_other, get_or-set_same}
use Rattle.worm_mesh.specs.Address.{has_neighbour}
use Rattle.worm_mesh.specs.Links.{links_before}
use Rattle.worm_mesh.proofs.Digits.{AreLarge-from_radices}
use Rattle.worm_mesh.proofs.Neighbours.{IsLink-from_test}
use Rattle.worm_mesh.proofs.Numbers.{one_link, below_count}
use Rattle.worm_theory.specs.Network.{same, put2}
use Rattle.worm_theory.proofs.Places.{bool_cases, number_cases, place_cases, same-false}
use Rattle.worm_theory.proofs.Bridge.{same_network}
use Rattle.worm_region.specs.State.{NetState, IsFramed, network_of, node_at, link_at, link_of, with_link}
use Rattle.worm_wires.specs.Links.{LinkView, blank_link}

pub below_not_same : (q t : ℕ) → q < t → (q == t) ≡ false
below_not_same q t h = grind arith

pub link_there : (s : NetState) (x o : ℕ) → has_neighbour s.mesh x o ≡ true →
    link_of s x o ≡ link_at s (links_before s.mesh x o)
link_there s x o e = rw e refl

pub link_of-put : (s : NetState) (x o : ℕ) (l : LinkView) → IsFramed s → has_neighbour s.mesh x o ≡ true → (y q : ℕ)
    → link_of (with_link s (links_before s.mesh x o) l) y q ≡ cond (same y q x o) l (link_of s y q)
link_of-put s x o l framed there y q =
    let large = AreLarge-from_radices s.mesh framed.radices.radices in
    let all = framed.all_links in
    let link = IsLink-from_test s.mesh x o large there in
    let bound : links_before s.mesh x o < length s.links = omega (arith, below_count s.mesh large x o link) in
    elim (bool_cases (has_neighbour s.mesh y q)) [
      | inl has ↦ elim (place_cases y q x o) [
        | inl here ↦
            rw (has, here.0) (rw (here.1, here.2)
            (get_or-set_same s.links (links_before s.mesh x o) l blank_link bound))
        | inr away ↦
            rw (has, away.0) (get_or-set_other s.links (links_before s.mesh x o) (links_before s.mesh y q) l blank_link
            (λ e.
            let both = one_link s.mesh large y q x o (IsLink-from_test s.mesh y q large has) link e in
            away.1 both.0 both.1))
      ]
      | inr none ↦
          let away : same y q x o ≡ false =
          same-false y q x o (λ e1 e2.
          let here : has_neighbour s.mesh y q ≡ true = rw (e1, e2) there in absurd (cc)) in
          rw (none, away) refl
    ]

-- the fact for links
pub link_bridge : (s : NetState) (x o : ℕ) (l : LinkView) → IsFramed s → has_neighbour s.mesh x o ≡ true
    → network_of (with_link s (links_before s.mesh x o) l) ≡ record (network_of s) {
      out = put2 (network_of s).out x o l.flits;
      credit_list = put2 (network_of s).credit_list x o l.credits;
    }
unfolding network_of
link_bridge s x o l framed there =
    let large = AreLarge-from_radices s.mesh framed.radices.radices in
    let link = IsLink-from_test s.mesh x o large there in
    let mesh_port : o < 2 * length s.mesh = link.1.mesh_port in
    let new = link_of-put s x o l framed there in
    same_network _ _ record {
      buffer = λ y p v. refl;
      in_record = λ y p v. refl;
      last_out = λ y p v. refl;
      owed = λ y p v. refl;
      holder = λ y p v. refl;
      credits = λ y p v. refl;
      out = λ y q. elim (place_cases y q x o) [
        | inl here ↦
            let at_port : q ≡ o = here.2 in
            let not_terminal : (q == 2 * length s.mesh) ≡ false = below_not_same q (2 * length s.mesh) (omega arith) in
            let at : link_of (with_link s (links_before s.mesh x o) l) y q ≡ l = new y q ∙ rw here.0 refl in
            rw (not_terminal, here.0) (ap (λ (k : LinkView). k.flits) at)
        | inr away ↦
            let at : link_of (with_link s (links_before s.mesh x o) l) y q ≡ link_of s y q =
            new y q ∙ rw away.0 refl in
            rw away.0 (ap (λ (k : LinkView). cond (q == 2 * length s.mesh) (node_at s y).sink.delivered k.flits) at)
      ];
      credit_list = λ y q. elim (place_cases y q x o) [
        | inl here ↦
            let at : link_of (with_link s (links_before s.mesh x o) l) y q ≡ l = new y q ∙ rw here.0 refl in
            rw here.0 (ap (λ (k : LinkView). k.credits) at)
        | inr away ↦
            let at : link_of (with_link s (links_before s.mesh x o) l) y q ≡ link_of s y q =
            new y q ∙ rw away.0 refl in
            rw away.0 (ap (λ (k : LinkView). k.credits) at)
      ];
      injected = λ y k. refl;
      unfed = λ y k. refl;
    }

-- what a link's port leads from in the theory
pub out_there : (s : NetState) (x o : ℕ) → IsFramed s → has_neighbour s.mesh x o ≡ true →
    (network_of s).out x o ≡ (link_at s (links_before s.mesh x o)).flits
unfolding network_of
out_there s x o framed there =
    let large = AreLarge-from_radices s.mesh framed.radices.radices in
    let link = IsLink-from_test s.mesh x o large there in
    let mesh_port : o < 2 * length s.mesh = link.1.mesh_port in
    let not_terminal : (o == 2 * length s.mesh) ≡ false = below_not_same o (2 * length s.mesh) mesh_port in
    rw (not_terminal, there) refl

pub credits_there : (s : NetState) (x o : ℕ) → IsFramed s → has_neighbour s.mesh x o ≡ true →
    (network_of s).credit_list x o ≡ (link_at s (links_before s.mesh x o)).credits
unfolding network_of
credits_there s x o framed there = rw there refl

pub link_framed : (s : NetState) (k : ℕ) (l : LinkView) → IsFramed s → k < length s.links →
    l.room ≡ (link_at s k).room → IsFramed (with_link s k l)
link_framed s k l framed there same_room = record {
  radices = framed.radices;
  classes = framed.classes;
  least_depth = framed.least_depth;
  most_depth = framed.most_depth;
  all_nodes = framed.all_nodes;
  all_links = rw length-set framed.all_links;
  each_node = framed.each_node;
  rooms = λ j within.
      let j_in : j < length s.links = rw length-set at within in
      elim (number_cases j k) [
        | inl here ↦
            let at : link_at (with_link s k l) j ≡ l = rw here.1 (get_or-set_same s.links k l blank_link there) in
            let room = framed.rooms k there in
            rw (at, same_room) room
        | inr away ↦
            let at : link_at (with_link s k l) j ≡ link_at s j = get_or-set_other s.links k j l blank_link away.1 in
            rw at (framed.rooms j j_in)
      ];
}
