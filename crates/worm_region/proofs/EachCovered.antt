-- What comes in at a node is taken port by port, and fed class by class: at each number of a set, and at the others
-- there is none.
use Rattle.std.proofs.Common.{◌≡◌, ℕ, ◌+◌, ◌*◌, ◌<◌, ◌≤◌, false, inl, inr, List, drop, length, map, None, Some}
use Rattle.std.proofs.Common.{Option, refl, arith, ap, sym, subst, ◌∙◌}
use Rattle.std.specs.Prelude.{IsSome, Result, slice_get}
use Rattle.std.specs.List.{range_with_len}
use Rattle.std.proofs.lemmas.Bool.{false_from_ne_true}
use Rattle.std.proofs.lemmas.List.{get_or-set_other}
use Rattle.worm_mesh.specs.Address.{AreRadices, neighbour_of, node_count}
use Rattle.worm_mesh.specs.Links.{links_before}
use Rattle.worm_theory.specs.Steps.{Step, Take, TakeCredit}
use Rattle.worm_theory.proofs.Places.{number_cases}
use Rattle.worm_wires.specs.Links.{LinkView, blank_link}
use Rattle.worm_flit.specs.SmallSet.{has, IsFirst}
use Rattle.worm_flit.proofs.SmallSets.{has_none}
use Rattle.worm_wires.specs.Wiring.{into_from}
use Rattle.worm_wires.proofs.Apart.{in_once, into_is, out_is, out_once}
use Rattle.worm_wires.specs.Arrivals.{AreFronts, credits_to, flits_to}
use Rattle.worm_wires.proofs.ArrivalsFound.{credits_past, flits_past, is_below, lacks, linked_in, linked_out}
use Rattle.worm_wires.proofs.ArrivalsFound.{nothing_in}
use Rattle.worm_wires.proofs.ArrivalsFound.{nothing_out}
use Rattle.worm_region.specs.Shape.{net_shape}
use Rattle.worm_region.specs.State.{IsSameConfig, NetState, link_at, with_link}
use Rattle.worm_region.specs.Moves.{AreLinked, Covers, NoCredit, NoFlit, after_getting, after_take, front_credit}
use Rattle.worm_region.specs.Moves.{front_into}
use Rattle.worm_region.specs.Moves.{link_into, link_out}
use Rattle.worm_region.specs.Workable.{IsWorkable}
use Rattle.worm_region.specs.Replies.{Attempts, Replies}
use Rattle.worm_region.specs.Turns.{Does, ForEach}
use Rattle.worm_region.specs.declared.step.Moved.{Moved}
use Rattle.worm_region.specs.declared.fault.StepFault.{StepFault}
use Rattle.worm_flit.specs.declared.Flit.{Flit}
use Rattle.worm_region.proofs.LinkedPorts.{links_of}
use Rattle.worm_region.proofs.Resting.{credit_still, flit_still}
use Rattle.worm_region.proofs.ReachedBySteps.{by_made}
use Rattle.worm_region.proofs.Passages.{does_ranged}
use Rattle.worm_region.proofs.SetWalked.{IsOut, Passed, Walked, number_taken, passed_more, passed_none, passed_still}
use Rattle.worm_region.proofs.SetWalked.{walked_all, walked_more, walked_start}

-- the mesh ports of a node or its classes: how many there are, the step at each, and where that has nothing to do
pub record Kind (x : ℕ) : Type 1 where
  pub count : NetState → ℕ
  pub same : (a b : NetState) → IsSameConfig a b → count b ≡ count a
  pub few : (s : NetState) → IsWorkable s → count s ≤ 8
  pub step : ℕ → Step
  pub NoneAt : NetState → ℕ → Type 0
  pub still : (s : NetState) (n : ℕ) → IsWorkable s → x < node_count s.mesh → n < count s → NoneAt s n
      → Attempts (step n) s None s

-- how far they have come
abbrev pub Covered : {x : ℕ} → Kind x → NetState → NetState → ℕ → Type 0
Covered kind a b set =
    Walked (Passed (λ n. Attempts (kind.step n)) a b) (λ n. has set n ≡ false → kind.NoneAt b n) (IsOut set)
    (kind.count a)

module _ {x : ℕ} (kind : Kind x) (a : NetState) where
  pub covered_start : (set : ℕ) → IsWorkable a → Covers (kind.NoneAt a) (kind.count a) set
      → Covered kind a a set
  covered_start set sound covers =
      let few = kind.few a sound in
      walked_start (passed_none (λ n. Attempts (kind.step n)) a sound)
      (λ n past n_few. false_from_ne_true (has set n)
      (λ on. let within = covers.places n n_few on in omega arith))
      (λ n n_in none. covers.rest n (omega arith) n_in none)

  module _ (x_in : x < node_count a.mesh) (b : NetState) (set : ℕ) where
    stays : (n : ℕ) → n < kind.count a → (has set n ≡ false → kind.NoneAt b n) → IsOut set n
        → Passed (λ n. Attempts (kind.step n)) a b n → Passed (λ n. Attempts (kind.step n)) a b (n + 1)
    stays n n_in none out passed =
        let config = passed.does.reaches.config in
        let nodes = ap node_count config.mesh in
        let same = kind.same a b config in
        let few = kind.few b passed.sound in
        passed_still (λ n. Attempts (kind.step n)) a b n passed
        (kind.still b n passed.sound (omega (arith, nodes)) (omega (arith, same)) (none (out (omega arith))))

    pub covered_more : (c : NetState) (new q : ℕ) → Covered kind a b set → IsFirst set new q
        → Does (Attempts (kind.step q)) b None c → ((p : ℕ) → (p ≡ q → ⊥) → kind.NoneAt b p → kind.NoneAt c p)
        → IsWorkable c → Covered kind a c new
    covered_more c new q covered first does others sound =
        let same = kind.same a b covered.done.does.reaches.config in
        let few = kind.few b covered.done.sound in
        walked_more stays q covered (number_taken first)
        (λ passed. passed_more (λ n. Attempts (kind.step n)) a b c q passed does sound)
        (λ n above n_in none out.
        let differs : n ≡ q → ⊥ = λ e. omega arith in
        others n differs (none (sym (first.taken.elsewhere n (omega arith) differs) ∙ out)))

    pub covered_all : (list : NetState → List Step) → Covered kind a b set → set ≡ 0
        → list a ≡ map kind.step (range_with_len 0 (kind.count a)) → Does (ForEach list Attempts) a None b
    covered_all list covered none is =
        does_ranged list kind.step (kind.count a) (kind.count a) a b is refl
        (walked_all stays covered (λ n n_few. ap (λ (s : ℕ). has s n) none ∙ has_none 0 n refl)).does

pub few_ports : (s : NetState) → IsWorkable s → 2 * length s.mesh ≤ 8
few_ports s net = let few = net.framed.radices.few_dims in omega arith

pub same_ports : (a b : NetState) → IsSameConfig a b → 2 * length b.mesh ≡ 2 * length a.mesh
same_ports a b config = ap (λ (m : List ℕ). 2 * length m) config.mesh

-- the links of two ports are two

out_apart : (mesh : List ℕ) (x p q : ℕ) → AreRadices mesh → IsSome (neighbour_of mesh x p)
    → IsSome (neighbour_of mesh x q) → links_before mesh x p ≡ links_before mesh x q → p ≡ q
out_apart mesh x p q radices at_p at_q same =
    let here = out_is mesh x q (neighbour_of mesh x q) at_q in
    let there = out_is mesh x p (neighbour_of mesh x p) at_p in
    (out_once mesh x q x p (links_before mesh x q) radices here (there ∙ ap (λ (k : ℕ). Some k) same)).1

in_apart : (mesh : List ℕ) (x p q : ℕ) → AreRadices mesh → IsSome (neighbour_of mesh x p)
    → IsSome (neighbour_of mesh x q)
    → into_from mesh p (neighbour_of mesh x p) ≡ into_from mesh q (neighbour_of mesh x q) → p ≡ q
in_apart mesh x p q radices at_p at_q same =
    let here = into_is mesh q (neighbour_of mesh x q) at_q in
    let there = into_is mesh p (neighbour_of mesh x p) at_p in
    (in_once mesh x q x p (into_from mesh q (neighbour_of mesh x q)) radices here
    (there ∙ ap (λ (k : ℕ). Some k) same)).1

-- what is taken by one port is not there by another, nor was it

link_elsewhere : (s : NetState) (k j : ℕ) (l : LinkView) → (j ≡ k → ⊥) → link_at (with_link s k l) j ≡ link_at s j
link_elsewhere s k j l away = get_or-set_other s.links k j l blank_link away

credit_kept : (s : NetState) (x q p : ℕ) (c : Option ℕ) → AreRadices s.mesh → IsSome (neighbour_of s.mesh x q)
    → (p ≡ q → ⊥) → NoCredit s x p → NoCredit (after_getting s x q c) x p
credit_kept s x q p None radices at_q away none = none
credit_kept s x q p (Some c) radices at_q away none = λ at_p.
    ap (λ (l : LinkView). slice_get l.credits 0)
    (link_elsewhere s (link_out s x q) (link_out s x p)
    (record (link_at s (link_out s x q)) { credits = drop 1 (link_at s (link_out s x q)).credits })
    (λ e. away (out_apart s.mesh x p q radices at_p at_q e)))
    ∙ none at_p

flit_kept : (s : NetState) (x q p : ℕ) (f : Option Flit) → AreRadices s.mesh → IsSome (neighbour_of s.mesh x q)
    → (p ≡ q → ⊥) → NoFlit s x p → NoFlit (after_take s x q (link_into s x q) f) x p
flit_kept s x q p None radices at_q away none = none
flit_kept s x q p (Some f) radices at_q away none = λ at_p.
    ap (λ (l : LinkView). slice_get l.flits 0)
    (link_elsewhere s (link_into s x q) (link_into s x p)
    (record (link_at s (link_into s x q)) { flits = drop 1 (link_at s (link_into s x q)).flits })
    (λ e. away (in_apart s.mesh x p q radices at_p at_q e)))
    ∙ none at_p

pub credit_elsewhere : (a b : NetState) (x q : ℕ) (answer : Result Moved StepFault) → IsWorkable a
    → Replies a (TakeCredit x q) answer b → (p : ℕ) → (p ≡ q → ⊥) → NoCredit a x p → NoCredit b x p
unfolding net_shape
credit_elsewhere a b x q answer net replies p away none =
    by_made (λ s. NoCredit s x p) a b (TakeCredit x q) answer replies none
    (λ done. credit_kept a x q p (front_credit a x q) net.framed.radices done.there.1 away none)

pub flit_elsewhere : (a b : NetState) (x q : ℕ) (answer : Result Moved StepFault) → IsWorkable a
    → Replies a (Take x q) answer b → (p : ℕ) → (p ≡ q → ⊥) → NoFlit a x p → NoFlit b x p
unfolding net_shape
flit_elsewhere a b x q answer net replies p away none =
    by_made (λ s. NoFlit s x p) a b (Take x q) answer replies none
    (λ done. flit_kept a x q p (front_into a x q) net.framed.radices done.there.1 away none)

-- where there is none a step takes none

abbrev pub credits : (x : ℕ) → Kind x
credits x = record {
  count = λ s. 2 * length s.mesh;
  same = same_ports;
  few = few_ports;
  step = TakeCredit x;
  NoneAt = λ s. NoCredit s x;
  still = λ s p net x_in p_in none. credit_still s x p (neighbour_of s.mesh x p) net x_in refl none;
}

abbrev pub flits : (x : ℕ) → Kind x
flits x = record {
  count = λ s. 2 * length s.mesh;
  same = same_ports;
  few = few_ports;
  step = Take x;
  NoneAt = λ s. NoFlit s x;
  still = λ s p net x_in p_in none. flit_still s x p (neighbour_of s.mesh x p) net x_in refl none;
}

-- the sets that the links keep

pub credits_cover : (s : NetState) (x set : ℕ) → IsWorkable s → AreFronts (credits_to (links_of s) x) set
    → Covers (NoCredit s x) (2 * length s.mesh) set
credits_cover s x set net fronts =
    let few = net.framed.radices.few_dims in
    let last = 2 * length s.mesh in
    let six : last ≤ 6 = omega arith in
    let past = credits_past (links_of s) x in
    record {
      rest = λ p p_few p_in none linked.
          nothing_out (links_of s) x p linked
          (lacks (credits_to (links_of s) x) set last fronts six past p (λ below. none));
      places = λ p p_in on. is_below (credits_to (links_of s) x) set last fronts six past p p_in on;
    }

pub flits_cover : (s : NetState) (x set : ℕ) → IsWorkable s → AreFronts (flits_to (links_of s) x) set
    → Covers (NoFlit s x) (2 * length s.mesh) set
flits_cover s x set net fronts =
    let few = net.framed.radices.few_dims in
    let last = 2 * length s.mesh in
    let six : last ≤ 6 = omega arith in
    let past = flits_past (links_of s) x in
    record {
      rest = λ p p_few p_in none linked.
          nothing_in (links_of s) x p linked
          (lacks (flits_to (links_of s) x) set last fronts six past p (λ below. none));
      places = λ p p_in on. is_below (flits_to (links_of s) x) set last fronts six past p p_in on;
    }

-- by their ports the node has neighbours

pub credits_linked : (s : NetState) (x set : ℕ) → AreFronts (credits_to (links_of s) x) set → AreLinked s x set
credits_linked s x set fronts = λ p p_in on. linked_out (links_of s) x set p fronts p_in on

pub flits_linked : (s : NetState) (x set : ℕ) → AreFronts (flits_to (links_of s) x) set → AreLinked s x set
flits_linked s x set fronts = λ p p_in on. linked_in (links_of s) x set p fronts p_in on

-- How far they have come where a port is left only if it has a link.
pub record PortsCovered {x : ℕ} (kind : Kind x) (a b : NetState) (set : ℕ) : Type 0 where
  pub covered : Covered kind a b set
  pub linked : AreLinked a x set

-- by the first port that is left the node has a neighbour still
pub first_linked : {x : ℕ} {kind : Kind x} {a b : NetState} {set new q : ℕ} → PortsCovered kind a b set
    → IsFirst set new q → IsSome (neighbour_of b.mesh x q)
first_linked {x = x} {q = q} ports first =
    subst (λ (m : List ℕ). IsSome (neighbour_of m x q)) (sym ports.covered.done.does.reaches.config.mesh)
    (ports.linked q first.in_range first.was_in)

-- and where what comes by it is taken one port less is left
pub ports_more : {x : ℕ} {kind : Kind x} {a b c : NetState} {set new q : ℕ} → x < node_count a.mesh
    → PortsCovered kind a b set → IsFirst set new q → Does (Attempts (kind.step q)) b None c
    → ((p : ℕ) → (p ≡ q → ⊥) → kind.NoneAt b p → kind.NoneAt c p) → IsWorkable c → PortsCovered kind a c new
ports_more {x} {kind} {a} {b} {c} {set} {new} {q} x_in ports first does others sound = record {
  covered = covered_more kind a x_in b set c new q ports.covered first does others sound;
  linked = λ p p_in on. elim (number_cases p q) [
    | inl same ↦ absurd (let off = ap (has new) same.1 ∙ first.taken.here in cc)
    | inr away ↦ ports.linked p p_in (sym (first.taken.elsewhere p p_in away.1) ∙ on)
  ];
}
