-- What the parts of one split know together: the configuration, which worker owns a node, and the links by number.
use Rattle.std.proofs.Common.{◌≡◌, ℕ, ◌<◌, ◌≤◌, ◌%◌, ◌==◌, Bool, true, false, cond, inl, inr, List, [], length, Some}
use Rattle.std.proofs.Common.{refl, arith, sym, ap, subst, ◌∙◌, eq-eqb}
use Rattle.std.proofs.lemmas.List.{get_or_past}
use Rattle.std.proofs.lemmas.Bool.{cases_lt}
use Rattle.worm_flit.specs.declared.Flit.{Flit}
use Rattle.worm_mesh.specs.Address.{has_neighbour, neighbour_of, Joins}
use Rattle.worm_mesh.specs.Links.{links_before}
use Rattle.worm_mesh.specs.declared.mesh.LinkEnds.{LinkEnds}
use Rattle.worm_mesh.proofs.Digits.{AreLarge, AreLarge-from_radices}
use Rattle.worm_mesh.proofs.Neighbours.{Joins-from, Joins-unique}
use Rattle.worm_mesh.proofs.Numbers.{one_link, below_count}
use Rattle.worm_theory.specs.Shape.{IsMesh}
use Rattle.worm_theory.proofs.Places.{number_cases}
use Rattle.worm_region.specs.State.{NetState, IsNet, network_of, shape}
use Rattle.worm_region.specs.Owned.{owned_by}
use Rattle.worm_region.specs.declared.owner.Owner.{Owner}
use Rattle.worm_region.proofs.FrameKept.{framed_mesh}
use Rattle.worm_theory.specs.Join.{Holds}
use Rattle.worm_theory.specs.Region.{HasPart, Begins}
use Rattle.worm_theory.specs.Openings.{past_of}
use Rattle.worm_theory.proofs.RegionQueues.{first_part}
use Rattle.worm_split.specs.declared.ends.End.TheVariants.{Inner}
use Rattle.worm_split.specs.declared.ends.EndPair.{EndPair}
use Rattle.worm_split.specs.Apart.{AreWays}
use Rattle.worm_split.specs.Ends.{AreEndsMade, IsSameEnd, end_made, pair_at, returned_on, taken_on}
use Rattle.worm_split.specs.Exchange.{way_at}
use Rattle.worm_split.specs.Joins.{AreParts, owner_of}
use Rattle.worm_split.specs.PartState.{PartState, IsPart, end_of, part_network, returned_to, taken_by}
use Rattle.worm_split.specs.Splits.{no_part, part_at}
use Rattle.worm_split.proofs.Meeting.{Meet, ends_meet, still_inner}

-- the five that hold of a network
pub net_holds : (s : NetState) → IsNet s → Holds (shape s) (network_of s)
net_holds s net = record {
  sound = net.sound;
  cut = net.cut;
  packets = net.packets;
  others = net.others;
  closed =
      net.closed;
}

-- The link of a port has its number.
pub record IsWay (ways : List LinkEnds) (k y o x : ℕ) : Type 0 where
  pub within : k < length ways
  pub from : (way_at ways k).from ≡ y
  pub out_port : (way_at ways k).out_port ≡ o
  pub to : (way_at ways k).to ≡ x

pub way_is : (mesh : List ℕ) (ways : List LinkEnds) → AreLarge mesh → AreWays mesh ways → (y o x : ℕ)
    → neighbour_of mesh y o ≡ Some x
    → IsWay ways (links_before mesh y o) y o x
way_is mesh ways large are y o x linked =
    let k = links_before mesh y o in
    let joins = Joins-from mesh y o x large linked in
    let few = below_count mesh large y o (x, joins) in
    let all = are.all in
    let within : k < length ways = omega arith in
    let way = way_at ways k in
    let ends = are.each k within in
    let same = one_link mesh large way.from way.out_port y o (way.to, ends.joined) (x, joins) ends.numbered in
    let there : Joins mesh y o way.to = subst (λ (p : ℕ). Joins mesh y p way.to) same.1 (subst (λ
    (z : ℕ). Joins mesh z way.out_port way.to) same.0 ends.joined) in
    record { within = within; from = same.0; out_port = same.1; to = Joins-unique mesh y o way.to x large there joins }

no_end : (b : Bool) → cond b Inner Inner ≡ Inner
no_end true = refl
no_end false = refl

pub not_same : (a b : ℕ) → (a ≡ b → ⊥) → (a == b) ≡ false
not_same a b apart = elim (number_cases a b) [ inl here ↦ absurd (apart here.1) | inr away ↦ away.0 ]

module _ (parts : List PartState) (are : AreParts parts) (hold : (w : ℕ) → w < length parts
    → IsPart (part_at parts w)) where
  abbrev pub opening : NetState
  opening = (part_at parts 0).opening

  abbrev pub workers : ℕ
  workers = length parts

  pub first : IsPart (part_at parts 0)
  first = hold 0 are.some

  pub large : AreLarge opening.mesh
  large = AreLarge-from_radices opening.mesh first.opened.framed.radices.radices

  pub mesh : IsMesh (shape opening)
  mesh = framed_mesh opening first.opened.framed

  pub was : Holds (shape opening) (network_of opening)
  was = net_holds opening first.opened

  pub part_mesh : (w : ℕ) → w < workers → (part_at parts w).net.mesh ≡ opening.mesh
  part_mesh w below = (hold w below).config.mesh ∙ ap (λ (t : NetState). t.mesh) (are.one_opening w below)

  pub part_channels : (w : ℕ) → w < workers → (part_at parts w).net.channels ≡ opening.channels
  part_channels w below = (hold w below).config.channels ∙ ap (λ (t : NetState). t.channels) (are.one_opening w below)

  pub part_depth : (w : ℕ) → w < workers → (part_at parts w).net.depth ≡ opening.depth
  part_depth w below = (hold w below).config.depth ∙ ap (λ (t : NetState). t.depth) (are.one_opening w below)

  -- a worker that is not there has nothing
  nobody : (k : ℕ) → workers ≤ k → (x : ℕ) → (x % workers == k) ≡ true → ⊥
  nobody k past x e =
      let some = are.some in
      let same : x % workers ≡ k = grind (arith, e) in
      let less : x % workers < workers = omega arith in
      omega arith

  has_nothing : (own : ℕ → Bool) → HasPart (shape opening) (network_of opening) own (part_network no_part)
      (λ y o. []) (λ y o. [])
      → HasPart (shape opening) (network_of opening) own (part_network no_part) (taken_by no_part) (returned_to no_part)
  has_nothing own h =
      let takes : (λ (y o : ℕ). []) ≡ taken_by no_part = λ t y o. taken_on (sym (no_end (has_neighbour [] y o)) t) in
      let returns : (λ (y o : ℕ). []) ≡ returned_to no_part = λ t y o. returned_on (sym (no_end
      (has_neighbour [] y o)) t) in
      subst (λ (f : ℕ → ℕ → List ℕ). HasPart (shape opening) (network_of opening) own (part_network no_part)
      (taken_by no_part) f) returns
      (subst (λ (f : ℕ → ℕ → List Flit). HasPart (shape opening) (network_of opening) own (part_network no_part) f
      (λ y o. [])) takes h)

  pub has_part : (k : ℕ) → HasPart (shape opening) (network_of opening) (λ x. x % workers == k) (part_network
      (part_at parts k))
      (taken_by (part_at parts k)) (returned_to (part_at parts k))
  has_part k = elim (cases_lt k workers) [
    | inl below ↦
        let p = part_at parts k in
        subst (λ (own : Owner). HasPart (shape opening) (network_of opening) (owned_by own) (part_network p)
        (taken_by p) (returned_to p))
        (are.owns k below)
        (subst (λ (z : NetState). HasPart (shape z) (network_of z) (owned_by p.net.own) (part_network p)
        (taken_by p) (returned_to p))
        (are.one_opening k below) (hold k below).holds)
    | inr past ↦
        let none = nobody k past in
        let own : ℕ → Bool = λ x. x % workers == k in
        let begins : Begins (shape opening) (network_of opening) own (part_network no_part) = record {
          buffer = λ x p v e. absurd (none x e);
          in_record = λ x p v e. absurd (none x e);
          last_out = λ x p v e. absurd (none x e);
          owed = λ x p v e. absurd (none x e);
          holder = λ x o c e. absurd (none x e);
          credits = λ x o c e. absurd (none x e);
          injected = λ x c e. absurd (none x e);
          unfed = λ x c e. absurd (none x e);
          within = λ y o x linked near far. absurd (none y near);
          leaving = λ y o x linked near far. absurd (none y near);
          entering = λ y o x linked near far. absurd (none x far);
          ends = λ x o unlinked e. absurd (none x e);
        } in
        let begun = first_part (shape opening) mesh (network_of opening) own was (part_network no_part) begins in
        subst (λ (p : PartState). HasPart (shape opening) (network_of opening) own (part_network p) (taken_by p)
        (returned_to p))
        (sym (get_or_past parts k no_part past))
        (has_nothing own begun)
  ]

  -- both ends of a link between two workers, as they were made
  pub made : (y o x : ℕ) → (shape opening).neighbour y o ≡ Some x → (y % workers ≡ x % workers → ⊥)
      → let pair = pair_at (part_at parts 0).pairs (links_before opening.mesh y o) in
      AreEndsMade opening.mesh opening.channels opening.depth y o (past_of (shape opening)
      (network_of opening) y o x) pair.out pair.into
  made y o x linked apart =
      let all = ap (λ (own : Owner). own.workers) (are.owns 0 are.some) in
      first.made y o x linked (λ e. apart (subst (λ (n : ℕ). y % n ≡ x % n) all e))

  -- a worker's end of a link is one of them, whatever went over it
  pub same_end : (w : ℕ) → w < workers → (y o x : ℕ) → (shape opening).neighbour y o ≡ Some x
      → IsSameEnd (end_made (y % workers == w) (x % workers == w) (pair_at (part_at parts 0).pairs
      (links_before opening.mesh y o))) (end_of (part_at parts w) y o)
  same_end w below y o x linked =
      let p = part_at parts w in
      let k = links_before opening.mesh y o in
      let back = are.one_opening w below in
      let then : (shape p.opening).neighbour y o ≡ Some x = subst (λ (z : NetState).
      (shape z).neighbour y o ≡ Some x) (sym back) linked in
      let had = (hold w below).ends y o x then in
      let by_opening = subst (λ (z : NetState). IsSameEnd (end_made (owned_by p.net.own y) (owned_by p.net.own x)
      (pair_at p.pairs (links_before z.mesh y o))) (end_of p y o)) back had in
      let by_pairs = subst (λ (pairs : List EndPair). IsSameEnd (end_made (owned_by p.net.own y) (owned_by p.net.own x)
      (pair_at pairs k)) (end_of p y o)) (are.one_split w below) by_opening in
      subst (λ (own : Owner). IsSameEnd (end_made (owned_by own y) (owned_by own x) (pair_at
      (part_at parts 0).pairs k)) (end_of p y o)) (are.owns w below) by_pairs

  pub owner_below : (x : ℕ) → x % workers < workers
  owner_below x = let some = are.some in omega arith

  -- the ends of a link between two workers meet
  pub ends_of_link : (y o x : ℕ) → (shape opening).neighbour y o ≡ Some x → (y % workers ≡ x % workers → ⊥)
      → Meet (end_of (owner_of parts y) y o) (end_of (owner_of parts x) y o)
  ends_of_link y o x linked apart =
      let pair = pair_at (part_at parts 0).pairs (links_before opening.mesh y o) in
      let near = same_end (y % workers) (owner_below y) y o x linked in
      let far = same_end (x % workers) (owner_below x) y o x linked in
      let here : (y % workers == y % workers) ≡ true = eq-eqb _ _ refl in
      let there : (x % workers == x % workers) ≡ true = eq-eqb _ _ refl in
      let apart_1 : (x % workers == y % workers) ≡ false = not_same (x % workers) (y % workers) (λ e. apart (sym e)) in
      let apart_2 : (y % workers == x % workers) ≡ false = not_same (y % workers) (x % workers) apart in
      ends_meet opening.mesh opening.channels opening.depth y o (past_of (shape opening)
      (network_of opening) y o x) pair.out pair.into
      (end_of (owner_of parts y) y o) (end_of (owner_of parts x) y o) (made y o x linked apart)
      (rw (here, apart_1) at near) (rw (there, apart_2) at far)

  -- within one part there is no queue
  pub end_within : (y o x : ℕ) → (shape opening).neighbour y o ≡ Some x → y % workers ≡ x % workers
      → end_of (owner_of parts x) y o ≡ Inner
  end_within y o x linked same =
      let far = same_end (x % workers) (owner_below x) y o x linked in
      let here : (y % workers == x % workers) ≡ true = eq-eqb _ _ same in
      let there : (x % workers == x % workers) ≡ true = eq-eqb _ _ refl in
      still_inner (end_of (owner_of parts x) y o) (rw (here, there) at far)
