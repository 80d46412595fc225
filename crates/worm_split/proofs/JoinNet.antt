-- The parts joined make a network, of which all holds that held of the one that was split.
use Rattle.std.proofs.Common.{◌≡◌, ℕ, ◌*◌, ◌<◌, ◌≤◌, ◌%◌, ◌==◌, false, inl, inr, List, []}
use Rattle.std.proofs.Common.{◌++◌, length, length-append, sum, Option, Some, None, refl, arith, sym, ap, subst, ◌∙◌}
use Rattle.std.specs.Prelude.{slice_index_or, All}
use Rattle.std.specs.List.{count_by}
use Rattle.std.proofs.lemmas.List.Elements.{All-weaker}
use Rattle.worm_flit.specs.declared.Flit.{Flit}
use Rattle.worm_flit.specs.Stamps.{on_channel}
use Rattle.worm_mesh.specs.Address.{has_neighbour, neighbour_of}
use Rattle.worm_mesh.specs.Links.{links_before}
use Rattle.worm_theory.specs.Shape.{Shape}
use Rattle.worm_theory.specs.Network.{Network}
use Rattle.worm_theory.specs.Sound.{Leaves}
use Rattle.worm_theory.proofs.Places.{bool_cases}
use Rattle.worm_region.specs.Shape.{net_shape}
use Rattle.worm_region.specs.State.{NetState}
use Rattle.worm_wires.specs.Links.{LinkView, blank_link}
use Rattle.worm_region.specs.State.{network_of, shape}
use Rattle.worm_region.proofs.Room.{credits_counted, bounded, counted}
use Rattle.worm_theory.specs.Join.{Holds}
use Rattle.worm_theory.specs.Whole.{AreQueues, link_of as link_joined, line_of as line_joined, whole}
use Rattle.worm_theory.proofs.Regions.{parts_hold}
use Rattle.worm_split.specs.Apart.{Apart}
use Rattle.worm_split.specs.Joins.{AreEmptied, AreParts, IsGathered, owner_of}
use Rattle.worm_split.specs.PartState.{PartState, part_network, returned_to, taken_by}
use Rattle.worm_split.specs.Splits.{part_at}
use Rattle.worm_split.proofs.Gathered.{has_part, mesh, was}
use Rattle.worm_split.proofs.JoinLinks.{IsRest, far_sees, hold, near_sees, rest, way}

some_is : (a b : ℕ) → ◌≡◌ {A = Option ℕ} (Some a) (Some b) → a ≡ b
some_is a b e = cc

-- no neighbour, no link
pub no_link_there : (m : List ℕ) (y o : ℕ) → neighbour_of m y o ≡ None → has_neighbour m y o ≡ false
no_link_there m y o e = elim (bool_cases (has_neighbour m y o)) [
  | inl has ↦ let there = rw has at e in absurd (cc)
  | inr none ↦ none
]

module _ (parts : List PartState) (are : AreParts parts) (kept : Apart) (gathered : IsGathered parts 0 kept)
    (links : List LinkView)
    (emptied : AreEmptied (length parts)
    (length kept.ways) kept.ways kept.pairs kept.net.links links) where
  abbrev O : NetState
  O = (part_at parts 0).opening

  abbrev s : Shape
  s = shape (part_at parts 0).opening

  abbrev pub owner : ℕ → ℕ
  owner = λ x. x % length parts

  pub holds_each : (w : ℕ) → w < length parts → Rattle.worm_split.specs.PartState.IsPart (part_at parts w)
  holds_each = hold parts are kept gathered

  -- what the queues still held, place by place
  abbrev pub pick : (y o : ℕ) (n : Option ℕ) → s.neighbour y o ≡ n → List Flit × List ℕ
  pick y o None e = ([], [])
  pick y o (Some x) e = let r = rest parts are kept gathered y o x e links emptied in (r.0, r.1)

  abbrev pub flits_left : ℕ → ℕ → List Flit
  flits_left = λ y o. (pick y o (s.neighbour y o) refl).0

  abbrev pub credits_left : ℕ → ℕ → List ℕ
  credits_left = λ y o. (pick y o (s.neighbour y o) refl).1

  picked : (y o x : ℕ) (n : Option ℕ) (e : s.neighbour y o ≡ n) → n ≡ Some x
      → IsRest parts are kept gathered y o x links (pick y o n e).0 (pick y o n e).1
  picked y o x None e at = absurd (cc)
  picked y o x (Some z) e at =
      let r = rest parts are kept gathered y o z e links emptied in
      subst (λ (v : ℕ). IsRest parts are kept gathered y o v links r.0 r.1) (some_is z x at) r.2

  pub left : (y o x : ℕ) → s.neighbour y o ≡ Some x → IsRest parts are kept gathered y o x links (flits_left y o)
      (credits_left y o)
  left y o x linked = picked y o x (s.neighbour y o) refl linked

  abbrev pub nets : ℕ → Network
  nets = λ k. part_network (part_at parts k)

  abbrev pub takens : ℕ → ℕ → ℕ → List Flit
  takens = λ k. taken_by (part_at parts k)

  abbrev pub returneds : ℕ → ℕ → ℕ → List ℕ
  returneds = λ k. returned_to (part_at parts k)

  pub queues : AreQueues s owner nets takens returneds flits_left credits_left
  queues = record {
    within = λ y o x linked same. (left y o x linked).within same;
    between = λ y o x linked apart. (left y o x linked).apart apart;
  }

  abbrev pub joined : Network
  joined = whole s owner nets flits_left credits_left

  pub holds : Holds s joined
  holds = parts_hold s (mesh parts are holds_each) (network_of O) (was parts are holds_each) owner nets takens returneds
      (has_part parts are holds_each) flits_left credits_left queues

  -- what is on a link, and on its credit line
  pub joined_out : (y o x : ℕ) → s.neighbour y o ≡ Some x → joined.out y o ≡ (network_of
      (owner_of parts x).net).out y o ++ flits_left y o
  joined_out y o x linked =
      ap (λ (n : Option ℕ). link_joined owner nets flits_left y o n) linked
      ∙ ap (λ (l : List Flit). l ++ flits_left y o) (far_sees parts are kept gathered y o x linked)

  pub joined_line : (y o x : ℕ) → s.neighbour y o ≡ Some x
      → joined.credit_list y o ≡ (network_of (owner_of parts y).net).credit_list y o ++ credits_left y o
  joined_line y o x linked =
      ap (λ (n : Option ℕ). line_joined owner nets credits_left y o n) linked
      ∙ ap (λ (l : List ℕ). l ++ credits_left y o) (near_sees parts are kept gathered y o x linked)

  -- there is room for it
  few_flits : (y o x : ℕ) → s.neighbour y o ≡ Some x → length (joined.out y o) ≤ sum O.channels * O.depth
  unfolding net_shape
  few_flits y o x linked =
      let n = sum O.channels in
      let all : All (λ f. f.vc < n) (joined.out y o) = All-weaker (Leaves s y o) (λ (f : Flit). f.vc < n)
      (λ f is. is.owned.0) (joined.out y o) (holds.sound.leaving y o) in
      let each : (v : ℕ) → v < n → length (on_channel v
      (joined.out y o)) ≤ O.depth = λ v v_in. let total = holds.sound.credits y o x v v_in linked in omega arith in
      let count = counted n (joined.out y o) all in
      let few = bounded (λ v. length (on_channel v (joined.out y o))) n O.depth each in
      omega arith

  few_credits : (y o x : ℕ) → s.neighbour y o ≡ Some x → length (joined.credit_list y o) ≤ sum O.channels * O.depth
  unfolding net_shape
  few_credits y o x linked =
      let n = sum O.channels in
      let each : (v : ℕ) → v < n → count_by (λ c. v == c)
      (joined.credit_list y o) ≤ O.depth = λ v v_in. let total = holds.sound.credits y o x v v_in linked in
      omega arith in
      let count = credits_counted n (joined.credit_list y o) (holds.sound.entries y o) in
      let few = bounded (λ v. count_by (λ c. v == c) (joined.credit_list y o)) n O.depth each in
      omega arith

  abbrev number : ℕ → ℕ → ℕ
  number = λ y o. links_before (part_at parts 0).opening.mesh y o

  room_there : (y o x : ℕ) → s.neighbour y o ≡ Some x → sum O.channels * O.depth ≤ (slice_index_or kept.net.links
      (number y o) blank_link).room
  room_there y o x linked =
      let at = way parts are kept gathered y o x linked in
      let within = at.within in
      let config = gathered.config in
      let all = gathered.fits.framed.all_links in
      let each = gathered.fits.ways.all in
      let product : sum kept.net.channels * kept.net.depth ≡ sum O.channels * O.depth = λ t. sum
      (config.channels t) * config.depth t in
      let room = gathered.fits.framed.rooms (number y o) (omega arith) in
      omega arith

  pub out_put : (y o x : ℕ) → s.neighbour y o ≡ Some x → (slice_index_or links
      (number y o) blank_link).flits ≡ joined.out y o
  out_put y o x linked =
      let whole_out = joined_out y o x linked in
      let few = few_flits y o x linked in
      let long = ap (λ (l : List Flit). length l) whole_out in
      let both = length-append ((network_of (owner_of parts x).net).out y o) (flits_left y o) in
      let room = room_there y o x linked in
      (left y o x linked).flits (omega arith) ∙ sym whole_out

  pub pair_put : (y o x : ℕ) → s.neighbour y o ≡ Some x → (slice_index_or links
      (number y o) blank_link).credits ≡ joined.credit_list y o
  pair_put y o x linked =
      let whole_line = joined_line y o x linked in
      let few = few_credits y o x linked in
      let long = ap (λ (l : List ℕ). length l) whole_line in
      let both = length-append ((network_of (owner_of parts y).net).credit_list y o) (credits_left y o) in
      let room = room_there y o x linked in
      (left y o x linked).credits (omega arith) ∙ sym whole_line
