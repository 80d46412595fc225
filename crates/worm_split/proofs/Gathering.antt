-- A part put back: what is gathered is one worker's more.
use Rattle.std.proofs.Common.{◌≡◌, ℕ, ◌+◌, ◌<◌, ◌≤◌, ◌%◌, Bool, true, false, cond, inl, inr, List, length}
use Rattle.std.proofs.Common.{refl, arith, sym, ap, subst, ◌∙◌, eq-eqb}
use Rattle.std.specs.Prelude.{slice_index_or}
use Rattle.std.proofs.lemmas.Bool.{cases_eq}
use Rattle.worm_region.specs.Owned.{owned_by}
use Rattle.worm_region.specs.State.{IsFramed, link_at}
use Rattle.worm_node.specs.declared.node.Node.{Node}
use Rattle.worm_region.specs.declared.owner.Owner.{Owner}
use Rattle.worm_split.specs.declared.ends.End.{End}
use Rattle.worm_split.specs.Apart.{Apart, IsPutBack}
use Rattle.worm_split.specs.Ends.{end_at, pair_at}
use Rattle.worm_split.specs.Exchange.{way_at}
use Rattle.worm_split.specs.Joins.{AreParts, IsBetween, IsGathered, owner_of}
use Rattle.worm_split.specs.PartState.{PartState, IsPart}
use Rattle.worm_split.specs.Splits.{part_at}
use Rattle.worm_split.proofs.Exchanged.{config_then}
use Rattle.worm_split.proofs.Gathered.{not_same}
use Rattle.worm_split.proofs.Swapped.{ends_now, link_in, links_now, nodes_now}

pub either_way : (b : Bool) (a : End) → cond b a a ≡ a
either_way true a = refl
either_way false a = refl

module _ (parts : List PartState) (are : AreParts parts) (n : ℕ) (there : n < length parts) (kept new : Apart)
    (gathered : IsGathered parts (n + 1) kept)
    (part : IsPart (part_at parts n)) (framed : IsFramed (part_at parts n).net)
    (back : IsPutBack (part_at parts n).net.own kept new (part_at parts n).net.nodes (part_at parts n).net.links
    (part_at parts n).ends) where
  abbrev p : PartState
  p = part_at parts n

  abbrev W : ℕ
  W = length parts

  owned_here : (x : ℕ) → x % W ≡ n → owned_by p.net.own x ≡ true
  owned_here x e = ap (λ (own : Owner). owned_by own x) (are.owns n there) ∙ eq-eqb (x % W) n e

  owned_not : (x : ℕ) → (x % W ≡ n → ⊥) → owned_by p.net.own x ≡ false
  owned_not x apart = ap (λ (own : Owner). owned_by own x) (are.owns n there) ∙ not_same (x % W) n apart

  owner_here : (x : ℕ) → x % W ≡ n → owner_of parts x ≡ p
  owner_here x e = ap (λ (w : ℕ). part_at parts w) e

  further_on : (x : ℕ) → n ≤ x % W → (x % W ≡ n → ⊥) → n + 1 ≤ x % W
  further_on x from apart = elim (cases_eq (x % W) n) [ inl e ↦ absurd (apart e) | inr other ↦ omega arith ]

  -- what is the part's own, or was gathered before
  from_owner : {A : Type 0} (f : PartState → A) (x : ℕ) (now before : A) → n ≤ x % W
      → now ≡ cond (owned_by p.net.own x) (f p) before → (n + 1 ≤ x % W → before ≡ f (owner_of parts x))
      → now ≡ f (owner_of parts x)
  from_owner f x now before from is past = elim (cases_eq (x % W) n) [
    | inl e ↦ let mine = owned_here x e in is ∙ (rw mine refl ∙ ap f (sym (owner_here x e)))
    | inr apart ↦ let other = owned_not x apart in is ∙ (rw other refl ∙ past (further_on x from apart))
  ]

  new_node : (x : ℕ) → n ≤ x % W → (d : Node) → slice_index_or new.net.nodes x d ≡ slice_index_or
      (owner_of parts x).net.nodes x d
  new_node x from d =
      from_owner (λ (q : PartState). slice_index_or q.net.nodes x d) x (slice_index_or new.net.nodes x d)
      (slice_index_or kept.net.nodes x d) from
      (nodes_now p.net.own kept.net.nodes p.net.nodes new.net.nodes back.0 back.3.nodes x d).0
      (λ past. gathered.nodes x past d)

  new_flits : (k : ℕ) → let x = (way_at kept.ways k).to in n ≤ x % W
      → (link_in new.net.links k).flits ≡ (link_at (owner_of parts x).net k).flits
  new_flits k from =
      from_owner (λ (q : PartState). (link_at q.net k).flits) (way_at kept.ways k).to (link_in new.net.links k).flits
      (link_in kept.net.links k).flits from
      (links_now p.net.own kept.ways kept.net.links p.net.links new.net.links back.1 back.3.links k).flits
      (gathered.flits k)

  new_credits : (k : ℕ) → let y = (way_at kept.ways k).from in n ≤ y % W
      → (link_in new.net.links k).credits ≡ (link_at (owner_of parts y).net k).credits
  new_credits k from =
      from_owner (λ (q : PartState). (link_at q.net k).credits) (way_at kept.ways k).from
      (link_in new.net.links k).credits (link_in kept.net.links k).credits from
      (links_now p.net.own kept.ways kept.net.links p.net.links new.net.links back.1 back.3.links k).credits
      (gathered.credits k)

  new_out : (k : ℕ) → let way = way_at kept.ways k in IsBetween W kept.ways k → n ≤ way.from % W
      → (pair_at new.pairs k).out ≡ end_at (owner_of parts way.from).ends k
  new_out k between from =
      let way = way_at kept.ways k in
      let now = (ends_now p.net.own kept.ways kept.pairs p.ends new.pairs back.2 back.3.ends k).out in
      elim (cases_eq (way.from % W) n) [
        | inl e ↦
            let near = owned_here way.from e in
            let far = owned_not way.to (λ f. between (e ∙ sym f)) in
            now ∙ (rw (near, far) refl ∙ ap (λ (q : PartState). end_at q.ends k) (sym (owner_here way.from e)))
        | inr apart ↦
            let near = owned_not way.from apart in
            now ∙ (rw near refl ∙ gathered.outs k between (further_on way.from from apart))
      ]

  new_into : (k : ℕ) → let way = way_at kept.ways k in IsBetween W kept.ways k → n ≤ way.to % W
      → (pair_at new.pairs k).into ≡ end_at (owner_of parts way.to).ends k
  new_into k between from =
      let way = way_at kept.ways k in
      let now = (ends_now p.net.own kept.ways kept.pairs p.ends new.pairs back.2 back.3.ends k).into in
      elim (cases_eq (way.to % W) n) [
        | inl e ↦
            let far = owned_here way.to e in
            let near = owned_not way.from (λ f. between (f ∙ sym e)) in
            now ∙ (rw (near, far) refl ∙ ap (λ (q : PartState). end_at q.ends k) (sym (owner_here way.to e)))
        | inr apart ↦
            let far = owned_not way.to apart in
            now ∙ (rw far (either_way (owned_by p.net.own way.from) (pair_at kept.pairs k).into)
            ∙ gathered.intos k between (further_on way.to from apart))
      ]

  holds_on : (w : ℕ) → n ≤ w → w < length parts → IsPart (part_at parts w) × IsFramed (part_at parts w).net
  holds_on w from below = elim (cases_eq w n) [
    | inl e ↦ subst (λ (v : ℕ). IsPart (part_at parts v) × IsFramed (part_at parts v).net) (sym e) (part, framed)
    | inr apart ↦ gathered.parts_hold w (omega arith) below
  ]

  pub gathered_more : IsGathered parts n new
  gathered_more = record {
    fits = back.3.fits;
    config = config_then (part_at parts 0).opening kept.net new.net gathered.config back.3.config;
    parts_hold = holds_on;
    nodes = new_node;
    flits = rw back.3.ways new_flits;
    credits = rw back.3.ways new_credits;
    outs = rw back.3.ways new_out;
    intos = rw back.3.ways new_into;
  }
