-- The parts are taken from the end of their list, one after another, and put back.
use Rattle.std.proofs.Common.{◌≡◌, ℕ, ◌+◌, ◌<◌, ◌%◌, List, [], ◌∷◌, ◌++◌, length, length-append, append_assoc}
use Rattle.std.proofs.Common.{append-nil, refl, arith, sym, ap, subst, ◌∙◌}
use Rattle.std.proofs.lemmas.List.{get_or_at}
use Rattle.worm_mesh.specs.Links.{link_count}
use Rattle.worm_region.specs.State.{NetState, IsFramed}
use Rattle.worm_split.specs.Apart.{Apart, ArePaired, Fits, IsPutBack}
use Rattle.worm_split.specs.Exchange.{way_at}
use Rattle.worm_split.specs.Joins.{AreParts, IsGathered}
use Rattle.worm_split.specs.PartState.{PartState, HasConfigOf, IsPart}
use Rattle.worm_split.specs.Splits.{no_part, part_at}
use Rattle.worm_split.proofs.Exchanged.{framed_in}
use Rattle.worm_split.proofs.Gathering.{gathered_more}

-- those that are left, and what is gathered of the others
pub record GatherSoFar (parts rest : List PartState) (whole : Apart) : Type 0 where
  pub done : List PartState
  pub all : parts ≡ rest ++ done
  pub gathered : IsGathered parts (length rest) whole

-- the last of those that are left
pub record IsLastOf (parts rest : List PartState) (p : PartState) : Type 0 where
  pub there : length rest < length parts
  pub is : part_at parts (length rest) ≡ p

pub last_of : (parts left rest done : List PartState) (p : PartState) → parts ≡ left ++ done → left ≡ rest ++ p ∷ []
    → IsLastOf parts rest p × (parts ≡ rest ++ p ∷ done) × (length left ≡ length rest + 1)
last_of parts left rest done p all popped =
    let split : parts ≡ rest ++ p ∷ done = all ∙ (ap (λ (l : List PartState). l ++ done) popped
    ∙ append_assoc rest (p ∷ []) done) in
    let long = ap (λ (l : List PartState). length l) split in
    let sum = length-append rest (p ∷ done) in
    let one = ap (λ (l : List PartState). length l) popped in (
      record {
        there = omega arith;
        is = ap (λ (l : List PartState). part_at l (length rest)) split
            ∙ get_or_at rest p done no_part (length rest) refl;
      },
      split,
      one ∙ length-append rest (p ∷ []),
    )

-- a part's lists fit those that it is put back to
pub its_lists : (p : PartState) (kept : Apart) → IsPart p → IsFramed p.net → HasConfigOf p.opening kept.net
    → ArePaired kept p.net.nodes p.net.links p.ends
its_lists p kept part framed config = record {
  framed = framed_in p.opening p.net kept.net p.net.nodes p.net.links part.config config framed;
  ends = part.all_ends ∙ ap link_count (part.config.mesh ∙ sym config.mesh);
}

-- what the last part has and keeps
module _ (parts : List PartState) (are : AreParts parts) (rest : List PartState) (p : PartState)
    (last : IsLastOf parts rest p) (part : IsPart p) (framed : IsFramed p.net) where
  pub its_opening : p.opening ≡ (part_at parts 0).opening
  its_opening = ap (λ (q : PartState). q.opening) (sym last.is) ∙ are.one_opening (length rest) last.there

  -- nothing is gathered yet where all parts are left but this one
  pub begin : (kept : Apart) → Fits kept → HasConfigOf p.opening kept.net → length rest + 1 ≡ length parts
      → IsGathered parts (length rest + 1) kept
  begin kept fits config all =
      let few : (x : ℕ) → x % length parts < length parts = λ x. let some = are.some in omega arith in
      record {
        fits = fits;
        config = subst (λ (s : NetState). HasConfigOf s kept.net) its_opening config;
        parts_hold = λ w from below. absurd (omega arith);
        nodes = λ x from n. absurd (let b = few x in omega arith);
        flits = λ k from. absurd (let b = few (way_at kept.ways k).to in omega arith);
        credits = λ k from. absurd (let b = few (way_at kept.ways k).from in omega arith);
        outs = λ k between from. absurd (let b = few (way_at kept.ways k).from in omega arith);
        intos = λ k between from. absurd (let b = few (way_at kept.ways k).to in omega arith);
      }

  pub put_on : (kept new : Apart) → IsGathered parts (length rest + 1) kept
      → IsPutBack p.net.own kept new p.net.nodes p.net.links p.ends → IsGathered parts (length rest) new
  put_on kept new gathered back =
      let is = sym last.is in
      gathered_more parts are (length rest) last.there kept new gathered (subst IsPart is part)
      (subst (λ (q : PartState). IsFramed q.net) is framed)
      (subst (λ (q : PartState). IsPutBack q.net.own kept new q.net.nodes q.net.links q.ends) is back)

-- One part more is taken from the list and put back.
module _ (parts : List PartState) (are : AreParts parts) (left rest done : List PartState) (p : PartState)
    (all : parts ≡ left ++ done) (popped : left ≡ rest ++ p ∷ [])
    (part : IsPart p) (framed : IsFramed p.net) where
  abbrev taken : IsLastOf parts rest p × (parts ≡ rest ++ p ∷ done) × (length left ≡ length rest + 1)
  taken = last_of parts left rest done p all popped

  pub lists_step : (kept : Apart) → HasConfigOf (part_at parts 0).opening kept.net
      → ArePaired kept p.net.nodes p.net.links p.ends
  lists_step kept config =
      let opened = its_opening parts are rest p taken.0 part framed in
      its_lists p kept part framed (subst (λ (s : NetState). HasConfigOf s kept.net) (sym opened) config)

  pub gather_step : (kept new : Apart) → IsGathered parts (length left) kept
      → IsPutBack p.net.own kept new p.net.nodes p.net.links p.ends → GatherSoFar parts rest new
  gather_step kept new gathered back = record {
    done = p ∷ done;
    all = taken.1;
    gathered = put_on parts are rest p taken.0 part framed kept new (subst (λ
        (n : ℕ). IsGathered parts n kept) taken.2 gathered) back;
  }

-- The last part is put back to what it kept.
pub gather_first : (parts : List PartState) (are : AreParts parts) (rest : List PartState) (p : PartState)
    → parts ≡ rest ++ p ∷ [] → IsPart p → IsFramed p.net
    → (kept new : Apart) → Fits kept → HasConfigOf p.opening kept.net
    → IsPutBack p.net.own kept new p.net.nodes p.net.links p.ends → GatherSoFar parts rest new
gather_first parts are rest p popped part framed kept new fits config back =
    let taken = last_of parts parts rest [] p (sym (append-nil parts)) popped in
    record {
      done = p ∷ [];
      all = popped;
      gathered = put_on parts are rest p taken.0 part framed kept new
          (begin parts are rest p taken.0 part framed kept fits config (sym taken.2)) back;
    }
