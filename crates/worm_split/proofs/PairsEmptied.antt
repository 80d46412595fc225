-- The links of a network taken apart are emptied one after another.
use Rattle.std.proofs.Common.{◌≡◌, ℕ, ◌+◌, ◌<◌, ◌≤◌, ◌%◌, ◌==◌, ◌≢◌, Bool, true, false, eq-eqb, inl, inr, List}
use Rattle.std.proofs.Common.{length, arith, refl, sym, ap, subst, ◌∙◌}
use Rattle.std.specs.Prelude.{slice_index_or, slice_set}
use Rattle.std.proofs.Math.ListN.{length-set}
use Rattle.std.proofs.lemmas.Bool.{cases_eq, cases_lt}
use Rattle.std.proofs.lemmas.List.{get_or_read, get_or-set_other, get_or-set_same}
use Rattle.worm_mesh.specs.declared.mesh.LinkEnds.{LinkEnds}
use Rattle.worm_mesh.specs.Links.{link_count}
use Rattle.worm_theory.proofs.Places.{number_cases}
use Rattle.worm_region.specs.State.{NetState, IsFramed}
use Rattle.worm_wires.specs.Links.{LinkView, blank_link}
use Rattle.worm_split.specs.declared.ends.EndPair.{EndPair}
use Rattle.worm_split.specs.declared.ends.End.{End}
use Rattle.worm_split.specs.declared.ends.End.TheVariants.{Inner, Leaving, Entering}
use Rattle.worm_split.specs.Apart.{Apart, AreWays, Fits, with_lists}
use Rattle.worm_split.specs.Ends.{pair_at, no_pair}
use Rattle.worm_split.specs.Exchange.{way_at}
use Rattle.worm_split.proofs.Exchanged.{framed_with}
use Rattle.worm_split.proofs.Gathered.{not_same}
use Rattle.worm_split.specs.Joins.{AreEmptied, AreOfOne, IsBetween, IsEmptied}

pub record PairsSoFar (workers count : ℕ) (old new : Apart) : Type 0 where
  pub emptied : AreEmptied workers count old.ways old.pairs old.net.links new.net.links
  pub ahead : (k : ℕ) → count ≤ k → slice_index_or new.net.links k blank_link ≡ slice_index_or old.net.links k
      blank_link
  pub pairs_ahead : (k : ℕ) → count ≤ k → pair_at new.pairs k ≡ pair_at old.pairs k
  pub pairs_length : length new.pairs ≡ length old.pairs
  pub ways : new.ways ≡ old.ways
  pub rest : new.net ≡ with_lists old.net old.net.nodes new.net.links

-- a link that is emptied keeps its room
pub emptied_room : (out into : End) (a b : LinkView) → IsEmptied out into a b → b.room ≡ a.room
emptied_room Inner into a b h = ap (λ (l : LinkView). l.room) h
emptied_room (Leaving tx back) Inner a b h = ap (λ (l : LinkView). l.room) h
emptied_room (Leaving tx back) (Leaving tx2 back2) a b h = ap (λ (l : LinkView). l.room) h
emptied_room (Leaving tx back) (Entering rx give) a b h = h.room
emptied_room (Entering rx give) into a b h = ap (λ (l : LinkView). l.room) h

-- and so the network of the lists its shape
pub emptied_framed : (workers : ℕ) (old : Apart) (links : List LinkView) → Fits old
    → AreEmptied workers (length old.ways) old.ways old.pairs old.net.links links
    → IsFramed (with_lists old.net old.net.nodes links)
emptied_framed workers old links fits emptied =
    let ways = fits.ways.all in
    let all = fits.framed.all_links in
    let room : (k : ℕ) → k < length old.net.links →
    (slice_index_or links k blank_link).room ≡ (slice_index_or old.net.links k blank_link).room
    = λ k below. elim (number_cases ((way_at old.ways k).from % workers) ((way_at old.ways k).to % workers)) [
      | inl here ↦ ap (λ (l : LinkView). l.room) (emptied.within k here.1)
      | inr away ↦ emptied_room _ _ _ _ (emptied.done k (omega arith) away.1)
    ] in
    framed_with old.net old.net.nodes links fits.framed refl emptied.same_length fits.framed.each_node
    (λ k there. let was = fits.framed.rooms k there in let same = room k there in omega arith)

module _ (workers k : ℕ) (old now : Apart) (fits : Fits old) (so_far : PairsSoFar workers k old now) (way : LinkEnds)
    (pair new_pair : EndPair) (link new_link : LinkView) (inside : Bool) (there : k < length old.ways)
    (way_is : way ≡ slice_index_or now.ways k way) (pair_is : pair ≡ slice_index_or now.pairs k pair)
    (link_is : link ≡ slice_index_or now.net.links k link)
    (inside_is : inside ≡ (way.from % workers == way.to % workers)) where
  ways_long : length old.ways ≡ length old.net.links
  ways_long = fits.ways.all ∙ sym fits.framed.all_links

  pairs_long : length old.ways ≡ length old.pairs
  pairs_long = fits.ways.all ∙ sym fits.all_pairs

  way_read : way ≡ way_at old.ways k
  way_read = get_or_read old.ways k way there (way_is ∙ ap (λ (l : List LinkEnds). slice_index_or l k way)
      so_far.ways) _

  pair_read : pair ≡ pair_at old.pairs k
  pair_read =
      let long = so_far.pairs_length in
      get_or_read now.pairs k pair (omega arith) pair_is no_pair ∙ so_far.pairs_ahead k (omega arith)

  link_read : link ≡ slice_index_or old.net.links k blank_link
  link_read =
      let long = so_far.emptied.same_length in
      get_or_read now.net.links k link (omega arith) link_is blank_link ∙ so_far.ahead k (omega arith)

  inside_read : inside ≡ ((way_at old.ways k).from % workers == (way_at old.ways k).to % workers)
  inside_read = inside_is ∙ ap (λ (w : LinkEnds). w.from % workers == w.to % workers) way_read

  -- the ends of a link between two workers are of one queue
  pub one_queue : ((j : ℕ) → IsBetween workers old.ways j
      → AreOfOne (pair_at old.pairs j).out (pair_at old.pairs j).into)
      → inside ≡ false → AreOfOne pair.out pair.into
  one_queue queues apart = subst (λ (l : EndPair). AreOfOne l.out l.into) (sym pair_read)
      (queues k (λ e. let yes : ((way_at old.ways k).from % workers ==
      (way_at old.ways k).to % workers) ≡ true = eq-eqb _ _ e in
      let no = sym inside_read ∙ apart in cc))

  -- the lists with one link more emptied
  abbrev more_links : List LinkView
  more_links = slice_set now.net.links k new_link

  abbrev pub more : Apart
  more = record now { net = with_lists now.net now.net.nodes more_links; pairs = slice_set now.pairs k new_pair }

  pub pairs_further : (inside ≡ false → IsEmptied pair.out pair.into link new_link) → (inside ≡ true → new_link ≡ link)
      → PairsSoFar workers (k + 1) old more
  pairs_further between within =
      let long = so_far.emptied.same_length in
      let pairs_now = so_far.pairs_length in
      let here : slice_index_or more_links k blank_link ≡ new_link =
      get_or-set_same now.net.links k new_link blank_link (omega arith) in
      let other : (j : ℕ) → j ≢ k → slice_index_or more_links j blank_link ≡ slice_index_or now.net.links j blank_link
      = λ j apart. get_or-set_other now.net.links k j new_link blank_link apart in
      record {
        emptied = record {
          same_length = length-set now.net.links k new_link ∙ long;
          done = λ j below apart. elim (cases_lt j k) [
            | inl lt ↦ subst (λ (l : LinkView). IsEmptied (pair_at old.pairs j).out
                (pair_at old.pairs j).into (slice_index_or old.net.links j blank_link) l)
                (sym (other j (λ e. omega arith))) (so_far.emptied.done j lt apart)
            | inr ge ↦
                let same : j ≡ k = omega arith in
                let no : inside ≡ false = inside_read ∙ not_same _ _ (subst (λ
                (i : ℕ). IsBetween workers old.ways i) same apart) in
                let did = between no in
                rw same (rw here (rw (← pair_read, ← link_read) did))
          ];
          within = λ j same. elim (cases_eq j k) [
            | inl at ↦
                let yes : inside ≡ true = inside_read ∙ eq-eqb _ _ (subst (λ (i : ℕ).
                (way_at old.ways i).from % workers ≡ (way_at old.ways i).to % workers) at same) in
                rw at (here ∙ (within yes ∙ link_read))
            | inr away ↦ other j away ∙ so_far.emptied.within j same
          ];
        };
        ahead = λ j past. other j (λ e. omega arith) ∙ so_far.ahead j (omega arith);
        pairs_ahead = λ j past.
            get_or-set_other now.pairs k j new_pair no_pair (λ e. omega arith) ∙ so_far.pairs_ahead j (omega arith);
        pairs_length = length-set now.pairs k new_pair ∙ pairs_now;
        ways = so_far.ways;
        rest = ap (λ (s : NetState). with_lists s s.nodes more_links) so_far.rest;
      }

-- before the first pair
pub pairs_none : (workers : ℕ) (old new : Apart) → new ≡ old → PairsSoFar workers 0 old new
pairs_none workers old new same = subst (λ (a : Apart). PairsSoFar workers 0 old a) (sym same) (record {
  emptied = record { same_length = refl; done = λ k below. absurd (omega arith); within = λ k here. refl };
  ahead = λ k above. refl;
  pairs_ahead = λ k above. refl;
  pairs_length = refl;
  ways = refl;
  rest = refl;
})

-- how many ways there are
pub ways_below : (k end len : ℕ) (ways all : List LinkEnds) → k < end → end ≡ len → len ≡ length ways → ways ≡ all →
    k < length all
ways_below k end len ways all below ends is same = let n = ap (λ (l : List LinkEnds). length l) same in omega arith

pub ways_done : (k end len : ℕ) (ways all : List LinkEnds) → end ≤ k → k ≤ end → end ≡ len → len ≡ length ways →
    ways ≡ all → k ≡ length all
ways_done k end len ways all above below ends is same =
    let n = ap (λ (l : List LinkEnds). length l) same in
    omega arith

module _ (workers count k len : ℕ) (old new : Apart) (fits : Fits old) (so_far : PairsSoFar workers count old new)
    (below : k < length old.ways) where
  pub way_there : len ≡ length new.ways → k < len
  way_there is = let n = ap (λ (l : List LinkEnds). length l) so_far.ways in omega arith

  pub pair_there : len ≡ length new.pairs → k < len
  pair_there is = let a = so_far.pairs_length in let b = fits.all_pairs in let c = fits.ways.all in omega arith

  pub link_there : len ≡ length new.net.links → k < len
  link_there is =
      let a = so_far.emptied.same_length in let b = fits.framed.all_links in let c = fits.ways.all in omega arith

-- the lists fit one another after the last pair, too
pub emptied_fits : (workers count : ℕ) (old new : Apart) → Fits old → PairsSoFar workers count old new →
    count ≡ length old.ways → Fits new
emptied_fits workers count old new fits so_far all = record {
  framed = subst IsFramed (sym so_far.rest) (emptied_framed workers old new.net.links fits
      (subst (λ (n : ℕ). AreEmptied workers n old.ways old.pairs old.net.links new.net.links) all so_far.emptied));
  all_owned = ap (λ (s : NetState). s.own) so_far.rest ∙ fits.all_owned;
  ways = subst (λ (s : NetState). AreWays s.mesh new.ways) (sym so_far.rest)
      (subst (λ (l : List LinkEnds). AreWays old.net.mesh l) (sym so_far.ways) fits.ways);
  all_pairs = so_far.pairs_length
      ∙ (fits.all_pairs ∙ ap (λ (s : NetState). link_count s.mesh) (sym so_far.rest));
}
