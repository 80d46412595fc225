use Rattle.std.proofs.Common.{◌≡◌, ◌<◌, ◌≤◌, ◌-◌, ◌∙◌, ◌∷◌, [], ℕ, zero, suc, List, Some, arith, drop, get_or, length}
use Rattle.std.proofs.Common.{length-drop, refl, take}
use Rattle.std.specs.Prelude.{slice_get}
use Rattle.std.proofs.lemmas.List.{take_all}
use Rattle.worm_flit.specs.declared.Flit.{Flit}
use Rattle.worm_flit.specs.Stamps.{of_lane}
use Rattle.worm_core.specs.LaneView.{at_place}
use Rattle.worm_core.specs.declared.view.Place.TheVariants.{Source}
use Rattle.worm_core.proofs.ViewLists.{added, held-more}
use Rattle.worm_core.proofs.view.put_unfed.Goals as goal

-- the flit at a place of a list
flit_at : (flits : List Flit) (i : ℕ) (d : Flit) → i < length flits → slice_get flits i ≡ Some (get_or flits i d)
flit_at [] i d there = absurd (omega arith)
flit_at (f ∷ fs) zero d there = refl
flit_at (f ∷ fs) (suc i) d there = flit_at fs i d (omega arith)

-- past the end of what is left of a list, all of it was taken
all_taken : (flits : List Flit) (n i : ℕ) → length (take (length flits - n) (drop n flits)) ≤ i
    → take i (take (length flits - n) (drop n flits)) ≡ drop n flits
all_taken flits n i past =
    take_all i (take (length flits - n) (drop n flits)) past
    ∙ take_all (length flits - n) (drop n flits) (omega (arith, length-drop n flits))

pub loop-flit-preserved : goal.loop-flit-preserved
loop-flit-preserved c =
    let fed = c.fed_count-fed.result in
    let flits = take (length c.injected.result.now - fed) (drop fed c.injected.result.now) in
    added c.args.held.now.items c.loop-flit.held.items _
    (at_place Source (of_lane c.args.lane (take c.loop-flit.flit-index flits))) _ _
    c.in_ok-put.ensures c.loop-flit.invariant
    (held-more Source c.args.lane flits c.loop-flit.flit-index _
    (flit_at flits c.loop-flit.flit-index _ c.loop-flit-test.true))

pub returns : goal.returns
returns c =
    rw (← c.fed_count-fed.ensures.value, ← c.injected.ensures.value)
    (rw (← all_taken c.injected.result.now c.fed_count-fed.result c.loop-flit.flit-index c.loop-flit-test.false)
    c.loop-flit.invariant)
