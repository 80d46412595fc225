use Rattle.std.proofs.Common.{◌≡◌, ◌<◌, arith, List, Option, subst, sym}
use Rattle.worm_region.specs.State.{IsFramed, NetState}
use Rattle.worm_split.specs.declared.ends.End.{End}
use Rattle.worm_split.specs.Apart.{Apart, ArePaired, IsKept, IsPutBack}
use Rattle.worm_split.specs.PartState.{PartState, HasConfigOf, IsPart}
use Rattle.worm_split.proofs.Popping.{gather_first, gather_step, its_lists, lists_step}
use Rattle.worm_split.proofs.joining.gather.Goals as goal

-- what was taken out of a part is put back as the part's

its_put : (s : NetState) (ends : List End) (p : PartState) (old new : Apart) → s ≡ p.net → ends ≡ p.ends
    → IsPutBack s.own old new s.nodes s.links ends → IsPutBack p.net.own old new p.net.nodes p.net.links p.ends
its_put s ends p old new net same back =
    subst (λ (es : List End). IsPutBack p.net.own old new p.net.nodes p.net.links es) same
    (subst (λ (n : NetState). IsPutBack n.own old new n.nodes n.links ends) net back)

its_paired : (s : NetState) (ends : List End) (p : PartState) (kept : Apart) → s ≡ p.net → ends ≡ p.ends
    → ArePaired kept p.net.nodes p.net.links p.ends → ArePaired kept s.nodes s.links ends
its_paired s ends p kept net same paired =
    subst (λ (es : List End). ArePaired kept s.nodes s.links es) (sym same)
    (subst (λ (n : NetState). ArePaired kept n.nodes n.links p.ends) (sym net) paired)

pub loop-part-init : goal.loop-part-init
loop-part-init c =
    let p = c.in-Some.last in
    let its = c.into_pieces-region.ensures in
    let config : HasConfigOf p.opening c.in-Some-kept.whole.net =
    subst (λ (o : Option Apart). IsKept p.opening p.net.own o) c.in-Some-kept.is its.kept in
    gather_first c.args.parts.items c.requires c.pop.new.self.items p c.in-Some.ensures.items its.part
    (subst IsFramed its.net c.recall.ensures.framed) c.in-Some-kept.whole c.put_back.new.self c.recall-2.ensures config
    (its_put _ _ p c.in-Some-kept.whole c.put_back.new.self its.net its.ends c.put_back.ensures)

pub put_back-requires-clause-paired : goal.put_back-requires-clause-paired
put_back-requires-clause-paired c =
    let p = c.in-Some.last in
    let its = c.into_pieces-region.ensures in
    let config : HasConfigOf p.opening c.in-Some-kept.whole.net =
    subst (λ (o : Option Apart). IsKept p.opening p.net.own o) c.in-Some-kept.is its.kept in
    its_paired _ _ p c.in-Some-kept.whole its.net its.ends
    (its_lists p c.in-Some-kept.whole its.part (subst IsFramed its.net c.recall.ensures.framed) config)

pub put_back-requires-in-Some-pop-clause-paired : goal.put_back-requires-in-Some-pop-clause-paired
put_back-requires-in-Some-pop-clause-paired c =
    let s = c.loop-part in
    let p = c.in-Some-pop.part in
    let its = c.into_pieces-region-in-Some-pop.ensures in
    its_paired _ _ p s.whole its.net its.ends
    (lists_step c.args.parts.items c.requires s.parts.items c.pop-in-loop-part.new.self.items s.invariant.done p
    s.invariant.all c.in-Some-pop.ensures.items its.part
    (subst IsFramed its.net c.recall-in-Some-pop.ensures.framed) s.whole s.invariant.gathered.config)

pub loop-part-preserved : goal.loop-part-preserved
loop-part-preserved c =
    let s = c.loop-part in
    let p = c.in-Some-pop.part in
    let its = c.into_pieces-region-in-Some-pop.ensures in
    gather_step c.args.parts.items c.requires s.parts.items c.pop-in-loop-part.new.self.items s.invariant.done p
    s.invariant.all c.in-Some-pop.ensures.items its.part
    (subst IsFramed its.net c.recall-in-Some-pop.ensures.framed) s.whole c.put_back-in-Some-pop.new.self
    s.invariant.gathered
    (its_put _ _ p s.whole c.put_back-in-Some-pop.new.self its.net its.ends c.put_back-in-Some-pop.ensures)

-- each part is one of some workers'
has_workers : (s : NetState) (p : PartState) → s ≡ p.net → IsPart p → 0 < s.own.workers
has_workers s p net part =
    subst (λ (n : NetState). 0 < n.own.workers) (sym net) (let below = part.worker in omega arith)

pub put_back-requires-clause-workers : goal.put_back-requires-clause-workers
put_back-requires-clause-workers c =
    has_workers _ c.in-Some.last c.into_pieces-region.ensures.net c.into_pieces-region.ensures.part

pub put_back-requires-in-Some-pop-clause-workers : goal.put_back-requires-in-Some-pop-clause-workers
put_back-requires-in-Some-pop-clause-workers c =
    let its = c.into_pieces-region-in-Some-pop.ensures in
    has_workers _ c.in-Some-pop.part its.net its.part
