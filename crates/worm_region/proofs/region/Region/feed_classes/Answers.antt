use Rattle.std.proofs.Common.{◌<◌, Ok, ℕ, List, length, map, refl, subst, sym}
use Rattle.worm_mesh.specs.Address.{node_count}
use Rattle.worm_theory.specs.Steps.{Feed}
use Rattle.worm_region.specs.Turns.{all_classes}
use Rattle.worm_region.proofs.SetWalked.{number_taken, walked_place}
use Rattle.worm_region.proofs.EachCovered.{covered_all, covered_more, covered_start}
use Rattle.worm_region.proofs.ClassesCovered.{classes, feed_elsewhere}
use Rattle.worm_region.specs.Answers.{moved_of}
use Rattle.worm_region.proofs.Passages.{does_quietly}
use Rattle.worm_region.proofs.region.Region.feed_classes.Goals as goal

pub loop-class-init : goal.loop-class-init
loop-class-init c =
    let set = c.unfed-left in
    covered_start (classes c.args.node) c.args.self.now set.result set.ensures.sound set.ensures.classes

pub feed-fed-requires-clause-node : goal.feed-fed-requires-clause-node
feed-fed-requires-clause-node c =
    subst (λ (m : List ℕ). c.args.node < node_count m) (sym c.loop-class.invariant.done.does.reaches.config.mesh)
    c.requires

pub feed-fed-requires-clause-class : goal.feed-fed-requires-clause-class
feed-fed-requires-clause-class c =
    let inv = c.loop-class.invariant in
    subst (λ (counts : List ℕ). c.in-Some.class < length counts) (sym inv.done.does.reaches.config.channels)
    (walked_place inv (number_taken c.in-Some.ensures).was_in).1

pub loop-class-preserved : goal.loop-class-preserved
loop-class-preserved c =
    let fed = c.feed-fed in
    let answer = Ok (moved_of fed.result) in
    let s = c.loop-class.self in
    let x = c.args.node in
    let k = c.in-Some.class in
    covered_more (classes x) c.args.self.now c.requires s c.loop-class.left fed.new.self c.pop_first.new.self k
    c.loop-class.invariant c.in-Some.ensures
    (does_quietly s fed.new.self (Feed x k) answer refl (λ grows. grows) fed.ensures)
    (feed_elsewhere s fed.new.self x k answer c.recall.ensures fed.ensures) c.recall-in-Some.ensures

pub returns : goal.returns
returns c =
    let x = c.args.node in
    covered_all (classes x) c.args.self.now c.requires c.loop-class.self c.loop-class.left
    (λ s. map (Feed x) (all_classes s)) c.loop-class.invariant c.in_default.ensures.0 refl
