use Rattle.std.proofs.Common.{ℕ, ap, subst}
use Rattle.worm_split.specs.Apart.{Apart, Fits, taken_apart}
use Rattle.worm_split.specs.Joins.{AreEmptied}
use Rattle.worm_split.proofs.PairsEmptied.{emptied_fits, link_there, one_queue, pair_there, pairs_further, pairs_none}
use Rattle.worm_split.proofs.PairsEmptied.{way_there, ways_below, ways_done}
use Rattle.worm_split.proofs.apart.TakenApart.empty_pairs.Goals as goal

pub empty_between-requires : goal.empty_between-requires
empty_between-requires g c =
    let s = c.loop-k in
    let i = s.self-inside in
    let there = ways_below s.k _ _ c.self.inside.ways.items _ c.loop-k-test.true c.len-k-end.ensures
    c.self.inside.ways.ok.0 (ap (λ (a : Apart). a.ways) c.self.view_is) in
    one_queue c.args.workers s.k c.args.self.now
    (taken_apart i.config i.ways.items i.nodes.items i.links.items i.pairs.items)
    (subst Fits c.self.view_is c.self.invariant) s.invariant c.index.result.now c.index_mut.result.now
    c.index_mut.result.now c.index_mut-in-loop-k.result.now c.index_mut-in-loop-k.result.now
    c.is_within-within.result there c.index.ensures c.index_mut.ensures.value
    c.index_mut-in-loop-k.ensures.value c.is_within-within.ensures c.requires.queues

pub loop-k-preserved : goal.loop-k-preserved
loop-k-preserved g c =
    let s = c.loop-k in
    let i = s.self-inside in
    let there = ways_below s.k _ _ c.self.inside.ways.items _ c.loop-k-test.true c.len-k-end.ensures
    c.self.inside.ways.ok.0 (ap (λ (a : Apart). a.ways) c.self.view_is) in
    pairs_further c.args.workers s.k c.args.self.now
    (taken_apart i.config i.ways.items i.nodes.items i.links.items i.pairs.items)
    (subst Fits c.self.view_is c.self.invariant) s.invariant c.index.result.now c.index_mut.result.now
    c.empty_between.new.pair c.index_mut-in-loop-k.result.now c.empty_between.new.link
    c.is_within-within.result there c.index.ensures c.index_mut.ensures.value
    c.index_mut-in-loop-k.ensures.value c.is_within-within.ensures c.empty_between.ensures.between
    c.empty_between.ensures.within

pub loop-k-init : goal.loop-k-init
loop-k-init g c = pairs_none c.args.workers c.args.self.now _ c.self.view_is

pub index-requires : goal.index-requires
index-requires g c =
    let there = ways_below c.loop-k.k _ _ c.self.inside.ways.items _ c.loop-k-test.true c.len-k-end.ensures
    c.self.inside.ways.ok.0 (ap (λ (a : Apart). a.ways) c.self.view_is) in
    way_there c.args.workers c.loop-k.k c.loop-k.k _ c.args.self.now _ (subst Fits c.self.view_is c.self.invariant)
    c.loop-k.invariant there c.loop-k.self-inside.ways.ok.0

pub index_mut-requires : goal.index_mut-requires
index_mut-requires g c =
    let there = ways_below c.loop-k.k _ _ c.self.inside.ways.items _ c.loop-k-test.true c.len-k-end.ensures
    c.self.inside.ways.ok.0 (ap (λ (a : Apart). a.ways) c.self.view_is) in
    pair_there c.args.workers c.loop-k.k c.loop-k.k _ c.args.self.now _ (subst Fits c.self.view_is c.self.invariant)
    c.loop-k.invariant there c.loop-k.self-inside.pairs.ok.0

pub index_mut-requires-in-loop-k : goal.index_mut-requires-in-loop-k
index_mut-requires-in-loop-k g c =
    let there = ways_below c.loop-k.k _ _ c.self.inside.ways.items _ c.loop-k-test.true c.len-k-end.ensures
    c.self.inside.ways.ok.0 (ap (λ (a : Apart). a.ways) c.self.view_is) in
    link_there c.args.workers c.loop-k.k c.loop-k.k _ c.args.self.now _ (subst Fits c.self.view_is c.self.invariant)
    c.loop-k.invariant there c.loop-k.self-inside.links.ok.0

pub returns-clause-links : goal.returns-clause-links
returns-clause-links g c =
    let old = c.args.self.now in
    let all = ways_done c.loop-k.k _ _ c.self.inside.ways.items old.ways c.loop-k-test.false c.loop-k.auto.k-end
    c.len-k-end.ensures c.self.inside.ways.ok.0 (ap (λ (a : Apart). a.ways) c.self.view_is) in
    subst (λ (n : ℕ). AreEmptied c.args.workers n old.ways old.pairs old.net.links c.loop-k.self-inside.links.items)
    all c.loop-k.invariant.emptied

pub returns-clause-rest : goal.returns-clause-rest
returns-clause-rest g c = c.loop-k.invariant.rest

pub invariant_of-self : goal.invariant_of-self
invariant_of-self g c =
    let i = c.loop-k.self-inside in
    emptied_fits c.args.workers c.loop-k.k c.args.self.now
    (taken_apart i.config i.ways.items i.nodes.items i.links.items i.pairs.items)
    (subst Fits c.self.view_is c.self.invariant) c.loop-k.invariant
    (ways_done c.loop-k.k _ _ c.self.inside.ways.items _ c.loop-k-test.false c.loop-k.auto.k-end
    c.len-k-end.ensures c.self.inside.ways.ok.0 (ap (λ (a : Apart). a.ways) c.self.view_is))
