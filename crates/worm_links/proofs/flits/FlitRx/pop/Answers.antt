use Rattle.std.proofs.Common.{rules, ◌++◌, ap, subst}
use Rattle.worm_flit.specs.Packing.{flit_of}
use Rattle.worm_flit.specs.Stamps.{on_channel}
use Rattle.worm_flit.specs.Worms.{Continues}
use Rattle.worm_links.specs.Links.{IsWord, IsLinkHistory, MayCross, RxView}
use Rattle.worm_links.proofs.Histories.{takes}
use Rattle.worm_links.proofs.OnLinks.{history_front, pop_tells}
use Rattle.worm_links.proofs.flits.FlitRx.pop.Goals as goal

pub try_pop_as-requires-clause-rule : goal.try_pop_as-requires-clause-rule
try_pop_as-requires-clause-rule c =
    takes flit_of IsWord IsLinkHistory _ _ (ap (λ v. v.pops) c.self.invariant.role) history_front

pub returns-clause-continues : goal.returns-clause-continues
returns-clause-continues c =
    let f = c.flit_in.result in
    subst (λ (s : RxView). Continues (on_channel f.vc (s.past ++ s.taken)) f) c.self.view_is
    (pop_tells _ _ _ _ c.flit_in.ensures c.in_ok-word.ensures.rule).0

pub returns-clause-crossing : goal.returns-clause-crossing
returns-clause-crossing c =
    subst (λ (s : RxView). MayCross s.link c.flit_in.result) c.self.view_is
    (pop_tells _ _ _ _ c.flit_in.ensures c.in_ok-word.ensures.rule).1

pub returns-clause-none : goal.returns-clause-none
returns-clause-none c = search rules

pub returns-clause-taken : goal.returns-clause-taken
returns-clause-taken c = search rules

pub flit_in-requires : goal.flit_in-requires
flit_in-requires c = search rules
