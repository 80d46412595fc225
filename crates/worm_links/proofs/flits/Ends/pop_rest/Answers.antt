use Rattle.std.proofs.Common.{◌++◌, ap, subst}
use Rattle.worm_flit.specs.Packing.{flit_of}
use Rattle.worm_flit.specs.Stamps.{on_channel}
use Rattle.worm_flit.specs.Worms.{Continues}
use Rattle.worm_links.specs.Links.{IsWord, IsLinkHistory, MayCross, EndsView}
use Rattle.worm_links.proofs.Histories.{takes, learns_rest}
use Rattle.worm_links.proofs.OnLinks.{history_front, pop_tells}
use Rattle.worm_links.proofs.flits.Ends.pop_rest.Goals as goal

pub pop_as-requires-clause-rule : goal.pop_as-requires-clause-rule
pop_as-requires-clause-rule g c =
    let may = ap (λ v. v.pops) c.self.invariant.role in (
      takes flit_of IsWord IsLinkHistory _ _ may history_front,
      learns_rest flit_of IsWord IsLinkHistory _ _ may,
    )

pub returns-clause-continues : goal.returns-clause-continues
returns-clause-continues g c =
    let f = c.flit_in.result in
    subst (λ (s : EndsView). Continues (on_channel f.vc (s.past ++ s.taken)) f) c.self.view_is
    (pop_tells _ _ _ _ c.flit_in.ensures c.in_ok-next.ensures.rule).0

pub returns-clause-crossing : goal.returns-clause-crossing
returns-clause-crossing g c =
    subst (λ (s : EndsView). MayCross s.link c.flit_in.result) c.self.view_is
    (pop_tells _ _ _ _ c.flit_in.ensures c.in_ok-next.ensures.rule).1
