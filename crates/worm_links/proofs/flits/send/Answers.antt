use Rattle.std.proofs.Common.{rules, ◌∷◌, [], ◌++◌, ap, subst, sym}
use Rattle.crossbeam_queue.specs.Passes.{view}
use Rattle.worm_flit.specs.declared.Flit.{Flit}
use Rattle.worm_flit.specs.Packing.{flit_of}
use Rattle.worm_links.specs.Links.{IsWord, IsLinkHistory}
use Rattle.worm_links.proofs.Histories.{sends, learns_sent}
use Rattle.worm_links.proofs.OnLinks.{history_grows}
use Rattle.worm_links.proofs.flits.send.Goals as goal

pub push_as-requires-clause-rule : goal.push_as-requires-clause-rule
push_as-requires-clause-rule g c =
    let before = view c.args.pass.now in
    let may = ap (λ v. v.pushes) c.requires.queue.1 in (
      sends flit_of IsWord IsLinkHistory _ _ _ _ may c.pack.ensures.back.0
          (subst (λ (f : Flit). IsLinkHistory before.link before.sent →
          IsLinkHistory before.link (before.sent ++ f ∷ [])) (sym c.pack.ensures.back.1)
          (history_grows before.link _ _ c.requires.continues c.requires.crossing)),
      learns_sent flit_of IsWord IsLinkHistory _ _ may,
    )

pub returns-in-Err-clause-landed : goal.returns-in-Err-clause-landed
returns-in-Err-clause-landed g c = search rules

pub returns-in-Ok-clause-landed : goal.returns-in-Ok-clause-landed
returns-in-Ok-clause-landed g c = search rules
