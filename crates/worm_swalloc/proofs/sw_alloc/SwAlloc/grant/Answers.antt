use Rattle.std.proofs.Common.{◌≡◌, ◌∙◌, ap, sym, subst}
use Rattle.worm_swalloc.specs.SwAlloc.{IsSwitchMatching, sw_after, sw_grants}
use Rattle.worm_swalloc.proofs.ReadyCells.{all_ready}
use Rattle.worm_swalloc.proofs.sw_alloc.SwAlloc.grant.Goals as goal

-- the channels that are ready are those of the array
is_ready : (c : goal.After-to_array) → c.new.result ≡ c.args.ready.now
is_ready c =
    c.new.ensures ∙ all_ready c.from_rows-outs.result c.keys.result c.from_rows-outs.ensures.shape c.keys.ensures
    ∙ c.from_rows-outs.ensures.value

pub returns-clause-grants : goal.returns-clause-grants
returns-clause-grants c =
    c.to_array.ensures ∙ c.grant_ready-matching.ensures.grants
    ∙ ap (sw_grants c.args.self.now) (is_ready c)

pub returns-clause-after : goal.returns-clause-after
returns-clause-after c =
    c.grant_ready-matching.ensures.after
    ∙ ap (sw_after c.args.self.now) (is_ready c)

pub returns-clause-matching : goal.returns-clause-matching
returns-clause-matching c =
    subst (IsSwitchMatching c.args.self.now c.args.ready.now) (sym c.to_array.ensures)
    (subst (λ ready. IsSwitchMatching c.args.self.now ready c.grant_ready-matching.result)
    (is_ready c) c.grant_ready-matching.ensures.matching)
