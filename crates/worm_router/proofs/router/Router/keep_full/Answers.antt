use Rattle.std.proofs.Common.{arith, refl, subst, sym}
use Rattle.worm_router.specs.Router.{RouterState}
use Rattle.worm_router.specs.Busy.{IsFull}
use Rattle.worm_router.proofs.Filed.{busy_as}
use Rattle.worm_router.proofs.FullBuffers.{more_full}
use Rattle.worm_router.proofs.router.Router.keep_full.Goals as goal

pub put-requires : goal.put-requires
put-requires c =
    let full = subst (λ (r : RouterState). IsFull r c.args.class) (sym c.self.view_is) c.requires in
    omega (arith, full.class_in, c.self.invariant.classes.are.few)

pub invariant_of-self : goal.invariant_of-self
invariant_of-self c = record {
  router = c.self.invariant.router;
  arbiters = c.self.invariant.arbiters;
  busy = busy_as _ _ _ _ _ _ c.self.invariant.busy refl refl;
  demand = c.self.invariant.demand;
  fronts = c.self.invariant.fronts;
  holders = c.self.invariant.holders;
  outs = c.self.invariant.outs;
  no_credit = c.self.invariant.no_credit;
  owes_all = c.self.invariant.owes_all;
  links = c.self.invariant.links;
  full = more_full _ _ _ _ (subst (λ (r : RouterState). IsFull r c.args.class) (sym c.self.view_is) c.requires)
      c.put.ensures c.self.invariant.full;
  classes = c.self.invariant.classes;
}
