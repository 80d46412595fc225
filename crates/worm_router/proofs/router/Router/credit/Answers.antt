use Rattle.std.proofs.Common.{ℕ, ◌<◌, ◌≡◌, ◌∙◌, IfSome, MatchOption, false, refl, sym, subst, arith, ap, ◌*◌}
use Rattle.std.proofs.Common.{sum, length, slice_set}
use Rattle.std.proofs.lemmas.Grind.{common_steps, elements}
use Rattle.worm_records.specs.declared.OutRecord.{OutRecord}
use Rattle.worm_router.specs.Busy.{IsFiled, IsKept}
use Rattle.worm_router.specs.Router.{free_output, router_state}
use Rattle.worm_router.proofs.ChangesSound.{full_after, full_before}
use Rattle.worm_router.proofs.Places.{output_of}
use Rattle.worm_router.proofs.Filed.{busy_as, filed}
use Rattle.worm_router.proofs.Holders.{holders_out}
use Rattle.worm_router.proofs.LackCredit.{lack_credited, holder_fits}
use Rattle.worm_router.proofs.Demanded.{free_kept}
use Rattle.worm_router.proofs.FullBuffers.{full_as}
use Rattle.worm_router.proofs.router.Router.credit.Goals.{After-add_credit}
use Rattle.worm_router.proofs.router.Router.credit.Goals as goal

-- a credit has come, and whoever holds the channel lacks none
credited : (c : After-add_credit) (no_credit : ℕ)
    → MatchOption c.add_credit.new.self.holder (no_credit ≡ c.self.inside.busy.no_credit)
    (λ place. IsFiled c.self.inside.busy.no_credit no_credit place.0 place.1 false)
    → IsKept (router_state c.self.inside.routes.mesh c.self.inside.routes.node c.self.inside.classes c.self.inside.depth
    c.self.inside.inputs.items (slice_set c.self.inside.outputs.items c.line-o.result c.add_credit.new.self)
    c.self.inside.channel_alloc c.self.inside.switch_alloc) (record c.self.inside.busy { no_credit = no_credit })
    c.self.inside.demand c.self.inside.masks
credited c no_credit filed_so =
    let output = output_of _ c.args.self.now c.args.out_port c.args.vc c.line-o.result c.index_mut-output.result.now
    c.self.view_is c.requires c.line-o.ensures.value c.line-o.ensures.in_outputs c.index_mut-output.ensures.value in
    let within : c.line-o.result < length c.self.inside.outputs.items = output.within in
    record {
      router = record {
        lists = record {
          node_in = c.self.invariant.router.lists.node_in;
          depth_in = c.self.invariant.router.lists.depth_in;
          all_inputs = c.self.invariant.router.lists.all_inputs;
          all_outputs = grind (arith, common_steps);
          inputs_sound = c.self.invariant.router.lists.inputs_sound;
          credits_fit = grind (arith, elements);
          terminal_full = full_after c.self.inside.outputs.items (2 * length c.self.inside.routes.mesh)
              (sum c.self.inside.classes) c.self.inside.depth c.line-o.result c.add_credit.new.self
              (free_output c.self.inside.depth) within c.self.invariant.router.lists.terminal_full
              (λ vc below same. absurd (let full = full_before c.self.inside.outputs.items _ _ _ _ _ within
              c.index.ensures same (c.self.invariant.router.lists.terminal_full vc below) in
              c.if-index-depth.false full));
        };
        allocators = c.self.invariant.router.allocators;
      };
      arbiters = c.self.invariant.arbiters;
      busy = busy_as _ _ _ _ _ _ c.self.invariant.busy refl refl;
      demand = record {
        requests = c.self.invariant.demand.requests;
        free = c.self.invariant.demand.free
            ∙ sym (free_kept _ _ _ _ _ _ output (ap (λ (u : OutRecord). u.holder) c.add_credit.ensures));
      };
      fronts = c.self.invariant.fronts;
      holders = holders_out _ _ _ _ _ _ output
          (ap (λ (u : OutRecord). u.holder) c.add_credit.ensures) c.self.invariant.holders;
      classes = c.self.invariant.classes;
      outs = c.self.invariant.outs;
      no_credit = lack_credited _ _ _ _ _ _ output (ap (λ (u : OutRecord). u.credits) c.add_credit.ensures)
          c.self.invariant.busy.few_ports c.self.invariant.busy.few_channels c.self.invariant.router
          c.self.invariant.holders _ _ (ap (λ (u : OutRecord). u.holder) c.add_credit.ensures)
          c.self.invariant.no_credit filed_so;
      owes_all = record { each = c.self.invariant.owes_all.each };
      links = c.self.invariant.links;
      full = full_as _ _ _ _ _ _ refl c.self.invariant.full;
    }

pub invariant_of-self : goal.invariant_of-self
invariant_of-self c =
    let at = (goal.at.invariant_of-self c).After-add_credit in
    credited at c.put.new.self
    (subst (λ h. MatchOption h (c.put.new.self ≡ c.self.inside.busy.no_credit)
    (λ place. IsFiled c.self.inside.busy.no_credit c.put.new.self place.0 place.1 false)) (sym c.in-Some.is)
    (filed _ _ _ _ _ c.put.ensures))

pub invariant_of-self-in_default : goal.invariant_of-self-in_default
invariant_of-self-in_default c =
    let at = (goal.at.invariant_of-self-in_default c).After-add_credit in
    let none = c.self.inside.busy.no_credit in
    credited at none (subst (λ h. MatchOption h (none ≡ none) (λ place. IsFiled none none place.0 place.1 false))
    (sym c.in_default.is) refl)

-- the holder is one of the router's input channels
fits : (c : After-add_credit) → IfSome c.add_credit.new.self.holder (λ place. (place.0 < 7) × (place.1 < 8))
fits c =
    holder_fits _ _ _ _ _ _ (output_of _ c.args.self.now c.args.out_port c.args.vc c.line-o.result
    c.index_mut-output.result.now c.self.view_is c.requires c.line-o.ensures.value c.line-o.ensures.in_outputs
    c.index_mut-output.ensures.value) (ap (λ (u : OutRecord). u.holder) c.add_credit.ensures)
    c.self.invariant.busy.few_ports c.self.invariant.busy.few_channels c.self.invariant.holders

pub put-requires-clause-port : goal.put-requires-clause-port
put-requires-clause-port c =
    (subst (λ h. IfSome h (λ place. (place.0 < 7) × (place.1 < 8))) c.in-Some.is
    (fits (goal.at.put-requires-clause-port c).After-add_credit)).0

pub put-requires-clause-channel : goal.put-requires-clause-channel
put-requires-clause-channel c =
    (subst (λ h. IfSome h (λ place. (place.0 < 7) × (place.1 < 8))) c.in-Some.is
    (fits (goal.at.put-requires-clause-channel c).After-add_credit)).1
