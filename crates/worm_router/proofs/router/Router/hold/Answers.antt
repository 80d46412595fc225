use Rattle.std.proofs.lemmas.List.Elements.{All-set, All-get_or}
use Rattle.std.proofs.Common.{◌<◌, ◌≤◌, ◌*◌, ◌∙◌, ◌≡◌, ℕ, List, All, Some, None, get_or, is_none, false, sum, length}
use Rattle.std.proofs.Common.{ap, subst, sym, inr, length-set, refl}
use Rattle.std.proofs.lemmas.Bool.{true≢false}
use Rattle.worm_records.specs.declared.InRecord.TheVariants.{Active, Waiting}
use Rattle.worm_records.specs.declared.OutRecord.{OutRecord}
use Rattle.worm_router.specs.Router.{RouterState, ChannelState, IsChannel, credit_of, free_output, in_state}
use Rattle.worm_router.specs.Allocation.{asking}
use Rattle.worm_router.specs.Demand.{DemandView}
use Rattle.worm_router.specs.Busy.{HasFront, port_held, is_occupied, is_waiting, owes}
use Rattle.worm_router.proofs.Places.{input_of, output_of, output_read}
use Rattle.worm_router.proofs.ChangesSound.{full_after, full_before, input_read, read_sound, state_sound}
use Rattle.worm_router.proofs.Filed.{busy_filed, filed}
use Rattle.worm_router.proofs.Holders.{holders_held, none_by_waiting}
use Rattle.worm_router.proofs.Demanded.{requests_put, free_put}
use Rattle.worm_router.proofs.HeldOuts.{outs_put}
use Rattle.worm_router.proofs.LackCredit.{lack_held}
use Rattle.worm_router.proofs.OweAll.{owe_stay}
use Rattle.worm_router.proofs.FullBuffers.{full_kept}
use Rattle.worm_router.proofs.router.Router.hold.Goals as goal

none_held : {h : ℕ × ℕ} → None ≡ Some h → ⊥
none_held same = cc

-- a grant leaves the credits that were read
granted_fits : (outputs : List OutRecord) (o depth : ℕ) (had u : OutRecord) → o < length outputs
    → had ≡ get_or outputs o had → u.credits ≡ had.credits → All (λ (v : OutRecord). v.credits ≤ depth) outputs
    → u.credits ≤ depth
granted_fits outputs o depth had u within read same all =
    let fits = All-get_or (λ (v : OutRecord). v.credits ≤ depth) outputs o had within all in
    subst (λ n. n ≤ depth) (sym same) (subst (λ (v : OutRecord). v.credits ≤ depth) (sym read) fits)

pub invariant_of-self : goal.invariant_of-self
invariant_of-self c =
    let input = input_of _ c.args.self.now c.args.port c.args.vc c.line-i.result c.index_mut-channel.result.now
    c.self.view_is c.requires.place c.line-i.ensures.value c.line-i.ensures.in_inputs
    c.index_mut-channel.ensures.value in
    let output = output_of _ c.args.self.now c.args.out c.args.out_vc c.line-o.result c.index_mut-output.result.now
    c.self.view_is c.requires.out_place c.line-o.ensures.value c.line-o.ensures.in_outputs
    c.index_mut-output.ensures.value in
    let within = output.within in
    let read = output_read _ c.args.self.now c.args.out c.args.out_vc c.line-o.result c.index_mut-output.result.now
    c.self.view_is c.index_mut-output.ensures.value c.line-o.ensures.value c.line-o.ensures.in_outputs in
    let here = input_read _ c.args.self.now c.args.port c.args.vc c.line-i.result c.index_mut-channel.result.now
    c.self.view_is c.index_mut-channel.ensures.value c.line-i.ensures.value c.line-i.ensures.in_inputs in
    let had = read_sound _ _ _ _ _ c.index_mut-channel.result.now c.index_mut-channel.ensures.value input.within
    c.self.invariant.router.lists.inputs_sound in
    let waits : c.index_mut-channel.result.now.state ≡ Waiting c.args.out =
    ap (λ (x : ChannelState). x.state) here ∙ c.requires.waits in
    let active : c.activate.new.self ≡ in_state c.index_mut-channel.result.now (Active c.args.out c.args.out_vc) =
    c.activate.ensures c.args.out waits in
    record {
      router = record {
        lists = record {
          node_in = c.self.invariant.router.lists.node_in;
          depth_in = c.self.invariant.router.lists.depth_in;
          all_inputs = rw length-set c.self.invariant.router.lists.all_inputs;
          all_outputs = rw length-set c.self.invariant.router.lists.all_outputs;
          inputs_sound = All-set (IsChannel c.self.inside.routes.mesh c.self.inside.classes c.self.inside.depth)
              c.self.inside.inputs.items c.line-i.result c.activate.new.self
              (state_sound _ _ _ _ _ (Active c.args.out c.args.out_vc) had
              (output.place.port_in, output.place.channel_in) active) c.self.invariant.router.lists.inputs_sound;
          credits_fit = All-set (λ (v : OutRecord). v.credits ≤ c.self.inside.depth) c.self.inside.outputs.items
              c.line-o.result c.grant.new.self (granted_fits _ _ _ c.index_mut-output.result.now
              c.grant.new.self within c.index_mut-output.ensures.value
              (ap (λ (v : OutRecord). v.credits) c.grant.ensures) c.self.invariant.router.lists.credits_fit)
              c.self.invariant.router.lists.credits_fit;
          terminal_full = full_after c.self.inside.outputs.items (2 * length c.self.inside.routes.mesh)
              (sum c.self.inside.classes) c.self.inside.depth c.line-o.result c.grant.new.self
              (free_output c.self.inside.depth) within c.self.invariant.router.lists.terminal_full
              (λ vc below same. ap (λ (v : OutRecord). v.credits) c.grant.ensures
              ∙ full_before c.self.inside.outputs.items _ _ _ _ _ within c.index_mut-output.ensures.value same
              (c.self.invariant.router.lists.terminal_full vc below));
        };
        allocators = c.self.invariant.router.allocators;
      };
      arbiters = c.self.invariant.arbiters;
      busy = busy_filed _ _ _ _ _ _ _ _ input c.self.invariant.busy
          (inr (refl, ap is_occupied active)) (inr (refl, ap owes active));
      demand = record {
        requests = requests_put _ _ _ _ _ _ input _ _ _ c.self.invariant.busy.few_ports
            c.self.invariant.busy.few_channels c.self.invariant.demand.requests
            (ap (λ (d : DemandView). d.requests) c.meet.ensures)
            (ap (λ (x : ChannelState). asking c.self.inside.classes x.state x.buffer) active);
        free = free_put _ _ _ _ _ _ output _ _ false c.self.invariant.busy.few_ports
            c.self.invariant.busy.few_channels c.self.invariant.demand.free
            (ap (λ (d : DemandView). d.free) c.meet.ensures)
            (ap (λ (v : OutRecord). is_none v.holder) c.grant.ensures);
      };
      fronts = All-set HasFront c.self.inside.inputs.items c.line-i.result c.activate.new.self
          (λ waiting. absurd (true≢false (sym waiting ∙ ap is_waiting active)))
          c.self.invariant.fronts;
      holders = holders_held _ _ _ _ _ _ _ _ _ _ _ input output
          (λ o k holds. none_by_waiting (sym waits ∙ holds)) (ap (λ (x : ChannelState). x.state) active)
          (ap (λ (v : OutRecord). v.holder) read ∙ c.requires.free)
          (ap (λ (v : OutRecord). v.holder) c.grant.ensures) c.self.invariant.holders;
      classes = c.self.invariant.classes;
      outs = outs_put _ _ _ _ _ _ input _ _ _ c.self.invariant.busy.few_ports c.self.invariant.busy.few_channels
          c.set.ensures (ap (λ (x : ChannelState). port_held x.state) active) c.self.invariant.outs;
      no_credit = lack_held _ _ _ _ _ _ input c.self.invariant.busy.few_ports c.self.invariant.busy.few_channels
          _ _ _ _ _ output c.credit_of-cost.result _ _ (ap (λ (x : ChannelState). x.state) active)
          (c.credit_of-cost.ensures.value ∙ ap (λ (r : RouterState). credit_of r c.args.out) (sym c.self.view_is))
          (filed _ _ _ _ _ c.put.ensures)
          (λ h held. absurd (none_held (sym (ap (λ (v : OutRecord). v.holder) read ∙ c.requires.free) ∙ held)))
          c.self.invariant.holders c.self.invariant.no_credit;
      owes_all = owe_stay _ _ _ _ _ _ input c.self.invariant.busy.few_ports c.self.invariant.busy.few_channels _ _ _
          refl (ap (λ (x : ChannelState). x.owed) active) c.self.invariant.owes_all;
      links = c.self.invariant.links;
      full = full_kept _ _ _ _ _ _ input _ _ _ refl
          (ap (λ (x : ChannelState). x.buffer) active) c.self.invariant.full;
    }

pub activate-requires : goal.activate-requires
activate-requires c =
    let here = input_read _ c.args.self.now c.args.port c.args.vc c.line-i.result c.index_mut-channel.result.now
    c.self.view_is c.index_mut-channel.ensures.value c.line-i.ensures.value c.line-i.ensures.in_inputs in
    (c.args.out, ap (λ (x : ChannelState). x.state) here ∙ c.requires.waits)
