use Rattle.std.proofs.Common.{◌<◌, ◌≡◌, ◌==◌, ◌&&◌, not, refl, subst, arith, sym, ap, ◌∙◌, inl, inr}
use Rattle.worm_router.specs.Router.{ChannelState}
use Rattle.std.proofs.lemmas.List.Elements.{All-set, All-get_or}
use Rattle.worm_router.specs.Allocation.{asking}
use Rattle.worm_router.specs.Busy.{HasFront, IsFiled, is_occupied, owes, port_held}
use Rattle.std.proofs.lemmas.Bool.{lt-ltb}
use Rattle.worm_vcalloc.specs.ChannelSet.{has}
use Rattle.worm_router.proofs.Places.{input_of}
use Rattle.worm_router.proofs.ChangesSound.{input_read, input_set_sound, read_sound, give_sound}
use Rattle.worm_router.proofs.Filed.{busy_filed, filed, inside_of, owes_still}
use Rattle.worm_router.proofs.Demanded.{requests_kept}
use Rattle.worm_router.proofs.Holders.{holders_in}
use Rattle.worm_router.proofs.HeldOuts.{outs_kept}
use Rattle.worm_router.proofs.LackCredit.{lack_stay}
use Rattle.worm_router.proofs.OweAll.{owe_given}
use Rattle.worm_router.proofs.OweByLinks.{owing_given}
use Rattle.worm_router.proofs.FullBuffers.{full_kept}
use Rattle.worm_router.proofs.router.Router.gave.Goals as goal

pub invariant_of-self : goal.invariant_of-self
invariant_of-self c =
    let input = input_of _ c.args.self.now c.args.port c.args.vc c.line-i.result c.index_mut-channel.result.now
    c.self.view_is c.requires.place c.line-i.ensures.value c.line-i.ensures.in_inputs
    c.index_mut-channel.ensures.value in
    let had = read_sound _ _ _ _ _ c.index_mut-channel.result.now c.index_mut-channel.ensures.value input.within
    c.self.invariant.router.lists.inputs_sound in
    let here = input_read _ c.args.self.now c.args.port c.args.vc c.line-i.result c.index_mut-channel.result.now
    c.self.view_is c.index_mut-channel.ensures.value c.line-i.ensures.value c.line-i.ensures.in_inputs in
    let front : HasFront c.index_mut-channel.result.now =
    subst HasFront (sym c.index_mut-channel.ensures.value)
    (All-get_or HasFront c.self.inside.inputs.items c.line-i.result c.index_mut-channel.result.now input.within
    c.self.invariant.fronts) in
    let owed_some : 0 < c.index_mut-channel.result.now.owed =
    subst (λ (x : ChannelState). 0 < x.owed) (sym here) c.requires.owed in
    let owing : (has c.self.inside.busy.owing c.args.port c.args.vc && not (c.owed.result == 0))
    ≡ owes c.give.new.self =
    ap (λ n. has c.self.inside.busy.owing c.args.port c.args.vc && not (n == 0)) c.owed.ensures
    ∙ owes_still c.give.new.self.owed _ (inside_of owes _ _ _ _ _ _ input c.self.invariant.busy.owing
    ∙ lt-ltb 0 c.index_mut-channel.result.now.owed owed_some) in
    record {
      router = record {
        lists = input_set_sound _ _ _ _ _ _ _ _ c.self.invariant.router.lists (give_sound _ _ _ _ _ had c.give.ensures);
        allocators = c.self.invariant.router.allocators;
      };
      arbiters = c.self.invariant.arbiters;
      busy = busy_filed _ _ _ _ _ _ _ _ input c.self.invariant.busy
          (inr (refl, ap is_occupied c.give.ensures))
          (inl (subst (IsFiled _ _ _ _) owing (filed _ _ _ _ _ c.remove_if.ensures)));
      demand = record {
        requests = c.self.invariant.demand.requests
            ∙ sym (requests_kept _ _ _ _ _ _ input
            (ap (λ (x : ChannelState). asking c.self.inside.classes x.state x.buffer) c.give.ensures));
        free = c.self.invariant.demand.free;
      };
      fronts = All-set HasFront c.self.inside.inputs.items c.line-i.result c.give.new.self
          (subst HasFront (sym c.give.ensures) front) c.self.invariant.fronts;
      holders = holders_in _ _ _ _ _ _ input
          (λ o k holds. sym (ap (λ (x : ChannelState). x.state) c.give.ensures) ∙ holds)
          (λ o k holds. ap (λ (x : ChannelState). x.state) c.give.ensures ∙ holds) c.self.invariant.holders;
      classes = c.self.invariant.classes;
      outs = outs_kept _ _ _ _ _ _ input _ (ap (λ (x : ChannelState). port_held x.state) c.give.ensures)
          c.self.invariant.outs;
      no_credit = lack_stay _ _ _ _ _ _ input c.self.invariant.busy.few_ports c.self.invariant.busy.few_channels _ _
          refl (ap (λ (x : ChannelState). x.state) c.give.ensures) c.self.invariant.no_credit;
      owes_all = owe_given _ _ _ _ _ _ input c.self.invariant.busy.few_ports c.self.invariant.busy.few_channels _ _ _
          (ap (λ (x : ChannelState). x.owed) c.give.ensures) (omega (arith, owed_some)) had.owed_fits
          (filed _ _ _ _ _ c.put.ensures) c.self.invariant.owes_all;
      links = owing_given _ _ _ _ _ _ (omega (arith, input.place.port_in, c.self.invariant.busy.few_ports))
          (omega (arith, input.place.channel_in, c.self.invariant.busy.few_channels)) _
          (filed _ _ _ _ _ c.remove_if.ensures) c.self.invariant.links;
      full = full_kept _ _ _ _ _ _ input _ _ _ refl (ap (λ (x : ChannelState). x.buffer) c.give.ensures)
          c.self.invariant.full;
    }
