use Rattle.std.proofs.Common.{◌+◌, ◌≡◌, ◌&&◌, ◌||◌, ◌==◌, not, nat_lt, if◌then◌else◌, ℕ, true, false}
use Rattle.std.proofs.Common.{Option, None, refl, ap, sym, ◌∙◌, subst}
use Rattle.std.specs.Prelude.{is_some}
use Rattle.worm_router.specs.Busy.{IsFiled, is_occupied, owes}
use Rattle.worm_records.specs.declared.OutRecord.{OutRecord}
use Rattle.worm_vcalloc.specs.ChannelSet.{has}
use Rattle.std.proofs.Math.Bool.{not-not}
use Rattle.worm_router.proofs.Filed.{filed, inside_of, owes_more}
use Rattle.worm_router.specs.declared.busy.BusyChannels.{BusyChannels}
use Rattle.worm_records.specs.declared.InRecord.TheVariants.{Idle}
use Rattle.worm_router.specs.Router.{RouterState, ChannelState, router_state, terminal, in_state, input_at, output_at}
use Rattle.worm_router.proofs.Leaving.{may_leave}
use Rattle.worm_router.proofs.ChangesSound.{input_read}
use Rattle.worm_router.proofs.Places.{output_read}
use Rattle.worm_router.proofs.AfterSending.{IsLeaving, IsOut, leaving_of, left_is, closed_kept, followed_kept}
use Rattle.worm_router.proofs.router.Router.sent.Goals.{After-index_mut-output, After-forget_full}
use Rattle.worm_router.proofs.router.Router.sent.Goals as goal

abbrev was : After-index_mut-output → RouterState
was c =
    router_state c.self.inside.routes.mesh c.self.inside.routes.node c.self.inside.classes c.self.inside.depth
    c.self.inside.inputs.items c.self.inside.outputs.items c.self.inside.channel_alloc c.self.inside.switch_alloc

-- what leaves, as it was read
leaves : (c : After-index_mut-output)
    → IsLeaving (was c) c.self.inside.busy c.args.port c.args.vc c.line-i.result c.next_out-out.result.0 c.next_out-out.result.1.vc
    c.line-o.result c.index_mut-channel.result.now c.index_mut-output.result.now c.credit_of-spent.result
    c.owed_for-more_owed.result
leaves c =
    leaving_of (was c) c.args.self.now c.self.inside.busy c.self.inside.demand c.self.inside.masks
    c.args.port c.args.vc c.line-i.result c.next_out-out.result.0 c.line-o.result c.next_out-out.result.1
    c.index_mut-channel.result.now c.index_mut-output.result.now c.credit_of-spent.result
    c.owed_for-more_owed.result c.self.view_is c.self.invariant c.requires.place (sym c.next_out-out.ensures.leaves)
    c.line-i.ensures.value c.line-i.ensures.in_inputs c.index_mut-channel.ensures.value
    c.line-o.ensures.value c.line-o.ensures.in_outputs c.index_mut-output.ensures.value c.credit_of-spent.ensures.value
    c.owed_for-more_owed.ensures.value

-- it leaves by an output channel of the router
pub line-o-requires : goal.line-o-requires
line-o-requires c =
    let sound = rw c.self.view_is at c.self.invariant.router in
    let there = may_leave c.args.self.now c.args.port c.args.vc (c.next_out-out.result.0, c.next_out-out.result.1) sound c.requires.place
    (sym c.next_out-out.ensures.leaves) in
    record { port_in = there.out_in; channel_in = there.channel_in }

pub spend-requires-clause-there : goal.spend-requires-clause-there
spend-requires-clause-there c = (leaves (goal.at.spend-requires-clause-there c).After-index_mut-output).enough

pub close-requires : goal.close-requires
close-requires c =
    let it = leaves (goal.at.close-requires c).After-index_mut-output in
    (c.next_out-out.result.0, c.next_out-out.result.1.vc, ap (λ (k : ChannelState). k.state) c.let_out.ensures ∙ it.held_it)

pub release-requires : goal.release-requires
release-requires c =
    ap (λ (u : OutRecord). is_some u.holder) c.spend.ensures
    ∙ ap (λ (h : Option (ℕ × ℕ)). is_some h) (leaves (goal.at.release-requires c).After-index_mut-output).its

-- it is out, and filed so
out : (c : After-forget_full)
    → IsLeaving (router_state c.self.inside.routes.mesh c.self.inside.routes.node c.self.inside.classes
    c.self.inside.depth
    c.self.inside.inputs.items c.self.inside.outputs.items c.self.inside.channel_alloc c.self.inside.switch_alloc)
    c.self.inside.busy c.args.port c.args.vc c.line-i.result c.next_out-out.result.0 c.next_out-out.result.1.vc c.line-o.result
    c.index_mut-channel.result.now c.index_mut-output.result.now c.credit_of-spent.result c.owed_for-more_owed.result
    → IsOut (router_state c.self.inside.routes.mesh c.self.inside.routes.node c.self.inside.classes c.self.inside.depth
    c.self.inside.inputs.items c.self.inside.outputs.items c.self.inside.channel_alloc c.self.inside.switch_alloc)
    c.self.inside.busy c.forget_full.new.self c.args.port c.args.vc
    c.index_mut-channel.result.now c.let_out.new.self c.next_out-out.result.1 c.owed_for-more_owed.result
out c it =
    let sets = c.self.inside.busy in
    let gone = c.let_out.new.self in
    let more = c.owed_for-more_owed.result in
    let occupied : (has sets.occupied c.args.port c.args.vc && not (not c.is_occupied.result)) ≡ is_occupied gone =
    ap (λ b. b && not (not c.is_occupied.result)) it.has_flit ∙ not-not c.is_occupied.result ∙ c.is_occupied.ensures in
    let owing : (has sets.owing c.args.port c.args.vc || nat_lt 0 more) ≡ owes gone =
    owes_more c.index_mut-channel.result.now.owed more _
    (inside_of owes _ _ _ _ _ _ it.input c.self.invariant.busy.owing) ∙ sym (ap owes c.let_out.ensures) in
    let owes_all : (has sets.owes_all c.args.port c.args.vc || nat_lt c.self.inside.depth (c.owed.result + more))
    ≡ nat_lt c.self.inside.depth (gone.owed + more) =
    ap (λ b. b || nat_lt c.self.inside.depth (c.owed.result + more)) it.owes_less
    ∙ ap (λ n. nat_lt c.self.inside.depth (n + more)) c.owed.ensures in
    subst (λ (mid : BusyChannels). IsOut (router_state c.self.inside.routes.mesh c.self.inside.routes.node
    c.self.inside.classes c.self.inside.depth c.self.inside.inputs.items c.self.inside.outputs.items
    c.self.inside.channel_alloc c.self.inside.switch_alloc) c.self.inside.busy mid
    c.args.port c.args.vc c.index_mut-channel.result.now c.let_out.new.self c.next_out-out.result.1 c.owed_for-more_owed.result)
    (sym c.forget_full.ensures) (record {
      gone_is = c.let_out.ensures;
      occupied = subst (IsFiled _ _ _ _) occupied (filed _ _ _ _ _ c.remove_if.ensures);
      owing = subst (IsFiled _ _ _ _) owing (filed _ _ _ _ _ c.insert_if.ensures);
      owes_all = subst (IsFiled _ _ _ _) owes_all (filed _ _ _ _ _ c.insert_if-2.ensures);
      owes_here = sym owing;
      full = ap (λ t. if c.args.port == t then 0 else sets.full)
          (c.terminal.ensures.value ∙ ap terminal (sym c.self.view_is));
      others = refl;
    })

pub invariant_of-self : goal.invariant_of-self
invariant_of-self c =
    let at = (goal.at.invariant_of-self c).After-forget_full in
    let it = leaves (goal.at.invariant_of-self c).After-index_mut-output in
    closed_kept _ _ _ _ _ _ _ _ _ _ _ _ _ _ _ _ _ c.self.invariant it (out at it) _ _ _ _ c.close.ensures
    (c.release.ensures ∙ ap (λ (u : OutRecord). record u { holder = None }) c.spend.ensures) c.set.ensures
    c.release-then-is_closing.ensures

pub invariant_of-self-else-is_closing : goal.invariant_of-self-else-is_closing
invariant_of-self-else-is_closing c =
    let at = (goal.at.invariant_of-self-else-is_closing c).After-forget_full in
    let it = leaves (goal.at.invariant_of-self-else-is_closing c).After-index_mut-output in
    followed_kept _ _ _ _ _ _ _ _ _ _ _ _ _ _ _ _ _ c.self.invariant it (out at it) _ _ c.spend.ensures
    (filed _ _ _ _ _ c.insert_if-else-is_closing.ensures)

-- and it is written as a Send leaves it

here : (c : After-index_mut-output) → c.index_mut-channel.result.now ≡ input_at c.args.self.now c.args.port c.args.vc
here c =
    input_read (was c) c.args.self.now c.args.port c.args.vc c.line-i.result c.index_mut-channel.result.now
    c.self.view_is c.index_mut-channel.ensures.value c.line-i.ensures.value c.line-i.ensures.in_inputs

there : (c : After-index_mut-output)
    → c.index_mut-output.result.now ≡ output_at c.args.self.now c.next_out-out.result.0 c.next_out-out.result.1.vc
there c =
    output_read (was c) c.args.self.now c.next_out-out.result.0 c.next_out-out.result.1.vc c.line-o.result c.index_mut-output.result.now
    c.self.view_is c.index_mut-output.ensures.value c.line-o.ensures.value c.line-o.ensures.in_outputs

pub returns-then-is_closing : goal.returns-then-is_closing
returns-then-is_closing c =
    let at = (goal.at.returns-then-is_closing c).After-index_mut-output in
    left_is (was at) c.args.self.now c.args.port c.args.vc c.line-i.result c.next_out-out.result.0 c.line-o.result c.next_out-out.result.1
    c.index_mut-channel.result.now c.close.new.self c.index_mut-output.result.now c.release.new.self
    c.credit_of-spent.result c.owed_for-more_owed.result true c.self.view_is (sym c.next_out-out.ensures.leaves)
    (sym c.is_closing.ensures ∙ c.if-is_closing.true) c.line-i.ensures.value c.line-o.ensures.value (here at) (there at)
    c.credit_of-spent.ensures.value c.owed_for-more_owed.ensures.value
    (c.close.ensures ∙ ap (λ (k : ChannelState). in_state k Idle) c.let_out.ensures)
    (c.release.ensures ∙ ap (λ (u : OutRecord). record u { holder = None }) c.spend.ensures)

pub returns-else-is_closing : goal.returns-else-is_closing
returns-else-is_closing c =
    let at = (goal.at.returns-else-is_closing c).After-index_mut-output in
    left_is (was at) c.args.self.now c.args.port c.args.vc c.line-i.result c.next_out-out.result.0 c.line-o.result c.next_out-out.result.1
    c.index_mut-channel.result.now c.let_out.new.self c.index_mut-output.result.now c.spend.new.output
    c.credit_of-spent.result c.owed_for-more_owed.result false c.self.view_is (sym c.next_out-out.ensures.leaves)
    (sym c.is_closing.ensures ∙ c.if-is_closing.false) c.line-i.ensures.value c.line-o.ensures.value (here at)
    (there at)
    c.credit_of-spent.ensures.value c.owed_for-more_owed.ensures.value c.let_out.ensures c.spend.ensures
