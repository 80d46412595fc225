-- What a pass of the channel allocator may grant, and to whom.
use Rattle.std.proofs.Common.{◌≡◌, ℕ, ◌+◌, ◌≤◌, ◌&&◌, Bool, true, is_none, if◌then◌else◌}
use Rattle.std.proofs.Common.{List, [], ◌∷◌, length, Option, None, Some, refl, ap, sym, subst, ◌∙◌}
use Rattle.std.proofs.lemmas.Bool.{and_from, and_parts, eqb-true, true≢false}
use Rattle.worm_flit.specs.declared.Flit.{Flit}
use Rattle.worm_flit.specs.Channels.{owns}
use Rattle.worm_flit.proofs.Masks.{class_bits-owns}
use Rattle.worm_records.specs.declared.InRecord.{InRecord}
use Rattle.worm_records.specs.declared.InRecord.TheVariants.{Idle, Waiting, Active}
use Rattle.worm_vcalloc.specs.declared.request.VcRequest.{VcRequest}
use Rattle.worm_vcalloc.specs.VcRequest.{may_use}
use Rattle.worm_vcalloc.specs.VcAlloc.{IsChannelMatching}
use Rattle.worm_router.specs.Router.{RouterState, IsPlace, terminal, width, places, output_at, granting, can_grant}
use Rattle.worm_router.specs.Allocation.{asking, requests, is_free, free_channels}
use Rattle.worm_router.specs.Busy.{IsKept}
use Rattle.worm_router.specs.Demand.{DemandView}
use Rattle.worm_router.specs.declared.busy.BusyChannels.{BusyChannels}

-- who may use a channel of a port waits for that port
pub waits_for : (r : RouterState) (s : InRecord) (fs : List Flit) (o c : ℕ)
    → may_use (asking r.channels s fs) o c ≡ true → s ≡ Waiting o
waits_for r Idle fs o c e = absurd (true≢false (sym e))
waits_for r (Active p v) fs o c e = absurd (true≢false (sym e))
waits_for r (Waiting p) [] o c e = absurd (true≢false (sym e))
waits_for r (Waiting p) (f ∷ fs) o c e = ap Waiting (eqb-true p o (and_parts _ _ e).0)

-- who may use a free channel is granted it
pub choice_by : (r : RouterState) (s : InRecord) (fs : List Flit) (o c : ℕ)
    → is_free r o c ≡ true → may_use (asking r.channels s fs) o c ≡ true → granting r s fs c ≡ Some o
choice_by r Idle fs o c unheld uses = absurd (true≢false (sym uses))
choice_by r (Active p v) fs o c unheld uses = absurd (true≢false (sym uses))
choice_by r (Waiting p) [] o c unheld uses = absurd (true≢false (sym uses))
choice_by r (Waiting p) (f ∷ fs) o c unheld uses =
    let parts = and_parts _ _ uses in
    let same : p ≡ o = eqb-true p o parts.0 in
    ap (λ k. if is_none (output_at r k c).holder && owns r.channels f.lane.class c then Some k else None) same
    ∙ ap (λ b. if b then Some o else None)
    (and_from _ _ unheld (sym (class_bits-owns r.channels f.lane.class c) ∙ parts.1))

pub is_unheld : (h : Option (ℕ × ℕ)) → is_none h ≡ true → h ≡ None
is_unheld None e = refl
is_unheld (Some x) e = absurd (cc)

-- grants that match what the channels of a router ask for, and which output channels are free
pub record IsGrantable (r : RouterState) (grants : List (List (Option ℕ))) : Type 0 where
  pub few_ports : terminal r ≤ 6
  pub few : width r ≤ 8
  pub inputs : length r.inputs ≡ places r
  pub outputs : length r.outputs ≡ places r
  pub matching : IsChannelMatching (terminal r + 1) (width r) (requests r) (free_channels r) grants

-- those of a pass over what a router keeps
pub grantable : (r : RouterState) (sets : BusyChannels) (asked : DemandView) (masks : List ℕ)
    (waiting : List (List (Option VcRequest))) (free : List (List Bool)) (grants : List (List (Option ℕ)))
    → IsKept r sets asked masks → waiting ≡ asked.requests → free ≡ asked.free
    → IsChannelMatching r.channel_alloc.ports r.channel_alloc.vcs waiting free grants → IsGrantable r grants
grantable r sets asked masks waiting free grants kept is is' matching = record {
  few_ports = kept.busy.few_ports;
  few = kept.busy.few_channels;
  inputs = kept.router.lists.all_inputs;
  outputs = kept.router.lists.all_outputs;
  matching =
      subst (λ t. IsChannelMatching (terminal r + 1) (width r) (requests r) t grants) (is' ∙ kept.demand.free)
      (subst (λ t. IsChannelMatching (terminal r + 1) (width r) t free grants) (is ∙ kept.demand.requests)
      (subst (λ n. IsChannelMatching (terminal r + 1) n waiting free grants) kept.router.allocators.channel_vcs
      (subst (λ n. IsChannelMatching n r.channel_alloc.vcs waiting free grants)
      kept.router.allocators.channel_ports matching)));
}

-- an input channel may be given this channel of the output port that it waits for
pub record MayHold (r : RouterState) (port vc out out_vc : ℕ) : Type 0 where
  pub out_place : IsPlace r out out_vc
  pub free : (output_at r out out_vc).holder ≡ None
  pub can : can_grant r port vc out_vc ≡ Some out
