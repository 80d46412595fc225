-- What a flit that left leaves of all that a router keeps.
use Rattle.std.proofs.Common.{ℕ, ◌+◌, ◌-◌, ◌*◌, ◌≤◌, ◌<◌, ◌≡◌, ◌&&◌, ◌||◌, nat_lt, Bool, true, false, not}
use Rattle.std.proofs.Common.{Option, None, Some, slice_set, slice_index_or, get_or, length, List, if◌then◌else◌}
use Rattle.std.proofs.Common.{arith, inl, refl, ap, sym, subst, ◌∙◌, ◌==◌}
use Rattle.std.proofs.lemmas.List.Elements.{All-set, All-get_or}
use Rattle.worm_flit.specs.declared.Flit.{Flit}
use Rattle.worm_flit.specs.Kinds.{closes}
use Rattle.worm_records.specs.declared.InRecord.TheVariants.{Idle, Active}
use Rattle.worm_records.specs.declared.OutRecord.{OutRecord}
use Rattle.worm_vcalloc.specs.ChannelSet.{has}
use Rattle.worm_vcalloc.specs.Table.{with_cell}
use Rattle.worm_router.specs.declared.busy.BusyChannels.{BusyChannels}
use Rattle.worm_router.specs.Router.{RouterState, ChannelState, IsChannel, IsPlace, terminal, width, line, in_state}
use Rattle.worm_router.specs.Router.{fresh_channel, free_output, input_at, output_at, leaving, let_out, passed}
use Rattle.worm_router.specs.Router.{credit_of, owed_for, after_leaving, after_send}
use Rattle.worm_router.specs.Demand.{DemandView}
use Rattle.worm_router.specs.Busy.{IsKept, HasFront, IsFiled, is_occupied, is_waiting, owes, waits}
use Rattle.worm_router.proofs.ChangesSound.{both_set_sound, left_by, left_sound, full_after, no_credit}
use Rattle.worm_router.proofs.Places.{IsInput, IsOutput, input_of, output_of}
use Rattle.worm_router.proofs.Filed.{busy_filed}
use Rattle.worm_router.proofs.Leaving.{may_leave, leaves_by_state, leaves_occupied}
use Rattle.worm_router.proofs.Demanded.{requests_kept, free_left, asks_nothing, waits_not_after}
use Rattle.worm_router.proofs.Holders.{holders_left}
use Rattle.worm_router.proofs.HeldOuts.{outs_left}
use Rattle.worm_router.proofs.Those.{unfiled}
use Rattle.worm_router.proofs.LackCredit.{lack_left, leaves_with_credit}
use Rattle.worm_router.proofs.OweAll.{owe_left, leaves_owing_less}
use Rattle.worm_router.proofs.OweByLinks.{owing_left}
use Rattle.worm_router.proofs.FullBuffers.{full_left}

-- a flit that may leave, for so many credits spent and owed: its input channel and the output channel that this holds,
-- as they were read
pub record IsLeaving (r : RouterState) (sets : BusyChannels) (port vc i out out_vc o : ℕ) (had : ChannelState)
    (had_out : OutRecord) (spent more : ℕ) : Type 0 where
  pub input : IsInput r port vc i had
  pub output : IsOutput r out out_vc o had_out
  pub held_it : had.state ≡ Active out out_vc
  pub its : had_out.holder ≡ Some (port, vc)
  pub has_flit : has sets.occupied port vc ≡ true
  pub has_credit : has sets.no_credit port vc ≡ false
  pub owes_less : has sets.owes_all port vc ≡ false
  pub spends : spent ≡ credit_of r out
  pub owes_more : more ≡ owed_for r port
  pub enough : spent ≤ had_out.credits
  pub may_owe : had.owed + more ≤ r.depth

pub leaving_of : (r s : RouterState) (sets : BusyChannels) (asked : DemandView) (masks : List ℕ)
    (port vc i out o : ℕ) (f : Flit) (had : ChannelState) (had_out : OutRecord) (spent more : ℕ)
    → r ≡ s → IsKept r sets asked masks → IsPlace s port vc → leaving s port vc ≡ Some (out, f)
    → i ≡ line s port vc → i < length s.inputs → had ≡ get_or r.inputs i had
    → o ≡ line s out f.vc → o < length s.outputs → had_out ≡ get_or r.outputs o had_out
    → spent ≡ credit_of s out → more ≡ owed_for s port
    → IsLeaving r sets port vc i out f.vc o had had_out spent more
leaving_of r s sets asked masks port vc i out o f had had_out spent more same kept place leaves at within read
    at_out within_out read_out spends owes_more =
    let may : leaving r port vc ≡ Some (out, f) = ap (λ (q : RouterState). leaving q port vc) same ∙ leaves in
    let input = input_of r s port vc i had same place at within read in
    let there = may_leave r port vc (out, f) kept.router input.place may in
    let there_out : IsPlace r out f.vc = record { port_in = there.out_in; channel_in = there.channel_in } in
    let output = output_of r s out f.vc o had_out same
    (subst (λ (q : RouterState). IsPlace q out f.vc) same there_out) at_out within_out read_out in
    let was : had ≡ input_at r port vc =
    input.was ∙ ap (λ k. slice_index_or r.inputs k (fresh_channel r.depth)) input.at in
    let was_out : had_out ≡ output_at r out f.vc =
    output.was ∙ ap (λ k. slice_index_or r.outputs k (free_output r.depth)) output.at in
    let active : (input_at r port vc).state ≡ Active out f.vc =
    leaves_by_state r port (input_at r port vc) (input_at r port vc).state (input_at r port vc).buffer (out, f) may in
    let spends_it : spent ≡ credit_of r out = spends ∙ ap (λ (q : RouterState). credit_of q out) (sym same) in
    let owes_it : more ≡ owed_for r port = owes_more ∙ ap (λ (q : RouterState). owed_for q port) (sym same) in
    record {
      input = input;
      output = output;
      held_it = ap (λ (c : ChannelState). c.state) was ∙ active;
      its = ap (λ (u : OutRecord). u.holder) was_out
          ∙ kept.holders.held port vc out f.vc input.place.port_in input.place.channel_in active;
      has_flit = leaves_occupied r port vc sets.occupied (out, f) input.place kept.busy.occupied may;
      has_credit = leaves_with_credit r port vc sets.no_credit (out, f) input.place kept.no_credit may;
      owes_less = leaves_owing_less r port vc sets.owes_all (out, f) input.place kept.owes_all may;
      spends = spends_it;
      owes_more = owes_it;
      enough = let credits = ap (λ (u : OutRecord). u.credits) was_out in
          omega (arith, there.has_credit, credits, spends_it);
      may_owe = let owed = ap (λ (c : ChannelState). c.owed) was in omega (arith, there.may_owe, owed, owes_it);
    }

-- its front is out, and filed so: all of it that is the same whether that closed the packet
pub record IsOut (r : RouterState) (sets mid : BusyChannels) (port vc : ℕ) (had gone : ChannelState) (f : Flit)
    (more : ℕ) : Type 0 where
  pub gone_is : gone ≡ left_by false had f more
  pub occupied : IsFiled sets.occupied mid.occupied port vc (is_occupied gone)
  pub owing : IsFiled sets.owing mid.owing port vc (owes gone)
  pub owes_here : owes gone ≡ (has sets.owing port vc || nat_lt 0 more)
  pub owes_all : IsFiled sets.owes_all mid.owes_all port vc (nat_lt r.depth (gone.owed + more))
  pub full : mid.full ≡ (if port == terminal r then 0 else sets.full)
  pub others : mid
      ≡ record sets { occupied = mid.occupied; owing = mid.owing; owes_all = mid.owes_all; full = mid.full }

-- what is written in all: where that `closed` the packet both channels are free
record HasLeft (r : RouterState) (sets new : BusyChannels) (asked now_asked : DemandView)
    (port vc out out_vc : ℕ) (had now : ChannelState) (had_out u : OutRecord) (f : Flit) (spent more : ℕ)
    (closed : Bool) : Type 0 where
  now_is : now ≡ left_by closed had f more
  credits : u.credits ≡ had_out.credits - spent
  holder : u.holder ≡ (if closed then None else had_out.holder)
  occupied : IsFiled sets.occupied new.occupied port vc (is_occupied now)
  owing : IsFiled sets.owing new.owing port vc (owes now)
  owes_here : owes now ≡ (has sets.owing port vc || nat_lt 0 more)
  owes_all : IsFiled sets.owes_all new.owes_all port vc (nat_lt r.depth (now.owed + more))
  full : new.full ≡ (if port == terminal r then 0 else sets.full)
  outs : new.outs ≡ (if closed then with_cell sets.outs port vc None else sets.outs)
  no_credit : IsFiled sets.no_credit new.no_credit port vc (not closed && nat_lt u.credits spent)
  requests : now_asked.requests ≡ asked.requests
  free : now_asked.free ≡ (if closed then with_cell asked.free out out_vc true else asked.free)

module _ (r : RouterState) (sets new : BusyChannels) (asked now_asked : DemandView) (masks : List ℕ)
    (port vc i out out_vc o : ℕ) (had now : ChannelState) (had_out u : OutRecord) (f : Flit) (spent more : ℕ)
    (closed : Bool) (kept : IsKept r sets asked masks)
    (leaving : IsLeaving r sets port vc i out out_vc o had had_out spent more)
    (left : HasLeft r sets new asked now_asked port vc out out_vc had now had_out u f spent more closed) where
  state_now : now.state ≡ (if closed then Idle else had.state)
  state_now = ap (λ (c : ChannelState). c.state) left.now_is

  waited_not : is_waiting had ≡ false
  waited_not = ap waits leaving.held_it

  waits_not : is_waiting now ≡ false
  waits_not = ap waits state_now ∙ waits_not_after closed had.state waited_not

  sound_now : IsChannel r.mesh r.channels r.depth now
  sound_now =
      subst (IsChannel r.mesh r.channels r.depth) (sym left.now_is)
      (left_sound r.mesh r.channels r.depth closed had f more
      (subst (IsChannel r.mesh r.channels r.depth) (sym leaving.input.was)
      (All-get_or (IsChannel r.mesh r.channels r.depth) r.inputs i (fresh_channel r.depth) leaving.input.within
      kept.router.lists.inputs_sound)) leaving.may_owe)

  had_fits : had_out.credits ≤ r.depth
  had_fits =
      subst (λ (w : OutRecord). w.credits ≤ r.depth) (sym leaving.output.was)
      (All-get_or (λ (w : OutRecord). w.credits ≤ r.depth) r.outputs o (free_output r.depth) leaving.output.within
      kept.router.lists.credits_fit)

  -- a flit that leaves by the terminal costs no credit
  full_now : (v : ℕ) → v < width r → terminal r * width r + v ≡ o → u.credits ≡ r.depth
  full_now v below same =
      let full : (slice_index_or r.outputs o (free_output r.depth)).credits ≡ r.depth =
      subst (λ k. (slice_index_or r.outputs k (free_output r.depth)).credits ≡ r.depth) same
      (kept.router.lists.terminal_full v below) in
      let had_full : had_out.credits ≡ r.depth = ap (λ (w : OutRecord). w.credits) leaving.output.was ∙ full in
      let none : spent ≡ 0 =
      no_credit r out out_vc (terminal r) (width r) v o spent leaving.output.place.channel_in refl refl below same
      leaving.output.at leaving.spends in
      omega (arith, left.credits, had_full, none)

  left_kept : IsKept (record r { inputs = slice_set r.inputs i now; outputs = slice_set r.outputs o u })
      new now_asked masks
  left_kept = record {
    router = record {
      lists = both_set_sound r.mesh r.node r.channels r.depth r.inputs r.outputs i o now u kept.router.lists sound_now
          (omega (arith, left.credits, had_fits))
          (full_after r.outputs (terminal r) (width r) r.depth o u (free_output r.depth) leaving.output.within
          kept.router.lists.terminal_full full_now);
      allocators = kept.router.allocators;
    };
    arbiters = kept.arbiters;
    busy = busy_filed r sets new port vc i had now leaving.input kept.busy (inl left.occupied)
        (inl left.owing);
    demand = record {
      requests = left.requests ∙ kept.demand.requests
          ∙ sym (requests_kept r port vc i had now leaving.input
          (asks_nothing r.channels now.state now.buffer waits_not
          ∙ sym (asks_nothing r.channels had.state had.buffer waited_not)));
      free = free_left r out out_vc o had_out u leaving.output closed asked.free now_asked.free kept.busy.few_ports
          kept.busy.few_channels kept.demand.free left.free left.holder;
    };
    fronts = All-set HasFront r.inputs i now (λ waiting. let no : true ≡ false = sym waiting ∙ waits_not in absurd (cc))
        kept.fronts;
    holders = holders_left r port vc i out out_vc o had now had_out u closed leaving.input leaving.output
        leaving.held_it state_now left.holder kept.holders;
    outs = outs_left r port vc i had now leaving.input sets.outs new.outs closed kept.busy.few_ports
        kept.busy.few_channels left.outs state_now kept.outs;
    no_credit = lack_left r port vc i had now leaving.input kept.busy.few_ports kept.busy.few_channels out out_vc o
        had_out u leaving.output closed spent sets.no_credit new.no_credit leaving.held_it state_now leaving.spends
        left.no_credit
        (λ h held. let both : Some h ≡ Some (port, vc) = sym held ∙ leaving.its in
        let same : h ≡ (port, vc) = cc in same)
        kept.holders kept.no_credit;
    owes_all = owe_left r port vc i had now leaving.input kept.busy.few_ports kept.busy.few_channels
        (slice_set r.outputs o u) sets.owes_all new.owes_all more sound_now.owed_fits leaving.owes_more left.owes_all
        kept.owes_all;
    links = owing_left r.mesh r.node sets.owing new.owing port vc
        (omega (arith, leaving.input.place.port_in, kept.busy.few_ports))
        (omega (arith, leaving.input.place.channel_in, kept.busy.few_channels)) more leaving.owes_more
        (subst (IsFiled sets.owing new.owing port vc) left.owes_here left.owing) kept.links;
    full = full_left r port vc i had now leaving.input (slice_set r.outputs o u) sets.full new.full left.full kept.full;
    classes = kept.classes;
  }

-- both channels as they are written, whether or not that `closed` the packet, are those of a router after the Send
pub left_is : (r s : RouterState) (port vc i out o : ℕ) (f : Flit) (had now : ChannelState) (had_out u : OutRecord)
    (spent more : ℕ) (closed : Bool) → r ≡ s → leaving s port vc ≡ Some (out, f) → closes f.kind ≡ closed
    → i ≡ line s port vc → o ≡ line s out f.vc → had ≡ input_at s port vc → had_out ≡ output_at s out f.vc
    → spent ≡ credit_of s out → more ≡ owed_for s port → now ≡ left_by closed had f more
    → u ≡ record { holder = (if closed then None else had_out.holder); credits = had_out.credits - spent }
    → record r { inputs = slice_set r.inputs i now; outputs = slice_set r.outputs o u } ≡ after_send s port vc
left_is r s port vc i out o f had now had_out u spent more closed same leaves closing at at_out was was_out spends owes
    now_is u_is =
    let gone : now ≡ let_out (input_at s port vc) f (owed_for s port) =
    now_is ∙ ap (λ b. left_by b had f more) (sym closing)
    ∙ ap (λ (c : ChannelState). let_out c f more) was ∙ ap (let_out (input_at s port vc) f) owes in
    let free : u ≡ passed (output_at s out f.vc) f (credit_of s out) =
    u_is ∙ ap (λ b. record { holder = (if b then None else had_out.holder); credits = had_out.credits - spent })
    (sym closing)
    ∙ ap (λ (w : OutRecord). passed w f spent) was_out ∙ ap (passed (output_at s out f.vc) f) spends in
    ap (λ (q : RouterState). record q { inputs = slice_set q.inputs i now; outputs = slice_set q.outputs o u }) same
    ∙ ap (λ (c : ChannelState). record s { inputs = slice_set s.inputs i c; outputs = slice_set s.outputs o u }) gone
    ∙ ap (λ (w : OutRecord). record s {
      inputs = slice_set s.inputs i (let_out (input_at s port vc) f (owed_for s port));
      outputs = slice_set s.outputs o w;
    }) free
    ∙ ap (λ k. record s {
      inputs = slice_set s.inputs k (let_out (input_at s port vc) f (owed_for s port));
      outputs = slice_set s.outputs o (passed (output_at s out f.vc) f (credit_of s out));
    }) at
    ∙ ap (λ k. record s {
      inputs = slice_set s.inputs (line s port vc) (let_out (input_at s port vc) f (owed_for s port));
      outputs = slice_set s.outputs k (passed (output_at s out f.vc) f (credit_of s out));
    }) at_out
    ∙ ap (after_leaving s port vc) (sym leaves)

module _ (r : RouterState) (sets mid : BusyChannels) (asked : DemandView) (masks : List ℕ)
    (port vc i out out_vc o : ℕ) (had gone : ChannelState) (had_out : OutRecord) (f : Flit) (spent more : ℕ)
    (kept : IsKept r sets asked masks) (leaving : IsLeaving r sets port vc i out out_vc o had had_out spent more)
    (is_out : IsOut r sets mid port vc had gone f more) where
  -- it closed its packet: both channels are free
  pub closed_kept : (now : ChannelState) (u : OutRecord) (outs : List (List (Option ℕ))) (now_asked : DemandView)
      → now ≡ in_state gone Idle → u ≡ record { holder = None; credits = had_out.credits - spent }
      → outs ≡ with_cell mid.outs port vc None
      → now_asked ≡ record asked { free = with_cell asked.free out out_vc true }
      → IsKept (record r { inputs = slice_set r.inputs i now; outputs = slice_set r.outputs o u })
      (record mid { outs = outs }) now_asked masks
  closed_kept now u outs now_asked now_is u_is outs_are asks =
      left_kept r sets (record mid { outs = outs }) asked now_asked masks port vc i out out_vc o had now had_out
      u f spent more true kept leaving (record {
        now_is = now_is ∙ ap (λ (c : ChannelState). in_state c Idle) is_out.gone_is;
        credits = ap (λ (w : OutRecord). w.credits) u_is;
        holder = ap (λ (w : OutRecord). w.holder) u_is;
        occupied = subst (λ (c : ChannelState). IsFiled sets.occupied mid.occupied port vc (is_occupied c)) (sym now_is)
            is_out.occupied;
        owing = subst (λ (c : ChannelState). IsFiled sets.owing mid.owing port vc (owes c)) (sym now_is) is_out.owing;
        owes_here = ap owes now_is ∙ is_out.owes_here;
        owes_all = subst (λ (c : ChannelState). IsFiled sets.owes_all mid.owes_all port vc
            (nat_lt r.depth (c.owed + more))) (sym now_is) is_out.owes_all;
        full = is_out.full;
        outs = outs_are ∙ ap (λ (b : BusyChannels). with_cell b.outs port vc None) is_out.others;
        no_credit = subst (λ (b : BusyChannels). IsFiled sets.no_credit b.no_credit port vc false) (sym is_out.others)
            (unfiled sets.no_credit port vc false leaving.has_credit);
        requests = ap (λ (d : DemandView). d.requests) asks;
        free = ap (λ (d : DemandView). d.free) asks;
      })

  -- more of its packet comes: the channel lacks a credit where none is left
  pub followed_kept : (u : OutRecord) (no_credit : ℕ) → u ≡ record had_out { credits = had_out.credits - spent }
      → IsFiled mid.no_credit no_credit port vc (has mid.no_credit port vc || nat_lt u.credits spent)
      → IsKept (record r { inputs = slice_set r.inputs i gone; outputs = slice_set r.outputs o u })
      (record mid { no_credit = no_credit }) asked masks
  followed_kept u no_credit u_is filed =
      left_kept r sets (record mid { no_credit = no_credit }) asked asked masks port vc i out out_vc o had gone
      had_out u f spent more false kept leaving (record {
        now_is = is_out.gone_is;
        credits = ap (λ (w : OutRecord). w.credits) u_is;
        holder = ap (λ (w : OutRecord). w.holder) u_is;
        occupied = is_out.occupied;
        owing = is_out.owing;
        owes_here = is_out.owes_here;
        owes_all = is_out.owes_all;
        full = is_out.full;
        outs = ap (λ (b : BusyChannels). b.outs) is_out.others;
        no_credit = subst (λ b. IsFiled sets.no_credit no_credit port vc (b || nat_lt u.credits spent))
            leaving.has_credit
            (subst (λ (b : BusyChannels). IsFiled b.no_credit no_credit port vc
            (has b.no_credit port vc || nat_lt u.credits spent)) is_out.others filed);
        requests = refl;
        free = refl;
      })
