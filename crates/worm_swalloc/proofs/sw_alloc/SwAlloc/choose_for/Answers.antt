use Rattle.std.proofs.Common.{◌≡◌, ◌<◌, ℕ, arith, ◌∙◌, Some, None, slice_index_or, slice_set, ap, sym}
use Rattle.std.proofs.lemmas.Bool.{true≢false}
use Rattle.worm_vcalloc.specs.Arbiter.{line_requests, no_arbiter, after_pick}
use Rattle.worm_swalloc.specs.SwAlloc.{SwAllocState, AreChannelsBelow, is_for, channel_of, granted_of}
use Rattle.worm_swalloc.proofs.SwitchPass.{choice_is}
use Rattle.worm_swalloc.proofs.GrantsOfSet.{below_more, put_granted, put_requested}
use Rattle.worm_swalloc.proofs.ChoicesByPort.{chosen_asks}
use Rattle.worm_swalloc.proofs.sw_alloc.SwAlloc.choose_for.Goals as goal

-- the arbiter of the output port chooses
pub returns : goal.returns
returns c =
    let s : SwAllocState = record {
      ports = c.self.inside.ports;
      vcs = c.self.inside.vcs;
      inputs = c.self.inside.inputs;
      outputs = c.self.inside.outputs;
    } in
    let out_in : c.args.out < c.self.inside.ports = rw (← c.self.view_is) at c.requires.out in
    let few = c.self.invariant.few_ports in
    let lines : (line : ℕ) → line < c.self.inside.ports
    → line_requests c.args.lines line ≡ is_for (slice_index_or c.args.named.now line None) c.args.out =
    rw (← c.self.view_is) at c.requires.lines in
    let before = granted_of c.args.named.now c.args.granted.now in
    let asked : slice_index_or c.args.named.now c.in-Some.port None ≡ Some c.in-Some-get.request =
    sym c.get.ensures ∙ c.in-Some-get.is in
    let below : AreChannelsBelow 8 c.args.named.now =
    below_more c.self.inside.vcs 8 c.args.named.now c.self.invariant.few_channels
    (rw (← c.self.view_is) at c.requires.below) in
    let asks = chosen_asks s c.args.named.now c.args.out c.args.lines c.index-self-out.result c.in-Some.port
    c.self.invariant out_in (omega arith) lines c.in-Some.ensures.winner in
    let within : c.in-Some.port < 7 = omega (arith, asks.0) in
    let choice = choice_is s c.args.named.now before c.args.out c.args.lines c.index-self-out.result c.pick.new.self
    (Some c.in-Some.port) c.self.invariant out_in (omega arith) lines c.in-Some.ensures.winner
    c.in-Some.ensures.pointer in
    record {
      requested = put_requested c.args.named.now c.args.granted.now c.commit.new.granted c.in-Some.port
          c.in-Some-get.request within below asked c.commit.ensures.granted c.requires.requested;
      grants = rw (← c.self.view_is)
          (put_granted c.args.named.now c.args.granted.now c.commit.new.granted c.in-Some.port
          c.in-Some-get.request within below asked c.commit.ensures.granted
          ∙ ap (slice_set before c.in-Some.port) (sym asked) ∙ choice.0);
      after = rw (← c.self.view_is)
          (c.commit.ensures.after
          ∙ ap (λ o. record s {
            inputs = slice_set c.self.inside.inputs c.in-Some.port
                (after_pick (slice_index_or c.self.inside.inputs c.in-Some.port no_arbiter) (channel_of o));
            outputs = slice_set c.self.inside.outputs c.args.out c.pick.new.self;
          }) (sym asked)
          ∙ choice.1);
    }

-- it chooses none
pub returns-in_default : goal.returns-in_default
returns-in_default c =
    let s : SwAllocState = record {
      ports = c.self.inside.ports;
      vcs = c.self.inside.vcs;
      inputs = c.self.inside.inputs;
      outputs = c.self.inside.outputs;
    } in
    let out_in : c.args.out < c.self.inside.ports = rw (← c.self.view_is) at c.requires.out in
    let few = c.self.invariant.few_ports in
    let lines : (line : ℕ) → line < c.self.inside.ports
    → line_requests c.args.lines line ≡ is_for (slice_index_or c.args.named.now line None) c.args.out =
    rw (← c.self.view_is) at c.requires.lines in
    let choice = choice_is s c.args.named.now (granted_of c.args.named.now c.args.granted.now) c.args.out c.args.lines
    c.index-self-out.result c.pick.new.self None c.self.invariant out_in (omega arith) lines
    c.in_default.ensures.winner c.in_default.ensures.pointer in
    record {
      requested = c.requires.requested;
      grants = rw (← c.self.view_is) choice.0;
      after = rw (← c.self.view_is) choice.1;
    }

-- the port that it chooses has a request
pub returns-in_default-get : goal.returns-in_default-get
returns-in_default-get c =
    let s : SwAllocState = record {
      ports = c.self.inside.ports;
      vcs = c.self.inside.vcs;
      inputs = c.self.inside.inputs;
      outputs = c.self.inside.outputs;
    } in
    let out_in : c.args.out < c.self.inside.ports = rw (← c.self.view_is) at c.requires.out in
    let few = c.self.invariant.few_ports in
    let asks = chosen_asks s c.args.named.now c.args.out c.args.lines c.index-self-out.result c.in-Some.port
    c.self.invariant out_in (omega arith) (rw (← c.self.view_is) at c.requires.lines) c.in-Some.ensures.winner in
    absurd (true≢false (sym asks.1 ∙ ap (λ o. is_for o c.args.out) (sym c.get.ensures ∙ c.in_default-get.is)))
