-- What a node sends of what was granted: one flit at most comes to its sink.
use Rattle.std.proofs.Common.{◌≡◌, ◌≢◌, ℕ, zero, suc, ◌+◌, ◌*◌, ◌<◌, ◌≤◌, ◌==◌, Bool, true, false, if◌then◌else◌, ◌⊎◌}
use Rattle.std.proofs.Common.{inl, inr, List, [], ◌∷◌, ◌++◌, length, Option, Some, None, Ok, Err, refl, arith, sym, ap}
use Rattle.std.proofs.Common.{subst, ◌∙◌}
use Rattle.std.specs.Prelude.{Result, slice_index_or}
use Rattle.std.specs.List.{range_with_len}
use Rattle.std.specs.Option.{option_to_list}
use Rattle.std.proofs.lemmas.Bool.{cases_eq, eqb-true}
use Rattle.worm_flit.specs.declared.Flit.{Flit}
use Rattle.worm_swalloc.specs.declared.grant.SwGrant.{SwGrant}
use Rattle.worm_router.specs.Allocation.{switch_grants}
use Rattle.worm_router.specs.Router.{RouterState, after_send, leaving}
use Rattle.worm_term.specs.declared.fault.OfferFault.{OfferFault}
use Rattle.worm_theory.specs.Steps.{Send}
use Rattle.worm_region.specs.Moves.{after_ready, after_sending, chosen_router, link_out}
use Rattle.worm_node.specs.Node.{delivered_node}
use Rattle.worm_region.specs.Replies.{Replies}
use Rattle.worm_region.specs.State.{NetState, link_at, node_at, router_at, sink_at, source_at, with_link, with_node}
use Rattle.worm_region.specs.State.{with_router}
use Rattle.worm_wires.specs.Links.{LinkView}
use Rattle.worm_region.specs.Turns.{Each}
use Rattle.worm_region.specs.Turns.{fault_of}
use Rattle.worm_region.specs.declared.fault.StepFault.{StepFault}
use Rattle.worm_region.specs.declared.fault.StepFault.TheVariants.{NoMemory, NoSuchPlace, Refused}
use Rattle.worm_node.specs.declared.node.Node.{Node}
use Rattle.worm_region.specs.declared.step.Moved.{Moved}
use Rattle.worm_region.specs.declared.step.Moved.TheVariants.{Done, Idle}
use Rattle.worm_split.specs.Effects.{HaveTheSame, OneMore}
use Rattle.worm_split.specs.PartState.{PartState}
use Rattle.worm_split.specs.PartTurns.{PartPassage, Sends, SendsGrant, SendsGranted}
use Rattle.worm_split.proofs.Accepted.{same_source}
use Rattle.worm_split.proofs.OneNodeTouched.{IsUnrefused, Passed, Quiet, none_refuses, passed_quietly, put_at}
use Rattle.worm_split.proofs.OneNodeTouched.{put_there, put_touches, quiet_then, router_quiet, still_quiet, then_quiet}
use Rattle.worm_split.proofs.Grants.{IsHolding, granted_once, grants_hold, holding_still, leaves_by}

-- the sink has what it had
abbrev SinkStays : ℕ → NetState → NetState → Type 0
SinkStays x old new = (sink_at new x).delivered ≡ (sink_at old x).delivered

-- the grant is for the terminal
abbrev IsHome : NetState → SwGrant → Type 0
IsHome s g = g.out ≡ 2 * length s.mesh

-- One granted channel sends

record OneSent (x p : ℕ) (g : SwGrant) (old : NetState) (fault : Option StepFault) (new : NetState) : Type 0 where
  passed : Passed x old fault new
  quiet : (IsHome old g → ⊥) → SinkStays x old new
  router : (router_at new x ≡ router_at old x) ⊎ (router_at new x ≡ after_send (router_at old x) p g.vc)

module _ (x p : ℕ) (g : SwGrant) (s : NetState) where
  still_sent : (fault : Option StepFault) → IsUnrefused fault → OneSent x p g s fault s
  still_sent fault unrefused = record {
    passed = passed_quietly x s s fault (still_quiet x s fault unrefused);
    quiet = λ away. refl;
    router = inl refl;
  }

  -- by a link
  link_sent : (links : List LinkView) → x < length s.nodes →
      OneSent x p g s None (put_at s x (record (node_at s x) { router = after_send (router_at s x) p g.vc }) links)
  link_sent links there =
      let r = after_send (router_at s x) p g.vc in
      let n : Node = record (node_at s x) { router = r } in
      let quiet = router_quiet s x r links there in
      record {
        passed = passed_quietly x s (put_at s x n links) None quiet;
        quiet = λ away. quiet.delivered;
        router = inr (ap (λ (m : Node). m.router) (put_there s x n links there));
      }

  -- to the sink
  home_sent : (f : Flit) → x < length s.nodes → IsHome s g →
      OneSent x p g s None (with_node s x (delivered_node (node_at s x) p g.vc f))
  home_sent f there home =
      let n = delivered_node (node_at s x) p g.vc f in
      let at = put_there s x n s.links there in
      record {
        passed = record {
          touches = put_touches s x n s.links;
          accepted = subst (λ (m : Node). HaveTheSame (source_at s x) m.source) (sym at) (same_source (source_at s x));
          one = subst (λ (m : Node). OneMore (sink_at s x).delivered m.sink.delivered) (sym at) (Some f, refl);
          unrefused = none_refuses;
        };
        quiet = λ away. absurd (away home);
        router = inr (ap (λ (m : Node). m.router) at);
      }

  -- what leaves by a link, once it left
  abbrev by_link : ℕ × Flit → NetState
  by_link d =
      let link = link_at s (link_out s x d.0) in
      with_link (with_router s x (after_send (router_at s x) p g.vc)) (link_out s x d.0)
      (record link { flits = link.flits ++ d.1 ∷ [] })

  ready_sent : x < length s.nodes → (d : ℕ × Flit) → d.0 ≡ g.out → OneSent x p g s None (after_sending s x p g.vc d)
  ready_sent there d by = by_test (d.0 == 2 * length s.mesh) refl where
    by_test : (b : Bool) → (d.0 == 2 * length s.mesh) ≡ b →
        OneSent x p g s None (if b then with_node s x (delivered_node (node_at s x) p g.vc d.1) else by_link d)
    by_test true home = home_sent d.1 there (sym by ∙ eqb-true d.0 (2 * length s.mesh) home)
    by_test false away = link_sent (by_link d).links there

  leaving_sent : x < length s.nodes → IsHolding (router_at s x) p g → (o : Option (ℕ × Flit)) →
      leaving (router_at s x) p g.vc ≡ o → OneSent x p g s None (after_ready s x p g.vc o)
  leaving_sent there holding None is = still_sent None none_refuses
  leaving_sent there holding (Some d) is = ready_sent there d (leaves_by (router_at s x) p g d holding is)

  answered_sent : (new : NetState) → x < length s.nodes → IsHolding (router_at s x) p g →
      (answer : Result Moved StepFault) → Replies s (Send x p g.vc) answer new → OneSent x p g s (fault_of answer) new
  answered_sent new there holding (Ok Done) made =
      subst (λ (t : NetState). OneSent x p g s None t) (sym made.exact)
      (leaving_sent there holding (leaving (router_at s x) p g.vc) refl)
  answered_sent new there holding (Ok Idle) i =
      subst (λ (t : NetState). OneSent x p g s None t) (sym i.3) (still_sent None none_refuses)
  answered_sent new there holding (Err NoSuchPlace) i =
      subst (λ (t : NetState). OneSent x p g s None t) (sym i.1) (still_sent None none_refuses)
  answered_sent new there holding (Err (Refused why)) i =
      let clash : ◌≡◌ {A = Option OfferFault} None (Some why) = i.2 in absurd (cc)
  answered_sent new there holding (Err NoMemory) i =
      subst (λ (t : NetState). OneSent x p g s (Some NoMemory) t) (sym i.3)
      (still_sent (Some NoMemory) (λ why is. absurd (cc)))

one_sent : (x p : ℕ) (g : SwGrant) (old new : PartState) (fault : Option StepFault) → x < length old.net.nodes →
    IsHolding (router_at old.net x) p g → Sends x p g.vc old fault new → OneSent x p g old.net fault new.net
one_sent x p g old new fault there holding sends =
    let s = old.net in
    elim sends [
      | inl across ↦
          subst (λ (f : Option StepFault). OneSent x p g s f new.net) (sym across.0)
          (elim across.1.answer [
            | inl went ↦
                subst (λ (t : PartState). OneSent x p g s None t.net) (sym went) (link_sent x p g s s.links there)
            | inr stayed ↦
                subst (λ (t : PartState). OneSent x p g s None t.net) (sym stayed.0)
                (still_sent x p g s None none_refuses)
          ])
      | inr within ↦
          let tried = within.1.0 in
          subst (λ (f : Option StepFault). OneSent x p g s f new.net) (sym tried.2)
          (answered_sent x p g s new.net there holding tried.0 tried.1)
    ]

-- The ports, one after another

-- from this port on, each grant is of a channel that holds a channel of its port
abbrev AllHold : List (Option SwGrant) → ℕ → RouterState → Type 0
AllHold grants from r = (p : ℕ) (g : SwGrant) → from ≤ p → slice_index_or grants p None ≡ Some g → IsHolding r p g

-- from this port on, no grant is for the terminal
abbrev NoneHome : List (Option SwGrant) → ℕ → NetState → Type 0
NoneHome grants from s = (p : ℕ) (g : SwGrant) → from ≤ p → slice_index_or grants p None ≡ Some g → IsHome s g → ⊥

record SentFrom (x : ℕ) (grants : List (Option SwGrant)) (from : ℕ) (old : NetState) (fault : Option StepFault)
    (new : NetState) : Type 0 where
  passed : Passed x old fault new
  quiet : NoneHome grants from old → SinkStays x old new

of_only : {A : Type 0} (P : A → PartPassage) (a : A) (old new : PartState) (fault : Option StepFault) →
    Each P (a ∷ []) old fault new → P a old fault new
of_only P a old new fault made = elim made [
  | inl ended ↦ ended.1
  | inr on ↦
      subst (λ (f : Option StepFault). P a old f new) (sym on.2.0)
      (subst (λ (q : PartState). P a old None q) (sym on.2.1) on.1)
]

module _ (x : ℕ) (grants : List (Option SwGrant))
    (once : (p q : ℕ) (g h : SwGrant) → slice_index_or grants p None ≡ Some g → slice_index_or grants q None ≡ Some h →
    g.out ≡ h.out → p ≡ q) where
  -- what a port does: nothing, or its grant sends
  abbrev PortSent : ℕ → NetState → Option StepFault → NetState → Type 0
  PortSent p old fault new =
      ((slice_index_or grants p None ≡ None) × (fault ≡ None) × (new ≡ old))
      ⊎ ((g : SwGrant) × (slice_index_or grants p None ≡ Some g) × OneSent x p g old fault new)

  port_sent : (p : ℕ) (old new : PartState) (fault : Option StepFault) → x < length old.net.nodes →
      AllHold grants p (router_at old.net x) → SendsGrant grants x p old fault new → PortSent p old.net fault new.net
  port_sent p old new fault there hold made = by_grant (slice_index_or grants p None) refl made where
    by_grant : (o : Option SwGrant) → slice_index_or grants p None ≡ o →
        Each (λ (g : SwGrant). Sends x p g.vc) (option_to_list o) old fault new → PortSent p old.net fault new.net
    by_grant None is rests = inl (is, rests.0, ap (λ (q : PartState). q.net) rests.1)
    by_grant (Some g) is sends =
        inr (
          g,
          is,
          one_sent x p g old new fault there (hold p g (omega arith) is)
              (of_only (λ (h : SwGrant). Sends x p h.vc) g old new fault sends),
        )

  -- the ports past it hold on
  hold_on : (p : ℕ) (old : NetState) (fault : Option StepFault) (new : NetState) → AllHold grants p (router_at old x) →
      PortSent p old fault new → AllHold grants (p + 1) (router_at new x)
  hold_on p old fault new hold sent q h above at =
      let held = hold q h (omega arith) at in
      elim sent [
        | inl none ↦ subst (λ (s : NetState). IsHolding (router_at s x) q h) (sym none.2) held
        | inr one ↦ elim one.2.router [
          | inl same ↦ subst (λ (r : RouterState). IsHolding r q h) (sym same) held
          | inr after ↦
              let r = router_at old x in
              let away : q ≢ p = omega arith in
              let place = (hold p one.0 (omega arith) one.1).place in
              subst (λ (t : RouterState). IsHolding t q h) (sym after)
              (holding_still r p one.0.vc (leaving r p one.0.vc) q h place away held)
        ]
      ]

  last_sent : (p : ℕ) (old : NetState) (fault : Option StepFault) (new : NetState) → PortSent p old fault new →
      SentFrom x grants p old fault new
  last_sent p old fault new sent = elim sent [
    | inl none ↦
        subst (λ (f : Option StepFault). SentFrom x grants p old f new) (sym none.1)
        (subst (λ (s : NetState). SentFrom x grants p old None s) (sym none.2) (record {
          passed = passed_quietly x old old None (still_quiet x old None none_refuses);
          quiet = λ away. refl;
        }))
    | inr one ↦ record {
      passed = one.2.passed;
      quiet = λ away. one.2.quiet (away p one.0 (omega arith) one.1);
    }
  ]

  quietly : (a b : NetState) (fault : Option StepFault) → Passed x a fault b → SinkStays x a b → Quiet x a fault b
  quietly a b fault passed stays =
      record { touches = passed.touches; accepted = passed.accepted; delivered = stays; unrefused = passed.unrefused }

  -- one port, and then those past it
  more_sent : (p : ℕ) (a b c : NetState) (fault : Option StepFault) → PortSent p a None b →
      SentFrom x grants (p + 1) b fault c → SentFrom x grants p a fault c
  more_sent p a b c fault sent rest =
      let first = last_sent p a None b sent in
      let past : NoneHome grants (p + 1) a → NoneHome grants (p + 1) b =
      λ away q h above at home. away q h above at
      (home ∙ ap (λ (mesh : List ℕ). 2 * length mesh) first.passed.touches.mesh) in
      let none : NoneHome grants p a → SinkStays x a c =
      λ away. rest.quiet (past (λ q h above. away q h (omega arith))) ∙ first.quiet away in
      elim sent [
        | inl skipped ↦ record {
          passed =
              quiet_then x a b c fault
              (quietly a b None first.passed (ap (λ (s : NetState). (sink_at s x).delivered) skipped.2)) rest.passed;
          quiet = none;
        }
        | inr one ↦ elim (cases_eq one.0.out (2 * length a.mesh)) [
          | inl home ↦ record {
            passed =
                then_quiet x a b c fault first.passed
                (quietly b c fault rest.passed (rest.quiet (past (λ q h above at also.
                let same = once p q one.0 h one.1 at (home ∙ sym also) in absurd (omega arith)))));
            quiet = none;
          }
          | inr away ↦ record {
            passed = quiet_then x a b c fault (quietly a b None first.passed (one.2.quiet away)) rest.passed;
            quiet = none;
          }
        ]
      ]

  sent_from : (n from : ℕ) (old new : PartState) (fault : Option StepFault) → x < length old.net.nodes →
      AllHold grants from (router_at old.net x) → Each (SendsGrant grants x) (range_with_len from n) old fault new →
      SentFrom x grants from old.net fault new.net
  sent_from zero from old new fault there hold rests =
      subst (λ (f : Option StepFault). SentFrom x grants from old.net f new.net) (sym rests.0)
      (subst (λ (q : PartState). SentFrom x grants from old.net None q.net) (sym rests.1) (record {
        passed = passed_quietly x old.net old.net None (still_quiet x old.net None none_refuses);
        quiet = λ away. refl;
      }))
  sent_from (suc n) from old new fault there hold made = elim made [
    | inl ended ↦ last_sent from old.net fault new.net (port_sent from old new fault there hold ended.1)
    | inr on ↦
        let first = port_sent from old on.0 None there hold on.1 in
        let count = (last_sent from old.net None on.0.net first).passed.touches.count in
        more_sent from old.net on.0.net new.net fault first
        (sent_from n (from + 1) on.0 new fault (omega arith) (hold_on from old.net None on.0.net hold first) on.2)
  ]

chosen_holds : (r : RouterState) (p : ℕ) (g : SwGrant) → IsHolding r p g → IsHolding (chosen_router r) p g
unfolding chosen_router
chosen_holds r p g held = record {
  place = record { port_in = held.place.port_in; channel_in = held.place.channel_in };
  channel = held.channel;
  active = held.active;
}

pub sends_passed : (x : ℕ) (old new : PartState) (fault : Option StepFault) → SendsGranted x old fault new →
    x < length old.net.nodes → Passed x old.net fault new.net
sends_passed x old new fault made there =
    let s = old.net in
    let r = router_at s x in
    let n : Node = record (node_at s x) { router = chosen_router r } in
    let chosen = router_quiet s x (chosen_router r) s.links there in
    let count = chosen.touches.count in
    let at : router_at (with_router s x (chosen_router r)) x ≡ chosen_router r =
    ap (λ (m : Node). m.router) (put_there s x n s.links there) in
    let mid : PartState = record old { net = with_router s x (chosen_router r) } in
    quiet_then x s mid.net new.net fault chosen
    (sent_from x (switch_grants r) (granted_once r) (2 * length s.mesh + 1) 0 mid new fault (omega arith)
    (λ p g above is. subst (λ (q : RouterState). IsHolding q p g) (sym at) (chosen_holds r p g (grants_hold r p g is)))
    made).passed
