-- What a pass of the switch allocator granted is sent, ports rising: one channel at a time comes out of the set of
-- those granted.
use Rattle.std.proofs.Common.{◌≡◌, ℕ, ◌+◌, ◌*◌, ◌<◌, ◌≤◌, true, false, inl, inr, List, [], ◌∷◌, length, Option, Some}
use Rattle.std.proofs.Common.{None, refl, arith, ap, sym, subst, ◌∙◌, slice_index_or}
use Rattle.std.specs.Prelude.{All, Result, IfSome, option_map}
use Rattle.std.specs.List.{flat_map, range_with_len}
use Rattle.std.specs.Option.{option_to_list}
use Rattle.std.proofs.lemmas.List.Elements.{All-append, All-cons, All-nil}
use Rattle.std.proofs.lemmas.Bool.{cases_eq, eqb-true, eq-eqb, false_from_ne_true, ne_eqb, true≢false}
use Rattle.worm_vcalloc.specs.ChannelSet.{has, IsFirst}
use Rattle.worm_vcalloc.proofs.SetMembers.{has-zero}
use Rattle.worm_swalloc.specs.declared.grant.SwGrant.{SwGrant}
use Rattle.worm_swalloc.specs.SwAlloc.{AreGranted, is_of}
use Rattle.worm_theory.specs.Steps.{Step, Send, IsThere}
use Rattle.worm_region.specs.State.{NetState, shape}
use Rattle.worm_region.specs.Workable.{IsWorkable}
use Rattle.worm_region.specs.Replies.{Attempts, Replies}
use Rattle.worm_region.specs.Turns.{AreThere, Each, Does, fault_of, granted_send}
use Rattle.worm_region.specs.declared.step.Moved.{Moved}
use Rattle.worm_region.specs.declared.fault.StepFault.{StepFault}
use Rattle.worm_region.proofs.PlacesThere.{net_place}
use Rattle.worm_region.proofs.Passages.{loop_more}
use Rattle.worm_region.proofs.SetWalked.{IsPortOut, IsTaken, Walked, walked_all, walked_more, walked_place}
use Rattle.worm_region.proofs.SetWalked.{walked_start, walked_to}
use Rattle.worm_region.proofs.TurnInParts.{sends_one, sends_none}

-- the grant of a channel of the set

of_channel : (o : Option SwGrant) (v : ℕ) → is_of o v ≡ true → (g : SwGrant) × (o ≡ Some g) × (g.vc ≡ v)
of_channel None v e = absurd (cc)
of_channel (Some g) v e = (g, refl, eqb-true g.vc v e)

pub granted_one : (grants : List (Option SwGrant)) (all p v : ℕ) → AreGranted grants all → p < 7 → v < 8 →
    has all p v ≡ true → (g : SwGrant) × (slice_index_or grants p None ≡ Some g) × (g.vc ≡ v)
granted_one grants all p v are p_in v_in is =
    of_channel (slice_index_or grants p None) v (sym (are.each p v p_in v_in) ∙ is)

-- which is the only one of its port

of_no_other : (o : Option SwGrant) (v c : ℕ) → is_of o v ≡ true → (c ≡ v → ⊥) → is_of o c ≡ false
of_no_other None v c e other = refl
of_no_other (Some g) v c e other = ne_eqb g.vc c (λ same. other (sym same ∙ eqb-true g.vc v e))

granted_once : (grants : List (Option SwGrant)) (all p v c : ℕ) → AreGranted grants all → p < 7 → v < 8 → c < 8 →
    has all p v ≡ true → (c ≡ v → ⊥) → has all p c ≡ false
granted_once grants all p v c are p_in v_in c_in is other =
    are.each p c p_in c_in ∙ of_no_other (slice_index_or grants p None) v c (sym (are.each p v p_in v_in) ∙ is) other

-- a port without a channel in the set has no grant
pub granted_none : (grants : List (Option SwGrant)) (all p : ℕ) → AreGranted grants all → p < 7 →
    ((v : ℕ) → v < 8 → has all p v ≡ false) → slice_index_or grants p None ≡ None
granted_none grants all p are p_in none = by_grant (slice_index_or grants p None) refl where
  by_grant : (o : Option SwGrant) → slice_index_or grants p None ≡ o → slice_index_or grants p None ≡ None
  by_grant None e = e
  by_grant (Some g) e =
      let few : g.vc < 8 = subst (λ (o : Option SwGrant). IfSome o (λ g. g.vc < 8)) e (are.few p) in
      let is : has all p g.vc ≡ true = are.each p g.vc p_in few ∙ ap (λ o. is_of o g.vc) e ∙ eq-eqb g.vc g.vc refl in
      absurd (true≢false (sym is ∙ none g.vc few))

-- a walk over the ports of a node, at those of which that have a channel left of all that were granted
pub record Sent (Done : ℕ → Type 0) (all left count : ℕ) : Type 0 where
  pub few : count ≤ 7
  pub walked : Walked Done (λ p. (v : ℕ) → v < 8 → has left p v ≡ has all p v) (IsPortOut left) count

-- a Send that is there is by a port of the node
send_port : (s : NetState) (x p v : ℕ) → IsWorkable s → IsThere (shape s) (Send x p v) → p ≤ 2 * length s.mesh
send_port s x p v net there =
    let place = net_place s x p v net.framed there.0 there.1 there.2 in
    let node = net.framed.each_node x place.node_in in
    let mesh = ap (λ (m : List ℕ). length m) node.same_mesh in
    let port_in = place.place.port_in in
    omega arith

pub sent_start : {Done : ℕ → Type 0} (x all : ℕ) (s : NetState) → IsWorkable s → AreThere s x all → Done 0
    → Sent Done all all (2 * length s.mesh + 1)
sent_start x all s net there done =
    let few = net.framed.radices.few_dims in
    record {
      few = omega arith;
      walked = walked_start done
          (λ p past p_few v v_few. false_from_ne_true (has all p v)
          (λ on. let port_in = send_port s x p v net (there p v p_few v_few on) in omega arith))
          (λ p p_in v v_few. refl);
    }

module _ (grants : List (Option SwGrant)) {Done : ℕ → Type 0} {all left count : ℕ} (are : AreGranted grants all)
    (sent : Sent Done all left count) where
  module _ {new port vc : ℕ} (first : IsFirst left new port vc) where
    is_in : IsPortOut left port → ⊥
    is_in out = true≢false (sym first.was_in ∙ out first.port_in vc first.channel_in)

    pub sent_place : (sent.walked.next ≤ port) × (port < count)
    sent_place = walked_place sent.walked is_in

    -- a channel that comes out was granted
    pub was_granted : has all port vc ≡ true
    was_granted = sym (sent.walked.rest port sent_place.0 sent_place.1 vc first.channel_in) ∙ first.was_in

    pub sent_grant : (g : SwGrant) × (slice_index_or grants port None ≡ Some g) × (g.vc ≡ vc)
    sent_grant = granted_one grants all port vc are first.port_in first.channel_in was_granted

    -- with it all channels of its port have come out
    taken : IsTaken (IsPortOut left) (IsPortOut new) port
    taken = record {
      was_in = is_in;
      none_before = λ p below p_few v v_few. first.none_before p v v_few (omega arith);
      here = λ p_few v v_few. elim (cases_eq v vc) [
        | inl same ↦ ap (λ k. has new port k) same ∙ first.taken.here
        | inr other ↦
            first.taken.elsewhere port v p_few v_few (λ _ e. other e)
            ∙ sent.walked.rest port sent_place.0 sent_place.1 v v_few
            ∙ granted_once grants all port vc v are p_few first.channel_in v_few was_granted other
      ];
      elsewhere = λ p away out p_few v v_few.
          first.taken.elsewhere p v p_few v_few (λ e _. away e) ∙ out p_few v v_few;
    }

  module _ (still : (p : ℕ) → slice_index_or grants p None ≡ None → Done p → Done (p + 1)) where
    stays : (p : ℕ) → p < count → ((v : ℕ) → v < 8 → has left p v ≡ has all p v) → IsPortOut left p → Done p
        → Done (p + 1)
    stays p p_in same out done =
        let few = sent.few in
        still p (granted_none grants all p are (omega arith)
        (λ v v_few. sym (same v v_few) ∙ out (omega arith) v v_few)) done

    -- all have sent
    pub sent_all : left ≡ 0 → Done count
    sent_all none = walked_all stays sent.walked (λ p p_few v v_few. ap (λ (s : ℕ). has s p v) none ∙ has-zero p v)

    module _ {new port vc : ℕ} (first : IsFirst left new port vc) where
      -- the ports before it have no grant
      pub sent_to : Done port
      sent_to =
          let place = sent_place first in
          let within = place.1 in
          walked_to stays sent.walked port place.0 (omega arith) (taken first).none_before

      -- one more has sent
      pub sent_more : {DoneNow : ℕ → Type 0} → (Done port → DoneNow (port + 1)) → Sent DoneNow all new count
      sent_more step =
          let few = sent.few in
          record {
            few = few;
            walked = walked_more stays port sent.walked (taken first) step
                (λ p above p_in same v v_few.
                first.taken.elsewhere p v (omega arith) v_few (λ e _. omega arith) ∙ same v v_few);
          }

-- the ports below one have sent what was granted
abbrev pub SentBelow : ℕ → List (Option SwGrant) → NetState → NetState → ℕ → Type 0
SentBelow x grants a b n = Does (Each (λ p. Each Attempts (granted_send grants x p)) (range_with_len 0 n)) a None b

pub sent_still : (x : ℕ) (grants : List (Option SwGrant)) (a b : NetState) (p : ℕ) → slice_index_or grants p None ≡ None
    → SentBelow x grants a b p → SentBelow x grants a b (p + 1)
sent_still x grants a b p none sent =
    loop_more (λ p. Each Attempts (granted_send grants x p)) p a b b None sent (sends_none grants x p b none)

-- one was answered
pub sent_by : (x : ℕ) (grants : List (Option SwGrant)) (port vc : ℕ) (b c : NetState) (answer : Result Moved StepFault)
    (fault : Option StepFault) → (g : SwGrant) × (slice_index_or grants port None ≡ Some g) × (g.vc ≡ vc)
    → Replies b (Send x port vc) answer c → fault ≡ fault_of answer →
    Does (Each Attempts (granted_send grants x port)) b fault c
sent_by x grants port vc b c answer fault grant answered ends =
    sends_one grants x port grant.0 b c answer fault grant.1
    (subst (λ (v : ℕ). Replies b (Send x port v) answer c) (sym grant.2) answered) ends

-- what holds of each Send of the node holds of those that were granted
pub each_granted : (P : Step → Type 0) (x : ℕ) → ((p v : ℕ) → P (Send x p v)) → (grants : List (Option SwGrant))
    (ports : List ℕ) → All P (flat_map (granted_send grants x) ports)
each_granted P x holds grants [] = All-nil P
each_granted P x holds grants (p ∷ ports) =
    All-append P (granted_send grants x p) (flat_map (granted_send grants x) ports)
    (of_port (slice_index_or grants p None)) (each_granted P x holds grants ports) where
      of_port : (grant : Option SwGrant) → All P (option_to_list (option_map (λ g. Send x p g.vc) grant))
      of_port None = All-nil P
      of_port (Some g) = All-cons P (Send x p g.vc) [] (holds p g.vc) (All-nil P)
