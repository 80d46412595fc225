-- Lemmas on the choices of the output ports.
use Rattle.std.proofs.Common.{◌≡◌, ℕ, ◌+◌, ◌-◌, zero, suc, ◌<◌, ◌≤◌, true, false, List, Option, Some, None, refl, sym}
use Rattle.std.proofs.Common.{ap, ◌∙◌, arith, slice_index_or, slice_set, length, inl, inr, ltb, cond, replicate, ◌&&◌}
use Rattle.std.proofs.Common.{subst, get_or-set_same, get_or-set_other}
use Rattle.std.proofs.lemmas.Bool.{cases_eq, cases_lt, lt-ltb, le-ltb, eqb-true, eq-eqb, ne_eqb, and_from, and_right}
use Rattle.std.proofs.lemmas.List.{length-set, ext_get_or}
use Rattle.worm_vcalloc.specs.ChannelSet.{has, IsFirstPort}
use Rattle.worm_vcalloc.specs.Arbiter.{ArbiterState, no_arbiter, winner, after_pick, line_requests}
use Rattle.worm_vcalloc.proofs.Winner.{winner_none, winner_requests}
use Rattle.worm_swalloc.specs.declared.grant.SwGrant.{SwGrant}
use Rattle.worm_swalloc.specs.Front.{with_front}
use Rattle.worm_swalloc.specs.SwAlloc.{SwAllocState, IsSwAlloc, AreAskers, is_for, chosen, with_choice, is_line}
use Rattle.worm_swalloc.specs.SwAlloc.{if_chosen, granted, output_after, channel_of, with_move, after_grant}
use Rattle.worm_swalloc.proofs.FrontGiven.{with_front_zero, slice_set-with_front, with_front_more, length-with_front}
use Rattle.worm_swalloc.proofs.FrontGiven.{slice_index_or-with_front_below, slice_index_or-with_front_past}
use Rattle.worm_swalloc.proofs.FrontGiven.{with_front_same, with_front_kept}
use Rattle.worm_swalloc.proofs.PortsWalked.{IsWalked, walked_start, walked_from, walked_over, walked_more, walked_all}
use Rattle.worm_swalloc.proofs.SwitchPass.{get_or-replicate_same, chosen_is}

-- the output ports below n have chosen, and the input ports that they chose have moved
pub record ChosenBelow (s : SwAllocState) (requests : List (Option SwGrant)) (n : ℕ) (now : SwAllocState)
    (grants : List (Option SwGrant)) : Type 0 where
  pub state : now ≡ record s {
    inputs = with_front s.ports (after_grant s grants) s.inputs;
    outputs = with_front n (output_after s requests) s.outputs;
  }
  pub grants_are : grants ≡ with_front s.ports (granted s requests n) (replicate 7 None)

-- a request keeps its state where output port n does not choose its input port
if_chosen_same : (s : SwAllocState) (requests : List (Option SwGrant)) (n port : ℕ) (o : Option SwGrant)
    → ((g : SwGrant) → o ≡ Some g → g.out ≡ n → is_line (chosen s requests n) port ≡ false)
    → if_chosen s requests n port o ≡ if_chosen s requests (n + 1) port o
if_chosen_same s requests n port None h = refl
if_chosen_same s requests n port (Some g) h =
    elim (cases_eq g.out n) [
      | inl same ↦
          let not_this : is_line (chosen s requests g.out) port ≡ false =
          ap (λ k. is_line (chosen s requests k) port) same ∙ h g refl same in
          ap (λ b. cond b (Some g) None) (and_right (ltb g.out n) _ not_this
          ∙ sym (and_right (ltb g.out (n + 1)) _ not_this))
      | inr other ↦ elim (cases_lt g.out n) [
        | inl below ↦ ap (λ b. cond (b && is_line (chosen s requests g.out) port) (Some g) None)
            (lt-ltb g.out n below ∙ sym (lt-ltb g.out (n + 1) (omega arith)))
        | inr above ↦ ap (λ b. cond (b && is_line (chosen s requests g.out) port) (Some g) None)
            (le-ltb g.out n above ∙ sym (le-ltb g.out (n + 1) (omega arith)))
      ]
    ]

-- the request of the chosen input port is granted
if_chosen_here : (s : SwAllocState) (requests : List (Option SwGrant)) (n port : ℕ) (o : Option SwGrant)
    → is_for o n ≡ true → chosen s requests n ≡ Some port → o ≡ if_chosen s requests (n + 1) port o
if_chosen_here s requests n port None e w = refl
if_chosen_here s requests n port (Some g) e w =
    let same : g.out ≡ n = eqb-true g.out n e in
    let here : is_line (chosen s requests g.out) port ≡ true =
    ap (λ k. is_line (chosen s requests k) port) same ∙ ap (λ o. is_line o port) w ∙ eq-eqb port port refl in
    ap (λ b. cond b (Some g) None) (sym (and_from (ltb g.out (n + 1)) (is_line (chosen s requests g.out) port)
    (lt-ltb g.out (n + 1) (omega arith)) here))

-- the grants once output port n has chosen too
choice_granted : (s : SwAllocState) (requests : List (Option SwGrant)) (n : ℕ) → s.ports ≤ 7
    → (slice_index_or s.outputs n no_arbiter).width ≡ s.ports
    → (slice_index_or s.outputs n no_arbiter).pointer < s.ports
    → (w : Option ℕ) → chosen s requests n ≡ w
    → with_choice (with_front s.ports (granted s requests n) (replicate 7 None)) requests w
    ≡ with_front s.ports (granted s requests (n + 1)) (replicate 7 None)
choice_granted s requests n few wide low None e =
    with_front_same s.ports (granted s requests n) (granted s requests (n + 1)) (replicate 7 None) None few
    (λ i l. if_chosen_same s requests n i (slice_index_or requests i None) (λ g _ _. ap (λ o. is_line o i) e))
choice_granted s requests n few wide low (Some q) e =
    let won = winner_requests (slice_index_or s.outputs n no_arbiter)
    (λ port. is_for (slice_index_or requests port None) n) q (omega arith) e in
    let before : List (Option SwGrant) = with_front s.ports (granted s requests n) (replicate 7 None) in
    let after : List (Option SwGrant) = with_front s.ports (granted s requests (n + 1)) (replicate 7 None) in
    let long : length before ≡ 7 = length-with_front s.ports (granted s requests n) (replicate 7 None) few in
    let long' : length after ≡ 7 = length-with_front s.ports (granted s requests (n + 1)) (replicate 7 None) few in
    let set_long : length (slice_set before q (slice_index_or requests q None)) ≡ length before =
    length-set before q (slice_index_or requests q None) in
    ext_get_or None (slice_set before q (slice_index_or requests q None)) after (set_long ∙ long ∙ sym long')
    (λ i _. elim (cases_eq i q) [
      | inl here ↦
          ap (λ k. slice_index_or (slice_set before q (slice_index_or requests q None)) k None) here
          ∙ get_or-set_same before q (slice_index_or requests q None) None (omega (arith, won.0))
          ∙ if_chosen_here s requests n q (slice_index_or requests q None) won.1 e
          ∙ sym (slice_index_or-with_front_below s.ports q (granted s requests (n + 1)) (replicate 7 None) None
          (omega (arith, won.0)))
          ∙ ap (λ k. slice_index_or after k None) (sym here)
      | inr other ↦
          get_or-set_other before q i (slice_index_or requests q None) None other
          ∙ elim (cases_lt i s.ports) [
            | inl below ↦
                slice_index_or-with_front_below s.ports i (granted s requests n) (replicate 7 None) None below
                ∙ if_chosen_same s requests n i (slice_index_or requests i None)
                (λ g _ _. ap (λ o. is_line o i) e ∙ ne_eqb q i (λ same. other (sym same)))
                ∙ sym (slice_index_or-with_front_below s.ports i (granted s requests (n + 1))
                (replicate 7 None) None below)
            | inr past ↦
                slice_index_or-with_front_past s.ports i (granted s requests n) (replicate 7 None) None past
                ∙ sym (slice_index_or-with_front_past s.ports i (granted s requests (n + 1))
                (replicate 7 None) None past)
          ]
    ])

-- an input port that an output port has yet to choose has no grant
not_yet : (s : SwAllocState) (requests : List (Option SwGrant)) (n out port : ℕ) (o : Option SwGrant) → n ≤ out
    → is_for o out ≡ true → if_chosen s requests n port o ≡ None
not_yet s requests n out port None from e = refl
not_yet s requests n out port (Some g) from e =
    let same : g.out ≡ out = eqb-true g.out out e in
    ap (λ b. cond (b && is_line (chosen s requests g.out) port) (Some g) None) (le-ltb g.out n (omega arith))

-- the input arbiters once output port n has chosen too
choice_moved : (s : SwAllocState) (requests grants : List (Option SwGrant)) (n : ℕ) → s.ports ≤ 7
    → s.ports ≤ length s.inputs
    → (slice_index_or s.outputs n no_arbiter).width ≡ s.ports
    → (slice_index_or s.outputs n no_arbiter).pointer < s.ports
    → grants ≡ with_front s.ports (granted s requests n) (replicate 7 None)
    → (w : Option ℕ) → chosen s requests n ≡ w
    → with_move (with_front s.ports (after_grant s grants) s.inputs) requests w
    ≡ with_front s.ports (after_grant s (with_choice grants requests w)) s.inputs
choice_moved s requests grants n few long wide low are None e = refl
choice_moved s requests grants n few long wide low are (Some q) e =
    let won = winner_requests (slice_index_or s.outputs n no_arbiter)
    (λ port. is_for (slice_index_or requests port None) n) q (omega arith) e in
    let lq : q < s.ports = omega (arith, won.0) in
    let many : length grants ≡ 7 = ap length are
    ∙ length-with_front s.ports (granted s requests n) (replicate 7 None) few in
    let none : slice_index_or grants q None ≡ None =
    ap (λ xs. slice_index_or xs q None) are
    ∙ slice_index_or-with_front_below s.ports q (granted s requests n) (replicate 7 None) None lq
    ∙ not_yet s requests n n q (slice_index_or requests q None) (omega arith) won.1 in
    let before : List ArbiterState = with_front s.ports (after_grant s grants) s.inputs in
    let grants' : List (Option SwGrant) = slice_set grants q (slice_index_or requests q None) in
    let after : List ArbiterState = with_front s.ports (after_grant s grants') s.inputs in
    let still : slice_index_or before q no_arbiter ≡ slice_index_or s.inputs q no_arbiter =
    slice_index_or-with_front_below s.ports q (after_grant s grants) s.inputs no_arbiter lq
    ∙ ap (λ o. after_pick (slice_index_or s.inputs q no_arbiter) (channel_of o)) none in
    let moved : ArbiterState = after_pick (slice_index_or before q no_arbiter)
    (channel_of (slice_index_or requests q None)) in
    let long_before : length before ≡ length s.inputs =
    length-with_front s.ports (after_grant s grants) s.inputs long in
    let long_after : length after ≡ length s.inputs = length-with_front s.ports (after_grant s grants') s.inputs long in
    ext_get_or no_arbiter (slice_set before q moved) after (length-set before q moved ∙ long_before ∙ sym long_after)
    (λ i _. elim (cases_eq i q) [
      | inl here ↦
          ap (λ k. slice_index_or (slice_set before q moved) k no_arbiter) here
          ∙ get_or-set_same before q moved no_arbiter (omega arith)
          ∙ ap (λ a. after_pick a (channel_of (slice_index_or requests q None))) still
          ∙ ap (λ o. after_pick (slice_index_or s.inputs q no_arbiter) (channel_of o))
          (sym (get_or-set_same grants q (slice_index_or requests q None) None (omega arith)))
          ∙ sym (slice_index_or-with_front_below s.ports q (after_grant s grants') s.inputs no_arbiter lq)
          ∙ ap (λ k. slice_index_or after k no_arbiter) (sym here)
      | inr other ↦
          get_or-set_other before q i moved no_arbiter other
          ∙ elim (cases_lt i s.ports) [
            | inl below ↦
                slice_index_or-with_front_below s.ports i (after_grant s grants) s.inputs no_arbiter below
                ∙ ap (λ o. after_pick (slice_index_or s.inputs i no_arbiter) (channel_of o))
                (sym (get_or-set_other grants q i (slice_index_or requests q None) None other))
                ∙ sym (slice_index_or-with_front_below s.ports i (after_grant s grants') s.inputs no_arbiter below)
            | inr past ↦
                slice_index_or-with_front_past s.ports i (after_grant s grants) s.inputs no_arbiter past
                ∙ sym (slice_index_or-with_front_past s.ports i (after_grant s grants') s.inputs no_arbiter past)
          ]
    ])

-- before the first choice
pub chosen_none : (s : SwAllocState) (requests grants : List (Option SwGrant)) → s.ports ≤ 7 → s.ports ≤ length s.inputs
    → grants ≡ replicate 7 None → ChosenBelow s requests 0 s grants
chosen_none s requests grants few long e = record {
  state =
      ap (λ i. record s { inputs = i })
      (sym (with_front_kept s.ports (after_grant s grants) s.inputs no_arbiter long
      (λ i l. ap (λ o. after_pick (slice_index_or s.inputs i no_arbiter) (channel_of o))
      (ap (λ xs. slice_index_or xs i None) e ∙ get_or-replicate_same 7 i None))))
      ∙ ap (λ o. record s { inputs = with_front s.ports (after_grant s grants) s.inputs; outputs = o })
      (sym (with_front_zero (output_after s requests) s.outputs));
  grants_are = e
      ∙ sym (with_front_kept s.ports (granted s requests 0) (replicate 7 None) None few
      (λ i l. sym (none_below i (slice_index_or requests i None)) ∙ sym (get_or-replicate_same 7 i None)));
} where
  none_below : (i : ℕ) (o : Option SwGrant) → None ≡ if_chosen s requests 0 i o
  none_below i None = refl
  none_below i (Some g) = ap (λ b. cond (b && is_line (chosen s requests g.out) i) (Some g) None)
      (sym (le-ltb g.out 0 (omega arith)))

-- one more choice
pub chosen_more : (s : SwAllocState) (requests : List (Option SwGrant)) (n : ℕ) (now next : SwAllocState)
    (grants grants' : List (Option SwGrant))
    → ChosenBelow s requests n now grants → s.ports ≤ 7 → s.ports ≤ length s.inputs → n < length s.outputs
    → (slice_index_or s.outputs n no_arbiter).width ≡ s.ports
    → (slice_index_or s.outputs n no_arbiter).pointer < s.ports
    → grants' ≡ with_choice grants requests (chosen now requests n)
    → next ≡ record now {
      inputs = with_move now.inputs requests (chosen now requests n);
      outputs = slice_set now.outputs n (output_after now requests n);
    }
    → ChosenBelow s requests (n + 1) next grants'
chosen_more s requests n now next grants grants' b few long within wide low g e =
    let same : slice_index_or (with_front n (output_after s requests) s.outputs) n no_arbiter
    ≡ slice_index_or s.outputs n no_arbiter
    = slice_index_or-with_front_past n n (output_after s requests) s.outputs no_arbiter (omega arith) in
    let choice : chosen now requests n ≡ chosen s requests n =
    ap (λ (t : SwAllocState). chosen t requests n) b.state
    ∙ ap (λ a. winner a (λ port. is_for (slice_index_or requests port None) n)) same in
    let moved : output_after now requests n ≡ output_after s requests n =
    ap (λ (t : SwAllocState). after_pick (slice_index_or t.outputs n no_arbiter) (chosen now requests n)) b.state
    ∙ ap (λ a. after_pick a (chosen now requests n)) same
    ∙ ap (after_pick (slice_index_or s.outputs n no_arbiter)) choice in
    let granted_now : grants' ≡ with_choice grants requests (chosen s requests n) =
    g ∙ ap (λ w. with_choice grants requests w) choice in
    record {
      state = e
          ∙ ap (λ w. record now {
            inputs = with_move now.inputs requests w;
            outputs = slice_set now.outputs n (output_after now requests n);
          }) choice
          ∙ ap (λ a. record now {
            inputs = with_move now.inputs requests (chosen s requests n);
            outputs = slice_set now.outputs n a;
          }) moved
          ∙ ap (λ (t : SwAllocState). record t {
            inputs = with_move t.inputs requests (chosen s requests n);
            outputs = slice_set t.outputs n (output_after s requests n);
          }) b.state
          ∙ ap (λ o. record s {
            inputs = with_move (with_front s.ports (after_grant s grants) s.inputs) requests
                (chosen s requests n);
            outputs = o;
          })
          (slice_set-with_front n (output_after s requests) s.outputs no_arbiter within)
          ∙ ap (λ i. record s { inputs = i; outputs = with_front (n + 1) (output_after s requests) s.outputs })
          (choice_moved s requests grants n few long wide low b.grants_are (chosen s requests n) refl
          ∙ ap (λ r. with_front s.ports (after_grant s r) s.inputs) (sym granted_now));
      grants_are = granted_now
          ∙ ap (λ r. with_choice r requests (chosen s requests n)) b.grants_are
          ∙ choice_granted s requests n few wide low (chosen s requests n) refl;
    }

-- output port n has no choice where nobody asks for it
pub chosen_pass : (s : SwAllocState) (requests : List (Option SwGrant)) (n : ℕ) (now : SwAllocState)
    (grants : List (Option SwGrant))
    → ChosenBelow s requests n now grants → s.ports ≤ 7 → n < length s.outputs
    → (slice_index_or s.outputs n no_arbiter).width ≡ s.ports
    → (slice_index_or s.outputs n no_arbiter).pointer < s.ports
    → chosen s requests n ≡ None
    → ChosenBelow s requests (n + 1) now grants
chosen_pass s requests n now grants b few within wide low none = record {
  state = b.state
      ∙ ap (λ o. record s { inputs = with_front s.ports (after_grant s grants) s.inputs; outputs = o })
      (with_front_more n (output_after s requests) s.outputs no_arbiter within
      (sym (ap (after_pick (slice_index_or s.outputs n no_arbiter)) none)));
  grants_are = b.grants_are ∙ choice_granted s requests n few wide low None none;
}

-- the output ports that nobody asks for are passed over
chosen_to : (s : SwAllocState) (requests : List (Option SwGrant)) (askers n k : ℕ) (now : SwAllocState)
    (grants : List (Option SwGrant))
    → IsSwAlloc s.ports s.vcs s.inputs s.outputs → s.ports ≤ length s.outputs → AreAskers requests askers
    → n + k ≤ s.ports
    → ((o p : ℕ) → n ≤ o → o < n + k → p < 8 → has askers o p ≡ false)
    → ChosenBelow s requests n now grants → ChosenBelow s requests (n + k) now grants
chosen_to s requests askers n zero now grants r long are within none b =
    subst (λ m. ChosenBelow s requests m now grants) (omega arith) b
chosen_to s requests askers n (suc k) now grants r long are within none b =
    let few = r.few_ports in
    let at : n + k < s.ports = omega arith in
    let wide = r.output_width (n + k) (omega arith) in
    let low = r.output_pointer (n + k) (omega arith) in
    subst (λ m. ChosenBelow s requests m now grants) (omega arith)
    (chosen_pass s requests (n + k) now grants
    (chosen_to s requests askers n k now grants r long are (omega arith)
    (λ o p l l' lp. none o p l (omega arith) lp) b) few (omega arith) wide low
    (winner_none (slice_index_or s.outputs (n + k) no_arbiter)
    (λ port. is_for (slice_index_or requests port None) (n + k)) (omega arith)
    (λ port l. sym (are (n + k) port (omega arith) (omega arith))
    ∙ none (n + k) port (omega arith) (omega arith) (omega arith))))

-- the output ports below n have chosen, where n is as far as the walk has come
pub record ChoosingBelow (s : SwAllocState) (requests : List (Option SwGrant)) (askers left : ℕ) (now : SwAllocState)
    (grants : List (Option SwGrant)) : Type 0 where
  pub next : ℕ
  pub walked : IsWalked askers left next s.ports
  pub chosen_are : ChosenBelow s requests next now grants

pub choosing_start : (s : SwAllocState) (requests grants : List (Option SwGrant)) (askers : ℕ) → s.ports ≤ 7
    → s.ports ≤ length s.inputs → grants ≡ replicate 7 None
    → ChoosingBelow s requests askers askers s grants
choosing_start s requests grants askers few long e =
    record { next = 0; walked = walked_start askers s.ports; chosen_are = chosen_none s requests grants few long e }

-- the chosen input port is one of the router's that asks for the output port
pub chosen_asks : (s : SwAllocState) (requests : List (Option SwGrant)) (out lines : ℕ) (d : ArbiterState) (port : ℕ)
    → IsSwAlloc s.ports s.vcs s.inputs s.outputs → out < s.ports → out < length s.outputs
    → ((line : ℕ) → line < s.ports → line_requests lines line ≡ is_for (slice_index_or requests line None) out)
    → Some port ≡ winner (slice_index_or s.outputs out d) (line_requests lines)
    → (port < s.ports) × (is_for (slice_index_or requests port None) out ≡ true)
chosen_asks s requests out lines d port r lo within same won =
    let few = r.few_ports in
    let wide = r.output_width out (omega arith) in
    let low = r.output_pointer out (omega arith) in
    let w = winner_requests (slice_index_or s.outputs out no_arbiter)
    (λ line. is_for (slice_index_or requests line None) out) port (omega arith)
    (sym (chosen_is s requests out lines d (Some port) r lo within same won)) in
    (omega (arith, w.0), w.1)

-- the next output port has chosen
pub choosing_more : (s : SwAllocState) (requests : List (Option SwGrant)) (askers left left' out : ℕ)
    (now next : SwAllocState) (grants grants' : List (Option SwGrant))
    → IsSwAlloc s.ports s.vcs s.inputs s.outputs → s.ports ≤ length s.inputs → s.ports ≤ length s.outputs
    → AreAskers requests askers
    → ChoosingBelow s requests askers left now grants → IsFirstPort left left' out → out < s.ports
    → grants' ≡ with_choice grants requests (chosen now requests out)
    → next ≡ record now {
      inputs = with_move now.inputs requests (chosen now requests out);
      outputs = slice_set now.outputs out (output_after now requests out);
    }
    → ChoosingBelow s requests askers left' next grants'
choosing_more s requests askers left left' out now next grants grants' r long long' are b f within g e =
    let few = r.few_ports in
    let from = walked_from askers left left' b.next s.ports out b.walked f in
    let gap : b.next + (out - b.next) ≡ out = omega arith in
    let here : ChosenBelow s requests out now grants =
    subst (λ m. ChosenBelow s requests m now grants) gap
    (chosen_to s requests askers b.next (out - b.next) now grants r long' are (omega arith)
    (λ o p l l' lp. walked_over askers left left' b.next s.ports out o p b.walked f l (omega arith)
    (omega arith) lp) b.chosen_are) in
    record {
      next = out + 1;
      walked = walked_more askers left left' b.next s.ports out b.walked f within few;
      chosen_are = chosen_more s requests out now next grants grants' here few long (omega arith)
          (r.output_width out (omega arith)) (r.output_pointer out (omega arith)) g e;
    }

-- as far as the last output port
choosing_end : (s : SwAllocState) (requests : List (Option SwGrant)) (askers n : ℕ) (now : SwAllocState)
    (grants : List (Option SwGrant))
    → IsSwAlloc s.ports s.vcs s.inputs s.outputs → s.ports ≤ length s.outputs → AreAskers requests askers
    → n ≤ s.ports
    → ((o p : ℕ) → n ≤ o → o < s.ports → p < 8 → has askers o p ≡ false)
    → ChosenBelow s requests n now grants → ChosenBelow s requests s.ports now grants
choosing_end s requests askers n now grants r long are few none b =
    let gap : n + (s.ports - n) ≡ s.ports = omega arith in
    subst (λ m. ChosenBelow s requests m now grants) gap
    (chosen_to s requests askers n (s.ports - n) now grants r long are (omega arith)
    (λ o p l l' lp. none o p l (omega arith) lp) b)

-- all have chosen
pub choosing_all : (s : SwAllocState) (requests : List (Option SwGrant)) (askers left : ℕ) (now : SwAllocState)
    (grants : List (Option SwGrant))
    → IsSwAlloc s.ports s.vcs s.inputs s.outputs → s.ports ≤ length s.outputs → AreAskers requests askers
    → ChoosingBelow s requests askers left now grants → left ≡ 0 → ChosenBelow s requests s.ports now grants
choosing_all s requests askers left now grants r long are b e =
    choosing_end s requests askers b.next now grants r long are b.walked.few
    (λ o p l l' lp. walked_all askers left b.next s.ports o p b.walked e l l' lp) b.chosen_are
