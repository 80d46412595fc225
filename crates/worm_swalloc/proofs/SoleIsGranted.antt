-- Lemmas on a pass in which one input port alone may name anything.
use Rattle.std.proofs.Common.{◌≡◌, IfSome, ℕ, ◌+◌, ◌-◌, zero, suc, ◌<◌, ◌≤◌, false, List, Option, Some}
use Rattle.std.proofs.Common.{None, refl, sym, ap, ◌∙◌, arith, slice_index_or, slice_set, length, inl, inr, replicate}
use Rattle.std.proofs.Common.{subst}
use Rattle.std.proofs.lemmas.Bool.{cases_eq, eq-eqb, ne_eqb, true≢false}
use Rattle.worm_vcalloc.specs.Arbiter.{no_arbiter, after_pick}
use Rattle.worm_vcalloc.proofs.Winner.{winner_none}
use Rattle.worm_swalloc.specs.declared.grant.SwGrant.{SwGrant}
use Rattle.worm_swalloc.specs.SwAlloc.{SwAllocState, IsSwAlloc, sole_named, is_for, chosen, with_choice, output_after}
use Rattle.worm_swalloc.specs.SwAlloc.{IsSolePort, channel_of, with_move, named, all_named}
use Rattle.worm_swalloc.proofs.FrontGiven.{slice_set-with_front, with_front_kept, with_front_skip}
use Rattle.worm_swalloc.proofs.SwitchPass.{get_or-replicate_same, named_unready, named_within, winner_sole}
use Rattle.worm_swalloc.proofs.GrantsOfSet.{sole_here, sole_elsewhere}
use Rattle.worm_swalloc.proofs.ChoicesByPort.{ChosenBelow, chosen_none, chosen_more, chosen_pass}

-- what the ports name

module _ (s : SwAllocState) (ready : List (List (Option ℕ))) (port : ℕ) (request : Option SwGrant)
    (r : IsSwAlloc s.ports s.vcs s.inputs s.outputs) (within : port < s.ports) (sole : IsSolePort ready port)
    (e : request ≡ named s ready port) where
  others : (i : ℕ) → i < s.ports → ((i ≡ port) → ⊥) → named s ready i ≡ slice_index_or (replicate 7 None) i None
  others i l other =
      let few = r.few_ports in
      named_unready s ready i r l (λ v lv. sole i v (omega arith) lv other) ∙ sym (get_or-replicate_same 7 i None)

  -- what it names is all that is named
  pub sole_is_all : sole_named port request ≡ all_named s ready
  sole_is_all =
      let few = r.few_ports in
      ap (slice_set (replicate 7 None) port) e
      ∙ ap (λ xs. slice_set xs port (named s ready port))
      (sym (with_front_kept port (named s ready) (replicate 7 None) None (omega arith)
      (λ i l. others i (omega arith) (λ same. omega arith))))
      ∙ slice_set-with_front port (named s ready) (replicate 7 None) None (omega arith)
      ∙ with_front_skip (port + 1) s.ports (named s ready) (replicate 7 None) None (omega arith) (omega arith)
      (λ i l l'. others i l' (λ same. omega arith))

  -- a channel of the router
  pub sole_within : IfSome request (λ g. g.vc < s.vcs)
  sole_within =
      let few = r.few_ports in
      subst (λ (o : Option SwGrant). IfSome o (λ g. g.vc < s.vcs)) (sole_here port request (omega arith))
      (named_within s ready (sole_named port request) r sole_is_all port)

-- nobody asks for an output port but the sole one
quiet : (port p out : ℕ) (o : Option SwGrant) → port < 7 → is_for o out ≡ false
    → is_for (slice_index_or (sole_named port o) p None) out ≡ false
quiet port p out o within none = elim (cases_eq p port) [
  | inl same ↦ ap (λ k. is_for (slice_index_or (sole_named port o) k None) out) same
      ∙ ap (λ r. is_for r out) (sole_here port o within) ∙ none
  | inr other ↦ ap (λ r. is_for r out) (sole_elsewhere port p o other)
]

-- output ports that nobody asks for are passed over
quiet_to : (s : SwAllocState) (requests : List (Option SwGrant)) (n k : ℕ) (now : SwAllocState)
    (grants : List (Option SwGrant)) → IsSwAlloc s.ports s.vcs s.inputs s.outputs → s.ports ≤ length s.outputs
    → n + k ≤ s.ports
    → ((o p : ℕ) → n ≤ o → o < n + k → is_for (slice_index_or requests p None) o ≡ false)
    → ChosenBelow s requests n now grants → ChosenBelow s requests (n + k) now grants
quiet_to s requests n zero now grants r long within none b =
    subst (λ m. ChosenBelow s requests m now grants) (omega arith) b
quiet_to s requests n (suc k) now grants r long within none b =
    let few = r.few_ports in
    let at : n + k < s.ports = omega arith in
    let wide = r.output_width (n + k) (omega arith) in
    let low = r.output_pointer (n + k) (omega arith) in
    subst (λ m. ChosenBelow s requests m now grants) (omega arith)
    (chosen_pass s requests (n + k) now grants
    (quiet_to s requests n k now grants r long (omega arith) (λ o p l l'. none o p l (omega arith)) b) few
    (omega arith) wide low
    (winner_none (slice_index_or s.outputs (n + k) no_arbiter)
    (λ port. is_for (slice_index_or requests port None) (n + k)) (omega arith)
    (λ port l. none (n + k) port (omega arith) (omega arith))))

quiet_on : (s : SwAllocState) (requests : List (Option SwGrant)) (n m : ℕ) (now : SwAllocState)
    (grants : List (Option SwGrant)) → IsSwAlloc s.ports s.vcs s.inputs s.outputs → s.ports ≤ length s.outputs
    → n ≤ m → m ≤ s.ports
    → ((o p : ℕ) → n ≤ o → o < m → is_for (slice_index_or requests p None) o ≡ false)
    → ChosenBelow s requests n now grants → ChosenBelow s requests m now grants
quiet_on s requests n m now grants r long from within none b =
    let gap : n + (m - n) ≡ m = omega arith in
    subst (λ i. ChosenBelow s requests i now grants) gap
    (quiet_to s requests n (m - n) now grants r long (omega arith) (λ o p l l'. none o p l (omega arith)) b)

pub asks_none : (request : Option SwGrant) (out : ℕ) → request ≡ None → is_for request out ≡ false
asks_none request out e = ap (λ o. is_for o out) e

pub asks_past : (request : Option SwGrant) (g : SwGrant) (ports out : ℕ) → request ≡ Some g → ports ≤ g.out
    → out < ports → is_for request out ≡ false
asks_past request g ports out e past within = ap (λ o. is_for o out) e ∙ ne_eqb g.out out (λ same. omega arith)

-- no output port chooses where the sole request is for none of the router's
pub sole_none : (s : SwAllocState) (port : ℕ) (o : Option SwGrant) (grants : List (Option SwGrant))
    → IsSwAlloc s.ports s.vcs s.inputs s.outputs → s.ports ≤ length s.inputs → s.ports ≤ length s.outputs
    → port < s.ports
    → ((out : ℕ) → out < s.ports → is_for o out ≡ false) → grants ≡ replicate 7 None
    → ChosenBelow s (sole_named port o) s.ports s grants
sole_none s port o grants r long long' within none e =
    let few = r.few_ports in
    quiet_on s (sole_named port o) 0 s.ports s grants r long' (omega arith) (omega arith)
    (λ out p _ l. quiet port p out o (omega arith) (none out l))
    (chosen_none s (sole_named port o) grants few long e)

-- the output port that it is for chooses the sole one
sole_chosen : (s : SwAllocState) (port : ℕ) (g : SwGrant) → IsSwAlloc s.ports s.vcs s.inputs s.outputs
    → port < s.ports → g.out < s.ports → chosen s (sole_named port (Some g)) g.out ≡ Some port
sole_chosen s port g r within out_in =
    let few = r.few_ports in
    let wide = r.output_width g.out (omega arith) in
    let low = r.output_pointer g.out (omega arith) in
    winner_sole (slice_index_or s.outputs g.out no_arbiter)
    (λ p. is_for (slice_index_or (sole_named port (Some g)) p None) g.out) port (omega arith) (omega arith)
    (ap (λ o. is_for o g.out) (sole_here port (Some g) (omega arith)) ∙ eq-eqb g.out g.out refl)
    (λ p there. elim (cases_eq p port) [
      | inl here ↦ here
      | inr other ↦ absurd (true≢false (sym there ∙ ap (λ o. is_for o g.out) (sole_elsewhere port p (Some g) other)))
    ])

-- and the sole request is granted
pub sole_granted : (s next : SwAllocState) (port : ℕ) (g : SwGrant) (grants grants' : List (Option SwGrant))
    → IsSwAlloc s.ports s.vcs s.inputs s.outputs → s.ports ≤ length s.inputs → s.ports ≤ length s.outputs
    → port < s.ports → g.out < s.ports
    → grants ≡ replicate 7 None → grants' ≡ slice_set grants port (Some g)
    → next ≡ record s {
      inputs = slice_set s.inputs port
          (after_pick (slice_index_or s.inputs port no_arbiter) (Some g.vc));
      outputs = slice_set s.outputs g.out (after_pick (slice_index_or s.outputs g.out no_arbiter) (Some port));
    }
    → ChosenBelow s (sole_named port (Some g)) s.ports next grants'
sole_granted s next port g grants grants' r long long' within out_in e given moved =
    let few = r.few_ports in
    let requests : List (Option SwGrant) = sole_named port (Some g) in
    let choice : chosen s requests g.out ≡ Some port =
    sole_chosen s port g r within out_in in
    let here : slice_index_or requests port None ≡ Some g = sole_here port (Some g) (omega arith) in
    let away : (out p : ℕ) → (g.out ≡ out → ⊥)
    → is_for (slice_index_or requests p None) out ≡ false =
    λ out p other. quiet port p out (Some g) (omega arith) (ne_eqb g.out out other) in
    let before = quiet_on s requests 0 g.out s grants r long' (omega arith) (omega arith)
    (λ out p _ l. away out p (λ same. omega arith)) (chosen_none s requests grants few long e) in
    let granted_is : grants' ≡ with_choice grants requests (chosen s requests g.out) =
    given ∙ ap (slice_set grants port) (sym here) ∙ ap (with_choice grants requests) (sym choice) in
    let moved_is : next ≡ record s {
      inputs = with_move s.inputs requests (chosen s requests g.out);
      outputs = slice_set s.outputs g.out (output_after s requests g.out);
    } =
    moved
    ∙ ap (λ o. record s {
      inputs = slice_set s.inputs port
          (after_pick (slice_index_or s.inputs port no_arbiter) (channel_of o));
      outputs = slice_set s.outputs g.out (after_pick (slice_index_or s.outputs g.out no_arbiter) (Some port));
    })
    (sym here)
    ∙ ap (λ w. record s {
      inputs = with_move s.inputs requests w;
      outputs = slice_set s.outputs g.out (after_pick (slice_index_or s.outputs g.out no_arbiter) w);
    })
    (sym choice) in
    let after = chosen_more s requests g.out s next grants grants' before few long (omega arith)
    (r.output_width g.out (omega arith)) (r.output_pointer g.out (omega arith)) granted_is moved_is in
    quiet_on s requests (g.out + 1) s.ports next grants' r long' (omega arith) (omega arith)
    (λ out p l _. away out p (λ same. omega arith)) after
