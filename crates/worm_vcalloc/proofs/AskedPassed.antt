-- Lemmas on a pass that goes to the output ports that are asked for, and past all others.
use Rattle.std.proofs.Common.{◌≡◌, ℕ, ◌+◌, ◌<◌, ◌≤◌, Bool, true, false, List, zero, suc, fold, cond}
use Rattle.std.proofs.Common.{Option, None, refl, sym, ap, ◌∙◌, subst, arith, inl, inr}
use Rattle.std.specs.List.{range_with_len}
use Rattle.std.proofs.lemmas.Bool.{cases_eq, cases_lt, cases_Bool, eq-eqb, true≢false}
use Rattle.worm_flit.specs.SmallSet as small
use Rattle.worm_flit.proofs.SmallSets.{has_none}
use Rattle.worm_vcalloc.specs.declared.request.VcRequest.{VcRequest}
use Rattle.worm_vcalloc.specs.declared.asked.Asked.{Asked}
use Rattle.worm_vcalloc.specs.Asked.{IsFiled}
use Rattle.worm_vcalloc.specs.Table.{cell}
use Rattle.worm_vcalloc.specs.VcAlloc.{VcPass, vc_winner, offered, vc_step, port_pass, vc_pass}
use Rattle.worm_vcalloc.specs.VcRequest.{is_for}
use Rattle.worm_vcalloc.proofs.ArbitersStay.{IsVcAlloc, IsVcAlloc-picked}
use Rattle.worm_vcalloc.proofs.PassAgrees.{Reached, port_passed, port_pass_unasked, fold-range_next}
use Rattle.worm_vcalloc.proofs.RequestersHeard.{heard_for}

-- ---- an allocator stays one

IsVcAlloc-offered : (waiting : List (List (Option VcRequest))) (pass : VcPass) (ports vcs out channel : ℕ)
    → IsVcAlloc ports vcs pass.alloc.arbiters → out < ports → channel < vcs
    → IsVcAlloc ports vcs (offered waiting pass out channel).alloc.arbiters
unfolding offered
IsVcAlloc-offered waiting pass ports vcs out channel r lo lc =
    IsVcAlloc-picked ports vcs pass.alloc.arbiters out channel _ _ (vc_winner waiting pass out channel) r lo lc
    refl refl

IsVcAlloc-steps : (waiting : List (List (Option VcRequest))) (free : List (List Bool)) (pass : VcPass)
    (ports vcs out n : ℕ) → IsVcAlloc ports vcs pass.alloc.arbiters → out < ports → n ≤ vcs
    → IsVcAlloc ports vcs (fold (vc_step waiting free out) pass (range_with_len 0 n)).alloc.arbiters
IsVcAlloc-steps waiting free pass ports vcs out zero r lo ln = r
IsVcAlloc-steps waiting free pass ports vcs out (suc n) r lo ln =
    let before : VcPass = fold (vc_step waiting free out) pass (range_with_len 0 n) in
    let still = IsVcAlloc-steps waiting free pass ports vcs out n r lo (omega arith) in
    subst (λ (p : VcPass). IsVcAlloc ports vcs p.alloc.arbiters)
    (sym (fold-range_next (vc_step waiting free out) pass n))
    (elim (cases_Bool (cell free out n false)) [
      | inl is_free ↦
          subst (λ b. IsVcAlloc ports vcs (cond b (offered waiting before out n) before).alloc.arbiters)
          (sym is_free) (IsVcAlloc-offered waiting before ports vcs out n still lo ln)
      | inr is_held ↦
          subst (λ b. IsVcAlloc ports vcs (cond b (offered waiting before out n) before).alloc.arbiters)
          (sym is_held) still
    ])

IsVcAlloc-port_pass : (waiting : List (List (Option VcRequest))) (free : List (List Bool)) (pass : VcPass) (out : ℕ)
    → IsVcAlloc pass.alloc.ports pass.alloc.vcs pass.alloc.arbiters → out < pass.alloc.ports
    → IsVcAlloc pass.alloc.ports pass.alloc.vcs (port_pass waiting free pass out).alloc.arbiters
unfolding port_pass
IsVcAlloc-port_pass waiting free pass out r lo =
    IsVcAlloc-steps waiting free pass pass.alloc.ports pass.alloc.vcs out pass.alloc.vcs r lo (omega arith)

-- ---- the loop over the output ports that are asked for

-- the pass has come past the output ports below `next`, and those from there on that are asked for are in the set
pub record IsPassed (waiting : List (List (Option VcRequest))) (free : List (List Bool)) (start here : VcPass)
    (left : ℕ) : Type 0 where
  pub next : ℕ
  pub few : next ≤ start.alloc.ports
  pub reached : Reached start.alloc here (fold (port_pass waiting free) start (range_with_len 0 next))
  pub ready : IsVcAlloc here.alloc.ports here.alloc.vcs here.alloc.arbiters
  pub gone : (out : ℕ) → out < next → small.has left out ≡ false
  pub kept : (out p v : ℕ) → next ≤ out → out < start.alloc.ports → p < start.alloc.ports → v < start.alloc.vcs
      → is_for (cell waiting p v None) out ≡ true → small.has left out ≡ true
  pub within : (out : ℕ) → out < 8 → small.has left out ≡ true → out < start.alloc.ports

pub passed_start : (waiting : List (List (Option VcRequest))) (free : List (List Bool)) (start : VcPass)
    (files : Asked) → IsVcAlloc start.alloc.ports start.alloc.vcs start.alloc.arbiters
    → IsFiled waiting start.alloc.ports start.alloc.vcs files → IsPassed waiting free start start files.ports
passed_start waiting free start files r filed = record {
  next = 0;
  few = omega arith;
  reached = record { is = refl; ports = refl; vcs = refl };
  ready = r;
  gone = λ out below. absurd (omega arith);
  kept = λ out p v _ lo lp lv asks.
      let few = r.few_ports in
      let few' = r.few_channels in
      filed.asked out p v (omega arith) (omega arith) (omega arith)
      (heard_for waiting start.alloc.ports start.alloc.vcs p v out lp lv lo asks);
  within = filed.within;
}

-- output ports that nobody asks for are passed over
over_unasked : (waiting : List (List (Option VcRequest))) (free : List (List Bool)) (start here : VcPass) (from to : ℕ)
    → IsVcAlloc here.alloc.ports here.alloc.vcs here.alloc.arbiters → from ≤ to → to ≤ here.alloc.ports
    → ((out p v : ℕ) → from ≤ out → out < to → p < here.alloc.ports → v < here.alloc.vcs
    → is_for (cell waiting p v None) out ≡ false)
    → here ≡ fold (port_pass waiting free) start (range_with_len 0 from)
    → here ≡ fold (port_pass waiting free) start (range_with_len 0 to)
over_unasked waiting free start here from zero r ahead few none is =
    let none_before : from ≡ 0 = omega arith in
    is ∙ ap (λ k. fold (port_pass waiting free) start (range_with_len 0 k)) none_before
over_unasked waiting free start here from (suc n) r ahead few none is = elim (cases_eq from (suc n)) [
  | inl same ↦ is ∙ ap (λ k. fold (port_pass waiting free) start (range_with_len 0 k)) same
  | inr other ↦
      let before = over_unasked waiting free start here from n r (omega arith) (omega arith)
      (λ out p v l below. none out p v l (omega arith)) is in
      sym (port_pass_unasked waiting free here n r (omega arith) (λ p v. none n p v (omega arith) (omega arith)))
      ∙ ap (λ p. port_pass waiting free p n) before ∙ sym (fold-range_next (port_pass waiting free) start n)
]

-- the pass as it comes to an output port, past those that are not in the set
passed_to : (waiting : List (List (Option VcRequest))) (free : List (List Bool)) (start here : VcPass)
    (left to : ℕ) (b : IsPassed waiting free start here left) → b.next ≤ to → to ≤ start.alloc.ports
    → ((out : ℕ) → b.next ≤ out → out < to → small.has left out ≡ false)
    → Reached start.alloc here (fold (port_pass waiting free) start (range_with_len 0 to))
passed_to waiting free start here left to b ahead few off = record {
  is =
      over_unasked waiting free start here b.next to b.ready ahead (omega (arith, b.reached.ports))
      (λ out p v from below lp lv. elim (cases_Bool (is_for (cell waiting p v None) out)) [
        | inl asks ↦ absurd (true≢false (sym (b.kept out p v from (omega arith) (omega (arith, b.reached.ports))
            (omega (arith, b.reached.vcs)) asks) ∙ off out from below))
        | inr quiet ↦ quiet
      ])
      b.reached.is;
  ports = b.reached.ports;
  vcs = b.reached.vcs;
}

-- the next output port that is asked for
pub passed_more : (waiting : List (List (Option VcRequest))) (free : List (List Bool)) (start here there : VcPass)
    (left left' out : ℕ) → IsPassed waiting free start here left → small.IsFirst left left' out
    → out < start.alloc.ports → there ≡ port_pass waiting free here out → there.alloc.ports ≡ here.alloc.ports
    → there.alloc.vcs ≡ here.alloc.vcs → IsPassed waiting free start there left'
passed_more waiting free start here there left left' out b f lo is same_ports same_channels = record {
  next = out + 1;
  few = omega arith;
  reached = port_passed waiting free start.alloc start here there out
      (passed_to waiting free start here left out b ahead (omega arith) (λ k _ below. f.none_before k below))
      is same_ports same_channels;
  ready =
      rw (same_ports, same_channels)
      (subst (λ (p : VcPass). IsVcAlloc here.alloc.ports here.alloc.vcs p.alloc.arbiters) (sym is)
      (IsVcAlloc-port_pass waiting free here out b.ready (omega (arith, b.reached.ports))));
  gone = λ k below. elim (cases_eq k out) [
    | inl same ↦ ap (small.has left') same ∙ f.taken.here
    | inr other ↦ f.taken.elsewhere k (omega (arith, f.in_range)) other ∙ f.none_before k (omega arith)
  ];
  kept = λ k p v from within lp lv asks.
      f.taken.elsewhere k (let few = b.ready.few_ports in omega (arith, b.reached.ports)) (λ e. absurd (omega arith))
      ∙ b.kept k p v (omega (arith, ahead)) within lp lv asks;
  within = λ k k_in e. elim (cases_eq k out) [
    | inl same ↦ absurd (true≢false (sym e ∙ ap (small.has left') same ∙ f.taken.here))
    | inr other ↦ b.within k k_in (sym (f.taken.elsewhere k k_in other) ∙ e)
  ];
} where
  ahead : b.next ≤ out
  ahead = elim (cases_lt out b.next) [
    | inl below ↦ absurd (true≢false (sym f.was_in ∙ b.gone out below))
    | inr above ↦ above
  ]

-- the whole pass
pub passed_all : (waiting : List (List (Option VcRequest))) (free : List (List Bool)) (start here : VcPass)
    (left : ℕ) → IsPassed waiting free start here left → left ≡ 0 → here ≡ vc_pass waiting free start
unfolding vc_pass
passed_all waiting free start here left b e =
    let whole = passed_to waiting free start here left start.alloc.ports b b.few (omega arith)
    (λ out _ _. has_none left out (eq-eqb left 0 e)) in whole.is
