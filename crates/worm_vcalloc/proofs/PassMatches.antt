-- The grants of a pass are a matching.
use Rattle.std.proofs.Common.{◌≡◌, ℕ, ◌+◌, ◌*◌, ◌/◌, ◌%◌, ◌<◌, ◌≤◌, Bool, true, false, List, zero, suc, fold, cond}
use Rattle.std.proofs.Common.{Option, Some, None, is_none, IsTrue, refl, sym, ap, ◌∙◌, subst, arith, inl, inr, ◌⊎◌}
use Rattle.std.proofs.Common.{replicate}
use Rattle.std.specs.List.{range_with_len}
use Rattle.std.proofs.lemmas.Bool.{cases_eq, cases_Bool, eqb-true, and_parts, and_from, true≢false}
use Rattle.std.proofs.lemmas.Nat.{div-mul-add, mod-mul-add}
use Rattle.worm_vcalloc.specs.declared.request.VcRequest.{VcRequest}
use Rattle.worm_vcalloc.specs.Arbiter.{ArbiterState, no_arbiter}
use Rattle.worm_vcalloc.specs.Table.{cell, with_cell, IsTable}
use Rattle.worm_vcalloc.specs.VcRequest.{may_use, is_for}
use Rattle.worm_vcalloc.specs.VcAlloc.{VcAllocState, VcPass, HasWon, IsChannelMatching, with_grant}
use Rattle.worm_vcalloc.specs.VcAlloc.{is_requester, vc_winner, offered, vc_step, port_pass, vc_pass}
use Rattle.worm_vcalloc.proofs.TableCells.{IsTable-replicate, IsTable-with_cell, cell-with_cell_same}
use Rattle.worm_vcalloc.proofs.TableCells.{cell-with_cell_other, cell-with_cell_keeps, cell-replicate}
use Rattle.worm_vcalloc.proofs.Winner.{winner_requests, winner_none_requests}
use Rattle.worm_vcalloc.proofs.Lines.{at_line, line_within, line_port}
use Rattle.worm_vcalloc.proofs.ArbitersStay.{IsVcAlloc, HasWidth, HasWidth-after_pick}
use Rattle.worm_vcalloc.proofs.PassAgrees.{fold-range_next}

-- ---- one step

-- a request names one output port
pub may_use_out : (r : Option VcRequest) (out channel out' channel' : ℕ) → may_use r out channel ≡ true
    → may_use r out' channel' ≡ true → out ≡ out'
may_use_out r out channel out' channel' a b = one r (and_parts _ _ a).0 (and_parts _ _ b).0 where
  one : (r : Option VcRequest) → is_for r out ≡ true → is_for r out' ≡ true → out ≡ out'
  one None e e' = absurd (cc)
  one (Some r) e e' = sym (eqb-true r.out out e) ∙ eqb-true r.out out' e'

-- a pass that has come to the output channel that is number n
pub record IsMatchingBelow (ports vcs : ℕ) (waiting : List (List (Option VcRequest))) (free : List (List Bool))
    (n : ℕ) (pass : VcPass) : Type 0 where
  pub ports_stay : pass.alloc.ports ≡ ports
  pub channels_stay : pass.alloc.vcs ≡ vcs
  pub ready : (i j : ℕ) → i < ports → j < vcs
      → HasWidth (ports * vcs) (cell pass.alloc.arbiters i j no_arbiter)
  pub table : IsTable pass.grants
  pub requested : (port vc channel : ℕ) → cell pass.grants port vc None ≡ Some channel
      → (out : ℕ) × HasWon waiting pass.grants port vc out channel × IsTrue (cell free out channel false)
      × (port < ports) × (vc < vcs) × (out < ports) × (channel < vcs) × (out * vcs + channel < n)
  pub once : (port vc port' vc' out channel : ℕ) → HasWon waiting pass.grants port vc out channel
      → HasWon waiting pass.grants port' vc' out channel → (port ≡ port') × (vc ≡ vc')
  pub complete : (out channel port vc : ℕ) → channel < vcs → out * vcs + channel < n → port < ports
      → vc < vcs
      → IsTrue (cell free out channel false) → IsTrue (may_use (cell waiting port vc None) out channel)
      → cell pass.grants port vc None ≡ None
      → (port' : ℕ) × (vc' : ℕ) × HasWon waiting pass.grants port' vc' out channel

-- the number of an output channel tells its port and channel
same_number : (vcs out channel out' channel' : ℕ) → channel < vcs → channel' < vcs
    → out * vcs + channel ≡ out' * vcs + channel' → (out ≡ out') × (channel ≡ channel')
same_number vcs out channel out' channel' l l' e = (
  sym (div-mul-add out vcs channel l) ∙ ap (λ n. n / vcs) e ∙ div-mul-add out' vcs channel' l',
  sym (mod-mul-add out vcs channel l) ∙ ap (λ n. n % vcs) e ∙ mod-mul-add out' vcs channel' l',
)

-- the step at a channel that is not free, or that nobody asks for, adds no grant
nobody_wins : (ports vcs : ℕ) (waiting : List (List (Option VcRequest))) (free : List (List Bool))
    (pass pass' : VcPass) (out channel : ℕ)
    → IsMatchingBelow ports vcs waiting free (out * vcs + channel) pass
    → channel < vcs
    → pass'.grants ≡ pass.grants
    → pass'.alloc.ports ≡ ports → pass'.alloc.vcs ≡ vcs
    → ((i j : ℕ) → i < ports → j < vcs → HasWidth (ports * vcs) (cell pass'.alloc.arbiters i j no_arbiter))
    → ((port vc : ℕ) → port < ports → vc < vcs → IsTrue (cell free out channel false)
    → IsTrue (may_use (cell waiting port vc None) out channel) → cell pass.grants port vc None ≡ None → ⊥)
    → IsMatchingBelow ports vcs waiting free (out * vcs + channel + 1) pass'
nobody_wins ports vcs waiting free pass pass' out channel m lc same ps cs ready nobody = record {
  ports_stay = ps;
  channels_stay = cs;
  ready = ready;
  table = subst IsTable (sym same) m.table;
  requested = λ port vc c g.
      let r = m.requested port vc c (ap (λ t. cell t port vc None) (sym same) ∙ g) in
      (r.0, record { requested = r.1.requested; granted = g }, r.2, r.3, r.4, r.5, r.6, omega arith);
  once = λ p v p' v' o c w w'. m.once p v p' v' o c (before o c p v w) (before o c p' v' w');
  complete = λ o c p v lc' below lp lv f u none.
      elim (cases_eq (o * vcs + c) (out * vcs + channel)) [
        | inl here ↦
            let e = same_number vcs o c out channel lc' lc here in
            let f' : IsTrue (cell free out channel false) =
            ap (λ k. cell free k channel false) (sym e.0) ∙ ap (λ k. cell free o k false) (sym e.1) ∙ f in
            let u' : IsTrue (may_use (cell waiting p v None) out channel) =
            ap (λ k. may_use (cell waiting p v None) k channel) (sym e.0)
            ∙ ap (λ k. may_use (cell waiting p v None) o k) (sym e.1) ∙ u in
            absurd (nobody p v lp lv f' u' (ap (λ t. cell t p v None) (sym same) ∙ none))
        | inr other ↦
            let w = m.complete o c p v lc' (omega arith) lp lv f u (ap (λ t. cell t p v None) (sym same) ∙ none) in
            (w.0, w.1, record { requested = w.2.requested; granted = ap (λ t. cell t w.0 w.1 None) same ∙ w.2.granted })
      ];
} where
  before : (o c p v : ℕ) → HasWon waiting pass'.grants p v o c → HasWon waiting pass.grants p v o c
  before o c p v w = record { requested = w.requested; granted = ap (λ t. cell t p v None) (sym same) ∙ w.granted }

-- the step at a channel whose winner is the input channel (port, vc)
somebody_wins : (ports vcs : ℕ) (waiting : List (List (Option VcRequest))) (free : List (List Bool))
    (pass pass' : VcPass) (out channel port vc : ℕ)
    → IsMatchingBelow ports vcs waiting free (out * vcs + channel) pass
    → ports ≤ 7 → vcs ≤ 8 → out < ports → channel < vcs → port < ports → vc < vcs
    → pass'.grants ≡ with_cell pass.grants port vc (Some channel)
    → pass'.alloc.ports ≡ ports → pass'.alloc.vcs ≡ vcs
    → ((i j : ℕ) → i < ports → j < vcs → HasWidth (ports * vcs) (cell pass'.alloc.arbiters i j no_arbiter))
    → IsTrue (cell free out channel false) → IsTrue (may_use (cell waiting port vc None) out channel)
    → cell pass.grants port vc None ≡ None
    → IsMatchingBelow ports vcs waiting free (out * vcs + channel + 1) pass'
somebody_wins ports vcs waiting free pass pass' out channel port vc m few_ports few_channels lo lc lp lv is ps cs
    ready is_free asked ungranted = record {
      ports_stay = ps;
      channels_stay = cs;
      ready = ready;
      table = subst IsTable (sym is) (IsTable-with_cell pass.grants port vc (Some channel) m.table);
      requested = λ p v c g. elim (place p v) [
        | inl here ↦
            let same : Some c ≡ Some channel = sym g ∙ at_place p v here in
            let e : c ≡ channel = cc in (
              out,
              record {
                requested = ap (λ k. may_use (cell waiting k v None) out c) here.0
                    ∙ ap (λ k. may_use (cell waiting port k None) out c) here.1
                    ∙ ap (λ k. may_use (cell waiting port vc None) out k) e ∙ asked;
                granted = g;
              },
              ap (λ k. cell free out k false) e ∙ is_free,
              omega (arith, here.0),
              omega (arith, here.1),
              lo,
              omega arith,
              let b : out * vcs + c ≡ out * vcs + channel = ap (λ k. out * vcs + k) e in omega arith,
            )
        | inr apart ↦
            let r = m.requested p v c (sym (elsewhere p v apart) ∙ g) in
            (r.0, record { requested = r.1.requested; granted = g }, r.2, r.3, r.4, r.5, r.6, omega arith)
      ];
      once = λ p v p' v' o c w w'. elim (place p v) [
        | inl here ↦ elim (place p' v') [
          | inl here' ↦ (here.0 ∙ sym here'.0, here.1 ∙ sym here'.1)
          | inr apart' ↦ absurd (not_twice p v p' v' o c here apart' w w')
        ]
        | inr apart ↦ elim (place p' v') [
          | inl here' ↦ absurd (not_twice p' v' p v o c here' apart w' w)
          | inr apart' ↦ m.once p v p' v' o c (record {
            requested = w.requested;
            granted = sym (elsewhere p v apart) ∙ w.granted;
          })
              (record { requested = w'.requested; granted = sym (elsewhere p' v' apart') ∙ w'.granted })
        ]
      ];
      complete = λ o c p v lc' below lp' lv' f u none.
          elim (cases_eq (o * vcs + c) (out * vcs + channel)) [
            | inl here ↦
                let e = same_number vcs o c out channel lc' lc here in (
                  port,
                  vc,
                  record {
                    requested = ap (λ k. may_use (cell waiting port vc None) k c) e.0
                        ∙ ap (λ k. may_use (cell waiting port vc None) out k) e.1 ∙ asked;
                    granted = at_place port vc (refl, refl) ∙ ap Some (sym e.1);
                  },
                )
            | inr other ↦ elim (place p v) [
              | inl here ↦ let no : Some channel ≡ None = sym (at_place p v here) ∙ none in absurd (cc)
              | inr apart ↦
                  let w = m.complete o c p v lc' (omega arith) lp' lv' f u (sym (elsewhere p v apart) ∙ none) in
                  elim (place w.0 w.1) [
                    | inl here ↦ let no : Some c ≡ None =
                        sym w.2.granted ∙ ap (λ k. cell pass.grants k w.1 None) here.0
                        ∙ ap (λ k. cell pass.grants port k None) here.1 ∙ ungranted in absurd (cc)
                    | inr apart' ↦ (
                      w.0,
                      w.1,
                      record {
                        requested = w.2.requested;
                        granted = elsewhere w.0 w.1 apart' ∙ w.2.granted;
                      },
                    )
                  ]
            ]
          ];
    } where
      place : (p v : ℕ) → ((p ≡ port) × (v ≡ vc)) ⊎ ((p ≡ port) → (v ≡ vc) → ⊥)
      place p v = elim (cases_eq p port) [
        | inl a ↦ elim (cases_eq v vc) [ inl b ↦ inl (a, b) | inr b ↦ inr (λ _ e. b e) ]
        | inr a ↦ inr (λ e _. a e)
      ]

      at_place : (p v : ℕ) → (p ≡ port) × (v ≡ vc) → cell pass'.grants p v None ≡ Some channel
      at_place p v here =
          ap (λ t. cell t p v None) is ∙ ap (λ k. cell (with_cell pass.grants port vc (Some channel)) k v None) here.0
          ∙ ap (λ k. cell (with_cell pass.grants port vc (Some channel)) port k None) here.1
          ∙ cell-with_cell_same pass.grants port vc (Some channel) None m.table (omega arith) (omega arith)

      elsewhere : (p v : ℕ) → ((p ≡ port) → (v ≡ vc) → ⊥) → cell pass'.grants p v None ≡ cell pass.grants p v None
      elsewhere p v apart = ap (λ t. cell t p v None) is
          ∙ cell-with_cell_other pass.grants port vc p v (Some channel) None apart

      not_twice : (p v p' v' o c : ℕ) → (p ≡ port) × (v ≡ vc) → ((p' ≡ port) → (v' ≡ vc) → ⊥)
          → HasWon waiting pass'.grants p v o c → HasWon waiting pass'.grants p' v' o c → ⊥
      not_twice p v p' v' o c here apart' w w' =
          let same : Some c ≡ Some channel = sym w.granted ∙ at_place p v here in
          let ec : c ≡ channel = cc in
          let eo : o ≡ out = may_use_out (cell waiting port vc None) o c out channel
          (sym (ap (λ k. may_use (cell waiting k v None) o c) here.0
          ∙ ap (λ k. may_use (cell waiting port k None) o c) here.1) ∙ w.requested) asked in
          let r = m.requested p' v' c (sym (elsewhere p' v' apart') ∙ w'.granted) in
          let eo' : r.0 ≡ o = may_use_out (cell waiting p' v' None) r.0 c o c r.1.requested w'.requested in
          let number : r.0 * vcs + c ≡ out * vcs + channel =
          ap (λ k. k * vcs + c) (eo' ∙ eo) ∙ ap (λ k. out * vcs + k) ec in
          omega (arith, r.7)

none_from_is_none : (o : Option ℕ) → is_none o ≡ true → o ≡ None
none_from_is_none None e = refl
none_from_is_none (Some x) e = absurd (cc)

-- what a pass keeps of its arbiters where a free output channel is offered
record OfferKeeps (ports vcs : ℕ) (waiting : List (List (Option VcRequest))) (pass : VcPass)
    (out channel : ℕ) : Type 0 where
  keeps_ports : (offered waiting pass out channel).alloc.ports ≡ ports
  keeps_channels : (offered waiting pass out channel).alloc.vcs ≡ vcs
  keeps_ready : (i j : ℕ) → i < ports → j < vcs
      → HasWidth (ports * vcs) (cell (offered waiting pass out channel).alloc.arbiters i j no_arbiter)

offer_keeps : (ports vcs : ℕ) (waiting : List (List (Option VcRequest))) (free : List (List Bool)) (pass : VcPass)
    (out channel : ℕ)
    → IsMatchingBelow ports vcs waiting free (out * vcs + channel) pass
    → ports ≤ 7 → vcs ≤ 8 → out < ports → channel < vcs
    → OfferKeeps ports vcs waiting pass out channel
unfolding offered
offer_keeps ports vcs waiting free pass out channel m few_ports few_channels lo lc = record {
  keeps_ports = m.ports_stay;
  keeps_channels = m.channels_stay;
  keeps_ready = λ i j li lj.
      cell-with_cell_keeps (HasWidth (ports * vcs)) pass.alloc.arbiters out channel i j _ no_arbiter
      (HasWidth-after_pick (ports * vcs) (cell pass.alloc.arbiters out channel no_arbiter)
      (vc_winner waiting pass out channel) (m.ready out channel lo lc))
      (m.ready i j li lj);
}

-- the grants that an offer leaves, by its winner
offered_grants : (waiting : List (List (Option VcRequest))) (pass : VcPass) (out channel : ℕ) (line : Option ℕ)
    → vc_winner waiting pass out channel ≡ line
    → (offered waiting pass out channel).grants ≡ with_grant pass.alloc.vcs pass.grants channel line
unfolding offered
offered_grants waiting pass out channel line e = ap (with_grant pass.alloc.vcs pass.grants channel) e

-- a free output channel is offered
matching_offered : (ports vcs : ℕ) (waiting : List (List (Option VcRequest))) (free : List (List Bool))
    (pass : VcPass) (out channel : ℕ)
    → IsMatchingBelow ports vcs waiting free (out * vcs + channel) pass
    → ports ≤ 7 → vcs ≤ 8 → out < ports → channel < vcs
    → IsTrue (cell free out channel false)
    → (line : Option ℕ) → vc_winner waiting pass out channel ≡ line
    → IsMatchingBelow ports vcs waiting free (out * vcs + channel + 1) (offered waiting pass out channel)
matching_offered ports vcs waiting free pass out channel m few_ports few_channels lo lc is_free None e =
    let k = offer_keeps ports vcs waiting free pass out channel m few_ports few_channels lo lc in
    let a : ArbiterState = cell pass.alloc.arbiters out channel no_arbiter in
    let h = m.ready out channel lo lc in
    let wide : a.width ≡ ports * vcs = h.wide in
    let low : a.pointer < ports * vcs = h.within in
    let stay : pass.alloc.vcs ≡ vcs = m.channels_stay in
    nobody_wins ports vcs waiting free pass (offered waiting pass out channel) out channel m lc
    (offered_grants waiting pass out channel None e) k.keeps_ports k.keeps_channels k.keeps_ready
    (λ p v lp lv f u none.
    let number : p * pass.alloc.vcs + v ≡ p * vcs + v = ap (λ n. p * n + v) stay in
    let in_lines = line_within ports vcs p v lp lv in
    let asked = winner_none_requests a (λ line. is_requester waiting pass.grants out channel
    (line / pass.alloc.vcs) (line % pass.alloc.vcs)) (omega arith) e (p * pass.alloc.vcs + v)
    (omega arith) in
    let here = at_line (is_requester waiting pass.grants out channel) p pass.alloc.vcs v (omega arith) in
    true≢false (sym (and_from _ _ u (ap is_none none)) ∙ sym here ∙ asked))
matching_offered ports vcs waiting free pass out channel m few_ports few_channels lo lc is_free (Some line) e =
    let k = offer_keeps ports vcs waiting free pass out channel m few_ports few_channels lo lc in
    let a : ArbiterState = cell pass.alloc.arbiters out channel no_arbiter in
    let h = m.ready out channel lo lc in
    let wide : a.width ≡ ports * vcs = h.wide in
    let low : a.pointer < ports * vcs = h.within in
    let stay : pass.alloc.vcs ≡ vcs = m.channels_stay in
    let lines : ports * pass.alloc.vcs ≡ ports * vcs = ap (λ n. ports * n) stay in
    let won = winner_requests a (λ line. is_requester waiting pass.grants out channel (line / pass.alloc.vcs)
    (line % pass.alloc.vcs)) line (omega arith) e in
    let place = line_port ports pass.alloc.vcs line (omega arith) (omega (arith, won.0)) in
    let parts = and_parts _ _ won.1 in
    somebody_wins ports vcs waiting free pass (offered waiting pass out channel) out channel
    (line / pass.alloc.vcs) (line % pass.alloc.vcs) m few_ports few_channels lo lc
    place.0 (omega (arith, place.1))
    (offered_grants waiting pass out channel (Some line) e) k.keeps_ports k.keeps_channels k.keeps_ready
    is_free parts.0 (none_from_is_none _ parts.1)

-- ---- the whole pass

matching_step : (ports vcs : ℕ) (waiting : List (List (Option VcRequest))) (free : List (List Bool))
    (pass : VcPass) (out channel : ℕ)
    → IsMatchingBelow ports vcs waiting free (out * vcs + channel) pass
    → ports ≤ 7 → vcs ≤ 8 → out < ports → channel < vcs
    → IsMatchingBelow ports vcs waiting free (out * vcs + channel + 1) (vc_step waiting free out pass channel)
matching_step ports vcs waiting free pass out channel m few_ports few_channels lo lc =
    elim (cases_Bool (cell free out channel false)) [
      | inl is_free ↦
          let step : vc_step waiting free out pass channel ≡ offered waiting pass out channel =
          ap (λ b. cond b (offered waiting pass out channel) pass) is_free in
          subst (IsMatchingBelow ports vcs waiting free (out * vcs + channel + 1)) (sym step)
          (matching_offered ports vcs waiting free pass out channel m few_ports few_channels lo lc is_free
          (vc_winner waiting pass out channel) refl)
      | inr is_held ↦
          let step : vc_step waiting free out pass channel ≡ pass =
          ap (λ b. cond b (offered waiting pass out channel) pass) is_held in
          subst (IsMatchingBelow ports vcs waiting free (out * vcs + channel + 1)) (sym step)
          (nobody_wins ports vcs waiting free pass pass out channel m lc refl m.ports_stay m.channels_stay m.ready
          (λ p v lp lv f u none. true≢false (sym f ∙ is_held)))
    ]

-- the first channels of one port
matching_channels : (ports vcs : ℕ) (waiting : List (List (Option VcRequest))) (free : List (List Bool))
    (pass : VcPass) (out n : ℕ)
    → IsMatchingBelow ports vcs waiting free (out * vcs) pass
    → ports ≤ 7 → vcs ≤ 8 → out < ports → n ≤ vcs
    → IsMatchingBelow ports vcs waiting free (out * vcs + n)
    (fold (vc_step waiting free out) pass (range_with_len 0 n))
matching_channels ports vcs waiting free pass out zero m few_ports few_channels lo ln =
    let e : out * vcs + 0 ≡ out * vcs = omega arith in
    subst (λ k. IsMatchingBelow ports vcs waiting free k pass) (sym e) m
matching_channels ports vcs waiting free pass out (suc n) m few_ports few_channels lo ln =
    let r = matching_channels ports vcs waiting free pass out n m few_ports few_channels lo (omega arith) in
    let s = matching_step ports vcs waiting free
    (fold (vc_step waiting free out) pass (range_with_len 0 n)) out n r few_ports few_channels lo ln in
    let e : out * vcs + n + 1 ≡ out * vcs + suc n = omega arith in
    subst (IsMatchingBelow ports vcs waiting free (out * vcs + suc n))
    (sym (fold-range_next (vc_step waiting free out) pass n))
    (subst (λ k. IsMatchingBelow ports vcs waiting free k
    (vc_step waiting free out (fold (vc_step waiting free out) pass (range_with_len 0 n)) n)) e s)

matching_port : (ports vcs : ℕ) (waiting : List (List (Option VcRequest))) (free : List (List Bool))
    (pass : VcPass) (out : ℕ)
    → IsMatchingBelow ports vcs waiting free (out * vcs) pass
    → ports ≤ 7 → vcs ≤ 8 → out < ports
    → IsMatchingBelow ports vcs waiting free (suc out * vcs) (port_pass waiting free pass out)
unfolding port_pass
matching_port ports vcs waiting free pass out m few_ports few_channels lo =
    let stay : pass.alloc.vcs ≡ vcs = m.channels_stay in
    let r = matching_channels ports vcs waiting free pass out vcs m few_ports few_channels lo (omega arith) in
    let e : out * vcs + vcs ≡ suc out * vcs = omega arith in
    subst (λ n. IsMatchingBelow ports vcs waiting free (suc out * vcs)
    (fold (vc_step waiting free out) pass (range_with_len 0 n))) (sym stay)
    (subst (λ k. IsMatchingBelow ports vcs waiting free k
    (fold (vc_step waiting free out) pass (range_with_len 0 vcs))) e r)

-- the first ports
matching_ports : (ports vcs : ℕ) (waiting : List (List (Option VcRequest))) (free : List (List Bool))
    (pass : VcPass) (n : ℕ)
    → IsMatchingBelow ports vcs waiting free 0 pass
    → ports ≤ 7 → vcs ≤ 8 → n ≤ ports
    → IsMatchingBelow ports vcs waiting free (n * vcs)
    (fold (port_pass waiting free) pass (range_with_len 0 n))
matching_ports ports vcs waiting free pass zero m few_ports few_channels ln =
    let e : 0 * vcs ≡ 0 = omega arith in
    subst (λ k. IsMatchingBelow ports vcs waiting free k pass) (sym e) m
matching_ports ports vcs waiting free pass (suc n) m few_ports few_channels ln =
    let r = matching_ports ports vcs waiting free pass n m few_ports few_channels (omega arith) in
    subst (IsMatchingBelow ports vcs waiting free (suc n * vcs))
    (sym (fold-range_next (port_pass waiting free) pass n))
    (matching_port ports vcs waiting free
    (fold (port_pass waiting free) pass (range_with_len 0 n)) n r few_ports few_channels ln)

-- before a pass
matching_start : (waiting : List (List (Option VcRequest))) (free : List (List Bool)) (s : VcAllocState)
    → IsVcAlloc s.ports s.vcs s.arbiters
    → IsMatchingBelow s.ports s.vcs waiting free 0 (record { alloc = s; grants = replicate 7 (replicate 8 None) })
matching_start waiting free s ready = record {
  ports_stay = refl;
  channels_stay = refl;
  ready = λ i j li lj. let fp = ready.few_ports in let fc = ready.few_channels in
      record {
        wide = ready.width i j (omega arith) (omega arith);
        within = ready.pointer i j (omega arith) (omega arith);
      };
  table = IsTable-replicate None;
  requested = λ p v c g. let no : None ≡ Some c = sym (cell-replicate 7 8 p v None) ∙ g in absurd (cc);
  once = λ p v p' v' o c w w'. let no : None ≡ Some c = sym (cell-replicate 7 8 p v None) ∙ w.granted in absurd (cc);
  complete = λ o c p v lc below lp lv f u none. absurd (omega arith);
}

-- the grants of a whole pass are a matching
pub matching_pass : (waiting : List (List (Option VcRequest))) (free : List (List Bool)) (s : VcAllocState)
    → IsVcAlloc s.ports s.vcs s.arbiters
    → IsChannelMatching s.ports s.vcs waiting free
    (vc_pass waiting free (record { alloc = s; grants = replicate 7 (replicate 8 None) })).grants
unfolding vc_pass
matching_pass waiting free s ready =
    let m = matching_ports s.ports s.vcs waiting free
    (record { alloc = s; grants = replicate 7 (replicate 8 None) }) s.ports
    (matching_start waiting free s ready) ready.few_ports ready.few_channels (omega arith) in
    record {
      requested = λ p v c g. let r = m.requested p v c g in (r.0, r.1, r.2, r.3, r.4, r.5, r.6);
      once = m.once;
      complete = λ o c p v lo lc lp lv f u none. m.complete o c p v lc
          (line_within s.ports s.vcs o c lo lc) lp lv f u none;
    }

-- and so are grants that are those of a pass
pub matching_of : (waiting : List (List (Option VcRequest))) (free : List (List Bool)) (s new : VcAllocState)
    (grants : List (List (Option ℕ))) → IsVcAlloc s.ports s.vcs s.arbiters
    → record { alloc = new; grants = grants }
    ≡ vc_pass waiting free (record { alloc = s; grants = replicate 7 (replicate 8 None) })
    → IsChannelMatching s.ports s.vcs waiting free grants
matching_of waiting free s new grants ready e =
    subst (IsChannelMatching s.ports s.vcs waiting free) (sym (ap (λ (p : VcPass). p.grants) e))
    (matching_pass waiting free s ready)
