-- Lemmas on the requesters of an output channel, as a set of the input channels that the router hears ask for it.
use Rattle.std.proofs.Common.{◌≡◌, ℕ, ◌<◌, ◌≤◌, ◌&&◌, ◌||◌, Bool, true, false, not, List, Option, Some, None}
use Rattle.std.proofs.Common.{is_some, is_none, nat_lt, slice_index_or, if◌then◌else◌, refl, sym, ap, ◌∙◌, arith}
use Rattle.std.proofs.Common.{inl, inr}
use Rattle.std.proofs.lemmas.Bool.{cases_Bool, cases_lt, and_from, and_parts, lt-ltb, le-ltb, ltb-true, ne_eqb}
use Rattle.std.proofs.lemmas.Bool.{eqb-true, true≢false}
use Rattle.std.proofs.Math.Bool.{and-true}
use Rattle.worm_vcalloc.specs.declared.asked.Asked.{Asked}
use Rattle.worm_vcalloc.specs.declared.request.VcRequest.{VcRequest}
use Rattle.worm_vcalloc.specs.Asked.{IsFiled, heard, is_below, is_met_by}
use Rattle.worm_vcalloc.specs.ChannelSet.{has}
use Rattle.worm_vcalloc.specs.Table.{cell}
use Rattle.worm_vcalloc.specs.VcAlloc.{is_requester}
use Rattle.worm_vcalloc.specs.VcRequest.{may_use, is_for, allows}

-- ---- what a router hears, of its own channels

-- one of its input channels may use one of its output channels where it does as heard
pub heard_use : (requests : List (List (Option VcRequest))) (ports vcs p v out channel : ℕ) → p < ports
    → v < vcs → out < ports
    → may_use (heard requests ports vcs p v) out channel ≡ may_use (cell requests p v None) out channel
heard_use requests ports vcs p v out channel lp lv lo =
    by_test (nat_lt p ports && nat_lt v vcs) (cell requests p v None)
    (and_from (nat_lt p ports) (nat_lt v vcs) (lt-ltb p ports lp) (lt-ltb v vcs lv))
  where
    by_test : (b : Bool) (o : Option VcRequest) → b ≡ true
        → may_use (if b && is_below o ports then o else None) out channel ≡ may_use o out channel
    by_test false o e = absurd (cc)
    by_test true None e = refl
    by_test true (Some r) e = elim (cases_lt r.out ports) [
      | inl below ↦ ap (λ t. may_use (if t then Some r else None) out channel) (lt-ltb r.out ports below)
      | inr above ↦
          ap (λ t. may_use (if t then Some r else None) out channel) (le-ltb r.out ports above)
          ∙ sym (ap (λ t. t && allows (Some r) channel) (ne_eqb r.out out (λ same. absurd (omega arith))))
    ]

-- and asks for an output port where it does as heard
pub heard_for : (requests : List (List (Option VcRequest))) (ports vcs p v out : ℕ) → p < ports
    → v < vcs → out < ports → is_for (cell requests p v None) out ≡ true
    → is_for (heard requests ports vcs p v) out ≡ true
heard_for requests ports vcs p v out lp lv lo =
    by_test (nat_lt p ports && nat_lt v vcs) (cell requests p v None)
    (and_from (nat_lt p ports) (nat_lt v vcs) (lt-ltb p ports lp) (lt-ltb v vcs lv))
  where
    by_test : (b : Bool) (o : Option VcRequest) → b ≡ true → is_for o out ≡ true
        → is_for (if b && is_below o ports then o else None) out ≡ true
    by_test false o e asks = absurd (cc)
    by_test true None e asks = absurd (cc)
    by_test true (Some r) e asks =
        let same = eqb-true r.out out asks in
        ap (λ t. is_for (if t then Some r else None) out) (lt-ltb r.out ports (omega arith)) ∙ asks

-- it hears no other input channel
heard_within : (requests : List (List (Option VcRequest))) (ports vcs p v out : ℕ)
    → is_for (heard requests ports vcs p v) out ≡ true → (p < ports) × (v < vcs)
heard_within requests ports vcs p v out e =
    elim (cases_Bool (nat_lt p ports && nat_lt v vcs && is_below (cell requests p v None) ports)) [
      | inl all ↦ let place = and_parts _ _ (and_parts _ _ all).0 in (
        ltb-true p ports place.0,
        ltb-true v vcs place.1,
      )
      | inr some ↦ absurd (true≢false (sym e ∙ ap (λ t. is_for (if t then cell requests p v None else None) out) some))
    ]

-- ---- the requesters of one output channel

-- the set holds the requesters of an output channel, and none but input channels of the router
pub record AreAsking (waiting : List (List (Option VcRequest))) (grants : List (List (Option ℕ)))
    (ports vcs out channel asking : ℕ) : Type 0 where
  pub requesters : (p v : ℕ) → p < ports → v < vcs
      → has asking p v ≡ is_requester waiting grants out channel p v
  pub within : (p v : ℕ) → p < 7 → v < 8 → has asking p v ≡ true → (p < ports) × (v < vcs)

-- what both files say together, where the one by channels has it, is that the channel may be used
by_files : (o : Option VcRequest) (out channel vcs : ℕ) (filed : Bool) → channel < vcs
    → (1 < vcs → filed ≡ allows o channel)
    → (is_met_by o vcs out && (not (nat_lt 1 vcs) || filed)) ≡ may_use o out channel
by_files o out channel vcs filed lc says = elim (cases_lt 1 vcs) [
  | inl many ↦
      ap (λ t. (is_for o out && (t || allows o 0)) && (not t || filed)) (lt-ltb 1 vcs many)
      ∙ ap (λ t. t && filed) (and-true (is_for o out)) ∙ ap (λ t. is_for o out && t) (says many)
  | inr one ↦
      let first : channel ≡ 0 = omega arith in
      ap (λ t. (is_for o out && (t || allows o 0)) && (not t || filed)) (le-ltb 1 vcs one)
      ∙ and-true (is_for o out && allows o 0) ∙ ap (λ k. is_for o out && allows o k) (sym first)
]

none_is : (o : Option ℕ) → not (is_some o) ≡ is_none o
none_is None = refl
none_is (Some x) = refl

-- those that are filed for its port and its channel and have no grant are
pub are_asking : (waiting : List (List (Option VcRequest))) (grants : List (List (Option ℕ)))
    (ports vcs out channel filed granted asking : ℕ) (files : Asked) → ports ≤ 7 → vcs ≤ 8
    → out < ports → channel < vcs → IsFiled waiting ports vcs files
    → ((p v : ℕ) → has filed p v ≡ (has (slice_index_or files.by_port out 0) p v
    && (not (nat_lt 1 vcs) || has (slice_index_or files.by_channel channel 0) p v)))
    → ((p v : ℕ) → p < 7 → v < 8 → has granted p v ≡ is_some (cell grants p v None))
    → ((p v : ℕ) → p < 7 → v < 8 → has asking p v ≡ (has filed p v && not (has granted p v)))
    → AreAsking waiting grants ports vcs out channel asking
are_asking waiting grants ports vcs out channel filed granted asking files few few' lo lc f both have rest =
    record {
      requesters = λ p v lp lv.
          all p v (omega arith) (omega arith)
          ∙ ap (λ t. t && is_none (cell grants p v None)) (heard_use waiting ports vcs p v out channel lp lv lo);
      within = λ p v lp lv e.
          heard_within waiting ports vcs p v out
          (and_parts _ _ (and_parts _ _ (sym (all p v lp lv) ∙ e)).0).0;
    } where
      all : (p v : ℕ) → p < 7 → v < 8 → has asking p v
          ≡ (may_use (heard waiting ports vcs p v) out channel && is_none (cell grants p v None))
      all p v lp lv =
          rest p v lp lv
          ∙ ap (λ t. t && not (has granted p v)) (both p v
          ∙ ap (λ t. t && (not (nat_lt 1 vcs) || has (slice_index_or files.by_channel channel 0) p v))
          (f.by_port out p v (omega arith) lp lv)
          ∙ by_files (heard waiting ports vcs p v) out channel vcs
          (has (slice_index_or files.by_channel channel 0) p v) lc
          (λ many. f.by_channel many channel p v (omega arith) lp lv))
          ∙ ap (λ t. may_use (heard waiting ports vcs p v) out channel && not t) (have p v lp lv)
          ∙ ap (λ t. may_use (heard waiting ports vcs p v) out channel && t) (none_is (cell grants p v None))
