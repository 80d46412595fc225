-- Lemmas on the grants that a set of channels makes of the requests of a pass.
use Rattle.std.proofs.Common.{◌≡◌, ℕ, ◌<◌, ◌≤◌, Bool, true, false, if◌then◌else◌, ◌==◌, List, Option, Some, None}
use Rattle.std.proofs.Common.{IfSome, refl, sym, ap, ◌∙◌}
use Rattle.std.proofs.Common.{arith, slice_index_or, slice_set, length, replicate, cond, inl, inr, subst}
use Rattle.std.proofs.Common.{get_or-set_same, get_or-set_other}
use Rattle.std.proofs.lemmas.Bool.{cases_eq, cases_lt, cases_Bool, eq-eqb, eqb-true, ne_eqb, true≢false}
use Rattle.std.proofs.lemmas.List.{length-set, ext_get_or}
use Rattle.worm_vcalloc.specs.ChannelSet.{has, IsPut}
use Rattle.worm_vcalloc.proofs.SetMembers.{has-zero}
use Rattle.worm_swalloc.specs.declared.grant.SwGrant.{SwGrant}
use Rattle.worm_swalloc.specs.SwAlloc.{AreChannelsBelow, AreRequested, AreGranted, if_in, granted_at, granted_of, is_of}
use Rattle.worm_swalloc.specs.SwAlloc.{sole_named}
use Rattle.worm_swalloc.proofs.FrontGiven.{length-with_front, slice_index_or-with_front_below}
use Rattle.worm_swalloc.proofs.FrontGiven.{slice_index_or-with_front_past, with_front_kept}
use Rattle.worm_swalloc.proofs.SwitchPass.{get_or-replicate_same}

pub length-granted_of : (requests : List (Option SwGrant)) (set : ℕ) → length (granted_of requests set) ≡ 7
length-granted_of requests set = length-with_front 7 (granted_at requests set) (replicate 7 None) (omega arith)

-- what a port is granted
pub grant_at : (requests : List (Option SwGrant)) (set port : ℕ) → port < 7
    → slice_index_or (granted_of requests set) port None ≡ if_in set port (slice_index_or requests port None)
grant_at requests set port l =
    slice_index_or-with_front_below 7 port (granted_at requests set) (replicate 7 None) None l

-- and a port that is not there
grant_past : (requests : List (Option SwGrant)) (set port : ℕ) → 7 ≤ port
    → slice_index_or (granted_of requests set) port None ≡ None
grant_past requests set port l =
    slice_index_or-with_front_past 7 port (granted_at requests set) (replicate 7 None) None l
    ∙ get_or-replicate_same 7 port None

-- ---- a request alone

pub sole_here : (port : ℕ) (o : Option SwGrant) → port < 7 → slice_index_or (sole_named port o) port None ≡ o
sole_here port o within = get_or-set_same (replicate 7 None) port o None within

pub sole_elsewhere : (port p : ℕ) (o : Option SwGrant) → (p ≡ port → ⊥)
    → slice_index_or (sole_named port o) p None ≡ None
sole_elsewhere port p o other = get_or-set_other (replicate 7 None) port p o None other ∙ get_or-replicate_same 7 p None

-- channels below n are below a greater number
pub below_more : (n m : ℕ) (requests : List (Option SwGrant)) → n ≤ m → AreChannelsBelow n requests
    → AreChannelsBelow m requests
below_more n m requests more below port = at (slice_index_or requests port None) (below port) where
  at : (o : Option SwGrant) → IfSome o (λ g. g.vc < n) → IfSome o (λ g. g.vc < m)
  at None l = tt
  at (Some g) l = omega arith

-- ---- the empty set

-- it grants nothing
pub none_granted : (requests : List (Option SwGrant)) → granted_of requests 0 ≡ replicate 7 None
none_granted requests =
    with_front_kept 7 (granted_at requests 0) (replicate 7 None) None (omega arith)
    (λ i l. not_in i (slice_index_or requests i None) ∙ sym (get_or-replicate_same 7 i None)) where
      not_in : (i : ℕ) (o : Option SwGrant) → if_in 0 i o ≡ None
      not_in i None = refl
      not_in i (Some g) = ap (λ b. cond b (Some g) None) (has-zero i g.vc)

-- and has no channel that is not requested
pub none_requested : (requests : List (Option SwGrant)) → AreRequested requests 0
none_requested requests port vc l l' e = absurd (true≢false (sym e ∙ has-zero port vc))

-- ---- one channel more

module _ (requests : List (Option SwGrant)) (old new port : ℕ) (g : SwGrant) (within : port < 7)
    (below : AreChannelsBelow 8 requests) (asked : slice_index_or requests port None ≡ Some g)
    (put : IsPut old new port g.vc true) where
  -- the request of its port is granted
  pub put_granted : granted_of requests new ≡ slice_set (granted_of requests old) port (Some g)
  put_granted =
      let before : List (Option SwGrant) = granted_of requests old in
      let long : length before ≡ 7 = length-granted_of requests old in
      let long' : length (slice_set before port (Some g)) ≡ length before = length-set before port (Some g) in
      ext_get_or None (granted_of requests new) (slice_set before port (Some g))
      (length-granted_of requests new ∙ sym (long' ∙ long))
      (λ i l.
      let inside : i < 7 = omega (arith, l, length-granted_of requests new) in
      grant_at requests new i inside
      ∙ elim (cases_eq i port) [
        | inl here ↦
            ap (λ k. if_in new k (slice_index_or requests k None)) here
            ∙ ap (if_in new port) asked
            ∙ ap (λ b. cond b (Some g) None) put.here
            ∙ sym (get_or-set_same before port (Some g) None (omega (arith, long)))
            ∙ ap (λ k. slice_index_or (slice_set before port (Some g)) k None) (sym here)
        | inr other ↦
            same i inside other (slice_index_or requests i None) (below i)
            ∙ sym (grant_at requests old i inside)
            ∙ sym (get_or-set_other before port i (Some g) None other)
      ])
    where
      same : (i : ℕ) → i < 7 → ((i ≡ port) → ⊥) → (o : Option SwGrant) → IfSome o (λ h. h.vc < 8)
          → if_in new i o ≡ if_in old i o
      same i l other None b = refl
      same i l other (Some h) b = ap (λ t. cond t (Some h) None) (put.elsewhere i h.vc l b (λ e _. other e))

  -- and its channel is that of the request
  pub put_requested : AreRequested requests old → AreRequested requests new
  put_requested were p c l l' e = elim (cases_eq p port) [
    | inl here ↦ elim (cases_eq c g.vc) [
      | inl here' ↦ ap (λ k. is_of (slice_index_or requests k None) c) here ∙ ap (λ o. is_of o c) asked
          ∙ eq-eqb g.vc c (sym here')
      | inr other ↦ were p c l l' (sym (put.elsewhere p c l l' (λ _ same. other same)) ∙ e)
    ]
    | inr other ↦ were p c l l' (sym (put.elsewhere p c l l' (λ same _. other same)) ∙ e)
  ]

-- ---- one grant alone

module _ (port : ℕ) (g : SwGrant) (within : port < 7) (channel : g.vc < 8) where
  -- its channel is below 8
  pub sole_below : AreChannelsBelow 8 (sole_named port (Some g))
  sole_below p = elim (cases_eq p port) [
    | inl here ↦ subst (λ (o : Option SwGrant). IfSome o (λ h. h.vc < 8))
        (sym (ap (λ k. slice_index_or (sole_named port (Some g)) k None) here ∙ sole_here port (Some g) within)) channel
    | inr other ↦ subst (λ (o : Option SwGrant). IfSome o (λ h. h.vc < 8))
        (sym (sole_elsewhere port p (Some g) other)) tt
  ]

  module _ (old new : ℕ) (none : old ≡ 0) (put : IsPut old new port g.vc true) where
    -- the set of its channel alone has no channel but that
    pub sole_requested : AreRequested (sole_named port (Some g)) new
    sole_requested = put_requested (sole_named port (Some g)) old new port g within sole_below
        (sole_here port (Some g) within) put
        (subst (AreRequested (sole_named port (Some g))) (sym none) (none_requested (sole_named port (Some g))))

    -- and grants it
    pub sole_granted_of : granted_of (sole_named port (Some g)) new ≡ sole_named port (Some g)
    sole_granted_of =
        put_granted (sole_named port (Some g)) old new port g within sole_below (sole_here port (Some g) within) put
        ∙ ap (λ xs. slice_set xs port (Some g))
        (ap (granted_of (sole_named port (Some g))) none ∙ none_granted (sole_named port (Some g)))

-- ---- as a set

-- a request of a channel below 8 is granted as it stands or not at all
kept : (t : Bool) (g : SwGrant) → g.vc < 8 → IfSome (if t then Some g else None) (λ h. h.vc < 8)
kept true g l = l
kept false g l = tt

if_in_below : (set port : ℕ) (o : Option SwGrant) → IfSome o (λ g. g.vc < 8)
    → IfSome (if_in set port o) (λ g. g.vc < 8)
if_in_below set port None b = tt
if_in_below set port (Some g) b = kept (has set port g.vc) g b

-- the set has a channel of the port where that is granted
has_granted : (set port vc : ℕ) (o : Option SwGrant) → (has set port vc ≡ true → is_of o vc ≡ true)
    → has set port vc ≡ is_of (if_in set port o) vc
has_granted set port vc None are = elim (cases_Bool (has set port vc)) [
  | inl in_it ↦ absurd (true≢false (sym (are in_it)))
  | inr out_of_it ↦ out_of_it
]
has_granted set port vc (Some g) are = elim (cases_eq g.vc vc) [
  | inl here ↦ ap (has set port) (sym here) ∙ by_test (has set port g.vc) ∙ ap (is_of (if_in set port (Some g))) here
  | inr other ↦ elim (cases_Bool (has set port vc)) [
    | inl in_it ↦ absurd (other (eqb-true g.vc vc (are in_it)))
    | inr out_of_it ↦ out_of_it ∙ sym (by_other (has set port g.vc) (ne_eqb g.vc vc other))
  ]
] where
  by_test : (t : Bool) → t ≡ is_of (if t then Some g else None) g.vc
  by_test true = sym (eq-eqb g.vc g.vc refl)
  by_test false = refl

  by_other : (t : Bool) → (g.vc == vc) ≡ false → is_of (if t then Some g else None) vc ≡ false
  by_other true e = e
  by_other false e = refl

-- the channels that are granted are those of the set
pub are_granted : (requests : List (Option SwGrant)) (set : ℕ) → AreChannelsBelow 8 requests → AreRequested requests set
    → AreGranted (granted_of requests set) set
are_granted requests set below are = record {
  each = λ port vc l l'.
      has_granted set port vc (slice_index_or requests port None) (are port vc l l')
      ∙ ap (λ o. is_of o vc) (sym (grant_at requests set port l));
  few = λ port. elim (cases_lt port 7) [
    | inl l ↦ subst (λ (o : Option SwGrant). IfSome o (λ g. g.vc < 8)) (sym (grant_at requests set port l))
        (if_in_below set port (slice_index_or requests port None) (below port))
    | inr past ↦ subst (λ (o : Option SwGrant). IfSome o (λ g. g.vc < 8)) (sym (grant_past requests set port past)) tt
  ];
}
