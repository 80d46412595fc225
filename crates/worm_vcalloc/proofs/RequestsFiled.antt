-- Lemmas on requests that are filed one by one.
use Rattle.std.proofs.Common.{◌≡◌, ℕ, ◌<◌, ◌≤◌, ◌==◌, ◌&&◌, ◌||◌, Bool, true, false, not, List, Option, None, Some}
use Rattle.std.proofs.Common.{is_some}
use Rattle.std.proofs.Common.{slice_index_or, slice_set, length, replicate, get_or-set_same, get_or-set_other, nat_lt}
use Rattle.std.proofs.Common.{if◌then◌else◌, refl, sym, ap, ◌∙◌, arith, inl, inr}
use Rattle.std.proofs.lemmas.Bool.{cases_eq, cases_Bool, and_from, and_parts, eqb-true, eq-eqb, ltb-true, lt-ltb}
use Rattle.std.proofs.lemmas.Bool.{ne_eqb, true≢false}
use Rattle.std.proofs.Math.Bool.{and-true, and-false}
use Rattle.std.proofs.lemmas.List.{get_or-replicate, get_or_default}
use Rattle.worm_flit.specs.SmallSet as small
use Rattle.worm_flit.proofs.SmallSets.{has_none}
use Rattle.worm_vcalloc.specs.declared.asked.Asked.{Asked}
use Rattle.worm_vcalloc.specs.declared.request.VcRequest.{VcRequest}
use Rattle.worm_vcalloc.specs.Asked.{AreAllowed, IsFiled, heard, is_below, is_met_by}
use Rattle.worm_vcalloc.specs.ChannelSet.{has, IsFirst, IsPut}
use Rattle.worm_vcalloc.specs.Table.{cell}
use Rattle.worm_vcalloc.specs.VcRequest.{is_for, allows}
use Rattle.worm_vcalloc.proofs.SetMembers.{has-zero, was_in}

-- ---- what a router hears

-- a request whose port and channel the router has
pub heard_some : (requests : List (List (Option VcRequest))) (ports vcs p v : ℕ) (r : VcRequest) → p < ports
    → v < vcs → r.out < ports → cell requests p v None ≡ Some r → heard requests ports vcs p v ≡ Some r
heard_some requests ports vcs p v r lp lv lo is =
    ap (λ t. if t then cell requests p v None else None)
    (and_from (nat_lt p ports && nat_lt v vcs) (is_below (cell requests p v None) ports)
    (and_from (nat_lt p ports) (nat_lt v vcs) (lt-ltb p ports lp) (lt-ltb v vcs lv))
    (ap (λ o. is_below o ports) is ∙ lt-ltb r.out ports lo))
    ∙ is

-- any other
pub heard_none : (requests : List (List (Option VcRequest))) (ports vcs p v : ℕ) (r : VcRequest)
    → (p < ports → v < vcs → r.out < ports → ⊥) → cell requests p v None ≡ Some r
    → heard requests ports vcs p v ≡ None
heard_none requests ports vcs p v r foreign is =
    elim (cases_Bool (nat_lt p ports && nat_lt v vcs && is_below (cell requests p v None) ports)) [
      | inl all ↦
          let parts = and_parts _ _ all in
          let place = and_parts _ _ parts.0 in
          absurd (foreign (ltb-true p ports place.0) (ltb-true v vcs place.1)
          (ltb-true r.out ports (sym (ap (λ o. is_below o ports) is) ∙ parts.1)))
      | inr some ↦ ap (λ t. if t then cell requests p v None else None) some
    ]

-- what the router hears waits
heard_waits : (requests : List (List (Option VcRequest))) (ports vcs p v : ℕ)
    → is_some (heard requests ports vcs p v) ≡ true → is_some (cell requests p v None) ≡ true
heard_waits requests ports vcs p v =
    by_test (nat_lt p ports && nat_lt v vcs && is_below (cell requests p v None) ports) (cell requests p v None)
  where
    by_test : (b : Bool) (o : Option VcRequest) → is_some (if b then o else None) ≡ true → is_some o ≡ true
    by_test true o e = e
    by_test false o e = absurd (cc)

for_some : (o : Option VcRequest) (out : ℕ) → is_for o out ≡ true → is_some o ≡ true
for_some None out e = absurd (cc)
for_some (Some r) out e = refl

allows_some : (o : Option VcRequest) (channel : ℕ) → allows o channel ≡ true → is_some o ≡ true
allows_some None channel e = absurd (cc)
allows_some (Some r) channel e = refl

-- ---- files of all input channels but those in a set

-- the set holds those input channels of which `says` is true and that are not left
abbrev pub Holds : (ℕ → ℕ → Bool) → ℕ → ℕ → Type 0
Holds says left set = (p v : ℕ) → p < 7 → v < 8 → has set p v ≡ (says p v && not (has left p v))

-- where it is true only of those that are left, the empty set does
holds_none : (says : ℕ → ℕ → Bool) (left : ℕ)
    → ((p v : ℕ) → p < 7 → v < 8 → says p v ≡ true → has left p v ≡ true) → Holds says left 0
holds_none says left all p v lp lv = has-zero p v ∙ by_test (says p v) (has left p v) (all p v lp lv) where
  by_test : (b l : Bool) → (b ≡ true → l ≡ true) → false ≡ (b && not l)
  by_test true l only = sym (ap not (only refl))
  by_test false l only = refl

-- the first of those that are left is put into the set where it is true of that one
holds_more : (says : ℕ → ℕ → Bool) (left left' port vc set set' : ℕ) → IsFirst left left' port vc
    → Holds says left set → has set' port vc ≡ says port vc
    → ((p v : ℕ) → p < 7 → v < 8 → ((p ≡ port) → (v ≡ vc) → ⊥) → has set' p v ≡ has set p v)
    → Holds says left' set'
holds_more says left left' port vc set set' f holds here elsewhere p v lp lv = elim (cases_eq p port) [
  | inl ep ↦ elim (cases_eq v vc) [
    | inl ev ↦
        ap (λ k. has set' k v) ep ∙ ap (has set' port) ev ∙ here ∙ sym (and-true (says port vc))
        ∙ sym (ap (λ k. says k v && not (has left' k v)) ep ∙ ap (λ k. says port k && not (has left' port k)) ev
        ∙ ap (λ t. says port vc && not t) f.taken.here)
    | inr other ↦ apart (λ _ e. other e)
  ]
  | inr other ↦ apart (λ e _. other e)
] where
  apart : ((p ≡ port) → (v ≡ vc) → ⊥) → has set' p v ≡ (says p v && not (has left' p v))
  apart other =
      elsewhere p v lp lv other ∙ holds p v lp lv
      ∙ ap (λ t. says p v && not t) (sym (f.taken.elsewhere p v lp lv other))

-- one that is left is not in the set yet
not_held : (says : ℕ → ℕ → Bool) (left left' port vc set : ℕ) → IsFirst left left' port vc → Holds says left set
    → has set port vc ≡ false
not_held says left left' port vc set f holds =
    holds port vc f.port_in f.channel_in ∙ ap (λ t. says port vc && not t) f.was_in ∙ and-false (says port vc)

-- where none is left, the set holds those of which it is true
holds_all : (says : ℕ → ℕ → Bool) (left set : ℕ) → left ≡ 0 → Holds says left set → (p v : ℕ) → p < 7 → v < 8
    → has set p v ≡ says p v
holds_all says left set none holds p v lp lv =
    holds p v lp lv ∙ ap (λ t. says p v && not t) (ap (λ s. has s p v) none ∙ has-zero p v) ∙ and-true (says p v)

-- ---- one request after the other

-- whether an input channel is heard to ask for an output port
abbrev pub for_port : List (List (Option VcRequest)) → ℕ → ℕ → ℕ → ℕ → ℕ → Bool
for_port requests ports vcs out p v = is_met_by (heard requests ports vcs p v) vcs out

-- and to allow a channel
abbrev pub for_channel : List (List (Option VcRequest)) → ℕ → ℕ → ℕ → ℕ → ℕ → Bool
for_channel requests ports vcs channel p v = allows (heard requests ports vcs p v) channel

-- all requests that the router hears are filed but those of the input channels in a set
pub record AreFiledBut (requests : List (List (Option VcRequest))) (ports vcs left : ℕ) (files : Asked)
    : Type 0 where
  pub by_port : (out : ℕ) → out < 7
      → Holds (for_port requests ports vcs out) left (slice_index_or files.by_port out 0)
  pub by_channel : 1 < vcs → (channel : ℕ) → channel < 8
      → Holds (for_channel requests ports vcs channel) left
      (slice_index_or files.by_channel channel 0)
  pub asked : (out p v : ℕ) → out < 7 → p < 7 → v < 8 → is_for (heard requests ports vcs p v) out ≡ true
      → has left p v ≡ false → small.has files.ports out ≡ true
  pub within : (out : ℕ) → out < 8 → small.has files.ports out ≡ true → out < ports
  pub waits : (p v : ℕ) → p < 7 → v < 8 → has left p v ≡ true → is_some (cell requests p v None) ≡ true

-- none is filed at first
pub filed_start : (requests : List (List (Option VcRequest))) (ports vcs waiting : ℕ)
    → ((p v : ℕ) → p < 7 → v < 8 → has waiting p v ≡ is_some (cell requests p v None))
    → AreFiledBut requests ports vcs waiting
    (record { by_port = replicate 7 0; by_channel = replicate 8 0; ports = 0 })
filed_start requests ports vcs waiting waits = record {
  by_port = λ out lo. rw (get_or-replicate {A = ℕ} 7 out 0 0 lo)
      (holds_none (for_port requests ports vcs out) waiting
      (λ p v lp lv e. left p v lp lv (for_some (heard requests ports vcs p v) out (and_parts _ _ e).0)));
  by_channel = λ many channel lc. rw (get_or-replicate {A = ℕ} 8 channel 0 0 lc)
      (holds_none (for_channel requests ports vcs channel) waiting
      (λ p v lp lv e. left p v lp lv (allows_some (heard requests ports vcs p v) channel e)));
  asked = λ out p v lo lp lv asks off.
      absurd (true≢false (sym (left p v lp lv (for_some (heard requests ports vcs p v) out asks)) ∙ off));
  within = λ out lo e. absurd (true≢false (sym e ∙ has_none 0 out refl));
  waits = λ p v lp lv e. sym (waits p v lp lv) ∙ e;
} where
  left : (p v : ℕ) → p < 7 → v < 8 → is_some (heard requests ports vcs p v) ≡ true → has waiting p v ≡ true
  left p v lp lv some = waits p v lp lv ∙ heard_waits requests ports vcs p v some

-- the first of those that are left waits no less once it is out
waits_more : (requests : List (List (Option VcRequest))) (ports vcs left left' port vc : ℕ) (files : Asked)
    → AreFiledBut requests ports vcs left files → IsFirst left left' port vc
    → (p v : ℕ) → p < 7 → v < 8 → has left' p v ≡ true → is_some (cell requests p v None) ≡ true
waits_more requests ports vcs left left' port vc files b f p v lp lv e =
    b.waits p v lp lv (was_in left left' port vc p v f.taken lp lv e)

-- the output ports of all that are filed are in the set where that of the first that was left is
asked_more : (requests : List (List (Option VcRequest))) (ports vcs left left' port vc : ℕ) (files : Asked)
    (set : ℕ) → AreFiledBut requests ports vcs left files → IsFirst left left' port vc
    → ((out : ℕ) → out < 7 → is_for (heard requests ports vcs port vc) out ≡ true → small.has set out ≡ true)
    → ((out : ℕ) → out < 7 → small.has files.ports out ≡ true → small.has set out ≡ true)
    → (out p v : ℕ) → out < 7 → p < 7 → v < 8 → is_for (heard requests ports vcs p v) out ≡ true
    → has left' p v ≡ false → small.has set out ≡ true
asked_more requests ports vcs left left' port vc files set b f here more out p v lo lp lv asks off =
    elim (cases_eq p port) [
      | inl ep ↦ elim (cases_eq v vc) [
        | inl ev ↦ here out lo (sym (ap (λ k. is_for (heard requests ports vcs k v) out) ep
            ∙ ap (λ k. is_for (heard requests ports vcs port k) out) ev) ∙ asks)
        | inr other ↦ before (λ _ e. other e)
      ]
      | inr other ↦ before (λ e _. other e)
    ]
  where
    before : ((p ≡ port) → (v ≡ vc) → ⊥) → small.has set out ≡ true
    before apart = more out lo (b.asked out p v lo lp lv asks (sym (f.taken.elsewhere p v lp lv apart) ∙ off))

-- one that the router hears is put into its files
pub filed_for : (requests : List (List (Option VcRequest))) (ports vcs left left' port vc d set asked : ℕ)
    (by_channel : List ℕ) (r : VcRequest) (files : Asked) (fits : Bool) → AreFiledBut requests ports vcs left files
    → IsFirst left left' port vc → cell requests port vc None ≡ Some r → ports ≤ 7 → port < ports → vc < vcs
    → r.out < ports → r.out < length files.by_port
    → fits ≡ (nat_lt 1 vcs || small.has r.allowed 0)
    → IsPut (slice_index_or files.by_port r.out d) set port vc fits → small.IsPut files.ports asked r.out true
    → (1 < vcs → AreAllowed files.by_channel by_channel port vc r.allowed)
    → AreFiledBut requests ports vcs left'
    (record { by_port = slice_set files.by_port r.out set; by_channel = by_channel; ports = asked })
filed_for requests ports vcs left left' port vc d set asked by_channel r files fits b f is few lp lv lo long fit put
    added allowed = record {
      by_port = λ out l. holds_more (for_port requests ports vcs out) left left' port vc
          (slice_index_or files.by_port out 0) (slice_index_or (slice_set files.by_port r.out set) out 0) f
          (b.by_port out l) (elim (cases_eq out r.out) [
            | inl same ↦ at_file out same port vc ∙ put.here ∙ fit
                ∙ sym (meets out ∙ ap (λ t. t && (nat_lt 1 vcs || small.has r.allowed 0))
                (eq-eqb r.out out (sym same)))
            | inr other ↦ at_other out other port vc
                ∙ not_held (for_port requests ports vcs out) left left' port vc _ f (b.by_port out l)
                ∙ sym (meets out ∙ ap (λ t. t && (nat_lt 1 vcs || small.has r.allowed 0))
                (ne_eqb r.out out (λ e. other (sym e))))
          ]) (λ p v lp' lv' apart. elim (cases_eq out r.out) [
            | inl same ↦
                at_file out same p v ∙ put.elsewhere p v lp' lv' apart
                ∙ ap (λ s. has s p v) (sym (get_or_default files.by_port r.out 0 d long))
                ∙ ap (λ k. has (slice_index_or files.by_port k 0) p v) (sym same)
            | inr other ↦ at_other out other p v
          ]);
      by_channel = λ many channel l. holds_more (for_channel requests ports vcs channel) left left' port vc
          (slice_index_or files.by_channel channel 0) (slice_index_or by_channel channel 0) f
          (b.by_channel many channel l)
          ((allowed many).here channel l
          ∙ ap (λ t. t || small.has r.allowed channel)
          (not_held (for_channel requests ports vcs channel) left left' port vc _ f
          (b.by_channel many channel l))
          ∙ sym (ap (λ o. allows o channel) hears))
          (λ p v lp' lv' apart. (allowed many).elsewhere channel p v l lp' lv' apart);
      asked =
          asked_more requests ports vcs left left' port vc files asked b f
          (λ out l e. ap (small.has asked) (sym (eqb-true r.out out (sym (asks out) ∙ e))) ∙ added.here)
          (λ out l e. elim (cases_eq out r.out) [
            | inl same ↦ ap (small.has asked) same ∙ added.here
            | inr other ↦ added.elsewhere out (omega arith) other ∙ e
          ]);
      within = λ out l e. elim (cases_eq out r.out) [
        | inl same ↦ omega arith
        | inr other ↦ b.within out l (sym (added.elsewhere out l other) ∙ e)
      ];
      waits = waits_more requests ports vcs left left' port vc files b f;
    } where
      hears : heard requests ports vcs port vc ≡ Some r
      hears = heard_some requests ports vcs port vc r lp lv lo is

      asks : (out : ℕ) → is_for (heard requests ports vcs port vc) out ≡ (r.out == out)
      asks out = ap (λ o. is_for o out) hears

      meets : (out : ℕ) → for_port requests ports vcs out port vc
          ≡ ((r.out == out) && (nat_lt 1 vcs || small.has r.allowed 0))
      meets out = ap (λ o. is_met_by o vcs out) hears

      at_file : (out : ℕ) → out ≡ r.out → (p v : ℕ)
          → has (slice_index_or (slice_set files.by_port r.out set) out 0) p v ≡ has set p v
      at_file out same p v =
          ap (λ k. has (slice_index_or (slice_set files.by_port r.out set) k 0) p v) same
          ∙ ap (λ s. has s p v) (get_or-set_same files.by_port r.out set 0 long)

      at_other : (out : ℕ) → (out ≡ r.out → ⊥) → (p v : ℕ)
          → has (slice_index_or (slice_set files.by_port r.out set) out 0) p v
          ≡ has (slice_index_or files.by_port out 0) p v
      at_other out other p v = ap (λ s. has s p v) (get_or-set_other files.by_port r.out out set 0 other)

-- one that it does not hear is put into none
pub filed_nowhere : (requests : List (List (Option VcRequest))) (ports vcs left left' port vc : ℕ) (files : Asked)
    → AreFiledBut requests ports vcs left files → IsFirst left left' port vc
    → heard requests ports vcs port vc ≡ None → AreFiledBut requests ports vcs left' files
filed_nowhere requests ports vcs left left' port vc files b f silent = record {
  by_port = λ out l. holds_more (for_port requests ports vcs out) left left' port vc _ _ f
      (b.by_port out l)
      (not_held (for_port requests ports vcs out) left left' port vc _ f (b.by_port out l)
      ∙ sym (ap (λ o. is_met_by o vcs out) silent))
      (λ p v lp lv apart. refl);
  by_channel = λ many channel l. holds_more (for_channel requests ports vcs channel) left left' port vc
      _ _ f (b.by_channel many channel l)
      (not_held (for_channel requests ports vcs channel) left left' port vc _ f
      (b.by_channel many channel l)
      ∙ sym (ap (λ o. allows o channel) silent))
      (λ p v lp lv apart. refl);
  asked =
      asked_more requests ports vcs left left' port vc files files.ports b f
      (λ out l e. absurd (true≢false (sym e ∙ ap (λ o. is_for o out) silent))) (λ out l e. e);
  within = b.within;
  waits = waits_more requests ports vcs left left' port vc files b f;
}

-- all are filed
pub filed_all : (requests : List (List (Option VcRequest))) (ports vcs left : ℕ) (files : Asked)
    → AreFiledBut requests ports vcs left files → left ≡ 0 → IsFiled requests ports vcs files
filed_all requests ports vcs left files b e = record {
  by_port = λ out p v lo. holds_all (for_port requests ports vcs out) left _ e (b.by_port out lo)
      p v;
  by_channel = λ many channel p v lc. holds_all (for_channel requests ports vcs channel) left _ e
      (b.by_channel many channel lc) p v;
  asked = λ out p v lo lp lv asks. b.asked out p v lo lp lv asks (ap (λ s. has s p v) e ∙ has-zero p v);
  within = b.within;
}
