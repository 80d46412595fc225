-- A pass of the channel allocator in which no channel may use a free output channel leaves the router as it is.
use Rattle.std.proofs.Common.{◌≡◌, ℕ, ◌+◌, ◌/◌, ◌%◌, ◌&&◌, Bool, true, false, cond, List, [], ◌∷◌, Option, None, Some}
use Rattle.std.proofs.Common.{fold, find, replicate, is_none, refl, ap, sym, subst, ◌+◌, ◌∙◌, inl, inr}
use Rattle.std.specs.List.{range_with_len}
use Rattle.std.proofs.lemmas.Bool.{cases_Bool}
use Rattle.worm_vcalloc.specs.declared.request.VcRequest.{VcRequest}
use Rattle.worm_vcalloc.specs.VcRequest.{may_use}
use Rattle.worm_vcalloc.specs.Arbiter.{ArbiterState, no_arbiter, winner, asked_in_order}
use Rattle.worm_vcalloc.specs.Table.{cell}
use Rattle.worm_vcalloc.specs.VcAlloc.{VcPass, IsChannelMatching, offered, vc_step, port_pass, vc_pass}
use Rattle.worm_vcalloc.proofs.PassAgrees.{offered_in_vain}
use Rattle.worm_vcalloc.proofs.TableCells.{cell-replicate}
use Rattle.worm_router.specs.Router.{RouterState, terminal, width}
use Rattle.worm_router.specs.Allocation.{requests, free_channels, channel_pass, written, with_port_grants, with_grants}
use Rattle.worm_router.specs.Allocation.{after_allocate}
use Rattle.worm_router.specs.Demand.{GrantsNothing}

-- steps that each leave what there is leave it together
pub fold_same : {X : Type 0} (step : X → ℕ → X) (x : X) (ns : List ℕ) → ((n : ℕ) → step x n ≡ x) → fold step x ns ≡ x
fold_same step x [] same = refl
fold_same step x (n ∷ ns) same = ap (λ y. fold step y ns) (same n) ∙ fold_same step x ns same

find_none : (asks : ℕ → Bool) (ns : List ℕ) → ((n : ℕ) → asks n ≡ false) → find asks ns ≡ None
find_none asks [] none = refl
find_none asks (n ∷ ns) none = rw none (find_none asks ns none)

pub no_winner : (a : ArbiterState) (asks : ℕ → Bool) → ((n : ℕ) → asks n ≡ false) → winner a asks ≡ None
unfolding winner
no_winner a asks none = find_none asks (asked_in_order a) none

offered_to_none : (waiting : List (List (Option VcRequest))) (pass : VcPass) (out channel : ℕ)
    → ((p v : ℕ) → may_use (cell waiting p v None) out channel ≡ false) → offered waiting pass out channel ≡ pass
offered_to_none waiting pass out channel none =
    offered_in_vain waiting pass out channel (no_winner (cell pass.alloc.arbiters out channel no_arbiter) _ (λ line.
    ap (λ (b : Bool). b && is_none (cell pass.grants (line / pass.alloc.vcs) (line % pass.alloc.vcs) None))
    (none (line / pass.alloc.vcs) (line % pass.alloc.vcs))))

step_same : (waiting : List (List (Option VcRequest))) (free : List (List Bool)) → GrantsNothing waiting free
    → (pass : VcPass) (out channel : ℕ) → vc_step waiting free out pass channel ≡ pass
step_same waiting free nobody pass out channel = elim (cases_Bool (cell free out channel false)) [
  | inl is_free ↦ ap (λ b. cond b (offered waiting pass out channel) pass) is_free
      ∙ offered_to_none waiting pass out channel (λ p v. nobody out channel p v is_free)
  | inr is_held ↦ ap (λ b. cond b (offered waiting pass out channel) pass) is_held
]

port_same : (waiting : List (List (Option VcRequest))) (free : List (List Bool)) → GrantsNothing waiting free
    → (pass : VcPass) (out : ℕ) → port_pass waiting free pass out ≡ pass
unfolding port_pass
port_same waiting free nobody pass out =
    fold_same (vc_step waiting free out) pass (range_with_len 0 pass.alloc.vcs)
    (step_same waiting free nobody pass out)

pass_same : (waiting : List (List (Option VcRequest))) (free : List (List Bool)) → GrantsNothing waiting free
    → (pass : VcPass) → vc_pass waiting free pass ≡ pass
unfolding vc_pass
pass_same waiting free nobody pass = fold_same (port_pass waiting free) pass (range_with_len 0 pass.alloc.ports)
    (port_same waiting free nobody pass)

abbrev pub no_grants : List (List (Option ℕ))
no_grants = replicate 7 (replicate 8 None)

abbrev pub NoGrants : List (List (Option ℕ)) → Type 0
NoGrants grants = (port vc : ℕ) → cell grants port vc None ≡ None

port_ungranted : (grants : List (List (Option ℕ))) → NoGrants grants → (r : RouterState) (port : ℕ)
    → with_port_grants grants r port ≡ r
unfolding with_port_grants
port_ungranted grants none r port =
    fold_same (λ s vc. written s port vc (cell grants port vc None)) r (range_with_len 0 (width r))
    (λ vc. ap (written r port vc) (none port vc))

pub ungranted : (grants : List (List (Option ℕ))) → NoGrants grants → (r : RouterState) → with_grants grants r ≡ r
unfolding with_grants
ungranted grants none r = fold_same (with_port_grants grants) r (range_with_len 0 (terminal r + 1))
    (port_ungranted grants none r)

none_granted : NoGrants no_grants
none_granted port vc = cell-replicate 7 8 port vc None

idle_pass : (r : RouterState) → GrantsNothing (requests r) (free_channels r)
    → channel_pass r ≡ record { alloc = r.channel_alloc; grants = no_grants }
idle_pass r nobody = pass_same (requests r) (free_channels r) nobody
    (record { alloc = r.channel_alloc; grants = no_grants })

pub idle_allocate : (r : RouterState) → GrantsNothing (requests r) (free_channels r) → after_allocate r ≡ r
idle_allocate r nobody =
    ap (λ (p : VcPass). with_grants p.grants (record r { channel_alloc = p.alloc })) (idle_pass r nobody)
    ∙ ungranted no_grants none_granted r

idle_matching : (ports vcs : ℕ) (waiting : List (List (Option VcRequest))) (free : List (List Bool))
    → GrantsNothing waiting free → IsChannelMatching ports vcs waiting free no_grants
idle_matching ports vcs waiting free nobody = record {
  requested = λ port vc channel is. let no : None ≡ Some channel = sym (none_granted port vc) ∙ is in absurd (cc);
  once = λ port vc port' vc' out channel one two. let no : None ≡ Some channel =
      sym (none_granted port vc) ∙ one.granted in absurd (cc);
  complete = λ out channel port vc _ _ _ _ is_free asks _. let no : true ≡ false =
      sym asks ∙ nobody out channel port vc is_free in absurd (cc);
}

pub nothing_granted : (r : RouterState) (grants : List (List (Option ℕ)))
    → GrantsNothing (requests r) (free_channels r) → grants ≡ no_grants → grants ≡ (channel_pass r).grants
nothing_granted r grants nobody empty = empty ∙ sym (ap (λ (p : VcPass). p.grants) (idle_pass r nobody))

pub nothing_matched : (r : RouterState) (grants : List (List (Option ℕ)))
    → GrantsNothing (requests r) (free_channels r) → grants ≡ no_grants
    → IsChannelMatching (terminal r + 1) (width r) (requests r) (free_channels r) grants
nothing_matched r grants nobody empty =
    subst (IsChannelMatching (terminal r + 1) (width r) (requests r) (free_channels r)) (sym empty)
    (idle_matching (terminal r + 1) (width r) (requests r) (free_channels r) nobody)
