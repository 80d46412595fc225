-- What a pass of the switch allocator granted is sent, ports rising: one channel at a time comes out of the set of
-- those granted.
use Rattle.std.proofs.Common.{◌≡◌, ℕ, ◌+◌, inr, List, Option, Some, None, refl, ap, sym}
use Rattle.std.proofs.Common.{subst, ◌∙◌, slice_index_or}
use Rattle.std.specs.List.{range_with_len}
use Rattle.std.specs.Option.{option_to_list}
use Rattle.worm_swalloc.specs.declared.grant.SwGrant.{SwGrant}
use Rattle.worm_swalloc.specs.SwAlloc.{AreGranted}
use Rattle.worm_router.specs.Allocation.{switch_grants}
use Rattle.worm_region.specs.Moves.{chosen_router}
use Rattle.worm_region.specs.Prepared.{Prepares, allocated_at}
use Rattle.worm_region.specs.Replies.{Attempts}
use Rattle.worm_region.specs.State.{NetState, router_at, with_router}
use Rattle.worm_region.specs.Turns.{Each, ◌and_then◌}
use Rattle.worm_region.specs.Turns.{Allocates, Chooses, ComesInBy}
use Rattle.worm_region.specs.declared.fault.StepFault.{StepFault}
use Rattle.worm_split.specs.PartState.{PartState, IsSamePart}
use Rattle.worm_split.specs.PartTurns.{PartPassage, Sends, SendsGrant, SendsGranted, SendsGrants, Within}
use Rattle.worm_region.proofs.Passages.{each_one}
use Rattle.worm_split.proofs.PartLoops.{of_more, same_still}

-- the ports below one have sent what was granted
pub record SentBelow (x : ℕ) (grants : List (Option SwGrant)) (a b : PartState) (n : ℕ) : Type 0 where
  pub each : Each (SendsGrant grants x) (range_with_len 0 n) a None b
  pub same : IsSamePart a b

module _ (x : ℕ) (grants : List (Option SwGrant)) where
  pub sent_none : (a : PartState) → SentBelow x grants a a 0
  sent_none a = record { each = (refl, refl); same = same_still a }

  pub sent_still : (a b : PartState) (p : ℕ) → slice_index_or grants p None ≡ None → SentBelow x grants a b p
      → SentBelow x grants a b (p + 1)
  sent_still a b p none sent = record {
    each = of_more (SendsGrant grants x) p a b b sent.each (rw none (refl, refl));
    same = sent.same;
  }

  pub one_sent : (p vc : ℕ) (b c : PartState) (fault : Option StepFault)
      → (g : SwGrant) × (slice_index_or grants p None ≡ Some g) × (g.vc ≡ vc) → Sends x p vc b fault c
      → SendsGrant grants x p b fault c
  one_sent p vc b c fault grant sends =
      let g = grant.0 in
      let here : Sends x p g.vc b fault c = subst (λ (v : ℕ). Sends x p v b fault c) (sym grant.2) sends in
      let one : Each (λ (h : SwGrant). Sends x p h.vc) (option_to_list (Some g)) b fault c =
      each_one (λ (h : SwGrant). Sends x p h.vc) g b c fault here in
      subst (λ (o : Option SwGrant). Each (λ (h : SwGrant). Sends x p h.vc) (option_to_list o) b fault c)
      (sym grant.1) one

-- what was prepared, and then what follows the pass of the switch allocator
pub prepared : (x granted : ℕ) (P : PartPassage) (a b c : PartState) (fault : Option StepFault)
    → Prepares x granted a.net b.net → ((s : NetState) → Chooses x granted s b.net → P (record a { net = s }) fault c)
    → (Within (ComesInBy Attempts x) and_then Within (Allocates x) and_then P) a fault c
prepared x granted P a b c fault done follows =
    let s = allocated_at x done.came in
    inr (
      record a { net = done.came },
      (done.comes, refl),
      inr (record a { net = s }, ((refl, refl), refl), follows s done.chooses),
    )

pub sent_chosen : (x granted : ℕ) (a b c : PartState) (fault : Option StepFault) (s : NetState)
    → b ≡ record a { net = b.net } → Chooses x granted s b.net
    → ((grants : List (Option SwGrant)) → AreGranted grants granted → SendsGrants grants x b fault c)
    → SendsGranted x (record a { net = s }) fault c
sent_chosen x granted a b c fault s within chosen sent =
    let grants = switch_grants (router_at s x) in
    let is : b ≡ record a { net = with_router s x (chosen_router (router_at s x)) } =
    within ∙ ap (λ (net : NetState). record a { net = net }) chosen.1 in
    subst (λ (q : PartState). SendsGrants grants x q fault c) is (sent grants chosen.0)
