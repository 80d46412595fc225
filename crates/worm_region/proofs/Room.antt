-- A link has room for a flit whose channel has a credit.
use Rattle.std.proofs.Common.{◌≡◌, ℕ, zero, suc, ◌+◌, ◌*◌, ◌<◌, ◌≤◌, ◌==◌, true, cond, inl, inr, List, [], ◌∷◌, length}
use Rattle.std.proofs.Common.{sum, Some, refl, arith, ap, ◌∙◌, Bool}
use Rattle.std.specs.Prelude.{All}
use Rattle.std.proofs.lemmas.Bool.{cases_eq}
use Rattle.std.proofs.lemmas.List.Elements.{All-head, All-tail, All-weaker}
use Rattle.worm_flit.specs.declared.Flit.{Flit}
use Rattle.worm_mesh.specs.Address.{neighbour_of, has_neighbour}
use Rattle.worm_mesh.specs.Links.{sum_below, links_before}
use Rattle.worm_flit.specs.Stamps.{on_channel}
use Rattle.worm_theory.proofs.Places.{number_cases}
use Rattle.worm_region.specs.Shape.{net_shape}
use Rattle.worm_region.specs.State.{NetState, shape, network_of, link_at}
use Rattle.worm_region.specs.Workable.{IsWorkableBy, IsSent}
use Rattle.worm_region.proofs.LinkWritten.{out_there}
use Rattle.std.specs.List.{count_by}
use Rattle.worm_theory.proofs.Credit.{count-cons}

-- one of the numbers below n is c, if c is below n
one_of_none : (n c : ℕ) → n ≤ c → sum_below (λ v. cond (v == c) 1 0) n ≡ 0
one_of_none zero c past = refl
one_of_none (suc n) c past =
    let rest = one_of_none n c (omega arith) in
    elim (number_cases n c) [
      | inl here ↦ let same = here.1 in absurd (omega arith)
      | inr away ↦ rw (rest, away.0) refl
    ]

pub one_of : (n c : ℕ) → c < n → sum_below (λ v. cond (v == c) 1 0) n ≡ 1
one_of zero c below = absurd (omega arith)
one_of (suc n) c below =
    elim (number_cases n c) [
      | inl here ↦ let same : n ≡ c = here.1 in rw (one_of_none n c (omega arith), here.0) refl
      | inr away ↦ let other : n ≡ c → ⊥ = away.1 in rw (one_of n c (omega arith), away.0) refl
    ]

pub sum_none : (n : ℕ) → sum_below (λ v. 0) n ≡ 0
sum_none zero = refl
sum_none (suc n) = rw (sum_none n) refl

pub sum_add : (f g : ℕ → ℕ) (n : ℕ) → sum_below (λ v. f v + g v) n ≡ sum_below f n + sum_below g n
sum_add f g zero = refl
sum_add f g (suc n) = let rest = sum_add f g n in omega arith

pub sum_same : (f g : ℕ → ℕ) (n : ℕ) → ((v : ℕ) → f v ≡ g v) → sum_below f n ≡ sum_below g n
sum_same f g zero h = refl
sum_same f g (suc n) h = let rest = sum_same f g n h in let here = h n in omega arith

on_one_more : (v : ℕ) (f : Flit) (fs : List Flit) →
    length (on_channel v (f ∷ fs)) ≡ cond (v == f.vc) 1 0 + length (on_channel v fs)
on_one_more v f fs =
    elim (number_cases v f.vc) [
      | inl here ↦ rw here.0 (omega arith)
      | inr away ↦ rw away.0 (omega arith)
    ]

-- the flits of each channel below n are all flits
pub counted : (n : ℕ) (fs : List Flit) → All (λ f. f.vc < n) fs →
    sum_below (λ v. length (on_channel v fs)) n ≡ length fs
counted n [] all = sum_none n
counted n (f ∷ fs) all =
    let rest = counted n fs (All-tail (λ (g : Flit). g.vc < n) f fs all) in
    let one = one_of n f.vc (All-head (λ (g : Flit). g.vc < n) f fs all) in
    let split =
    sum_same (λ v. length (on_channel v (f ∷ fs))) (λ v. cond (v == f.vc) 1 0 + length (on_channel v fs)) n
    (λ v. on_one_more v f fs) in
    let two = sum_add (λ v. cond (v == f.vc) 1 0) (λ v. length (on_channel v fs)) n in
    split ∙ (two ∙ omega arith)

-- the credits of each channel below n are all credits
pub credits_counted : (n : ℕ) (cs : List ℕ) → All (λ c. c < n) cs →
    sum_below (λ v. count_by (λ k. v == k) cs) n ≡ length cs
credits_counted n [] all = sum_none n
credits_counted n (c ∷ cs) all =
    let rest = credits_counted n cs (All-tail (λ (d : ℕ). d < n) c cs all) in
    let one = one_of n c (All-head (λ (d : ℕ). d < n) c cs all) in
    let split =
    sum_same (λ v. count_by (λ k. v == k) (c ∷ cs)) (λ v. cond (v == c) 1 0 + count_by (λ k. v == k) cs) n
    (λ v. count-cons v c cs) in
    let two = sum_add (λ v. cond (v == c) 1 0) (λ v. count_by (λ k. v == k) cs) n in
    split ∙ (two ∙ omega arith)

pub bounded : (f : ℕ → ℕ) (n d : ℕ) → ((v : ℕ) → v < n → f v ≤ d) → sum_below f n ≤ n * d
bounded f zero d h = omega arith
bounded f (suc n) d h =
    let rest = bounded f n d (λ v b. h v (omega arith)) in let here = h n (omega arith) in omega arith

pub bounded_less : (f : ℕ → ℕ) (n d c : ℕ) → ((v : ℕ) → v < n → f v ≤ d) → c < n → f c < d → sum_below f n < n * d
bounded_less f zero d c h below less = absurd (omega arith)
bounded_less f (suc n) d c h below less =
    elim (cases_eq c n) [
      | inl same ↦
          let rest = bounded f n d (λ v b. h v (omega arith)) in
          let here : f n < d = rw (← same) less in
          omega arith
      | inr other ↦
          let rest = bounded_less f n d c (λ v b. h v (omega arith)) (omega arith) less in
          let here = h n (omega arith) in
          omega arith
    ]

-- what a Send needs to push
pub link_room : (s : NetState) (x o y c : ℕ) → {own : ℕ → Bool} → IsWorkableBy own s →
    (own x ≡ true) × (own y ≡ true) → neighbour_of s.mesh x o ≡ Some y → has_neighbour s.mesh x o ≡ true →
    links_before s.mesh x o < length s.links
    → c < sum s.channels → 0 < (network_of s).credits x o c →
    length (link_at s (links_before s.mesh x o)).flits < (link_at s (links_before s.mesh x o)).room
unfolding net_shape
link_room s x o y c net inner e has bound c_in credit =
    let N = network_of s in
    let n = sum s.channels in
    let all : All (λ f. f.vc < n) (N.out x o) =
    All-weaker (IsSent (shape s)) (λ (f : Flit). f.vc < n) (λ f is_sent. is_sent.channel) (N.out x o)
    (net.works.out x o) in
    let each : (v : ℕ) → v < n → length (on_channel v (N.out x o)) ≤ s.depth = λ v v_in.
    let total = net.works.credits x o y v v_in e inner.0 inner.1 in omega arith in
    let less : length (on_channel c (N.out x o)) < s.depth =
    let total = net.works.credits x o y c c_in e inner.0 inner.1 in omega arith in
    let count = counted n (N.out x o) all in
    let few = bounded_less (λ v. length (on_channel v (N.out x o))) n s.depth c each c_in less in
    let room = net.framed.rooms (links_before s.mesh x o) bound in
    let flits = ap (λ (fs : List Flit). length fs) (out_there s x o net.framed has) in
    omega arith
