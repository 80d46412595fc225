-- What is read of a lane, flit by flit and channel by channel: one more adds its own at the end.
use Rattle.std.proofs.Common.{◌≡◌, ◌≢◌, ℕ, zero, suc, ◌+◌, ◌-◌, ◌<◌, ◌≤◌, ◌==◌, List, [], ◌∷◌, ◌++◌, length, take, sum}
use Rattle.std.proofs.Common.{Option, Some, None, inl, inr, refl, arith, ap, sym, ◌∙◌, add-one, append_assoc}
use Rattle.std.specs.Prelude.{flat_map, slice_get, slice_index, true, false}
use Rattle.std.specs.List.{range_with_len}
use Rattle.std.proofs.lemmas.Bool.{ne_eqb}
use Rattle.std.proofs.lemmas.List.{map-append, append-nil, get_or_past}
use Rattle.std.proofs.lemmas.List.Elements.{filter-append, All-get_or}
use Rattle.std.proofs.lemmas.List.Concat.{flat_map-append}
use Rattle.std.proofs.lemmas.List.Sums.{sum_by_more_le}
use Rattle.worm_flit.specs.declared.Lane.{Lane}
use Rattle.worm_flit.specs.declared.Flit.{Flit}
use Rattle.worm_flit.specs.Channels.{first_channel}
use Rattle.worm_flit.specs.Stamps.{is_of_lane, of_lane, on_channel}
use Rattle.worm_router.specs.Router.{RouterState, ChannelState, IsRouter, IsChannel, fresh_channel, line, input_at}
use Rattle.worm_core.specs.LaneView.{at_place}
use Rattle.worm_core.specs.declared.view.Held.{Held}
use Rattle.worm_core.specs.declared.view.Place.{Place}
use Rattle.worm_region.proofs.NodeWritten.{below_cases}

-- a list up to its item i, and up to its end
pub take_more : {A : Type 0} (xs : List A) (i : ℕ) (x : A) → slice_get xs i ≡ Some x
    → take (i + 1) xs ≡ take i xs ++ x ∷ []
take_more {A} [] i x e = let no : ◌≡◌ {A = Option A} None (Some x) = e in absurd (cc)
take_more {A} (y ∷ ys) zero x e = let is : ◌≡◌ {A = Option A} (Some y) (Some x) = e in let same : y ≡ x = cc in
    ap (λ (z : A). z ∷ []) same
take_more {A} (y ∷ ys) (suc i) x e =
    let next : take (suc i) ys ≡ take i ys ++ x ∷ [] =
    ap (λ (n : ℕ). take n ys) (sym (add-one i)) ∙ take_more ys i x e in
    rw add-one (ap (λ zs. y ∷ zs) next)

pub take_end : {A : Type 0} (xs : List A) (i : ℕ) → slice_get xs i ≡ None → take i xs ≡ xs
take_end {A} [] zero e = refl
take_end {A} [] (suc i) e = refl
take_end {A} (y ∷ ys) zero e = let no : ◌≡◌ {A = Option A} (Some y) None = e in absurd (cc)
take_end {A} (y ∷ ys) (suc i) e = ap (λ zs. y ∷ zs) (take_end ys i e)

pub below_end : {A : Type 0} (xs : List A) (i : ℕ) (x : A) → slice_get xs i ≡ Some x → i < length xs
below_end {A} [] i x e = let no : ◌≡◌ {A = Option A} None (Some x) = e in absurd (cc)
below_end {A} (y ∷ ys) zero x e = omega arith
below_end {A} (y ∷ ys) (suc i) x e = let rest = below_end ys i x e in omega arith

-- a step of a loop that adds a list's items one after another
pub added : (start before item after new more : List Held) → new ≡ before ++ item → before ≡ start ++ after
    → more ≡ after ++ item → new ≡ start ++ more
added start before item after new more put so_far grown =
    put ∙ (ap (λ hs. hs ++ item) so_far ∙ (append_assoc start after item ∙ ap (λ hs. start ++ hs) (sym grown)))

-- of a buffer
pub held-append : (place : Place) (lane : Lane) (fs gs : List Flit)
    → at_place place (of_lane lane (fs ++ gs)) ≡ at_place place (of_lane lane fs) ++ at_place place (of_lane lane gs)
held-append place lane fs gs =
    let one = λ (f : Flit). let h : Held = record { flit = f; place = place } in h in
    ap (at_place place) (filter-append (is_of_lane lane) fs gs) ∙ map-append one (of_lane lane fs) (of_lane lane gs)

pub held-more : (place : Place) (lane : Lane) (fs : List Flit) (i : ℕ) (f : Flit) → slice_get fs i ≡ Some f
    → at_place place (of_lane lane (take (i + 1) fs)) ≡ at_place place (of_lane lane (take i fs))
    ++ at_place place (of_lane lane (f ∷ []))
held-more place lane fs i f e =
    ap (λ gs. at_place place (of_lane lane gs)) (take_more fs i f e) ∙ held-append place lane (take i fs) (f ∷ [])

-- of one channel of a link
on_channel-more : (v : ℕ) (fs : List Flit) (i : ℕ) (f : Flit) → slice_get fs i ≡ Some f
    → on_channel v (take (i + 1) fs) ≡ on_channel v (take i fs) ++ on_channel v (f ∷ [])
on_channel-more v fs i f e = ap (on_channel v) (take_more fs i f e)
    ∙ filter-append (λ (g : Flit). v == g.vc) (take i fs) (f ∷ [])

pub line-more : (place : Place) (lane : Lane) (v : ℕ) (fs : List Flit) (i : ℕ) (f : Flit) → slice_get fs i ≡ Some f
    → f.vc ≡ v
    → at_place place (of_lane lane (on_channel v (take (i + 1) fs)))
    ≡ at_place place (of_lane lane (on_channel v (take i fs))) ++ at_place place (of_lane lane (f ∷ []))
line-more place lane v fs i f e here =
    let test : (v == f.vc) ≡ true = grind arith in
    let one : on_channel v (f ∷ []) ≡ f ∷ [] = rw test refl in
    ap (λ gs. at_place place (of_lane lane gs))
    (on_channel-more v fs i f e ∙ ap (λ gs. on_channel v (take i fs) ++ gs) one)
    ∙ held-append place lane (on_channel v (take i fs)) (f ∷ [])

pub line-same : (place : Place) (lane : Lane) (v : ℕ) (fs : List Flit) (i : ℕ) (f : Flit) → slice_get fs i ≡ Some f
    → f.vc ≢ v
    → at_place place (of_lane lane (on_channel v (take (i + 1) fs)))
    ≡ at_place place (of_lane lane (on_channel v (take i fs)))
line-same place lane v fs i f e other =
    let test : (v == f.vc) ≡ false = ne_eqb v f.vc (λ same. other (sym same)) in
    let none : on_channel v (f ∷ []) ≡ [] = rw test refl in
    ap (λ gs. at_place place (of_lane lane gs))
    (on_channel-more v fs i f e ∙ (ap (λ gs. on_channel v (take i fs) ++ gs) none
    ∙ append-nil (on_channel v (take i fs))))

-- of the channels of a class, rising
range-push : (a n : ℕ) → range_with_len a (n + 1) ≡ range_with_len a n ++ (a + n) ∷ []
range-push a zero = let same : a ≡ a + 0 = omega arith in ap (λ (v : ℕ). v ∷ []) same
range-push a (suc n) =
    let same : a + 1 + n ≡ a + suc n = omega arith in
    let next : range_with_len (a + 1) (suc n) ≡ range_with_len (a + 1) n ++ (a + 1 + n) ∷ [] =
    ap (range_with_len (a + 1)) (sym (add-one n)) ∙ range-push (a + 1) n in
    ap (range_with_len a) (add-one (suc n))
    ∙ ap (λ vs. a ∷ vs) (next ∙ ap (λ (v : ℕ). range_with_len (a + 1) n ++ v ∷ []) same)

pub channel-more : {H : Type 0} (g : ℕ → List H) (a v : ℕ) → a ≤ v
    → flat_map g (range_with_len a (v + 1 - a)) ≡ flat_map g (range_with_len a (v - a)) ++ g v
channel-more {H} g a v low =
    let longer : v + 1 - a ≡ v - a + 1 = omega arith in
    let last : a + (v - a) ≡ v = omega arith in
    ap (λ (n : ℕ). flat_map g (range_with_len a n)) longer ∙ (
    ap (flat_map g) (range-push a (v - a)) ∙ (
    flat_map-append g (range_with_len a (v - a)) ((a + (v - a)) ∷ []) ∙ (
    ap (λ hs. flat_map g (range_with_len a (v - a)) ++ hs) (append-nil (g (a + (v - a)))) ∙
    ap (λ (w : ℕ). flat_map g (range_with_len a (v - a)) ++ g w) last)))

-- lists that are all empty
pub none_each : {X A : Type 0} (f : X → List A) (xs : List X) → ((x : X) → f x ≡ []) → flat_map f xs ≡ []
none_each f [] none = refl
none_each f (x ∷ xs) none = rw (none x) (none_each f xs none)

-- a class's channels are the network's
pub class_within : (counts : List ℕ) (class : ℕ) → class < length counts
    → first_channel counts class + slice_index counts class ≤ sum counts
class_within counts class there = sum_by_more_le (λ (x : ℕ). x) counts class 0 there

-- a router's buffers hold at most 16 flits
pub buffer_few : (r : RouterState) (port vc : ℕ) → IsRouter r → length (input_at r port vc).buffer ≤ 16
buffer_few r port vc sound =
    let all = sound.lists.inputs_sound in
    let few = sound.lists.depth_in in
    elim (below_cases (line r port vc) (length r.inputs)) [
      | inl there ↦
          let channel = All-get_or (IsChannel r.mesh r.channels r.depth) r.inputs (line r port vc)
          (fresh_channel r.depth) there.1 all in
          let fits = channel.fits in
          omega arith
      | inr past ↦
          let fresh : input_at r port vc ≡ fresh_channel r.depth =
          get_or_past r.inputs (line r port vc) (fresh_channel r.depth) past.1 in
          let none : length (input_at r port vc).buffer ≡ 0 = ap (λ (c : ChannelState). length c.buffer) fresh in
          omega arith
    ]
