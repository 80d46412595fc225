-- Links whose history has a past.
use Rattle.std.proofs.Common.{◌≡◌, ℕ, zero, suc, ◌+◌, ◌<◌, ◌≤◌, Bool, true, false, cond, ◌⊎◌, inl, inr, ◌==◌, List, []}
use Rattle.std.proofs.Common.{◌∷◌, ◌++◌, Option, Some, None, MatchBool, refl, ◌∙◌, ap, arith, All, append-nil}
use Rattle.std.proofs.Common.{append_assoc}
use Rattle.std.specs.Option.{option_to_list}
use Rattle.std.proofs.lemmas.List.Elements.{All-head, All-tail, filter-append}
use Rattle.worm_flit.specs.declared.Flit.{Flit}
use Rattle.worm_flit.specs.Kinds.{opens, closes}
use Rattle.worm_flit.specs.Stamps.{bare, on_channel}
use Rattle.worm_flit.specs.Worms.{Opens, IsWorm, Continues, latest}
use Rattle.worm_theory.specs.Worm.{Worm, Between, Within, MayCome, Runs, after_flit, worm_after}
use Rattle.worm_theory.specs.Shape.{Shape}
use Rattle.worm_theory.specs.Network.{Network, upstream}
use Rattle.worm_theory.specs.Sound.{Leaves}
use Rattle.worm_theory.proofs.Places.{number_cases}
use Rattle.worm_theory.proofs.WormFormed.{Follows-cases, Runs-worm}
use Rattle.worm_theory.specs.Parts.{Parts, worm_end, opened}
use Rattle.worm_theory.specs.PartSound.{PartSound}
use Rattle.worm_theory.specs.Links.{GoesOn}
use Rattle.worm_theory.specs.Openings.{IsOpening, seed, seed_from, seeds}
use Rattle.worm_theory.proofs.PartLists.{worm_end-append}

cases-follow : (b : Bool) (f g : Flit) →
    MatchBool b (Opens g) ((opens g.kind ≡ false) × (g.lane ≡ f.lane) × (g.packet ≡ f.packet) ×
    (g.index ≡ f.index + 1)) → MayCome (cond b Between (Within (bare f))) g
cases-follow true f g h = h
cases-follow false f g h = h

-- A worm with one flit more: the flit comes where the worm leads, and the other way round.
worm-push : (g : Flit) (gs : List Flit) (f : Flit) → IsWorm (g ∷ gs) → MayCome (worm_end (after_flit g) gs) f →
    IsWorm (g ∷ (gs ++ f ∷ []))
worm-push g [] f h next = (Follows-cases (closes g.kind) g f next, (tt, tt))
worm-push g (e ∷ gs) f h next = (h.0, worm-push e gs f h.1 next)

worm-last : (g : Flit) (gs : List Flit) (f : Flit) → IsWorm (g ∷ (gs ++ f ∷ [])) →
    MayCome (worm_end (after_flit g) gs) f
worm-last g [] f h = cases-follow (closes g.kind) g f h.0
worm-last g (e ∷ gs) f h = worm-last e gs f h.1

-- after a past that leads to one place from anywhere, and so is not empty
module _ (at : Worm) where
  from_past : (past fs : List Flit) → ((w : Worm) → worm_end w past ≡ at) → (start : Worm) →
      worm_end start (past ++ fs) ≡ worm_end at fs
  from_past past fs stands start = worm_end-append past fs start ∙ ap (λ w. worm_end w fs) (stands start)

  never_empty : (f : Flit) → ((w : Worm) → w ≡ at) → ⊥
  never_empty f stands = let one = stands Between in let two = stands (Within f) in cc

  last_after : (past fs : List Flit) (f : Flit) → ((w : Worm) → worm_end w past ≡ at) → Continues (past ++ fs) f →
      MayCome (worm_end at fs) f
  last_after [] fs f stands h = absurd (never_empty f stands)
  last_after (g ∷ past) fs f stands h =
      let end : worm_end (after_flit g) (past ++ fs) ≡ worm_end at fs = from_past (g ∷ past) fs stands Between in
      rw end at (worm-last g (past ++ fs) f h)

  grows_after : (past fs : List Flit) (f : Flit) → ((w : Worm) → worm_end w past ≡ at) → IsWorm (past ++ fs) →
      MayCome (worm_end at fs) f → Continues (past ++ fs) f
  grows_after [] fs f stands h next = absurd (never_empty f stands)
  grows_after (g ∷ past) fs f stands h next =
      let end : worm_end (after_flit g) (past ++ fs) ≡ worm_end at fs = from_past (g ∷ past) fs stands Between in
      worm-push g (past ++ fs) f h (rw end next)

module _ (s : Shape) (old : Network) (x p : ℕ) (past fs : List Flit) (f : Flit) (opening : IsOpening s old x p past)
    (there : f.vc < s.vcs) where
  split_past : on_channel f.vc (past ++ fs) ≡ on_channel f.vc past ++ on_channel f.vc fs
  split_past = filter-append (λ (g : Flit). f.vc == g.vc) past fs

  -- what the link's own rule says of a flit that comes off it
  pub pop_goes_on : Continues (on_channel f.vc (past ++ fs)) f → GoesOn old x p fs f
  pop_goes_on h =
      last_after (opened old x p f.vc) (on_channel f.vc past) (on_channel f.vc fs) f (opening.stands f.vc there)
      (rw split_past at h)

  -- what the link's own rule asks of a flit that goes onto it
  pub push_continues : IsWorm (on_channel f.vc (past ++ fs)) → GoesOn old x p fs f →
      Continues (on_channel f.vc (past ++ fs)) f
  push_continues worm next =
      rw split_past (grows_after (opened old x p f.vc) (on_channel f.vc past) (on_channel f.vc fs) f
      (opening.stands f.vc there) (rw split_past at worm) next)

-- flits that run on from where a past leads are a worm with it
run_after : (fs : List Flit) (g : Flit) (gs : List Flit) (to : Worm) → IsWorm (g ∷ gs) →
    Runs (worm_end (after_flit g) gs) fs to → IsWorm (g ∷ (gs ++ fs))
run_after [] g gs to h runs = rw (append-nil gs) h
run_after (f ∷ fs) g gs to h runs =
    let end = worm_end-append gs (f ∷ []) (after_flit g) in
    let more = run_after fs g (gs ++ f ∷ []) to (worm-push g gs f h runs.0) (rw end runs.1) in
    rw (append_assoc gs (f ∷ []) fs) at more

worm_after_past : (past fs : List Flit) (at to : Worm) → ((w : Worm) → worm_end w past ≡ at) → IsWorm past →
    Runs at fs to → IsWorm (past ++ fs)
worm_after_past [] fs at to stands h runs = Runs-worm fs at to runs
worm_after_past (g ∷ past) fs at to stands h runs = let end = stands Between in run_after fs g past to h (rw end runs)

-- what leaves by a link is on one of its channels
off_range : (s : Shape) (y o v : ℕ) (fs : List Flit) → s.vcs ≤ v → All (Leaves s y o) fs → on_channel v fs ≡ []
off_range s y o v [] beyond h = refl
off_range s y o v (f ∷ fs) beyond h =
    let there = (All-head (Leaves s y o) f fs h).owned.0 in
    let rest = off_range s y o v fs beyond (All-tail (Leaves s y o) f fs h) in
    elim (number_cases v f.vc) [
      | inl on ↦ let same = on.1 in absurd (omega arith)
      | inr off ↦ rw off.0 rest
    ]

-- what was sent on a link is, after its past, a worm on each channel
pub sent_worms : (s : Shape) (old : Network) (parts : Parts) → PartSound s old parts → (y o x : ℕ) →
    s.neighbour y o ≡ Some x → (past : List Flit) → IsOpening s old x (s.opposite o) past → (v : ℕ) →
    IsWorm (on_channel v (past ++ parts.near.out y o))
sent_worms s old parts sound y o x linked past opening v =
    let both = filter-append (λ (g : Flit). v == g.vc) past (parts.near.out y o) in
    let order : (v < s.vcs) ⊎ (s.vcs ≤ v) = grind arith in
    elim order [
      | inl there ↦
          rw both (worm_after_past (on_channel v past) (on_channel v (parts.near.out y o))
          (opened old x (s.opposite o) v) (upstream parts.near y o v) (opening.stands v there) (opening.worms v)
          (sound.departures y o x v linked))
      | inr beyond ↦
          let none = off_range s y o v (parts.near.out y o) beyond (sound.leaving y o) in
          rw (both, none, append-nil (on_channel v past)) (opening.worms v)
    ]

-- the last flit decides where a channel stands
latest_stands : (f : Flit) (fs : List Flit) → worm_after (latest (f ∷ fs)) ≡ worm_end (after_flit f) fs
latest_stands f [] = refl
latest_stands f (g ∷ fs) = latest_stands g fs

joint_stands : (last : Option Flit) (fs : List Flit) →
    worm_after (latest (option_to_list last ++ fs)) ≡ worm_end (worm_after last) fs
joint_stands None [] = refl
joint_stands None (f ∷ fs) = latest_stands f fs
joint_stands (Some f) fs = latest_stands f fs

seed_channel : (v : ℕ) (last : Option Flit) → (seed_from v last).vc ≡ v
seed_channel v None = refl
seed_channel v (Some f) = refl

seed_stands : (v : ℕ) (last : Option Flit) → after_flit (seed_from v last) ≡ worm_after last
seed_stands v None = refl
seed_stands v (Some f) = refl

module _ (s : Shape) (old : Network) (x p : ℕ) where
  seeds_on : (n v : ℕ) → ((v < n) × (on_channel v (seeds old x p n) ≡ seed old x p v ∷ [])) ⊎
      ((n ≤ v) × (on_channel v (seeds old x p n) ≡ []))
  seeds_on zero v = inr (omega arith, refl)
  seeds_on (suc n) v =
      let more = filter-append (λ (g : Flit). v == g.vc) (seeds old x p n) (seed old x p n ∷ []) in
      let channel = seed_channel n (latest (option_to_list (old.last_out x p n) ++ old.buffer x p n)) in
      elim (number_cases v n) [
        | inl on ↦
            elim (seeds_on n v) [
              | inl below ↦ let less = below.0 in let same = on.1 in absurd (omega arith)
              | inr above ↦ inl (let same = on.1 in omega arith, rw (more, above.1, channel, on.0, on.1) refl)
            ]
        | inr off ↦
            elim (seeds_on n v) [
              | inl below ↦ inl (let less = below.0 in omega arith, rw (more, below.1, channel, off.0) refl)
              | inr above ↦
                  inr (let less = above.0 in let other = off.1 in grind arith, rw (more, above.1, channel, off.0) refl)
            ]
      ]

  pub seeds_open : IsOpening s old x p (seeds old x p s.vcs)
  seeds_open = record {
    worms = λ v. elim (seeds_on s.vcs v) [ inl below ↦ rw below.1 (tt, tt) | inr above ↦ rw above.1 tt ];
    stands = λ v there w.
        elim (seeds_on s.vcs v) [
          | inl below ↦
              rw below.1 (seed_stands v (latest (option_to_list (old.last_out x p v) ++ old.buffer x p v)) ∙
              joint_stands (old.last_out x p v) (old.buffer x p v))
          | inr above ↦ let less = above.0 in absurd (omega arith)
        ];
  }
