-- Lists of one packet's flits.
use Rattle.std.proofs.Common.{◌≡◌, ℕ, suc, zero, ◌+◌, ◌<◌, ◌≤◌, ◌⊎◌, inl, inr, true, false, cond, ◌==◌, List, [], ◌∷◌}
use Rattle.std.proofs.Common.{◌++◌, filter, length, count_by, refl, sym, ap, ◌∙◌, arith, append_assoc, append-nil}
use Rattle.std.proofs.Common.{eq-eqb}
use Rattle.std.proofs.lemmas.List.Sums.{sum_by-append, sum_by-cons}
use Rattle.worm_flit.specs.declared.Lane.{Lane}
use Rattle.worm_flit.specs.declared.Flit.{Flit}
use Rattle.worm_flit.specs.Stamps.{bare}
use Rattle.worm_flit.specs.Kinds.{closes}
use Rattle.worm_theory.specs.Worm.{Worm, Between, Within, Runs, MayCome, after_flit}
use Rattle.worm_theory.specs.PacketCut.{is_of_packet, packet_held, joined}
use Rattle.worm_theory.proofs.Places.{number_cases}
use Rattle.worm_theory.proofs.Packets.{same_lane_cases, is_same_lane}
use Rattle.worm_theory.proofs.Runs.{within-is}
use Rattle.worm_theory.proofs.Cut.{one-cons}

-- what one flit adds to its packet
abbrev pub packet_one : Lane → ℕ → Flit → List Flit
packet_one lane k f = cond (is_of_packet lane k f) (bare f ∷ []) []

pub packet-cons : (lane : Lane) (k : ℕ) (f : Flit) (fs : List Flit)
    → packet_held lane k (f ∷ fs) ≡ packet_one lane k f ++ packet_held lane k fs
packet-cons lane k f fs = one-cons (is_of_packet lane k f) f (filter (is_of_packet lane k) fs)

pub packet-append : (lane : Lane) (k : ℕ) (fs gs : List Flit)
    → packet_held lane k (fs ++ gs) ≡ packet_held lane k fs ++ packet_held lane k gs
packet-append lane k [] gs = refl
packet-append lane k (f ∷ fs) gs =
    rw (
      packet-cons lane k f (fs ++ gs),
      packet-cons lane k f fs,
      packet-append lane k fs gs,
      append_assoc (packet_one lane k f) (packet_held lane k fs) (packet_held lane k gs),
    )

pub packet-push : (lane : Lane) (k : ℕ) (fs : List Flit) (f : Flit)
    → packet_held lane k (fs ++ f ∷ []) ≡ packet_held lane k fs ++ packet_one lane k f
packet-push lane k fs f = rw (packet-append lane k fs (f ∷ []), packet-cons lane k f [], append-nil)

lane_differs : (other lane : Lane) → is_same_lane other lane ≡ false → other ≡ lane → ⊥
lane_differs other lane off e =
    let src = ap (λ (l : Lane). l.src) (sym e) in
    let dst = ap (λ (l : Lane). l.dst) (sym e) in
    let class = ap (λ (l : Lane). l.class) (sym e) in
    let on : is_same_lane other lane ≡ true =
    rw (eq-eqb lane.src other.src src, eq-eqb lane.dst other.dst dst, eq-eqb lane.class other.class class) in
    cc

-- whether a flit is of the packet
pub packet_cases : (lane : Lane) (k : ℕ) (f : Flit)
    → ((is_of_packet lane k f ≡ true) × (lane ≡ f.lane) × (k ≡ f.packet))
    ⊎ ((is_of_packet lane k f ≡ false) × (lane ≡ f.lane → k ≡ f.packet → ⊥))
packet_cases lane k f =
    elim (same_lane_cases lane f.lane) [
      | inl on ↦ elim (number_cases k f.packet) [
        | inl own ↦ inl (rw (on.0, own.0), on.1, own.1)
        | inr other ↦ inr (rw (on.0, other.0), λ _ e. other.1 e)
      ]
      | inr off ↦ inr (rw off, λ e _. absurd (lane_differs lane f.lane off e))
    ]

-- the channel is within the packet
abbrev pub IsOn : Lane → ℕ → Worm → Type 0
IsOn lane k a = (g : Flit) × (a ≡ Within g) × (lane ≡ g.lane) × (k ≡ g.packet)

-- the first flit of a packet in a channel opens it, or goes on with what the channel is within
module _ (lane : Lane) (k : ℕ) where
  first-here : (a : Worm) (f : Flit) → MayCome a f → lane ≡ f.lane → k ≡ f.packet → (f.index ≡ 0) ⊎ IsOn lane k a
  first-here Between f h e1 e2 = inl h.1
  first-here (Within g) f h e1 e2 = inr (g, refl, e1 ∙ h.1, e2 ∙ h.2)

  pub first_of_packet : (fs : List Flit) (a c : Worm) (b : Flit) (bs : List Flit) → Runs a fs c
      → packet_held lane k fs ≡ b ∷ bs → (b.index ≡ 0) ⊎ IsOn lane k a
  first_of_packet [] a c b bs h e = cc
  first_of_packet (f ∷ fs) a c b bs h e =
      elim (packet_cases lane k f) [
        | inl own ↦
            let now = rw own.0 at e in
            let first : bare f ≡ b = cc in
            elim (first-here a f h.0 own.1 own.2) [
              | inl opens ↦ inl (sym (ap (λ (g : Flit). g.index) first) ∙ opens)
              | inr goes_on ↦ inr goes_on
            ]
        | inr other ↦
            let later = rw other.0 at e in
            elim (first_of_packet fs (after_flit f) c b bs h.1 later) [
              | inl opens ↦ inl opens
              | inr goes_on ↦
                  let last = within-is (closes f.kind) f goes_on.0 goes_on.1 in
                  absurd (other.1 (goes_on.2 ∙ sym (ap (λ (g : Flit). g.lane) last))
                  (goes_on.3 ∙ sym (ap (λ (g : Flit). g.packet) last)))
            ]
      ]

-- how many flits of index 0 a list has
abbrev pub zeros : List Flit → ℕ
zeros fs = count_by (λ (f : Flit). f.index == 0) fs

pub zeros-append : (fs gs : List Flit) → zeros (fs ++ gs) ≡ zeros fs + zeros gs
zeros-append fs gs = sum_by-append (λ (f : Flit). cond (f.index == 0) 1 0) fs gs

pub zeros-cons : (f : Flit) (fs : List Flit) → zeros (f ∷ fs) ≡ cond (f.index == 0) 1 0 + zeros fs
zeros-cons f fs = sum_by-cons (λ (g : Flit). cond (g.index == 0) 1 0) f fs

pub zeros-first : (f : Flit) (fs : List Flit) → f.index ≡ 0 → 0 < zeros (f ∷ fs)
zeros-first f fs e = rw (zeros-cons f fs, e) (omega arith)

abbrev pub IsIndexed : ℕ → List Flit → Type 0
IsIndexed i [] = Unit {0}
IsIndexed i (f ∷ fs) = (f.index ≡ i) × IsIndexed (i + 1) fs

no-zeros : (i : ℕ) (fs : List Flit) → 0 < i → IsIndexed i fs → zeros fs ≡ 0
no-zeros i [] pos h = refl
no-zeros i (f ∷ fs) pos h =
    let off : (f.index == 0) ≡ false = elim (number_cases f.index 0) [
      | inl at ↦ let e = h.0 in let z = at.1 in
          absurd (omega arith)
      | inr away ↦ away.0
    ] in
    rw (zeros-cons f fs, off, no-zeros (i + 1) fs (omega arith) h.1)

pub zeros-le-one : (fs : List Flit) → IsIndexed 0 fs → zeros fs ≤ 1
zeros-le-one [] h = omega arith
zeros-le-one (f ∷ fs) h =
    let none = no-zeros 1 fs (omega arith) h.1 in
    rw (zeros-cons f fs, h.0, none) (omega arith)

-- past the first flit there is no further
pub zeros-after : (fs gs : List Flit) → IsIndexed 0 (fs ++ gs) → 0 < length fs → zeros gs ≡ 0
zeros-after [] gs h some = absurd (omega arith)
zeros-after (f ∷ fs) gs h some =
    let none = no-zeros 1 (fs ++ gs) (omega arith) h.1 in
    let sum = zeros-append fs gs in
    omega arith

-- joined lists
pub joined-same : (n : ℕ) (a b : ℕ → List Flit) → ((v : ℕ) → v < n → a v ≡ b v) → joined n a ≡ joined n b
joined-same zero a b h = refl
joined-same (suc n) a b h = rw (joined-same n a b (λ v l. h v (omega arith)), h n (omega arith))

pub joined-none : (n : ℕ) (a : ℕ → List Flit) → ((v : ℕ) → v < n → a v ≡ []) → joined n a ≡ []
joined-none zero a h = refl
joined-none (suc n) a h = rw (joined-none n a (λ v l. h v (omega arith)), h n (omega arith))

pub joined-one : (n v : ℕ) (a : ℕ → List Flit) → v < n → ((w : ℕ) → w < n → (w ≡ v → ⊥) → a w ≡ []) → joined n a ≡ a v
joined-one zero v a l h = absurd (omega arith)
joined-one (suc n) v a l h =
    elim (number_cases n v) [
      | inl last ↦
          let rest = joined-none n a (λ w m. h w (omega arith) (λ e. let at = last.1 in absurd (omega arith))) in
          rw (rest, last.1)
      | inr earlier ↦
          let none = h n (omega arith) earlier.1 in
          let apart = earlier.1 in
          let below : v < n = grind arith in
          rw (none, append-nil, joined-one n v a below (λ w m other. h w (omega arith) other))
    ]

pub joined-at : (n v : ℕ) (a : ℕ → List Flit) → v < n → zeros (a v) ≤ zeros (joined n a)
joined-at zero v a l = absurd (omega arith)
joined-at (suc n) v a l =
    let sum = zeros-append (joined n a) (a n) in
    elim (number_cases v n) [
      | inl last ↦ rw (last.1, sum) (omega arith)
      | inr earlier ↦
          let apart = earlier.1 in
          let below : v < n = grind arith in
          let less = joined-at n v a below in
          rw sum (omega arith)
    ]

pub joined-two : (n v w : ℕ) (a : ℕ → List Flit) → v < n → w < n → (v ≡ w → ⊥)
    → zeros (a v) + zeros (a w) ≤ zeros (joined n a)
joined-two zero v w a l m apart = absurd (omega arith)
joined-two (suc n) v w a l m apart =
    let sum = zeros-append (joined n a) (a n) in
    elim (number_cases v n) [
      | inl v_last ↦
          let below : w < n = grind arith in
          let less = joined-at n w a below in
          rw (v_last.1, sum) (omega arith)
      | inr v_earlier ↦
          let v_apart = v_earlier.1 in
          let v_below : v < n = grind arith in
          elim (number_cases w n) [
            | inl w_last ↦
                let less = joined-at n v a v_below in
                rw (w_last.1, sum) (omega arith)
            | inr w_earlier ↦
                let w_apart = w_earlier.1 in
                let w_below : w < n = grind arith in
                let less = joined-two n v w a v_below w_below apart in
                rw sum (omega arith)
          ]
    ]
