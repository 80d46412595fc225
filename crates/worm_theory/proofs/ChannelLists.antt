-- Lists of one packet's flits, by channel.
use Rattle.std.proofs.Common.{◌≡◌, ℕ, ◌+◌, ◌<◌, ◌≤◌, inl, inr, true, false, ◌==◌, List, [], ◌∷◌, ◌++◌, length, All}
use Rattle.std.proofs.Common.{refl, sym, ap, ◌∙◌, arith, eq-eqb}
use Rattle.std.proofs.lemmas.List.Elements.{All-head, All-tail}
use Rattle.worm_flit.specs.declared.Lane.{Lane}
use Rattle.worm_flit.specs.declared.Flit.{Flit}
use Rattle.worm_flit.specs.Stamps.{bare, on_channel}
use Rattle.worm_theory.specs.Worm.{Worm, Within, Runs}
use Rattle.worm_theory.specs.PacketCut.{packet_held, joined}
use Rattle.worm_theory.proofs.Places.{number_cases}
use Rattle.worm_theory.proofs.PacketLists.{IsOn, packet_one, packet-cons, packet_cases, first_of_packet, zeros}
use Rattle.worm_theory.proofs.PacketLists.{zeros-append, zeros-first, zeros-le-one, zeros-after, IsIndexed, joined-none}
use Rattle.worm_theory.proofs.PacketLists.{joined-one}

pub some_of : (fs : List Flit) → 0 < length fs → (a : Flit) × (as' : List Flit) × (fs ≡ a ∷ as')
some_of [] h = absurd (omega arith)
some_of (f ∷ fs) h = (f, fs, refl)

pub none_of : (fs : List Flit) → (0 < length fs → ⊥) → fs ≡ []
none_of [] h = refl
none_of (f ∷ fs) h = absurd (h (omega arith))

pub nil_parts : (xs ys : List Flit) → xs ++ ys ≡ [] → (xs ≡ []) × (ys ≡ [])
nil_parts [] ys e = (refl, e)
nil_parts (x ∷ xs) ys e = cc

module _ (lane : Lane) (k : ℕ) where
  pub on-yes : (v : ℕ) (f : Flit) (fs : List Flit) → (v == f.vc) ≡ true
      → packet_held lane k (on_channel v (f ∷ fs)) ≡ packet_one lane k f ++ packet_held lane k (on_channel v fs)
  on-yes v f fs e = rw e (packet-cons lane k f (on_channel v fs))

  pub on-other : (v : ℕ) (f : Flit) (fs : List Flit) → (v == f.vc) ≡ false
      → packet_held lane k (on_channel v (f ∷ fs)) ≡ packet_held lane k (on_channel v fs)
  on-other v f fs e = rw e refl

  pub none_on : (v : ℕ) (fs : List Flit) → packet_held lane k fs ≡ [] → packet_held lane k (on_channel v fs) ≡ []
  none_on v [] e = refl
  none_on v (f ∷ fs) e =
      let parts = nil_parts (packet_one lane k f) (packet_held lane k fs) (sym (packet-cons lane k f fs) ∙ e) in
      elim (number_cases v f.vc) [
        | inl here ↦ on-yes v f fs here.0 ∙ rw (parts.0, none_on v fs parts.1) refl
        | inr away ↦ on-other v f fs away.0 ∙ none_on v fs parts.1
      ]

  -- a packet with a flit in the list has one on a channel of it
  pub first_channel : (m : ℕ) (fs : List Flit) → All (λ f. f.vc < m) fs → 0 < length (packet_held lane k fs)
      → (v : ℕ) × (v < m) × (0 < length (packet_held lane k (on_channel v fs)))
  first_channel m [] h some = absurd (omega arith)
  first_channel m (f ∷ fs) h some =
      elim (packet_cases lane k f) [
        | inl on ↦
            let whole : packet_held lane k (on_channel f.vc (f ∷ fs))
            ≡ bare f ∷ packet_held lane k (on_channel f.vc fs) =
            on-yes f.vc f fs (eq-eqb f.vc f.vc refl) ∙ rw on.0 refl in
            (f.vc, All-head (λ (g : Flit). g.vc < m) f fs h, rw whole (omega arith))
        | inr off ↦
            let rest : 0 < length (packet_held lane k fs) = rw (packet-cons lane k f fs, off.0) at some in
            let r = first_channel m fs (All-tail (λ (g : Flit). g.vc < m) f fs h) rest in (
              r.0,
              r.1,
              elim (number_cases r.0 f.vc) [
                | inl here ↦ rw (on-yes r.0 f fs here.0, off.0) r.2
                | inr away ↦ rw (on-other r.0 f fs away.0) r.2
              ],
            )
      ]

  module _ (m v : ℕ) where
    abbrev pub OthersNone : List Flit → Type 0
    OthersNone fs = (w : ℕ) → w < m → (w ≡ v → ⊥) → packet_held lane k (on_channel w fs) ≡ []

    tail_none : (f : Flit) (fs : List Flit) → OthersNone (f ∷ fs) → OthersNone fs
    tail_none f fs h w l ne =
        elim (number_cases w f.vc) [
          | inl here ↦ (nil_parts (packet_one lane k f) (packet_held lane k (on_channel w fs))
              (sym (on-yes w f fs here.0) ∙ h w l ne)).1
          | inr away ↦ sym (on-other w f fs away.0) ∙ h w l ne
        ]

    -- so all of the packet's flits are on channel v
    pub all_on : (fs : List Flit) → All (λ f. f.vc < m) fs → OthersNone fs
        → packet_held lane k fs ≡ packet_held lane k (on_channel v fs)
    all_on [] a h = refl
    all_on (f ∷ fs) a h =
        let rest = all_on fs (All-tail (λ (g : Flit). g.vc < m) f fs a) (tail_none f fs h) in
        elim (number_cases v f.vc) [
          | inl here ↦ packet-cons lane k f fs
              ∙ (ap (λ gs. packet_one lane k f ++ gs) rest ∙ sym (on-yes v f fs here.0))
          | inr away ↦ elim (packet_cases lane k f) [
            | inl on ↦
                let none = h f.vc (All-head (λ (g : Flit). g.vc < m) f fs a) (λ e. away.1 (sym e)) in
                let whole : bare f ∷ packet_held lane k (on_channel f.vc fs) ≡ [] =
                sym (on-yes f.vc f fs (eq-eqb f.vc f.vc refl) ∙ rw on.0 refl) ∙ none in
                cc
            | inr off ↦ packet-cons lane k f fs ∙ (rw off.0 rest ∙ sym (on-other v f fs away.0))
          ]
        ]

  -- a list whose flits of the packet are on one channel is its channels joined
  pub joined_line : (m : ℕ) (fs : List Flit) → All (λ f. f.vc < m) fs
      → ((v w : ℕ) → v < m → w < m → (v ≡ w → ⊥) → 0 < length (packet_held lane k (on_channel v fs))
      → packet_held lane k (on_channel w fs) ≡ []) →
      packet_held lane k fs ≡ joined m (λ v. packet_held lane k (on_channel v fs))
  joined_line m fs a only = by_list (packet_held lane k fs) refl
    where
      by_list : (hs : List Flit) → packet_held lane k fs ≡ hs
          → packet_held lane k fs ≡ joined m (λ v. packet_held lane k (on_channel v fs))
      by_list [] e = e ∙ sym (joined-none m (λ v. packet_held lane k (on_channel v fs)) (λ v l. none_on v fs e))
      by_list (b ∷ hs) e =
          let first = first_channel m fs a (rw e (omega arith)) in
          let none : (w : ℕ) → w < m → (w ≡ first.0 → ⊥)
          → packet_held lane k (on_channel w fs) ≡ [] =
          λ w l ne. only first.0 w first.1 l (λ e2. ne (sym e2)) first.2 in
          all_on m first.0 fs a none ∙ sym (joined-one m first.0
          (λ v. packet_held lane k (on_channel v fs)) first.1 none)

  -- two channels of a list have no more first flits than the list
  pub zeros-two : (v w : ℕ) (fs : List Flit) → (v ≡ w → ⊥)
      → zeros (packet_held lane k (on_channel v fs)) + zeros (packet_held lane k (on_channel w fs)) ≤ zeros
      (packet_held lane k fs)
  zeros-two v w [] apart = omega arith
  zeros-two v w (f ∷ fs) apart =
      let less = zeros-two v w fs apart in
      let all = ap zeros (packet-cons lane k f fs) ∙ zeros-append (packet_one lane k f) (packet_held lane k fs) in
      elim (number_cases v f.vc) [
        | inl here ↦
            let one = ap zeros (on-yes v f fs here.0)
            ∙ zeros-append (packet_one lane k f) (packet_held lane k (on_channel v fs)) in
            elim (number_cases w f.vc) [
              | inl both ↦ absurd (apart (here.1 ∙ sym both.1))
              | inr away ↦ let two = ap zeros (on-other w f fs away.0) in omega arith
            ]
        | inr gone ↦
            let one = ap zeros (on-other v f fs gone.0) in
            elim (number_cases w f.vc) [
              | inl here ↦ let two = ap zeros (on-yes w f fs here.0)
                  ∙ zeros-append (packet_one lane k f) (packet_held lane k (on_channel w fs)) in omega arith
              | inr away ↦ let two = ap zeros (on-other w f fs away.0) in omega arith
            ]
      ]

  -- Of a packet that is past a run on another channel a run has no flits.
  pub never_within : (before tail : List Flit) → IsIndexed 0 (before ++ tail) → 0 < length before
      → (ys : List Flit) (from to : Worm) → Runs from ys to →
      zeros (packet_held lane k ys) ≤ zeros tail → (IsOn lane k from → ⊥) → 0 < length (packet_held lane k ys) → ⊥
  never_within before tail indexed past ys from to runs room off some_y =
      let b = some_of (packet_held lane k ys) some_y in
      let none = zeros-after before tail indexed past in
      elim (first_of_packet lane k ys from to b.0 b.1 runs b.2) [
        | inl opening ↦ let some_zero : 0 < zeros (packet_held lane k ys) = rw b.2 (zeros-first b.0 b.1 opening) in
            omega arith
        | inr on ↦ off on
      ]

  -- Of a packet numbered from 0 two runs of flits do not both have flits.
  pub never_both : (before tail : List Flit) → IsIndexed 0 (before ++ tail)
      → (xs ys : List Flit) (from_v from_w to_v to_w : Worm) → Runs from_v xs to_v → Runs from_w ys to_w →
      zeros (packet_held lane k xs) + zeros (packet_held lane k ys) ≤ zeros tail →
      ((g : Flit) → from_v ≡ Within g → lane ≡ g.lane → k ≡ g.packet → 0 < length before)
      → ((g : Flit) → from_w ≡ Within g → lane ≡ g.lane → k ≡ g.packet → 0 < length before) →
      ((g g2 : Flit) → from_v ≡ Within g → from_w ≡ Within g2 → lane ≡ g.lane → k ≡ g.packet → lane ≡ g2.lane
      → k ≡ g2.packet → ⊥) →
      0 < length (packet_held lane k xs) → 0 < length (packet_held lane k ys) → ⊥
  never_both before tail indexed xs ys from_v from_w to_v to_w runs_v runs_w room past_v past_w one some_v some_w =
      let a = some_of (packet_held lane k xs) some_v in
      let b = some_of (packet_held lane k ys) some_w in
      let all = zeros-append before tail in
      let once = zeros-le-one (before ++ tail) indexed in
      elim (first_of_packet lane k xs from_v to_v a.0 a.1 runs_v a.2) [
        | inl opens_v ↦
            let some_zero_v : 0 < zeros (packet_held lane k xs) = rw a.2 (zeros-first a.0 a.1 opens_v) in
            elim (first_of_packet lane k ys from_w to_w b.0 b.1 runs_w b.2) [
              | inl opens_w ↦ let some_zero_w : 0 < zeros (packet_held lane k ys) =
                  rw b.2 (zeros-first b.0 b.1 opens_w) in omega arith
              | inr on_w ↦ let none = zeros-after before tail indexed (past_w on_w.0 on_w.1 on_w.2 on_w.3) in
                  omega arith
            ]
        | inr on_v ↦
            elim (first_of_packet lane k ys from_w to_w b.0 b.1 runs_w b.2) [
              | inl opens_w ↦
                  let some_zero_w : 0 < zeros (packet_held lane k ys) = rw b.2 (zeros-first b.0 b.1 opens_w) in
                  let none = zeros-after before tail indexed (past_v on_v.0 on_v.1 on_v.2 on_v.3) in
                  omega arith
              | inr on_w ↦ one on_v.0 on_w.0 on_v.1 on_w.1 on_v.2 on_v.3 on_w.2 on_w.3
            ]
      ]
