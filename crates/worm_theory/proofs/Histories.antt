-- What a lane's history holds of each of its packets: it whole, numbered from 0, closed by its last flit alone.
use Rattle.std.proofs.Common.{◌≡◌, ℕ, ◌+◌, ◌<◌, ◌≤◌, ◌⊎◌, inl, inr, Bool, true, false, ◌==◌, ◌&&◌, List, [], ◌∷◌, ◌++◌}
use Rattle.std.proofs.Common.{map, Some, refl, sym, ap, subst, ◌∙◌, arith, append-nil, eq-eqb}
use Rattle.worm_flit.specs.declared.Lane.{Lane}
use Rattle.worm_flit.specs.declared.Kind.TheVariants.{Head, Body}
use Rattle.worm_flit.specs.declared.Flit.{Flit}
use Rattle.worm_flit.specs.Kinds.{closes}
use Rattle.worm_flit.specs.Stamps.{bare, is_of_lane, of_lane}
use Rattle.worm_flit.specs.Packets.{History, closed, flit, fresh, later_flits, mark, packet, packet_flits}
use Rattle.worm_flit.specs.Worms.{latest}
use Rattle.worm_theory.specs.Network.{Network}
use Rattle.worm_theory.specs.Steps.{lane_injected, next_number}
use Rattle.worm_theory.specs.Sound.{IsHistory}
use Rattle.worm_theory.specs.PacketCut.{packet_held, IsWhole}
use Rattle.worm_theory.specs.OpenPast.{NoneCloses}
use Rattle.worm_theory.proofs.Places.{number_cases, bool_cases, and_false_r}
use Rattle.worm_theory.proofs.PacketLists.{packet_one, packet-cons, packet-append, IsIndexed}

own_lane : (lane : Lane) (n : ℕ) → is_of_lane lane (flit lane n 0 Head 0) ≡ true
own_lane lane n = rw (eq-eqb lane.src lane.src refl, eq-eqb lane.dst lane.dst refl, eq-eqb lane.class lane.class refl)

-- whether the flits of packet n are those of packet k
module _ (lane : Lane) (k n : ℕ) where
  abbrev own_test : Bool
  own_test = is_of_lane lane (flit lane n 0 Head 0) && (k == n)

  own_number : k ≡ n → own_test ≡ true
  own_number e = rw (own_lane lane n, eq-eqb k n e)

  other_number : (k ≡ n → ⊥) → own_test ≡ false
  other_number other = and_false_r (is_of_lane lane (flit lane n 0 Head 0)) (k == n)
      (elim (number_cases k n) [ inl own ↦ absurd (other own.1) | inr off ↦ off.0 ])

  later-none : own_test ≡ false → (i : ℕ) (ws : List ℕ) → packet_held lane k (later_flits lane n i ws) ≡ []
  later-none e i [] = refl
  later-none e i (w ∷ []) = rw e
  later-none e i (w ∷ v ∷ ws) = rw e (later-none e (i + 1) (v ∷ ws))

  flits-none : own_test ≡ false → (ws : List ℕ) → packet_held lane k (packet_flits lane n ws) ≡ []
  flits-none e [] = refl
  flits-none e (w ∷ []) = rw e
  flits-none e (w ∷ v ∷ ws) = rw e (later-none e 1 (v ∷ ws))

  later-all : own_test ≡ true → (i : ℕ) (ws : List ℕ)
      → packet_held lane k (later_flits lane n i ws) ≡ map bare (later_flits lane n i ws)
  later-all e i [] = refl
  later-all e i (w ∷ []) = rw e
  later-all e i (w ∷ v ∷ ws) = rw e (ap (λ fs. bare (flit lane n i Body w) ∷ fs) (later-all e (i + 1) (v ∷ ws)))

  flits-all : own_test ≡ true → (ws : List ℕ)
      → packet_held lane k (packet_flits lane n ws) ≡ map bare (packet_flits lane n ws)
  flits-all e [] = refl
  flits-all e (w ∷ []) = rw e
  flits-all e (w ∷ v ∷ ws) = rw e (ap (λ fs. bare (flit lane n 0 Head w) ∷ fs) (later-all e 1 (v ∷ ws)))

-- each packet of a history is whole
pub history-whole : (lane : Lane) (k : ℕ) {n : ℕ} {b : Bool} {fs : List Flit} → History lane n b fs
    → (k < n → IsWhole lane k (packet_held lane k fs)) × (n ≤ k → packet_held lane k fs ≡ [])
history-whole lane k fresh = (λ l. absurd (omega arith), λ _. refl)
history-whole lane k (packet {n} {fs} ws some few h) =
    let before = history-whole lane k h in
    let all = packet-append lane k fs (packet_flits lane n ws) in (
      λ l. elim (number_cases k n) [
        | inl own ↦
            let none = before.1 (let e = own.1 in omega arith) in
            let same : map bare (packet_flits lane n ws) ≡ map bare (packet_flits lane k ws) =
            ap (λ m. map bare (packet_flits lane m ws)) (sym own.1) in
            inl (ws, some, few, rw (all, none) (flits-all lane k n (own_number lane k n own.1) ws ∙ same))
        | inr other ↦
            let apart = other.1 in
            let below : k < n = grind arith in
            rw (all, flits-none lane k n (other_number lane k n other.1) ws, append-nil) (before.0 below)
      ],
      λ le. rw (
        all,
        before.1 (omega arith),
        flits-none lane k n (other_number lane k n (λ e. absurd (omega arith))) ws,
      ),
    )
history-whole lane k (closed {n} {fs} h) =
    let before = history-whole lane k h in
    let all = packet-append lane k fs (mark lane n ∷ []) in (
      λ l. elim (number_cases k n) [
        | inl own ↦
            let none = before.1 (let e = own.1 in omega arith) in
            let same : bare (mark lane n) ∷ [] ≡ bare (mark lane k) ∷ [] =
            ap (λ m. bare (mark lane m) ∷ []) (sym own.1) in
            inr (rw (all, none, own_number lane k n own.1) same)
        | inr other ↦
            let apart = other.1 in
            let below : k < n = grind arith in
            rw (all, other_number lane k n other.1, append-nil) (before.0 below)
      ],
      λ le. rw (all, before.1 (omega arith), other_number lane k n (λ e. absurd (omega arith))),
    )

later-indexed : (lane : Lane) (n i : ℕ) (ws : List ℕ) → IsIndexed i (map bare (later_flits lane n i ws))
later-indexed lane n i [] = tt
later-indexed lane n i (w ∷ []) = (refl, tt)
later-indexed lane n i (w ∷ v ∷ ws) = (refl, later-indexed lane n (i + 1) (v ∷ ws))

flits-indexed : (lane : Lane) (n : ℕ) (ws : List ℕ) → IsIndexed 0 (map bare (packet_flits lane n ws))
flits-indexed lane n [] = tt
flits-indexed lane n (w ∷ []) = (refl, tt)
flits-indexed lane n (w ∷ v ∷ ws) = (refl, later-indexed lane n 1 (v ∷ ws))

-- only the last flit closes
abbrev pub ClosesLast : List Flit → Type 0
ClosesLast [] = Unit {0}
ClosesLast (f ∷ fs) = (closes f.kind ≡ true → fs ≡ []) × ClosesLast fs

later-closes : (lane : Lane) (n i : ℕ) (ws : List ℕ) → ClosesLast (map bare (later_flits lane n i ws))
later-closes lane n i [] = tt
later-closes lane n i (w ∷ []) = (λ _. refl, tt)
later-closes lane n i (w ∷ v ∷ ws) = (λ e. cc, later-closes lane n (i + 1) (v ∷ ws))

flits-closes : (lane : Lane) (n : ℕ) (ws : List ℕ) → ClosesLast (map bare (packet_flits lane n ws))
flits-closes lane n [] = tt
flits-closes lane n (w ∷ []) = (λ _. refl, tt)
flits-closes lane n (w ∷ v ∷ ws) = (λ e. cc, later-closes lane n 1 (v ∷ ws))

whole-indexed : (lane : Lane) (k : ℕ) (fs : List Flit) → IsWhole lane k fs → IsIndexed 0 fs
whole-indexed lane k fs h =
    elim h [
      | inl words ↦ subst (λ gs. IsIndexed 0 gs) (sym words.3) (flits-indexed lane k words.0)
      | inr marked ↦ subst (λ gs. IsIndexed 0 gs) (sym marked) (refl, tt)
    ]

whole-closes : (lane : Lane) (k : ℕ) (fs : List Flit) → IsWhole lane k fs → ClosesLast fs
whole-closes lane k fs h =
    elim h [
      | inl words ↦ subst ClosesLast (sym words.3) (flits-closes lane k words.0)
      | inr marked ↦ subst ClosesLast (sym marked) (λ _. refl, tt)
    ]

-- what holds of nothing and of a whole packet holds of a packet in a history
by_number : (P : List Flit → Type 0) (lane : Lane) (k n : ℕ) (fs : List Flit) → P []
    → ((gs : List Flit) → IsWhole lane k gs → P gs) → (k < n → IsWhole lane k fs) × (n ≤ k → fs ≡ []) → P fs
by_number P lane k n fs none each h =
    let side : (k < n) ⊎ (n ≤ k) = grind arith in
    elim side [
      | inl below ↦ each fs (h.0 below)
      | inr above ↦ subst P (sym (h.1 above)) none
    ]

pub history-indexed : (lane : Lane) (k : ℕ) {n : ℕ} {b : Bool} {fs : List Flit} → History lane n b fs
    → IsIndexed 0 (packet_held lane k fs)
history-indexed lane k {n} {b} {fs} h =
    by_number (IsIndexed 0) lane k n (packet_held lane k fs) tt (whole-indexed lane k) (history-whole lane k h)

pub history-closes : (lane : Lane) (k : ℕ) {n : ℕ} {b : Bool} {fs : List Flit} → History lane n b fs
    → ClosesLast (packet_held lane k fs)
history-closes lane k {n} {b} {fs} h = by_number ClosesLast lane k n (packet_held lane k fs) tt (whole-closes lane k)
    (history-whole lane k h)

-- where the closing flit comes last, what ends in another flit has none
pub none_closes : (fs gs : List Flit) (g : Flit) → ClosesLast (fs ++ gs) → latest fs ≡ Some g → closes g.kind ≡ false
    → NoneCloses fs
none_closes [] gs g h e unclosed = tt
none_closes (f ∷ []) gs g h e unclosed =
    let one : f ≡ g = cc in
    (ap (λ (q : Flit). closes q.kind) one ∙ unclosed, tt)
none_closes (f ∷ f2 ∷ fs) gs g h e unclosed =
    let rest = none_closes (f2 ∷ fs) gs g h.1 e unclosed in
    elim (bool_cases (closes f.kind)) [
      | inl closing ↦ let none : f2 ∷ (fs ++ gs) ≡ [] = h.0 closing in cc
      | inr still ↦ (still, rest)
    ]

-- the lane's own list has all of the packet
pub packet-of_lane : (lane : Lane) (k : ℕ) (fs : List Flit)
    → packet_held lane k (of_lane lane fs) ≡ packet_held lane k fs
packet-of_lane lane k [] = refl
packet-of_lane lane k (f ∷ fs) =
    elim (bool_cases (is_of_lane lane f)) [
      | inl on ↦
          let e : of_lane lane (f ∷ fs) ≡ f ∷ of_lane lane fs = rw on in
          ap (λ gs. packet_held lane k gs) e ∙ packet-cons lane k f (of_lane lane fs)
          ∙ ap (λ gs. packet_one lane k f ++ gs) (packet-of_lane lane k fs) ∙ sym (packet-cons lane k f fs)
      | inr off ↦
          let e : of_lane lane (f ∷ fs) ≡ of_lane lane fs = rw off in
          let none : packet_held lane k (f ∷ fs) ≡ packet_held lane k fs = rw off in
          ap (λ gs. packet_held lane k gs) e ∙ packet-of_lane lane k fs ∙ sym none
    ]

pub packets_whole : (lane : Lane) (k : ℕ) (net : Network) → IsHistory lane (lane_injected net lane)
    → (k < next_number net lane → IsWhole lane k (packet_held lane k (net.injected lane.src lane.class)))
    × (next_number net lane ≤ k → packet_held lane k (net.injected lane.src lane.class) ≡ [])
packets_whole lane k net h =
    let whole = history-whole lane k h in
    let all = packet-of_lane lane k (net.injected lane.src lane.class) in
    (λ l. subst (λ fs. IsWhole lane k fs) all (whole.0 l), λ le. sym all ∙ whole.1 le)
