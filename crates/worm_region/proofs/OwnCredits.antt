-- Each step keeps the credits of the links of which both ends are owned: what it makes of a link's sum rests on that
-- link's alone.
use Rattle.std.proofs.Common.{◌≡◌, ℕ, ◌<◌, Bool, true, false, ◌⊎◌, inl, inr, List, ◌∷◌, Some, arith, length-append}
use Rattle.worm_flit.specs.declared.Flit.{Flit}
use Rattle.worm_records.specs.declared.InRecord.TheVariants.{Active}
use Rattle.worm_theory.specs.Shape.{Shape, IsMesh}
use Rattle.worm_theory.specs.Network.{Network, same}
use Rattle.worm_theory.specs.Steps.{fed, gave_to, got, sent_by, taken_from}
use Rattle.worm_theory.specs.Sound.{CreditsAdd}
use Rattle.worm_theory.proofs.Credit.{count-cons, count-push}
use Rattle.worm_theory.proofs.Feed.{off_links}
use Rattle.worm_theory.proofs.MeshLaws.{same_end, same_start}
use Rattle.worm_theory.proofs.Places.{number_cases, place_cases, same-true, same-false}
use Rattle.worm_theory.proofs.Send.{down_sum, up_sum}
use Rattle.worm_region.specs.Workable.{OwnCreditsAdd}

-- all links are among them, where each node is owned
pub own_of_all : (s : Shape) (own : ℕ → Bool) (net : Network) → CreditsAdd s net → OwnCreditsAdd s own net
own_of_all s own net sound y o x v there_v linked own_y own_x = sound y o x v there_v linked

module _ (s : Shape) (mesh : IsMesh s) {own : ℕ → Bool} (net : Network) (x k : ℕ) (class_there : k < s.classes)
    (f : Flit) (rest : List Flit) (front : net.unfed x k ≡ f ∷ rest) where
  pub own_feed : OwnCreditsAdd s own net → OwnCreditsAdd s own (fed s net x k (f ∷ rest))
  own_feed sound y2 o2 x2 v2 there_v n2 own_y own_x =
      let away = off_links s mesh net x k class_there f rest front y2 o2 x2 n2 in
      rw away (sound y2 o2 x2 v2 there_v n2 own_y own_x)

module _ (s : Shape) (mesh : IsMesh s) {own : ℕ → Bool} (net : Network) (x p v o c : ℕ) (f : Flit) (rest : List Flit)
    (active : net.in_record x p v ≡ Active o c) (front : net.buffer x p v ≡ f ∷ rest) where
  pub own_send : (0 < net.credits x o c) ⊎ (o ≡ s.terminal) → OwnCreditsAdd s own net →
      OwnCreditsAdd s own (sent_by s net x p v o c f rest)
  own_send may sound y2 o2 x2 v2 there_v n2 own_y own_x =
      let h = sound y2 o2 x2 v2 there_v n2 own_y own_x in
      let off : o2 ≡ s.terminal → ⊥ = λ e.
      let alone = mesh.terminal_alone y2 in let clash : s.neighbour y2 s.terminal ≡ Some x2 = cc in cc in
      let up = up_sum s net x p v o c f rest active front may y2 o2 v2 off in
      let back = mesh.link_back y2 o2 x2 n2 in
      let down = down_sum s net x p v o c f rest active front x2 (s.opposite o2) v2 (rw back) in
      omega arith

module _ (s : Shape) (mesh : IsMesh s) {own : ℕ → Bool} (net : Network) (x p y : ℕ) (linked : s.neighbour x p ≡ Some y)
    (f : Flit) (rest : List Flit) (front : net.out y (s.opposite p) ≡ f ∷ rest) where
  pub own_take : OwnCreditsAdd s own net → OwnCreditsAdd s own (taken_from net x p y (s.opposite p) (f ∷ rest))
  own_take sound y2 o2 x2 v2 there_v n2 own_y own_x =
      let h = sound y2 o2 x2 v2 there_v n2 own_y own_x in
      elim (place_cases y2 o2 y (s.opposite p)) [
        | inl here ↦
            let ends = same_end s mesh x p y linked y2 o2 x2 n2 here.1 here.2 in
            let there : same x2 (s.opposite o2) x p ≡ true = same-true x2 (s.opposite o2) x p ends.0 ends.1 in
            let line : net.out y2 o2 ≡ f ∷ rest = cc in
            let at_front = rw line at h in
            elim (number_cases v2 f.vc) [
              | inl on ↦
                  let full : net.buffer x2 (s.opposite o2) v2 ≡ net.buffer x p f.vc = cc in
                  let sum = rw on.0 at at_front in
                  rw (here.0, there, on.0, ← full) (simp length-append (omega arith))
              | inr off ↦ rw (here.0, there, off.0) (rw off.0 at at_front)
            ]
        | inr away ↦
            let there : same x2 (s.opposite o2) x p ≡ false =
            same-false x2 (s.opposite o2) x p (λ e1 e2.
            let starts = same_start s mesh x p y linked y2 o2 x2 n2 e1 e2 in away.1 starts.0 starts.1) in
            rw (away.0, there) h
      ]

module _ (s : Shape) (mesh : IsMesh s) {own : ℕ → Bool} (net : Network) (x p y v : ℕ)
    (linked : s.neighbour x p ≡ Some y) where
  pub own_give : 0 < net.owed x p v → OwnCreditsAdd s own net →
      OwnCreditsAdd s own (gave_to net x p v y (s.opposite p))
  own_give owed sound y2 o2 x2 v2 there_v n2 own_y own_x =
      let h = sound y2 o2 x2 v2 there_v n2 own_y own_x in
      elim (place_cases y2 o2 y (s.opposite p)) [
        | inl here ↦
            let ends = same_end s mesh x p y linked y2 o2 x2 n2 here.1 here.2 in
            let there : same x2 (s.opposite o2) x p ≡ true = same-true x2 (s.opposite o2) x p ends.0 ends.1 in
            let line : net.credit_list y2 o2 ≡ net.credit_list y (s.opposite p) = cc in
            elim (number_cases v2 v) [
              | inl on ↦
                  let debt : net.owed x2 (s.opposite o2) v2 ≡ net.owed x p v = cc in
                  rw (here.0, there, ← line, count-push v2 v (net.credit_list y2 o2), on.0) (omega arith)
              | inr off ↦ rw (here.0, there, ← line, count-push v2 v (net.credit_list y2 o2), off.0) (omega arith)
            ]
        | inr away ↦
            let there : same x2 (s.opposite o2) x p ≡ false =
            same-false x2 (s.opposite o2) x p (λ e1 e2.
            let starts = same_start s mesh x p y linked y2 o2 x2 n2 e1 e2 in away.1 starts.0 starts.1) in
            rw (away.0, there) h
      ]

module _ (s : Shape) {own : ℕ → Bool} (net : Network) (x o c : ℕ) (rest : List ℕ)
    (front : net.credit_list x o ≡ c ∷ rest) where
  pub own_get : OwnCreditsAdd s own net → OwnCreditsAdd s own (got net x o (c ∷ rest))
  own_get sound y2 o2 x2 v2 there_v n2 own_y own_x =
      let h = sound y2 o2 x2 v2 there_v n2 own_y own_x in
      elim (place_cases y2 o2 x o) [
        | inl here ↦
            let line : net.credit_list y2 o2 ≡ c ∷ rest = cc in
            let sum = rw (line, count-cons v2 c rest) at h in
            elim (number_cases v2 c) [
              | inl on ↦
                  let count : net.credits y2 o2 v2 ≡ net.credits x o c = cc in
                  let more = rw on.0 at sum in
                  rw (here.0, on.0) (omega arith)
              | inr off ↦
                  let more = rw off.0 at sum in
                  rw (here.0, off.0) (omega arith)
            ]
        | inr away ↦ rw away.0 h
      ]
