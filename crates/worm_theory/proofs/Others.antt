-- The other channels at the terminal stay empty and idle.
use Rattle.std.proofs.Common.{◌≡◌, ℕ, ◌<◌, inl, inr, List, [], ◌∷◌, Option, Some, None, refl, sym}
use Rattle.worm_flit.specs.declared.Flit.{Flit}
use Rattle.worm_theory.specs.Shape.{Shape, IsMesh}
use Rattle.worm_theory.specs.Network.{Network}
use Rattle.worm_records.specs.declared.InRecord.{InRecord}
use Rattle.worm_records.specs.declared.InRecord.TheVariants.{Idle, Waiting, Active}
use Rattle.worm_theory.specs.Steps.{Step, Offer, CloseLane, Feed, Route, Grant, Send, Take, GiveCredit, TakeCredit}
use Rattle.worm_theory.specs.Steps.{IsThere, fed, routed, granted, sent, taken, taken_from, gave, got, after, StepsLead}
use Rattle.worm_theory.specs.Steps.{empty}
use Rattle.worm_theory.specs.Sound.{OthersIdle}
use Rattle.worm_theory.proofs.Places.{place3_cases}
use Rattle.worm_theory.proofs.MeshLaws.{is_mesh_port}
use Rattle.worm_theory.proofs.Lists.{any_list}

module _ (s : Shape) (mesh : IsMesh s) (net : Network) (idle : OthersIdle s net) where
  pub feed_others : (x k : ℕ) (fs : List Flit) → k < s.classes → OthersIdle s (fed s net x k fs)
  feed_others x k [] there = idle
  feed_others x k (f ∷ rest) there = λ x2 v2 other.
      let h = idle x2 v2 other in
      elim (place3_cases x2 s.terminal v2 x s.terminal (s.first k)) [
        | inl here ↦
            let owner = (mesh.first_owned k there).1 in
            let first = here.3 in
            let at : s.first (s.owner v2) ≡ v2 = cc in
            absurd (other at)
        | inr away ↦ rw away.0 h
      ]

  pub route_others : (x p v : ℕ) (fs : List Flit) → net.buffer x p v ≡ fs → OthersIdle s (routed s net x p v fs)
  route_others x p v [] e = idle
  route_others x p v (f ∷ rest) e = λ x2 v2 other.
      let h = idle x2 v2 other in
      elim (place3_cases x2 s.terminal v2 x p v) [
        | inl here ↦
            let none = h.0 in
            let full : net.buffer x2 s.terminal v2 ≡ f ∷ rest = cc in
            cc
        | inr away ↦ rw away.0 h
      ]

  pub grant_others : (x p v c : ℕ) (r : InRecord) → net.in_record x p v ≡ r → OthersIdle s (granted net x p v c r)
  grant_others x p v c Idle e = idle
  grant_others x p v c (Active o d) e = idle
  grant_others x p v c (Waiting o) e = λ x2 v2 other.
      let h = idle x2 v2 other in
      elim (place3_cases x2 s.terminal v2 x p v) [
        | inl here ↦
            let none = h.1 in
            let was : net.in_record x2 s.terminal v2 ≡ Waiting o = cc in
            cc
        | inr away ↦ rw away.0 h
      ]

  pub send_others : (x p v : ℕ) (r : InRecord) (fs : List Flit) → net.buffer x p v ≡ fs
      → OthersIdle s (sent s net x p v r fs)
  send_others x p v Idle fs e = idle
  send_others x p v (Waiting o) fs e = idle
  send_others x p v (Active o c) [] e = idle
  send_others x p v (Active o c) (f ∷ rest) e = λ x2 v2 other.
      let h = idle x2 v2 other in
      elim (place3_cases x2 s.terminal v2 x p v) [
        | inl here ↦
            let none = h.0 in
            let full : net.buffer x2 s.terminal v2 ≡ f ∷ rest = cc in
            cc
        | inr away ↦ rw away.0 h
      ]

  pub take_others_on : (x p y : ℕ) (fs : List Flit) → s.neighbour x p ≡ Some y
      → OthersIdle s (taken_from net x p y (s.opposite p) fs)
  take_others_on x p y [] linked = idle
  take_others_on x p y (f ∷ rest) linked = λ x2 v2 other.
      elim (place3_cases x2 s.terminal v2 x p f.vc) [
        | inl here ↦ absurd (is_mesh_port s mesh x p y linked (sym here.2))
        | inr away ↦ rw away.0 (idle x2 v2 other)
      ]

  pub take_others : (x p : ℕ) (end : Option ℕ) → s.neighbour x p ≡ end → OthersIdle s (taken s net x p end)
  take_others x p None e = idle
  take_others x p (Some y) e = take_others_on x p y (net.out y (s.opposite p)) e

  pub give_others : (x p v : ℕ) (end : Option ℕ) → OthersIdle s (gave s net x p v end)
  give_others x p v None = idle
  give_others x p v (Some y) = idle

  pub get_others : (x o : ℕ) (cs : List ℕ) → OthersIdle s (got net x o cs)
  get_others x o [] = idle
  get_others x o (c ∷ rest) = idle

  pub step_others : (step : Step) → IsThere s step → OthersIdle s (after s net step)
  step_others (Offer x lane words) at = idle
  step_others (CloseLane x lane) at = idle
  step_others (Feed x k) at = feed_others x k (net.unfed x k) at.1
  step_others (Route x p v) at = route_others x p v (net.buffer x p v) refl
  step_others (Grant x p v c) at = grant_others x p v c (net.in_record x p v) refl
  step_others (Send x p v) at = send_others x p v (net.in_record x p v) (net.buffer x p v) refl
  step_others (Take x p) at = take_others x p (s.neighbour x p) refl
  step_others (GiveCredit x p v) at = give_others x p v (s.neighbour x p)
  step_others (TakeCredit x o) at = get_others x o (net.credit_list x o)

pub empty_others : (s : Shape) → OthersIdle s (empty s)
empty_others s x v other = (refl, refl, refl)

pub steps_others : (s : Shape) → IsMesh s → (steps : List Step) (old new : Network) → StepsLead s old steps new
    → OthersIdle s old → OthersIdle s new
steps_others s mesh = any_list s (OthersIdle s) (λ net step there _ idle. step_others s mesh net idle step there)
