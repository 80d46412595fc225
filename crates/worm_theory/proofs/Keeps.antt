-- The empty network is sound, and each step keeps a network sound.
use Rattle.std.proofs.Common.{◌≡◌, ℕ, Bool, true, false, cond, ◌==◌, ◌<◌, inl, inr, List, [], ◌∷◌, length, Option, Some}
use Rattle.std.proofs.Common.{None, refl, arith}
use Rattle.std.proofs.lemmas.List.Elements.{All-nil}
use Rattle.worm_flit.specs.declared.Flit.{Flit}
use Rattle.worm_flit.specs.Kinds.{opens}
use Rattle.worm_theory.specs.Worm.{Runs, Between}
use Rattle.worm_theory.specs.Shape.{Shape, IsMesh, Owns}
use Rattle.worm_theory.specs.Network.{Network}
use Rattle.worm_records.specs.declared.InRecord.{InRecord}
use Rattle.worm_records.specs.declared.InRecord.TheVariants.{Idle, Waiting, Active}
use Rattle.worm_theory.specs.Steps.{Step, Offer, CloseLane, Feed, Route, Grant, Send, Take, GiveCredit, TakeCredit}
use Rattle.worm_theory.specs.Steps.{FrontIs, IsWaitingAt, IsActiveAt, IsLinked, IsPort, IsThere, MaySend, Enabled, fed}
use Rattle.worm_theory.specs.Steps.{routed, granted, sent, taken, taken_from, gave, got, after, StepsLead, empty}
use Rattle.worm_flit.specs.Packets.{fresh}
use Rattle.worm_theory.specs.Sound.{Sound, InBuffer, Leaves, IsFrom}
use Rattle.worm_theory.proofs.Lists.{any_list}
use Rattle.worm_theory.proofs.Take.{take_sound}
use Rattle.worm_theory.proofs.Feed.{feed_sound}
use Rattle.worm_theory.proofs.Route.{route_sound}
use Rattle.worm_theory.proofs.Grant.{grant_sound}
use Rattle.worm_theory.proofs.Credit.{give_sound, get_sound}
use Rattle.worm_theory.proofs.Send.{send_sound}
use Rattle.worm_theory.proofs.Offer.{offer_sound, close_sound}

nothing_unfed : (b : Bool) → Runs Between (cond b [] []) Between
nothing_unfed true = refl
nothing_unfed false = refl

pub empty_sound : (s : Shape) → Sound s (empty s)
empty_sound s = record {
  links = λ y o x v n. refl;
  sources = λ x v. nothing_unfed (s.first (s.owner v) == v);
  sinks = λ x v. refl;
  records = λ x p v. refl;
  holders = λ x o c p v. (λ e. cc, λ e. cc);
  fits = λ x p v. omega arith;
  credits = λ y o x v there n. omega arith;
  entries = λ y o. All-nil (λ c. c < s.vcs);
  buffered = λ x p v. All-nil (InBuffer s x p v);
  passed = λ x p v. tt;
  leaving = λ x o. All-nil (Leaves s x o);
  unfed = λ x k. All-nil (IsFrom s x k);
  accepted = λ x k. All-nil (IsFrom s x k);
  histories = λ lane. fresh;
}

module _ (s : Shape) (mesh : IsMesh s) (net : Network) (sound : Sound s net) where
  pub feed_keeps : (x k : ℕ) (fs : List Flit) → net.unfed x k ≡ fs → k < s.classes → 0 < length fs
      → length (net.buffer x s.terminal (s.first k)) < s.depth → Sound s (fed s net x k fs)
  feed_keeps x k [] e there some room = absurd (omega arith)
  feed_keeps x k (f ∷ rest) e there some room = feed_sound s mesh net x k there f rest e room sound

  pub route_keeps : (x p v : ℕ) (fs : List Flit) → net.buffer x p v ≡ fs → net.in_record x p v ≡ Idle
      → FrontIs fs (λ f. opens f.kind ≡ true) → Sound s (routed s net x p v fs)
  route_keeps x p v [] e idle front = absurd front
  route_keeps x p v (f ∷ rest) e idle front = route_sound s net x p v idle f rest e sound

  pub grant_keeps : (x p v c : ℕ) (r : InRecord) (fs : List Flit) → net.in_record x p v ≡ r → net.buffer x p v ≡ fs
      → IsWaitingAt r (λ o. (net.holder x o c ≡ None) × FrontIs fs (λ f. Owns s f.lane.class c))
      → Sound s (granted net x p v c r)
  grant_keeps x p v c Idle fs e1 e2 h = absurd h
  grant_keeps x p v c (Active o d) fs e1 e2 h = absurd h
  grant_keeps x p v c (Waiting o) [] e1 e2 h = absurd h.1
  grant_keeps x p v c (Waiting o) (f ∷ rest) e1 e2 h = grant_sound s net x p v c o e1 h.0 f rest e2 h.1 sound

  pub send_keeps : (x p v : ℕ) (r : InRecord) (fs : List Flit) → net.in_record x p v ≡ r → net.buffer x p v ≡ fs
      → IsPort s x p → IsActiveAt r (MaySend s net x p v) → Sound s (sent s net x p v r fs)
  send_keeps x p v Idle fs e1 e2 port h = absurd h
  send_keeps x p v (Waiting o) fs e1 e2 port h = absurd h
  send_keeps x p v (Active o c) [] e1 e2 port h = let some = rw e2 at h.0 in absurd (omega arith)
  send_keeps x p v (Active o c) (f ∷ rest) e1 e2 port h =
      send_sound s mesh net x p v o c f rest e1 e2 port (elim h.1 [ inl at ↦ inr at | inr credit ↦ inl credit ]) sound

  pub take_on : (x p y : ℕ) (fs : List Flit) → s.neighbour x p ≡ Some y → net.out y (s.opposite p) ≡ fs
      → FrontIs fs (λ f. length (net.buffer x p f.vc) < s.depth) → Sound s (taken_from net x p y (s.opposite p) fs)
  take_on x p y [] linked e front = absurd front
  take_on x p y (f ∷ rest) linked e front = take_sound s mesh net x p y linked f rest e front sound

  pub take_keeps : (x p : ℕ) (end : Option ℕ) → s.neighbour x p ≡ end
      → IsLinked end (λ y. FrontIs (net.out y (s.opposite p)) (λ f. length (net.buffer x p f.vc) < s.depth))
      → Sound s (taken s net x p end)
  take_keeps x p None e h = absurd h
  take_keeps x p (Some y) e h = take_on x p y (net.out y (s.opposite p)) e refl h

  pub give_keeps : (x p v : ℕ) (end : Option ℕ) → s.neighbour x p ≡ end → v < s.vcs → 0 < net.owed x p v
      → Sound s (gave s net x p v end)
  give_keeps x p v None e there owed = sound
  give_keeps x p v (Some y) e there owed = give_sound s mesh net x p y v e there owed sound

  pub get_keeps : (x o : ℕ) (cs : List ℕ) → net.credit_list x o ≡ cs → Sound s (got net x o cs)
  get_keeps x o [] e = sound
  get_keeps x o (c ∷ rest) e = get_sound s net x o c rest e sound

pub step_sound : (s : Shape) → IsMesh s → (net : Network) (step : Step) → IsThere s step → Enabled s net step
    → Sound s net → Sound s (after s net step)
step_sound s mesh net (Offer x lane words) there h sound = offer_sound s net x lane words h.0 h.1 h.2 sound
step_sound s mesh net (CloseLane x lane) there h sound = close_sound s net x lane h.0 sound
step_sound s mesh net (Feed x k) there h sound = feed_keeps s mesh net sound x k (net.unfed x k) refl there.1 h.0 h.1
step_sound s mesh net (Route x p v) there h sound = route_keeps s mesh net sound x p v (net.buffer x p v) refl h.0 h.1
step_sound s mesh net (Grant x p v c) there h sound =
    grant_keeps s mesh net sound x p v c (net.in_record x p v) (net.buffer x p v) refl refl h
step_sound s mesh net (Send x p v) there h sound =
    send_keeps s mesh net sound x p v (net.in_record x p v) (net.buffer x p v) refl refl there.1 h
step_sound s mesh net (Take x p) there h sound = take_keeps s mesh net sound x p (s.neighbour x p) refl h
step_sound s mesh net (GiveCredit x p v) there h sound =
    give_keeps s mesh net sound x p v (s.neighbour x p) refl there.2 h
step_sound s mesh net (TakeCredit x o) there h sound = get_keeps s mesh net sound x o (net.credit_list x o) refl

pub steps_sound : (s : Shape) → IsMesh s → (steps : List Step) (old new : Network) → StepsLead s old steps new
    → Sound s old → Sound s new
steps_sound s mesh = any_list s (Sound s) (step_sound s mesh)
