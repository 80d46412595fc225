-- Sources and sinks only grow.
use Rattle.std.proofs.Common.{◌≡◌, ℕ, inl, inr, List, [], ◌∷◌, ◌++◌, Option, Some, None, refl, sym, ap, subst, ◌∙◌}
use Rattle.std.proofs.Common.{append_assoc, append-nil}
use Rattle.worm_flit.specs.declared.Lane.{Lane}
use Rattle.worm_flit.specs.declared.Flit.{Flit}
use Rattle.worm_flit.specs.Stamps.{with_channel}
use Rattle.worm_flit.specs.Packets.{packet_flits, mark}
use Rattle.worm_records.specs.declared.InRecord.{InRecord}
use Rattle.worm_records.specs.declared.InRecord.TheVariants.{Idle, Waiting, Active}
use Rattle.worm_theory.specs.Shape.{Shape, IsMesh}
use Rattle.worm_theory.specs.Network.{Network}
use Rattle.worm_theory.specs.Steps.{Step, Offer, CloseLane, Feed, Route, Grant, Send, Take, GiveCredit, TakeCredit}
use Rattle.worm_theory.specs.Steps.{next_number, Enabled, offered, fed, routed, granted, sent, taken, taken_from, gave}
use Rattle.worm_theory.specs.Steps.{got, after, StepsLead}
use Rattle.worm_theory.specs.Growth.{SinksGrow, SourcesGrow}
use Rattle.worm_theory.proofs.Places.{place_cases, same-false}
use Rattle.worm_theory.proofs.MeshLaws.{is_mesh_start}
use Rattle.worm_theory.proofs.Lists.{any_list}

pub sinks_same : (s : Shape) (net : Network) → SinksGrow s net net
sinks_same s net x = ([], sym (append-nil (net.out x s.terminal)))

pub sinks_further : (s : Shape) (old mid new : Network) → SinksGrow s old mid → SinksGrow s mid new
    → SinksGrow s old new
sinks_further s old mid new g h x =
    let first = g x in
    let then = h x in
    (first.0 ++ then.0, then.1 ∙ ap (λ fs. fs ++ then.0) first.1 ∙ append_assoc (old.out x s.terminal) first.0 then.0)

pub sources_same : (net : Network) → SourcesGrow net net
sources_same net x k = ([], sym (append-nil (net.injected x k)))

pub sources_further : (old mid new : Network) → SourcesGrow old mid → SourcesGrow mid new → SourcesGrow old new
sources_further old mid new g h x k =
    let first = g x k in
    let then = h x k in
    (first.0 ++ then.0, then.1 ∙ ap (λ fs. fs ++ then.0) first.1 ∙ append_assoc (old.injected x k) first.0 then.0)

module _ (s : Shape) (mesh : IsMesh s) (net : Network) where
  pub feed_grows : (x k : ℕ) (fs : List Flit) → SinksGrow s net (fed s net x k fs)
  feed_grows x k [] = sinks_same s net
  feed_grows x k (f ∷ rest) = sinks_same s net

  pub route_grows : (x p v : ℕ) (fs : List Flit) → SinksGrow s net (routed s net x p v fs)
  route_grows x p v [] = sinks_same s net
  route_grows x p v (f ∷ rest) = sinks_same s net

  pub grant_grows : (x p v c : ℕ) (r : InRecord) → SinksGrow s net (granted net x p v c r)
  grant_grows x p v c Idle = sinks_same s net
  grant_grows x p v c (Waiting o) = sinks_same s net
  grant_grows x p v c (Active o d) = sinks_same s net

  pub send_grows : (x p v : ℕ) (r : InRecord) (fs : List Flit) → SinksGrow s net (sent s net x p v r fs)
  send_grows x p v Idle fs = sinks_same s net
  send_grows x p v (Waiting o) fs = sinks_same s net
  send_grows x p v (Active o c) [] = sinks_same s net
  send_grows x p v (Active o c) (f ∷ rest) = λ z.
      elim (place_cases z s.terminal x o) [
        | inl here ↦ (with_channel f c ∷ [], rw (here.0, here.1, here.2))
        | inr away ↦ rw away.0 (sinks_same s net z)
      ]

  take_grows_on : (x p y : ℕ) (fs : List Flit) → s.neighbour x p ≡ Some y
      → SinksGrow s net (taken_from net x p y (s.opposite p) fs)
  take_grows_on x p y [] linked = sinks_same s net
  take_grows_on x p y (f ∷ rest) linked = λ z.
      rw (same-false z s.terminal y (s.opposite p) (λ _ e. is_mesh_start s mesh x p y linked (sym e)))
      (sinks_same s net z)

  pub take_grows : (x p : ℕ) (end : Option ℕ) → s.neighbour x p ≡ end → SinksGrow s net (taken s net x p end)
  take_grows x p None e = sinks_same s net
  take_grows x p (Some y) e = take_grows_on x p y (net.out y (s.opposite p)) e

  pub give_grows : (x p v : ℕ) (end : Option ℕ) → SinksGrow s net (gave s net x p v end)
  give_grows x p v None = sinks_same s net
  give_grows x p v (Some y) = sinks_same s net

  pub get_grows : (x o : ℕ) (cs : List ℕ) → SinksGrow s net (got net x o cs)
  get_grows x o [] = sinks_same s net
  get_grows x o (c ∷ rest) = sinks_same s net

  pub step_sinks : (step : Step) → SinksGrow s net (after s net step)
  step_sinks (Offer x lane words) = sinks_same s net
  step_sinks (CloseLane x lane) = sinks_same s net
  step_sinks (Feed x k) = feed_grows x k (net.unfed x k)
  step_sinks (Route x p v) = route_grows x p v (net.buffer x p v)
  step_sinks (Grant x p v c) = grant_grows x p v c (net.in_record x p v)
  step_sinks (Send x p v) = send_grows x p v (net.in_record x p v) (net.buffer x p v)
  step_sinks (Take x p) = take_grows x p (s.neighbour x p) refl
  step_sinks (GiveCredit x p v) = give_grows x p v (s.neighbour x p)
  step_sinks (TakeCredit x o) = get_grows x o (net.credit_list x o)

-- what a source accepted changes with Offer and Close alone
module _ (s : Shape) (net : Network) where
  pub feed_injected : (x k : ℕ) (fs : List Flit) → (fed s net x k fs).injected ≡ net.injected
  feed_injected x k [] = refl
  feed_injected x k (f ∷ rest) = refl

  pub route_injected : (x p v : ℕ) (fs : List Flit) → (routed s net x p v fs).injected ≡ net.injected
  route_injected x p v [] = refl
  route_injected x p v (f ∷ rest) = refl

  pub grant_injected : (x p v c : ℕ) (r : InRecord) → (granted net x p v c r).injected ≡ net.injected
  grant_injected x p v c Idle = refl
  grant_injected x p v c (Waiting o) = refl
  grant_injected x p v c (Active o d) = refl

  pub send_injected : (x p v : ℕ) (r : InRecord) (fs : List Flit) → (sent s net x p v r fs).injected ≡ net.injected
  send_injected x p v Idle fs = refl
  send_injected x p v (Waiting o) fs = refl
  send_injected x p v (Active o c) [] = refl
  send_injected x p v (Active o c) (f ∷ rest) = refl

  take_injected_on : (x p y : ℕ) (fs : List Flit) → (taken_from net x p y (s.opposite p) fs).injected ≡ net.injected
  take_injected_on x p y [] = refl
  take_injected_on x p y (f ∷ rest) = refl

  pub take_injected : (x p : ℕ) (end : Option ℕ) → (taken s net x p end).injected ≡ net.injected
  take_injected x p None = refl
  take_injected x p (Some y) = take_injected_on x p y (net.out y (s.opposite p))

  pub give_injected : (x p v : ℕ) (end : Option ℕ) → (gave s net x p v end).injected ≡ net.injected
  give_injected x p v None = refl
  give_injected x p v (Some y) = refl

  pub get_injected : (x o : ℕ) (cs : List ℕ) → (got net x o cs).injected ≡ net.injected
  get_injected x o [] = refl
  get_injected x o (c ∷ rest) = refl

  -- what holds of what the sources accepted is kept by each other step
  pub by_injected : (Kept : (ℕ → ℕ → List Flit) → Type 0) → Kept net.injected
      → ((x : ℕ) (lane : Lane) (words : List ℕ) → Enabled s net (Offer x lane words)
      → Kept (after s net (Offer x lane words)).injected)
      → ((x : ℕ) (lane : Lane) → Enabled s net (CloseLane x lane) → Kept (after s net (CloseLane x lane)).injected)
      → (step : Step) → Enabled s net step → Kept (after s net step).injected
  by_injected Kept kept offer close (Offer x lane words) h = offer x lane words h
  by_injected Kept kept offer close (CloseLane x lane) h = close x lane h
  by_injected Kept kept offer close (Feed x k) h = subst Kept (sym (feed_injected x k (net.unfed x k))) kept
  by_injected Kept kept offer close (Route x p v) h = subst Kept (sym (route_injected x p v (net.buffer x p v))) kept
  by_injected Kept kept offer close (Grant x p v c) h =
      subst Kept (sym (grant_injected x p v c (net.in_record x p v))) kept
  by_injected Kept kept offer close (Send x p v) h =
      subst Kept (sym (send_injected x p v (net.in_record x p v) (net.buffer x p v))) kept
  by_injected Kept kept offer close (Take x p) h = subst Kept (sym (take_injected x p (s.neighbour x p))) kept
  by_injected Kept kept offer close (GiveCredit x p v) h = subst Kept (sym (give_injected x p v (s.neighbour x p))) kept
  by_injected Kept kept offer close (TakeCredit x o) h = subst Kept (sym (get_injected x o (net.credit_list x o))) kept

  pub offer_sources_grow : (x k : ℕ) (fs : List Flit) → SourcesGrow net (offered net x k fs)
  offer_sources_grow x k fs z j =
      elim (place_cases z j x k) [
        | inl here ↦ (fs, rw (here.0, here.1, here.2))
        | inr away ↦ rw away.0 (sources_same net z j)
      ]

  pub step_sources : (step : Step) → Enabled s net step → SourcesGrow net (after s net step)
  step_sources step h =
      by_injected (λ injected. (x k : ℕ) → (more : List Flit) × (injected x k ≡ net.injected x k ++ more))
      (sources_same net)
      (λ x lane words _. offer_sources_grow x lane.class (packet_flits lane (next_number net lane) words))
      (λ x lane _. offer_sources_grow x lane.class (mark lane (next_number net lane) ∷ [])) step h

pub steps_sinks : (s : Shape) → IsMesh s → (steps : List Step) (old new : Network) → StepsLead s old steps new
    → SinksGrow s old new
steps_sinks s mesh steps old new lead =
    any_list s (λ n. SinksGrow s old n) (λ net step _ _ grown. sinks_further s old net (after s net step) grown
    (step_sinks s mesh net step)) steps old new lead (sinks_same s old)

pub steps_sources : (s : Shape) (steps : List Step) (old new : Network) → StepsLead s old steps new
    → SourcesGrow old new
steps_sources s steps old new lead =
    any_list s (λ n. SourcesGrow old n) (λ net step _ enabled grown. sources_further old net (after s net step) grown
    (step_sources s net step enabled)) steps old new lead (sources_same old)
