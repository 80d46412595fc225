-- A flit is fed: it comes from its source into the injection buffer of its class's first channel.
use Rattle.std.proofs.Common.{◌≡◌, ℕ, ◌<◌, true, false, inl, inr, List, ◌∷◌, ◌++◌, length, All, Some, refl, sym, ap}
use Rattle.std.proofs.Common.{◌∙◌, append_assoc, append-nil}
use Rattle.std.proofs.lemmas.List.Elements.{All-head, All-push}
use Rattle.worm_flit.specs.declared.Lane.{Lane}
use Rattle.worm_flit.specs.declared.Flit.{Flit}
use Rattle.worm_flit.specs.Stamps.{with_channel, is_of_lane}
use Rattle.worm_theory.specs.Shape.{Shape, IsMesh}
use Rattle.worm_theory.specs.Network.{Network, same}
use Rattle.worm_theory.specs.Sound.{IsFrom}
use Rattle.worm_theory.specs.Cut.{held}
use Rattle.worm_theory.proofs.Places.{place_cases, same-true, same-false}
use Rattle.worm_theory.proofs.MeshLaws.{is_mesh_port}
use Rattle.worm_theory.proofs.Packets.{same_lane_cases}
use Rattle.worm_theory.proofs.Cut.{held_one, held-cons, held-push}
use Rattle.worm_theory.proofs.Feed.{feed_sources, feed_records, feed_fits, feed_buffered, feed_unfed, entering}
use Rattle.worm_theory.specs.Parts.{Parts}
use Rattle.worm_theory.specs.PartSound.{PartSound, PartQueues, ArrivalsRun, CreditsDown, SourceQueues}
use Rattle.worm_theory.specs.PartSteps.{feed_part}
use Rattle.worm_theory.proofs.Coming.{coming_channels, coming_by}

module _ (s : Shape) (mesh : IsMesh s) (old : Network) (parts : Parts) (x k : ℕ) (class_there : k < s.classes)
    (f : Flit) (rest : List Flit) (front : parts.near.unfed x k ≡ f ∷ rest) (sound : PartSound s old parts) where
  abbrev next : Parts
  next = feed_part s parts x k (f ∷ rest)

  -- the flit as it stands in the buffer
  abbrev fed_flit : Flit
  fed_flit = with_channel f (s.first k)

  -- no link leads into the injection buffer
  off_link : (x2 p2 y2 : ℕ) → s.neighbour x2 p2 ≡ Some y2 → same x2 p2 x s.terminal ≡ false
  off_link x2 p2 y2 linked = same-false x2 p2 x s.terminal (λ _ e. is_mesh_port s mesh x2 p2 y2 linked e)

  feed_arrivals : ArrivalsRun s old next
  feed_arrivals x2 p2 y2 v2 linked = let away = off_link x2 p2 y2 linked in rw away (sound.arrivals x2 p2 y2 v2 linked)

  feed_credits_down : CreditsDown s old next
  feed_credits_down x2 p2 y2 v2 there linked =
      let away = off_link x2 p2 y2 linked in rw away (sound.credits_down x2 p2 y2 v2 there linked)

  pub feed_sound : length (parts.near.buffer x s.terminal (s.first k)) < s.depth → PartSound s old next
  feed_sound room = record {
    arrivals = feed_arrivals;
    departures = sound.departures;
    credits_up = sound.credits_up;
    credits_down = feed_credits_down;
    given = sound.given;
    sent_since = sound.sent_since;
    sources = feed_sources s mesh parts.near x k class_there f rest front sound.sources;
    sinks = sound.sinks;
    records = feed_records s mesh parts.near x k class_there f rest front sound.records;
    holders = sound.holders;
    fits = feed_fits s mesh parts.near x k class_there f rest front room sound.fits;
    buffered = feed_buffered s mesh parts.near x k class_there f rest front sound.unfed sound.buffered;
    passed = sound.passed;
    leaving = sound.leaving;
    unfed = feed_unfed s mesh parts.near x k class_there f rest front sound.unfed;
    accepted = sound.accepted;
    histories = sound.histories;
  }

  from : IsFrom s x k f
  from = All-head (IsFrom s x k) f rest (rw front at (sound.unfed x k))

  -- of its lane the flit goes from the front of what is unfed to the end of what was fed; no other lane sees it
  own_queue : (lane : Lane) (x2 k2 : ℕ) → lane.src ≡ x2 → lane.class ≡ k2 → lane ≡ f.lane →
      held lane (next.arrived x2 s.terminal) ++ held lane (next.near.unfed x2 k2) ≡
      held lane (parts.arrived x2 s.terminal) ++ held lane (parts.near.unfed x2 k2)
  own_queue lane x2 k2 at at_class own =
      let node : x2 ≡ x = sym at ∙ ap (λ (l : Lane). l.src) own ∙ from.own in
      let class : k2 ≡ k = sym at_class ∙ ap (λ (l : Lane). l.class) own ∙ from.own_class in
      let here : same x2 k2 x k ≡ true = same-true x2 k2 x k node class in
      let place : same x2 s.terminal x s.terminal ≡ true = same-true x2 s.terminal x s.terminal node refl in
      let line : parts.near.unfed x2 k2 ≡ f ∷ rest =
      ap (λ z. parts.near.unfed z k2) node ∙ ap (parts.near.unfed x) class ∙ front in
      let came : parts.arrived x s.terminal ≡ parts.arrived x2 s.terminal =
      ap (λ z. parts.arrived z s.terminal) (sym node) in
      rw (
        here,
        place,
        line,
        came,
        held-push lane (parts.arrived x2 s.terminal) fed_flit,
        held-cons lane f rest,
        append_assoc (held lane (parts.arrived x2 s.terminal)) (held_one lane f) (held lane rest),
      ) refl

  other_queue : (lane : Lane) (x2 k2 : ℕ) → is_of_lane lane f ≡ false →
      (held lane (next.arrived x2 s.terminal) ≡ held lane (parts.arrived x2 s.terminal)) ×
      (held lane (next.near.unfed x2 k2) ≡ held lane (parts.near.unfed x2 k2))
  other_queue lane x2 k2 other = (
    elim (place_cases x2 s.terminal x s.terminal) [
      | inl here ↦ rw (here.0, held-push lane (parts.arrived x s.terminal) fed_flit, other, append-nil, here.1)
      | inr away ↦ rw away.0
    ],
    elim (place_cases x2 k2 x k) [
      | inl here ↦
          let line : parts.near.unfed x2 k2 ≡ f ∷ rest = cc in
          rw (here.0, line, held-cons lane f rest, other)
      | inr away ↦ rw away.0
    ],
  )

  feed_sources_queue : (x2 k2 : ℕ) (accepted : List Flit) → SourceQueues s old parts x2 k2 accepted →
      SourceQueues s old next x2 k2 accepted
  feed_sources_queue x2 k2 accepted h lane node class =
      elim (same_lane_cases lane f.lane) [
        | inl own ↦ own_queue lane x2 k2 node class own.1 ∙ h lane node class
        | inr other ↦
            let same_lists = other_queue lane x2 k2 other in
            rw (same_lists.0, same_lists.1) (h lane node class)
      ]

  feed_fed : (x2 : ℕ) → PartQueues s old parts → All (λ g. g.vc ≡ s.first g.lane.class) (next.arrived x2 s.terminal)
  feed_fed x2 queues =
      elim (place_cases x2 s.terminal x s.terminal) [
        | inl here ↦
            let list : parts.arrived x s.terminal ≡ parts.arrived x2 s.terminal =
            ap (λ z. parts.arrived z s.terminal) (sym here.1) in
            rw (here.0, list) (All-push (λ (g : Flit). g.vc ≡ s.first g.lane.class)
            (parts.arrived x2 s.terminal) fed_flit (queues.fed x2) (ap s.first (sym from.own_class)))
        | inr away ↦ rw away.0 (queues.fed x2)
      ]

  pub feed_queues : PartQueues s old parts → PartQueues s old next
  feed_queues queues = record {
    inputs = coming_channels parts x s.terminal fed_flit old queues.inputs;
    lasts = queues.lasts;
    sends = queues.sends;
    sources = λ x2 k2. let h = queues.sources x2 k2 in (h.0, h.1, feed_sources_queue x2 k2 h.0 h.2);
    arriving =
        coming_by parts x s.terminal fed_flit s
        (entering s mesh parts.near x k class_there f rest front sound.unfed).1 queues.arriving;
    departing = queues.departing;
    fed = λ x2. feed_fed x2 queues;
  }
