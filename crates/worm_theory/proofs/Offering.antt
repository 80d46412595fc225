-- A source accepts a packet or a close mark.
use Rattle.std.proofs.Common.{◌≡◌, ℕ, true, false, ◌<◌, ◌≤◌, inl, inr, List, [], ◌∷◌, ◌++◌, length, All, refl, sym, ap}
use Rattle.std.proofs.Common.{subst, append_assoc}
use Rattle.std.proofs.lemmas.List.Elements.{All-nil, All-cons}
use Rattle.worm_flit.specs.declared.Lane.{Lane}
use Rattle.worm_flit.specs.declared.Flit.{Flit}
use Rattle.worm_flit.specs.Stamps.{of_lane}
use Rattle.worm_flit.specs.Packets.{packet_flits, mark}
use Rattle.worm_theory.specs.Worm.{Between, Runs}
use Rattle.worm_theory.specs.Shape.{Shape, HasLane}
use Rattle.worm_theory.specs.Network.{Network}
use Rattle.worm_theory.specs.Steps.{Accepts, offered, next_number, lane_injected}
use Rattle.worm_theory.specs.Sound.{IsFrom, IsHistory}
use Rattle.worm_theory.specs.Cut.{held}
use Rattle.worm_theory.proofs.Places.{place_cases}
use Rattle.worm_theory.proofs.Packets.{is_same_lane, packet-runs, packet-all, packet-own, packet-others}
use Rattle.worm_theory.proofs.Cut.{held-append}
use Rattle.worm_theory.proofs.Offer.{offer_sources, offer_unfed, offer_accepted, offer_histories, packet_grown}
use Rattle.worm_theory.proofs.Offer.{mark_grown}
use Rattle.worm_theory.specs.Parts.{Parts}
use Rattle.worm_theory.specs.PartSound.{PartSound, PartQueues, SourcesQueue}
use Rattle.worm_theory.specs.PartSteps.{with_near}

module _ (s : Shape) (old : Network) (parts : Parts) where
  -- what is accepted comes last of what is unfed
  accept_queue : (x k : ℕ) (fs : List Flit) → SourcesQueue s old parts →
      SourcesQueue s old (with_near parts (offered parts.near x k fs))
  accept_queue x k fs queue x2 k2 =
      let h = queue x2 k2 in
      elim (place_cases x2 k2 x k) [
        | inl here ↦
            let list : parts.near.injected x k ≡ parts.near.injected x2 k2 = cc in
            let unfed : parts.near.unfed x k ≡ parts.near.unfed x2 k2 = cc in
            let all = h.1 in (
              h.0 ++ fs,
              rw (here.0, list, all, append_assoc (old.injected x2 k2) h.0 fs) refl,
              λ lane node class.
                  let was = h.2 lane node class in
                  rw (
                    here.0,
                    unfed,
                    held-append lane (parts.near.unfed x2 k2) fs,
                    held-append lane h.0 fs,
                    ← append_assoc (held lane (parts.arrived x2 s.terminal)) (held lane (parts.near.unfed x2 k2))
                        (held lane fs),
                    was,
                    append_assoc (held lane (old.unfed x2 k2)) (held lane h.0) (held lane fs),
                  ) refl,
            )
        | inr away ↦ (h.0, rw away.0 h.1, λ lane node class. rw away.0 (h.2 lane node class))
      ]

  pub offer_queues : (x k : ℕ) (fs : List Flit) → PartQueues s old parts →
      PartQueues s old (with_near parts (offered parts.near x k fs))
  offer_queues x k fs queues = record {
    inputs = queues.inputs;
    lasts = queues.lasts;
    sends = queues.sends;
    sources = accept_queue x k fs queues.sources;
    arriving = queues.arriving;
    departing = queues.departing;
    fed = queues.fed;
  }

  module _ (sound : PartSound s old parts) where
    -- flits of one lane that are whole packets, where its history goes on with them
    offered_sound : (lane : Lane) (fs : List Flit) → Runs Between fs Between → All (IsFrom s lane.src lane.class) fs →
        ((other : Lane) → is_same_lane other lane ≡ true → of_lane other fs ≡ fs) →
        ((other : Lane) → is_same_lane other lane ≡ false → of_lane other fs ≡ []) →
        IsHistory lane (lane_injected parts.near lane ++ fs) →
        PartSound s old (with_near parts (offered parts.near lane.src lane.class fs))
    offered_sound lane fs whole from own others grown = record {
      arrivals = sound.arrivals;
      departures = sound.departures;
      credits_up = sound.credits_up;
      credits_down = sound.credits_down;
      given = sound.given;
      sent_since = sound.sent_since;
      sources = offer_sources s parts.near lane fs whole sound.sources;
      sinks = sound.sinks;
      records = sound.records;
      holders = sound.holders;
      fits = sound.fits;
      buffered = sound.buffered;
      passed = sound.passed;
      leaving = sound.leaving;
      unfed = offer_unfed s parts.near lane fs from sound.unfed;
      accepted = offer_accepted s parts.near lane fs from sound.accepted;
      histories = offer_histories s parts.near lane fs own others grown sound.histories;
    }

    pub offer_sound : (x : ℕ) (lane : Lane) (ws : List ℕ) → Accepts s parts.near x lane → 0 < length ws →
        length ws ≤ 32 → PartSound s old
        (with_near parts (offered parts.near x lane.class (packet_flits lane (next_number parts.near lane) ws)))
    offer_sound x lane ws accepts some few =
        let number = next_number parts.near lane in
        let from : (f : Flit) → f.lane ≡ lane → IsFrom s lane.src lane.class f =
        λ f e. record {
          own = ap (λ (l : Lane). l.src) e;
          own_class = ap (λ (l : Lane). l.class) e;
          lane_there = subst (λ l. HasLane s l) (sym e) accepts.lane_there;
        } in
        rw (← accepts.own)
        (offered_sound lane (packet_flits lane (next_number parts.near lane) ws) (packet-runs lane number ws)
        (packet-all (IsFrom s lane.src lane.class) lane number from ws)
        (λ other e. packet-own other lane number e ws) (λ other e. packet-others other lane number e ws)
        (packet_grown lane (lane_injected parts.near lane) ws some few (sound.histories lane) accepts.is_open))

    pub close_sound : (x : ℕ) (lane : Lane) → Accepts s parts.near x lane →
        PartSound s old (with_near parts
        (offered parts.near x lane.class (mark lane (next_number parts.near lane) ∷ [])))
    close_sound x lane accepts =
        let number = next_number parts.near lane in
        let from : IsFrom s lane.src lane.class (mark lane number) =
        record { own = refl; own_class = refl; lane_there = accepts.lane_there } in
        rw (← accepts.own)
        (offered_sound lane (mark lane (next_number parts.near lane) ∷ []) (
          (refl, refl),
          refl,
        ) (All-cons (IsFrom s lane.src lane.class) (mark lane number) [] from (All-nil (IsFrom s lane.src lane.class)))
        (λ other e. rw e) (λ other e. rw e)
        (mark_grown lane (lane_injected parts.near lane) (sound.histories lane) accepts.is_open))
