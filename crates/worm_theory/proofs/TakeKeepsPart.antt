-- A flit comes off its link into its buffer.
use Rattle.std.proofs.Common.{◌≡◌, ℕ, ◌<◌, false, inl, inr, [], ◌∷◌, length, Some, refl, sym, ap, subst, ◌∙◌, arith}
use Rattle.std.proofs.Common.{length-append}
use Rattle.std.proofs.lemmas.List.Elements.{All-nil}
use Rattle.worm_flit.specs.declared.Flit.{Flit}
use Rattle.worm_flit.specs.Stamps.{on_channel}
use Rattle.worm_theory.specs.Worm.{Runs, worm_after}
use Rattle.worm_theory.specs.Shape.{Shape, IsMesh}
use Rattle.worm_theory.specs.Network.{Network, same, put2}
use Rattle.worm_theory.specs.Sound.{Leaves, OutsHold, OthersIdle}
use Rattle.worm_theory.proofs.Places.{place_cases, same-true, same-false}
use Rattle.worm_theory.proofs.Runs.{Runs-append}
use Rattle.worm_theory.proofs.MeshLaws.{is_mesh_port}
use Rattle.worm_theory.proofs.Take.{take_records, take_fits, take_sources, take_buffered, arriving}
use Rattle.worm_theory.specs.Parts.{Parts, worm_end, reached}
use Rattle.worm_theory.specs.PartSound.{PartSound, PartQueues, ArrivalsRun, CreditsDown}
use Rattle.worm_theory.specs.Links.{MayArrive}
use Rattle.worm_theory.specs.PartSteps.{arrive}
use Rattle.worm_theory.proofs.Coming.{buffer_grown, arrived_on, reached_grown, coming_channels, coming_by}

module _ (s : Shape) (mesh : IsMesh s) (old : Network) (parts : Parts) (x p y : ℕ) (linked : s.neighbour x p ≡ Some y)
    (f : Flit) (may : MayArrive s old parts x p (f ∷ [])) where
  -- the same nodes, in a network that has the flit on this link alone
  abbrev beside : Network
  beside = record parts.near { out = put2 (λ a b. []) y (s.opposite p) (f ∷ []) }

  front : beside.out y (s.opposite p) ≡ f ∷ []
  front = let here = same-true y (s.opposite p) y (s.opposite p) refl refl in rw here refl

  outs : OutsHold s beside
  outs y2 o2 =
      elim (place_cases y2 o2 y (s.opposite p)) [
        | inl here ↦ rw (here.0, here.1, here.2) (may.cross y linked)
        | inr away ↦ rw away.0 (All-nil (Leaves s y2 o2))
      ]

  arrive_arrivals : ArrivalsRun s old parts → ArrivalsRun s old (arrive parts x p f)
  arrive_arrivals arrivals x2 p2 y2 v2 n2 =
      let h = arrivals x2 p2 y2 v2 n2 in
      elim (place_cases x2 p2 x p) [
        | inl here ↦
            let buffer = buffer_grown parts x p f x2 p2 v2 here.0 here.1 here.2 in
            let stands = reached_grown parts x p f old x2 p2 v2 here.0 here.1 here.2 in
            let place : reached old parts x p v2 ≡ reached old parts x2 p2 v2 =
            ap (λ a. reached old parts a p v2) (sym here.1) ∙ ap (λ q. reached old parts x2 q v2) (sym here.2) in
            let goes_on =
            subst (λ w. Runs w (on_channel v2 (f ∷ [])) (worm_end w (on_channel v2 (f ∷ [])))) place (may.follow v2) in
            let both =
            Runs-append (parts.near.buffer x2 p2 v2) (on_channel v2 (f ∷ []))
            (worm_after (parts.near.last_out x2 p2 v2)) (reached old parts x2 p2 v2)
            (worm_end (reached old parts x2 p2 v2) (on_channel v2 (f ∷ []))) h goes_on in
            rw (buffer, stands) both
        | inr away ↦ rw away.0 h
      ]

  arrive_credits : CreditsDown s old parts → CreditsDown s old (arrive parts x p f)
  arrive_credits credits x2 p2 y2 v2 there n2 =
      let h = credits x2 p2 y2 v2 there n2 in
      elim (place_cases x2 p2 x p) [
        | inl here ↦
            let buffer =
            ap length (buffer_grown parts x p f x2 p2 v2 here.0 here.1 here.2) ∙
            length-append (parts.near.buffer x2 p2 v2) (on_channel v2 (f ∷ [])) in
            let came =
            ap length (arrived_on parts x p f x2 p2 v2 here.0 here.1 here.2) ∙
            length-append (on_channel v2 (parts.arrived x2 p2)) (on_channel v2 (f ∷ [])) in
            omega arith
        | inr away ↦ rw away.0 h
      ]

  pub arrive_sound : length (parts.near.buffer x p f.vc) < s.depth → PartSound s old parts →
      PartSound s old (arrive parts x p f)
  arrive_sound room sound = record {
    arrivals = arrive_arrivals sound.arrivals;
    departures = sound.departures;
    credits_up = sound.credits_up;
    credits_down = arrive_credits sound.credits_down;
    given = sound.given;
    sent_since = sound.sent_since;
    sources = take_sources s mesh beside x p y linked f [] front sound.sources;
    sinks = sound.sinks;
    records = take_records s mesh beside x p y linked f [] front sound.records;
    holders = sound.holders;
    fits = take_fits s mesh beside x p y linked f [] front room sound.fits;
    buffered = take_buffered s mesh beside x p y linked f [] front outs sound.buffered;
    passed = sound.passed;
    leaving = sound.leaving;
    unfed = sound.unfed;
    accepted = sound.accepted;
    histories = sound.histories;
  }

  arrive_away : (x2 : ℕ) → same x2 s.terminal x p ≡ false
  arrive_away x2 = same-false x2 s.terminal x p (λ _ e. is_mesh_port s mesh x p y linked (sym e))

  pub arrive_queues : PartQueues s old parts → PartQueues s old (arrive parts x p f)
  arrive_queues queues = record {
    inputs = coming_channels parts x p f old queues.inputs;
    lasts = queues.lasts;
    sends = queues.sends;
    sources = λ x2 k2. let h = queues.sources x2 k2 in let away = arrive_away x2 in (h.0, h.1, rw away h.2);
    arriving = coming_by parts x p f s (arriving s mesh beside x p y linked f [] front outs).1 queues.arriving;
    departing = queues.departing;
    fed = λ x2. let away = arrive_away x2 in rw away (queues.fed x2);
  }

  -- an injection buffer gets nothing from a link
  pub arrive_others : OthersIdle s parts.near → OthersIdle s (arrive parts x p f).near
  arrive_others idle x2 v2 other = let away = arrive_away x2 in rw away (idle x2 v2 other)
