-- A credit is given back, and a credit that came back is counted.
use Rattle.std.proofs.Common.{◌≡◌, ℕ, ◌<◌, inl, inr, arith}
use Rattle.std.proofs.lemmas.List.Elements.{All-push}
use Rattle.worm_theory.specs.Shape.{Shape}
use Rattle.worm_theory.specs.Network.{Network}
use Rattle.worm_theory.proofs.Places.{number_cases, place_cases}
use Rattle.worm_theory.proofs.Credit.{count-push}
use Rattle.worm_theory.specs.Parts.{Parts}
use Rattle.worm_theory.specs.PartSound.{PartSound, PartQueues, CreditsUp, CreditsDown, GivenAreChannels}
use Rattle.worm_theory.specs.PartSteps.{give_part, return_credit}

module _ (s : Shape) (old : Network) (parts : Parts) (x p v : ℕ) where
  give_credits : 0 < parts.near.owed x p v → CreditsDown s old parts → CreditsDown s old (give_part parts x p v)
  give_credits owed credits x2 p2 y2 v2 there n2 =
      let h = credits x2 p2 y2 v2 there n2 in
      elim (place_cases x2 p2 x p) [
        | inl here ↦
            let line : parts.given x p ≡ parts.given x2 p2 = cc in
            elim (number_cases v2 v) [
              | inl on ↦
                  let debt : parts.near.owed x2 p2 v2 ≡ parts.near.owed x p v = cc in
                  rw (here.0, line, count-push v2 v (parts.given x2 p2), on.0) (omega arith)
              | inr off ↦ rw (here.0, line, count-push v2 v (parts.given x2 p2), off.0) (omega arith)
            ]
        | inr away ↦ rw away.0 h
      ]

  give_given : v < s.vcs → GivenAreChannels s parts → GivenAreChannels s (give_part parts x p v)
  give_given channel given x2 p2 =
      elim (place_cases x2 p2 x p) [
        | inl here ↦ rw here.0 (All-push (λ (c : ℕ). c < s.vcs) (parts.given x p) v (given x p) channel)
        | inr away ↦ rw away.0 (given x2 p2)
      ]

  pub give_sound : 0 < parts.near.owed x p v → v < s.vcs → PartSound s old parts →
      PartSound s old (give_part parts x p v)
  give_sound owed channel sound = record {
    arrivals = sound.arrivals;
    departures = sound.departures;
    credits_up = sound.credits_up;
    credits_down = give_credits owed sound.credits_down;
    given = give_given channel sound.given;
    sent_since = sound.sent_since;
    sources = sound.sources;
    sinks = sound.sinks;
    records = sound.records;
    holders = sound.holders;
    fits = sound.fits;
    buffered = sound.buffered;
    passed = sound.passed;
    leaving = sound.leaving;
    unfed = sound.unfed;
    accepted = sound.accepted;
    histories = sound.histories;
  }

  pub give_queues : PartQueues s old parts → PartQueues s old (give_part parts x p v)
  give_queues queues = record {
    inputs = queues.inputs;
    lasts = queues.lasts;
    sends = queues.sends;
    sources = queues.sources;
    arriving = queues.arriving;
    departing = queues.departing;
    fed = queues.fed;
  }

module _ (s : Shape) (old : Network) (parts : Parts) (x o c : ℕ) where
  return_credits : CreditsUp s old parts → CreditsUp s old (return_credit parts x o c)
  return_credits credits y2 o2 x2 v2 there n2 =
      let h = credits y2 o2 x2 v2 there n2 in
      elim (place_cases y2 o2 x o) [
        | inl here ↦
            let line : parts.near.credit_list x o ≡ parts.near.credit_list y2 o2 = cc in
            elim (number_cases v2 c) [
              | inl on ↦
                  let count : parts.near.credits y2 o2 v2 ≡ parts.near.credits x o c = cc in
                  rw (here.0, line, count-push v2 c (parts.near.credit_list y2 o2), on.0) (omega arith)
              | inr off ↦ rw (here.0, line, count-push v2 c (parts.near.credit_list y2 o2), off.0) (omega arith)
            ]
        | inr away ↦ rw away.0 h
      ]

  pub return_sound : PartSound s old parts → PartSound s old (return_credit parts x o c)
  return_sound sound = record {
    arrivals = sound.arrivals;
    departures = sound.departures;
    credits_up = return_credits sound.credits_up;
    credits_down = sound.credits_down;
    given = sound.given;
    sent_since = sound.sent_since;
    sources = sound.sources;
    sinks = sound.sinks;
    records = sound.records;
    holders = sound.holders;
    fits = sound.fits;
    buffered = sound.buffered;
    passed = sound.passed;
    leaving = sound.leaving;
    unfed = sound.unfed;
    accepted = sound.accepted;
    histories = sound.histories;
  }

  pub return_queues : PartQueues s old parts → PartQueues s old (return_credit parts x o c)
  return_queues queues = record {
    inputs = queues.inputs;
    lasts = queues.lasts;
    sends = queues.sends;
    sources = queues.sources;
    arriving = queues.arriving;
    departing = queues.departing;
    fed = queues.fed;
  }
