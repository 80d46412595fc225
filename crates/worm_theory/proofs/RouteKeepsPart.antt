-- A packet is routed, and is granted a channel.
use Rattle.std.proofs.Common.{◌≡◌, ℕ, List, ◌∷◌, None}
use Rattle.worm_flit.specs.declared.Flit.{Flit}
use Rattle.worm_records.specs.declared.InRecord.TheVariants.{Idle, Waiting}
use Rattle.worm_theory.specs.Shape.{Shape, Owns}
use Rattle.worm_theory.specs.Network.{Network}
use Rattle.worm_theory.specs.Steps.{routed, granted}
use Rattle.worm_theory.proofs.Route.{route_records, route_holders}
use Rattle.worm_theory.proofs.Grant.{grant_upstream, grant_records, grant_holders, grant_sinks}
use Rattle.worm_theory.specs.Parts.{Parts}
use Rattle.worm_theory.specs.PartSound.{PartSound, DeparturesRun}
use Rattle.worm_theory.specs.PartSteps.{with_near}

module _ (s : Shape) (old : Network) (parts : Parts) (sound : PartSound s old parts) (x p v : ℕ) (f : Flit)
    (rest : List Flit) (front : parts.near.buffer x p v ≡ f ∷ rest) where
  pub route_sound : parts.near.in_record x p v ≡ Idle →
      PartSound s old (with_near parts (routed s parts.near x p v (f ∷ rest)))
  route_sound idle = record {
    arrivals = sound.arrivals;
    departures = sound.departures;
    credits_up = sound.credits_up;
    credits_down = sound.credits_down;
    given = sound.given;
    sent_since = sound.sent_since;
    sources = sound.sources;
    sinks = sound.sinks;
    records = route_records s parts.near x p v idle f rest front sound.records;
    holders = route_holders s parts.near x p v idle f rest front sound.holders;
    fits = sound.fits;
    buffered = sound.buffered;
    passed = sound.passed;
    leaving = sound.leaving;
    unfed = sound.unfed;
    accepted = sound.accepted;
    histories = sound.histories;
  }

  module _ (c o : ℕ) (waiting : parts.near.in_record x p v ≡ Waiting o) (free : parts.near.holder x o c ≡ None)
      (owned : Owns s f.lane.class c) where
    grant_departures : DeparturesRun s old (with_near parts (granted parts.near x p v c (Waiting o)))
    grant_departures y o2 x2 v2 linked =
        let e = grant_upstream s parts.near x p v c o waiting free f rest front owned sound.records y o2 v2 in
        rw e (sound.departures y o2 x2 v2 linked)

    pub grant_sound : PartSound s old (with_near parts (granted parts.near x p v c (Waiting o)))
    grant_sound = record {
      arrivals = sound.arrivals;
      departures = grant_departures;
      credits_up = sound.credits_up;
      credits_down = sound.credits_down;
      given = sound.given;
      sent_since = sound.sent_since;
      sources = sound.sources;
      sinks = grant_sinks s parts.near x p v c o waiting free f rest front owned sound.records sound.sinks;
      records = grant_records s parts.near x p v c o waiting free f rest front owned sound.records;
      holders = grant_holders s parts.near x p v c o waiting free f rest front owned sound.holders;
      fits = sound.fits;
      buffered = sound.buffered;
      passed = sound.passed;
      leaving = sound.leaving;
      unfed = sound.unfed;
      accepted = sound.accepted;
      histories = sound.histories;
    }
