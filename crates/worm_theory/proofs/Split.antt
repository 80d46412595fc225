-- A sound network split at its links: each node holds by itself.
use Rattle.std.proofs.Common.{◌≡◌, ℕ, ◌<◌, [], All, Option, Some, None, refl, sym, arith, append-nil}
use Rattle.std.proofs.lemmas.List.Elements.{All-nil}
use Rattle.worm_flit.specs.declared.Flit.{Flit}
use Rattle.worm_flit.specs.Stamps.{on_channel}
use Rattle.worm_theory.specs.Worm.{Runs, worm_after}
use Rattle.worm_theory.specs.Shape.{Shape, IsMesh}
use Rattle.worm_theory.specs.Network.{Network, upstream}
use Rattle.worm_theory.specs.Sound.{Sound}
use Rattle.worm_theory.specs.Cut.{held}
use Rattle.worm_theory.proofs.Runs.{Runs-split}
use Rattle.worm_theory.specs.Parts.{Parts, opened, split, given_then, gathered}
use Rattle.worm_theory.specs.PartSound.{PartSound, PartQueues, PartHolds, ArrivalsRun, CreditsDown, ComesBy}
use Rattle.worm_theory.specs.Join.{Holds}
use Rattle.worm_theory.proofs.PartLists.{Runs-end}

module _ (s : Shape) (mesh : IsMesh s) (old : Network) (sound : Sound s old) where
  -- the buffer leads to where the channel stood, and the link goes on from there
  split_link : (y o x v : ℕ) → s.neighbour y o ≡ Some x →
      Runs (worm_after (old.last_out x (s.opposite o) v)) (old.buffer x (s.opposite o) v)
      (opened old x (s.opposite o) v) ×
      Runs (opened old x (s.opposite o) v) (on_channel v (old.out y o)) (upstream old y o v)
  split_link y o x v linked =
      let halves =
      Runs-split (old.buffer x (s.opposite o) v) (on_channel v (old.out y o))
      (worm_after (old.last_out x (s.opposite o) v)) (upstream old y o v) (sound.links y o x v linked) in
      let met =
      Runs-end (old.buffer x (s.opposite o) v) (worm_after (old.last_out x (s.opposite o) v)) halves.0 halves.1 in
      rw met (halves.1, halves.2)

  split_arrivals : ArrivalsRun s old (split s old)
  split_arrivals x p y v linked =
      let back = mesh.link_back x p y linked in
      let twice = mesh.opposite_twice x p y linked in
      rw twice at (split_link y (s.opposite p) x v back).0

  split_credits_down : CreditsDown s old (split s old)
  split_credits_down x p y v there linked = rw linked (omega arith)

  given_at : (p : ℕ) (end : Option ℕ) → All (λ c. c < s.vcs) (given_then s old p end)
  given_at p None = All-nil (λ (c : ℕ). c < s.vcs)
  given_at p (Some y) = sound.entries y (s.opposite p)

  split_sound : PartSound s old (split s old)
  split_sound = record {
    arrivals = split_arrivals;
    departures = λ y o x v linked. (split_link y o x v linked).1;
    credits_up = λ y o x v there linked. omega arith;
    credits_down = split_credits_down;
    given = λ x p. given_at p (s.neighbour x p);
    sent_since = λ x o. ([], sym (append-nil (old.out x o)));
    sources = sound.sources;
    sinks = sound.sinks;
    records = sound.records;
    holders = sound.holders;
    fits = sound.fits;
    buffered = sound.buffered;
    passed = sound.passed;
    leaving = sound.leaving;
    unfed = sound.unfed;
    accepted = sound.accepted;
    histories = sound.histories;
  }

split_queues : (s : Shape) (old : Network) → PartQueues s old (split s old)
split_queues s old = record {
  inputs = λ x p v. sym (append-nil (old.buffer x p v));
  lasts = λ x p v. refl;
  sends = λ lane there x p from. sym (append-nil (held lane (old.out x (s.next_port x lane.dst))));
  sources =
      λ x k. (
        [],
        sym (append-nil (old.injected x k)),
        λ lane own own_class. sym (append-nil (held lane (old.unfed x k))),
      );
  arriving = λ x p. All-nil (ComesBy s x p);
  departing = λ x p. All-nil (ComesBy s x p);
  fed = λ x. All-nil (λ (f : Flit). f.vc ≡ s.first f.lane.class);
}

pub split_holds : (s : Shape) → IsMesh s → (old : Network) → Holds s old → PartHolds s old (split s old)
split_holds s mesh old hold =
    record {
      sound = split_sound s mesh old hold.sound;
      queues = split_queues s old;
      others = hold.others;
      closed = hold.closed;
    }

-- what each part knows of its own nodes, taken together
pub gather_holds : (s : Shape) (old : Network) (part : ℕ → Parts) → ((x : ℕ) → PartHolds s old (part x)) →
    PartHolds s old (gathered part)
gather_holds s old part each = record {
  sound = record {
    arrivals = λ x. (each x).sound.arrivals x;
    departures = λ y. (each y).sound.departures y;
    credits_up = λ y. (each y).sound.credits_up y;
    credits_down = λ x. (each x).sound.credits_down x;
    given = λ x. (each x).sound.given x;
    sent_since = λ x. (each x).sound.sent_since x;
    sources = λ x. (each x).sound.sources x;
    sinks = λ x. (each x).sound.sinks x;
    records = λ x. (each x).sound.records x;
    holders = λ x. (each x).sound.holders x;
    fits = λ x. (each x).sound.fits x;
    buffered = λ x. (each x).sound.buffered x;
    passed = λ x. (each x).sound.passed x;
    leaving = λ x. (each x).sound.leaving x;
    unfed = λ x. (each x).sound.unfed x;
    accepted = λ x. (each x).sound.accepted x;
    histories = λ lane. (each lane.src).sound.histories lane;
  };
  queues = record {
    inputs = λ x. (each x).queues.inputs x;
    lasts = λ x. (each x).queues.lasts x;
    sends = λ lane there x. (each x).queues.sends lane there x;
    sources = λ x. (each x).queues.sources x;
    arriving = λ x. (each x).queues.arriving x;
    departing = λ x. (each x).queues.departing x;
    fed = λ x. (each x).queues.fed x;
  };
  others = λ x. (each x).others x;
  closed = λ lane. (each lane.src).closed lane;
}
