-- Worked cases on two nodes in a line, each value read off by computation.
use Rattle.std.proofs.Common.{◌≡◌, ℕ, inl, inr, List, [], ◌∷◌, ◌++◌, refl, arith}
use Rattle.worm_flit.specs.declared.Lane.{Lane}
use Rattle.worm_flit.specs.declared.Kind.TheVariants.{Head, Body, Tail, Single}
use Rattle.worm_flit.specs.Stamps.{with_channel}
use Rattle.worm_flit.specs.Packets.{flit, packet_flits, mark}
use Rattle.worm_theory.specs.Shape.{Shape}
use Rattle.worm_theory.specs.Network.{Network}
use Rattle.worm_theory.specs.Steps.{Step, Offer, CloseLane, Feed, Route, Grant, Send, Take, IsThere, Enabled, after}
use Rattle.worm_theory.specs.Steps.{StepsLead, empty}
use Rattle.worm_theory.specs.Cut.{delivered, underway}
use Rattle.worm_theory.proofs.Lists.{steps-append}
use Rattle.worm_theory.proofs.Lines.{line}

-- what the steps make, each of them done
abbrev pub all_after : Shape → Network → List Step → Network
all_after s net [] = net
all_after s net (step ∷ steps) = all_after s (after s net step) steps

-- each of them is there and enabled when its turn comes
abbrev pub AllEnabled : Shape → Network → List Step → Type 0
AllEnabled s net [] = Unit {0}
AllEnabled s net (step ∷ steps) = (IsThere s step × Enabled s net step) × AllEnabled s (after s net step) steps

pub all_lead : (s : Shape) (net : Network) (steps : List Step) → AllEnabled s net steps
    → StepsLead s net steps (all_after s net steps)
all_lead s net [] h = refl
all_lead s net (step ∷ steps) h = (after s net step, inl (h.0.0, h.0.1, refl), all_lead s (after s net step) steps h.1)

infixr 5 ◌next◌
◌next◌ : {A B : Type 0} → A → B → A × B
a next b = (a, b)

abbrev lane : Lane
lane = record { src = 0; dst = 1; class = 0 }

two_words : packet_flits lane 0 (17 ∷ 18 ∷ []) ≡ flit lane 0 0 Head 17 ∷ flit lane 0 1 Tail 18 ∷ []
two_words = refl

three_words : packet_flits lane 4 (1 ∷ 2 ∷ 3 ∷ [])
    ≡ flit lane 4 0 Head 1 ∷ flit lane 4 1 Body 2 ∷ flit lane 4 2 Tail 3 ∷ []
three_words = refl

-- A class of two channels: the second packet, of one word, overtakes the first.
abbrev overtaking : List Step
overtaking =
    Offer 0 lane (1 ∷ 2 ∷ []) ∷ Offer 0 lane
    (3 ∷ []) ∷ Feed 0 0 ∷ Feed 0 0 ∷ Route 0 2 0 ∷ Grant 0 2 0 0 ∷ Send 0 2 0 ∷ Send 0 2 0 ∷ Feed 0 0 ∷ Route 0 2 0
    ∷ Grant 0 2 0 1 ∷ Send 0 2 0 ∷
    Take 1 0 ∷ Take 1 0 ∷ Take 1 0 ∷ Route 1 0 1 ∷ Grant 1 0 1 1 ∷ Send 1 0 1 ∷ []

abbrev overtaken : Network
overtaken = all_after (line 2 2) (empty (line 2 2)) overtaking

overtaken_delivered : overtaken.out 1 2 ≡ with_channel (flit lane 1 0 Single 3) 1 ∷ []
overtaken_delivered = refl

overtaken_buffer : overtaken.buffer 1 0 0
    ≡ with_channel (flit lane 0 0 Head 1) 0 ∷ with_channel (flit lane 0 1 Tail 2) 0 ∷ []
overtaken_buffer = refl

overtaking_done : AllEnabled (line 2 2) (empty (line 2 2)) overtaking
overtaking_done = (
  omega arith,
  (
    record {
      own = refl;
      lane_there = record {
        source = omega arith;
        destination = omega arith;
        class = omega arith;
      };
      is_open = refl;
      room = omega arith;
    },
    omega arith,
    omega arith,
  ),
) next (
  omega arith,
  (
    record {
      own = refl;
      lane_there = record {
        source = omega arith;
        destination = omega arith;
        class = omega arith;
      };
      is_open = refl;
      room = omega arith;
    },
    omega arith,
    omega arith,
  ),
) next
    ((omega arith, omega arith), (omega arith, omega arith)) next
    ((omega arith, omega arith), (omega arith, omega arith)) next
    ((omega arith, inl refl, omega arith), (refl, refl)) next
    ((omega arith, inl refl, omega arith, omega arith), (refl, (omega arith, refl))) next
    ((omega arith, inl refl, omega arith), (omega arith, inr (omega arith), λ _. omega arith)) next
    ((omega arith, inl refl, omega arith), (omega arith, inr (omega arith), λ _. omega arith)) next
    ((omega arith, omega arith), (omega arith, omega arith)) next
    ((omega arith, inl refl, omega arith), (refl, refl)) next
    ((omega arith, inl refl, omega arith, omega arith), (refl, (omega arith, refl))) next
    ((omega arith, inl refl, omega arith), (omega arith, inr (omega arith), λ _. omega arith)) next
    ((omega arith, refl), omega arith) next
    ((omega arith, refl), omega arith) next
    ((omega arith, refl), omega arith) next
    ((omega arith, inr refl, omega arith), (refl, refl)) next
    ((omega arith, inr refl, omega arith, omega arith), (refl, (omega arith, refl))) next
    ((omega arith, inr refl, omega arith), (omega arith, inl refl, λ _. omega arith)) next
    tt

-- Of a class with two channels no lane is ever closed.
never_closed : (net : Network) → Enabled (line 2 2) net (CloseLane 0 lane) → ⊥
never_closed net h = let one : ◌≡◌ {A = ℕ} 1 0 = h.1 1 (omega arith, refl) in absurd (omega arith)

-- Depth 1: the first flit takes the one credit. The second waits in its buffer, however often it is sent.
abbrev starving : List Step
starving = Offer 0 lane (17 ∷ 18 ∷ []) ∷ Feed 0 0 ∷ Route 0 2 0 ∷ Grant 0 2 0 0 ∷ Send 0 2 0 ∷ Feed 0 0 ∷ []

abbrev starved : Network
starved = all_after (line 1 1) (empty (line 1 1)) starving

starving_done : AllEnabled (line 1 1) (empty (line 1 1)) starving
starving_done = (
  omega arith,
  (
    record {
      own = refl;
      lane_there = record {
        source = omega arith;
        destination = omega arith;
        class = omega arith;
      };
      is_open = refl;
      room = omega arith;
    },
    omega arith,
    omega arith,
  ),
) next
    ((omega arith, omega arith), (omega arith, omega arith)) next
    ((omega arith, inl refl, omega arith), (refl, refl)) next
    ((omega arith, inl refl, omega arith, omega arith), (refl, (omega arith, refl))) next
    ((omega arith, inl refl, omega arith), (omega arith, inr (omega arith), λ _. omega arith)) next
    ((omega arith, omega arith), (omega arith, omega arith)) next
    tt

no_credit : Enabled (line 1 1) starved (Send 0 2 0) → ⊥
no_credit h = elim h.1 [ inl at ↦ absurd (omega arith) | inr credit ↦ absurd (omega arith) ]

no_flit : Enabled (line 1 1) starved (Take 0 1) → ⊥
no_flit h = absurd h

-- eight steps, of which two are idle
starved_leads : StepsLead (line 1 1) (empty (line 1 1)) (starving ++ Send 0 2 0 ∷ Take 0 1 ∷ []) starved
starved_leads =
    steps-append (line 1 1) starving (Send 0 2 0 ∷ Take 0 1 ∷ []) (empty (line 1 1)) starved starved
    (all_lead (line 1 1) (empty (line 1 1)) starving starving_done)
    (starved, inr (λ h. no_credit h.1, refl), (starved, inr (λ h. no_flit h.1, refl), refl))

-- the first is on the link, the second behind it
starved_cut : delivered (line 1 1) starved lane ++ underway (line 1 1) starved lane 0
    ≡ with_channel (flit lane 0 0 Head 17) 0 ∷ with_channel (flit lane 0 1 Tail 18) 0 ∷ []
starved_cut = refl

starved_credits : starved.credits 0 1 0 ≡ 0
starved_credits = refl

-- A closed lane accepts nothing more.
abbrev shut : Network
shut = after (line 1 2) (empty (line 1 2)) (CloseLane 0 lane)

closing_done : AllEnabled (line 1 2) (empty (line 1 2)) (CloseLane 0 lane ∷ [])
closing_done = (
  omega arith,
  (
    record {
      own = refl;
      lane_there = record {
        source = omega arith;
        destination = omega arith;
        class = omega arith;
      };
      is_open = refl;
      room = omega arith;
    },
    λ v h. omega arith,
  ),
) next
    tt

shut_injected : shut.injected 0 0 ≡ mark lane 0 ∷ []
shut_injected = refl

shut_refuses : Enabled (line 1 2) shut (Offer 0 lane (5 ∷ [])) → ⊥
shut_refuses h = let e = h.0.is_open in cc

-- A node sends to itself.
abbrev home : Lane
home = record { src = 1; dst = 1; class = 0 }

abbrev returning : List Step
returning = Offer 1 home (5 ∷ []) ∷ Feed 1 0 ∷ Route 1 2 0 ∷ Grant 1 2 0 0 ∷ Send 1 2 0 ∷ []

returning_done : AllEnabled (line 1 2) (empty (line 1 2)) returning
returning_done = (
  omega arith,
  (
    record {
      own = refl;
      lane_there = record {
        source = omega arith;
        destination = omega arith;
        class = omega arith;
      };
      is_open = refl;
      room = omega arith;
    },
    omega arith,
    omega arith,
  ),
) next
    ((omega arith, omega arith), (omega arith, omega arith)) next
    ((omega arith, inl refl, omega arith), (refl, refl)) next
    ((omega arith, inl refl, omega arith, omega arith), (refl, (omega arith, refl))) next
    ((omega arith, inl refl, omega arith), (omega arith, inl refl, λ _. omega arith)) next
    tt

returned : (all_after (line 1 2) (empty (line 1 2)) returning).out 1 2 ≡ with_channel (flit home 0 0 Single 5) 0 ∷ []
returned = refl
