-- In a sound network nothing is hindered, so what its region does, it does; and it stays sound.
use Rattle.std.proofs.Common.{◌≡◌, ℕ, ◌≤◌, inl, inr, List, [], ◌∷◌, length, Option, None, Ok, Err, ap, sym, subst, ◌∙◌}
use Rattle.std.specs.Prelude.{Result}
use Rattle.std.proofs.lemmas.Bool.{cases_lt}
use Rattle.std.proofs.lemmas.List.{set_past}
use Rattle.worm_router.specs.Allocation.{after_allocate}
use Rattle.worm_theory.specs.Shape.{Shape}
use Rattle.worm_theory.specs.Sound.{Sound, OthersIdle, OnesClosed}
use Rattle.worm_theory.specs.Cut.{LanesCut}
use Rattle.worm_theory.specs.PacketCut.{PacketsHold}
use Rattle.worm_theory.specs.Steps.{Step, Offer, CloseLane, Feed, Route, Grant, Send, Take, GiveCredit, TakeCredit}
use Rattle.worm_theory.specs.Steps.{IsThere, Enabled}
use Rattle.worm_theory.proofs.Keeps.{steps_sound}
use Rattle.worm_theory.proofs.CutKeeps.{steps_keep}
use Rattle.worm_theory.proofs.PacketKeeps.{steps_packets}
use Rattle.worm_theory.proofs.Others.{steps_others}
use Rattle.worm_theory.proofs.Closed.{steps_closed}
use Rattle.worm_region.specs.Shape.{net_shape}
use Rattle.worm_region.specs.State.{NetState, IsNet, IsFramed, shape, network_of, router_at, with_node, with_router}
use Rattle.worm_region.specs.Moves.{chosen_router}
use Rattle.worm_region.specs.Answers.{Answers}
use Rattle.worm_region.specs.Replies.{Attempts, Hindered, Replies}
use Rattle.worm_region.specs.Turns.{ComesIn, Passage, Each, ForEach, ◌and_then◌, Reaches, Tries, Allocates}
use Rattle.worm_region.specs.Turns.{TakesCredits, TakesFlits, FeedsClasses, RoutesPort, RoutesChannels, SendsGranted}
use Rattle.worm_region.specs.Turns.{GivesCredit, GivesCredits, NodePasses, NodeTurn, AsksSource, Turn, all_nodes}
use Rattle.worm_region.specs.Turns.{all_ports, mesh_ports, AsksSourceBy, ComesInBy, FeedsClassesBy, GivesCreditBy}
use Rattle.worm_region.specs.Turns.{GivesCreditsBy, NodePassesBy, NodeTurnBy, RoutesChannelsBy, RoutesPortBy}
use Rattle.worm_region.specs.Turns.{SendsGrantedBy, TakesCreditsBy, TakesFlitsBy}
use Rattle.worm_node.specs.declared.node.Node.{Node}
use Rattle.worm_script.specs.declared.entry.Entry.{Entry}
use Rattle.worm_region.specs.declared.step.Moved.{Moved}
use Rattle.worm_region.specs.declared.step.Moved.TheVariants.{Done, Idle}
use Rattle.worm_region.specs.declared.fault.StepFault.{StepFault}
use Rattle.worm_region.specs.declared.fault.StepFault.TheVariants.{NoSuchPlace, Refused, NoMemory}
use Rattle.worm_region.proofs.PassIsGrants.{allocated, chosen}
use Rattle.worm_region.proofs.FrameKept.{framed_mesh}
use Rattle.worm_region.proofs.NewNet.{workable}
use Rattle.worm_core.proofs.NetWays.{send_way}
use Rattle.worm_region.proofs.ReachedBySteps.{by_answer}
use Rattle.worm_region.proofs.StaysAtNode.{anywhere}

-- any list of steps keeps a network sound
pub net_reached : (a b : NetState) → IsNet a → Reaches a b → IsFramed b → IsNet b
net_reached a b net reaches framed =
    let mesh = framed_mesh a net.framed in
    let same : shape a ≡ shape b =
    λ t. net_shape (sym reaches.config.mesh t) (sym reaches.config.channels t) (sym reaches.config.depth t) in
    record {
      framed = framed;
      all_owned = reaches.config.own ∙ net.all_owned;
      sound =
          subst (λ (s : Shape). Sound s (network_of b)) same
          (steps_sound (shape a) mesh reaches.steps (network_of a) (network_of b) reaches.led net.sound);
      cut =
          subst (λ (s : Shape). LanesCut s (network_of b)) same
          (steps_keep (shape a) mesh reaches.steps (network_of a) (network_of b) reaches.led net.sound net.cut).1;
      packets =
          subst (λ (s : Shape). PacketsHold s (network_of b)) same
          (steps_packets (shape a) mesh reaches.steps (network_of a) (network_of b) reaches.led net.sound net.packets);
      others =
          subst (λ (s : Shape). OthersIdle s (network_of b)) same
          (steps_others (shape a) mesh reaches.steps (network_of a) (network_of b) reaches.led net.others);
      closed =
          subst (λ (s : Shape). OnesClosed s (network_of b)) same
          (steps_closed (shape a) reaches.steps (network_of a) (network_of b) reaches.led net.closed);
    }

-- no step is hindered
free : (s : NetState) (step : Step) → IsNet s → IsThere (shape s) step → Enabled (shape s) (network_of s) step →
    Hindered s step → ⊥
unfolding net_shape
free s (Offer x lane words) net there enabled hindered = hindered
free s (CloseLane x lane) net there enabled hindered = hindered
free s (Feed x k) net there enabled hindered = hindered
free s (Route x p v) net there enabled hindered = hindered
free s (Grant x p v c) net there enabled hindered = hindered
free s (Send x p v) net there enabled hindered = hindered (send_way s x p v net there)
free s (Take x p) net there enabled hindered = hindered
free s (GiveCredit x p v) net there enabled hindered = hindered
free s (TakeCredit x o) net there enabled hindered = hindered

pub net_answers : (a b : NetState) (step : Step) (answer : Result Moved StepFault) → IsNet a →
    Replies a step answer b → IsNet b × Answers a step answer b
net_answers a b step (Ok Done) net d = (
  net_reached a b net (by_answer a b step (Ok Done) d) d.framed,
  record { there = d.there; enabled = d.enabled; after_it = d.after_it; config = d.config; exact = d.exact },
)
net_answers a b step (Ok Idle) net i =
    (subst IsNet (sym i.3) net, (i.0, λ enabled. free a step net i.0 enabled (i.1 enabled), i.2, i.3))
net_answers a b step (Err NoSuchPlace) net i = (subst IsNet (sym i.1) net, i)
net_answers a b step (Err (Refused why)) net i = (subst IsNet (sym i.3) net, i)
net_answers a b step (Err NoMemory) net i = (subst IsNet (sym i.3) net, (i.0, i.1, i.2, i.3))

-- passages

abbrev Lifts : Passage → Passage → Type 0
Lifts P Q = (a b : NetState) (fault : Option StepFault) → IsNet a → P a fault b → IsNet b × Q a fault b

lift_try : (step : Step) → Lifts (Attempts step) (Tries step)
lift_try step a b fault net tried =
    let made = net_answers a b step tried.0 net tried.1 in (made.0, (tried.0, made.1, tried.2))

lift_each : {A : Type 0} (P Q : A → Passage) → ((x : A) → Lifts (P x) (Q x)) → (xs : List A) →
    Lifts (Each P xs) (Each Q xs)
lift_each P Q each [] a b fault net stays = (subst IsNet (sym stays.1) net, stays)
lift_each P Q each (x ∷ xs) a b fault net made = elim made [
  | inl ended ↦ let first = each x a b fault net ended.1 in (first.0, inl (ended.0, first.1))
  | inr on ↦
      let first = each x a on.0 None net on.1 in
      let rest = lift_each P Q each xs on.0 b fault first.0 on.2 in
      (rest.0, inr (on.0, first.1, rest.1))
]

lift_then : (P Q P2 Q2 : Passage) → Lifts P P2 → Lifts Q Q2 → Lifts (P and_then Q) (P2 and_then Q2)
lift_then P Q P2 Q2 one two a b fault net made = elim made [
  | inl ended ↦ let first = one a b fault net ended.1 in (first.0, inl (ended.0, first.1))
  | inr on ↦
      let first = one a on.0 None net on.1 in
      let rest = two on.0 b fault first.0 on.2 in
      (rest.0, inr (on.0, first.1, rest.1))
]

-- a router that is written where no node is
written_past : (s : NetState) (x : ℕ) (n : Node) → length s.nodes ≤ x → with_node s x n ≡ s
written_past s x n past = ap (λ (nodes : List Node). record s { nodes = nodes }) (set_past s.nodes x n past)

net_allocated : (s : NetState) (x : ℕ) → IsNet s → IsNet (with_router s x (after_allocate (router_at s x)))
net_allocated s x net = elim (cases_lt x (length s.nodes)) [
  | inl there ↦
      let made = allocated s x (workable s net) there in net_reached s _ net (anywhere x s _ made.1) made.0.framed
  | inr past ↦ subst IsNet (sym (written_past s x _ past)) net
]

net_chosen : (s : NetState) (x : ℕ) → IsNet s → IsNet (with_router s x (chosen_router (router_at s x)))
net_chosen s x net = elim (cases_lt x (length s.nodes)) [
  | inl there ↦
      let made = chosen s x (workable s net) there in net_reached s _ net (anywhere x s _ made.1) made.0.framed
  | inr past ↦ subst IsNet (sym (written_past s x _ past)) net
]

lift_allocates : (x : ℕ) → Lifts (Allocates x) (Allocates x)
lift_allocates x a b fault net made = (subst IsNet (sym made.1) (net_allocated a x net), made)

lift_sends : (x : ℕ) → Lifts (SendsGrantedBy Attempts x) (SendsGranted x)
lift_sends x a b fault net made =
    lift_each Attempts Tries lift_try _ (with_router a x (chosen_router (router_at a x))) b fault
    (net_chosen a x net) made

lift_tries : (list : NetState → List Step) → Lifts (ForEach list Attempts) (ForEach list Tries)
lift_tries list a b fault net made = lift_each Attempts Tries lift_try (list a) a b fault net made

lift_for : {A : Type 0} (list : NetState → List A) (P Q : A → Passage) → ((x : A) → Lifts (P x) (Q x)) →
    Lifts (ForEach list P) (ForEach list Q)
lift_for list P Q each a b fault net made = lift_each P Q each (list a) a b fault net made

lift_in : (x : ℕ) → Lifts (ComesInBy Attempts x) (ComesIn x)
lift_in x =
    lift_then (TakesCreditsBy Attempts x) _ (TakesCredits x) _ (lift_tries _)
    (lift_then (TakesFlitsBy Attempts x) _ (TakesFlits x) _ (lift_tries _)
    (lift_then (FeedsClassesBy Attempts x) (RoutesChannelsBy Attempts x) (FeedsClasses x) (RoutesChannels x)
    (lift_tries _)
    (lift_for all_ports (RoutesPortBy Attempts x) (RoutesPort x) (λ p. lift_tries _))))

lift_node : (x : ℕ) → Lifts (NodePassesBy Attempts x) (NodePasses x)
lift_node x =
    lift_then (ComesInBy Attempts x) _ (ComesIn x) _ (lift_in x)
    (lift_then (Allocates x) _ (Allocates x) _ (lift_allocates x)
    (lift_then (SendsGrantedBy Attempts x) (GivesCreditsBy Attempts x) (SendsGranted x) (GivesCredits x) (lift_sends x)
    (lift_for mesh_ports (GivesCreditBy Attempts x) (GivesCredit x) (λ p. lift_tries _))))

pub lift_turn : (entries : List Entry) → Lifts (ForEach all_nodes (NodeTurnBy Attempts entries)) (Turn entries)
unfolding Turn
lift_turn entries =
    lift_for all_nodes (NodeTurnBy Attempts entries) (NodeTurn entries)
    (λ x. lift_then (AsksSourceBy Attempts entries x) (NodePassesBy Attempts x) (AsksSource entries x) (NodePasses x)
    (lift_tries _) (lift_node x))
