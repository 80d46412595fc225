-- A passage of steps that are tried at one node leads by steps at it.
use Rattle.std.proofs.Common.{◌≡◌, ℕ, inl, inr, List, [], ◌∷◌, ◌++◌, map, Option, Ok, Err, refl, sym, subst, ◌∙◌}
use Rattle.std.specs.Prelude.{Result}
use Rattle.std.proofs.lemmas.List.Elements.{All-append, All-cons, All-nil}
use Rattle.worm_theory.specs.Shape.{Shape}
use Rattle.worm_theory.specs.Steps.{Step, Feed, Route, Take, TakeCredit, StepsLead, node_of}
use Rattle.worm_theory.proofs.Lists.{steps-append}
use Rattle.worm_region.specs.Shape.{net_shape}
use Rattle.worm_region.specs.State.{NetState, shape, network_of}
use Rattle.worm_region.specs.Replies.{Attempts, Replies}
use Rattle.worm_script.specs.Script.{begun_at}
use Rattle.worm_region.specs.Turns.{Passage, ◌and_then◌, Each, Reaches, ReachesAt, ask, AsksSourceBy}
use Rattle.worm_region.specs.Turns.{ComesInBy, TakesCreditsBy, TakesFlitsBy, FeedsClassesBy, RoutesChannelsBy}
use Rattle.worm_region.specs.Turns.{RoutesPortBy, all_ports, mesh_ports, all_classes, all_channels}
use Rattle.worm_script.specs.declared.entry.Act.{Act}
use Rattle.worm_script.specs.declared.entry.Act.TheVariants.{Offer as ToOffer, Close as ToClose}
use Rattle.worm_script.specs.declared.entry.Entry.{Entry}
use Rattle.worm_region.specs.declared.step.Moved.{Moved}
use Rattle.worm_region.specs.declared.step.Moved.TheVariants.{Done, Idle}
use Rattle.worm_region.specs.declared.fault.StepFault.{StepFault}
use Rattle.worm_region.specs.declared.fault.StepFault.TheVariants.{NoSuchPlace, Refused, NoMemory}

abbrev AtNode : ℕ → Step → Type 0
AtNode x step = node_of step ≡ x

pub none_at : (x : ℕ) (s : NetState) → ReachesAt x s s
none_at x s = record {
  steps = [];
  at_node = All-nil (AtNode x);
  led = refl;
  config = record { mesh = refl; channels = refl; depth = refl; names = refl; own = refl };
}

pub joined_at : (x : ℕ) (old mid new : NetState) → ReachesAt x old mid → ReachesAt x mid new → ReachesAt x old new
joined_at x old mid new first then =
    let a = first.config in
    let b = then.config in
    let same_shape : shape mid ≡ shape old = λ t. net_shape (a.mesh t) (a.channels t) (a.depth t) in
    let led = subst (λ (s : Shape). StepsLead s (network_of mid) then.steps (network_of new)) same_shape then.led in
    record {
      steps = first.steps ++ then.steps;
      at_node = All-append (AtNode x) first.steps then.steps first.at_node then.at_node;
      led =
          steps-append (shape old) first.steps then.steps (network_of old) (network_of mid)
          (network_of new) first.led led;
      config = record {
        mesh = b.mesh ∙ a.mesh;
        channels = b.channels ∙ a.channels;
        depth = b.depth ∙ a.depth;
        names = b.names ∙ a.names;
        own = b.own ∙ a.own;
      };
    }

-- whatever a step was answered
pub answered_at : (old new : NetState) (step : Step) (answer : Result Moved StepFault) → Replies old step answer new
    → ReachesAt (node_of step) old new
answered_at old new step (Ok Done) a = record {
  steps = step ∷ [];
  at_node = All-cons (AtNode (node_of step)) step [] refl (All-nil (AtNode (node_of step)));
  led = (network_of new, inl (a.there, a.enabled, a.after_it), refl);
  config = a.config;
}
answered_at old new step (Ok Idle) a =
    subst (λ (s : NetState). ReachesAt (node_of step) old s) (sym a.3) (none_at (node_of step) old)
answered_at old new step (Err NoSuchPlace) a =
    subst (λ (s : NetState). ReachesAt (node_of step) old s) (sym a.1) (none_at (node_of step) old)
answered_at old new step (Err (Refused fault)) a =
    subst (λ (s : NetState). ReachesAt (node_of step) old s) (sym a.3) (none_at (node_of step) old)
answered_at old new step (Err NoMemory) a =
    subst (λ (s : NetState). ReachesAt (node_of step) old s) (sym a.3) (none_at (node_of step) old)

pub anywhere : (x : ℕ) (old new : NetState) → ReachesAt x old new → Reaches old new
anywhere x old new at = record { steps = at.steps; led = at.led; config = at.config }

-- passages

abbrev StaysAt : ℕ → Passage → Type 0
StaysAt x P = (old new : NetState) (fault : Option StepFault) → P old fault new → ReachesAt x old new

try_at : (x : ℕ) (step : Step) → node_of step ≡ x → StaysAt x (Attempts step)
try_at x step here old new fault tried =
    subst (λ (y : ℕ). ReachesAt y old new) here (answered_at old new step tried.0 tried.1)

then_at : (x : ℕ) (P Q : Passage) → StaysAt x P → StaysAt x Q → StaysAt x (P and_then Q)
then_at x P Q one two old new fault made = elim made [
  | inl ended ↦ one old new fault ended.1
  | inr on ↦ joined_at x old on.0 new (one old on.0 _ on.1) (two on.0 new fault on.2)
]

steps_at : {A : Type 0} (x : ℕ) (f : A → Step) → ((a : A) → node_of (f a) ≡ x) → (list : List A) →
    StaysAt x (Each Attempts (map f list))
steps_at x f here [] old new fault stays = subst (λ (s : NetState). ReachesAt x old s) (sym stays.1) (none_at x old)
steps_at x f here (a ∷ list) old new fault made =
    then_at x (Attempts (f a)) (Each Attempts (map f list)) (try_at x (f a) (here a))
    (steps_at x f here list) old new fault made

each_at : {A : Type 0} (x : ℕ) (P : A → Passage) → ((a : A) → StaysAt x (P a)) → (list : List A) →
    StaysAt x (Each P list)
each_at x P here [] old new fault stays = subst (λ (s : NetState). ReachesAt x old s) (sym stays.1) (none_at x old)
each_at x P here (a ∷ list) old new fault made =
    then_at x (P a) (Each P list) (here a) (each_at x P here list) old new fault made

asked_there : (x : ℕ) (act : Act) → node_of (ask x act) ≡ x
asked_there x (ToOffer packet) = refl
asked_there x (ToClose lane) = refl

pub asks_at : (x : ℕ) (entries : List Entry) → StaysAt x (AsksSourceBy Attempts entries x)
asks_at x entries old new fault made =
    steps_at x (λ (e : Entry). ask x e.act) (λ e. asked_there x e.act) (begun_at x entries) old new fault made

pub comes_at : (x : ℕ) → StaysAt x (ComesInBy Attempts x)
comes_at x =
    then_at x (TakesCreditsBy Attempts x) _ (λ old. steps_at x (TakeCredit x) (λ p. refl) (mesh_ports old) old)
    (then_at x (TakesFlitsBy Attempts x) _ (λ old. steps_at x (Take x) (λ p. refl) (mesh_ports old) old)
    (then_at x (FeedsClassesBy Attempts x) (RoutesChannelsBy Attempts x)
    (λ old. steps_at x (Feed x) (λ k. refl) (all_classes old) old)
    (λ old. each_at x (RoutesPortBy Attempts x) (λ p mid. steps_at x (Route x p) (λ v. refl) (all_channels mid) mid)
    (all_ports old) old)))
