-- Steps that were answered Ok one after another: one step more, what they lead to, and what they keep.
use Rattle.std.proofs.Common.{◌≡◌, ℕ, ◌+◌, ◌<◌, inl, inr, List, [], ◌∷◌, ◌++◌, length, get_or, take, map}
use Rattle.std.proofs.Common.{Ok, refl, ap, sym, subst, ◌∙◌}
use Rattle.std.specs.Prelude.{Result}
use Rattle.std.proofs.lemmas.List.{take_more}
use Rattle.worm_theory.specs.Shape.{Shape}
use Rattle.worm_theory.specs.Steps.{Step as Event, StepsTo, StepsLead}
use Rattle.worm_region.specs.Shape.{net_shape}
use Rattle.worm_region.specs.declared.step.Moved.{Moved}
use Rattle.worm_region.specs.declared.step.Moved.TheVariants.{Done, Idle}
use Rattle.worm_region.specs.declared.step.Step.{Step}
use Rattle.worm_region.specs.declared.fault.StepFault.{StepFault}
use Rattle.worm_region.specs.State.{NetState, IsSameConfig, shape, network_of}
use Rattle.worm_region.specs.Answers.{Answers, ArbitersStand}
use Rattle.worm_region.specs.Runs.{AreAnswered, IsRun, event_of}
use Rattle.worm_region.proofs.ArbitersStand.{arbiters_stand, same_stands}

-- one step

pub steps_to : (mid new : NetState) (e : Event) (moved : Moved) → Answers mid e (Ok moved) new →
    StepsTo (shape mid) (network_of mid) e (network_of new)
steps_to mid new e Done a = inl (a.there, a.enabled, a.after_it)
steps_to mid new e Idle a = inr (λ h. a.1 h.1, ap (λ (s : NetState). network_of s) a.3)

same_config : (old new : NetState) → new ≡ old → IsSameConfig old new
same_config old new same = record {
  mesh = ap (λ (s : NetState). s.mesh) same;
  channels = ap (λ (s : NetState). s.channels) same;
  depth = ap (λ (s : NetState). s.depth) same;
  names = ap (λ (s : NetState). s.names) same;
  own = ap (λ (s : NetState). s.own) same;
}

pub config_to : (mid new : NetState) (e : Event) (moved : Moved) → Answers mid e (Ok moved) new → IsSameConfig mid new
config_to mid new e Done a = a.config
config_to mid new e Idle a = same_config mid new a.3

-- a list of them

answered_push : (old mid new : NetState) (steps : List Step) (step : Step) (moved : Moved) → AreAnswered old steps mid
    → Answers mid (event_of step) (Ok moved) new → AreAnswered old (steps ++ step ∷ []) new
answered_push old mid new [] step moved same last =
    (new, moved, subst (λ (s : NetState). Answers s (event_of step) (Ok moved) new) same last, refl)
answered_push old mid new (first ∷ steps) step moved all last =
    (all.0, all.1, all.2, answered_push all.0 mid new steps step moved all.3 last)

-- the step at a place was answered Ok, behind those before it
pub answered_on : (old mid new : NetState) (steps : List Step) (n i : ℕ) (step : Step) (answer : Result Moved StepFault)
    (moved : Moved) → n ≡ i → i < length steps → step ≡ get_or steps i step → AreAnswered old (take n steps) mid
    → Answers mid (event_of step) answer new → answer ≡ Ok moved → AreAnswered old (take (n + 1) steps) new
answered_on old mid new steps n i step answer moved so_far within at all last ok =
    let here : Answers mid (event_of (get_or steps i step)) (Ok moved) new =
    subst (λ (d : Step). Answers mid (event_of d) (Ok moved) new) at
    (subst (λ (r : Result Moved StepFault). Answers mid (event_of step) r new) ok last) in
    let before : AreAnswered old (take i steps) mid =
    subst (λ (k : ℕ). AreAnswered old (take k steps) mid) so_far all in
    let on : AreAnswered old (take (i + 1) steps) new =
    subst (λ (xs : List Step). AreAnswered old xs new) (sym (take_more steps i step within))
    (answered_push old mid new (take i steps) (get_or steps i step) moved before here) in
    subst (λ (k : ℕ). AreAnswered old (take (k + 1) steps) new) (sym so_far) on

answered_keep : (old new : NetState) (steps : List Step) → AreAnswered old steps new → IsSameConfig old new
answered_keep old new [] same = same_config old new same
answered_keep old new (step ∷ steps) all =
    let first = config_to old all.0 (event_of step) all.1 all.2 in
    let rest = answered_keep all.0 new steps all.3 in
    record {
      mesh = rest.mesh ∙ first.mesh;
      channels = rest.channels ∙ first.channels;
      depth = rest.depth ∙ first.depth;
      names = rest.names ∙ first.names;
      own = rest.own ∙ first.own;
    }

answered_lead : (old new : NetState) (steps : List Step) → AreAnswered old steps new →
    StepsLead (shape old) (network_of old) (map event_of steps) (network_of new)
answered_lead old new [] same = ap (λ (s : NetState). network_of s) same
answered_lead old new (step ∷ steps) all =
    let config = config_to old all.0 (event_of step) all.1 all.2 in
    let same : shape all.0 ≡ shape old = λ t. net_shape (config.mesh t) (config.channels t) (config.depth t) in
    let rest : StepsLead (shape old) (network_of all.0) (map event_of steps) (network_of new) =
    subst (λ (s : Shape). StepsLead s (network_of all.0) (map event_of steps) (network_of new)) same
    (answered_lead all.0 new steps all.3) in
    (network_of all.0, steps_to old all.0 (event_of step) all.1 all.2, rest)

pub run_of : (old new : NetState) (steps : List Step) (n : ℕ) → AreAnswered old (take n steps) new →
    IsRun old new steps n
run_of old new steps n all =
    record { led = answered_lead old new (take n steps) all; config = answered_keep old new (take n steps) all }

pub answered_stand : (old new : NetState) (steps : List Step) → AreAnswered old steps new → ArbitersStand old new
answered_stand old new [] same = same_stands old new same
answered_stand old new (step ∷ steps) all = λ x.
    let first = arbiters_stand old all.0 (event_of step) (Ok all.1) all.2 in
    let rest = answered_stand all.0 new steps all.3 in
    ((rest x).0 ∙ (first x).0, (rest x).1 ∙ (first x).1)
