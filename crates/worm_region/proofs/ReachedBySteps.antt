-- One network is reached from another by steps.
use Rattle.std.proofs.Common.{◌≡◌, [], ◌∷◌, ◌++◌, Ok, Err, inl, refl, sym, subst, ◌∙◌}
use Rattle.std.specs.Prelude.{Result}
use Rattle.worm_theory.specs.Shape.{Shape}
use Rattle.worm_theory.specs.Steps.{Step, StepsLead}
use Rattle.worm_theory.proofs.Lists.{steps-append}
use Rattle.worm_region.specs.Shape.{net_shape}
use Rattle.worm_region.specs.declared.step.Moved.{Moved}
use Rattle.worm_region.specs.declared.step.Moved.TheVariants.{Done, Idle}
use Rattle.worm_region.specs.declared.fault.StepFault.{StepFault}
use Rattle.worm_region.specs.declared.fault.StepFault.TheVariants.{NoSuchPlace, Refused, NoMemory}
use Rattle.worm_region.specs.State.{NetState, IsSameConfig, shape, network_of}
use Rattle.worm_region.specs.Owned.{owned_by, sole}
use Rattle.worm_region.specs.Moves.{done_step}
use Rattle.worm_region.specs.Replies.{IsMade, Replies}
use Rattle.worm_region.specs.Workable.{IsWorkable, IsWorkableBy, owned}
use Rattle.worm_region.specs.declared.owner.Owner.{Owner}
use Rattle.worm_region.specs.Turns.{Reaches}

pub reached : (s : NetState) → Reaches s s
reached s =
    record {
      steps = [];
      led = refl;
      config = record { mesh = refl; channels = refl; depth = refl; names = refl; own = refl };
    }

pub joined : (old mid new : NetState) → Reaches old mid → Reaches mid new → Reaches old new
joined old mid new first then =
    let same_shape : shape mid ≡ shape old =
    λ t. net_shape (first.config.mesh t) (first.config.channels t) (first.config.depth t) in
    record {
      steps = first.steps ++ then.steps;
      led =
          steps-append (shape old) first.steps then.steps (network_of old) (network_of mid) (network_of new) first.led
          (subst (λ (s : Shape). StepsLead s (network_of mid) then.steps (network_of new)) same_shape then.led);
      config =
          record {
            mesh = then.config.mesh ∙ first.config.mesh;
            channels = then.config.channels ∙ first.config.channels;
            depth = then.config.depth ∙ first.config.depth;
            names = then.config.names ∙ first.config.names;
            own = then.config.own ∙ first.config.own;
          };
    }

-- what holds of a network, and of what a step makes of it, holds of the next one, whatever the step was answered
pub by_made : (Holds : NetState → Type 0) (old new : NetState) (step : Step) (answer : Result Moved StepFault)
    → Replies old step answer new → Holds old → (IsMade old step new → Holds (done_step old step)) → Holds new
by_made Holds old new step (Ok Done) made holds done = subst Holds (sym made.exact) (done made)
by_made Holds old new step (Ok Idle) same holds done = subst Holds (sym same.3) holds
by_made Holds old new step (Err NoSuchPlace) same holds done = subst Holds (sym same.1) holds
by_made Holds old new step (Err (Refused fault)) same holds done = subst Holds (sym same.3) holds
by_made Holds old new step (Err NoMemory) same holds done = subst Holds (sym same.3) holds

pub by_answer : (old new : NetState) (step : Step) (answer : Result Moved StepFault) → Replies old step answer new →
    Reaches old new
by_answer old new step answer replies = by_made (λ s. Reaches old s) old new step answer replies (reached old)
    (λ made. subst (λ (s : NetState). Reaches old s) made.exact (record {
      steps = step ∷ [];
      led = (network_of new, inl (made.there, made.enabled, made.after_it), refl);
      config = made.config;
    }))

-- the network before a step under another name
pub replies_from : (inside old new : NetState) (step : Step) (answer : Result Moved StepFault) → inside ≡ old →
    Replies inside step answer new → Replies old step answer new
replies_from inside old new step answer same replies =
    subst (λ (s : NetState). Replies s step answer new) same replies

-- what is answered leaves a region to whoever has it
pub still_workable : (s new : NetState) (step : Step) (answer : Result Moved StepFault)
    → IsWorkableBy (owned s) new × Replies s step answer new → IsWorkable new
still_workable s new step answer made =
    let same = (by_answer s new step answer made.1).config.own in
    subst (λ (own : Owner). IsWorkableBy (owned_by own) new) (sym same) made.0

-- both of these
pub answered_inside : (inside seen new : NetState) (step : Step) (answer : Result Moved StepFault) → inside ≡ seen
    → IsWorkableBy (owned inside) new × Replies inside step answer new → IsWorkable new × Replies seen step answer new
answered_inside inside seen new step answer same made =
    (still_workable inside new step answer made, replies_from inside seen new step answer same made.1)

-- who owned all nodes owns them all
pub whole_after : (old new : NetState) → IsSameConfig old new → old.own ≡ sole → new.own ≡ sole
whole_after old new config whole = config.own ∙ whole
