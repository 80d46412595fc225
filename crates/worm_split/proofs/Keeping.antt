-- What the network of a part does by itself, within the part, keeps it a part.
use Rattle.std.proofs.Common.{◌≡◌, ℕ, Bool, true, inl, inr, List, [], ◌∷◌, length, map}
use Rattle.std.proofs.Common.{Option, Some, None, Ok, Err, refl, sym, ap, subst, ◌∙◌}
use Rattle.std.specs.Prelude.{Result}
use Rattle.std.specs.List.{range_with_len}
use Rattle.worm_flit.specs.declared.Flit.{Flit}
use Rattle.worm_theory.specs.Shape.{Shape, IsMesh}
use Rattle.worm_theory.specs.Network.{Network}
use Rattle.worm_theory.specs.Steps.{Step, Feed, Route, Take, TakeCredit, after}
use Rattle.worm_region.specs.Shape.{net_shape}
use Rattle.worm_region.specs.State.{NetState, IsSameConfig, shape, network_of}
use Rattle.worm_region.specs.Replies.{Attempts, Replies}
use Rattle.worm_region.specs.Turns.{Passage, Each, ◌and_then◌, AsksSourceBy, TakesCreditsBy, TakesFlitsBy}
use Rattle.worm_region.specs.Turns.{FeedsClassesBy, RoutesPortBy, RoutesChannelsBy, ask, all_ports, mesh_ports}
use Rattle.worm_script.specs.Script.{begun_at}
use Rattle.worm_script.specs.declared.entry.Act.{Act}
use Rattle.worm_script.specs.declared.entry.Act.TheVariants.{Offer as ToOffer, Close as ToClose}
use Rattle.worm_script.specs.declared.entry.Entry.{Entry}
use Rattle.worm_region.specs.declared.step.Moved.{Moved}
use Rattle.worm_region.specs.declared.step.Moved.TheVariants.{Done, Idle}
use Rattle.worm_region.specs.declared.fault.StepFault.{StepFault}
use Rattle.worm_region.specs.declared.fault.StepFault.TheVariants.{NoSuchPlace, Refused, NoMemory}
use Rattle.worm_theory.specs.Region.{HasPart}
use Rattle.worm_theory.specs.Steps.{node_of}
use Rattle.worm_theory.proofs.Regions.{step_part}
use Rattle.worm_split.specs.declared.ends.End.{End}
use Rattle.worm_split.specs.Ends.{seen_by}
use Rattle.worm_split.proofs.NoEndTouched.{Sees, seen_after, seen_enabled}

same_config : (s : NetState) → IsSameConfig s s
same_config s = record { mesh = refl; channels = refl; depth = refl; names = refl; own = refl }

config_on : (a b c : NetState) → IsSameConfig a b → IsSameConfig b c → IsSameConfig a c
config_on a b c h k = record {
  mesh = k.mesh ∙ h.mesh;
  channels = k.channels ∙ h.channels;
  depth = k.depth ∙ h.depth;
  names = k.names ∙ h.names;
  own = k.own ∙ h.own;
}

module _ (s : Shape) (mesh : IsMesh s) (old : Network) (own : ℕ → Bool) (end : ℕ → ℕ → End) (taken : ℕ → ℕ
    → List Flit) (returned : ℕ → ℕ → List ℕ) where
  -- the network of these lists is a part's with these ends
  pub record IsOf (a : NetState) : Type 0 where
    pub same_shape : shape a ≡ s
    pub holds : HasPart s old own (seen_by end (network_of a)) taken returned

  -- the passage keeps it, and the configuration
  abbrev pub Keeps : Passage → Type 0
  Keeps P = (a b : NetState) (fault : Option StepFault) → IsOf a → P a fault b → IsOf b × IsSameConfig a b

  -- a step at one of the part's nodes, of which what it reads and writes of links is seen
  abbrev pub IsWithin : Step → Type 0
  IsWithin step = (own (node_of step) ≡ true) × ((net : Network) → Sees s end net step)

  shape_on : (a b : NetState) → shape a ≡ s → IsSameConfig a b → shape b ≡ s
  shape_on a b e config = (λ t. net_shape (config.mesh t) (config.channels t) (config.depth t)) ∙ e

  pub stays : (a b : NetState) → b ≡ a → IsOf a → IsOf b × IsSameConfig a b
  stays a b e h = (subst IsOf (sym e) h, subst (λ (t : NetState). IsSameConfig a t) (sym e) (same_config a))

  pub keeps_answer : (step : Step) → own (node_of step) ≡ true → (a b : NetState) (answer : Result Moved StepFault)
      → Sees s end (network_of a) step → IsOf a → Replies a step answer b → IsOf b × IsSameConfig a b
  keeps_answer step here a b (Ok Done) sees h d =
      let N = network_of a in
      let there = subst (λ (z : Shape). Rattle.worm_theory.specs.Steps.IsThere z step) h.same_shape d.there in
      let enabled = subst (λ (z : Shape). Rattle.worm_theory.specs.Steps.Enabled z N step) h.same_shape d.enabled in
      let made = step_part s mesh old own taken returned (seen_by end N) step here there
      (seen_enabled s end N step sees enabled) h.holds in
      let to : seen_by end (network_of b) ≡ after s (seen_by end N) step
      = ap (λ (n : Network). seen_by end n) (d.after_it ∙ ap (λ (z : Shape). after z N step) h.same_shape)
      ∙ seen_after s end N step sees in (
        record {
          same_shape = shape_on a b h.same_shape d.config;
          holds = subst (λ (n : Network). HasPart s old own n taken returned) (sym to) made;
        },
        d.config,
      )
  keeps_answer step here a b (Ok Idle) sees h i = stays a b i.3 h
  keeps_answer step here a b (Err NoSuchPlace) sees h i = stays a b i.1 h
  keeps_answer step here a b (Err (Refused why)) sees h i = stays a b i.3 h
  keeps_answer step here a b (Err NoMemory) sees h i = stays a b i.3 h

  pub keeps_try : (step : Step) → IsWithin step → Keeps (Attempts step)
  keeps_try step within a b fault h tried = keeps_answer step within.0 a b tried.0 (within.1 (network_of a)) h tried.1

  pub keeps_each : {A : Type 0} (P : A → Passage) → (xs : List A) → ((x : A) → Keeps (P x)) → Keeps (Each P xs)
  keeps_each P [] each a b fault h made = stays a b made.1 h
  keeps_each P (x ∷ xs) each a b fault h made = elim made [
    | inl ended ↦ each x a b fault h ended.1
    | inr on ↦
        let first = each x a on.0 None h on.1 in
        let rest = keeps_each P xs each on.0 b fault first.0 on.2 in
        (rest.0, config_on a on.0 b first.1 rest.1)
  ]

  pub keeps_then : (P Q : Passage) → Keeps P → Keeps Q → Keeps (P and_then Q)
  keeps_then P Q one two a b fault h made = elim made [
    | inl ended ↦ one a b fault h ended.1
    | inr on ↦
        let first = one a on.0 None h on.1 in
        let rest = two on.0 b fault first.0 on.2 in
        (rest.0, config_on a on.0 b first.1 rest.1)
  ]

  -- the steps of a list that a function makes
  keeps_map : {A : Type 0} (f : A → Step) (xs : List A) → ((x : A) → IsWithin (f x)) → Keeps (Each Attempts (map f xs))
  keeps_map f [] within a b fault h made = stays a b made.1 h
  keeps_map f (x ∷ xs) within a b fault h made = elim made [
    | inl ended ↦ keeps_try (f x) (within x) a b fault h ended.1
    | inr on ↦
        let first = keeps_try (f x) (within x) a on.0 None h on.1 in
        let rest = keeps_map f xs within on.0 b fault first.0 on.2 in
        (rest.0, config_on a on.0 b first.1 rest.1)
  ]

  -- The phases of a turn, at one of the part's nodes whose links are seen as the node's own lists.
  module _ (x : ℕ) (here : own x ≡ true) (in_sees : (p y : ℕ) → s.neighbour x p ≡ Some y
      → Rattle.worm_split.proofs.NoEndTouched.SeesFlits (end y (s.opposite p)))
      (out_sees : (o : ℕ) → Rattle.worm_split.proofs.NoEndTouched.SeesCredits (end x o)) where
    asked_within : (act : Act) → IsWithin (ask x act)
    asked_within (ToOffer packet) = (here, λ net. tt)
    asked_within (ToClose lane) = (here, λ net. tt)

    pub keeps_asking : (entries : List Entry) → Keeps (AsksSourceBy Attempts entries x)
    keeps_asking entries a b fault h made =
        keeps_map (λ (e : Entry). ask x e.act) (begun_at x entries) (λ e. asked_within e.act) a b fault h made

    pub keeps_credits : Keeps (TakesCreditsBy Attempts x)
    keeps_credits a b fault h made = keeps_map (TakeCredit x) (mesh_ports a)
        (λ o. (here, λ net. out_sees o)) a b fault h made

    pub keeps_flits : Keeps (TakesFlitsBy Attempts x)
    keeps_flits a b fault h made = keeps_map (Take x) (mesh_ports a) (λ p. (here, λ net. in_sees p)) a b fault h made

    pub keeps_feeding : Keeps (FeedsClassesBy Attempts x)
    keeps_feeding a b fault h made = keeps_map (Feed x) (range_with_len 0 (length a.channels))
        (λ k. (here, λ net. tt)) a b fault h made

    keeps_port : (p : ℕ) → Keeps (RoutesPortBy Attempts x p)
    keeps_port p a b fault h made = keeps_map (Route x p) _ (λ v. (here, λ net. tt)) a b fault h made

    pub keeps_routing : Keeps (RoutesChannelsBy Attempts x)
    keeps_routing a b fault h made = keeps_each (RoutesPortBy Attempts x) (all_ports a) keeps_port a b fault h made
