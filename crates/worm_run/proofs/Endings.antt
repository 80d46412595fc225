-- What a worker's turns made of its part, however they ended.
use Rattle.std.proofs.Common.{◌≡◌, ℕ, ◌+◌, ◌<◌, true, List, [], ◌∷◌, ◌++◌, Option, Some, None, refl}
use Rattle.std.proofs.Common.{sym, subst, append-nil}
use Rattle.worm_mesh.specs.Address.{node_count}
use Rattle.worm_term.specs.declared.fault.OfferFault.{OfferFault}
use Rattle.worm_script.specs.Script.{begun_at, due}
use Rattle.worm_region.specs.State.{source_at, sink_at}
use Rattle.worm_region.specs.Owned.{owned_by}
use Rattle.worm_region.specs.Workable.{owned}
use Rattle.worm_region.specs.declared.owner.Owner.{Owner}
use Rattle.worm_script.specs.declared.entry.Entry.{Entry}
use Rattle.worm_region.specs.declared.fault.StepFault.{StepFault}
use Rattle.worm_split.specs.Effects.{HasAccepted, Refuses}
use Rattle.worm_split.specs.PartState.{PartState, IsSamePart}
use Rattle.worm_split.proofs.Accepted.{accepted-then}
use Rattle.worm_split.proofs.PartLoops.{same_on}
use Rattle.worm_run.specs.Working.{EndsIn, GrewBy, HasTurned, IsStopped, due_before, fault_of_stop, turns_begun}
use Rattle.worm_run.specs.Runs.{SourceRan}
use Rattle.worm_split.specs.declared.stop.StopWhy.{StopWhy}
use Rattle.worm_split.specs.declared.stop.StopWhy.TheVariants.{Gate, NoMemory, Refused}
use Rattle.worm_run.proofs.Turning.{grew_more, own_still, there_still}

module _ (script : List Entry) (n : ℕ) (old new : PartState) where
  pub ends_same : (f : Option StepFault) → EndsIn script n f old new → IsSamePart old new
  ends_same None turned = turned.same
  ends_same (Some fault) (mid, turned, stopped) = same_on old mid new turned.same stopped.same

  module _ (x : ℕ) (below : x < node_count old.net.mesh) (own : owned old.net x ≡ true) where
    -- all turns were whole
    whole_source : HasTurned script n old new →
        HasAccepted (source_at old.net x) (begun_at x (due_before n script) ++ []) (source_at new.net x)
    whole_source turned =
        subst (λ (es : List Entry). HasAccepted (source_at old.net x) es (source_at new.net x))
        (sym (append-nil (begun_at x (due_before n script)))) (turned.sources x below own)

    -- the last was not
    cut_source : (fault : StepFault) (mid : PartState) → HasTurned script n old mid
        → IsStopped (due n script) fault mid new →
        (taken : List Entry) × ((left : List Entry) × (begun_at x (due n script) ≡ taken ++ left))
        × HasAccepted (source_at old.net x) (begun_at x (due_before n script) ++ taken) (source_at new.net x)
    cut_source fault mid turned stopped =
        let took = stopped.sources x (there_still old mid x turned.same below)
        (own_still old mid x turned.same own) in (
          took.taken,
          (took.left, took.cut),
          accepted-then (source_at old.net x) (source_at mid.net x) (source_at new.net x)
              (begun_at x (due_before n script))
              took.taken (turned.sources x below own) took.accepted,
        )

    pub ends_source : (why : Option StopWhy) → EndsIn script n (fault_of_stop why) old new →
        SourceRan script (record { ended = n; why = why }) x (source_at old.net x) (source_at new.net x)
    ends_source None turned = record { more = []; first_part = refl; accepted = whole_source turned }
    ends_source (Some Gate) turned = record { more = []; first_part = refl; accepted = whole_source turned }
    ends_source (Some NoMemory) (mid, turned, stopped) =
        let cut = cut_source _ mid turned stopped in
        record { more = cut.0; first_part = cut.1; accepted = cut.2 }
    ends_source (Some (Refused why)) (mid, turned, stopped) =
        let cut = cut_source _ mid turned stopped in
        record { more = cut.0; first_part = cut.1; accepted = cut.2 }

    cut_sink : (fault : StepFault) (mid : PartState) → HasTurned script n old mid
        → IsStopped (due n script) fault mid new →
        GrewBy (n + 1) (sink_at old.net x).delivered (sink_at new.net x).delivered
    cut_sink fault mid turned stopped =
        grew_more n (sink_at old.net x).delivered (sink_at mid.net x).delivered (sink_at new.net x).delivered
        (turned.sinks x below own)
        (stopped.sinks x (there_still old mid x turned.same below) (own_still old mid x turned.same own))

    pub ends_sink : (why : Option StopWhy) → EndsIn script n (fault_of_stop why) old new →
        GrewBy (turns_begun n why) (sink_at old.net x).delivered (sink_at new.net x).delivered
    ends_sink None turned = turned.sinks x below own
    ends_sink (Some Gate) turned = turned.sinks x below own
    ends_sink (Some NoMemory) (mid, turned, stopped) = cut_sink _ mid turned stopped
    ends_sink (Some (Refused why)) (mid, turned, stopped) = cut_sink _ mid turned stopped

  -- a refusal ended them: a node of the part whose source refuses its next entry
  pub record PartRefuses (why : OfferFault) : Type 0 where
    pub node : ℕ
    pub there : node < node_count old.net.mesh
    pub own : owned old.net node ≡ true
    pub taken : List Entry
    pub next : Entry
    pub left : List Entry
    pub cut : begun_at node (due n script) ≡ taken ++ next ∷ left
    pub accepted : HasAccepted (source_at old.net node) (begun_at node (due_before n script) ++ taken)
        (source_at new.net node)
    pub refused : Refuses (source_at new.net node) next why

  pub ends_refused : (why : OfferFault) → EndsIn script n (fault_of_stop (Some (Refused why))) old new → PartRefuses why
  ends_refused why (mid, turned, stopped) =
      let r = stopped.refused why refl in
      let below : r.node < node_count old.net.mesh =
      subst (λ (m : List ℕ). r.node < node_count m) turned.same.config.mesh r.there in
      let own = own_back turned.same r.node r.own in
      record {
        node = r.node;
        there = below;
        own = own;
        taken = r.taken;
        next = r.next;
        left = r.left;
        cut = r.cut;
        accepted = accepted-then (source_at old.net r.node) (source_at mid.net r.node) (source_at new.net r.node)
            (begun_at r.node (due_before n script)) r.taken (turned.sources r.node below own) r.accepted;
        refused = r.refused;
      } where
        own_back : IsSamePart old mid → (x : ℕ) → owned mid.net x ≡ true → owned old.net x ≡ true
        own_back same x own = subst (λ (w : Owner). owned_by w x ≡ true) same.config.own own
