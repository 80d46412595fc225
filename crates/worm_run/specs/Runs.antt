-- What a run by workers gives back, in the words of parts, and in the words of the network's sources, sinks and stops.
use Rattle.std.specs.Prelude.{◌≡◌, ℕ, ◌+◌, ◌<◌, ◌≤◌, ◌%◌, List, [], ◌∷◌, ◌++◌, length, map, Option, None, Some}
use Rattle.std.specs.Prelude.{slice_index_or, vec_len, vec_capacity}
use Rattle.worm_mesh.specs.Address.{node_count}
use Rattle.worm_term.specs.declared.fault.OfferFault.{OfferFault}
use Rattle.worm_term.specs.Source.{SourceState}
use Rattle.worm_script.specs.Script.{begun_at, due}
use Rattle.worm_region.specs.State.{NetState, source_at, sink_at}
use Rattle.worm_script.specs.declared.entry.Entry.{Entry}
use Rattle.worm_split.specs.PartState.{PartState, HasConfigOf}
use Rattle.worm_split.specs.Effects.{HasAccepted, Refuses}
use Rattle.worm_split.specs.Joins.{IsJoinOf}
use Rattle.worm_split.specs.Splits.{IsSplitOf}
use Rattle.worm_run.specs.Working.{AllWorked, GrewBy, MayPassBelow, StopsAs, due_before, stop_of, turns_begun}
use Rattle.worm_run.specs.declared.plan.Stop.{Stop}
use Rattle.worm_split.specs.declared.stop.StopWhy.{StopWhy}
use Rattle.worm_split.specs.declared.stop.StopWhy.TheVariants.{Gate, NoMemory as OutOfMemory, Refused as WasRefused}
use Rattle.worm_run.specs.declared.plan.RunEnd.{RunEnd}
use Rattle.worm_run.specs.declared.plan.RunPlan.{RunPlan}
use Rattle.worm_run.specs.declared.plan.RunFault.{RunFault}
use Rattle.worm_run.specs.declared.plan.RunFault.TheVariants.{Workers, NotStarted, NoMemory as NoRoom}
use Rattle.worm_run.specs.declared.running.Ran.{Ran}
use Rattle.worm_run.specs.declared.running.Rooms.{Rooms}
use Rattle.worm_run.specs.declared.working.Worked.{Worked}

-- empty lists with room for what each worker gives
pub record HasRooms (workers : ℕ) (r : Rooms) : Type 0 where
  pub done : (vec_len r.done ≡ 0) × (workers ≤ vec_capacity r.done)
  pub stops : (vec_len r.stops ≡ 0) × (workers ≤ vec_capacity r.stops)
  pub ended : (vec_len r.ended ≡ 0) × (workers ≤ vec_capacity r.ended)

-- How a worker's turns ended: how many there were, and why no further one.
pub record Ending : Type 0 where
  pub ended : ℕ
  pub why : Option StopWhy

abbrev pub ending_of : Worked → Ending
ending_of w = record { ended = w.ended; why = w.stop }

abbrev pub ending_at : List Ending → ℕ → Ending
ending_at endings w = slice_index_or endings w (record { ended = 0; why = None })

-- the stops of the workers from a first one on, by rising worker
abbrev pub stops_of : ℕ → List Ending → List Stop
stops_of worker [] = []
stops_of worker (e ∷ es) = stop_of worker e.ended e.why ++ stops_of (worker + 1) es

-- the parts, the stops and the numbers of ended turns are those of workers that did this
pub record IsEndOf (done : List Worked) (ran : Ran) : Type 0 where
  pub parts : ran.parts.items ≡ map (λ (w : Worked). w.part) done
  pub stops : ran.stops.items ≡ stops_of 0 (map ending_of done)
  pub ended : ran.ended.items ≡ map (λ (w : Worked). w.ended) done

-- each worker worked on its part, and gave it back
pub record RanAs (may_stop may_pass : ℕ → ℕ → Type 0) (script : List Entry) (turns : ℕ) (before : List PartState)
    (ran : Ran) : Type 0 where
  pub done : List Worked
  pub worked : AllWorked may_stop may_pass script turns 0 before done
  pub gives : IsEndOf done ran

-- 1 to 16 workers, and at most as many as nodes
pub record HasWorkers (net : NetState) (plan : RunPlan) : Type 0 where
  pub some : 1 ≤ plan.workers
  pub few : plan.workers ≤ 16
  pub with_nodes : plan.workers ≤ node_count net.mesh

-- The network was split among the workers, each of them worked on its part, and the network is what their parts make.
pub record IsRunOf (may_stop may_pass : ℕ → ℕ → Type 0) (script : List Entry) (plan : RunPlan) (old : NetState)
    (end : RunEnd) : Type 0 where
  pub parts : List PartState
  pub split : IsSplitOf old plan.workers parts
  pub done : List Worked
  pub worked : AllWorked may_stop may_pass script plan.turns 0 parts done
  pub joined : IsJoinOf (map (λ (w : Worked). w.part) done) end.net
  pub stops : end.stops.items ≡ stops_of 0 (map ending_of done)
  pub ended : end.ended.items ≡ map (λ (w : Worked). w.ended) done

-- Of the entries of a stopped turn the source accepted a first part; a gate stops before a turn's first.
abbrev pub TakesOf : Option StopWhy → (due accepted : List Entry) → Type 0
TakesOf None due accepted = accepted ≡ []
TakesOf (Some Gate) due accepted = accepted ≡ []
TakesOf (Some OutOfMemory) due accepted = (left : List Entry) × (due ≡ accepted ++ left)
TakesOf (Some (WasRefused why)) due accepted = (left : List Entry) × (due ≡ accepted ++ left)

-- What the source of node x has: what it had, the entries of the turns that its worker ended, in script order, and a
-- first part of those of the turn in which it was stopped.
pub record SourceRan (script : List Entry) (e : Ending) (x : ℕ) (old new : SourceState) : Type 0 where
  pub more : List Entry
  pub first_part : TakesOf e.why (begun_at x (due e.ended script)) more
  pub accepted : HasAccepted old (begun_at x (due_before e.ended script) ++ more) new

-- Where a refusal stopped worker w of so many, the source of one of its nodes refuses its next entry of that turn
-- for this reason.
pub record RefusesItsNext (script : List Entry) (ended : ℕ) (why : OfferFault) (workers w : ℕ)
    (old new : NetState) : Type 0 where
  pub node : ℕ
  pub there : node < node_count old.mesh
  pub own : node % workers ≡ w
  pub taken : List Entry
  pub next : Entry
  pub left : List Entry
  pub cut : begun_at node (due ended script) ≡ taken ++ next ∷ left
  pub accepted : HasAccepted (source_at old node) (begun_at node (due_before ended script) ++ taken)
      (source_at new node)
  pub refused : Refuses (source_at new node) next why

-- What a run gives, in the words of the network: the same configuration; of each source and sink what its worker's
-- turns may have brought, a sink one flit at most for each turn that was begun; the stops, by rising worker; and no
-- turn was begun but where the gate may answer true.
pub record RunsTo (may_stop may_pass : ℕ → ℕ → Type 0) (script : List Entry) (plan : RunPlan) (old : NetState)
    (end : RunEnd) : Type 0 where
  pub config : HasConfigOf old end.net
  pub endings : List Ending
  pub all : length endings ≡ plan.workers
  pub each : (w : ℕ) → w < plan.workers →
      StopsAs may_stop plan.turns w (ending_at endings w).ended (ending_at endings w).why
  pub passed : (w : ℕ) → w < plan.workers → let e = ending_at endings w in
      MayPassBelow may_pass w (turns_begun e.ended e.why)
  pub stops : end.stops.items ≡ stops_of 0 endings
  pub ended : end.ended.items ≡ map (λ (e : Ending). e.ended) endings
  pub sources : (x : ℕ) → x < node_count old.mesh →
      SourceRan script (ending_at endings (x % plan.workers)) x (source_at old x) (source_at end.net x)
  pub sinks : (x : ℕ) → x < node_count old.mesh → let e = ending_at endings (x % plan.workers) in
      GrewBy (turns_begun e.ended e.why) (sink_at old x).delivered (sink_at end.net x).delivered
  pub refused : (w : ℕ) (why : OfferFault) → w < plan.workers → (ending_at endings w).why ≡ Some (WasRefused why) →
      RefusesItsNext script (ending_at endings w).ended why plan.workers w old end.net

-- what a fault of a run tells
abbrev pub FailsAs : NetState → RunPlan → RunFault → Type 0
FailsAs net plan (Workers n) = (n ≡ net) × (HasWorkers net plan → ⊥)
FailsAs net plan (NoRoom n) = (n ≡ net) × HasWorkers net plan
FailsAs net plan (NotStarted worker) = (worker < plan.workers) × HasWorkers net plan
