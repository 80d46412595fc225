-- What a run gives, read off what its workers did.
use Rattle.std.proofs.Common.{◌≡◌, ℕ, ◌<◌, ◌%◌, ◌==◌, true, List, [], ◌∷◌, ◌++◌, length, map, Option, Some}
use Rattle.std.proofs.Common.{refl, arith, ap, sym, subst, ◌∙◌}
use Rattle.std.proofs.lemmas.List.{get_or-map, length-map}
use Rattle.std.proofs.lemmas.Nat.{mod_below}
use Rattle.worm_mesh.specs.Address.{node_count}
use Rattle.worm_term.specs.declared.fault.OfferFault.{OfferFault}
use Rattle.worm_term.specs.Source.{SourceState}
use Rattle.worm_script.specs.Script.{begun_at}
use Rattle.worm_region.specs.Owned.{owned_by}
use Rattle.worm_region.specs.State.{NetState, node_at, source_at, sink_at}
use Rattle.worm_region.specs.Workable.{owned}
use Rattle.worm_node.specs.declared.node.Node.{Node}
use Rattle.worm_region.specs.declared.owner.Owner.{Owner}
use Rattle.worm_script.specs.declared.entry.Entry.{Entry}
use Rattle.worm_split.specs.Effects.{HasAccepted, Refuses}
use Rattle.worm_split.specs.Joins.{IsJoinOf, IsLaterThan}
use Rattle.worm_split.specs.PartState.{PartState, HasConfigOf}
use Rattle.worm_split.specs.Splits.{IsSplitOf, part_at}
use Rattle.worm_run.specs.Runs.{Ending, HasWorkers, IsRunOf, RanAs, RefusesItsNext, RunsTo, SourceRan, ending_at}
use Rattle.worm_run.specs.Runs.{ending_of}
use Rattle.worm_run.specs.Working.{EndsIn, GrewBy, MayPassBelow, StopsAs, WorkedAs, due_before}
use Rattle.worm_run.specs.Working.{fault_of_stop, turns_begun}
use Rattle.worm_run.specs.declared.plan.RunEnd.{RunEnd}
use Rattle.worm_run.specs.declared.running.Ran.{Ran}
use Rattle.worm_run.specs.declared.plan.RunPlan.{RunPlan}
use Rattle.worm_split.specs.declared.stop.StopWhy.{StopWhy}
use Rattle.worm_split.specs.declared.stop.StopWhy.TheVariants.{Refused}
use Rattle.worm_run.specs.declared.working.Worked.{Worked}
use Rattle.worm_run.proofs.Endings.{PartRefuses, ends_refused, ends_sink, ends_source}
use Rattle.worm_run.proofs.Owners.{as_many, count, moved, moved_at, opened, worked, worked_at, no_work}

same_number : (a : ℕ) → (a == a) ≡ true
same_number a = grind arith

number_is : (a b : ℕ) → (a == b) ≡ true → a ≡ b
number_is a b e = grind (arith, e)

ended_of : (done : List Worked) → map (λ (w : Worked). w.ended) done
    ≡ map (λ (e : Ending). e.ended) (map ending_of done)
ended_of [] = refl
ended_of (w ∷ ws) = ap (λ (l : List ℕ). w.ended ∷ l) (ended_of ws)

-- what came back, sorted out, and joined
pub run_of : (stop pass : ℕ → ℕ → Type 0) (script : List Entry) (plan : RunPlan) (old net : NetState)
    (parts : List PartState) (ran : Ran) → IsSplitOf old plan.workers parts
    → RanAs stop pass script plan.turns parts ran → IsJoinOf ran.parts.items net →
    IsRunOf stop pass script plan old (record { net = net; stops = ran.stops; ended = ran.ended })
run_of stop pass script plan old net parts ran split so joined = record {
  parts = parts;
  split = split;
  done = so.done;
  worked = so.worked;
  joined = subst (λ (ps : List PartState). IsJoinOf ps net) so.gives.parts joined;
  stops = so.gives.stops;
  ended = so.gives.ended;
}

-- and it is later than the network that was split
pub later_of : (stop pass : ℕ → ℕ → Type 0) (script : List Entry) (turns : ℕ) (old net : NetState) (workers : ℕ)
    (parts : List PartState) (ran : Ran) → IsSplitOf old workers parts → RanAs stop pass script turns parts ran
    → 0 < workers →
    IsLaterThan (part_at ran.parts.items 0).opening net → IsLaterThan old net
later_of stop pass script turns old net workers parts ran split so some later =
    let same : (part_at ran.parts.items 0).opening ≡ old
    = ap (λ (ps : List PartState). (part_at ps 0).opening) so.gives.parts
    ∙ opened stop pass script turns old workers parts so.done split so.worked 0 some in
    subst (λ (s : NetState). IsLaterThan s net) same later

module _ (stop pass : ℕ → ℕ → Type 0) (script : List Entry) (plan : RunPlan) (old : NetState) (end : RunEnd)
    (has : HasWorkers old plan) (ran : IsRunOf stop pass script plan old end) where
  abbrev parts : List PartState
  parts = ran.parts

  abbrev done : List Worked
  done = ran.done

  abbrev W : ℕ
  W = plan.workers

  abbrev after : List PartState
  after = moved stop pass script plan.turns old W parts done ran.split ran.worked

  some : 0 < W
  some = let h = has.some in omega arith

  total : length after ≡ W
  total = count stop pass script plan.turns old W parts done ran.split ran.worked

  did : (w : ℕ) → w < W → WorkedAs stop pass script plan.turns w (part_at parts w) (worked_at done w)
  did = worked stop pass script plan.turns old W parts done ran.split ran.worked

  at : (w : ℕ) → w < W → part_at after w ≡ (worked_at done w).part
  at = moved_at stop pass script plan.turns old W parts done ran.split ran.worked

  opening : (part_at after 0).opening ≡ old
  opening = opened stop pass script plan.turns old W parts done ran.split ran.worked 0 some

  pub config : HasConfigOf old end.net
  config = subst (λ (s : NetState). HasConfigOf s end.net) opening ran.joined.config

  ending : (w : ℕ) → w < W → ending_at (map ending_of done) w ≡ ending_of (worked_at done w)
  ending w below =
      let n : length done ≡ length parts = as_many stop pass script plan.turns 0 parts done ran.worked in
      let m = ran.split.count in
      get_or-map ending_of done w no_work _ (omega arith)

  -- by node
  module _ (x : ℕ) (there : x < node_count old.mesh) where
    abbrev w : ℕ
    w = x % W

    below : w < W
    below = mod_below x W some

    abbrev before : PartState
    before = part_at parts w

    abbrev did_w : Worked
    did_w = worked_at done w

    in_part : x < node_count before.net.mesh
    in_part = subst (λ (m : List ℕ). x < node_count m) (sym (ran.split.each w below).config.mesh) there

    mine : owned before.net x ≡ true
    mine = subst (λ (o : Owner). owned_by o x ≡ true) (sym (ran.split.each w below).own) (same_number w)

    from : node_at before.net x ≡ node_at old x
    from = (ran.split.each w below).nodes x mine

    to : node_at end.net x ≡ node_at did_w.part.net x
    to =
        let inside : x < node_count end.net.mesh = subst (λ (m : List ℕ). x < node_count m) (sym config.mesh) there in
        let here : part_at after (x % length after) ≡ part_at after w = ap (λ (n : ℕ). part_at after (x % n)) total in
        ran.joined.nodes x inside ∙ ap (λ (p : PartState). node_at p.net x) (here ∙ at w below)

    pub source : SourceRan script (ending_at (map ending_of done) w) x (source_at old x) (source_at end.net x)
    source =
        let ran_so = ends_source script did_w.ended before did_w.part x in_part mine did_w.stop (did w below).ends in
        subst (λ (e : Ending). SourceRan script e x (source_at old x) (source_at end.net x)) (sym (ending w below))
        (subst (λ (n : Node). SourceRan script (ending_of did_w) x n.source (source_at end.net x)) from
        (subst (λ (n : Node). SourceRan script (ending_of did_w) x (source_at before.net x) n.source) (sym to) ran_so))

    pub sink : GrewBy (turns_begun (ending_at (map ending_of done) w).ended (ending_at (map ending_of done) w).why)
        (sink_at old x).delivered (sink_at end.net x).delivered
    sink =
        let grew = ends_sink script did_w.ended before did_w.part x in_part mine did_w.stop (did w below).ends in
        subst (λ (e : Ending). GrewBy (turns_begun e.ended e.why) (sink_at old x).delivered
        (sink_at end.net x).delivered)
        (sym (ending w below))
        (subst (λ (n : Node). GrewBy (turns_begun did_w.ended did_w.stop)
        n.sink.delivered (sink_at end.net x).delivered) from
        (subst (λ (n : Node). GrewBy (turns_begun did_w.ended did_w.stop)
        (sink_at before.net x).delivered n.sink.delivered)
        (sym to) grew))

  -- by worker
  stops_as : (w : ℕ) → w < W →
      StopsAs stop plan.turns w (ending_at (map ending_of done) w).ended (ending_at (map ending_of done) w).why
  stops_as w under =
      subst (λ (e : Ending). StopsAs stop plan.turns w e.ended e.why) (sym (ending w under)) (did w under).stops

  passes : (w : ℕ) → w < W →
      MayPassBelow pass w (turns_begun (ending_at (map ending_of done) w).ended (ending_at (map ending_of done) w).why)
  passes w under =
      subst (λ (e : Ending). MayPassBelow pass w (turns_begun e.ended e.why)) (sym (ending w under))
      (did w under).passed

  refuses : (w : ℕ) (why : OfferFault) → w < W → (ending_at (map ending_of done) w).why ≡ Some (Refused why) →
      RefusesItsNext script (ending_at (map ending_of done) w).ended why W w old end.net
  refuses w why under is =
      let d = worked_at done w in
      let stopped : d.stop ≡ Some (Refused why) = ap (λ (e : Ending). e.why) (sym (ending w under)) ∙ is in
      let r : PartRefuses script d.ended (part_at parts w) d.part why =
      ends_refused script d.ended (part_at parts w) d.part why
      (subst (λ (s : Option StopWhy). EndsIn script d.ended (fault_of_stop s) (part_at parts w) d.part) stopped
      (did w under).ends) in
      let first = ran.split.each w under in
      let there : r.node < node_count old.mesh =
      subst (λ (m : List ℕ). r.node < node_count m) first.config.mesh r.there in
      let own : (r.node % W == w) ≡ true = subst (λ (o : Owner). owned_by o r.node ≡ true) first.own r.own in
      let at_w : r.node % W ≡ w = number_is (r.node % W) w own in
      let before : source_at (part_at parts w).net r.node ≡ source_at old r.node =
      ap (λ (n : Node). n.source) (first.nodes r.node r.own) in
      let behind : source_at end.net r.node ≡ source_at d.part.net r.node
      = ap (λ (n : Node). n.source) (to r.node there)
      ∙ ap (λ (v : ℕ). source_at (worked_at done v).part.net r.node) at_w in
      let accepted : List Entry = begun_at r.node (due_before d.ended script) ++ r.taken in
      subst (λ (n : ℕ). RefusesItsNext script n why W w old end.net)
      (ap (λ (e : Ending). e.ended) (sym (ending w under))) record {
        node = r.node;
        there = there;
        own = at_w;
        taken = r.taken;
        next = r.next;
        left = r.left;
        cut = r.cut;
        accepted = subst (λ (s : SourceState). HasAccepted s accepted (source_at end.net r.node)) before
            (subst (λ (s : SourceState). HasAccepted (source_at (part_at parts w).net r.node) accepted s)
            (sym behind) r.accepted);
        refused = subst (λ (s : SourceState). Refuses s r.next why) (sym behind) r.refused;
      }

  pub runs_to : RunsTo stop pass script plan old end
  runs_to = record {
    config = config;
    endings = map ending_of done;
    all = length-map done ending_of ∙ (as_many stop pass script plan.turns 0 parts done ran.worked ∙ ran.split.count);
    each = stops_as;
    passed = passes;
    stops = ran.stops;
    ended = ran.ended ∙ ended_of done;
    sources = source;
    sinks = sink;
    refused = refuses;
  }
