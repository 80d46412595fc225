-- What is done at one node: the others stay as they are, and so does what its source accepted, and but for what is sent
-- to it, its sink.
use Rattle.std.proofs.Common.{◌≡◌, ℕ, ◌<◌, List, [], ◌∷◌, length, map, Option, Some, None, Ok, Err}
use Rattle.std.proofs.Common.{refl, sym, ap, subst, ◌∙◌}
use Rattle.std.specs.Prelude.{Result}
use Rattle.std.proofs.Math.ListN.{length-set}
use Rattle.std.proofs.lemmas.List.{get_or-set_other, get_or-set_same, append-nil}
use Rattle.worm_flit.specs.declared.Flit.{Flit}
use Rattle.worm_router.specs.Router.{RouterState, after_accept, after_credit, after_gave, after_route}
use Rattle.worm_router.specs.Allocation.{after_allocate}
use Rattle.worm_term.specs.declared.fault.OfferFault.{OfferFault}
use Rattle.worm_term.specs.Source.{front_of}
use Rattle.worm_theory.specs.Steps.{Step, Feed, Route, Take, GiveCredit, TakeCredit}
use Rattle.worm_region.specs.Answers.{refusal_of}
use Rattle.worm_region.specs.Moves.{after_take, after_getting, done_step, front_credit, front_into, link_into}
use Rattle.worm_node.specs.Node.{fed_node}
use Rattle.worm_region.specs.Replies.{Attempts, Replies}
use Rattle.worm_region.specs.State.{NetState, node_at, router_at, sink_at, source_at, with_node}
use Rattle.worm_node.specs.NewNodes.{fresh_node}
use Rattle.worm_wires.specs.Links.{LinkView}
use Rattle.worm_region.specs.Turns.{Allocates, ComesInBy, Each, FeedsClassesBy, Passage, RoutesChannelsBy, RoutesPortBy}
use Rattle.worm_region.specs.Turns.{TakesCreditsBy, TakesFlitsBy, all_channels, all_classes, all_ports, fault_of}
use Rattle.worm_region.specs.Turns.{mesh_ports}
use Rattle.worm_region.specs.declared.fault.StepFault.{StepFault}
use Rattle.worm_region.specs.declared.fault.StepFault.TheVariants.{NoMemory, NoSuchPlace, Refused}
use Rattle.worm_node.specs.declared.node.Node.{Node}
use Rattle.worm_region.specs.declared.step.Moved.{Moved}
use Rattle.worm_region.specs.declared.step.Moved.TheVariants.{Done, Idle}
use Rattle.worm_split.specs.Effects.{HaveTheSame, OneMore}
use Rattle.worm_split.proofs.Accepted.{same_fed, same_source, same_then}
use Rattle.worm_split.proofs.PassagesTell.{Tells, each_tells, then_tells}

-- the node x alone is touched
pub record Touches (x : ℕ) (old new : NetState) : Type 0 where
  pub mesh : new.mesh ≡ old.mesh
  pub channels : new.channels ≡ old.channels
  pub depth : new.depth ≡ old.depth
  pub own : new.own ≡ old.own
  pub count : length new.nodes ≡ length old.nodes
  pub others : (y : ℕ) → (y ≡ x → ⊥) → node_at new y ≡ node_at old y

pub untouched : (x : ℕ) (s : NetState) → Touches x s s
untouched x s = record { mesh = refl; channels = refl; depth = refl; own = refl; count = refl; others = λ y away. refl }

pub touched_on : (x : ℕ) (a b c : NetState) → Touches x a b → Touches x b c → Touches x a c
touched_on x a b c h k = record {
  mesh = k.mesh ∙ h.mesh;
  channels = k.channels ∙ h.channels;
  depth = k.depth ∙ h.depth;
  own = k.own ∙ h.own;
  count = k.count ∙ h.count;
  others = λ y away. k.others y away ∙ h.others y away;
}

-- another node in its place, and whatever links
abbrev pub put_at : NetState → ℕ → Node → List LinkView → NetState
put_at s x n links = record (with_node s x n) { links = links }

pub put_touches : (s : NetState) (x : ℕ) (n : Node) (links : List LinkView) → Touches x s (put_at s x n links)
put_touches s x n links = record {
  mesh = refl;
  channels = refl;
  depth = refl;
  own = refl;
  count = length-set s.nodes x n;
  others = λ y away. get_or-set_other s.nodes x y n (fresh_node s.mesh s.channels s.depth y) away;
}

pub put_there : (s : NetState) (x : ℕ) (n : Node) (links : List LinkView) → x < length s.nodes →
    node_at (put_at s x n links) x ≡ n
put_there s x n links there = get_or-set_same s.nodes x n (fresh_node s.mesh s.channels s.depth x) there

-- no source refused anything
abbrev pub IsUnrefused : Option StepFault → Type 0
IsUnrefused fault = (why : OfferFault) → fault ≡ Some (Refused why) → ⊥

-- what happens at a node once its source was asked
pub record Passed (x : ℕ) (old : NetState) (fault : Option StepFault) (new : NetState) : Type 0 where
  pub touches : Touches x old new
  pub accepted : HaveTheSame (source_at old x) (source_at new x)
  pub one : OneMore (sink_at old x).delivered (sink_at new x).delivered
  pub unrefused : IsUnrefused fault

-- the same where nothing comes to its sink
pub record Quiet (x : ℕ) (old : NetState) (fault : Option StepFault) (new : NetState) : Type 0 where
  pub touches : Touches x old new
  pub accepted : HaveTheSame (source_at old x) (source_at new x)
  pub delivered : (sink_at new x).delivered ≡ (sink_at old x).delivered
  pub unrefused : IsUnrefused fault

abbrev pub IsQuiet : ℕ → Passage
IsQuiet x old fault new = x < length old.nodes → Quiet x old fault new

pub none_refuses : IsUnrefused None
none_refuses why is = absurd (cc)

pub still_quiet : (x : ℕ) (s : NetState) (fault : Option StepFault) → IsUnrefused fault → Quiet x s fault s
still_quiet x s fault unrefused =
    record { touches = untouched x s; accepted = same_source (source_at s x); delivered = refl; unrefused = unrefused }

pub quiet_on : (x : ℕ) (a b c : NetState) (fault : Option StepFault) → IsQuiet x a None b → IsQuiet x b fault c →
    IsQuiet x a fault c
quiet_on x a b c fault first then there =
    let h = first there in
    let k = then (subst (λ (n : ℕ). x < n) (sym h.touches.count) there) in
    record {
      touches = touched_on x a b c h.touches k.touches;
      accepted = same_then (source_at a x) (source_at b x) (source_at c x) h.accepted k.accepted;
      delivered = k.delivered ∙ h.delivered;
      unrefused = k.unrefused;
    }

-- none came
pub no_more : (old new : List Flit) → new ≡ old → OneMore old new
no_more old new same = (None, same ∙ sym (append-nil old))

pub passed_quietly : (x : ℕ) (a b : NetState) (fault : Option StepFault) → Quiet x a fault b → Passed x a fault b
passed_quietly x a b fault h = record {
  touches = h.touches;
  accepted = h.accepted;
  one = no_more (sink_at a x).delivered (sink_at b x).delivered h.delivered;
  unrefused = h.unrefused;
}

pub quiet_then : (x : ℕ) (a b c : NetState) (fault : Option StepFault) → Quiet x a None b → Passed x b fault c →
    Passed x a fault c
quiet_then x a b c fault h k = record {
  touches = touched_on x a b c h.touches k.touches;
  accepted = same_then (source_at a x) (source_at b x) (source_at c x) h.accepted k.accepted;
  one = subst (λ (fs : List Flit). OneMore fs (sink_at c x).delivered) h.delivered k.one;
  unrefused = k.unrefused;
}

pub then_quiet : (x : ℕ) (a b c : NetState) (fault : Option StepFault) → Passed x a None b → Quiet x b fault c →
    Passed x a fault c
then_quiet x a b c fault h k = record {
  touches = touched_on x a b c h.touches k.touches;
  accepted = same_then (source_at a x) (source_at b x) (source_at c x) h.accepted k.accepted;
  one = subst (λ (fs : List Flit). OneMore (sink_at a x).delivered fs) (sym k.delivered) h.one;
  unrefused = k.unrefused;
}

-- another node with the same sink, and a source that accepted the same
pub put_quiet : (s : NetState) (x : ℕ) (n : Node) (links : List LinkView) → HaveTheSame (source_at s x) n.source →
    n.sink.delivered ≡ (sink_at s x).delivered → IsQuiet x s None (put_at s x n links)
put_quiet s x n links accepted delivered there =
    let at = put_there s x n links there in
    record {
      touches = put_touches s x n links;
      accepted = subst (λ (m : Node). HaveTheSame (source_at s x) m.source) (sym at) accepted;
      delivered = ap (λ (m : Node). m.sink.delivered) at ∙ delivered;
      unrefused = none_refuses;
    }

-- another router
pub router_quiet : (s : NetState) (x : ℕ) (r : RouterState) (links : List LinkView) →
    IsQuiet x s None (put_at s x (record (node_at s x) { router = r }) links)
router_quiet s x r links =
    put_quiet s x (record (node_at s x) { router = r }) links (same_source (source_at s x)) refl

-- A step that is tried, which asks no source and lets nothing out to a sink

pub tried_quiet : (x : ℕ) (step : Step) → ((s : NetState) → refusal_of s step ≡ None) →
    ((s : NetState) → IsQuiet x s None (done_step s step)) → Tells (IsQuiet x) (Attempts step)
tried_quiet x step unasked does old new fault tried there =
    subst (λ (f : Option StepFault). Quiet x old f new) (sym tried.2) (by_answer tried.0 tried.1) where
      unmoved : (f : Option StepFault) → IsUnrefused f → new ≡ old → Quiet x old f new
      unmoved f unrefused same = subst (λ (s : NetState). Quiet x old f s) (sym same) (still_quiet x old f unrefused)

      by_answer : (answer : Result Moved StepFault) → Replies old step answer new → Quiet x old (fault_of answer) new
      by_answer (Ok Done) made = subst (λ (s : NetState). Quiet x old None s) (sym made.exact) (does old there)
      by_answer (Ok Idle) i = unmoved None none_refuses i.3
      by_answer (Err NoSuchPlace) i = unmoved None none_refuses i.1
      by_answer (Err (Refused why)) i =
          let clash : ◌≡◌ {A = Option OfferFault} None (Some why) = sym (unasked old) ∙ i.2 in absurd (cc)
      by_answer (Err NoMemory) i = unmoved (Some NoMemory) (λ why is. absurd (cc)) i.3

fed_quiet : (x k : ℕ) (s : NetState) (o : Option Flit) → IsQuiet x s None (with_node s x (fed_node (node_at s x) k o))
fed_quiet x k s None = put_quiet s x (node_at s x) s.links (same_source (source_at s x)) refl
fed_quiet x k s (Some f) =
    put_quiet s x (fed_node (node_at s x) k (Some f)) s.links (same_fed (source_at s x) k) refl

taken_quiet : (x p k : ℕ) (s : NetState) (o : Option Flit) → IsQuiet x s None (after_take s x p k o)
taken_quiet x p k s None = λ there. still_quiet x s None none_refuses
taken_quiet x p k s (Some f) =
    router_quiet s x (after_accept (router_at s x) p f) (after_take s x p k (Some f)).links

got_quiet : (x o : ℕ) (s : NetState) (c : Option ℕ) → IsQuiet x s None (after_getting s x o c)
got_quiet x o s None = λ there. still_quiet x s None none_refuses
got_quiet x o s (Some c) =
    router_quiet s x (after_credit (router_at s x) o c) (after_getting s x o (Some c)).links

pub feeds_quietly : (x k : ℕ) → Tells (IsQuiet x) (Attempts (Feed x k))
feeds_quietly x k = tried_quiet x (Feed x k) (λ s. refl) (λ s. fed_quiet x k s (front_of (source_at s x) k))

pub routes_quietly : (x p v : ℕ) → Tells (IsQuiet x) (Attempts (Route x p v))
routes_quietly x p v =
    tried_quiet x (Route x p v) (λ s. refl) (λ s. router_quiet s x (after_route (router_at s x) p v) s.links)

pub takes_quietly : (x p : ℕ) → Tells (IsQuiet x) (Attempts (Take x p))
takes_quietly x p =
    tried_quiet x (Take x p) (λ s. refl) (λ s. taken_quiet x p (link_into s x p) s (front_into s x p))

pub gives_quietly : (x p v : ℕ) → Tells (IsQuiet x) (Attempts (GiveCredit x p v))
gives_quietly x p v = tried_quiet x (GiveCredit x p v) (λ s. refl)
    (λ s. router_quiet s x (after_gave (router_at s x) p v) (done_step s (GiveCredit x p v)).links)

pub gets_quietly : (x o : ℕ) → Tells (IsQuiet x) (Attempts (TakeCredit x o))
gets_quietly x o = tried_quiet x (TakeCredit x o) (λ s. refl) (λ s. got_quiet x o s (front_credit s x o))

-- What comes in, and what is allocated

at_rest : (x : ℕ) (s : NetState) → IsQuiet x s None s
at_rest x s there = still_quiet x s None none_refuses

-- a step for each of a list
steps_quietly : {A : Type 0} (x : ℕ) (f : A → Step) → ((a : A) → Tells (IsQuiet x) (Attempts (f a))) → (list : List A) →
    Tells (IsQuiet x) (Each Attempts (map f list))
steps_quietly x f here [] = each_tells (IsQuiet x) (at_rest x) (quiet_on x) (λ a. Attempts (f a)) here []
steps_quietly x f here (a ∷ list) =
    then_tells (IsQuiet x) (at_rest x) (quiet_on x) (Attempts (f a)) (Each Attempts (map f list)) (here a)
    (steps_quietly x f here list)

pub comes_in_quietly : (x : ℕ) → Tells (IsQuiet x) (ComesInBy Attempts x)
comes_in_quietly x =
    let then = then_tells (IsQuiet x) (at_rest x) (quiet_on x) in
    then (TakesCreditsBy Attempts x) _ (λ old. steps_quietly x (TakeCredit x) (gets_quietly x) (mesh_ports old) old)
    (then (TakesFlitsBy Attempts x) _ (λ old. steps_quietly x (Take x) (takes_quietly x) (mesh_ports old) old)
    (then (FeedsClassesBy Attempts x) (RoutesChannelsBy Attempts x)
    (λ old. steps_quietly x (Feed x) (feeds_quietly x) (all_classes old) old)
    (λ old. each_tells (IsQuiet x) (at_rest x) (quiet_on x) (RoutesPortBy Attempts x)
    (λ p mid. steps_quietly x (Route x p) (routes_quietly x p) (all_channels mid) mid) (all_ports old) old)))

pub allocates_quietly : (x : ℕ) → Tells (IsQuiet x) (Allocates x)
allocates_quietly x old new fault made there =
    subst (λ (f : Option StepFault). Quiet x old f new) (sym made.0)
    (subst (λ (s : NetState). Quiet x old None s) (sym made.1)
    (router_quiet old x (after_allocate (router_at old x)) old.links there))
