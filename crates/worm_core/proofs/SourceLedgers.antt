-- What a source keeps of its lanes: only what is asked of it changes that, and only what is asked is refused.
use Rattle.std.proofs.Common.{◌≡◌, ℕ, zero, suc, ◌*◌, ◌==◌, Bool, true, false, inl, inr, List, [], ◌∷◌, length}
use Rattle.std.proofs.Common.{map, Ok, Err, Option, Some, None, refl, sym, subst, ◌∙◌}
use Rattle.std.specs.Prelude.{All, Result, MatchBool, option_map}
use Rattle.std.proofs.lemmas.List.Elements.{All-cons, All-head, All-nil, All-tail}
use Rattle.std.specs.Option.{option_to_list}
use Rattle.worm_flit.specs.declared.Flit.{Flit}
use Rattle.worm_router.specs.Router.{leaving}
use Rattle.worm_router.specs.Allocation.{switch_grants}
use Rattle.worm_term.specs.declared.fault.OfferFault.{OfferFault}
use Rattle.worm_term.specs.declared.source.LaneState.{LaneState}
use Rattle.worm_term.specs.Source.{SourceState, front_of}
use Rattle.worm_theory.specs.Steps.{Step, Offer, CloseLane, Feed, Route, Grant, Send, Take, GiveCredit, TakeCredit}
use Rattle.worm_node.specs.declared.node.Node.{Node}
use Rattle.worm_region.specs.declared.step.Moved.{Moved}
use Rattle.worm_region.specs.declared.step.Moved.TheVariants.{Done, Idle}
use Rattle.worm_region.specs.declared.fault.StepFault.{StepFault}
use Rattle.worm_region.specs.declared.fault.StepFault.TheVariants.{NoSuchPlace, Refused, NoMemory}
use Rattle.worm_region.specs.State.{NetState, node_at, router_at, source_at, with_node, with_router}
use Rattle.worm_node.specs.Node.{fed_node}
use Rattle.worm_region.specs.Moves.{done_step, link_into, front_into, front_credit, after_take, after_getting}
use Rattle.worm_region.specs.Moves.{after_ready, after_sending, chosen_router}
use Rattle.worm_region.specs.Answers.{Answers, refusal_of}
use Rattle.worm_region.specs.Totals.{injected_total, delivered_total}
use Rattle.worm_core.specs.Acceptable.{EndsForMemory}
use Rattle.worm_region.specs.Turns.{ComesIn, Passage, Stays, ◌and_then◌, Each, Tries, NodeTurn, AsksSource}
use Rattle.worm_region.specs.Turns.{TakesCredits, TakesFlits, FeedsClasses, RoutesChannels, RoutesPort, Allocates}
use Rattle.worm_region.specs.Turns.{SendsGranted, GivesCredit, GivesCredits, Turn, Drains, fault_of, all_nodes}
use Rattle.worm_region.specs.Turns.{all_ports, all_classes, all_channels, mesh_ports, lowest_owed}
use Rattle.worm_region.proofs.ArbitersStand.{read_over}
use Rattle.worm_region.proofs.GrantedSent.{each_granted}

pub record Ledger : Type 0 where
  pub node : ℕ
  pub nodes : ℕ
  pub channels : List ℕ
  pub lanes : List LaneState

abbrev pub ledger : SourceState → Ledger
ledger t = record { node = t.node; nodes = t.nodes; channels = t.channels; lanes = t.lanes }

abbrev pub ledger_at : NetState → ℕ → Ledger
ledger_at s x = ledger (source_at s x)

pub record LedgersStand (old new : NetState) : Type 0 where
  pub mesh : new.mesh ≡ old.mesh
  pub channels : new.channels ≡ old.channels
  pub ledgers : (x : ℕ) → ledger_at new x ≡ ledger_at old x

-- a step that asks no source
abbrev pub AsksNone : Step → Type 0
AsksNone (Offer x lane words) = ⊥
AsksNone (CloseLane x lane) = ⊥
AsksNone (Feed x k) = Unit {0}
AsksNone (Route x p v) = Unit {0}
AsksNone (Grant x p v c) = Unit {0}
AsksNone (Send x p v) = Unit {0}
AsksNone (Take x p) = Unit {0}
AsksNone (GiveCredit x p v) = Unit {0}
AsksNone (TakeCredit x o) = Unit {0}

stand_self : (s : NetState) → LedgersStand s s
stand_self s = record { mesh = refl; channels = refl; ledgers = λ x. refl }

pub stand_then : (a b c : NetState) → LedgersStand a b → LedgersStand b c → LedgersStand a c
stand_then a b c first then = record {
  mesh = then.mesh ∙ first.mesh;
  channels = then.channels ∙ first.channels;
  ledgers = λ x. then.ledgers x ∙ first.ledgers x;
}

node_stands : (s : NetState) (x : ℕ) (n : Node) → ledger n.source ≡ ledger (node_at s x).source →
    LedgersStand s (with_node s x n)
node_stands s x n same =
    record {
      mesh = refl;
      channels = refl;
      ledgers = λ y. read_over (λ (m : Node). ledger m.source) s.nodes x y n _ _ same;
    }

feed_stands : (s : NetState) (x k : ℕ) (f : Option Flit) → LedgersStand s (with_node s x (fed_node (node_at s x) k f))
feed_stands s x k None = node_stands s x (node_at s x) refl
feed_stands s x k (Some f) = node_stands s x _ refl

send_by : (s : NetState) (x p v : ℕ) (d : ℕ × Flit) (home : Bool) → (d.0 == 2 * length s.mesh) ≡ home →
    LedgersStand s (after_sending s x p v d)
send_by s x p v d true e = rw e (node_stands s x _ refl)
send_by s x p v d false e =
    rw e (let at = node_stands s x _ refl in record { mesh = refl; channels = refl; ledgers = at.ledgers })

send_stands : (s : NetState) (x p v : ℕ) (d : Option (ℕ × Flit)) → LedgersStand s (after_ready s x p v d)
send_stands s x p v None = stand_self s
send_stands s x p v (Some d) = send_by s x p v d (d.0 == 2 * length s.mesh) refl

take_stands : (s : NetState) (x p k : ℕ) (f : Option Flit) → LedgersStand s (after_take s x p k f)
take_stands s x p k None = stand_self s
take_stands s x p k (Some f) =
    record {
      mesh = refl;
      channels = refl;
      ledgers = λ y. read_over (λ (m : Node). ledger m.source) s.nodes x y _ _ _ refl;
    }

get_stands : (s : NetState) (x o : ℕ) (c : Option ℕ) → LedgersStand s (after_getting s x o c)
get_stands s x o None = stand_self s
get_stands s x o (Some c) =
    record {
      mesh = refl;
      channels = refl;
      ledgers = λ y. read_over (λ (m : Node). ledger m.source) s.nodes x y _ _ _ refl;
    }

step_stands : (s : NetState) (step : Step) → AsksNone step → LedgersStand s (done_step s step)
step_stands s (Offer x lane words) none = absurd none
step_stands s (CloseLane x lane) none = absurd none
step_stands s (Feed x k) none = feed_stands s x k (front_of (node_at s x).source k)
step_stands s (Route x p v) none = node_stands s x _ refl
step_stands s (Grant x p v c) none = node_stands s x _ refl
step_stands s (Send x p v) none = send_stands s x p v (leaving (router_at s x) p v)
step_stands s (Take x p) none = take_stands s x p (link_into s x p) (front_into s x p)
step_stands s (GiveCredit x p v) none =
    record {
      mesh = refl;
      channels = refl;
      ledgers = λ y. read_over (λ (m : Node). ledger m.source) s.nodes x y _ _ _ refl;
    }
step_stands s (TakeCredit x o) none = get_stands s x o (front_credit s x o)

nothing_refused : (s : NetState) (step : Step) → AsksNone step → refusal_of s step ≡ None
nothing_refused s (Offer x lane words) none = absurd none
nothing_refused s (CloseLane x lane) none = absurd none
nothing_refused s (Feed x k) none = refl
nothing_refused s (Route x p v) none = refl
nothing_refused s (Grant x p v c) none = refl
nothing_refused s (Send x p v) none = refl
nothing_refused s (Take x p) none = refl
nothing_refused s (GiveCredit x p v) none = refl
nothing_refused s (TakeCredit x o) none = refl

pub same_stands : (old new : NetState) → new ≡ old → LedgersStand old new
same_stands old new same = subst (λ (s : NetState). LedgersStand old s) (sym same) (stand_self old)

pub no_fault : EndsForMemory None
no_fault = inl refl

pub want_of_memory : EndsForMemory (Some NoMemory)
want_of_memory = inr refl

-- a passage that asks no source
abbrev pub IsQuiet : Passage → Type 0
IsQuiet P =
    (old new : NetState) (fault : Option StepFault) → P old fault new → LedgersStand old new × EndsForMemory fault

quiet_answer : (step : Step) → AsksNone step → (old new : NetState) (answer : Result Moved StepFault) →
    Answers old step answer new → LedgersStand old new × EndsForMemory (fault_of answer)
quiet_answer step none old new (Ok Done) a =
    (subst (λ (s : NetState). LedgersStand old s) (sym a.exact) (step_stands old step none), no_fault)
quiet_answer step none old new (Ok Idle) a = (same_stands old new a.3, no_fault)
quiet_answer step none old new (Err NoSuchPlace) a = (same_stands old new a.1, no_fault)
quiet_answer step none old new (Err (Refused f)) a =
    let clash : ◌≡◌ {A = Option OfferFault} None (Some f) = sym (nothing_refused old step none) ∙ a.2 in absurd (cc)
quiet_answer step none old new (Err NoMemory) a = (same_stands old new a.3, want_of_memory)

quiet_tries : (step : Step) → AsksNone step → IsQuiet (Tries step)
quiet_tries step none old new fault a =
    let answer = quiet_answer step none old new a.0 a.1 in
    (answer.0, subst (λ (f : Option StepFault). EndsForMemory f) (sym a.2) answer.1)

quiet_stays : IsQuiet Stays
quiet_stays old new fault a = (same_stands old new a.1, inl a.0)

quiet_then : (P Q : Passage) → IsQuiet P → IsQuiet Q → IsQuiet (P and_then Q)
quiet_then P Q first then old new fault a = elim a [
  | inl ended ↦ first old new fault ended.1
  | inr on ↦
      let one = first old on.0 None on.1 in
      let two = then on.0 new fault on.2 in
      (stand_then old on.0 new one.0 two.0, two.1)
]

quiet_each : {A : Type 0} (P : A → Passage) → ((x : A) → IsQuiet (P x)) → (xs : List A) → IsQuiet (Each P xs)
quiet_each P one [] = quiet_stays
quiet_each P one (x ∷ xs) = quiet_then (P x) (Each P xs) (one x) (quiet_each P one xs)

-- of steps that a function makes
quiet_steps : {A : Type 0} (f : A → Step) → ((x : A) → AsksNone (f x)) → (xs : List A) →
    IsQuiet (Each Tries (map f xs))
quiet_steps f none [] = quiet_stays
quiet_steps f none (x ∷ xs) =
    quiet_then (Tries (f x)) (Each Tries (map f xs)) (quiet_tries (f x) (none x)) (quiet_steps f none xs)

quiet_allocates : (x : ℕ) → IsQuiet (Allocates x)
quiet_allocates x old new fault a =
    (subst (λ (s : NetState). LedgersStand old s) (sym a.1) (node_stands old x _ refl), inl a.0)

-- of a list of steps
quiet_list : (steps : List Step) → All AsksNone steps → IsQuiet (Each Tries steps)
quiet_list [] none = quiet_stays
quiet_list (step ∷ steps) none =
    quiet_then (Tries step) (Each Tries steps) (quiet_tries step (All-head AsksNone step steps none))
    (quiet_list steps (All-tail AsksNone step steps none))

gives_none : (x p : ℕ) (owed : Option ℕ) → All AsksNone (option_to_list (option_map (GiveCredit x p) owed))
gives_none x p None = All-nil AsksNone
gives_none x p (Some v) = All-cons AsksNone (GiveCredit x p v) [] tt (All-nil AsksNone)

quiet_sends : (x : ℕ) → IsQuiet (SendsGranted x)
quiet_sends x old new fault a =
    let chosen = with_router old x (chosen_router (router_at old x)) in
    let none = each_granted AsksNone x (λ p v. tt) (switch_grants (router_at old x)) (all_ports old) in
    let sent = quiet_list _ none chosen new fault a in
    (stand_then old chosen new (node_stands old x _ refl) sent.0, sent.1)

quiet_gives : (x p : ℕ) → IsQuiet (GivesCredit x p)
quiet_gives x p old new fault a = quiet_list _ (gives_none x p (lowest_owed (router_at old x) p)) old new fault a

-- what a node's turn does after its source was asked
abbrev pub AfterAsking : ℕ → Passage
AfterAsking x = ComesIn x and_then Allocates x and_then SendsGranted x and_then GivesCredits x

quiet_in : (x : ℕ) → IsQuiet (ComesIn x)
quiet_in x =
    quiet_then (TakesCredits x) _ (λ old. quiet_steps (TakeCredit x) (λ o. tt) (mesh_ports old) old)
    (quiet_then (TakesFlits x) _ (λ old. quiet_steps (Take x) (λ p. tt) (mesh_ports old) old)
    (quiet_then (FeedsClasses x) (RoutesChannels x) (λ old. quiet_steps (Feed x) (λ k. tt) (all_classes old) old)
    (λ old. quiet_each (RoutesPort x) (λ p later. quiet_steps (Route x p) (λ v. tt) (all_channels later) later)
    (all_ports old) old)))

pub quiet_after : (x : ℕ) → IsQuiet (AfterAsking x)
quiet_after x =
    quiet_then (ComesIn x) _ (quiet_in x)
    (quiet_then (Allocates x) _ (quiet_allocates x)
    (quiet_then (SendsGranted x) (GivesCredits x) (quiet_sends x)
    (λ old. quiet_each (GivesCredit x) (quiet_gives x) (mesh_ports old) old)))

-- a turn without entries, and so a drain, asks no source
quiet_turn : IsQuiet (Turn [])
unfolding Turn
quiet_turn old =
    quiet_each (NodeTurn []) (λ x. quiet_then (AsksSource [] x) (AfterAsking x) (λ s. quiet_stays s) (quiet_after x))
    (all_nodes old) old

drain_by : (n : ℕ) → IsQuiet (Drains n) → (drained : Bool) (old new : NetState) (fault : Option StepFault)
    → MatchBool drained (Stays old fault new) ((Turn [] and_then Drains n) old fault new) →
    LedgersStand old new × EndsForMemory fault
drain_by n rest true old new fault a = quiet_stays old new fault a
drain_by n rest false old new fault a = quiet_then (Turn []) (Drains n) quiet_turn rest old new fault a

pub quiet_drains : (n : ℕ) → IsQuiet (Drains n)
quiet_drains zero old new fault a = quiet_stays old new fault a
quiet_drains (suc n) old new fault a =
    drain_by n (quiet_drains n) (injected_total old == delivered_total old) old new fault a
