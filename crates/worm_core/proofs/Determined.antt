-- Unless want of memory ends it, a turn leads to one network alone, and so does a run of turns with its drain.
use Rattle.std.proofs.Common.{◌≡◌, ℕ, zero, suc, ◌+◌, ◌-◌, ◌<◌, ◌==◌, Bool, true, false, ◌⊎◌, inl, inr, List, [], ◌∷◌}
use Rattle.std.proofs.Common.{◌++◌, Option, Some, None, Ok, Err, refl, arith, ap, sym, subst, ◌∙◌}
use Rattle.std.specs.Prelude.{Result, IsSome, MatchBool}
use Rattle.std.specs.List.{range_with_len}
use Rattle.worm_term.specs.declared.fault.OfferFault.{OfferFault}
use Rattle.worm_theory.specs.Steps.{Step}
use Rattle.worm_region.specs.State.{NetState}
use Rattle.worm_script.specs.Script.{due}
use Rattle.worm_region.specs.Answers.{Answers}
use Rattle.worm_region.specs.Totals.{injected_total, delivered_total}
use Rattle.worm_region.specs.Turns.{Passage, Stays, ◌and_then◌, Each, ForEach, Tries, NodeTurn, AsksSource, ComesIn}
use Rattle.worm_region.specs.Turns.{TakesCredits, TakesFlits, FeedsClasses, RoutesChannels, RoutesPort, Allocates}
use Rattle.worm_region.specs.Turns.{SendsGranted, GivesCredit, GivesCredits, Turn, Turns, Drains, RunIsDetermined}
use Rattle.worm_region.specs.Turns.{IsDetermined, fault_of, all_nodes, all_ports, mesh_ports}
use Rattle.worm_script.specs.declared.entry.Entry.{Entry}
use Rattle.worm_region.specs.declared.step.Moved.{Moved}
use Rattle.worm_region.specs.declared.step.Moved.TheVariants.{Done, Idle}
use Rattle.worm_region.specs.declared.fault.StepFault.{StepFault}
use Rattle.worm_region.specs.declared.fault.StepFault.TheVariants.{NoSuchPlace, Refused, NoMemory}
use Rattle.worm_region.proofs.Passages.{each_split, range_split}

-- two answers to one step, memory aside

abbrev Same : Option StepFault → NetState → Option StepFault → NetState → Type 0
Same fault new else_fault other = (fault ≡ else_fault) × (new ≡ other)

named_one : (f g : OfferFault) → ◌≡◌ {A = Option OfferFault} (Some f) (Some g) →
    ◌≡◌ {A = Option StepFault} (Some (Refused f)) (Some (Refused g))
named_one f g e = cc

same_answer : (s : NetState) (step : Step) (one another : Result Moved StepFault) (new other : NetState) →
    Answers s step one new → Answers s step another other
    → (fault_of one ≡ Some NoMemory → ⊥) → (fault_of another ≡ Some NoMemory → ⊥) →
    Same (fault_of one) new (fault_of another) other
same_answer s step (Err NoMemory) another new other a b ample more = absurd (ample refl)
same_answer s step (Ok Done) (Err NoMemory) new other a b ample more = absurd (more refl)
same_answer s step (Ok Idle) (Err NoMemory) new other a b ample more = absurd (more refl)
same_answer s step (Err NoSuchPlace) (Err NoMemory) new other a b ample more = absurd (more refl)
same_answer s step (Err (Refused f)) (Err NoMemory) new other a b ample more = absurd (more refl)
same_answer s step (Ok Done) (Ok Done) new other a b ample more = (refl, a.exact ∙ sym b.exact)
same_answer s step (Ok Done) (Ok Idle) new other a b ample more = absurd (b.1 a.enabled)
same_answer s step (Ok Done) (Err NoSuchPlace) new other a b ample more = absurd (b.0 a.there)
same_answer s step (Ok Done) (Err (Refused f)) new other a b ample more = absurd (b.1 a.enabled)
same_answer s step (Ok Idle) (Ok Done) new other a b ample more = absurd (a.1 b.enabled)
same_answer s step (Ok Idle) (Ok Idle) new other a b ample more = (refl, a.3 ∙ sym b.3)
same_answer s step (Ok Idle) (Err NoSuchPlace) new other a b ample more = absurd (b.0 a.0)
same_answer s step (Ok Idle) (Err (Refused f)) new other a b ample more =
    let none : ◌≡◌ {A = Option OfferFault} None (Some f) = sym a.2 ∙ b.2 in absurd (cc)
same_answer s step (Err NoSuchPlace) (Ok Done) new other a b ample more = absurd (a.0 b.there)
same_answer s step (Err NoSuchPlace) (Ok Idle) new other a b ample more = absurd (a.0 b.0)
same_answer s step (Err NoSuchPlace) (Err NoSuchPlace) new other a b ample more = (refl, a.1 ∙ sym b.1)
same_answer s step (Err NoSuchPlace) (Err (Refused f)) new other a b ample more = absurd (a.0 b.0)
same_answer s step (Err (Refused f)) (Ok Done) new other a b ample more = absurd (a.1 b.enabled)
same_answer s step (Err (Refused f)) (Ok Idle) new other a b ample more =
    let none : ◌≡◌ {A = Option OfferFault} None (Some f) = sym b.2 ∙ a.2 in absurd (cc)
same_answer s step (Err (Refused f)) (Err NoSuchPlace) new other a b ample more = absurd (b.0 a.0)
same_answer s step (Err (Refused f)) (Err (Refused g)) new other a b ample more =
    (named_one f g (sym a.2 ∙ b.2), a.3 ∙ sym b.3)

-- the passages

tries_one : (step : Step) → IsDetermined (Tries step)
tries_one step old new other fault else_fault a b ample more =
    let same = same_answer old step a.0 b.0 new other a.1 b.1 (λ e. ample (a.2 ∙ e)) (λ e. more (b.2 ∙ e)) in
    (a.2 ∙ (same.0 ∙ sym b.2), same.1)

stays_one : IsDetermined Stays
stays_one old new other fault else_fault a b ample more = (a.0 ∙ sym b.0, a.1 ∙ sym b.1)

none_left : {A : Type 0} (fault : Option A) → IsSome fault → fault ≡ None → ⊥
none_left None some none = absurd (cc)
none_left {A} (Some f) some none = let is : ◌≡◌ {A = Option A} (Some f) None = none in absurd (cc)

no_want : ◌≡◌ {A = Option StepFault} None (Some NoMemory) → ⊥
no_want e = absurd (cc)

then_one : (P Q : Passage) → IsDetermined P → IsDetermined Q → IsDetermined (P and_then Q)
then_one P Q first then old new other fault else_fault a b ample more = elim a [
  | inl ended ↦ elim b [
    | inl ended_too ↦ first old new other fault else_fault ended.1 ended_too.1 ample more
    | inr on ↦ absurd (none_left fault ended.0 (first old new on.0 fault None ended.1 on.1 ample no_want).0)
  ]
  | inr on ↦ elim b [
    | inl ended ↦
        absurd (none_left else_fault ended.0 (first old other on.0 else_fault None ended.1 on.1 more no_want).0)
    | inr on_too ↦
        let same = (first old on.0 on_too.0 None None on.1 on_too.1 no_want no_want).1 in
        then on_too.0 new other fault else_fault
        (subst (λ (s : NetState). Q s fault new) same on.2) on_too.2 ample more
  ]
]

each_one_way : {A : Type 0} (P : A → Passage) → ((x : A) → IsDetermined (P x)) → (xs : List A) →
    IsDetermined (Each P xs)
each_one_way P one [] = stays_one
each_one_way P one (x ∷ xs) = then_one (P x) (Each P xs) (one x) (each_one_way P one xs)

for_each_one : {A : Type 0} (list : NetState → List A) (P : A → Passage) → ((x : A) → IsDetermined (P x)) →
    IsDetermined (ForEach list P)
for_each_one list P one old = each_one_way P one (list old) old

allocates_one : (x : ℕ) → IsDetermined (Allocates x)
allocates_one x old new other fault else_fault a b ample more = (a.0 ∙ sym b.0, a.1 ∙ sym b.1)

sends_one_way : (x : ℕ) → IsDetermined (SendsGranted x)
sends_one_way x old new other fault else_fault a b ample more =
    each_one_way Tries tries_one _ _ new other fault else_fault a b ample more

comes_in_one : (x : ℕ) → IsDetermined (ComesIn x)
comes_in_one x =
    then_one (TakesCredits x) _ (for_each_one _ Tries tries_one)
    (then_one (TakesFlits x) _ (for_each_one _ Tries tries_one)
    (then_one (FeedsClasses x) (RoutesChannels x) (for_each_one _ Tries tries_one)
    (for_each_one all_ports (RoutesPort x) (λ p. for_each_one _ Tries tries_one))))

node_turn_one : (entries : List Entry) (x : ℕ) → IsDetermined (NodeTurn entries x)
node_turn_one entries x =
    then_one (AsksSource entries x) _ (for_each_one _ Tries tries_one)
    (then_one (ComesIn x) _ (comes_in_one x)
    (then_one (Allocates x) _ (allocates_one x)
    (then_one (SendsGranted x) (GivesCredits x) (sends_one_way x)
    (for_each_one mesh_ports (GivesCredit x) (λ p. for_each_one _ Tries tries_one)))))

pub turn_one : (entries : List Entry) → IsDetermined (Turn entries)
unfolding Turn
turn_one entries = for_each_one all_nodes (NodeTurn entries) (node_turn_one entries)

pub turns_one : (script : List Entry) (n : ℕ) → IsDetermined (Turns script n)
turns_one script n = each_one_way (λ t. Turn (due t script)) (λ t. turn_one (due t script)) (range_with_len 0 n)

drain_by : (n : ℕ) → IsDetermined (Drains n) →
    (drained : Bool) (old new other : NetState) (fault else_fault : Option StepFault)
    → MatchBool drained (Stays old fault new) ((Turn [] and_then Drains n) old fault new) →
    MatchBool drained (Stays old else_fault other) ((Turn [] and_then Drains n) old else_fault other)
    → (fault ≡ Some NoMemory → ⊥) → (else_fault ≡ Some NoMemory → ⊥) → Same fault new else_fault other
drain_by n rest true old new other fault else_fault a b ample more =
    stays_one old new other fault else_fault a b ample more
drain_by n rest false old new other fault else_fault a b ample more =
    then_one (Turn []) (Drains n) (turn_one []) rest old new other fault else_fault a b ample more

pub drains_one : (n : ℕ) → IsDetermined (Drains n)
drains_one zero old new other fault else_fault a b ample more = stays_one old new other fault else_fault a b ample more
drains_one (suc n) old new other fault else_fault a b ample more =
    drain_by n (drains_one n) (injected_total old == delivered_total old) old new other fault else_fault a b ample more

-- the run

order : (t u : ℕ) → (t < u) ⊎ ((u < t) ⊎ (t ≡ u))
order t u = grind arith

-- a turn of a run that no fault ended
turn_at : (script : List Entry) (t n : ℕ) (old new : NetState) → t < n → Turns script n old None new →
    (from : NetState) × (to : NetState) × Turns script t old None from × Turn (due t script) from None to
turn_at script t n old new below done =
    let parts : Each (λ t. Turn (due t script))
    ((range_with_len 0 t ++ t ∷ []) ++ range_with_len (t + 1) (n - (t + 1))) old None new =
    subst (λ (ns : List ℕ). Each (λ t. Turn (due t script)) ns old None new) (range_split t n below) done in
    let first =
    each_split (λ t. Turn (due t script)) (range_with_len 0 t ++ t ∷ [])
    (range_with_len (t + 1) (n - (t + 1))) old new parts in
    let last = each_split (λ t. Turn (due t script)) (range_with_len 0 t) (t ∷ []) old first.0 first.1 in
    elim last.2 [
      | inl ended ↦ absurd (cc)
      | inr on ↦ (last.0, on.0, last.1, on.1)
    ]

stopped_once : (script : List Entry) (t n : ℕ) (old from stop new : NetState) (fault : Option StepFault) → t < n →
    Turns script t old None from → Turn (due t script) from fault stop → IsSome fault → (fault ≡ Some NoMemory → ⊥) →
    Turns script n old None new → ⊥
stopped_once script t n old from stop new fault below before at some ample done =
    let passed = turn_at script t n old new below done in
    let same = (turns_one script t old from passed.0 None None before passed.2 no_want no_want).1 in
    let again : Turn (due t script) passed.0 fault stop =
    subst (λ (s : NetState). Turn (due t script) s fault stop) same at in
    none_left fault some (turn_one (due t script) passed.0 stop passed.1 fault None again passed.3 ample no_want).0

pub run_one : (script : List Entry) (turns drain : ℕ) → RunIsDetermined script turns drain
run_one script turns drain old new other None None fault else_fault a b ample more =
    let same = (turns_one script turns old a.0 b.0 None None a.1 b.1 no_want no_want).1 in
    let ends =
    drains_one drain b.0 new other fault else_fault
    (subst (λ (s : NetState). Drains drain s fault new) same a.2) b.2 ample more in
    (refl, ends.0, ends.1)
run_one script turns drain old new other None (Some u) fault else_fault a b ample more =
    absurd (stopped_once script u turns old b.2.0 other a.0 else_fault b.0 b.2.1 b.2.2 b.1 more a.1)
run_one script turns drain old new other (Some t) None fault else_fault a b ample more =
    absurd (stopped_once script t turns old a.2.0 new b.0 fault a.0 a.2.1 a.2.2 a.1 ample b.1)
run_one script turns drain old new other (Some t) (Some u) fault else_fault a b ample more = elim (order t u) [
  | inl less ↦ absurd (stopped_once script t u old a.2.0 new b.2.0 fault less a.2.1 a.2.2 a.1 ample b.2.1)
  | inr rest ↦ elim rest [
    | inl greater ↦
        absurd (stopped_once script u t old b.2.0 other a.2.0 else_fault greater b.2.1 b.2.2 b.1 more a.2.1)
    | inr equal ↦
        let before : Turns script u old None a.2.0 = subst (λ (i : ℕ). Turns script i old None a.2.0) equal a.2.1 in
        let at : Turn (due u script) a.2.0 fault new =
        subst (λ (i : ℕ). Turn (due i script) a.2.0 fault new) equal a.2.2 in
        let same = (turns_one script u old a.2.0 b.2.0 None None before b.2.1 no_want no_want).1 in
        let ends =
        turn_one (due u script) b.2.0 new other fault else_fault
        (subst (λ (s : NetState). Turn (due u script) s fault new) same at) b.2.2 ample more in
        (ap (λ (i : ℕ). Some i) equal, ends.0, ends.1)
  ]
]
