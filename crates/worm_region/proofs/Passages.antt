-- Passages one after another: as each is made, and where a fault ends one.
use Rattle.std.proofs.Common.{◌≡◌, ℕ, zero, suc, ◌+◌, ◌-◌, ◌<◌, inl, inr, List, [], ◌∷◌, ◌++◌, map, Option}
use Rattle.std.proofs.Common.{Some, None, Ok, Err, refl, arith, ap, sym, subst, ◌∙◌}
use Rattle.std.specs.Prelude.{Result, IsSome}
use Rattle.std.specs.List.{range_with_len, flat_map}
use Rattle.worm_theory.specs.Steps.{Step}
use Rattle.worm_region.specs.State.{NetState, shape, network_of}
use Rattle.worm_region.specs.Replies.{Attempts, Replies}
use Rattle.worm_region.specs.Answers.{Grows, refusal_of}
use Rattle.worm_region.specs.Turns.{Turn, Turns, Passage, PassageOf, Stays, ◌and_then◌, Each, ForEach, fault_of, Does}
use Rattle.worm_script.specs.Script.{due}
use Rattle.worm_script.specs.declared.entry.Entry.{Entry}
use Rattle.worm_region.specs.declared.step.Moved.{Moved}
use Rattle.worm_region.specs.declared.fault.StepFault.{StepFault}
use Rattle.worm_region.specs.declared.fault.StepFault.TheVariants.{NoSuchPlace, Refused, NoMemory}
use Rattle.worm_region.proofs.ReachedBySteps.{reached, joined, by_answer}

-- the list, one part after another

pub each_append : {S A : Type 0} (P : A → PassageOf S) (xs ys : List A) (a b c : S) (fault : Option StepFault) →
    Each P xs a None b → Each P ys b fault c → Each P (xs ++ ys) a fault c
each_append P [] ys a b c fault first then = subst (λ s. Each P ys s fault c) first.1 then
each_append P (x ∷ xs) ys a b c fault first then = elim first [
  | inl ended ↦ absurd (cc)
  | inr on ↦ inr (on.0, on.1, each_append P xs ys on.0 b c fault on.2 then)
]

pub each_cut : {S A : Type 0} (P : A → PassageOf S) (xs ys : List A) (a b : S) (fault : Option StepFault) →
    IsSome fault → Each P xs a fault b → Each P (xs ++ ys) a fault b
each_cut P [] ys a b fault some first = let none = first.0 in absurd (cc)
each_cut P (x ∷ xs) ys a b fault some first = elim first [
  | inl ended ↦ inl ended
  | inr on ↦ inr (on.0, on.1, each_cut P xs ys on.0 b fault some on.2)
]

-- a list that no fault ended, in two parts
pub each_split : {S A : Type 0} (P : A → PassageOf S) (xs ys : List A) (a c : S) → Each P (xs ++ ys) a None c →
    (b : S) × Each P xs a None b × Each P ys b None c
each_split P [] ys a c done = (a, (refl, refl), done)
each_split P (x ∷ xs) ys a c done = elim done [
  | inl ended ↦ absurd (cc)
  | inr on ↦ let parts = each_split P xs ys on.0 c on.2 in (parts.0, inr (on.0, on.1, parts.1), parts.2)
]

pub each_one : {S A : Type 0} (P : A → PassageOf S) (x : A) (a b : S) (fault : Option StepFault) → P x a fault b →
    Each P (x ∷ []) a fault b
each_one P x a b None p = inr (b, p, (refl, refl))
each_one P x a b (Some f) p = inl (refl, p)

-- each of a list of lists, and each of a list that is made of another

pub each_map : {S A B : Type 0} (P : B → PassageOf S) (f : A → B) (xs : List A) (a b : S) (fault : Option StepFault) →
    Each (λ x. P (f x)) xs a fault b → Each P (map f xs) a fault b
each_map P f [] a b fault e = e
each_map P f (x ∷ xs) a b fault e = elim e [
  | inl ended ↦ inl ended
  | inr on ↦ inr (on.0, on.1, each_map P f xs on.0 b fault on.2)
]

pub each_flat : {S A B : Type 0} (P : B → PassageOf S) (f : A → List B) (xs : List A) (a b : S)
    (fault : Option StepFault) → Each (λ x. Each P (f x)) xs a fault b → Each P (flat_map f xs) a fault b
each_flat P f [] a b fault e = e
each_flat P f (x ∷ xs) a b fault e = elim e [
  | inl ended ↦ each_cut P (f x) (flat_map f xs) a b fault ended.0 ended.1
  | inr on ↦ each_append P (f x) (flat_map f xs) a on.0 b fault on.1 (each_flat P f xs on.0 b fault on.2)
]

-- numbers that follow one another

range_append : (i k from : ℕ) → range_with_len from (i + k) ≡ range_with_len from i ++ range_with_len (from + i) k
range_append zero k from =
    let count : zero + k ≡ k = omega arith in
    let start : from ≡ from + zero = omega arith in
    ap (λ (n : ℕ). range_with_len from n) count ∙ ap (λ (n : ℕ). range_with_len n k) start
range_append (suc i) k from =
    let count : suc i + k ≡ suc (i + k) = omega arith in
    let start : (from + 1) + i ≡ from + suc i = omega arith in
    ap (λ (n : ℕ). range_with_len from n) count
    ∙ (ap (λ (ns : List ℕ). from ∷ ns) (range_append i k (from + 1)) ∙
    ap (λ (n : ℕ). from ∷ (range_with_len (from + 1) i ++ range_with_len n k)) start)

pub range_more : (n : ℕ) → range_with_len 0 (n + 1) ≡ range_with_len 0 n ++ n ∷ []
range_more n =
    let start : 0 + n ≡ n = omega arith in range_append n 1 0 ∙ ap (λ (i : ℕ). range_with_len 0 n ++ i ∷ []) start

pub range_split : (n m : ℕ) → n < m → range_with_len 0 m ≡
    (range_with_len 0 n ++ n ∷ []) ++ range_with_len (n + 1) (m - (n + 1))
range_split n m below =
    let count : m ≡ (n + 1) + (m - (n + 1)) = omega arith in
    let start : 0 + (n + 1) ≡ n + 1 = omega arith in
    ap (λ (i : ℕ). range_with_len 0 i) count
    ∙ (range_append (n + 1) (m - (n + 1)) 0 ∙ (λ t. range_more n t ++ range_with_len (start t) (m - (n + 1))))

-- Passages by steps of the theory

pub does_nothing : (a : NetState) → Does Stays a None a
does_nothing a = record { exact = (refl, refl); reaches = reached a }

pub does_then : (P Q : Passage) (a b c : NetState) (fault : Option StepFault) → Does P a None b → Does Q b fault c →
    Does (P and_then Q) a fault c
does_then P Q a b c fault first then =
    record { exact = inr (b, first.exact, then.exact); reaches = joined a b c first.reaches then.reaches }

pub does_more : {A : Type 0} (P : A → Passage) (xs : List A) (x : A) (a b c : NetState) (fault : Option StepFault) →
    Does (Each P xs) a None b → Does (P x) b fault c → Does (Each P (xs ++ x ∷ [])) a fault c
does_more P xs x a b c fault first then = record {
  exact = each_append P xs (x ∷ []) a b c fault first.exact (each_one P x b c fault then.exact);
  reaches = joined a b c first.reaches then.reaches;
}

-- a fault ends the list
pub does_last : {A : Type 0} (P : A → Passage) (xs : List A) (x : A) (ys : List A) (a b c : NetState)
    (fault : StepFault) → Does (Each P xs) a None b → Does (P x) b (Some fault) c →
    Does (Each P ((xs ++ x ∷ []) ++ ys)) a (Some fault) c
does_last P xs x ys a b c fault first then =
    let more = does_more P xs x a b c (Some fault) first then in
    record { exact = each_cut P (xs ++ x ∷ []) ys a c (Some fault) refl more.exact; reaches = more.reaches }

-- over the numbers below one
pub loop_more : (P : ℕ → Passage) (n : ℕ) (a b c : NetState) (fault : Option StepFault) →
    Does (Each P (range_with_len 0 n)) a None b → Does (P n) b fault c →
    Does (Each P (range_with_len 0 (n + 1))) a fault c
loop_more P n a b c fault first then =
    subst (λ (ns : List ℕ). Does (Each P ns) a fault c) (sym (range_more n))
    (does_more P (range_with_len 0 n) n a b c fault first then)

pub loop_cut : (P : ℕ → Passage) (n m : ℕ) (a b c : NetState) (fault : StepFault) → n < m →
    Does (Each P (range_with_len 0 n)) a None b → Does (P n) b (Some fault) c →
    Does (Each P (range_with_len 0 m)) a (Some fault) c
loop_cut P n m a b c fault below first then =
    subst (λ (ns : List ℕ). Does (Each P ns) a (Some fault) c) (sym (range_split n m below))
    (does_last P (range_with_len 0 n) n (range_with_len (n + 1) (m - (n + 1))) a b c fault first then)

-- A step that was tried

pub does_try : (a b : NetState) (step : Step) (answer : Result Moved StepFault) (fault : Option StepFault) →
    Replies a step answer b → fault ≡ fault_of answer → Does (Attempts step) a fault b
does_try a b step answer fault answered is =
    record { exact = (answer, answered, is); reaches = by_answer a b step answer answered }

-- no step but one that asks a source or fills a sink has a fault
pub does_quietly : (a b : NetState) (step : Step) (answer : Result Moved StepFault) → refusal_of a step ≡ None →
    (Grows (shape a) (network_of a) step → ⊥) → Replies a step answer b → Does (Attempts step) a None b
does_quietly a b step (Ok moved) none small answered = does_try a b step (Ok moved) None answered refl
does_quietly a b step (Err NoSuchPlace) none small answered = does_try a b step (Err NoSuchPlace) None answered refl
does_quietly a b step (Err (Refused why)) none small answered = let some = answered.2 in absurd (cc)
does_quietly a b step (Err NoMemory) none small answered = absurd (small answered.2)

-- over a list that is read off the network, of numbers or of steps one for each number
pub does_for : (list : NetState → List ℕ) (P : ℕ → Passage) (m n : ℕ) (a b : NetState) (fault : Option StepFault) →
    list a ≡ range_with_len 0 m → m ≡ n → Does (Each P (range_with_len 0 n)) a fault b →
    Does (ForEach list P) a fault b
does_for list P m n a b fault is same done = record {
  exact =
      subst (λ (ns : List ℕ). Each P ns a fault b) (sym is)
      (subst (λ (i : ℕ). Each P (range_with_len 0 i) a fault b) (sym same) done.exact);
  reaches = done.reaches;
}

pub does_ranged : (list : NetState → List Step) (f : ℕ → Step) (m n : ℕ) (a b : NetState) →
    list a ≡ map f (range_with_len 0 m) → m ≡ n → Does (Each (λ i. Attempts (f i)) (range_with_len 0 n)) a None b →
    Does (ForEach list Attempts) a None b
does_ranged list f m n a b is same done = record {
  exact = subst (λ (steps : List Step). Each Attempts steps a None b) (sym is)
      (subst (λ (i : ℕ). Each Attempts (map f (range_with_len 0 i)) a None b) (sym same)
      (each_map Attempts f (range_with_len 0 n) a b None done.exact));
  reaches = done.reaches;
}

-- one turn more
pub turns_more : (script : List Entry) (n : ℕ) (a b c : NetState) (fault : Option StepFault) →
    Turns script n a None b → Turn (due n script) b fault c → Turns script (n + 1) a fault c
turns_more script n a b c fault before at =
    subst (λ (ns : List ℕ). Each (λ t. Turn (due t script)) ns a fault c) (sym (range_more n))
    (each_append (λ t. Turn (due t script)) (range_with_len 0 n) (n ∷ []) a b c fault before
    (each_one (λ t. Turn (due t script)) n b c fault at))

-- a passage that changes nothing
pub does_still : (P : Passage) (a : NetState) → P a None a → Does P a None a
does_still P a still = record { exact = still; reaches = reached a }
