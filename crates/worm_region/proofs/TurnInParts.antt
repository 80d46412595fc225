-- The parts of a node's turn, as its calls make them.
use Rattle.std.proofs.Common.{◌≡◌, ℕ, zero, suc, Bool, nat_lt, ◌≤◌, inl, inr, ◌+◌, ◌*◌, ◌<◌, ◌==◌, true, false}
use Rattle.std.proofs.Common.{get_or, drop, take, map, List, [], ◌∷◌, ◌++◌, slice_set, length, Option, Some, None, refl}
use Rattle.std.proofs.Common.{arith, ap, sym, subst, ◌∙◌}
use Rattle.std.proofs.lemmas.Bool.{eqb-true}
use Rattle.std.proofs.lemmas.Bool.Decides.{nat_tests}
use Rattle.std.proofs.lemmas.List.{get_or_default, get_or-map, take_more}
use Rattle.std.proofs.lemmas.List.Elements.{All-head, filter-append, filter_passes}
use Rattle.std.specs.Prelude.{Result, option_map, filter, slice_index, slice_index_or, IfSome, IfNone}
use Rattle.std.specs.List.{All, range_with_len, find}
use Rattle.std.specs.Option.{option_to_list}
use Rattle.worm_router.specs.Router.{RouterState, width, input_at}
use Rattle.worm_router.specs.Allocation.{switch_grants}
use Rattle.worm_swalloc.specs.SwAlloc.{AreGranted}
use Rattle.worm_swalloc.specs.declared.grant.SwGrant.{SwGrant}
use Rattle.worm_theory.specs.Steps.{Step, Send, GiveCredit}
use Rattle.worm_script.specs.Script.{IsNext, begun_at, lane_of, sources_of}
use Rattle.worm_region.specs.State.{NetState, router_at}
use Rattle.worm_region.specs.Replies.{Attempts, Replies}
use Rattle.worm_region.specs.Turns.{Each, Does, Passage, Reaches, ReachesAt, Allocates, ask, fault_of, granted_send}
use Rattle.worm_region.specs.Turns.{lowest_owed, ◌and_then◌, AsksSourceBy, ComesInBy, GivesCreditBy, GivesCreditsBy}
use Rattle.worm_region.specs.Turns.{AreGrants, Chooses, NodePassesBy, SendsBy, SendsGrantedBy}
use Rattle.worm_region.specs.Prepared.{Prepares, allocated_at}
use Rattle.worm_script.specs.declared.entry.Entry.{Entry}
use Rattle.worm_region.specs.declared.step.Moved.{Moved}
use Rattle.worm_region.specs.declared.fault.StepFault.{StepFault}
use Rattle.worm_theory.proofs.Places.{number_cases}
use Rattle.worm_region.proofs.ReachedBySteps.{joined, reached}
use Rattle.worm_region.proofs.StaysAtNode.{asks_at}
use Rattle.worm_region.proofs.Passages.{each_flat, does_quietly, does_try, does_more, does_nothing}

-- a credit of the lowest channel that owes one is given; or none owes one

gives_by : (x p : ℕ) (o : Option ℕ) (a b : NetState) → o ≡ lowest_owed (router_at a x) p →
    Does (Each Attempts (option_to_list (option_map (GiveCredit x p) o))) a None b →
    Does (GivesCreditBy Attempts x p) a None b
gives_by x p o a b is done = record {
  exact =
      subst (λ (o : Option ℕ). Each Attempts (option_to_list (option_map (GiveCredit x p) o)) a None b) is done.exact;
  reaches = done.reaches;
}

pub gives_one : (x p v : ℕ) (a b : NetState) (answer : Result Moved StepFault) →
    Some v ≡ lowest_owed (router_at a x) p → Replies a (GiveCredit x p v) answer b →
    Does (GivesCreditBy Attempts x p) a None b
gives_one x p v a b answer is answered =
    gives_by x p (Some v) a b is (does_more Attempts [] (GiveCredit x p v) a a b None (does_nothing a)
    (does_quietly a b (GiveCredit x p v) answer refl (λ grows. grows) answered))

pub gives_none : (x p : ℕ) (a : NetState) → None ≡ lowest_owed (router_at a x) p →
    Does (GivesCreditBy Attempts x p) a None a
gives_none x p a is = gives_by x p None a a is (does_nothing a)

-- the source is asked what each entry asks whose lane begins at the node

abbrev asked : ℕ → List Entry → List Step
asked x entries = map (λ (e : Entry). ask x e.act) (begun_at x entries)

-- the source was asked for the entries before a place, and this is the next one that is for it: who asks for those from
-- the place on has asked for all
pub record Asked (x : ℕ) (entries : List Entry) (next : Option ℕ) (a b : NetState) : Type 0 where
  place : ℕ
  left : IsNext x entries place next
  whole : (c : NetState) (fault : Option StepFault) → Each Attempts (asked x (drop place entries)) b fault c →
      Each Attempts (asked x entries) a fault c
  reaches : Reaches a b

pub asks_first : (x : ℕ) (entries : List Entry) (next : Option ℕ) (a : NetState) → IsNext x entries 0 next →
    Asked x entries next a a
asks_first x entries next a is =
    record { place = 0; left = is; whole = λ c fault made. made; reaches = reached a }

pub asks_within : (x : ℕ) (entries : List Entry) (i : ℕ) (a b : NetState) → Asked x entries (Some i) a b →
    i < length entries
asks_within x entries i a b so_far = so_far.left.0

-- and whatever is told where none is, it is the same
asks_same : (x : ℕ) (entries : List Entry) (i : ℕ) (e : Entry) (a b : NetState) → Asked x entries (Some i) a b →
    get_or entries i (get_or entries i e) ≡ get_or entries i e
asks_same x entries i e a b so_far = get_or_default entries i (get_or entries i e) e so_far.left.0

-- the next one is for the source, so what comes next of the source that it asks comes next for this one
pub next_left : (x : ℕ) (entries : List Entry) (i : ℕ) (e : Entry) (a b : NetState) (next : Option ℕ) →
    Asked x entries (Some i) a b → IsNext (slice_index (sources_of entries) i) entries (i + 1) next →
    IsNext x entries (i + 1) next
next_left x entries i e a b next so_far is =
    let source_of : Entry → ℕ = λ (e : Entry). (lane_of e.act).src in
    let begins : Entry → Bool = λ (e : Entry). source_of e == x in
    let here = get_or entries i e in
    let own : begins here ≡ true = All-head (λ (e : Entry). begins e ≡ true) here (begun_at x (drop (i + 1) entries))
    (subst (λ (es : List Entry). All (λ (e : Entry). begins e ≡ true) es) (so_far.left.1 e)
    (filter_passes begins (drop so_far.place entries))) in
    let source : slice_index (sources_of entries) i ≡ x =
    get_or-map source_of entries i e 0 so_far.left.0 ∙ eqb-true (source_of here) x own in
    subst (λ (y : ℕ). IsNext y entries (i + 1) next) source is

-- how many entries for the source there are from the next one on
abbrev pub how_many_left : ℕ → List Entry → Option ℕ → ℕ
how_many_left x entries None = 0
how_many_left x entries (Some i) = length (begun_at x (drop (i + 1) entries)) + 1

pub fewer_left : (x : ℕ) (entries : List Entry) (i : ℕ) (e : Entry) (next : Option ℕ) → IsNext x entries (i + 1) next →
    how_many_left x entries next < how_many_left x entries (Some i)
fewer_left x entries i e None is = omega arith
fewer_left x entries i e (Some j) is = let count = ap length (is.1 e) in omega arith

-- who asks for the next one, and then for those behind it, asks for all that are left
asks_on : (x : ℕ) (entries : List Entry) (i : ℕ) (e : Entry) (a b c : NetState) (fault : Option StepFault) →
    Asked x entries (Some i) a b → get_or entries i e ≡ e →
    (Attempts (ask x e.act) and_then Each Attempts (asked x (drop (i + 1) entries))) b fault c →
    Each Attempts (asked x entries) a fault c
asks_on x entries i e a b c fault so_far at made =
    let behind = begun_at x (drop (i + 1) entries) in
    let from_here : begun_at x (drop so_far.place entries) ≡ e ∷ behind =
    so_far.left.1 e ∙ ap (λ (y : Entry). y ∷ behind) at in
    so_far.whole c fault (subst (λ (es : List Entry). Each Attempts (map (λ (e : Entry). ask x e.act) es) b fault c)
    (sym from_here) made)

pub asks_more : (x : ℕ) (entries : List Entry) (i : ℕ) (d : Entry) (next : Option ℕ) (a b c : NetState)
    (answer : Result Moved StepFault) → Asked x entries (Some i) a b →
    Replies b (ask x (get_or entries i d).act) answer c → None ≡ fault_of answer → IsNext x entries (i + 1) next →
    Asked x entries next a c
asks_more x entries i d next a b c answer so_far answered ends is =
    let e = get_or entries i d in
    let same = asks_same x entries i d a b so_far in
    let one = does_try b c (ask x e.act) answer None answered ends in
    record {
      place = i + 1;
      left = is;
      whole = λ end fault made. asks_on x entries i e a b end fault so_far same (inr (c, one.exact, made));
      reaches = joined a b c so_far.reaches one.reaches;
    }

asks_source : (x : ℕ) (entries : List Entry) (a b : NetState) (fault : Option StepFault) →
    Each Attempts (asked x entries) a fault b → Reaches a b →
    Does (AsksSourceBy Attempts entries x) a fault b × ReachesAt x a b
asks_source x entries a b fault made reaches =
    (record { exact = made; reaches = reaches }, asks_at x entries a b fault made)

-- up to a fault
pub asks_until : (x : ℕ) (entries : List Entry) (i : ℕ) (d : Entry) (a b c : NetState)
    (answer : Result Moved StepFault) (fault : StepFault) → Asked x entries (Some i) a b →
    Replies b (ask x (get_or entries i d).act) answer c → Some fault ≡ fault_of answer →
    Does (AsksSourceBy Attempts entries x) a (Some fault) c × ReachesAt x a c
asks_until x entries i d a b c answer fault so_far answered ends =
    let e = get_or entries i d in
    let same = asks_same x entries i d a b so_far in
    let one = does_try b c (ask x e.act) answer (Some fault) answered ends in
    asks_source x entries a c (Some fault)
    (asks_on x entries i e a b c (Some fault) so_far same (inl (refl, one.exact)))
    (joined a b c so_far.reaches one.reaches)

-- or all of them
pub asks_all : (x : ℕ) (entries : List Entry) (a b : NetState) → Asked x entries None a b →
    Does (AsksSourceBy Attempts entries x) a None b × ReachesAt x a b
asks_all x entries a b so_far =
    asks_source x entries a b None
    (so_far.whole b None (subst (λ (es : List Entry). Each Attempts (map (λ (e : Entry). ask x e.act) es) b None b)
    (sym so_far.left) (refl, refl))) so_far.reaches

-- an entry more that is not for the source

differ : (a b : ℕ) → (a ≡ b → ⊥) → (a == b) ≡ false
differ a b away = grind arith

-- there is an entry at each place, and its source stands beside it
some_entry : (entries : List Entry) (i : ℕ) → i < length entries → (e : Entry) × (get_or entries i e ≡ e)
some_entry [] i below = absurd (omega arith)
some_entry (e ∷ es) zero below = (e, refl)
some_entry (e ∷ es) (suc i) below = some_entry es i (omega arith)

source_beside : (entries : List Entry) (i source : ℕ) (e : Entry) → i < length entries → get_or entries i e ≡ e →
    source ≡ slice_index (sources_of entries) i → source ≡ (lane_of e.act).src
source_beside entries i source e below at is =
    let source_of : Entry → ℕ = λ (e : Entry). (lane_of e.act).src in
    is ∙ (get_or-map source_of entries i e 0 below ∙ ap source_of at)

pub begun_same : (x : ℕ) (entries : List Entry) (i source : ℕ) → i < length entries →
    source ≡ slice_index (sources_of entries) i → (source ≡ x → ⊥)
    → begun_at x (take i entries) ≡ [] → begun_at x (take (i + 1) entries) ≡ []
begun_same x entries i source below is away none =
    let begins : Entry → Bool = λ (e : Entry). (lane_of e.act).src == x in
    let here = some_entry entries i below in
    let passed : begins here.0 ≡ false = differ (lane_of here.0.act).src x
    (λ same. away (source_beside entries i source here.0 below here.1 is ∙ same)) in
    let other : filter begins (here.0 ∷ []) ≡ [] = rw passed refl in
    ap (filter begins) (take_more entries i here.0 below ∙ ap (λ (y : Entry). take i entries ++ y ∷ []) here.1)
    ∙ (filter-append begins (take i entries) (here.0 ∷ []) ∙
    (ap (λ (es : List Entry). es ++ filter begins (here.0 ∷ [])) none ∙ other))

-- a mark that is set is read back, whether or not it is there
pub marked : (marks : List Bool) (i : ℕ) → get_or (slice_set marks i true) i true ≡ true
marked [] i = refl
marked (m ∷ marks) zero = refl
marked (m ∷ marks) (suc i) = marked marks i

-- no entry is for the source
pub asks_none : (x : ℕ) (entries : List Entry) (a : NetState) → begun_at x entries ≡ [] →
    Does (AsksSourceBy Attempts entries x) a None a
asks_none x entries a none =
    let nothing = does_nothing a in
    record {
      exact =
          subst (λ (es : List Entry). Each Attempts (map (λ (e : Entry). ask x e.act) es) a None a)
          (sym none) nothing.exact;
      reaches = nothing.reaches;
    }

-- what the switch allocator granted is sent

pub sends_one : (grants : List (Option SwGrant)) (x p : ℕ) (g : SwGrant) (a b : NetState)
    (answer : Result Moved StepFault) (fault : Option StepFault) → slice_index_or grants p None ≡ Some g →
    Replies a (Send x p g.vc) answer b → fault ≡ fault_of answer
    → Does (Each Attempts (granted_send grants x p)) a fault b
sends_one grants x p g a b answer fault is answered ends =
    subst (λ (o : Option SwGrant). Does (Each Attempts (option_to_list (option_map (λ g. Send x p g.vc) o))) a fault b)
    (sym is)
    (does_more Attempts [] (Send x p g.vc) a a b fault (does_nothing a)
    (does_try a b (Send x p g.vc) answer fault answered ends))

pub sends_none : (grants : List (Option SwGrant)) (x p : ℕ) (a : NetState) → slice_index_or grants p None ≡ None →
    Does (Each Attempts (granted_send grants x p)) a None a
sends_none grants x p a is =
    subst (λ (o : Option SwGrant). Does (Each Attempts (option_to_list (option_map (λ g. Send x p g.vc) o))) a None a)
    (sym is) (does_nothing a)

pub sends_all : (grants : List (Option SwGrant)) (x : ℕ) (a b : NetState) (fault : Option StepFault) →
    Does (Each (λ p. Each Attempts (granted_send grants x p)) (range_with_len 0 (2 * length a.mesh + 1))) a fault b →
    Does (SendsBy Attempts grants x) a fault b
sends_all grants x a b fault done = record {
  exact = each_flat Attempts (granted_send grants x) (range_with_len 0 (2 * length a.mesh + 1)) a b fault done.exact;
  reaches = done.reaches;
}

-- what was prepared, and then what follows the pass of the switch allocator
prepared : (x granted : ℕ) (P : Passage) (a b c : NetState) (fault : Option StepFault) →
    Prepares x granted a b → ((s : NetState) → Chooses x granted s b → P s fault c) →
    (ComesInBy Attempts x and_then Allocates x and_then P) a fault c
prepared x granted P a b c fault done then =
    let s = allocated_at x done.came in
    inr (done.came, done.comes, inr (s, (refl, refl), then s done.chooses))

sends_chosen : (x granted : ℕ) (a b c : NetState) (fault : Option StepFault) → Chooses x granted a b →
    ((grants : List (Option SwGrant)) → AreGranted grants granted → Does (SendsBy Attempts grants x) b fault c) →
    SendsGrantedBy Attempts x a fault c
sends_chosen x granted a b c fault chosen sent =
    subst (λ (s : NetState). SendsBy Attempts (switch_grants (router_at a x)) x s fault c) chosen.1
    (sent (switch_grants (router_at a x)) chosen.0).exact

pub passes_cut : (x granted : ℕ) (a b c : NetState) (fault : StepFault) → Prepares x granted a b → Reaches a b →
    AreGrants granted
    → ((grants : List (Option SwGrant)) → AreGranted grants granted → Does (SendsBy Attempts grants x) b (Some fault) c)
    → Does (NodePassesBy Attempts x) a (Some fault) c
passes_cut x granted a b c fault done reaches some sent = record {
  exact = prepared x granted (SendsGrantedBy Attempts x and_then GivesCreditsBy Attempts x) a b c (Some fault) done
      (λ s chosen. inl (refl, sends_chosen x granted s b c (Some fault) chosen sent));
  reaches = joined a b c reaches (sent some.0 some.1).reaches;
}

pub passes_all : (x granted : ℕ) (a b c d : NetState) → Prepares x granted a b → Reaches a b →
    AreGrants granted
    → ((grants : List (Option SwGrant)) → AreGranted grants granted → Does (SendsBy Attempts grants x) b None c)
    → Does (GivesCreditsBy Attempts x) c None d → Does (NodePassesBy Attempts x) a None d
passes_all x granted a b c d done reaches some sent given = record {
  exact = prepared x granted (SendsGrantedBy Attempts x and_then GivesCreditsBy Attempts x) a b d None done
      (λ s chosen. inr (c, sends_chosen x granted s b c None chosen sent, given.exact));
  reaches = joined a c d (joined a b c reaches (sent some.0 some.1).reaches) given.reaches;
}

-- the first number of a range that passes a test

find_from : (f : ℕ → Bool) (n from v : ℕ) → from ≤ v → v < from + n → f v ≡ true → ((k : ℕ) → k < v → f k ≡ false) →
    find f (range_with_len from n) ≡ Some v
find_from f zero from v above below passes others = absurd (omega arith)
find_from f (suc n) from v above below passes others = elim (number_cases from v) [
  | inl here ↦
      let first : f from ≡ true = ap f here.1 ∙ passes in
      let one : ◌≡◌ {A = Option ℕ} (Some from) (Some v) = ap (λ (i : ℕ). Some i) here.1 in
      rw first one
  | inr away ↦
      let differs = away.1 in
      let first : f from ≡ false = others from (omega arith) in
      rw first (find_from f n (from + 1) v (omega arith) (omega arith) passes others)
]

find_nothing : (f : ℕ → Bool) (n from : ℕ) → ((k : ℕ) → k < from + n → f k ≡ false) →
    find f (range_with_len from n) ≡ None
find_nothing f zero from others = refl
find_nothing f (suc n) from others =
    let first : f from ≡ false = others from (omega arith) in
    rw first (find_nothing f n (from + 1) (λ k below. others k (omega arith)))

pub owing : (n : ℕ) → 0 < n → nat_lt 0 n ≡ true
owing n some = grind arith

pub owing_some : (n : ℕ) → nat_lt 0 n ≡ true → 0 < n
owing_some n some = grind (arith, nat_tests)

owing_none : (n : ℕ) → n ≡ 0 → nat_lt 0 n ≡ false
owing_none n none = grind arith

-- what a router says of the credits that a port owes
pub owed_lowest : (r : RouterState) (p : ℕ) (o : Option ℕ) →
    IfSome o (λ v. (v < width r) × (0 < (input_at r p v).owed)) →
    IfSome o (λ v. (k : ℕ) → k < v → (input_at r p k).owed ≡ 0) →
    IfNone o ((k : ℕ) → k < width r → (input_at r p k).owed ≡ 0)
    → o ≡ lowest_owed r p
owed_lowest r p (Some v) found lowest none =
    let passes : nat_lt 0 (input_at r p v).owed ≡ true = owing (input_at r p v).owed found.1 in
    sym (find_from (λ v. nat_lt 0 (input_at r p v).owed) (width r) 0 v (omega arith) (let within = found.0 in
    omega arith) passes (λ k below. owing_none (input_at r p k).owed (lowest k below)))
owed_lowest r p None found lowest none =
    sym (find_nothing (λ v. nat_lt 0 (input_at r p v).owed) (width r) 0
    (λ k below. owing_none (input_at r p k).owed (none k (omega arith))))
