-- A change of one node, but for its source, changes the count of flits under way by what its sink takes; where the
-- source is lent the count is given up. Either leaves just that node out of those kept as still.
use Rattle.std.proofs.Common.{◌≡◌, ℕ, ◌+◌, ◌∷◌, [], ◌<◌, Bool, true, false, List, length, set, get_or, Option}
use Rattle.std.proofs.Common.{Some, None, inl, inr, arith, ap, refl, ◌∙◌, length-append}
use Rattle.std.specs.Prelude.{if◌then◌else◌}
use Rattle.std.specs.List.{sum_by}
use Rattle.std.proofs.lemmas.List.{set_past}
use Rattle.std.proofs.lemmas.List.Sums.{sum_by-set}
use Rattle.std.proofs.lemmas.Bool.{cases_lt}
use Rattle.worm_flit.specs.declared.Flit.{Flit}
use Rattle.worm_term.specs.Queue.{QueueState, empty_queue, one_fed}
use Rattle.worm_term.specs.Source.{queue_at}
use Rattle.worm_router.specs.Router.{RouterState}
use Rattle.worm_node.specs.Node.{delivered_node, fed_node}
use Rattle.worm_region.specs.Resting.{KnowsResting}
use Rattle.worm_region.specs.UnderWay.{IsUnderWay, accepted_by, accepted_in, taken_by, taken_in}
use Rattle.worm_node.specs.declared.node.Node.{Node}
use Rattle.std.proofs.Common.{length-set, sym}
use Rattle.std.proofs.lemmas.List.{get_or-set_other, get_or-set_same, get_or_past}
use Rattle.worm_theory.proofs.Places.{number_cases}
use Rattle.worm_region.specs.Resting.{no_node}

-- sums of a list with another element

sum_more : {A : Type 0} (f : A → ℕ) (xs : List A) (i a : ℕ) (y d : A) → i < length xs → f y ≡ f (get_or xs i d) + a
    → sum_by f (set xs i y) ≡ sum_by f xs + a
sum_more f xs i a y d there e = let sums = sum_by-set f xs i y d there in omega arith

sum_same : {A : Type 0} (f : A → ℕ) (xs : List A) (i : ℕ) (y d : A) → f y ≡ f (get_or xs i d)
    → sum_by f (set xs i y) ≡ sum_by f xs
sum_same f xs i y d e = elim (cases_lt i (length xs)) [
  | inl there ↦ let more = sum_more f xs i 0 y d there (e ∙ omega arith) in omega arith
  | inr past ↦ ap (sum_by f) (set_past xs i y past)
]

-- what the operations of a node accept and take

pub fed_same : (n : Node) (k : ℕ) (o : Option Flit)
    → (accepted_by (fed_node n k o) ≡ accepted_by n) × (taken_by (fed_node n k o) ≡ taken_by n)
unfolding accepted_by taken_by
fed_same n k None = (refl, refl)
fed_same n k (Some f) = (
  sum_same (λ (q : QueueState). length q.injected) n.source.queues k
      (one_fed (queue_at n.source k)) empty_queue refl,
  refl,
)

-- the same where it is done only if there is room
pub fed_if : (n m : Node) (k : ℕ) (o : Option Flit) (done : Bool) → m ≡ (if done then fed_node n k o else n)
    → (accepted_by m ≡ accepted_by n) × (taken_by m ≡ taken_by n)
fed_if n m k o true is = rw is (fed_same n k o)
fed_if n m k o false is = rw is (refl, refl)

pub delivered_more : (n : Node) (p v : ℕ) (f : Flit)
    → (accepted_by (delivered_node n p v f) ≡ accepted_by n) × (taken_by (delivered_node n p v f) ≡ taken_by n + 1)
unfolding accepted_by taken_by
delivered_more n p v f = (refl, length-append n.sink.delivered (f ∷ []))

pub routed_same : (n : Node) (r : RouterState)
    → (accepted_by (record n { router = r }) ≡ accepted_by n) × (taken_by (record n { router = r }) ≡ taken_by n)
unfolding accepted_by taken_by
routed_same n r = (refl, refl)

-- a place where false was written has false, there or past the end
left_out : (kept : List Bool) (x : ℕ) → get_or (set kept x false) x false ≡ false
left_out kept x = elim (cases_lt x (length kept)) [
  | inl there ↦ get_or-set_same kept x false false there
  | inr past ↦ get_or_past (set kept x false) x false (rw length-set past)
]

-- the node that changes is left out; the others are as they were
touched : (nodes : List Node) (kept : List Bool) (x : ℕ) (n : Node) → KnowsResting nodes kept
    → KnowsResting (set nodes x n) (set kept x false)
touched nodes kept x n known = λ y there still. elim (number_cases y x) [
  | inl here ↦ let no : false ≡ true = sym (left_out kept x) ∙ rw here.1 at still in absurd (cc)
  | inr away ↦
      rw (get_or-set_other nodes x y n no_node away.1)
      (known y (rw length-set at there) (sym (get_or-set_other kept x y false false away.1) ∙ still))
]

-- What is known of the nodes once one of them, read at the place j, has changed: it is not known to be still, and the
-- count is another.

module _ (nodes : List Node) (kept : List Bool) (count : Option ℕ) (i j x : ℕ) (n m : Node)
    (knows : KnowsResting nodes kept × IsUnderWay (accepted_in nodes) (taken_in nodes) count) (at_i : i ≡ x)
    (at_j : j ≡ x) (there : x < length nodes) (read : n ≡ get_or nodes j n) where
  accepted_same : accepted_by m ≡ accepted_by n → accepted_in (set nodes j m) ≡ accepted_in nodes
  unfolding accepted_in
  accepted_same same = sum_same accepted_by nodes j m n (same ∙ ap accepted_by read)

  taken_new : (t : ℕ) → taken_by m ≡ taken_by n + t → taken_in (set nodes j m) ≡ taken_in nodes + t
  unfolding taken_in
  taken_new t e = sum_more taken_by nodes j t m n (omega arith) (e ∙ ap (λ (k : Node). taken_by k + t) read)

  still_new : KnowsResting (set nodes j m) (set kept i false)
  still_new = rw (at_i, at_j) (touched nodes kept x m knows.0)

  -- where the count is given up nothing is to be shown of it
  pub uncounted : KnowsResting (set nodes j m) (set kept i false)
      × IsUnderWay (accepted_in (set nodes j m)) (taken_in (set nodes j m)) None
  uncounted = (still_new, tt)

  pub takes : (new_count : Option ℕ) → accepted_by m ≡ accepted_by n → taken_by m ≡ taken_by n + 1
      → ((accepted taken : ℕ) → IsUnderWay accepted taken count → IsUnderWay accepted (taken + 1) new_count)
      → KnowsResting (set nodes j m) (set kept i false)
      × IsUnderWay (accepted_in (set nodes j m)) (taken_in (set nodes j m)) new_count
  takes new_count same more counts = (
    still_new,
    rw (accepted_same same, taken_new 1 more) (counts (accepted_in nodes) (taken_in nodes) knows.1),
  )

  pub stays : (accepted_by m ≡ accepted_by n) × (taken_by m ≡ taken_by n)
      → KnowsResting (set nodes j m) (set kept i false)
      × IsUnderWay (accepted_in (set nodes j m)) (taken_in (set nodes j m)) count
  stays same =
      let taken : taken_in (set nodes j m) ≡ taken_in nodes = taken_new 0 (same.1 ∙ omega arith) ∙ omega arith in
      (still_new, rw (accepted_same same.0, taken) knows.1)
