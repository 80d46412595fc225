-- In a list whose numbers never fall, the elements below a number come first, and then those of it.
use Rattle.std.proofs.Common.{◌≡◌, ℕ, suc, ◌+◌, ◌<◌, ◌≤◌, ◌==◌, true, false, nat_lt, List, [], ◌∷◌, ◌++◌}
use Rattle.std.proofs.Common.{length, get_or, refl, arith, ap, ◌∙◌, inl, inr}
use Rattle.std.specs.Prelude.{filter}
use Rattle.std.specs.List.Sorted.{IsNonDecreasingBy}
use Rattle.std.proofs.lemmas.Bool.{cases_lt}
use Rattle.std.proofs.lemmas.List.Elements.{filter-append}
use Rattle.worm_script.specs.Script.{AreInOrder, begun_at, due, lane_of}
use Rattle.worm_script.specs.declared.entry.Entry.{Entry}
use Rattle.worm_script.proofs.DueEntries.{turns_rise}
use Rattle.worm_run.specs.Working.{due_before}

is_below : (a b : ℕ) → a < b → nat_lt a b ≡ true
is_below a b h = grind arith

not_below : (a b : ℕ) → b ≤ a → nat_lt a b ≡ false
not_below a b h = grind arith

is_same : (a b : ℕ) → a ≤ b → b ≤ a → (a == b) ≡ true
is_same a b h k = grind arith

not_same : (a b : ℕ) → a < b → (a == b) ≡ false
not_same a b h = grind arith

not_over : (a b : ℕ) → b < a → (a == b) ≡ false
not_over a b h = grind arith

module _ {X : Type 0} (n : X → ℕ) where
  -- no element is below the number
  none_below : (t : ℕ) (xs : List X) → ((k : ℕ) (d : X) → k < length xs → t ≤ n (get_or xs k d)) →
      filter (λ x. nat_lt (n x) t) xs ≡ []
  none_below t [] above = refl
  none_below t (x ∷ xs) above =
      let no : nat_lt (n x) t ≡ false = not_below (n x) t (above 0 x (omega arith)) in
      rw no (none_below t xs (λ k d within. above (suc k) d (omega arith)))

  rises_on : (x : X) (xs : List X) → IsNonDecreasingBy n (x ∷ xs) → IsNonDecreasingBy n xs
  rises_on x xs rise = λ i j d within below. rise (suc i) (suc j) d (omega arith) (omega arith)

  pub below_more : (t : ℕ) (xs : List X) → IsNonDecreasingBy n xs →
      filter (λ x. nat_lt (n x) (t + 1)) xs ≡ filter (λ x. nat_lt (n x) t) xs ++ filter (λ x. n x == t) xs
  below_more t [] rise = refl
  below_more t (x ∷ xs) rise = elim (cases_lt (n x) t) [
    | inl below ↦
        let first : nat_lt (n x) (t + 1) ≡ true = is_below (n x) (t + 1) (omega arith) in
        let under : nat_lt (n x) t ≡ true = is_below (n x) t below in
        let other : (n x == t) ≡ false = not_same (n x) t below in
        rw (first, under, other) (ap (λ (ys : List X). x ∷ ys) (below_more t xs (rises_on x xs rise)))
    | inr above ↦ elim (cases_lt t (n x)) [
      | inl over ↦
          let first : nat_lt (n x) (t + 1) ≡ false = not_below (n x) (t + 1) (omega arith) in
          let under : nat_lt (n x) t ≡ false = not_below (n x) t above in
          let other : (n x == t) ≡ false = not_over (n x) t over in
          rw (first, under, other) (below_more t xs (rises_on x xs rise))
      | inr within ↦
          let first : nat_lt (n x) (t + 1) ≡ true = is_below (n x) (t + 1) (omega arith) in
          let under : nat_lt (n x) t ≡ false = not_below (n x) t above in
          let same : (n x == t) ≡ true = is_same (n x) t (omega arith) above in
          let none : filter (λ (y : X). nat_lt (n y) t) xs ≡ [] = none_below t xs
          (λ k d inside. let risen = rise 0 (suc k) d (omega arith) (omega arith) in omega arith) in
          rw (first, under, same, none) (ap (λ (ys : List X). x ∷ ys)
          (below_more t xs (rises_on x xs rise) ∙ ap (λ (ys : List X). ys ++ filter (λ (y : X). n y == t) xs) none))
    ]
  ]

-- no turn is below the first
none_first : {X : Type 0} (n : X → ℕ) (xs : List X) → filter (λ x. nat_lt (n x) 0) xs ≡ []
none_first n xs = none_below n 0 xs (λ k d within. omega arith)

pub due_before-zero : (script : List Entry) → due_before 0 script ≡ []
due_before-zero script = none_first (λ (e : Entry). e.turn) script

-- the entries of the turns below one more
pub due_before-more : (script : List Entry) (t : ℕ) → AreInOrder script →
    due_before (t + 1) script ≡ due_before t script ++ due t script
due_before-more script t in_order = below_more (λ (e : Entry). e.turn) t script (turns_rise script in_order)

-- of those the ones that begin at a node
pub begun-more : (script : List Entry) (t x : ℕ) → AreInOrder script →
    begun_at x (due_before (t + 1) script) ≡ begun_at x (due_before t script) ++ begun_at x (due t script)
begun-more script t x in_order =
    ap (λ (es : List Entry). begun_at x es) (due_before-more script t in_order)
    ∙ filter-append (λ (e : Entry). (lane_of e.act).src == x) (due_before t script) (due t script)
