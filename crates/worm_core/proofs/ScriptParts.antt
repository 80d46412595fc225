-- A script in order, around a turn: the entries of earlier turns, those that are due, and those of later turns.
use Rattle.std.proofs.Common.{◌≡◌, ℕ, suc, ◌+◌, ◌<◌, ◌≤◌, ◌==◌, nat_lt, true, false, ◌⊎◌, inl, inr, List, [], ◌∷◌, ◌++◌}
use Rattle.std.proofs.Common.{length, refl, arith, ap, sym, subst, ◌∙◌, append_assoc, length-append}
use Rattle.std.specs.Prelude.{filter, slice_index}
use Rattle.std.proofs.lemmas.List.{append-nil}
use Rattle.worm_script.specs.declared.entry.Entry.{Entry}
use Rattle.worm_script.specs.Script.{AreInOrder, turns_of, due}
use Rattle.worm_core.specs.Acceptable.{AreAcceptable}

abbrev pub earlier : ℕ → List Entry → List Entry
earlier t es = filter (λ (e : Entry). nat_lt e.turn t) es

abbrev pub later : ℕ → List Entry → List Entry
later t es = filter (λ (e : Entry). nat_lt t e.turn) es

-- turns never fall, from this one on
abbrev pub Rises : ℕ → List Entry → Type 0
Rises low [] = Unit {0}
Rises low (e ∷ es) = (low ≤ e.turn) × Rises e.turn es

rises_after : (e : Entry) (es : List Entry) → AreInOrder (e ∷ es) → Rises e.turn es
rises_after e [] order = tt
rises_after e (f ∷ es) order =
    let rest : AreInOrder (f ∷ es) = λ i below.
    let next : suc i + 1 ≡ suc (i + 1) = omega arith in
    subst (λ (j : ℕ). slice_index (turns_of (f ∷ es)) i ≤ slice_index (turns_of (e ∷ f ∷ es)) j) next
    (order (suc i) (omega arith)) in
    (order 0 (omega arith), rises_after f es rest)

pub rises : (es : List Entry) → AreInOrder es → Rises 0 es
rises [] order = tt
rises (e ∷ es) order = (omega arith, rises_after e es order)

-- how the tests of an entry's turn come out
data Side (a t : ℕ) : Type 0 where
  is_before : nat_lt a t ≡ true → (a == t) ≡ false → nat_lt t a ≡ false → nat_lt a (t + 1) ≡ true → Side a t
  is_at : nat_lt a t ≡ false → (a == t) ≡ true → nat_lt t a ≡ false → nat_lt a (t + 1) ≡ true → t ≤ a → Side a t
  is_behind : nat_lt a t ≡ false → (a == t) ≡ false → nat_lt t a ≡ true → nat_lt a (t + 1) ≡ false → t < a → Side a t

three : (a t : ℕ) → (a < t) ⊎ ((a ≡ t) ⊎ (t < a))
three a t = grind arith

less : (a t : ℕ) → a < t → (nat_lt a t ≡ true) × ((a == t) ≡ false) × (nat_lt t a ≡ false) × (nat_lt a (t + 1) ≡ true)
less a t h = (grind arith, grind arith, grind arith, grind arith)

equal : (a t : ℕ) → a ≡ t → (nat_lt a t ≡ false) × ((a == t) ≡ true) × (nat_lt t a ≡ false) × (nat_lt a (t + 1) ≡ true)
equal a t h = (grind arith, grind arith, grind arith, grind arith)

more : (a t : ℕ) → t < a → (nat_lt a t ≡ false) × ((a == t) ≡ false) × (nat_lt t a ≡ true) × (nat_lt a (t + 1) ≡ false)
more a t h = (grind arith, grind arith, grind arith, grind arith)

side : (a t : ℕ) → Side a t
side a t = elim (three a t) [
  | inl h ↦ let is = less a t h in is_before is.0 is.1 is.2 is.3
  | inr rest ↦ elim rest [
    | inl h ↦ let is = equal a t h in is_at is.0 is.1 is.2 is.3 (omega arith)
    | inr h ↦ let is = more a t h in is_behind is.0 is.1 is.2 is.3 h
  ]
]

pub none_earlier : (t low : ℕ) (es : List Entry) → Rises low es → t ≤ low → earlier t es ≡ []
none_earlier t low [] h le = refl
none_earlier t low (e ∷ es) h le =
    let low_le = h.0 in
    let test : nat_lt e.turn t ≡ false = let up : t ≤ e.turn = omega arith in grind arith in
    rw test (none_earlier t e.turn es h.1 (omega arith))

none_due : (t low : ℕ) (es : List Entry) → Rises low es → t < low → due t es ≡ []
none_due t low [] h lt = refl
none_due t low (e ∷ es) h lt =
    let low_le = h.0 in
    let test : (e.turn == t) ≡ false = let up : t < e.turn = omega arith in grind arith in
    rw test (none_due t e.turn es h.1 (omega arith))

-- after a turn its entries are among the earlier ones
pub earlier_more : (t low : ℕ) (es : List Entry) → Rises low es → earlier (t + 1) es ≡ earlier t es ++ due t es
earlier_more t low [] h = refl
earlier_more t low (e ∷ es) h =
    let rest = earlier_more t e.turn es h.1 in
    elim (side e.turn t) [
      | is_before a b c d ↦ rw (a, b, d) (ap (λ fs. e ∷ fs) rest)
      | is_at a b c d low_le ↦
          let none = none_earlier t e.turn es h.1 low_le in
          let only : earlier (t + 1) es ≡ due t es = rest ∙ ap (λ fs. fs ++ due t es) none in
          rw (a, b, d) (ap (λ fs. e ∷ fs) only ∙ ap (λ fs. fs ++ e ∷ due t es) (sym none))
      | is_behind a b c d lt ↦ rw (a, b, d) rest
    ]

pub in_three : (t low : ℕ) (es : List Entry) → Rises low es → es ≡ earlier t es ++ (due t es ++ later t es)
in_three t low [] h = refl
in_three t low (e ∷ es) h =
    let rest = in_three t e.turn es h.1 in
    elim (side e.turn t) [
      | is_before a b c d ↦ rw (a, b, c) (ap (λ fs. e ∷ fs) rest)
      | is_at a b c d low_le ↦
          let none = none_earlier t e.turn es h.1 low_le in
          let only : es ≡ due t es ++ later t es = rest ∙ ap (λ fs. fs ++ (due t es ++ later t es)) none in
          rw (a, b, c) (ap (λ fs. e ∷ fs) only ∙ ap (λ fs. fs ++ (e ∷ (due t es ++ later t es))) (sym none))
      | is_behind a b c d lt ↦
          let none = none_earlier t e.turn es h.1 (omega arith) in
          let no_due = none_due t e.turn es h.1 lt in
          let only : es ≡ later t es = rest ∙ (ap (λ fs. fs ++ (due t es ++ later t es)) none
          ∙ ap (λ fs. fs ++ later t es) no_due) in
          rw (a, b, c) (ap (λ fs. e ∷ fs) only
          ∙ (ap (λ fs. fs ++ (e ∷ later t es)) (sym no_due)
          ∙ ap (λ fs. fs ++ (due t es ++ (e ∷ later t es))) (sym none)))
    ]

-- what is acceptable part by part
pub acceptable_split : (mesh channels : List ℕ) (before xs ys : List Entry)
    → AreAcceptable mesh channels before (xs ++ ys)
    → AreAcceptable mesh channels before xs × AreAcceptable mesh channels (before ++ xs) ys
acceptable_split mesh channels before [] ys h =
    (tt, subst (λ (b : List Entry). AreAcceptable mesh channels b ys) (sym (append-nil before)) h)
acceptable_split mesh channels before (x ∷ xs) ys h =
    let rest = acceptable_split mesh channels (before ++ x ∷ []) xs ys h.1 in (
      (h.0, rest.0),
      subst (λ (b : List Entry). AreAcceptable mesh channels b ys)
          (append_assoc before (x ∷ []) xs) rest.1,
    )

-- the entries that are due are acceptable behind the earlier ones, and not too many
pub acceptable_due : (mesh channels : List ℕ) (script : List Entry) (t : ℕ) → AreInOrder script
    → AreAcceptable mesh channels [] script → AreAcceptable mesh channels (earlier t script) (due t script)
acceptable_due mesh channels script t order all =
    let parts : AreAcceptable mesh channels [] (earlier t script ++ (due t script ++ later t script)) =
    subst (AreAcceptable mesh channels []) (in_three t 0 script (rises script order)) all in
    (acceptable_split mesh channels (earlier t script) (due t script) (later t script)
    (acceptable_split mesh channels [] (earlier t script) (due t script ++ later t script) parts).1).0

pub few_due : (script : List Entry) (t : ℕ) → AreInOrder script
    → length (earlier t script) + length (due t script) ≤ length script
few_due script t order =
    let whole = ap (λ (es : List Entry). length es) (in_three t 0 script (rises script order)) in
    omega (
      arith,
      whole,
      length-append (earlier t script) (due t script ++ later t script),
      length-append (due t script) (later t script),
    )
