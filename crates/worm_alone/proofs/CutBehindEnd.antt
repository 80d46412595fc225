-- A joined text is cut behind its first finished line that is `end`, and in no other place.
use Rattle.std.proofs.Common.{◌≡◌, ◌≢◌, ℕ, ◌+◌, ◌-◌, ◌<◌, ◌≤◌, ◌==◌, inl, inr, Bool, true, false, cond, List, []}
use Rattle.std.proofs.Common.{◌∷◌, ◌++◌, length, take, drop, get_or, codes, refl, arith, ap, sym, subst, ◌∙◌}
use Rattle.std.proofs.Common.{append_assoc, length-append, length-drop}
use Rattle.std.specs.Prelude.{All, if◌then◌else◌}
use Rattle.std.specs.Str.{bytes_eq}
use Rattle.std.proofs.Math.Seq.{take-add}
use Rattle.std.proofs.lemmas.Bool.{true≢false}
use Rattle.std.proofs.lemmas.Bool.Decides.{nat_tests}
use Rattle.std.proofs.lemmas.List.{append-nil, take_more, take_rest, take-append-drop, get_or-drop}
use Rattle.std.proofs.lemmas.List.{length-take-le, flat_map_more}
use Rattle.std.proofs.lemmas.List.Elements.{All-nil, All-push, All-head, All-tail}
use Rattle.std.proofs.lemmas.Slice.Eq.{bytes_eq-Decides}
use Rattle.worm_text.specs.Lines.{newline, finished}
use Rattle.worm_alone.specs.Joined.{IsOneLine, IsOther, IsCut}

abbrev is_end : List ℕ → Bool
is_end line = bytes_eq line (codes "end")

no_end : (line : List ℕ) → is_end line ≡ false → line ≢ codes "end"
no_end line other is = true≢false (sym ((bytes_eq-Decides line (codes "end")).1 is) ∙ other)

-- one line more
finished-more : (lines : List (List ℕ)) (line : List ℕ) →
    finished lines ++ (line ++ newline ∷ []) ≡ finished (lines ++ line ∷ [])
finished-more lines line = flat_map_more (λ (l : List ℕ). l ++ newline ∷ []) [] lines line

-- The walk over a text

-- All before this place but the bytes from start on are finished lines, none of them `end`, and no byte from start on
-- ends a line.
pub record IsWalked (text : List ℕ) (start at : ℕ) : Type 0 where
  pub lines : List (List ℕ)
  pub others : All IsOther lines
  pub begun : start ≤ at
  pub front : take start text ≡ finished lines
  pub open_line : IsOneLine (take (at - start) (drop start text))

-- with the line end at this place
up_to : (text : List ℕ) (start at : ℕ) → at < length text → start ≤ at → get_or text at 0 ≡ 10 →
    take (at + 1) text ≡ take start text ++ (take (at - start) (drop start text) ++ newline ∷ [])
up_to text start at within begun lf =
    let line = take (at - start) (drop start text) in
    let place : start + (at - start) ≡ at = omega arith in
    take_more text at 0 within
    ∙ ap (λ (b : ℕ). take at text ++ b ∷ []) lf
    ∙ ap (λ (n : ℕ). take n text ++ newline ∷ []) (sym place)
    ∙ ap (λ (l : List ℕ). l ++ newline ∷ []) (take-add start (at - start) text)
    ∙ append_assoc (take start text) line (newline ∷ [])

-- the next byte ends a line
pub line_ends : (text : List ℕ) (start at : ℕ) → at < length text → get_or text at 0 ≡ 10 →
    (w : IsWalked text start at) → take (at + 1) text
    ≡ finished (w.lines ++ take (at - start) (drop start text) ∷ [])
line_ends text start at within lf w =
    let line = take (at - start) (drop start text) in
    up_to text start at within w.begun lf ∙ ap (λ (l : List ℕ). l ++ (line ++ newline ∷ [])) w.front
    ∙ finished-more w.lines line

pub next_line : (text : List ℕ) (start at : ℕ) → at < length text → get_or text at 0 ≡ 10 →
    bytes_eq (take (at - start) (drop start text)) (codes "end") ≡ false → IsWalked text start at →
    IsWalked text (at + 1) (at + 1)
next_line text start at within lf other w =
    let line = take (at - start) (drop start text) in
    let none : at + 1 - (at + 1) ≡ 0 = omega arith in
    record {
      lines = w.lines ++ line ∷ [];
      others = All-push IsOther w.lines line w.others (w.open_line, no_end line other);
      begun = omega arith;
      front = line_ends text start at within lf w;
      open_line = subst (λ (n : ℕ). IsOneLine (take n (drop (at + 1) text))) (sym none)
          (All-nil (λ (b : ℕ). b ≢ newline));
    }

pub cut_here : (text : List ℕ) (start at : ℕ) → at < length text → get_or text at 0 ≡ 10 →
    bytes_eq (take (at - start) (drop start text)) (codes "end") ≡ true → IsWalked text start at →
    IsCut text (at + 1)
cut_here text start at within lf same w =
    let line = take (at - start) (drop start text) in
    inl record {
      before = w.lines;
      others = w.others;
      within = omega (arith, within);
      front = line_ends text start at within lf w
          ∙ ap (λ (l : List ℕ). finished (w.lines ++ l ∷ [])) ((bytes_eq-Decides line (codes "end")).0 same);
    }

-- the next byte belongs to the present line
pub same_line : (text : List ℕ) (start at : ℕ) → at < length text → (get_or text at 0 ≡ 10 → ⊥) →
    IsWalked text start at → IsWalked text start (at + 1)
same_line text start at within other w =
    let begun = w.begun in
    let line = take (at - start) (drop start text) in
    let byte = get_or text at 0 in
    let place : start + (at - start) ≡ at = omega arith in
    let inside : at - start < length (drop start text) = omega (arith, length-drop start text) in
    let found : get_or (drop start text) (at - start) 0 ≡ byte =
    get_or-drop start text (at - start) 0 ∙ ap (λ (k : ℕ). get_or text k 0) place in
    let more : at + 1 - start ≡ at - start + 1 = omega arith in
    let longer : take (at + 1 - start) (drop start text) ≡ line ++ byte ∷ [] =
    ap (λ (k : ℕ). take k (drop start text)) more
    ∙ (take_more (drop start text) (at - start) 0 inside ∙ ap (λ (b : ℕ). line ++ b ∷ []) found) in
    record {
      lines = w.lines;
      others = w.others;
      begun = omega arith;
      front = w.front;
      open_line = subst (λ (l : List ℕ). IsOneLine l) (sym longer)
          (All-push (λ (b : ℕ). b ≢ newline) line byte w.open_line other);
    }

pub all_walked : (text : List ℕ) (start : ℕ) → IsWalked text start (length text) → IsCut text (length text)
all_walked text start w = inr record {
  lines = w.lines;
  others = w.others;
  unfinished = drop start text;
  open_line = subst (λ (l : List ℕ). IsOneLine l) (take_rest text start) w.open_line;
  spelled = sym (take-append-drop start text) ∙ ap (λ (l : List ℕ). l ++ drop start text) w.front;
  all = refl;
}

-- One place alone

-- how many bytes, read from within this line on, stand up to and with the first line that is `end`
abbrev up_to_end : List ℕ → List ℕ → ℕ
up_to_end line [] = 0
up_to_end line (b ∷ bs) =
    1 + (if b == 10 then (if is_end line then 0 else up_to_end [] bs) else up_to_end (line ++ b ∷ []) bs)

no_line_feed : (b : ℕ) → (b ≡ 10 → ⊥) → (b == 10) ≡ false
no_line_feed b h = grind (arith, nat_tests)

within_line : (line bs : List ℕ) (b : ℕ) → (b ≡ 10 → ⊥) → up_to_end line (b ∷ bs)
    ≡ 1 + up_to_end (line ++ b ∷ []) bs
within_line line bs b other =
    ap (λ (t : Bool). 1 + cond t (cond (is_end line) 0 (up_to_end [] bs)) (up_to_end (line ++ b ∷ []) bs))
    (no_line_feed b other)

over_line : (so_far line more : List ℕ) → IsOneLine line → is_end (so_far ++ line) ≡ false →
    up_to_end so_far (line ++ newline ∷ more) ≡ length line + (1 + up_to_end [] more)
over_line so_far [] more whole other =
    let last : up_to_end so_far (newline ∷ more) ≡ 1 + up_to_end [] more =
    ap (λ (t : Bool). 1 + cond t 0 (up_to_end [] more)) (ap is_end (sym (append-nil so_far)) ∙ other) in
    omega (arith, last)
over_line so_far (b ∷ line) more whole other =
    let joined = append_assoc so_far (b ∷ []) line in
    let rest = over_line (so_far ++ b ∷ []) line more (All-tail (λ (b : ℕ). b ≢ newline) b line whole)
    (ap is_end joined ∙ other) in
    let first = within_line so_far (line ++ newline ∷ more) b (All-head (λ (b : ℕ). b ≢ newline) b line whole) in
    omega (arith, rest, first)

over_rest : (so_far rest : List ℕ) → IsOneLine rest → up_to_end so_far rest ≡ length rest
over_rest so_far [] whole = refl
over_rest so_far (b ∷ rest) whole =
    let later = over_rest (so_far ++ b ∷ []) rest (All-tail (λ (b : ℕ). b ≢ newline) b rest whole) in
    let first = within_line so_far rest b (All-head (λ (b : ℕ). b ≢ newline) b rest whole) in
    omega (arith, later, first)

is_no_end : (line : List ℕ) → line ≢ codes "end" → is_end line ≡ false
is_no_end line other = by (is_end line) refl where
  by : (t : Bool) → is_end line ≡ t → is_end line ≡ false
  by true is = absurd (other ((bytes_eq-Decides line (codes "end")).0 is))
  by false is = is

over_lines : (lines : List (List ℕ)) (more : List ℕ) → All IsOther lines →
    up_to_end [] (finished lines ++ more) ≡ length (finished lines) + up_to_end [] more
over_lines [] more others = omega arith
over_lines (l ∷ lines) more others =
    let this = All-head IsOther l lines others in
    let joined : finished (l ∷ lines) ++ more ≡ l ++ newline ∷ (finished lines ++ more) =
    append_assoc (l ++ newline ∷ []) (finished lines) more
    ∙ append_assoc l (newline ∷ []) (finished lines ++ more) in
    let rest = over_lines lines more (All-tail IsOther l lines others) in
    let first = ap (up_to_end []) joined
    ∙ over_line [] l (finished lines ++ more) this.0 (is_no_end l this.1) in
    let long = length-append (l ++ newline ∷ []) (finished lines) in
    let line = length-append l (newline ∷ []) in
    omega (arith, rest, first, long, line)

at_place : (text : List ℕ) (at : ℕ) → IsCut text at → at ≡ up_to_end [] text
at_place text at (inl cut) =
    let rest = drop at text in
    let whole : text ≡ finished cut.before ++ (codes "end" ++ newline ∷ rest) =
    sym (take-append-drop at text)
    ∙ ap (λ (l : List ℕ). l ++ rest) (cut.front ∙ sym (finished-more cut.before (codes "end")))
    ∙ append_assoc (finished cut.before) (codes "end" ++ newline ∷ []) rest in
    let there = ap (up_to_end []) whole
    ∙ over_lines cut.before (codes "end" ++ newline ∷ rest) cut.others in
    let four : up_to_end [] (codes "end" ++ newline ∷ rest) ≡ 4 = refl in
    let count = sym (length-take-le at text cut.within)
    ∙ ap (λ (l : List ℕ). length l) (cut.front ∙ sym (finished-more cut.before (codes "end")))
    ∙ length-append (finished cut.before) (codes "end" ++ newline ∷ []) in
    omega (arith, there, four, count)
at_place text at (inr none) =
    let there = ap (up_to_end []) none.spelled ∙ over_lines none.lines none.unfinished none.others in
    let rest = over_rest [] none.unfinished none.open_line in
    let count = none.all ∙ ap (λ (l : List ℕ). length l) none.spelled
    ∙ length-append (finished none.lines) none.unfinished in
    omega (arith, there, rest, count)

-- a text is cut in one place
pub one_cut : (text : List ℕ) (at other : ℕ) → IsCut text at → IsCut text other → other ≡ at
one_cut text at other a b = at_place text other b ∙ sym (at_place text at a)
