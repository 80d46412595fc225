-- The field that comes next, by the digits at the front of what is left of a line.
use Rattle.std.proofs.Common.{◌≡◌, ℕ, ◌-◌, ◌<◌, ◌≤◌, Bool, true, false, not, ◌&&◌, ◌||◌, cond, eqb, ltb, leb}
use Rattle.std.proofs.Common.{◌⊎◌, List, [], ◌∷◌, length, get_or, take, drop, Ok, Err, add-zero, refl, sym, ap, ◌∙◌}
use Rattle.std.proofs.Common.{arith}
use Rattle.std.specs.List.{list_all, prefix_len, position_or_len}
use Rattle.std.proofs.lemmas.List.{take_all, take_rest, length-drop, length-take-le, drop-drop, get_or-drop}
use Rattle.std.proofs.lemmas.List.{get_or-take}
use Rattle.std.proofs.lemmas.List.Folds.{length-prefix_len}
use Rattle.std.proofs.lemmas.List.Splits.{slice_split_first, slice_split_none}
use Rattle.std.proofs.lemmas.List.Sums.{prefix_len_is, prefix_len_passes, prefix_len-le-length, position_or_len_is}
use Rattle.std.proofs.lemmas.List.Sums.{fails_before_first, passes_at_first, AllPass-from_list_all}
use Rattle.std.proofs.lemmas.List.Sums.{list_all-from_AllPass}
use Rattle.std.proofs.lemmas.Bool.{ltb-true, ltb-false}
use Rattle.std.proofs.lemmas.Bool.Decides.{nat_tests}
use Rattle.worm_text.specs.declared.fault.Why.TheVariants.{Range}
use Rattle.worm_text.specs.Lines.{cut, space, next_field}
use Rattle.worm_text.specs.Numerals.{is_digit, is_numeral, leading_digits, value_of}
use Rattle.worm_text.specs.Reading.{number_at}
use Rattle.worm_text.proofs.FieldLaws.{numeral_parts}

abbrev count_of : List ℕ → ℕ
count_of bytes = prefix_len is_digit bytes

-- what stands behind the first n bytes
abbrev pub behind : ℕ → List ℕ → List ℕ
behind n bytes = take (length bytes - n) (drop n bytes)

length-behind : (n : ℕ) (bytes : List ℕ) → length (behind n bytes) ≡ length bytes - n
length-behind n bytes = ap length (take_rest bytes n) ∙ length-drop n bytes

first-behind : (n : ℕ) (bytes : List ℕ) → get_or (behind n bytes) 0 0 ≡ get_or bytes n 0
first-behind n bytes = rw (take_rest bytes n, get_or-drop n bytes 0 0, add-zero) refl

count_is : (bytes : List ℕ) (n : ℕ) → n ≡ length (leading_digits bytes) → n ≡ count_of bytes
count_is bytes n is = is ∙ length-prefix_len is_digit bytes

not_space : (bytes : List ℕ) (k d : ℕ) → k < count_of bytes → eqb (get_or bytes k d) space ≡ false
not_space bytes k d lt = let h = prefix_len_passes is_digit bytes k d lt in grind (arith, nat_tests)

-- ---- nothing or a space stands behind the digits at the front

pub cut-end : (bytes : List ℕ) (n : ℕ) → n ≡ length (leading_digits bytes) → length (behind n bytes) < 1
    → cut space bytes ≡ leading_digits bytes ∷ []
cut-end bytes n is none =
    let le : length bytes ≤ count_of bytes = omega (arith, count_is bytes n is, length-behind n bytes) in
    let all : leading_digits bytes ≡ bytes = take_all (count_of bytes) bytes le in
    rw all (slice_split_none (λ b. eqb b space) bytes (λ k d lt. not_space bytes k d (omega arith)))

pub cut-space : (bytes : List ℕ) (n : ℕ) → n ≡ length (leading_digits bytes) → 1 ≤ length (behind n bytes)
    → get_or (behind n bytes) 0 0 ≡ space
    → cut space bytes ≡ leading_digits bytes ∷ cut space (behind 1 (behind n bytes))
cut-space bytes n is some first =
    let same = count_is bytes n is in
    let lt : n < length bytes = omega (arith, length-behind n bytes) in
    let is_space : get_or bytes n 0 ≡ space = sym (first-behind n bytes) ∙ first in
    let place : position_or_len (λ b. eqb b space) bytes ≡ n = position_or_len_is (λ b. eqb b space) bytes n 0
    (omega arith) (λ k below. not_space bytes k 0 (omega arith)) (λ _. grind (arith, nat_tests)) in
    rw (take_rest (behind n bytes) 1, take_rest bytes n, drop-drop, same)
    (rw (place ∙ same) at (slice_split_first (λ b. eqb b space) bytes 0 (omega arith)))

-- ---- another byte does

-- the next field is what stands before the first space
next_field-cut : (bytes : List ℕ) → next_field (cut space bytes) ≡ take (position_or_len (λ b. eqb b space) bytes) bytes
next_field-cut bytes = found (ltb (position_or_len (λ b. eqb b space) bytes) (length bytes)) refl
  where
    found : (inside : Bool) → ltb (position_or_len (λ b. eqb b space) bytes) (length bytes) ≡ inside
        → next_field (cut space bytes) ≡ take (position_or_len (λ b. eqb b space) bytes) bytes
    found true h = ap next_field (slice_split_first (λ b. eqb b space) bytes 0 (ltb-true _ _ h))
    found false h = let le = ltb-false _ _ h in
        rw (slice_split_none (λ b. eqb b space) bytes
        (λ k d lt. fails_before_first (λ b. eqb b space) bytes k d (omega arith)))
        (sym (take_all (position_or_len (λ b. eqb b space) bytes) bytes le))

-- a numeral is the digits at the front, and nothing or a space stands behind them
numeral_is : (bytes : List ℕ) → is_numeral (next_field (cut space bytes)) ≡ true
    → (next_field (cut space bytes) ≡ leading_digits bytes)
    × (count_of bytes < length bytes → get_or bytes (count_of bytes) 0 ≡ space)
numeral_is bytes h =
    let end = position_or_len (λ b. eqb b space) bytes in
    let inside : end ≤ length bytes = prefix_len-le-length (λ b. not (eqb b space)) bytes in
    let digits : list_all is_digit (take end bytes) ≡ true =
    rw (next_field-cut bytes) at (numeral_parts (next_field (cut space bytes)) h).0 in
    let each : (k : ℕ) → k < end → is_digit (get_or bytes k 0) ≡ true = λ k lt.
    rw get_or-take at (AllPass-from_list_all is_digit (take end bytes) digits k 0
    (omega (arith, length-take-le end bytes inside))) in
    let is_space : end < length bytes → get_or bytes end 0 ≡ space = λ lt.
    let e = passes_at_first (λ b. eqb b space) bytes 0 lt in grind (arith, nat_tests) in
    let same : count_of bytes ≡ end = prefix_len_is is_digit bytes end 0 inside each
    (λ lt. let e = is_space lt in grind (arith, nat_tests)) in
    (next_field-cut bytes ∙ ap (λ k. take k bytes) (sym same), rw same is_space)

pub is_numeral-other : (bytes : List ℕ) (n : ℕ) → n ≡ length (leading_digits bytes) → 1 ≤ length (behind n bytes)
    → (get_or (behind n bytes) 0 0 ≡ space → ⊥) → is_numeral (next_field (cut space bytes)) ≡ false
is_numeral-other bytes n is some other = no (is_numeral (next_field (cut space bytes))) refl
  where
    no : (b : Bool) → is_numeral (next_field (cut space bytes)) ≡ b → b ≡ false
    no true h = absurd (other (first-behind n bytes ∙ rw (count_is bytes n is)
        ((numeral_is bytes h).1 (omega (arith, count_is bytes n is, length-behind n bytes)))))
    no false h = refl

-- ---- whether the digits at the front are a numeral

is_numeral-digits : (ds : List ℕ) → list_all is_digit ds ≡ true
    → is_numeral ds ≡ (eqb (length ds) 1 || (ltb 1 (length ds) && not (eqb (get_or ds 0 0) 48)))
is_numeral-digits [] h = refl
is_numeral-digits (d ∷ []) h = grind (arith, nat_tests)
is_numeral-digits (d ∷ e ∷ ds) h = grind (arith, nat_tests)

all_digits : (bytes : List ℕ) → list_all is_digit (leading_digits bytes) ≡ true
all_digits bytes = list_all-from_AllPass is_digit (leading_digits bytes)
    (λ k d inside. let lt : k < count_of bytes = omega (arith, length-prefix_len is_digit bytes) in
    rw get_or-take (prefix_len_passes is_digit bytes k d lt))

pub is_numeral-leading : (bytes : List ℕ) (n : ℕ) → n ≡ length (leading_digits bytes)
    → is_numeral (leading_digits bytes) ≡ (eqb n 1 || (ltb 1 n && not (eqb (get_or bytes 0 0) 48)))
is_numeral-leading bytes n is =
    let e = is_numeral-digits (leading_digits bytes) (all_digits bytes) in
    let first : 0 < n → get_or (leading_digits bytes) 0 0 ≡ get_or bytes 0 0 = λ lt.
    get_or-take (count_of bytes) bytes 0 0 (omega (arith, length-prefix_len is_digit bytes)) in
    grind (arith, nat_tests)

-- ---- the number that a numeral is

pub numeral-leading : (bytes : List ℕ) (fields : List (List ℕ)) → fields ≡ cut space bytes
    → true ≡ is_numeral (next_field fields) → is_numeral (leading_digits bytes) ≡ true
numeral-leading bytes fields are numeral =
    let digits : next_field fields ≡ leading_digits bytes = rw are (numeral_is bytes (rw are at (sym numeral))).0 in
    rw digits at (sym numeral)

pub number_at-cut : (low high : ℕ) (bytes : List ℕ) (fields left : List (List ℕ)) → fields ≡ cut space bytes
    → fields ≡ next_field fields ∷ left → true ≡ is_numeral (next_field fields)
    → number_at low high fields ≡ (let value = value_of (leading_digits bytes) in
    cond (leb low value && leb value high) (Ok (value, left)) (Err Range))
number_at-cut low high bytes fields left are one numeral =
    let digits : next_field fields ≡ leading_digits bytes = rw are (numeral_is bytes (rw are at (sym numeral))).0 in
    rw (one, digits, numeral-leading bytes fields are numeral) refl

pub value_between : (low high value : ℕ) → low ≤ value → value ≤ high → (leb low value && leb value high) ≡ true
value_between low high value above below = grind (arith, nat_tests)

pub value_outside : (low high value : ℕ) → (value < low) ⊎ (high < value) → (leb low value && leb value high) ≡ false
value_outside low high value out = grind (arith, nat_tests)
