-- From each place, how many places on the next of the same source stands, after one more source.
use Rattle.std.proofs.Common.{◌≡◌, ◌≢◌, inl, inr, ℕ, ◌+◌, ◌-◌, ◌<◌, ◌≤◌, List, [], ◌∷◌, ◌++◌, length, get_or, set}
use Rattle.std.proofs.Common.{arith, ap, sym, subst, ◌∙◌, length-append, length-set}
use Rattle.std.proofs.Math.Seq.{get_or-append_seam}
use Rattle.std.proofs.lemmas.Bool.{cases_lt}
use Rattle.std.proofs.lemmas.List.{get_or-set_other, get_or-set_same, get_or_append_left}
use Rattle.worm_script.specs.Script.{AreGaps, AreLasts, IsPlaceOfNext}
use Rattle.worm_script.proofs.NextOfSource.{number_cases}

-- the sources and the gaps after one more: the last of the same source, if any, leads to the new one
pub record IsLinked (sources gaps : List ℕ) (x last : ℕ) (after linked : List ℕ) : Type 0 where
  pub long : length after ≡ length sources + 1
  pub all : length linked ≡ length sources + 1
  pub before : (k : ℕ) → k < length sources → get_or after k 0 ≡ get_or sources k 0
  pub new : get_or after (length sources) 0 ≡ x
  pub gap : (i : ℕ) → i < length sources → i + 1 ≢ last → get_or linked i 0 ≡ get_or gaps i 0
  pub new_gap : get_or linked (length sources) 0 ≡ 0
  pub link : (i : ℕ) → i + 1 ≡ last → i + get_or linked i 0 ≡ length sources

module _ (sources gaps lasts after linked : List ℕ) (x : ℕ) (x_in : x < 256) (are : AreGaps sources gaps)
    (inner : (i : ℕ) → i < length sources → i + get_or gaps i 0 < length sources) (lasts_are : AreLasts sources lasts)
    (is : IsLinked sources gaps x (get_or lasts x 0) after linked) where
  -- the last one of the new source is at most the last of all
  last_there : (i : ℕ) → i + 1 ≡ get_or lasts x 0 → (i < length sources) × (get_or sources i 0 ≡ x)
  last_there i at =
      let within = lasts_are.within x x_in in
      let before : get_or lasts x 0 - 1 ≡ i = omega arith in
      (omega arith, sym (ap (λ (k : ℕ). get_or sources k 0) before) ∙ lasts_are.asks x x_in (omega arith))

  -- what was next stays next
  next_stays : (y from i : ℕ) → i < length sources → IsPlaceOfNext y sources from i → IsPlaceOfNext y after from i
  next_stays y from i below place = record {
    asks = λ _. is.before i below ∙ place.asks below;
    none_before = λ k above before _ same.
        place.none_before k above before (omega arith) (sym (is.before k (omega arith)) ∙ same);
  }

  -- none was next, and the new one is not
  none_stays : (y from : ℕ) → y ≢ x → IsPlaceOfNext y sources from (length sources)
      → IsPlaceOfNext y after from (length after)
  none_stays y from away place =
      let long = is.long in
      record {
        asks = λ there. absurd (omega arith);
        none_before = λ k above _ there same. elim (number_cases k (length sources)) [
          | inl at ↦ away (sym same ∙ ap (λ (k : ℕ). get_or after k 0) at.1 ∙ is.new)
          | inr other ↦
              let apart = other.1 in
              let below : k < length sources = grind arith in
              place.none_before k above below below (sym (is.before k below) ∙ same)
        ];
      }

  -- a place with none behind it is of another source, or else the last of the new one's
  other_source : (i : ℕ) → i < length sources → i + 1 ≢ get_or lasts x 0
      → IsPlaceOfNext (get_or sources i 0) sources (i + 1) (length sources) → get_or sources i 0 ≢ x
  other_source i below apart place same = elim (cases_lt i (get_or lasts x 0)) [
    | inl ahead ↦
        let there = last_there (get_or lasts x 0 - 1) (omega arith) in
        place.none_before (get_or lasts x 0 - 1) (grind arith) there.0 there.0 (there.1 ∙ sym same)
    | inr behind ↦ lasts_are.none_behind x i x_in behind below same
  ]

  -- the new one is next to the last
  linked_next : (i : ℕ) → i + 1 ≡ get_or lasts x 0 → IsPlaceOfNext x after (i + 1) (length sources)
  linked_next i at = record {
    asks = λ _. is.new;
    none_before = λ k above before _ same.
        lasts_are.none_behind x k x_in (omega arith) before (sym (is.before k before) ∙ same);
  }

  -- the new one has no gap
  not_new : (i : ℕ) → i < length after → 0 < get_or linked i 0 → i < length sources
  not_new i below some = elim (number_cases i (length sources)) [
    | inl at ↦
        let none = ap (λ (k : ℕ). get_or linked k 0) at.1 ∙ is.new_gap in
        absurd (omega arith)
    | inr other ↦ let long = is.long in let apart = other.1 in grind arith
  ]

  -- a place has no gap after: it had none before, and is of another source, or it is the new one
  last_linked : (i : ℕ) → i < length after → get_or linked i 0 ≡ 0
      → IsPlaceOfNext (get_or after i 0) after (i + 1) (length after)
  last_linked i below none = elim (number_cases i (length sources)) [
    | inl at ↦
        let long = is.long in
        let end = at.1 in
        record { asks = λ there. absurd (omega arith); none_before = λ k above before there. absurd (omega arith) }
    | inr other ↦
        let long = is.long in
        let apart = other.1 in
        let before : i < length sources = grind arith in
        let not_last : i + 1 ≢ get_or lasts x 0 = λ at. let linked_is = is.link i at in absurd (omega arith) in
        let place = are.last i before (sym (is.gap i before not_last) ∙ none) in
        subst (λ (y : ℕ). IsPlaceOfNext y after (i + 1) (length after)) (sym (is.before i before))
        (none_stays (get_or sources i 0) (i + 1) (other_source i before not_last place) place)
  ]

  -- or it has one: that of before, or that of the last one to the new one
  more_linked : (i : ℕ) → i < length after → 0 < get_or linked i 0
      → IsPlaceOfNext (get_or after i 0) after (i + 1) (i + get_or linked i 0)
  more_linked i below some = elim (number_cases (i + 1) (get_or lasts x 0)) [
    | inl at ↦
        let last = last_there i at.1 in
        subst (λ (y : ℕ). IsPlaceOfNext y after (i + 1) (i + get_or linked i 0))
        (sym (is.before i last.0 ∙ last.1))
        (subst (λ (k : ℕ). IsPlaceOfNext x after (i + 1) k) (sym (is.link i at.1)) (linked_next i at.1))
    | inr other ↦
        let before = not_new i below some in
        let gap = is.gap i before other.1 in
        subst (λ (y : ℕ). IsPlaceOfNext y after (i + 1) (i + get_or linked i 0)) (sym (is.before i before))
        (subst (λ (g : ℕ). IsPlaceOfNext (get_or sources i 0) after (i + 1) (i + g)) (sym gap)
        (next_stays (get_or sources i 0) (i + 1) (i + get_or gaps i 0) (inner i before)
        (are.more i before (omega arith))))
  ]

  pub gaps_linked : AreGaps after linked
  gaps_linked = record { all = is.all ∙ sym is.long; last = last_linked; more = more_linked }

  pub inner_linked : (i : ℕ) → i < length after → i + get_or linked i 0 < length after
  inner_linked i below = elim (number_cases (i + 1) (get_or lasts x 0)) [
    | inl at ↦ let long = is.long in let link = is.link i at.1 in omega arith
    | inr other ↦ elim (number_cases i (length sources)) [
      | inl end ↦
          let long = is.long in
          let none = ap (λ (k : ℕ). get_or linked k 0) end.1 ∙ is.new_gap in
          omega arith
      | inr away ↦
          let long = is.long in
          let apart = away.1 in
          let before : i < length sources = grind arith in
          let gap = is.gap i before other.1 in
          let within = inner i before in
          omega arith
    ]
  ]

  -- the last one of the new source is the new one
  pub lasts_linked : length lasts ≡ 256 → AreLasts after (set lasts x (length sources + 1))
  lasts_linked many =
      let long = is.long in
      let there : x < length lasts = omega arith in
      let at_new : (y : ℕ) → y ≡ x → get_or (set lasts x (length sources + 1)) y 0 ≡ length sources + 1 = λ y at.
      rw at (get_or-set_same lasts x (length sources + 1) 0 there) in
      let at_other : (y : ℕ) → y ≢ x → get_or (set lasts x (length sources + 1)) y 0 ≡ get_or lasts y 0 = λ y away.
      get_or-set_other lasts x y (length sources + 1) 0 away in
      record {
        within = λ y y_in. elim (number_cases y x) [
          | inl at ↦ let last = at_new y at.1 in omega arith
          | inr away ↦ let last = at_other y away.1 in let within = lasts_are.within y y_in in omega arith
        ];
        asks = λ y y_in some. elim (number_cases y x) [
          | inl at ↦
              let place : get_or (set lasts x (length sources + 1)) y 0 - 1 ≡ length sources =
              let last = at_new y at.1 in omega arith in
              ap (λ (k : ℕ). get_or after k 0) place ∙ is.new ∙ sym at.1
          | inr away ↦
              let last = at_other y away.1 in
              let within = lasts_are.within y y_in in
              let below : get_or lasts y 0 - 1 < length sources = omega arith in
              ap (λ (k : ℕ). get_or after (k - 1) 0) last ∙ is.before (get_or lasts y 0 - 1) below
              ∙ lasts_are.asks y y_in (omega arith)
        ];
        none_behind = λ y k y_in above below same. elim (number_cases y x) [
          | inl at ↦ let last = at_new y at.1 in absurd (omega arith)
          | inr away ↦ elim (number_cases k (length sources)) [
            | inl end ↦ away.1 (sym same ∙ ap (λ (k : ℕ). get_or after k 0) end.1 ∙ is.new)
            | inr other ↦
                let last = at_other y away.1 in
                let apart = other.1 in
                let before : k < length sources = grind arith in
                lasts_are.none_behind y k y_in (omega arith) before (sym (is.before k before) ∙ same)
          ]
        ];
      }

-- so it is when a 0 stands beside the new one, and the last of its source, if any, leads to it

module _ (sources gaps : List ℕ) (x : ℕ) (many : length gaps ≡ length sources) where
  long_after : length (sources ++ x ∷ []) ≡ length sources + 1
  long_after = length-append sources (x ∷ [])

  long_start : length (gaps ++ 0 ∷ []) ≡ length sources + 1
  long_start = length-append gaps (0 ∷ []) ∙ ap (λ (n : ℕ). n + 1) many

  start_at : (i : ℕ) → i < length sources → get_or (gaps ++ 0 ∷ []) i 0 ≡ get_or gaps i 0
  start_at i below = get_or_append_left gaps (0 ∷ []) 0 i (omega arith)

  start_end : get_or (gaps ++ 0 ∷ []) (length sources) 0 ≡ 0
  start_end = ap (λ (n : ℕ). get_or (gaps ++ 0 ∷ []) n 0) (sym many) ∙ get_or-append_seam gaps 0 [] 0

  alone_at_end : IsLinked sources gaps x 0 (sources ++ x ∷ []) (gaps ++ 0 ∷ [])
  alone_at_end = record {
    long = long_after;
    all = long_start;
    before = λ k below. get_or_append_left sources (x ∷ []) 0 k below;
    new = get_or-append_seam sources x [] 0;
    gap = λ i below _. start_at i below;
    new_gap = start_end;
    link = λ i at. absurd (omega arith);
  }

  led_at_end : (last : ℕ) → 0 < last → last ≤ length sources → IsLinked sources gaps x last (sources ++ x ∷ [])
      (set (gaps ++ 0 ∷ []) (last - 1) (length (gaps ++ 0 ∷ []) - last))
  led_at_end last some within =
      let start = gaps ++ 0 ∷ [] in
      let gap = length start - last in
      let long = long_start in
      record {
        long = long_after;
        all = length-set start (last - 1) gap ∙ long_start;
        before = λ k below. get_or_append_left sources (x ∷ []) 0 k below;
        new = get_or-append_seam sources x [] 0;
        gap = λ i below away.
            get_or-set_other start (last - 1) i gap 0 (λ at. away (omega arith)) ∙ start_at i below;
        new_gap = get_or-set_other start (last - 1) (length sources) gap 0 (λ at. omega arith) ∙ start_end;
        link = λ i at.
            let place : last - 1 ≡ i = omega arith in
            let led = ap (λ (k : ℕ). get_or (set start k gap) i 0) place
            ∙ get_or-set_same start i gap 0 (omega arith) in
            omega arith;
      }

  pub linked_at_end : (linked : List ℕ) (last : ℕ) → last ≤ length sources
      → (last ≡ 0 → linked ≡ gaps ++ 0 ∷ [])
      → (0 < last → linked ≡ set (gaps ++ 0 ∷ []) (last - 1) (length (gaps ++ 0 ∷ []) - last))
      → IsLinked sources gaps x last (sources ++ x ∷ []) linked
  linked_at_end linked last within none some = elim (cases_lt 0 last) [
    | inl there ↦
        subst (λ (gs : List ℕ). IsLinked sources gaps x last (sources ++ x ∷ []) gs) (sym (some there))
        (led_at_end last there within)
    | inr not ↦
        let zero_last : last ≡ 0 = omega arith in
        subst (λ (gs : List ℕ). IsLinked sources gaps x last (sources ++ x ∷ []) gs) (sym (none zero_last))
        (subst (λ (n : ℕ). IsLinked sources gaps x n (sources ++ x ∷ []) (gaps ++ 0 ∷ [])) (sym zero_last) alone_at_end)
  ]
