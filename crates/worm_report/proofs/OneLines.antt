-- No row's line has a line feed within it.
use Rattle.std.proofs.Common.{◌≡◌, ◌==◌, ◌||◌, ℕ, zero, suc, ◌+◌, ◌-◌, ◌/◌, ◌%◌, Bool, false, inl, inr, List, [], ◌∷◌}
use Rattle.std.proofs.Common.{refl, ◌∙◌, arith}
use Rattle.std.specs.Prelude.{codes, decimal, nat_lt}
use Rattle.std.specs.Fmt.{digit_glyph, digits, digits_onto}
use Rattle.std.specs.List.{join_with_byte, list_any}
use Rattle.std.proofs.lemmas.Bool.{ne_eqb}
use Rattle.std.proofs.lemmas.List.Folds.{list_any-append}
use Rattle.worm_flit.specs.declared.Flit.{Flit}
use Rattle.worm_flit.specs.declared.Kind.{Kind}
use Rattle.worm_flit.specs.declared.Kind.TheVariants.{Head, Body, Tail, Single, Close}
use Rattle.worm_core.specs.declared.view.Place.{Place}
use Rattle.worm_core.specs.declared.view.Place.TheVariants.{Source, Buffer, Link}
use Rattle.worm_theory.proofs.Places.{bool_cases}
use Rattle.worm_report.specs.declared.row.Row.{Row}
use Rattle.worm_report.specs.declared.row.Row.TheVariants.{Header, Options, Stopped, Delivered, Underway, NotOffered}
use Rattle.worm_report.specs.declared.row.Row.TheVariants.{Total}
use Rattle.worm_report.specs.Rows.{newline, space, load_fields, place_fields, row_fields}

abbrev pub breaks : ℕ → Bool
breaks b = b == newline

-- ---- numbers

glyph_one : (n : ℕ) (acc : List ℕ) → list_any breaks acc ≡ false
    → list_any breaks (digit_glyph false (n % 10) ∷ acc) ≡ false
glyph_one n acc one = elim (bool_cases (nat_lt (n % 10) 10)) [
  | inl low ↦ rw (low, ne_eqb (48 + n % 10) 10 (λ e. let is : 48 + n % 10 ≡ 10 = e in absurd (omega arith))) one
  | inr high ↦ rw (high, ne_eqb (87 + n % 10) 10 (λ e. let is : 87 + n % 10 ≡ 10 = e in absurd (omega arith))) one
]

digits_one : (k n : ℕ) (acc : List ℕ) → list_any breaks acc ≡ false
    → list_any breaks (digits_onto k 10 false n acc) ≡ false
digits_one zero n acc one = one
digits_one (suc k) n acc one = elim (bool_cases (n / 10 == 0)) [
  | inl last ↦ rw last (glyph_one n acc one)
  | inr more ↦ rw more (digits_one k (n / 10) (digit_glyph false (n % 10) ∷ acc) (glyph_one n acc one))
]

number_one : (n : ℕ) → list_any breaks (decimal n) ≡ false
unfolding digits
number_one n = digits_one 64 n [] refl

-- ---- fields

abbrev AreOneLine : List (List ℕ) → Type 0
AreOneLine [] = Unit {0}
AreOneLine (f ∷ fs) = (list_any breaks f ≡ false) × AreOneLine fs

neither : (a b : Bool) → a ≡ false → b ≡ false → (a || b) ≡ false
neither a b p q = rw (p, q) refl

joined_one : (fields : List (List ℕ)) → AreOneLine fields → list_any breaks (join_with_byte space fields) ≡ false
joined_one [] all = refl
joined_one (f ∷ []) all = all.0
joined_one (f ∷ g ∷ fs) all =
    list_any-append breaks f (space ∷ join_with_byte space (g ∷ fs))
    ∙ neither (list_any breaks f) (list_any breaks (join_with_byte space (g ∷ fs))) all.0
    (joined_one (g ∷ fs) all.1)

word_one : (flit : Flit)
    → AreOneLine (codes "flit" ∷ decimal flit.index ∷ codes "word" ∷ decimal flit.word ∷ [])
word_one flit = (refl, (number_one flit.index, (refl, (number_one flit.word, tt))))

load_one : (kind : Kind) (flit : Flit) → AreOneLine (load_fields kind flit)
load_one Close flit = (refl, tt)
load_one Head flit = word_one flit
load_one Body flit = word_one flit
load_one Tail flit = word_one flit
load_one Single flit = word_one flit

place_one : (place : Place) → AreOneLine (place_fields place)
place_one Source = (refl, tt)
place_one (Buffer node port vc) = (refl, (number_one node, (number_one port, (number_one vc, tt))))
place_one (Link node port vc) = (refl, (number_one node, (number_one port, (number_one vc, tt))))

fields_one : (row : Row) → AreOneLine (row_fields row)
fields_one Header = (refl, (number_one 1, tt))
fields_one (Options turns workers drain) =
    (refl, (number_one turns, (refl, (number_one workers, (refl, (number_one drain, tt))))))
fields_one (Stopped worker turn) = (refl, (refl, (number_one worker, (refl, (number_one turn, tt)))))
fields_one (Delivered node flit) = (
  refl,
  (
    number_one node,
    (
      refl,
      (
        number_one flit.lane.src,
        (
          refl,
          (
            number_one flit.lane.class,
            (
              refl,
              (number_one flit.packet, load_one flit.kind flit),
            ),
          ),
        ),
      ),
    ),
  ),
)
fields_one (Underway lane held) = (
  refl,
  (
    number_one lane.src,
    (
      number_one lane.dst,
      (
        refl,
        (
          number_one held.flit.lane.class,
          (
            refl,
            (number_one held.flit.packet, (refl, (number_one held.flit.index, place_one held.place))),
          ),
        ),
      ),
    ),
  ),
)
fields_one (NotOffered entries) = (refl, (refl, (number_one entries, tt)))
fields_one (Total injected delivered) = (
  refl,
  (
    refl,
    (
      number_one injected,
      (
        refl,
        (
          number_one delivered,
          (
            refl,
            (number_one (injected - delivered), tt),
          ),
        ),
      ),
    ),
  ),
)

abbrev pub row_line : Row → List ℕ
row_line row = join_with_byte space (row_fields row)

pub line_one : (row : Row) → list_any breaks (row_line row) ≡ false
line_one row = joined_one (row_fields row) (fields_one row)
