-- The cut of a lane: moving the front of one place to the end of the next one nearer the sink keeps the whole list, and
-- raises one cut.
use Rattle.std.proofs.Common.{ℕ, suc, ◌≡◌, ◌≢◌, ◌+◌, List, [], ◌∷◌, ◌++◌, length, map, arith, refl, ap, sym, ◌∙◌}
use Rattle.std.proofs.Common.{append_assoc, length-append}
use Rattle.std.specs.Prelude.{flat_map}
use Rattle.std.proofs.lemmas.List.{map-append, append-nil}
use Rattle.std.proofs.lemmas.List.Concat.{flat_map-append}
use Rattle.worm_route.specs.Distinct.{IsNotIn, IsDistinct}
use Rattle.worm_route.specs.LaneMachine.{RisesTo, IsMachine, Raises, Appends, cuts_from, machine_of, IsMoved, IsTaken}
use Rattle.worm_route.specs.LaneMachine.{IsPut}
use Rattle.worm_route.proofs.NothingTwice.{not_in_front, second_not_in_front, distinct_back}

-- places that agree hold the same
module _ {P F : Type 0} (old new : P → List F) where
  abbrev pub Agrees : List P → Type 0
  Agrees [] = Unit {0}
  Agrees (p ∷ ps) = (new p ≡ old p) × Agrees ps

  pub flat_map-agrees : (ps : List P) → Agrees ps → flat_map new ps ≡ flat_map old ps
  flat_map-agrees [] h = refl
  flat_map-agrees (p ∷ ps) h = rw (h.0, flat_map-agrees ps h.1) refl

  pub lengths-agree : (ps : List P) → Agrees ps → map (λ p. length (new p)) ps ≡ map (λ p. length (old p)) ps
  lengths-agree [] h = refl
  lengths-agree (p ∷ ps) h = rw (h.0, lengths-agree ps h.1) refl

  pub agrees_apart : (b : P) (ps : List P) → ((p : P) → p ≢ b → new p ≡ old p) → IsNotIn b ps → Agrees ps
  agrees_apart b [] h n = tt
  agrees_apart b (p ∷ ps) h n = (h p (λ e. n.0 (sym e)), agrees_apart b ps h n.1)

  pub agrees_apart_two : (a b : P) (ps : List P) → ((p : P) → p ≢ a → p ≢ b → new p ≡ old p) → IsNotIn a ps
      → IsNotIn b ps → Agrees ps
  agrees_apart_two a b [] h m n = tt
  agrees_apart_two a b (p ∷ ps) h m n =
      (h p (λ e. m.0 (sym e)) (λ e. n.0 (sym e)), agrees_apart_two a b ps h m.1 n.1)

-- cuts over joined pieces
cuts_begun : ℕ → List ℕ → List ℕ
cuts_begun c [] = c ∷ []
cuts_begun c (n ∷ ns) = c ∷ cuts_begun (c + n) ns

cut_after : ℕ → List ℕ → ℕ
cut_after c [] = c
cut_after c (n ∷ ns) = cut_after (c + n) ns

cuts_later : ℕ → List ℕ → List ℕ
cuts_later c [] = []
cuts_later c (n ∷ ns) = cuts_from (c + n) ns

cuts_from_is : (c : ℕ) (ns : List ℕ) → cuts_from c ns ≡ c ∷ cuts_later c ns
unfolding cuts_later
cuts_from_is c [] = refl
cuts_from_is c (n ∷ ns) = refl

cuts_from-append : (c n : ℕ) (xs ys : List ℕ)
    → cuts_from c (xs ++ n ∷ ys) ≡ cuts_begun c xs ++ cuts_from (cut_after c xs + n) ys
unfolding cuts_begun cut_after
cuts_from-append c n [] ys = refl
cuts_from-append c n (x ∷ xs) ys = ap (λ r. c ∷ r) (cuts_from-append (c + x) n xs ys)

-- the machine of a lane is one
module _ {P F : Type 0} (held : P → List F) where
  cuts_rise : (total c : ℕ) (ps : List P) → c + length (flat_map held ps) ≡ total
      → RisesTo total (cuts_from c (map (λ p. length (held p)) ps))
  cuts_rise total c [] e = omega arith
  cuts_rise total c (p ∷ []) e = (omega arith, omega (arith, length-append (held p) []))
  cuts_rise total c (p ∷ q ∷ ps) e = (
    omega arith,
    cuts_rise total (c + length (held p)) (q ∷ ps)
        (omega (arith, length-append (held p) (flat_map held (q ∷ ps)))),
  )

  pub IsMachine-of : (delivered : List F) (ps : List P) → IsMachine (machine_of delivered held ps)
  IsMachine-of delivered ps =
      cuts_rise (length (delivered ++ flat_map held ps)) (length delivered) ps
      (sym (length-append delivered (flat_map held ps)))

-- A step between two places that stand next to each other.
module _ {P F : Type 0} (old new : P → List F) (delivered : List F) where
  pub items-moved : (front back : List P) (a b : P) (f : F) → IsDistinct (front ++ a ∷ b ∷ back) → IsMoved old new a b f
      → flat_map new (front ++ a ∷ b ∷ back) ≡ flat_map old (front ++ a ∷ b ∷ back)
  items-moved front back a b f d m =
      let in_front = flat_map-agrees old new front
      (agrees_apart_two old new a b front m.others (not_in_front front (b ∷ back) a d)
      (second_not_in_front front back a b d)) in
      let tail = distinct_back front (a ∷ b ∷ back) d in
      let in_back = flat_map-agrees old new back (agrees_apart_two old new a b back m.others tail.0.1 tail.1.0) in
      rw (
        flat_map-append new front (a ∷ b ∷ back),
        flat_map-append old front (a ∷ b ∷ back),
        in_front,
        in_back,
        m.put,
        m.taken,
      )
      (ap (λ r. flat_map old front ++ r) (append_assoc (old a) (f ∷ []) (new b ++ flat_map old back)))

  pub Raises-moved : (front back : List P) (a b : P) (f : F) → IsDistinct (front ++ a ∷ b ∷ back)
      → IsMoved old new a b f → Raises (machine_of delivered old (front ++ a ∷ b ∷ back))
      (machine_of delivered new (front ++ a ∷ b ∷ back))
  Raises-moved front back a b f d m =
      let c = length delivered in
      let in_front = lengths-agree old new front
      (agrees_apart_two old new a b front m.others (not_in_front front (b ∷ back) a d)
      (second_not_in_front front back a b d)) in
      let tail = distinct_back front (a ∷ b ∷ back) d in
      let in_back = lengths-agree old new back (agrees_apart_two old new a b back m.others tail.0.1 tail.1.0) in
      let xs = map (λ p. length (old p)) front in
      let ys = map (λ p. length (old p)) back in
      let low = cut_after c xs + length (old a) in
      let high = low + length (old b) in
      let put : length (new a) ≡ length (old a) + 1 = ap length m.put ∙ length-append (old a) (f ∷ []) in
      let taken : length (old b) ≡ length (new b) + 1 = ap length m.taken ∙ omega arith in
      let up : cut_after c xs + (length (old a) + 1) ≡ suc low = omega arith in
      let same : suc low + length (new b) ≡ high = omega arith in
      record {
        items = ap (λ r. delivered ++ r) (items-moved front back a b f d m);
        front = cuts_begun c xs;
        low = low;
        high = high;
        back = cuts_later high ys;
        below = omega arith;
        before = ap (cuts_from c) (map-append (λ p. length (old p)) front (a ∷ b ∷ back))
            ∙ (cuts_from-append c (length (old a)) xs (length (old b) ∷ ys)
            ∙ ap (λ r. cuts_begun c xs ++ low ∷ r) (cuts_from_is high ys));
        after = ap (cuts_from c) (map-append (λ p. length (new p)) front (a ∷ b ∷ back))
            ∙ (rw (in_front, in_back, put) (cuts_from-append c (length (old a) + 1) xs (length (new b) ∷ ys) ∙ rw (
              up,
              same,
            ) (ap (λ r. cuts_begun c xs ++ suc low ∷ r) (cuts_from_is high ys))));
      }

  -- a flit leaves the place nearest the sink for the delivered ones
  pub Raises-delivered : (back : List P) (b : P) (f : F) → IsDistinct (b ∷ back) → IsTaken old new b f
      → Raises (machine_of delivered old (b ∷ back)) (machine_of (delivered ++ f ∷ []) new (b ∷ back))
  Raises-delivered back b f d m =
      let c = length delivered in
      let in_back = flat_map-agrees old new back (agrees_apart old new b back m.others d.0) in
      let lengths = lengths-agree old new back (agrees_apart old new b back m.others d.0) in
      let ys = map (λ p. length (old p)) back in
      let high = c + length (old b) in
      let one : length (delivered ++ f ∷ []) ≡ suc c = length-append delivered (f ∷ []) ∙ omega arith in
      let taken : length (old b) ≡ length (new b) + 1 = ap length m.taken ∙ omega arith in
      let same : suc c + length (new b) ≡ high = omega arith in
      record {
        items = rw (in_back, m.taken) (append_assoc delivered (f ∷ []) (new b ++ flat_map old back));
        front = [];
        low = c;
        high = high;
        back = cuts_later high ys;
        below = omega arith;
        before = ap (λ r. c ∷ r) (cuts_from_is high ys);
        after = rw (lengths, one, same) (ap (λ r. suc c ∷ r) (cuts_from_is high ys));
      }

  -- the place farthest from the sink grows at its end
  pub Appends-put : (front : List P) (b : P) (added : List F) → IsDistinct (front ++ b ∷ []) → IsPut old new b added
      → Appends (machine_of delivered old (front ++ b ∷ [])) (machine_of delivered new (front ++ b ∷ [])) added
  Appends-put front b added d m =
      let c = length delivered in
      let apart = agrees_apart old new b front m.others (not_in_front front [] b d) in
      let in_front = flat_map-agrees old new front apart in
      let lengths = lengths-agree old new front apart in
      let xs = map (λ p. length (old p)) front in
      let put : length (new b) ≡ length (old b) + length added = ap length m.put ∙ length-append (old b) added in
      let more : cut_after c xs + (length (old b) + length added) ≡ cut_after c xs + length (old b) + length added =
      omega arith in
      record {
        items = rw (
          flat_map-append new front (b ∷ []),
          flat_map-append old front (b ∷ []),
          in_front,
          m.put,
          append-nil,
          append-nil,
        ) (simp append_assoc);
        front = cuts_begun c xs;
        total = cut_after c xs + length (old b);
        before = ap (cuts_from c) (map-append (λ p. length (old p)) front (b ∷ []))
            ∙ cuts_from-append c (length (old b)) xs [];
        after = ap (cuts_from c) (map-append (λ p. length (new p)) front (b ∷ [])) ∙ rw (
          lengths,
          put,
        ) (cuts_from-append c (length (old b) + length added) xs [] ∙ rw more refl);
      }
