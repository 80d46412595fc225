-- What stands at a place after a change at one place.
use Rattle.std.proofs.Common.{◌≡◌, ℕ, Bool, true, false, Option, Some, ◌⊎◌, inl, inr, ◌==◌, ◌&&◌, refl, arith, ap, sym}
use Rattle.worm_theory.specs.Network.{same, same3}

pub bool_cases : (b : Bool) → (b ≡ true) ⊎ (b ≡ false)
bool_cases true = inl refl
bool_cases false = inr refl

-- the test of one number, with what it means
pub number_cases : (k c : ℕ) → (((k == c) ≡ true) × (k ≡ c)) ⊎ (((k == c) ≡ false) × (k ≡ c → ⊥))
number_cases k c = grind arith

and_true : (x y : Bool) → x ≡ true → y ≡ true → (x && y) ≡ true
and_true x y p q = rw (p, q)

and_false_l : (x y : Bool) → x ≡ false → (x && y) ≡ false
and_false_l x y p = rw p

pub and_false_r : (x y : Bool) → y ≡ false → (x && y) ≡ false
and_false_r true y q = q
and_false_r false y q = refl

pub place_cases : (i j a b : ℕ) → ((same i j a b ≡ true) × (i ≡ a) × (j ≡ b))
    ⊎ ((same i j a b ≡ false) × (i ≡ a → j ≡ b → ⊥))
place_cases i j a b =
    elim (number_cases i a) [
      | inl p ↦ elim (number_cases j b) [
        | inl q ↦ inl (and_true (i == a) (j == b) p.0 q.0, p.1, q.1)
        | inr q ↦ inr (and_false_r (i == a) (j == b) q.0, λ _ e. q.1 e)
      ]
      | inr p ↦ inr (and_false_l (i == a) (j == b) p.0, λ e _. p.1 e)
    ]

pub same-true : (i j a b : ℕ) → i ≡ a → j ≡ b → same i j a b ≡ true
same-true i j a b p q = elim (place_cases i j a b) [ inl h ↦ h.0 | inr h ↦ absurd (h.1 p q) ]

pub same-false : (i j a b : ℕ) → (i ≡ a → j ≡ b → ⊥) → same i j a b ≡ false
same-false i j a b n = elim (place_cases i j a b) [ inl h ↦ absurd (n h.1 h.2) | inr h ↦ h.0 ]

pub place3_cases : (i j k a b c : ℕ) → ((same3 i j k a b c ≡ true) × (i ≡ a) × (j ≡ b) × (k ≡ c))
    ⊎ ((same3 i j k a b c ≡ false) × (i ≡ a → j ≡ b → k ≡ c → ⊥))
place3_cases i j k a b c =
    elim (place_cases i j a b) [
      | inl p ↦ elim (number_cases k c) [
        | inl q ↦ inl (and_true (same i j a b) (k == c) p.0 q.0, p.1, p.2, q.1)
        | inr q ↦ inr (and_false_r (same i j a b) (k == c) q.0, λ _ _ e. q.1 e)
      ]
      | inr p ↦ inr (and_false_l (same i j a b) (k == c) p.0, λ e1 e2 _. p.1 e1 e2)
    ]

pub same3-true : (i j k a b c : ℕ) → i ≡ a → j ≡ b → k ≡ c → same3 i j k a b c ≡ true
same3-true i j k a b c p q r = elim (place3_cases i j k a b c) [ inl h ↦ h.0 | inr h ↦ absurd (h.1 p q r) ]

pub some_pair : (a b c d : ℕ) → ◌≡◌ {A = Option (ℕ × ℕ)} (Some (a, b)) (Some (c, d)) → (c ≡ a) × (d ≡ b)
some_pair a b c d e =
    let pair : ◌≡◌ {A = ℕ × ℕ} (a, b) (c, d) = cc in
    (sym (ap (λ (q : ℕ × ℕ). q.0) pair), sym (ap (λ (q : ℕ × ℕ). q.1) pair))
