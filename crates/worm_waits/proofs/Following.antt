-- The packets of a chain, one after another.
use Rattle.std.proofs.Common.{◌≡◌, ◌<◌, ◌≤◌, ◌+◌, ◌-◌, ℕ, zero, suc, List, [], ◌∷◌, ◌++◌, Option, Some, None, length}
use Rattle.std.proofs.Common.{flat_map, append-nil, append_assoc, refl, sym, ap, ◌∙◌, arith}
use Rattle.worm_rows.specs.declared.rows.PacketId.{PacketId}
use Rattle.worm_waits.specs.declared.waits.Wait.{Wait}
use Rattle.worm_waits.specs.Chains.{follow, next}

module _ (waits : List Wait) where
  one_step : (n i : ℕ) (packet : PacketId) → i < n
      → follow waits (n - i) (Some packet) ≡ packet ∷ follow waits (n - (i + 1)) (next waits packet)
  one_step n i packet lt =
      let e : n - i ≡ suc (n - (i + 1)) = omega arith in ap (λ (k : ℕ). follow waits k (Some packet)) e

  none_left : (k : ℕ) → follow waits k None ≡ []
  none_left zero = refl
  none_left (suc k) = refl

  at_end : (n i : ℕ) (at : Option PacketId) → n ≤ i → follow waits (n - i) at ≡ []
  at_end n i at le = let e : n - i ≡ 0 = omega arith in ap (λ (k : ℕ). follow waits k at) e

  -- ---- counted

  pub counted_some : (n i count more total : ℕ) (packet : PacketId) (at after : Option PacketId) → i < n
      → at ≡ Some packet → after ≡ next waits packet → more ≡ count + 1
      → count + length (follow waits (n - i) at) ≡ total → more + length (follow waits (n - (i + 1)) after) ≡ total
  counted_some n i count more total packet at after lt is goes one before =
      let here : length (follow waits (n - i) at) ≡ length (follow waits (n - i) (Some packet)) =
      ap (λ (a : Option PacketId). length (follow waits (n - i) a)) is in
      let step : length (follow waits (n - i) (Some packet))
      ≡ suc (length (follow waits (n - (i + 1)) (next waits packet))) = ap length (one_step n i packet lt) in
      let there : length (follow waits (n - (i + 1)) after) ≡ length (follow waits (n - (i + 1)) (next waits packet)) =
      ap (λ (a : Option PacketId). length (follow waits (n - (i + 1)) a)) goes in
      omega (arith, here, step, there, one, before)

  pub counted_none : (n i count more total : ℕ) (at after : Option PacketId) → at ≡ None → after ≡ None
      → more ≡ count → count + length (follow waits (n - i) at) ≡ total
      → more + length (follow waits (n - (i + 1)) after) ≡ total
  counted_none n i count more total at after is stays same before =
      let here : length (follow waits (n - i) at) ≡ 0 =
      ap (λ (a : Option PacketId). length (follow waits (n - i) a)) is ∙ ap length (none_left (n - i)) in
      let there : length (follow waits (n - (i + 1)) after) ≡ 0 =
      ap (λ (a : Option PacketId). length (follow waits (n - (i + 1)) a)) stays
      ∙ ap length (none_left (n - (i + 1))) in
      omega (arith, here, there, same, before)

  pub counted_all : (n i count total : ℕ) (at : Option PacketId) → n ≤ i
      → count + length (follow waits (n - i) at) ≡ total → count ≡ total
  counted_all n i count total at le before =
      let none : length (follow waits (n - i) at) ≡ 0 = ap length (at_end n i at le) in omega (arith, none, before)

  -- ---- written

  module _ {A : Type 0} (f : PacketId → List A) where
    pub written_some : (n i : ℕ) (old new total : List A) (packet : PacketId) (at after : Option PacketId) → i < n
        → at ≡ Some packet → after ≡ next waits packet → new ≡ old ++ f packet
        → old ++ flat_map f (follow waits (n - i) at) ≡ total
        → new ++ flat_map f (follow waits (n - (i + 1)) after) ≡ total
    written_some n i old new total packet at after lt is goes added before =
        let rest = flat_map f (follow waits (n - (i + 1)) (next waits packet)) in
        ap (λ (a : Option PacketId). new ++ flat_map f (follow waits (n - (i + 1)) a)) goes
        ∙ ap (λ (l : List A). l ++ rest) added ∙ append_assoc old (f packet) rest
        ∙ ap (λ (l : List PacketId). old ++ flat_map f l) (sym (one_step n i packet lt))
        ∙ ap (λ (a : Option PacketId). old ++ flat_map f (follow waits (n - i) a)) (sym is) ∙ before

    pub written_none : (n i : ℕ) (old new total : List A) (at after : Option PacketId) → at ≡ None → after ≡ None
        → new ≡ old → old ++ flat_map f (follow waits (n - i) at) ≡ total
        → new ++ flat_map f (follow waits (n - (i + 1)) after) ≡ total
    written_none n i old new total at after is stays same before =
        ap (λ (a : Option PacketId). new ++ flat_map f (follow waits (n - (i + 1)) a)) stays
        ∙ ap (λ (l : List PacketId). new ++ flat_map f l) (none_left (n - (i + 1)))
        ∙ ap (λ (l : List A). l ++ []) same
        ∙ ap (λ (l : List PacketId). old ++ flat_map f l) (sym (none_left (n - i)))
        ∙ ap (λ (a : Option PacketId). old ++ flat_map f (follow waits (n - i) a)) (sym is) ∙ before

    pub written_all : (n i : ℕ) (old total : List A) (at : Option PacketId) → n ≤ i
        → old ++ flat_map f (follow waits (n - i) at) ≡ total → old ≡ total
    written_all n i old total at le before =
        sym (append-nil old) ∙ ap (λ (l : List PacketId). old ++ flat_map f l) (sym (at_end n i at le)) ∙ before
