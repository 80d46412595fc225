-- Passages of a part, one after another.
use Rattle.std.proofs.Common.{◌≡◌, ℕ, ◌+◌, ◌-◌, ◌<◌, ◌≤◌, zero, suc, Bool, ap, inl, inr, List, [], ◌∷◌}
use Rattle.std.proofs.Common.{◌++◌, Option, Some, None, refl, arith, sym, subst, ◌∙◌}
use Rattle.std.specs.Prelude.{filter}
use Rattle.std.proofs.lemmas.List.Elements.{filter-append}
use Rattle.std.specs.List.{range_with_len}
use Rattle.std.proofs.lemmas.Bool.{cases_lt}
use Rattle.worm_region.specs.declared.fault.StepFault.{StepFault}
use Rattle.worm_region.proofs.Passages.{each_append, each_cut, each_one, range_more, range_split}
use Rattle.worm_region.specs.Turns.{Each}
use Rattle.worm_split.specs.PartState.{PartState, IsSamePart}
use Rattle.worm_split.specs.PartTurns.{PartPassage}

-- one number more
pub of_more : (P : ℕ → PartPassage) (n : ℕ) (a b c : PartState) → Each P (range_with_len 0 n) a None b → P n b None c
    → Each P (range_with_len 0 (n + 1)) a None c
of_more P n a b c first then =
    subst (λ (ns : List ℕ). Each P ns a None c) (sym (range_more n))
    (each_append P (range_with_len 0 n) (n ∷ []) a b c None first (each_one P n b c None then))

-- some numbers at which nothing is done
pub of_rest : (P : ℕ → PartPassage) (n m : ℕ) (a b : PartState) → n ≤ m → Each P (range_with_len 0 n) a None b
    → ((i : ℕ) → n ≤ i → i < m → P i b None b) → Each P (range_with_len 0 m) a None b
of_rest P n zero a b within first none = let same : n ≡ 0 = omega arith in
    subst (λ (k : ℕ). Each P (range_with_len 0 k) a None b) same first
of_rest P n (suc m) a b within first none = elim (cases_lt m n) [
  | inl past ↦ let same : n ≡ suc m = omega arith in
      subst (λ (k : ℕ). Each P (range_with_len 0 k) a None b) same first
  | inr below ↦
      let count : suc m ≡ m + 1 = omega arith in
      let before = of_rest P n m a b below first (λ i above under. none i above (omega arith)) in
      subst (λ (k : ℕ). Each P (range_with_len 0 k) a None b) (sym count)
      (of_more P m a b b before (none m below (omega arith)))
]

-- a fault at one number ends them all
pub of_end : (P : ℕ → PartPassage) (n m : ℕ) (a b c : PartState) (fault : StepFault) → n < m
    → Each P (range_with_len 0 n) a None b → P n b (Some fault) c → Each P (range_with_len 0 m) a (Some fault) c
of_end P n m a b c fault below first then =
    subst (λ (ns : List ℕ). Each P ns a (Some fault) c) (sym (range_split n m below))
    (each_cut P (range_with_len 0 n ++ n ∷ []) (range_with_len (n + 1) (m - (n + 1))) a c (Some fault) refl
    (each_append P (range_with_len 0 n) (n ∷ []) a b c (Some fault) first (each_one P n b c (Some fault) then)))

-- of the numbers that pass a test, those below one more
module _ (own : ℕ → Bool) (P : ℕ → PartPassage) (n : ℕ) (a b c : PartState) where
  pub of_next : (fault : Option StepFault) → Each P (filter own (range_with_len 0 n)) a None b
      → Each P (filter own (n ∷ [])) b fault c → Each P (filter own (range_with_len 0 (n + 1))) a fault c
  of_next fault first then =
      subst (λ (ns : List ℕ). Each P ns a fault c)
      (sym (ap (λ (ns : List ℕ). filter own ns) (range_more n) ∙ filter-append own (range_with_len 0 n) (n ∷ [])))
      (each_append P (filter own (range_with_len 0 n)) (filter own (n ∷ [])) a b c fault first then)

  pub of_ending : (m : ℕ) (fault : StepFault) → n < m → Each P (filter own (range_with_len 0 n)) a None b
      → Each P (filter own (n ∷ [])) b (Some fault) c → Each P (filter own (range_with_len 0 m)) a (Some fault) c
  of_ending m fault below first then =
      let split : filter own (range_with_len 0 m) ≡ filter own (range_with_len 0 (n + 1))
      ++ filter own (range_with_len (n + 1) (m - (n + 1)))
      = ap (λ (ns : List ℕ). filter own ns) (range_split n m below)
      ∙ filter-append own (range_with_len 0 n ++ n ∷ []) (range_with_len (n + 1) (m - (n + 1)))
      ∙ ap (λ (ns : List ℕ). filter own ns ++ filter own (range_with_len (n + 1) (m - (n + 1)))) (sym (range_more n)) in
      subst (λ (ns : List ℕ). Each P ns a (Some fault) c) (sym split)
      (each_cut P (filter own (range_with_len 0 (n + 1))) (filter own (range_with_len (n + 1) (m - (n + 1)))) a c
      (Some fault) refl
      (of_next (Some fault) first then))

-- what is the same of a part stays the same
pub same_still : (p : PartState) → IsSamePart p p
same_still p = record {
  config = record { mesh = refl; channels = refl; depth = refl; names = refl; own = refl };
  opening = refl;
  pairs = refl;
}

pub same_on : (a b c : PartState) → IsSamePart a b → IsSamePart b c → IsSamePart a c
same_on a b c h k =
    let first = h.config in
    let then = k.config in
    record {
      config = record {
        mesh = then.mesh ∙ first.mesh;
        channels = then.channels ∙ first.channels;
        depth = then.depth ∙ first.depth;
        names = then.names ∙ first.names;
        own = then.own ∙ first.own;
      };
      opening = k.opening ∙ h.opening;
      pairs = k.pairs ∙ h.pairs;
    }
