-- What a step that did not fail has taken of the fields, and that what is spelled so is taken.
use Rattle.std.proofs.Common.{◌≡◌, lit<, ℕ, ◌<◌, ◌≤◌, Bool, true, false, cond, ltb, List, [], ◌∷◌, Result}
use Rattle.std.proofs.Common.{refl, ap, ◌∙◌, arith, inl, inr, ◌⊎◌}
use Rattle.std.specs.Fmt.{decimal}
use Rattle.std.specs.Str.{bytes_eq}
use Rattle.std.proofs.lemmas.Bool.Decides.{nat_tests}
use Rattle.worm_text.specs.declared.fault.Why.{Why}
use Rattle.worm_text.specs.declared.fault.Why.TheVariants.{Range}
use Rattle.worm_text.specs.Reading.{◌>>=◌, checked, word_at, no_more}
use Rattle.worm_text.proofs.Binds.{fine, bind_ok, checked_ok}
use Rattle.worm_text.proofs.FieldLaws.{same_bytes, chosen, word_at_takes, word_at_again, number_at_takes}
use Rattle.worm_text.proofs.FieldLaws.{number_at_again}
use Rattle.worm_rows.specs.Rules.{IsWord}
use Rattle.worm_rows.specs.Reading.{any_at, below_at, named_at}

ltb_lt : (m n : ℕ) → ltb m n ≡ true → m < n
ltb_lt m n e = grind (arith, nat_tests)

lt_ltb : (m n : ℕ) → m < n → ltb m n ≡ true
lt_ltb m n h = grind (arith, nat_tests)

-- the first field is this word, or what is read for another one
pub first_word : {A : Type 0} (f word : List ℕ) (x y z : A) → cond (bytes_eq f word) x y ≡ z
    → ((f ≡ word) × (x ≡ z)) ⊎ (y ≡ z)
first_word f word x y z e = elim (chosen (bytes_eq f word) x y z e) [
  | inl h ↦ inl (same_bytes f word h.0, h.1)
  | inr h ↦ inr h.1
]

-- ---- steps taken

pub record TookWord {A : Type 0} (word : List ℕ) (fields : List (List ℕ)) (f : List (List ℕ)
    → Result A Why) (y : A) : Type 0 where
  pub rest : List (List ℕ)
  pub fields-are : fields ≡ word ∷ rest
  pub next : f rest ≡ fine y

pub took_word : {A : Type 0} (word : List ℕ) (fields : List (List ℕ)) (f : List (List ℕ) → Result A Why) (y : A)
    → (word_at word fields >>= f) ≡ fine y → TookWord word fields f y
took_word word fields f y e = let b = bind_ok (word_at word fields) f y e in
    record { rest = b.0; fields-are = word_at_takes word fields b.0 b.1; next = b.2 }

pub record TookNumber {A : Type 0} (limit : ℕ) (fields : List (List ℕ)) (f : ℕ × List (List ℕ)
    → Result A Why) (y : A) : Type 0 where
  pub n : ℕ
  pub rest : List (List ℕ)
  pub fields-are : fields ≡ decimal n ∷ rest
  pub small : n < limit
  pub next : f (n, rest) ≡ fine y

pub any_takes : (fields : List (List ℕ)) (n : ℕ) (rest : List (List ℕ)) → any_at fields ≡ fine (n, rest)
    → (fields ≡ decimal n ∷ rest) × IsWord n
any_takes fields n rest e = let k = number_at_takes 0 4294967295 fields n rest (lit< tt) e in (k.0, omega (arith, k.1))

pub took_any : {A : Type 0} (fields : List (List ℕ)) (f : ℕ × List (List ℕ) → Result A Why) (y : A)
    → (any_at fields >>= f) ≡ fine y → TookNumber 4294967296 fields f y
took_any fields f y e =
    let b = bind_ok (any_at fields) f y e in
    let k = any_takes fields b.0.0 b.0.1 b.1 in
    record { n = b.0.0; rest = b.0.1; fields-are = k.0; small = k.1; next = b.2 }

below_takes : (limit : ℕ) (fields : List (List ℕ)) (n : ℕ) (rest : List (List ℕ))
    → below_at limit fields ≡ fine (n, rest) → (fields ≡ decimal n ∷ rest) × (n < limit)
unfolding below_at
below_takes limit fields n rest e =
    let a = bind_ok (any_at fields) (λ n. checked (ltb n.0 limit) Range n) (n, rest) e in
    let k = any_takes fields a.0.0 a.0.1 a.1 in
    let c = checked_ok (ltb a.0.0 limit) Range a.0 (n, rest) a.2 in
    let v : a.0.0 ≡ n = ap (λ (z : ℕ × List (List ℕ)). z.0) c.1 in
    let r : a.0.1 ≡ rest = ap (λ (z : ℕ × List (List ℕ)). z.1) c.1 in
    let lt = ltb_lt a.0.0 limit c.0 in
    (k.0 ∙ ap (λ (m : ℕ). decimal m ∷ a.0.1) v ∙ ap (λ (fs : List (List ℕ)). decimal n ∷ fs) r, omega (arith, lt, v))

pub took_below : {A : Type 0} (limit : ℕ) (fields : List (List ℕ)) (f : ℕ × List (List ℕ) → Result A Why) (y : A)
    → (below_at limit fields >>= f) ≡ fine y → TookNumber limit fields f y
took_below limit fields f y e =
    let b = bind_ok (below_at limit fields) f y e in
    let k = below_takes limit fields b.0.0 b.0.1 b.1 in
    record { n = b.0.0; rest = b.0.1; fields-are = k.0; small = k.1; next = b.2 }

pub record TookNamed {A : Type 0} (word : List ℕ) (fields : List (List ℕ)) (f : ℕ × List (List ℕ)
    → Result A Why) (y : A) : Type 0 where
  pub n : ℕ
  pub rest : List (List ℕ)
  pub fields-are : fields ≡ word ∷ decimal n ∷ rest
  pub small : IsWord n
  pub next : f (n, rest) ≡ fine y

named_takes : (word : List ℕ) (fields : List (List ℕ)) (n : ℕ) (rest : List (List ℕ))
    → named_at word fields ≡ fine (n, rest) → (fields ≡ word ∷ decimal n ∷ rest) × IsWord n
unfolding named_at
named_takes word fields n rest e =
    let w = took_word word fields (λ (rest : List (List ℕ)). any_at rest) (n, rest) e in
    let k = any_takes w.rest n rest w.next in
    (w.fields-are ∙ ap (λ (fs : List (List ℕ)). word ∷ fs) k.0, k.1)

pub took_named : {A : Type 0} (word : List ℕ) (fields : List (List ℕ)) (f : ℕ × List (List ℕ) → Result A Why) (y : A)
    → (named_at word fields >>= f) ≡ fine y → TookNamed word fields f y
took_named word fields f y e =
    let b = bind_ok (named_at word fields) f y e in
    let k = named_takes word fields b.0.0 b.0.1 b.1 in
    record { n = b.0.0; rest = b.0.1; fields-are = k.0; small = k.1; next = b.2 }

pub took_all : {A : Type 0} (fields : List (List ℕ)) (f : List (List ℕ) → Result A Why) (y : A)
    → (no_more fields >>= f) ≡ fine y → (fields ≡ []) × (f [] ≡ fine y)
took_all [] f y e = (refl, e)
took_all (g ∷ gs) f y e = absurd cc

pub took_test : {A B : Type 0} (test : Bool) (why : Why) (x : A) (f : A → Result B Why) (y : B)
    → (checked test why x >>= f) ≡ fine y → (test ≡ true) × (f x ≡ fine y)
took_test true why x f y e = (refl, e)
took_test false why x f y e = absurd cc

-- ---- steps that are spelled so

pub any_again : (n : ℕ) (rest : List (List ℕ)) → IsWord n → any_at (decimal n ∷ rest) ≡ fine (n, rest)
any_again n rest h = number_at_again 0 4294967295 n rest (lit< tt) (omega arith, omega arith)

pub below_again : (limit n : ℕ) (rest : List (List ℕ)) → n < limit → limit ≤ 4294967296
    → below_at limit (decimal n ∷ rest) ≡ fine (n, rest)
unfolding below_at
below_again limit n rest lt few = rw (any_again n rest (omega arith), lt_ltb n limit lt) refl

pub named_again : (word : List ℕ) (n : ℕ) (rest : List (List ℕ)) → IsWord n
    → named_at word (word ∷ decimal n ∷ rest) ≡ fine (n, rest)
unfolding named_at
named_again word n rest h = rw (word_at_again word (decimal n ∷ rest), any_again n rest h) refl
