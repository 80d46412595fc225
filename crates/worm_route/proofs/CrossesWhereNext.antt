-- The test is true exactly where the nodes of the route follow one another so.
use Rattle.std.proofs.Common.{ℕ, zero, suc, ◌≡◌, ◌≢◌, ◌<◌, ◌⊎◌, inl, inr, Bool, true, List, [], ◌∷◌, ◌++◌, arith, refl}
use Rattle.std.proofs.Common.{ap, sym, ◌∙◌, subst}
use Rattle.std.specs.Prelude.{◌↔◌, IsTrue}
use Rattle.std.proofs.lemmas.Bool.{cases_eq}
use Rattle.worm_mesh.specs.Address.{node_count, address_of, Joins}
use Rattle.worm_mesh.proofs.Digits.{AreLarge, same_node}
use Rattle.worm_mesh.proofs.Neighbours.{Joins-port}
use Rattle.worm_route.specs.Route.{route_of, port_of, hops_of}
use Rattle.worm_route.specs.Crossing.{crosses, Follows}
use Rattle.worm_route.proofs.Onward.{onward, address_of-onward, hops_nearer, route_arrived, begins, addresses_differ}
use Rattle.worm_route.proofs.Onward.{same_length}
use Rattle.worm_route.proofs.DigitCrossing.{not_crossed, crossed_first, crossed_later, crossed_here, crosses-crossed}
use Rattle.worm_route.proofs.DigitCrossing.{crossed-crosses, crosses-inside}

-- a route of one node has no two after one another
too_short : (before : List ℕ) (a x to : ℕ) (later : List ℕ) → a ∷ [] ≡ before ++ x ∷ to ∷ later → ⊥
too_short [] a x to later h = cc
too_short (b ∷ []) a x to later h = cc
too_short (b ∷ c ∷ before) a x to later h = cc

pub heads : (a b : ℕ) (xs ys : List ℕ) → a ∷ xs ≡ b ∷ ys → (a ≡ b) × (xs ≡ ys)
heads a b xs ys e = (cc, cc)

module _ (ks : List ℕ) (l : AreLarge ks) where
  -- a link that is crossed is the first, or is crossed from the next node
  pub crosses_first : (x port s t : ℕ) (p : s < node_count ks) (q : t < node_count ks) (ne : s ≢ t)
      → crosses ks x port s t ≡ true → ((x ≡ s) × (port ≡ port_of ks s t))
      ⊎ (crosses ks x port (onward ks l s t p q ne).to t ≡ true)
  crosses_first x port s t p q ne h =
      let on = onward ks l s t p q ne in
      let in_mesh = crosses-inside ks x port s t l p h in
      elim (crossed_first port (address_of ks x) (address_of ks s) (address_of ks t)
      (crosses-crossed ks x port s t h)) [
        | inl first ↦ inl (same_node ks x s l in_mesh p first.0, first.1)
        | inr later ↦ inr (crossed-crosses ks x port on.to t l in_mesh on.joined.to_node
            (rw (address_of-onward ks l s t p q ne) later))
      ]

  pub crosses_later : (x port s t : ℕ) (p : s < node_count ks) (q : t < node_count ks) (ne : s ≢ t)
      → crosses ks x port (onward ks l s t p q ne).to t ≡ true → crosses ks x port s t ≡ true
  crosses_later x port s t p q ne h =
      let on = onward ks l s t p q ne in
      let in_mesh = crosses-inside ks x port on.to t l on.joined.to_node h in
      let next = rw (address_of-onward ks l s t p q ne) at (crosses-crossed ks x port on.to t h) in
      crossed-crosses ks x port s t l in_mesh p
      (crossed_later port (address_of ks x) (address_of ks s) (address_of ks t) next)

  pub crosses_here : (s t : ℕ) → s < node_count ks → t < node_count ks → s ≢ t
      → crosses ks s (port_of ks s t) s t ≡ true
  crosses_here s t p q ne =
      crossed-crosses ks s (port_of ks s t) s t l p p
      (crossed_here (address_of ks s) (address_of ks t) (same_length ks l s t) (addresses_differ ks l s t p q ne))

  pub crosses_none : (x port t : ℕ) → crosses ks x port t t ≡ true → ⊥
  crosses_none x port t h = not_crossed port (address_of ks x) (address_of ks t) (crosses-crossed ks x port t t h)

  -- two nodes that follow one another at the head of a route, and further on in it
  follows_first : (s t : ℕ) (p : s < node_count ks) (q : t < node_count ks) (ne : s ≢ t)
      → Follows ks s (port_of ks s t) s t
  follows_first s t p q ne =
      let on = onward ks l s t p q ne in
      let rest = begins ks l on.to t on.joined.to_node q in
      record { to = on.to; joined = on.joined; before = []; later = rest.0; route = on.route ∙ ap (λ v. s ∷ v) rest.1 }

  follows_later : (x port s t : ℕ) (p : s < node_count ks) (q : t < node_count ks) (ne : s ≢ t)
      → Follows ks x port (onward ks l s t p q ne).to t → Follows ks x port s t
  follows_later x port s t p q ne f =
      let on = onward ks l s t p q ne in
      record {
        to = f.to;
        joined = f.joined;
        before = s ∷ f.before;
        later = f.later;
        route = on.route ∙ ap (λ v. s ∷ v) f.route;
      }

  crosses-follows : (n x port s t : ℕ) → s < node_count ks → t < node_count ks → hops_of ks s t ≡ n
      → crosses ks x port s t ≡ true → Follows ks x port s t
  crosses-follows zero x port s t p q e h =
      elim (cases_eq s t) [
        | inl same ↦ absurd (crosses_none x port t (rw same at h))
        | inr ne ↦ absurd (omega (arith, hops_nearer ks l s t p q ne))
      ]
  crosses-follows (suc n) x port s t p q e h =
      elim (cases_eq s t) [
        | inl same ↦ absurd (crosses_none x port t (rw same at h))
        | inr ne ↦ elim (crosses_first x port s t p q ne h) [
          | inl first ↦ rw (first.0, first.1) (follows_first s t p q ne)
          | inr later ↦
              let on = onward ks l s t p q ne in
              follows_later x port s t p q ne (crosses-follows n x port on.to t on.joined.to_node q
              (omega (arith, hops_nearer ks l s t p q ne)) later)
        ]
      ]

  pub not_last : (before : List ℕ) (s t x to : ℕ) (later : List ℕ) → t < node_count ks
      → route_of ks s t ≡ before ++ x ∷ to ∷ later → s ≢ t
  not_last before s t x to later q e same =
      too_short before t x to later (sym (ap (λ v. route_of ks v t) same ∙ route_arrived ks l t q) ∙ e)

  follows-crosses : (before : List ℕ) (x port s t to : ℕ) (later : List ℕ) → s < node_count ks → t < node_count ks
      → Joins ks x port to → route_of ks s t ≡ before ++ x ∷ to ∷ later → crosses ks x port s t ≡ true
  follows-crosses [] x port s t to later p q joined e =
      let ne = not_last [] s t x to later q e in
      let on = onward ks l s t p q ne in
      let rest = begins ks l on.to t on.joined.to_node q in
      let first = heads s x (route_of ks on.to t) (to ∷ later) (sym on.route ∙ e) in
      let second = heads on.to to rest.0 later (sym rest.1 ∙ first.1) in
      let here : Joins ks x (port_of ks s t) to = rw (← first.0, ← second.0) on.joined in
      let same = Joins-port ks x (port_of ks s t) port to here joined in
      let at_first : crosses ks x (port_of ks s t) s t ≡ true =
      subst (λ v. crosses ks v (port_of ks s t) s t ≡ true) first.0 (crosses_here s t p q ne) in
      subst (λ v. crosses ks x v s t ≡ true) same at_first
  follows-crosses (a ∷ before) x port s t to later p q joined e =
      let ne = not_last (a ∷ before) s t x to later q e in
      let on = onward ks l s t p q ne in
      let first = heads s a (route_of ks on.to t) (before ++ x ∷ to ∷ later) (sym on.route ∙ e) in
      crosses_later x port s t p q ne (follows-crosses before x port on.to t to later on.joined.to_node q joined
      first.1)

  pub crosses_exactly : (x port s t : ℕ) → s < node_count ks → t < node_count ks
      → (crosses ks x port s t ≡ true) ↔ Follows ks x port s t
  crosses_exactly x port s t p q = (
    λ h. crosses-follows (hops_of ks s t) x port s t p q refl h,
    λ f. follows-crosses f.before x port s t f.to f.later p q f.joined f.route,
  )

  -- the same of an answer that is the test's
  pub exact_from : (answer : Bool) (x port s t : ℕ) → s < node_count ks → t < node_count ks
      → answer ≡ crosses ks x port s t → IsTrue answer ↔ Follows ks x port s t
  exact_from answer x port s t p q e = rw e (crosses_exactly x port s t p q)
