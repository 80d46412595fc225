-- Credits are owed at ports that face a link alone.
use Rattle.std.proofs.Common.{◌≡◌, ℕ, ◌≤◌, ◌<◌, ◌&&◌, ◌||◌, arith, Bool, true, false, nat_lt, List, if◌then◌else◌}
use Rattle.std.proofs.Common.{inl, inr, ap, refl, sym, ◌∙◌, is_some}
use Rattle.std.proofs.lemmas.Bool.{cases_eq}
use Rattle.worm_mesh.specs.Address.{neighbour_of}
use Rattle.worm_vcalloc.specs.ChannelSet.{has}
use Rattle.worm_vcalloc.proofs.SetMembers.{has-zero}
use Rattle.worm_router.specs.Busy.{IsFiled, OweByLinks}

-- none owes
pub none_owing : (mesh : List ℕ) (node : ℕ) → OweByLinks mesh node 0
none_owing mesh node = record {
  each = λ p v p_few v_few there. let no : true ≡ false = sym there ∙ has-zero p v in absurd (cc);
}

module _ (mesh : List ℕ) (node old new port vc : ℕ) (p_few : port ≤ 6) (v_few : vc < 8) where
  -- one channel is filed, and is in the set only where its port faces a link
  owing_filed : (within : Bool) → IsFiled old new port vc within
      → (within ≡ true → is_some (neighbour_of mesh node port) ≡ true) → OweByLinks mesh node old
      → OweByLinks mesh node new
  owing_filed within filed linked those = record {
    each = λ p v p_in v_in there. elim (cases_eq p port) [
      | inl same ↦ elim (cases_eq v vc) [
        | inl itself ↦
            let here : has new port vc ≡ true =
            sym (ap (λ q. has new q v) same ∙ ap (λ c. has new port c) itself) ∙ there in
            ap (λ q. is_some (neighbour_of mesh node q)) same ∙ linked (sym filed.here ∙ here)
        | inr other ↦ those.each p v p_in v_in (sym (filed.elsewhere p v p_in v_in (λ e f. other f)) ∙ there)
      ]
      | inr other ↦ those.each p v p_in v_in (sym (filed.elsewhere p v p_in v_in (λ e f. other e)) ∙ there)
    ];
  }

  -- one that has given a credit owed one before
  pub owing_given : (more : Bool) → IsFiled old new port vc (has old port vc && more) → OweByLinks mesh node old
      → OweByLinks mesh node new
  owing_given more filed those =
      owing_filed (has old port vc && more) filed (λ within. by (has old port vc) refl within) those where
        by : (was : Bool) → has old port vc ≡ was → (was && more) ≡ true
            → is_some (neighbour_of mesh node port) ≡ true
        by true there some = those.each port vc (omega arith) v_few there
        by false there some = absurd (cc)

  -- one that let a flit out owed one before, or owes one for that
  pub owing_left : (more : ℕ) → more ≡ (if is_some (neighbour_of mesh node port) then 1 else 0)
      → IsFiled old new port vc (has old port vc || nat_lt 0 more) → OweByLinks mesh node old
      → OweByLinks mesh node new
  owing_left more owes filed those =
      owing_filed (has old port vc || nat_lt 0 more) filed
      (λ within. by (has old port vc) (is_some (neighbour_of mesh node port)) refl refl
      (ap (λ n. has old port vc || nat_lt 0 n) (sym owes) ∙ within)) those where
        by : (was linked : Bool) → has old port vc ≡ was → is_some (neighbour_of mesh node port) ≡ linked
            → (was || nat_lt 0 (if linked then 1 else 0)) ≡ true → is_some (neighbour_of mesh node port) ≡ true
        by true linked there at some = those.each port vc (omega arith) v_few there
        by false true there at some = at
        by false false there at some = absurd (cc)
