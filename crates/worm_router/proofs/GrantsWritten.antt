-- Grants that are written one by one as their places come out of a set are those written port by port.
use Rattle.std.proofs.Common.{◌≡◌, ℕ, zero, suc, is_some, true, false, arith, ◌+◌, ◌-◌, ◌*◌, ◌/◌, ◌%◌}
use Rattle.std.proofs.Common.{◌<◌, ◌≤◌, List, Option, None, Some, fold, inl, inr, refl, ap, sym, ◌∙◌}
use Rattle.std.specs.List.{range_with_len}
use Rattle.std.proofs.lemmas.Bool.{cases_eq, cases_lt, true≢false}
use Rattle.worm_vcalloc.specs.ChannelSet.{has, IsFirst}
use Rattle.worm_vcalloc.specs.Table.{cell}
use Rattle.worm_vcalloc.proofs.PassAgrees.{fold-range_more, none_where_not_some}
use Rattle.worm_vcalloc.proofs.SetMembers.{has-zero}
use Rattle.worm_router.specs.Router.{RouterState, terminal, width, after_granting, can_grant}
use Rattle.worm_router.specs.Allocation.{written, with_port_grants, with_grants}

granting_width : (r : RouterState) (port vc c : ℕ) (o : Option ℕ) → width (after_granting r port vc c o) ≡ width r
granting_width r port vc c None = refl
granting_width r port vc c (Some o) = refl

written_width : (r : RouterState) (port vc : ℕ) (granted : Option ℕ) → width (written r port vc granted) ≡ width r
written_width r port vc None = refl
written_width r port vc (Some c) = granting_width r port vc c (can_grant r port vc c)

-- ---- place by place, eight to a port

abbrev written_place : List (List (Option ℕ)) → RouterState → ℕ → RouterState
written_place grants s n = written s (n / 8) (n % 8) (cell grants (n / 8) (n % 8) None)

-- the grants of the first n places
pub written_to : List (List (Option ℕ)) → RouterState → ℕ → RouterState
written_to grants r n = fold (written_place grants) r (range_with_len 0 n)

pub written_none : (grants : List (List (Option ℕ))) (r : RouterState) → written_to grants r 0 ≡ r
unfolding written_to
written_none grants r = refl

more_written : (grants : List (List (Option ℕ))) (r : RouterState) (n : ℕ)
    → written_to grants r (n + 1) ≡ written_place grants (written_to grants r n) n
unfolding written_to
more_written grants r n = fold-range_more (written_place grants) r n

pub written_one : (grants : List (List (Option ℕ))) (r : RouterState) (p v : ℕ) → v < 8
    → written_to grants r (8 * p + v + 1) ≡ written (written_to grants r (8 * p + v)) p v (cell grants p v None)
written_one grants r p v v_in =
    let s = written_to grants r (8 * p + v) in
    let port : (8 * p + v) / 8 ≡ p = omega arith in
    let channel : (8 * p + v) % 8 ≡ v = omega arith in
    more_written grants r (8 * p + v)
    ∙ ap (λ k. written s k ((8 * p + v) % 8) (cell grants k ((8 * p + v) % 8) None)) port
    ∙ ap (λ k. written s p k (cell grants p k None)) channel

-- places without a grant are gone past
written_past : (grants : List (List (Option ℕ))) (r : RouterState) (n k : ℕ)
    → ((p v : ℕ) → n ≤ 8 * p + v → 8 * p + v < n + k → v < 8 → cell grants p v None ≡ None)
    → written_to grants r (n + k) ≡ written_to grants r n
written_past grants r n zero none = ap (written_to grants r) (omega arith)
written_past grants r n (suc k) none =
    let place : 8 * ((n + k) / 8) + (n + k) % 8 ≡ n + k = omega arith in
    ap (written_to grants r) (omega arith) ∙ more_written grants r (n + k)
    ∙ ap (written (written_to grants r (n + k)) ((n + k) / 8) ((n + k) % 8))
    (none ((n + k) / 8) ((n + k) % 8) (omega arith) (omega arith) (omega arith))
    ∙ written_past grants r n k (λ p v low high v_in. none p v low (omega (arith, high)) v_in)

-- ---- port by port

module _ (grants : List (List (Option ℕ))) (r : RouterState) (few_ports : terminal r ≤ 6) (few : width r ≤ 8)
    (outside : (p v : ℕ) → ((p ≤ terminal r) → (v < width r) → ⊥) → cell grants p v None ≡ None) where
  width_stays : (n : ℕ) → width (written_to grants r n) ≡ width r
  width_stays zero = ap width (written_none grants r)
  width_stays (suc n) =
      ap (λ k. width (written_to grants r k)) (omega arith) ∙ ap width (more_written grants r n)
      ∙ written_width (written_to grants r n) (n / 8) (n % 8) (cell grants (n / 8) (n % 8) None) ∙ width_stays n

  port_to : (p k : ℕ) → k ≤ 8
      → fold (λ s v. written s p v (cell grants p v None)) (written_to grants r (8 * p)) (range_with_len 0 k)
      ≡ written_to grants r (8 * p + k)
  port_to p zero within = ap (written_to grants r) (omega arith)
  port_to p (suc k) within =
      let more : suc k ≡ k + 1 = omega arith in
      ap (λ n. fold (λ s v. written s p v (cell grants p v None)) (written_to grants r (8 * p)) (range_with_len 0 n))
      more
      ∙ fold-range_more (λ s v. written s p v (cell grants p v None)) (written_to grants r (8 * p)) k
      ∙ ap (λ s. written s p k (cell grants p k None)) (port_to p k (omega (arith, within)))
      ∙ sym (written_one grants r p k (omega (arith, within)))
      ∙ ap (written_to grants r) (omega arith)

  port_done : (p : ℕ) → with_port_grants grants (written_to grants r (8 * p)) p ≡ written_to grants r (8 * (p + 1))
  unfolding with_port_grants
  port_done p =
      ap (λ n. fold (λ s v. written s p v (cell grants p v None)) (written_to grants r (8 * p)) (range_with_len 0 n))
      (width_stays (8 * p))
      ∙ port_to p (width r) few
      ∙ sym (written_past grants r (8 * p + width r) (8 - width r) (λ q v low high v_in.
      outside q v (λ _ v_in. absurd (omega (arith, low, high, v_in)))))
      ∙ ap (written_to grants r) (omega arith)

  ports_to : (k : ℕ) → fold (with_port_grants grants) r (range_with_len 0 k) ≡ written_to grants r (8 * k)
  ports_to zero = sym (written_none grants r)
  ports_to (suc k) =
      let more : suc k ≡ k + 1 = omega arith in
      ap (λ n. fold (with_port_grants grants) r (range_with_len 0 n)) more
      ∙ fold-range_more (with_port_grants grants) r k ∙ ap (λ s. with_port_grants grants s k) (ports_to k)
      ∙ port_done k ∙ ap (λ n. written_to grants r (8 * n)) (sym more)

  pub with_grants_to : with_grants grants r ≡ written_to grants r 56
  unfolding with_grants
  with_grants_to =
      ports_to (terminal r + 1)
      ∙ sym (written_past grants r (8 * (terminal r + 1)) (56 - 8 * (terminal r + 1)) (λ p v low high v_in.
      outside p v (λ p_in _. absurd (omega (arith, low, p_in)))))
      ∙ ap (written_to grants r) (omega arith)

-- ---- the places that have grants, taken out of a set one by one

-- the grants of the places before the next one are written, and those that are left are the others with grants
pub record AreWritten (old new : RouterState) (grants : List (List (Option ℕ))) (left : ℕ) : Type 0 where
  pub next : ℕ
  pub next_in : next ≤ 56
  pub written : new ≡ written_to grants old next
  pub past : (p v : ℕ) → 8 * p + v < next → v < 8 → has left p v ≡ false
  pub ahead : (p v : ℕ) → next ≤ 8 * p + v → p < 7 → v < 8 → has left p v ≡ is_some (cell grants p v None)

pub writing_begins : (old : RouterState) (grants : List (List (Option ℕ))) (keys : ℕ)
    → ((p v : ℕ) → p < 7 → v < 8 → has keys p v ≡ is_some (cell grants p v None)) → AreWritten old old grants keys
writing_begins old grants keys are = record {
  next = 0;
  next_in = omega arith;
  written = sym (written_none grants old);
  past = λ p v none _. absurd (omega (arith, none));
  ahead = λ p v _ p_in v_in. are p v p_in v_in;
}

module _ (old : RouterState) (grants : List (List (Option ℕ))) (here : RouterState) (left : ℕ)
    (so : AreWritten old here grants left) where
  pub writing_ends : left ≡ 0 → here ≡ written_to grants old 56
  writing_ends none =
      let all = so.next_in in
      so.written
      ∙ sym (written_past grants old so.next (56 - so.next) (λ p v low high v_in.
      none_where_not_some (cell grants p v None) (sym (so.ahead p v low (omega (arith, all, high)) v_in)
      ∙ ap (λ s. has s p v) none ∙ has-zero p v)))
      ∙ ap (written_to grants old) (omega arith)

  module _ (new port vc : ℕ) (first : IsFirst left new port vc) where
    not_past : so.next ≤ 8 * port + vc
    not_past = elim (cases_lt (8 * port + vc) so.next) [
      | inl low ↦ absurd (true≢false (sym first.was_in ∙ so.past port vc low first.channel_in))
      | inr high ↦ high
    ]

    pub has_grant : is_some (cell grants port vc None) ≡ true
    has_grant = sym (so.ahead port vc not_past first.port_in first.channel_in) ∙ first.was_in

    -- all before the first that is left are written
    pub writing_reaches : here ≡ written_to grants old (8 * port + vc)
    writing_reaches =
        let low = not_past in
        let port_in = first.port_in in
        so.written
        ∙ sym (written_past grants old so.next (8 * port + vc - so.next) (λ p v above below v_in.
        let before : 8 * p + v < 8 * port + vc = omega (arith, low, below) in
        none_where_not_some (cell grants p v None)
        (sym (so.ahead p v above (omega (arith, before, port_in)) v_in) ∙ first.none_before p v v_in before)))
        ∙ ap (written_to grants old) (omega (arith, low))

    pub writing_goes_on : (now : RouterState) → now ≡ written here port vc (cell grants port vc None)
        → AreWritten old now grants new
    writing_goes_on now is =
        let low = not_past in
        let port_in = first.port_in in
        let channel_in = first.channel_in in
        record {
          next = 8 * port + vc + 1;
          next_in = omega (arith, port_in, channel_in);
          written = is ∙ ap (λ s. written s port vc (cell grants port vc None)) writing_reaches
              ∙ sym (written_one grants old port vc first.channel_in);
          past = λ p v below v_in. elim (cases_eq (8 * p + v) (8 * port + vc)) [
            | inl same ↦
                let at : p ≡ port = omega (arith, same, v_in, channel_in) in
                let at' : v ≡ vc = omega (arith, same, v_in, channel_in) in
                ap (λ k. has new k v) at ∙ ap (λ k. has new port k) at' ∙ first.taken.here
            | inr other ↦
                first.taken.elsewhere p v (omega (arith, below, port_in, channel_in)) v_in
                (λ a b. other (ap (λ k. 8 * k + v) a ∙ ap (λ k. 8 * port + k) b))
                ∙ first.none_before p v v_in (omega (arith, other, below))
          ];
          ahead = λ p v above p_in v_in.
              first.taken.elsewhere p v p_in v_in
              (λ a b. absurd (omega (arith, above, ap (λ k. 8 * k + v) a ∙ ap (λ k. 8 * port + k) b)))
              ∙ so.ahead p v (omega (arith, above, low)) p_in v_in;
        }
