-- Where each port has one channel, no two channels that may send ask for one output port, since each of them holds the
-- channel of the port that it asks for.
use Rattle.std.proofs.Common.{◌≡◌, ℕ, ◌+◌, ◌≤◌, Option, None, Some, arith, refl, ap, sym, ◌∙◌}
use Rattle.std.specs.Option.{option_map}
use Rattle.worm_flit.specs.declared.Flit.{Flit}
use Rattle.worm_vcalloc.specs.Table.{cell}
use Rattle.worm_swalloc.specs.SwAlloc.{AreApart}
use Rattle.worm_router.specs.Router.{RouterState, IsRouter, IsPlace, terminal, width, input_at, output_at, leaving}
use Rattle.worm_router.specs.Allocation.{ready_at, ready_outs}
use Rattle.worm_router.specs.Busy.{AreHolders}
use Rattle.worm_router.proofs.Leaving.{leaves_by_state, may_leave}
use Rattle.worm_router.proofs.TableRows.{cell_has}

-- a channel of the router holds channel 0 of an output port of the router
record HoldsSole (r : RouterState) (port vc out : ℕ) : Type 0 where
  place : IsPlace r port vc
  out_in : out ≤ terminal r
  held : (output_at r out 0).holder ≡ Some (port, vc)

module _ (r : RouterState) (sound : IsRouter r) (holders : AreHolders r) (sole : width r ≡ 1) where
  -- so does one that may send
  by_leaving : (port vc out : ℕ) → IsPlace r port vc → (o : Option (ℕ × Flit)) → leaving r port vc ≡ o
      → option_map (λ leave. leave.0) o ≡ Some out → HoldsSole r port vc out
  by_leaving port vc out place None e is = absurd (cc)
  by_leaving port vc out place (Some d) e is =
      let same : d.0 ≡ out = cc in
      let may = may_leave r port vc d sound place e in
      let first : d.1.vc ≡ 0 = let below = may.channel_in in omega arith in
      let active = leaves_by_state r port (input_at r port vc) (input_at r port vc).state
      (input_at r port vc).buffer d e in
      record {
        place = place;
        out_in = let within = may.out_in in omega arith;
        held = ap (λ k. (output_at r k 0).holder) (sym same) ∙ ap (λ k. (output_at r d.0 k).holder) (sym first)
            ∙ holders.held port vc d.0 d.1.vc place.port_in place.channel_in active;
      }

  holds_sole : (port vc out : ℕ) → cell (ready_outs r) port vc None ≡ Some out → HoldsSole r port vc out
  holds_sole port vc out =
      cell_has (λ o. o ≡ Some out → HoldsSole r port vc out) r None (ready_at r) port vc (λ no. absurd (cc))
      (λ place is. by_leaving port vc out place (leaving r port vc) refl is)

  pub ready_apart : r.switch_alloc.ports ≡ terminal r + 1 → r.switch_alloc.vcs ≡ width r
      → AreApart r.switch_alloc (ready_outs r)
  ready_apart ports vcs =
      record {
        within = λ port vc out e.
            let h = holds_sole port vc out e in
            let port_in = h.place.port_in in
            let channel_in = h.place.channel_in in
            let out_in = h.out_in in
            (omega arith, omega arith, omega arith);
        inputs = λ port vc vc' out out' e e'.
            let h = (holds_sole port vc out e).place.channel_in in
            let h' = (holds_sole port vc' out' e').place.channel_in in
            omega arith;
        outputs = λ port port' vc vc' out e e'.
            let both : Some (port, vc) ≡ Some (port', vc') =
            sym (holds_sole port vc out e).held ∙ (holds_sole port' vc' out e').held in
            let pair : (port, vc) ≡ (port', vc') = cc in
            ap (λ (place : ℕ × ℕ). place.0) pair;
      }
