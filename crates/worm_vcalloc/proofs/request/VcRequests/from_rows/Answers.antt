use Rattle.std.proofs.Common.{◌≡◌, ◌/◌, ◌%◌, ◌+◌, [], length, slice_index_or, None, arith, ap, sym, ◌∙◌}
use Rattle.std.proofs.Common.{refl, subst}
use Rattle.worm_vcalloc.specs.Table.{IsTable, with_cell}
use Rattle.worm_vcalloc.proofs.TableCells.{IsTable-replicate}
use Rattle.worm_vcalloc.proofs.RowsCopied.{IsCopied, copied_none, copied_more, copied_all, rows_more}
use Rattle.worm_vcalloc.proofs.request.VcRequests.from_rows.Goals as goal

pub loop-place-init : goal.loop-place-init
loop-place-init c = (
  copied_none None c.args.rows.now c.new-requests.result
      (subst IsTable (sym c.new-requests.ensures) (IsTable-replicate None)),
  λ p below. absurd (omega (arith, below)),
)

pub loop-place-preserved : goal.loop-place-preserved
loop-place-preserved c =
    let here : length (slice_index_or c.args.rows.now (c.loop-place.place / 8) []) ≡ 8 = c.entry.ensures.long in (
      subst (λ t. IsCopied None c.args.rows.now t (c.loop-place.place + 1))
          (sym (c.set.ensures ∙ ap (with_cell c.loop-place.requests (c.loop-place.place / 8) (c.loop-place.place % 8))
          c.entry.ensures.value))
          (copied_more None c.args.rows.now c.loop-place.requests c.loop-place.place _ _ c.loop-place.invariant.0
          c.loop-place-test.true refl refl),
      rows_more c.args.rows.now c.loop-place.place c.loop-place.invariant.1 here,
    )

pub returns : goal.returns
returns c =
    copied_all None c.args.rows.now c.loop-place.requests c.loop-place.place c.loop-place.invariant.0 (omega arith)
    (record { rows = c.told-rows; columns = λ i l. c.loop-place.invariant.1 i (omega arith) })
