use Rattle.std.proofs.Common.{◌+◌, ◌/◌, ◌%◌, None, arith, sym, refl, subst, replicate}
use Rattle.worm_vcalloc.specs.Table.{IsTable, keyed_cell, with_cell}
use Rattle.worm_vcalloc.proofs.TableCells.{IsTable-replicate}
use Rattle.worm_vcalloc.proofs.TableRows.{IsTable-table}
use Rattle.worm_vcalloc.proofs.RowsCopied.{IsCopied, copied_none, copied_more, copied_all}
use Rattle.worm_vcalloc.proofs.channel_map.ChannelMap.to_rows.Goals as goal

pub loop-place-init : goal.loop-place-init
loop-place-init c = copied_none None c.args.self.now (replicate 7 (replicate 8 None)) (IsTable-replicate None)

pub loop-place-preserved : goal.loop-place-preserved
loop-place-preserved c =
    let port = c.loop-place.place / 8 in
    let channel = c.loop-place.place % 8 in
    subst (λ x. IsCopied None c.args.self.now (with_cell c.loop-place.rows port channel x) (c.loop-place.place + 1))
    (sym c.get.ensures)
    (copied_more None c.args.self.now c.loop-place.rows c.loop-place.place port channel c.loop-place.invariant
    c.loop-place-test.true refl refl)

pub returns : goal.returns
returns c =
    copied_all None c.args.self.now c.loop-place.rows c.loop-place.place c.loop-place.invariant (omega arith)
    (subst IsTable c.self.view_is (IsTable-table (keyed_cell 0 c.self.inside.keys c.self.inside.numbers)))
