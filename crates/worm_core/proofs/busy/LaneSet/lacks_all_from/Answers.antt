use Rattle.std.proofs.Common.{ℕ, ◌+◌, ◌*◌, ◌∙◌, not, ap, arith, sym}
use Rattle.std.specs.List.{list_all, slice_range}
use Rattle.worm_core.specs.LaneSet.{LaneMarks}
use Rattle.worm_core.proofs.Marks.{lacks_all}
use Rattle.worm_core.proofs.busy.LaneSet.lacks_all_from.Goals as goal

pub returns : goal.returns
returns c = λ clear.
    let lanes : LaneMarks = record {
      nodes = c.self.inside.nodes;
      classes = c.self.inside.classes;
      marks = c.self.inside.marks.items;
    } in
    let row : ℕ = c.from.result * c.from-2.result in
    rw (← c.self.view_is) (lacks_all lanes c.args.src c.args.nodes c.args.classes (c.from-3.result * row) row
    c.if-nodes-self.false c.if-classes-self.false
    (ap (λ n. n * c.from-2.result) c.from.ensures ∙ ap (λ k. c.args.nodes * k) c.from-2.ensures)
    (ap (λ n. n * row) c.from-3.ensures) (omega (arith, c.if-len-first.false, c.len.ensures))
    (ap (λ marks. list_all not (slice_range marks (c.from-3.result * row) (c.from-3.result * row + row)))
    (sym c.deref.ensures.value) ∙ sym c.are_clear.ensures ∙ clear))
