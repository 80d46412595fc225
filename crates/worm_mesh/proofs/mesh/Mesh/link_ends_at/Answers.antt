-- the count goes on where there is a neighbour
use Rattle.std.proofs.Common.{rules, arith, sym, ◌∙◌}
use Rattle.worm_mesh.proofs.Numbers.{links_before-some, links_before-none}
use Rattle.worm_mesh.proofs.mesh.Mesh.link_ends_at.Goals as goal
use Rattle.worm_mesh.proofs.mesh.Mesh.link_ends_at.Goals.{in-Some+else-before-number, in_default}

pub loop-out_port-preserved : goal.loop-out_port-preserved
loop-out_port-preserved c =
    let before = c.loop-out_port.invariant.0 in
    let reached = c.loop-out_port.invariant.1 in
    elim c.match-neighbour.branch [
      | in-Some+else-before-number w ↦
          let more = links_before-some c.args.self.now c.args.from c.loop-out_port.out_port w.in-Some.to
          (sym c.neighbour.ensures.value ∙ w.in-Some.is) in
          let apart = w.if-before-number.false in
          let one = w.before-is in
          (omega (arith, more), omega arith)
      | in_default w ↦
          let same = links_before-none c.args.self.now c.args.from c.loop-out_port.out_port
          (sym c.neighbour.ensures.value ∙ w.in_default.is) in
          let one = w.before-is in
          (omega (arith, same), omega arith)
    ]

pub returns-then-before-number : goal.returns-then-before-number
returns-then-before-number c = search rules
