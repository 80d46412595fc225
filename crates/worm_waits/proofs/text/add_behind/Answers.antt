use Rattle.std.proofs.Common.{rules, ◌<◌, length, string_bytes, ap, ◌∙◌}
use Rattle.worm_waits.specs.Text.{next_text}
use Rattle.worm_waits.proofs.Following.{written_none, written_some}
use Rattle.worm_waits.proofs.text.add_behind.Goals as goal
use Rattle.worm_waits.proofs.text.add_behind.Goals.{in-Some+in_ok-add_next-in-Some, in-None}

pub loop-step-preserved : goal.loop-step-preserved
loop-step-preserved c =
    let waits = c.args.waits.now in
    let i = c.loop-step._step in
    let within : i < length waits = search rules in
    elim c.match-at.branch [
      | in-Some+in_ok-add_next-in-Some w ↦
          written_some waits next_text (length waits) i (string_bytes c.loop-step.text) (string_bytes c.match-at.text) _
          w.in-Some.packet c.loop-step.at c.match-at.at within w.in-Some.is (w.at-is ∙ w.next-at.ensures)
          (ap string_bytes w.text-is ∙ w.in_ok-add_next-in-Some.ensures) c.loop-step.invariant
      | in-None w ↦
          written_none waits next_text (length waits) i (string_bytes c.loop-step.text) (string_bytes c.match-at.text) _
          c.loop-step.at c.match-at.at w.in-None.is (w.at-is ∙ w.in-None.is) (ap string_bytes w.text-is)
          c.loop-step.invariant
    ]
