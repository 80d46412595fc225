use Rattle.std.proofs.Common.{◌+◌, List, get_or, length, arith, subst}
use Rattle.worm_script.specs.Script.{AreGaps, sources_of}
use Rattle.worm_script.specs.declared.entry.Entry.{Entry}
use Rattle.worm_script.proofs.NextOfSource.{as_many, is_next, is_none}
use Rattle.worm_script.proofs.due.Due.next_of.Goals as goal
use Rattle.worm_script.proofs.due.Due.next_of.Goals.{else-gap-ne0-via-then-gap-ne0+else-gap-gaps}
use Rattle.worm_script.proofs.due.Due.next_of.Goals.{else-gap-ne0-via-else-gap-ne0}

pub returns-then-gap-gaps : goal.returns-then-gap-gaps
returns-then-gap-gaps c =
    let entries = c.args.self.now in
    let gaps : AreGaps (sources_of entries) c.self.inside.gaps.now =
    subst (λ (es : List Entry). AreGaps (sources_of es) c.self.inside.gaps.now) c.self.view_is c.self.invariant.0 in
    let place = c.args.i + get_or c.self.inside.gaps.now c.args.i 0 in
    let many = as_many entries in
    let all = gaps.all in
    let below = c.requires in
    is_next (get_or (sources_of entries) c.args.i 0) entries (c.args.i + 1) place (grind arith) (grind arith)
    (gaps.more c.args.i (omega arith) (grind arith))

pub returns-else-gap-ne0 : goal.returns-else-gap-ne0
returns-else-gap-ne0 c =
    let entries = c.args.self.now in
    let gaps : AreGaps (sources_of entries) c.self.inside.gaps.now =
    subst (λ (es : List Entry). AreGaps (sources_of es) c.self.inside.gaps.now) c.self.view_is c.self.invariant.0 in
    let gap = get_or c.self.inside.gaps.now c.args.i 0 in
    let many = as_many entries in
    let all = gaps.all in
    let below = c.requires in
    elim c.else-gap-ne0.branch [
      | else-gap-ne0-via-then-gap-ne0+else-gap-gaps w ↦
          is_none (get_or (sources_of entries) c.args.i 0) entries (c.args.i + 1) (c.args.i + gap) (grind arith)
          (gaps.more c.args.i (omega arith) (grind arith))
      | else-gap-ne0-via-else-gap-ne0 w ↦
          is_none (get_or (sources_of entries) c.args.i 0) entries (c.args.i + 1) (length (sources_of entries))
          (omega arith) (gaps.last c.args.i (omega arith) w.if-gap-ne0.false)
    ]
