use Rattle.std.proofs.Common.{◌≡◌, ◌++◌, ℕ, ◌-◌, List, append_assoc}
use Rattle.std.specs.Prelude.{codes, decimal}
use Rattle.std.specs.List.{join_with_byte}
use Rattle.worm_report.specs.declared.row.Row.TheVariants.{Total}
use Rattle.worm_report.specs.Rows.{space, row_fields}
use Rattle.worm_report.proofs.line.Line.total.Goals as goal

-- from the line's end to its front
sums_line : (injected delivered rest : ℕ) (a b c d e f old : List ℕ) → rest ≡ injected - delivered
    → a ≡ decimal rest ++ old → b ≡ codes " underway " ++ a → c ≡ decimal delivered ++ b
    → d ≡ codes " delivered " ++ c → e ≡ decimal injected ++ d → f ≡ codes "total injected " ++ e
    → f ≡ join_with_byte space (row_fields (Total injected delivered)) ++ old
sums_line injected delivered rest a b c d e f old er ea eb ec ed ee ef = simp append_assoc (cc)

pub returns : goal.returns
returns c =
    sums_line _ _ _ _ _ _ _ _ _ _ c.saturating_sub.ensures c.wide.ensures.number c.text.ensures.text
    c.wide-2.ensures.number c.text-2.ensures.text c.wide-3.ensures.number c.text-3.ensures.text
