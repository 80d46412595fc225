use Rattle.std.proofs.Common.{◌≡◌, ◌++◌, ◌∙◌, ℕ, List, OnOk, ap, string_bytes, subst}
use Rattle.std.specs.Fmt.{styled_decimal}
use Rattle.worm_picture.proofs.Padded.{in_four_columns}
use Rattle.worm_picture.proofs.map.add_count.Goals as goal

pub returns-else-held-eq0 : goal.returns-else-held-eq0
returns-else-held-eq0 c =
    subst (λ (l : List ℕ). OnOk c.write.result (string_bytes c.write.new.self ≡ string_bytes c.args.map.now ++ l))
    (ap (λ s. styled_decimal s c.args.held) c.laid_out.ensures
    ∙ in_four_columns c.args.held c.if-held-eq0.false) c.write.ensures.bytes
