use Rattle.std.proofs.Common.{ap, ◌++◌, ◌∙◌, ℕ, List, string_bytes, codes, flat_map}
use Rattle.worm_waits.specs.declared.chains.Chain.{Chain}
use Rattle.worm_waits.specs.Text.{chain_lines, wait_line}
use Rattle.worm_waits.proofs.Telling.{lines_by_length, put_together}
use Rattle.worm_waits.proofs.text.waits_text.Goals as goal

pub returns : goal.returns
returns c =
    let waits = c.args.waits.now in
    let lines = ap (λ (l : List Chain). chain_lines waits l) (c.as_slice.ensures.value ∙ c.in_ok-chains.ensures)
    ∙ lines_by_length waits in
    put_together (codes "Fronts that cannot go on:\n") (flat_map wait_line waits)
    (codes "\nChains, the longest first:\n") _ (string_bytes c.new-text.result) (string_bytes c.put.new.text)
    (string_bytes c.add_waits.new.text) (string_bytes c.put-2.new.text) (string_bytes c.add_chains.new.text)
    c.new-text.ensures.bytes c.in_ok-put.ensures c.in_ok-add_waits.ensures c.in_ok-put-2.ensures
    (c.in_ok-add_chains.ensures ∙ ap (λ (l : List ℕ). string_bytes c.put-2.new.text ++ l) lines)
