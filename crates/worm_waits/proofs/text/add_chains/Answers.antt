use Rattle.std.proofs.Common.{◌-◌, ℕ, length, flat_map, string_bytes}
use Rattle.worm_waits.specs.Text.{line_if_of}
use Rattle.worm_picture.proofs.Pieces.{one_number_more}
use Rattle.worm_waits.proofs.text.add_chains.Goals as goal

pub loop-less-preserved : goal.loop-less-preserved
loop-less-preserved c =
    let waits = c.args.waits.now in
    one_number_more (λ (k : ℕ). flat_map (line_if_of waits (length waits - k)) c.args.chains.now)
    (string_bytes c.args.text.now) c.loop-less.less (string_bytes c.loop-less.text)
    (string_bytes c.add_chains_of.new.text) c.loop-less.invariant c.in_ok-add_chains_of.ensures
