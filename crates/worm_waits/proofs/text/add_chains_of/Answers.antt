use Rattle.std.proofs.Common.{rules, ◌<◌, length, refl, string_bytes}
use Rattle.worm_waits.specs.Text.{line_if_of}
use Rattle.worm_picture.proofs.Pieces.{one_piece_more}
use Rattle.worm_waits.proofs.text.add_chains_of.Goals as goal

pub loop-chain-preserved : goal.loop-chain-preserved
loop-chain-preserved c =
    let within : c.loop-chain.chain-index < length c.args.chains.now = search rules in
    one_piece_more (line_if_of c.args.waits.now c.args.behind) (string_bytes c.args.text.now) c.loop-chain.chain-index
    _ _ c.args.chains.now (string_bytes c.loop-chain.text) (string_bytes c.add_if_of.new.text) within refl
    c.loop-chain.invariant c.in_ok-add_if_of.ensures
