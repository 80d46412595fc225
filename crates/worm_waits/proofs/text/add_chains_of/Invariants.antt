use Rattle.std.proofs.Common.{◌≡◌, ◌++◌, take, flat_map, string_bytes}
use Rattle.worm_waits.specs.Text.{line_if_of}
use Rattle.worm_waits.proofs.text.add_chains_of.Given as goal

abbrev pub invariant-loop-chain : goal.invariant-loop-chain
invariant-loop-chain l =
    string_bytes l.text
    ≡ string_bytes l.fn.text ++ flat_map (line_if_of l.waits l.behind) (take l.chain-index l.chains)
