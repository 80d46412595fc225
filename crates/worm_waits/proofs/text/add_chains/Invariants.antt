use Rattle.std.proofs.Common.{◌≡◌, ◌-◌, ◌++◌, ℕ, length, flat_map, string_bytes}
use Rattle.std.specs.List.{range_with_len}
use Rattle.worm_waits.specs.Text.{line_if_of}
use Rattle.worm_waits.proofs.text.add_chains.Given as goal

abbrev pub invariant-loop-less : goal.invariant-loop-less
invariant-loop-less l =
    string_bytes l.text
    ≡ string_bytes l.fn.text
    ++ flat_map (λ (k : ℕ). flat_map (line_if_of l.waits (length l.waits - k)) l.chains) (range_with_len 0 l.less)
