use Rattle.std.proofs.Common.{◌≡◌, ◌++◌, take, flat_map, string_bytes}
use Rattle.worm_waits.specs.Text.{wait_line}
use Rattle.worm_waits.proofs.text.add_waits.Given as goal

abbrev pub invariant-loop-wait : goal.invariant-loop-wait
invariant-loop-wait l =
    string_bytes l.text ≡ string_bytes l.fn.text ++ flat_map wait_line (take l.wait-index l.waits)
