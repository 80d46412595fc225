use Rattle.std.proofs.Common.{◌≡◌, ◌-◌, ◌++◌, length, flat_map, string_bytes}
use Rattle.worm_waits.specs.Chains.{behind, follow}
use Rattle.worm_waits.specs.Text.{next_text}
use Rattle.worm_waits.proofs.text.add_behind.Given as goal

abbrev pub invariant-loop-step : goal.invariant-loop-step
invariant-loop-step l =
    string_bytes l.text ++ flat_map next_text (follow l.waits (length l.waits - l._step) l.at)
    ≡ string_bytes l.fn.text ++ flat_map next_text (behind l.waits l.wait)
