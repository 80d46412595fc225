use Rattle.std.proofs.Common.{◌≡◌, ◌≤◌, ◌+◌, ◌++◌, take, vec_len, vec_capacity}
use Rattle.worm_flit.specs.Packets.{packet_flits}
use Rattle.worm_term.proofs.queue.push_flits.Given as goal

-- the flits so far were appended, and there is room for the rest
abbrev pub invariant-loop-i : goal.invariant-loop-i
invariant-loop-i l =
    (l.flits.items ≡ l.fn.flits.items ++ take l.i (packet_flits l.packet.lane l.number l.packet.words))
    × (vec_len l.flits + l.count ≤ vec_capacity l.flits + l.i)
