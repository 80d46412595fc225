-- How waits make chains: a packet waits for one that waits for another, and so on.
use Rattle.std.specs.Prelude.{ℕ, zero, suc, ◌-◌, ◌&&◌, Bool, not, ◌==◌, List, [], ◌∷◌, length, map, Option, Some, None}
use Rattle.std.specs.Option.{option_map}
use Rattle.std.specs.List.{filter, find, flat_map, list_any, range_with_len}
use Rattle.worm_rows.specs.declared.rows.PacketId.{PacketId}
use Rattle.worm_picture.specs.Packets.{same_packet}
use Rattle.worm_waits.specs.declared.waits.Reason.{Reason}
use Rattle.worm_waits.specs.declared.waits.Reason.TheVariants.{Held, NoCredit}
use Rattle.worm_waits.specs.declared.waits.Wait.{Wait}
use Rattle.worm_waits.specs.declared.chains.Chain.{Chain}

-- the packet that is waited for
abbrev pub cause : Reason → PacketId
cause (Held packet) = packet
cause (NoCredit packet) = packet

-- A flit behind flits of its own packet waits for none but that.
abbrev pub is_for_another : Wait → Bool
is_for_another w = not (same_packet (cause w.reason) w.flit.packet)

abbrev pub waits_as : PacketId → Wait → Bool
waits_as packet w = same_packet w.flit.packet packet && is_for_another w

abbrev pub waits_for : PacketId → Wait → Bool
waits_for packet w = same_packet (cause w.reason) packet && is_for_another w

-- the packet for which a packet waits, if it waits for another
abbrev pub next : List Wait → PacketId → Option PacketId
next waits packet = option_map (λ w. cause w.reason) (find (waits_as packet) waits)

-- From a packet on, each packet and then the one for which it waits, so many of them at most.
abbrev pub follow : List Wait → ℕ → Option PacketId → List PacketId
follow waits zero packet = []
follow waits (suc n) None = []
follow waits (suc n) (Some packet) = packet ∷ follow waits n (next waits packet)

-- the packets behind a front that waits: the one for which it waits, and on from there, as many as there are waits
abbrev pub behind : List Wait → Wait → List PacketId
behind waits w = follow waits (length waits) (Some (cause w.reason))

-- a chain begins at a front that waits for another packet, and for whose packet no other waits
abbrev pub begins : List Wait → Wait → Bool
begins waits w = is_for_another w && not (list_any (waits_for w.flit.packet) waits)

-- the fronts at which chains begin with so many packets behind the first
abbrev pub with_behind : List Wait → ℕ → List Wait
with_behind waits n = filter (λ w. length (behind waits w) == n) (filter (begins waits) waits)

-- the fronts at which chains begin, those of the longest first: with as many packets behind the first as there are
-- waits, then with one less, and so on
abbrev pub longest_first : List Wait → List Wait
longest_first waits = flat_map (λ k. with_behind waits (length waits - k)) (range_with_len 0 (length waits))

abbrev pub chain_of : List Wait → Wait → Chain
chain_of waits w = record { wait = w; behind = length (behind waits w) }

-- each front at which a chain begins, with its length
abbrev pub chains : List Wait → List Chain
chains waits = map (chain_of waits) (filter (begins waits) waits)
