-- How who waits for whom is written: a line for each front that cannot go on, and below it a line for each chain.
use Rattle.std.specs.Prelude.{ℕ, ◌≡◌, ◌-◌, ◌==◌, if◌then◌else◌, List, [], ◌++◌, length, codes, decimal, IsPermutation}
use Rattle.std.specs.List.{flat_map, range_with_len}
use Rattle.worm_rows.specs.declared.shape.Shape.{Shape}
use Rattle.worm_rows.specs.declared.rows.PacketId.{PacketId}
use Rattle.worm_rows.specs.declared.rows.Row.{Row}
use Rattle.worm_rows.specs.Rules.{IsReport}
use Rattle.worm_picture.specs.declared.views.NodeView.{NodeView}
use Rattle.worm_picture.specs.Nodes.{AreViews, shown}
use Rattle.worm_picture.specs.Packets.{tail_of}
use Rattle.worm_picture.specs.Scene.{seen_flits}
use Rattle.worm_waits.specs.declared.waits.Reason.{Reason}
use Rattle.worm_waits.specs.declared.waits.Reason.TheVariants.{Held, NoCredit}
use Rattle.worm_waits.specs.declared.waits.Wait.{Wait}
use Rattle.worm_waits.specs.declared.chains.Chain.{Chain}
use Rattle.worm_waits.specs.Waits.{Told, waits}
use Rattle.worm_waits.specs.Chains.{behind, longest_first}

-- a packet: its lane, and its number there
abbrev pub packet_text : PacketId → List ℕ
packet_text p =
    codes "lane " ++ (decimal p.lane.src ++ (codes " to " ++ (decimal p.lane.dst
    ++ (codes " class " ++ (decimal p.lane.class ++ (codes " packet " ++ decimal p.number))))))

abbrev pub reason_text : Reason → List ℕ
reason_text (Held packet) = codes "held by " ++ packet_text packet
reason_text (NoCredit packet) = codes "no credit behind " ++ packet_text packet

-- where a flit stands, its packet and its place there, the port that it wants, and why it cannot have it
abbrev pub wait_line : Wait → List ℕ
wait_line w =
    codes "node " ++ (decimal w.flit.spot.node ++ (codes " port " ++ (decimal w.flit.spot.port
    ++ (codes " channel " ++ (decimal w.flit.spot.vc ++ (codes ": " ++ (packet_text w.flit.packet
    ++ (codes " flit " ++ (decimal w.flit.index ++ (codes " wants port " ++ (decimal w.port
    ++ (codes ", " ++ (reason_text w.reason ++ codes "\n")))))))))))))

abbrev pub next_text : PacketId → List ℕ
next_text packet = codes " waits for " ++ packet_text packet

-- a front's packet, and each packet behind it
abbrev pub chain_line : List Wait → Wait → List ℕ
chain_line waits w = packet_text w.flit.packet ++ (flat_map next_text (behind waits w) ++ codes "\n")

-- a chain's line, if it has so many packets behind its first
abbrev pub line_if_of : List Wait → ℕ → Chain → List ℕ
line_if_of waits n c = if c.behind == n then chain_line waits c.wait else []

-- the lines of these chains, those with the most packets first
abbrev pub chain_lines : List Wait → List Chain → List ℕ
chain_lines waits chains =
    flat_map (λ k. flat_map (line_if_of waits (length waits - k)) chains) (range_with_len 0 (length waits))

-- a line for each wait, and then for each chain, the longest first
abbrev pub waits_text : List Wait → List ℕ
waits_text waits =
    codes "Fronts that cannot go on:\n" ++ (flat_map wait_line waits
    ++ (codes "\nChains, the longest first:\n" ++ flat_map (chain_line waits) (longest_first waits)))

-- of a report and its network, with the views of all nodes
abbrev pub told_of : Shape → List ℕ → ℕ → List Row → List NodeView → Told
told_of s channels depth rows views = record {
  mesh = s.mesh;
  channels = channels;
  depth = depth;
  rows = rows;
  tails = tail_of rows;
  views = views;
}

-- The text says who waits for whom in the network of a report. All nodes are looked at, with all flits of the report
-- that are in buffers and on links, each once, and no others.
pub record TellsWaits (s : Shape) (channels : List ℕ) (depth : ℕ) (rows : List Row) (text : List ℕ) : Type 0 where
  pub views : List NodeView
  pub are_views : AreViews s rows (tail_of rows) views
  pub once : IsReport s rows → IsPermutation (seen_flits s.mesh rows) (shown views)
  pub text_is : text ≡ waits_text (waits (told_of s channels depth rows views))
