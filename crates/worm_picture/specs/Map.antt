-- The map of a network for a terminal: a cell for each node, and below them the fullest buffers.
use Rattle.std.specs.Prelude.{ℕ, ◌≡◌, ◌+◌, ◌-◌, ◌*◌, ◌&&◌, Bool, false, ◌==◌, nat_lt, if◌then◌else◌, List, [], ◌∷◌}
use Rattle.std.specs.Prelude.{◌++◌, length, take, codes, decimal, Option, Some, None, slice_index}
use Rattle.std.specs.Prelude.{IsPermutation}
use Rattle.std.specs.Option.{option_map_or}
use Rattle.std.specs.List.{flat_map, list_any, range_with_len, repeat}
use Rattle.worm_mesh.specs.Address.{node_count, digit_of}
use Rattle.worm_rows.specs.declared.shape.Shape.{Shape}
use Rattle.worm_rows.specs.declared.rows.Row.{Row}
use Rattle.worm_rows.specs.Rules.{IsReport}
use Rattle.worm_picture.specs.Nodes.{AreViews, held_in, shown}
use Rattle.worm_picture.specs.Packets.{tail_of}
use Rattle.worm_picture.specs.Scene.{exit_port, seen_flits}
use Rattle.worm_picture.specs.declared.scene.Flit.{Flit}
use Rattle.worm_picture.specs.declared.views.Station.{Station}
use Rattle.worm_picture.specs.declared.views.NodeView.{NodeView}

-- a digit of a node's address, and a dimension's radix; in a dimension that the mesh has not there is one digit, 0
abbrev pub digit_at : List ℕ → ℕ → ℕ → ℕ
digit_at mesh node dim =
    if nat_lt dim (length mesh) && nat_lt node (node_count mesh) then digit_of mesh node dim else 0

abbrev pub radix_at : List ℕ → ℕ → ℕ
radix_at mesh dim = if nat_lt dim (length mesh) then slice_index mesh dim else 1

-- ---- a node's cell

-- the sign of an output port: to the sink, or down and up along each dimension
abbrev pub sign_of : ℕ → ℕ → List ℕ
sign_of dims port =
    if port == 2 * dims then codes "*"
    else if port == 0 then codes "<"
    else if port == 1 then codes ">"
    else if port == 2 then codes "^"
    else if port == 3 then codes "v"
    else if port == 4 then codes "-"
    else codes "+"

abbrev pub leaves_by : List ℕ → ℕ → Flit → Bool
leaves_by mesh port f = option_map_or (λ p. p == port) (exit_port mesh f) false

-- a flit in this buffer leaves by the port
abbrev pub is_left_by : List ℕ → ℕ → Station → Bool
is_left_by mesh port s = list_any (leaves_by mesh port) s.held.items

-- a flit in a buffer of the node does
abbrev pub is_way : List ℕ → ℕ → NodeView → Bool
is_way mesh port v = list_any (is_left_by mesh port) v.stations.items

-- the port's sign, where it does
abbrev pub way_text : List ℕ → NodeView → ℕ → List ℕ
way_text mesh v port = if is_way mesh port v then sign_of (length mesh) port else codes " "

-- a number in four columns; a point for 0
abbrev pub count_text : ℕ → List ℕ
count_text n = if n == 0 then codes "   ." else repeat (4 - length (decimal n)) (codes " ") ++ decimal n

abbrev pub ways_text : List ℕ → NodeView → List ℕ
ways_text mesh v = flat_map (way_text mesh v) (range_with_len 0 (2 * length mesh + 1))

-- how many flits the node's buffers hold, and by which ports they leave
abbrev pub cell : List ℕ → NodeView → List ℕ
cell mesh v = count_text (held_in v) ++ ways_text mesh v

-- ---- all cells

abbrev pub cell_in : List ℕ → ℕ → ℕ → NodeView → List ℕ
cell_in mesh slice row v =
    if (digit_at mesh v.node 1 == row) && (digit_at mesh v.node 2 == slice) then cell mesh v else []

-- a line has the nodes with these digits in the second and third dimension
abbrev pub cell_line : List ℕ → List NodeView → ℕ → ℕ → List ℕ
cell_line mesh views slice row = flat_map (cell_in mesh slice row) views ++ codes "\n"

-- a slice has a line for each digit of the second dimension
abbrev pub slice_lines : List ℕ → List NodeView → ℕ → List ℕ
slice_lines mesh views slice = flat_map (cell_line mesh views slice) (range_with_len 0 (radix_at mesh 1))

-- an empty line parts it from the one before
abbrev pub slice_text : List ℕ → List NodeView → ℕ → List ℕ
slice_text mesh views slice = (if slice == 0 then [] else codes "\n") ++ slice_lines mesh views slice

abbrev pub cells : List ℕ → List NodeView → List ℕ
cells mesh views = flat_map (slice_text mesh views) (range_with_len 0 (radix_at mesh 2))

-- ---- the fullest buffers

abbrev pub exit_text : List ℕ → Option ℕ → List ℕ
exit_text mesh None = []
exit_text mesh (Some port) =
    codes ", which leaves by port " ++ (decimal port ++ (codes " " ++ sign_of (length mesh) port))

-- a flit's lane, its packet and its place there
abbrev pub flit_text : Flit → List ℕ
flit_text f =
    codes ", at the front " ++ (decimal f.packet.lane.src ++ (codes " to " ++ (decimal f.packet.lane.dst
    ++ (codes " class " ++ (decimal f.packet.lane.class ++ (codes " packet " ++ (decimal f.packet.number
    ++ (codes " flit " ++ decimal f.index))))))))

-- the flit at the front, and where it goes
abbrev pub front_text : List ℕ → List Flit → List ℕ
front_text mesh [] = []
front_text mesh (f ∷ fs) = flit_text f ++ exit_text mesh (exit_port mesh f)

-- which buffer it is, and how many flits it holds
abbrev pub spot_text : Station → List ℕ
spot_text s =
    codes "node " ++ (decimal s.spot.node ++ (codes " port " ++ (decimal s.spot.port ++ (codes " channel "
    ++ (decimal s.spot.vc ++ (codes ": " ++ (decimal (length s.held.items) ++ codes " flits")))))))

abbrev pub buffer_line : List ℕ → Station → List ℕ
buffer_line mesh s = spot_text s ++ (front_text mesh s.held.items ++ codes "\n")

-- the buffer, if it holds so many flits
abbrev pub if_with : ℕ → Station → List Station
if_with n s = if length s.held.items == n then s ∷ [] else []

-- a node's buffers that hold so many, and those of several nodes
abbrev pub buffers_in : ℕ → NodeView → List Station
buffers_in n v = flat_map (if_with n) v.stations.items

abbrev pub buffers_with : List NodeView → ℕ → List Station
buffers_with views n = flat_map (buffers_in n) views

-- the buffers that are not empty, those with most flits first, and of those with as many the ones of lower nodes
abbrev pub by_fullness : ℕ → List NodeView → List Station
by_fullness depth views = flat_map (λ lack. buffers_with views (depth - lack)) (range_with_len 0 depth)

-- The first `room` of these buffers were listed, and so much room is left.
pub record ListsBuffers (mesh : List ℕ) (room : ℕ) (stations : List Station) (old new : List ℕ) (left : ℕ)
    : Type 0 where
  pub text : new ≡ old ++ flat_map (buffer_line mesh) (take room stations)
  pub left_is : left ≡ room - length stations

-- ---- the map

-- all cells, and the twelve fullest buffers
abbrev pub map_text : List ℕ → ℕ → List NodeView → List ℕ
map_text mesh depth views =
    cells mesh views
    ++ (codes "\nThe fullest buffers:\n" ++ flat_map (buffer_line mesh) (take 12 (by_fullness depth views)))

-- The map of a report. All nodes are looked at, with all flits of the report that are in buffers and on links, each
-- once, and no others.
pub record MapsRows (s : Shape) (depth : ℕ) (rows : List Row) (text : List ℕ) : Type 0 where
  pub views : List NodeView
  pub are_views : AreViews s rows (tail_of rows) views
  pub once : IsReport s rows → IsPermutation (seen_flits s.mesh rows) (shown views)
  pub text_is : text ≡ map_text s.mesh depth views
