-- The flits of a picture, read off its text.
use Rattle.std.specs.Prelude.{ℕ, ◌≡◌, Bool, not, ◌==◌, if◌then◌else◌, List, [], ◌∷◌, ◌++◌, drop, map, codes}
use Rattle.std.specs.Prelude.{Option, Some, None, string_bytes, IsPermutation}
use Rattle.std.specs.List.{starts_with, take_while, cons_option, list_all}
use Rattle.worm_rows.specs.declared.rows.PacketId.{PacketId}
use Rattle.worm_rows.specs.declared.rows.Row.{Row}
use Rattle.worm_rows.specs.declared.shape.Shape.{Shape}
use Rattle.worm_rows.specs.Rules.{IsReport}
use Rattle.worm_picture.specs.Nodes.{AreViews, shown}
use Rattle.worm_picture.specs.Packets.{tail_of}
use Rattle.worm_picture.specs.Scene.{seen_flits}
use Rattle.worm_picture.specs.declared.scene.Flit.{Flit}
use Rattle.worm_picture.specs.declared.svg.Svg.{Svg}
use Rattle.worm_picture.specs.declared.views.NodeView.{NodeView}
use Rattle.worm_picture.specs.Titles.{flit_title}

-- A flit is an element that begins with its title, which names the flit. It ends at the next tag (60).
abbrev pub name_at : List ℕ → Option (List ℕ)
name_at text =
    if starts_with (λ a b. a == b) text (codes "<g><title>")
    then Some (take_while (λ c. not (60 == c)) (drop 10 text)) else None

-- the names of the flits of a text, in their order
abbrev pub names : List ℕ → List (List ℕ)
names [] = []
names (c ∷ cs) = cons_option (name_at (c ∷ cs)) (names cs)

-- the title of a flit of a packet whose tail has this place
abbrev pub title_of : ℕ → Flit → List ℕ
title_of last f = flit_title (record { packet = f.packet; index = f.index; last = last })

-- a flit's name: its lane, its packet, its place there and that of the packet's tail
abbrev pub flit_name : (PacketId → ℕ) → Flit → List ℕ
flit_name tails f = title_of (tails f.packet) f

-- a text that names these, whatever follows
abbrev pub Names : List ℕ → List (List ℕ) → Type 0
Names text named = (rest : List ℕ) → names (text ++ rest) ≡ named ++ names rest

-- a text was added that names these
pub record Adds (old new : Svg) (named : List (List ℕ)) : Type 0 where
  pub text : List ℕ
  pub added : string_bytes new.text ≡ string_bytes old.text ++ text
  pub says : Names text named

-- a text without this character
abbrev pub lacks : ℕ → List ℕ → Bool
lacks k text = list_all (λ c. not (k == c)) text

-- The text has these flits, one by one, in this order, and no others.
abbrev pub PicturesFlits : List ℕ → (PacketId → ℕ) → List Flit → Type 0
PicturesFlits text tails flits = names text ≡ map (flit_name tails) flits

-- Of all nodes the flits that a report shows, channel by channel, the front first, and no others: of a report all flits
-- in buffers and on links, each once.
pub record PicturesRows (s : Shape) (rows : List Row) (text : List ℕ) : Type 0 where
  pub views : List NodeView
  pub are_views : AreViews s rows (tail_of rows) views
  pub once : IsReport s rows → IsPermutation (seen_flits s.mesh rows) (shown views)
  pub pictured : PicturesFlits text (tail_of rows) (shown views)
