-- A network, as its text says it, and the two formats of that text.
use Rattle.std.specs.Prelude.{◌≡◌, ℕ, ◌≤◌, List, [], ◌∷◌, ◌++◌, length, map, sum, All, Contains, codes}
use Rattle.std.specs.Prelude.{slice_index, true}
use Rattle.std.specs.Fmt.{decimal}
use Rattle.arrayvec.specs.ArrayString.{ArrayString}
use Rattle.worm_mesh.specs.Address.{node_count}
use Rattle.worm_region.specs.declared.config.Config.{Config}
use Rattle.worm_text.specs.declared.format.Format.{Format}
use Rattle.worm_text.specs.declared.format.Format.TheVariants.{One, Two}
use Rattle.worm_text.specs.Lines.{line, finished}
use Rattle.worm_text.specs.Numerals.{is_name}

-- what a configuration says, without where it lies in memory
pub record Network : Type 0 where
  pub radices : List ℕ
  pub depth : ℕ
  pub classes : List (List ℕ)
  pub channels : List ℕ

abbrev pub names_of : List ArrayString → List (List ℕ)
names_of classes = map (λ name. name.bytes) classes

abbrev pub view : Config → Network
view c = record {
  radices = c.radices.items;
  depth = c.depth;
  classes = names_of c.classes.items;
  channels = c.channels.items;
}

-- ---- the text

abbrev pub header_line : Format → List ℕ
header_line One = codes "wormnet 1"
header_line Two = codes "wormnet 2"

-- the line of a class of so many channels
abbrev pub class_line : Format → List ℕ → ℕ → List ℕ
class_line One name count = line (codes "class" ∷ name ∷ [])
class_line Two name count = line (codes "class" ∷ name ∷ codes "channels" ∷ decimal count ∷ [])

abbrev pub class_lines : Format → List (List ℕ) → List ℕ → List (List ℕ)
class_lines f (name ∷ names) (m ∷ ms) = class_line f name m ∷ class_lines f names ms
class_lines f names ms = []

abbrev pub mesh_lines : Format → List ℕ → List (List ℕ)
mesh_lines One radices = line (codes "radix" ∷ decimal (slice_index radices 0) ∷ []) ∷ line
    (codes "dims" ∷ decimal (length radices) ∷ []) ∷ []
mesh_lines Two radices = line (codes "dims" ∷ decimal (length radices) ∷ []) ∷ line
    (codes "radix" ∷ map decimal radices) ∷ []

abbrev pub depth_line : ℕ → List ℕ
depth_line depth = line (codes "depth" ∷ decimal depth ∷ [])

abbrev pub lines_of : Format → Network → List (List ℕ)
lines_of f n = (header_line f ∷ mesh_lines f n.radices) ++ depth_line n.depth ∷ class_lines f n.classes n.channels
    ++ codes "end" ∷ []

-- the one text of a network in a format
abbrev pub text : Format → Network → List ℕ
text f n = finished (lines_of f n)

-- ---- the rules

-- none of the names stands among those before it
abbrev pub AreNew : List (List ℕ) → List (List ℕ) → Type 0
AreNew before [] = Unit {0}
AreNew before (name ∷ names) = ¬ (Contains before name) × AreNew (before ++ name ∷ []) names

abbrev pub IsBetween : ℕ → ℕ → ℕ → Type 0
IsBetween low high n = (low ≤ n) × (n ≤ high)

-- in format 1 all dimensions have one radix
abbrev pub AreAlike : Format → List ℕ → Type 0
AreAlike One radices = All (λ k. k ≡ slice_index radices 0) radices
AreAlike Two radices = Unit {0}

-- in format 1 each class has one channel
abbrev pub AreSingle : Format → List ℕ → Type 0
AreSingle One channels = All (λ m. m ≡ 1) channels
AreSingle Two channels = Unit {0}

pub record IsMesh (f : Format) (radices : List ℕ) : Type 0 where
  pub dims : IsBetween 1 3 (length radices)
  pub each : All (IsBetween 2 16) radices
  pub nodes : node_count radices ≤ 256
  pub alike : AreAlike f radices

pub record AreClasses (f : Format) (names : List (List ℕ)) (channels : List ℕ) : Type 0 where
  pub count : length names ≤ 4
  pub spelled : All (λ name. is_name name ≡ true) names
  pub apart : AreNew [] names
  pub paired : length channels ≡ length names
  pub each : All (IsBetween 1 8) channels
  pub total : sum channels ≤ 8
  pub single : AreSingle f channels

-- the rules of a network text
pub record Keeps (f : Format) (n : Network) : Type 0 where
  pub mesh : IsMesh f n.radices
  pub depth : IsBetween 1 16 n.depth
  pub classes : AreClasses f n.classes n.channels
  pub some : 1 ≤ length n.classes
