-- The order of a script's entries, and those of a turn and of a node.
use Rattle.std.specs.Prelude.{ℕ, ◌≡◌, ◌≢◌, ◌≤◌, ◌+◌, ◌-◌, ◌<◌, ◌==◌, List, [], ◌∷◌}
use Rattle.std.specs.Prelude.{All, Option, None, Some, length, drop, filter, map, slice_index, slice_index_or}
use Rattle.worm_flit.specs.declared.Lane.{Lane}
use Rattle.worm_script.specs.declared.entry.Act.{Act}
use Rattle.worm_script.specs.declared.entry.Act.TheVariants.{Offer, Close}
use Rattle.worm_script.specs.declared.entry.Entry.{Entry}

-- the turns of the entries, one after another
abbrev pub turns_of : List Entry → List ℕ
turns_of entries = map (λ (e : Entry). e.turn) entries

-- the last entry's turn, or 0 where there is none
abbrev pub last_turn : List Entry → ℕ
last_turn entries = slice_index (turns_of entries) (length entries - 1)

-- turns never fall
abbrev pub AreInOrder : List Entry → Type 0
AreInOrder entries = (i : ℕ) → i + 1 < length entries
    → slice_index (turns_of entries) i ≤ slice_index (turns_of entries) (i + 1)

-- the lane of which an entry speaks
abbrev pub lane_of : Act → Lane
lane_of (Offer packet) = packet.lane
lane_of (Close lane) = lane

-- a packet has 1 to 32 words, as every packet has
abbrev pub HasWords : Act → Type 0
HasWords (Offer packet) = (1 ≤ length packet.words) × (length packet.words ≤ 32)
HasWords (Close lane) = Unit {0}

abbrev pub HaveWords : List Entry → Type 0
HaveWords entries = All (λ (e : Entry). HasWords e.act) entries

-- the entries of a turn, in their order
abbrev pub due : ℕ → List Entry → List Entry
due turn entries = filter (λ (e : Entry). e.turn == turn) entries

-- those whose lane begins at a node, in their order
abbrev pub begun_at : ℕ → List Entry → List Entry
begun_at x entries = filter (λ (e : Entry). (lane_of e.act).src == x) entries

-- the nodes whose sources entries ask, one after another
abbrev pub sources_of : List Entry → List ℕ
sources_of entries = map (λ (e : Entry). (lane_of e.act).src) entries

-- the next entry at or past a place that asks a node's source, if there is one: with those past it, it is all that do
abbrev pub IsNext : ℕ → List Entry → ℕ → Option ℕ → Type 0
IsNext x entries from None = begun_at x (drop from entries) ≡ []
IsNext x entries from (Some i) =
    (i < length entries) × ((e : Entry) → begun_at x (drop from entries)
    ≡ slice_index_or entries i e ∷ begun_at x (drop (i + 1) entries))

-- in a list of sources, the place of the next at or past a place that is a node's, or a place past them all where none
-- is
pub record IsPlaceOfNext (x : ℕ) (sources : List ℕ) (from i : ℕ) : Type 0 where
  pub asks : i < length sources → slice_index sources i ≡ x
  pub none_before : (k : ℕ) → from ≤ k → k < i → k < length sources → slice_index sources k ≢ x

-- from each place, how many places on the next of the same source stands: 0, or past them all, where none does
pub record AreGaps (sources gaps : List ℕ) : Type 0 where
  pub all : length gaps ≡ length sources
  pub last : (i : ℕ) → i < length sources → slice_index gaps i ≡ 0
      → IsPlaceOfNext (slice_index sources i) sources (i + 1) (length sources)
  pub more : (i : ℕ) → i < length sources → 0 < slice_index gaps i
      → IsPlaceOfNext (slice_index sources i) sources (i + 1) (i + slice_index gaps i)

-- by node, how many there are up to the last that is its source, 0 where none is
pub record AreLasts (sources lasts : List ℕ) : Type 0 where
  pub within : (x : ℕ) → x < 256 → slice_index lasts x ≤ length sources
  pub asks : (x : ℕ) → x < 256 → 0 < slice_index lasts x → slice_index sources (slice_index lasts x - 1) ≡ x
  pub none_behind : (x k : ℕ) → x < 256 → slice_index lasts x ≤ k → k < length sources → slice_index sources k ≢ x

-- entries in order, whose packets have words, and from each where the next one stands that asks the same source
pub record IsScript (entries : List Entry) (gaps lasts : List ℕ) : Type 0 where
  pub in_order : AreInOrder entries
  pub words : HaveWords entries
  pub nexts : AreGaps (sources_of entries) gaps
  pub inner : (i : ℕ) → i < length entries → i + slice_index gaps i < length entries
  pub last : AreLasts (sources_of entries) lasts
