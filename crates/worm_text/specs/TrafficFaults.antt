-- At which line a traffic text is refused, and at which line memory can run out.
use Rattle.std.specs.Prelude.{◌≡◌, ℕ, ◌+◌, ◌<◌, ◌≤◌, List, [], ◌∷◌, ◌++◌, length, map, codes, Result, Ok, Err, ◌⊎◌}
use Rattle.worm_text.specs.declared.fault.Why.TheVariants.{NoMemory}
use Rattle.worm_text.specs.declared.fault.TextFault.{TextFault}
use Rattle.worm_text.specs.Lines.{finished}
use Rattle.worm_text.specs.Network.{Network}
use Rattle.worm_text.specs.Reader.{AreLines}
use Rattle.worm_text.specs.Traffic.{Said}
use Rattle.worm_text.specs.TrafficText.{entry_line, traffic_text, AreEntries}

-- The first k lines of the bytes are finished, and some accepted text begins with them.
pub record TrafficBegins (n : Network) (bytes : List ℕ) (k : ℕ) : Type 0 where
  pub lines : List (List ℕ)
  pub are_lines : AreLines lines
  pub count : length lines ≡ k
  pub rest : List ℕ
  pub first : bytes ≡ finished lines ++ rest
  pub entries : List Said
  pub keeps : AreEntries n [] entries
  pub more : List ℕ
  pub accepted : traffic_text n entries ≡ finished lines ++ more

-- One more than the longest run of finished lines with which some accepted text begins.
pub record IsTrafficFaultLine (n : Network) (bytes : List ℕ) (line : ℕ) : Type 0 where
  pub one_more : (before : ℕ) × (line ≡ before + 1) × TrafficBegins n bytes before
  pub longest : (k : ℕ) → TrafficBegins n bytes k → k < line

-- The bytes begin with the header and the lines of entries that keep the rules, of which the last is this line.
pub record IsEntryLine (n : Network) (bytes : List ℕ) (line : ℕ) : Type 0 where
  pub entries : List Said
  pub keeps : AreEntries n [] entries
  pub some : 1 ≤ length entries
  pub count : line ≡ length entries + 1
  pub rest : List ℕ
  pub first : bytes ≡ finished (codes "wormtraffic 1" ∷ map (entry_line n) entries) ++ rest

-- The same of the pieces behind the header.
pub record IsEntryPiece (n : Network) (pieces : List (List ℕ)) (line : ℕ) : Type 0 where
  pub entries : List Said
  pub keeps : AreEntries n [] entries
  pub some : 1 ≤ length entries
  pub count : line ≡ length entries + 1
  pub next : List ℕ
  pub others : List (List ℕ)
  pub first : pieces ≡ map (entry_line n) entries ++ next ∷ others

-- Memory ran out at a line of this kind.
abbrev pub RanOut : (ℕ → Type 0) → TextFault → Type 0
RanOut IsLine fault = (fault.why ≡ NoMemory) × IsLine fault.line

-- A call answered this, seen by view, unless memory ran out at a line of this kind.
abbrev pub AnswersOrFull : {X Y : Type 0} → (X → Y) → (ℕ → Type 0) → Result X TextFault → Result Y TextFault → Type 0
AnswersOrFull view IsLine (Ok x) answer = answer ≡ Ok (view x)
AnswersOrFull view IsLine (Err fault) answer = RanOut IsLine fault ⊎ (answer ≡ Err fault)
