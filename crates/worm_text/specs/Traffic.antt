-- What each line of a traffic text has to be, after the lines before it.
use Rattle.std.specs.Prelude.{ℕ, suc, ◌-◌, ◌&&◌, List, [], ◌∷◌, ◌++◌, length, Bool, false, not, Option, Some, None}
use Rattle.std.specs.Prelude.{Result, Ok, Err, ◌==◌, nat_le, nat_lt, if◌then◌else◌, codes, slice_index, fold}
use Rattle.std.specs.Ordering.{nat_cmp, ordering_then}
use Rattle.std.specs.declared.cmp.Ordering.{Ordering}
use Rattle.std.specs.Str.{bytes_eq}
use Rattle.std.specs.List.{list_any, position_or_len}
use Rattle.worm_mesh.specs.Address.{node_count}
use Rattle.worm_text.specs.declared.fault.Why.{Why}
use Rattle.worm_text.specs.declared.fault.Why.TheVariants.{Header, Missing, Name, UnknownWord, OrderOfTurns, LaneClosed}
use Rattle.worm_text.specs.declared.fault.Why.TheVariants.{TooMany, ManyChannels, NoEnd, AfterEnd}
use Rattle.worm_text.specs.declared.fault.TextFault.{TextFault}
use Rattle.worm_flit.specs.declared.Lane.{Lane}
use Rattle.worm_term.specs.Lanes.{lane_of}
use Rattle.worm_script.specs.declared.entry.Act.{Act}
use Rattle.worm_script.specs.declared.entry.Act.TheVariants as act
use Rattle.worm_script.specs.declared.entry.Entry.{Entry}
use Rattle.worm_text.specs.Lines.{cut, space, newline}
use Rattle.worm_text.specs.Network.{Network}
use Rattle.worm_text.specs.Reading.{◌>>=◌, checked, number_at, no_more}
use Rattle.worm_text.specs.Reader.{at_line}

-- an entry, without where it lies in memory
pub data Said : Type 0 where
  send : (turn : ℕ) (lane : Lane) (words : List ℕ) → Said
  close : (turn : ℕ) (lane : Lane) → Said

abbrev pub said : ℕ → Act → Said
said turn (act.Offer p) = send turn p.lane p.words
said turn (act.Close lane) = close turn lane

abbrev pub entry_view : Entry → Said
entry_view e = said e.turn e.act

abbrev pub turn_of : Said → ℕ
turn_of (send turn lane words) = turn
turn_of (close turn lane) = turn

abbrev pub same_lane : Lane → Lane → Bool
same_lane a b = (a.src == b.src) && (a.dst == b.dst) && (a.class == b.class)

abbrev pub closes : Lane → Said → Bool
closes lane (send turn other words) = false
closes lane (close turn other) = same_lane lane other

-- lanes in order
abbrev pub lane_cmp : Lane → Lane → Ordering
lane_cmp a b = ordering_then (nat_cmp a.src b.src) (ordering_then (nat_cmp a.dst b.dst) (nat_cmp a.class b.class))

-- whether an entry closed the lane
abbrev pub is_closed : List Said → Lane → Bool
is_closed entries lane = list_any (closes lane) entries

-- the turn of the last entry
abbrev pub last_turn : List Said → ℕ
last_turn entries = fold (λ _ e. turn_of e) 0 entries

-- ---- fields

-- a class, by its name
abbrev pub class_at : List (List ℕ) → List (List ℕ) → Result (ℕ × List (List ℕ)) Why
class_at names [] = Err Missing
class_at names (f ∷ fs) =
    let at = position_or_len (λ name. bytes_eq name f) names in
    if nat_lt at (length names) then Ok (at, fs) else Err Name

-- a turn, not before that of the entry before
unfoldable pub turn_at : ℕ → List (List ℕ) → Result (ℕ × List (List ℕ)) Why
turn_at last fields = do
  turn ← number_at 0 1000000 fields
  checked (nat_le last turn.0) OrderOfTurns turn

unfoldable pub lane_at : Network → List (List ℕ) → Result (Lane × List (List ℕ)) Why
lane_at n fields = do
  src ← number_at 0 (node_count n.radices - 1) fields
  dst ← number_at 0 (node_count n.radices - 1) src.1
  class ← class_at n.classes dst.1
  Ok (lane_of src.0 dst.0 class.0, class.1)

-- the words behind these: one at least, 32 at most
unfoldable pub words_at : List ℕ → List (List ℕ) → Result (List ℕ) Why
words_at before [] = if nat_lt 0 (length before) then Ok before else Err Missing
words_at before (f ∷ fs) = do
  room ← checked (nat_lt (length before) 32) TooMany before
  word ← number_at 0 4294967295 (f ∷ fs)
  words_at (before ++ word.0 ∷ []) fs

-- ---- lines

abbrev pub is_open : (Lane → Bool) → Lane × List (List ℕ) → Result (Lane × List (List ℕ)) Why
is_open closed lane = checked (not (closed lane.0)) LaneClosed lane

unfoldable pub send_at : Network → ℕ → (Lane → Bool) → List (List ℕ) → Result Said Why
send_at n last closed fields = do
  turn ← turn_at last fields
  lane ← lane_at n turn.1
  _ ← is_open closed lane
  words ← words_at [] lane.1
  Ok (send turn.0 lane.0 words)

unfoldable pub close_at : Network → ℕ → (Lane → Bool) → List (List ℕ) → Result Said Why
close_at n last closed fields = do
  turn ← turn_at last fields
  lane ← lane_at n turn.1
  _ ← checked (slice_index n.channels lane.0.class == 1) ManyChannels lane
  _ ← is_open closed lane
  _ ← no_more lane.1
  Ok (close turn.0 lane.0)

-- what an entry line or the end line says, where so many entries stand before it
unfoldable pub entry_at : Network → ℕ → ℕ → (Lane → Bool) → List (List ℕ) → Result (Option Said) Why
entry_at n count last closed [] = Err Missing
entry_at n count last closed (f ∷ fs) =
    if bytes_eq f (codes "send") then (checked (nat_lt count 10000) TooMany f >>= λ _. send_at n last closed fs >>=
    λ e. Ok (Some e))
    else if bytes_eq f (codes "close") then (checked (nat_lt count 10000) TooMany f >>=
    λ _. close_at n last closed fs >>= λ e. Ok (Some e))
    else if bytes_eq f (codes "end") then (no_more fs >>= λ _. Ok None)
    else Err UnknownWord

-- behind the end line
abbrev pub after_end : List Said → ℕ → List (List ℕ) → Result (List Said) TextFault
after_end entries line ([] ∷ []) = Ok entries
after_end entries line pieces = Err (at_line line AfterEnd)

-- the entries before this line, and the pieces from it on
abbrev pub read_entries : Network → List Said → ℕ → List (List ℕ) → Result (List Said) TextFault
read_entries n entries line [] = Err (at_line line NoEnd)
read_entries n entries line (rest ∷ []) = Err (at_line line NoEnd)
read_entries n entries line (l ∷ next ∷ more) =
    elim (entry_at n (length entries) (last_turn entries) (is_closed entries) (cut space l)) [
      | Ok (Some e) ↦ read_entries n (entries ++ e ∷ []) (suc line) (next ∷ more)
      | Ok None ↦ after_end entries (suc line) (next ∷ more)
      | Err why ↦ Err (at_line line why)
    ]

abbrev pub read_header : Network → List (List ℕ) → Result (List Said) TextFault
read_header n [] = Err (at_line 1 NoEnd)
read_header n (rest ∷ []) = Err (at_line 1 NoEnd)
read_header n (l ∷ next ∷ more) = if bytes_eq l (codes "wormtraffic 1") then read_entries n [] 2 (next ∷ more)
    else Err (at_line 1 Header)

-- the whole text
abbrev pub traffic_of : Network → List ℕ → Result (List Said) TextFault
traffic_of n bytes = read_header n (cut newline bytes)
