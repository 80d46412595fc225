-- What a sound network says in the words of flits and records: worms, joined over a link, and records that fit them
-- (Dally and Towles, chapters 13 and 16).
use Rattle.std.specs.Prelude.{◌≡◌, ℕ, true, cond, ◌==◌, List, [], ◌∷◌, ◌++◌, Option, Some, None, IfSome, IsSomeAnd}
use Rattle.std.specs.Bool.{MatchBool}
use Rattle.std.specs.Option.{option_to_list}
use Rattle.worm_flit.specs.declared.Flit.{Flit}
use Rattle.worm_flit.specs.Kinds.{closes}
use Rattle.worm_flit.specs.Stamps.{bare, on_channel}
use Rattle.worm_flit.specs.Worms.{Opens, Leads, IsWorm, latest}
use Rattle.worm_theory.specs.Shape.{Shape, Owns}
use Rattle.worm_theory.specs.Network.{Network}
use Rattle.worm_records.specs.declared.InRecord.{InRecord}
use Rattle.worm_records.specs.declared.InRecord.TheVariants.{Idle, Waiting, Active}
use Rattle.worm_theory.specs.Steps.{FrontIs, IsActiveAt}
use Rattle.worm_theory.specs.Sound.{unfed_on}
use Rattle.worm_theory.specs.Cut.{at_link}

-- what the buffer at the end of the link by port o of node y, and then the link, hold of one channel
abbrev pub channel_holds : Shape → Network → ℕ → ℕ → ℕ → ℕ → List Flit
channel_holds s net y o x v = net.buffer x (s.opposite o) v ++ on_channel v (net.out y o)

-- nothing came, or what came last ended a packet
abbrev pub IsDone : Option Flit → Type 0
IsDone last = IfSome last (λ f. closes f.kind ≡ true)

-- a channel ends in what its holder sent last, if that left a packet unfinished; else in no unfinished packet
abbrev pub EndsAt : Option Flit → Option Flit → Type 0
EndsAt last None = IsDone last
EndsAt last (Some g) = MatchBool (closes g.kind) (IsDone last) (IsSomeAnd last (λ f. bare f ≡ bare g))

-- what the holder of an output channel sent last
abbrev pub held_last : Network → ℕ → Option (ℕ × ℕ) → Option Flit
held_last net y None = None
held_last net y (Some h) = net.last_out y h.0 h.1

-- per link and channel: what left the buffer last, the buffer and the link are one worm, and it ends at the holder's
-- last flit
pub record Joint (s : Shape) (net : Network) (y o x v : ℕ) : Type 0 where
  pub worm : IsWorm (option_to_list (net.last_out x (s.opposite o) v) ++ channel_holds s net y o x v)
  pub ends : EndsAt (latest (option_to_list (net.last_out x (s.opposite o) v) ++ channel_holds s net y o x v))
      (held_last net y (net.holder y o v))

-- the first of the list, if there is one, has this property
abbrev pub IfFront : List Flit → (Flit → Type 0) → Type 0
IfFront [] P = Unit {0}
IfFront (f ∷ fs) P = P f

-- between packets: the next flit opens one, and a record that is not idle is for the front of its buffer
abbrev pub RecordBetween : Shape → ℕ → InRecord → List Flit → Type 0
RecordBetween s x Idle fs = Unit {0}
RecordBetween s x (Waiting o) fs = FrontIs fs (λ f. s.next_port x f.lane.dst ≡ o)
RecordBetween s x (Active o c) fs = FrontIs fs (λ f. (s.next_port x f.lane.dst ≡ o) × Owns s f.lane.class c)

-- within the packet of flit g: the next flit is its next, and the record is active for it
abbrev pub RecordWithin : Shape → ℕ → InRecord → Flit → Type 0
RecordWithin s x r g = IsActiveAt r (λ o c. (s.next_port x g.lane.dst ≡ o) × Owns s g.lane.class c)

-- what is in an input channel's buffer, and then what comes to it: from its link, or at the terminal from the source
abbrev pub awaited : Shape → Network → ℕ → ℕ → ℕ → List Flit
awaited s net x p v = net.buffer x p v ++ cond (p == s.terminal) (unfed_on s net x v)
    (at_link (s.neighbour x p) (λ y. on_channel v (net.out y (s.opposite p))))

-- what may come next on a channel whose last flit was this one, if any
abbrev pub ComesNext : Option Flit → List Flit → Type 0
ComesNext None coming = IfFront coming Opens
ComesNext (Some g) coming = Leads g coming

-- the record fits what left its buffer last, and what is in it
abbrev pub RecordFits : Shape → ℕ → InRecord → Option Flit → List Flit → Type 0
RecordFits s x r None fs = RecordBetween s x r fs
RecordFits s x r (Some g) fs = MatchBool (closes g.kind) (RecordBetween s x r fs) (RecordWithin s x r g)
