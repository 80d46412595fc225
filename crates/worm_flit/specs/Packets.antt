-- The flits of a packet and of a close mark, as a source makes them: their channel number is their class; and a lane's
-- packets, one after another (Dally and Towles, chapter 12).
use Rattle.std.specs.Prelude.{ℕ, ◌+◌, ◌==◌, ◌<◌, ◌≤◌, Bool, true, false, List, [], ◌∷◌, ◌++◌, length, if◌then◌else◌}
use Rattle.worm_flit.specs.declared.Lane.{Lane}
use Rattle.worm_flit.specs.declared.Kind.{Kind}
use Rattle.worm_flit.specs.declared.Kind.TheVariants.{Head, Body, Tail, Single, Close}
use Rattle.worm_flit.specs.declared.Flit.{Flit}

-- what a contract sees of a packet
pub record PacketState : Type 0 where
  pub lane : Lane
  pub words : List ℕ

abbrev pub flit : Lane → ℕ → ℕ → Kind → ℕ → Flit
flit lane packet index kind word = record {
  lane = lane;
  packet = packet;
  index = index;
  kind = kind;
  vc = lane.class;
  word = word;
}

-- what follows a head: bodies, and the tail
abbrev pub later_flits : Lane → ℕ → ℕ → List ℕ → List Flit
later_flits lane packet index [] = []
later_flits lane packet index (w ∷ []) = flit lane packet index Tail w ∷ []
later_flits lane packet index (w ∷ v ∷ ws) =
    flit lane packet index Body w ∷ later_flits lane packet (index + 1) (v ∷ ws)

-- one single flit, or a head, bodies and a tail
abbrev pub packet_flits : Lane → ℕ → List ℕ → List Flit
packet_flits lane packet [] = []
packet_flits lane packet (w ∷ []) = flit lane packet 0 Single w ∷ []
packet_flits lane packet (w ∷ v ∷ ws) = flit lane packet 0 Head w ∷ later_flits lane packet 1 (v ∷ ws)

-- the kind of flit i of a packet of so many
abbrev pub kind_at : ℕ → ℕ → Kind
kind_at count i = if count == 1 then Single else (if i == 0 then Head else (if i + 1 == count then Tail else Body))

-- the mark that closes a lane, a packet of one flit
abbrev pub mark : Lane → ℕ → Flit
mark lane packet = flit lane packet 0 Close 0

-- n packets of 1 to 32 words and marks of a lane, numbered from 0, one after another; the flag says whether the last is
-- a mark
pub data History (lane : Lane) : ℕ → Bool → List Flit → Type 0 where
  fresh : History lane 0 false []
  packet : {n : ℕ} {fs : List Flit} (words : List ℕ) → 0 < length words → length words ≤ 32 → History lane n false fs
      → History lane (n + 1) false (fs ++ packet_flits lane n words)
  closed : {n : ℕ} {fs : List Flit} → History lane n false fs → History lane (n + 1) true (fs ++ mark lane n ∷ [])
