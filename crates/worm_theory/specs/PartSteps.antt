-- The moves of a node that was split off: where each may be, and what it does.
use Rattle.std.specs.Prelude.{◌≡◌, ℕ, ◌+◌, ◌-◌, ◌<◌, List, [], ◌∷◌, ◌++◌, length, IsSome}
use Rattle.worm_flit.specs.declared.Flit.{Flit}
use Rattle.worm_flit.specs.Stamps.{with_channel}
use Rattle.worm_records.specs.declared.InRecord.{InRecord}
use Rattle.worm_records.specs.declared.InRecord.TheVariants.{Idle, Waiting, Active}
use Rattle.worm_theory.specs.Shape.{Shape}
use Rattle.worm_theory.specs.Network.{Network, put2, put3}
use Rattle.worm_theory.specs.Steps.{Step, Offer, CloseLane, Feed, Route, Grant, Send, Take, GiveCredit, TakeCredit}
use Rattle.worm_theory.specs.Steps.{IsThere, Enabled, after, sent_by, fed}
use Rattle.worm_theory.specs.Parts.{Parts}
use Rattle.worm_theory.specs.Links.{MayArrive}

-- a step of the network within a node; a flit that comes off a link goes into its buffer; a credit that comes off a
-- credit line is counted
pub data PartStep : Type 0 where
  Own : Step → PartStep
  Arrive : (node port : ℕ) → Flit → PartStep
  Return : (node port vc : ℕ) → PartStep

-- the step takes nothing from another node; those that do are Arrive and Return
abbrev pub IsLocal : Step → Type 0
IsLocal (Offer x lane words) = Unit {0}
IsLocal (CloseLane x lane) = Unit {0}
IsLocal (Feed x k) = Unit {0}
IsLocal (Route x p v) = Unit {0}
IsLocal (Grant x p v c) = Unit {0}
IsLocal (Send x p v) = Unit {0}
IsLocal (Take x p) = ⊥
IsLocal (GiveCredit x p v) = Unit {0}
IsLocal (TakeCredit x o) = ⊥

-- the place of a move is there
abbrev pub IsPartThere : Shape → PartStep → Type 0
IsPartThere s (Own step) = IsThere s step
IsPartThere s (Arrive x p f) = (x < s.nodes) × IsSome (s.neighbour x p)
IsPartThere s (Return x o c) = (x < s.nodes) × IsSome (s.neighbour x o)

-- The move can be made now. A credit is counted whatever the count is: that there is room for it is known only of both
-- ends.
abbrev pub PartEnabled : Shape → Network → Parts → PartStep → Type 0
PartEnabled s old parts (Own step) = IsLocal step × Enabled s parts.near step
PartEnabled s old parts (Arrive x p f) =
    MayArrive s old parts x p (f ∷ []) × (length (parts.near.buffer x p f.vc) < s.depth)
PartEnabled s old parts (Return x o c) = Unit {0}

abbrev pub with_near : Parts → Network → Parts
with_near parts near = record parts { near = near }

-- the flit goes into its buffer
abbrev pub arrive : Parts → ℕ → ℕ → Flit → Parts
arrive parts x p f = record parts {
  near = record parts.near { buffer = put3 parts.near.buffer x p f.vc (parts.near.buffer x p f.vc ++ f ∷ []) };
  arrived = put2 parts.arrived x p (parts.arrived x p ++ f ∷ []);
}

-- the credit is counted
abbrev pub return_credit : Parts → ℕ → ℕ → ℕ → Parts
return_credit parts x o c = with_near parts (record parts.near {
  credits = put3 parts.near.credits x o c (parts.near.credits x o c + 1);
  credit_list = put2 parts.near.credit_list x o (parts.near.credit_list x o ++ c ∷ []);
})

-- a flit is fed, and so arrives from the source
abbrev pub feed_part : Shape → Parts → ℕ → ℕ → List Flit → Parts
feed_part s parts x k [] = parts
feed_part s parts x k (f ∷ rest) = record parts {
  near = fed s parts.near x k (f ∷ rest);
  arrived = put2 parts.arrived x s.terminal (parts.arrived x s.terminal ++ with_channel f (s.first k) ∷ []);
}

-- a flit is sent, and so departs from its buffer
abbrev pub send_part : Shape → Parts → ℕ → ℕ → ℕ → InRecord → List Flit → Parts
send_part s parts x p v Idle fs = parts
send_part s parts x p v (Waiting o) fs = parts
send_part s parts x p v (Active o c) [] = parts
send_part s parts x p v (Active o c) (f ∷ rest) = record parts {
  near = sent_by s parts.near x p v o c f rest;
  departed = put2 parts.departed x p (parts.departed x p ++ f ∷ []);
}

-- a credit owed is given
abbrev pub give_part : Parts → ℕ → ℕ → ℕ → Parts
give_part parts x p v = record parts {
  near = record parts.near { owed = put3 parts.near.owed x p v (parts.near.owed x p v - 1) };
  given = put2 parts.given x p (parts.given x p ++ v ∷ []);
}

abbrev pub own_after : Shape → Parts → Step → Parts
own_after s parts (Offer x lane words) = with_near parts (after s parts.near (Offer x lane words))
own_after s parts (CloseLane x lane) = with_near parts (after s parts.near (CloseLane x lane))
own_after s parts (Feed x k) = feed_part s parts x k (parts.near.unfed x k)
own_after s parts (Route x p v) = with_near parts (after s parts.near (Route x p v))
own_after s parts (Grant x p v c) = with_near parts (after s parts.near (Grant x p v c))
own_after s parts (Send x p v) = send_part s parts x p v (parts.near.in_record x p v) (parts.near.buffer x p v)
own_after s parts (Take x p) = parts
own_after s parts (GiveCredit x p v) = give_part parts x p v
own_after s parts (TakeCredit x o) = parts

-- The nodes after the move, where it can be made.
abbrev pub part_after : Shape → Parts → PartStep → Parts
part_after s parts (Own step) = own_after s parts step
part_after s parts (Arrive x p f) = arrive parts x p f
part_after s parts (Return x o c) = return_credit parts x o c

-- the moves of a list, one after another, each there and enabled
abbrev pub PartStepsLead : Shape → Network → Parts → List PartStep → Parts → Type 0
PartStepsLead s old parts [] new = new ≡ parts
PartStepsLead s old parts (step ∷ steps) new =
    IsPartThere s step × PartEnabled s old parts step × PartStepsLead s old (part_after s parts step) steps new
