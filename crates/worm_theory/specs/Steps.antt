-- The nine steps of a network: where each is enabled, and what it does (Dally and Towles, chapters 13 and 16).
-- A step changes the network at one node, or at the two ends of one link.
use Rattle.std.specs.Prelude.{◌≡◌, ℕ, ◌+◌, ◌-◌, ◌<◌, ◌≤◌, Bool, true, false, cond, ◌==◌, ◌⊎◌, List, [], ◌∷◌, ◌++◌}
use Rattle.std.specs.Prelude.{length, Option, Some, None, is_some, IsSome}
use Rattle.std.specs.List.{count_by, list_any}
use Rattle.worm_flit.specs.declared.Lane.{Lane}
use Rattle.worm_flit.specs.declared.Flit.{Flit}
use Rattle.worm_flit.specs.Kinds.{opens, closes, is_mark}
use Rattle.worm_flit.specs.Stamps.{with_channel, of_lane}
use Rattle.worm_flit.specs.Packets.{packet_flits, mark}
use Rattle.worm_theory.specs.Shape.{Shape, HasLane, Owns, OwnsOne}
use Rattle.worm_theory.specs.Network.{Network, put2, put3}
use Rattle.worm_records.specs.declared.InRecord.{InRecord}
use Rattle.worm_records.specs.declared.InRecord.TheVariants.{Idle, Waiting, Active}

-- a source accepts a packet or a close mark, or feeds a flit; a packet is routed, is granted a channel, sends a flit; a
-- flit is taken from its link; a credit is given back, and taken
pub data Step : Type 0 where
  Offer : (node : ℕ) → Lane → (words : List ℕ) → Step
  CloseLane : (node : ℕ) → Lane → Step
  Feed : (node class : ℕ) → Step
  Route : (node port vc : ℕ) → Step
  Grant : (node port vc out_vc : ℕ) → Step
  Send : (node port vc : ℕ) → Step
  Take : (node port : ℕ) → Step
  GiveCredit : (node port vc : ℕ) → Step
  TakeCredit : (node port : ℕ) → Step

-- the node at which a step is
abbrev pub node_of : Step → ℕ
node_of (Offer x lane words) = x
node_of (CloseLane x lane) = x
node_of (Feed x k) = x
node_of (Route x p v) = x
node_of (Grant x p v c) = x
node_of (Send x p v) = x
node_of (Take x p) = x
node_of (GiveCredit x p v) = x
node_of (TakeCredit x o) = x

-- how many packets and marks these flits end, and whether a mark is among them
abbrev pub packets_in : List Flit → ℕ
packets_in fs = count_by (λ f. closes f.kind) fs

abbrev pub has_mark : List Flit → Bool
has_mark fs = list_any (λ f. is_mark f.kind) fs

-- what a lane's source accepted of it
abbrev pub lane_injected : Network → Lane → List Flit
lane_injected net lane = of_lane lane (net.injected lane.src lane.class)

-- the number of the lane's next packet or mark
abbrev pub next_number : Network → Lane → ℕ
next_number net lane = packets_in (lane_injected net lane)

-- the first of the list is there and has this property
abbrev pub FrontIs : {A : Type 0} → List A → (A → Type 0) → Type 0
FrontIs [] P = ⊥
FrontIs (x ∷ xs) P = P x

-- the record waits for a channel of an output port, or has one, and that has this property
abbrev pub IsWaitingAt : InRecord → (ℕ → Type 0) → Type 0
IsWaitingAt Idle P = ⊥
IsWaitingAt (Waiting o) P = P o
IsWaitingAt (Active o c) P = ⊥

abbrev pub IsActiveAt : InRecord → (ℕ → ℕ → Type 0) → Type 0
IsActiveAt Idle P = ⊥
IsActiveAt (Waiting o) P = ⊥
IsActiveAt (Active o c) P = P o c

-- the port leads to a node with this property
abbrev pub IsLinked : Option ℕ → (ℕ → Type 0) → Type 0
IsLinked None P = ⊥
IsLinked (Some y) P = P y

-- the node's source accepts on this lane
pub record Accepts (s : Shape) (net : Network) (node : ℕ) (lane : Lane) : Type 0 where
  pub own : lane.src ≡ node
  pub lane_there : HasLane s lane
  pub is_open : has_mark (lane_injected net lane) ≡ false
  pub room : next_number net lane < 65535

-- a mesh port or the terminal
abbrev pub IsPort : Shape → ℕ → ℕ → Type 0
IsPort s x p = (p ≡ s.terminal) ⊎ IsSome (s.neighbour x p)

-- the place of a step is there
abbrev pub IsThere : Shape → Step → Type 0
IsThere s (Offer x lane words) = x < s.nodes
IsThere s (CloseLane x lane) = x < s.nodes
IsThere s (Feed x k) = (x < s.nodes) × (k < s.classes)
IsThere s (Route x p v) = (x < s.nodes) × IsPort s x p × (v < s.vcs)
IsThere s (Grant x p v c) = (x < s.nodes) × IsPort s x p × (v < s.vcs) × (c < s.vcs)
IsThere s (Send x p v) = (x < s.nodes) × IsPort s x p × (v < s.vcs)
IsThere s (Take x p) = (x < s.nodes) × IsSome (s.neighbour x p)
IsThere s (GiveCredit x p v) = (x < s.nodes) × IsSome (s.neighbour x p) × (v < s.vcs)
IsThere s (TakeCredit x o) = (x < s.nodes) × IsSome (s.neighbour x o)

-- A flit may be sent from this buffer by channel c of port o: there is one; a link has a credit left; and the port by
-- which it came, if it came by one, can owe one credit more.
abbrev pub MaySend : Shape → Network → ℕ → ℕ → ℕ → ℕ → ℕ → Type 0
MaySend s net x p v o c = (0 < length (net.buffer x p v)) × ((o ≡ s.terminal) ⊎ (0 < net.credits x o c))
    × (IsSome (s.neighbour x p) → net.owed x p v < s.depth)

-- The step can be done now.
abbrev pub Enabled : Shape → Network → Step → Type 0
Enabled s net (Offer x lane words) = Accepts s net x lane × (0 < length words) × (length words ≤ 32)
-- a class that owns several channels keeps no order between its packets, so its lanes cannot be closed
Enabled s net (CloseLane x lane) = Accepts s net x lane × OwnsOne s lane.class
Enabled s net (Feed x k) = (0 < length (net.unfed x k)) × (length (net.buffer x s.terminal (s.first k)) < s.depth)
Enabled s net (Route x p v) = (net.in_record x p v ≡ Idle) × FrontIs (net.buffer x p v) (λ f. opens f.kind ≡ true)
Enabled s net (Grant x p v c) = IsWaitingAt (net.in_record x p v)
    (λ o. (net.holder x o c ≡ None) × FrontIs (net.buffer x p v) (λ f. Owns s f.lane.class c))
Enabled s net (Send x p v) = IsActiveAt (net.in_record x p v) (MaySend s net x p v)
Enabled s net (Take x p) = IsLinked (s.neighbour x p)
    (λ y. FrontIs (net.out y (s.opposite p)) (λ f. length (net.buffer x p f.vc) < s.depth))
Enabled s net (GiveCredit x p v) = 0 < net.owed x p v
Enabled s net (TakeCredit x o) = FrontIs (net.credit_list x o) (λ c. net.credits x o c < s.depth)

-- these flits offered
abbrev pub offered : Network → ℕ → ℕ → List Flit → Network
offered net x k fs = record net {
  injected = put2 net.injected x k (net.injected x k ++ fs);
  unfed = put2 net.unfed x k (net.unfed x k ++ fs);
}

-- the first flit not yet fed goes into the injection buffer of its class's first channel
abbrev pub fed : Shape → Network → ℕ → ℕ → List Flit → Network
fed s net x k [] = net
fed s net x k (f ∷ rest) = record net {
  unfed = put2 net.unfed x k rest;
  buffer = put3 net.buffer x s.terminal (s.first k)
      (net.buffer x s.terminal (s.first k) ++ with_channel f (s.first k) ∷ []);
}

-- the record waits for the port by which the route of the front packet leaves
abbrev pub routed : Shape → Network → ℕ → ℕ → ℕ → List Flit → Network
routed s net x p v [] = net
routed s net x p v (f ∷ rest) = record net { in_record = put3 net.in_record x p v (Waiting (s.next_port x f.lane.dst)) }

-- the record has channel c of the port that it waited for, and that channel this holder
abbrev pub granted : Network → ℕ → ℕ → ℕ → ℕ → InRecord → Network
granted net x p v c Idle = net
granted net x p v c (Waiting o) = record net {
  in_record = put3 net.in_record x p v (Active o c);
  holder = put3 net.holder x o c (Some (p, v));
}
granted net x p v c (Active o d) = net

-- The front flit goes out by channel c of port o, at the terminal into the sink, and is kept as the last out; off the
-- terminal a credit is spent; the port by which it came, unless that is the terminal, owes a credit; and a closing
-- flit frees both channels.
abbrev pub sent_by : Shape → Network → ℕ → ℕ → ℕ → ℕ → ℕ → Flit → List Flit → Network
sent_by s net x p v o c f rest = record net {
  buffer = put3 net.buffer x p v rest;
  last_out = put3 net.last_out x p v (Some (with_channel f c));
  in_record = put3 net.in_record x p v (cond (closes f.kind) Idle (Active o c));
  holder = put3 net.holder x o c (cond (closes f.kind) None (Some (p, v)));
  out = put2 net.out x o (net.out x o ++ with_channel f c ∷ []);
  credits = put3 net.credits x o c (cond (o == s.terminal) (net.credits x o c) (net.credits x o c - 1));
  owed = put3 net.owed x p v (cond (is_some (s.neighbour x p)) (net.owed x p v + 1) (net.owed x p v));
}

abbrev pub sent : Shape → Network → ℕ → ℕ → ℕ → InRecord → List Flit → Network
sent s net x p v Idle fs = net
sent s net x p v (Waiting o) fs = net
sent s net x p v (Active o c) [] = net
sent s net x p v (Active o c) (f ∷ rest) = sent_by s net x p v o c f rest

-- the front of what node y has on its link by port o goes into the buffer at port p of node x
abbrev pub taken_from : Network → ℕ → ℕ → ℕ → ℕ → List Flit → Network
taken_from net x p y o [] = net
taken_from net x p y o (f ∷ rest) = record net {
  out = put2 net.out y o rest;
  buffer = put3 net.buffer x p f.vc (net.buffer x p f.vc ++ f ∷ []);
}

abbrev pub taken : Shape → Network → ℕ → ℕ → Option ℕ → Network
taken s net x p None = net
taken s net x p (Some y) = taken_from net x p y (s.opposite p) (net.out y (s.opposite p))

-- a credit owed goes to the end of the credit list of the link from node y by port o
abbrev pub gave_to : Network → ℕ → ℕ → ℕ → ℕ → ℕ → Network
gave_to net x p v y o = record net {
  owed = put3 net.owed x p v (net.owed x p v - 1);
  credit_list = put2 net.credit_list y o (net.credit_list y o ++ v ∷ []);
}

abbrev pub gave : Shape → Network → ℕ → ℕ → ℕ → Option ℕ → Network
gave s net x p v None = net
gave s net x p v (Some y) = gave_to net x p v y (s.opposite p)

-- the front credit of the link by port o goes back to its channel's count
abbrev pub got : Network → ℕ → ℕ → List ℕ → Network
got net x o [] = net
got net x o (c ∷ rest) = record net {
  credit_list = put2 net.credit_list x o rest;
  credits = put3 net.credits x o c (net.credits x o c + 1);
}

-- The network after the step, where it is enabled.
abbrev pub after : Shape → Network → Step → Network
after s net (Offer x lane words) = offered net x lane.class (packet_flits lane (next_number net lane) words)
after s net (CloseLane x lane) = offered net x lane.class (mark lane (next_number net lane) ∷ [])
after s net (Feed x k) = fed s net x k (net.unfed x k)
after s net (Route x p v) = routed s net x p v (net.buffer x p v)
after s net (Grant x p v c) = granted net x p v c (net.in_record x p v)
after s net (Send x p v) = sent s net x p v (net.in_record x p v) (net.buffer x p v)
after s net (Take x p) = taken s net x p (s.neighbour x p)
after s net (GiveCredit x p v) = gave s net x p v (s.neighbour x p)
after s net (TakeCredit x o) = got net x o (net.credit_list x o)

-- a step that is there and enabled is done, and any other changes nothing
abbrev pub StepsTo : Shape → Network → Step → Network → Type 0
StepsTo s old step new = (IsThere s step × Enabled s old step × (new ≡ after s old step))
    ⊎ ((IsThere s step × Enabled s old step → ⊥) × (new ≡ old))

-- the steps of a list, one after another
abbrev pub StepsLead : Shape → Network → List Step → Network → Type 0
StepsLead s old [] new = new ≡ old
StepsLead s old (step ∷ steps) new = (mid : Network) × StepsTo s old step mid × StepsLead s mid steps new

-- each step that is there and enabled keeps it
abbrev pub EachStepKeeps : Shape → (Network → Type 0) → Type 0
EachStepKeeps s Kept = (net : Network) (step : Step) → IsThere s step → Enabled s net step → Kept net
    → Kept (after s net step)

-- any list of steps keeps it, whichever of them are done
abbrev pub AnyStepsKeep : Shape → (Network → Type 0) → Type 0
AnyStepsKeep s Kept = (steps : List Step) (old new : Network) → StepsLead s old steps new → Kept old → Kept new

-- nothing was offered yet, and every buffer is free
abbrev pub empty : Shape → Network
empty s = record {
  buffer = λ x p v. [];
  in_record = λ x p v. Idle;
  last_out = λ x p v. None;
  owed = λ x p v. 0;
  holder = λ x o c. None;
  credits = λ x o c. s.depth;
  out = λ x o. [];
  credit_list = λ x o. [];
  injected = λ x k. [];
  unfed = λ x k. [];
}
