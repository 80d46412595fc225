-- Whatever steps are taken, each lane is cut: delivered, then under way, is injected.
use Rattle.std.proofs.Common.{◌≡◌, ℕ, zero, suc, ◌<◌, List, [], ◌∷◌, ◌++◌, Option, Some, None, refl, sym, ◌∙◌}
use Rattle.std.proofs.Common.{append_assoc}
use Rattle.std.proofs.lemmas.List.Elements.{All-head}
use Rattle.worm_flit.specs.declared.Lane.{Lane}
use Rattle.worm_flit.specs.declared.Flit.{Flit}
use Rattle.worm_flit.specs.Packets.{packet_flits, mark}
use Rattle.worm_theory.specs.Shape.{Shape, IsMesh, HasLane, OwnsAlone}
use Rattle.worm_theory.specs.Network.{Network}
use Rattle.worm_records.specs.declared.InRecord.{InRecord}
use Rattle.worm_records.specs.declared.InRecord.TheVariants.{Idle, Waiting, Active}
use Rattle.worm_theory.specs.Steps.{Step, Offer, CloseLane, Feed, Route, Grant, Send, Take, GiveCredit, TakeCredit}
use Rattle.worm_theory.specs.Steps.{IsPort, IsThere, fed, routed, granted, sent, taken, taken_from, gave, got, after}
use Rattle.worm_theory.specs.Steps.{next_number, StepsLead, empty}
use Rattle.worm_theory.specs.Sound.{Sound, IsFrom, Leaves}
use Rattle.worm_theory.specs.Cut.{held, lane_store, lane_line, underway_from, delivered, underway, LanesCut}
use Rattle.worm_theory.proofs.Cut.{ahead, ahead-split}
use Rattle.worm_theory.proofs.CutSteps.{CutHolds, offer_cut, send_cut, take_cut, feed_cut}
use Rattle.worm_theory.proofs.Send.{leading, passing, front_follows}
use Rattle.worm_theory.proofs.Lists.{any_list}
use Rattle.worm_theory.proofs.Keeps.{step_sound}

module _ (s : Shape) (mesh : IsMesh s) (lane : Lane) (there : HasLane s lane) (c : ℕ)
    (alone : OwnsAlone s lane.class c) where
  pub split_all : (net : Network) → delivered s net lane ++ underway s net lane c
      ≡ ahead s mesh lane there (lane_store net lane c) (lane_line net lane)
      (s.hops lane.src lane.dst) lane.src s.terminal ++ held lane (net.unfed lane.src lane.class)
  split_all net =
      let split = ahead-split s mesh lane there (lane_store net lane c) (lane_line net lane)
      (s.hops lane.src lane.dst) lane.src s.terminal there.source refl in
      rw (
        split,
        append_assoc (held lane (net.out lane.dst s.terminal))
            (underway_from s (lane_store net lane c) (lane_line net lane) lane.dst
            (s.hops lane.src lane.dst) lane.src s.terminal) (held lane (net.unfed lane.src lane.class)),
      )

  module _ (net : Network) (sound : Sound s net) (cut : CutHolds s mesh lane there c alone net) where
    pub feed_keeps_cut : (x k : ℕ) (fs : List Flit) → net.unfed x k ≡ fs → k < s.classes
        → CutHolds s mesh lane there c alone (fed s net x k fs)
    feed_keeps_cut x k [] e class_there = cut
    feed_keeps_cut x k (f ∷ rest) e class_there =
        feed_cut s mesh lane there c alone net x k class_there f rest e
        (All-head (IsFrom s x k) f rest (rw e at (sound.unfed x k))) cut

    pub route_keeps_cut : (x p v : ℕ) (fs : List Flit) → CutHolds s mesh lane there c alone (routed s net x p v fs)
    route_keeps_cut x p v [] = cut
    route_keeps_cut x p v (f ∷ rest) = cut

    pub grant_keeps_cut : (x p v d : ℕ) (r : InRecord) → CutHolds s mesh lane there c alone (granted net x p v d r)
    grant_keeps_cut x p v d Idle = cut
    grant_keeps_cut x p v d (Waiting o) = cut
    grant_keeps_cut x p v d (Active o e) = cut

    pub send_keeps_cut : (x p v : ℕ) (r : InRecord) (fs : List Flit) → net.in_record x p v ≡ r → net.buffer x p v ≡ fs
        → IsPort s x p → CutHolds s mesh lane there c alone (sent s net x p v r fs)
    send_keeps_cut x p v Idle fs e1 e2 port = cut
    send_keeps_cut x p v (Waiting o) fs e1 e2 port = cut
    send_keeps_cut x p v (Active o d) [] e1 e2 port = cut
    send_keeps_cut x p v (Active o d) (f ∷ rest) e1 e2 port =
        let follows = front_follows s mesh net x p v o d f rest e1 e2 port sound.links sound.sources in
        let leads = leading s net x p v o d f rest e1 e2 follows sound.records in
        let pass = passing s net x p v o d f rest e1 e2 sound.buffered in
        send_cut s mesh lane there c alone net x p v o d f rest e2 pass leads.0 cut

    pub take_on_cut : (x p y : ℕ) (fs : List Flit) → s.neighbour x p ≡ Some y → net.out y (s.opposite p) ≡ fs
        → CutHolds s mesh lane there c alone (taken_from net x p y (s.opposite p) fs)
    take_on_cut x p y [] linked e = cut
    take_on_cut x p y (f ∷ rest) linked e =
        take_cut s mesh lane there c alone net x p y linked f rest e
        (All-head (Leaves s y (s.opposite p)) f rest (rw e at (sound.leaving y (s.opposite p)))) cut

    pub take_keeps_cut : (x p : ℕ) (end : Option ℕ) → s.neighbour x p ≡ end
        → CutHolds s mesh lane there c alone (taken s net x p end)
    take_keeps_cut x p None e = cut
    take_keeps_cut x p (Some y) e = take_on_cut x p y (net.out y (s.opposite p)) e refl

    pub give_keeps_cut : (x p v : ℕ) (end : Option ℕ) → CutHolds s mesh lane there c alone (gave s net x p v end)
    give_keeps_cut x p v None = cut
    give_keeps_cut x p v (Some y) = cut

    pub get_keeps_cut : (x o : ℕ) (cs : List ℕ) → CutHolds s mesh lane there c alone (got net x o cs)
    get_keeps_cut x o [] = cut
    get_keeps_cut x o (d ∷ rest) = cut

    step_keeps_cut : (step : Step) → IsThere s step → CutHolds s mesh lane there c alone (after s net step)
    step_keeps_cut (Offer x l ws) at = offer_cut s mesh lane there c alone net x l.class
        (packet_flits l (next_number net l) ws) cut
    step_keeps_cut (CloseLane x l) at = offer_cut s mesh lane there c alone net x l.class
        (mark l (next_number net l) ∷ []) cut
    step_keeps_cut (Feed x k) at = feed_keeps_cut x k (net.unfed x k) refl at.1
    step_keeps_cut (Route x p v) at = route_keeps_cut x p v (net.buffer x p v)
    step_keeps_cut (Grant x p v d) at = grant_keeps_cut x p v d (net.in_record x p v)
    step_keeps_cut (Send x p v) at = send_keeps_cut x p v (net.in_record x p v) (net.buffer x p v) refl refl at.1
    step_keeps_cut (Take x p) at = take_keeps_cut x p (s.neighbour x p) refl
    step_keeps_cut (GiveCredit x p v) at = give_keeps_cut x p v (s.neighbour x p)
    step_keeps_cut (TakeCredit x o) at = get_keeps_cut x o (net.credit_list x o)

pub step_cut : (s : Shape) → IsMesh s → (net : Network) (step : Step) → IsThere s step → Sound s net → LanesCut s net
    → LanesCut s (after s net step)
step_cut s mesh net step at sound cut lane c there owned alone =
    split_all s mesh lane there c alone (after s net step)
    ∙ step_keeps_cut s mesh lane there c alone net sound
    (sym (split_all s mesh lane there c alone net) ∙ cut lane c there owned alone) step at

pub nothing_ahead : (s : Shape) (mesh : IsMesh s) (lane : Lane) (there : HasLane s lane) (c n x p : ℕ) → x < s.nodes
    → s.hops x lane.dst ≡ n → ahead s mesh lane there (lane_store (empty s) lane c) (lane_line (empty s) lane) n x p
    ≡ []
nothing_ahead s mesh lane there c zero x p in_mesh e = refl
nothing_ahead s mesh lane there c (suc n) x p in_mesh e =
    let on = mesh.goes_on x lane.dst n in_mesh there.destination e in
    let linked = on.1 in
    let rest = nothing_ahead s mesh lane there c n on.0 (s.opposite (s.next_port x lane.dst)) on.2 on.3 in
    rw (linked, rest)

pub empty_cut : (s : Shape) → IsMesh s → LanesCut s (empty s)
empty_cut s mesh lane c there owned alone =
    split_all s mesh lane there c alone (empty s)
    ∙ rw (nothing_ahead s mesh lane there c (s.hops lane.src lane.dst) lane.src s.terminal there.source refl)

-- a sound and cut network leads to such networks alone
pub steps_keep : (s : Shape) → IsMesh s → (steps : List Step) (old new : Network) → StepsLead s old steps new
    → Sound s old → LanesCut s old → Sound s new × LanesCut s new
steps_keep s mesh steps old new lead sound cut =
    any_list s (λ net. Sound s net × LanesCut s net)
    (λ net step there enabled kept. (
      step_sound s mesh net step there enabled kept.0,
      step_cut s mesh net step there kept.0 kept.1,
    )) steps old new lead (sound, cut)
