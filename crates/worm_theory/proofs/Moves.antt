-- Each move keeps what its node holds by itself.
use Rattle.std.proofs.Common.{◌≡◌, ℕ, true, ◌<◌, inl, inr, List, [], ◌∷◌, length, Option, Some, None, IsSome, refl}
use Rattle.std.proofs.Common.{sym, subst, arith}
use Rattle.worm_flit.specs.declared.Flit.{Flit}
use Rattle.worm_flit.specs.Kinds.{opens}
use Rattle.worm_flit.specs.Stamps.{with_channel}
use Rattle.worm_flit.specs.Packets.{packet_flits, mark}
use Rattle.worm_records.specs.declared.InRecord.{InRecord}
use Rattle.worm_records.specs.declared.InRecord.TheVariants.{Idle, Waiting, Active}
use Rattle.worm_theory.specs.Shape.{Shape, IsMesh, Owns}
use Rattle.worm_theory.specs.Network.{Network}
use Rattle.worm_theory.specs.Steps.{Step, Offer, CloseLane, Feed, Route, Grant, Send, Take, GiveCredit, TakeCredit}
use Rattle.worm_theory.specs.Steps.{IsThere, Enabled, IsPort, FrontIs, IsWaitingAt, IsActiveAt, MaySend, fed, routed}
use Rattle.worm_theory.specs.Steps.{granted, sent, next_number}
use Rattle.worm_theory.specs.Sound.{OthersIdle, OnesClosed}
use Rattle.worm_theory.proofs.Others.{step_others}
use Rattle.worm_theory.proofs.Closed.{step_closed}
use Rattle.worm_theory.specs.Parts.{Parts}
use Rattle.worm_theory.specs.PartSound.{PartSound, PartQueues, PartHolds}
use Rattle.worm_theory.specs.Links.{MayArrive, MayPush}
use Rattle.worm_theory.specs.PartSteps.{PartStep, Own, Arrive, Return, IsLocal, IsPartThere, PartEnabled, PartStepsLead}
use Rattle.worm_theory.specs.PartSteps.{with_near, arrive, feed_part, send_part, own_after, part_after}
use Rattle.worm_theory.proofs.TakeKeepsPart.{arrive_sound, arrive_queues, arrive_others}
use Rattle.worm_theory.proofs.Crediting.{give_sound, give_queues, return_sound, return_queues}
use Rattle.worm_theory.proofs.SendKeepsPart.{may_push, send_sound, send_queues}
use Rattle.worm_theory.proofs.FeedKeepsPart.{feed_sound, feed_queues}
use Rattle.worm_theory.proofs.Offering.{offer_sound, close_sound, offer_queues}
use Rattle.worm_theory.proofs.RouteKeepsPart.{route_sound, grant_sound}

-- what a source accepts, as the network has it
feed_near : (s : Shape) (parts : Parts) (x k : ℕ) (fs : List Flit) →
    (feed_part s parts x k fs).near ≡ fed s parts.near x k fs
feed_near s parts x k [] = refl
feed_near s parts x k (f ∷ rest) = refl

send_near : (s : Shape) (parts : Parts) (x p v : ℕ) (r : InRecord) (fs : List Flit) →
    (send_part s parts x p v r fs).near ≡ sent s parts.near x p v r fs
send_near s parts x p v Idle fs = refl
send_near s parts x p v (Waiting o) fs = refl
send_near s parts x p v (Active o c) [] = refl
send_near s parts x p v (Active o c) (f ∷ rest) = refl

module _ (s : Shape) (mesh : IsMesh s) (old : Network) (parts : Parts) (hold : PartHolds s old parts) where
  -- where the rest of a node stays, its queues stay
  same_queues : (near : Network) → ((x p v : ℕ) → near.buffer x p v ≡ parts.near.buffer x p v) →
      ((x p v : ℕ) → near.last_out x p v ≡ parts.near.last_out x p v) →
      ((x o : ℕ) → near.out x o ≡ parts.near.out x o) → ((x k : ℕ) → near.unfed x k ≡ parts.near.unfed x k) →
      ((x k : ℕ) → near.injected x k ≡ parts.near.injected x k) → PartQueues s old (with_near parts near)
  same_queues near buffers lasts outs unfeds injecteds = record {
    inputs = λ x p v. let e = buffers x p v in rw e (hold.queues.inputs x p v);
    lasts = λ x p v. let e = lasts x p v in rw e (hold.queues.lasts x p v);
    sends = λ lane there x p from.
        let e = outs x (s.next_port x lane.dst) in rw e (hold.queues.sends lane there x p from);
    sources = λ x k.
        let h = hold.queues.sources x k in
        let e = unfeds x k in
        let e2 = injecteds x k in (h.0, rw e2 h.1, λ lane node class. rw e (h.2 lane node class));
    arriving = hold.queues.arriving;
    departing = hold.queues.departing;
    fed = hold.queues.fed;
  }

  -- what a node knows of itself and of the order of its flits
  abbrev Both : Parts → Type 0
  Both new = PartSound s old new × PartQueues s old new

  feed_both : (x k : ℕ) (fs : List Flit) → parts.near.unfed x k ≡ fs → k < s.classes → 0 < length fs →
      length (parts.near.buffer x s.terminal (s.first k)) < s.depth → Both (feed_part s parts x k fs)
  feed_both x k [] e there some room = absurd (omega arith)
  feed_both x k (f ∷ rest) e there some room = (
    feed_sound s mesh old parts x k there f rest e hold.sound room,
    feed_queues s mesh old parts x k there f rest e hold.sound hold.queues,
  )

  route_both : (x p v : ℕ) (fs : List Flit) → parts.near.buffer x p v ≡ fs → parts.near.in_record x p v ≡ Idle →
      FrontIs fs (λ f. opens f.kind ≡ true) → Both (with_near parts (routed s parts.near x p v fs))
  route_both x p v [] e idle front = absurd front
  route_both x p v (f ∷ rest) e idle front = (
    route_sound s old parts hold.sound x p v f rest e idle,
    same_queues (routed s parts.near x p v (f ∷ rest)) (λ a b d. refl) (λ a b d. refl) (λ a b. refl) (λ a b. refl)
        (λ a b. refl),
  )

  grant_both : (x p v c : ℕ) (r : InRecord) (fs : List Flit) → parts.near.in_record x p v ≡ r →
      parts.near.buffer x p v ≡ fs →
      IsWaitingAt r (λ o. (parts.near.holder x o c ≡ None) × FrontIs fs (λ f. Owns s f.lane.class c)) →
      Both (with_near parts (granted parts.near x p v c r))
  grant_both x p v c Idle fs e1 e2 h = absurd h
  grant_both x p v c (Active o d) fs e1 e2 h = absurd h
  grant_both x p v c (Waiting o) [] e1 e2 h = absurd h.1
  grant_both x p v c (Waiting o) (f ∷ rest) e1 e2 h = (
    grant_sound s old parts hold.sound x p v f rest e2 c o e1 h.0 h.1,
    same_queues (granted parts.near x p v c (Waiting o)) (λ a b d. refl) (λ a b d. refl) (λ a b. refl) (λ a b. refl)
        (λ a b. refl),
  )

  send_both : (x p v : ℕ) (r : InRecord) (fs : List Flit) → parts.near.in_record x p v ≡ r →
      parts.near.buffer x p v ≡ fs → IsPort s x p → IsActiveAt r (MaySend s parts.near x p v) →
      Both (send_part s parts x p v r fs)
  send_both x p v Idle fs e1 e2 port h = absurd h
  send_both x p v (Waiting o) fs e1 e2 port h = absurd h
  send_both x p v (Active o c) [] e1 e2 port h = let some = rw e2 at h.0 in absurd (omega arith)
  send_both x p v (Active o c) (f ∷ rest) e1 e2 port h = (
    send_sound s mesh old parts hold.sound x p v o c f rest e1 e2 port
        (elim h.1 [ inl at ↦ inr at | inr credit ↦ inl credit ]),
    send_queues s mesh old parts hold.sound x p v o c f rest e1 e2 port hold.queues,
  )

  own_both : (step : Step) → IsThere s step → IsLocal step → Enabled s parts.near step → Both (own_after s parts step)
  own_both (Offer x lane words) there local h = (
    offer_sound s old parts hold.sound x lane words h.0 h.1 h.2,
    offer_queues s old parts x lane.class (packet_flits lane (next_number parts.near lane) words) hold.queues,
  )
  own_both (CloseLane x lane) there local h = (
    close_sound s old parts hold.sound x lane h.0,
    offer_queues s old parts x lane.class (mark lane (next_number parts.near lane) ∷ []) hold.queues,
  )
  own_both (Feed x k) there local h = feed_both x k (parts.near.unfed x k) refl there.1 h.0 h.1
  own_both (Route x p v) there local h = route_both x p v (parts.near.buffer x p v) refl h.0 h.1
  own_both (Grant x p v c) there local h =
      grant_both x p v c (parts.near.in_record x p v) (parts.near.buffer x p v) refl refl h
  own_both (Send x p v) there local h =
      send_both x p v (parts.near.in_record x p v) (parts.near.buffer x p v) refl refl there.1 h
  own_both (Take x p) there local h = absurd local
  own_both (GiveCredit x p v) there local h =
      (give_sound s old parts x p v h there.2 hold.sound, give_queues s old parts x p v hold.queues)
  own_both (TakeCredit x o) there local h = absurd local

  own_others : (step : Step) → IsThere s step → OthersIdle s (own_after s parts step).near
  own_others (Offer x lane words) there = hold.others
  own_others (CloseLane x lane) there = hold.others
  own_others (Feed x k) there =
      let near = feed_near s parts x k (parts.near.unfed x k) in
      rw near (step_others s mesh parts.near hold.others (Feed x k) there)
  own_others (Route x p v) there = step_others s mesh parts.near hold.others (Route x p v) there
  own_others (Grant x p v c) there = step_others s mesh parts.near hold.others (Grant x p v c) there
  own_others (Send x p v) there =
      let near = send_near s parts x p v (parts.near.in_record x p v) (parts.near.buffer x p v) in
      rw near (step_others s mesh parts.near hold.others (Send x p v) there)
  own_others (Take x p) there = hold.others
  own_others (GiveCredit x p v) there = hold.others
  own_others (TakeCredit x o) there = hold.others

  own_closed : (step : Step) → Enabled s parts.near step → OnesClosed s (own_after s parts step).near
  own_closed (Offer x lane words) h = step_closed s parts.near (Offer x lane words) h hold.closed
  own_closed (CloseLane x lane) h = step_closed s parts.near (CloseLane x lane) h hold.closed
  own_closed (Feed x k) h =
      let near = feed_near s parts x k (parts.near.unfed x k) in
      rw near (step_closed s parts.near (Feed x k) h hold.closed)
  own_closed (Route x p v) h = step_closed s parts.near (Route x p v) h hold.closed
  own_closed (Grant x p v c) h = step_closed s parts.near (Grant x p v c) h hold.closed
  own_closed (Send x p v) h =
      let near = send_near s parts x p v (parts.near.in_record x p v) (parts.near.buffer x p v) in
      rw near (step_closed s parts.near (Send x p v) h hold.closed)
  own_closed (Take x p) h = hold.closed
  own_closed (GiveCredit x p v) h = hold.closed
  own_closed (TakeCredit x o) h = hold.closed

  arrive_holds : (x p : ℕ) (f : Flit) (end : Option ℕ) → s.neighbour x p ≡ end → IsSome end →
      MayArrive s old parts x p (f ∷ []) → length (parts.near.buffer x p f.vc) < s.depth →
      PartHolds s old (arrive parts x p f)
  arrive_holds x p f None e there may room = cc
  arrive_holds x p f (Some y) e there may room = record {
    sound = arrive_sound s mesh old parts x p y e f may room hold.sound;
    queues = arrive_queues s mesh old parts x p y e f may hold.queues;
    others = arrive_others s mesh old parts x p y e f may hold.others;
    closed = hold.closed;
  }

  pub move_holds : (step : PartStep) → IsPartThere s step → PartEnabled s old parts step →
      PartHolds s old (part_after s parts step)
  move_holds (Own step) there h =
      let both = own_both step there h.0 h.1 in
      record { sound = both.0; queues = both.1; others = own_others step there; closed = own_closed step h.1 }
  move_holds (Arrive x p f) there h = arrive_holds x p f (s.neighbour x p) refl there.1 h.0 h.1
  move_holds (Return x o c) there h = record {
    sound = return_sound s old parts x o c hold.sound;
    queues = return_queues s old parts x o c hold.queues;
    others = hold.others;
    closed = hold.closed;
  }

  push_at : (x p v o c : ℕ) (f : Flit) (fs : List Flit) → parts.near.buffer x p v ≡ fs →
      parts.near.in_record x p v ≡ Active o c → FrontIs fs (λ front. front ≡ f) → IsPort s x p →
      MayPush s old parts x o (with_channel f c)
  push_at x p v o c f [] e active front port = absurd front
  push_at x p v o c f (g ∷ rest) e active front port =
      let full = rw front at e in may_push s mesh old parts hold.sound x p v o c f rest active full port

  -- the front of a buffer that is active for a channel may go onto its link
  pub front_may_push : (x p v o c : ℕ) (f : Flit) → parts.near.in_record x p v ≡ Active o c →
      FrontIs (parts.near.buffer x p v) (λ front. front ≡ f) → IsPort s x p →
      MayPush s old parts x o (with_channel f c)
  front_may_push x p v o c f active front port = push_at x p v o c f (parts.near.buffer x p v) refl active front port

-- whatever moves are made one after another
pub moves_hold : (s : Shape) → IsMesh s → (old : Network) (steps : List PartStep) (parts new : Parts) →
    PartStepsLead s old parts steps new → PartHolds s old parts → PartHolds s old new
moves_hold s mesh old [] parts new h hold = subst (λ n. PartHolds s old n) (sym h) hold
moves_hold s mesh old (step ∷ steps) parts new h hold =
    moves_hold s mesh old steps (part_after s parts step) new h.2 (move_holds s mesh old parts hold step h.0 h.1)
