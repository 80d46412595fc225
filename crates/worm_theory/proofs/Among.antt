-- A step at an owned node does the same whatever stands at the nodes that are not owned.
use Rattle.std.proofs.Common.{◌≡◌, ℕ, Bool, true, false, cond, inl, inr, List, [], ◌∷◌, Option, Some, None, refl, sym}
use Rattle.std.proofs.Common.{ap, ◌∙◌}
use Rattle.worm_flit.specs.declared.Lane.{Lane}
use Rattle.worm_flit.specs.declared.Flit.{Flit}
use Rattle.worm_flit.specs.Packets.{packet_flits, mark}
use Rattle.worm_records.specs.declared.InRecord.{InRecord}
use Rattle.worm_records.specs.declared.InRecord.TheVariants.{Idle, Waiting, Active}
use Rattle.worm_theory.specs.Shape.{Shape}
use Rattle.worm_theory.specs.Network.{Network, put2, put3}
use Rattle.worm_theory.specs.Steps.{Step, Offer, CloseLane, Feed, Route, Grant, Send, Take, GiveCredit, TakeCredit}
use Rattle.worm_theory.specs.Steps.{Accepts, IsActiveAt, MaySend, IsThere, Enabled, next_number, after, offered, fed}
use Rattle.worm_theory.specs.Steps.{routed, granted, sent, taken, taken_from, gave, got, node_of}
use Rattle.worm_theory.proofs.Bridge.{same_network}
use Rattle.worm_theory.proofs.Places.{bool_cases, place_cases, place3_cases}
use Rattle.worm_theory.specs.Region.{among}

module _ (own : ℕ → Bool) (x : ℕ) (here : own x ≡ true) where
  -- a change at an owned node, seen among the others
  put3_among : {X : Type 0} (f g : ℕ → ℕ → ℕ → X) (p v : ℕ) (a : X) (i j k : ℕ) →
      cond (own i) (λ q w. put3 f x p v a i q w) (g i) j k ≡ put3 (λ y. cond (own y) (f y) (g y)) x p v a i j k
  put3_among {X} f g p v a i j k =
      elim (bool_cases (own i)) [
        | inl on ↦ rw on refl
        | inr off ↦
            elim (place3_cases i j k x p v) [
              | inl at ↦ let both : true ≡ false = sym here ∙ ap own (sym at.1) ∙ off in cc
              | inr away ↦ rw (off, away.0) refl
            ]
      ]

  put2_among : {X : Type 0} (f g : ℕ → ℕ → X) (k : ℕ) (a : X) (i j : ℕ) →
      cond (own i) (λ q. put2 f x k a i q) (g i) j ≡ put2 (λ y. cond (own y) (f y) (g y)) x k a i j
  put2_among {X} f g k a i j =
      elim (bool_cases (own i)) [
        | inl on ↦ rw on refl
        | inr off ↦
            elim (place_cases i j x k) [
              | inl at ↦ let both : true ≡ false = sym here ∙ ap own (sym at.1) ∙ off in cc
              | inr away ↦ rw (off, away.0) refl
            ]
      ]

  module _ (s : Shape) (net other : Network) where
    abbrev seen : Network → Network
    seen n = among own n other

    -- the step, at this node
    feed_among : (k : ℕ) (fs : List Flit) → seen (fed s net x k fs) ≡ fed s (seen net) x k fs
    feed_among k [] = refl
    feed_among k (f ∷ rest) =
        same_network (seen (fed s net x k (f ∷ rest))) (fed s (seen net) x k (f ∷ rest)) (record {
          buffer = λ i j l. rw here (put3_among net.buffer other.buffer s.terminal (s.first k) _ i j l);
          in_record = λ i j l. refl;
          last_out = λ i j l. refl;
          owed = λ i j l. refl;
          holder = λ i j l. refl;
          credits = λ i j l. refl;
          out = λ i j. refl;
          credit_list = λ i j. refl;
          injected = λ i j. refl;
          unfed = λ i j. put2_among net.unfed other.unfed k rest i j;
        })

    offer_among : (k : ℕ) (fs : List Flit) → seen (offered net x k fs) ≡ offered (seen net) x k fs
    offer_among k fs =
        same_network (seen (offered net x k fs)) (offered (seen net) x k fs) (record {
          buffer = λ i j l. refl;
          in_record = λ i j l. refl;
          last_out = λ i j l. refl;
          owed = λ i j l. refl;
          holder = λ i j l. refl;
          credits = λ i j l. refl;
          out = λ i j. refl;
          credit_list = λ i j. refl;
          injected = λ i j. rw here (put2_among net.injected other.injected k _ i j);
          unfed = λ i j. rw here (put2_among net.unfed other.unfed k _ i j);
        })

    route_among : (p v : ℕ) (fs : List Flit) → seen (routed s net x p v fs) ≡ routed s (seen net) x p v fs
    route_among p v [] = refl
    route_among p v (f ∷ rest) =
        same_network (seen (routed s net x p v (f ∷ rest))) (routed s (seen net) x p v (f ∷ rest)) (record {
          buffer = λ i j l. refl;
          in_record = λ i j l. put3_among net.in_record other.in_record p v _ i j l;
          last_out = λ i j l. refl;
          owed = λ i j l. refl;
          holder = λ i j l. refl;
          credits = λ i j l. refl;
          out = λ i j. refl;
          credit_list = λ i j. refl;
          injected = λ i j. refl;
          unfed = λ i j. refl;
        })

    grant_among : (p v c : ℕ) (r : InRecord) → seen (granted net x p v c r) ≡ granted (seen net) x p v c r
    grant_among p v c Idle = refl
    grant_among p v c (Waiting o) =
        same_network (seen (granted net x p v c (Waiting o))) (granted (seen net) x p v c (Waiting o)) (record {
          buffer = λ i j l. refl;
          in_record = λ i j l. put3_among net.in_record other.in_record p v _ i j l;
          last_out = λ i j l. refl;
          owed = λ i j l. refl;
          holder = λ i j l. put3_among net.holder other.holder o c _ i j l;
          credits = λ i j l. refl;
          out = λ i j. refl;
          credit_list = λ i j. refl;
          injected = λ i j. refl;
          unfed = λ i j. refl;
        })
    grant_among p v c (Active o d) = refl

    send_among : (p v : ℕ) (r : InRecord) (fs : List Flit) →
        seen (sent s net x p v r fs) ≡ sent s (seen net) x p v r fs
    send_among p v Idle fs = refl
    send_among p v (Waiting o) fs = refl
    send_among p v (Active o c) [] = refl
    send_among p v (Active o c) (f ∷ rest) =
        same_network (seen (sent s net x p v (Active o c) (f ∷ rest)))
        (sent s (seen net) x p v (Active o c) (f ∷ rest)) (record {
          buffer = λ i j l. put3_among net.buffer other.buffer p v _ i j l;
          in_record = λ i j l. put3_among net.in_record other.in_record p v _ i j l;
          last_out = λ i j l. put3_among net.last_out other.last_out p v _ i j l;
          owed = λ i j l. rw here (put3_among net.owed other.owed p v _ i j l);
          holder = λ i j l. put3_among net.holder other.holder o c _ i j l;
          credits = λ i j l. rw here (put3_among net.credits other.credits o c _ i j l);
          out = λ i j. refl;
          credit_list = λ i j. refl;
          injected = λ i j. refl;
          unfed = λ i j. refl;
        })

    take_from_among : (p y o : ℕ) (fs : List Flit) →
        seen (taken_from net x p y o fs) ≡ taken_from (seen net) x p y o fs
    take_from_among p y o [] = refl
    take_from_among p y o (f ∷ rest) =
        same_network (seen (taken_from net x p y o (f ∷ rest))) (taken_from (seen net) x p y o (f ∷ rest)) (record {
          buffer = λ i j l. rw here (put3_among net.buffer other.buffer p f.vc _ i j l);
          in_record = λ i j l. refl;
          last_out = λ i j l. refl;
          owed = λ i j l. refl;
          holder = λ i j l. refl;
          credits = λ i j l. refl;
          out = λ i j. refl;
          credit_list = λ i j. refl;
          injected = λ i j. refl;
          unfed = λ i j. refl;
        })

    take_among : (p : ℕ) (end : Option ℕ) → seen (taken s net x p end) ≡ taken s (seen net) x p end
    take_among p None = refl
    take_among p (Some y) = take_from_among p y (s.opposite p) (net.out y (s.opposite p))

    give_among : (p v : ℕ) (end : Option ℕ) → seen (gave s net x p v end) ≡ gave s (seen net) x p v end
    give_among p v None = refl
    give_among p v (Some y) =
        same_network (seen (gave s net x p v (Some y))) (gave s (seen net) x p v (Some y)) (record {
          buffer = λ i j l. refl;
          in_record = λ i j l. refl;
          last_out = λ i j l. refl;
          owed = λ i j l. rw here (put3_among net.owed other.owed p v _ i j l);
          holder = λ i j l. refl;
          credits = λ i j l. refl;
          out = λ i j. refl;
          credit_list = λ i j. refl;
          injected = λ i j. refl;
          unfed = λ i j. refl;
        })

    get_among : (o : ℕ) (cs : List ℕ) → seen (got net x o cs) ≡ got (seen net) x o cs
    get_among o [] = refl
    get_among o (c ∷ rest) =
        same_network (seen (got net x o (c ∷ rest))) (got (seen net) x o (c ∷ rest)) (record {
          buffer = λ i j l. refl;
          in_record = λ i j l. refl;
          last_out = λ i j l. refl;
          owed = λ i j l. refl;
          holder = λ i j l. refl;
          credits = λ i j l. rw here (put3_among net.credits other.credits o c _ i j l);
          out = λ i j. refl;
          credit_list = λ i j. refl;
          injected = λ i j. refl;
          unfed = λ i j. refl;
        })

-- so it is the same step, and may be made in both or in neither
module _ (own : ℕ → Bool) (s : Shape) (net other : Network) where
  pub after_among : (step : Step) → own (node_of step) ≡ true → IsThere s step → Enabled s net step →
      among own (after s net step) other ≡ after s (among own net other) step
  after_among (Offer x lane words) here there h =
      rw own_lane (offer_among own x here s net other lane.class (packet_flits lane (next_number net lane) words))
    where
      own_lane : next_number (among own net other) lane ≡ next_number net lane
      own_lane = let at : own lane.src ≡ true = ap own h.0.own ∙ here in rw at refl
  after_among (CloseLane x lane) here there h =
      rw own_lane (offer_among own x here s net other lane.class (mark lane (next_number net lane) ∷ []))
    where
      own_lane : next_number (among own net other) lane ≡ next_number net lane
      own_lane = let at : own lane.src ≡ true = ap own h.0.own ∙ here in rw at refl
  after_among (Feed x k) here there h = rw here (feed_among own x here s net other k (net.unfed x k))
  after_among (Route x p v) here there h = rw here (route_among own x here s net other p v (net.buffer x p v))
  after_among (Grant x p v c) here there h = rw here (grant_among own x here s net other p v c (net.in_record x p v))
  after_among (Send x p v) here there h =
      rw here (send_among own x here s net other p v (net.in_record x p v) (net.buffer x p v))
  after_among (Take x p) here there h = take_among own x here s net other p (s.neighbour x p)
  after_among (GiveCredit x p v) here there h = give_among own x here s net other p v (s.neighbour x p)
  after_among (TakeCredit x o) here there h = get_among own x here s net other o (net.credit_list x o)

  accepts_among : (x : ℕ) (lane : Lane) → own x ≡ true → Accepts s net x lane → Accepts s (among own net other) x lane
  accepts_among x lane here h =
      let at : own lane.src ≡ true = ap own h.own ∙ here in
      record { own = h.own; lane_there = h.lane_there; is_open = rw at h.is_open; room = rw at h.room }

  may_send_among : (x p v : ℕ) → own x ≡ true → (r : InRecord) → IsActiveAt r (MaySend s net x p v) →
      IsActiveAt r (MaySend s (among own net other) x p v)
  may_send_among x p v here Idle h = h
  may_send_among x p v here (Waiting o) h = h
  may_send_among x p v here (Active o c) h = rw here h

  pub enabled_among : (step : Step) → own (node_of step) ≡ true → Enabled s net step →
      Enabled s (among own net other) step
  enabled_among (Offer x lane words) here h = (accepts_among x lane here h.0, h.1, h.2)
  enabled_among (CloseLane x lane) here h = (accepts_among x lane here h.0, h.1)
  enabled_among (Feed x k) here h = rw here h
  enabled_among (Route x p v) here h = rw here h
  enabled_among (Grant x p v c) here h = rw here h
  enabled_among (Send x p v) here h = rw here (may_send_among x p v here (net.in_record x p v) h)
  enabled_among (Take x p) here h = rw here h
  enabled_among (GiveCredit x p v) here h = rw here h
  enabled_among (TakeCredit x o) here h = rw here h
