-- A step that touches no end of a link between workers does to what the part sees what it does to the part's lists.
use Rattle.std.proofs.Common.{◌≡◌, ℕ, ◌<◌, inl, inr, List, [], ◌∷◌, ◌++◌, length, Option, Some, None, refl, ap, sym}
use Rattle.std.proofs.Common.{subst, ◌∙◌}
use Rattle.worm_flit.specs.declared.Flit.{Flit}
use Rattle.worm_flit.specs.declared.Lane.{Lane}
use Rattle.worm_flit.specs.Stamps.{with_channel}
use Rattle.worm_records.specs.declared.InRecord.{InRecord}
use Rattle.worm_records.specs.declared.InRecord.TheVariants.{Idle, Waiting, Active}
use Rattle.worm_theory.specs.Shape.{Shape}
use Rattle.worm_theory.specs.Network.{Network, put2}
use Rattle.worm_theory.specs.Steps.{Step, Offer, CloseLane, Feed, Route, Grant, Send, Take, GiveCredit, TakeCredit}
use Rattle.worm_theory.specs.Steps.{Accepts, Enabled, IsActiveAt, IsLinked, FrontIs, after, sent, sent_by}
use Rattle.worm_theory.specs.Steps.{taken, taken_from, gave, gave_to, got, fed, routed, granted}
use Rattle.worm_theory.proofs.Places.{place_cases}
use Rattle.worm_split.specs.declared.ends.End.{End}
use Rattle.worm_split.specs.Ends.{seen_by, sent_on, given_on}

-- the worker's list of the link is what it sees of it; the same of the credit line
abbrev pub SeesFlits : End → Type 0
SeesFlits e = (flits : List Flit) → sent_on e flits ≡ flits

abbrev pub SeesCredits : End → Type 0
SeesCredits e = (credits : List ℕ) → given_on e credits ≡ credits

-- what a step reads and writes of links is seen
abbrev pub Sees : Shape → (ℕ → ℕ → End) → Network → Step → Type 0
Sees s end net (Offer x lane words) = Unit {0}
Sees s end net (CloseLane x lane) = Unit {0}
Sees s end net (Feed x k) = Unit {0}
Sees s end net (Route x p v) = Unit {0}
Sees s end net (Grant x p v c) = Unit {0}
Sees s end net (Send x p v) = IsActiveAt (net.in_record x p v) (λ o c. SeesFlits (end x o))
Sees s end net (Take x p) = (y : ℕ) → s.neighbour x p ≡ Some y → SeesFlits (end y (s.opposite p))
Sees s end net (GiveCredit x p v) = (y : ℕ) → s.neighbour x p ≡ Some y → SeesCredits (end y (s.opposite p))
Sees s end net (TakeCredit x o) = SeesCredits (end x o)

module _ (s : Shape) (end : ℕ → ℕ → End) (net : Network) where
  abbrev seen : Network
  seen = seen_by end net

  seen_fed : (x k : ℕ) (fs : List Flit) → seen_by end (fed s net x k fs) ≡ fed s seen x k fs
  seen_fed x k [] = refl
  seen_fed x k (f ∷ fs) = refl

  seen_routed : (x p v : ℕ) (fs : List Flit) → seen_by end (routed s net x p v fs) ≡ routed s seen x p v fs
  seen_routed x p v [] = refl
  seen_routed x p v (f ∷ fs) = refl

  seen_granted : (x p v c : ℕ) (r : InRecord) → seen_by end (granted net x p v c r) ≡ granted seen x p v c r
  seen_granted x p v c Idle = refl
  seen_granted x p v c (Waiting o) = refl
  seen_granted x p v c (Active o d) = refl

  -- a list of a link is written that is seen
  seen_out : (y o : ℕ) (fs : List Flit) → SeesFlits (end y o) → (z q : ℕ)
      → sent_on (end z q) (put2 net.out y o fs z q) ≡ put2 seen.out y o fs z q
  seen_out y o fs sees z q = elim (place_cases z q y o) [
    | inl here ↦ rw here.0 (rw (here.1, here.2) (sees fs))
    | inr away ↦ rw away.0 refl
  ]

  seen_line : (y o : ℕ) (cs : List ℕ) → SeesCredits (end y o) → (z q : ℕ)
      → given_on (end z q) (put2 net.credit_list y o cs z q) ≡ put2 seen.credit_list y o cs z q
  seen_line y o cs sees z q = elim (place_cases z q y o) [
    | inl here ↦ rw here.0 (rw (here.1, here.2) (sees cs))
    | inr away ↦ rw away.0 refl
  ]

  seen_taken_from : (x p y o : ℕ) (fs : List Flit) → SeesFlits (end y o)
      → seen_by end (taken_from net x p y o fs) ≡ taken_from seen x p y o fs
  seen_taken_from x p y o [] sees = refl
  seen_taken_from x p y o (f ∷ rest) sees = λ t. record seen {
    out = λ z q. seen_out y o rest sees z q t;
    buffer = (taken_from seen x p y o (f ∷ rest)).buffer;
  }

  seen_taken : (x p : ℕ) (n : Option ℕ) → ((y : ℕ) → n ≡ Some y → SeesFlits (end y (s.opposite p)))
      → seen_by end (taken s net x p n) ≡ taken s seen x p n
  seen_taken x p None sees = refl
  seen_taken x p (Some y) sees =
      let o = s.opposite p in
      let here = sees y refl in
      seen_taken_from x p y o (net.out y o) here
      ∙ ap (λ (fs : List Flit). taken_from seen x p y o fs) (sym (here (net.out y o)))

  seen_gave : (x p v : ℕ) (n : Option ℕ) → ((y : ℕ) → n ≡ Some y → SeesCredits (end y (s.opposite p)))
      → seen_by end (gave s net x p v n) ≡ gave s seen x p v n
  seen_gave x p v None sees = refl
  seen_gave x p v (Some y) sees =
      let o = s.opposite p in
      let here = sees y refl in
      let list : net.credit_list y o ≡ seen.credit_list y o = sym (here (net.credit_list y o)) in
      λ t. record seen {
        owed = (gave_to seen x p v y o).owed;
        credit_list = ((λ i z q. seen_line y o (net.credit_list y o ++ v ∷ []) here z q i)
            ∙ (λ i. put2 seen.credit_list y o (list i ++ v ∷ []))) t;
      }

  seen_got_of : (x o : ℕ) (cs : List ℕ) → SeesCredits (end x o) → seen_by end (got net x o cs) ≡ got seen x o cs
  seen_got_of x o [] sees = refl
  seen_got_of x o (c ∷ rest) sees = λ t. record seen {
    credit_list = λ z q. seen_line x o rest sees z q t;
    credits = (got seen x o (c ∷ rest)).credits;
  }

  seen_sent_by : (x p v o c : ℕ) (f : Flit) (rest : List Flit) → SeesFlits (end x o)
      → seen_by end (sent_by s net x p v o c f rest) ≡ sent_by s seen x p v o c f rest
  seen_sent_by x p v o c f rest sees =
      let more = net.out x o ++ with_channel f c ∷ [] in
      let here : more ≡ seen.out x o ++ with_channel f c ∷ [] =
      ap (λ (fs : List Flit). fs ++ with_channel f c ∷ []) (sym (sees (net.out x o))) in
      let placed : (z q : ℕ) → sent_on (end z q) (put2 net.out x o more z q)
      ≡ put2 seen.out x o (seen.out x o ++ with_channel f c ∷ []) z q
      = λ z q. seen_out x o more sees z q ∙ ap (λ (fs : List Flit). put2 seen.out x o fs z q) here in
      λ t. record (sent_by s seen x p v o c f rest) { out = λ z q. placed z q t }

  seen_sent : (x p v : ℕ) (r : InRecord) (fs : List Flit) → IsActiveAt r (λ o c. SeesFlits (end x o))
      → seen_by end (sent s net x p v r fs) ≡ sent s seen x p v r fs
  seen_sent x p v Idle fs sees = absurd sees
  seen_sent x p v (Waiting o) fs sees = absurd sees
  seen_sent x p v (Active o c) [] sees = refl
  seen_sent x p v (Active o c) (f ∷ rest) sees = seen_sent_by x p v o c f rest sees

  pub seen_after : (step : Step) → Sees s end net step → seen_by end (after s net step) ≡ after s seen step
  seen_after (Offer x lane words) sees = refl
  seen_after (CloseLane x lane) sees = refl
  seen_after (Feed x k) sees = seen_fed x k (net.unfed x k)
  seen_after (Route x p v) sees = seen_routed x p v (net.buffer x p v)
  seen_after (Grant x p v c) sees = seen_granted x p v c (net.in_record x p v)
  seen_after (Send x p v) sees = seen_sent x p v (net.in_record x p v) (net.buffer x p v) sees
  seen_after (Take x p) sees = seen_taken x p (s.neighbour x p) sees
  seen_after (GiveCredit x p v) sees = seen_gave x p v (s.neighbour x p) sees
  seen_after (TakeCredit x o) sees = seen_got_of x o (net.credit_list x o) sees
      ∙ ap (λ (cs : List ℕ). got seen x o cs) (sym (sees (net.credit_list x o)))

  enabled_take : (x p : ℕ) (n : Option ℕ) → ((y : ℕ) → n ≡ Some y → SeesFlits (end y (s.opposite p)))
      → (P : List Flit → Type 0) → IsLinked n (λ y. P (net.out y (s.opposite p)))
      → IsLinked n (λ y. P (seen.out y (s.opposite p)))
  enabled_take x p None sees P h = h
  enabled_take x p (Some y) sees P h = subst P (sym (sees y refl (net.out y (s.opposite p)))) h

  seen_accepts : (x : ℕ) (lane : Lane) → Accepts s net x lane → Accepts s seen x lane
  seen_accepts x lane h = record { own = h.own; lane_there = h.lane_there; is_open = h.is_open; room = h.room }

  pub seen_enabled : (step : Step) → Sees s end net step → Enabled s net step → Enabled s seen step
  seen_enabled (Offer x lane words) sees h = (seen_accepts x lane h.0, h.1, h.2)
  seen_enabled (CloseLane x lane) sees h = (seen_accepts x lane h.0, h.1)
  seen_enabled (Feed x k) sees h = h
  seen_enabled (Route x p v) sees h = h
  seen_enabled (Grant x p v c) sees h = h
  seen_enabled (Send x p v) sees h = h
  seen_enabled (Take x p) sees h = enabled_take x p (s.neighbour x p) sees
      (λ (fs : List Flit). FrontIs fs (λ f. length (net.buffer x p f.vc) < s.depth)) h
  seen_enabled (GiveCredit x p v) sees h = h
  seen_enabled (TakeCredit x o) sees h =
      subst (λ (cs : List ℕ). FrontIs cs (λ c. net.credits x o c < s.depth)) (sym (sees (net.credit_list x o))) h
