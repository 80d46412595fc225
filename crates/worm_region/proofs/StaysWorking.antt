-- Each step keeps what the moves of a network need, and a sound network has it.
use Rattle.std.proofs.Common.{◌≡◌, ℕ, zero, suc, ◌<◌, Bool, true, false, cond, ◌⊎◌, inl, inr, List, [], ◌∷◌, Option}
use Rattle.std.proofs.Common.{Some, None, refl, arith, sym, subst, ◌∙◌, ◌-◌, ◌≤◌, ◌==◌}
use Rattle.std.specs.Prelude.{IsSome, IfSome, IsSomeAnd}
use Rattle.std.specs.List.{All}
use Rattle.std.proofs.lemmas.List.Elements.{All-head, All-tail, All-push, All-append, All-weaker, All-cons, All-nil}
use Rattle.worm_flit.specs.declared.Lane.{Lane}
use Rattle.worm_flit.specs.declared.Flit.{Flit}
use Rattle.worm_flit.specs.Kinds.{closes}
use Rattle.worm_flit.specs.Stamps.{with_channel}
use Rattle.worm_flit.specs.Packets.{packet_flits, mark}
use Rattle.worm_records.specs.declared.InRecord.{InRecord}
use Rattle.worm_records.specs.declared.InRecord.TheVariants.{Idle, Waiting, Active}
use Rattle.worm_theory.specs.Shape.{Shape, IsMesh, Enters, at_source, by_link}
use Rattle.worm_theory.specs.Network.{Network}
use Rattle.worm_theory.specs.Worm.{worm_after, lane_at}
use Rattle.worm_theory.specs.Steps.{Step, Offer, CloseLane, Feed, Route, Grant, Send, Take, GiveCredit, TakeCredit}
use Rattle.worm_theory.specs.Steps.{FrontIs, IsWaitingAt, IsActiveAt, IsPort, IsThere, MaySend, Enabled, after, offered}
use Rattle.worm_theory.specs.Steps.{fed, next_number, routed, granted, sent, sent_by, taken, taken_from, gave, got}
use Rattle.worm_theory.specs.Sound.{Sound, Agrees, InBuffer, Leaves, IsFrom, Passes}
use Rattle.worm_theory.proofs.Credit.{give_entries, get_entries}
use Rattle.worm_theory.proofs.Packets.{packet-all}
use Rattle.worm_theory.proofs.Places.{place_cases, place3_cases, some_pair, bool_cases}
use Rattle.worm_region.specs.Workable.{LeadsOn, IsKept, IsSent, IsBound, Works}
use Rattle.worm_region.proofs.OwnCredits.{own_of_all, own_feed, own_send, own_take, own_give, own_get}

-- the port by which a route goes on is there
pub route_port : (s : Shape) → IsMesh s → (x d : ℕ) → x < s.nodes → d < s.nodes → IsPort s x (s.next_port x d)
route_port s mesh x d x_in d_in = by_hops (s.hops x d) refl where
  by_hops : (n : ℕ) → s.hops x d ≡ n → IsPort s x (s.next_port x d)
  by_hops zero e = inl (mesh.arrives x d x_in d_in e).1
  by_hops (suc n) e = let on = mesh.goes_on x d n x_in d_in e in inr (subst IsSome (sym on.1) refl)

-- a port by which a route enters a node is there
pub entered_port : (s : Shape) → IsMesh s → {lane : Lane} {x p : ℕ} → Enters s lane x p → IsPort s x p
entered_port s mesh at_source = inl refl
entered_port s mesh {lane} (by_link {x} {p} {y} before linked) =
    let back = mesh.link_back x (s.next_port x lane.dst) y linked in
    inr (subst IsSome (sym back) refl)

-- a record with other holders, where its own is the same
leads_same : (s : Shape) (net new : Network) (x p v : ℕ) (r : InRecord) →
    ((o c : ℕ) → net.holder x o c ≡ Some (p, v) → new.holder x o c ≡ Some (p, v)) → LeadsOn s net x p v r →
    LeadsOn s new x p v r
leads_same s net new x p v Idle same leads = tt
leads_same s net new x p v (Waiting o) same leads = leads
leads_same s net new x p v (Active o c) same leads = (leads.0, leads.1, same o c leads.2)

less_credit : (b : Bool) (n d : ℕ) → n ≤ d → cond b n (n - 1) ≤ d
less_credit true n d few = few
less_credit false n d few = omega arith

module _ (s : Shape) (mesh : IsMesh s) {own : ℕ → Bool} (net : Network) (works : Works s own net) where
  offer_works : (x k : ℕ) (fs : List Flit) → All (IsBound s) fs → Works s own (offered net x k fs)
  offer_works x k fs bound = record {
    records = works.records;
    buffered = works.buffered;
    out = works.out;
    entries = works.entries;
    few = works.few;
    credits = works.credits;
    unfed = λ x2 k2. elim (place_cases x2 k2 x k) [
      | inl here ↦ rw here.0 (All-append (IsBound s) (net.unfed x k) fs (works.unfed x k) bound)
      | inr away ↦ rw away.0 (works.unfed x2 k2)
    ];
  }

  feed_works : (x k : ℕ) (fs : List Flit) → k < s.classes → net.unfed x k ≡ fs → Works s own (fed s net x k fs)
  feed_works x k [] k_in e = works
  feed_works x k (f ∷ rest) k_in e =
      let all : All (IsBound s) (f ∷ rest) = rw e at (works.unfed x k) in
      let bound : f.lane.dst < s.nodes = All-head (IsBound s) f rest all in
      let kept : IsKept s x s.terminal (with_channel f (s.first k)) = record { goal = bound; port = inl refl } in
      record {
        records = works.records;
        buffered = λ x2 p2 v2. elim (place3_cases x2 p2 v2 x s.terminal (s.first k)) [
          | inl here ↦
              rw (here.0, here.1, here.2) (All-push (IsKept s x s.terminal) (net.buffer x s.terminal (s.first k))
              (with_channel f (s.first k)) (works.buffered x s.terminal (s.first k)) kept)
          | inr away ↦ rw away.0 (works.buffered x2 p2 v2)
        ];
        out = works.out;
        entries = works.entries;
        few = works.few;
        credits = own_feed s mesh net x k k_in f rest e works.credits;
        unfed = λ x2 k2. elim (place_cases x2 k2 x k) [
          | inl here ↦ rw here.0 (All-tail (IsBound s) f rest all)
          | inr away ↦ rw away.0 (works.unfed x2 k2)
        ];
      }

  route_works : (x p v : ℕ) (fs : List Flit) → x < s.nodes → net.buffer x p v ≡ fs →
      Works s own (routed s net x p v fs)
  route_works x p v [] x_in e = works
  route_works x p v (f ∷ rest) x_in e =
      let all : All (IsKept s x p) (f ∷ rest) = rw e at (works.buffered x p v) in
      let kept = All-head (IsKept s x p) f rest all in
      record {
        records = λ x2 p2 v2 there. elim (place3_cases x2 p2 v2 x p v) [
          | inl here ↦ rw (here.0, here.1) (route_port s mesh x f.lane.dst x_in kept.goal)
          | inr away ↦ rw away.0 (works.records x2 p2 v2 there)
        ];
        buffered = works.buffered;
        out = works.out;
        entries = works.entries;
        few = works.few;
        credits = works.credits;
        unfed = works.unfed;
      }

  grant_works : (x p v c : ℕ) (r : InRecord) → x < s.nodes → c < s.vcs → net.in_record x p v ≡ r →
      IsWaitingAt r (λ o. net.holder x o c ≡ None) → Works s own (granted net x p v c r)
  grant_works x p v c Idle x_in c_in e free = works
  grant_works x p v c (Active o d) x_in c_in e free = works
  grant_works x p v c (Waiting o) x_in c_in e free =
      let new = granted net x p v c (Waiting o) in
      let port : IsPort s x o = rw e at (works.records x p v x_in) in
      let elsewhere : (x2 p2 v2 o2 c2 : ℕ) → net.holder x2 o2 c2 ≡ Some (p2, v2) →
      new.holder x2 o2 c2 ≡ Some (p2, v2) =
      λ x2 p2 v2 o2 c2 held. elim (place3_cases x2 o2 c2 x o c) [
        | inl here ↦ let was : net.holder x2 o2 c2 ≡ None = cc in absurd (cc)
        | inr away ↦ rw away.0 held
      ] in
      record {
        records = λ x2 p2 v2 there. elim (place3_cases x2 p2 v2 x p v) [
          | inl here ↦
              let itself = place3_cases x o c x o c in
              let held : new.holder x o c ≡ Some (p, v) =
              elim itself [ inl at ↦ rw at.0 refl | inr off ↦ absurd (off.1 refl refl refl) ] in
              rw (here.0, here.1, here.2, here.3) (port, c_in, held)
          | inr away ↦
              rw away.0 (leads_same s net new x2 p2 v2 (net.in_record x2 p2 v2)
              (λ o2 c2 held. elsewhere x2 p2 v2 o2 c2 held) (works.records x2 p2 v2 there))
        ];
        buffered = works.buffered;
        out = works.out;
        entries = works.entries;
        few = works.few;
        credits = works.credits;
        unfed = works.unfed;
      }

  pub send_by : (x p v o c : ℕ) (f : Flit) (rest : List Flit) → x < s.nodes → net.in_record x p v ≡ Active o c →
      net.buffer x p v ≡ f ∷ rest → (0 < net.credits x o c) ⊎ (o ≡ s.terminal) →
      Works s own (sent_by s net x p v o c f rest)
  send_by x p v o c f rest x_in e b may =
      let new = sent_by s net x p v o c f rest in
      let all : All (IsKept s x p) (f ∷ rest) = rw b at (works.buffered x p v) in
      let kept = All-head (IsKept s x p) f rest all in
      let own : LeadsOn s net x p v (Active o c) = rw e at (works.records x p v x_in) in
      let sent_on : IsSent s (with_channel f c) = record { goal = kept.goal; channel = own.1 } in
      let elsewhere : (x2 p2 v2 o2 c2 : ℕ) → (x2 ≡ x → p2 ≡ p → v2 ≡ v → ⊥) → net.holder x2 o2 c2 ≡ Some (p2, v2) →
      new.holder x2 o2 c2 ≡ Some (p2, v2) =
      λ x2 p2 v2 o2 c2 other held. elim (place3_cases x2 o2 c2 x o c) [
        | inl here ↦
            let both : ◌≡◌ {A = Option (ℕ × ℕ)} (Some (p, v)) (Some (p2, v2)) =
            sym own.2 ∙ (λ t. net.holder (sym here.1 t) (sym here.2 t) (sym here.3 t)) ∙ held in
            let pair = some_pair p v p2 v2 both in
            absurd (other here.1 pair.0 pair.1)
        | inr away ↦ rw away.0 held
      ] in
      record {
        records = λ x2 p2 v2 there. elim (place3_cases x2 p2 v2 x p v) [
          | inl here ↦ rw (here.0, here.1, here.2, here.3) (elim (bool_cases (closes f.kind)) [
            | inl last ↦ rw last tt
            | inr more ↦
                let held : new.holder x o c ≡ Some (p, v) =
                elim (place3_cases x o c x o c) [
                  | inl at ↦ rw (at.0, more) refl
                  | inr off ↦ absurd (off.1 refl refl refl)
                ] in
                let on : LeadsOn s new x p v (Active o c) = (own.0, own.1, held) in
                subst (λ (b : Bool). LeadsOn s new x p v (cond b Idle (Active o c))) (sym more) on
          ])
          | inr away ↦
              rw away.0 (leads_same s net new x2 p2 v2 (net.in_record x2 p2 v2)
              (λ o2 c2 held. elsewhere x2 p2 v2 o2 c2 away.1 held) (works.records x2 p2 v2 there))
        ];
        buffered = λ x2 p2 v2. elim (place3_cases x2 p2 v2 x p v) [
          | inl here ↦ rw (here.0, here.1, here.2) (All-tail (IsKept s x p) f rest all)
          | inr away ↦ rw away.0 (works.buffered x2 p2 v2)
        ];
        out = λ x2 o2. elim (place_cases x2 o2 x o) [
          | inl here ↦ rw here.0 (All-push (IsSent s) (net.out x o) (with_channel f c) (works.out x o) sent_on)
          | inr away ↦ rw away.0 (works.out x2 o2)
        ];
        entries = works.entries;
        few = λ x2 o2 y2 c2 linked c2_in. elim (place3_cases x2 o2 c2 x o c) [
          | inl here ↦
              let was : net.credits x o c ≤ s.depth =
              rw (← here.1, ← here.2, ← here.3) (works.few x2 o2 y2 c2 linked c2_in) in
              rw here.0 (less_credit (o == s.terminal) (net.credits x o c) s.depth was)
          | inr away ↦ rw away.0 (works.few x2 o2 y2 c2 linked c2_in)
        ];
        credits = own_send s mesh net x p v o c f rest e b may works.credits;
        unfed = works.unfed;
      }

  send_works : (x p v : ℕ) (r : InRecord) (fs : List Flit) → x < s.nodes → net.in_record x p v ≡ r →
      net.buffer x p v ≡ fs → IsActiveAt r (MaySend s net x p v) → Works s own (sent s net x p v r fs)
  send_works x p v Idle fs x_in e b h = works
  send_works x p v (Waiting o) fs x_in e b h = works
  send_works x p v (Active o c) [] x_in e b h = works
  send_works x p v (Active o c) (f ∷ rest) x_in e b h =
      send_by x p v o c f rest x_in e b (elim h.1 [ inl at ↦ inr at | inr credit ↦ inl credit ])

  take_from : (x p y : ℕ) (fs : List Flit) → s.neighbour x p ≡ Some y → net.out y (s.opposite p) ≡ fs →
      Works s own (taken_from net x p y (s.opposite p) fs)
  take_from x p y [] linked e = works
  take_from x p y (f ∷ rest) linked e =
      let o = s.opposite p in
      let all : All (IsSent s) (f ∷ rest) = rw e at (works.out y o) in
      let is_sent = All-head (IsSent s) f rest all in
      let kept : IsKept s x p f = record { goal = is_sent.goal; port = inr (subst IsSome (sym linked) refl) } in
      record {
        records = works.records;
        buffered = λ x2 p2 v2. elim (place3_cases x2 p2 v2 x p f.vc) [
          | inl here ↦
              rw (here.0, here.1, here.2) (All-push (IsKept s x p) (net.buffer x p f.vc) f
              (works.buffered x p f.vc) kept)
          | inr away ↦ rw away.0 (works.buffered x2 p2 v2)
        ];
        out = λ x2 o2. elim (place_cases x2 o2 y o) [
          | inl here ↦ rw here.0 (All-tail (IsSent s) f rest all)
          | inr away ↦ rw away.0 (works.out x2 o2)
        ];
        entries = works.entries;
        few = works.few;
        credits = own_take s mesh net x p y linked f rest e works.credits;
        unfed = works.unfed;
      }

  take_works : (x p : ℕ) (end : Option ℕ) → s.neighbour x p ≡ end → Works s own (taken s net x p end)
  take_works x p None e = works
  take_works x p (Some y) e = take_from x p y (net.out y (s.opposite p)) e refl

  give_works : (x p v : ℕ) (end : Option ℕ) → s.neighbour x p ≡ end → v < s.vcs → 0 < net.owed x p v →
      Works s own (gave s net x p v end)
  give_works x p v None e v_in owed = works
  give_works x p v (Some y) e v_in owed = record {
    records = works.records;
    buffered = works.buffered;
    out = works.out;
    entries = give_entries s mesh net x p y v e v_in works.entries;
    few = works.few;
    credits = own_give s mesh net x p y v e owed works.credits;
    unfed = works.unfed;
  }

  get_works : (x o : ℕ) (cs : List ℕ) → net.credit_list x o ≡ cs → FrontIs cs (λ c. net.credits x o c < s.depth) →
      Works s own (got net x o cs)
  get_works x o [] e front = works
  get_works x o (c ∷ rest) e front = record {
    records = works.records;
    buffered = works.buffered;
    out = works.out;
    entries = get_entries s net x o c rest e works.entries;
    few = λ x2 o2 y2 c2 linked c2_in. elim (place3_cases x2 o2 c2 x o c) [
      | inl here ↦ let less : net.credits x o c < s.depth = front in rw here.0 (omega arith)
      | inr away ↦ rw away.0 (works.few x2 o2 y2 c2 linked c2_in)
    ];
    credits = own_get s net x o c rest e works.credits;
    unfed = works.unfed;
  }

free_at : (net : Network) (x c : ℕ) (r : InRecord) (P : ℕ → Type 0) →
    IsWaitingAt r (λ o. (net.holder x o c ≡ None) × P o) → IsWaitingAt r (λ o. net.holder x o c ≡ None)
free_at net x c Idle P h = absurd h
free_at net x c (Waiting o) P h = h.0
free_at net x c (Active o d) P h = absurd h

pub step_works : (s : Shape) → IsMesh s → {own : ℕ → Bool} → (net : Network) (step : Step) → IsThere s step →
    Enabled s net step → Works s own net → Works s own (after s net step)
step_works s mesh net (Offer x lane words) there h works =
    let goal = h.0.lane_there.destination in
    offer_works s mesh net works x lane.class (packet_flits lane (next_number net lane) words)
    (packet-all (IsBound s) lane (next_number net lane)
    (λ f e. subst (λ (l : Lane). l.dst < s.nodes) (sym e) goal) words)
step_works s mesh net (CloseLane x lane) there h works =
    offer_works s mesh net works x lane.class (mark lane (next_number net lane) ∷ [])
    (All-cons (IsBound s) (mark lane (next_number net lane)) [] h.0.lane_there.destination (All-nil (IsBound s)))
step_works s mesh net (Feed x k) there h works = feed_works s mesh net works x k (net.unfed x k) there.1 refl
step_works s mesh net (Route x p v) there h works = route_works s mesh net works x p v (net.buffer x p v) there.0 refl
step_works s mesh net (Grant x p v c) there h works =
    grant_works s mesh net works x p v c (net.in_record x p v) there.0 there.3 refl
    (free_at net x c (net.in_record x p v) _ h)
step_works s mesh net (Send x p v) there h works =
    send_works s mesh net works x p v (net.in_record x p v) (net.buffer x p v) there.0 refl refl h
step_works s mesh net (Take x p) there h works = take_works s mesh net works x p (s.neighbour x p) refl
step_works s mesh net (GiveCredit x p v) there h works =
    give_works s mesh net works x p v (s.neighbour x p) refl there.2 h
step_works s mesh net (TakeCredit x o) there h works = get_works s mesh net works x o (net.credit_list x o) refl h

-- a sound network has it

abbrev Bound : Shape → Lane → Type 0
Bound s lane = lane.dst < s.nodes

-- the lane that a channel is in has a destination that is there
lane_bound : (s : Shape) (last : Option Flit) (fs : List Flit) (P : Lane → Type 0) →
    IfSome last (λ f. Bound s f.lane) → All (λ (f : Flit). Bound s f.lane) fs →
    IsSomeAnd (lane_at (worm_after last) fs) P → (lane : Lane) × Bound s lane × P lane
lane_bound s None [] P there all h = absurd h
lane_bound s None (f ∷ fs) P there all h = (f.lane, All-head (λ (f : Flit). Bound s f.lane) f fs all, h)
lane_bound s (Some g) fs P there all h = by_last (closes g.kind) fs refl all h where
  by_last : (b : Bool) (fs : List Flit) → closes g.kind ≡ b → All (λ (f : Flit). Bound s f.lane) fs →
      IsSomeAnd (lane_at (worm_after (Some g)) fs) P → (lane : Lane) × Bound s lane × P lane
  by_last false fs e all h = (g.lane, there, rw e at h)
  by_last true [] e all h = absurd (rw e at h)
  by_last true (f ∷ fs) e all h = (f.lane, All-head (λ (f : Flit). Bound s f.lane) f fs all, rw e at h)

agreed_leads : (s : Shape) (net : Network) (x p v : ℕ) (r : InRecord) → IsMesh s → x < s.nodes → Sound s net →
    net.in_record x p v ≡ r → LeadsOn s net x p v r
agreed_leads s net x p v r mesh x_in sound e = by_record r e (rw e at (sound.records x p v)) where
  last_bound : (o : Option Flit) → IfSome o (Passes s x p v) → IfSome o (λ f. Bound s f.lane)
  last_bound None h = tt
  last_bound (Some f) h = h.lane_there.destination

  all_bound : All (λ (f : Flit). Bound s f.lane) (net.buffer x p v)
  all_bound =
      All-weaker (InBuffer s x p v) (λ (f : Flit). Bound s f.lane) (λ f in_it. in_it.1.lane_there.destination)
      (net.buffer x p v) (sound.buffered x p v)

  by_record : (r : InRecord) → net.in_record x p v ≡ r →
      Agrees s x r (worm_after (net.last_out x p v)) (net.buffer x p v) → LeadsOn s net x p v r
  by_record Idle e agrees = tt
  by_record (Waiting o) e agrees =
      let lane =
      lane_bound s (net.last_out x p v) (net.buffer x p v) (λ lane. s.next_port x lane.dst ≡ o)
      (last_bound (net.last_out x p v) (sound.passed x p v)) all_bound agrees.1 in
      subst (IsPort s x) lane.2 (route_port s mesh x lane.0.dst x_in lane.1)
  by_record (Active o c) e agrees =
      let lane =
      lane_bound s (net.last_out x p v) (net.buffer x p v) (λ lane. (s.next_port x lane.dst ≡ o) × _)
      (last_bound (net.last_out x p v) (sound.passed x p v)) all_bound agrees in (
        subst (IsPort s x) lane.2.0 (route_port s mesh x lane.0.dst x_in lane.1),
        lane.2.1.0,
        (sound.holders x o c p v).1 e,
      )

pub sound_works : (s : Shape) → IsMesh s → {own : ℕ → Bool} → (net : Network) → Sound s net → Works s own net
sound_works s mesh {own} net sound = record {
  records = λ x p v there. agreed_leads s net x p v (net.in_record x p v) mesh there sound refl;
  buffered =
      λ x p v. All-weaker (InBuffer s x p v) (IsKept s x p)
      (λ f in_it. record { goal = in_it.1.lane_there.destination; port = entered_port s mesh in_it.1.entered })
      (net.buffer x p v) (sound.buffered x p v);
  out =
      λ x o. All-weaker (Leaves s x o) (IsSent s)
      (λ f leaves. record { goal = leaves.lane_there.destination; channel = leaves.owned.0 }) (net.out x o)
      (sound.leaving x o);
  entries = sound.entries;
  few = λ x o y c linked c_in. let total = sound.credits x o y c c_in linked in omega arith;
  credits = own_of_all s own net sound.credits;
  unfed =
      λ x k. All-weaker (IsFrom s x k) (IsBound s) (λ f from. from.lane_there.destination) (net.unfed x k)
      (sound.unfed x k);
}
