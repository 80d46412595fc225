-- Whatever steps are taken, each packet is cut.
use Rattle.std.proofs.Common.{◌≡◌, ℕ, suc, zero, ◌<◌, inl, inr, true, List, [], ◌∷◌, ◌++◌, Option, Some, None, IfSome}
use Rattle.std.proofs.Common.{refl, sym, ap, subst, ◌∙◌, arith, append_assoc, length-append}
use Rattle.std.proofs.lemmas.List.Elements.{All-head}
use Rattle.worm_flit.specs.declared.Lane.{Lane}
use Rattle.worm_flit.specs.declared.Flit.{Flit}
use Rattle.worm_flit.specs.Stamps.{bare}
use Rattle.worm_flit.specs.Kinds.{closes}
use Rattle.worm_flit.specs.Packets.{packet_flits, mark}
use Rattle.worm_theory.specs.Worm.{Worm, Between, Within, MayCome, worm_after}
use Rattle.worm_theory.specs.Shape.{Shape, IsMesh, HasLane, Enters}
use Rattle.worm_theory.specs.Network.{Network}
use Rattle.worm_records.specs.declared.InRecord.{InRecord}
use Rattle.worm_records.specs.declared.InRecord.TheVariants.{Idle, Waiting, Active}
use Rattle.worm_theory.specs.Steps.{Step, Offer, CloseLane, Feed, Route, Grant, Send, Take, GiveCredit, TakeCredit}
use Rattle.worm_theory.specs.Steps.{IsPort, IsThere, offered, fed, routed, granted, sent, sent_by, taken, taken_from}
use Rattle.worm_theory.specs.Steps.{gave, got, after, next_number, empty, StepsLead}
use Rattle.worm_theory.specs.Sound.{Sound, Passes, Leaves, IsFrom}
use Rattle.worm_theory.specs.Cut.{underway_from}
use Rattle.worm_theory.specs.PacketCut.{is_of_packet, packet_held, joined, packet_store, packet_line, PacketsCut}
use Rattle.worm_theory.specs.PacketCut.{OneWithin, WithinPast, PacketsHold}
use Rattle.worm_theory.proofs.Places.{place_cases, place3_cases}
use Rattle.worm_theory.proofs.Cut.{ahead, past, ahead-split}
use Rattle.worm_theory.proofs.PacketLists.{packet-append, packet-cons, packet_cases}
use Rattle.worm_theory.proofs.PacketOnly.{PacketCutHolds, stored_first}
use Rattle.worm_theory.proofs.PacketSend.{packet_send_cut, past_more, past_stays}
use Rattle.worm_theory.proofs.PacketMoves.{packet_take_cut, take_past, packet_feed_cut, feed_past}
use Rattle.worm_theory.proofs.Send.{leading, passing, front_follows}
use Rattle.worm_theory.proofs.Lists.{any_list}
use Rattle.worm_theory.proofs.Keeps.{step_sound}
use Rattle.worm_theory.proofs.Runs.{within-is, nowhere}

-- what a channel is within has passed it
pub within-passed : (s : Shape) (x p v : ℕ) (last : Option Flit) (g : Flit) → worm_after last ≡ Within g
    → IfSome last (Passes s x p v) → Enters s g.lane x p
within-passed s x p v None g e h = cc
within-passed s x p v (Some f) g e h = subst (λ l. Enters s l x p)
    (ap (λ (q : Flit). q.lane) (within-is (closes f.kind) f g e)) h.entered

module _ (s : Shape) (mesh : IsMesh s) where
  pub split_packet : (net : Network) (lane : Lane) (k : ℕ) (there : HasLane s lane) →
      packet_held lane k (net.out lane.dst s.terminal)
      ++ (underway_from s (packet_store s net lane k) (packet_line net lane k) lane.dst
      (s.hops lane.src lane.dst) lane.src s.terminal ++ packet_held lane k (net.unfed lane.src lane.class)) ≡
      ahead s mesh lane there (packet_store s net lane k) (packet_line net lane k)
      (s.hops lane.src lane.dst) lane.src s.terminal ++ packet_held lane k (net.unfed lane.src lane.class)
  split_packet net lane k there =
      rw (
        ahead-split s mesh lane there (packet_store s net lane k) (packet_line net lane k)
            (s.hops lane.src lane.dst) lane.src s.terminal there.source refl,
        append_assoc (packet_held lane k (net.out lane.dst s.terminal))
            (underway_from s (packet_store s net lane k) (packet_line net lane k) lane.dst
            (s.hops lane.src lane.dst) lane.src s.terminal) (packet_held lane k (net.unfed lane.src lane.class)),
      )

  pub to_packets : (net : Network) → ((lane : Lane) (k : ℕ) (there : HasLane s lane)
      → PacketCutHolds s mesh lane there k net) → PacketsCut s net
  to_packets net h lane k there = split_packet net lane k there ∙ h lane k there

  module _ (net : Network) (sound : Sound s net) (hold : PacketsHold s net) where
    pub cut_of : (lane : Lane) (k : ℕ) (there : HasLane s lane) → PacketCutHolds s mesh lane there k net
    cut_of lane k there = sym (split_packet net lane k there) ∙ hold.cut lane k there

    pub offer_packets : (x c : ℕ) (fs : List Flit) → PacketsHold s (offered net x c fs)
    offer_packets x c fs = record {
      cut = to_packets (offered net x c fs) (λ lane k there.
          let cut = cut_of lane k there in
          elim (place_cases lane.src lane.class x c) [
            | inl here ↦
                let full : net.unfed x c ≡ net.unfed lane.src lane.class = cc in
                let all : net.injected x c ≡ net.injected lane.src lane.class = cc in
                rw (
                  here.0,
                  full,
                  all,
                  packet-append lane k (net.unfed lane.src lane.class) fs,
                  packet-append lane k (net.injected lane.src lane.class) fs,
                  ← append_assoc (ahead s mesh lane there (packet_store s net lane k) (packet_line net lane k)
                      (s.hops lane.src lane.dst) lane.src s.terminal)
                      (packet_held lane k (net.unfed lane.src lane.class)) (packet_held lane k fs),
                  cut,
                )
            | inr away ↦ rw away.0 cut
          ]);
      one = hold.one;
      within_past = hold.within_past;
    }

    pub feed_packets : (x c : ℕ) (fs : List Flit) → net.unfed x c ≡ fs → c < s.classes
        → PacketsHold s (fed s net x c fs)
    feed_packets x c [] e class_there = hold
    feed_packets x c (f ∷ rest) e class_there =
        let from = All-head (IsFrom s x c) f rest (rw e at (sound.unfed x c)) in
        record {
          cut = to_packets (fed s net x c (f ∷ rest))
              (λ lane k there. packet_feed_cut s mesh lane there k net sound
              (cut_of lane k there) hold.one hold.within_past x c class_there f rest e from);
          one = hold.one;
          within_past = λ lane k there x2 p2 v2 g entered w l n.
              rw (feed_past s mesh lane there k net sound
              (cut_of lane k there) hold.one hold.within_past x c class_there f rest e from x2 p2 entered)
              (hold.within_past lane k there x2 p2 v2 g entered w l n);
        }

    pub take_packets_on : (x p y : ℕ) (fs : List Flit) → s.neighbour x p ≡ Some y → net.out y (s.opposite p) ≡ fs
        → PacketsHold s (taken_from net x p y (s.opposite p) fs)
    take_packets_on x p y [] linked e = hold
    take_packets_on x p y (f ∷ rest) linked e =
        let leaves = All-head (Leaves s y (s.opposite p)) f rest (rw e at (sound.leaving y (s.opposite p))) in
        record {
          cut = to_packets (taken_from net x p y (s.opposite p) (f ∷ rest))
              (λ lane k there. packet_take_cut s mesh lane there k net sound
              (cut_of lane k there) hold.one hold.within_past x p y linked f rest e leaves);
          one = hold.one;
          within_past = λ lane k there x2 p2 v2 g entered w l n.
              rw (take_past s mesh lane there k net sound
              (cut_of lane k there) hold.one hold.within_past x p y linked f rest e leaves x2 p2 entered)
              (hold.within_past lane k there x2 p2 v2 g entered w l n);
        }

    pub take_packets : (x p : ℕ) (end : Option ℕ) → s.neighbour x p ≡ end → PacketsHold s (taken s net x p end)
    take_packets x p None e = hold
    take_packets x p (Some y) e = take_packets_on x p y (net.out y (s.opposite p)) e refl

    module _ (x p v o d : ℕ) (f : Flit) (rest : List Flit) (front : net.buffer x p v ≡ f ∷ rest)
        (pass : Passes s x p v f) (leads : s.next_port x f.lane.dst ≡ o)
        (follows : MayCome (worm_after (net.last_out x p v)) f) where
      own_first : packet_held f.lane f.packet (net.buffer x p v) ≡ bare f ∷ packet_held f.lane f.packet rest
      own_first =
          let test : is_of_packet f.lane f.packet f ≡ true =
          elim (packet_cases f.lane f.packet f) [ inl on ↦ on.0 | inr off ↦ absurd (off.1 refl refl) ] in
          rw (front, packet-cons f.lane f.packet f rest, test)

      pub send_new_at : (w : Worm) → worm_after (net.last_out x p v) ≡ w → MayCome w f → (p3 v3 : ℕ) (g : Flit)
          → worm_after (net.last_out x p3 v3) ≡ Within g → g.lane ≡ f.lane → g.packet ≡ f.packet → (p3 ≡ p) × (v3 ≡ v)
      send_new_at Between e fol p3 v3 g e3 l n =
          let entered = subst (λ q. Enters s q x p3) l
          (within-passed s x p3 v3 (net.last_out x p3 v3) g e3 (sound.passed x p3 v3)) in
          let some = hold.within_past f.lane f.packet pass.lane_there x p3 v3 g entered e3 (sym l) (sym n) in
          absurd (stored_first s mesh f.lane pass.lane_there f.packet net sound
          (cut_of f.lane f.packet pass.lane_there) hold.one hold.within_past pass.entered v pass.owned.0 (bare f)
          (packet_held f.lane f.packet rest) own_first fol.1 some)
      send_new_at (Within h) e fol p3 v3 g e3 l n = hold.one x p3 v3 p v g h e3 e (l ∙ fol.1) (n ∙ fol.2)

      pub send_new : (p3 v3 : ℕ) (g : Flit) → worm_after (net.last_out x p3 v3) ≡ Within g → g.lane ≡ f.lane
          → g.packet ≡ f.packet → (p3 ≡ p) × (v3 ≡ v)
      send_new = send_new_at (worm_after (net.last_out x p v)) refl follows

      pub send_one : OneWithin (sent_by s net x p v o d f rest)
      send_one x2 p2 v2 p3 v3 g g2 e1 e2 l n =
          elim (place3_cases x2 p2 v2 x p v) [
            | inl a ↦
                let is_f = within-is (closes f.kind) f g (rw a.0 at e1) in
                elim (place3_cases x2 p3 v3 x p v) [
                  | inl b ↦ (a.2 ∙ sym b.2, a.3 ∙ sym b.3)
                  | inr b ↦
                      let old = rw (b.0, a.1) at e2 in
                      let at = send_new p3 v3 g2 old (sym l ∙ sym (ap (λ (q : Flit). q.lane) is_f))
                      (sym n ∙ sym (ap (λ (q : Flit). q.packet) is_f)) in
                      (a.2 ∙ sym at.0, a.3 ∙ sym at.1)
                ]
            | inr a ↦
                elim (place3_cases x2 p3 v3 x p v) [
                  | inl b ↦
                      let is_f = within-is (closes f.kind) f g2 (rw b.0 at e2) in
                      let old = rw (a.0, b.1) at e1 in
                      let at = send_new p2 v2 g old (l ∙ sym (ap (λ (q : Flit). q.lane) is_f))
                      (n ∙ sym (ap (λ (q : Flit). q.packet) is_f)) in
                      (at.0 ∙ sym b.2, at.1 ∙ sym b.3)
                  | inr b ↦ hold.one x2 p2 v2 p3 v3 g g2 (rw a.0 at e1) (rw b.0 at e2) l n
                ]
          ]

      pub send_within : WithinPast s (sent_by s net x p v o d f rest)
      send_within lane k there x2 p2 v2 g entered e l n =
          elim (place3_cases x2 p2 v2 x p v) [
            | inl here ↦
                let is_f = within-is (closes f.kind) f g (rw here.0 at e) in
                elim (packet_cases lane k f) [
                  | inl on ↦
                      rw (
                        here.1,
                        past_more s mesh lane there k net sound
                            (cut_of lane k there) hold.one hold.within_past x p v o d f rest front pass leads on.0 on.1,
                        length-append (past s mesh lane there (packet_store s net lane k) (packet_line net lane k)
                            (s.hops x lane.dst) x) (bare f ∷ []),
                      ) (omega arith)
                  | inr off ↦ absurd (off.1 (l ∙ sym (ap (λ (q : Flit). q.lane) is_f))
                      (n ∙ sym (ap (λ (q : Flit). q.packet) is_f)))
                ]
            | inr away ↦
                let old = hold.within_past lane k there x2 p2 v2 g entered (rw away.0 at e) l n in
                let stays = past_stays s mesh lane there k net sound
                (cut_of lane k there) hold.one hold.within_past x p v o d f rest front pass leads x2 p2 entered in
                omega arith
          ]

      pub send_packets_by : PacketsHold s (sent_by s net x p v o d f rest)
      send_packets_by = record {
        cut = to_packets (sent_by s net x p v o d f rest)
            (λ lane k there. packet_send_cut s mesh lane there k net sound
            (cut_of lane k there) hold.one hold.within_past x p v o d f rest front pass leads);
        one = send_one;
        within_past = send_within;
      }

    pub send_packets : (x p v : ℕ) (r : InRecord) (fs : List Flit) → net.in_record x p v ≡ r → net.buffer x p v ≡ fs
        → IsPort s x p → PacketsHold s (sent s net x p v r fs)
    send_packets x p v Idle fs e1 e2 port = hold
    send_packets x p v (Waiting o) fs e1 e2 port = hold
    send_packets x p v (Active o d) [] e1 e2 port = hold
    send_packets x p v (Active o d) (f ∷ rest) e1 e2 port =
        let follows = front_follows s mesh net x p v o d f rest e1 e2 port sound.links sound.sources in
        let leads = leading s net x p v o d f rest e1 e2 follows sound.records in
        let pass = passing s net x p v o d f rest e1 e2 sound.buffered in
        send_packets_by x p v o d f rest e2 pass leads.0 follows

    pub route_packets : (x p v : ℕ) (fs : List Flit) → PacketsHold s (routed s net x p v fs)
    route_packets x p v [] = hold
    route_packets x p v (f ∷ rest) = record { cut = hold.cut; one = hold.one; within_past = hold.within_past }

    pub grant_packets : (x p v d : ℕ) (r : InRecord) → PacketsHold s (granted net x p v d r)
    grant_packets x p v d Idle = hold
    grant_packets x p v d (Waiting o) = record { cut = hold.cut; one = hold.one; within_past = hold.within_past }
    grant_packets x p v d (Active o e) = hold

    pub give_packets : (x p v : ℕ) (end : Option ℕ) → PacketsHold s (gave s net x p v end)
    give_packets x p v None = hold
    give_packets x p v (Some y) = record { cut = hold.cut; one = hold.one; within_past = hold.within_past }

    pub get_packets : (x o : ℕ) (cs : List ℕ) → PacketsHold s (got net x o cs)
    get_packets x o [] = hold
    get_packets x o (d ∷ rest) = record { cut = hold.cut; one = hold.one; within_past = hold.within_past }

    pub step_packets : (step : Step) → IsThere s step → PacketsHold s (after s net step)
    step_packets (Offer x l ws) at = offer_packets x l.class (packet_flits l (next_number net l) ws)
    step_packets (CloseLane x l) at = offer_packets x l.class (mark l (next_number net l) ∷ [])
    step_packets (Feed x c) at = feed_packets x c (net.unfed x c) refl at.1
    step_packets (Route x p v) at = route_packets x p v (net.buffer x p v)
    step_packets (Grant x p v d) at = grant_packets x p v d (net.in_record x p v)
    step_packets (Send x p v) at = send_packets x p v (net.in_record x p v) (net.buffer x p v) refl refl at.1
    step_packets (Take x p) at = take_packets x p (s.neighbour x p) refl
    step_packets (GiveCredit x p v) at = give_packets x p v (s.neighbour x p)
    step_packets (TakeCredit x o) at = get_packets x o (net.credit_list x o)

  nothing_stored : (n : ℕ) → joined n (λ v. []) ≡ []
  nothing_stored zero = refl
  nothing_stored (suc n) = rw (nothing_stored n)

  nothing_ahead : (lane : Lane) (there : HasLane s lane) (k n x p : ℕ) → x < s.nodes → s.hops x lane.dst ≡ n
      → ahead s mesh lane there (packet_store s (empty s) lane k) (packet_line (empty s) lane k) n x p ≡ []
  nothing_ahead lane there k zero x p in_mesh e = nothing_stored s.vcs
  nothing_ahead lane there k (suc n) x p in_mesh e =
      let on = mesh.goes_on x lane.dst n in_mesh there.destination e in
      let linked = on.1 in
      let rest = nothing_ahead lane there k n on.0 (s.opposite (s.next_port x lane.dst)) on.2 on.3 in
      rw (linked, rest) (nothing_stored s.vcs)

  pub empty_packets : PacketsHold s (empty s)
  empty_packets = record {
    cut = to_packets (empty s) (λ lane k there. rw
        (nothing_ahead lane there k (s.hops lane.src lane.dst) lane.src s.terminal there.source refl));
    one = λ x p v p2 v2 g g2 e e2 l n. absurd (nowhere g e);
    within_past = λ lane k there x p v g entered e l n. absurd (nowhere g e);
  }

  pub steps_packets : (steps : List Step) (old new : Network) → StepsLead s old steps new → Sound s old
      → PacketsHold s old → PacketsHold s new
  steps_packets steps old new lead sound hold =
      (any_list s (λ net. Sound s net × PacketsHold s net)
      (λ net step at enabled kept. (
        step_sound s mesh net step at enabled kept.0,
        step_packets net kept.0 kept.1 step at,
      )) steps old new lead (sound, hold)).1
