-- A flit is sent: it leaves its buffer, and goes onto a link or into the sink.
use Rattle.std.proofs.Common.{◌≡◌, ℕ, ◌<◌, true, false, ◌⊎◌, inl, inr, ◌==◌, List, [], ◌∷◌, ◌++◌, All, Option, Some}
use Rattle.std.proofs.Common.{None, IsSome, refl, sym, ap, subst, ◌∙◌, arith, append_assoc, append-nil}
use Rattle.std.proofs.lemmas.List.Elements.{All-head, All-push, filter-append}
use Rattle.worm_flit.specs.declared.Lane.{Lane}
use Rattle.worm_flit.specs.declared.Flit.{Flit}
use Rattle.worm_flit.specs.Stamps.{on_channel, with_channel, is_of_lane}
use Rattle.worm_records.specs.declared.InRecord.TheVariants.{Active}
use Rattle.worm_theory.specs.Worm.{MayCome, Runs, worm_after}
use Rattle.worm_theory.specs.Shape.{Shape, IsMesh, Enters}
use Rattle.worm_theory.specs.Network.{Network, upstream, same, put2}
use Rattle.worm_theory.specs.Steps.{IsPort}
use Rattle.worm_theory.specs.Sound.{InBuffer, Passes}
use Rattle.worm_theory.specs.Cut.{held}
use Rattle.worm_theory.proofs.Places.{number_cases, place_cases, same-true, same-false}
use Rattle.worm_theory.proofs.Runs.{MayCome-channel}
use Rattle.worm_theory.proofs.MeshLaws.{is_mesh_port}
use Rattle.worm_theory.proofs.Packets.{same_lane_cases}
use Rattle.worm_theory.proofs.Routes.{enters_once}
use Rattle.worm_theory.proofs.Cut.{held_one, held-push}
use Rattle.worm_theory.proofs.Send.{send_down, send_up, send_sources, send_sinks, send_records, send_holders}
use Rattle.worm_theory.proofs.Send.{send_fits, send_buffered, send_passed, send_leaving, leading, passing, up_sum}
use Rattle.worm_theory.proofs.Send.{down_sum}
use Rattle.worm_theory.specs.Parts.{Parts, worm_end, opened, reached}
use Rattle.worm_theory.specs.PartSound.{PartSound, PartQueues, ArrivalsRun, DeparturesRun, CreditsUp, CreditsDown}
use Rattle.worm_theory.specs.PartSound.{SentSince, ChannelsQueue, LastsDepart, DepartedAreSent, ComesBy}
use Rattle.worm_theory.specs.Links.{MayPush}
use Rattle.worm_theory.specs.PartSteps.{send_part}
use Rattle.worm_theory.proofs.PartLists.{Runs-end, worm_end-append}

-- what is pushed at one place is, of another lane, nothing
pushed_other : (lane : Lane) (places : ℕ → ℕ → List Flit) (a b : ℕ) (f : Flit) → is_of_lane lane f ≡ false →
    (i j : ℕ) → held lane (put2 places a b (places a b ++ f ∷ []) i j) ≡ held lane (places i j)
pushed_other lane places a b f off i j =
    elim (place_cases i j a b) [
      | inl here ↦ rw (here.0, held-push lane (places a b) f, off, append-nil, here.1, here.2)
      | inr away ↦ rw away.0
    ]

module _ (s : Shape) (mesh : IsMesh s) (old : Network) (parts : Parts) (sound : PartSound s old parts) (x p v o c : ℕ)
    (f : Flit) (rest : List Flit) (active : parts.near.in_record x p v ≡ Active o c)
    (front : parts.near.buffer x p v ≡ f ∷ rest) (port : IsPort s x p) where
  abbrev next : Parts
  next = send_part s parts x p v (Active o c) (f ∷ rest)

  from_link : (end : Option ℕ) → s.neighbour x p ≡ end → IsSome end →
      MayCome (worm_after (parts.near.last_out x p v)) f
  from_link None e linked = cc
  from_link (Some y) e linked = let line = rw front at (sound.arrivals x p y v e) in line.0

  -- the front of a buffer follows what left it last
  follows : MayCome (worm_after (parts.near.last_out x p v)) f
  follows =
      elim port [
        | inl at ↦
            let fed = rw (rw at at front) at (sound.sources x v) in
            rw at fed.0
        | inr linked ↦ from_link (s.neighbour x p) refl linked
      ]

  goes_on : (z : ℕ) → s.neighbour x o ≡ Some z →
      MayCome (worm_end (opened old z (s.opposite o) c) (on_channel c (parts.near.out x o))) (with_channel f c)
  goes_on z linked =
      let ended =
      Runs-end (on_channel c (parts.near.out x o)) (opened old z (s.opposite o) c) (upstream parts.near x o c)
      (sound.departures x o z c linked) in
      let held_by = (sound.holders x o c p v).1 active in
      rw (ended, held_by) (MayCome-channel (worm_after (parts.near.last_out x p v)) f c follows)

  -- the flit may go onto its link
  pub may_push : MayPush s old parts x o (with_channel f c)
  may_push =
      let pass = passing s parts.near x p v o c f rest active front sound.buffered in
      let leads = leading s parts.near x p v o c f rest active front follows sound.records in
      record {
        follows = goes_on;
        crosses =
            record {
              owned = leads.1;
              lane_there = pass.lane_there;
              by_port = leads.0;
              from_port = p;
              entered = pass.entered;
            };
      }

  send_arrivals : ArrivalsRun s old next
  send_arrivals x2 p2 y2 v2 linked =
      let h : Runs (worm_after (parts.near.last_out x2 p2 v2)) (parts.near.buffer x2 p2 v2 ++ [])
      (reached old parts x2 p2 v2) = rw append-nil (sound.arrivals x2 p2 y2 v2 linked) in
      rw append-nil at (send_down s parts.near x p v o c f rest active front x2 p2 v2 []
      (reached old parts x2 p2 v2) h)

  send_departures : DeparturesRun s old next
  send_departures y o2 x2 v2 linked =
      send_up s parts.near x p v o c f rest active front sound.holders follows y o2 v2
      (opened old x2 (s.opposite o2) v2) [] (sound.departures y o2 x2 v2 linked)

  send_since : SentSince old next
  send_since x2 o2 =
      let h = sound.sent_since x2 o2 in
      elim (place_cases x2 o2 x o) [
        | inl here ↦
            let line : parts.near.out x o ≡ old.out x2 o2 ++ h.0 =
            ap (λ z. parts.near.out z o) (sym here.1) ∙ ap (parts.near.out x2) (sym here.2) ∙ h.1 in
            (h.0 ++ with_channel f c ∷ [], rw (here.0, line, append_assoc (old.out x2 o2) h.0 (with_channel f c ∷ [])))
        | inr away ↦ (h.0, rw away.0 h.1)
      ]

  send_credits_up : (0 < parts.near.credits x o c) ⊎ (o ≡ s.terminal) → CreditsUp s old next
  send_credits_up may y o2 x2 v2 there linked =
      let h = sound.credits_up y o2 x2 v2 there linked in
      let off : o2 ≡ s.terminal → ⊥ = λ e. is_mesh_port s mesh y o2 x2 linked e in
      let up = up_sum s parts.near x p v o c f rest active front may y o2 v2 off in
      omega arith

  send_credits_down : CreditsDown s old next
  send_credits_down x2 p2 y v2 there linked =
      let h = sound.credits_down x2 p2 y v2 there linked in
      let down = down_sum s parts.near x p v o c f rest active front x2 p2 v2 (rw linked) in
      omega arith

  pub send_sound : (0 < parts.near.credits x o c) ⊎ (o ≡ s.terminal) → PartSound s old next
  send_sound may = record {
    arrivals = send_arrivals;
    departures = send_departures;
    credits_up = send_credits_up may;
    credits_down = send_credits_down;
    given = sound.given;
    sent_since = send_since;
    sources = send_sources s parts.near x p v o c f rest active front sound.sources;
    sinks = send_sinks s parts.near x p v o c f rest active front sound.holders follows sound.sinks;
    records = send_records s parts.near x p v o c f rest active front follows sound.records;
    holders = send_holders s parts.near x p v o c f rest active front sound.holders;
    fits = send_fits s parts.near x p v o c f rest active front sound.fits;
    buffered = send_buffered s parts.near x p v o c f rest active front sound.buffered;
    passed = send_passed s parts.near x p v o c f rest active front sound.buffered sound.passed;
    leaving =
        send_leaving s parts.near x p v o c f rest active front follows sound.records sound.buffered sound.leaving;
    unfed = sound.unfed;
    accepted = sound.accepted;
    histories = sound.histories;
  }

  module _ (queues : PartQueues s old parts) where
    in_buffer : InBuffer s x p v f
    in_buffer = All-head (InBuffer s x p v) f rest (rw front at (sound.buffered x p v))

    -- what departed since has one more, on the flit's channel
    departed_here : (x2 p2 v2 : ℕ) → same x2 p2 x p ≡ true → x2 ≡ x → p2 ≡ p →
        on_channel v2 (next.departed x2 p2) ≡ on_channel v2 (parts.departed x2 p2) ++ on_channel v2 (f ∷ [])
    departed_here x2 p2 v2 here node at =
        let list : parts.departed x p ≡ parts.departed x2 p2 = cc in
        rw (here, list) (filter-append (λ (g : Flit). v2 == g.vc) (parts.departed x2 p2) (f ∷ []))

    on_own : (v2 : ℕ) → v2 ≡ v → on_channel v2 (f ∷ []) ≡ f ∷ []
    on_own v2 e =
        let channel = in_buffer.0 in
        let on : (v2 == f.vc) ≡ true =
        elim (number_cases v2 f.vc) [ inl here ↦ here.0 | inr off ↦ absurd (off.1 (e ∙ sym channel)) ] in rw on refl

    on_none : (v2 : ℕ) → (v2 ≡ v → ⊥) → on_channel v2 (f ∷ []) ≡ []
    on_none v2 away =
        let channel = in_buffer.0 in
        let off : (v2 == f.vc) ≡ false =
        elim (number_cases v2 f.vc) [ inl here ↦ absurd (away (here.1 ∙ channel)) | inr other ↦ other.0 ] in
        rw off refl

    send_channels : ChannelsQueue old next
    send_channels x2 p2 v2 =
        let h = queues.inputs x2 p2 v2 in
        elim (place_cases x2 p2 x p) [
          | inl here ↦
              let more = departed_here x2 p2 v2 here.0 here.1 here.2 in
              elim (number_cases v2 v) [
                | inl on ↦
                    let full : parts.near.buffer x2 p2 v2 ≡ f ∷ rest = cc in
                    let own = on_own v2 on.1 in
                    let left : next.near.buffer x2 p2 v2 ≡ rest = rw (here.0, on.0) refl in
                    rw (more, own, left, append_assoc (on_channel v2 (parts.departed x2 p2)) (f ∷ []) rest)
                    (rw full at h)
                | inr off ↦
                    let none = on_none v2 off.1 in
                    let kept : next.near.buffer x2 p2 v2 ≡ parts.near.buffer x2 p2 v2 = rw (here.0, off.0) refl in
                    rw (more, none, kept, append-nil (on_channel v2 (parts.departed x2 p2))) h
              ]
          | inr away ↦ rw away.0 h
        ]

    send_lasts : LastsDepart old next
    send_lasts x2 p2 v2 =
        let h = queues.lasts x2 p2 v2 in
        elim (place_cases x2 p2 x p) [
          | inl here ↦
              let more = departed_here x2 p2 v2 here.0 here.1 here.2 in
              elim (number_cases v2 v) [
                | inl on ↦
                    let own = on_own v2 on.1 in
                    let last : next.near.last_out x2 p2 v2 ≡ Some (with_channel f c) = rw (here.0, on.0) refl in
                    rw (more, own, last) (sym (worm_end-append (on_channel v2 (parts.departed x2 p2)) (f ∷ [])
                    (worm_after (old.last_out x2 p2 v2))))
                | inr off ↦
                    let none = on_none v2 off.1 in
                    let kept : next.near.last_out x2 p2 v2 ≡ parts.near.last_out x2 p2 v2 = rw (here.0, off.0) refl in
                    rw (more, none, kept, append-nil (on_channel v2 (parts.departed x2 p2))) h
              ]
          | inr away ↦ rw away.0 h
        ]

    send_sends : DepartedAreSent s old next
    send_sends lane there x2 p2 from =
        let h = queues.sends lane there x2 p2 from in
        let pass = passing s parts.near x p v o c f rest active front sound.buffered in
        let leads = (leading s parts.near x p v o c f rest active front follows sound.records).0 in
        elim (same_lane_cases lane f.lane) [
          | inl own ↦
              elim (number_cases x2 x) [
                | inl here ↦
                    let entered : Enters s lane x p = subst (λ l. Enters s l x p) (sym own.1) pass.entered in
                    let once = enters_once s mesh lane there from entered (ap (λ z. s.hops z lane.dst) here.1) in
                    let out_port : s.next_port x2 lane.dst ≡ o =
                    ap (λ z. s.next_port z lane.dst) here.1 ∙ ap (λ (l : Lane). s.next_port x l.dst) own.1 ∙ leads in
                    let out_place : same x2 (s.next_port x2 lane.dst) x o ≡ true =
                    same-true x2 (s.next_port x2 lane.dst) x o here.1 out_port in
                    let in_place : same x2 p2 x p ≡ true = same-true x2 p2 x p here.1 once.1 in
                    let line : parts.near.out x o ≡ parts.near.out x2 (s.next_port x2 lane.dst) =
                    ap (λ z. parts.near.out z o) (sym here.1) ∙ ap (parts.near.out x2) (sym out_port) in
                    let gone : parts.departed x p ≡ parts.departed x2 p2 =
                    ap (λ z. parts.departed z p) (sym here.1) ∙ ap (parts.departed x2) (sym once.1) in
                    rw (
                      out_place,
                      in_place,
                      line,
                      gone,
                      held-push lane (parts.near.out x2 (s.next_port x2 lane.dst)) (with_channel f c),
                      held-push lane (parts.departed x2 p2) f,
                      h,
                      append_assoc (held lane (old.out x2 (s.next_port x2 lane.dst)))
                          (held lane (parts.departed x2 p2)) (held_one lane f),
                    )
                | inr away ↦
                    let out_away = same-false x2 (s.next_port x2 lane.dst) x o (λ e _. away.1 e) in
                    let in_away = same-false x2 p2 x p (λ e _. away.1 e) in
                    rw (out_away, in_away) h
              ]
          | inr other ↦
              let line = pushed_other lane parts.near.out x o (with_channel f c) other x2 (s.next_port x2 lane.dst) in
              let gone = pushed_other lane parts.departed x p f other x2 p2 in
              line ∙ h ∙ ap (λ l. held lane (old.out x2 (s.next_port x2 lane.dst)) ++ l) (sym gone)
        ]

    send_departing : (x2 p2 : ℕ) → All (ComesBy s x2 p2) (next.departed x2 p2)
    send_departing x2 p2 =
        elim (place_cases x2 p2 x p) [
          | inl here ↦
              let comes : ComesBy s x p f = subst (λ w. Passes s x p w f) (sym in_buffer.0) in_buffer.1 in
              rw (here.0, here.1, here.2) (All-push (ComesBy s x p) (parts.departed x p) f
              (queues.departing x p) comes)
          | inr away ↦ rw away.0 (queues.departing x2 p2)
        ]

    pub send_queues : PartQueues s old next
    send_queues = record {
      inputs = send_channels;
      lasts = send_lasts;
      sends = send_sends;
      sources = queues.sources;
      arriving = queues.arriving;
      departing = send_departing;
      fed = queues.fed;
    }
