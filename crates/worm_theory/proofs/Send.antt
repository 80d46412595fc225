-- The front of a buffer goes out, on the channel that its packet holds.
use Rattle.std.proofs.Common.{◌≡◌, ℕ, ◌+◌, ◌<◌, Bool, true, false, cond, ◌⊎◌, inl, inr, ◌==◌, List, [], ◌∷◌, ◌++◌}
use Rattle.std.proofs.Common.{length, Option, Some, None, IsSome, refl, ◌∙◌, arith, length-append, append-nil}
use Rattle.std.proofs.lemmas.List.Elements.{All-head, All-tail, All-push, filter-append}
use Rattle.worm_flit.specs.declared.Flit.{Flit}
use Rattle.worm_flit.specs.Stamps.{on_channel, with_channel, bare}
use Rattle.worm_flit.specs.Kinds.{closes}
use Rattle.worm_theory.specs.Worm.{Worm, Between, Within, Runs, MayCome, worm_after}
use Rattle.worm_theory.specs.Shape.{Shape, IsMesh, Owns}
use Rattle.worm_theory.specs.Network.{Network, same3, upstream, upstream_of}
use Rattle.worm_records.specs.declared.InRecord.TheVariants.{Active}
use Rattle.worm_theory.specs.Steps.{sent_by}
use Rattle.worm_theory.specs.Sound.{LinksRun, SourcesRun, SinksRun, RecordsAgree, HoldersAgree, BuffersFit, CreditsAdd}
use Rattle.worm_theory.specs.Sound.{BuffersHold, LastsHold, OutsHold, Sound, unfed_on, InBuffer, Passes, Leaves}
use Rattle.worm_theory.proofs.Runs.{Runs-push, MayCome-channel}
use Rattle.worm_theory.proofs.Places.{number_cases, place_cases, place3_cases, same-true, same3-true, some_pair}
use Rattle.worm_theory.proofs.Places.{bool_cases}
use Rattle.worm_theory.proofs.Agreement.{lane_at-follows}

-- an output channel that is freed by a closing flit, and else stays with the holder that sent it
pub upstream_after : (b : Bool) (last : ℕ → ℕ → ℕ → Option Flit) (x p v : ℕ) (w : Worm)
    → worm_after (last x p v) ≡ cond b Between w → upstream_of last x (cond b None (Some (p, v))) ≡ cond b Between w
upstream_after true last x p v w e = refl
upstream_after false last x p v w e = e

module _ (s : Shape) (net : Network) (x p v o c : ℕ) (f : Flit) (rest : List Flit)
    (active : net.in_record x p v ≡ Active o c) (front : net.buffer x p v ≡ f ∷ rest) where
  -- a channel into which this flit did not go keeps what it had
  pub out_elsewhere : (x2 o2 c2 : ℕ) → (x2 ≡ x → o2 ≡ o → c2 ≡ c → ⊥)
      → on_channel c2 ((sent_by s net x p v o c f rest).out x2 o2) ≡ on_channel c2 (net.out x2 o2)
  out_elsewhere x2 o2 c2 other =
      elim (place_cases x2 o2 x o) [
        | inl here ↦
            let off : (c2 == c) ≡ false = elim (number_cases c2 c) [
              | inl on ↦ absurd (other here.1 here.2 on.1)
              | inr off ↦ off.0
            ] in
            rw (
              here.0,
              filter-append (λ (g : Flit). c2 == g.vc) (net.out x o) (with_channel f c ∷ []),
              off,
              append-nil,
              here.1,
              here.2,
            )
        | inr away ↦ rw away.0
      ]

  pub out_here : (x2 o2 c2 : ℕ) → x2 ≡ x → o2 ≡ o → c2 ≡ c
      → on_channel c2 ((sent_by s net x p v o c f rest).out x2 o2) ≡ on_channel c2 (net.out x2 o2)
      ++ with_channel f c ∷ []
  out_here x2 o2 c2 ex eo ec =
      let here = same-true x2 o2 x o ex eo in
      let on : (c2 == c) ≡ true = grind arith in
      rw (here, filter-append (λ (g : Flit). c2 == g.vc) (net.out x o) (with_channel f c ∷ []), on, ex, eo)

  -- the flit leaves its channel's downstream end
  pub send_down : (x2 p2 v2 : ℕ) (line : List Flit) (to : Worm)
      → Runs (worm_after (net.last_out x2 p2 v2)) (net.buffer x2 p2 v2 ++ line) to
      → Runs (worm_after ((sent_by s net x p v o c f rest).last_out x2 p2 v2))
      ((sent_by s net x p v o c f rest).buffer x2 p2 v2 ++ line) to
  send_down x2 p2 v2 line to h =
      elim (place3_cases x2 p2 v2 x p v) [
        | inl here ↦
            let full : net.buffer x2 p2 v2 ≡ f ∷ rest = cc in
            let at_front = rw full at h in
            rw here.0 at_front.1
        | inr away ↦ rw away.0 h
      ]

  pub upstream_elsewhere : HoldersAgree net → (x2 o2 c2 : ℕ) → (x2 ≡ x → o2 ≡ o → c2 ≡ c → ⊥)
      → (holder : Option (ℕ × ℕ)) → net.holder x2 o2 c2 ≡ holder
      → upstream_of (sent_by s net x p v o c f rest).last_out x2 holder ≡ upstream_of net.last_out x2 holder
  upstream_elsewhere holders x2 o2 c2 other None e = refl
  upstream_elsewhere holders x2 o2 c2 other (Some h) e =
      elim (place3_cases x2 h.0 h.1 x p v) [
        | inl here ↦
            let was : net.in_record x2 h.0 h.1 ≡ Active o2 c2 = (holders x2 o2 c2 h.0 h.1).0 e in
            let eo : o2 ≡ o = cc in
            let ec : c2 ≡ c = cc in
            absurd (other here.1 eo ec)
        | inr away ↦ rw away.0
      ]

  -- it comes to the upstream end of the channel that its packet holds
  pub send_up : HoldersAgree net → MayCome (worm_after (net.last_out x p v)) f
      → (x2 o2 c2 : ℕ) (from : Worm) (fs : List Flit)
      → Runs from (fs ++ on_channel c2 (net.out x2 o2)) (upstream net x2 o2 c2)
      → Runs from (fs ++ on_channel c2 ((sent_by s net x p v o c f rest).out x2 o2))
      (upstream (sent_by s net x p v o c f rest) x2 o2 c2)
  send_up holders follows x2 o2 c2 from fs h =
      elim (place3_cases x2 o2 c2 x o c) [
        | inl here ↦
            let held : net.holder x2 o2 c2 ≡ Some (p, v) = let hold = (holders x o c p v).1 active in cc in
            let was = rw held at h in
            let next : MayCome (worm_after (net.last_out x2 p v)) f = rw here.1 follows in
            let pushed = Runs-push fs (on_channel c2 (net.out x2 o2)) (with_channel f c) from
            (worm_after (net.last_out x2 p v)) was (MayCome-channel (worm_after (net.last_out x2 p v)) f c next) in
            let line = out_here x2 o2 c2 here.1 here.2 here.3 in
            let own : same3 x2 p v x p v ≡ true = same3-true x2 p v x p v here.1 refl refl in
            let end = upstream_after (closes f.kind) (sent_by s net x p v o c f rest).last_out x2 p v (Within (bare f))
            (rw own) in
            rw (line, here.0, end) pushed
        | inr away ↦
            let line = out_elsewhere x2 o2 c2 away.1 in
            let end : upstream_of (sent_by s net x p v o c f rest).last_out x2 (net.holder x2 o2 c2)
            ≡ upstream net x2 o2 c2 = upstream_elsewhere holders x2 o2 c2 away.1 (net.holder x2 o2 c2) refl in
            rw (line, away.0, end) h
      ]

  pub send_links : HoldersAgree net → MayCome (worm_after (net.last_out x p v)) f → LinksRun s net
      → LinksRun s (sent_by s net x p v o c f rest)
  send_links holders follows sound y2 o2 x2 v2 n2 =
      send_up holders follows y2 o2 v2 (worm_after ((sent_by s net x p v o c f rest).last_out x2 (s.opposite o2) v2))
      ((sent_by s net x p v o c f rest).buffer x2 (s.opposite o2) v2)
      (send_down x2 (s.opposite o2) v2 (on_channel v2 (net.out y2 o2)) (upstream net y2 o2 v2) (sound y2 o2 x2 v2 n2))

  pub send_sources : SourcesRun s net → SourcesRun s (sent_by s net x p v o c f rest)
  send_sources sound x2 v2 = send_down x2 s.terminal v2 (unfed_on s net x2 v2) Between (sound x2 v2)

  pub send_sinks : HoldersAgree net → MayCome (worm_after (net.last_out x p v)) f → SinksRun s net
      → SinksRun s (sent_by s net x p v o c f rest)
  send_sinks holders follows sound x2 v2 = send_up holders follows x2 s.terminal v2 Between [] (sound x2 v2)

  -- the packet's lane leaves by the record's port, and its class owns the record's channel
  pub leading : MayCome (worm_after (net.last_out x p v)) f → RecordsAgree s net
      → (s.next_port x f.lane.dst ≡ o) × Owns s f.lane.class c
  leading follows sound =
      let agrees = rw (active, front) at (sound x p v) in
      let lane = lane_at-follows (worm_after (net.last_out x p v)) f rest follows in
      rw lane at agrees

  pub send_records : MayCome (worm_after (net.last_out x p v)) f → RecordsAgree s net
      → RecordsAgree s (sent_by s net x p v o c f rest)
  send_records follows sound x2 p2 v2 =
      elim (place3_cases x2 p2 v2 x p v) [
        | inl here ↦
            let leads = leading follows sound in
            elim (bool_cases (closes f.kind)) [
              | inl closing ↦ rw (here.0, closing) refl
              | inr open_still ↦ rw (here.0, open_still, here.1) leads
            ]
        | inr away ↦ rw away.0 (sound x2 p2 v2)
      ]

  pub send_holders : HoldersAgree net → HoldersAgree (sent_by s net x p v o c f rest)
  send_holders sound x2 o2 c2 p2 v2 =
      let h = sound x2 o2 c2 p2 v2 in
      let hold = (sound x o c p v).1 active in
      elim (place3_cases x2 o2 c2 x o c) [
        | inl held ↦
            elim (place3_cases x2 p2 v2 x p v) [
              | inl here ↦
                  elim (bool_cases (closes f.kind)) [
                    | inl closing ↦ rw (held.0, here.0, closing) (λ e. cc, λ e. cc)
                    | inr open_still ↦ rw (held.0, here.0, open_still) (λ e. cc, λ e. cc)
                  ]
              | inr away ↦
                  let kept : net.in_record x2 p2 v2 ≡ Active o2 c2 → ⊥ =
                  λ e.
                  let other = h.1 e in
                  let both : ◌≡◌ {A = Option (ℕ × ℕ)} (Some (p, v)) (Some (p2, v2)) = cc in
                  let pair = some_pair p v p2 v2 both in
                  away.1 held.1 pair.0 pair.1 in
                  elim (bool_cases (closes f.kind)) [
                    | inl closing ↦ rw (held.0, away.0, closing) (λ e. cc, λ e. absurd (kept e))
                    | inr open_still ↦ rw (
                      held.0,
                      away.0,
                      open_still,
                    ) (
                      λ e. let pair = some_pair p v p2 v2 e in absurd (away.1 held.1 pair.0 pair.1),
                      λ e. absurd (kept e),
                    )
                  ]
            ]
        | inr unheld ↦
            elim (place3_cases x2 p2 v2 x p v) [
              | inl here ↦
                  let was : net.in_record x2 p2 v2 ≡ Active o c = cc in
                  elim (bool_cases (closes f.kind)) [
                    | inl closing ↦ rw (
                      unheld.0,
                      here.0,
                      closing,
                    ) (
                      λ e. let now = h.0 e in let eo : o2 ≡ o = cc in let ec : c2 ≡ c = cc in
                          absurd (unheld.1 here.1 eo ec),
                      λ e. cc,
                    )
                    | inr open_still ↦ rw (
                      unheld.0,
                      here.0,
                      open_still,
                    ) (
                      λ e. let now = h.0 e in let eo : o2 ≡ o = cc in let ec : c2 ≡ c = cc in
                          absurd (unheld.1 here.1 eo ec),
                      λ e. let eo : o2 ≡ o = cc in let ec : c2 ≡ c = cc in absurd (unheld.1 here.1 eo ec),
                    )
                  ]
              | inr away ↦ rw (unheld.0, away.0) h
            ]
      ]

  pub send_fits : BuffersFit s net → BuffersFit s (sent_by s net x p v o c f rest)
  send_fits sound x2 p2 v2 =
      let h = sound x2 p2 v2 in
      elim (place3_cases x2 p2 v2 x p v) [
        | inl here ↦
            let full : net.buffer x2 p2 v2 ≡ f ∷ rest = cc in
            let fit = rw full at h in
            rw here.0 (omega arith)
        | inr away ↦ rw away.0 h
      ]

  -- the buffer's place becomes a credit owed
  pub down_sum : (x2 p2 v2 : ℕ) → IsSome (s.neighbour x2 p2)
      → length ((sent_by s net x p v o c f rest).buffer x2 p2 v2) + (sent_by s net x p v o c f rest).owed x2 p2 v2
      ≡ length (net.buffer x2 p2 v2) + net.owed x2 p2 v2
  down_sum x2 p2 v2 linked =
      elim (place3_cases x2 p2 v2 x p v) [
        | inl here ↦
            let full : net.buffer x2 p2 v2 ≡ f ∷ rest = cc in
            let debt : net.owed x2 p2 v2 ≡ net.owed x p v = cc in
            let there = rw (here.1, here.2) at linked in
            rw (here.0, full, there) (omega arith)
        | inr away ↦ rw away.0
      ]

  -- a credit becomes a flit on the link
  pub up_sum : (0 < net.credits x o c) ⊎ (o ≡ s.terminal) → (x2 o2 c2 : ℕ) → (o2 ≡ s.terminal → ⊥)
      → (sent_by s net x p v o c f rest).credits x2 o2 c2 + length
      (on_channel c2 ((sent_by s net x p v o c f rest).out x2 o2))
      ≡ net.credits x2 o2 c2 + length (on_channel c2 (net.out x2 o2))
  up_sum may x2 o2 c2 off =
      elim (place3_cases x2 o2 c2 x o c) [
        | inl here ↦
            let line = out_here x2 o2 c2 here.1 here.2 here.3 in
            let count : net.credits x2 o2 c2 ≡ net.credits x o c = cc in
            elim may [
              | inl credit ↦
                  let far : (o == s.terminal) ≡ false =
                  elim (number_cases o s.terminal) [
                    | inl at ↦ absurd (off (here.2 ∙ at.1))
                    | inr not_at ↦ not_at.0
                  ] in
                  rw (here.0, line, far, ← count, length-append (on_channel c2 (net.out x2 o2)) (with_channel f c ∷ []))
                  (omega arith)
              | inr at ↦ absurd (off (here.2 ∙ at))
            ]
        | inr away ↦
            let line = out_elsewhere x2 o2 c2 away.1 in
            rw (line, away.0)
      ]

  pub send_buffered : BuffersHold s net → BuffersHold s (sent_by s net x p v o c f rest)
  send_buffered sound x2 p2 v2 =
      let h = sound x2 p2 v2 in
      elim (place3_cases x2 p2 v2 x p v) [
        | inl here ↦
            let full : net.buffer x2 p2 v2 ≡ f ∷ rest = cc in
            rw here.0 (All-tail (InBuffer s x2 p2 v2) f rest (rw full at h))
        | inr away ↦ rw away.0 h
      ]

  pub passing : BuffersHold s net → Passes s x p v f
  passing sound =
      let in_buffer : InBuffer s x p v f = All-head (InBuffer s x p v) f rest (rw front at (sound x p v)) in
      in_buffer.1

  pub send_passed : BuffersHold s net → LastsHold s net → LastsHold s (sent_by s net x p v o c f rest)
  send_passed buffered sound x2 p2 v2 =
      elim (place3_cases x2 p2 v2 x p v) [
        | inl here ↦
            let pass = passing buffered in
            let passed : Passes s x p v (with_channel f c) =
            record { owned = pass.owned; lane_there = pass.lane_there; entered = pass.entered } in
            rw (here.0, here.1, here.2, here.3) passed
        | inr away ↦ rw away.0 (sound x2 p2 v2)
      ]

  pub send_leaving : MayCome (worm_after (net.last_out x p v)) f → RecordsAgree s net → BuffersHold s net
      → OutsHold s net → OutsHold s (sent_by s net x p v o c f rest)
  send_leaving follows records buffered sound x2 o2 =
      elim (place_cases x2 o2 x o) [
        | inl here ↦
            let pass = passing buffered in
            let leads = leading follows records in
            let leaves : Leaves s x o (with_channel f c) =
            record {
              owned = leads.1;
              lane_there = pass.lane_there;
              by_port = leads.0;
              from_port = p;
              entered = pass.entered;
            } in
            let all = All-push (Leaves s x o) (net.out x o) (with_channel f c) (sound x o) leaves in
            rw (here.0, here.1, here.2) all
        | inr away ↦ rw away.0 (sound x2 o2)
      ]

module _ (s : Shape) (mesh : IsMesh s) (net : Network) (x p v o c : ℕ) (f : Flit) (rest : List Flit)
    (active : net.in_record x p v ≡ Active o c) (front : net.buffer x p v ≡ f ∷ rest) where
  pub send_credits : (0 < net.credits x o c) ⊎ (o ≡ s.terminal) → CreditsAdd s net
      → CreditsAdd s (sent_by s net x p v o c f rest)
  send_credits may sound y2 o2 x2 v2 there_v n2 =
      let h = sound y2 o2 x2 v2 there_v n2 in
      let off : o2 ≡ s.terminal → ⊥ = λ e. let alone = mesh.terminal_alone y2 in
      let clash : s.neighbour y2 s.terminal ≡ Some x2 = cc in cc in
      let up = up_sum s net x p v o c f rest active front may y2 o2 v2 off in
      let back = mesh.link_back y2 o2 x2 n2 in
      let down = down_sum s net x p v o c f rest active front x2 (s.opposite o2) v2 (rw back) in
      omega arith

  pub follows_link : (end : Option ℕ) → s.neighbour x p ≡ end → IsSome end → LinksRun s net
      → MayCome (worm_after (net.last_out x p v)) f
  follows_link None e linked links = cc
  follows_link (Some y) e linked links =
      let back = mesh.link_back x p y e in
      let twice = mesh.opposite_twice x p y e in
      let line = rw (twice, front) at (links y (s.opposite p) x v back) in
      line.0

  -- the front of a buffer follows what left it last
  pub front_follows : (p ≡ s.terminal) ⊎ IsSome (s.neighbour x p) → LinksRun s net → SourcesRun s net
      → MayCome (worm_after (net.last_out x p v)) f
  front_follows port links sources =
      elim port [
        | inl at ↦
            let fed = rw (rw at at front) at (sources x v) in
            rw at fed.0
        | inr linked ↦ follows_link (s.neighbour x p) refl linked links
      ]

  pub send_sound : (p ≡ s.terminal) ⊎ IsSome (s.neighbour x p) → (0 < net.credits x o c) ⊎ (o ≡ s.terminal)
      → Sound s net → Sound s (sent_by s net x p v o c f rest)
  send_sound port may sound =
      let follows = front_follows port sound.links sound.sources in
      record {
        links = send_links s net x p v o c f rest active front sound.holders follows sound.links;
        sources = send_sources s net x p v o c f rest active front sound.sources;
        sinks = send_sinks s net x p v o c f rest active front sound.holders follows sound.sinks;
        records = send_records s net x p v o c f rest active front follows sound.records;
        holders = send_holders s net x p v o c f rest active front sound.holders;
        fits = send_fits s net x p v o c f rest active front sound.fits;
        credits = send_credits may sound.credits;
        entries = sound.entries;
        buffered = send_buffered s net x p v o c f rest active front sound.buffered;
        passed = send_passed s net x p v o c f rest active front sound.buffered sound.passed;
        leaving = send_leaving s net x p v o c f rest active front follows sound.records sound.buffered sound.leaving;
        unfed = sound.unfed;
        accepted = sound.accepted;
        histories = sound.histories;
      }
