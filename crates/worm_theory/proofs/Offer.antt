-- A source accepts a packet or a mark.
use Rattle.std.proofs.Common.{◌≡◌, ℕ, ◌+◌, ◌<◌, ◌≤◌, true, false, cond, inl, inr, List, [], ◌∷◌, ◌++◌, length, All}
use Rattle.std.proofs.Common.{refl, sym, ap, subst, ◌∙◌, append_assoc, append-nil}
use Rattle.std.proofs.lemmas.List.Elements.{All-append, All-nil, All-cons, filter-append}
use Rattle.std.proofs.lemmas.List.Sums.{sum_by-append}
use Rattle.std.proofs.lemmas.List.Folds.{list_any-append}
use Rattle.worm_flit.specs.declared.Lane.{Lane}
use Rattle.worm_flit.specs.declared.Flit.{Flit}
use Rattle.worm_flit.specs.Kinds.{closes, is_mark}
use Rattle.worm_flit.specs.Stamps.{of_lane, is_of_lane}
use Rattle.worm_flit.specs.Packets.{closed, mark, packet, packet_flits}
use Rattle.worm_theory.specs.Worm.{Between, Runs, worm_after}
use Rattle.worm_theory.specs.Shape.{Shape, HasLane}
use Rattle.worm_theory.specs.Network.{Network}
use Rattle.worm_theory.specs.Steps.{offered, packets_in, has_mark, lane_injected, next_number, Accepts}
use Rattle.worm_theory.specs.Sound.{SourcesRun, UnfedHold, AcceptedHold, HistoriesHold, IsHistory}
use Rattle.worm_theory.specs.Sound.{Sound, IsFrom}
use Rattle.worm_theory.proofs.Runs.{Runs-append}
use Rattle.worm_theory.proofs.Places.{number_cases, place_cases, same-true}
use Rattle.worm_theory.proofs.Packets.{is_same_lane, same_lane_cases, packet-runs, packet-all, packet-own}
use Rattle.worm_theory.proofs.Packets.{packet-others, packet-closes, packet-unmarked}

-- flits of one lane that are whole packets, offered where its history goes on with them
module _ (s : Shape) (net : Network) (lane : Lane) (fs : List Flit) where
  pub offer_sources : Runs Between fs Between → SourcesRun s net → SourcesRun s (offered net lane.src lane.class fs)
  offer_sources whole sound x2 v2 =
      let h = sound x2 v2 in
      elim (number_cases (s.first (s.owner v2)) v2) [
        | inl first ↦
            let at_first = rw first.0 at h in
            elim (place_cases x2 (s.owner v2) lane.src lane.class) [
              | inl here ↦
                  let line : net.unfed lane.src lane.class ≡ net.unfed x2 (s.owner v2) = cc in
                  rw (
                    first.0,
                    here.0,
                    line,
                    ← append_assoc (net.buffer x2 s.terminal v2)
                        (net.unfed x2 (s.owner v2)) fs,
                  )
                  (Runs-append (net.buffer x2 s.terminal v2 ++ net.unfed x2 (s.owner v2)) fs
                  (worm_after (net.last_out x2 s.terminal v2)) Between Between at_first whole)
              | inr away ↦ rw (first.0, away.0) at_first
            ]
        | inr later ↦ rw later.0 (rw later.0 at h)
      ]

  pub offer_unfed : All (IsFrom s lane.src lane.class) fs → UnfedHold s net
      → UnfedHold s (offered net lane.src lane.class fs)
  offer_unfed from sound x2 k2 =
      elim (place_cases x2 k2 lane.src lane.class) [
        | inl here ↦
            let all = All-append (IsFrom s lane.src lane.class) (net.unfed lane.src lane.class) fs
            (sound lane.src lane.class) from in
            rw (here.0, here.1, here.2) all
        | inr away ↦ rw away.0 (sound x2 k2)
      ]

  pub offer_accepted : All (IsFrom s lane.src lane.class) fs → AcceptedHold s net
      → AcceptedHold s (offered net lane.src lane.class fs)
  offer_accepted from sound x2 k2 =
      elim (place_cases x2 k2 lane.src lane.class) [
        | inl here ↦
            let all = All-append (IsFrom s lane.src lane.class) (net.injected lane.src lane.class) fs
            (sound lane.src lane.class) from in
            rw (here.0, here.1, here.2) all
        | inr away ↦ rw away.0 (sound x2 k2)
      ]

  -- the lane's own list grows, and no other's
  pub own_list : of_lane lane fs ≡ fs → lane_injected (offered net lane.src lane.class fs) lane ≡ lane_injected net lane
      ++ fs
  own_list own =
      let here = same-true lane.src lane.class lane.src lane.class refl refl in
      rw (here, filter-append (is_of_lane lane) (net.injected lane.src lane.class) fs, own)

  pub other_list : (other : Lane) → of_lane other fs ≡ []
      → lane_injected (offered net lane.src lane.class fs) other ≡ lane_injected net other
  other_list other none =
      elim (place_cases other.src other.class lane.src lane.class) [
        | inl here ↦
            rw (
              here.0,
              filter-append (is_of_lane other) (net.injected lane.src lane.class) fs,
              none,
              append-nil,
              here.1,
              here.2,
            )
        | inr away ↦ rw away.0
      ]

  pub offer_histories : ((other : Lane) → is_same_lane other lane ≡ true → of_lane other fs ≡ fs)
      → ((other : Lane) → is_same_lane other lane ≡ false → of_lane other fs ≡ [])
      → IsHistory lane (lane_injected net lane ++ fs) → HistoriesHold net
      → HistoriesHold (offered net lane.src lane.class fs)
  offer_histories own others grown sound other =
      elim (same_lane_cases other lane) [
        | inl same_one ↦
            let line = own_list (own lane (rw same_one.1 at same_one.0)) in
            let now : IsHistory lane (lane_injected (offered net lane.src lane.class fs) lane) = rw line grown in
            subst (λ l. IsHistory l (lane_injected (offered net lane.src lane.class fs) l)) (sym same_one.1) now
        | inr away ↦
            let line = other_list other (others other away) in
            rw line (sound other)
      ]

  pub offered_sound : Runs Between fs Between → All (IsFrom s lane.src lane.class) fs
      → ((other : Lane) → is_same_lane other lane ≡ true → of_lane other fs ≡ fs)
      → ((other : Lane) → is_same_lane other lane ≡ false → of_lane other fs ≡ [])
      → IsHistory lane (lane_injected net lane ++ fs) → Sound s net → Sound s (offered net lane.src lane.class fs)
  offered_sound whole from own others grown sound = record {
    links = sound.links;
    sources = offer_sources whole sound.sources;
    sinks = sound.sinks;
    records = sound.records;
    holders = sound.holders;
    fits = sound.fits;
    credits = sound.credits;
    entries = sound.entries;
    buffered = sound.buffered;
    passed = sound.passed;
    leaving = sound.leaving;
    unfed = offer_unfed from sound.unfed;
    accepted = offer_accepted from sound.accepted;
    histories = offer_histories own others grown sound.histories;
  }

pub packet_grown : (lane : Lane) (fs : List Flit) (ws : List ℕ) → 0 < length ws → length ws ≤ 32 → IsHistory lane fs
    → has_mark fs ≡ false → IsHistory lane (fs ++ packet_flits lane (packets_in fs) ws)
packet_grown lane fs ws some few h unmarked =
    let grown = packet ws some few (rw unmarked at h) in
    let count : packets_in (fs ++ packet_flits lane (packets_in fs) ws) ≡ packets_in fs + 1 =
    sum_by-append (λ (f : Flit). cond (closes f.kind) 1 0) fs (packet_flits lane (packets_in fs) ws)
    ∙ ap (λ n. packets_in fs + n) (packet-closes lane (packets_in fs) ws some) in
    let marks : has_mark (fs ++ packet_flits lane (packets_in fs) ws) ≡ false =
    list_any-append (λ (f : Flit). is_mark f.kind) fs (packet_flits lane (packets_in fs) ws) ∙ rw (
      unmarked,
      packet-unmarked lane (packets_in fs) ws,
    ) in
    rw (count, marks) grown

pub mark_grown : (lane : Lane) (fs : List Flit) → IsHistory lane fs → has_mark fs ≡ false
    → IsHistory lane (fs ++ mark lane (packets_in fs) ∷ [])
mark_grown lane fs h unmarked =
    let grown = closed (rw unmarked at h) in
    let count : packets_in (fs ++ mark lane (packets_in fs) ∷ []) ≡ packets_in fs + 1 =
    sum_by-append (λ (f : Flit). cond (closes f.kind) 1 0) fs (mark lane (packets_in fs) ∷ []) in
    let marks : has_mark (fs ++ mark lane (packets_in fs) ∷ []) ≡ true =
    list_any-append (λ (f : Flit). is_mark f.kind) fs (mark lane (packets_in fs) ∷ []) ∙ rw unmarked in
    rw (count, marks) grown

pub offer_sound : (s : Shape) (net : Network) (x : ℕ) (lane : Lane) (ws : List ℕ) → Accepts s net x lane → 0 < length ws
    → length ws ≤ 32 → Sound s net → Sound s (offered net x lane.class (packet_flits lane (next_number net lane) ws))
offer_sound s net x lane ws accepts some few sound =
    let number = next_number net lane in
    let fs = packet_flits lane (next_number net lane) ws in
    let from : (f : Flit) → f.lane ≡ lane
    → IsFrom s lane.src lane.class f = λ f e. record {
      own = ap (λ (l : Lane). l.src) e;
      own_class = ap (λ (l : Lane). l.class) e;
      lane_there = subst (λ l. HasLane s l) (sym e) accepts.lane_there;
    } in
    rw (← accepts.own)
    (offered_sound s net lane fs (packet-runs lane number ws)
    (packet-all (IsFrom s lane.src lane.class) lane number from ws)
    (λ other e. packet-own other lane number e ws) (λ other e. packet-others other lane number e ws)
    (packet_grown lane (lane_injected net lane) ws some few (sound.histories lane) accepts.is_open) sound)

pub close_sound : (s : Shape) (net : Network) (x : ℕ) (lane : Lane) → Accepts s net x lane → Sound s net
    → Sound s (offered net x lane.class (mark lane (next_number net lane) ∷ []))
close_sound s net x lane accepts sound =
    let number = next_number net lane in
    let from : IsFrom s lane.src lane.class (mark lane number) =
    record { own = refl; own_class = refl; lane_there = accepts.lane_there } in
    rw (← accepts.own)
    (offered_sound s net lane (mark lane number ∷ []) (
      (refl, refl),
      refl,
    ) (All-cons (IsFrom s lane.src lane.class) (mark lane number) [] from
    (All-nil (IsFrom s lane.src lane.class)))
    (λ other e. rw e) (λ other e. rw e)
    (mark_grown lane (lane_injected net lane) (sound.histories lane) accepts.is_open) sound)
