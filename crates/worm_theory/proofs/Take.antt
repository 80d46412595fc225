-- A flit goes from the front of a link to the end of its buffer.
use Rattle.std.proofs.Common.{◌≡◌, ℕ, ◌<◌, true, false, inl, inr, List, ◌∷◌, length, Some, refl, sym, subst, arith}
use Rattle.std.proofs.Common.{length-append}
use Rattle.std.proofs.lemmas.List.Elements.{All-head, All-tail, All-push}
use Rattle.worm_flit.specs.declared.Flit.{Flit}
use Rattle.worm_flit.specs.Stamps.{on_channel}
use Rattle.worm_theory.specs.Worm.{worm_after}
use Rattle.worm_theory.specs.Shape.{Shape, IsMesh, Enters, by_link}
use Rattle.worm_theory.specs.Network.{Network, same, upstream}
use Rattle.worm_theory.specs.Steps.{taken_from}
use Rattle.worm_theory.specs.Sound.{LinksRun, SourcesRun, SinksRun, RecordsAgree, BuffersFit, CreditsAdd, OutsHold}
use Rattle.worm_theory.specs.Sound.{BuffersHold, Sound, InBuffer, Leaves}
use Rattle.worm_theory.proofs.Runs.{Runs-shift}
use Rattle.worm_theory.proofs.Places.{number_cases, place_cases, place3_cases, same-true, same-false}
use Rattle.worm_theory.proofs.MeshLaws.{same_end, same_start, is_mesh_port, is_mesh_start}
use Rattle.worm_theory.proofs.Agreement.{Agrees-push}

module _ (s : Shape) (mesh : IsMesh s) (net : Network) (x p y : ℕ) (linked : s.neighbour x p ≡ Some y) (f : Flit)
    (rest : List Flit) (front : net.out y (s.opposite p) ≡ f ∷ rest) where
  pub take_links : LinksRun s net → LinksRun s (taken_from net x p y (s.opposite p) (f ∷ rest))
  take_links sound y2 o2 x2 v2 n2 =
      let h = sound y2 o2 x2 v2 n2 in
      elim (place_cases y2 o2 y (s.opposite p)) [
        | inl here ↦
            let ends = same_end s mesh x p y linked y2 o2 x2 n2 here.1 here.2 in
            let there : same x2 (s.opposite o2) x p ≡ true = same-true x2 (s.opposite o2) x p ends.0 ends.1 in
            let line : net.out y2 o2 ≡ f ∷ rest = cc in
            let at_front = rw line at h in
            elim (number_cases v2 f.vc) [
              | inl on ↦
                  let full : net.buffer x2 (s.opposite o2) v2 ≡ net.buffer x p f.vc = cc in
                  let moved = Runs-shift (net.buffer x2 (s.opposite o2) v2) f f.vc (on_channel v2 rest)
                  (worm_after (net.last_out x2 (s.opposite o2) v2)) (upstream net y2 o2 v2) (rw on.0 at at_front) in
                  rw (here.0, there, on.0, ← full) moved
              | inr off ↦ rw (here.0, there, off.0) (rw off.0 at at_front)
            ]
        | inr away ↦
            let there : same x2 (s.opposite o2) x p ≡ false =
            same-false x2 (s.opposite o2) x p
            (λ e1 e2. let starts = same_start s mesh x p y linked y2 o2 x2 n2 e1 e2 in
            away.1 starts.0 starts.1) in
            rw (away.0, there) h
      ]

  pub take_sources : SourcesRun s net → SourcesRun s (taken_from net x p y (s.opposite p) (f ∷ rest))
  take_sources sound x2 v2 =
      let away : same x2 s.terminal x p ≡ false =
      same-false x2 s.terminal x p (λ _ e. is_mesh_port s mesh x p y linked (sym e)) in
      rw away (sound x2 v2)

  pub take_sinks : SinksRun s net → SinksRun s (taken_from net x p y (s.opposite p) (f ∷ rest))
  take_sinks sound x2 v2 =
      let away : same x2 s.terminal y (s.opposite p) ≡ false =
      same-false x2 s.terminal y (s.opposite p) (λ _ e. is_mesh_start s mesh x p y linked (sym e)) in
      rw away (sound x2 v2)

  pub take_records : RecordsAgree s net → RecordsAgree s (taken_from net x p y (s.opposite p) (f ∷ rest))
  take_records sound x2 p2 v2 =
      let h = sound x2 p2 v2 in
      elim (place3_cases x2 p2 v2 x p f.vc) [
        | inl here ↦
            let full : net.buffer x2 p2 v2 ≡ net.buffer x p f.vc = cc in
            rw (here.0, ← full) (Agrees-push s x2 (net.in_record x2 p2 v2) (worm_after (net.last_out x2 p2 v2))
            (net.buffer x2 p2 v2) f h)
        | inr away ↦ rw away.0 h
      ]

  pub take_fits : length (net.buffer x p f.vc) < s.depth → BuffersFit s net
      → BuffersFit s (taken_from net x p y (s.opposite p) (f ∷ rest))
  take_fits room sound x2 p2 v2 =
      elim (place3_cases x2 p2 v2 x p f.vc) [
        | inl here ↦ rw here.0 (simp length-append (omega arith))
        | inr away ↦ rw away.0 (sound x2 p2 v2)
      ]

  pub take_credits : CreditsAdd s net → CreditsAdd s (taken_from net x p y (s.opposite p) (f ∷ rest))
  take_credits sound y2 o2 x2 v2 there_v n2 =
      let h = sound y2 o2 x2 v2 there_v n2 in
      elim (place_cases y2 o2 y (s.opposite p)) [
        | inl here ↦
            let ends = same_end s mesh x p y linked y2 o2 x2 n2 here.1 here.2 in
            let there : same x2 (s.opposite o2) x p ≡ true = same-true x2 (s.opposite o2) x p ends.0 ends.1 in
            let line : net.out y2 o2 ≡ f ∷ rest = cc in
            let at_front = rw line at h in
            elim (number_cases v2 f.vc) [
              | inl on ↦
                  let full : net.buffer x2 (s.opposite o2) v2 ≡ net.buffer x p f.vc = cc in
                  let sum = rw on.0 at at_front in
                  rw (here.0, there, on.0, ← full) (simp length-append (omega arith))
              | inr off ↦ rw (here.0, there, off.0) (rw off.0 at at_front)
            ]
        | inr away ↦
            let there : same x2 (s.opposite o2) x p ≡ false =
            same-false x2 (s.opposite o2) x p
            (λ e1 e2. let starts = same_start s mesh x p y linked y2 o2 x2 n2 e1 e2 in
            away.1 starts.0 starts.1) in
            rw (away.0, there) h
      ]

  -- the front of the link is on its route, so it may be in the buffer
  pub arriving : OutsHold s net → InBuffer s x p f.vc f
  arriving sound =
      let leaves : Leaves s y (s.opposite p) f =
      All-head (Leaves s y (s.opposite p)) f rest (rw front at (sound y (s.opposite p))) in
      let back = mesh.link_back x p y linked in
      let twice = mesh.opposite_twice x p y linked in
      let leaving = leaves.by_port in
      let hop : s.neighbour y (s.next_port y f.lane.dst) ≡ Some x = cc in
      let enters : Enters s f.lane x (s.opposite (s.next_port y f.lane.dst)) =
      by_link {p = leaves.from_port} leaves.entered hop in
      let port : s.opposite (s.next_port y f.lane.dst) ≡ p = cc in (
        refl,
        record {
          owned = leaves.owned;
          lane_there = leaves.lane_there;
          entered = subst (λ q. Enters s f.lane x q) port enters;
        },
      )

  pub take_buffered : OutsHold s net → BuffersHold s net
      → BuffersHold s (taken_from net x p y (s.opposite p) (f ∷ rest))
  take_buffered leaving sound x2 p2 v2 =
      elim (place3_cases x2 p2 v2 x p f.vc) [
        | inl here ↦
            let all = All-push (InBuffer s x p f.vc) (net.buffer x p f.vc) f (sound x p f.vc) (arriving leaving) in
            rw (here.0, here.1, here.2, here.3) all
        | inr away ↦ rw away.0 (sound x2 p2 v2)
      ]

  pub take_leaving : OutsHold s net → OutsHold s (taken_from net x p y (s.opposite p) (f ∷ rest))
  take_leaving sound y2 o2 =
      elim (place_cases y2 o2 y (s.opposite p)) [
        | inl here ↦
            let all = All-tail (Leaves s y (s.opposite p)) f rest (rw front at (sound y (s.opposite p))) in
            rw (here.0, here.1, here.2) all
        | inr away ↦ rw away.0 (sound y2 o2)
      ]

  pub take_sound : length (net.buffer x p f.vc) < s.depth → Sound s net
      → Sound s (taken_from net x p y (s.opposite p) (f ∷ rest))
  take_sound room sound = record {
    links = take_links sound.links;
    sources = take_sources sound.sources;
    sinks = take_sinks sound.sinks;
    records = take_records sound.records;
    holders = sound.holders;
    fits = take_fits room sound.fits;
    credits = take_credits sound.credits;
    entries = sound.entries;
    buffered = take_buffered sound.leaving sound.buffered;
    passed = sound.passed;
    leaving = take_leaving sound.leaving;
    unfed = sound.unfed;
    accepted = sound.accepted;
    histories = sound.histories;
  }
