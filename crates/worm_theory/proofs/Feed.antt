-- A flit goes from its source into the injection buffer.
use Rattle.std.proofs.Common.{◌≡◌, ℕ, ◌<◌, true, false, inl, inr, ◌==◌, List, ◌∷◌, length, Some, refl, subst, arith}
use Rattle.std.proofs.Common.{length-append}
use Rattle.std.proofs.lemmas.List.Elements.{All-head, All-tail, All-push}
use Rattle.worm_flit.specs.declared.Flit.{Flit}
use Rattle.worm_flit.specs.Stamps.{with_channel}
use Rattle.worm_theory.specs.Worm.{Between, worm_after}
use Rattle.worm_theory.specs.Shape.{Shape, IsMesh, Enters, at_source}
use Rattle.worm_theory.specs.Network.{Network, same}
use Rattle.worm_theory.specs.Steps.{fed}
use Rattle.worm_theory.specs.Sound.{LinksRun, SourcesRun, RecordsAgree, BuffersFit, CreditsAdd, UnfedHold, BuffersHold}
use Rattle.worm_theory.specs.Sound.{Sound, unfed_on, InBuffer, IsFrom}
use Rattle.worm_theory.proofs.Runs.{Runs-shift}
use Rattle.worm_theory.proofs.Places.{number_cases, place_cases, place3_cases, same-true, same-false}
use Rattle.worm_theory.proofs.MeshLaws.{is_mesh_start}
use Rattle.worm_theory.proofs.Agreement.{Agrees-push}

module _ (s : Shape) (mesh : IsMesh s) (net : Network) (x k : ℕ) (class_there : k < s.classes) (f : Flit)
    (rest : List Flit) (front : net.unfed x k ≡ f ∷ rest) where
  -- no link leads into the injection buffer
  pub off_links : (y2 o2 x2 : ℕ) → s.neighbour y2 o2 ≡ Some x2 → same x2 (s.opposite o2) x s.terminal ≡ false
  off_links y2 o2 x2 n2 = same-false x2 (s.opposite o2) x s.terminal (λ _ e. is_mesh_start s mesh y2 o2 x2 n2 e)

  pub feed_links : LinksRun s net → LinksRun s (fed s net x k (f ∷ rest))
  feed_links sound y2 o2 x2 v2 n2 = let away = off_links y2 o2 x2 n2 in rw away (sound y2 o2 x2 v2 n2)

  pub feed_credits : CreditsAdd s net → CreditsAdd s (fed s net x k (f ∷ rest))
  feed_credits sound y2 o2 x2 v2 there_v n2 = let away = off_links y2 o2 x2 n2 in rw away (sound y2 o2 x2 v2 there_v n2)

  pub first_class : s.owner (s.first k) ≡ k
  first_class = (mesh.first_owned k class_there).1

  -- what is unfed for another channel
  pub unfed_elsewhere : (x2 v2 : ℕ) → (x2 ≡ x → v2 ≡ s.first k → ⊥)
      → unfed_on s (fed s net x k (f ∷ rest)) x2 v2 ≡ unfed_on s net x2 v2
  unfed_elsewhere x2 v2 other =
      elim (number_cases (s.first (s.owner v2)) v2) [
        | inl first ↦ elim (place_cases x2 (s.owner v2) x k) [
          | inl here ↦ let e : v2 ≡ s.first k = cc in absurd (other here.1 e)
          | inr away ↦ rw (first.0, away.0)
        ]
        | inr later ↦ rw later.0
      ]

  pub feed_sources : SourcesRun s net → SourcesRun s (fed s net x k (f ∷ rest))
  feed_sources sound x2 v2 =
      let h = sound x2 v2 in
      elim (place3_cases x2 s.terminal v2 x s.terminal (s.first k)) [
        | inl here ↦
            let class = first_class in
            let owner : s.owner v2 ≡ k = cc in
            let first : (s.first (s.owner v2) == v2) ≡ true = grind arith in
            let unfed_here : same x2 (s.owner v2) x k ≡ true = same-true x2 (s.owner v2) x k here.1 owner in
            let line : net.unfed x2 (s.owner v2) ≡ f ∷ rest = cc in
            let full : net.buffer x2 s.terminal v2 ≡ net.buffer x s.terminal (s.first k) = cc in
            let at_front = rw (first, line) at h in
            let moved = Runs-shift (net.buffer x2 s.terminal v2) f (s.first k) rest
            (worm_after (net.last_out x2 s.terminal v2)) Between at_front in
            rw (here.0, first, unfed_here, ← full) moved
        | inr away ↦
            let line = unfed_elsewhere x2 v2 (λ e1 e2. away.1 e1 refl e2) in
            rw (away.0, line) h
      ]

  pub feed_records : RecordsAgree s net → RecordsAgree s (fed s net x k (f ∷ rest))
  feed_records sound x2 p2 v2 =
      let h = sound x2 p2 v2 in
      elim (place3_cases x2 p2 v2 x s.terminal (s.first k)) [
        | inl here ↦
            let full : net.buffer x2 p2 v2 ≡ net.buffer x s.terminal (s.first k) = cc in
            rw (here.0, ← full) (Agrees-push s x2 (net.in_record x2 p2 v2) (worm_after (net.last_out x2 p2 v2))
            (net.buffer x2 p2 v2) (with_channel f (s.first k)) h)
        | inr away ↦ rw away.0 h
      ]

  pub feed_fits : length (net.buffer x s.terminal (s.first k)) < s.depth → BuffersFit s net
      → BuffersFit s (fed s net x k (f ∷ rest))
  feed_fits room sound x2 p2 v2 =
      elim (place3_cases x2 p2 v2 x s.terminal (s.first k)) [
        | inl here ↦ rw here.0 (simp length-append (omega arith))
        | inr away ↦ rw away.0 (sound x2 p2 v2)
      ]

  -- the flit may be in the injection buffer
  pub entering : UnfedHold s net → InBuffer s x s.terminal (s.first k) (with_channel f (s.first k))
  entering sound =
      let from : IsFrom s x k f = All-head (IsFrom s x k) f rest (rw front at (sound x k)) in
      let first = mesh.first_owned k class_there in
      let own = from.own_class in (
        refl,
        record {
          owned = (first.0, cc);
          lane_there = from.lane_there;
          entered = subst (λ q. Enters s f.lane q s.terminal) from.own at_source;
        },
      )

  pub feed_buffered : UnfedHold s net → BuffersHold s net → BuffersHold s (fed s net x k (f ∷ rest))
  feed_buffered unfed sound x2 p2 v2 =
      elim (place3_cases x2 p2 v2 x s.terminal (s.first k)) [
        | inl here ↦
            let all = All-push (InBuffer s x s.terminal (s.first k)) (net.buffer x s.terminal (s.first k))
            (with_channel f (s.first k)) (sound x s.terminal (s.first k)) (entering unfed) in
            rw (here.0, here.1, here.2, here.3) all
        | inr away ↦ rw away.0 (sound x2 p2 v2)
      ]

  pub feed_unfed : UnfedHold s net → UnfedHold s (fed s net x k (f ∷ rest))
  feed_unfed sound x2 k2 =
      elim (place_cases x2 k2 x k) [
        | inl here ↦
            let all = All-tail (IsFrom s x k) f rest (rw front at (sound x k)) in
            rw (here.0, here.1, here.2) all
        | inr away ↦ rw away.0 (sound x2 k2)
      ]

  pub feed_sound : length (net.buffer x s.terminal (s.first k)) < s.depth → Sound s net
      → Sound s (fed s net x k (f ∷ rest))
  feed_sound room sound = record {
    links = feed_links sound.links;
    sources = feed_sources sound.sources;
    sinks = sound.sinks;
    records = feed_records sound.records;
    holders = sound.holders;
    fits = feed_fits room sound.fits;
    credits = feed_credits sound.credits;
    entries = sound.entries;
    buffered = feed_buffered sound.unfed sound.buffered;
    passed = sound.passed;
    leaving = sound.leaving;
    unfed = feed_unfed sound.unfed;
    accepted = sound.accepted;
    histories = sound.histories;
  }
