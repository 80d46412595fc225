-- An idle record learns the port of the packet at its buffer's front.
use Rattle.std.proofs.Common.{◌≡◌, ℕ, inl, inr, List, ◌∷◌, refl}
use Rattle.worm_flit.specs.declared.Flit.{Flit}
use Rattle.worm_theory.specs.Shape.{Shape}
use Rattle.worm_theory.specs.Network.{Network}
use Rattle.worm_records.specs.declared.InRecord.TheVariants.{Idle}
use Rattle.worm_theory.specs.Steps.{routed}
use Rattle.worm_theory.specs.Sound.{RecordsAgree, HoldersAgree, Sound}
use Rattle.worm_theory.proofs.Places.{place3_cases}

module _ (s : Shape) (net : Network) (x p v : ℕ) (idle : net.in_record x p v ≡ Idle) (f : Flit) (rest : List Flit)
    (front : net.buffer x p v ≡ f ∷ rest) where
  pub route_records : RecordsAgree s net → RecordsAgree s (routed s net x p v (f ∷ rest))
  route_records sound x2 p2 v2 =
      let h = sound x2 p2 v2 in
      elim (place3_cases x2 p2 v2 x p v) [
        | inl here ↦
            let was : net.in_record x2 p2 v2 ≡ Idle = cc in
            let full : net.buffer x2 p2 v2 ≡ f ∷ rest = cc in
            let between = rw was at h in
            rw (here.0, full, between, here.1) (refl, refl)
        | inr away ↦ rw away.0 h
      ]

  pub route_holders : HoldersAgree net → HoldersAgree (routed s net x p v (f ∷ rest))
  route_holders sound x2 o2 c2 p2 v2 =
      let h = sound x2 o2 c2 p2 v2 in
      elim (place3_cases x2 p2 v2 x p v) [
        | inl here ↦
            let was : net.in_record x2 p2 v2 ≡ Idle = cc in
            rw here.0 (λ e. let held = h.0 e in cc, λ e. cc)
        | inr away ↦ rw away.0 h
      ]

  pub route_sound : Sound s net → Sound s (routed s net x p v (f ∷ rest))
  route_sound sound = record {
    links = sound.links;
    sources = sound.sources;
    sinks = sound.sinks;
    records = route_records sound.records;
    holders = route_holders sound.holders;
    fits = sound.fits;
    credits = sound.credits;
    entries = sound.entries;
    buffered = sound.buffered;
    passed = sound.passed;
    leaving = sound.leaving;
    unfed = sound.unfed;
    accepted = sound.accepted;
    histories = sound.histories;
  }
