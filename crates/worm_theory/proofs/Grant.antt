-- A waiting record is given a free output channel of its packet's class.
use Rattle.std.proofs.Common.{◌≡◌, ℕ, inl, inr, List, ◌∷◌, None}
use Rattle.worm_flit.specs.declared.Flit.{Flit}
use Rattle.worm_theory.specs.Shape.{Shape, Owns}
use Rattle.worm_theory.specs.Network.{Network, upstream}
use Rattle.worm_records.specs.declared.InRecord.TheVariants.{Waiting}
use Rattle.worm_theory.specs.Steps.{granted}
use Rattle.worm_theory.specs.Sound.{LinksRun, SinksRun, RecordsAgree, HoldersAgree, Sound}
use Rattle.worm_theory.proofs.Places.{place3_cases, some_pair}

module _ (s : Shape) (net : Network) (x p v c o : ℕ) (waiting : net.in_record x p v ≡ Waiting o)
    (free : net.holder x o c ≡ None) (f : Flit) (rest : List Flit) (front : net.buffer x p v ≡ f ∷ rest)
    (owned : Owns s f.lane.class c) where
  -- no packet is under way on the output channel, before the grant and after it
  pub grant_upstream : RecordsAgree s net → (x2 o2 c2 : ℕ)
      → upstream (granted net x p v c (Waiting o)) x2 o2 c2 ≡ upstream net x2 o2 c2
  grant_upstream sound x2 o2 c2 =
      elim (place3_cases x2 o2 c2 x o c) [
        | inl here ↦
            let was : net.holder x2 o2 c2 ≡ None = cc in
            let between = (rw waiting at (sound x p v)).0 in
            rw (here.0, was, here.1) between
        | inr away ↦ rw away.0
      ]

  pub grant_links : RecordsAgree s net → LinksRun s net → LinksRun s (granted net x p v c (Waiting o))
  grant_links records sound y2 o2 x2 v2 n2 = let e = grant_upstream records y2 o2 v2 in rw e (sound y2 o2 x2 v2 n2)

  pub grant_sinks : RecordsAgree s net → SinksRun s net → SinksRun s (granted net x p v c (Waiting o))
  grant_sinks records sound x2 v2 = let e = grant_upstream records x2 s.terminal v2 in rw e (sound x2 v2)

  pub grant_records : RecordsAgree s net → RecordsAgree s (granted net x p v c (Waiting o))
  grant_records sound x2 p2 v2 =
      let h = sound x2 p2 v2 in
      elim (place3_cases x2 p2 v2 x p v) [
        | inl here ↦
            let was : net.in_record x2 p2 v2 ≡ Waiting o = cc in
            let full : net.buffer x2 p2 v2 ≡ f ∷ rest = cc in
            let agrees = rw was at h in
            let between = agrees.0 in
            let leads = rw (between, full) at agrees.1 in
            rw (here.0, full, between) (leads, owned)
        | inr away ↦ rw away.0 h
      ]

  pub grant_holders : HoldersAgree net → HoldersAgree (granted net x p v c (Waiting o))
  grant_holders sound x2 o2 c2 p2 v2 =
      let h = sound x2 o2 c2 p2 v2 in
      elim (place3_cases x2 o2 c2 x o c) [
        | inl held ↦
            let was : net.holder x2 o2 c2 ≡ None = cc in
            elim (place3_cases x2 p2 v2 x p v) [
              | inl here ↦ rw (held.0, here.0) (λ _. cc, λ _. cc)
              | inr away ↦ rw (held.0, away.0) (
                λ e. let pair = some_pair p v p2 v2 e in
                    absurd (away.1 held.1 pair.0 pair.1),
                λ e. let other = h.1 e in cc,
              )
            ]
        | inr unheld ↦
            elim (place3_cases x2 p2 v2 x p v) [
              | inl here ↦
                  let was : net.in_record x2 p2 v2 ≡ Waiting o = cc in
                  rw (unheld.0, here.0) (λ e. let other = h.0 e in cc, λ e. absurd (unheld.1 here.1 (cc) (cc)))
              | inr away ↦ rw (unheld.0, away.0) h
            ]
      ]

  pub grant_sound : Sound s net → Sound s (granted net x p v c (Waiting o))
  grant_sound sound = record {
    links = grant_links sound.records sound.links;
    sources = sound.sources;
    sinks = grant_sinks sound.records sound.sinks;
    records = grant_records sound.records;
    holders = grant_holders sound.holders;
    fits = sound.fits;
    credits = sound.credits;
    entries = sound.entries;
    buffered = sound.buffered;
    passed = sound.passed;
    leaving = sound.leaving;
    unfed = sound.unfed;
    accepted = sound.accepted;
    histories = sound.histories;
  }
