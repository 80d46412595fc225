-- Credits on their way back.
use Rattle.std.proofs.Common.{◌≡◌, ℕ, ◌+◌, ◌<◌, true, false, cond, inl, inr, ◌==◌, List, [], ◌∷◌, ◌++◌, Some, arith}
use Rattle.std.proofs.Common.{count_by}
use Rattle.std.proofs.lemmas.List.Elements.{All-tail, All-push}
use Rattle.std.proofs.lemmas.List.Sums.{sum_by-cons, sum_by_push}
use Rattle.worm_theory.specs.Shape.{Shape, IsMesh}
use Rattle.worm_theory.specs.Network.{Network, same}
use Rattle.worm_theory.specs.Steps.{gave_to, got}
use Rattle.worm_theory.specs.Sound.{LinksFit, CreditsAdd, CreditsAreChannels, Sound}
use Rattle.worm_theory.proofs.Places.{number_cases, place_cases, same-true, same-false}
use Rattle.worm_theory.proofs.MeshLaws.{same_end, same_start}

-- one more of this channel at the end
pub count-push : (v c : ℕ) (cs : List ℕ)
    → count_by (λ d. v == d) (cs ++ c ∷ []) ≡ count_by (λ d. v == d) cs + cond (v == c) 1 0
count-push v c cs = sum_by_push (λ d. cond (v == d) 1 0) cs c

pub count-cons : (v c : ℕ) (cs : List ℕ)
    → count_by (λ d. v == d) (c ∷ cs) ≡ cond (v == c) 1 0 + count_by (λ d. v == d) cs
count-cons v c cs = sum_by-cons (λ d. cond (v == d) 1 0) c cs

module _ (s : Shape) (mesh : IsMesh s) (net : Network) (x p y v : ℕ) (linked : s.neighbour x p ≡ Some y) where
  pub give_credits : 0 < net.owed x p v → CreditsAdd s net → CreditsAdd s (gave_to net x p v y (s.opposite p))
  give_credits owed sound y2 o2 x2 v2 there_v n2 =
      let h = sound y2 o2 x2 v2 there_v n2 in
      elim (place_cases y2 o2 y (s.opposite p)) [
        | inl here ↦
            let ends = same_end s mesh x p y linked y2 o2 x2 n2 here.1 here.2 in
            let there : same x2 (s.opposite o2) x p ≡ true = same-true x2 (s.opposite o2) x p ends.0 ends.1 in
            let line : net.credit_list y2 o2 ≡ net.credit_list y (s.opposite p) = cc in
            elim (number_cases v2 v) [
              | inl on ↦
                  let debt : net.owed x2 (s.opposite o2) v2 ≡ net.owed x p v = cc in
                  rw (here.0, there, ← line, count-push v2 v (net.credit_list y2 o2), on.0) (omega arith)
              | inr off ↦ rw (here.0, there, ← line, count-push v2 v (net.credit_list y2 o2), off.0) (omega arith)
            ]
        | inr away ↦
            let there : same x2 (s.opposite o2) x p ≡ false =
            same-false x2 (s.opposite o2) x p
            (λ e1 e2. let starts = same_start s mesh x p y linked y2 o2 x2 n2 e1 e2 in
            away.1 starts.0 starts.1) in
            rw (away.0, there) h
      ]

  pub give_entries : v < s.vcs → CreditsAreChannels s net
      → CreditsAreChannels s (gave_to net x p v y (s.opposite p))
  give_entries there_v sound y2 o2 =
      elim (place_cases y2 o2 y (s.opposite p)) [
        | inl here ↦ rw here.0 (All-push (λ c. c < s.vcs) (net.credit_list y (s.opposite p)) v
            (sound y (s.opposite p)) there_v)
        | inr away ↦ rw away.0 (sound y2 o2)
      ]

  pub give_sound : v < s.vcs → 0 < net.owed x p v → Sound s net → Sound s (gave_to net x p v y (s.opposite p))
  give_sound there_v owed sound = record {
    links = sound.links;
    sources = sound.sources;
    sinks = sound.sinks;
    records = sound.records;
    holders = sound.holders;
    fits = sound.fits;
    credits = give_credits owed sound.credits;
    entries = give_entries there_v sound.entries;
    buffered = sound.buffered;
    passed = sound.passed;
    leaving = sound.leaving;
    unfed = sound.unfed;
    accepted = sound.accepted;
    histories = sound.histories;
  }

module _ (s : Shape) (net : Network) (x o c : ℕ) (rest : List ℕ) (front : net.credit_list x o ≡ c ∷ rest) where
  pub get_credits : CreditsAdd s net → CreditsAdd s (got net x o (c ∷ rest))
  get_credits sound y2 o2 x2 v2 there_v n2 =
      let h = sound y2 o2 x2 v2 there_v n2 in
      elim (place_cases y2 o2 x o) [
        | inl here ↦
            let line : net.credit_list y2 o2 ≡ c ∷ rest = cc in
            let sum = rw (line, count-cons v2 c rest) at h in
            elim (number_cases v2 c) [
              | inl on ↦
                  let count : net.credits y2 o2 v2 ≡ net.credits x o c = cc in
                  let more = rw on.0 at sum in
                  rw (here.0, on.0) (omega arith)
              | inr off ↦
                  let more = rw off.0 at sum in
                  rw (here.0, off.0) (omega arith)
            ]
        | inr away ↦ rw away.0 h
      ]

  pub get_entries : CreditsAreChannels s net → CreditsAreChannels s (got net x o (c ∷ rest))
  get_entries sound y2 o2 =
      elim (place_cases y2 o2 x o) [
        | inl here ↦ rw here.0 (All-tail (λ d. d < s.vcs) c rest (rw front at (sound x o)))
        | inr away ↦ rw away.0 (sound y2 o2)
      ]

  pub get_sound : Sound s net → Sound s (got net x o (c ∷ rest))
  get_sound sound = record {
    links = sound.links;
    sources = sound.sources;
    sinks = sound.sinks;
    records = sound.records;
    holders = sound.holders;
    fits = sound.fits;
    credits = get_credits sound.credits;
    entries = get_entries sound.entries;
    buffered = sound.buffered;
    passed = sound.passed;
    leaving = sound.leaving;
    unfed = sound.unfed;
    accepted = sound.accepted;
    histories = sound.histories;
  }

-- so a buffer and what its link holds of the channel fit the depth
pub links_fit : (s : Shape) (net : Network) → CreditsAdd s net → LinksFit s net
links_fit s net sound y o x v there_v linked = let sum = sound y o x v there_v linked in omega arith
