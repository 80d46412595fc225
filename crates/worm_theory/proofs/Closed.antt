-- Only lanes whose class owns one channel are closed.
use Rattle.std.proofs.Common.{◌≡◌, ℕ, Bool, true, false, ◌||◌, ◌⊎◌, inl, inr, List, [], ◌∷◌, ◌++◌, refl, sym, ap, subst}
use Rattle.std.proofs.Common.{◌∙◌}
use Rattle.std.proofs.lemmas.List.Elements.{filter-append}
use Rattle.std.proofs.lemmas.List.Folds.{list_any-append}
use Rattle.worm_flit.specs.declared.Lane.{Lane}
use Rattle.worm_flit.specs.declared.Flit.{Flit}
use Rattle.worm_flit.specs.Kinds.{is_mark}
use Rattle.worm_flit.specs.Stamps.{is_of_lane, of_lane}
use Rattle.worm_flit.specs.Packets.{packet_flits, mark}
use Rattle.worm_theory.specs.Shape.{Shape, OwnsOne}
use Rattle.worm_theory.specs.Network.{Network, put2}
use Rattle.worm_theory.specs.Steps.{Step, Enabled, after, StepsLead, empty, has_mark, next_number}
use Rattle.worm_theory.specs.Sound.{OnesClosed}
use Rattle.worm_theory.proofs.Places.{place_cases}
use Rattle.worm_theory.proofs.Packets.{same_lane_cases, packet-own, packet-others, packet-unmarked}
use Rattle.worm_theory.proofs.Growth.{by_injected}
use Rattle.worm_theory.proofs.Lists.{any_list}

or_true : (a b : Bool) → (a || b) ≡ true → (a ≡ true) ⊎ (b ≡ true)
or_true true b e = inl refl
or_true false b e = inr e

-- what is marked after an offer was so before, or is marked by what was offered
marked_by : (lane : Lane) (old : ℕ → ℕ → List Flit) (x k : ℕ) (fs : List Flit)
    → has_mark (of_lane lane (put2 old x k (old x k ++ fs) lane.src lane.class)) ≡ true
    → (has_mark (of_lane lane (old lane.src lane.class)) ≡ true) ⊎ (has_mark (of_lane lane fs) ≡ true)
marked_by lane old x k fs e =
    elim (place_cases lane.src lane.class x k) [
      | inl here ↦
          let now : has_mark (of_lane lane (old x k ++ fs)) ≡ true = rw here.0 at e in
          let parts : has_mark (of_lane lane (old x k ++ fs))
          ≡ (has_mark (of_lane lane (old x k)) || has_mark (of_lane lane fs)) =
          ap has_mark (filter-append (is_of_lane lane) (old x k) fs)
          ∙ list_any-append (λ (f : Flit). is_mark f.kind) (of_lane lane (old x k)) (of_lane lane fs) in
          elim (or_true (has_mark (of_lane lane (old x k))) (has_mark (of_lane lane fs)) (sym parts ∙ now)) [
            | inl before ↦ let was : old lane.src lane.class ≡ old x k = rw (here.1, here.2) refl in
                inl (ap (λ gs. has_mark (of_lane lane gs)) was ∙ before)
            | inr since ↦ inr since
          ]
      | inr away ↦ inl (rw away.0 at e)
    ]

packet_marks_none : (lane other : Lane) (n : ℕ) (ws : List ℕ)
    → has_mark (of_lane lane (packet_flits other n ws)) ≡ false
packet_marks_none lane other n ws =
    elim (same_lane_cases lane other) [
      | inl own ↦ ap has_mark (packet-own lane other n own.0 ws) ∙ packet-unmarked other n ws
      | inr away ↦ ap has_mark (packet-others lane other n away ws)
    ]

mark_marks_own : (lane other : Lane) (n : ℕ) → has_mark (of_lane lane (mark other n ∷ [])) ≡ true → lane ≡ other
mark_marks_own lane other n e =
    elim (same_lane_cases lane other) [
      | inl own ↦ own.1
      | inr away ↦ let none = rw away at e in cc
    ]

pub step_closed : (s : Shape) (net : Network) (step : Step) → Enabled s net step → OnesClosed s net
    → OnesClosed s (after s net step)
step_closed s net step h ones =
    by_injected s net (λ injected. (lane : Lane) → has_mark (of_lane lane (injected lane.src lane.class)) ≡ true
    → OwnsOne s lane.class) ones
    (λ x l words _ lane e. elim (marked_by lane net.injected x l.class (packet_flits l (next_number net l) words) e) [
      | inl before ↦ ones lane before
      | inr since ↦ let none = packet_marks_none lane l (next_number net l) words in cc
    ])
    (λ x l h lane e. elim (marked_by lane net.injected x l.class (mark l (next_number net l) ∷ []) e) [
      | inl before ↦ ones lane before
      | inr since ↦ subst (λ (q : Lane). OwnsOne s q.class) (sym (mark_marks_own lane l (next_number net l) since)) h.1
    ]) step h

pub empty_closed : (s : Shape) → OnesClosed s (empty s)
empty_closed s lane e = cc

pub steps_closed : (s : Shape) (steps : List Step) (old new : Network) → StepsLead s old steps new → OnesClosed s old
    → OnesClosed s new
steps_closed s = any_list s (OnesClosed s) (λ net step _ enabled ones. step_closed s net step enabled ones)
