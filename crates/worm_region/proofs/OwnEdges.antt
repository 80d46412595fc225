-- What comes and goes over a link of which one end is elsewhere keeps what moves need.
use Rattle.std.proofs.Common.{◌≡◌, ℕ, ◌<◌, Bool, true, false, ◌⊎◌, inl, inr, refl, List, [], ◌∷◌, ◌++◌, Option, Some}
use Rattle.std.proofs.Common.{None, arith, sym, subst, ◌∙◌}
use Rattle.std.proofs.lemmas.List.Elements.{All-push}
use Rattle.worm_flit.specs.declared.Flit.{Flit}
use Rattle.worm_records.specs.declared.InRecord.TheVariants.{Active}
use Rattle.worm_theory.specs.Shape.{Shape, IsMesh}
use Rattle.worm_theory.specs.Network.{Network, put2, put3, same}
use Rattle.worm_theory.specs.Steps.{IsLinked, sent_by}
use Rattle.worm_theory.proofs.MeshLaws.{same_start}
use Rattle.worm_theory.proofs.Places.{place_cases, same-false}
use Rattle.worm_theory.proofs.Send.{down_sum, up_sum}
use Rattle.worm_region.specs.Workable.{EndsElsewhere, IsSent, OwnCreditsAdd, Works}
use Rattle.worm_region.proofs.StaysWorking.{send_by}

-- what is at the other end of a port's link is elsewhere
abbrev pub AreElsewhere : Shape → (ℕ → Bool) → ℕ → ℕ → Type 0
AreElsewhere s own x o = (y : ℕ) → s.neighbour x o ≡ Some y → own y ≡ false

by_link : (own : ℕ → Bool) (end : Option ℕ) → IsLinked end (λ y. own y ≡ false) → (y : ℕ) → end ≡ Some y →
    own y ≡ false
by_link own None crosses y to = absurd crosses
by_link own (Some z) crosses y to = let same : z ≡ y = cc in subst (λ (n : ℕ). own n ≡ false) same crosses

pub all_elsewhere : (s : Shape) (own : ℕ → Bool) (x o : ℕ) → EndsElsewhere s own x o → AreElsewhere s own x o
all_elsewhere s own x o crosses = by_link own (s.neighbour x o) crosses

module _ (s : Shape) (mesh : IsMesh s) {own : ℕ → Bool} (net : Network) where
  -- a flit that leaves over such a link
  let_out_credits : (x p v o c : ℕ) (f : Flit) (rest : List Flit) → net.in_record x p v ≡ Active o c →
      net.buffer x p v ≡ f ∷ rest → (0 < net.credits x o c) ⊎ (o ≡ s.terminal)
      → AreElsewhere s own x o → OwnCreditsAdd s own net →
      OwnCreditsAdd s own (record (sent_by s net x p v o c f rest) { out = net.out })
  let_out_credits x p v o c f rest active front may crosses sound y2 o2 x2 v2 there_v n2 own_y own_x =
      let h = sound y2 o2 x2 v2 there_v n2 own_y own_x in
      let off : o2 ≡ s.terminal → ⊥ = λ e.
      let alone = mesh.terminal_alone y2 in let clash : s.neighbour y2 s.terminal ≡ Some x2 = cc in cc in
      let up = up_sum s net x p v o c f rest active front may y2 o2 v2 off in
      let back = mesh.link_back y2 o2 x2 n2 in
      let down = down_sum s net x p v o c f rest active front x2 (s.opposite o2) v2 (rw back) in
      elim (place_cases y2 o2 x o) [
        | inl here ↦
            let linked : s.neighbour x o ≡ Some x2 = (λ t. s.neighbour (sym here.1 t) (sym here.2 t)) ∙ n2 in
            let away : own x2 ≡ false = crosses x2 linked in
            let no : true ≡ false = sym own_x ∙ away in
            absurd (cc)
        | inr away ↦
            let same_out : (sent_by s net x p v o c f rest).out y2 o2 ≡ net.out y2 o2 = rw away.0 refl in
            let apart = rw same_out at up in
            omega arith
      ]

  -- a credit that was owed goes over one
  gave_credits : (x p v n y : ℕ) → s.neighbour x p ≡ Some y → own y ≡ false → OwnCreditsAdd s own net →
      OwnCreditsAdd s own (record net { owed = put3 net.owed x p v n })
  gave_credits x p v n y linked elsewhere sound y2 o2 x2 v2 there_v n2 own_y own_x =
      let h = sound y2 o2 x2 v2 there_v n2 own_y own_x in
      let away : same x2 (s.opposite o2) x p ≡ false = same-false x2 (s.opposite o2) x p (λ e1 e2.
      let starts = same_start s mesh x p y linked y2 o2 x2 n2 e1 e2 in
      let own_here : own y ≡ true = (λ t. own (sym starts.0 t)) ∙ own_y in
      let no : true ≡ false = sym own_here ∙ elsewhere in
      absurd (cc)) in
      rw away h

  -- a flit comes over one
  arrive_credits : (x o : ℕ) (fs : List Flit) → own x ≡ false → OwnCreditsAdd s own net →
      OwnCreditsAdd s own (record net { out = put2 net.out x o fs })
  arrive_credits x o fs elsewhere sound y2 o2 x2 v2 there_v n2 own_y own_x =
      let h = sound y2 o2 x2 v2 there_v n2 own_y own_x in
      elim (place_cases y2 o2 x o) [
        | inl here ↦
            let own_here : own x ≡ true = (λ t. own (sym here.1 t)) ∙ own_y in
            let no : true ≡ false = sym own_here ∙ elsewhere in
            absurd (cc)
        | inr away ↦ rw away.0 h
      ]

  -- a credit comes back over one
  back_credits : (x o : ℕ) (cs : List ℕ) → AreElsewhere s own x o → OwnCreditsAdd s own net →
      OwnCreditsAdd s own (record net { credit_list = put2 net.credit_list x o cs })
  back_credits x o cs crosses sound y2 o2 x2 v2 there_v n2 own_y own_x =
      let h = sound y2 o2 x2 v2 there_v n2 own_y own_x in
      elim (place_cases y2 o2 x o) [
        | inl here ↦
            let linked : s.neighbour x o ≡ Some x2 = (λ t. s.neighbour (sym here.1 t) (sym here.2 t)) ∙ n2 in
            let away : own x2 ≡ false = crosses x2 linked in
            let no : true ≡ false = sym own_x ∙ away in
            absurd (cc)
        | inr away ↦ rw away.0 h
      ]

module _ (s : Shape) (mesh : IsMesh s) {own : ℕ → Bool} (net : Network) (works : Works s own net) where
  pub let_out_works : (x p v o c : ℕ) (f : Flit) (rest : List Flit) → x < s.nodes → net.in_record x p v ≡ Active o c →
      net.buffer x p v ≡ f ∷ rest → (0 < net.credits x o c) ⊎ (o ≡ s.terminal)
      → AreElsewhere s own x o → Works s own (record (sent_by s net x p v o c f rest) { out = net.out })
  let_out_works x p v o c f rest x_in e b may crosses =
      let sent = send_by s mesh net works x p v o c f rest x_in e b may in
      record {
        records = sent.records;
        buffered = sent.buffered;
        out = works.out;
        entries = sent.entries;
        few = sent.few;
        credits = let_out_credits s mesh net x p v o c f rest e b may crosses works.credits;
        unfed = sent.unfed;
      }

  pub arrive_works : (x o : ℕ) (f : Flit) → IsSent s f → own x ≡ false →
      Works s own (record net { out = put2 net.out x o (net.out x o ++ f ∷ []) })
  arrive_works x o f is_sent elsewhere = record {
    records = works.records;
    buffered = works.buffered;
    out = λ x2 o2. elim (place_cases x2 o2 x o) [
      | inl here ↦ rw here.0 (All-push (IsSent s) (net.out x o) f (works.out x o) is_sent)
      | inr away ↦ rw away.0 (works.out x2 o2)
    ];
    entries = works.entries;
    few = works.few;
    credits = arrive_credits s mesh net x o (net.out x o ++ f ∷ []) elsewhere works.credits;
    unfed = works.unfed;
  }

  pub back_works : (x o c : ℕ) → c < s.vcs → AreElsewhere s own x o →
      Works s own (record net { credit_list = put2 net.credit_list x o (net.credit_list x o ++ c ∷ []) })
  back_works x o c c_in crosses = record {
    records = works.records;
    buffered = works.buffered;
    out = works.out;
    entries = λ x2 o2. elim (place_cases x2 o2 x o) [
      | inl here ↦ rw here.0 (All-push (λ (d : ℕ). d < s.vcs) (net.credit_list x o) c (works.entries x o) c_in)
      | inr away ↦ rw away.0 (works.entries x2 o2)
    ];
    few = works.few;
    credits = back_credits s mesh net x o (net.credit_list x o ++ c ∷ []) crosses works.credits;
    unfed = works.unfed;
  }

  pub gave_works : (x p v n y : ℕ) → s.neighbour x p ≡ Some y → own y ≡ false →
      Works s own (record net { owed = put3 net.owed x p v n })
  gave_works x p v n y linked elsewhere = record {
    records = works.records;
    buffered = works.buffered;
    out = works.out;
    entries = works.entries;
    few = works.few;
    credits = gave_credits s mesh net x p v n y linked elsewhere works.credits;
    unfed = works.unfed;
  }
