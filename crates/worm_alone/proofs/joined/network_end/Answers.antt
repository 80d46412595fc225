use Rattle.std.proofs.Common.{◌≡◌, ◌+◌, ◌-◌, ℕ, take, drop, true, false, length, ap, sym, ◌∙◌, codes, subst}
use Rattle.std.proofs.Common.{arith}
use Rattle.std.specs.Str.{bytes_eq}
use Rattle.worm_alone.proofs.CutBehindEnd.{IsWalked, all_walked, cut_here, next_line, one_cut, same_line}
use Rattle.worm_alone.proofs.joined.network_end.Goals as goal
use Rattle.worm_alone.proofs.joined.network_end.Goals.{then-byte-eq10+else-eq, else-byte-eq10}

pub loop-at-preserved : goal.loop-at-preserved
loop-at-preserved c =
    let text = c.args.text.now in
    let at = c.loop-at.at in
    let from = c.loop-at.start in
    let Walked : ℕ → Type 0 = λ s. IsWalked text s (at + 1) in
    elim c.if-byte-eq10.branch [
      | then-byte-eq10+else-eq w ↦
          let other : bytes_eq (take (at - from) (drop from text)) (codes "end") ≡ false =
          ap (bytes_eq (take (at - from) (drop from text))) (sym w.as_slice.ensures)
          ∙ (sym w.eq.ensures ∙ w.if-eq.false) in
          subst Walked (sym w.start-is)
          (next_line text from at c.loop-at-test.true w.if-byte-eq10.true other c.loop-at.invariant)
      | else-byte-eq10 w ↦
          subst Walked (sym w.start-is)
          (same_line text from at c.loop-at-test.true w.if-byte-eq10.false c.loop-at.invariant)
    ]

pub returns-then-eq-clause-cut : goal.returns-then-eq-clause-cut
returns-then-eq-clause-cut c =
    let text = c.args.text.now in
    let at = c.loop-at.at in
    let from = c.loop-at.start in
    let same : bytes_eq (take (at - from) (drop from text)) (codes "end") ≡ true =
    ap (bytes_eq (take (at - from) (drop from text))) (sym c.as_slice.ensures) ∙ (sym c.eq.ensures ∙ c.if-eq.true) in
    cut_here text from at c.loop-at-test.true c.if-byte-eq10.true same c.loop-at.invariant

pub returns-then-eq-clause-only : goal.returns-then-eq-clause-only
returns-then-eq-clause-only c =
    let text = c.args.text.now in
    let at = c.loop-at.at in
    let from = c.loop-at.start in
    let same : bytes_eq (take (at - from) (drop from text)) (codes "end") ≡ true =
    ap (bytes_eq (take (at - from) (drop from text))) (sym c.as_slice.ensures) ∙ (sym c.eq.ensures ∙ c.if-eq.true) in
    let here = cut_here text from at c.loop-at-test.true c.if-byte-eq10.true same c.loop-at.invariant in
    λ other there. one_cut text (at + 1) other here there

pub returns-clause-cut : goal.returns-clause-cut
returns-clause-cut c =
    let text = c.args.text.now in
    let end = c.loop-at.auto.at-end in
    let over = c.loop-at-test.false in
    let all : c.loop-at.at ≡ length text = omega arith in
    all_walked text c.loop-at.start (subst (λ (n : ℕ). IsWalked text c.loop-at.start n) all c.loop-at.invariant)

pub returns-clause-only : goal.returns-clause-only
returns-clause-only c =
    let text = c.args.text.now in
    let end = c.loop-at.auto.at-end in
    let over = c.loop-at-test.false in
    let all : c.loop-at.at ≡ length text = omega arith in
    let here = all_walked text c.loop-at.start
    (subst (λ (n : ℕ). IsWalked text c.loop-at.start n) all c.loop-at.invariant) in
    λ other there. one_cut text (length text) other here there
