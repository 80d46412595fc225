-- Two parts are taken off the end of a list of two, and each comes back the same: they are parts of one split still.
use Rattle.std.proofs.Common.{◌≡◌, ℕ, zero, suc, ◌<◌, List, [], ◌∷◌, ◌++◌, length, refl, arith, ap, sym, subst, ◌∙◌}
use Rattle.std.proofs.Common.{length-append}
use Rattle.worm_split.specs.Joins.{AreParts}
use Rattle.worm_split.specs.PartState.{PartState, IsSamePart}
use Rattle.worm_split.specs.Splits.{part_at}
use Rattle.worm_split.proofs.StillParts.{still_parts}
use Rattle.worm_run_tests.proofs.parts.both_turned.Goals as goal

both_still : (a b c d : PartState) → AreParts (a ∷ b ∷ []) → IsSamePart a c → IsSamePart b d → AreParts (c ∷ d ∷ [])
both_still a b c d parts first second = still_parts (a ∷ b ∷ []) (c ∷ d ∷ []) parts refl each
  where
    each : (w : ℕ) → w < length (a ∷ b ∷ []) → IsSamePart (part_at (a ∷ b ∷ []) w) (part_at (c ∷ d ∷ []) w)
    each zero below = first
    each (suc zero) below = second
    each (suc (suc w)) below = absurd (omega arith)

two_of : (old mid front : List PartState) (a b : PartState) → old ≡ mid ++ b ∷ [] → mid ≡ front ++ a ∷ []
    → length old ≡ 2 → (front ≡ []) × (old ≡ a ∷ b ∷ [])
two_of old mid [] a b last first two = (refl, last ∙ ap (λ (l : List PartState). l ++ b ∷ []) first)
two_of old mid (x ∷ xs) a b last first two =
    absurd (omega (
      arith,
      two,
      ap length last,
      ap length first,
      length-append mid (b ∷ []),
      length-append (x ∷ xs) (a ∷ []),
    ))

still_two : (old mid front next all : List PartState) (a b c d : PartState) → old ≡ mid ++ b ∷ []
    → mid ≡ front ++ a ∷ [] → length old ≡ 2 → AreParts old → IsSamePart a c → IsSamePart b d
    → next ≡ front ++ c ∷ [] → all ≡ next ++ d ∷ [] → AreParts all
still_two old mid front next all a b c d last first two parts same_first same_last put_first put_last =
    let found = two_of old mid front a b last first two in
    let now : all ≡ c ∷ d ∷ [] =
    put_last ∙ ap (λ (l : List PartState). l ++ d ∷ [])
    (put_first ∙ ap (λ (l : List PartState). l ++ c ∷ []) found.0) in
    subst (λ (ps : List PartState). AreParts ps) (sym now)
    (both_still a b c d (subst (λ (ps : List PartState). AreParts ps) found.1 parts) same_first same_last)

pub returns : goal.returns
returns g c =
    let a = c.expect-last-2.result in
    let b = c.expect-last.result in
    let last : c.args.parts.items ≡ c.pop.new.self.items ++ b ∷ [] =
    rw c.expect-last.ensures at c.pop.ensures.items in
    let first : c.pop.new.self.items ≡ c.pop-2.new.self.items ++ a ∷ [] =
    rw c.expect-last-2.ensures at c.pop-2.ensures.items in
    let same_first : IsSamePart a c.join.result = rw c.start-first.ensures at c.join.ensures in
    let same_last : IsSamePart b c.join-2.result = rw c.start-second.ensures at c.join-2.ensures in
    let put_first : c.push.new.self.items ≡ c.pop-2.new.self.items ++ c.join.result ∷ [] =
    rw c.expect.ensures at c.push.ensures.items in
    let put_last : c.push-2.new.self.items ≡ c.push.new.self.items ++ c.join-2.result ∷ [] =
    rw c.expect-2.ensures at c.push-2.ensures.items in
    still_two c.args.parts.items c.pop.new.self.items c.pop-2.new.self.items c.push.new.self.items
    c.push-2.new.self.items a b c.join.result c.join-2.result last first c.requires.1 c.requires.0 same_first
    same_last put_first put_last
