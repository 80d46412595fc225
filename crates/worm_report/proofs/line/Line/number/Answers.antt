use Rattle.std.proofs.Common.{rules, arith, ap, ◌≡◌, ◌≤◌, ◌<◌, ◌+◌, ◌^◌, ◌++◌, ℕ, List, decimal, drop, length}
use Rattle.std.proofs.Common.{length-append}
use Rattle.std.proofs.lemmas.Fmt.{length-decimal-le}
use Rattle.std.proofs.lemmas.List.{length-drop}
use Rattle.worm_report.proofs.line.Line.number.Goals as goal

-- there is room for 20 digits
room : (n start : ℕ) (bytes old : List ℕ) → n < 2 ^ 64 → length bytes ≡ 256 → start ≤ 256 → drop start bytes ≡ old
    → 20 + length old ≤ 256 → (length (decimal n) ≤ start) × (start ≤ length bytes)
room n start bytes old fits all within is few =
    let digits = length-decimal-le 20 n (omega arith) (omega arith) fits in
    let left = length-drop start bytes in
    let same = ap (λ (l : List ℕ). length l) is in (
      omega arith,
      omega arith,
    )

longer : (n : ℕ) (new rest old : List ℕ) → n < 2 ^ 64 → new ≡ decimal n ++ rest → rest ≡ old
    → length new ≤ 20 + length old
longer n new rest old fits written is =
    let digits = length-decimal-le 20 n (omega arith) (omega arith) fits in
    let both = length-append (decimal n) rest in
    let grown = ap (λ (l : List ℕ). length l) written in
    let same = ap (λ (l : List ℕ). length l) is in
    omega arith

pub write_digits-self-inside-requires : goal.write_digits-self-inside-requires
write_digits-self-inside-requires c =
    let all : length c.self.inside.bytes ≡ 256 = search rules in
    room c.args.number c.self.inside.start c.self.inside.bytes c.args.self.now c.ranges.number.fits all
    c.self.inside.within c.self.view_is c.requires

pub returns-clause-longer : goal.returns-clause-longer
returns-clause-longer c =
    longer c.args.number (drop c.write_digits-self-inside.result c.write_digits-self-inside.new.buf)
    (drop c.self.inside.start c.self.inside.bytes) c.args.self.now c.ranges.number.fits
    c.write_digits-self-inside.ensures.written c.self.view_is
