use Rattle.std.proofs.Common.{◌≡◌, ◌++◌, ◌∙◌, ℕ, List, None, Option, Some, ap, arith, length-append, take}
use Rattle.std.specs.Prelude.{IfSome, IsSomeAnd}
use Rattle.std.proofs.KnownBytes.{Consumes-trans}
use Rattle.std.proofs.lemmas.List.{length-take}
use Rattle.worm_text.proofs.reading.read_text.Goals as goal

-- what is kept of the text is all that was given, if anything is
kept_on : {X : Type 0} (items : X → List ℕ) (new old : Option X) (given more : List ℕ)
    → IfSome new (λ longer. IsSomeAnd old (λ short. items longer ≡ items short ++ more))
    → IfSome old (λ text. items text ≡ given) → IfSome new (λ text. items text ≡ given ++ more)
kept_on items None old given more longer is = tt
kept_on items (Some x) None given more longer is = absurd longer
kept_on items (Some x) (Some y) given more longer is = longer ∙ ap (λ (z : List ℕ). z ++ more) is

pub returns-then-count-most_bytes-clause-err : goal.returns-then-count-most_bytes-clause-err
returns-then-count-most_bytes-clause-err g c =
    let i = c.loop.invariant in
    let more = take c.in-Ok.count c.read.new.buf in
    (i.0 ++ more, Consumes-trans _ _ _ i.0 more i.1 c.in-Ok.ensures.bytes.0)

pub loop-preserved : goal.loop-preserved
loop-preserved g c =
    let i = c.loop.invariant in
    let more = take c.in-Ok.count c.read.new.buf in (
      i.0 ++ more,
      Consumes-trans _ _ _ i.0 more i.1 c.in-Ok.ensures.bytes.0,
      omega (arith, i.2, length-append i.0 more, length-take c.in-Ok.count c.read.new.buf, c.in-Ok.ensures.bound),
      omega (arith, i.3, c.if-count-most_bytes.false),
      kept_on (λ text. text.items) c.lengthened-text.result c.loop.text i.0 more c.lengthened-text.ensures i.4,
    )
