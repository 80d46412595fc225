use Rattle.std.proofs.Common.{◌≡◌, List, [], ◌∷◌, ◌++◌, ◌+◌, Bool, true, false, cond, refl, inl, inr, arith}
use Rattle.std.specs.Prelude.{not, is_ok}
use Rattle.worm_rows.specs.declared.rows.Row.{Row}
use Rattle.worm_rows.specs.Rules.{behind}
use Rattle.worm_rows.proofs.Loop.{one_more, ill, begun_well}
use Rattle.worm_rows.proofs.report.read_rows.Goals as goal

-- where a push did not fail
pushed : (fine failed : Bool) (new old : List Row) (row : Row) → new ≡ cond fine (old ++ row ∷ []) old
    → fine ≡ not failed → failed ≡ false → new ≡ old ++ row ∷ []
pushed true failed new old row e n f = e
pushed false true new old row e n f = absurd cc
pushed false false new old row e n f = absurd cc

pub returns-in-Err : goal.returns-in-Err
returns-in-Err c =
    let l = c.loop-front in
    inr (ill c.args.shape.now l.standing l.rows.items l.line l.rest.now c.args.bytes.now c.in-Some.front.now
    c.in-Some.after.now c.in-Err.why l.invariant c.in-Some.ensures.parts c.in-Err.ensures)

pub returns-then-is_err : goal.returns-then-is_err
returns-then-is_err c =
    let l = c.loop-front in
    let more = one_more c.args.shape.now l.standing l.rows.items l.line l.rest.now c.args.bytes.now c.in-Some.front.now
    c.in-Some.after.now c.in-Ok.row l.invariant c.in-Some.ensures.parts c.in-Ok.ensures in
    let count = l.invariant.count in
    inl (record {
      why = refl;
      some = omega arith;
      line = begun_well c.args.shape.now (behind l.standing c.in-Ok.row) (l.rows.items ++ c.in-Ok.row ∷ [])
          (l.line + 1) l.line c.in-Some.after.now c.args.bytes.now more refl;
    })

pub loop-front-preserved : goal.loop-front-preserved
loop-front-preserved c =
    let l = c.loop-front in
    let more = one_more c.args.shape.now l.standing l.rows.items l.line l.rest.now c.args.bytes.now c.in-Some.front.now
    c.in-Some.after.now c.in-Ok.row l.invariant c.in-Some.ensures.parts c.in-Ok.ensures in
    let items : c.push.new.self.items ≡ l.rows.items ++ c.in-Ok.row ∷ [] =
    pushed (is_ok c.push.result) c.is_err.result c.push.new.self.items l.rows.items c.in-Ok.row c.push.ensures.items
    c.is_err.ensures.negation c.if-is_err.false in
    rw (items, c.behind-standing.ensures) more
