use Rattle.std.proofs.Common.{arith}
use Rattle.worm_router.proofs.Owing.{lines_of, none_owing, lowest_in, lowest_owes, lower_owe_not}
use Rattle.worm_router.proofs.router.Router.owed.Goals as goal

pub returns-then-lines-eq0-clause-none : goal.returns-then-lines-eq0-clause-none
returns-then-lines-eq0-clause-none c = λ k k_in.
    none_owing c.args.self.now c.owing.result c.args.port c.row-lines.result k
    (lines_of _ c.args.self.now c.owing.result c.args.port c.row-lines.result c.total.result c.self.view_is
    c.owing.ensures.owing c.requires c.total.ensures.value c.self.invariant.busy.few_channels c.row-lines.ensures.few
    c.row-lines.ensures.lines)
    c.if-lines-eq0.true k_in

pub returns-clause-found : goal.returns-clause-found
returns-clause-found c =
    let lines = lines_of _ c.args.self.now c.owing.result c.args.port c.row-lines.result c.total.result c.self.view_is
    c.owing.ensures.owing c.requires c.total.ensures.value c.self.invariant.busy.few_channels c.row-lines.ensures.few
    c.row-lines.ensures.lines in (
      lowest_in c.args.self.now c.owing.result c.args.port c.row-lines.result lines
          (omega (arith, c.if-lines-eq0.false)),
      lowest_owes c.args.self.now c.owing.result c.args.port c.row-lines.result lines
          (omega (arith, c.if-lines-eq0.false)),
    )

pub returns-clause-lowest : goal.returns-clause-lowest
returns-clause-lowest c =
    lower_owe_not c.args.self.now c.owing.result c.args.port c.row-lines.result
    (lines_of _ c.args.self.now c.owing.result c.args.port c.row-lines.result c.total.result c.self.view_is
    c.owing.ensures.owing c.requires c.total.ensures.value c.self.invariant.busy.few_channels c.row-lines.ensures.few
    c.row-lines.ensures.lines)
    (omega (arith, c.if-lines-eq0.false))
