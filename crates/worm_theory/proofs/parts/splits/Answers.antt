use Rattle.worm_theory.proofs.Split.{split_holds, gather_holds}
use Rattle.worm_theory.proofs.parts.splits.Goals as goal

pub returns-clause-split : goal.returns-clause-split
returns-clause-split c = λ s old mesh hold. split_holds s mesh old hold

pub returns-clause-gather : goal.returns-clause-gather
returns-clause-gather c = λ s old part each. gather_holds s old part each
