use Rattle.worm_theory.specs.Parts.{split, gathered}
use Rattle.worm_theory.proofs.Split.{split_holds, gather_holds}
use Rattle.worm_theory.proofs.Moves.{moves_hold}
use Rattle.worm_theory.proofs.Join.{join_holds}
use Rattle.worm_theory.proofs.parts.holds_again.Goals as goal

pub returns : goal.returns
returns c = λ s old steps part flits credits mesh was moved rest.
    join_holds s mesh old (gathered part) flits credits rest was
    (gather_holds s old part (λ x. moves_hold s mesh old (steps x) (split s old) (part x) (moved x)
    (split_holds s mesh old was)))
