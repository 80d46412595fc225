use Rattle.std.proofs.Common.{◌≡◌, ◌<◌, ℕ, true, arith, subst}
use Rattle.worm_flit.specs.SmallSet.{has}
use Rattle.worm_flit.proofs.SmallSets.{some_number}
use Rattle.worm_flit.proofs.small_set.SmallSet.is_empty.Goals as goal

pub returns-clause-some : goal.returns-clause-some
returns-clause-some c = λ some. subst (λ (bits : ℕ). (p : ℕ) × (p < 8) × (has bits p ≡ true)) c.self.view_is
    (some_number c.self.inside.bits (omega arith) some)
