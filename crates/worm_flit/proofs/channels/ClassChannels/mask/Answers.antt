use Rattle.std.proofs.Common.{◌≡◌, ◌+◌, ◌≤◌, ◌==◌, slice_index, slice_index_or, arith, ap, ◌∙◌, refl}
use Rattle.std.proofs.lemmas.Grind.{common_steps}
use Rattle.std.specs.Int.{bit_at}
use Rattle.worm_flit.proofs.Masks.{class_bits-owns, ones_fit, ones_moved}
use Rattle.worm_flit.proofs.channels.ClassChannels.mask.Goals as goal

pub overflow_cast-result-3 : goal.overflow_cast-result-3
overflow_cast-result-3 c =
    let n = slice_index_or c.deref.result.now c.from.result 0 in
    let same : n ≡ slice_index c.args.self.now c.args.class = grind (arith, common_steps) in
    let room : c.first-first.result + n ≤ 8 = omega (arith, same, c.first-first.ensures.bound) in
    let moved = ones_moved n c.first-first.result room in
    let fits = ones_fit n c.first-first.result room in
    omega arith

pub returns-clause-value : goal.returns-clause-value
returns-clause-value c =
    let n = slice_index_or c.deref.result.now c.from.result 0 in
    let same : n ≡ slice_index c.args.self.now c.args.class = grind (arith, common_steps) in
    let room : c.first-first.result + n ≤ 8 = omega (arith, same, c.first-first.ensures.bound) in
    ones_moved n c.first-first.result room ∙ rw (same, c.first-first.ensures.value) refl

pub returns-clause-bits : goal.returns-clause-bits
returns-clause-bits c = λ channel below.
    ap (λ m. bit_at m channel == 1) (returns-clause-value c) ∙ class_bits-owns c.args.self.now c.args.class channel
