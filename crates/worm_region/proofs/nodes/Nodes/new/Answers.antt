use Rattle.std.proofs.Common.{◌≡◌, true, false, sym, ◌∙◌}
use Rattle.worm_swalloc.proofs.SwitchPass.{get_or-replicate_same}
use Rattle.worm_region.proofs.nodes.Nodes.new.Goals as goal

pub invariant_of-result : goal.invariant_of-result
invariant_of-result c = (
  λ x there kept. let no : false ≡ true = sym (get_or-replicate_same 256 x false) ∙ kept in
      absurd (cc),
  tt,
)
