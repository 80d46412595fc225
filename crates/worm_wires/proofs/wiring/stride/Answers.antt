use Rattle.std.proofs.Common.{Option, Some, None, ◌+◌, ◌*◌, refl, sym, ◌≡◌, ℕ, ◌∙◌}
use Rattle.worm_mesh.specs.Address.{stride_of}
use Rattle.worm_wires.proofs.StepsAdd.{step_from_zero}
use Rattle.worm_wires.proofs.wiring.stride.Goals as goal

pub unreachable-requires : goal.unreachable-requires
unreachable-requires c =
    let there = step_from_zero c.args.mesh.now c.args.dim
    (2 * c.args.dim + 1) c.dims-dims.ensures.mesh c.requires refl in
    let no : ◌≡◌ {A = Option ℕ} (Some (stride_of c.args.mesh.now c.args.dim)) None =
    sym there ∙ (sym c.neighbour.ensures.value ∙ c.in-None.is) in
    absurd (cc)

pub returns : goal.returns
returns c =
    let there = step_from_zero c.args.mesh.now c.args.dim
    (2 * c.args.dim + 1) c.dims-dims.ensures.mesh c.requires refl in
    let one : ◌≡◌ {A = Option ℕ} (Some c.in-Some.node) (Some (stride_of c.args.mesh.now c.args.dim)) =
    sym c.in-Some.is ∙ (c.neighbour.ensures.value ∙ there) in
    cc
