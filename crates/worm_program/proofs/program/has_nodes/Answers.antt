use Rattle.std.proofs.Common.{rules, ◌≡◌, ℕ, List, sym, subst}
use Rattle.std.proofs.lemmas.List.{length-map}
use Rattle.worm_mesh.specs.Address.{AreRadices}
use Rattle.worm_text.specs.Network.{view}
use Rattle.worm_alone.proofs.Configs.{kept_config}
use Rattle.worm_program.proofs.Meshes.{not_fault}
use Rattle.worm_program.proofs.program.has_nodes.Goals as goal

pub unreachable-requires : goal.unreachable-requires
unreachable-requires c =
    let names = c.args.config.now.classes.items in
    let config = kept_config c.requires.0 (view c.args.config.now) _ (sym (length-map names _)) c.requires.1 in
    let same : c.as_slice.result.now ≡ c.args.config.now.radices.items = search rules in
    not_fault c.as_slice.result.now c.in-Err.field-0
    (subst (λ (l : List ℕ). AreRadices l) (sym same) config.mesh) c.in-Err.ensures
