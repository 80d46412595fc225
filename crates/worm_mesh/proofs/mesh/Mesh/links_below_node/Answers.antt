-- the counts by ports and by digits agree
use Rattle.std.proofs.Common.{◌≡◌, ◌≤◌, length, take, sym, ◌∙◌}
use Rattle.worm_mesh.proofs.Counts.{sum_by_degrees, sum_by_digits-le}
use Rattle.worm_mesh.proofs.mesh.Mesh.links_below_node.Goals as goal

pub returns-clause-value : goal.returns-clause-value
returns-clause-value c =
    let view : take c.self.inside.dims c.self.inside.radices ≡ c.args.self.now = c.self.view_is in
    c.link_counts.ensures.below ∙ rw (
      c.from.ensures,
      view,
    ) (sym (sum_by_degrees c.args.self.now c.args.node c.requires))

pub returns-clause-few : goal.returns-clause-few
returns-clause-few c =
    let view : take c.self.inside.dims c.self.inside.radices ≡ c.args.self.now = c.self.view_is in
    let few : length c.args.self.now ≤ 3 = rw view at c.self.invariant.mesh.few_dims in
    rw (c.link_counts.ensures.below, c.from.ensures, view) (sum_by_digits-le c.args.self.now c.args.node few)
