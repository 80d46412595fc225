-- A configuration that a network text says is one that a network is made of.
use Rattle.std.proofs.Common.{◌≡◌, ℕ, length, sym, ◌∙◌, arith}
use Rattle.worm_region.specs.NewNet.{IsConfig}
use Rattle.worm_text.specs.declared.format.Format.{Format}
use Rattle.worm_text.specs.Network.{Network, Keeps}

pub kept_config : (format : Format) (n : Network) (names : ℕ) → names ≡ length n.classes → Keeps format n
    → IsConfig n.radices n.channels n.depth names
kept_config format n names all kept = record {
  mesh = record {
    some_dims = omega (arith, kept.mesh.dims.0);
    few_dims = kept.mesh.dims.1;
    radices = kept.mesh.each;
    few_nodes = kept.mesh.nodes;
  };
  classes = record {
    some = omega (arith, kept.some, kept.classes.paired);
    few = omega (arith, kept.classes.count, kept.classes.paired);
    each = kept.classes.each;
    total = kept.classes.total;
  };
  least_depth = kept.depth.0;
  most_depth = kept.depth.1;
  all_named = all ∙ sym kept.classes.paired;
}
