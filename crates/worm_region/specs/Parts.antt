-- A network taken apart: what its parts stand for.
use Rattle.std.specs.Prelude.{◌≡◌}
use Rattle.worm_region.specs.Owned.{sole}
use Rattle.worm_region.specs.State.{NetState, net_state, texts_of}
use Rattle.worm_region.specs.declared.config.Config.{Config}
use Rattle.worm_region.specs.declared.owner.Owner.{Owner}
use Rattle.worm_region.specs.declared.parts.NetParts.{NetParts}

-- what these parts make, with these nodes owned
abbrev pub part_state : NetParts → Owner → NetState
part_state p own =
    net_state p.config.radices.items p.config.channels.items p.config.depth (texts_of p.config.classes.items)
    p.nodes.items p.links.items own

-- the network that these parts make
abbrev pub parts_state : NetParts → NetState
parts_state p = part_state p sole

-- the configuration is that of the network
pub record IsConfigOf (s : NetState) (config : Config) : Type 0 where
  pub radices : config.radices.items ≡ s.mesh
  pub channels : config.channels.items ≡ s.channels
  pub depth : config.depth ≡ s.depth
  pub names : texts_of config.classes.items ≡ s.names
