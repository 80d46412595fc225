use Rattle.std.proofs.Common.{◌<◌, length, refl, rules}
use Rattle.worm_wires.proofs.FrontRead.{read_back, read_else}
use Rattle.worm_wires.proofs.inbox.Fronts.put.Goals as goal

pub returns : goal.returns
returns g c =
    let there : c.args.port < length c.args.self.now.front = search rules in
    record {
      comes = c.put.ensures;
      listed = record { here = c.requires.alone; elsewhere = λ q small other. refl };
      first = λ some. read_back c.args.self.now.front c.args.port c.from.result c.args.item there c.from.ensures;
      others = λ q other.
          read_else c.args.self.now.front c.args.port c.from.result q c.args.item c.from.ensures other;
    }
