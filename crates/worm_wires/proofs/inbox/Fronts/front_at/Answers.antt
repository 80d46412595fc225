use Rattle.std.proofs.Common.{◌≡◌, ◌<◌, length, get_or, true, Some, ap, rules}
use Rattle.std.specs.Prelude.{is_some}
use Rattle.worm_flit.specs.SmallSet.{has}
use Rattle.worm_wires.specs.Inbox.{front_of, tray_of}
use Rattle.worm_wires.proofs.FrontRead.{read}
use Rattle.worm_wires.proofs.inbox.Fronts.front_at.Goals as goal

-- where one comes in by the port, it is what is read there
read_at : (g : _) (c : goal.After-index-self-from g)
    → Some (get_or c.args.self.now.front c.from.result c.index-self-from.result)
    ≡ front_of (tray_of c.args.here.now c.args.self.now) c.args.port
read_at g c =
    let there : c.args.port < length c.args.self.now.front = search rules in
    let some : has c.args.here.now c.args.port ≡ true = cc in
    rw (c.from.ensures, some) (read c.args.self.now.front c.args.port _ there)

pub returns-clause-value : goal.returns-clause-value
returns-clause-value g c = read_at g c

pub returns-clause-variant : goal.returns-clause-variant
returns-clause-variant g c = ap is_some (read_at g c)
