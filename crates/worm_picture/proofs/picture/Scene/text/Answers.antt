use Rattle.std.proofs.Common.{refl}
use Rattle.worm_picture.specs.Nodes.{shown}
use Rattle.worm_picture.specs.Packets.{tail_in}
use Rattle.worm_picture.proofs.Names.{pictures, wrote_none}
use Rattle.worm_picture.proofs.picture.Scene.text.Goals as goal

pub returns : goal.returns
returns c =
    pictures (tail_in c.args.self.now.packets.now) c.new-picture.result _ _ _ (shown c.args.views.now)
    c.new-picture.ensures c.in_ok-add_front.ensures c.in_ok-add_nodes.ensures
    (wrote_none c.add_nodes.new.svg c.put.new.self _ c.in_ok-put.ensures (λ rest. refl))
