use Rattle.std.proofs.Common.{[]}
use Rattle.worm_picture.proofs.Names.{adds, arrival}
use Rattle.worm_picture.proofs.counts.add_delivery.Goals as goal

pub returns-in-Delivered : goal.returns-in-Delivered
returns-in-Delivered c =
    adds c.write.result c.args.svg.now (record { text = c.write.new.self }) _ [] c.write.ensures.bytes
    (arrival _ _ _ _)
