use Rattle.std.proofs.Common.{[]}
use Rattle.worm_picture.proofs.Names.{adds, last_number, number}
use Rattle.worm_picture.proofs.legend.add_option.Goals as goal

pub returns-in-Options : goal.returns-in-Options
returns-in-Options c =
    adds c.write.result c.args.svg.now (record { text = c.write.new.self }) _ [] c.write.ensures.bytes
    (number _ _ [] (number _ _ [] (last_number _)))

pub returns-in-Stopped : goal.returns-in-Stopped
returns-in-Stopped c =
    adds c.write-in-Stopped.result c.args.svg.now (record { text = c.write-in-Stopped.new.self }) _ []
    c.write-in-Stopped.ensures.bytes
    (number _ _ [] (last_number _))
