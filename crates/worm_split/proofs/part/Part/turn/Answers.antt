use Rattle.std.proofs.Common.{Some, ap}
use Rattle.worm_script.specs.Script.{due}
use Rattle.worm_split.proofs.Placed.{turn_place}
use Rattle.worm_split.proofs.part.Part.turn.Goals as goal

pub stopped_by-requires : goal.stopped_by-requires
stopped_by-requires g c = λ is.
    turn_place (due c.args.turn c.args.script.now) c.args.self.now c.take_turn.new.self (Some c.in-Err.fault)
    c.in-Err.ensures.exact (ap Some is)
