use Rattle.worm_alone.proofs.CutBehindEnd.{IsWalked}
use Rattle.worm_alone.proofs.joined.network_end.Given as goal

abbrev pub invariant-loop-at : goal.invariant-loop-at
invariant-loop-at l = IsWalked l.text l.start l.at
