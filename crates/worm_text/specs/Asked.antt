-- What an entry line asks for, whose packet's words stand beside it: where there is none, the lane is to be closed.
use Rattle.std.specs.Prelude.{ℕ, List, [], ◌∷◌}
use Rattle.worm_text.specs.Traffic.{Said, send, close}
use Rattle.worm_text.specs.declared.traffic.Asked.{Asked}

abbrev pub said_by : Asked → List ℕ → Said
said_by asked [] = close asked.turn asked.lane
said_by asked (w ∷ ws) = send asked.turn asked.lane (w ∷ ws)
