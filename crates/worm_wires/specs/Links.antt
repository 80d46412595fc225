-- What a contract sees of a link (Dally and Towles, chapters 5 and 13).
use Rattle.std.specs.Prelude.{ℕ, List, []}
use Rattle.worm_flit.specs.declared.Flit.{Flit}

-- its flits and its credits, front first, and how many of each fit without growing
pub record LinkView : Type 0 where
  pub flits : List Flit
  pub credits : List ℕ
  pub room : ℕ

abbrev pub blank_link : LinkView
blank_link = record { flits = []; credits = []; room = 0 }

abbrev pub empty_link : ℕ → LinkView
empty_link room = record { flits = []; credits = []; room = room }
