-- What a contract sees of the flits of one class (Dally and Towles, chapters 12 and 13).
use Rattle.std.specs.Prelude.{ℕ, ◌+◌, List, [], ◌++◌, Option, slice_get}
use Rattle.worm_flit.specs.declared.Flit.{Flit}

-- all flits that the source accepted, and how many of them were fed
pub record QueueState : Type 0 where
  pub injected : List Flit
  pub fed : ℕ

abbrev pub empty_queue : QueueState
empty_queue = record { injected = []; fed = 0 }

abbrev pub appended : QueueState → List Flit → QueueState
appended q fs = record q { injected = q.injected ++ fs }

-- the first flit that is not fed
abbrev pub waiting : QueueState → Option Flit
waiting q = slice_get q.injected q.fed

abbrev pub one_fed : QueueState → QueueState
one_fed q = record q { fed = q.fed + 1 }
