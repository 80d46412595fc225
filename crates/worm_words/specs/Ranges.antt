-- The range of the program's options.
use Rattle.std.specs.Prelude.{◌≤◌}
use Rattle.worm_words.specs.declared.words.Options.{Options}

-- the options are in the program's range
pub record InRange (o : Options) : Type 0 where
  pub turns : o.turns ≤ 1000000
  pub some_worker : 1 ≤ o.workers
  pub few_workers : o.workers ≤ 16
  pub drain : o.drain ≤ 1000000
