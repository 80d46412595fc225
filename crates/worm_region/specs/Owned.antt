-- Which nodes of a network a worker owns: those whose number leaves the worker's own when divided by the number of
-- workers.
use Rattle.std.specs.Prelude.{ℕ, ◌%◌, ◌==◌, Bool}
use Rattle.worm_region.specs.declared.owner.Owner.{Owner}

-- whether the worker owns the node
abbrev pub owned_by : Owner → ℕ → Bool
owned_by own x = x % own.workers == own.worker

-- one worker, who owns them all
abbrev pub sole : Owner
sole = record { worker = 0; workers = 1 }
