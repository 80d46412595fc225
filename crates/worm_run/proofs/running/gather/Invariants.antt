use Rattle.std.proofs.Common.{◌≡◌, ◌≤◌, ◌++◌, length, vec_len, vec_capacity, map}
use Rattle.std.specs.Vec.Iter.{into_iter_items}
use Rattle.worm_run.specs.Runs.{ending_of, stops_of}
use Rattle.worm_run.specs.declared.working.Worked.{Worked}
use Rattle.worm_run.proofs.running.gather.Given as goal

abbrev pub invariant-loop-worked : goal.invariant-loop-worked
invariant-loop-worked l = record {
  count : l.worker ≡ length l.yielded;
  all : l.yielded ++ into_iter_items l.worked-iterator ≡ l.fn.done.items;
  parts : l.parts.items ≡ map (λ (w : Worked). w.part) l.yielded;
  ended : l.ended.items ≡ map (λ (w : Worked). w.ended) l.yielded;
  stops : l.stops.items ≡ stops_of 0 (map ending_of l.yielded);
  few_stops : vec_len l.stops ≤ length l.yielded;
  parts_room : vec_len l.fn.done ≤ vec_capacity l.parts;
  ended_room : vec_len l.fn.done ≤ vec_capacity l.ended;
  stops_room : vec_len l.fn.done ≤ vec_capacity l.stops;
}
