use Rattle.std.proofs.Common.{◌≡◌, ◌+◌, ◌++◌, ◌∷◌, [], length, map, ap, sym, ◌∙◌, refl, length-append, append_assoc}
use Rattle.std.specs.Vec.Iter.{into_iter_items}
use Rattle.std.proofs.lemmas.List.{length-map, map_push}
use Rattle.worm_run.specs.Working.{stop_of}
use Rattle.worm_run.specs.Runs.{Ending, ending_of, stops_of}
use Rattle.worm_run.specs.declared.working.Worked.{Worked}
use Rattle.worm_run.proofs.Workers.{stops_of-snoc}
use Rattle.worm_run.proofs.Gathering.{all_came, fewer, from_none, grown, has_room, has_stop_room}
use Rattle.worm_run.proofs.Gathering.{less, next_fits, none_of_none, one_more}
use Rattle.worm_run.proofs.running.gather.Goals as goal

pub loop-worked-preserved : goal.loop-worked-preserved
loop-worked-preserved c =
    let inv = c.loop-worked.invariant in
    let so_far = c.loop-worked.yielded in
    let w = c.in-Some.worked in
    let more : length (so_far ++ w ∷ []) ≡ length so_far + 1 = length-append so_far (w ∷ []) in
    let count : length (map ending_of so_far) ≡ length so_far = length-map so_far ending_of in
    let endings : map ending_of (so_far ++ w ∷ []) ≡ map ending_of so_far ++ ending_of w ∷ [] =
    map_push ending_of so_far w in
    record {
      count = ap (λ n. n + 1) inv.count ∙ sym more;
      all = append_assoc so_far (w ∷ []) (into_iter_items c.next.new.self)
          ∙ (ap (λ l. so_far ++ l) (sym c.in-Some.ensures.steps.0) ∙ inv.all);
      parts = c.put.ensures.items ∙ (ap (λ l. l ++ w.part ∷ []) inv.parts
          ∙ sym (map_push (λ (v : Worked). v.part) so_far w));
      ended = c.put-in-loop-worked.ensures.items
          ∙ (ap (λ l. l ++ w.ended ∷ []) inv.ended ∙ sym (map_push (λ (v : Worked). v.ended) so_far w));
      stops = c.put_stop.ensures.items
          ∙ (ap (λ l. l ++ stop_of c.loop-worked.worker w.ended w.stop) inv.stops
          ∙ (sym (stops_of-snoc 0 c.loop-worked.worker (map ending_of so_far) (ending_of w)
          (from_none _ _ _ inv.count count))
          ∙ ap (λ (es : mathlib.Core.List.List Ending). stops_of 0 es) (sym endings)));
      few_stops = one_more _ _ _ _ c.put_stop.ensures.len inv.few_stops more;
      parts_room = grown _ _ _ inv.parts_room c.put.ensures.room;
      ended_room = grown _ _ _ inv.ended_room c.put-in-loop-worked.ensures.room;
      stops_room = grown _ _ _ inv.stops_room c.put_stop.ensures.room;
    }

pub loop-worked-init : goal.loop-worked-init
loop-worked-init c = record {
  count = refl;
  all = c.into_iter-worked-iterator.ensures.into_iter_gives.0;
  parts = c.requires.parts.0;
  ended = c.requires.ended.0;
  stops = c.requires.stops.0;
  few_stops = none_of_none c.args.stops.items c.args.stops.len c.args.stops.ok.0 c.requires.stops.0;
  parts_room = c.requires.parts.1;
  ended_room = c.requires.ended.1;
  stops_room = c.requires.stops.1;
}

pub put-requires : goal.put-requires
put-requires c =
    let inv = c.loop-worked.invariant in
    let few = fewer c.loop-worked.yielded _ _ _ c.in-Some.worked inv.all c.in-Some.ensures.steps.0 in
    has_room (λ (w : Worked). w.part) c.loop-worked.yielded _ _ _ _ _ c.loop-worked.parts.ok.0 inv.parts few
    c.args.done.ok.0 inv.parts_room

pub put-requires-in-loop-worked : goal.put-requires-in-loop-worked
put-requires-in-loop-worked c =
    let inv = c.loop-worked.invariant in
    let few = fewer c.loop-worked.yielded _ _ _ c.in-Some.worked inv.all c.in-Some.ensures.steps.0 in
    has_room (λ (w : Worked). w.ended) c.loop-worked.yielded _ _ _ _ _ c.loop-worked.ended.ok.0 inv.ended few
    c.args.done.ok.0 inv.ended_room

pub put_stop-requires : goal.put_stop-requires
put_stop-requires c =
    let inv = c.loop-worked.invariant in
    let few = fewer c.loop-worked.yielded _ _ _ c.in-Some.worked inv.all c.in-Some.ensures.steps.0 in
    has_stop_room _ _ _ _ _ inv.few_stops few c.args.done.ok.0 inv.stops_room

pub overflow_add-worker : goal.overflow_add-worker
overflow_add-worker c =
    let inv = c.loop-worked.invariant in
    let few = fewer c.loop-worked.yielded _ _ _ c.in-Some.worked inv.all c.in-Some.ensures.steps.0 in
    next_fits _ _ _ _ _ inv.count few c.args.done.ok.0 c.args.done.ok.1 c.args.done.small

pub loop-worked-smaller : goal.loop-worked-smaller
loop-worked-smaller c = less _ _ c.in-Some.ensures.steps.1

pub returns : goal.returns
returns c =
    let inv = c.loop-worked.invariant in
    let all = all_came c.loop-worked.yielded _ _ _ inv.all c.loop-worked.worked-iterator.rest.ok.0
    c.in-None.ensures.steps.0 in
    record {
      parts = inv.parts ∙ ap (λ l. map (λ (w : Worked). w.part) l) all;
      stops = inv.stops ∙ ap (λ l. stops_of 0 (map ending_of l)) all;
      ended = inv.ended ∙ ap (λ l. map (λ (w : Worked). w.ended) l) all;
    }
