use Rattle.worm_run.proofs.Gathering.{fits_in, grown_from, no_items}
use Rattle.worm_run.proofs.running.run_scoped.Goals as goal

pub run_parts-requires-clause-empty : goal.run_parts-requires-clause-empty
run_parts-requires-clause-empty g c κs within = c.requires.done.0

pub run_parts-requires-clause-room : goal.run_parts-requires-clause-room
run_parts-requires-clause-room g c κs within = c.requires.done.1

pub gather-requires-clause-parts : goal.gather-requires-clause-parts
gather-requires-clause-parts g c =
    let parts = c.run_parts.new.parts in
    let told = c.in_ok-run_parts.ensures in (
      no_items parts.items parts.len parts.ok.0 told.taken,
      grown_from _ _ _ _ told.all c.args.parts.ok.1 told.parts_room,
    )

pub gather-requires-clause-stops : goal.gather-requires-clause-stops
gather-requires-clause-stops g c =
    let stops = c.args.rooms.stops in (
      no_items stops.items stops.len stops.ok.0 c.requires.stops.0,
      fits_in _ _ _ c.in_ok-run_parts.ensures.all c.requires.stops.1,
    )

pub gather-requires-clause-ended : goal.gather-requires-clause-ended
gather-requires-clause-ended g c =
    let ended = c.args.rooms.ended in (
      no_items ended.items ended.len ended.ok.0 c.requires.ended.0,
      fits_in _ _ _ c.in_ok-run_parts.ensures.all c.requires.ended.1,
    )

pub returns-clause-ran : goal.returns-clause-ran
returns-clause-ran g c = record {
  done = c.run_parts.new.done.items;
  worked = c.in_ok-run_parts.ensures.worked;
  gives = c.gather.ensures;
}
