use Rattle.std.proofs.Common.{◌≡◌, ◌≤◌, ◌+◌, [], length, map}
use Rattle.std.specs.BTreeSet.{contains}
use Rattle.worm_flit.specs.declared.Lane.{Lane}
use Rattle.worm_text.specs.Lines.{cut, newline}
use Rattle.worm_text.specs.Network.{view}
use Rattle.worm_text.specs.Traffic.{read_entries, entry_view, last_turn, is_closed, lane_cmp}
use Rattle.worm_text.proofs.TrafficPieces.{AreRead}
use Rattle.worm_text.proofs.traffic.read_entries.Given as goal

abbrev pub decreases-loop-front : goal.decreases-loop-front
decreases-loop-front l = length l.rest

abbrev pub invariant-loop-front : goal.invariant-loop-front
invariant-loop-front l = record {
  read : read_entries (view l.config) (map entry_view l.script) l.line (cut newline l.rest)
      ≡ read_entries (view l.config) [] 2 (cut newline l.fn.rest);
  last : l.last ≡ last_turn (map entry_view l.script);
  closed : (lane : Lane) → contains lane_cmp l.closed.lanes lane ≡ is_closed (map entry_view l.script) lane;
  count : l.line ≡ length l.script + 2;
  few : length l.script ≤ 10000;
  read_so_far : AreRead (view l.config) (map entry_view l.script) (cut newline l.fn.rest) l.rest;
}
