-- The arbiters of an allocator, by the places that they ask last.
use Rattle.std.proofs.Common.{◌≡◌, ℕ, ◌+◌, ◌*◌, ◌/◌, ◌%◌, ◌<◌, List, [], map, slice_index_or}
use Rattle.std.proofs.Common.{slice_set, Some, sym, ap, ◌∙◌, subst, arith}
use Rattle.std.specs.List.{All}
use Rattle.std.proofs.Math.ListN as listn
use Rattle.std.proofs.Math.Nat.{mod-lt}
use Rattle.std.proofs.lemmas.List.{get_or-map, map-set}
use Rattle.std.proofs.lemmas.List.Elements.{All-get_or, All-set}
use Rattle.worm_vcalloc.specs.Arbiter.{ArbiterState, after_pick, asking_last, no_arbiter}
use Rattle.worm_vcalloc.specs.Places.{arbiter_at, arbiters_at, line_of, IsPlace, IsPlaced}
use Rattle.worm_vcalloc.specs.Table.{cell, with_cell}
use Rattle.worm_vcalloc.proofs.ArbitersStay.{IsVcAlloc}
use Rattle.worm_vcalloc.proofs.Lines.{line_of_place, line_within}
use Rattle.worm_vcalloc.proofs.TableCells.{IsTable-with_cell}

-- a row of them
row_at : (ports vcs : ℕ) (places : List (List ℕ)) (out : ℕ)
    → slice_index_or (arbiters_at ports vcs places) out []
    ≡ map (arbiter_at ports vcs) (slice_index_or places out [])
row_at ports vcs places out = listn.get_or-map (map (arbiter_at ports vcs)) places out []

-- one of them
pub cell_at : (ports vcs : ℕ) (places : List (List ℕ)) (out channel : ℕ) → IsPlaced ports vcs places
    → out < 7 → channel < 8
    → cell (arbiters_at ports vcs places) out channel no_arbiter
    ≡ arbiter_at ports vcs (cell places out channel 0)
cell_at ports vcs places out channel h lo lc =
    ap (λ (row : List ArbiterState). slice_index_or row channel no_arbiter) (row_at ports vcs places out)
    ∙ get_or-map (arbiter_at ports vcs) (slice_index_or places out []) channel 0 no_arbiter
    (omega (arith, h.shape.columns out lo))

-- and its place
pub place_in : (ports vcs : ℕ) (places : List (List ℕ)) (out channel : ℕ) → IsPlaced ports vcs places
    → out < 7 → channel < 8 → IsPlace ports vcs (cell places out channel 0)
place_in ports vcs places out channel h lo lc =
    All-get_or (IsPlace ports vcs) (slice_index_or places out []) channel 0
    (omega (arith, h.shape.columns out lo))
    (All-get_or (All (IsPlace ports vcs)) places out [] (omega (arith, h.shape.rows)) h.each)

-- each has a line for each input channel
pub IsVcAlloc-placed : (ports vcs : ℕ) (places : List (List ℕ)) → IsPlaced ports vcs places
    → IsVcAlloc ports vcs (arbiters_at ports vcs places)
IsVcAlloc-placed ports vcs places h = record {
  some_port = h.some_port;
  few_ports = h.few_ports;
  some_channel = h.some_channel;
  few_channels = h.few_channels;
  width = λ i j li lj. ap (λ (a : ArbiterState). a.width) (cell_at ports vcs places i j h li lj);
  pointer = λ i j li lj.
      let here = place_in ports vcs places i j h li lj in
      subst (λ (a : ArbiterState). a.pointer < ports * vcs) (sym (cell_at ports vcs places i j h li lj))
      (let line = line_within ports vcs (cell places i j 0 / 8) (cell places i j 0 % 8) here.port_in
      here.channel_in in
      mod-lt (line_of vcs (cell places i j 0) + 1) (omega arith));
}

-- ---- one arbiter picks

pub IsPlaced-moved : (ports vcs : ℕ) (places : List (List ℕ)) (out channel next : ℕ)
    → IsPlaced ports vcs places → out < 7 → IsPlace ports vcs next
    → IsPlaced ports vcs (with_cell places out channel next)
IsPlaced-moved ports vcs places out channel next h lo here = record {
  some_port = h.some_port;
  few_ports = h.few_ports;
  some_channel = h.some_channel;
  few_channels = h.few_channels;
  shape = IsTable-with_cell places out channel next h.shape;
  each = All-set (All (IsPlace ports vcs)) places out (slice_set (slice_index_or places out []) channel next)
      (All-set (IsPlace ports vcs) (slice_index_or places out []) channel next here
      (All-get_or (All (IsPlace ports vcs)) places out [] (omega (arith, h.shape.rows)) h.each))
      h.each;
}

pub arbiters_at_moved : (ports vcs : ℕ) (places : List (List ℕ)) (out channel next : ℕ)
    → arbiters_at ports vcs (with_cell places out channel next)
    ≡ with_cell (arbiters_at ports vcs places) out channel (arbiter_at ports vcs next)
arbiters_at_moved ports vcs places out channel next =
    map-set (map (arbiter_at ports vcs)) places out (slice_set (slice_index_or places out []) channel next)
    ∙ ap (slice_set (arbiters_at ports vcs places) out)
    (map-set (arbiter_at ports vcs) (slice_index_or places out []) channel next
    ∙ ap (λ (row : List ArbiterState). slice_set row channel (arbiter_at ports vcs next))
    (sym (row_at ports vcs places out)))

-- the arbiter that asks the winner last stands one past it
pub arbiter_after : (ports vcs place port vc : ℕ) → vc < 8
    → arbiter_at ports vcs (8 * port + vc)
    ≡ after_pick (arbiter_at ports vcs place) (Some (port * vcs + vc))
arbiter_after ports vcs place port vc within =
    ap (asking_last (ports * vcs)) (line_of_place vcs port vc within)
