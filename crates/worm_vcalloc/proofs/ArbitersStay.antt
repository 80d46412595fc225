-- The arbiters of an allocator keep their lines.
use Rattle.std.proofs.Common.{◌≡◌, ℕ, ◌*◌, ◌<◌, ◌≤◌, List, Option, None, Some, arith}
use Rattle.worm_vcalloc.specs.Arbiter.{ArbiterState, after_pick, no_arbiter}
use Rattle.worm_vcalloc.specs.Table.{cell, with_cell}
use Rattle.worm_vcalloc.proofs.TableCells.{cell-with_cell_keeps}

-- an allocator between passes: one to seven ports, one to eight channels, and each arbiter has a line for each input
-- channel
pub record IsVcAlloc (ports vcs : ℕ) (arbiters : List (List ArbiterState)) : Type 0 where
  pub some_port : 0 < ports
  pub few_ports : ports ≤ 7
  pub some_channel : 0 < vcs
  pub few_channels : vcs ≤ 8
  pub width : (i j : ℕ) → i < 7 → j < 8 → (cell arbiters i j no_arbiter).width ≡ ports * vcs
  pub pointer : (i j : ℕ) → i < 7 → j < 8 → (cell arbiters i j no_arbiter).pointer < ports * vcs

-- an arbiter of so many lines
pub record HasWidth (width : ℕ) (a : ArbiterState) : Type 0 where
  pub wide : a.width ≡ width
  pub within : a.pointer < width

pub HasWidth-after_pick : (width : ℕ) (a : ArbiterState) (line : Option ℕ) → HasWidth width a
    → HasWidth width (after_pick a line)
HasWidth-after_pick width a None h = h
HasWidth-after_pick width a (Some line) h = record {
  wide = h.wide;
  within = let wide : a.width ≡ width = h.wide in let within = h.within in rw wide (omega arith);
}

-- an allocator is one still where an arbiter of it has picked
pub IsVcAlloc-picked : (ports vcs : ℕ) (arbiters : List (List ArbiterState)) (out channel : ℕ)
    (old new : ArbiterState) (line : Option ℕ) → IsVcAlloc ports vcs arbiters → out < ports
    → channel < vcs → cell arbiters out channel no_arbiter ≡ old → new ≡ after_pick old line
    → IsVcAlloc ports vcs (with_cell arbiters out channel new)
IsVcAlloc-picked ports vcs arbiters out channel old new line v lo lc here moved = record {
  some_port = v.some_port;
  few_ports = v.few_ports;
  some_channel = v.some_channel;
  few_channels = v.few_channels;
  width = λ i j li lj. (all i j li lj).wide;
  pointer = λ i j li lj. (all i j li lj).within;
} where
  ready : (i j : ℕ) → i < 7 → j < 8 → HasWidth (ports * vcs) (cell arbiters i j no_arbiter)
  ready i j li lj = record { wide = v.width i j li lj; within = v.pointer i j li lj }

  all : (i j : ℕ) → i < 7 → j < 8
      → HasWidth (ports * vcs) (cell (with_cell arbiters out channel new) i j no_arbiter)
  all i j li lj =
      cell-with_cell_keeps (HasWidth (ports * vcs)) arbiters out channel i j new no_arbiter
      (rw (moved, ← here) (HasWidth-after_pick (ports * vcs) _ line
      (ready out channel (omega (arith, v.few_ports)) (omega (arith, v.few_channels)))))
      (ready i j li lj)
