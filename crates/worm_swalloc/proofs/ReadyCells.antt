-- The cells of the channels that may send.
use Rattle.std.proofs.Common.{◌≡◌, ℕ, ◌<◌, if◌then◌else◌, Bool, true, false, List, Option, Some, None, is_some}
use Rattle.std.proofs.Common.{ap, ◌∙◌, sym, refl}
use Rattle.std.proofs.lemmas.Bool.{true≢false}
use Rattle.worm_vcalloc.specs.ChannelSet.{has}
use Rattle.worm_vcalloc.specs.Table.{IsTable, cell, table}
use Rattle.worm_swalloc.specs.Ready.{HaveOuts, ready_at}
use Rattle.worm_vcalloc.proofs.TableRows.{cell-table, same_tables, IsTable-table}

-- the channels of the set are those that have a cell
pub keys_are : (outs : List (List (Option ℕ))) (among p v : ℕ) → HaveOuts outs among → p < 7 → v < 8
    → has among p v ≡ is_some (cell (table (ready_at outs among)) p v None)
keys_are outs among p v have p_in v_in =
    by_test (has among p v) (cell outs p v None) (have p v p_in v_in)
    ∙ sym (ap is_some (cell-table (ready_at outs among) p v None p_in v_in))
  where
    by_test : (b : Bool) (x : Option ℕ) → (b ≡ true → is_some x ≡ true) → b ≡ is_some (if b then x else None)
    by_test true x some = sym (some refl)
    by_test false x some = refl

-- a channel that has a cell has that of the map
pub cell_is_out : (outs : List (List (Option ℕ))) (among p v : ℕ) → p < 7 → v < 8
    → is_some (cell (table (ready_at outs among)) p v None) ≡ true
    → cell outs p v None ≡ cell (table (ready_at outs among)) p v None
cell_is_out outs among p v p_in v_in within =
    by_test (has among p v) (cell outs p v None) (sym (ap is_some at) ∙ within) ∙ sym at
  where
    at : cell (table (ready_at outs among)) p v None ≡ ready_at outs among p v
    at = cell-table (ready_at outs among) p v None p_in v_in

    by_test : (b : Bool) (x : Option ℕ) → is_some (if b then x else None) ≡ true → x ≡ (if b then x else None)
    by_test true x some = refl
    by_test false x some = absurd (true≢false (sym some))

-- where the set has each channel that has an output port, the channels that may send are those of the map
pub all_ready : (outs : List (List (Option ℕ))) (among : ℕ) → IsTable outs
    → ((p v : ℕ) → p < 7 → v < 8 → has among p v ≡ is_some (cell outs p v None))
    → table (ready_at outs among) ≡ outs
all_ready outs among shape all =
    same_tables None (table (ready_at outs among)) outs (IsTable-table (ready_at outs among)) shape (λ p v p_in v_in.
    cell-table (ready_at outs among) p v None p_in v_in
    ∙ by_test (has among p v) (cell outs p v None) (all p v p_in v_in))
  where
    by_test : (b : Bool) (x : Option ℕ) → b ≡ is_some x → (if b then x else None) ≡ x
    by_test true x some = refl
    by_test false None some = refl
    by_test false (Some out) some = absurd (true≢false (sym some))
