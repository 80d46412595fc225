-- Tables of plain rows beside the set of the channels that have something.
use Rattle.std.proofs.Common.{◌≡◌, ℕ, ◌<◌, if◌then◌else◌, Bool, true, false, List, [], length, slice_index_or}
use Rattle.std.proofs.Common.{Some, None, is_some, replicate, refl, ap, sym, ◌∙◌}
use Rattle.worm_vcalloc.specs.ChannelSet.{has, IsPut}
use Rattle.worm_vcalloc.specs.Table.{cell, with_cell, keyed_cell, keyed}
use Rattle.worm_vcalloc.proofs.SetMembers.{has-zero}
use Rattle.worm_vcalloc.proofs.TableCells.{cell-with_cell_here, cell-with_cell_other, cell-replicate, IsTable-replicate}
use Rattle.worm_vcalloc.proofs.TableRows.{same_tables, cell-table, IsTable-table, table-with_cell}

-- a channel has something where it is in the set
pub has-keyed : {X : Type 0} (blank : X) (keys : ℕ) (rows : List (List X)) (p v : ℕ) → p < 7 → v < 8
    → has keys p v ≡ is_some (cell (keyed blank keys rows) p v None)
has-keyed blank keys rows p v p_in v_in =
    by_test (has keys p v) (cell rows p v blank)
    ∙ sym (ap is_some (cell-table (keyed_cell blank keys rows) p v None p_in v_in))
  where
    by_test : {X : Type 0} (b : Bool) (x : X) → b ≡ is_some (if b then Some x else None)
    by_test true x = refl
    by_test false x = refl

-- and what it has is in its row
pub cell-keyed : {X : Type 0} (blank : X) (keys : ℕ) (rows : List (List X)) (p v : ℕ) → p < 7 → v < 8
    → is_some (cell (keyed blank keys rows) p v None) ≡ true
    → Some (cell rows p v blank) ≡ cell (keyed blank keys rows) p v None
cell-keyed blank keys rows p v p_in v_in some =
    sym (cell-table (keyed_cell blank keys rows) p v None p_in v_in
    ∙ ap (λ b. if b then Some (cell rows p v blank) else None) (has-keyed blank keys rows p v p_in v_in ∙ some))

-- one that is not in the set has nothing
pub cell-keyed_none : {X : Type 0} (blank : X) (keys : ℕ) (rows : List (List X)) (p v : ℕ) → p < 7 → v < 8
    → has keys p v ≡ false → None ≡ cell (keyed blank keys rows) p v None
cell-keyed_none blank keys rows p v p_in v_in none =
    sym (cell-table (keyed_cell blank keys rows) p v None p_in v_in
    ∙ ap (λ b. if b then Some (cell rows p v blank) else None) none)

-- a channel that is put into the set, with its row written
pub keyed_put : {X : Type 0} (blank : X) (keys keys' : ℕ) (rows : List (List X)) (port channel : ℕ) (x : X)
    → port < 7 → channel < 8 → port < length rows → channel < length (slice_index_or rows port [])
    → IsPut keys keys' port channel true
    → keyed blank keys' (with_cell rows port channel x) ≡ with_cell (keyed blank keys rows) port channel (Some x)
keyed_put blank keys keys' rows port channel x port_in channel_in high wide put =
    table-with_cell (keyed_cell blank keys rows) (keyed_cell blank keys' (with_cell rows port channel x)) port channel
    (Some x) None port_in channel_in
    (ap (λ b. if b then Some (cell (with_cell rows port channel x) port channel blank) else None) put.here
    ∙ ap Some (cell-with_cell_here rows port channel x blank high wide))
    (λ p v p_in v_in apart.
    ap (λ b. if b then Some (cell (with_cell rows port channel x) p v blank) else None)
    (put.elsewhere p v p_in v_in apart)
    ∙ ap (λ y. if has keys p v then Some y else None)
    (cell-with_cell_other rows port channel p v x blank apart))

-- one that is taken out of it
pub keyed_taken : {X : Type 0} (blank : X) (keys keys' : ℕ) (rows : List (List X)) (port channel : ℕ)
    → port < 7 → channel < 8 → IsPut keys keys' port channel false
    → keyed blank keys' rows ≡ with_cell (keyed blank keys rows) port channel None
keyed_taken blank keys keys' rows port channel port_in channel_in put =
    table-with_cell (keyed_cell blank keys rows) (keyed_cell blank keys' rows) port channel None None port_in channel_in
    (ap (λ b. if b then Some (cell rows port channel blank) else None) put.here)
    (λ p v p_in v_in apart.
    ap (λ b. if b then Some (cell rows p v blank) else None) (put.elsewhere p v p_in v_in apart))

-- the empty set
pub keyed_none : {X : Type 0} (blank : X) (keys : ℕ) (rows : List (List X)) → keys ≡ 0
    → keyed blank keys rows ≡ replicate 7 (replicate 8 None)
keyed_none blank keys rows empty =
    same_tables None (keyed blank keys rows) (replicate 7 (replicate 8 None))
    (IsTable-table (keyed_cell blank keys rows)) (IsTable-replicate None) (λ p v p_in v_in.
    sym (cell-keyed_none blank keys rows p v p_in v_in (ap (λ s. has s p v) empty ∙ has-zero p v))
    ∙ sym (cell-replicate 7 8 p v None))
