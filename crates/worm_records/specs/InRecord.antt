-- the two states in which an input channel has a packet routed (Dally and Towles, chapter 16)
use Rattle.std.specs.Prelude.{◌≡◌, ℕ}
use Rattle.worm_records.specs.declared.InRecord.{InRecord}
use Rattle.worm_records.specs.declared.InRecord.TheVariants.{Waiting, Active}

-- the record waits for a channel of some output port
abbrev pub IsWaiting : InRecord → Type 0
IsWaiting r = (out : ℕ) × (r ≡ Waiting out)

-- the record holds a channel of some output port
abbrev pub IsActive : InRecord → Type 0
IsActive r = (out : ℕ) × (out_vc : ℕ) × (r ≡ Active out out_vc)
