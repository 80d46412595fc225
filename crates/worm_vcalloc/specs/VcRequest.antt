-- What an input channel waits for (Dally and Towles, chapter 16).
use Rattle.std.specs.Prelude.{ℕ, ◌==◌, ◌&&◌, Bool, false, Option, Some, None}
use Rattle.std.specs.Int.{bit_at}
use Rattle.worm_vcalloc.specs.declared.request.VcRequest.{VcRequest}

-- a request for nothing, which stands in the row of a channel that has never waited
abbrev pub blank : VcRequest
blank = record { out = 0; allowed = 0 }

-- whether it is a channel of this output port
abbrev pub is_for : Option VcRequest → ℕ → Bool
is_for None out = false
is_for (Some r) out = r.out == out

-- whether a channel of this number will do
abbrev pub allows : Option VcRequest → ℕ → Bool
allows None channel = false
allows (Some r) channel = bit_at r.allowed channel == 1

-- whether this channel of this output port will do
abbrev pub may_use : Option VcRequest → ℕ → ℕ → Bool
may_use r out channel = is_for r out && allows r channel
