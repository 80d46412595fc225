-- What a pass of the channel allocator goes over, which a router keeps as it comes (Dally and Towles, chapter 19).
use Rattle.std.specs.Prelude.{ℕ, ◌≡◌, List, Bool, true, false, Option, None}
use Rattle.worm_vcalloc.specs.declared.request.VcRequest.{VcRequest}
use Rattle.worm_vcalloc.specs.VcRequest.{may_use}
use Rattle.worm_vcalloc.specs.Table.{cell}
use Rattle.worm_router.specs.Router.{RouterState}
use Rattle.worm_router.specs.Allocation.{requests, free_channels}

-- what the input channels ask for, and which output channels are free, by port, then channel
pub record DemandView : Type 0 where
  pub requests : List (List (Option VcRequest))
  pub free : List (List Bool)

-- a pass grants nothing: no request is for a free output channel
abbrev pub GrantsNothing : List (List (Option VcRequest)) → List (List Bool) → Type 0
GrantsNothing asked free = (out channel p v : ℕ) → cell free out channel false ≡ true
    → may_use (cell asked p v None) out channel ≡ false

-- what is kept of a router is what its records say
pub record IsDemandOf (r : RouterState) (d : DemandView) : Type 0 where
  pub requests : d.requests ≡ requests r
  pub free : d.free ≡ free_channels r
