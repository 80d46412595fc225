-- Where all nodes are owned, each link has both ends among them.
use Rattle.std.proofs.Common.{◌≡◌, ℕ, ◌%◌, ◌==◌, true, Option, Some, None, ap, subst, sym}
use Rattle.std.proofs.Math.Nat.{mod-one}
use Rattle.std.specs.Prelude.{IfSome}
use Rattle.worm_router.specs.Router.{leaving}
use Rattle.worm_region.specs.Owned.{owned_by, sole}
use Rattle.worm_region.specs.State.{NetState, router_at, shape}
use Rattle.worm_region.specs.Workable.{EndsWithin, owned}
use Rattle.worm_region.specs.declared.owner.Owner.{Owner}

by_one : (x : ℕ) → (x % 1 == 0) ≡ true
by_one x = ap (λ (r : ℕ). r == 0) (mod-one x)

owns_all : (own : Owner) (x : ℕ) → own ≡ sole → owned_by own x ≡ true
owns_all own x whole = subst (λ (o : Owner). owned_by o x ≡ true) (sym whole) (by_one x)

pub all_within : (s : NetState) (x o : ℕ) → s.own ≡ sole → EndsWithin (shape s) (owned s) x o
all_within s x o whole = λ y linked. (owns_all s.own x whole, owns_all s.own y whole)

of_each : {A : Type 0} (P : A → Type 0) (o : Option A) → ((a : A) → P a) → IfSome o P
of_each P None each = tt
of_each P (Some a) each = each a

pub sends_within : (s : NetState) (x p v : ℕ) → s.own ≡ sole
    → IfSome (leaving (router_at s x) p v) (λ out. EndsWithin (shape s) (owned s) x out.0)
sends_within s x p v whole =
    of_each (λ out. EndsWithin (shape s) (owned s) x out.0) (leaving (router_at s x) p v)
    (λ out. all_within s x out.0 whole)
