-- Which classes have a flit that was not fed, after a change of one.
use Rattle.std.proofs.Common.{ℕ, zero, suc, refl, ◌≡◌, ◌<◌, Bool, true, false, List, length, slice_index_or, slice_set}
use Rattle.std.proofs.Common.{replicate, inl, inr, ap, sym, ◌∙◌}
use Rattle.std.specs.Prelude.{Option, Some, None, IsSome, is_some, OnOk, Result, Ok, Err}
use Rattle.std.specs.Result.{is_err}
use Rattle.std.proofs.lemmas.Bool.{cases_eq}
use Rattle.std.proofs.lemmas.List.{get_or-set_same, get_or-set_other}
use Rattle.worm_flit.specs.SmallSet.{IsPut}
use Rattle.worm_flit.proofs.SmallSets.{has_none}
use Rattle.worm_term.specs.Queue.{QueueState, empty_queue, waiting}
use Rattle.worm_term.specs.Source.{AreUnfed}

pub is_some_of : {A : Type 0} (o : Option A) → IsSome o → true ≡ is_some o
is_some_of (Some a) some = cc
is_some_of None some = absurd (cc)

same_all_through : {A : Type 0} (n i : ℕ) (a : A) → slice_index_or (replicate n a) i a ≡ a
same_all_through zero i a = refl
same_all_through (suc n) zero a = refl
same_all_through (suc n) (suc i) a = same_all_through n i a

-- at first no class has one
pub none_unfed : (count : ℕ) → AreUnfed (replicate count empty_queue) 0
none_unfed count = λ class few.
    has_none 0 class refl
    ∙ sym (ap (λ (q : QueueState). is_some (waiting q)) (same_all_through count class empty_queue))

-- a class is put into the set, or taken out, as its queue has one
pub put_unfed : (queues : List QueueState) (old new i class : ℕ) (q : QueueState) (within : Bool)
    → AreUnfed queues old → i ≡ class → class < length queues → IsPut old new class within
    → within ≡ is_some (waiting q) → AreUnfed (slice_set queues i q) new
put_unfed queues old new i class q within known at_i there put is = λ k few. elim (cases_eq k class) [
  | inl here ↦ rw (here, at_i, get_or-set_same queues class q empty_queue there) (put.here ∙ is)
  | inr away ↦
      rw (at_i, get_or-set_other queues class k q empty_queue away) (put.elsewhere k few away ∙ known k few)
]

-- what an answer that is no error says
pub not_err : {T E : Type 0} (r : Result T E) (P : Type 0) → OnOk r P → is_err r ≡ false → P
not_err (Ok v) P holds is = holds
not_err (Err e) P holds is = absurd (cc)
