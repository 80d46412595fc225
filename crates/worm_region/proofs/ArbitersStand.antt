-- No step moves an arbiter of any router.
use Rattle.std.proofs.Common.{◌≡◌, ℕ, zero, suc, ◌*◌, ◌==◌, Bool, true, false, List, [], ◌∷◌, length, Ok, Err, Option}
use Rattle.std.proofs.Common.{Some, None, refl, ap, sym, subst}
use Rattle.std.specs.Prelude.{Result, slice_index_or, slice_set}
use Rattle.worm_flit.specs.declared.Flit.{Flit}
use Rattle.worm_router.specs.Router.{RouterState, can_grant, leaving, after_leaving, after_granting}
use Rattle.worm_term.specs.Source.{front_of}
use Rattle.worm_theory.specs.Steps.{Step, Offer, CloseLane, Feed, Route, Grant, Send, Take, GiveCredit, TakeCredit}
use Rattle.worm_swalloc.specs.SwAlloc.{SwAllocState}
use Rattle.worm_vcalloc.specs.VcAlloc.{VcAllocState}
use Rattle.worm_node.specs.declared.node.Node.{Node}
use Rattle.worm_region.specs.declared.step.Moved.{Moved}
use Rattle.worm_region.specs.declared.step.Moved.TheVariants.{Done, Idle}
use Rattle.worm_region.specs.declared.fault.StepFault.{StepFault}
use Rattle.worm_region.specs.declared.fault.StepFault.TheVariants.{NoSuchPlace, Refused, NoMemory}
use Rattle.worm_region.specs.State.{NetState, node_at, router_at, with_node}
use Rattle.worm_node.specs.Node.{fed_node}
use Rattle.worm_region.specs.Moves.{done_step, link_into, front_into, front_credit, after_take, after_getting}
use Rattle.worm_region.specs.Moves.{after_ready, after_sending}
use Rattle.worm_region.specs.Answers.{Answers, ArbitersStand}

-- what is read of a list after a write that reads the same
pub read_over : {A B : Type 0} (read : A → B) (xs : List A) (i j : ℕ) (x d e : A)
    → read x ≡ read (slice_index_or xs i e)
    → read (slice_index_or (slice_set xs i x) j d) ≡ read (slice_index_or xs j d)
read_over read [] i j x d e same = refl
read_over read (y ∷ ys) zero zero x d e same = same
read_over read (y ∷ ys) zero (suc j) x d e same = refl
read_over read (y ∷ ys) (suc i) zero x d e same = refl
read_over read (y ∷ ys) (suc i) (suc j) x d e same = read_over read ys i j x d e same

-- the arbiters of a node
abbrev arbiters : Node → VcAllocState × SwAllocState
arbiters n = (n.router.channel_alloc, n.router.switch_alloc)

node_stands : (s : NetState) (x : ℕ) (n : Node) → arbiters n ≡ arbiters (node_at s x)
    → ArbitersStand s (with_node s x n)
node_stands s x n same = λ y.
    let at = read_over arbiters s.nodes x y n _ _ same in
    (ap (λ (a : VcAllocState × SwAllocState). a.0) at, ap (λ (a : VcAllocState × SwAllocState). a.1) at)

feed_stands : (s : NetState) (x k : ℕ) (f : Option Flit) → ArbitersStand s (with_node s x (fed_node (node_at s x) k f))
feed_stands s x k None = node_stands s x (node_at s x) refl
feed_stands s x k (Some f) = node_stands s x _ refl

grant_stands : (s : NetState) (x p v c : ℕ) (o : Option ℕ)
    → ArbitersStand s (with_node s x (record (node_at s x) { router = after_granting (router_at s x) p v c o }))
grant_stands s x p v c None = node_stands s x _ refl
grant_stands s x p v c (Some o) = node_stands s x _ refl

abbrev allocators : RouterState → VcAllocState × SwAllocState
allocators r = (r.channel_alloc, r.switch_alloc)

leave_same : (r : RouterState) (p v : ℕ) (d : Option (ℕ × Flit)) → allocators (after_leaving r p v d) ≡ allocators r
leave_same r p v None = refl
leave_same r p v (Some d) = refl

send_by : (s : NetState) (x p v : ℕ) (d : ℕ × Flit) (home : Bool) → (d.0 == 2 * length s.mesh) ≡ home
    → ArbitersStand s (after_sending s x p v d)
send_by s x p v d true e = rw e (node_stands s x _ (leave_same (router_at s x) p v (leaving (router_at s x) p v)))
send_by s x p v d false e = rw e (node_stands s x _ (leave_same (router_at s x) p v (leaving (router_at s x) p v)))

send_stands : (s : NetState) (x p v : ℕ) (d : Option (ℕ × Flit)) → ArbitersStand s (after_ready s x p v d)
send_stands s x p v None = λ y. (refl, refl)
send_stands s x p v (Some d) = send_by s x p v d (d.0 == 2 * length s.mesh) refl

take_stands : (s : NetState) (x p k : ℕ) (f : Option Flit) → ArbitersStand s (after_take s x p k f)
take_stands s x p k None = λ y. (refl, refl)
take_stands s x p k (Some f) = node_stands s x _ refl

get_stands : (s : NetState) (x o : ℕ) (c : Option ℕ) → ArbitersStand s (after_getting s x o c)
get_stands s x o None = λ y. (refl, refl)
get_stands s x o (Some c) = node_stands s x _ refl

step_stands : (s : NetState) (step : Step) → ArbitersStand s (done_step s step)
step_stands s (Offer x lane words) = node_stands s x _ refl
step_stands s (CloseLane x lane) = node_stands s x _ refl
step_stands s (Feed x k) = feed_stands s x k (front_of (node_at s x).source k)
step_stands s (Route x p v) = node_stands s x _ refl
step_stands s (Grant x p v c) = grant_stands s x p v c (can_grant (router_at s x) p v c)
step_stands s (Send x p v) = send_stands s x p v (leaving (router_at s x) p v)
step_stands s (Take x p) = take_stands s x p (link_into s x p) (front_into s x p)
step_stands s (GiveCredit x p v) = node_stands s x _ refl
step_stands s (TakeCredit x o) = get_stands s x o (front_credit s x o)

pub same_stands : (old new : NetState) → new ≡ old → ArbitersStand old new
same_stands old new same = subst (λ (s : NetState). ArbitersStand old s) (sym same) (λ y. (refl, refl))

-- whatever a step was answered
pub arbiters_stand : (old new : NetState) (step : Step) (answer : Result Moved StepFault) → Answers old step answer new
    → ArbitersStand old new
arbiters_stand old new step (Ok Done) a =
    subst (λ (s : NetState). ArbitersStand old s) (sym a.exact) (step_stands old step)
arbiters_stand old new step (Ok Idle) a = same_stands old new a.3
arbiters_stand old new step (Err NoSuchPlace) a = same_stands old new a.1
arbiters_stand old new step (Err (Refused fault)) a = same_stands old new a.3
arbiters_stand old new step (Err NoMemory) a = same_stands old new a.3
