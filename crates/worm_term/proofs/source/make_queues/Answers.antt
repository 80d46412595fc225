use Rattle.std.proofs.Common.{◌≡◌, ◌+◌, ◌++◌, ◌∷◌, ◌∙◌, [], ℕ, zero, suc, List, add-one, ap, arith, refl, replicate}
use Rattle.worm_term.specs.Queue.{QueueState, empty_queue}
use Rattle.worm_term.proofs.source.make_queues.Goals as goal

-- one more of the same
one_more : (n : ℕ) (q : QueueState) → replicate n q ++ q ∷ [] ≡ replicate (suc n) q
one_more zero q = refl
one_more (suc n) q = ap (λ (qs : List QueueState). q ∷ qs) (one_more n q)

-- the queues with one more that is empty
pushed : (n : ℕ) (queues now : List QueueState) (q : QueueState) → now ≡ queues ++ q ∷ [] → q ≡ empty_queue
    → queues ≡ replicate n empty_queue → now ≡ replicate (n + 1) empty_queue
pushed n queues now q more empty all = rw (more, empty, all, add-one) (one_more n empty_queue)

pub loop-i-preserved : goal.loop-i-preserved
loop-i-preserved c =
    pushed c.loop-i._i c.loop-i.queues.items _ c.new.result c.in_ok-push.ensures.items c.new.ensures c.loop-i.invariant

pub loop-i-init : goal.loop-i-init
loop-i-init c = c.in_ok-queues.ensures.items

pub returns : goal.returns
returns c =
    let all : c.loop-i._i ≡ c.args.count = omega (arith, c.loop-i-test.false, c.loop-i.auto._i-end) in
    c.loop-i.invariant ∙ ap (λ (n : ℕ). replicate n empty_queue) all
