-- Networks that have the same node at a place have the same there of all that is the node's.
use Rattle.std.proofs.Common.{◌≡◌, ℕ, drop, sym, ap, subst, ◌∙◌}
use Rattle.worm_records.specs.declared.InRecord.{InRecord}
use Rattle.worm_records.specs.declared.InRecord.TheVariants.{Idle, Waiting, Active}
use Rattle.worm_term.specs.Source.{queue_at}
use Rattle.worm_theory.specs.Network.{Network}
use Rattle.worm_theory.specs.Shape.{Shape}
use Rattle.worm_region.specs.State.{NetState, input_of, network_of, node_at, output_of}
use Rattle.worm_region.specs.Workable.{LeadsOn}
use Rattle.worm_node.specs.declared.node.Node.{Node}

pub record SameAt (a b : Network) (x : ℕ) : Type 0 where
  pub buffer : (p v : ℕ) → a.buffer x p v ≡ b.buffer x p v
  pub in_record : (p v : ℕ) → a.in_record x p v ≡ b.in_record x p v
  pub last_out : (p v : ℕ) → a.last_out x p v ≡ b.last_out x p v
  pub owed : (p v : ℕ) → a.owed x p v ≡ b.owed x p v
  pub holder : (o c : ℕ) → a.holder x o c ≡ b.holder x o c
  pub credits : (o c : ℕ) → a.credits x o c ≡ b.credits x o c
  pub injected : (k : ℕ) → a.injected x k ≡ b.injected x k
  pub unfed : (k : ℕ) → a.unfed x k ≡ b.unfed x k

pub same_at : (a b : NetState) (x : ℕ) → node_at a x ≡ node_at b x → SameAt (network_of a) (network_of b) x
unfolding network_of
same_at a b x e = record {
  buffer = λ p v. ap (λ (n : Node). (input_of n.router p v).buffer) e;
  in_record = λ p v. ap (λ (n : Node). (input_of n.router p v).state) e;
  last_out = λ p v. ap (λ (n : Node). (input_of n.router p v).last_out) e;
  owed = λ p v. ap (λ (n : Node). (input_of n.router p v).owed) e;
  holder = λ o c. ap (λ (n : Node). (output_of n.router o c).holder) e;
  credits = λ o c. ap (λ (n : Node). (output_of n.router o c).credits) e;
  injected = λ k. ap (λ (n : Node). (queue_at n.source k).injected) e;
  unfed = λ k. ap (λ (n : Node). drop (queue_at n.source k).fed (queue_at n.source k).injected) e;
}

-- where a record leads is the node's
leads_same : (s : Shape) (a b : Network) (x p v : ℕ) (r : InRecord) → ((o c : ℕ) → a.holder x o c ≡ b.holder x o c)
    → LeadsOn s b x p v r → LeadsOn s a x p v r
leads_same s a b x p v Idle same leads = tt
leads_same s a b x p v (Waiting o) same leads = leads
leads_same s a b x p v (Active o c) same leads = (leads.0, leads.1, same o c ∙ leads.2)

pub leads_at : (s : Shape) (a b : Network) (x p v : ℕ) → SameAt a b x → LeadsOn s b x p v (b.in_record x p v)
    → LeadsOn s a x p v (a.in_record x p v)
leads_at s a b x p v same leads =
    subst (λ (r : InRecord). LeadsOn s a x p v r) (sym (same.in_record p v)) (leads_same s a b x p v
    (b.in_record x p v) same.holder leads)
