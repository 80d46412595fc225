-- A network as functions of its places, and changes at one place (Dally and Towles, chapters 13 and 16).
use Rattle.std.specs.Prelude.{◌≡◌, ℕ, Bool, cond, ◌==◌, ◌&&◌, List, Option, Some, None}
use Rattle.worm_flit.specs.declared.Flit.{Flit}
use Rattle.worm_records.specs.declared.InRecord.{InRecord}
use Rattle.worm_theory.specs.Worm.{Worm, Between, worm_after}

pub record Network : Type 0 where
  -- by node, input port and channel: the buffer, front first; the channel's record; the flit that left the buffer last,
  -- on the channel by which it left; and how many credits are owed for flits that left
  pub buffer : ℕ → ℕ → ℕ → List Flit
  pub in_record : ℕ → ℕ → ℕ → InRecord
  pub last_out : ℕ → ℕ → ℕ → Option Flit
  pub owed : ℕ → ℕ → ℕ → ℕ
  -- by node, output port and channel: the input port and channel that holds it, and how many flits it may still send
  pub holder : ℕ → ℕ → ℕ → Option (ℕ × ℕ)
  pub credits : ℕ → ℕ → ℕ → ℕ
  -- by node and output port: the flits on its link, at the terminal those delivered
  pub out : ℕ → ℕ → List Flit
  -- by node and output port: the credits on their way back to it
  pub credit_list : ℕ → ℕ → List ℕ
  -- by node and class: what the source accepted, and what of it is not yet fed
  pub injected : ℕ → ℕ → List Flit
  pub unfed : ℕ → ℕ → List Flit

abbrev pub same : ℕ → ℕ → ℕ → ℕ → Bool
same i j a b = (i == a) && (j == b)

abbrev pub same3 : ℕ → ℕ → ℕ → ℕ → ℕ → ℕ → Bool
same3 i j k a b c = same i j a b && (k == c)

-- the value at one place changed
abbrev pub put2 : {A : Type 0} → (ℕ → ℕ → A) → ℕ → ℕ → A → ℕ → ℕ → A
put2 f a b v i j = cond (same i j a b) v (f i j)

abbrev pub put3 : {A : Type 0} → (ℕ → ℕ → ℕ → A) → ℕ → ℕ → ℕ → A → ℕ → ℕ → ℕ → A
put3 f a b c v i j k = cond (same3 i j k a b c) v (f i j k)

-- where an output channel stands whose holder is this one: what its holder sent last decides
abbrev pub upstream_of : (ℕ → ℕ → ℕ → Option Flit) → ℕ → Option (ℕ × ℕ) → Worm
upstream_of last_out x None = Between
upstream_of last_out x (Some holder) = worm_after (last_out x holder.0 holder.1)

abbrev pub upstream : Network → ℕ → ℕ → ℕ → Worm
upstream net x o c = upstream_of net.last_out x (net.holder x o c)

-- the same at each place
pub record SamePlaces (a b : Network) : Type 0 where
  pub buffer : (x p v : ℕ) → a.buffer x p v ≡ b.buffer x p v
  pub in_record : (x p v : ℕ) → a.in_record x p v ≡ b.in_record x p v
  pub last_out : (x p v : ℕ) → a.last_out x p v ≡ b.last_out x p v
  pub owed : (x p v : ℕ) → a.owed x p v ≡ b.owed x p v
  pub holder : (x o c : ℕ) → a.holder x o c ≡ b.holder x o c
  pub credits : (x o c : ℕ) → a.credits x o c ≡ b.credits x o c
  pub out : (x o : ℕ) → a.out x o ≡ b.out x o
  pub credit_list : (x o : ℕ) → a.credit_list x o ≡ b.credit_list x o
  pub injected : (x k : ℕ) → a.injected x k ≡ b.injected x k
  pub unfed : (x k : ℕ) → a.unfed x k ≡ b.unfed x k
