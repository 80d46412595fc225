-- Lists of flits: where they leave a channel, and what they hold of a lane or a packet on one channel.
use Rattle.std.proofs.Common.{◌≡◌, ℕ, zero, suc, ◌+◌, ◌<◌, ◌==◌, ◌⊎◌, inl, inr, cond, List, [], ◌∷◌, ◌++◌, length}
use Rattle.std.proofs.Common.{count_by, All, refl, sym, ap, ◌∙◌, arith, append_assoc, append-nil}
use Rattle.std.proofs.lemmas.List.Elements.{All-tail}
use Rattle.std.proofs.lemmas.List.Sums.{sum_by-append}
use Rattle.worm_flit.specs.declared.Lane.{Lane}
use Rattle.worm_flit.specs.declared.Flit.{Flit}
use Rattle.worm_flit.specs.Kinds.{closes}
use Rattle.worm_flit.specs.Stamps.{bare, is_of_lane, on_channel}
use Rattle.worm_theory.specs.Worm.{Worm, Within, Runs, after_flit}
use Rattle.worm_theory.specs.Cut.{held}
use Rattle.worm_theory.specs.PacketCut.{packet_held, joined}
use Rattle.worm_theory.proofs.Places.{bool_cases}
use Rattle.worm_theory.proofs.Runs.{within-is}
use Rattle.worm_theory.proofs.Cut.{held_one, held-cons}
use Rattle.worm_theory.proofs.PacketLists.{packet_one, packet-cons, packet-append, packet_cases, joined-none}
use Rattle.worm_theory.proofs.ChannelLists.{none_on}
use Rattle.worm_theory.specs.Parts.{worm_end}

-- where a run ends is where its flits lead
pub Runs-end : (fs : List Flit) (a b : Worm) → Runs a fs b → worm_end a fs ≡ b
Runs-end [] a b h = h
Runs-end (f ∷ fs) a b h = Runs-end fs (after_flit f) b h.1

pub worm_end-append : (fs gs : List Flit) (a : Worm) → worm_end a (fs ++ gs) ≡ worm_end (worm_end a fs) gs
worm_end-append [] gs a = refl
worm_end-append (f ∷ fs) gs a = worm_end-append fs gs (after_flit f)

-- A channel that these flits leave within a packet was within it before, or some of them are of it.
pub within_from : (fs : List Flit) (a : Worm) (g : Flit) → worm_end a fs ≡ Within g →
    (a ≡ Within g) ⊎ (0 < length (packet_held g.lane g.packet fs))
within_from [] a g e = inl e
within_from (f ∷ fs) a g e =
    elim (within_from fs (after_flit f) g e) [
      | inl here ↦
          let last = within-is (closes f.kind) f g here in
          elim (packet_cases g.lane g.packet f) [
            | inl on ↦ inr (rw (packet-cons g.lane g.packet f fs, on.0) (omega arith))
            | inr off ↦ absurd (off.1 (sym (ap (λ (h : Flit). h.lane) last)) (sym (ap (λ (h : Flit). h.packet) last)))
          ]
      | inr later ↦
          elim (packet_cases g.lane g.packet f) [
            | inl on ↦ inr (rw (packet-cons g.lane g.packet f fs, on.0) (omega arith))
            | inr off ↦ inr (rw (packet-cons g.lane g.packet f fs, off.0) later)
          ]
    ]

pub All-right : {X : Type 0} (P : X → Type 0) (xs ys : List X) → All P (xs ++ ys) → All P ys
All-right P [] ys h = h
All-right P (x ∷ xs) ys h = All-right P xs ys (All-tail P x (xs ++ ys) h)

pub count-append : (v : ℕ) (cs ds : List ℕ) →
    count_by (λ c. v == c) (cs ++ ds) ≡ count_by (λ c. v == c) cs + count_by (λ c. v == c) ds
count-append v cs ds = sum_by-append (λ c. cond (v == c) 1 0) cs ds

-- a packet's flits are among those of its lane
packet_one-bare : (lane : Lane) (k : ℕ) (f : Flit) (fs : List Flit) →
    packet_held lane k (held_one lane f ++ fs) ≡ packet_one lane k f ++ packet_held lane k fs
packet_one-bare lane k f fs =
    elim (bool_cases (is_of_lane lane f)) [
      | inl on ↦
          let one : held_one lane f ≡ bare f ∷ [] = rw on in
          ap (λ gs. packet_held lane k (gs ++ fs)) one ∙ packet-cons lane k (bare f) fs
      | inr off ↦
          let one : held_one lane f ≡ [] = rw off in
          let none : packet_one lane k f ≡ [] = rw off in
          ap (λ gs. packet_held lane k (gs ++ fs)) one ∙ sym (ap (λ gs. gs ++ packet_held lane k fs) none)
    ]

pub packet-of_held : (lane : Lane) (k : ℕ) (fs : List Flit) → packet_held lane k (held lane fs) ≡ packet_held lane k fs
packet-of_held lane k [] = refl
packet-of_held lane k (f ∷ fs) =
    ap (packet_held lane k) (held-cons lane f fs) ∙ packet_one-bare lane k f (held lane fs) ∙
    ap (λ gs. packet_one lane k f ++ gs) (packet-of_held lane k fs) ∙ sym (packet-cons lane k f fs)

-- what holds of a lane's flits holds of its packets'
pub packet_equal : (lane : Lane) (k : ℕ) (a b c d : List Flit) →
    held lane a ++ held lane b ≡ held lane c ++ held lane d →
    packet_held lane k a ++ packet_held lane k b ≡ packet_held lane k c ++ packet_held lane k d
packet_equal lane k a b c d e =
    let both = ap (packet_held lane k) e in
    let left =
    packet-append lane k (held lane a) (held lane b) ∙ rw (packet-of_held lane k a, packet-of_held lane k b) refl in
    let right =
    packet-append lane k (held lane c) (held lane d) ∙ rw (packet-of_held lane k c, packet-of_held lane k d) refl in
    sym left ∙ both ∙ right

pub packet_sent : (lane : Lane) (k : ℕ) (a c d : List Flit) → held lane a ≡ held lane c ++ held lane d →
    packet_held lane k a ≡ packet_held lane k c ++ packet_held lane k d
packet_sent lane k a c d e =
    sym (packet-of_held lane k a) ∙ ap (packet_held lane k) e ∙ packet-append lane k (held lane c) (held lane d) ∙
    rw (packet-of_held lane k c, packet-of_held lane k d) refl

-- a list with a flit of the packet on some channel has a flit of it
pub some_on : (lane : Lane) (k v : ℕ) (fs : List Flit) → 0 < length (packet_held lane k (on_channel v fs)) →
    0 < length (packet_held lane k fs)
some_on lane k v fs some = at_list (packet_held lane k fs) refl
  where
    at_list : (hs : List Flit) → packet_held lane k fs ≡ hs → 0 < length (packet_held lane k fs)
    at_list [] e = let none = ap length (none_on lane k v fs e) in absurd (omega arith)
    at_list (h ∷ hs) e = rw e (omega arith)

-- Two families of lists of which one channel alone has any are joined channel by channel.
zip_last : (n : ℕ) (a b : ℕ → List Flit) →
    ((v w : ℕ) → v < suc n → w < suc n → (v ≡ w → ⊥) → 0 < length (a v) → b w ≡ []) →
    joined n a ++ joined n b ≡ joined n (λ v. a v ++ b v) →
    (fs : List Flit) → a n ≡ fs → (joined n a ++ a n) ++ (joined n b ++ b n) ≡
    joined n (λ v. a v ++ b v) ++ (a n ++ b n)
zip_last n a b one before [] e =
    rw (e, append-nil (joined n a), ← append_assoc (joined n a) (joined n b) (b n), before)
zip_last n a b one before (f ∷ fs) e =
    let none : joined n b ≡ [] =
    joined-none n b (λ w l. one n w (omega arith) (omega arith) (λ same. absurd (omega arith)) (rw e (omega arith))) in
    let same : joined n a ≡ joined n (λ v. a v ++ b v) =
    sym (append-nil (joined n a)) ∙ ap (λ gs. joined n a ++ gs) (sym none) ∙ before in
    rw (none, ← same, append_assoc (joined n a) (a n) (b n))

pub joined-zip : (m : ℕ) (a b : ℕ → List Flit) →
    ((v w : ℕ) → v < m → w < m → (v ≡ w → ⊥) → 0 < length (a v) → b w ≡ []) →
    joined m a ++ joined m b ≡ joined m (λ v. a v ++ b v)
joined-zip zero a b one = refl
joined-zip (suc n) a b one =
    zip_last n a b one (joined-zip n a b (λ v w l m. one v w (omega arith) (omega arith))) (a n) refl
