-- What a source is after a feed, and after it accepted a packet or a mark.
use Rattle.std.proofs.Common.{◌≡◌, ℕ, zero, suc, ◌<◌, ◌≤◌, ◌==◌, cond, Bool, true, false, not, ◌&&◌, nat_lt, nat_le}
use Rattle.std.proofs.Common.{if◌then◌else◌, inl, inr, List, [], ◌∷◌, length, Option, Some, None, refl, arith, ap, sym}
use Rattle.std.proofs.Common.{subst, ◌∙◌, length-append}
use Rattle.std.specs.Prelude.{All, slice_index, slice_index_or, slice_get, slice_set}
use Rattle.std.proofs.Math.ListN.{length-set}
use Rattle.std.proofs.lemmas.List.Folds.{list_any-append}
use Rattle.std.proofs.lemmas.List.Sums.{sum_by-append}
use Rattle.worm_flit.specs.Kinds.{closes, is_mark}
use Rattle.worm_flit.specs.declared.Lane.{Lane}
use Rattle.worm_flit.specs.declared.Flit.{Flit}
use Rattle.worm_flit.specs.Packets.{History, closed, fresh, mark, packet, packet_flits}
use Rattle.worm_flit.specs.Stamps.{of_lane}
use Rattle.worm_term.specs.declared.fault.OfferFault.{OfferFault}
use Rattle.worm_term.specs.declared.fault.OfferFault.TheVariants.{WrongSource, NoSuchNode, NoSuchClass, ManyChannels}
use Rattle.worm_term.specs.declared.fault.OfferFault.TheVariants.{LaneClosed, LaneFull, NoMemory}
use Rattle.worm_term.specs.Lanes.{lane_of}
use Rattle.worm_term.specs.Queue.{QueueState, empty_queue, appended, waiting, one_fed}
use Rattle.worm_term.specs.Source.{SourceState, IsSource, IsFrom, IsOpen, classes, queue_at, lane_at, refusal}
use Rattle.worm_term.specs.Source.{after_fed}
use Rattle.worm_theory.specs.Steps.{packets_in, has_mark}
use Rattle.worm_theory.proofs.Places.{number_cases, bool_cases}
use Rattle.worm_theory.proofs.Bridge.{get_or-set}
use Rattle.worm_theory.proofs.Packets.{packet-closes, packet-unmarked}

-- Feed

pub queue_after : (t : SourceState) (k : ℕ) → k < length t.queues → (j : ℕ)
    → queue_at (after_fed t k) j ≡ cond (j == k) (one_fed (queue_at t k)) (queue_at t j)
queue_after t k there j = get_or-set t.queues k j (one_fed (queue_at t k)) empty_queue there

pub injected_kept : (t : SourceState) (k : ℕ) → k < length t.queues → (j : ℕ)
    → (queue_at (after_fed t k) j).injected ≡ (queue_at t j).injected
injected_kept t k there j = elim (number_cases j k) [
  | inl here ↦
      let at : queue_at (after_fed t k) j ≡ one_fed (queue_at t k) = queue_after t k there j ∙ rw here.0 refl in
      ap (λ (q : QueueState). q.injected) at ∙ ap (λ (i : ℕ). (queue_at t i).injected) (sym here.1)
  | inr away ↦
      let at : queue_at (after_fed t k) j ≡ queue_at t j = queue_after t k there j ∙ rw away.0 refl in
      ap (λ (q : QueueState). q.injected) at
]

pub fed_source : (t : SourceState) (k : ℕ) → IsSource t → k < length t.queues → IsSource (after_fed t k)
fed_source t k sound there = record {
  all_queues = rw length-set sound.all_queues;
  all_lanes = sound.all_lanes;
  in_order = λ dst class dst_in class_in.
      subst (λ (fs : List Flit). History (lane_of t.node dst class) (lane_at t (lane_of t.node dst class)).next
      (lane_at t (lane_of t.node dst class)).closed (of_lane (lane_of t.node dst class) fs))
      (sym (injected_kept t k there class)) (sound.in_order dst class dst_in class_in);
  owned = λ class class_in.
      subst (λ (fs : List Flit). All (IsFrom t.node t.nodes class) fs) (sym (injected_kept t k there class))
      (sound.owned class class_in);
}

one_less : (xs : List Flit) (i : ℕ) (f : Flit) → slice_get xs i ≡ Some f → i < length xs
one_less [] i f e = let no : ◌≡◌ {A = Option Flit} None (Some f) = e in absurd (cc)
one_less (g ∷ xs) zero f e = omega arith
one_less (g ∷ xs) (suc i) f e = let rest = one_less xs i f e in omega arith

pub within_fed : (t : SourceState) (k : ℕ) (f : Flit) → k < length t.queues → waiting (queue_at t k) ≡ Some f
    → ((j : ℕ) → (queue_at t j).fed ≤ length (queue_at t j).injected)
    → (j : ℕ) → (queue_at (after_fed t k) j).fed ≤ length (queue_at (after_fed t k) j).injected
within_fed t k f there next within j = elim (number_cases j k) [
  | inl here ↦
      let at : queue_at (after_fed t k) j ≡ one_fed (queue_at t k) = queue_after t k there j ∙ rw here.0 refl in
      let less = one_less (queue_at t k).injected (queue_at t k).fed f next in
      subst (λ (q : QueueState). q.fed ≤ length q.injected) (sym at) (omega arith)
  | inr away ↦
      let at : queue_at (after_fed t k) j ≡ queue_at t j = queue_after t k there j ∙ rw away.0 refl in
      subst (λ (q : QueueState). q.fed ≤ length q.injected) (sym at) (within j)
]

-- Offer and Close

some_first : {A : Type 0} (b : Bool) (x : A) (rest : Option A) → (if b then Some x else rest) ≡ None
    → (b ≡ false) × (rest ≡ None)
some_first {A} true x rest e = let no : ◌≡◌ {A = Option A} (Some x) None = e in absurd (cc)
some_first false x rest e = (refl, e)

none_first : {A : Type 0} (b : Bool) (x y : A) (rest : Option A) → (x ≡ y → ⊥) → (rest ≡ Some y → ⊥)
    → (if b then Some x else rest) ≡ Some y → ⊥
none_first {A} true x y rest other later e = let is : ◌≡◌ {A = Option A} (Some x) (Some y) = e in other (cc)
none_first false x y rest other later e = later e

-- nothing refuses an open lane, nor of a class with one channel its mark
pub refuses_none : (t : SourceState) (lane : Lane) (is_last : Bool) → IsOpen t lane
    → (is_last ≡ true → slice_index t.channels lane.class ≤ 1) → refusal t lane is_last ≡ None
refuses_none t lane is_last is_open one =
    let here = is_open.from_here in
    let dst_in = is_open.dst_in in
    let class_in = is_open.class_in in
    let room = is_open.room in
    let first : not (lane.src == t.node) ≡ false = grind arith in
    let second : nat_le t.nodes lane.dst ≡ false = grind arith in
    let third : nat_le (classes t) lane.class ≡ false = grind arith in
    let fourth : (is_last && nat_lt 1 (slice_index t.channels lane.class)) ≡ false = elim (bool_cases is_last) [
      | inl last ↦ let few = one last in let fits : nat_lt 1 (slice_index t.channels lane.class) ≡ false =
          grind arith in rw (last, fits) refl
      | inr none ↦ rw none refl
    ] in
    let sixth : nat_le 65535 (lane_at t lane).next ≡ false = grind arith in
    rw (first, second, third, fourth, is_open.open_yet, sixth) refl

pub none_refused : (t : SourceState) (lane : Lane) (is_last : Bool) → refusal t lane is_last ≡ None
    → IsOpen t lane × (is_last ≡ true → slice_index t.channels lane.class ≤ 1)
none_refused t lane is_last e =
    let a = some_first (not (lane.src == t.node)) WrongSource _ e in
    let b = some_first (nat_le t.nodes lane.dst) NoSuchNode _ a.1 in
    let c = some_first (nat_le (classes t) lane.class) NoSuchClass _ b.1 in
    let d = some_first (is_last && nat_lt 1 (slice_index t.channels lane.class)) ManyChannels _ c.1 in
    let f = some_first (lane_at t lane).closed LaneClosed _ d.1 in
    let g = some_first (nat_le 65535 (lane_at t lane).next) LaneFull None f.1 in
    let one = a.0 in let two = b.0 in let three = c.0 in let four = d.0 in let six = g.0 in (
      record {
        from_here = grind arith;
        dst_in = grind arith;
        class_in = grind arith;
        room = grind arith;
        open_yet = f.0;
      },
      λ last. let test : nat_lt 1 (slice_index t.channels lane.class) ≡ false =
          subst (λ (b : Bool). (b && nat_lt 1 (slice_index t.channels lane.class)) ≡ false) last four in grind arith,
    )

-- want of memory is no refusal
pub refusal_named : (t : SourceState) (lane : Lane) (is_last : Bool) → refusal t lane is_last ≡ Some NoMemory → ⊥
refusal_named t lane is_last =
    none_first _ WrongSource NoMemory _ (λ e. absurd (cc))
    (none_first _ NoSuchNode NoMemory _ (λ e. absurd (cc))
    (none_first _ NoSuchClass NoMemory _ (λ e. absurd (cc))
    (none_first _ ManyChannels NoMemory _ (λ e. absurd (cc))
    (none_first _ LaneClosed NoMemory _ (λ e. absurd (cc))
    (none_first _ LaneFull NoMemory None (λ e. absurd (cc))
    (λ (e : ◌≡◌ {A = Option OfferFault} None (Some NoMemory)). absurd (cc)))))))

-- a lane's counters say what its list holds
pub counted_packets : (lane : Lane) (n : ℕ) (b : Bool) (fs : List Flit) → History lane n b fs
    → (packets_in fs ≡ n) × (has_mark fs ≡ b)
counted_packets lane n b fs fresh = (refl, refl)
counted_packets lane n b fs (packet {n = m} {fs = gs} ws some few before) =
    let had = counted_packets lane m false gs before in (
      sum_by-append (λ (f : Flit). cond (closes f.kind) 1 0) gs (packet_flits lane m ws) ∙ rw (
        had.0,
        packet-closes lane m ws (omega arith),
      ) refl,
      list_any-append (λ (f : Flit). is_mark f.kind) gs (packet_flits lane m ws) ∙ rw (
        had.1,
        packet-unmarked lane m ws,
      ) refl,
    )
counted_packets lane n b fs (closed {n = m} {fs = gs} before) =
    let had = counted_packets lane m false gs before in (
      sum_by-append (λ (f : Flit). cond (closes f.kind) 1 0) gs (mark lane m ∷ []) ∙ rw had.0 refl,
      list_any-append (λ (f : Flit). is_mark f.kind) gs (mark lane m ∷ []) ∙ rw had.1 refl,
    )

-- the queues after a packet or a mark was accepted
module _ (t : SourceState) (k : ℕ) (fs : List Flit) (there : k < length t.queues) where
  abbrev grown : List QueueState
  grown = slice_set t.queues k (appended (queue_at t k) fs)

  pub queue_grown : (j : ℕ) → slice_index_or grown j empty_queue
      ≡ cond (j == k) (appended (queue_at t k) fs) (queue_at t j)
  queue_grown j = get_or-set t.queues k j (appended (queue_at t k) fs) empty_queue there

  pub within_grown : ((j : ℕ) → (queue_at t j).fed ≤ length (queue_at t j).injected) → (j : ℕ)
      → (slice_index_or grown j empty_queue).fed ≤ length (slice_index_or grown j empty_queue).injected
  within_grown within j = elim (number_cases j k) [
    | inl here ↦
        let at : slice_index_or grown j empty_queue ≡ appended (queue_at t k) fs = queue_grown j ∙ rw here.0 refl in
        let had = within k in
        subst (λ (q : QueueState). q.fed ≤ length q.injected) (sym at)
        (omega (arith, length-append (queue_at t k).injected fs))
    | inr away ↦
        let at : slice_index_or grown j empty_queue ≡ queue_at t j = queue_grown j ∙ rw away.0 refl in
        subst (λ (q : QueueState). q.fed ≤ length q.injected) (sym at) (within j)
  ]
