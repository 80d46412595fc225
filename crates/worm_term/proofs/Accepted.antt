-- What a source makes of a packet or a mark, by what stands in its lists.
use Rattle.std.proofs.Common.{◌≡◌, ◌<◌, ◌+◌, ◌∙◌, ℕ, Bool, true, List, None, Err, Ok, OnErr}
use Rattle.std.proofs.Common.{ap, arith, get_or, inl, inr, length, refl, slice_index_or, slice_set, sym}
use Rattle.std.specs.Prelude.{Option, Result}
use Rattle.std.specs.Result.{is_err}
use Rattle.std.proofs.lemmas.Bool.{cases_eq}
use Rattle.std.proofs.lemmas.List.{get_or_default, get_or-set_other, get_or-set_same, length-set, set-get_or}
use Rattle.worm_flit.specs.declared.Flit.{Flit}
use Rattle.worm_flit.specs.declared.Lane.{Lane}
use Rattle.worm_term.specs.Queue.{QueueState, appended, empty_queue, one_fed}
use Rattle.worm_term.specs.Source.{AreFirsts, AreUnfed, IsAnswered, IsOpen, IsSource, SourceState, fresh_lane}
use Rattle.worm_term.specs.Source.{after_fed, lane_line, next_number, queue_at, source_state, with_packet}
use Rattle.worm_term.specs.declared.fault.OfferFault.{OfferFault}
use Rattle.worm_term.specs.declared.fault.OfferFault.TheVariants.{NoMemory}
use Rattle.worm_term.specs.declared.source.LaneState.{LaneState}

-- what an answer that is an error says
pub err_says : {T E : Type 0} (r : Result T E) (P : Type 0) → OnErr r P → is_err r ≡ true → P
err_says (Ok v) P holds is = absurd (cc)
err_says (Err e) P holds is = holds

-- a queue that is put back as it was changes none
pub put_back : (queues : List QueueState) (i : ℕ) (q was : QueueState) → q ≡ was → was ≡ get_or queues i was
    → slice_set queues i q ≡ queues
put_back queues i q was same is = ap (slice_set queues i) (same ∙ is) ∙ set-get_or queues i was

-- so what holds of a source still does
pub still_holds : (node nodes : ℕ) (channels : List ℕ) (queues now : List QueueState) (lanes : List LaneState)
    (firsts : List ℕ) (unfed : ℕ) → now ≡ queues
    → IsSource (source_state node nodes channels queues lanes) × AreFirsts channels firsts × AreUnfed queues unfed
    → IsSource (source_state node nodes channels now lanes) × AreFirsts channels firsts × AreUnfed now unfed
still_holds node nodes channels queues now lanes firsts unfed same holds = rw same holds

-- where there is no memory nothing changes
pub no_memory : (reason : Option OfferFault) (old after new : SourceState) → reason ≡ None → new ≡ old
    → IsAnswered {A = ℕ} reason (Err NoMemory) old after new
no_memory reason old after new none same = record { ok = tt; fault = rw none refl; err = same }

-- where there is no reason to refuse, what comes of it is there
pub accepted : (reason : Option OfferFault) (number : ℕ) (old after new : SourceState) → reason ≡ None → after ≡ new
    → IsAnswered reason (Ok number) old after new
accepted reason number old after new none same = record { ok = (none, sym same); fault = tt; err = tt }

-- a source has a queue for the class of each lane that is open
pub class_there : (s : SourceState) (lane : Lane) → IsSource s → IsOpen s lane → lane.class < length s.queues
class_there s lane sound is_open = let all = sound.all_queues in let within = is_open.class_in in omega arith

-- the number read is the lane's next
pub number_is : (s now : SourceState) (lane : Lane) (i : ℕ) (state : LaneState) → s ≡ now → i ≡ lane_line now lane
    → i < length now.lanes → state ≡ get_or s.lanes i state → state.next ≡ next_number now lane
number_is s now lane i state same at there is =
    ap (λ (t : LaneState). t.next)
    (is ∙ ap (λ (t : SourceState). get_or t.lanes i state) same ∙ get_or_default now.lanes i state fresh_lane there
    ∙ ap (λ j. get_or now.lanes j fresh_lane) at)

-- and the queue is that of its class
pub queue_is : (s now : SourceState) (class i : ℕ) (was : QueueState) → s ≡ now → i ≡ class → class < length now.queues
    → was ≡ get_or s.queues i was → was ≡ queue_at now class
queue_is s now class i was same at there is =
    is ∙ ap (λ (t : SourceState). get_or t.queues i was) same ∙ ap (λ j. get_or now.queues j was) at
    ∙ get_or_default now.queues class was empty_queue there

-- the flits of a packet at the end of its queue, and its lane's next number
pub put_packet : (s now : SourceState) (lane : Lane) (fs flits : List Flit) (closed : Bool) (k i number : ℕ)
    (q was : QueueState) → s ≡ now → k ≡ lane.class → i ≡ lane_line now lane → number ≡ next_number now lane
    → was ≡ queue_at now lane.class → q ≡ appended was flits → flits ≡ fs
    → with_packet now lane fs closed ≡ record s {
      queues = slice_set s.queues k q;
      lanes = slice_set s.lanes i (record { next = number + 1; closed = closed });
    }
put_packet s now lane fs flits closed k i number q was same at_k at_i is_next is_queue more are =
    rw (same, at_k, at_i, is_next, more, is_queue, are) refl

-- a queue of which one more flit was fed
pub fed_is : (s now : SourceState) (class k : ℕ) (q was : QueueState) → s ≡ now → k ≡ class
    → was ≡ queue_at now class → q ≡ one_fed was
    → record s { queues = slice_set s.queues k q } ≡ after_fed now class
fed_is s now class k q was same at is_queue more = rw (same, at, more, is_queue) refl

-- its flits are those that were there
same_flits : (queues : List QueueState) (class k : ℕ) (q : QueueState) → class < length queues
    → q.injected ≡ (slice_index_or queues class empty_queue).injected
    → (slice_index_or (slice_set queues class q) k empty_queue).injected
    ≡ (slice_index_or queues k empty_queue).injected
same_flits queues class k q there same = elim (cases_eq k class) [
  | inl here ↦ rw (here, get_or-set_same queues class q empty_queue there) same
  | inr away ↦ rw (get_or-set_other queues class k q empty_queue away) refl
]

-- so a source that feeds is still one
pub fed_sound : (s : SourceState) (class : ℕ) → IsSource s → class < length s.queues → IsSource (after_fed s class)
fed_sound s class sound there =
    let same = λ (k : ℕ). same_flits s.queues class k (one_fed (queue_at s class)) there refl in
    record {
      all_queues = simp length-set sound.all_queues;
      all_lanes = sound.all_lanes;
      in_order = λ dst k dst_in k_in. rw (same k) (sound.in_order dst k dst_in k_in);
      owned = λ k k_in. rw (same k) (sound.owned k k_in);
    }
