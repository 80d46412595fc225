-- Sources that have accepted the same, whatever was fed of it.
use Rattle.std.proofs.Common.{◌≡◌, ℕ, zero, suc, ◌+◌, ◌*◌, List, [], ◌∷◌, ◌++◌, length, get_or, Bool, true, false, refl}
use Rattle.std.proofs.Common.{sym, subst, ◌∙◌}
use Rattle.std.specs.Prelude.{slice_set, slice_index_or}
use Rattle.std.proofs.Math.ListN.{length-set}
use Rattle.worm_flit.specs.declared.Lane.{Lane}
use Rattle.worm_flit.specs.declared.Flit.{Flit}
use Rattle.worm_flit.specs.Packets.{packet_flits, mark}
use Rattle.worm_term.specs.Queue.{QueueState, empty_queue, appended, one_fed}
use Rattle.worm_term.specs.Source.{SourceState, after_fed, queue_at, with_packet, next_number, fresh_lane}
use Rattle.worm_term.specs.declared.source.LaneState.{LaneState}
use Rattle.worm_script.specs.declared.entry.Act.{Act}
use Rattle.worm_script.specs.declared.entry.Act.TheVariants.{Offer, Close}
use Rattle.worm_script.specs.declared.entry.Entry.{Entry}
use Rattle.worm_split.specs.Effects.{HaveTheSame, HasAccepted, after_act, after_entries}

pub same_source : (s : SourceState) → HaveTheSame s s
same_source s = record {
  node = refl;
  nodes = refl;
  channels = refl;
  lanes = refl;
  all_queues = refl;
  injected = λ class. refl;
}

pub same_then : (a b c : SourceState) → HaveTheSame a b → HaveTheSame b c → HaveTheSame a c
same_then a b c h k = record {
  node = k.node ∙ h.node;
  nodes = k.nodes ∙ h.nodes;
  channels = k.channels ∙ h.channels;
  lanes = k.lanes ∙ h.lanes;
  all_queues = k.all_queues ∙ h.all_queues;
  injected = λ class. k.injected class ∙ h.injected class;
}

-- what a write leaves as it was at its own place, it leaves so everywhere
same_anywhere : {A B : Type 0} (h : A → B) (l : List A) (i j : ℕ) (x d : A) → h x ≡ h (get_or l i d) →
    h (get_or (slice_set l i x) j d) ≡ h (get_or l j d)
same_anywhere h [] i j x d same = refl
same_anywhere h (a ∷ l) zero zero x d same = same
same_anywhere h (a ∷ l) zero (suc j) x d same = refl
same_anywhere h (a ∷ l) (suc i) zero x d same = refl
same_anywhere h (a ∷ l) (suc i) (suc j) x d same = same_anywhere h l i j x d same

pub same_fed : (s : SourceState) (k : ℕ) → HaveTheSame s (after_fed s k)
same_fed s k = record {
  node = refl;
  nodes = refl;
  channels = refl;
  lanes = refl;
  all_queues = length-set s.queues k (one_fed (queue_at s k));
  injected = λ class. same_anywhere (λ (q : QueueState). q.injected) s.queues k class
      (one_fed (queue_at s k)) empty_queue refl;
}

-- two lists that are the same at each place, written at one place
both_set : {A B : Type 0} (h : A → B) (l m : List A) (i : ℕ) (x y d : A) → length l ≡ length m → h x ≡ h y →
    ((j : ℕ) → h (get_or l j d) ≡ h (get_or m j d)) → (j : ℕ) →
    h (get_or (slice_set l i x) j d) ≡ h (get_or (slice_set m i y) j d)
both_set h [] [] i x y d count one each j = refl
both_set h [] (b ∷ m) i x y d count one each j = absurd (cc)
both_set h (a ∷ l) [] i x y d count one each j = absurd (cc)
both_set h (a ∷ l) (b ∷ m) zero x y d count one each zero = one
both_set h (a ∷ l) (b ∷ m) zero x y d count one each (suc j) = each (suc j)
both_set h (a ∷ l) (b ∷ m) (suc i) x y d count one each zero = each zero
both_set h (a ∷ l) (b ∷ m) (suc i) x y d count one each (suc j) =
    both_set h l m i x y d (cc) one (λ n. each (suc n)) j

-- a lane's counters once it has one number more
abbrev counted : Lane → Bool → List LaneState → List ℕ → List LaneState
counted lane closed lanes channels =
    let line = lane.dst * length channels + lane.class in
    slice_set lanes line (record { next = (slice_index_or lanes line fresh_lane).next + 1; closed = closed })

same_packet : (s t : SourceState) (lane : Lane) (closed : Bool) (f : ℕ → List Flit) → HaveTheSame s t →
    HaveTheSame (with_packet s lane (f (next_number s lane)) closed)
    (with_packet t lane (f (next_number t lane)) closed)
same_packet s t lane closed f h =
    let number : next_number t lane ≡ next_number s lane =
    λ i. (slice_index_or (h.lanes i) (lane.dst * length (h.channels i) + lane.class) fresh_lane).next in
    let k = lane.class in
    let more = appended (queue_at t k) (f (next_number t lane)) in
    let other = appended (queue_at s k) (f (next_number s lane)) in
    record {
      node = h.node;
      nodes = h.nodes;
      channels = h.channels;
      lanes = λ i. counted lane closed (h.lanes i) (h.channels i);
      all_queues = length-set t.queues k more ∙ (h.all_queues ∙ sym (length-set s.queues k other));
      injected = both_set (λ (q : QueueState). q.injected) t.queues s.queues k more other empty_queue h.all_queues
          (λ i. h.injected k i ++ f (number i)) h.injected;
    }

same_act : (s t : SourceState) (act : Act) → HaveTheSame s t → HaveTheSame (after_act s act) (after_act t act)
same_act s t (Offer packet) h = same_packet s t packet.lane false (λ n. packet_flits packet.lane n packet.words) h
same_act s t (Close lane) h = same_packet s t lane true (λ n. mark lane n ∷ []) h

pub same_entries : (s t : SourceState) (entries : List Entry) → HaveTheSame s t →
    HaveTheSame (after_entries s entries) (after_entries t entries)
same_entries s t [] h = h
same_entries s t (e ∷ entries) h =
    same_entries (after_act s e.act) (after_act t e.act) entries (same_act s t e.act h)

entries_append : (s : SourceState) (first more : List Entry) →
    after_entries s (first ++ more) ≡ after_entries (after_entries s first) more
entries_append s [] more = refl
entries_append s (e ∷ first) more = entries_append (after_act s e.act) first more

-- nothing was accepted
pub accepted-none : (s : SourceState) → HasAccepted s [] s
accepted-none s = same_source s

-- some entries were accepted, and then others
pub accepted-then : (old mid new : SourceState) (first more : List Entry) → HasAccepted old first mid →
    HasAccepted mid more new → HasAccepted old (first ++ more) new
accepted-then old mid new first more h k =
    subst (λ (s : SourceState). HaveTheSame s new) (sym (entries_append old first more))
    (same_then (after_entries (after_entries old first) more) (after_entries mid more) new
    (same_entries (after_entries old first) mid more h) k)
