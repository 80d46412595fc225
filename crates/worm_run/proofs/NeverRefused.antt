-- No source refuses an entry of an acceptable script, whatever turns the workers took in whatever order.
use Rattle.std.proofs.Common.{◌≡◌, ℕ, zero, suc, ◌+◌, ◌*◌, ◌<◌, ◌≤◌, ◌==◌, ◌||◌, Bool, true, false, ◌⊎◌, inl, inr, List}
use Rattle.std.proofs.Common.{[], ◌∷◌, ◌++◌, length, set, get_or, replicate, Some, None, refl, arith, ap, sym}
use Rattle.std.proofs.Common.{subst, ◌∙◌, append-nil, append_assoc, length-append}
use Rattle.std.specs.Prelude.{filter, slice_index_or, slice_index}
use Rattle.std.proofs.lemmas.Bool.{cases_eq}
use Rattle.std.proofs.lemmas.List.{get_or-set_other}
use Rattle.std.proofs.lemmas.List.Folds.{list_any-append}
use Rattle.std.proofs.lemmas.Nat.{same_from_place}
use Rattle.worm_flit.specs.declared.Lane.{Lane}
use Rattle.worm_flit.specs.declared.Flit.{Flit}
use Rattle.worm_mesh.specs.Address.{node_count}
use Rattle.worm_term.specs.declared.fault.OfferFault.{OfferFault}
use Rattle.worm_term.specs.declared.source.LaneState.{LaneState}
use Rattle.worm_term.specs.Source.{SourceState, IsOpen, fresh_lane, fresh_source, lane_at, lane_line, refusal}
use Rattle.worm_term.specs.Source.{with_packet}
use Rattle.worm_theory.proofs.Places.{bool_cases}
use Rattle.worm_core.specs.Acceptable.{AreAcceptable, IsAcceptable, IsAcceptableScript, MayClose, closes, is_closed}
use Rattle.worm_region.specs.NewNet.{IsFresh}
use Rattle.worm_script.specs.Script.{begun_at, due, lane_of}
use Rattle.worm_node.specs.NewNodes.{fresh_node}
use Rattle.worm_region.specs.State.{NetState, node_at, source_at}
use Rattle.worm_node.specs.declared.node.Node.{Node}
use Rattle.worm_script.specs.declared.entry.Act.{Act}
use Rattle.worm_script.specs.declared.entry.Act.TheVariants.{Offer, Close}
use Rattle.worm_script.specs.declared.entry.Entry.{Entry}
use Rattle.worm_region.proofs.Sources.{refuses_none}
use Rattle.worm_split.specs.Effects.{HasAccepted, Refuses, after_act, after_entries, is_close}
use Rattle.worm_run.specs.Runs.{RefusesItsNext, RunsTo, ending_at}
use Rattle.worm_run.specs.Working.{due_before}
use Rattle.worm_run.specs.declared.plan.RunEnd.{RunEnd}
use Rattle.worm_run.specs.declared.plan.RunPlan.{RunPlan}
use Rattle.worm_split.specs.declared.stop.StopWhy.TheVariants.{Refused}
use Rattle.worm_run.proofs.Entries.{begun-more}

-- what some entries close others close too
abbrev Less : List Entry → List Entry → Type 0
Less some all = (lane : Lane) → is_closed some lane ≡ true → is_closed all lane ≡ true

or_true : (b : Bool) → (b || true) ≡ true
or_true true = refl
or_true false = refl

or_cases : (a b : Bool) → (a || b) ≡ true → (a ≡ true) ⊎ (b ≡ true)
or_cases true b e = inl refl
or_cases false b e = inr e

still_closed : (before more : List Entry) (lane : Lane) → is_closed before lane ≡ true
    → is_closed (before ++ more) lane ≡ true
still_closed before more lane e = list_any-append (λ (f : Entry). closes lane f.act) before more ∙ rw e refl

closed_behind : (before more : List Entry) (lane : Lane) → is_closed more lane ≡ true
    → is_closed (before ++ more) lane ≡ true
closed_behind before more lane e =
    list_any-append (λ (f : Entry). closes lane f.act) before more
    ∙ (ap (λ (b : Bool). is_closed before lane || b) e ∙ or_true (is_closed before lane))

less_one : (some all : List Entry) (e : Entry) → Less some all → Less some (all ++ e ∷ [])
less_one some all e less lane shut = still_closed all (e ∷ []) lane (less lane shut)

less_both : (some all : List Entry) (e : Entry) → Less some all → Less (some ++ e ∷ []) (all ++ e ∷ [])
less_both some all e less lane shut =
    elim (or_cases (is_closed some lane) (is_closed (e ∷ []) lane)
    (sym (list_any-append (λ (f : Entry). closes lane f.act) some (e ∷ [])) ∙ shut)) [
      | inl before ↦ less_one some all e less lane before
      | inr here ↦ closed_behind all (e ∷ []) lane here
    ]

open_still : (some all : List Entry) (lane : Lane) → Less some all → is_closed all lane ≡ false
    → is_closed some lane ≡ false
open_still some all lane less is_open = elim (bool_cases (is_closed some lane)) [
  | inl shut ↦ let also = less lane shut in absurd (cc)
  | inr yet ↦ yet
]

fewer : (p : Entry → Bool) (es : List Entry) → length (filter p es) ≤ length es
fewer p [] = omega arith
fewer p (e ∷ es) = elim (bool_cases (p e)) [
  | inl passes ↦ let rest = fewer p es in rw passes (omega arith)
  | inr fails ↦ let rest = fewer p es in rw fails (omega arith)
]

module _ (mesh channels : List ℕ) where
  -- of acceptable entries those that pass a test are acceptable, one behind the other
  picked : (p : Entry → Bool) (some all es : List Entry) → Less some all → AreAcceptable mesh channels all es →
      AreAcceptable mesh channels some (filter p es)
  picked p some all [] less fine = tt
  picked p some all (e ∷ es) less fine = elim (bool_cases (p e)) [
    | inl passes ↦ rw passes (
      record {
        src = fine.0.src;
        dst = fine.0.dst;
        class = fine.0.class;
        open_lane = open_still some all (lane_of e.act) less fine.0.open_lane;
        may_close = fine.0.may_close;
      },
      picked p (some ++ e ∷ []) (all ++ e ∷ []) es (less_both some all e less) fine.1,
    )
    | inr fails ↦ rw fails (picked p some (all ++ e ∷ []) es (less_one some all e less) fine.1)
  ]

  -- each behind those before it
  acceptable_at : (before pre left : List Entry) (next : Entry)
      → AreAcceptable mesh channels before (pre ++ next ∷ left) →
      IsAcceptable mesh channels (before ++ pre) next.act
  acceptable_at before [] left next fine =
      subst (λ (b : List Entry). IsAcceptable mesh channels b next.act) (sym (append-nil before)) fine.0
  acceptable_at before (e ∷ pre) left next fine =
      subst (λ (b : List Entry). IsAcceptable mesh channels b next.act) (append_assoc before (e ∷ []) pre)
      (acceptable_at (before ++ e ∷ []) pre left next fine.1)

  -- Entries of one node
  abbrev AreOf : ℕ → List Entry → Type 0
  AreOf x [] = Unit {0}
  AreOf x (e ∷ es) = ((lane_of e.act).src ≡ x) × ((lane_of e.act).class < length channels) × AreOf x es

  is_same : (a b : ℕ) → (a == b) ≡ true → a ≡ b
  is_same a b e = grind (arith, e)

  begun_of : (x : ℕ) (before es : List Entry) → AreAcceptable mesh channels before es → AreOf x (begun_at x es)
  begun_of x before [] fine = tt
  begun_of x before (e ∷ es) fine = elim (bool_cases ((lane_of e.act).src == x)) [
    | inl passes ↦ rw passes (
      is_same (lane_of e.act).src x passes,
      fine.0.class,
      begun_of x (before ++ e ∷ []) es fine.1,
    )
    | inr fails ↦ rw fails (begun_of x (before ++ e ∷ []) es fine.1)
  ]

  of_front : (x : ℕ) (pre left : List Entry) → AreOf x (pre ++ left) → AreOf x pre
  of_front x [] left of = tt
  of_front x (e ∷ pre) left of = (of.0, of.1, of_front x pre left of.2)

  of_next : (x : ℕ) (pre left : List Entry) (next : Entry) → AreOf x (pre ++ next ∷ left) → (lane_of next.act).src ≡ x
  of_next x [] left next of = of.0
  of_next x (e ∷ pre) left next of = of_next x pre left next of.2

  -- What a source keeps of a lane is never ahead of the entries before.
  record LaneFits (s : SourceState) (before : List Entry) (lane : Lane) : Type 0 where
    closed : (lane_at s lane).closed ≡ true → is_closed before lane ≡ true
    next : (lane_at s lane).next ≤ length before

  record Fits (x : ℕ) (s : SourceState) (before : List Entry) : Type 0 where
    node : s.node ≡ x
    nodes : s.nodes ≡ node_count mesh
    classes : s.channels ≡ channels
    lanes : (lane : Lane) → lane.src ≡ x → lane.class < length channels → LaneFits s before lane

  set_read : {A : Type 0} (xs : List A) (i : ℕ) (v d : A)
      → (get_or (set xs i v) i d ≡ v) ⊎ (get_or (set xs i v) i d ≡ get_or xs i d)
  set_read [] i v d = inr refl
  set_read (x ∷ xs) zero v d = inl refl
  set_read (x ∷ xs) (suc i) v d = set_read xs i v d

  fits_on : (s : SourceState) (before more : List Entry) (lane : Lane) → LaneFits s before lane
      → LaneFits s (before ++ more) lane
  fits_on s before more lane h = record {
    closed = λ shut. still_closed before more lane (h.closed shut);
    next = let few = h.next in let count = length-append before more in omega arith;
  }

  closes_itself : (e : Entry) (other : Lane) → is_close e.act ≡ true → other.src ≡ (lane_of e.act).src →
      other.dst ≡ (lane_of e.act).dst → other.class ≡ (lane_of e.act).class → is_closed (e ∷ []) other ≡ true
  closes_itself e other last src dst class = by_act e.act last src dst class where
    by_act : (act : Act) → is_close act ≡ true → other.src ≡ (lane_of act).src → other.dst ≡ (lane_of act).dst →
        other.class ≡ (lane_of act).class → (closes other act || false) ≡ true
    by_act (Offer packet) last src dst class = absurd (cc)
    by_act (Close lane) last src dst class =
        let a : (lane.src == other.src) ≡ true = grind arith in
        let b : (lane.dst == other.dst) ≡ true = grind arith in
        let c : (lane.class == other.class) ≡ true = grind arith in
        rw (a, b, c) refl

  -- one packet or mark more
  module _ (x : ℕ) (s : SourceState) (before : List Entry) (e : Entry) (fs : List Flit) (h : Fits x s before)
      (src : (lane_of e.act).src ≡ x) (class_in : (lane_of e.act).class < length channels) where
    abbrev lane : Lane
    lane = lane_of e.act

    abbrev put : LaneState
    put = record { next = (lane_at s lane).next + 1; closed = is_close e.act }

    abbrev after : SourceState
    after = with_packet s lane fs (is_close e.act)

    more_fits : (other : Lane) → other.src ≡ x → other.class < length channels → LaneFits after (before ++ e ∷ []) other
    more_fits other other_src other_in =
        let n = length s.channels in
        let count = ap (λ (l : List ℕ). length l) h.classes in
        let own = h.lanes lane src class_in in
        let old = fits_on s before (e ∷ []) other (h.lanes other other_src other_in) in
        elim (cases_eq (lane_line s other) (lane_line s lane)) [
          | inl same ↦
              let both = same_from_place other.dst other.class lane.dst lane.class n (omega arith) (omega arith) same in
              let read : (lane_at after other ≡ put) ⊎ (lane_at after other ≡ lane_at s other) = subst
              (λ (i : ℕ). (get_or (set s.lanes i put) (lane_line s other) fresh_lane ≡ put)
              ⊎ (get_or (set s.lanes i put) (lane_line s other) fresh_lane ≡ lane_at s other))
              same (set_read s.lanes (lane_line s other) put fresh_lane) in
              elim read [
                | inl now ↦ record {
                  closed = λ shut. closed_behind before (e ∷ []) other
                      (closes_itself e other (ap (λ (a : LaneState). a.closed) (sym now) ∙ shut)
                      (other_src ∙ sym src) both.0 both.1);
                  next = let few = own.next in let is = ap (λ (a : LaneState). a.next) now in
                      let longer = length-append before (e ∷ []) in omega arith;
                }
                | inr stays ↦ record {
                  closed = λ shut. old.closed (ap (λ (a : LaneState). a.closed) (sym stays) ∙ shut);
                  next = let few = old.next in let is = ap (λ (a : LaneState). a.next) stays in omega arith;
                }
              ]
          | inr differ ↦
              let stays : lane_at after other ≡ lane_at s other
              = get_or-set_other s.lanes (lane_line s lane) (lane_line s other) put fresh_lane differ in
              record {
                closed = λ shut. old.closed (ap (λ (a : LaneState). a.closed) (sym stays) ∙ shut);
                next = let few = old.next in let is = ap (λ (a : LaneState). a.next) stays in omega arith;
              }
        ]

    fits_packet : Fits x after (before ++ e ∷ [])
    fits_packet = record { node = h.node; nodes = h.nodes; classes = h.classes; lanes = more_fits }

  fits_act : (x : ℕ) (s : SourceState) (before : List Entry) (e : Entry) → Fits x s before → (lane_of e.act).src ≡ x →
      (lane_of e.act).class < length channels → Fits x (after_act s e.act) (before ++ e ∷ [])
  fits_act x s before e h src class_in = by_act e.turn e.act src class_in where
    by_act : (turn : ℕ) (act : Act) → (lane_of act).src ≡ x → (lane_of act).class < length channels →
        Fits x (after_act s act) (before ++ record { turn = turn; act = act } ∷ [])
    by_act turn (Offer packet) own in_class =
        fits_packet x s before (record { turn = turn; act = Offer packet }) _ h own in_class
    by_act turn (Close closed) own in_class =
        fits_packet x s before (record { turn = turn; act = Close closed }) _ h own in_class

  fits_all : (x : ℕ) (s : SourceState) (before es : List Entry) → Fits x s before → AreOf x es →
      Fits x (after_entries s es) (before ++ es)
  fits_all x s before [] h of = subst (λ (b : List Entry). Fits x s b) (sym (append-nil before)) h
  fits_all x s before (e ∷ es) h of =
      subst (λ (b : List Entry). Fits x (after_entries (after_act s e.act) es) b) (append_assoc before (e ∷ []) es)
      (fits_all x (after_act s e.act) (before ++ e ∷ []) es (fits_act x s before e h of.0 of.1) of.2)

  same_everywhere : {A : Type 0} (n i : ℕ) (d : A) → get_or (replicate n d) i d ≡ d
  same_everywhere zero i d = refl
  same_everywhere (suc n) zero d = refl
  same_everywhere (suc n) (suc i) d = same_everywhere n i d

  fresh_fits : (x : ℕ) → Fits x (fresh_source x (node_count mesh) channels) []
  fresh_fits x = record {
    node = refl;
    nodes = refl;
    classes = refl;
    lanes = λ lane src class.
        let none = same_everywhere (node_count mesh * length channels)
        (lane_line (fresh_source x (node_count mesh) channels) lane) fresh_lane in
        record {
          closed = λ shut. let clash = ap (λ (a : LaneState). a.closed) (sym none) ∙ shut in absurd (cc);
          next = let is = ap (λ (a : LaneState). a.next) none in omega arith;
        };
  }

  -- nothing refuses the next
  module _ (x : ℕ) (new : SourceState) (accepted : List Entry) (next : Entry) (few : length accepted < 65535)
      (of : AreOf x accepted) (has : HasAccepted (fresh_source x (node_count mesh) channels) accepted new)
      (src : (lane_of next.act).src ≡ x) (fine : IsAcceptable mesh channels accepted next.act) where
    abbrev so_far : SourceState
    so_far = after_entries (fresh_source x (node_count mesh) channels) accepted

    fits : Fits x so_far accepted
    fits = fits_all x (fresh_source x (node_count mesh) channels) [] accepted (fresh_fits x) of

    same_lane : lane_at new (lane_of next.act) ≡ lane_at so_far (lane_of next.act)
    same_lane =
        let lane = lane_of next.act in
        ap (λ (l : List LaneState). get_or l (lane_line new lane) fresh_lane) has.lanes
        ∙ ap (λ (c : List ℕ). get_or so_far.lanes (lane.dst * length c + lane.class) fresh_lane) has.channels

    is_open : IsOpen new (lane_of next.act)
    is_open =
        let lane = lane_of next.act in
        let kept = fits.lanes lane src fine.class in
        let nodes = has.nodes ∙ fits.nodes in
        let classes = ap (λ (c : List ℕ). length c) (has.channels ∙ fits.classes) in
        let dst = fine.dst in
        let class = fine.class in
        let number = ap (λ (a : LaneState). a.next) same_lane in
        let least = kept.next in
        record {
          from_here = src ∙ sym (has.node ∙ fits.node);
          dst_in = omega arith;
          class_in = omega arith;
          room = omega arith;
          open_yet = elim (bool_cases (lane_at new lane).closed) [
            | inl shut ↦
                let closed = kept.closed (ap (λ (a : LaneState). a.closed) (sym same_lane) ∙ shut) in
                let yet = fine.open_lane in
                absurd (cc)
            | inr yet ↦ yet
          ];
        }

    one_channel : is_close next.act ≡ true → slice_index new.channels (lane_of next.act).class ≤ 1
    one_channel last =
        subst (λ (c : List ℕ). slice_index c (lane_of next.act).class ≤ 1) (sym (has.channels ∙ fits.classes))
        (by_act next.act last fine.may_close) where
          by_act : (act : Act) → is_close act ≡ true → MayClose channels act
              → slice_index channels (lane_of act).class ≤ 1
          by_act (Offer packet) last may = absurd (cc)
          by_act (Close lane) last may = omega arith

    takes_next : refusal new (lane_of next.act) (is_close next.act) ≡ None
    takes_next = refuses_none new (lane_of next.act) (is_close next.act) is_open one_channel

  pub never_refuses : (script : List Entry) → IsAcceptableScript mesh channels script
      → (x n : ℕ) (taken left : List Entry)
      (next : Entry) (new : SourceState) (why : OfferFault) → begun_at x (due n script) ≡ taken ++ next ∷ left →
      HasAccepted (fresh_source x (node_count mesh) channels) (begun_at x (due_before n script) ++ taken) new →
      Refuses new next why → ⊥
  never_refuses script fine x n taken left next new why cut has refuses =
      let P = begun_at x (due_before n script) in
      let all : List Entry = begun_at x (due_before (n + 1) script) in
      let whole : all ≡ (P ++ taken) ++ next ∷ left
      = begun-more script n x fine.in_order
      ∙ (ap (λ (l : List Entry). P ++ l) cut ∙ sym (append_assoc P taken (next ∷ left))) in
      let below = picked (λ (e : Entry). Rattle.std.specs.Prelude.nat_lt e.turn (n + 1)) [] [] script
      (λ lane shut. shut) fine.entries in
      let here = picked (λ (e : Entry). (lane_of e.act).src == x) [] [] (due_before (n + 1) script)
      (λ lane shut. shut) below in
      let of = begun_of x [] (due_before (n + 1) script) below in
      let fine_next = acceptable_at [] (P ++ taken) left next
      (subst (λ (l : List Entry). AreAcceptable mesh channels [] l) whole here) in
      let of_whole = subst (λ (l : List Entry). AreOf x l) whole of in
      let count = ap (λ (l : List Entry). length l) whole in
      let longer = length-append (P ++ taken) (next ∷ left) in
      let few = fine.few in
      let one = fewer (λ (e : Entry). (lane_of e.act).src == x) (due_before (n + 1) script) in
      let two = fewer (λ (e : Entry). Rattle.std.specs.Prelude.nat_lt e.turn (n + 1)) script in
      let none = takes_next x new (P ++ taken) next (omega arith) (of_front x (P ++ taken) (next ∷ left) of_whole) has
      (of_next x (P ++ taken) left next of_whole) fine_next in
      let clash = sym none ∙ refuses in
      absurd (cc)

-- A run of workers on a new network, by such a script

fresh_at : (mesh channels : List ℕ) (depth : ℕ) (names : List (List ℕ)) (s : NetState)
    → IsFresh mesh channels depth names s →
    (x : ℕ) → source_at s x ≡ fresh_source x (node_count mesh) channels
fresh_at mesh channels depth names s fresh x =
    let same : node_at s x ≡ slice_index_or s.nodes x (fresh_node mesh channels depth x)
    = λ t. slice_index_or s.nodes x (fresh_node (fresh.same_mesh t) (fresh.same_channels t) (fresh.same_depth t) x) in
    ap (λ (n : Node). n.source) (same ∙ fresh.nodes x)

-- no worker is stopped by a refusal
pub run_never_refuses : (stop pass : ℕ → ℕ → Type 0) (mesh channels : List ℕ) (depth : ℕ) (names : List (List ℕ))
    (script : List Entry) (plan : RunPlan) (old : NetState) (end : RunEnd) → IsFresh mesh channels depth names old →
    IsAcceptableScript mesh channels script → (runs : RunsTo stop pass script plan old end)
    → (w : ℕ) (why : OfferFault) → w < plan.workers → (ending_at runs.endings w).why ≡ Some (Refused why) → ⊥
run_never_refuses stop pass mesh channels depth names script plan old end fresh fine runs w why below is =
    let n = (ending_at runs.endings w).ended in
    let r : RefusesItsNext script n why plan.workers w old end.net = runs.refused w why below is in
    let accepted : List Entry = begun_at r.node (due_before n script) ++ r.taken in
    let has : HasAccepted (fresh_source r.node (node_count mesh) channels) accepted (source_at end.net r.node)
    = subst (λ (s : SourceState). HasAccepted s accepted (source_at end.net r.node))
    (fresh_at mesh channels depth names old fresh r.node) r.accepted in
    never_refuses mesh channels script fine r.node n r.taken r.left r.next
    (source_at end.net r.node) why r.cut has r.refused
