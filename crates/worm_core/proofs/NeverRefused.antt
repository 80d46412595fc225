-- From an acceptable script no source refuses: what a source keeps of a lane is never ahead of the entries before.
use Rattle.std.proofs.Common.{◌≡◌, ◌≢◌, ℕ, zero, suc, ◌+◌, ◌*◌, ◌<◌, ◌≤◌, ◌==◌, ◌&&◌, Bool, true, false, ◌⊎◌, inl, inr}
use Rattle.std.proofs.Common.{List, [], ◌∷◌, ◌++◌, length, map, set, get_or, Ok, Err, Option, Some, None, refl, arith}
use Rattle.std.proofs.Common.{ap, sym, subst, ◌∙◌, append_assoc, length-append}
use Rattle.std.specs.Prelude.{Result, IsSome, slice_index_or}
use Rattle.std.specs.List.{range_with_len}
use Rattle.std.proofs.lemmas.Bool.{cases_eq, eqb-true}
use Rattle.std.proofs.lemmas.List.{append-nil, get_or-set_other}
use Rattle.std.proofs.lemmas.Nat.{same_from_place}
use Rattle.worm_flit.specs.declared.Lane.{Lane}
use Rattle.worm_flit.specs.declared.Flit.{Flit}
use Rattle.worm_mesh.specs.Address.{node_count}
use Rattle.worm_term.specs.declared.fault.OfferFault.{OfferFault}
use Rattle.worm_term.specs.declared.source.LaneState.{LaneState}
use Rattle.worm_term.specs.Source.{SourceState, IsOpen, fresh_lane, with_packet}
use Rattle.worm_theory.proofs.Places.{bool_cases}
use Rattle.worm_node.specs.declared.node.Node.{Node}
use Rattle.worm_script.specs.declared.entry.Act.{Act}
use Rattle.worm_script.specs.declared.entry.Act.TheVariants.{Offer, Close}
use Rattle.worm_script.specs.declared.entry.Entry.{Entry}
use Rattle.worm_region.specs.declared.step.Moved.{Moved}
use Rattle.worm_region.specs.declared.step.Moved.TheVariants.{Done, Idle}
use Rattle.worm_region.specs.declared.fault.StepFault.{StepFault}
use Rattle.worm_region.specs.declared.fault.StepFault.TheVariants.{NoSuchPlace, Refused, NoMemory}
use Rattle.worm_node.specs.NewNodes.{fresh_node}
use Rattle.worm_region.specs.State.{NetState, node_at, source_at, with_source}
use Rattle.worm_region.specs.Moves.{done_step}
use Rattle.worm_region.specs.NewNet.{IsFresh}
use Rattle.worm_region.specs.Answers.{Answers, refusal_of}
use Rattle.worm_script.specs.Script.{lane_of, due, begun_at}
use Rattle.worm_core.specs.Acceptable.{closes, is_closed, IsAcceptable, AreAcceptable, IsAcceptableScript}
use Rattle.worm_core.specs.Acceptable.{EndsForMemory, IsTakenWhole}
use Rattle.worm_region.specs.Turns.{Each, Tries, NodeTurn, Turn, ask, fault_of}
use Rattle.worm_region.proofs.NewNet.{all_one}
use Rattle.worm_region.proofs.Sources.{refuses_none}
use Rattle.worm_core.proofs.SourceLedgers.{Ledger, ledger, ledger_at, LedgersStand, no_fault, want_of_memory}
use Rattle.worm_core.proofs.SourceLedgers.{quiet_after, quiet_drains}
use Rattle.worm_core.proofs.ScriptParts.{earlier, rises, earlier_more, acceptable_due, few_due}
use Rattle.worm_core.proofs.ClosedBefore.{still_closed, closed_last}

-- what a source keeps of a lane
abbrev lane_state : Ledger → Lane → LaneState
lane_state l lane = slice_index_or l.lanes (lane.dst * length l.channels + lane.class) fresh_lane

-- it has no more packets and marks than there are entries before, and is closed only if one of these closes it
record Fits (l : Ledger) (before : List Entry) (lane : Lane) : Type 0 where
  closed : (lane_state l lane).closed ≡ true → is_closed before lane ≡ true
  next : (lane_state l lane).next ≤ length before

record IsSourceOf (mesh channels : List ℕ) (x : ℕ) (l : Ledger) : Type 0 where
  same_node : l.node ≡ x
  same_nodes : l.nodes ≡ node_count mesh
  same_channels : l.channels ≡ channels

fits_more : (l : Ledger) (before more : List Entry) (lane : Lane) → Fits l before lane → Fits l (before ++ more) lane
fits_more l before more lane h = record {
  closed = λ e. still_closed before more lane (h.closed e);
  next = let few = h.next in omega (arith, length-append before more);
}

-- a write at a place reads as what was written, or as before where the place is not there
set_read : {A : Type 0} (xs : List A) (i : ℕ) (v d : A)
    → (get_or (set xs i v) i d ≡ v) ⊎ (get_or (set xs i v) i d ≡ get_or xs i d)
set_read [] i v d = inr refl
set_read (x ∷ xs) zero v d = inl refl
set_read (x ∷ xs) (suc i) v d = set_read xs i v d

-- the ledger after a packet or a mark of a lane
module _ (before : List Entry) (e : Entry) (l : Ledger) (lane : Lane) (class_in : lane.class < length l.channels)
    (is_last : Bool)
    (shuts : is_last ≡ true → (other : Lane) → other.src ≡ lane.src → other.dst ≡ lane.dst → other.class ≡ lane.class
    → closes other e.act ≡ true)
    (own : Fits l before lane) where
  abbrev grown : Ledger
  grown = record l {
    lanes = set l.lanes (lane.dst * length l.channels + lane.class)
        (record { next = (lane_state l lane).next + 1; closed = is_last });
  }

  grown_fits : (other : Lane) → other.src ≡ lane.src → other.class < length l.channels → Fits l before other
      → Fits grown (before ++ e ∷ []) other
  grown_fits other src other_in h =
      let n = length l.channels in
      let put : LaneState = record { next = (lane_state l lane).next + 1; closed = is_last } in
      elim (cases_eq (other.dst * length l.channels + other.class) (lane.dst * length l.channels + lane.class)) [
        | inl same ↦
            let both = same_from_place other.dst other.class lane.dst lane.class
            (length l.channels) other_in class_in same in
            let read : (lane_state grown other ≡ put) ⊎ (lane_state grown other ≡ lane_state l other) = subst
            (λ (i : ℕ). (get_or (set l.lanes i put) (other.dst * length l.channels + other.class) fresh_lane ≡ put)
            ⊎ (get_or (set l.lanes i put) (other.dst * length l.channels + other.class) fresh_lane
            ≡ lane_state l other))
            same (set_read l.lanes (other.dst * length l.channels + other.class) put fresh_lane) in
            elim read [
              | inl now ↦ record {
                closed = λ shut. closed_last before e other
                    (shuts (ap (λ (a : LaneState). a.closed) (sym now) ∙ shut) other src both.0 both.1);
                next = let few = own.next in let is = ap (λ (a : LaneState). a.next) now in
                    omega (arith, length-append before (e ∷ []));
              }
              | inr old ↦
                  let more = fits_more l before (e ∷ []) other h in
                  record {
                    closed = λ shut. more.closed (ap (λ (a : LaneState). a.closed) (sym old) ∙ shut);
                    next = let few = more.next in let is = ap (λ (a : LaneState). a.next) old in omega arith;
                  }
            ]
        | inr differ ↦
            let old : lane_state grown other ≡ lane_state l other =
            get_or-set_other l.lanes (lane.dst * length l.channels + lane.class)
            (other.dst * length l.channels + other.class) put fresh_lane differ in
            let more = fits_more l before (e ∷ []) other h in
            record {
              closed = λ shut. more.closed (ap (λ (a : LaneState). a.closed) (sym old) ∙ shut);
              next = let few = more.next in let is = ap (λ (a : LaneState). a.next) old in omega arith;
            }
      ]

-- while a node's source is asked

record Stage (mesh channels : List ℕ) (start : NetState) (x : ℕ) (before : List Entry) (s : NetState) : Type 0 where
  same_mesh : s.mesh ≡ mesh
  source : IsSourceOf mesh channels x (ledger_at s x)
  others : (y : ℕ) → y ≢ x → ledger_at s y ≡ ledger_at start y
  fits : (lane : Lane) → lane.src ≡ x → lane.class < length channels → Fits (ledger_at s x) before lane

stage_more : (mesh channels : List ℕ) (start s : NetState) (x : ℕ) (before more : List Entry)
    → Stage mesh channels start x before s → Stage mesh channels start x (before ++ more) s
stage_more mesh channels start s x before more h = record {
  same_mesh = h.same_mesh;
  source = h.source;
  others = h.others;
  fits = λ lane src class. fits_more (ledger_at s x) before more lane (h.fits lane src class);
}

stage_moved : (mesh channels : List ℕ) (start s t : NetState) (x : ℕ) (before : List Entry) → LedgersStand s t
    → Stage mesh channels start x before s → Stage mesh channels start x before t
stage_moved mesh channels start s t x before stands h = record {
  same_mesh = stands.mesh ∙ h.same_mesh;
  source = subst (IsSourceOf mesh channels x) (sym (stands.ledgers x)) h.source;
  others = λ y ne. stands.ledgers y ∙ h.others y ne;
  fits = λ lane src class. subst (λ (l : Ledger). Fits l before lane) (sym (stands.ledgers x)) (h.fits lane src class);
}

-- a source's packet or mark, into the network
module _ (mesh channels : List ℕ) (start s : NetState) (x : ℕ) (before : List Entry) (e : Entry) (lane : Lane)
    (fs : List Flit) (is_last : Bool)
    (h : Stage mesh channels start x before s) (src : lane.src ≡ x) (class_in : lane.class < length channels)
    (shuts : is_last ≡ true → (other : Lane) → other.src ≡ lane.src → other.dst ≡ lane.dst → other.class ≡ lane.class
    → closes other e.act ≡ true) where
  abbrev new_source : SourceState
  new_source = with_packet (source_at s x) lane fs is_last

  abbrev new_state : NetState
  new_state = with_source s x new_source

  others_stay : (y : ℕ) → y ≢ x → ledger_at new_state y ≡ ledger_at s y
  others_stay y ne = ap (λ (n : Node). ledger n.source)
      (get_or-set_other s.nodes x y (record (node_at s x) { source = new_source })
      (fresh_node s.mesh s.channels s.depth y) ne)

  here : (ledger_at new_state x ≡ ledger new_source) ⊎ (ledger_at new_state x ≡ ledger_at s x)
  here = elim (set_read s.nodes x (record (node_at s x) { source = new_source })
      (fresh_node s.mesh s.channels s.depth x)) [
        | inl now ↦ inl (ap (λ (n : Node). ledger n.source) now)
        | inr old ↦ inr (ap (λ (n : Node). ledger n.source) old)
      ]

  in_ledger : (k : ℕ) → k < length channels → k < length (ledger_at s x).channels
  in_ledger k below = rw h.source.same_channels below

  stage_asked : Stage mesh channels start x (before ++ e ∷ []) new_state
  stage_asked = elim here [
    | inl now ↦ record {
      same_mesh = h.same_mesh;
      source = subst (IsSourceOf mesh channels x) (sym now)
          (record {
            same_node = h.source.same_node;
            same_nodes = h.source.same_nodes;
            same_channels = h.source.same_channels;
          });
      others = λ y ne. others_stay y ne ∙ h.others y ne;
      fits = λ other from class. subst (λ (l : Ledger). Fits l (before ++ e ∷ []) other) (sym now)
          (grown_fits before e (ledger_at s x) lane (in_ledger lane.class class_in) is_last shuts
          (h.fits lane src class_in) other (from ∙ sym src) (in_ledger other.class class)
          (h.fits other from class));
    }
    | inr old ↦ record {
      same_mesh = h.same_mesh;
      source = subst (IsSourceOf mesh channels x) (sym old) h.source;
      others = λ y ne. others_stay y ne ∙ h.others y ne;
      fits = λ other from class. subst (λ (l : Ledger). Fits l (before ++ e ∷ []) other) (sym old)
          (fits_more (ledger_at s x) before (e ∷ []) other (h.fits other from class));
    }
  ]

-- a close closes its own lane
closes_own : (lane other : Lane) → other.src ≡ lane.src → other.dst ≡ lane.dst → other.class ≡ lane.class
    → ((lane.src == other.src) && (lane.dst == other.dst) && (lane.class == other.class)) ≡ true
closes_own lane other a b c = grind arith

module _ (mesh channels : List ℕ) (start : NetState) (x : ℕ) (x_in : x < node_count mesh) where
  -- the entry is done
  stage_done : (before : List Entry) (turn : ℕ) (act : Act) (s : NetState) → Stage mesh channels start x before s
      → IsAcceptable mesh channels before act → (lane_of act).src ≡ x
      → Stage mesh channels start x (before ++ (record { turn = turn; act = act }) ∷ []) (done_step s (ask x act))
  stage_done before turn (Offer packet) s h good src =
      stage_asked mesh channels start s x before
      (record { turn = turn; act = Offer packet }) packet.lane _ false h src good.class (λ never. absurd (cc))
  stage_done before turn (Close lane) s h good src =
      stage_asked mesh channels start s x before (record { turn = turn; act = Close lane }) lane _ true h src good.class
      (λ last other a b c. closes_own lane other a b c)

  -- the source has the lane open
  opened : (before : List Entry) (act : Act) (s : NetState) → Stage mesh channels start x before s
      → IsAcceptable mesh channels before act → (lane_of act).src ≡ x → length before < 65535
      → IsOpen (source_at s x) (lane_of act)
  opened before act s h good src few =
      let own = h.fits (lane_of act) src good.class in
      let dst = good.dst in
      let class = good.class in
      record {
        from_here = src ∙ sym h.source.same_node;
        dst_in = rw h.source.same_nodes dst;
        class_in = rw h.source.same_channels class;
        room = let next = own.next in omega arith;
        open_yet = elim (bool_cases (lane_state (ledger_at s x) (lane_of act)).closed) [
          | inl shut ↦ let clash : true ≡ false = sym (own.closed shut) ∙ good.open_lane in absurd (cc)
          | inr is ↦ is
        ];
      }

  refuses_not : (before : List Entry) (act : Act) (s : NetState) → Stage mesh channels start x before s
      → IsAcceptable mesh channels before act → (lane_of act).src ≡ x → length before < 65535
      → refusal_of s (ask x act) ≡ None
  refuses_not before (Offer packet) s h good src few =
      refuses_none (source_at s x) packet.lane false (opened before (Offer packet) s h good src few)
      (λ never. absurd (cc))
  refuses_not before (Close lane) s h good src few =
      refuses_none (source_at s x) lane true (opened before (Close lane) s h good src few)
      (λ last. let one = good.may_close in rw h.source.same_channels (omega arith))

  -- so whatever the answer, it is no refusal, and the entry is behind
  answered : (before : List Entry) (turn : ℕ) (act : Act) (s new : NetState) (answer : Result Moved StepFault)
      → Stage mesh channels start x before s → IsAcceptable mesh channels before act → (lane_of act).src ≡ x
      → length before < 65535
      → Answers s (ask x act) answer new → EndsForMemory (fault_of answer)
      × Stage mesh channels start x (before ++ (record { turn = turn; act = act }) ∷ []) new
  answered before turn act s new (Ok Done) h good src few a = (
    no_fault,
    subst (λ (t : NetState). Stage mesh channels start x
        (before ++ (record { turn = turn; act = act }) ∷ []) t) (sym a.exact)
        (stage_done before turn act s h good src),
  )
  answered before turn act s new (Ok Idle) h good src few a = (
    no_fault,
    subst (λ (t : NetState). Stage mesh channels start x
        (before ++ (record { turn = turn; act = act }) ∷ []) t) (sym a.3)
        (stage_more mesh channels start s x before _ h),
  )
  answered before turn act s new (Err NoSuchPlace) h good src few a = (
    no_fault,
    subst (λ (t : NetState). Stage mesh channels start x
        (before ++ (record { turn = turn; act = act }) ∷ []) t) (sym a.1)
        (stage_more mesh channels start s x before _ h),
  )
  answered before turn act s new (Err (Refused f)) h good src few a =
      let clash : ◌≡◌ {A = Option OfferFault} None (Some f) = sym (refuses_not before act s h good src few) ∙ a.2 in
      absurd (cc)
  answered before turn act s new (Err NoMemory) h good src few a = (
    want_of_memory,
    subst (λ (t : NetState). Stage mesh channels start x
        (before ++ (record { turn = turn; act = act }) ∷ []) t) (sym a.3)
        (stage_more mesh channels start s x before _ h),
  )

  asked_all : (entries before : List Entry) (s new : NetState) (fault : Option StepFault)
      → Stage mesh channels start x before s → AreAcceptable mesh channels before entries
      → length before + length entries < 65535
      → Each Tries (map (λ (e : Entry). ask x e.act) (begun_at x entries)) s fault new
      → EndsForMemory fault × Stage mesh channels start x (before ++ entries) new
  asked_all [] before s new fault h good few a = (
    inl a.0,
    subst (λ (b : List Entry). Stage mesh channels start x b new) (sym (append-nil before))
        (subst (λ (t : NetState). Stage mesh channels start x before t) (sym a.1) h),
  )
  asked_all (e ∷ entries) before s new fault h good few a =
      let longer : length (before ++ e ∷ []) + length entries < 65535 = omega (arith, length-append before (e ∷ [])) in
      let whole : (t : NetState) → Stage mesh channels start x ((before ++ e ∷ []) ++ entries) t
      → Stage mesh channels start x (before ++ e ∷ entries) t =
      λ t. subst (λ (b : List Entry). Stage mesh channels start x b t) (append_assoc before (e ∷ []) entries) in
      elim (bool_cases ((lane_of e.act).src == x)) [
        | inl is ↦
            let src : (lane_of e.act).src ≡ x = eqb-true (lane_of e.act).src x is in
            let here : begun_at x (e ∷ entries) ≡ e ∷ begun_at x entries = rw is refl in
            let steps = subst (λ (es : List Entry). Each Tries (map (λ (f : Entry). ask x f.act) es) s fault new) here
            a in
            elim steps [
              | inl ended ↦
                  let answer = answered before e.turn e.act s new ended.1.0 h good.0 src (omega arith) ended.1.1 in (
                    subst (λ (f : Option StepFault). EndsForMemory f) (sym ended.1.2) answer.0,
                    whole new (stage_more mesh channels start new x (before ++ e ∷ []) entries answer.1),
                  )
              | inr on ↦
                  let answer = answered before e.turn e.act s on.0 on.1.0 h good.0 src (omega arith) on.1.1 in
                  let rest = asked_all entries (before ++ e ∷ []) on.0 new fault answer.1 good.1 longer on.2 in
                  (rest.0, whole new rest.1)
            ]
        | inr other ↦
            let here : begun_at x (e ∷ entries) ≡ begun_at x entries = rw other refl in
            let steps = subst (λ (es : List Entry). Each Tries (map (λ (f : Entry). ask x f.act) es) s fault new) here
            a in
            let rest = asked_all entries (before ++ e ∷ []) s new fault
            (stage_more mesh channels start s x before (e ∷ []) h) good.1 longer steps in
            (rest.0, whole new rest.1)
      ]

some_none : {A : Type 0} (fault : Option A) → IsSome fault → fault ≡ None → ⊥
some_none None some none = absurd (cc)
some_none {A} (Some f) some none = let is : ◌≡◌ {A = Option A} (Some f) None = none in absurd (cc)

-- a turn, node by node: the nodes below n have been asked the entries that are due, the others have not

record Midway (mesh channels : List ℕ) (before entries : List Entry) (n : ℕ) (s : NetState) : Type 0 where
  same_mesh : s.mesh ≡ mesh
  sources : (y : ℕ) → y < node_count mesh → IsSourceOf mesh channels y (ledger_at s y)
  asked : (lane : Lane) → lane.src < n → lane.class < length channels
      → Fits (ledger_at s lane.src) (before ++ entries) lane
  waiting : (lane : Lane) → n ≤ lane.src → lane.src < node_count mesh → lane.class < length channels
      → Fits (ledger_at s lane.src) before lane

module _ (mesh channels : List ℕ) (before entries : List Entry) (good : AreAcceptable mesh channels before entries)
    (few : length before + length entries < 65535) where
  first_stage : (n : ℕ) (s : NetState) → n < node_count mesh → Midway mesh channels before entries n s
      → Stage mesh channels s n before s
  first_stage n s n_in h = record {
    same_mesh = h.same_mesh;
    source = h.sources n n_in;
    others = λ y ne. refl;
    fits = λ lane src class. subst (λ (y : ℕ). Fits (ledger_at s y) before lane) src
        (h.waiting lane (omega arith) (omega arith) class);
  }

  one_more : (n : ℕ) (s new : NetState) → Midway mesh channels before entries n s
      → Stage mesh channels s n (before ++ entries) new → Midway mesh channels before entries (n + 1) new
  one_more n s new h at = record {
    same_mesh = at.same_mesh;
    sources = λ y y_in. elim (cases_eq y n) [
      | inl same ↦ subst (λ (z : ℕ). IsSourceOf mesh channels z (ledger_at new z)) (sym same) at.source
      | inr differ ↦ subst (IsSourceOf mesh channels y) (sym (at.others y differ)) (h.sources y y_in)
    ];
    asked = λ lane below class. elim (cases_eq lane.src n) [
      | inl same ↦ subst (λ (z : ℕ). Fits (ledger_at new z) (before ++ entries) lane) (sym same)
          (at.fits lane same class)
      | inr differ ↦ subst (λ (l : Ledger). Fits l (before ++ entries) lane) (sym (at.others lane.src differ))
          (h.asked lane (omega arith) class)
    ];
    waiting = λ lane above src_in class.
        let differ : lane.src ≢ n = λ same. absurd (omega arith) in
        subst (λ (l : Ledger). Fits l before lane) (sym (at.others lane.src differ))
        (h.waiting lane (omega arith) src_in class);
  }

  node_turn : (n : ℕ) (s new : NetState) (fault : Option StepFault) → n < node_count mesh
      → Midway mesh channels before entries n s → NodeTurn entries n s fault new
      → EndsForMemory fault × Midway mesh channels before entries (n + 1) new
  node_turn n s new fault n_in h a = elim a [
    | inl ended ↦
        let asked = asked_all mesh channels s n n_in entries before s new fault
        (first_stage n s n_in h) good few ended.1 in
        (asked.0, one_more n s new h asked.1)
    | inr on ↦
        let asked = asked_all mesh channels s n n_in entries before s on.0 None
        (first_stage n s n_in h) good few on.1 in
        let rest = quiet_after n on.0 new fault on.2 in
        (rest.1, one_more n s new h (stage_moved mesh channels s on.0 new n (before ++ entries) rest.0 asked.1))
  ]

  node_turns : (k n : ℕ) (s new : NetState) (fault : Option StepFault) → n + k ≤ node_count mesh
      → Midway mesh channels before entries n s → Each (NodeTurn entries) (range_with_len n k) s fault new
      → EndsForMemory fault × (fault ≡ None → Midway mesh channels before entries (n + k) new)
  node_turns zero n s new fault fits h a =
      let same : n ≡ n + zero = omega arith in (
        inl a.0,
        λ _. subst (λ (m : ℕ). Midway mesh channels before entries m new) same
            (subst (λ (t : NetState). Midway mesh channels before entries n t) (sym a.1) h),
      )
  node_turns (suc k) n s new fault fits h a = elim a [
    | inl ended ↦
        let here = node_turn n s new fault (omega arith) h ended.1 in
        (here.0, λ none. absurd (some_none fault ended.0 none))
    | inr on ↦
        let here = node_turn n s on.0 None (omega arith) h on.1 in
        let rest = node_turns k (n + 1) on.0 new fault (omega arith) here.1 on.2 in
        let same : n + 1 + k ≡ n + suc k = omega arith in
        (rest.0, λ none. subst (λ (m : ℕ). Midway mesh channels before entries m new) same (rest.1 none))
  ]

  whole_turn : (s new : NetState) (fault : Option StepFault) → Midway mesh channels before entries 0 s
      → Turn entries s fault new → EndsForMemory fault × (fault ≡ None
      → Midway mesh channels before entries (node_count mesh) new)
  unfolding Turn
  whole_turn s new fault h a =
      let nodes = subst (λ (ks : List ℕ). Each (NodeTurn entries) (range_with_len 0 (node_count ks)) s fault new)
      h.same_mesh a in
      let same : 0 + node_count mesh ≡ node_count mesh = omega arith in
      let turn = node_turns (node_count mesh) 0 s new fault (omega arith) h nodes in
      (turn.0, λ none. subst (λ (m : ℕ). Midway mesh channels before entries m new) same (turn.1 none))

-- a new source keeps nothing of a lane
fresh_fits : (mesh channels : List ℕ) (depth x : ℕ) (before : List Entry) (lane : Lane)
    → Fits (ledger (fresh_node mesh channels depth x).source) before lane
fresh_fits mesh channels depth x before lane =
    let is : lane_state (ledger (fresh_node mesh channels depth x).source) lane ≡ fresh_lane =
    all_one (node_count mesh * length channels) (lane.dst * length channels + lane.class) fresh_lane in
    record {
      closed = λ shut. let clash : false ≡ true = ap (λ (a : LaneState). a.closed) (sym is) ∙ shut in absurd (cc);
      next = let none = ap (λ (a : LaneState). a.next) is in omega arith;
    }

-- before turn t

record Ready (mesh channels : List ℕ) (script : List Entry) (t : ℕ) (s : NetState) : Type 0 where
  same_mesh : s.mesh ≡ mesh
  sources : (y : ℕ) → y < node_count mesh → IsSourceOf mesh channels y (ledger_at s y)
  fits : (lane : Lane) → lane.src < node_count mesh → lane.class < length channels
      → Fits (ledger_at s lane.src) (earlier t script) lane

module _ (mesh channels : List ℕ) (script : List Entry) (whole : IsAcceptableScript mesh channels script) where
  turn_taken : (t : ℕ) (s new : NetState) (fault : Option StepFault) → Ready mesh channels script t s
      → Turn (due t script) s fault new → EndsForMemory fault × (fault ≡ None → Ready mesh channels script (t + 1) new)
  turn_taken t s new fault h a =
      let some = few_due script t whole.in_order in
      let few = whole.few in
      let first : Midway mesh channels (earlier t script) (due t script) 0 s = record {
        same_mesh = h.same_mesh;
        sources = h.sources;
        asked = λ lane below class. absurd (omega arith);
        waiting = λ lane above src class. h.fits lane src class;
      } in
      let turn = whole_turn mesh channels (earlier t script) (due t script)
      (acceptable_due mesh channels script t whole.in_order whole.entries) (omega arith) s new fault first a in (
        turn.0,
        λ none.
            let at = turn.1 none in
            record {
              same_mesh = at.same_mesh;
              sources = at.sources;
              fits = λ lane src class. subst (λ (b : List Entry). Fits (ledger_at new lane.src) b lane)
                  (sym (earlier_more t 0 script (rises script whole.in_order))) (at.asked lane src class);
            },
      )

  turns_taken : (k t : ℕ) (s new : NetState) (fault : Option StepFault) → Ready mesh channels script t s
      → Each (λ u. Turn (due u script)) (range_with_len t k) s fault new → fault ≡ None
      → Ready mesh channels script (t + k) new
  turns_taken zero t s new fault h a none =
      let same : t ≡ t + zero = omega arith in
      subst (λ (u : ℕ). Ready mesh channels script u new) same
      (subst (λ (r : NetState). Ready mesh channels script t r) (sym a.1) h)
  turns_taken (suc k) t s new fault h a none = elim a [
    | inl ended ↦ absurd (some_none fault ended.0 none)
    | inr on ↦
        let same : t + 1 + k ≡ t + suc k = omega arith in
        subst (λ (u : ℕ). Ready mesh channels script u new) same
        (turns_taken k (t + 1) on.0 new fault ((turn_taken t s on.0 None h on.1).1 refl) on.2 none)
  ]

  opening_ready : (depth : ℕ) (names : List (List ℕ)) (opening : NetState) → IsFresh mesh channels depth names opening
      → Ready mesh channels script 0 opening
  opening_ready depth names opening fresh =
      let at : (y : ℕ) → ledger_at opening y ≡ ledger (fresh_node mesh channels depth y).source = λ y.
      let default : ledger_at opening y ≡ ledger
      (slice_index_or opening.nodes y (fresh_node mesh channels depth y)).source =
      λ t. ledger (slice_index_or opening.nodes y
      (fresh_node (fresh.same_mesh t) (fresh.same_channels t) (fresh.same_depth t) y)).source in
      default ∙ ap (λ (n : Node). ledger n.source) (fresh.nodes y) in
      record {
        same_mesh = fresh.same_mesh;
        sources = λ y y_in. subst (IsSourceOf mesh channels y) (sym (at y))
            (record { same_node = refl; same_nodes = refl; same_channels = refl });
        fits = λ lane src class. subst (λ (l : Ledger). Fits l (earlier 0 script) lane) (sym (at lane.src))
            (fresh_fits mesh channels depth lane.src (earlier 0 script) lane);
      }

  pub never_refused : IsTakenWhole mesh channels script
  never_refused depth names opening closing fresh turns drain None fault run =
      (quiet_drains drain run.0 closing fault run.2).1
  never_refused depth names opening closing fresh turns drain (Some t) fault run =
      let same : 0 + t ≡ t = omega arith in
      let ready = turns_taken t 0 opening run.2.0 None (opening_ready depth names opening fresh) run.2.1 refl in
      (turn_taken t run.2.0 closing fault (subst (λ (u : ℕ). Ready mesh channels script u run.2.0) same ready)
      run.2.2).0
