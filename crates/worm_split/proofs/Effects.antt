-- What a turn of a part does to the sources and sinks of its nodes.
use Rattle.std.proofs.Common.{◌≡◌, ℕ, zero, suc, ◌+◌, ◌<◌, ◌≤◌, Bool, true, false, inl, inr, List, [], ◌∷◌}
use Rattle.std.proofs.Common.{Option, Some, None, refl, arith, sym, ap, subst, ◌∙◌}
use Rattle.std.specs.Prelude.{IsSome, filter}
use Rattle.std.specs.List.{range_with_len}
use Rattle.std.proofs.lemmas.Bool.{cases_eq}
use Rattle.worm_mesh.specs.Address.{node_count}
use Rattle.worm_term.specs.declared.fault.OfferFault.{OfferFault}
use Rattle.worm_theory.proofs.Places.{bool_cases}
use Rattle.worm_script.specs.Script.{begun_at}
use Rattle.worm_region.specs.State.{IsFramed, IsNodeOf, NetState, node_at, sink_at, source_at}
use Rattle.worm_region.specs.Workable.{owned}
use Rattle.worm_region.specs.declared.fault.StepFault.{StepFault}
use Rattle.worm_region.specs.declared.fault.StepFault.TheVariants.{Refused}
use Rattle.worm_node.specs.declared.node.Node.{Node}
use Rattle.worm_script.specs.declared.entry.Entry.{Entry}
use Rattle.worm_region.specs.Turns.{Each}
use Rattle.worm_split.specs.Effects.{HasAccepted, IsRefused, OneMore, SinksTakeOne, SourceTakes, SourcesTake}
use Rattle.worm_script.specs.Script.{HaveWords}
use Rattle.worm_split.specs.PartState.{PartState}
use Rattle.worm_split.specs.PartTurns.{NodeTurn, Turn}
use Rattle.worm_split.proofs.Accepted.{accepted-none}
use Rattle.worm_split.proofs.OneNodeTouched.{Touches, no_more}
use Rattle.worm_split.proofs.FirstAccepted.{IsSeated, seated_in}
use Rattle.worm_split.proofs.NodeEffects.{NodeDid, NodeRefuses, node_did}

-- the nodes from this one on are there
abbrev AllSeated : ℕ → NetState → Type 0
AllSeated from s = (x : ℕ) → from ≤ x → x < node_count s.mesh → IsSeated s x

-- a node stays seated where another is touched
seated_still : (x y : ℕ) (a b : NetState) → Touches x a b → (y ≡ x → ⊥) → IsSeated a y → IsSeated b y
seated_still x y a b touched away seat = record {
  there = subst (λ (n : ℕ). y < n) (sym touched.count) seat.there;
  in_mesh = subst (λ (mesh : List ℕ). y < node_count mesh) (sym touched.mesh) seat.in_mesh;
  node =
      subst (λ (n : Node). IsNodeOf b.mesh b.channels b.depth y n) (sym (touched.others y away))
      (subst (λ (depth : ℕ). IsNodeOf b.mesh b.channels depth y (node_at a y)) (sym touched.depth)
      (subst (λ (channels : List ℕ). IsNodeOf b.mesh channels a.depth y (node_at a y)) (sym touched.channels)
      (subst (λ (mesh : List ℕ). IsNodeOf mesh a.channels a.depth y (node_at a y)) (sym touched.mesh) seat.node)));
}

-- a node from this one on whose source refuses an entry
record RefusedFrom (entries : List Entry) (own : ℕ
    → Bool) (from : ℕ) (why : OfferFault) (old new : NetState) : Type 0 where
  node : ℕ
  above : from ≤ node
  there : node < node_count old.mesh
  mine : own node ≡ true
  refuses : NodeRefuses entries why node (source_at old node) (source_at new node)

-- what is done at one node
record DidAt (entries : List Entry) (x : ℕ) (old : NetState) (fault : Option StepFault) (new : NetState) : Type 0 where
  takes : SourceTakes entries fault x (source_at old x) (source_at new x)
  one : OneMore (sink_at old x).delivered (sink_at new x).delivered

-- the turns of the nodes from this one on
record TurnsFrom (entries : List Entry) (own : ℕ → Bool) (from : ℕ) (old : NetState) (fault : Option StepFault)
    (new : NetState) : Type 0 where
  mesh : new.mesh ≡ old.mesh
  before : (y : ℕ) → y < from → node_at new y ≡ node_at old y
  did : (y : ℕ) → from ≤ y → y < node_count old.mesh → own y ≡ true → DidAt entries y old fault new
  refuses : (why : OfferFault) → fault ≡ Some (Refused why) → RefusedFrom entries own from why old new

no_fault : (f : Option StepFault) → IsSome f → f ≡ None → ⊥
no_fault None some none = absurd (cc)
no_fault (Some g) some none = absurd (cc)

-- a node that is as it was, of a turn that a fault ended
did_nothing : (entries : List Entry) (y : ℕ) (old new : NetState) (fault : Option StepFault) → IsSome fault →
    node_at new y ≡ node_at old y → DidAt entries y old fault new
did_nothing entries y old new fault some same = record {
  takes = record {
    taken = [];
    left = begun_at y entries;
    cut = refl;
    all = λ none. absurd (no_fault fault some none);
    accepted =
        subst (λ (n : Node). HasAccepted (source_at old y) [] n.source) (sym same) (accepted-none (source_at old y));
  };
  one = no_more (sink_at old y).delivered (sink_at new y).delivered (ap (λ (n : Node). n.sink.delivered) same);
}

-- Of a node whose turn is made, and whose part is not touched before or after

did_first : (entries : List Entry) (x : ℕ) (old mid new : NetState) (fault : Option StepFault) →
    NodeDid entries x old None mid → node_at new x ≡ node_at mid x → DidAt entries x old fault new
did_first entries x old mid new fault did same = record {
  takes = record {
    taken = did.takes.taken;
    left = did.takes.left;
    cut = did.takes.cut;
    all = λ none. did.takes.all refl;
    accepted =
        subst (λ (n : Node). HasAccepted (source_at old x) did.takes.taken n.source) (sym same) did.takes.accepted;
  };
  one = subst (λ (n : Node). OneMore (sink_at old x).delivered n.sink.delivered) (sym same) did.one;
}

did_later : (entries : List Entry) (y : ℕ) (old mid new : NetState) (fault : Option StepFault) →
    node_at mid y ≡ node_at old y → DidAt entries y mid fault new → DidAt entries y old fault new
did_later entries y old mid new fault same did = record {
  takes = subst (λ (n : Node). SourceTakes entries fault y n.source (source_at new y)) same did.takes;
  one = subst (λ (n : Node). OneMore n.sink.delivered (sink_at new y).delivered) same did.one;
}

module _ (entries : List Entry) (own : ℕ → Bool) where
  -- no node is left
  none_from : (from : ℕ) (s : NetState) → from ≡ node_count s.mesh → TurnsFrom entries own from s None s
  none_from from s end = record {
    mesh = refl;
    before = λ y under. refl;
    did = λ y above there mine. absurd (omega arith);
    refuses = λ why is. absurd (cc);
  }

  -- one that is another's
  skips_from : (from : ℕ) (old new : NetState) (fault : Option StepFault) → own from ≡ false →
      TurnsFrom entries own (from + 1) old fault new → TurnsFrom entries own from old fault new
  skips_from from old new fault not_mine rest = record {
    mesh = rest.mesh;
    before = λ y under. rest.before y (omega arith);
    did = λ y above there mine. elim (cases_eq y from) [
      | inl here ↦ let also : own from ≡ true = sym (ap own here) ∙ mine in absurd (cc)
      | inr away ↦ rest.did y (omega arith) there mine
    ];
    refuses = λ why is.
        let r = rest.refuses why is in
        let above = r.above in
        record { node = r.node; above = omega arith; there = r.there; mine = r.mine; refuses = r.refuses };
  }

  -- one whose turn a fault ended
  ends_at : (from : ℕ) (old new : NetState) (fault : Option StepFault) → own from ≡ true → from < node_count old.mesh →
      IsSome fault → NodeDid entries from old fault new → TurnsFrom entries own from old fault new
  ends_at from old new fault mine there some here = record {
    mesh = here.touches.mesh;
    before = λ y under. here.touches.others y (λ same. absurd (omega arith));
    did = λ y above y_in y_mine. elim (cases_eq y from) [
      | inl same ↦
          subst (λ (z : ℕ). DidAt entries z old fault new) (sym same) (record { takes = here.takes; one = here.one })
      | inr away ↦ did_nothing entries y old new fault some (here.touches.others y away)
    ];
    refuses = λ why is.
        record { node = from; above = omega arith; there = there; mine = mine; refuses = here.refuses why is };
  }

  -- one whose turn is made, and those past it
  goes_on : (from : ℕ) (old mid new : NetState) (fault : Option StepFault) → NodeDid entries from old None mid →
      TurnsFrom entries own (from + 1) mid fault new → TurnsFrom entries own from old fault new
  goes_on from old mid new fault here rest =
      let other : (y : ℕ) → from + 1 ≤ y → node_at mid y ≡ node_at old y =
      λ y above. here.touches.others y (λ same. absurd (omega arith)) in
      record {
        mesh = rest.mesh ∙ here.touches.mesh;
        before = λ y under. rest.before y (omega arith) ∙ here.touches.others y (λ same. absurd (omega arith));
        did = λ y above there mine. elim (cases_eq y from) [
          | inl same ↦
              subst (λ (z : ℕ). DidAt entries z old fault new) (sym same)
              (did_first entries from old mid new fault here (rest.before from (omega arith)))
          | inr away ↦
              let there_still : y < node_count mid.mesh =
              subst (λ (mesh : List ℕ). y < node_count mesh) (sym here.touches.mesh) there in
              did_later entries y old mid new fault (other y (omega arith)) (rest.did y (omega arith) there_still mine)
        ];
        refuses = λ why is.
            let r = rest.refuses why is in
            let above = r.above in
            record {
              node = r.node;
              above = omega arith;
              there = subst (λ (mesh : List ℕ). r.node < node_count mesh) here.touches.mesh r.there;
              mine = r.mine;
              refuses =
                  subst (λ (n : Node). NodeRefuses entries why r.node n.source (source_at new r.node))
                  (other r.node r.above) r.refuses;
            };
      }

  turns_from : (n from : ℕ) (old new : PartState) (fault : Option StepFault) → HaveWords entries →
      from + n ≡ node_count old.net.mesh → AllSeated from old.net →
      Each (NodeTurn entries) (filter own (range_with_len from n)) old fault new →
      TurnsFrom entries own from old.net fault new.net
  turns_from zero from old new fault words count seated rests =
      subst (λ (f : Option StepFault). TurnsFrom entries own from old.net f new.net) (sym rests.0)
      (subst (λ (p : PartState). TurnsFrom entries own from old.net None p.net) (sym rests.1)
      (none_from from old.net (omega arith)))
  turns_from (suc n) from old new fault words count seated made = elim (bool_cases (own from)) [
    | inl mine ↦
        let rest : List ℕ = filter own (range_with_len (from + 1) n) in
        let first : filter own (range_with_len from (suc n)) ≡ from ∷ rest = rw mine refl in
        let there : from < node_count old.net.mesh = omega arith in
        let turn = node_did entries from old in
        let seat = seated from (omega arith) there in
        elim (subst (λ (xs : List ℕ). Each (NodeTurn entries) xs old fault new) first made) [
          | inl ended ↦ ends_at from old.net new.net fault mine there ended.0 (turn new fault words seat ended.1)
          | inr on ↦
              let here = turn on.0 None words seat on.1 in
              let same : node_count on.0.net.mesh ≡ node_count old.net.mesh = ap node_count here.touches.mesh in
              goes_on from old.net on.0.net new.net fault here
              (turns_from n (from + 1) on.0 new fault words (omega arith)
              (λ x above x_in. seated_still from x old.net on.0.net here.touches (λ e. absurd (omega arith))
              (seated x (omega arith) (omega arith))) on.2)
        ]
    | inr not_mine ↦
        let rest : List ℕ = filter own (range_with_len (from + 1) n) in
        let past : filter own (range_with_len from (suc n)) ≡ rest = rw not_mine refl in
        skips_from from old.net new.net fault not_mine
        (turns_from n (from + 1) old new fault words (omega arith) (λ x above x_in. seated x (omega arith) x_in)
        (subst (λ (xs : List ℕ). Each (NodeTurn entries) xs old fault new) past made))
  ]

module _ (p : PartState) (entries : List Entry) (fault : Option StepFault) (new : PartState)
    (framed : IsFramed p.net) (words : HaveWords entries) (turned : Turn entries p fault new) where
  whole : TurnsFrom entries (owned p.net) 0 p.net fault new.net
  whole =
      turns_from entries (owned p.net) (node_count p.net.mesh) 0 p new fault words (omega arith)
      (λ x above there. seated_in p.net x framed there) turned

  pub turn-sources : SourcesTake entries p fault new
  turn-sources x there mine = (whole.did x (omega arith) there mine).takes

  pub turn-sinks : SinksTakeOne p new
  turn-sinks x there mine = (whole.did x (omega arith) there mine).one

  pub turn-refused : IsRefused entries p fault new
  turn-refused why is =
      let r = whole.refuses why is in
      record {
        node = r.node;
        there = r.there;
        own = r.mine;
        taken = r.refuses.taken;
        next = r.refuses.next;
        left = r.refuses.left;
        cut = r.refuses.cut;
        accepted = r.refuses.accepted;
        refused = r.refuses.refused;
      }
