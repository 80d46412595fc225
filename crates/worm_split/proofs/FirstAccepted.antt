-- What a source does of what it is asked: it accepts the first entries, and where it refuses one, that one is the next.
use Rattle.std.proofs.Common.{◌≡◌, ℕ, ◌+◌, ◌<◌, ◌≤◌, true, false, ◌⊎◌, inl, inr, List, [], ◌∷◌, ◌++◌, length, map}
use Rattle.std.proofs.Common.{Option, Some, None, Ok, Err, refl, arith, sym, ap, subst, ◌∙◌, nat_le, nat_lt, ◌&&◌}
use Rattle.std.specs.Prelude.{All, IsSome, Result, slice_index}
use Rattle.std.proofs.lemmas.List.Elements.{All-head, All-tail}
use Rattle.worm_flit.specs.declared.Lane.{Lane}
use Rattle.worm_flit.specs.Channels.{first_channel, owns}
use Rattle.worm_flit.specs.Stamps.{of_lane}
use Rattle.worm_flit.proofs.Owners.{owns-from_owner}
use Rattle.worm_mesh.specs.Address.{node_count}
use Rattle.worm_term.specs.declared.fault.OfferFault.{OfferFault}
use Rattle.worm_term.specs.Lanes.{lane_of}
use Rattle.worm_term.specs.Source.{SourceState, IsOpen, classes, lane_at, queue_at}
use Rattle.worm_theory.specs.Network.{Network}
use Rattle.worm_theory.specs.Shape.{OwnsOne}
use Rattle.worm_theory.specs.Steps.{Accepts, Enabled, IsThere, has_mark, lane_injected, next_number, packets_in}
use Rattle.worm_region.specs.Answers.{refusal_of}
use Rattle.worm_region.specs.Moves.{done_step}
use Rattle.worm_region.specs.Replies.{Attempts, Hindered, Replies}
use Rattle.worm_region.specs.Shape.{net_shape}
use Rattle.worm_region.specs.State.{NetState, IsFramed, IsNodeOf, network_of, node_at, queue_of, shape, sink_at}
use Rattle.worm_region.specs.State.{source_at, with_source}
use Rattle.worm_region.specs.Turns.{Each, ask, fault_of}
use Rattle.worm_region.specs.declared.fault.StepFault.{StepFault}
use Rattle.worm_region.specs.declared.fault.StepFault.TheVariants.{NoMemory, NoSuchPlace, Refused}
use Rattle.worm_node.specs.declared.node.Node.{Node}
use Rattle.worm_script.specs.declared.entry.Act.{Act}
use Rattle.worm_script.specs.declared.entry.Act.TheVariants.{Close, Offer}
use Rattle.worm_script.specs.declared.entry.Entry.{Entry}
use Rattle.worm_region.specs.declared.step.Moved.{Moved}
use Rattle.worm_region.specs.declared.step.Moved.TheVariants.{Done, Idle}
use Rattle.worm_region.proofs.Sources.{counted_packets, none_refused}
use Rattle.worm_split.specs.Effects.{HasAccepted, HaveTheSame, Refuses, after_act}
use Rattle.worm_script.specs.Script.{HasWords}
use Rattle.worm_split.proofs.Accepted.{accepted-none, accepted-then, same_source}
use Rattle.worm_split.proofs.OneNodeTouched.{Touches, none_refuses, put_there, put_touches, touched_on, untouched}

-- the node is there, and its parts are those of this node
pub record IsSeated (s : NetState) (x : ℕ) : Type 0 where
  pub there : x < length s.nodes
  pub in_mesh : x < node_count s.mesh
  pub node : IsNodeOf s.mesh s.channels s.depth x (node_at s x)

pub seated_in : (s : NetState) (x : ℕ) → IsFramed s → x < node_count s.mesh → IsSeated s x
seated_in s x framed in_mesh =
    let all = framed.all_nodes in
    let there : x < length s.nodes = omega arith in
    record { there = there; in_mesh = in_mesh; node = framed.each_node x there }

-- A source that refuses nothing of an entry is enabled to accept it

injected_at : (s : NetState) (x k : ℕ) → (network_of s).injected x k ≡ (queue_of s x k).injected
unfolding network_of
injected_at s x k = refl

above : (a v d : ℕ) → (nat_le a v && nat_lt v d) ≡ true → a ≤ v
above a v d e = grind arith

below : (a v d : ℕ) → (nat_le a v && nat_lt v d) ≡ true → v < d
below a v d e = grind arith

one_alone : (mesh channels : List ℕ) (depth class : ℕ) → slice_index channels class ≤ 1 →
    OwnsOne (net_shape mesh channels depth) class
unfolding net_shape
one_alone mesh channels depth class few v owned =
    let test : owns channels class v ≡ true = owns-from_owner channels class v owned.0 owned.1 in
    let from = above (first_channel channels class) v
    (first_channel channels class + slice_index channels class) test in
    let to = below (first_channel channels class) v (first_channel channels class + slice_index channels class) test in
    omega arith

module _ (s : NetState) (x : ℕ) (seat : IsSeated s x) where
  abbrev t : SourceState
  t = source_at s x

  abbrev N : Network
  N = network_of s

  -- what the source's counters say
  counters : (lane : Lane) → lane.src ≡ x → lane.dst < t.nodes → lane.class < classes t →
      (next_number N lane ≡ (lane_at t lane).next) × (has_mark (lane_injected N lane) ≡ (lane_at t lane).closed)
  counters lane src dst_in class_in =
      let from : lane_of t.node lane.dst lane.class ≡ lane =
      ap (λ (n : ℕ). lane_of n lane.dst lane.class) (seat.node.source_node ∙ sym src) in
      let list : (queue_at t lane.class).injected ≡ N.injected lane.src lane.class =
      sym (ap (λ (y : ℕ). N.injected y lane.class) src ∙ injected_at s x lane.class) in
      let counted =
      counted_packets (lane_of t.node lane.dst lane.class) _ _ _
      (seat.node.source_holds.in_order lane.dst lane.class dst_in class_in) in
      let same : of_lane (lane_of t.node lane.dst lane.class) (queue_at t lane.class).injected ≡ lane_injected N lane =
      λ i. of_lane (from i) (list i) in
      (ap packets_in (sym same) ∙ counted.0, ap has_mark (sym same) ∙ counted.1)

  accepts : (lane : Lane) → IsOpen t lane → Accepts (shape s) N x lane
  unfolding net_shape
  accepts lane is_open =
      let src : lane.src ≡ x = is_open.from_here ∙ seat.node.source_node in
      let count = counters lane src is_open.dst_in is_open.class_in in
      let room = is_open.room in
      let number = count.0 in
      let in_mesh = seat.in_mesh in
      record {
        own = src;
        lane_there = record {
          source = rw src in_mesh;
          destination = rw (← seat.node.source_nodes) is_open.dst_in;
          class = rw (← seat.node.source_channels) is_open.class_in;
        };
        is_open = count.1 ∙ is_open.open_yet;
        room = omega arith;
      }

  enabled : (act : Act) → HasWords act → refusal_of s (ask x act) ≡ None → Enabled (shape s) N (ask x act)
  enabled (Offer packet) words none =
      (accepts packet.lane (none_refused t packet.lane false none).0, words.0, words.1)
  enabled (Close lane) words none =
      let found = none_refused t lane true none in
      let few = found.1 refl in (
        accepts lane found.0,
        one_alone s.mesh s.channels s.depth lane.class
            (subst (λ (cs : List ℕ). slice_index cs lane.class ≤ 1) seat.node.source_channels few),
      )

-- What comes of it

-- the source after what it was asked
done_ask : (s : NetState) (x : ℕ) (act : Act)
    → done_step s (ask x act) ≡ with_source s x (after_act (source_at s x) act)
done_ask s x (Offer packet) = refl
done_ask s x (Close lane) = refl

refuses_ask : (s : NetState) (x : ℕ) (e : Entry) (why : OfferFault) → refusal_of s (ask x e.act) ≡ Some why →
    Refuses (source_at s x) e why
refuses_ask s x e why is = by_act e.act is where
  by_act : (act : Act) → refusal_of s (ask x act) ≡ Some why
      → Refuses (source_at s x) (record { turn = e.turn; act = act }) why
  by_act (Offer packet) is = is
  by_act (Close lane) is = is

-- an entry is accepted; or it is not, and a fault says why
pub record TakesIn (e : Entry) (x : ℕ) (old new : NetState) : Type 0 where
  pub exact : new ≡ with_source old x (after_act (source_at old x) e.act)
  pub seat : IsSeated new x

pub record Declines (e : Entry) (x : ℕ) (old : NetState) (fault : Option StepFault) (new : NetState) : Type 0 where
  pub same : new ≡ old
  pub refused : (why : OfferFault) → fault ≡ Some (Refused why) → Refuses (source_at old x) e why

there_of : (s : NetState) (x : ℕ) (act : Act) → x < node_count s.mesh → IsThere (shape s) (ask x act)
unfolding net_shape
there_of s x (Offer packet) there = there
there_of s x (Close lane) there = there

not_hindered : (s : NetState) (x : ℕ) (act : Act) → Hindered s (ask x act) → ⊥
not_hindered s x (Offer packet) h = h
not_hindered s x (Close lane) h = h

asked_one : (x : ℕ) (e : Entry) (old new : NetState) (fault : Option StepFault) → HasWords e.act → IsSeated old x →
    Attempts (ask x e.act) old fault new →
    ((fault ≡ None) × TakesIn e x old new) ⊎ (IsSome fault × Declines e x old fault new)
asked_one x e old new fault words seat tried =
    subst (λ (f : Option StepFault). ((f ≡ None) × TakesIn e x old new) ⊎ (IsSome f × Declines e x old f new))
    (sym tried.2) (by_answer tried.0 tried.1) where
      by_answer : (answer : Result Moved StepFault) → Replies old (ask x e.act) answer new →
          ((fault_of answer ≡ None) × TakesIn e x old new)
          ⊎ (IsSome (fault_of answer) × Declines e x old (fault_of answer) new)
      by_answer (Ok Done) made =
          inl (
            refl,
            record {
              exact = made.exact ∙ done_ask old x e.act;
              seat = seated_in new x made.framed (rw made.config.mesh seat.in_mesh);
            },
          )
      by_answer (Ok Idle) i = absurd (not_hindered old x e.act (i.1 (enabled old x seat e.act words i.2)))
      by_answer (Err NoSuchPlace) i = absurd (i.0 (there_of old x e.act seat.in_mesh))
      by_answer (Err (Refused why)) i =
          inr (
            refl,
            record {
              same = i.3;
              refused = λ other is. let one : why ≡ other = cc in
                  subst (λ (w : OfferFault). Refuses (source_at old x) e w) one (refuses_ask old x e why i.2);
            },
          )
      by_answer (Err NoMemory) i = inr (refl, record { same = i.3; refused = λ why is. absurd (cc) })

-- the source refuses the first of these
pub record RefusesFirst (left : List Entry) (why : OfferFault) (s : SourceState) : Type 0 where
  pub next : Entry
  pub rest : List Entry
  pub first : left ≡ next ∷ rest
  pub refused : Refuses s next why

pub record Asked (entries : List Entry) (x : ℕ) (old : NetState) (fault : Option StepFault)
    (new : NetState) : Type 0 where
  pub touches : Touches x old new
  pub delivered : (sink_at new x).delivered ≡ (sink_at old x).delivered
  pub taken : List Entry
  pub left : List Entry
  pub cut : entries ≡ taken ++ left
  pub all : fault ≡ None → entries ≡ taken
  pub accepted : HasAccepted (source_at old x) taken (source_at new x)
  pub refused : (why : OfferFault) → fault ≡ Some (Refused why) → RefusesFirst left why (source_at new x)

-- nothing of these was accepted
asked_none : (entries : List Entry) (x : ℕ) (s : NetState) (fault : Option StepFault) → (fault ≡ None → entries ≡ []) →
    ((why : OfferFault) → fault ≡ Some (Refused why) → RefusesFirst entries why (source_at s x))
    → Asked entries x s fault s
asked_none entries x s fault all refused = record {
  touches = untouched x s;
  delivered = refl;
  taken = [];
  left = entries;
  cut = refl;
  all = all;
  accepted = accepted-none (source_at s x);
  refused = refused;
}

-- the first was, and then what of the others was
asked_more : (e : Entry) (entries : List Entry) (x : ℕ) (a b c : NetState) (fault : Option StepFault)
    → x < length a.nodes →
    TakesIn e x a b → Asked entries x b fault c → Asked (e ∷ entries) x a fault c
asked_more e entries x a b c fault there first then =
    let n : Node = record (node_at a x) { source = after_act (source_at a x) e.act } in
    let at : node_at b x ≡ n = ap (λ (s : NetState). node_at s x) first.exact ∙ put_there a x n a.links there in
    let touched : Touches x a b = subst (λ (s : NetState). Touches x a s) (sym first.exact)
    (put_touches a x n a.links) in
    let one : HasAccepted (source_at a x) (e ∷ []) (source_at b x) =
    subst (λ (m : Node). HaveTheSame (after_act (source_at a x) e.act) m.source) (sym at)
    (same_source (after_act (source_at a x) e.act)) in
    record {
      touches = touched_on x a b c touched then.touches;
      delivered = then.delivered ∙ ap (λ (m : Node). m.sink.delivered) at;
      taken = e ∷ then.taken;
      left = then.left;
      cut = ap (λ (es : List Entry). e ∷ es) then.cut;
      all = λ none. ap (λ (es : List Entry). e ∷ es) (then.all none);
      accepted = accepted-then (source_at a x) (source_at b x) (source_at c x) (e ∷ []) then.taken one then.accepted;
      refused = then.refused;
    }

no_fault : (f : Option StepFault) → IsSome f → f ≡ None → ⊥
no_fault None some none = absurd (cc)
no_fault (Some g) some none = absurd (cc)

-- the first was not
asked_not : (e : Entry) (entries : List Entry) (x : ℕ) (a b : NetState) (fault : Option StepFault) → IsSome fault →
    Declines e x a fault b → Asked (e ∷ entries) x a fault b
asked_not e entries x a b fault some declined =
    subst (λ (s : NetState). Asked (e ∷ entries) x a fault s) (sym declined.same)
    (asked_none (e ∷ entries) x a fault (λ none. absurd (no_fault fault some none))
    (λ why is. record { next = e; rest = entries; first = refl; refused = declined.refused why is }))

pub asked : (x : ℕ) (entries : List Entry) (old new : NetState) (fault : Option StepFault) →
    All (λ (e : Entry). HasWords e.act) entries → IsSeated old x →
    Each Attempts (map (λ (e : Entry). ask x e.act) entries) old fault new → Asked entries x old fault new
asked x [] old new fault words seat stays =
    subst (λ (f : Option StepFault). Asked [] x old f new) (sym stays.0)
    (subst (λ (s : NetState). Asked [] x old None s) (sym stays.1)
    (asked_none [] x old None (λ none. refl) (λ why is. absurd (none_refuses why is))))
asked x (e ∷ entries) old new fault words seat made =
    let has = All-head (λ (e : Entry). HasWords e.act) e entries words in
    let have = All-tail (λ (e : Entry). HasWords e.act) e entries words in
    elim made [
      | inl ended ↦ elim (asked_one x e old new fault has seat ended.1) [
        | inl took ↦ let none = took.0 in let some = ended.0 in absurd (no_fault fault some none)
        | inr declined ↦ asked_not e entries x old new fault declined.0 declined.1
      ]
      | inr on ↦ elim (asked_one x e old on.0 None has seat on.1) [
        | inl took ↦
            asked_more e entries x old on.0 new fault seat.there took.1
            (asked x entries on.0 new fault have took.1.seat on.2)
        | inr declined ↦ absurd (no_fault None declined.0 refl)
      ]
    ]
