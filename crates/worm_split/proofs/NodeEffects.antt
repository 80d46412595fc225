-- What the turn of a node does to its source and its sink, and that it leaves every other node as it is.
use Rattle.std.proofs.Common.{◌≡◌, ℕ, ◌<◌, ◌==◌, inl, inr, List, ◌∷◌, ◌++◌, length, Option, Some, None}
use Rattle.std.proofs.Common.{refl, sym, ap, subst, ◌∙◌}
use Rattle.std.specs.Option.{option_to_list}
use Rattle.std.proofs.lemmas.List.Elements.{All-filter}
use Rattle.worm_flit.specs.declared.Flit.{Flit}
use Rattle.worm_router.specs.Router.{after_gave}
use Rattle.worm_term.specs.declared.fault.OfferFault.{OfferFault}
use Rattle.worm_term.specs.Source.{SourceState}
use Rattle.worm_region.specs.Replies.{Attempts}
use Rattle.worm_script.specs.Script.{begun_at, lane_of}
use Rattle.worm_region.specs.State.{NetState, router_at, sink_at, source_at}
use Rattle.worm_wires.specs.Links.{LinkView}
use Rattle.worm_region.specs.Turns.{◌and_then◌}
use Rattle.worm_region.specs.Turns.{Allocates, ComesInBy, Passage, lowest_owed, mesh_ports}
use Rattle.worm_region.specs.declared.fault.StepFault.{StepFault}
use Rattle.worm_region.specs.declared.fault.StepFault.TheVariants.{Refused}
use Rattle.worm_script.specs.declared.entry.Entry.{Entry}
use Rattle.worm_split.specs.Effects.{HasAccepted, OneMore, Refuses, SourceTakes, after_entries}
use Rattle.worm_script.specs.Script.{HaveWords}
use Rattle.worm_script.specs.Script.{HasWords}
use Rattle.worm_split.specs.PartState.{PartState}
use Rattle.worm_split.specs.PartTurns.{Gives, GivesCredit, GivesCredits, NodeTurn, PartPassage}
use Rattle.worm_split.specs.PartTurns.{PullsCredit, PullsCredits, PullsFlit, PullsFlits, SendsGranted, Within}
use Rattle.worm_split.proofs.Accepted.{same_source, same_then}
use Rattle.worm_split.proofs.OneNodeTouched.{IsQuiet, Passed, Quiet, Touches, allocates_quietly, comes_in_quietly}
use Rattle.worm_split.proofs.OneNodeTouched.{gives_quietly, no_more, none_refuses, passed_quietly, quiet_on, quiet_then}
use Rattle.worm_split.proofs.OneNodeTouched.{router_quiet, still_quiet, then_quiet, touched_on}
use Rattle.worm_split.proofs.FirstAccepted.{Asked, IsSeated, asked}
use Rattle.worm_split.proofs.SinkSends.{sends_passed}
use Rattle.worm_split.proofs.PassagesTell.{Tells, TellsOf, each_tells_of}

abbrev IsPassed : ℕ → Passage
IsPassed x old fault new = x < length old.nodes → Passed x old fault new

at_rest : (x : ℕ) (s : NetState) → IsQuiet x s None s
at_rest x s there = still_quiet x s None none_refuses

within_tells : (R P : Passage) → Tells R P → TellsOf R (Within P)
within_tells R P tells old new fault made = tells old.net new.net fault made.0

-- other links
links_quiet : (x : ℕ) (s : NetState) (links : List LinkView) → Quiet x s None (record s { links = links })
links_quiet x s links = record {
  touches = record { mesh = refl; channels = refl; depth = refl; own = refl; count = refl; others = λ y away. refl };
  accepted = same_source (source_at s x);
  delivered = refl;
  unrefused = none_refuses;
}

-- a part that moved, or did not
quiet_part : (x : ℕ) (old new mid : PartState) (fault : Option StepFault) → fault ≡ None → new ≡ mid →
    Quiet x old.net None mid.net → Quiet x old.net fault new.net
quiet_part x old new mid fault none same quiet =
    subst (λ (f : Option StepFault). Quiet x old.net f new.net) (sym none)
    (subst (λ (p : PartState). Quiet x old.net None p.net) (sym same) quiet)

pulls_credit : (x o : ℕ) → TellsOf (IsQuiet x) (PullsCredit x o)
pulls_credit x o old new fault made there = elim made.1 [
  | inl same ↦ quiet_part x old new old fault made.0 same (at_rest x old.net there)
  | inr comes ↦ quiet_part x old new new fault made.0 refl
      (subst (λ (p : PartState). Quiet x old.net None p.net) (sym comes.exact) (links_quiet x old.net _))
]

pulls_flit : (x p : ℕ) → TellsOf (IsQuiet x) (PullsFlit x p)
pulls_flit x p old new fault made there = elim made.1 [
  | inl same ↦ quiet_part x old new old fault made.0 same (at_rest x old.net there)
  | inr comes ↦ quiet_part x old new new fault made.0 refl
      (subst (λ (q : PartState). Quiet x old.net None q.net) (sym comes.exact) (links_quiet x old.net _))
]

pulls_credits : (x : ℕ) → TellsOf (IsQuiet x) (PullsCredits x)
pulls_credits x old =
    each_tells_of (IsQuiet x) (at_rest x) (quiet_on x) (PullsCredit x) (pulls_credit x) (mesh_ports old.net) old

pulls_flits : (x : ℕ) → TellsOf (IsQuiet x) (PullsFlits x)
pulls_flits x old =
    each_tells_of (IsQuiet x) (at_rest x) (quiet_on x) (PullsFlit x) (pulls_flit x) (mesh_ports old.net) old

gives : (x p v : ℕ) → TellsOf (IsQuiet x) (Gives x p v)
gives x p v old new fault made there = elim made [
  | inl across ↦ elim across.1.answer [
    | inl went ↦ quiet_part x old new new fault across.0 refl
        (subst (λ (q : PartState). Quiet x old.net None q.net) (sym went)
        (router_quiet old.net x (after_gave (router_at old.net x) p v) old.net.links there))
    | inr stayed ↦ quiet_part x old new old fault across.0 stayed.0 (at_rest x old.net there)
  ]
  | inr within ↦ gives_quietly x p v old.net new.net fault within.1.0 there
]

gives_credit : (x p : ℕ) → TellsOf (IsQuiet x) (GivesCredit x p)
gives_credit x p old =
    each_tells_of (IsQuiet x) (at_rest x) (quiet_on x) (Gives x p) (gives x p)
    (option_to_list (lowest_owed (router_at old.net x) p)) old

gives_credits : (x : ℕ) → TellsOf (IsQuiet x) (GivesCredits x)
gives_credits x old =
    each_tells_of (IsQuiet x) (at_rest x) (quiet_on x) (GivesCredit x) (gives_credit x) (mesh_ports old.net) old

-- one flit at most comes, before or after what brings none
quietly_then : (x : ℕ) (P Q : PartPassage) → TellsOf (IsQuiet x) P → TellsOf (IsPassed x) Q
    → TellsOf (IsPassed x) (P and_then Q)
quietly_then x P Q quiet passes old new fault made there = elim made [
  | inl ended ↦ passed_quietly x old.net new.net fault (quiet old new fault ended.1 there)
  | inr on ↦
      let first = quiet old on.0 None on.1 there in
      let there_still : x < length on.0.net.nodes = subst (λ (n : ℕ). x < n) (sym first.touches.count) there in
      quiet_then x old.net on.0.net new.net fault first (passes on.0 new fault on.2 there_still)
]

then_quietly : (x : ℕ) (P Q : PartPassage) → TellsOf (IsPassed x) P → TellsOf (IsQuiet x) Q
    → TellsOf (IsPassed x) (P and_then Q)
then_quietly x P Q passes quiet old new fault made there = elim made [
  | inl ended ↦ passes old new fault ended.1 there
  | inr on ↦
      let first = passes old on.0 None on.1 there in
      let there_still : x < length on.0.net.nodes = subst (λ (n : ℕ). x < n) (sym first.touches.count) there in
      then_quiet x old.net on.0.net new.net fault first (quiet on.0 new fault on.2 there_still)
]

-- what follows once the source was asked
abbrev Follows : ℕ → PartPassage
Follows x =
    PullsCredits x
    and_then PullsFlits x
    and_then Within (ComesInBy Attempts x)
    and_then Within (Allocates x)
    and_then SendsGranted x
    and_then GivesCredits x

follows : (x : ℕ) → TellsOf (IsPassed x) (Follows x)
follows x =
    quietly_then x (PullsCredits x) _ (pulls_credits x)
    (quietly_then x (PullsFlits x) _ (pulls_flits x)
    (quietly_then x (Within (ComesInBy Attempts x)) _
    (within_tells (IsQuiet x) (ComesInBy Attempts x) (comes_in_quietly x))
    (quietly_then x (Within (Allocates x)) _ (within_tells (IsQuiet x) (Allocates x) (allocates_quietly x))
    (then_quietly x (SendsGranted x) (GivesCredits x) (sends_passed x) (gives_credits x)))))

-- The turn of a node

-- the node's source accepted some of what begins there, and refuses the next
pub record NodeRefuses (entries : List Entry) (why : OfferFault) (x : ℕ) (old new : SourceState) : Type 0 where
  pub taken : List Entry
  pub next : Entry
  pub left : List Entry
  pub cut : begun_at x entries ≡ taken ++ next ∷ left
  pub accepted : HasAccepted old taken new
  pub refused : Refuses new next why

pub record NodeDid (entries : List Entry) (x : ℕ) (old : NetState) (fault : Option StepFault)
    (new : NetState) : Type 0 where
  pub touches : Touches x old new
  pub takes : SourceTakes entries fault x (source_at old x) (source_at new x)
  pub one : OneMore (sink_at old x).delivered (sink_at new x).delivered
  pub refuses : (why : OfferFault) → fault ≡ Some (Refused why)
      → NodeRefuses entries why x (source_at old x) (source_at new x)

-- a fault ended it as its source was asked
did_ask : (entries : List Entry) (x : ℕ) (old new : NetState) (fault : Option StepFault) →
    Asked (begun_at x entries) x old fault new → NodeDid entries x old fault new
did_ask entries x old new fault was = record {
  touches = was.touches;
  takes = record { taken = was.taken; left = was.left; cut = was.cut; all = was.all; accepted = was.accepted };
  one = no_more (sink_at old x).delivered (sink_at new x).delivered was.delivered;
  refuses = λ why is.
      let first = was.refused why is in
      record {
        taken = was.taken;
        next = first.next;
        left = first.rest;
        cut = was.cut ∙ ap (λ (es : List Entry). was.taken ++ es) first.first;
        accepted = was.accepted;
        refused = first.refused;
      };
}

-- or it went on
did_more : (entries : List Entry) (x : ℕ) (old mid new : NetState) (fault : Option StepFault) →
    Asked (begun_at x entries) x old None mid → Passed x mid fault new → NodeDid entries x old fault new
did_more entries x old mid new fault was later = record {
  touches = touched_on x old mid new was.touches later.touches;
  takes = record {
    taken = was.taken;
    left = was.left;
    cut = was.cut;
    all = λ none. was.all refl;
    accepted =
        same_then (after_entries (source_at old x) was.taken) (source_at mid x) (source_at new x)
        was.accepted later.accepted;
  };
  one = subst (λ (fs : List Flit). OneMore fs (sink_at new x).delivered) was.delivered later.one;
  refuses = λ why is. absurd (later.unrefused why is);
}

pub node_did : (entries : List Entry) (x : ℕ) (old new : PartState) (fault : Option StepFault) → HaveWords entries →
    IsSeated old.net x → NodeTurn entries x old fault new → NodeDid entries x old.net fault new.net
node_did entries x old new fault words seat made =
    let has = All-filter (λ (e : Entry). (lane_of e.act).src == x) (λ (e : Entry). HasWords e.act) entries words in
    elim made [
      | inl ended ↦
          did_ask entries x old.net new.net fault
          (asked x (begun_at x entries) old.net new.net fault has seat ended.1.0)
      | inr on ↦
          let was = asked x (begun_at x entries) old.net on.0.net None has seat on.1.0 in
          let there : x < length on.0.net.nodes = subst (λ (n : ℕ). x < n) (sym was.touches.count) seat.there in
          did_more entries x old.net on.0.net new.net fault was (follows x on.0 new fault on.2 there)
    ]
