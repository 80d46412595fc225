-- What a turn of a part does to the sources and sinks of its nodes (Dally and Towles, chapter 20).
use Rattle.std.specs.Prelude.{◌≡◌, ℕ, ◌<◌, Bool, true, false, List, ◌∷◌, ◌++◌, length, fold}
use Rattle.std.specs.Prelude.{Option, Some, None}
use Rattle.std.specs.Option.{option_to_list}
use Rattle.worm_flit.specs.declared.Flit.{Flit}
use Rattle.worm_mesh.specs.Address.{node_count}
use Rattle.worm_term.specs.declared.fault.OfferFault.{OfferFault}
use Rattle.worm_term.specs.Source.{SourceState, after_offer, after_close, queue_at, refusal}
use Rattle.worm_script.specs.Script.{begun_at, lane_of}
use Rattle.worm_region.specs.State.{source_at, sink_at}
use Rattle.worm_region.specs.Workable.{owned}
use Rattle.worm_region.specs.declared.fault.StepFault.{StepFault}
use Rattle.worm_region.specs.declared.fault.StepFault.TheVariants.{Refused}
use Rattle.worm_script.specs.declared.entry.Act.{Act}
use Rattle.worm_script.specs.declared.entry.Act.TheVariants.{Offer, Close}
use Rattle.worm_script.specs.declared.entry.Entry.{Entry}
use Rattle.worm_split.specs.PartState.{PartState}

-- Sources

-- a source that did what an entry asks, and one that did what entries ask, one after another
abbrev pub after_act : SourceState → Act → SourceState
after_act s (Offer packet) = after_offer s packet
after_act s (Close lane) = after_close s lane

abbrev pub after_entries : SourceState → List Entry → SourceState
after_entries s entries = fold (λ t (e : Entry). after_act t e.act) s entries

-- two sources have accepted the same, whatever was fed of it
pub record HaveTheSame (s t : SourceState) : Type 0 where
  pub node : t.node ≡ s.node
  pub nodes : t.nodes ≡ s.nodes
  pub channels : t.channels ≡ s.channels
  pub lanes : t.lanes ≡ s.lanes
  pub all_queues : length t.queues ≡ length s.queues
  pub injected : (class : ℕ) → (queue_at t class).injected ≡ (queue_at s class).injected

-- what the source has accepted is what it had, and then these entries
abbrev pub HasAccepted : SourceState → List Entry → SourceState → Type 0
HasAccepted old entries new = HaveTheSame (after_entries old entries) new

-- whether the entry asks for a close mark
abbrev pub is_close : Act → Bool
is_close (Offer packet) = false
is_close (Close lane) = true

-- the source refuses the entry for this reason
abbrev pub Refuses : SourceState → Entry → OfferFault → Type 0
Refuses s e why = refusal s (lane_of e.act) (is_close e.act) ≡ Some why

-- Of the entries the source of node x accepted those that begin there, in their order; all of them where no fault
-- ended the turn.
pub record SourceTakes (entries : List Entry) (fault : Option StepFault) (x : ℕ)
    (old new : SourceState) : Type 0 where
  pub taken : List Entry
  pub left : List Entry
  pub cut : begun_at x entries ≡ taken ++ left
  pub all : fault ≡ None → begun_at x entries ≡ taken
  pub accepted : HasAccepted old taken new

-- The source of a node of the part accepted a first part of the entries that begin there, and refuses the next.
pub record RefusesNext (entries : List Entry) (why : OfferFault) (old new : PartState) : Type 0 where
  pub node : ℕ
  pub there : node < node_count old.net.mesh
  pub own : owned old.net node ≡ true
  pub taken : List Entry
  pub next : Entry
  pub left : List Entry
  pub cut : begun_at node entries ≡ taken ++ next ∷ left
  pub accepted : HasAccepted (source_at old.net node) taken (source_at new.net node)
  pub refused : Refuses (source_at new.net node) next why

-- Sinks

-- one flit came, or none
abbrev pub OneMore : List Flit → List Flit → Type 0
OneMore old new = (flit : Option Flit) × (new ≡ old ++ option_to_list flit)

-- Of a turn with these entries

-- each source of the part's nodes accepts of the entries what begins there
abbrev pub SourcesTake : List Entry → PartState → Option StepFault → PartState → Type 0
SourcesTake entries old fault new =
    (x : ℕ) → x < node_count old.net.mesh → owned old.net x ≡ true →
    SourceTakes entries fault x (source_at old.net x) (source_at new.net x)

-- each of their sinks grows by one flit at most
abbrev pub SinksTakeOne : PartState → PartState → Type 0
SinksTakeOne old new =
    (x : ℕ) → x < node_count old.net.mesh → owned old.net x ≡ true →
    OneMore (sink_at old.net x).delivered (sink_at new.net x).delivered

-- where a refusal ended it, that is a source's
abbrev pub IsRefused : List Entry → PartState → Option StepFault → PartState → Type 0
IsRefused entries old fault new =
    (why : OfferFault) → fault ≡ Some (Refused why) → RefusesNext entries why old new
