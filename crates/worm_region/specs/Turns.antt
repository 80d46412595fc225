-- The turn of a node, the turns of all nodes, and the run on one thread: which step is tried in which order, and where
-- the allocators pass between them (Dally and Towles, chapters 16, 18 and 19).
use Rattle.std.specs.Prelude.{ℕ, zero, suc, ◌≡◌, ◌+◌, ◌*◌, ◌<◌, ◌==◌, nat_lt, ◌⊎◌, List, [], ◌∷◌, length, sum, map}
use Rattle.std.specs.Prelude.{Bool, true, false}
use Rattle.worm_vcalloc.specs.ChannelSet.{has}
use Rattle.std.specs.Prelude.{All, slice_index_or, Option, Some, None, IsSome, option_map, Result, Ok, Err, MatchBool}
use Rattle.std.specs.List.{range_with_len, flat_map, find}
use Rattle.std.specs.Option.{option_to_list}
use Rattle.worm_mesh.specs.Address.{node_count}
use Rattle.worm_router.specs.Router.{RouterState, width, input_at}
use Rattle.worm_router.specs.Allocation.{after_allocate, switch_grants}
use Rattle.worm_swalloc.specs.SwAlloc.{AreGranted}
use Rattle.worm_swalloc.specs.declared.grant.SwGrant.{SwGrant}
use Rattle.worm_theory.specs.Steps.{Step, Offer, CloseLane, Feed, Route, Send, Take, GiveCredit, TakeCredit}
use Rattle.worm_theory.specs.Steps.{IsThere, StepsLead, node_of}
use Rattle.worm_region.specs.State.{NetState, IsSameConfig, shape, network_of, router_at, with_router}
use Rattle.worm_region.specs.Moves.{chosen_router}
use Rattle.worm_region.specs.Answers.{Answers}
use Rattle.worm_script.specs.Script.{due, begun_at}
use Rattle.worm_region.specs.Totals.{injected_total, delivered_total}
use Rattle.worm_script.specs.declared.entry.Act.{Act}
use Rattle.worm_script.specs.declared.entry.Act.TheVariants.{Offer as ToOffer, Close as ToClose}
use Rattle.worm_script.specs.declared.entry.Entry.{Entry}
use Rattle.worm_region.specs.declared.step.Moved.{Moved}
use Rattle.worm_region.specs.declared.fault.StepFault.{StepFault}
use Rattle.worm_region.specs.declared.fault.StepFault.TheVariants.{NoSuchPlace, Refused, NoMemory}

-- Passages

-- what is done to a state, a network's or that of a worker's part: from the old one it leads to a new one, ended by a
-- fault or by none
abbrev pub PassageOf : Type 0 → Type 1
PassageOf S = S → Option StepFault → S → Type 0

-- nothing is done
abbrev pub Stays : {S : Type 0} → PassageOf S
Stays old fault new = (fault ≡ None) × (new ≡ old)

infixr 5 ◌and_then◌
-- the one, ended by its fault; or the one without a fault, and then the other
abbrev pub ◌and_then◌ : {S : Type 0} → PassageOf S → PassageOf S → PassageOf S
◌and_then◌ {S} P Q old fault new = (IsSome fault × P old fault new) ⊎ ((mid : S) × P old None mid × Q mid fault new)

-- one for each of a list, in its order, up to the first fault
abbrev pub Each : {S A : Type 0} → (A → PassageOf S) → List A → PassageOf S
Each P [] = Stays
Each P (a ∷ rest) = P a and_then Each P rest

-- the same for a list that is read off the state as it is then
abbrev pub ForEach : {S A : Type 0} → (S → List A) → (A → PassageOf S) → PassageOf S
ForEach list P old fault new = Each P (list old) old fault new

-- what is done to a network
abbrev pub Passage : Type 1
Passage = PassageOf NetState

-- the fault that a step's answer is to a turn: a step that is not there, or not enabled, is passed over
abbrev pub fault_of : Result Moved StepFault → Option StepFault
fault_of (Ok moved) = None
fault_of (Err NoSuchPlace) = None
fault_of (Err (Refused why)) = Some (Refused why)
fault_of (Err NoMemory) = Some NoMemory

-- a step is tried
abbrev pub Tries : Step → Passage
Tries step old fault new = (answer : Result Moved StepFault) × Answers old step answer new × (fault ≡ fault_of answer)

-- Places, by rising number

abbrev pub all_nodes : NetState → List ℕ
all_nodes s = range_with_len 0 (node_count s.mesh)

abbrev pub mesh_ports : NetState → List ℕ
mesh_ports s = range_with_len 0 (2 * length s.mesh)

-- the same and the terminal
abbrev pub all_ports : NetState → List ℕ
all_ports s = range_with_len 0 (2 * length s.mesh + 1)

abbrev pub all_classes : NetState → List ℕ
all_classes s = range_with_len 0 (length s.channels)

abbrev pub all_channels : NetState → List ℕ
all_channels s = range_with_len 0 (sum s.channels)

-- The turn of a node, by the passage T that a step is

-- what an entry asks of the node's source
abbrev pub ask : ℕ → Act → Step
ask x (ToOffer packet) = Offer x packet.lane packet.words
ask x (ToClose lane) = CloseLane x lane

-- the node's source is asked what the entries ask of it
abbrev pub AsksSourceBy : (Step → Passage) → List Entry → ℕ → Passage
AsksSourceBy T entries x = ForEach (λ s. map (λ (e : Entry). ask x e.act) (begun_at x entries)) T

-- of a mark for each node, those of the nodes whose sources the entries ask are set, and perhaps others
abbrev pub AreMarked : List Entry → List Bool → Type 0
AreMarked entries marks = (x : ℕ) → x < 256 → slice_index_or marks x true ≡ false → begun_at x entries ≡ []

-- a credit is taken from each link out of the node, and a flit from each link into it
abbrev pub TakesCreditsBy : (Step → Passage) → ℕ → Passage
TakesCreditsBy T x = ForEach (λ s. map (TakeCredit x) (mesh_ports s)) T

abbrev pub TakesFlitsBy : (Step → Passage) → ℕ → Passage
TakesFlitsBy T x = ForEach (λ s. map (Take x) (mesh_ports s)) T

-- a flit of each class is fed
abbrev pub FeedsClassesBy : (Step → Passage) → ℕ → Passage
FeedsClassesBy T x = ForEach (λ s. map (Feed x) (all_classes s)) T

-- each input channel is routed, of a port, and of each port
abbrev pub RoutesPortBy : (Step → Passage) → ℕ → ℕ → Passage
RoutesPortBy T x p = ForEach (λ s. map (Route x p) (all_channels s)) T

abbrev pub RoutesChannelsBy : (Step → Passage) → ℕ → Passage
RoutesChannelsBy T x = ForEach all_ports (RoutesPortBy T x)

-- one pass of the channel allocator, its grants written into the records
abbrev pub Allocates : ℕ → Passage
Allocates x old fault new = (fault ≡ None) × (new ≡ with_router old x (after_allocate (router_at old x)))

-- one pass of the switch allocator, which grants these channels
abbrev pub Chooses : ℕ → ℕ → NetState → NetState → Type 0
Chooses x granted old new =
    AreGranted (switch_grants (router_at old x)) granted × (new ≡ with_router old x (chosen_router (router_at old x)))

-- what a pass of the switch allocator granted to an input port, as a step
abbrev pub granted_send : List (Option SwGrant) → ℕ → ℕ → List Step
granted_send grants x p = option_to_list (option_map (λ g. Send x p g.vc) (slice_index_or grants p None))

-- the Sends that were granted, by input port
abbrev pub SendsBy : (Step → Passage) → List (Option SwGrant) → ℕ → Passage
SendsBy T grants x old fault new = Each T (flat_map (granted_send grants x) (all_ports old)) old fault new

-- a set of channels that a pass may have granted, at most one of each port
abbrev pub AreGrants : ℕ → Type 0
AreGrants set = (grants : List (Option SwGrant)) × AreGranted grants set

-- each channel of the set is there for the node, to be routed or to send from
abbrev pub AreThere : NetState → ℕ → ℕ → Type 0
AreThere s x set = (p v : ℕ) → p < 7 → v < 8 → has set p v ≡ true → IsThere (shape s) (Send x p v)

-- one pass of the switch allocator, and then the Sends that it granted
abbrev pub SendsGrantedBy : (Step → Passage) → ℕ → Passage
SendsGrantedBy T x old fault new =
    SendsBy T (switch_grants (router_at old x)) x (with_router old x (chosen_router (router_at old x))) fault new

-- the lowest channel of a port that owes a credit
abbrev pub lowest_owed : RouterState → ℕ → Option ℕ
lowest_owed r p = find (λ v. nat_lt 0 (input_at r p v).owed) (range_with_len 0 (width r))

-- a credit of it is given to each link into the node
abbrev pub GivesCreditBy : (Step → Passage) → ℕ → ℕ → Passage
GivesCreditBy T x p = ForEach (λ s. option_to_list (option_map (GiveCredit x p) (lowest_owed (router_at s x) p))) T

abbrev pub GivesCreditsBy : (Step → Passage) → ℕ → Passage
GivesCreditsBy T x = ForEach mesh_ports (GivesCreditBy T x)

-- what comes in is taken, and what came in is routed
abbrev pub ComesInBy : (Step → Passage) → ℕ → Passage
ComesInBy T x = TakesCreditsBy T x and_then TakesFlitsBy T x and_then FeedsClassesBy T x and_then RoutesChannelsBy T x

-- what a node does in a turn once its source was asked
abbrev pub NodePassesBy : (Step → Passage) → ℕ → Passage
NodePassesBy T x = ComesInBy T x and_then Allocates x and_then SendsGrantedBy T x and_then GivesCreditsBy T x

-- the turn of a node, with these entries for all nodes
abbrev pub NodeTurnBy : (Step → Passage) → List Entry → ℕ → Passage
NodeTurnBy T entries x = AsksSourceBy T entries x and_then NodePassesBy T x

-- The same where each step is tried

abbrev pub AsksSource : List Entry → ℕ → Passage
AsksSource = AsksSourceBy Tries

abbrev pub TakesCredits : ℕ → Passage
TakesCredits = TakesCreditsBy Tries

abbrev pub TakesFlits : ℕ → Passage
TakesFlits = TakesFlitsBy Tries

abbrev pub FeedsClasses : ℕ → Passage
FeedsClasses = FeedsClassesBy Tries

abbrev pub RoutesPort : ℕ → ℕ → Passage
RoutesPort = RoutesPortBy Tries

abbrev pub RoutesChannels : ℕ → Passage
RoutesChannels = RoutesChannelsBy Tries

abbrev pub ComesIn : ℕ → Passage
ComesIn = ComesInBy Tries

abbrev pub SendsGranted : ℕ → Passage
SendsGranted = SendsGrantedBy Tries

abbrev pub GivesCredit : ℕ → ℕ → Passage
GivesCredit = GivesCreditBy Tries

abbrev pub GivesCredits : ℕ → Passage
GivesCredits = GivesCreditsBy Tries

abbrev pub NodePasses : ℕ → Passage
NodePasses = NodePassesBy Tries

abbrev pub NodeTurn : List Entry → ℕ → Passage
NodeTurn = NodeTurnBy Tries

-- The turns of all nodes, by rising number; kept closed in goals

unfoldable pub Turn : List Entry → Passage
Turn entries = ForEach all_nodes (NodeTurn entries)

-- the turns below a number, each with its entries of the script
abbrev pub Turns : List Entry → ℕ → Passage
Turns script n = Each (λ t. Turn (due t script)) (range_with_len 0 n)

-- at most so many turns without entries, ending before a turn with no flit under way
abbrev pub Drains : ℕ → Passage
Drains zero old fault new = Stays old fault new
Drains (suc n) old fault new =
    MatchBool (injected_total old == delivered_total old) (Stays old fault new)
    ((Turn [] and_then Drains n) old fault new)

-- The run on one thread: the turns below a number with a script's entries, and then the drain; or else the turn in
-- which a fault stopped it, and that fault.
abbrev pub OneThreadRun : List Entry → ℕ → ℕ → NetState → Option ℕ → Option StepFault → NetState → Type 0
OneThreadRun script turns drain old None fault new =
    (mid : NetState) × Turns script turns old None mid × Drains drain mid fault new
OneThreadRun script turns drain old (Some t) fault new =
    (t < turns) × IsSome fault × ((mid : NetState) × Turns script t old None mid × Turn (due t script) mid fault new)

-- From one network it leads to one alone, with one fault or none, unless want of memory ended it.
abbrev pub IsDetermined : Passage → Type 0
IsDetermined P =
    (old new other : NetState) (fault else_fault : Option StepFault) → P old fault new → P old else_fault other
    → (fault ≡ Some NoMemory → ⊥) → (else_fault ≡ Some NoMemory → ⊥) → (fault ≡ else_fault) × (new ≡ other)

-- the same of a run, and where it was stopped
abbrev pub RunIsDetermined : List Entry → ℕ → ℕ → Type 0
RunIsDetermined script turns drain =
    (old new other : NetState) (stop else_stop : Option ℕ) (fault else_fault : Option StepFault)
    → OneThreadRun script turns drain old stop fault new →
    OneThreadRun script turns drain old else_stop else_fault other
    → (fault ≡ Some NoMemory → ⊥) → (else_fault ≡ Some NoMemory → ⊥) →
    (stop ≡ else_stop) × (fault ≡ else_fault) × (new ≡ other)

-- By steps of the theory

-- some list of steps leads from the old network to the new
pub record Reaches (old new : NetState) : Type 0 where
  pub steps : List Step
  pub led : StepsLead (shape old) (network_of old) steps (network_of new)
  pub config : IsSameConfig old new

-- some list of steps at this node does
pub record ReachesAt (x : ℕ) (old new : NetState) : Type 0 where
  pub steps : List Step
  pub at_node : All (λ step. node_of step ≡ x) steps
  pub led : StepsLead (shape old) (network_of old) steps (network_of new)
  pub config : IsSameConfig old new

-- the passage was made, and by steps of the theory
pub record Does (P : Passage) (old : NetState) (fault : Option StepFault) (new : NetState) : Type 0 where
  pub exact : P old fault new
  pub reaches : Reaches old new
