-- What comes in next at the mesh ports of a node, and what is on a link by that and by the lists behind it (Dally and
-- Towles, chapter 13).
use Rattle.std.specs.Prelude.{ℕ, ◌≡◌, ◌+◌, ◌*◌, ◌<◌, ◌++◌, ◌∷◌, Bool, true, cond, List, [], length, slice_get}
use Rattle.std.specs.Prelude.{slice_index_or, Option, None, Some, IsSome, option_to_list, zero, suc}
use Rattle.std.specs.Simd.Lanes.{zip2}
use Rattle.worm_flit.specs.declared.Flit.{Flit}
use Rattle.worm_flit.specs.SmallSet.{has, IsPut}
use Rattle.worm_mesh.specs.Address.{AreRadices, has_neighbour, neighbour_of, node_count, opposite_of}
use Rattle.worm_mesh.specs.Links.{link_count, links_before}
use Rattle.worm_wires.specs.Arrivals.{has_front, on_link}
use Rattle.worm_wires.specs.Links.{LinkView, blank_link}
use Rattle.worm_wires.specs.Wiring.{in_link, into_from, out_link}
use Rattle.worm_wires.specs.declared.inbox.Arrivals.{Arrivals}
use Rattle.worm_wires.specs.declared.inbox.Fronts.{Fronts}
use Rattle.worm_wires.specs.declared.inbox.NodeFronts.{NodeFronts}

-- what comes in of one kind at the mesh ports of a node: the ports at which one does, those of them whose link has a
-- list, and the one that comes in next, by port
pub record Tray (A : Type 0) : Type 0 where
  pub here : ℕ
  pub more : ℕ
  pub front : List A

-- what comes in at a node
pub record Inbox : Type 0 where
  pub flits : Tray Flit
  pub credits : Tray ℕ

-- the same, as it stands in two places: the ports at which one comes in apart, beside those of other nodes
abbrev pub tray_of : {A : Type 0} → ℕ → Fronts A → Tray A
tray_of here fronts = record { here = here; more = fronts.more; front = fronts.front }

abbrev pub inbox_by : Arrivals → NodeFronts → Inbox
inbox_by arrivals fronts = record {
  flits = tray_of arrivals.flits fronts.flits;
  credits = tray_of arrivals.credits fronts.credits;
}

-- those of all nodes
unfoldable pub inboxes_by : List Arrivals → List NodeFronts → List Inbox
inboxes_by arrivals fronts = zip2 inbox_by arrivals fronts

-- what is on one way of a link: what stands in its list, or what is in the inbox alone
abbrev pub whole : {A : Type 0} → Bool → Option A → List A → List A
whole here front [] = cond here (option_to_list front) []
whole here front (x ∷ xs) = x ∷ xs

-- how many fit on a link, if it is there
abbrev pub room_of : List LinkView → Option ℕ → ℕ
room_of links None = 0
room_of links (Some k) = (slice_index_or links k blank_link).room

-- What holds of an inbox's port and of the list behind it. The list has all that comes in, and the inbox the first of
-- them as well; or the list is empty, and then at most one comes in, which the inbox has.
pub record IsWay {A : Type 0} (here more : Bool) (front : Option A) (list : List A) (room : ℕ) : Type 0 where
  pub listed : more ≡ has_front list
  pub first : has_front list ≡ true → (here ≡ true) × (front ≡ slice_get list 0)
  pub alone : list ≡ [] → here ≡ true → (0 < room) × IsSome front

-- the same of a port of a tray
abbrev pub IsWayOf : {A : Type 0} → Tray A → ℕ → List A → ℕ → Type 0
IsWayOf tray p list room = IsWay (has tray.here p) (has tray.more p) (slice_get tray.front p) list room

-- the one that comes in next by a port, if one does
abbrev pub front_of : {A : Type 0} → Tray A → ℕ → Option A
front_of tray p = cond (has tray.here p) (slice_get tray.front p) None

-- What has changed of a tray: at one port whether one comes in, whether the link has a list of them, and which is the
-- first.
pub record IsFiled {A : Type 0} (old new : Tray A) (p : ℕ) (here more : Bool) (front : Option A) : Type 0 where
  pub comes : IsPut old.here new.here p here
  pub listed : IsPut old.more new.more p more
  pub first : here ≡ true → slice_get new.front p ≡ front
  pub others : (q : ℕ) → (q ≡ p → ⊥) → slice_get new.front q ≡ slice_get old.front q

-- what comes in: flits, each over the link into a port, or credits, each over the link out of it
pub record Kind (A : Type 0) : Type 0 where
  pub list : LinkView → List A
  pub link : List ℕ → ℕ → ℕ → Option ℕ
  pub number : List ℕ → ℕ → ℕ → ℕ
  pub tray : Inbox → Tray A
  -- the parts of a tray, and what has another in its place
  pub here : Arrivals → ℕ
  pub with_here : Arrivals → ℕ → Arrivals
  pub fronts : NodeFronts → Fronts A
  pub with_fronts : NodeFronts → Fronts A → NodeFronts

abbrev pub of_flits : Kind Flit
of_flits = record {
  list = λ l. l.flits;
  link = in_link;
  number = λ mesh x p. into_from mesh p (neighbour_of mesh x p);
  tray = λ b. b.flits;
  here = λ a. a.flits;
  with_here = λ a here. record a { flits = here };
  fronts = λ f. f.flits;
  with_fronts = λ f fronts. record f { flits = fronts };
}

abbrev pub of_credits : Kind ℕ
of_credits = record {
  list = λ l. l.credits;
  link = out_link;
  number = links_before;
  tray = λ b. b.credits;
  here = λ a. a.credits;
  with_here = λ a here. record a { credits = here };
  fronts = λ f. f.credits;
  with_fronts = λ f fronts. record f { credits = fronts };
}

-- a node's tray of a kind
abbrev pub IsTray : {A : Type 0} → Kind A → List ℕ → List LinkView → ℕ → Tray A → Type 0
IsTray kind mesh links x tray =
    (p : ℕ) → p < 8
    → IsWayOf tray p (on_link kind.list links (kind.link mesh x p)) (room_of links (kind.link mesh x p))

-- the inbox of a node
pub record IsInbox (mesh : List ℕ) (links : List LinkView) (x : ℕ) (inbox : Inbox) : Type 0 where
  pub flits : IsTray of_flits mesh links x inbox.flits
  pub credits : IsTray of_credits mesh links x inbox.credits

abbrev pub no_tray : {A : Type 0} → Tray A
no_tray = record { here = 0; more = 0; front = [] }

abbrev pub no_inbox : Inbox
no_inbox = record { flits = no_tray; credits = no_tray }

abbrev pub inbox_at : List Inbox → ℕ → Inbox
inbox_at inboxes x = slice_index_or inboxes x no_inbox

-- the lists behind the links of a mesh, and the inboxes of its nodes and of the numbers that are none's
pub record AreInboxes (mesh : List ℕ) (links : List LinkView) (inboxes : List Inbox) : Type 0 where
  pub radices : AreRadices mesh
  pub all : length links ≡ link_count mesh
  pub nodes : length inboxes ≡ 256
  pub known : (x : ℕ) → x < 256 → IsInbox mesh links x (inbox_at inboxes x)

-- what comes in by a port
abbrev pub come : {A : Type 0} → Kind A → List ℕ → List LinkView → List Inbox → ℕ → ℕ → List A
come kind mesh links inboxes x p =
    whole (has (kind.tray (inbox_at inboxes x)).here p) (slice_get (kind.tray (inbox_at inboxes x)).front p)
    (on_link kind.list links (kind.link mesh x p))

-- the flits that enter the node beyond a port
abbrev pub flits_beyond : List ℕ → List LinkView → List Inbox → ℕ → Option ℕ → List Flit
flits_beyond mesh links inboxes o None = []
flits_beyond mesh links inboxes o (Some y) = come of_flits mesh links inboxes y (opposite_of o)

-- what is on the link out of a port
unfoldable pub link_by : List ℕ → List LinkView → List Inbox → ℕ → ℕ → LinkView
link_by mesh links inboxes x o = record {
  flits = flits_beyond mesh links inboxes o (neighbour_of mesh x o);
  credits = come of_credits mesh links inboxes x o;
  room = (slice_index_or links (links_before mesh x o) blank_link).room;
}

-- a list by link number, from what it has for each node and port: by rising node, then rising port
abbrev pub of_ports : {A : Type 0} → (ℕ → Bool) → (ℕ → A) → ℕ → List A
of_ports linked f zero = []
of_ports linked f (suc o) = of_ports linked f o ++ cond (linked o) (f o ∷ []) []

abbrev pub of_nodes : {A : Type 0} → List ℕ → (ℕ → ℕ → A) → ℕ → List A
of_nodes mesh f zero = []
of_nodes mesh f (suc x) = of_nodes mesh f x ++ of_ports (has_neighbour mesh x) (f x) (2 * length mesh)

unfoldable pub by_number : {A : Type 0} → List ℕ → (ℕ → ℕ → A) → List A
by_number mesh f = of_nodes mesh f (node_count mesh)

-- what is on each link, by number
abbrev pub links_by : List ℕ → List LinkView → List Inbox → List LinkView
links_by mesh links inboxes = by_number mesh (link_by mesh links inboxes)

-- the lists of the first ports have all that comes in by them
abbrev pub IsSpilled : {A : Type 0} → Tray A → ℕ → Type 0
IsSpilled tray ports = (p : ℕ) → p < ports → has tray.here p ≡ has tray.more p

pub record AreSpilled (inbox : Inbox) (ports : ℕ) : Type 0 where
  pub flits : IsSpilled inbox.flits ports
  pub credits : IsSpilled inbox.credits ports

-- the lists of one port more of a node have all that comes in by it, and no other node's inbox has changed
pub record ArePortsSpilled (old new : List Inbox) (x p : ℕ) : Type 0 where
  pub more : AreSpilled (inbox_at old x) p → AreSpilled (inbox_at new x) (p + 1)
  pub others : (y : ℕ) → (y ≡ x → ⊥) → inbox_at new y ≡ inbox_at old y

-- the same of inboxes that stand in two places
pub record AreFiled (mesh : List ℕ) (links : List LinkView) (arrivals : List Arrivals) (fronts : List NodeFronts)
    : Type 0 where
  pub all : length fronts ≡ 256
  pub inboxes : AreInboxes mesh links (inboxes_by arrivals fronts)

-- the links are seen as they were
pub record AreSeenAlike (mesh : List ℕ) (arrivals : List Arrivals) (links : List LinkView) (fronts : List NodeFronts)
    (links_now : List LinkView) (fronts_now : List NodeFronts) : Type 0 where
  pub sound : AreFiled mesh links_now arrivals fronts_now
  pub same : links_by mesh links_now (inboxes_by arrivals fronts_now)
      ≡ links_by mesh links (inboxes_by arrivals fronts)
