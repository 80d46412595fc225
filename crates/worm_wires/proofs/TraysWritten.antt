-- The trays of one kind, and the lists behind them, after a write of a node's inbox and of the list of a link.
use Rattle.std.proofs.Common.{◌≡◌, ◌⊎◌, ℕ, ◌<◌, Bool, inl, inr, List, length, get_or, set, Option, Some, refl, arith}
use Rattle.std.proofs.Common.{ap}
use Rattle.std.proofs.Common.{sym, subst, ◌∙◌}
use Rattle.std.specs.Prelude.{IsSome, slice_get}
use Rattle.worm_mesh.specs.Address.{AreRadices, neighbour_of}
use Rattle.std.proofs.lemmas.List.{get_or-set_other, get_or-set_same}
use Rattle.worm_flit.specs.SmallSet.{has}
use Rattle.worm_wires.specs.Arrivals.{on_link}
use Rattle.worm_wires.specs.Inbox.{AreInboxes, Inbox, IsFiled, IsInbox, IsTray, IsWay, IsWayOf, Kind, Tray, come}
use Rattle.worm_wires.specs.Inbox.{inbox_at, no_inbox, room_of, whole}
use Rattle.worm_wires.specs.Links.{LinkView, blank_link}
use Rattle.worm_wires.proofs.Apart.{number_cases}
use Rattle.worm_wires.proofs.ListsWritten.{on_other, on_same, room_kept}
use Rattle.worm_wires.proofs.Ways.{way_same}

-- two trays say the same of a port
record AreAlike {A : Type 0} (old now : Tray A) (q : ℕ) : Type 0 where
  pub comes : has now.here q ≡ has old.here q
  pub listed : has now.more q ≡ has old.more q
  pub first : slice_get now.front q ≡ slice_get old.front q

way_alike : {A : Type 0} (old now : Tray A) (q : ℕ) (list list_now : List A) (room room_now : ℕ)
    → IsWayOf old q list room → AreAlike old now q → list_now ≡ list → room_now ≡ room → IsWayOf now q list_now room_now
way_alike old now q list list_now room room_now way alike lists rooms =
    way_same (has old.here q) (has now.here q) (has old.more q) (has now.more q) (slice_get old.front q)
    (slice_get now.front q) list list_now room room_now way alike.comes alike.listed alike.first lists rooms

port_cases : (y x q p : ℕ) → ((y ≡ x) × (q ≡ p)) ⊎ ((y ≡ x) × (q ≡ p) → ⊥)
port_cases y x q p = elim (number_cases y x) [
  | inl at ↦ elim (number_cases q p) [
    | inl also ↦ inl (at.1, also.1)
    | inr away ↦ inr (λ both. away.1 both.1)
  ]
  | inr away ↦ inr (λ both. away.1 both.0)
]

-- What is said of the links and the trays of a kind
pub record IsLinks {A : Type 0} (kind : Kind A) : Type 0 where
  pub linked : (mesh : List ℕ) (x p : ℕ) → IsSome (kind.link mesh x p) → IsSome (neighbour_of mesh x p)
  pub port : (mesh : List ℕ) (x p k : ℕ) → AreRadices mesh → kind.link mesh x p ≡ Some k → p < 6
  -- no other port has the link
  pub once : (mesh : List ℕ) (x p y q k : ℕ) → AreRadices mesh → kind.link mesh x p ≡ Some k
      → kind.link mesh y q ≡ Some k → (y ≡ x) × (q ≡ p)
  pub there : (mesh : List ℕ) (links : List LinkView) (inboxes : List Inbox) → AreInboxes mesh links inboxes
      → (x p k : ℕ) → kind.link mesh x p ≡ Some k → k < length links
  pub known : (mesh : List ℕ) (links : List LinkView) (x : ℕ) (box : Inbox) → IsInbox mesh links x box
      → IsTray kind mesh links x (kind.tray box)

-- A write of a node's inbox at the port of a link, and of the list behind it, of one kind alone
pub record IsWrite {A B : Type 0} (kind : Kind A) (other : Kind B) (mesh : List ℕ) (links : List LinkView)
    (inboxes : List Inbox) (x p k : ℕ) (box : Inbox) (link : LinkView) (here more : Bool) (front : Option A)
    : Type 0 where
  pub node : x < 256
  pub by : kind.link mesh x p ≡ Some k
  pub filed : IsFiled (kind.tray (inbox_at inboxes x)) (kind.tray box) p here more front
  pub kept : other.tray box ≡ other.tray (inbox_at inboxes x)
  pub same : other.list link ≡ other.list (get_or links k blank_link)
  pub room : link.room ≡ (get_or links k blank_link).room
  pub way : IsWay here more (slice_get (kind.tray box).front p) (kind.list link) link.room

module _ {A B : Type 0} {kind : Kind A} {other : Kind B} (is : IsLinks kind) (also : IsLinks other) {mesh : List ℕ}
    {links : List LinkView} {inboxes : List Inbox} (are : AreInboxes mesh links inboxes) {x p k : ℕ} {box : Inbox}
    {link : LinkView} {here more : Bool} {front : Option A}
    (write : IsWrite kind other mesh links inboxes x p k box link here more front) where
  pub there : k < length links
  there = is.there mesh links inboxes are x p k write.by

  this : inbox_at (set inboxes x box) x ≡ box
  this = get_or-set_same inboxes x box no_inbox (omega (arith, are.nodes, write.node))

  -- of the kind that is not written

  tray_same : (y : ℕ) → other.tray (inbox_at (set inboxes x box) y) ≡ other.tray (inbox_at inboxes y)
  tray_same y = elim (number_cases y x) [
    | inl at ↦
        ap (λ (v : ℕ). other.tray (inbox_at (set inboxes x box) v)) at.1 ∙ ap (λ (b : Inbox). other.tray b) this
        ∙ write.kept
        ∙ ap (λ (v : ℕ). other.tray (inbox_at inboxes v)) (sym at.1)
    | inr apart ↦ ap (λ (b : Inbox). other.tray b) (get_or-set_other inboxes x y box no_inbox apart.1)
  ]

  pub come_same : (y q : ℕ)
      → come other mesh (set links k link) (set inboxes x box) y q ≡ come other mesh links inboxes y q
  come_same y q =
      λ t. whole (has (tray_same y t).here q) (slice_get (tray_same y t).front q)
      (on_same other.list links k link there write.same (other.link mesh y q) t)

  pub tray_kept : (y : ℕ) → y < 256
      → IsTray other mesh (set links k link) y (other.tray (inbox_at (set inboxes x box) y))
  tray_kept y y_in = λ q q_in.
      way_alike (other.tray (inbox_at inboxes y)) (other.tray (inbox_at (set inboxes x box) y)) q
      (on_link other.list links (other.link mesh y q)) (on_link other.list (set links k link) (other.link mesh y q))
      (room_of links (other.link mesh y q)) (room_of (set links k link) (other.link mesh y q))
      (also.known mesh links y (inbox_at inboxes y) (are.known y y_in) q q_in)
      record {
        comes = ap (λ (b : Tray B). has b.here q) (tray_same y);
        listed = ap (λ (b : Tray B). has b.more q) (tray_same y);
        first = ap (λ (b : Tray B). slice_get b.front q) (tray_same y);
      }
      (on_same other.list links k link there write.same (other.link mesh y q))
      (room_kept links k link there write.room (other.link mesh y q))

  -- of the kind that is written, at the port of the link

  list_there : on_link kind.list (set links k link) (kind.link mesh x p) ≡ kind.list link
  list_there =
      ap (λ (n : Option ℕ). on_link kind.list (set links k link) n) write.by
      ∙ ap kind.list (get_or-set_same links k link blank_link there)

  room_there : room_of (set links k link) (kind.link mesh x p) ≡ link.room
  room_there =
      ap (λ (n : Option ℕ). room_of (set links k link) n) write.by
      ∙ ap (λ (l : LinkView). l.room) (get_or-set_same links k link blank_link there)

  pub come_here : come kind mesh (set links k link) (set inboxes x box) x p
      ≡ whole here (slice_get (kind.tray box).front p) (kind.list link)
  come_here =
      (λ t. whole (has (kind.tray (this t)).here p) (slice_get (kind.tray (this t)).front p) (list_there t))
      ∙ ap (λ (b : Bool). whole b (slice_get (kind.tray box).front p) (kind.list link)) write.filed.comes.here

  alike : (y q : ℕ) → q < 8 → ((y ≡ x) × (q ≡ p) → ⊥)
      → AreAlike (kind.tray (inbox_at inboxes y)) (kind.tray (inbox_at (set inboxes x box) y)) q
  alike y q q_in away = elim (number_cases y x) [
    | inl at ↦
        let apart : q ≡ p → ⊥ = λ e. away (at.1, e) in
        subst (λ (v : ℕ). AreAlike (kind.tray (inbox_at inboxes v)) (kind.tray (inbox_at (set inboxes x box) v)) q)
        (sym at.1)
        (subst (λ (b : Inbox). AreAlike (kind.tray (inbox_at inboxes x)) (kind.tray b) q) (sym this)
        record {
          comes = write.filed.comes.elsewhere q q_in apart;
          listed = write.filed.listed.elsewhere q q_in apart;
          first = write.filed.others q apart;
        })
    | inr apart ↦
        subst (λ (b : Inbox). AreAlike (kind.tray (inbox_at inboxes y)) (kind.tray b) q)
        (sym (get_or-set_other inboxes x y box no_inbox apart.1))
        record { comes = refl; listed = refl; first = refl }
  ]

  other_link : (y q : ℕ) → ((y ≡ x) × (q ≡ p) → ⊥) → kind.link mesh y q ≡ Some k → ⊥
  other_link y q away e = away (is.once mesh x p y q k are.radices write.by e)

  pub come_other : (y q : ℕ) → q < 8 → (kind.link mesh y q ≡ Some k → ⊥)
      → come kind mesh (set links k link) (set inboxes x box) y q ≡ come kind mesh links inboxes y q
  come_other y q q_in away =
      let apart : (y ≡ x) × (q ≡ p) → ⊥ = λ both. away ((λ t. kind.link mesh (both.0 t) (both.1 t)) ∙ write.by) in
      λ t. whole ((alike y q q_in apart).comes t) ((alike y q q_in apart).first t)
      (on_other kind.list links k link (kind.link mesh y q) away t)

  pub tray_written : (y : ℕ) → y < 256
      → IsTray kind mesh (set links k link) y (kind.tray (inbox_at (set inboxes x box) y))
  tray_written y y_in = λ q q_in. elim (port_cases y x q p) [
    | inl at ↦
        subst (λ (v : ℕ). IsWayOf (kind.tray (inbox_at (set inboxes x box) v)) q
        (on_link kind.list (set links k link) (kind.link mesh v q)) (room_of (set links k link) (kind.link mesh v q)))
        (sym at.0)
        (subst (λ (v : ℕ). IsWayOf (kind.tray (inbox_at (set inboxes x box) x)) v
        (on_link kind.list (set links k link) (kind.link mesh x v)) (room_of (set links k link) (kind.link mesh x v)))
        (sym at.1)
        (subst (λ (b : Inbox). IsWayOf (kind.tray b) p (on_link kind.list (set links k link) (kind.link mesh x p))
        (room_of (set links k link) (kind.link mesh x p))) (sym this)
        (way_same here (has (kind.tray box).here p) more (has (kind.tray box).more p)
        (slice_get (kind.tray box).front p) (slice_get (kind.tray box).front p) (kind.list link)
        (on_link kind.list (set links k link) (kind.link mesh x p)) link.room
        (room_of (set links k link) (kind.link mesh x p)) write.way write.filed.comes.here write.filed.listed.here refl
        list_there
        room_there)))
    | inr away ↦
        way_alike (kind.tray (inbox_at inboxes y)) (kind.tray (inbox_at (set inboxes x box) y)) q
        (on_link kind.list links (kind.link mesh y q)) (on_link kind.list (set links k link) (kind.link mesh y q))
        (room_of links (kind.link mesh y q)) (room_of (set links k link) (kind.link mesh y q))
        (is.known mesh links y (inbox_at inboxes y) (are.known y y_in) q q_in) (alike y q q_in away)
        (on_other kind.list links k link (kind.link mesh y q) (other_link y q away))
        (room_kept links k link there write.room (kind.link mesh y q))
  ]
