-- A node's inbox, as a call reads it, and the links of a port that has a neighbour.
use Rattle.std.proofs.Common.{◌≡◌, ℕ, ◌<◌, List, length, get_or, Some, arith, ap, sym, subst, ◌∙◌}
use Rattle.std.specs.Prelude.{IsSome}
use Rattle.std.proofs.lemmas.List.{get_or_default}
use Rattle.worm_mesh.specs.Address.{neighbour_of}
use Rattle.worm_wires.specs.Arrivals.{AreFronts, LinksView, number_into, number_out, on_link}
use Rattle.worm_wires.specs.Inbox.{AreInboxes, Inbox, Kind, inbox_at, links_by, no_inbox}
use Rattle.worm_wires.specs.Links.{LinkView, blank_link}
use Rattle.worm_wires.specs.Wiring.{in_link, out_link}
use Rattle.worm_wires.proofs.Apart.{into_is, out_is}
use Rattle.worm_wires.proofs.EachKind.{IsKind}
use Rattle.worm_wires.proofs.TraysSeen.{set_seen}

-- the links with what is on them, as they are seen
pub record AreSeen (mesh : List ℕ) (lists : List LinkView) (inboxes : List Inbox) (now : LinksView) : Type 0 where
  pub sound : AreInboxes mesh lists inboxes
  pub seen : record { mesh = mesh; states = links_by mesh lists inboxes } ≡ now

-- the links as a call has them, and a node's inbox, which is read at some place
pub record IsCall (mesh : List ℕ) (lists : List LinkView) (inboxes : List Inbox) (now : LinksView) (x i : ℕ)
    (read : Inbox) : Type 0 where
  pub sound : AreInboxes mesh lists inboxes
  pub seen : record { mesh = mesh; states = links_by mesh lists inboxes } ≡ now
  pub node : x < 256
  pub at : i ≡ x
  pub reads : read ≡ get_or inboxes i read

module _ {mesh : List ℕ} {lists : List LinkView} {inboxes : List Inbox} {now : LinksView} {x i : ℕ} {read : Inbox}
    (call : IsCall mesh lists inboxes now x i read) where
  pub inbox_is : inbox_at inboxes x ≡ read
  inbox_is =
      sym (call.reads ∙ get_or_default inboxes i read no_inbox (omega (arith, call.sound.nodes, call.at, call.node))
      ∙ ap (λ (v : ℕ). inbox_at inboxes v) call.at)

  -- the set of a tray is that of the ports by which one comes in
  pub come_read : {A B : Type 0} {kind : Kind A} {other : Kind B} {put : LinkView → List A → LinkView}
      → IsKind kind other put → AreFronts (λ p. on_link kind.list now.states (kind.link now.mesh x p))
      (kind.tray read).here
  come_read {kind = kind} is =
      subst
      (λ (l : LinksView). AreFronts (λ p. on_link kind.list l.states (kind.link l.mesh x p)) (kind.tray read).here)
      call.seen
      (subst (λ (b : Inbox). AreFronts (λ p. on_link kind.list (links_by mesh lists inboxes) (kind.link mesh x p))
      (kind.tray b).here) inbox_is (set_seen is mesh lists inboxes call.sound x call.node))

-- a list, as it is read
pub list_is : (lists : List LinkView) (k j : ℕ) (list : LinkView) → k < length lists → j ≡ k → list
    ≡ get_or lists j list
    → list ≡ get_or lists k blank_link
list_is lists k j list there same reads =
    reads ∙ (λ t. get_or lists (same t) list) ∙ get_or_default lists k list blank_link there

-- a port that has a neighbour, and the numbers of its links

pub record IsLinked (mesh : List ℕ) (now : LinksView) (x p : ℕ) : Type 0 where
  pub into : in_link mesh x p ≡ Some (number_into now x p)
  pub out : out_link mesh x p ≡ Some (number_out now x p)

pub linked_of : (mesh : List ℕ) (states : List LinkView) (now : LinksView) (x p : ℕ)
    → record { mesh = mesh; states = states } ≡ now → IsSome (neighbour_of now.mesh x p) → IsLinked mesh now x p
linked_of mesh states now x p same some =
    let there = subst (λ (l : LinksView). IsSome (neighbour_of l.mesh x p)) (sym same) some in
    record {
      into = into_is mesh p (neighbour_of mesh x p) there ∙ ap (λ (l : LinksView). Some (number_into l x p)) same;
      out = out_is mesh x p (neighbour_of mesh x p) there ∙ ap (λ (l : LinksView). Some (number_out l x p)) same;
    }
