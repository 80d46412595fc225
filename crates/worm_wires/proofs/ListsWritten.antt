-- The lists behind the links, after a write of one.
use Rattle.std.proofs.Common.{◌≡◌, ℕ, ◌*◌, ◌<◌, true, inl, inr, List, length, length-set, get_or, set, Option, Some}
use Rattle.std.proofs.Common.{None, refl, arith, ap, sym, ◌∙◌}
use Rattle.std.proofs.lemmas.List.{get_or-set_other, get_or-set_same}
use Rattle.worm_mesh.specs.Address.{AreRadices, has_neighbour, neighbour_of, node_count, opposite_of}
use Rattle.worm_mesh.specs.Links.{link_count, links_before}
use Rattle.worm_mesh.proofs.Digits.{AreLarge-from_radices}
use Rattle.worm_mesh.proofs.Neighbours.{IsLink-from_test, Joins-back, Joins-from, neighbour_of-some}
use Rattle.worm_wires.specs.Arrivals.{on_link}
use Rattle.worm_wires.specs.Inbox.{Inbox, link_by, links_by, room_of}
use Rattle.worm_wires.specs.Links.{LinkView, blank_link}
use Rattle.worm_wires.proofs.Apart.{number_cases}
use Rattle.worm_wires.proofs.ByNumber.{determined, number_at, numbers_count}

-- One of the two lists of a link

module _ {A : Type 0} (list : LinkView → List A) where
  pub on_other : (states : List LinkView) (k : ℕ) (new : LinkView) (n : Option ℕ) → (n ≡ Some k → ⊥)
      → on_link list (set states k new) n ≡ on_link list states n
  on_other states k new None away = refl
  on_other states k new (Some j) away =
      ap list (get_or-set_other states k j new blank_link (λ e. away (ap (λ (i : ℕ). Some i) e)))

  pub on_same : (states : List LinkView) (k : ℕ) (new : LinkView) → k < length states
      → list new ≡ list (get_or states k blank_link) → (n : Option ℕ)
      → on_link list (set states k new) n ≡ on_link list states n
  on_same states k new there same None = refl
  on_same states k new there same (Some j) = elim (number_cases j k) [
    | inl here ↦ rw here.1 (ap list (get_or-set_same states k new blank_link there) ∙ same)
    | inr away ↦ ap list (get_or-set_other states k j new blank_link away.1)
  ]

-- and its room

pub rooms_same : (states : List LinkView) (k : ℕ) (new : LinkView) → k < length states
    → new.room ≡ (get_or states k blank_link).room → (j : ℕ)
    → (get_or (set states k new) j blank_link).room ≡ (get_or states j blank_link).room
rooms_same states k new there same j = elim (number_cases j k) [
  | inl here ↦ rw here.1 (ap (λ (l : LinkView). l.room) (get_or-set_same states k new blank_link there) ∙ same)
  | inr away ↦ ap (λ (l : LinkView). l.room) (get_or-set_other states k j new blank_link away.1)
]

pub room_kept : (states : List LinkView) (k : ℕ) (new : LinkView) → k < length states
    → new.room ≡ (get_or states k blank_link).room → (n : Option ℕ)
    → room_of (set states k new) n ≡ room_of states n
room_kept states k new there same None = refl
room_kept states k new there same (Some j) = rooms_same states k new there same j

-- a link by its parts
pub same_link : (a b : LinkView) → a.flits ≡ b.flits → a.credits ≡ b.credits → a.room ≡ b.room → a ≡ b
same_link a b flits credits room = λ t. record { flits = flits t; credits = credits t; room = room t }

-- the node beyond a port that has a neighbour
pub linked_at : (mesh : List ℕ) (z o : ℕ) → AreRadices mesh → has_neighbour mesh z o ≡ true
    → (w : ℕ) × (neighbour_of mesh z o ≡ Some w)
linked_at mesh z o radices linked =
    let large = AreLarge-from_radices mesh radices.radices in
    let link = IsLink-from_test mesh z o large linked in
    (link.0, neighbour_of-some mesh z o link.0 large link.1)

-- What is seen of all links, from what is seen of one that is written and of the others
pub all_written : (mesh : List ℕ) (links now : List LinkView) (inboxes boxes : List Inbox) (k : ℕ) (new : LinkView)
    → ((z o : ℕ) → z < node_count mesh → o < 2 * length mesh → has_neighbour mesh z o ≡ true → links_before mesh z o ≡ k
    → new ≡ link_by mesh now boxes z o)
    → ((z o : ℕ) → z < node_count mesh → o < 2 * length mesh → has_neighbour mesh z o ≡ true
    → (links_before mesh z o ≡ k → ⊥) → link_by mesh links inboxes z o ≡ link_by mesh now boxes z o)
    → k < length (links_by mesh links inboxes)
    → links_by mesh now boxes ≡ set (links_by mesh links inboxes) k new
all_written mesh links now inboxes boxes k new here others there =
    sym (determined mesh (link_by mesh now boxes) blank_link (set (links_by mesh links inboxes) k new)
    (rw length-set (numbers_count mesh (link_by mesh links inboxes)))
    (λ z o z_in o_in linked. elim (number_cases (links_before mesh z o) k) [
      | inl at ↦
          ap (λ (j : ℕ). get_or (set (links_by mesh links inboxes) k new) j blank_link) at.1
          ∙ get_or-set_same (links_by mesh links inboxes) k new blank_link there
          ∙ here z o z_in o_in linked at.1
      | inr away ↦
          get_or-set_other (links_by mesh links inboxes) k (links_before mesh z o) new blank_link away.1
          ∙ number_at mesh (link_by mesh links inboxes) blank_link z o z_in o_in linked
          ∙ others z o z_in o_in linked away.1
    ]))

-- a number of a link is one of a list of all
pub is_seen : (mesh : List ℕ) (links : List LinkView) (inboxes : List Inbox) (k : ℕ) → length links ≡ link_count mesh
    → k < length links → k < length (links_by mesh links inboxes)
is_seen mesh links inboxes k all there = omega (arith, all, there, numbers_count mesh (link_by mesh links inboxes))

-- the port that is entered beyond a port is one of a set's
pub entered_in : (mesh : List ℕ) (z o w : ℕ) → AreRadices mesh → neighbour_of mesh z o ≡ Some w → opposite_of o < 8
entered_in mesh z o w radices e =
    let back = Joins-back mesh z o w (Joins-from mesh z o w (AreLarge-from_radices mesh radices.radices) e) in
    omega (arith, back.mesh_port, radices.few_dims)
