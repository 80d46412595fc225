-- What holds of flits and of credits alike: what is seen of a link, before and after a write of a node's inbox and of
-- the list behind a link.
use Rattle.std.proofs.Common.{◌≡◌, ℕ, ◌*◌, ◌<◌, Bool, true, List, length, length-set, get_or, set, Option, Some}
use Rattle.std.proofs.Common.{None, refl, arith, ap, sym, ◌∙◌}
use Rattle.std.specs.Prelude.{IsSome, slice_get, option_map}
use Rattle.worm_flit.specs.declared.Flit.{Flit}
use Rattle.worm_mesh.specs.Address.{AreRadices, has_neighbour, neighbour_of, opposite_of}
use Rattle.worm_mesh.specs.Links.{links_before}
use Rattle.worm_mesh.proofs.Digits.{AreLarge-from_radices}
use Rattle.worm_mesh.proofs.Neighbours.{Joins-back, Joins-from, opposite_twice}
use Rattle.worm_mesh.proofs.Numbers.{below_count}
use Rattle.worm_wires.specs.Inbox.{AreInboxes, Inbox, IsTray, Kind, come, flits_beyond, inbox_at, link_by, links_by}
use Rattle.worm_wires.specs.Inbox.{inbox_by, of_credits, of_flits, tray_of, whole}
use Rattle.worm_wires.specs.Links.{LinkView, blank_link}
use Rattle.worm_wires.specs.Wiring.{in_link, into_from, out_link}
use Rattle.worm_wires.specs.declared.inbox.Arrivals.{Arrivals}
use Rattle.worm_wires.specs.declared.inbox.Fronts.{Fronts}
use Rattle.worm_wires.specs.declared.inbox.NodeFronts.{NodeFronts}
use Rattle.worm_wires.proofs.Apart.{back_of, in_once, into_beyond, into_is, out_is, out_once}
use Rattle.worm_wires.proofs.ListsWritten.{all_written, entered_in, is_seen, linked_at, rooms_same, same_link}
use Rattle.worm_wires.proofs.Seen.{credits_at, flits_past, room_at}
use Rattle.worm_wires.proofs.TraysWritten.{IsLinks, IsWrite, there, come_here, come_other, come_same, tray_kept}
use Rattle.worm_wires.proofs.TraysWritten.{tray_written}
use Rattle.worm_wires.proofs.Wired.{port_there}

-- What a write leaves
pub record IsWritten {A : Type 0} (kind : Kind A) (put : LinkView → List A → LinkView) (mesh : List ℕ)
    (links : List LinkView) (inboxes : List Inbox) (p k : ℕ) (boxes : List Inbox) (box : Inbox) (link : LinkView)
    (here : Bool) : Type 0 where
  pub sound : AreInboxes mesh (set links k link) boxes
  pub seen : links_by mesh (set links k link) boxes
      ≡ set (links_by mesh links inboxes) k (put (get_or (links_by mesh links inboxes) k blank_link)
      (whole here (slice_get (kind.tray box).front p) (kind.list link)))

-- What is said of a kind, beside the other
pub record IsKind {A B : Type 0} (kind : Kind A) (other : Kind B) (put : LinkView → List A → LinkView)
    : Type 0 where
  pub is_put : (link : LinkView) → put link (kind.list link) ≡ link
  pub links : IsLinks kind
  pub seen : (mesh : List ℕ) (links : List LinkView) (inboxes : List Inbox) → AreRadices mesh → (x p k : ℕ)
      → kind.link mesh x p ≡ Some k
      → kind.list (get_or (links_by mesh links inboxes) k blank_link) ≡ come kind mesh links inboxes x p
  pub room_seen : (mesh : List ℕ) (links : List LinkView) (inboxes : List Inbox) → AreRadices mesh → (x p k : ℕ)
      → kind.link mesh x p ≡ Some k
      → (get_or (links_by mesh links inboxes) k blank_link).room ≡ (get_or links k blank_link).room
  pub written : (mesh : List ℕ) (links : List LinkView) (inboxes : List Inbox) → AreInboxes mesh links inboxes
      → (x p k : ℕ) (box : Inbox) (link : LinkView) (here more : Bool) (front : Option A)
      → IsWrite kind other mesh links inboxes x p k box link here more front
      → IsWritten kind put mesh links inboxes p k (set inboxes x box) box link here
  -- the link of a port that has a neighbour, and of the port that is entered beyond it
  pub numbered : (mesh : List ℕ) (x p : ℕ) → IsSome (neighbour_of mesh x p)
      → kind.link mesh x p ≡ Some (kind.number mesh x p)
  pub beyond : (mesh : List ℕ) (x p y : ℕ) → AreRadices mesh → neighbour_of mesh x p ≡ Some y
      → kind.link mesh y (opposite_of p) ≡ Some (other.number mesh x p)
  -- a tray as it stands in two places, read and written
  pub read_tray : (a : Arrivals) (f : NodeFronts) → kind.tray (inbox_by a f) ≡ tray_of (kind.here a) (kind.fronts f)
  pub put_tray : (a : Arrivals) (f : NodeFronts) (here : ℕ) (fronts : Fronts A)
      → kind.tray (inbox_by (kind.with_here a here) (kind.with_fronts f fronts)) ≡ tray_of here fronts
  pub put_other : (a : Arrivals) (f : NodeFronts) (here : ℕ) (fronts : Fronts A)
      → other.tray (inbox_by (kind.with_here a here) (kind.with_fronts f fronts)) ≡ other.tray (inbox_by a f)
  pub here_kept : (a : Arrivals) → kind.with_here a (kind.here a) ≡ a
  pub fronts_kept : (f : NodeFronts) → kind.with_fronts f (kind.fronts f) ≡ f

-- The link of a port by its neighbour

in_by : (mesh : List ℕ) (x p k : ℕ) (n : Option ℕ) → neighbour_of mesh x p ≡ n
    → option_map (λ y. links_before mesh y (opposite_of p)) n ≡ Some k
    → (y : ℕ) × (neighbour_of mesh x p ≡ Some y) × (links_before mesh y (opposite_of p) ≡ k)
in_by mesh x p k None e by = let no : ◌≡◌ {A = Option ℕ} None (Some k) = by in absurd (cc)
in_by mesh x p k (Some y) e by =
    let is : ◌≡◌ {A = Option ℕ} (Some (links_before mesh y (opposite_of p))) (Some k) = by in (y, e, cc)

pub in_parts : (mesh : List ℕ) (x p k : ℕ) → in_link mesh x p ≡ Some k
    → (y : ℕ) × (neighbour_of mesh x p ≡ Some y) × (links_before mesh y (opposite_of p) ≡ k)
in_parts mesh x p k by = in_by mesh x p k (neighbour_of mesh x p) refl by

out_by : (mesh : List ℕ) (x o k : ℕ) (n : Option ℕ) → neighbour_of mesh x o ≡ n
    → option_map (λ y. links_before mesh x o) n ≡ Some k
    → (y : ℕ) × (neighbour_of mesh x o ≡ Some y) × (links_before mesh x o ≡ k)
out_by mesh x o k None e by = let no : ◌≡◌ {A = Option ℕ} None (Some k) = by in absurd (cc)
out_by mesh x o k (Some y) e by =
    let is : ◌≡◌ {A = Option ℕ} (Some (links_before mesh x o)) (Some k) = by in (y, e, cc)

pub out_parts : (mesh : List ℕ) (x o k : ℕ) → out_link mesh x o ≡ Some k
    → (y : ℕ) × (neighbour_of mesh x o ≡ Some y) × (links_before mesh x o ≡ k)
out_parts mesh x o k by = out_by mesh x o k (neighbour_of mesh x o) refl by

-- where a link is there, so is a neighbour
linked_some : (f : ℕ → ℕ) (n : Option ℕ) → IsSome (option_map f n) → IsSome n
linked_some f None some = absurd (cc)
linked_some f (Some y) some = refl

-- the inboxes are sound where the trays of each kind are
inboxes_kept : (mesh : List ℕ) (links : List LinkView) (inboxes : List Inbox) (x k : ℕ) (box : Inbox)
    (link : LinkView) → AreInboxes mesh links inboxes
    → ((y : ℕ) → y < 256 → IsTray of_flits mesh (set links k link) y (inbox_at (set inboxes x box) y).flits)
    → ((y : ℕ) → y < 256 → IsTray of_credits mesh (set links k link) y (inbox_at (set inboxes x box) y).credits)
    → AreInboxes mesh (set links k link) (set inboxes x box)
inboxes_kept mesh links inboxes x k box link are flits credits = record {
  radices = are.radices;
  all = rw length-set are.all;
  nodes = rw length-set are.nodes;
  known = λ y y_in. record { flits = flits y y_in; credits = credits y y_in };
}

-- Flits

flits_seen : (mesh : List ℕ) (links : List LinkView) (inboxes : List Inbox) → AreRadices mesh → (x p k : ℕ)
    → in_link mesh x p ≡ Some k
    → (get_or (links_by mesh links inboxes) k blank_link).flits ≡ come of_flits mesh links inboxes x p
flits_seen mesh links inboxes radices x p k by =
    let to = in_parts mesh x p k by in
    ap (λ (j : ℕ). (get_or (links_by mesh links inboxes) j blank_link).flits) (sym to.2)
    ∙ flits_past mesh links inboxes radices to.0 (opposite_of p) x (back_of mesh x p to.0 radices to.1)
    ∙ ap (λ (q : ℕ). come of_flits mesh links inboxes x q) (opposite_twice p)

in_room : (mesh : List ℕ) (links : List LinkView) (inboxes : List Inbox) → AreRadices mesh → (x p k : ℕ)
    → in_link mesh x p ≡ Some k
    → (get_or (links_by mesh links inboxes) k blank_link).room ≡ (get_or links k blank_link).room
in_room mesh links inboxes radices x p k by =
    let to = in_parts mesh x p k by in
    ap (λ (j : ℕ). (get_or (links_by mesh links inboxes) j blank_link).room) (sym to.2)
    ∙ room_at mesh links inboxes radices to.0 (opposite_of p) x (back_of mesh x p to.0 radices to.1)
    ∙ ap (λ (j : ℕ). (get_or links j blank_link).room) to.2

in_there : (mesh : List ℕ) (links : List LinkView) (inboxes : List Inbox) → AreInboxes mesh links inboxes
    → (x p k : ℕ) → in_link mesh x p ≡ Some k → k < length links
in_there mesh links inboxes are x p k by =
    let to = in_parts mesh x p k by in
    let large = AreLarge-from_radices mesh are.radices.radices in
    let back = Joins-back mesh x p to.0 (Joins-from mesh x p to.0 large to.1) in
    omega (arith, to.2, are.all, below_count mesh large to.0 (opposite_of p) (x, back))

in_links : IsLinks of_flits
in_links = record {
  linked = λ mesh x p some. linked_some (λ y. links_before mesh y (opposite_of p)) (neighbour_of mesh x p) some;
  port = λ mesh x p k radices by.
      let to = in_parts mesh x p k by in port_there mesh x p radices (rw to.1 refl);
  once = in_once;
  there = in_there;
  known = λ mesh links x box is. is.flits;
}

out_there : (mesh : List ℕ) (links : List LinkView) (inboxes : List Inbox) → AreInboxes mesh links inboxes
    → (x p k : ℕ) → out_link mesh x p ≡ Some k → k < length links
out_there mesh links inboxes are x p k by =
    let to = out_parts mesh x p k by in
    let large = AreLarge-from_radices mesh are.radices.radices in
    omega (arith, to.2, are.all, below_count mesh large x p (to.0, Joins-from mesh x p to.0 large to.1))

out_links : IsLinks of_credits
out_links = record {
  linked = λ mesh x p some. linked_some (λ y. links_before mesh x p) (neighbour_of mesh x p) some;
  port = λ mesh x p k radices by.
      let to = out_parts mesh x p k by in port_there mesh x p radices (rw to.1 refl);
  once = out_once;
  there = out_there;
  known = λ mesh links x box is. is.credits;
}

module _ (mesh : List ℕ) (links : List LinkView) (inboxes : List Inbox) (are : AreInboxes mesh links inboxes)
    (x p k : ℕ) (box : Inbox) (link : LinkView) (here more : Bool) (front : Option Flit)
    (write : IsWrite of_flits of_credits mesh links inboxes x p k box link here more front) where
  back_same : (y o : ℕ) → come of_credits mesh (set links k link) (set inboxes x box) y o
      ≡ come of_credits mesh links inboxes y o
  back_same =
      come_same in_links out_links are write

  flits_here : (z o : ℕ) → has_neighbour mesh z o ≡ true → links_before mesh z o ≡ k
      → record (get_or (links_by mesh links inboxes) k blank_link)
      { flits = whole here (slice_get box.flits.front p) link.flits }
      ≡ link_by mesh (set links k link) (set inboxes x box) z o
  unfolding link_by
  flits_here z o linked at =
      let to = linked_at mesh z o are.radices linked in
      let enters : in_link mesh to.0 (opposite_of o) ≡ Some k =
      into_beyond mesh z o to.0 are.radices to.1 ∙ ap (λ (j : ℕ). Some j) at in
      let both = in_once mesh x p to.0 (opposite_of o) k are.radices write.by enters in
      same_link _ _
      (sym (come_here in_links out_links are write)
      ∙ (λ t. come of_flits mesh (set links k link) (set inboxes x box) (sym both.0 t) (sym both.1 t))
      ∙ ap (λ (n : Option ℕ). flits_beyond mesh (set links k link) (set inboxes x box) o n) (sym to.1))
      (ap (λ (j : ℕ). (get_or (links_by mesh links inboxes) j blank_link).credits) (sym at)
      ∙ credits_at mesh links inboxes are.radices z o to.0 to.1 ∙ sym (back_same z o))
      (ap (λ (j : ℕ). (get_or (links_by mesh links inboxes) j blank_link).room) (sym at)
      ∙ room_at mesh links inboxes are.radices z o to.0 to.1
      ∙ sym (rooms_same links k link (there in_links out_links are write) write.room (links_before mesh z o)))

  flits_other : (z o : ℕ) → has_neighbour mesh z o ≡ true → (links_before mesh z o ≡ k → ⊥)
      → link_by mesh links inboxes z o ≡ link_by mesh (set links k link) (set inboxes x box) z o
  unfolding link_by
  flits_other z o linked away =
      let to = linked_at mesh z o are.radices linked in
      let apart : in_link mesh to.0 (opposite_of o) ≡ Some k → ⊥ = λ e.
      let is : ◌≡◌ {A = Option ℕ} (Some (links_before mesh z o)) (Some k) =
      sym (into_beyond mesh z o to.0 are.radices to.1) ∙ e in away (cc) in
      same_link _ _
      (ap (λ (n : Option ℕ). flits_beyond mesh links inboxes o n) to.1
      ∙ sym (come_other in_links out_links are write to.0 (opposite_of o)
      (entered_in mesh z o to.0 are.radices to.1) apart)
      ∙ ap (λ (n : Option ℕ). flits_beyond mesh (set links k link) (set inboxes x box) o n) (sym to.1))
      (sym (back_same z o)) (sym (rooms_same links k link (there in_links out_links are write) write.room
      (links_before mesh z o)))

  flits_written : IsWritten of_flits (λ l fs. record l { flits = fs }) mesh links inboxes p k (set inboxes x box) box
      link here
  flits_written = record {
    sound = inboxes_kept mesh links inboxes x k box link are
        (tray_written in_links out_links are write) (tray_kept in_links out_links are write);
    seen = all_written mesh links (set links k link) inboxes (set inboxes x box) k _
        (λ z o z_in o_in linked at. flits_here z o linked at)
        (λ z o z_in o_in linked away. flits_other z o linked away)
        (is_seen mesh links inboxes k are.all (there in_links out_links are write));
  }

pub flits_kind : IsKind of_flits of_credits (λ l fs. record l { flits = fs })
flits_kind = record {
  is_put = λ link. refl;
  links = in_links;
  seen = flits_seen;
  room_seen = in_room;
  written = flits_written;
  numbered = λ mesh x p some. into_is mesh p (neighbour_of mesh x p) some;
  beyond = into_beyond;
  read_tray = λ a f. refl;
  put_tray = λ a f here fronts. refl;
  put_other = λ a f here fronts. refl;
  here_kept = λ a. refl;
  fronts_kept = λ f. refl;
}

-- Credits

credits_seen : (mesh : List ℕ) (links : List LinkView) (inboxes : List Inbox) → AreRadices mesh → (x p k : ℕ)
    → out_link mesh x p ≡ Some k
    → (get_or (links_by mesh links inboxes) k blank_link).credits ≡ come of_credits mesh links inboxes x p
credits_seen mesh links inboxes radices x p k by =
    let to = out_parts mesh x p k by in
    ap (λ (j : ℕ). (get_or (links_by mesh links inboxes) j blank_link).credits) (sym to.2)
    ∙ credits_at mesh links inboxes radices x p to.0 to.1

out_room : (mesh : List ℕ) (links : List LinkView) (inboxes : List Inbox) → AreRadices mesh → (x p k : ℕ)
    → out_link mesh x p ≡ Some k
    → (get_or (links_by mesh links inboxes) k blank_link).room ≡ (get_or links k blank_link).room
out_room mesh links inboxes radices x p k by =
    let to = out_parts mesh x p k by in
    ap (λ (j : ℕ). (get_or (links_by mesh links inboxes) j blank_link).room) (sym to.2)
    ∙ room_at mesh links inboxes radices x p to.0 to.1
    ∙ ap (λ (j : ℕ). (get_or links j blank_link).room) to.2

module _ (mesh : List ℕ) (links : List LinkView) (inboxes : List Inbox) (are : AreInboxes mesh links inboxes)
    (x p k : ℕ) (box : Inbox) (link : LinkView) (here more : Bool) (front : Option ℕ)
    (write : IsWrite of_credits of_flits mesh links inboxes x p k box link here more front) where
  flits_same : (y o : ℕ) → come of_flits mesh (set links k link) (set inboxes x box) y o
      ≡ come of_flits mesh links inboxes y o
  flits_same =
      come_same out_links in_links are write

  credits_here : (z o : ℕ) → has_neighbour mesh z o ≡ true → links_before mesh z o ≡ k
      → record (get_or (links_by mesh links inboxes) k blank_link) {
        credits = whole here (slice_get box.credits.front p) link.credits;
      }
      ≡ link_by mesh (set links k link) (set inboxes x box) z o
  unfolding link_by
  credits_here z o linked at =
      let to = linked_at mesh z o are.radices linked in
      let leaves : out_link mesh z o ≡ Some k =
      ap (λ (n : Option ℕ). option_map (λ y. links_before mesh z o) n) to.1 ∙ ap (λ (j : ℕ). Some j) at in
      let both = out_once mesh x p z o k are.radices write.by leaves in
      same_link _ _
      (ap (λ (j : ℕ). (get_or (links_by mesh links inboxes) j blank_link).flits) (sym at)
      ∙ flits_past mesh links inboxes are.radices z o to.0 to.1 ∙ sym (flits_same to.0 (opposite_of o))
      ∙ ap (λ (n : Option ℕ). flits_beyond mesh (set links k link) (set inboxes x box) o n) (sym to.1))
      (sym (come_here out_links in_links are write)
      ∙ (λ t. come of_credits mesh (set links k link) (set inboxes x box) (sym both.0 t) (sym both.1 t)))
      (ap (λ (j : ℕ). (get_or (links_by mesh links inboxes) j blank_link).room) (sym at)
      ∙ room_at mesh links inboxes are.radices z o to.0 to.1
      ∙ sym (rooms_same links k link (there out_links in_links are write) write.room (links_before mesh z o)))

  credits_other : (z o : ℕ) → o < 2 * length mesh → has_neighbour mesh z o ≡ true → (links_before mesh z o ≡ k → ⊥)
      → link_by mesh links inboxes z o ≡ link_by mesh (set links k link) (set inboxes x box) z o
  unfolding link_by
  credits_other z o port linked away =
      let to = linked_at mesh z o are.radices linked in
      let apart : out_link mesh z o ≡ Some k → ⊥ = λ e.
      let is : ◌≡◌ {A = Option ℕ} (Some (links_before mesh z o)) (Some k) =
      sym (ap (λ (n : Option ℕ). option_map (λ y. links_before mesh z o) n) to.1) ∙ e in away (cc) in
      same_link _ _
      (ap (λ (n : Option ℕ). flits_beyond mesh links inboxes o n) to.1 ∙ sym (flits_same to.0 (opposite_of o))
      ∙ ap (λ (n : Option ℕ). flits_beyond mesh (set links k link) (set inboxes x box) o n) (sym to.1))
      (sym (come_other out_links in_links are write z o (omega (arith, port, are.radices.few_dims)) apart))
      (sym (rooms_same links k link (there out_links in_links are write) write.room (links_before mesh z o)))

  credits_written : IsWritten of_credits (λ l cs. record l { credits = cs }) mesh links inboxes p k (set inboxes x box)
      box link here
  credits_written = record {
    sound = inboxes_kept mesh links inboxes x k box link are
        (tray_kept out_links in_links are write) (tray_written out_links in_links are write);
    seen = all_written mesh links (set links k link) inboxes (set inboxes x box) k _
        (λ z o z_in o_in linked at. credits_here z o linked at)
        (λ z o z_in o_in linked away. credits_other z o o_in linked away)
        (is_seen mesh links inboxes k are.all (there out_links in_links are write));
  }

pub credits_kind : IsKind of_credits of_flits (λ l cs. record l { credits = cs })
credits_kind = record {
  is_put = λ link. refl;
  links = out_links;
  seen = credits_seen;
  room_seen = out_room;
  written = credits_written;
  numbered = λ mesh x p some. out_is mesh x p (neighbour_of mesh x p) some;
  beyond = λ mesh x p y radices e.
      ap (λ (n : Option ℕ). option_map (λ z. links_before mesh y (opposite_of p)) n) (back_of mesh x p y radices e)
      ∙ ap (λ (n : Option ℕ). Some (into_from mesh p n)) (sym e);
  read_tray = λ a f. refl;
  put_tray = λ a f here fronts. refl;
  put_other = λ a f here fronts. refl;
  here_kept = λ a. refl;
  fronts_kept = λ f. refl;
}
