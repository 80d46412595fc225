-- What is seen to come in by each port, of flits and of credits alike.
use Rattle.std.proofs.Common.{◌≡◌, ℕ, ◌<◌, Bool, List, [], Option, Some, None, refl}
use Rattle.std.proofs.Common.{ap, sym, ◌∙◌}
use Rattle.std.specs.Prelude.{slice_get}
use Rattle.worm_flit.specs.SmallSet.{has}
use Rattle.worm_wires.specs.Arrivals.{AreFronts, has_front, on_link}
use Rattle.worm_wires.specs.Inbox.{AreInboxes, Inbox, IsTray, IsWay, Kind, come, inbox_at, links_by, room_of, whole}
use Rattle.worm_wires.specs.Links.{LinkView}
use Rattle.worm_wires.proofs.EachKind.{IsKind}
use Rattle.worm_wires.proofs.Ways.{comes_by, unlinked}

none_come : {A : Type 0} (list : LinkView → List A) (links : List LinkView) (here more : Bool) (front : Option A)
    (n : Option ℕ) → n ≡ None → IsWay here more front (on_link list links n) (room_of links n)
    → whole here front (on_link list links n) ≡ []
none_come list links here more front None e way = unlinked here more front way
none_come list links here more front (Some k) e way = absurd (cc)

module _ {A B : Type 0} {kind : Kind A} {other : Kind B} {put : LinkView → List A → LinkView}
    (is : IsKind kind other put) (mesh : List ℕ) (links : List LinkView) (inboxes : List Inbox)
    (are : AreInboxes mesh links inboxes) (x : ℕ) (x_in : x < 256) where
  way_at : IsTray kind mesh links x (kind.tray (inbox_at inboxes x))
  way_at = is.links.known mesh links x (inbox_at inboxes x) (are.known x x_in)

  seen_by : (p : ℕ) → p < 8 → (n : Option ℕ) → kind.link mesh x p ≡ n
      → on_link kind.list (links_by mesh links inboxes) n ≡ come kind mesh links inboxes x p
  seen_by p p_in None none =
      sym (none_come kind.list links (has (kind.tray (inbox_at inboxes x)).here p)
      (has (kind.tray (inbox_at inboxes x)).more p) (slice_get (kind.tray (inbox_at inboxes x)).front p)
      (kind.link mesh x p) none (way_at p p_in))
  seen_by p p_in (Some k) by = is.seen mesh links inboxes are.radices x p k by

  -- the set of a tray is that of the ports by which one comes in
  pub set_seen : AreFronts (λ p. on_link kind.list (links_by mesh links inboxes) (kind.link mesh x p))
      (kind.tray (inbox_at inboxes x)).here
  set_seen = λ p p_in.
      sym (ap (λ (l : List A). has_front l) (seen_by p p_in (kind.link mesh x p) refl)
      ∙ comes_by (has (kind.tray (inbox_at inboxes x)).here p) (has (kind.tray (inbox_at inboxes x)).more p)
      (slice_get (kind.tray (inbox_at inboxes x)).front p) (on_link kind.list links (kind.link mesh x p))
      (room_of links (kind.link mesh x p)) (way_at p p_in))
