-- Inboxes whose lists have all that comes in: what is seen of each link is what its list has.
use Rattle.std.proofs.Common.{◌≡◌, ℕ, ◌<◌, ◌≤◌, Bool, true, false, inl, inr, List, [], ◌∷◌, get_or, Option}
use Rattle.std.proofs.Common.{Some, None, refl, arith, ap, sym, ◌∙◌}
use Rattle.std.specs.Prelude.{slice_get, option_map}
use Rattle.std.proofs.lemmas.Bool.{cases_lt}
use Rattle.worm_flit.specs.SmallSet.{has}
use Rattle.worm_mesh.specs.Address.{AreRadices, has_neighbour, opposite_of}
use Rattle.worm_mesh.specs.Links.{links_before}
use Rattle.worm_mesh.proofs.Digits.{AreLarge-from_radices}
use Rattle.worm_mesh.proofs.Neighbours.{Joins-from}
use Rattle.worm_wires.specs.Arrivals.{credits_of, flits_of, on_link}
use Rattle.worm_wires.specs.Inbox.{AreInboxes, AreSpilled, Inbox, IsInbox, IsSpilled, IsTray, IsWay, Kind, Tray, come}
use Rattle.worm_wires.specs.Inbox.{flits_beyond, inbox_at, link_by, links_by, of_credits, of_flits, room_of, whole}
use Rattle.worm_wires.specs.Links.{LinkView, blank_link}
use Rattle.worm_wires.specs.Wiring.{out_link}
use Rattle.worm_wires.proofs.Apart.{into_beyond}
use Rattle.worm_wires.proofs.ByNumber.{determined}
use Rattle.worm_wires.proofs.ListsWritten.{entered_in, linked_at, same_link}
use Rattle.worm_wires.proofs.Wired.{in_none, out_none}

-- of one port
pub whole_spilled : {A : Type 0} (here more : Bool) (front : Option A) (list : List A) (room : ℕ)
    → IsWay here more front list room → here ≡ more → whole here front list ≡ list
whole_spilled true more front [] room way e = let none = way.listed in absurd (cc)
whole_spilled false more front [] room way e = refl
whole_spilled here more front (x ∷ xs) room way e = refl

-- a port that has no link
pub unlinked_spilled : {A : Type 0} (list : LinkView → List A) (links : List LinkView) (here more : Bool)
    (front : Option A) (n : Option ℕ) → n ≡ None → IsWay here more front (on_link list links n) (room_of links n)
    → here ≡ more
unlinked_spilled list links true more front None e way = absurd (omega (arith, (way.alone refl refl).0))
unlinked_spilled list links false more front None e way = sym way.listed
unlinked_spilled list links here more front (Some k) e way = absurd (cc)

-- past the mesh ports there is none

tray_past : {A : Type 0} (kind : Kind A) (mesh : List ℕ) (links : List LinkView) (x : ℕ) (tray : Tray A)
    → ((p : ℕ) → 6 ≤ p → kind.link mesh x p ≡ None) → IsTray kind mesh links x tray → IsSpilled tray 6
    → IsSpilled tray 8
tray_past kind mesh links x tray past is spilled = λ p p_in. elim (cases_lt p 6) [
  | inl below ↦ spilled p below
  | inr above ↦
      unlinked_spilled kind.list links (has tray.here p) (has tray.more p) (slice_get tray.front p)
      (kind.link mesh x p) (past p above) (is p p_in)
]

pub spilled_past : (mesh : List ℕ) (links : List LinkView) (x : ℕ) (inbox : Inbox) → AreRadices mesh
    → IsInbox mesh links x inbox → AreSpilled inbox 6 → AreSpilled inbox 8
spilled_past mesh links x inbox radices is spilled = record {
  flits = tray_past of_flits mesh links x inbox.flits
      (λ p above. in_none mesh x p (omega (arith, above, radices.few_dims))) is.flits spilled.flits;
  credits = tray_past of_credits mesh links x inbox.credits
      (λ o above. out_none mesh x o (omega (arith, above, radices.few_dims))) is.credits spilled.credits;
}

-- what comes in is what the list has
come_alike : {A : Type 0} (kind : Kind A) (mesh : List ℕ) (links : List LinkView) (inboxes : List Inbox) (x p : ℕ)
    → p < 8 → IsTray kind mesh links x (kind.tray (inbox_at inboxes x)) → IsSpilled (kind.tray (inbox_at inboxes x)) 8
    → come kind mesh links inboxes x p ≡ on_link kind.list links (kind.link mesh x p)
come_alike kind mesh links inboxes x p p_in is spilled =
    whole_spilled (has (kind.tray (inbox_at inboxes x)).here p) (has (kind.tray (inbox_at inboxes x)).more p)
    (slice_get (kind.tray (inbox_at inboxes x)).front p) (on_link kind.list links (kind.link mesh x p))
    (room_of links (kind.link mesh x p)) (is p p_in) (spilled p p_in)

module _ (mesh : List ℕ) (links : List LinkView) (inboxes : List Inbox) (are : AreInboxes mesh links inboxes)
    (spilled : (x : ℕ) → x < 256 → AreSpilled (inbox_at inboxes x) 8) where
  link_alike : (z o : ℕ) → has_neighbour mesh z o ≡ true
      → get_or links (links_before mesh z o) blank_link ≡ link_by mesh links inboxes z o
  unfolding link_by
  link_alike z o linked =
      let to = linked_at mesh z o are.radices linked in
      let joins = Joins-from mesh z o to.0 (AreLarge-from_radices mesh are.radices.radices) to.1 in
      let z_in : z < 256 = omega (arith, joins.from_node, are.radices.few_nodes) in
      let to_in : to.0 < 256 = omega (arith, joins.to_node, are.radices.few_nodes) in
      let leaves : ◌≡◌ {A = Option ℕ} (out_link mesh z o) (Some (links_before mesh z o)) =
      ap (λ (n : Option ℕ). option_map (λ y. links_before mesh z o) n) to.1 in
      same_link _ _
      (ap (λ (n : Option ℕ). flits_of links n) (sym (into_beyond mesh z o to.0 are.radices to.1))
      ∙ sym (come_alike of_flits mesh links inboxes to.0 (opposite_of o) (entered_in mesh z o to.0 are.radices to.1)
      (are.known to.0 to_in).flits (spilled to.0 to_in).flits)
      ∙ ap (λ (n : Option ℕ). flits_beyond mesh links inboxes o n) (sym to.1))
      (ap (λ (n : Option ℕ). credits_of links n) (sym leaves)
      ∙ sym (come_alike of_credits mesh links inboxes z o (omega (arith, joins.mesh_port, are.radices.few_dims))
      (are.known z z_in).credits (spilled z z_in).credits))
      refl

  pub links_spilled : links_by mesh links inboxes ≡ links
  links_spilled =
      sym (determined mesh (link_by mesh links inboxes) blank_link links are.all
      (λ z o z_in o_in linked. link_alike z o linked))
