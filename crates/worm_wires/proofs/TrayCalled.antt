-- A port's tray, as a call reads and writes it: the node's inbox is read at one place and written there again, and the
-- list behind it likewise.
use Rattle.std.proofs.Common.{◌≡◌, ℕ, ◌<◌, Bool, List, length, get_or, set, Option, Some, refl}
use Rattle.std.proofs.Common.{arith, ap, sym, subst, ◌∙◌}
use Rattle.std.specs.Prelude.{slice_get}
use Rattle.std.proofs.lemmas.List.{get_or_default, set-get_or}
use Rattle.worm_flit.specs.SmallSet.{has}
use Rattle.worm_wires.specs.Arrivals.{LinksView, on_link, state_at, with_state}
use Rattle.worm_wires.specs.Inbox.{AreInboxes, Inbox, IsFiled, IsWay, IsWayOf, Kind, Tray, inbox_at, links_by}
use Rattle.worm_wires.specs.Inbox.{room_of, whole}
use Rattle.worm_wires.specs.Links.{LinkView, blank_link}
use Rattle.worm_wires.proofs.Called.{AreSeen, IsCall, inbox_is, list_is}
use Rattle.worm_wires.proofs.EachKind.{IsKind, IsWritten}
use Rattle.worm_wires.proofs.TraysWritten.{IsWrite}

module _ {A B : Type 0} {kind : Kind A} {other : Kind B} {put : LinkView → List A → LinkView}
    (is : IsKind kind other put) {mesh : List ℕ} {lists : List LinkView} {inboxes : List Inbox} {now : LinksView}
    {x i : ℕ} {read : Inbox} (call : IsCall mesh lists inboxes now x i read) {tray : Tray A}
    (tray_read : kind.tray read ≡ tray) where
  pub tray_is : kind.tray (inbox_at inboxes x) ≡ tray
  tray_is = ap (λ (b : Inbox). kind.tray b) (inbox_is call) ∙ tray_read

  module _ {p k : ℕ} (by : kind.link mesh x p ≡ Some k) where
    there : k < length lists
    there = is.links.there mesh lists inboxes call.sound x p k by

    -- what holds of the port as it is read
    pub way : IsWayOf tray p (kind.list (get_or lists k blank_link)) (get_or lists k blank_link).room
    way =
        let p_in : p < 6 = is.links.port mesh x p k call.sound.radices by in
        subst (λ (n : Option ℕ). IsWayOf tray p (on_link kind.list lists n) (room_of lists n)) by
        (subst (λ (t : Tray A). IsWayOf t p (on_link kind.list lists (kind.link mesh x p))
        (room_of lists (kind.link mesh x p))) tray_is
        (is.links.known mesh lists x (inbox_at inboxes x) (call.sound.known x call.node) p (omega (arith, p_in))))

    -- and what is seen on the link
    pub seen_is : kind.list (state_at now k)
        ≡ whole (has tray.here p) (slice_get tray.front p) (kind.list (get_or lists k blank_link))
    seen_is =
        ap (λ (l : LinksView). kind.list (state_at l k)) (sym call.seen)
        ∙ is.seen mesh lists inboxes call.sound.radices x p k by
        ∙ (λ t. whole (has (tray_is t).here p) (slice_get (tray_is t).front p) (on_link kind.list lists (by t)))

    pub room_is : (state_at now k).room ≡ (get_or lists k blank_link).room
    room_is =
        ap (λ (l : LinksView). (state_at l k).room) (sym call.seen)
        ∙ is.room_seen mesh lists inboxes call.sound.radices x p k by

    -- by the list as it is read
    module _ (j : ℕ) (list : LinkView) (at : j ≡ k) (reads : list ≡ get_or lists j list) where
      pub the_list : list ≡ get_or lists k blank_link
      the_list = list_is lists k j list there at reads

      pub way_read : IsWayOf tray p (kind.list list) list.room
      way_read = subst (λ (l : LinkView). IsWayOf tray p (kind.list l) l.room) (sym the_list) way

      pub seen_read : kind.list (state_at now k)
          ≡ whole (has tray.here p) (slice_get tray.front p) (kind.list list)
      seen_read = seen_is ∙ ap (λ (l : LinkView). whole (has tray.here p) (slice_get tray.front p) (kind.list l))
          (sym the_list)

      -- both are written
      module _ (box : Inbox) {tray_now : Tray A} (box_is : kind.tray box ≡ tray_now)
          (kept : other.tray box ≡ other.tray read) (here more : Bool) (front : Option A)
          (filed : IsFiled tray tray_now p here more front) (link : LinkView) (same : other.list link ≡ other.list list)
          (room : link.room ≡ list.room)
          (way_now : IsWay here more (slice_get tray_now.front p) (kind.list link) link.room) where
        front_now : slice_get (kind.tray box).front p ≡ slice_get tray_now.front p
        front_now = ap (λ (t : Tray A). slice_get t.front p) box_is

        write : IsWrite kind other mesh lists inboxes x p k box link here more front
        write = record {
          node = call.node;
          by = by;
          filed = subst (λ (t : Tray A). IsFiled (kind.tray (inbox_at inboxes x)) t p here more front) (sym box_is)
              (subst (λ (t : Tray A). IsFiled t tray_now p here more front) (sym tray_is) filed);
          kept = kept ∙ ap (λ (b : Inbox). other.tray b) (sym (inbox_is call));
          same = same ∙ ap other.list the_list;
          room = room ∙ ap (λ (l : LinkView). l.room) the_list;
          way = subst (λ (o : Option A). IsWay here more o (kind.list link) link.room) (sym front_now) way_now;
        }

        written : IsWritten kind put mesh lists inboxes p k (set inboxes x box) box link here
        written = is.written mesh lists inboxes call.sound x p k box link here more front write

        pub both_written : (fs : List A) → whole here (slice_get tray_now.front p) (kind.list link) ≡ fs
            → AreSeen mesh (set lists j link) (set inboxes i box) (with_state now k (put (state_at now k) fs))
        both_written fs all =
            let all_now = ap (λ (o : Option A). whole here o (kind.list link)) front_now ∙ all in
            record {
              sound = subst (λ (v : ℕ). AreInboxes mesh (set lists v link) (set inboxes i box)) (sym at)
                  (subst (λ (v : ℕ). AreInboxes mesh (set lists k link) (set inboxes v box)) (sym call.at)
                  written.sound);
              seen = (λ t. record {
                mesh = mesh;
                states = links_by mesh (set lists (at t) link) (set inboxes (call.at t) box);
              })
                  ∙ (λ t. record { mesh = mesh; states = written.seen t })
                  ∙ (λ t. with_state (call.seen t) k (put (state_at (call.seen t) k) (all_now t)));
            }

    -- the inbox alone is written
    module _ (box : Inbox) {tray_now : Tray A} (box_is : kind.tray box ≡ tray_now)
        (kept : other.tray box ≡ other.tray read) (here more : Bool) (front : Option A)
        (filed : IsFiled tray tray_now p here more front)
        (way_now : IsWay here more (slice_get tray_now.front p) (kind.list (get_or lists k blank_link))
        (get_or lists k blank_link).room) where
      pub inbox_written : (fs : List A)
          → whole here (slice_get tray_now.front p) (kind.list (get_or lists k blank_link)) ≡ fs
          → AreSeen mesh lists (set inboxes i box) (with_state now k (put (state_at now k) fs))
      inbox_written fs all =
          subst (λ (l : List LinkView). AreSeen mesh l (set inboxes i box) (with_state now k (put (state_at now k) fs)))
          (set-get_or lists k blank_link)
          (both_written k (get_or lists k blank_link) refl
          (sym (get_or_default lists k (get_or lists k blank_link) blank_link there)) box box_is kept here more front
          filed (get_or lists k blank_link) refl refl way_now fs all)
