-- A port all of whose channels are queues, and of which one channel alone has flits of a packet, is a queue of the
-- packet.
use Rattle.std.proofs.Common.{◌≡◌, ℕ, ◌<◌, List, [], ◌++◌, length, All, sym, ap, subst, ◌∙◌, arith, length-append}
use Rattle.worm_flit.specs.declared.Lane.{Lane}
use Rattle.worm_flit.specs.declared.Flit.{Flit}
use Rattle.worm_flit.specs.Stamps.{on_channel}
use Rattle.worm_theory.specs.PacketCut.{packet_held, joined}
use Rattle.worm_theory.proofs.PacketLists.{packet-append, joined-same}
use Rattle.worm_theory.proofs.ChannelLists.{nil_parts, joined_line}
use Rattle.worm_theory.proofs.PartLists.{joined-zip}

module _ (lane : Lane) (k m : ℕ) (departed arrived : List Flit) (buffer' buffer : ℕ → List Flit)
    (queue : (v : ℕ) → on_channel v departed ++ buffer' v ≡ buffer v ++ on_channel v arrived)
    (left_there : All (λ f. f.vc < m) departed) (came_there : All (λ f. f.vc < m) arrived)
    (one : (v w : ℕ) → v < m → w < m → (v ≡ w → ⊥) →
    0 < length (packet_held lane k (buffer v ++ on_channel v arrived)) →
    packet_held lane k (buffer w ++ on_channel w arrived) ≡ []) where
  abbrev of_packet : List Flit → List Flit
  of_packet fs = packet_held lane k fs

  longer_left : (xs ys : List Flit) → 0 < length (of_packet xs) → 0 < length (of_packet (xs ++ ys))
  longer_left xs ys some =
      let sum = ap length (packet-append lane k xs ys) ∙ length-append (of_packet xs) (of_packet ys) in omega arith

  longer_right : (xs ys : List Flit) → 0 < length (of_packet ys) → 0 < length (of_packet (xs ++ ys))
  longer_right xs ys some =
      let sum = ap length (packet-append lane k xs ys) ∙ length-append (of_packet xs) (of_packet ys) in omega arith

  parts_none : (xs ys : List Flit) → of_packet (xs ++ ys) ≡ [] → (of_packet xs ≡ []) × (of_packet ys ≡ [])
  parts_none xs ys e = nil_parts (of_packet xs) (of_packet ys) (sym (packet-append lane k xs ys) ∙ e)

  before_one : (v w : ℕ) → v < m → w < m → (v ≡ w → ⊥) → 0 < length (of_packet (on_channel v departed ++ buffer' v)) →
      of_packet (on_channel w departed ++ buffer' w) ≡ []
  before_one v w l n apart some =
      ap of_packet (queue w) ∙ one v w l n apart (subst (λ fs. 0 < length (of_packet fs)) (queue v) some)

  pub packet_queue : of_packet departed ++ joined m (λ v. of_packet (buffer' v)) ≡
      joined m (λ v. of_packet (buffer v)) ++ of_packet arrived
  packet_queue =
      let left =
      joined_line lane k m departed left_there
      (λ v w l n apart some. (parts_none (on_channel w departed) (buffer' w)
      (before_one v w l n apart (longer_left (on_channel v departed) (buffer' v) some))).0) in
      let came =
      joined_line lane k m arrived came_there
      (λ v w l n apart some. (parts_none (buffer w) (on_channel w arrived)
      (one v w l n apart (longer_right (buffer v) (on_channel v arrived) some))).1) in
      let first = joined-zip m (λ v. of_packet (on_channel v departed)) (λ v. of_packet (buffer' v))
      (λ v w l n apart some. (parts_none (on_channel w departed) (buffer' w)
      (before_one v w l n apart (longer_left (on_channel v departed) (buffer' v) some))).1) in
      let second = joined-zip m (λ v. of_packet (buffer v)) (λ v. of_packet (on_channel v arrived))
      (λ v w l n apart some. (parts_none (buffer w) (on_channel w arrived)
      (one v w l n apart (longer_left (buffer v) (on_channel v arrived) some))).1) in
      let same =
      joined-same m (λ v. of_packet (on_channel v departed) ++ of_packet (buffer' v))
      (λ v. of_packet (buffer v) ++ of_packet (on_channel v arrived))
      (λ v _. sym (packet-append lane k (on_channel v departed) (buffer' v)) ∙ ap of_packet (queue v) ∙
      packet-append lane k (buffer v) (on_channel v arrived)) in
      ap (λ fs. fs ++ joined m (λ v. of_packet (buffer' v))) left ∙ first ∙ same ∙ sym second ∙
      ap (λ fs. joined m (λ v. of_packet (buffer v)) ++ fs) (sym came)
