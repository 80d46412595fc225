-- The packets that have a flit in a buffer or on a link, row by row.
use Rattle.std.proofs.Common.{◌≡◌, ◌<◌, ◌+◌, ℕ, List, [], ◌∷◌, Bool, true, false, not, ◌&&◌, ◌||◌, cond, Option, Some}
use Rattle.std.proofs.Common.{None, fold, take, length, get_or, min, refl, sym, ap, ◌∙◌, ◌⊎◌, inl, inr, true≢false}
use Rattle.std.proofs.Common.{arith}
use Rattle.std.specs.Prelude.{is_some}
use Rattle.std.specs.BTreeMap as tree
use Rattle.std.specs.List.{cons_option, filter_map}
use Rattle.std.specs.Option.{unwrap_or}
use Rattle.std.specs.Ordering.{is_eq}
use Rattle.std.proofs.lemmas.List.{take_more}
use Rattle.std.proofs.lemmas.List.Elements.{filter_map-append}
use Rattle.std.proofs.lemmas.List.Sums.{fold-append}
use Rattle.worm_rows.specs.declared.rows.PacketId.{PacketId}
use Rattle.worm_rows.specs.declared.rows.Row.{Row}
use Rattle.worm_picture.specs.Packets.{has_packet, moved_by, moves_in, moving_of, packet_cmp, same_packet, with_packet}
use Rattle.worm_picture.specs.declared.packets.Packet.{Packet}
use Rattle.worm_picture.specs.declared.packets.Packets.{Packets}
use Rattle.worm_picture.proofs.Tails.{is_packet, same_test}

-- ---- one row more

-- with the packet that a row says, if it says one
abbrev pub with_moved : Option PacketId → List PacketId → List PacketId
with_moved None packets = packets
with_moved (Some packet) packets = with_packet packets packet

one_moved : (moved : Option PacketId) (packets : List PacketId)
    → fold with_packet packets (cons_option moved []) ≡ with_moved moved packets
one_moved None packets = refl
one_moved (Some packet) packets = refl

pub moving_more : (rows : List Row) (i : ℕ) (d : Row) (moved : Option PacketId) → i < length rows
    → moved ≡ moved_by (get_or rows i d) → with_moved moved (moving_of (take i rows)) ≡ moving_of (take (i + 1) rows)
moving_more rows i d moved below is =
    let row = get_or rows i d in
    ap (λ m. with_moved m (moving_of (take i rows))) is
    ∙ sym (ap moving_of (take_more rows i d below)
    ∙ ap (fold with_packet []) (filter_map-append moved_by (take i rows) (row ∷ []))
    ∙ fold-append with_packet [] (filter_map moved_by (take i rows)) (cons_option (moved_by row) [])
    ∙ one_moved (moved_by row) (moving_of (take i rows)))

-- ---- one flit more

or_false : (b : Bool) → (b || false) ≡ b
or_false true = refl
or_false false = refl

or_true : (b : Bool) → (b || true) ≡ true
or_true true = refl
or_true false = refl

or_swap : (a b : Bool) → (a || b) ≡ (b || a)
or_swap true b = sym (or_true b)
or_swap false b = sym (or_false b)

and_true : (b : Bool) → (b && true) ≡ b
and_true true = refl
and_true false = refl

and_false : (b : Bool) → (b && false) ≡ false
and_false true = refl
and_false false = refl

-- the packet of a flit that was noted, if it moves
abbrev pub moved_if : Bool → PacketId → Option PacketId
moved_if moves packet = cond moves (Some packet) None

module _ (packet : PacketId) (packets : List PacketId) where
  there_already : (other : PacketId) (same : Bool) → same_packet other packet ≡ same
      → has_packet packets packet ≡ true → (has_packet packets other || same) ≡ has_packet packets other
  there_already other true is there =
      let other_there : has_packet packets other ≡ true = ap (has_packet packets) (is_packet other packet is) ∙ there in
      or_true (has_packet packets other) ∙ sym other_there
  there_already other false is there = or_false (has_packet packets other)

  now_there : (other : PacketId) (there : Bool) → has_packet packets packet ≡ there
      → (has_packet packets other || same_packet other packet)
      ≡ has_packet (cond there packets (packet ∷ packets)) other
  now_there other true is = there_already other (same_packet other packet) refl is
  now_there other false is = or_swap (has_packet packets other) (same_packet other packet)

  pub noted : (moves : Bool) (other : PacketId) → (has_packet packets other || (moves && same_packet other packet))
      ≡ has_packet (with_moved (moved_if moves packet) packets) other
  noted true other = now_there other (has_packet packets packet) refl
  noted false other = or_false (has_packet packets other)

  count_there : (there : Bool) (most old : ℕ) → old ≡ min (length packets) most
      → cond (not there) (min (old + 1) most) old ≡ min (length (cond there packets (packet ∷ packets))) most
  count_there true most old is = is
  count_there false most old is = omega (arith, is)

  pub counted : (moves : Bool) (most old : ℕ) → old ≡ min (length packets) most
      → cond (moves && not (has_packet packets packet)) (min (old + 1) most) old
      ≡ min (length (with_moved (moved_if moves packet) packets)) most
  counted true most old is = count_there (has_packet packets packet) most old is
  counted false most old is = is

-- ---- what is known of the packets

-- a sign that stays, or that is given where there was none
pub kept_sign : (moves signed : Bool) → (moves ≡ false) ⊎ (signed ≡ true) → signed ≡ (signed || moves)
kept_sign false signed e = sym (or_false signed)
kept_sign true true e = refl
kept_sign true false (inl e) = absurd (true≢false e)
kept_sign true false (inr e) = absurd (true≢false (sym e))

pub given_sign : (moves signed : Bool) → moves ≡ true → true ≡ (signed || moves)
given_sign moves signed e = sym (ap (λ m. signed || m) e ∙ or_true signed)

pub counts_it : (moves signed : Bool) (more old : ℕ) → moves ≡ true → signed ≡ false
    → more ≡ cond (moves && not signed) more old
counts_it moves signed more old e none = rw (e, none) refl

pub counts_none : (moves signed : Bool) (more old : ℕ) → (moves ≡ false) ⊎ (signed ≡ true)
    → old ≡ cond (moves && not signed) more old
counts_none false signed more old e = refl
counts_none true true more old e = refl
counts_none true false more old (inl e) = absurd (true≢false e)
counts_none true false more old (inr e) = absurd (true≢false (sym e))

pub one_sign_more : (old new : Packets) (packet other : PacketId) (moves : Bool) (now : Packet)
    → is_some now.sign ≡ (moves_in old packet || moves)
    → tree.get packet_cmp new.packets other
    ≡ cond (is_eq (packet_cmp packet other)) (Some now) (tree.get packet_cmp old.packets other)
    → moves_in new other ≡ (moves_in old other || (moves && same_packet other packet))
one_sign_more old new packet other moves now sign updates = by (same_packet other packet) refl where
  signed : Option Packet → Bool
  signed known = is_some (unwrap_or known (record { last = 0; sign = None })).sign

  by : (same : Bool) → same_packet other packet ≡ same
      → moves_in new other ≡ (moves_in old other || (moves && same_packet other packet))
  by true is =
      ap signed (updates ∙ ap (λ (b : Bool). cond b (Some now) (tree.get packet_cmp old.packets other))
      (same_test packet other ∙ is))
      ∙ sign ∙ ap (λ (p : PacketId). moves_in old p || moves) (sym (is_packet other packet is))
      ∙ sym (ap (λ (b : Bool). moves_in old other || (moves && b)) is
      ∙ ap (λ (b : Bool). moves_in old other || b) (and_true moves))
  by false is =
      ap signed (updates ∙ ap (λ (b : Bool). cond b (Some now) (tree.get packet_cmp old.packets other))
      (same_test packet other ∙ is))
      ∙ sym (ap (λ (b : Bool). moves_in old other || (moves && b)) is
      ∙ ap (λ (b : Bool). moves_in old other || b) (and_false moves) ∙ or_false (moves_in old other))
