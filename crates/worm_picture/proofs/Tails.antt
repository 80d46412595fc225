-- The tails of packets, row by row.
use Rattle.std.proofs.Common.{◌≡◌, ℕ, ◌<◌, ◌+◌, ◌==◌, ◌&&◌, List, [], ◌∷◌, ◌++◌, Bool, true, false, cond, Option, Some}
use Rattle.std.proofs.Common.{None}
use Rattle.std.proofs.Common.{fold, take, length, get_or, max, refl, sym, ap, ◌∙◌, arith}
use Rattle.std.specs.List.{cons_option, filter_map}
use Rattle.std.specs.Ordering.{is_eq, nat_cmp, ordering_then}
use Rattle.std.specs.declared.cmp.Ordering.{Ordering}
use Rattle.std.specs.declared.cmp.Ordering.TheVariants.{Less, Equal, Greater}
use Rattle.std.proofs.lemmas.Bool.Decides.{nat_tests}
use Rattle.std.proofs.lemmas.List.{take_more}
use Rattle.worm_rows.specs.declared.rows.PacketId.{PacketId}
use Rattle.worm_rows.specs.declared.rows.Row.{Row}
use Rattle.std.specs.BTreeMap as tree
use Rattle.std.specs.Option.{unwrap_or}
use Rattle.worm_text.specs.Traffic.{lane_cmp}
use Rattle.worm_picture.specs.Packets.{last_with, packet_cmp, place_of, same_packet, tail_in, tail_of}
use Rattle.worm_picture.specs.declared.packets.Packet.{Packet}
use Rattle.worm_picture.specs.declared.packets.Packets.{Packets}

-- with the flit that a row says, if it says one
abbrev pub with_place : Option (PacketId × ℕ) → PacketId → ℕ → ℕ
with_place None packet last = last
with_place (Some f) packet last = last_with f.0 f.1 packet last

module _ (packet : PacketId) where
  abbrev over : ℕ → List (PacketId × ℕ) → ℕ
  over last places = fold (λ last f. last_with f.0 f.1 packet last) last places

  one_place : (place : Option (PacketId × ℕ)) (last : ℕ)
      → over last (cons_option place []) ≡ with_place place packet last
  one_place None last = refl
  one_place (Some f) last = refl

  behind_place : (place : Option (PacketId × ℕ)) (more some : List (PacketId × ℕ)) (row : Row) (last : ℕ) →
      ((n : ℕ) → over n more ≡ with_place (place_of row) packet (over n some)) →
      over last (cons_option place more) ≡ with_place (place_of row) packet (over last (cons_option place some))
  behind_place None more some row last rest = rest last
  behind_place (Some f) more some row last rest = rest (last_with f.0 f.1 packet last)

  behind : (rows : List Row) (row : Row) (last : ℕ) → over last (filter_map place_of (rows ++ row ∷ []))
      ≡ with_place (place_of row) packet (over last (filter_map place_of rows))
  behind [] row last = one_place (place_of row) last
  behind (r ∷ rows) row last =
      behind_place (place_of r) (filter_map place_of (rows ++ row ∷ [])) (filter_map place_of rows) row last
      (λ n. behind rows row n)

  pub one_row_more : (rows : List Row) (i : ℕ) (d : Row) → i < length rows →
      tail_of (take (i + 1) rows) packet ≡ with_place (place_of (get_or rows i d)) packet (tail_of (take i rows) packet)
  one_row_more rows i d below =
      ap (λ (l : List Row). tail_of l packet) (take_more rows i d below) ∙ behind (take i rows) (get_or rows i d) 0

  -- the tail so far, with the next row
  pub tail_more : (rows : List Row) (i : ℕ) (d : Row) → i < length rows → (place : Option (PacketId × ℕ)) →
      place ≡ place_of (get_or rows i d) → (old new : ℕ) → old ≡ tail_of (take i rows) packet →
      new ≡ with_place place packet old → new ≡ tail_of (take (i + 1) rows) packet
  tail_more rows i d below place is old new before now =
      now ∙ (λ j. with_place (is j) packet (before j)) ∙ sym (one_row_more rows i d below)

-- ---- one flit more of a packet

is_eq-then : (o p : Ordering) → is_eq (ordering_then o p) ≡ (is_eq o && is_eq p)
is_eq-then Less p = refl
is_eq-then Equal p = refl
is_eq-then Greater p = refl

is_eq-nat : (a b : ℕ) → is_eq (nat_cmp a b) ≡ (b == a)
is_eq-nat a b = grind (arith, nat_tests)

pub same_test : (a b : PacketId) → is_eq (packet_cmp a b) ≡ same_packet b a
same_test a b =
    is_eq-then (lane_cmp a.lane b.lane) (nat_cmp a.number b.number)
    ∙ (λ i. lanes i && is_eq-nat a.number b.number i) where
      lanes : is_eq (lane_cmp a.lane b.lane)
          ≡ ((b.lane.src == a.lane.src) && ((b.lane.dst == a.lane.dst) && (b.lane.class == a.lane.class)))
      lanes =
          is_eq-then (nat_cmp a.lane.src b.lane.src)
          (ordering_then (nat_cmp a.lane.dst b.lane.dst) (nat_cmp a.lane.class b.lane.class))
          ∙ (λ i. is_eq-nat a.lane.src b.lane.src i
          && is_eq-then (nat_cmp a.lane.dst b.lane.dst) (nat_cmp a.lane.class b.lane.class) i)
          ∙ (λ i. (b.lane.src == a.lane.src)
          && (is_eq-nat a.lane.dst b.lane.dst i && is_eq-nat a.lane.class b.lane.class i))

both_true : (a b : Bool) → (a && b) ≡ true → (a ≡ true) × (b ≡ true)
both_true true b e = (refl, e)
both_true false b e = absurd (cc)

same_number : (a b : ℕ) → (a == b) ≡ true → a ≡ b
same_number a b e = grind (arith, nat_tests, e)

pub is_packet : (a b : PacketId) → same_packet a b ≡ true → a ≡ b
is_packet a b e =
    let parts = both_true _ (a.number == b.number) e in
    let lane = both_true (a.lane.src == b.lane.src) _ parts.0 in
    let rest = both_true (a.lane.dst == b.lane.dst) (a.lane.class == b.lane.class) lane.1 in
    let src = same_number a.lane.src b.lane.src lane.0 in
    let dst = same_number a.lane.dst b.lane.dst rest.0 in
    let class = same_number a.lane.class b.lane.class rest.1 in
    let number = same_number a.number b.number parts.1 in
    λ i. record { lane = record { src = src i; dst = dst i; class = class i }; number = number i }

pub one_flit_more : (old new : Packets) (packet other : PacketId) (index : ℕ) (now : Packet) →
    now.last ≡ max (tail_in old packet) index →
    tree.get packet_cmp new.packets other
    ≡ cond (is_eq (packet_cmp packet other)) (Some now) (tree.get packet_cmp old.packets other) →
    tail_in new other ≡ last_with packet index other (tail_in old other)
one_flit_more old new packet other index now last updates = by (same_packet other packet) refl where
  tail : Option Packet → ℕ
  tail known = (unwrap_or known (record { last = 0; sign = None })).last

  by : (same : Bool) → same_packet other packet ≡ same →
      tail_in new other ≡ last_with packet index other (tail_in old other)
  by true is =
      ap tail (updates ∙ ap (λ (b : Bool). cond b (Some now) (tree.get packet_cmp old.packets other))
      (same_test packet other ∙ is))
      ∙ last ∙ ap (λ (p : PacketId). max (tail_in old p) index) (sym (is_packet other packet is))
      ∙ ap (λ (b : Bool). cond b (max (tail_in old other) index) (tail_in old other)) (sym is)
  by false is =
      ap tail (updates ∙ ap (λ (b : Bool). cond b (Some now) (tree.get packet_cmp old.packets other))
      (same_test packet other ∙ is))
      ∙ ap (λ (b : Bool). cond b (max (tail_in old other) index) (tail_in old other)) (sym is)
