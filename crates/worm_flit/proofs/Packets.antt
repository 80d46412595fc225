-- The flits of a packet, by index.
use Rattle.std.proofs.Common.{ℕ, zero, suc, ◌+◌, ◌<◌, ◌≡◌, List, [], ◌∷◌, length, slice_get, slice_index_or, Some}
use Rattle.std.proofs.Common.{arith, refl}
use Rattle.std.proofs.lemmas.Bool.{ne_eqb}
use Rattle.worm_flit.specs.declared.Lane.{Lane}
use Rattle.worm_flit.specs.declared.Kind.TheVariants.{Body, Tail, Head, Single}
use Rattle.worm_flit.specs.Packets.{flit, later_flits, packet_flits, kind_at}

pub length-later_flits : (lane : Lane) (n i : ℕ) (ws : List ℕ) → length (later_flits lane n i ws) ≡ length ws
length-later_flits lane n i [] = refl
length-later_flits lane n i (w ∷ []) = refl
length-later_flits lane n i (w ∷ v ∷ ws) = let e = length-later_flits lane n (i + 1) (v ∷ ws) in omega arith

pub length-packet_flits : (lane : Lane) (n : ℕ) (ws : List ℕ) → length (packet_flits lane n ws) ≡ length ws
length-packet_flits lane n [] = refl
length-packet_flits lane n (w ∷ []) = refl
length-packet_flits lane n (w ∷ v ∷ ws) = let e = length-later_flits lane n 1 (v ∷ ws) in omega arith

-- the kind of a flit that is not the first
later_kind : (count i : ℕ) → 1 < count → 0 < i → i + 1 < count → kind_at count i ≡ Body
later_kind count i many later inside =
    rw (ne_eqb count 1 (omega arith), ne_eqb i 0 (omega arith), ne_eqb (i + 1) count (omega arith)) refl

last_kind : (count i : ℕ) → 1 < count → 0 < i → i + 1 ≡ count → kind_at count i ≡ Tail
last_kind count i many later last =
    rw (ne_eqb count 1 (omega arith), ne_eqb i 0 (omega arith)) (grind arith)

-- flit k of what follows a head, which is flit j of the packet
later_flits-at : (lane : Lane) (n count i : ℕ) (ws : List ℕ) (k j : ℕ) → 0 < i → i + length ws ≡ count → k < length ws
    → j ≡ i + k
    → slice_get (later_flits lane n i ws) k ≡ Some (flit lane n j (kind_at count j) (slice_index_or ws k 0))
later_flits-at lane n count i [] k j later whole below is = absurd (omega arith)
later_flits-at lane n count i (w ∷ []) zero j later whole below is =
    let e : j ≡ i = omega arith in rw (last_kind count j (omega arith) (omega arith) (omega arith), e) refl
later_flits-at lane n count i (w ∷ []) (suc k) j later whole below is = absurd (omega arith)
later_flits-at lane n count i (w ∷ v ∷ ws) zero j later whole below is =
    let e : j ≡ i = omega arith in rw (later_kind count j (omega arith) (omega arith) (omega arith), e) refl
later_flits-at lane n count i (w ∷ v ∷ ws) (suc k) j later whole below is =
    later_flits-at lane n count (i + 1) (v ∷ ws) k j (omega arith) (omega arith) (omega arith) (omega arith)

pub packet_flits-at : (lane : Lane) (n : ℕ) (ws : List ℕ) (i : ℕ) → i < length ws
    → slice_get (packet_flits lane n ws) i ≡ Some (flit lane n i (kind_at (length ws) i) (slice_index_or ws i 0))
packet_flits-at lane n [] i below = absurd (omega arith)
packet_flits-at lane n (w ∷ []) zero below = refl
packet_flits-at lane n (w ∷ []) (suc i) below = absurd (omega arith)
packet_flits-at lane n (w ∷ v ∷ ws) zero below = rw (ne_eqb (length (w ∷ v ∷ ws)) 1 (omega arith)) refl
packet_flits-at lane n (w ∷ v ∷ ws) (suc i) below =
    later_flits-at lane n (length (w ∷ v ∷ ws)) 1 (v ∷ ws) i (suc i) (omega arith) (omega arith) (omega arith)
    (omega arith)

-- worked packets
one_word : packet_flits (record { src = 0; dst = 1; class = 0 }) 0 (17 ∷ []) ≡
    record {
      lane = record { src = 0; dst = 1; class = 0 };
      packet = 0;
      index = 0;
      kind = Single;
      vc = 0;
      word = 17;
    } ∷ []
one_word = refl

three_words : packet_flits (record { src = 0; dst = 15; class = 1 }) 4 (0 ∷ 100 ∷ 200 ∷ []) ≡
    record { lane = record { src = 0; dst = 15; class = 1 }; packet = 4; index = 0; kind = Head; vc = 1; word = 0 } ∷
    record { lane = record { src = 0; dst = 15; class = 1 }; packet = 4; index = 1; kind = Body; vc = 1; word = 100 } ∷
    record {
      lane = record { src = 0; dst = 15; class = 1 };
      packet = 4;
      index = 2;
      kind = Tail;
      vc = 1;
      word = 200;
    } ∷ []
three_words = refl
