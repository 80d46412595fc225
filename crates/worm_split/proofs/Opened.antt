-- What is dealt of a network just taken apart, by the rooms that were made for it.
use Rattle.std.proofs.Common.{◌≡◌, ℕ, List, ap, subst}
use Rattle.worm_region.specs.State.{NetState}
use Rattle.worm_split.specs.declared.ends.EndPair.{EndPair}
use Rattle.worm_split.specs.declared.memory.Rooms.{Rooms}
use Rattle.worm_split.specs.Apart.{Apart}
use Rattle.worm_split.specs.PartState.{HasConfigOf}
use Rattle.std.specs.Prelude.{vec_capacity}
use Rattle.worm_split.specs.Splits.{AreRooms, AreSeats, IsOpened}

module _ (net s : NetState) (workers : ℕ) (rooms : Rooms) (pairs : List EndPair) (are : AreRooms net workers rooms)
    (opening : s ≡ net) (made : pairs ≡ rooms.pairs.items) where
  pub opened : (kept : Apart) → kept.net ≡ net → kept.ways ≡ rooms.ways.items → kept.pairs ≡ rooms.pairs.items →
      HasConfigOf kept.net kept.net → IsOpened s workers pairs kept
  opened kept all ways kept_pairs config = rw (opening, made) (record {
    config = subst (λ (n : NetState). HasConfigOf n kept.net) all config;
    nodes = ap (λ (n : NetState). n.nodes) all;
    links = ap (λ (n : NetState). n.links) all;
    pairs_made = rw ways are.pairs;
    all_made = kept_pairs;
  })

  pub seated : AreSeats s pairs workers rooms.seats.items rooms.parts.items (vec_capacity rooms.parts)
  seated = rw (opening, made) (record {
    all = are.seats;
    count = are.all_seats;
    no_part = are.no_part;
    for_all = are.room;
  })
