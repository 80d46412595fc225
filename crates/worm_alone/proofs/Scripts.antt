-- The script that an accepted traffic text says is one that no source refuses.
use Rattle.std.proofs.Common.{◌≡◌, ℕ, ◌+◌, ◌<◌, ◌≤◌, ◌==◌, ◌&&◌, ◌||◌, List, [], ◌∷◌, ◌++◌, length, refl, arith, sym}
use Rattle.std.proofs.Common.{subst, ◌∙◌, length-append}
use Rattle.std.proofs.lemmas.Bool.Decides.{nat_tests}
use Rattle.std.proofs.lemmas.List.{map-append, length-map}
use Rattle.worm_text.proofs.NodeCounts.{nodes_some}
use Rattle.worm_flit.specs.declared.Lane.{Lane}
use Rattle.worm_mesh.specs.Address.{node_count}
use Rattle.worm_script.specs.declared.entry.Act.{Act}
use Rattle.worm_script.specs.declared.entry.Act.TheVariants.{Offer, Close}
use Rattle.worm_script.specs.declared.entry.Entry.{Entry}
use Rattle.worm_core.specs.Acceptable.{closes, is_closed, IsAcceptable, AreAcceptable, IsAcceptableScript}
use Rattle.worm_script.specs.Script.{AreInOrder}
use Rattle.worm_text.specs.declared.format.Format.{Format}
use Rattle.worm_text.specs.Network.{Network, Keeps}
use Rattle.worm_text.specs.Traffic.{Said, entry_view, said, closes as says_closed, is_closed as is_said_closed, send}
use Rattle.worm_text.specs.Traffic.{close}
use Rattle.worm_text.specs.TrafficText.{IsEntry, AreEntries}
use Rattle.worm_text.specs.ScriptView.{said_of}

either_way : (a b : ℕ) → (a == b) ≡ (b == a)
either_way a b = grind (arith, nat_tests)

same_lane_either_way : (a b : Lane) → ((a.src == b.src) && (a.dst == b.dst) && (a.class == b.class))
    ≡ ((b.src == a.src) && (b.dst == a.dst) && (b.class == a.class))
same_lane_either_way a b = λ t. (either_way a.src b.src t) && (either_way a.dst b.dst t) &&
    (either_way a.class b.class t)

closes_alike : (lane : Lane) (act : Act) (turn : ℕ) → closes lane act ≡ says_closed lane (said turn act)
closes_alike lane (Offer packet) turn = refl
closes_alike lane (Close other) turn = same_lane_either_way other lane

closed_alike : (entries : List Entry) (lane : Lane) → is_closed entries lane ≡ is_said_closed (said_of entries) lane
closed_alike [] lane = refl
closed_alike (e ∷ entries) lane = λ t. (closes_alike lane e.act e.turn t) || (closed_alike entries lane t)

module _ (n : Network) (some : 1 ≤ node_count n.radices)
    (paired : length n.channels ≡ length n.classes) where
  placed : (before : List Entry) (turn : ℕ) (act : Act) → IsEntry n (said_of before) (said turn act)
      → IsAcceptable n.radices n.channels before act
  placed before turn (Offer packet) entry = record {
    src = omega (arith, some, entry.0.src.1);
    dst = omega (arith, some, entry.0.dst.1);
    class = omega (arith, entry.0.class, paired);
    open_lane = closed_alike before packet.lane ∙ entry.0.open_lane;
    may_close = tt;
  }
  placed before turn (Close lane) entry = record {
    src = omega (arith, some, entry.0.src.1);
    dst = omega (arith, some, entry.0.dst.1);
    class = omega (arith, entry.0.class, paired);
    open_lane = closed_alike before lane ∙ entry.0.open_lane;
    may_close = entry.1;
  }

  acceptable : (before script : List Entry) → AreEntries n (said_of before) (said_of script)
      → AreAcceptable n.radices n.channels before script
  acceptable before [] entries = tt
  acceptable before (e ∷ script) entries = (
    placed before e.turn e.act entries.0,
    acceptable (before ++ e ∷ []) script (subst (λ (b : List Said). AreEntries n b (said_of script))
        (sym (map-append entry_view before (e ∷ []))) entries.1),
  )

room_of : (n : Network) (before : List Said) (e : Said) → IsEntry n before e → length before < 10000
room_of n before (send turn lane words) entry = entry.0.room
room_of n before (close turn lane) entry = entry.0.room

few_entries : (n : Network) (before entries : List Said) → length before ≤ 10000 → AreEntries n before entries
    → length before + length entries ≤ 10000
few_entries n before [] few keeps = omega (arith, few)
few_entries n before (e ∷ entries) few keeps =
    let room = room_of n before e keeps.0 in
    let longer : length (before ++ e ∷ []) ≡ length before + 1 = length-append before (e ∷ []) in
    let rest = few_entries n (before ++ e ∷ []) entries (omega (arith, room, longer)) keeps.1 in
    omega (arith, rest, longer)

pub accepted_script : (format : Format) (n : Network) (script : List Entry) → Keeps format n
    → AreEntries n [] (said_of script) → AreInOrder script
    → IsAcceptableScript n.radices n.channels script
accepted_script format n script kept entries in_order =
    let few = few_entries n [] (said_of script) (omega arith) entries in
    record {
      in_order = in_order;
      few = omega (arith, few, length-map script entry_view);
      entries = acceptable n (nodes_some n.radices kept.mesh.each)
          kept.classes.paired [] script entries;
    }
