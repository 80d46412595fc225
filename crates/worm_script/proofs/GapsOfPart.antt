-- From each place of a part, how many places on the next of the same source stands.
use Rattle.std.proofs.Common.{◌≡◌, ℕ, ◌+◌, ◌-◌, ◌<◌, ◌≤◌, List, length, get_or, take, drop, arith, ap, subst, sym, ◌∙◌}
use Rattle.std.proofs.lemmas.List.{drop-map, get_or-drop, get_or-take, length-drop, length-take, take-map}
use Rattle.worm_script.specs.Script.{lane_of, sources_of, AreGaps, IsPlaceOfNext}
use Rattle.worm_script.specs.declared.entry.Entry.{Entry}

abbrev part : ℕ → ℕ → List ℕ → List ℕ
part first count xs = take count (drop first xs)

part_len : (first count : ℕ) (xs : List ℕ) → first + count ≤ length xs → length (part first count xs) ≡ count
part_len first count xs within = omega (arith, length-take count (drop first xs), length-drop first xs)

part_at : (first count : ℕ) (xs : List ℕ) (i : ℕ) → i < count
    → get_or (part first count xs) i 0 ≡ get_or xs (first + i) 0
part_at first count xs i below = get_or-take count (drop first xs) i 0 below ∙ get_or-drop first xs i 0

-- a place of the part is that of the whole, or the part's end where that lies past it
place_of_part : (x : ℕ) (sources : List ℕ) (first count from i whole : ℕ) → first + count ≤ length sources
    → first + i ≤ whole → (i < count → first + i ≡ whole) → IsPlaceOfNext x sources (first + from) whole
    → IsPlaceOfNext x (part first count sources) from i
place_of_part x sources first count from i whole within up_to at place =
    let long = part_len first count sources within in
    record {
      asks = λ there.
          let below : i < count = omega arith in
          part_at first count sources i below ∙ ap (λ (k : ℕ). get_or sources k 0) (at below)
          ∙ place.asks (let is = at below in omega arith);
      none_before = λ k above before there same.
          place.none_before (first + k) (omega arith) (omega arith) (omega arith)
          (sym (part_at first count sources k (omega arith)) ∙ same);
    }

gaps_of_part : (sources gaps : List ℕ) (first count : ℕ) → first + count ≤ length sources → AreGaps sources gaps
    → AreGaps (part first count sources) (part first count gaps)
gaps_of_part sources gaps first count within are =
    let all = are.all in
    let long = part_len first count sources within in
    record {
      all = part_len first count gaps (omega arith) ∙ sym long;
      last = λ i below none.
          let there : i < count = omega arith in
          let source = get_or sources (first + i) 0 in
          subst (λ (x : ℕ). IsPlaceOfNext x (part first count sources) (i + 1) (length (part first count sources)))
          (sym (part_at first count sources i there))
          (place_of_part source sources first count (i + 1) (length (part first count sources)) (length sources) within
          (omega arith) (λ inside. absurd (omega arith))
          (subst (λ (k : ℕ). IsPlaceOfNext source sources k (length sources)) (omega arith)
          (are.last (first + i) (omega arith) (sym (part_at first count gaps i there) ∙ none))));
      more = λ i below some.
          let there : i < count = omega arith in
          let gap = part_at first count gaps i there in
          let source = get_or sources (first + i) 0 in
          let next = first + i + get_or gaps (first + i) 0 in
          subst (λ (x : ℕ). IsPlaceOfNext x (part first count sources) (i + 1) (i + get_or (part first count gaps) i 0))
          (sym (part_at first count sources i there))
          (place_of_part source sources first count (i + 1) (i + get_or (part first count gaps) i 0) next within
          (omega arith) (λ inside. omega arith)
          (subst (λ (k : ℕ). IsPlaceOfNext source sources k next) (omega arith)
          (are.more (first + i) (omega arith) (omega arith))));
    }

-- those of a part of the entries are the part of those of all
pub gaps_between : (entries : List Entry) (gaps : List ℕ) (first next : ℕ) → first ≤ next
    → next ≤ length (sources_of entries) → AreGaps (sources_of entries) gaps
    → AreGaps (sources_of (take (next - first) (drop first entries))) (take (next - first) (drop first gaps))
gaps_between entries gaps first next rise within are =
    let count = next - first in
    let source_of : Entry → ℕ = λ (e : Entry). (lane_of e.act).src in
    let same : part first count (sources_of entries) ≡ sources_of (take count (drop first entries)) =
    ap (λ (ss : List ℕ). take count ss) (drop-map source_of first entries)
    ∙ take-map source_of count (drop first entries) in
    subst (λ (ss : List ℕ). AreGaps ss (part first count gaps)) same
    (gaps_of_part (sources_of entries) gaps first count (omega arith) are)
