-- A script with no entry, and with one more.
use Rattle.std.proofs.Common.{◌≡◌, inl, inr, ℕ, ◌+◌, ◌-◌, ◌<◌, ◌≤◌, List, [], ◌∷◌, ◌++◌, length, get_or, set, arith}
use Rattle.std.proofs.Common.{ap, sym, subst, ◌∙◌, length-append, refl}
use Rattle.std.proofs.Math.ListN.{replicate}
use Rattle.std.proofs.Math.Seq.{get_or-append_seam}
use Rattle.std.proofs.lemmas.Bool.{cases_lt}
use Rattle.std.proofs.lemmas.List.{get_or-replicate, get_or_append_left, length-map, map-append}
use Rattle.std.proofs.lemmas.List.Elements.{All-push}
use Rattle.worm_script.specs.Script.{last_turn, lane_of, sources_of, turns_of, AreInOrder, AreLasts, IsScript}
use Rattle.worm_script.specs.Script.{HasWords, HaveWords}
use Rattle.worm_script.specs.declared.entry.Entry.{Entry}
use Rattle.worm_script.proofs.GapsLinked.{IsLinked, gaps_linked, inner_linked, lasts_linked, linked_at_end}
use Rattle.worm_script.proofs.NextOfSource.{as_many}

no_last : (x : ℕ) → x < 256 → get_or {A = ℕ} (replicate 256 0) x 0 ≡ 0
no_last x x_in = get_or-replicate 256 x 0 0 x_in

none_is_script : IsScript [] [] (replicate 256 0)
none_is_script = record {
  in_order = λ i below. absurd (omega arith);
  words = λ k d below. absurd (omega arith);
  nexts = record {
    all = refl;
    last = λ i below none. absurd (omega arith);
    more = λ i below some. absurd (omega arith);
  };
  inner = λ i below. absurd (omega arith);
  last = record {
    within = λ x x_in. let none = no_last x x_in in omega arith;
    asks = λ x x_in some. let none = no_last x x_in in absurd (omega arith);
    none_behind = λ x k x_in above below. absurd (omega arith);
  };
}

pub none_is : (entries : List Entry) (gaps : List ℕ) → entries ≡ [] → gaps ≡ []
    → IsScript entries gaps (replicate 256 0)
none_is entries gaps no_entry no_gap =
    subst (λ (es : List Entry). IsScript es gaps (replicate 256 0)) (sym no_entry)
    (subst (λ (gs : List ℕ). IsScript [] gs (replicate 256 0)) (sym no_gap) none_is_script)

in_order_more : (entries : List Entry) (e : Entry) → AreInOrder entries
    → (0 < length entries → last_turn entries ≤ e.turn) → AreInOrder (entries ++ e ∷ [])
in_order_more entries e in_order last i below =
    let turns = turns_of entries in
    let turn_of : Entry → ℕ = λ (e : Entry). e.turn in
    let many : length turns ≡ length entries = length-map entries turn_of in
    let long : length (entries ++ e ∷ []) ≡ length entries + 1 = length-append entries (e ∷ []) in
    let more : turns_of (entries ++ e ∷ []) ≡ turns ++ e.turn ∷ [] = map-append turn_of entries (e ∷ []) in
    subst (λ (ts : List ℕ). get_or ts i 0 ≤ get_or ts (i + 1) 0) (sym more)
    (let here : get_or (turns ++ e.turn ∷ []) i 0 ≡ get_or turns i 0 =
    get_or_append_left turns (e.turn ∷ []) 0 i (omega arith) in
    elim (cases_lt (i + 1) (length entries)) [
      | inl within ↦
          let next : get_or (turns ++ e.turn ∷ []) (i + 1) 0 ≡ get_or turns (i + 1) 0 =
          get_or_append_left turns (e.turn ∷ []) 0 (i + 1) (omega arith) in
          let rises = in_order i within in
          omega arith
      | inr past ↦
          let end : i + 1 ≡ length turns = omega arith in
          let next : get_or (turns ++ e.turn ∷ []) (i + 1) 0 ≡ e.turn =
          ap (λ (k : ℕ). get_or (turns ++ e.turn ∷ []) k 0) end ∙ get_or-append_seam turns e.turn [] 0 in
          let place : length entries - 1 ≡ i = omega arith in
          let risen : last_turn entries ≤ e.turn = last (omega arith) in
          let at_end : last_turn entries ≡ get_or turns i 0 = ap (λ (k : ℕ). get_or turns k 0) place in
          omega arith
    ])

-- an entry of no earlier turn at the end, to which the last one of its source, if any, is made to lead
pub one_more_is : (entries : List Entry) (gaps lasts : List ℕ) (e : Entry) (after : List Entry) (linked : List ℕ)
    (x count : ℕ) → IsScript entries gaps lasts → length lasts ≡ 256
    → (0 < length entries → last_turn entries ≤ e.turn) → HasWords e.act → x ≡ (lane_of e.act).src → x < 256
    → after ≡ entries ++ e ∷ [] → count ≡ length after
    → (get_or lasts x 0 ≡ 0 → linked ≡ gaps ++ 0 ∷ [])
    → (0 < get_or lasts x 0
    → linked ≡ set (gaps ++ 0 ∷ []) (get_or lasts x 0 - 1) (length (gaps ++ 0 ∷ []) - get_or lasts x 0))
    → IsScript after linked (set lasts x count)
one_more_is entries gaps lasts e after linked x count script many turn has is x_in pushed counted none some =
    let sources = sources_of entries in
    let source_of : Entry → ℕ = λ (e : Entry). (lane_of e.act).src in
    let all = as_many entries in
    let all_after = as_many after in
    let long : length after ≡ length entries + 1 =
    ap (length {A = Entry}) pushed ∙ length-append entries (e ∷ []) in
    let more : sources_of after ≡ sources ++ x ∷ [] =
    ap sources_of pushed ∙ map-append source_of entries (e ∷ []) ∙ ap (λ (y : ℕ). sources ++ y ∷ []) (sym is) in
    let link : IsLinked sources gaps x (get_or lasts x 0) (sources_of after) linked =
    subst (λ (ss : List ℕ). IsLinked sources gaps x (get_or lasts x 0) ss linked) (sym more)
    (linked_at_end sources gaps x script.nexts.all linked (get_or lasts x 0) (script.last.within x x_in) none some) in
    let inner : (i : ℕ) → i < length sources → i + get_or gaps i 0 < length sources = λ i below.
    let within = script.inner i (omega arith) in omega arith in
    let number : length sources + 1 ≡ count = omega arith in
    record {
      in_order = subst AreInOrder (sym pushed) (in_order_more entries e script.in_order turn);
      words = subst HaveWords (sym pushed) (All-push (λ (e : Entry). HasWords e.act) entries e script.words has);
      nexts = gaps_linked sources gaps lasts (sources_of after) linked x x_in script.nexts inner script.last link;
      inner = λ i below.
          let within = inner_linked sources gaps lasts (sources_of after) linked x x_in script.nexts inner script.last
          link i (omega arith) in
          omega arith;
      last = subst (λ (n : ℕ). AreLasts (sources_of after) (set lasts x n)) number
          (lasts_linked sources gaps lasts (sources_of after) linked x x_in script.nexts inner script.last link many);
    }
