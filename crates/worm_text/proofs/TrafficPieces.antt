-- The pieces of which the reader has made entries.
use Rattle.std.proofs.Common.{◌≡◌, true, ℕ, ◌+◌, ◌<◌, ◌≤◌, inl, inr, Result, Ok, Err, List, [], ◌∷◌, ◌++◌, length, Some}
use Rattle.std.proofs.Common.{refl, sym, ap, subst, ◌∙◌, append_assoc, arith, map}
use Rattle.std.specs.Prelude.{codes}
use Rattle.std.specs.List.{join_with_byte}
use Rattle.std.specs.Str.{bytes_eq}
use Rattle.std.proofs.lemmas.List.{append-nil, length_push, length-map, map_push}
use Rattle.worm_script.specs.declared.entry.Entry.{Entry}
use Rattle.worm_mesh.specs.Address.{node_count}
use Rattle.worm_text.specs.Lines.{cut, space, newline}
use Rattle.worm_text.specs.Network.{Network}
use Rattle.worm_text.specs.Traffic.{Said, entry_view}
use Rattle.worm_text.specs.TrafficText.{entry_line, IsEntry, AreEntries}
use Rattle.worm_text.specs.TrafficFaults.{AnswersOrFull, IsEntryLine, IsEntryPiece}
use Rattle.worm_text.specs.ScriptView.{said_of}
use Rattle.worm_text.specs.declared.fault.TextFault.{TextFault}
use Rattle.worm_text.proofs.Binds.{fine}
use Rattle.worm_text.proofs.Cuts.{bytes_are}
use Rattle.worm_text.proofs.FieldLaws.{same_bytes}
use Rattle.worm_text.proofs.ReadLines.{some_piece}
use Rattle.worm_text.proofs.Entries.{judged}
use Rattle.worm_text.proofs.TrafficFields.{entry_takes}

AreEntries-push : (n : Network) (before es : List Said) (e : Said) → AreEntries n before es → IsEntry n (before ++ es) e
    → AreEntries n before (es ++ e ∷ [])
AreEntries-push n before [] e h k = (subst (λ (ys : List Said). IsEntry n ys e) (append-nil before) k, tt)
AreEntries-push n before (x ∷ xs) e h k = (
  h.0,
  AreEntries-push n (before ++ x ∷ []) xs e h.1
      (subst (λ (ys : List Said). IsEntry n ys e) (sym (append_assoc before (x ∷ []) xs)) k),
)

-- these pieces are the lines of these entries, and then those of the bytes that are left
pub record AreRead (n : Network) (entries : List Said) (pieces : List (List ℕ)) (rest : List ℕ) : Type 0 where
  pub keeps : AreEntries n [] entries
  pub front : pieces ≡ map (entry_line n) entries ++ cut newline rest

-- one more
pub read_one : (n : Network) (es : List Entry) (e : Entry) (pieces : List (List ℕ)) (rest front after : List ℕ)
    → node_count n.radices ≤ 256 → cut newline rest ≡ front ∷ cut newline after
    → AreRead n (map entry_view es) pieces rest → judged n (map entry_view es) front ≡ fine (Some (entry_view e))
    → AreRead n (map entry_view (es ++ e ∷ [])) pieces after
read_one n es e pieces rest front after few cuts so_far j =
    let said = map entry_view es in
    let t = entry_takes n said front (cut space front) (entry_view e) few refl j in
    let more : AreRead n (said ++ entry_view e ∷ []) pieces after = record {
      keeps = AreEntries-push n [] said (entry_view e) so_far.keeps t.1;
      front = so_far.front ∙ ap (λ (ps : List (List ℕ)). map (entry_line n) said ++ ps)
          (cuts ∙ ap (λ (l : List ℕ). l ∷ cut newline after) t.0)
          ∙ sym (append_assoc (map (entry_line n) said) (entry_line n (entry_view e) ∷ []) (cut newline after))
          ∙ ap (λ (ls : List (List ℕ)). ls ++ cut newline after) (sym (map_push (entry_line n) said (entry_view e)));
    } in
    subst (λ (xs : List Said). AreRead n xs pieces after) (sym (map_push entry_view es e)) more

-- the last of them is this line
pub last_read : (n : Network) (es : List Entry) (e : Entry) (pieces : List (List ℕ)) (after : List ℕ) (line : ℕ)
    → AreRead n (map entry_view (es ++ e ∷ [])) pieces after → line ≡ length es + 2 → IsEntryPiece n pieces line
last_read n es e pieces after line r at = cases (cut newline after) (some_piece newline after) r.front
  where
    cases : (ps : List (List ℕ)) → 0 < length ps → pieces ≡ map (entry_line n) (map entry_view (es ++ e ∷ [])) ++ ps
        → IsEntryPiece n pieces line
    cases [] lt f = absurd (omega arith)
    cases (p ∷ ps) lt f =
        let size : length (map entry_view (es ++ e ∷ [])) ≡ length es + 1 =
        omega (arith, length-map (es ++ e ∷ []) entry_view, length_push es e) in
        record {
          entries = map entry_view (es ++ e ∷ []);
          keeps = r.keeps;
          some = omega (arith, size);
          count = omega (arith, size, at);
          next = p;
          others = ps;
          first = f;
        }

-- behind the header
pub entry_line_of : (n : Network) (bytes l rest : List ℕ) (line : ℕ) → cut newline bytes ≡ l ∷ cut newline rest
    → bytes_eq l (codes "wormtraffic 1") ≡ true → IsEntryPiece n (cut newline rest) line → IsEntryLine n bytes line
entry_line_of n bytes l rest line cuts header p =
    let all : cut newline bytes ≡ (codes "wormtraffic 1" ∷ map (entry_line n) p.entries) ++ p.next ∷ p.others =
    cuts ∙ ap (λ (x : List ℕ). x ∷ cut newline rest) (same_bytes l (codes "wormtraffic 1") header)
    ∙ ap (λ (ps : List (List ℕ)). codes "wormtraffic 1" ∷ ps) p.first in
    record {
      entries = p.entries;
      keeps = p.keeps;
      some = p.some;
      count = p.count;
      rest = join_with_byte newline (p.next ∷ p.others);
      first = bytes_are bytes (codes "wormtraffic 1" ∷ map (entry_line n) p.entries) p.next p.others all;
    }

pub behind_header : (n : Network) (bytes l rest : List ℕ) (r : Result (List Entry) TextFault)
    (answer : Result (List Said) TextFault) → cut newline bytes ≡ l ∷ cut newline rest
    → bytes_eq l (codes "wormtraffic 1") ≡ true
    → AnswersOrFull said_of (IsEntryPiece n (cut newline rest)) r answer
    → AnswersOrFull said_of (IsEntryLine n bytes) r answer
behind_header n bytes l rest (Ok script) answer cuts header h = h
behind_header n bytes l rest (Err x) answer cuts header (inl full) =
    inl (full.0, entry_line_of n bytes l rest x.line cuts header full.1)
behind_header n bytes l rest (Err x) answer cuts header (inr e) = inr e
