-- At which line the reading of a traffic text stops.
use Rattle.std.proofs.Common.{◌≡◌, ℕ, suc, ◌+◌, ◌<◌, ◌≤◌, true, false, List, [], ◌∷◌, ◌++◌, length, Option, Some, None}
use Rattle.std.proofs.Common.{Result, Ok, Err, refl, sym, ap, subst, ◌∙◌, append_assoc, arith, inl, inr, ◌⊎◌, map}
use Rattle.std.specs.Prelude.{codes, IfErr}
use Rattle.std.specs.Str.{bytes_eq}
use Rattle.std.specs.List.{join_with_byte}
use Rattle.std.proofs.lemmas.Bool.{cases_lt}
use Rattle.std.proofs.lemmas.List.{append-nil, length-append, length-map}
use Rattle.std.proofs.lemmas.List.Concat.{flat_map-append}
use Rattle.worm_script.specs.declared.entry.Entry.{Entry}
use Rattle.worm_mesh.specs.Address.{node_count}
use Rattle.worm_text.specs.ScriptView.{said_of}
use Rattle.worm_text.specs.declared.fault.Why.{Why}
use Rattle.worm_text.specs.declared.fault.Why.TheVariants.{Header, NoEnd, AfterEnd}
use Rattle.worm_text.specs.declared.fault.TextFault.{TextFault}
use Rattle.worm_text.specs.Lines.{cut, space, newline, finished}
use Rattle.worm_text.specs.Network.{Network}
use Rattle.worm_text.specs.Reader.{at_line, AreLines}
use Rattle.worm_text.specs.Traffic.{Said, entry_at, after_end, read_entries, read_header, traffic_of}
use Rattle.worm_text.specs.TrafficText.{entry_line, traffic_lines, traffic_text, IsEntry, AreEntries}
use Rattle.worm_text.specs.TrafficFaults.{TrafficBegins, IsTrafficFaultLine, IsEntryLine, RanOut, AnswersOrFull}
use Rattle.worm_text.proofs.Binds.{fine, fault}
use Rattle.worm_text.proofs.Cuts.{cut-finished, bytes_are}
use Rattle.worm_text.proofs.FieldLaws.{same_bytes, bytes_eq-same, chosen}
use Rattle.worm_text.proofs.Fronts.{AreLines-front, longer, fronts}
use Rattle.worm_text.proofs.ReadLines.{some_piece}
use Rattle.worm_text.proofs.Entries.{judged}
use Rattle.worm_text.proofs.TrafficFields.{entry_takes, end_takes}
use Rattle.worm_text.proofs.TrafficAgain.{IsNamed, entry_again, traffic_are_lines}

abbrev bad : TextFault → Result (List Said) TextFault
bad x = Err x

named_line : (line : ℕ) (why : Why) (x : TextFault) → bad (at_line line why) ≡ bad x → x.line ≡ line
named_line line why x e = let same : at_line line why ≡ x = cc in ap (λ (y : TextFault). y.line) (sym same)

-- ---- where reading stops

-- behind these entries, at a line that is judged ill, at the last piece, or behind the end line
data StopsAt (n : Network) (entries : List Said) (line : ℕ) (p : List ℕ) (ps : List (List ℕ))
    (x : TextFault) : Type 0 where
  ill : (why : Why) → judged n entries p ≡ fault why → x.line ≡ line → StopsAt n entries line p ps x
  over : ps ≡ [] → x.line ≡ line → StopsAt n entries line p ps x
  after : p ≡ codes "end" → 0 < length ps → x.line ≡ suc line → StopsAt n entries line p ps x

record Stopped (n : Network) (before : List Said) (line : ℕ) (pieces : List (List ℕ)) (x : TextFault) : Type 0 where
  more : List Said
  p : List ℕ
  ps : List (List ℕ)
  keeps : AreEntries n before more
  pieces-are : pieces ≡ map (entry_line n) more ++ p ∷ ps
  stops : StopsAt n (before ++ more) (line + length more) p ps x

-- reading stops at the first of these pieces
stopped_here : (n : Network) (before : List Said) (line : ℕ) (p : List ℕ) (ps : List (List ℕ)) (x : TextFault)
    → StopsAt n before line p ps x → Stopped n before line (p ∷ ps) x
stopped_here n before line p ps x s =
    let there : StopsAt n (before ++ []) line p ps x =
    subst (λ (es : List Said). StopsAt n es line p ps x) (sym (append-nil before)) s in
    let at : line ≡ line + 0 = omega arith in
    record {
      more = [];
      p = p;
      ps = ps;
      keeps = tt;
      pieces-are = refl;
      stops = subst (λ (k : ℕ). StopsAt n (before ++ []) k p ps x) at there;
    }

-- reading stops behind a first piece that is an entry
stopped_later : (n : Network) (before : List Said) (line : ℕ) (e : Said) (pieces : List (List ℕ)) (x : TextFault)
    → IsEntry n before e → Stopped n (before ++ e ∷ []) (suc line) pieces x
    → Stopped n before line (entry_line n e ∷ pieces) x
stopped_later n before line e pieces x keeps s =
    let there : StopsAt n (before ++ (e ∷ s.more)) (suc line + length s.more) s.p s.ps x =
    subst (λ (es : List Said). StopsAt n es (suc line + length s.more) s.p s.ps x)
    (append_assoc before (e ∷ []) s.more) s.stops in
    let at : suc line + length s.more ≡ line + length (e ∷ s.more) = omega arith in
    record {
      more = e ∷ s.more;
      p = s.p;
      ps = s.ps;
      keeps = (keeps, s.keeps);
      pieces-are = ap (λ (qs : List (List ℕ)). entry_line n e ∷ qs) s.pieces-are;
      stops = subst (λ (k : ℕ). StopsAt n (before ++ (e ∷ s.more)) k s.p s.ps x) at there;
    }

after_end_err : (before : List Said) (line : ℕ) (pieces : List (List ℕ)) (x : TextFault)
    → after_end before line pieces ≡ bad x → x.line ≡ line
after_end_err before line [] x e = named_line line AfterEnd x e
after_end_err before line ([] ∷ []) x e =
    absurd (let y : ◌≡◌ {A = Result (List Said) TextFault} (Ok before) (Err x) = e in cc)
after_end_err before line ([] ∷ q ∷ qs) x e = named_line line AfterEnd x e
after_end_err before line ((b ∷ bs) ∷ qs) x e = named_line line AfterEnd x e

step : (n : Network) (before : List Said) (line : ℕ) (l next : List ℕ) (more : List (List ℕ)) (x : TextFault)
    → node_count n.radices ≤ 256
    → (again : (e : Said) → read_entries n (before ++ e ∷ []) (suc line) (next ∷ more) ≡ bad x
    → Stopped n (before ++ e ∷ []) (suc line) (next ∷ more) x)
    → (r : Result (Option Said) Why) → judged n before l ≡ r
    → elim r as (λ _. Result (List Said) TextFault) [
      | Ok (Some e) ↦
          read_entries n (before ++ e ∷ []) (suc line) (next ∷ more)
      | Ok None ↦ after_end before (suc line) (next ∷ more)
      | Err why ↦ Err (at_line line why)
    ] ≡ bad x
    → Stopped n before line (l ∷ next ∷ more) x
step n before line l next more x few again (Err why) j e =
    stopped_here n before line l (next ∷ more) x (ill why j (named_line line why x e))
step n before line l next more x few again (Ok None) j e =
    stopped_here n before line l (next ∷ more) x
    (after (end_takes n before l (cut space l) refl j) (omega arith)
    (after_end_err before (suc line) (next ∷ more) x e))
step n before line l next more x few again (Ok (Some s)) j e =
    let t = entry_takes n before l (cut space l) s few refl j in
    subst (λ (k : List ℕ). Stopped n before line (k ∷ next ∷ more) x) (sym t.0)
    (stopped_later n before line s (next ∷ more) x t.1 (again s e))

stopped : (n : Network) (before : List Said) (line : ℕ) (pieces : List (List ℕ)) (x : TextFault)
    → node_count n.radices ≤ 256 → 0 < length pieces → read_entries n before line pieces ≡ bad x
    → Stopped n before line pieces x
stopped n before line [] x few lt e = absurd (omega arith)
stopped n before line (p ∷ []) x few lt e = stopped_here n before line p [] x (over refl (named_line line NoEnd x e))
stopped n before line (l ∷ next ∷ more) x few lt e =
    step n before line l next more x few (λ s h. stopped n (before ++ s ∷ []) (suc line) (next ∷ more) x few
    (omega arith) h) (judged n before l) refl e

-- ---- what an accepted text has behind the same entries

data Behind (n : Network) (entries : List Said) (p : List ℕ) (rest : List (List ℕ)) : Type 0 where
  ended : p ≡ codes "end" → rest ≡ [] → Behind n entries p rest
  one : (e : Said) → judged n entries p ≡ fine (Some e) → Behind n entries p rest

end_again : (n : Network) (entries : List Said) → judged n entries (codes "end") ≡ fine None
unfolding entry_at
end_again n entries = refl

behind_here : (n : Network) (before : List Said) (p : List ℕ) (rest : List (List ℕ)) → Behind n before p rest
    → Behind n (before ++ []) p rest
behind_here n before p rest h = subst (λ (es : List Said). Behind n es p rest) (sym (append-nil before)) h

behind : (n : Network) (before more es : List Said) (p : List ℕ) (rest : List (List ℕ)) → IsNamed n
    → AreEntries n before more → AreEntries n before es
    → map (entry_line n) es ++ codes "end" ∷ [] ≡ map (entry_line n) more ++ p ∷ rest → Behind n (before ++ more) p rest
behind n before [] [] p rest named k h q =
    let head : codes "end" ≡ p = cc in
    let tail : [] ≡ rest = cc in
    behind_here n before p rest (ended (sym head) (sym tail))
behind n before [] (e ∷ es) p rest named k h q =
    let head : entry_line n e ≡ p = cc in
    behind_here n before p rest (one e (ap (judged n before) (sym head) ∙ (entry_again n before e named h.0).0))
behind n before (m ∷ ms) [] p rest named k h q =
    let head : codes "end" ≡ entry_line n m = cc in
    let two : fine (Some m) ≡ fine None =
    sym (entry_again n before m named k.0).0 ∙ ap (judged n before) (sym head) ∙ end_again n before in
    absurd (let x : ◌≡◌ {A = Result (Option Said) Why} (fine (Some m)) (fine None) = two in cc)
behind n before (m ∷ ms) (e ∷ es) p rest named k h q =
    let head : entry_line n e ≡ entry_line n m = cc in
    let tail : map (entry_line n) es ++ codes "end" ∷ [] ≡ map (entry_line n) ms ++ p ∷ rest = cc in
    let two : fine (Some e) ≡ fine (Some m) =
    sym (entry_again n before e named h.0).0 ∙ ap (judged n before) head ∙ (entry_again n before m named k.0).0 in
    let same : e ≡ m = cc in
    let others : AreEntries n (before ++ m ∷ []) es =
    subst (λ (y : Said). AreEntries n (before ++ y ∷ []) es) same h.1 in
    subst (λ (ys : List Said). Behind n ys p rest) (append_assoc before (m ∷ []) ms)
    (behind n (before ++ m ∷ []) ms es p rest named k.1 others tail)

-- ---- the line of a fault

-- A run of lines that begins the text of some entries is the longest where no text goes on with the next piece.
longest_run : (n : Network) (bytes : List ℕ) (line : ℕ) (ls : List (List ℕ)) (p : List ℕ) (ps : List (List ℕ))
    (entries : List Said) (tail : List (List ℕ)) → IsNamed n → cut newline bytes ≡ ls ++ p ∷ ps
    → AreEntries n [] entries → traffic_lines n entries ≡ ls ++ tail → line ≡ length ls + 1
    → ((es : List Said) (others ys ms : List (List ℕ)) → AreEntries n [] es → others ++ ys ≡ ps → 0 < length ys
    → traffic_lines n es ≡ ls ++ p ∷ (others ++ ms) → ⊥)
    → IsTrafficFaultLine n bytes line
longest_run n bytes line ls p ps entries tail named pieces keeps begins at not_longer =
    let well : TrafficBegins n bytes (length ls) = record {
      lines = ls;
      are_lines = AreLines-front ls tail (subst AreLines begins (traffic_are_lines n entries named keeps));
      count = refl;
      rest = join_with_byte newline (p ∷ ps);
      first = bytes_are bytes ls p ps pieces;
      entries = entries;
      keeps = keeps;
      more = finished tail;
      accepted = ap finished begins ∙ flat_map-append (λ l. l ++ newline ∷ []) ls tail;
    } in
    let longest : (k : ℕ) → TrafficBegins n bytes k → k < line = λ k w. elim (cases_lt k line) [
      | inl lt ↦ lt
      | inr le ↦
          let all : w.lines ++ cut newline w.rest ≡ ls ++ p ∷ ps =
          sym (cut-finished w.lines w.rest w.are_lines) ∙ ap (cut newline) (sym w.first) ∙ pieces in
          let l = longer w.lines (cut newline w.rest) ls p ps all (omega (arith, w.count)) in
          let whole : cut newline (traffic_text n w.entries) ≡ traffic_lines n w.entries ++ [] ∷ [] =
          ap (cut newline) (sym (append-nil (traffic_text n w.entries)))
          ∙ cut-finished (traffic_lines n w.entries) [] (traffic_are_lines n w.entries named w.keeps) in
          let texts : w.lines ++ cut newline w.more ≡ traffic_lines n w.entries ++ [] ∷ [] =
          sym (cut-finished w.lines w.more w.are_lines) ∙ ap (cut newline) (sym w.accepted) ∙ whole in
          let m = fronts w.lines (cut newline w.more) (traffic_lines n w.entries) []
          (some_piece newline w.more) texts in
          absurd (not_longer w.entries l.others (cut newline w.rest) m.0 w.keeps l.back (some_piece newline w.rest)
          (m.1 ∙ ap (λ (y : List (List ℕ)). y ++ m.0) l.front ∙ append_assoc ls (p ∷ l.others) m.0))
    ] in
    record { one_more = (length ls, at, well); longest = longest }

abbrev header : List ℕ
header = codes "wormtraffic 1"

-- the first line is not finished
no_line : (n : Network) (bytes p : List ℕ) (line : ℕ) → IsNamed n → cut newline bytes ≡ p ∷ [] → line ≡ 1
    → IsTrafficFaultLine n bytes line
no_line n bytes p line named cuts at =
    longest_run n bytes line [] p [] [] (traffic_lines n []) named cuts tt refl at
    (λ es others ys ms keeps back lt e. omega (arith, length-append others ys, ap length back))

-- the first line is not the header
no_header : (n : Network) (bytes p : List ℕ) (ps : List (List ℕ)) (line : ℕ) → IsNamed n → cut newline bytes ≡ p ∷ ps
    → bytes_eq p header ≡ false → line ≡ 1 → IsTrafficFaultLine n bytes line
no_header n bytes p ps line named cuts differs at =
    longest_run n bytes line [] p ps [] (traffic_lines n []) named cuts tt refl at
    (λ es others ys ms keeps back lt e. let head : header ≡ p = cc in
    absurd (let x : true ≡ false = sym (bytes_eq-same header) ∙ ap (λ (l : List ℕ). bytes_eq l header) head
    ∙ differs in cc))

-- behind the header
without_first : (n : Network) (es more : List Said) (p : List ℕ) (rest : List (List ℕ))
    → traffic_lines n es ≡ (header ∷ map (entry_line n) more) ++ p ∷ rest
    → map (entry_line n) es ++ codes "end" ∷ [] ≡ map (entry_line n) more ++ p ∷ rest
without_first n es more p rest e = cc

-- no text goes on behind these entries with a line that is judged ill
not_ill : (n : Network) (entries : List Said) (p : List ℕ) (rest : List (List ℕ)) (why : Why)
    → judged n entries p ≡ fault why → Behind n entries p rest → ⊥
not_ill n entries p rest why j (ended is_end none) =
    let two : ◌≡◌ {A = Result (Option Said) Why} (fault why) (fine None) =
    sym j ∙ ap (judged n entries) is_end ∙ end_again n entries in absurd cc
not_ill n entries p rest why j (one e k) = let two : ◌≡◌ {A = Result (Option Said) Why} (fault why) (fine (Some e)) =
    sym j ∙ k in absurd cc

-- nor with anything behind the end line
not_after : (n : Network) (entries : List Said) (q : List ℕ) (rest : List (List ℕ))
    → Behind n entries (codes "end") (q ∷ rest) → ⊥
not_after n entries q rest (ended is_end none) = absurd cc
not_after n entries q rest (one e k) = let two : ◌≡◌ {A = Result (Option Said) Why} (fine None) (fine (Some e)) =
    sym (end_again n entries) ∙ k in absurd cc

-- behind the end line
behind_end : (n : Network) (bytes : List ℕ) (more : List Said) (ps : List (List ℕ)) (line : ℕ) → IsNamed n
    → cut newline bytes ≡ (header ∷ map (entry_line n) more) ++ codes "end" ∷ ps → 0 < length ps
    → AreEntries n [] more → line ≡ suc (2 + length more) → IsTrafficFaultLine n bytes line
behind_end n bytes more [] line named all some keeps at = absurd (omega arith)
behind_end n bytes more (q ∷ qs) line named all some keeps at =
    let front = header ∷ map (entry_line n) more in
    let size : length (front ++ codes "end" ∷ []) ≡ length more + 2 =
    omega (arith, length-append front (codes "end" ∷ []), length-map more (entry_line n)) in
    longest_run n bytes line (front ++ codes "end" ∷ []) q qs more [] named
    (all ∙ sym (append_assoc front (codes "end" ∷ []) (q ∷ qs))) keeps
    (sym (append-nil (front ++ codes "end" ∷ []))) (omega (arith, at, size))
    (λ es others ys ms keeps-too back lt e.
    let whole : header ∷ (map (entry_line n) es ++ codes "end" ∷ [])
    ≡ header ∷ (map (entry_line n) more ++ codes "end" ∷ q ∷ (others ++ ms)) =
    e ∙ append_assoc front (codes "end" ∷ []) (q ∷ (others ++ ms)) in
    let tail : map (entry_line n) es ++ codes "end" ∷ [] ≡ map (entry_line n) more ++ codes "end" ∷ q ∷ (others ++ ms) =
    cc in
    not_after n more q (others ++ ms) (behind n [] more es (codes "end")
    (q ∷ (others ++ ms)) named keeps keeps-too tail))

-- a later line
in_entries : (n : Network) (bytes : List ℕ) (x : TextFault) (pieces : List (List ℕ)) → IsNamed n
    → cut newline bytes ≡ header ∷ pieces → Stopped n [] 2 pieces x → IsTrafficFaultLine n bytes x.line
in_entries n bytes x pieces named cuts s =
    let lines = map (entry_line n) s.more in
    let size = length-map s.more (entry_line n) in
    let all : cut newline bytes ≡ (header ∷ lines) ++ s.p ∷ s.ps =
    cuts ∙ ap (λ (ps : List (List ℕ)). header ∷ ps) s.pieces-are in
    elim s.stops [
      | ill why j at ↦ longest_run n bytes x.line (header ∷ lines) s.p s.ps s.more
          (codes "end" ∷ []) named all s.keeps refl (omega (arith, at, size))
          (λ es others ys ms keeps back lt e. not_ill n s.more s.p (others ++ ms) why j
          (behind n [] s.more es s.p (others ++ ms) named s.keeps keeps
          (without_first n es s.more s.p (others ++ ms) e)))
      | over none at ↦ longest_run n bytes x.line (header ∷ lines) s.p s.ps s.more
          (codes "end" ∷ []) named all s.keeps refl (omega (arith, at, size))
          (λ es others ys ms keeps back lt e. omega (arith, length-append others ys, ap length (back ∙ none)))
      | after is_end some at ↦ behind_end n bytes s.more s.ps x.line named
          (all ∙ ap (λ (p : List ℕ). (header ∷ lines) ++ p ∷ s.ps) is_end) some s.keeps at
    ]

pub is_fault_line : (n : Network) (bytes : List ℕ) (x : TextFault) → IsNamed n → traffic_of n bytes ≡ bad x
    → IsTrafficFaultLine n bytes x.line
is_fault_line n bytes x named e = pieces (cut newline bytes) refl e
  where
    pieces : (ps : List (List ℕ)) → cut newline bytes ≡ ps → read_header n ps ≡ bad x
        → IsTrafficFaultLine n bytes x.line
    pieces [] cuts e = absurd (omega (arith, some_piece newline bytes, ap length cuts))
    pieces (p ∷ []) cuts e = no_line n bytes p x.line named cuts (named_line 1 NoEnd x e)
    pieces (l ∷ next ∷ more) cuts e =
        elim (chosen (bytes_eq l header) (read_entries n [] 2 (next ∷ more)) (Err (at_line 1 Header)) (bad x) e) [
          | inr h ↦ no_header n bytes l (next ∷ more) x.line named cuts h.0 (named_line 1 Header x h.1)
          | inl h ↦ in_entries n bytes x (next ∷ more) named
              (cuts ∙ ap (λ (k : List ℕ). k ∷ next ∷ more) (same_bytes l header h.0))
              (stopped n [] 2 (next ∷ more) x named.few (omega arith) h.1)
        ]

pub faulty : (n : Network) (bytes : List ℕ) (r : Result (List Entry) TextFault) → IsNamed n
    → AnswersOrFull said_of (IsEntryLine n bytes) r (traffic_of n bytes)
    → IfErr r (λ x. RanOut (IsEntryLine n bytes) x ⊎ IsTrafficFaultLine n bytes x.line)
faulty n bytes (Ok script) named h = tt
faulty n bytes (Err x) named (inl full) = inl full
faulty n bytes (Err x) named (inr e) = inr (is_fault_line n bytes x named e)
