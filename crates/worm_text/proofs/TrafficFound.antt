-- What is read as traffic is the text of its entries.
use Rattle.std.proofs.Common.{◌≡◌, ℕ, suc, ◌≤◌, List, [], ◌∷◌, ◌++◌, length, Option, Some, None, Result, Ok, Err, refl}
use Rattle.std.proofs.Common.{sym, ap, subst, ◌∙◌, append_assoc, inl, inr, map}
use Rattle.std.specs.Prelude.{codes, IfOk}
use Rattle.worm_script.specs.declared.entry.Entry.{Entry}
use Rattle.worm_mesh.specs.Address.{node_count}
use Rattle.worm_text.specs.ScriptView.{said_of}
use Rattle.std.specs.Str.{bytes_eq}
use Rattle.std.proofs.lemmas.List.{append-nil}
use Rattle.worm_text.specs.declared.fault.Why.{Why}
use Rattle.worm_text.specs.declared.fault.Why.TheVariants.{Header, AfterEnd}
use Rattle.worm_text.specs.declared.fault.TextFault.{TextFault}
use Rattle.worm_text.specs.Lines.{cut, space, newline}
use Rattle.worm_text.specs.Network.{Network}
use Rattle.worm_text.specs.Reader.{at_line}
use Rattle.worm_text.specs.Traffic.{Said, is_closed, last_turn, entry_at, after_end, read_entries, read_header}
use Rattle.worm_text.specs.Traffic.{traffic_of}
use Rattle.worm_text.specs.TrafficText.{entry_line, traffic_lines, traffic_text, AreEntries}
use Rattle.worm_text.specs.TrafficFaults.{AnswersOrFull, IsEntryLine}
use Rattle.worm_text.proofs.Cuts.{bytes_are}
use Rattle.worm_text.proofs.FieldLaws.{same_bytes, chosen}
use Rattle.worm_text.proofs.TrafficFields.{entry_takes, end_takes}

abbrev good : List Said → Result (List Said) TextFault
good entries = Ok entries

-- these pieces say the entries that follow
pub record Spelled (n : Network) (before all : List Said) (pieces : List (List ℕ)) : Type 0 where
  pub more : List Said
  pub whole : all ≡ before ++ more
  pub keeps : AreEntries n before more
  pub pieces-are : pieces ≡ (map (entry_line n) more ++ codes "end" ∷ []) ++ [] ∷ []

after_end_ok : (before all : List Said) (line : ℕ) (pieces : List (List ℕ)) → after_end before line pieces ≡ good all
    → (pieces ≡ [] ∷ []) × (before ≡ all)
after_end_ok before all line [] e = absurd
    (let x : ◌≡◌ {A = Result (List Said) TextFault} (Err (at_line line AfterEnd)) (Ok all) = e in cc)
after_end_ok before all line ([] ∷ []) e = (refl, cc)
after_end_ok before all line ([] ∷ q ∷ qs) e =
    absurd (let x : ◌≡◌ {A = Result (List Said) TextFault} (Err (at_line line AfterEnd)) (Ok all) = e in cc)
after_end_ok before all line ((b ∷ bs) ∷ qs) e =
    absurd (let x : ◌≡◌ {A = Result (List Said) TextFault} (Err (at_line line AfterEnd)) (Ok all) = e in cc)

step : (n : Network) (before all : List Said) (line : ℕ) (l next : List ℕ) (more : List (List ℕ))
    → node_count n.radices ≤ 256
    → (again : (e : Said) → read_entries n (before ++ e ∷ []) (suc line) (next ∷ more) ≡ good all
    → Spelled n (before ++ e ∷ []) all (next ∷ more))
    → (r : Result (Option Said) Why) → entry_at n (length before) (last_turn before) (is_closed before) (cut space l)
    ≡ r
    → elim r as (λ _. Result (List Said) TextFault) [
      | Ok (Some e) ↦
          read_entries n (before ++ e ∷ []) (suc line) (next ∷ more)
      | Ok None ↦ after_end before (suc line) (next ∷ more)
      | Err why ↦ Err (at_line line why)
    ] ≡ good all
    → Spelled n before all (l ∷ next ∷ more)
step n before all line l next more few again (Err why) j e = absurd cc
step n before all line l next more few again (Ok None) j e =
    let a = after_end_ok before all (suc line) (next ∷ more) e in
    let last = end_takes n before l (cut space l) refl j in
    record {
      more = [];
      whole = sym a.1 ∙ sym (append-nil before);
      keeps = tt;
      pieces-are = ap (λ (x : List ℕ). x ∷ next ∷ more) last ∙ ap (λ (ps : List (List ℕ)). codes "end" ∷ ps) a.0;
    }
step n before all line l next more few again (Ok (Some x)) j e =
    let t = entry_takes n before l (cut space l) x few refl j in
    let r = again x e in
    record {
      more = x ∷ r.more;
      whole = r.whole ∙ append_assoc before (x ∷ []) r.more;
      keeps = (t.1, r.keeps);
      pieces-are = ap (λ (y : List ℕ). y ∷ next ∷ more) t.0
          ∙ ap (λ (ps : List (List ℕ)). entry_line n x ∷ ps) r.pieces-are;
    }

spelled : (n : Network) (before all : List Said) (line : ℕ) (pieces : List (List ℕ)) → node_count n.radices ≤ 256
    → read_entries n before line pieces ≡ good all → Spelled n before all pieces
spelled n before all line [] few e = absurd cc
spelled n before all line (p ∷ []) few e = absurd cc
spelled n before all line (l ∷ next ∷ more) few e =
    step n before all line l next more few (λ x h. spelled n (before ++ x ∷ []) all (suc line) (next ∷ more) few h)
    (entry_at n (length before) (last_turn before) (is_closed before) (cut space l)) refl e

pub is_traffic : (n : Network) (bytes : List ℕ) (all : List Said) → node_count n.radices ≤ 256
    → traffic_of n bytes ≡ good all → AreEntries n [] all × (bytes ≡ traffic_text n all)
is_traffic n bytes all few e = pieces (cut newline bytes) refl e
  where
    pieces : (ps : List (List ℕ)) → cut newline bytes ≡ ps → read_header n ps ≡ good all
        → AreEntries n [] all × (bytes ≡ traffic_text n all)
    pieces [] cuts e = absurd cc
    pieces (p ∷ []) cuts e = absurd cc
    pieces (l ∷ next ∷ more) cuts e =
        elim (chosen (bytes_eq l (codes "wormtraffic 1")) (read_entries n [] 2 (next ∷ more)) (Err (at_line 1 Header))
        (good all) e) [
          | inr h ↦ absurd (let x : ◌≡◌ {A = Result (List Said) TextFault} (Err (at_line 1 Header)) (Ok all) = h.1 in
              cc)
          | inl h ↦
              let s = spelled n [] all 2 (next ∷ more) few h.1 in
              let same : s.more ≡ all = sym s.whole in
              let first = same_bytes l (codes "wormtraffic 1") h.0 in
              let all-pieces : cut newline bytes ≡ traffic_lines n all ++ [] ∷ [] =
              cuts ∙ ap (λ (x : List ℕ). x ∷ next ∷ more) first
              ∙ ap (λ (x : List (List ℕ)). codes "wormtraffic 1" ∷ x) s.pieces-are
              ∙ ap (λ (es : List Said). traffic_lines n es ++ [] ∷ []) same in (
                subst (λ (es : List Said). AreEntries n [] es) same s.keeps,
                bytes_are bytes (traffic_lines n all) [] [] all-pieces ∙ append-nil (traffic_text n all),
              )
        ]

pub found : (n : Network) (bytes : List ℕ) (r : Result (List Entry) TextFault) → node_count n.radices ≤ 256
    → AnswersOrFull said_of (IsEntryLine n bytes) r (traffic_of n bytes)
    → IfOk r (λ script. AreEntries n [] (said_of script) × (bytes ≡ traffic_text n (said_of script)))
found n bytes (Ok script) few h = is_traffic n bytes (said_of script) few h
found n bytes (Err x) few h = tt
