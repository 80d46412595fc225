-- A whole network text: what is accepted, and at which line a fault is.
use Rattle.std.proofs.Common.{◌≡◌, lit<, ℕ, suc, ◌+◌, ◌<◌, true, List, [], ◌∷◌, ◌++◌, length, get_or, Result, Ok, Err}
use Rattle.std.proofs.Common.{refl, sym, ap, subst, ◌∙◌, append_assoc, arith, map, All, inl, inr}
use Rattle.std.specs.Prelude.{codes, IfOk, IfErr}
use Rattle.std.specs.Fmt.{decimal}
use Rattle.std.specs.List.{AllByRecursion, join_with_byte}
use Rattle.std.proofs.lemmas.Bool.{cases_lt}
use Rattle.std.proofs.lemmas.List.{append-nil, length-append}
use Rattle.std.proofs.lemmas.List.Concat.{flat_map-append}
use Rattle.worm_text.specs.declared.fault.Why.{Why}
use Rattle.worm_text.specs.declared.fault.Why.TheVariants.{NoEnd, AfterEnd}
use Rattle.worm_text.specs.declared.fault.TextFault.{TextFault}
use Rattle.worm_text.specs.declared.format.Format.{Format}
use Rattle.worm_text.specs.declared.format.Format.TheVariants.{One, Two}
use Rattle.worm_region.specs.declared.config.Config.{Config}
use Rattle.worm_text.specs.Lines.{cut, newline, line, finished}
use Rattle.worm_text.specs.Numerals.{is_name}
use Rattle.worm_text.specs.Network.{Network, view, IsBetween, header_line, class_line, class_lines, mesh_lines}
use Rattle.worm_text.specs.Network.{depth_line, lines_of, text, IsMesh, Keeps}
use Rattle.worm_text.specs.Stages.{Stage, at_header, at_radix, at_dims, at_dims_first, at_radices, at_depth, at_class}
use Rattle.worm_text.specs.Stages.{ended, judge, IsSound}
use Rattle.worm_text.specs.Reader.{Answers, read, at_end, at_line, network_of, AreLines, BeginsWell, IsFaultLine}
use Rattle.worm_text.proofs.Binds.{fine, fault, bind_ok, ok_is}
use Rattle.worm_text.proofs.Cuts.{IsFrom, IsFrom-line, line_from, cut-finished, bytes_are}
use Rattle.worm_text.proofs.Followed.{so_far}
use Rattle.worm_text.proofs.FollowedClasses.{judge_follows}
use Rattle.worm_text.proofs.Again.{plain-decimal, plain_name, plain_numbers}
use Rattle.worm_text.proofs.AgainClasses.{behind, behind-one, whole_again}
use Rattle.worm_text.proofs.Complete.{goes_on_to}
use Rattle.worm_text.proofs.ReadLines.{read-ok, read-err, some_piece}
use Rattle.worm_text.proofs.Fronts.{AreLines-front, longer, fronts}

-- ---- no line end stands in a line of a text

abbrev AreFrom : List (List ℕ) → Type 0
AreFrom lines = AllByRecursion (IsFrom 32) lines

AreFrom-append : (xs ys : List (List ℕ)) → AreFrom xs → AreFrom ys → AreFrom (xs ++ ys)
AreFrom-append [] ys a b = b
AreFrom-append (x ∷ xs) ys a b = (a.0, AreFrom-append xs ys a.1 b)

lines_from : (ls : List (List ℕ)) → AreFrom ls → AreLines ls
lines_from [] h = tt
lines_from (l ∷ ls) h = (line_from l h.0, lines_from ls h.1)

mesh_from : (f : Format) (radices : List ℕ) → IsMesh f radices → AreFrom (mesh_lines f radices)
mesh_from One radices mesh =
    let first : IsBetween 2 16 (get_or radices 0 0) = mesh.each 0 0 (omega (arith, mesh.dims)) in (
      IsFrom-line (codes "radix" ∷ decimal (get_or radices 0 0) ∷ []) (
        refl,
        (plain-decimal (get_or radices 0 0) (omega (arith, first)), tt),
      ),
      (
        IsFrom-line (codes "dims" ∷ decimal (length radices) ∷ []) (
          refl,
          (plain-decimal (length radices) (omega (arith, mesh.dims)), tt),
        ),
        tt,
      ),
    )
mesh_from Two radices mesh = (
  IsFrom-line (codes "dims" ∷ decimal (length radices) ∷ []) (
    refl,
    (plain-decimal (length radices) (omega (arith, mesh.dims)), tt),
  ),
  (IsFrom-line (codes "radix" ∷ map decimal radices) (refl, plain_numbers radices mesh.each), tt),
)

class_from : (f : Format) (name : List ℕ) (m : ℕ) → is_name name ≡ true → IsBetween 1 8 m
    → IsFrom 32 (class_line f name m)
class_from One name m spelled between = IsFrom-line (codes "class" ∷ name ∷ []) (refl, (plain_name name spelled, tt))
class_from Two name m spelled between =
    IsFrom-line (codes "class" ∷ name ∷ codes "channels" ∷ decimal m ∷ []) (
      refl,
      (plain_name name spelled, (refl, (plain-decimal m (omega (arith, between)), tt))),
    )

classes_from : (f : Format) (names : List (List ℕ)) (ms : List ℕ) → All (λ name. is_name name ≡ true) names
    → All (IsBetween 1 8) ms → AreFrom (class_lines f names ms)
classes_from f [] [] spelled each = tt
classes_from f [] (m ∷ ms) spelled each = tt
classes_from f (c ∷ names) [] spelled each = tt
classes_from f (c ∷ names) (m ∷ ms) spelled each = (
  class_from f c m (spelled 0 c (omega arith)) (each 0 0 (omega arith)),
  classes_from f names ms (λ i d lt. spelled (suc i) d (omega arith)) (λ i d lt. each (suc i) d (omega arith)),
)

header_from : (f : Format) → IsFrom 32 (header_line f)
header_from One = refl
header_from Two = refl

pub text_lines : (f : Format) (n : Network) → Keeps f n → AreLines (lines_of f n)
text_lines f n keeps =
    let depth : IsFrom 32 (depth_line n.depth) =
    IsFrom-line (codes "depth" ∷ decimal n.depth ∷ []) (
      refl,
      (plain-decimal n.depth (omega (arith, keeps.depth)), tt),
    ) in
    lines_from (lines_of f n) (AreFrom-append
    ((header_line f ∷ mesh_lines f n.radices) ++ depth_line n.depth ∷ class_lines f n.classes n.channels)
    (codes "end" ∷ [])
    (AreFrom-append (header_line f ∷ mesh_lines f n.radices) (depth_line n.depth ∷ class_lines f n.classes n.channels)
    (header_from f, mesh_from f n.radices keeps.mesh) (
      depth,
      classes_from f n.classes n.channels keeps.classes.spelled keeps.classes.each,
    ))
    (refl, tt))

-- the pieces of a text
pub cut-text : (f : Format) (n : Network) → Keeps f n → cut newline (text f n) ≡ lines_of f n ++ [] ∷ []
cut-text f n keeps = ap (cut newline) (sym (append-nil (finished (lines_of f n))))
    ∙ cut-finished (lines_of f n) [] (text_lines f n keeps)

-- ---- a run of the reader

-- where it ends: at a line that is judged ill, or at the last piece
data Ends (t : Stage) (n : ℕ) (p : List ℕ) (ps : List (List ℕ)) (answer : Result Network TextFault) : Type 0 where
  ill : (why : Why) → judge t p ≡ fault why → answer ≡ Err (at_line n why) → Ends t n p ps answer
  over : ps ≡ [] → answer ≡ at_end t n p → Ends t n p ps answer

record Run (s : Stage) (n : ℕ) (pieces : List (List ℕ)) (answer : Result Network TextFault) : Type 0 where
  ls : List (List ℕ)
  t : Stage
  p : List ℕ
  ps : List (List ℕ)
  pieces-are : pieces ≡ ls ++ p ∷ ps
  led : behind s ls ≡ fine t
  lines : so_far t ≡ so_far s ++ ls
  sound : IsSound t
  ends : Ends t (n + length ls) p ps answer

Ends-at : (t : Stage) (m n : ℕ) (p : List ℕ) (ps : List (List ℕ)) (answer : Result Network TextFault) → m ≡ n
    → Ends t m p ps answer → Ends t n p ps answer
Ends-at t m n p ps answer e h = subst (λ (k : ℕ). Ends t k p ps answer) e h

judged : (s : Stage) (n : ℕ) (p q : List ℕ) (ps : List (List ℕ)) → IsSound s
    → (next : (t : Stage) → IsSound t → Run t (suc n) (q ∷ ps) (read t (suc n) (q ∷ ps)))
    → (r : Result Stage Why) → judge s p ≡ r → Run s n (p ∷ q ∷ ps) (read s n (p ∷ q ∷ ps))
judged s n p q ps sound next (Err why) e = record {
  ls = [];
  t = s;
  p = p;
  ps = q ∷ ps;
  pieces-are = refl;
  led = refl;
  lines = sym (append-nil (so_far s));
  sound = sound;
  ends = Ends-at s n (n + 0) p (q ∷ ps) (read s n (p ∷ q ∷ ps)) (omega arith)
      (ill why e (read-err s n p (q ∷ ps) why (omega arith) e));
}
judged s n p q ps sound next (Ok t) e =
    let f = judge_follows s p t sound e in
    let r = next t f.sound in
    let answer = sym (read-ok s t n p (q ∷ ps) (omega arith) e) in
    record {
      ls = p ∷ r.ls;
      t = r.t;
      p = r.p;
      ps = r.ps;
      pieces-are = ap (λ (x : List (List ℕ)). p ∷ x) r.pieces-are;
      led = behind-one s t p r.ls e ∙ r.led;
      lines = r.lines ∙ ap (λ (x : List (List ℕ)). x ++ r.ls) f.lines ∙ append_assoc (so_far s) (p ∷ []) r.ls;
      sound = r.sound;
      ends = subst (λ (x : Result Network TextFault). Ends r.t (n + length (p ∷ r.ls)) r.p r.ps x) answer
          (Ends-at r.t (suc n + length r.ls) (n + length (p ∷ r.ls)) r.p r.ps (read t (suc n) (q ∷ ps))
          (omega arith) r.ends);
    }

run_of : (s : Stage) (n : ℕ) (p : List ℕ) (ps : List (List ℕ)) → IsSound s → Run s n (p ∷ ps) (read s n (p ∷ ps))
run_of s n p [] sound = record {
  ls = [];
  t = s;
  p = p;
  ps = [];
  pieces-are = refl;
  led = refl;
  lines = sym (append-nil (so_far s));
  sound = sound;
  ends = Ends-at s n (n + 0) p [] (at_end s n p) (omega arith) (over refl refl);
}
run_of s n p (q ∷ ps) sound = judged s n p q ps sound (λ t h. run_of t (suc n) q ps h) (judge s p) refl

run_of_bytes : (bytes : List ℕ) → Run at_header 1 (cut newline bytes) (network_of bytes)
run_of_bytes bytes = some (cut newline bytes) (some_piece newline bytes)
  where
    some : (pieces : List (List ℕ)) → 0 < length pieces → Run at_header 1 pieces (read at_header 1 pieces)
    some [] lt = absurd (omega arith)
    some (p ∷ ps) lt = run_of at_header 1 p ps tt

-- ---- what is read is a text

abbrev gives : Network → Result Network TextFault
gives n = Ok n

abbrev fails : TextFault → Result Network TextFault
fails x = Err x

record Ended (t : Stage) (p : List ℕ) (n : Network) : Type 0 where
  format : Format
  stage : t ≡ ended format n
  rest : p ≡ []

at_end_ok : (t : Stage) (line : ℕ) (p : List ℕ) (n : Network) → at_end t line p ≡ gives n → Ended t p n
at_end_ok (ended f m) line [] n e = let same : m ≡ n = cc in
    record { format = f; stage = ap (λ (x : Network). ended f x) same; rest = refl }
at_end_ok (ended f m) line (b ∷ bs) n e = absurd cc
at_end_ok at_header line p n e = absurd cc
at_end_ok at_radix line p n e = absurd cc
at_end_ok (at_dims radix) line p n e = absurd cc
at_end_ok at_dims_first line p n e = absurd cc
at_end_ok (at_radices dims) line p n e = absurd cc
at_end_ok (at_depth f radices) line p n e = absurd cc
at_end_ok (at_class f m) line p n e = absurd cc

pub is_text : (bytes : List ℕ) (n : Network) → network_of bytes ≡ gives n
    → (f : Format) × Keeps f n × (bytes ≡ text f n)
is_text bytes n e =
    let r = run_of_bytes bytes in
    elim r.ends [
      | ill why h answer ↦ absurd (let x : fails (at_line (1 + length r.ls) why) ≡ gives n = sym answer ∙ e in cc)
      | over ps-is answer ↦
          let d = at_end_ok r.t (1 + length r.ls) r.p n (sym answer ∙ e) in
          let lines-are : lines_of d.format n ≡ r.ls = ap so_far (sym d.stage) ∙ r.lines in
          let whole : bytes ≡ finished r.ls ++ join_with_byte newline (r.p ∷ r.ps) =
          bytes_are bytes r.ls r.p r.ps r.pieces-are in
          let none : join_with_byte newline (r.p ∷ r.ps) ≡ [] =
          ap (λ (x : List (List ℕ)). join_with_byte newline (r.p ∷ x)) ps-is ∙ d.rest in (
            d.format,
            subst IsSound d.stage r.sound,
            whole ∙ ap (λ (x : List ℕ). finished r.ls ++ x) none ∙ append-nil (finished r.ls)
                ∙ ap finished (sym lines-are),
          )
    ]

-- ---- a text is read

read_on : (s t : Stage) (n : ℕ) (ls ps : List (List ℕ)) → 0 < length ps → behind s ls ≡ fine t
    → read s n (ls ++ ps) ≡ read t (n + length ls) ps
read_on s t n [] ps lt e = ap (λ (x : Stage). read x n ps) (ok_is s t e) ∙ ap (λ (k : ℕ). read t k ps) (omega arith)
read_on s t n (l ∷ ls) ps lt e =
    let b = bind_ok (judge s l) (λ u. behind u ls) t e in
    read-ok s b.0 n l (ls ++ ps) (omega (arith, length-append ls ps)) b.1 ∙ read_on b.0 t (suc n) ls ps lt b.2
    ∙ ap (λ (k : ℕ). read t k ps) (omega arith)

pub reads_text : (f : Format) (n : Network) → Keeps f n → network_of (text f n) ≡ gives n
reads_text f n keeps = ap (read at_header 1) (cut-text f n keeps)
    ∙ read_on at_header (ended f n) 1 (lines_of f n) ([] ∷ []) (lit< tt) (whole_again f n keeps)

-- ---- the line of a fault

fault_line : (t : Stage) (line : ℕ) (p : List ℕ) (x : TextFault) → at_end t line p ≡ fails x → x.line ≡ line
fault_line (ended f m) line [] x e = absurd cc
fault_line (ended f m) line (b ∷ bs) x e = let same : at_line line AfterEnd ≡ x = cc in
    ap (λ (y : TextFault). y.line) (sym same)
fault_line at_header line p x e = let same : at_line line NoEnd ≡ x = cc in ap (λ (y : TextFault). y.line) (sym same)
fault_line at_radix line p x e = let same : at_line line NoEnd ≡ x = cc in ap (λ (y : TextFault). y.line) (sym same)
fault_line (at_dims radix) line p x e = let same : at_line line NoEnd ≡ x = cc in
    ap (λ (y : TextFault). y.line) (sym same)
fault_line at_dims_first line p x e = let same : at_line line NoEnd ≡ x = cc in
    ap (λ (y : TextFault). y.line) (sym same)
fault_line (at_radices dims) line p x e = let same : at_line line NoEnd ≡ x = cc in
    ap (λ (y : TextFault). y.line) (sym same)
fault_line (at_depth f radices) line p x e = let same : at_line line NoEnd ≡ x = cc in
    ap (λ (y : TextFault). y.line) (sym same)
fault_line (at_class f m) line p x e = let same : at_line line NoEnd ≡ x = cc in
    ap (λ (y : TextFault). y.line) (sym same)

line_of_ends : (t : Stage) (n : ℕ) (p : List ℕ) (ps : List (List ℕ)) (answer : Result Network TextFault) (x : TextFault)
    → answer ≡ fails x → Ends t n p ps answer → x.line ≡ n
line_of_ends t n p ps answer x e (ill why h is) = let same : fails (at_line n why) ≡ fails x = sym is ∙ e in
    let y : at_line n why ≡ x = cc in ap (λ (z : TextFault). z.line) (sym y)
line_of_ends t n p ps answer x e (over ps-is is) = fault_line t n p x (sym is ∙ e)

behind-front : (s t u : Stage) (ls : List (List ℕ)) (p : List ℕ) (ps : List (List ℕ)) → behind s ls ≡ fine t
    → behind s (ls ++ p ∷ ps) ≡ fine u → (v : Stage) × (judge t p ≡ fine v)
behind-front s t u [] p ps led whole =
    let b = bind_ok (judge s p) (λ v. behind v ps) u whole in
    (b.0, ap (λ (x : Stage). judge x p) (sym (ok_is s t led)) ∙ b.1)
behind-front s t u (l ∷ ls) p ps led whole =
    let a = bind_ok (judge s l) (λ v. behind v ls) t led in
    let b = bind_ok (judge s l) (λ v. behind v (ls ++ p ∷ ps)) u whole in
    let same : a.0 ≡ b.0 = ok_is a.0 b.0 (sym a.1 ∙ b.1) in
    behind-front a.0 t u ls p ps a.2 (ap (λ (x : Stage). behind x (ls ++ p ∷ ps)) same ∙ b.2)

-- no accepted text begins with the line at which the run ended
not_longer : (t : Stage) (n : ℕ) (p : List ℕ) (ps others ys : List (List ℕ)) (answer : Result Network TextFault)
    (v : Stage) → Ends t n p ps answer → judge t p ≡ fine v → others ++ ys ≡ ps → 0 < length ys → ⊥
not_longer t n p ps others ys answer v (ill why h is) good back lt = let x : fault {A = Stage} why ≡ fine v =
    sym h ∙ good in cc
not_longer t n p ps others ys answer v (over ps-is is) good back lt =
    omega (arith, length-append others ys, ap length (back ∙ ps-is))

pub is_fault_line : (bytes : List ℕ) (x : TextFault) → network_of bytes ≡ fails x → IsFaultLine bytes x.line
is_fault_line bytes x e =
    let r = run_of_bytes bytes in
    let n = line_of_ends r.t (1 + length r.ls) r.p r.ps (network_of bytes) x e r.ends in
    let g = goes_on_to r.t r.sound in
    let whole : lines_of g.format g.network ≡ r.ls ++ g.more =
    g.whole ∙ ap (λ (y : List (List ℕ)). y ++ g.more) r.lines in
    let well : BeginsWell bytes (length r.ls) = record {
      lines = r.ls;
      are_lines = AreLines-front r.ls g.more (subst AreLines whole (text_lines g.format g.network g.keeps));
      count = refl;
      rest = join_with_byte newline (r.p ∷ r.ps);
      first = bytes_are bytes r.ls r.p r.ps r.pieces-are;
      format = g.format;
      network = g.network;
      keeps = g.keeps;
      more = finished g.more;
      accepted = ap finished whole ∙ flat_map-append (λ l. l ++ newline ∷ []) r.ls g.more;
    } in
    let longest : (k : ℕ) → BeginsWell bytes k → k < x.line = λ k w. elim (cases_lt k x.line) [
      | inl lt ↦ lt
      | inr le ↦
          let pieces : w.lines ++ cut newline w.rest ≡ r.ls ++ r.p ∷ r.ps =
          sym (cut-finished w.lines w.rest w.are_lines) ∙ ap (cut newline) (sym w.first) ∙ r.pieces-are in
          let l = longer w.lines (cut newline w.rest) r.ls r.p r.ps pieces (omega (arith, w.count)) in
          let texts : w.lines ++ cut newline w.more ≡ lines_of w.format w.network ++ [] ∷ [] =
          sym (cut-finished w.lines w.more w.are_lines) ∙ ap (cut newline) (sym w.accepted)
          ∙ cut-text w.format w.network w.keeps in
          let m = fronts w.lines (cut newline w.more) (lines_of w.format w.network) []
          (some_piece newline w.more) texts in
          let all : lines_of w.format w.network ≡ r.ls ++ r.p ∷ (l.others ++ m.0) =
          m.1 ∙ ap (λ (y : List (List ℕ)). y ++ m.0) l.front ∙ append_assoc r.ls (r.p ∷ l.others) m.0 in
          let v = behind-front at_header r.t (ended w.format w.network) r.ls r.p (l.others ++ m.0) r.led
          (ap (behind at_header) (sym all) ∙ whole_again w.format w.network w.keeps) in
          absurd (not_longer r.t (1 + length r.ls) r.p r.ps l.others (cut newline w.rest)
          (network_of bytes) v.0 r.ends v.1 l.back (some_piece newline w.rest))
    ] in
    record { one_more = (length r.ls, omega (arith, n), well); longest = longest }

-- ---- the clauses

pub found : (bytes : List ℕ) (r : Result Config TextFault) → Answers view r (network_of bytes)
    → IfOk r (λ config. (f : Format) × Keeps f (view config) × (bytes ≡ text f (view config)))
found bytes (Ok config) h = is_text bytes (view config) h
found bytes (Err x) h = tt

pub faulty : (bytes : List ℕ) (r : Result Config TextFault) → Answers view r (network_of bytes)
    → IfErr r (λ x. IsFaultLine bytes x.line)
faulty bytes (Ok config) h = tt
faulty bytes (Err x) h = is_fault_line bytes x h
