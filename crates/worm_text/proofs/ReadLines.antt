-- Reading, line after line.
use Rattle.std.proofs.Common.{◌≡◌, lit≤, ℕ, suc, ◌+◌, ◌<◌, ◌≤◌, eqb, List, [], ◌∷◌, length, Result, Err, refl, sym, ap}
use Rattle.std.proofs.Common.{◌∙◌, arith, add-one}
use Rattle.std.specs.Prelude.{codes}
use Rattle.std.proofs.lemmas.List.{length_push, length-append}
use Rattle.std.proofs.lemmas.List.Splits.{length-slice_split}
use Rattle.worm_text.specs.declared.fault.Why.{Why}
use Rattle.worm_text.specs.declared.fault.TextFault.{TextFault}
use Rattle.worm_text.specs.declared.format.Format.{Format}
use Rattle.worm_text.specs.declared.format.Format.TheVariants.{One, Two}
use Rattle.worm_text.specs.Lines.{cut, newline}
use Rattle.worm_text.specs.Network.{Network, class_lines, mesh_lines, header_line, depth_line}
use Rattle.worm_text.specs.Stages.{Stage, at_header, at_radix, at_dims, at_dims_first, at_radices, at_depth, at_class}
use Rattle.worm_text.specs.Stages.{ended, judge, IsSound}
use Rattle.worm_text.specs.Reader.{read, at_end, at_line}
use Rattle.worm_text.proofs.Binds.{fine, fault}
use Rattle.worm_text.proofs.Followed.{so_far}
use Rattle.worm_text.proofs.FollowedClasses.{judge_follows}

-- a list of pieces has one at least
pub some_piece : (c : ℕ) (bytes : List ℕ) → 0 < length (cut c bytes)
some_piece c bytes = omega (arith, length-slice_split (λ b. eqb b c) bytes)

pub read-ok : (s t : Stage) (n : ℕ) (l : List ℕ) (pieces : List (List ℕ)) → 0 < length pieces → judge s l ≡ fine t
    → read s n (l ∷ pieces) ≡ read t (suc n) pieces
read-ok s t n l [] lt e = absurd (omega arith)
read-ok s t n l (next ∷ more) lt e = rw (e, read) refl

pub read-err : (s : Stage) (n : ℕ) (l : List ℕ) (pieces : List (List ℕ)) (why : Why) → 0 < length pieces
    → judge s l ≡ fault why → read s n (l ∷ pieces) ≡ Err (at_line n why)
read-err s n l [] why lt e = absurd (omega arith)
read-err s n l (next ∷ more) why lt e = rw (e, read) refl

-- how many lines a text can have
class_lines-short : (f : Format) (names : List (List ℕ)) (ms : List ℕ) → length (class_lines f names ms) ≤ length names
class_lines-short f [] [] = lit≤ tt
class_lines-short f [] (m ∷ ms) = lit≤ tt
class_lines-short f (c ∷ names) [] = omega arith
class_lines-short f (c ∷ names) (m ∷ ms) = omega (arith, class_lines-short f names ms)

mesh_lines-two : (f : Format) (radices : List ℕ) → length (mesh_lines f radices) ≡ 2
mesh_lines-two One radices = refl
mesh_lines-two Two radices = refl

pub few_lines : (s : Stage) → IsSound s → length (so_far s) ≤ 9
few_lines at_header sound = lit≤ tt
few_lines at_radix sound = lit≤ tt
few_lines (at_dims radix) sound = lit≤ tt
few_lines at_dims_first sound = lit≤ tt
few_lines (at_radices dims) sound = lit≤ tt
few_lines (at_depth f radices) sound = omega (arith, mesh_lines-two f radices)
few_lines (at_class f n) sound =
    omega (
      arith,
      length-append (header_line f ∷ mesh_lines f n.radices)
          (depth_line n.depth ∷ class_lines f n.classes n.channels),
      mesh_lines-two f n.radices,
      class_lines-short f n.classes n.channels,
      sound.2.count,
    )
few_lines (ended f n) sound =
    omega (
      arith,
      length_push (so_far (at_class f n)) (codes "end"),
      length-append (header_line f ∷ mesh_lines f n.radices)
          (depth_line n.depth ∷ class_lines f n.classes n.channels),
      mesh_lines-two f n.radices,
      class_lines-short f n.classes n.channels,
      sound.classes.count,
    )

-- one line more
pub record GoesOn (s t : Stage) (line : ℕ) (rest after : List ℕ) (total : Result Network TextFault) : Type 0 where
  pub read : read t (line + 1) (cut newline after) ≡ total
  pub sound : IsSound t
  pub count : line + 1 ≡ suc (length (so_far t))

pub goes_on : (s t : Stage) (line : ℕ) (rest front after : List ℕ) (total : Result Network TextFault)
    → cut newline rest ≡ front ∷ cut newline after
    → read s line (cut newline rest) ≡ total → IsSound s → line ≡ suc (length (so_far s)) → judge s front ≡ fine t
    → GoesOn s t line rest after total
goes_on s t line rest front after total cuts so_far-is sound count e =
    let f = judge_follows s front t sound e in
    record {
      read = rw add-one (sym (read-ok s t line front (cut newline after) (some_piece newline after) e)
          ∙ ap (read s line) (sym cuts) ∙ so_far-is);
      sound = f.sound;
      count = omega (arith, ap length f.lines, length_push (so_far s) front);
    }

pub stops : (s : Stage) (line : ℕ) (rest front after : List ℕ) (total : Result Network TextFault) (why : Why)
    → cut newline rest ≡ front ∷ cut newline after
    → read s line (cut newline rest) ≡ total → judge s front ≡ fault why → total ≡ Err (at_line line why)
stops s line rest front after total why cuts so_far-is e =
    sym so_far-is ∙ ap (read s line) cuts ∙ read-err s line front (cut newline after) why (some_piece newline after) e

pub is_over : (s : Stage) (line : ℕ) (rest : List ℕ) (total : Result Network TextFault) → cut newline rest ≡ rest ∷ []
    → read s line (cut newline rest) ≡ total → total ≡ at_end s line rest
is_over s line rest total cuts so_far-is = sym so_far-is ∙ ap (read s line) cuts
