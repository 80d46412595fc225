-- From each stage some network's text goes on.
use Rattle.std.proofs.Common.{◌≡◌, lit≤, ℕ, suc, zero, List, [], ◌∷◌, ◌++◌, replicate, refl, sym, ap, ◌∙◌, append_assoc}
use Rattle.std.proofs.Common.{arith, map, true}
use Rattle.std.specs.Prelude.{codes}
use Rattle.std.specs.Fmt.{decimal}
use Rattle.std.proofs.lemmas.List.{append-nil, length-replicate}
use Rattle.std.proofs.lemmas.List.Elements.{All-nil, All-cons}
use Rattle.worm_text.specs.declared.format.Format.{Format}
use Rattle.worm_text.specs.declared.format.Format.TheVariants.{One, Two}
use Rattle.worm_text.specs.Lines.{line}
use Rattle.worm_text.specs.Numerals.{is_name}
use Rattle.worm_text.specs.Network.{Network, IsBetween, header_line, class_lines, mesh_lines, depth_line, lines_of}
use Rattle.worm_text.specs.Network.{AreAlike, AreSingle, IsMesh, AreClasses, Keeps}
use Rattle.worm_text.specs.Stages.{Stage, at_header, at_radix, at_dims, at_dims_first, at_radices, at_depth, at_class}
use Rattle.worm_text.specs.Stages.{ended, IsSound}
use Rattle.worm_text.proofs.Followed.{so_far, All-replicate}

-- the text of some network goes on from these lines
pub record GoesOnTo (lines : List (List ℕ)) : Type 0 where
  pub format : Format
  pub network : Network
  pub keeps : Keeps format network
  pub more : List (List ℕ)
  pub whole : lines_of format network ≡ lines ++ more

abbrev one_name : List (List ℕ)
one_name = codes "a" ∷ []

abbrev one_channel : List ℕ
one_channel = 1 ∷ []

single : (f : Format) → AreSingle f one_channel
single One = All-cons (λ m. m ≡ 1) 1 [] refl (All-nil (λ m. m ≡ 1))
single Two = tt

one_class : (f : Format) → AreClasses f one_name one_channel
one_class f = record {
  count = lit≤ tt;
  spelled = All-cons (λ name. is_name name ≡ true) (codes "a") [] refl (All-nil (λ name. is_name name ≡ true));
  apart = ((λ (k, lt, at). absurd (omega arith)), tt);
  paired = refl;
  each = All-cons (IsBetween 1 8) 1 [] (lit≤ tt, lit≤ tt) (All-nil (IsBetween 1 8));
  total = lit≤ tt;
  single = single f;
}

-- a mesh and a depth, with one class
abbrev small : List ℕ → ℕ → Network
small radices depth = record { radices = radices; depth = depth; classes = one_name; channels = one_channel }

small_keeps : (f : Format) (radices : List ℕ) (depth : ℕ) → IsMesh f radices → IsBetween 1 16 depth
    → Keeps f (small radices depth)
small_keeps f radices depth mesh between =
    record { mesh = mesh; depth = between; classes = one_class f; some = lit≤ tt }

alike : (f : Format) (k : ℕ) → AreAlike f (k ∷ [])
alike One k = All-cons (λ x. x ≡ k) k [] refl (All-nil (λ x. x ≡ k))
alike Two k = tt

one_dim : (f : Format) (k : ℕ) → IsBetween 2 16 k → IsMesh f (k ∷ [])
one_dim f k between = record {
  dims = (lit≤ tt, lit≤ tt);
  each = All-cons (IsBetween 2 16) k [] between (All-nil (IsBetween 2 16));
  nodes = omega (arith, between);
  alike = alike f k;
}

twos : (n : ℕ) → IsBetween 1 3 n → IsMesh Two (replicate n 2)
twos zero between = absurd (omega arith)
twos (suc zero) between = one_dim Two 2 (lit≤ tt, lit≤ tt)
twos (suc (suc zero)) between = record {
  dims = (lit≤ tt, lit≤ tt);
  each = All-replicate (IsBetween 2 16) 2 2 (lit≤ tt, lit≤ tt);
  nodes = lit≤ tt;
  alike = tt;
}
twos (suc (suc (suc zero))) between = record {
  dims = (lit≤ tt, lit≤ tt);
  each = All-replicate (IsBetween 2 16) 3 2 (lit≤ tt, lit≤ tt);
  nodes = lit≤ tt;
  alike = tt;
}
twos (suc (suc (suc (suc n)))) between = absurd (omega arith)

from_class : (f : Format) (radices : List ℕ) (depth : ℕ) (names : List (List ℕ)) (ms : List ℕ) → IsMesh f radices
    → IsBetween 1 16 depth → AreClasses f names ms
    → GoesOnTo (so_far (at_class f (record { radices = radices; depth = depth; classes = names; channels = ms })))
from_class f radices depth [] [] mesh between classes = record {
  format = f;
  network = small radices depth;
  keeps = small_keeps f radices depth mesh between;
  more = class_lines f one_name one_channel ++ codes "end" ∷ [];
  whole = append_assoc (header_line f ∷ mesh_lines f radices) (depth_line depth ∷ class_lines f one_name one_channel)
      (codes "end" ∷ [])
      ∙ sym (append_assoc (header_line f ∷ mesh_lines f radices) (depth_line depth ∷ [])
      (class_lines f one_name one_channel ++ codes "end" ∷ []));
}
from_class f radices depth [] (m ∷ ms) mesh between classes = absurd (omega (arith, classes.paired))
from_class f radices depth (c ∷ names) ms mesh between classes = record {
  format = f;
  network = record { radices = radices; depth = depth; classes = c ∷ names; channels = ms };
  keeps = record { mesh = mesh; depth = between; classes = classes; some = omega arith };
  more = codes "end" ∷ [];
  whole = refl;
}

from_depth : (f : Format) (radices : List ℕ) → IsMesh f radices → GoesOnTo (so_far (at_depth f radices))
from_depth f radices mesh = record {
  format = f;
  network = small radices 1;
  keeps = small_keeps f radices 1 mesh (lit≤ tt, lit≤ tt);
  more = depth_line 1 ∷ class_lines f one_name one_channel ++ codes "end" ∷ [];
  whole = append_assoc (header_line f ∷ mesh_lines f radices) (depth_line 1 ∷ class_lines f one_name one_channel)
      (codes "end" ∷ []);
}

pub goes_on_to : (s : Stage) → IsSound s → GoesOnTo (so_far s)
goes_on_to at_header sound = record {
  format = One;
  network = small (2 ∷ []) 1;
  keeps = small_keeps One (2 ∷ []) 1 (one_dim One 2 (lit≤ tt, lit≤ tt)) (lit≤ tt, lit≤ tt);
  more = lines_of One (small (2 ∷ []) 1);
  whole = refl;
}
goes_on_to at_radix sound = record {
  format = One;
  network = small (2 ∷ []) 1;
  keeps = small_keeps One (2 ∷ []) 1 (one_dim One 2 (lit≤ tt, lit≤ tt)) (lit≤ tt, lit≤ tt);
  more = mesh_lines One (2 ∷ []) ++ depth_line 1 ∷ class_lines One one_name one_channel ++ codes "end" ∷ [];
  whole = refl;
}
goes_on_to (at_dims radix) sound = record {
  format = One;
  network = small (radix ∷ []) 1;
  keeps = small_keeps One (radix ∷ []) 1 (one_dim One radix sound) (lit≤ tt, lit≤ tt);
  more = line (codes "dims" ∷ decimal 1 ∷ []) ∷ depth_line 1 ∷ class_lines One one_name one_channel
      ++ codes "end" ∷ [];
  whole = refl;
}
goes_on_to at_dims_first sound = record {
  format = Two;
  network = small (2 ∷ []) 1;
  keeps = small_keeps Two (2 ∷ []) 1 (one_dim Two 2 (lit≤ tt, lit≤ tt)) (lit≤ tt, lit≤ tt);
  more = mesh_lines Two (2 ∷ []) ++ depth_line 1 ∷ class_lines Two one_name one_channel ++ codes "end" ∷ [];
  whole = refl;
}
goes_on_to (at_radices dims) sound =
    let radices = replicate dims 2 in
    let rest = line (codes "radix" ∷ map decimal radices) ∷ depth_line 1 ∷ class_lines Two one_name one_channel
    ++ codes "end" ∷ [] in
    record {
      format = Two;
      network = small radices 1;
      keeps = small_keeps Two radices 1 (twos dims sound) (lit≤ tt, lit≤ tt);
      more = rest;
      whole = ap (λ (d : ℕ). header_line Two ∷ line (codes "dims" ∷ decimal d ∷ []) ∷ rest) (length-replicate dims 2);
    }
goes_on_to (at_depth f radices) sound = from_depth f radices sound
goes_on_to (at_class f n) sound = from_class f n.radices n.depth n.classes n.channels sound.0 sound.1 sound.2
goes_on_to (ended f n) sound = record {
  format = f;
  network = n;
  keeps = sound;
  more = [];
  whole = sym (append-nil (lines_of f n));
}
