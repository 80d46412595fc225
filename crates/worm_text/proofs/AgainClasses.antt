-- The same of the lines of classes and of the end, and then of the whole text.
use Rattle.std.proofs.Common.{◌≡◌, lit<, ℕ, suc, ◌+◌, ◌<◌, ◌≤◌, Bool, true, false, leb, ltb, List, [], ◌∷◌, ◌++◌}
use Rattle.std.proofs.Common.{length, get_or, Result, Ok, refl, sym, ap, subst, ◌∙◌, append_assoc, arith, sum, map, All}
use Rattle.std.specs.Prelude.{not, codes, Contains}
use Rattle.std.specs.Fmt.{decimal}
use Rattle.std.specs.Str.{bytes_eq}
use Rattle.std.specs.List.{list_any, Any}
use Rattle.std.proofs.lemmas.Bool.Decides.{nat_tests}
use Rattle.std.proofs.lemmas.List.{append-nil, length_push, length-append}
use Rattle.std.proofs.lemmas.List.Sums.{sum_by-append, sum_by-cons}
use Rattle.std.proofs.lemmas.List.Folds.{Any-from_list_any}
use Rattle.worm_text.specs.declared.fault.Why.{Why}
use Rattle.worm_text.specs.declared.fault.Why.TheVariants.{Missing, Range, Repeated, TooMany}
use Rattle.worm_text.specs.declared.format.Format.{Format}
use Rattle.worm_text.specs.declared.format.Format.TheVariants.{One, Two}
use Rattle.worm_text.specs.declared.key.Key.TheVariants.{Class}
use Rattle.worm_text.specs.Lines.{cut, line, space}
use Rattle.worm_text.specs.Numerals.{is_name}
use Rattle.worm_text.specs.Network.{Network, IsBetween, header_line, class_line, class_lines, mesh_lines, depth_line}
use Rattle.worm_text.specs.Network.{lines_of, AreNew, AreSingle, AreClasses, Keeps}
use Rattle.worm_text.specs.Reading.{◌>>=◌, checked, number_at, name_at, word_at, key_at, no_more}
use Rattle.worm_text.specs.Stages.{Stage, at_header, at_radix, at_dims, at_dims_first, at_radices, at_depth, at_class}
use Rattle.worm_text.specs.Stages.{ended, header_stage, without_classes, new_name_at, channels_at, with_class}
use Rattle.worm_text.specs.Stages.{one_class, the_end, by_key, class_stage, judge}
use Rattle.worm_text.proofs.Binds.{fine, bind_at_ok}
use Rattle.worm_text.proofs.Cuts.{ArePlain, cut-line}
use Rattle.worm_text.proofs.FieldLaws.{same_bytes, key_at_again, word_at_again, name_at_again, number_at_again}
use Rattle.worm_text.proofs.FollowedClasses.{channel_fields, class_line_is}
use Rattle.worm_text.proofs.Again.{plain-decimal, plain_name, radix_again, dims_again, dims_first_again}
use Rattle.worm_text.proofs.Again.{radices_line_again, depth_again}

-- the stage behind lines
abbrev pub behind : Stage → List (List ℕ) → Result Stage Why
behind s [] = Ok s
behind s (l ∷ ls) = judge s l >>= λ t. behind t ls

pub behind-one : (s t : Stage) (l : List ℕ) (ls : List (List ℕ)) → judge s l ≡ fine t → behind s (l ∷ ls) ≡ behind t ls
behind-one s t l ls e = bind_at_ok (judge s l) (λ t. behind t ls) t e

-- ---- what holds in the middle of a list

All-middle : {A : Type 0} (P : A → Type 0) (xs : List A) (y : A) (ys : List A) → All P (xs ++ y ∷ ys) → P y
All-middle P [] y ys h = h 0 y (omega arith)
All-middle P (x ∷ xs) y ys h = All-middle P xs y ys (λ i d lt. h (suc i) d (omega arith))

new_in_middle : (pre before : List (List ℕ)) (name : List ℕ) (names : List (List ℕ))
    → AreNew pre (before ++ name ∷ names) → Contains (pre ++ before) name → ⊥
new_in_middle pre [] name names h w = h.0 (subst (λ (x : List (List ℕ)). Contains x name) (append-nil pre) w)
new_in_middle pre (b ∷ before) name names h w =
    new_in_middle (pre ++ b ∷ []) before name names h.1
    (subst (λ (x : List (List ℕ)). Contains x name) (sym (append_assoc pre (b ∷ []) before)) w)

contained : (taken : List (List ℕ)) (name : List ℕ) → Any (λ c. bytes_eq c name ≡ true) taken → Contains taken name
contained taken name (k, x, lt, at, same) =
    let e : x ≡ name = same_bytes x name same in
    subst (λ (y : List ℕ). Contains taken y) e (k, lt, at)

not_any : (taken : List (List ℕ)) (name : List ℕ) (b : Bool) → list_any (λ c. bytes_eq c name) taken ≡ b
    → (Contains taken name → ⊥) → not b ≡ true
not_any taken name true e not_in = absurd
    (not_in (contained taken name (Any-from_list_any (λ c. bytes_eq c name) taken e)))
not_any taken name false e not_in = refl

new_name_again : (taken : List (List ℕ)) (name : List ℕ) (rest : List (List ℕ)) → is_name name ≡ true
    → (Contains taken name → ⊥) → new_name_at taken (name ∷ rest) ≡ fine (name, rest)
unfolding new_name_at
new_name_again taken name rest spelled not_in =
    bind_at_ok (name_at (name ∷ rest)) (λ name. checked (not (list_any (λ c. bytes_eq c name.0) taken)) Repeated name)
    (name, rest) (name_at_again name rest spelled)
    ∙ ap (λ (b : Bool). checked b Repeated (name, rest))
    (not_any taken name (list_any (λ c. bytes_eq c name) taken) refl not_in)

-- the number of channels that a format can say
abbrev CanSay : Format → ℕ → Type 0
CanSay One m = m ≡ 1
CanSay Two m = IsBetween 1 8 m

channels_again : (f : Format) (taken : List ℕ) (m : ℕ) → CanSay f m → sum taken + m ≤ 8
    → channels_at f taken (channel_fields f m) ≡ fine (m, [])
unfolding channels_at
channels_again One taken m say few = ap (λ (x : ℕ). fine (x, [])) (sym say)
channels_again Two taken m say few =
    let t : leb (sum taken + m) 8 ≡ true = grind (arith, nat_tests) in
    bind_at_ok (word_at (codes "channels") (codes "channels" ∷ decimal m ∷ []))
    (λ rest. number_at 1 8 rest >>= λ m. checked (leb (sum taken + m.0) 8) Range m) (decimal m ∷ [])
    (word_at_again (codes "channels") (decimal m ∷ []))
    ∙ bind_at_ok (number_at 1 8 (decimal m ∷ [])) (λ m. checked (leb (sum taken + m.0) 8) Range m) (
      m,
      [],
    ) (number_at_again 1 8 m [] (lit< tt) say)
    ∙ ap (λ (b : Bool). checked b Range (m, [])) t

plain_channels : (f : Format) (m : ℕ) → CanSay f m → ArePlain (channel_fields f m)
plain_channels One m say = tt
plain_channels Two m say = (refl, (plain-decimal m (omega (arith, say)), tt))

class_again : (f : Format) (n : Network) (name : List ℕ) (m : ℕ) → length n.classes < 4 → is_name name ≡ true
    → (Contains n.classes name → ⊥) → CanSay f m → sum n.channels + m ≤ 8
    → judge (at_class f n) (class_line f name m) ≡ fine (at_class f (with_class n name m))
unfolding class_stage one_class
class_again f n name m room spelled not_in say few =
    let fields = name ∷ channel_fields f m in
    let t : ltb (length n.classes) 4 ≡ true = grind (arith, nat_tests) in
    ap (λ (l : List ℕ). class_stage f n (cut space l)) (class_line_is f name m)
    ∙ ap (class_stage f n) (cut-line (codes "class") fields (refl, (plain_name name spelled, plain_channels f m say)))
    ∙ bind_at_ok (key_at (codes "class" ∷ fields)) (λ found. by_key f n found.0 found.1) (
      Class,
      fields,
    ) (key_at_again Class fields)
    ∙ ap (λ (b : Bool). checked b TooMany n >>= λ _. new_name_at n.classes fields >>=
    λ name. channels_at f n.channels name.1 >>= λ m. no_more m.1 >>=
    λ _. Ok (at_class f (with_class n name.0 m.0))) t
    ∙ bind_at_ok (new_name_at n.classes fields)
    (λ name. channels_at f n.channels name.1 >>= λ m. no_more m.1 >>=
    λ _. Ok (at_class f (with_class n name.0 m.0))) (
      name,
      channel_fields f m,
    ) (new_name_again n.classes name (channel_fields f m) spelled not_in)
    ∙ bind_at_ok (channels_at f n.channels (channel_fields f m))
    (λ m. no_more m.1 >>= λ _. Ok (at_class f (with_class n name m.0))) (
      m,
      [],
    ) (channels_again f n.channels m say few)

end_again : (f : Format) (n : Network) → 1 ≤ length n.classes → judge (at_class f n) (codes "end") ≡ fine (ended f n)
unfolding class_stage the_end
end_again f n some =
    let t : ltb 0 (length n.classes) ≡ true = grind (arith, nat_tests) in
    ap (λ (b : Bool). checked b Missing n >>= λ _. Ok (ended f n)) t

-- ---- the classes one after another

can_say : (f : Format) (before : List ℕ) (m : ℕ) (ms : List ℕ) → All (IsBetween 1 8) (before ++ m ∷ ms)
    → AreSingle f (before ++ m ∷ ms) → CanSay f m
can_say One before m ms each single = All-middle (λ x. x ≡ 1) before m ms single
can_say Two before m ms each single = All-middle (IsBetween 1 8) before m ms each

abbrev network : List ℕ → ℕ → List (List ℕ) → List ℕ → Network
network radices depth names ms = record { radices = radices; depth = depth; classes = names; channels = ms }

regrouped : {A : Type 0} (xs : List A) (y : A) (ys : List A) → (xs ++ y ∷ []) ++ ys ≡ xs ++ y ∷ ys
regrouped xs y ys = append_assoc xs (y ∷ []) ys

classes_again : (f : Format) (radices : List ℕ) (depth : ℕ) (before names : List (List ℕ)) (mb ms : List ℕ)
    → length mb ≡ length before
    → AreClasses f (before ++ names) (mb ++ ms) → 1 ≤ length (before ++ names)
    → behind (at_class f (network radices depth before mb)) (class_lines f names ms ++ codes "end" ∷ [])
    ≡ fine (ended f (network radices depth (before ++ names) (mb ++ ms)))
classes_again f radices depth before [] mb [] even classes some =
    let some2 : 1 ≤ length before = subst (λ (x : List (List ℕ)). 1 ≤ length x) (append-nil before) some in
    behind-one (at_class f (network radices depth before mb)) (ended f (network radices depth before mb))
    (codes "end") [] (end_again f (network radices depth before mb) some2)
    ∙ ap (λ (x : List (List ℕ)). fine (ended f (network radices depth x mb))) (sym (append-nil before))
    ∙ ap (λ (x : List ℕ). fine (ended f (network radices depth (before ++ []) x))) (sym (append-nil mb))
classes_again f radices depth before [] mb (m ∷ ms) even classes some =
    absurd (omega (arith, classes.paired, length-append before [], length-append mb (m ∷ ms)))
classes_again f radices depth before (c ∷ names) mb [] even classes some =
    absurd (omega (arith, classes.paired, length-append before (c ∷ names), length-append mb []))
classes_again f radices depth before (c ∷ names) mb (m ∷ ms) even classes some =
    let n = network radices depth before mb in
    let room : length before < 4 = omega (arith, classes.count, length-append before (c ∷ names)) in
    let few : sum mb + m ≤ 8 = omega (
      arith,
      classes.total,
      sum_by-append (λ x. x) mb (m ∷ ms),
      sum_by-cons (λ x. x) m ms,
    ) in
    let one = class_again f n c m room (All-middle (λ name. is_name name ≡ true) before c names classes.spelled)
    (new_in_middle [] before c names classes.apart) (can_say f mb m ms classes.each classes.single) few in
    let rc = regrouped before c names in
    let rm = regrouped mb m ms in
    let classes2 : AreClasses f ((before ++ c ∷ []) ++ names) ((mb ++ m ∷ []) ++ ms) =
    subst (λ (x : List (List ℕ)). AreClasses f x ((mb ++ m ∷ []) ++ ms)) (sym rc)
    (subst (λ (x : List ℕ). AreClasses f (before ++ c ∷ names) x) (sym rm) classes) in
    let some2 : 1 ≤ length ((before ++ c ∷ []) ++ names) = subst (λ (x : List (List ℕ)). 1 ≤ length x) (sym rc) some in
    behind-one (at_class f n) (at_class f (with_class n c m)) (class_line f c m)
    (class_lines f names ms ++ codes "end" ∷ []) one
    ∙ classes_again f radices depth (before ++ c ∷ []) names (mb ++ m ∷ []) ms
    (omega (arith, length_push before c, length_push mb m)) classes2 some2
    ∙ ap (λ (x : List (List ℕ)). fine (ended f (network radices depth x ((mb ++ m ∷ []) ++ ms)))) rc
    ∙ ap (λ (x : List ℕ). fine (ended f (network radices depth (before ++ c ∷ names) x))) rm

-- ---- the whole text

abbrev last_lines : Format → Network → List (List ℕ)
last_lines f n = class_lines f n.classes n.channels ++ codes "end" ∷ []

from_depth : (f : Format) (n : Network) → Keeps f n
    → behind (at_depth f n.radices) (depth_line n.depth ∷ last_lines f n) ≡ fine (ended f n)
from_depth f n keeps =
    behind-one (at_depth f n.radices) (at_class f (without_classes n.radices n.depth)) (depth_line n.depth)
    (last_lines f n) (depth_again f n.radices n.depth keeps.depth)
    ∙ classes_again f n.radices n.depth [] n.classes [] n.channels refl keeps.classes keeps.some

pub lines_grouped : (f : Format) (n : Network)
    → lines_of f n ≡ (header_line f ∷ mesh_lines f n.radices) ++ (depth_line n.depth ∷ last_lines f n)
lines_grouped f n = append_assoc (header_line f ∷ mesh_lines f n.radices)
    (depth_line n.depth ∷ class_lines f n.classes n.channels) (codes "end" ∷ [])

header_one : judge at_header (header_line One) ≡ fine at_radix
unfolding header_stage
header_one = refl

header_two : judge at_header (header_line Two) ≡ fine at_dims_first
unfolding header_stage
header_two = refl

from_header : (f : Format) (n : Network) → Keeps f n
    → behind at_header ((header_line f ∷ mesh_lines f n.radices) ++ (depth_line n.depth ∷ last_lines f n))
    ≡ fine (ended f n)
from_header One n keeps =
    let k = get_or n.radices 0 0 in
    let r1 = line (codes "radix" ∷ decimal k ∷ []) in
    let d1 = line (codes "dims" ∷ decimal (length n.radices) ∷ []) in
    let rest = depth_line n.depth ∷ last_lines One n in
    behind-one at_header at_radix (header_line One) (r1 ∷ d1 ∷ rest) header_one
    ∙ behind-one at_radix (at_dims k) r1 (d1 ∷ rest)
    (radix_again k (keeps.mesh.each 0 0 (omega (arith, keeps.mesh.dims))))
    ∙ behind-one (at_dims k) (at_depth One n.radices) d1 rest (dims_again n.radices keeps.mesh)
    ∙ from_depth One n keeps
from_header Two n keeps =
    let d = length n.radices in
    let d1 = line (codes "dims" ∷ decimal d ∷ []) in
    let r1 = line (codes "radix" ∷ map decimal n.radices) in
    let rest = depth_line n.depth ∷ last_lines Two n in
    behind-one at_header at_dims_first (header_line Two) (d1 ∷ r1 ∷ rest) header_two
    ∙ behind-one at_dims_first (at_radices d) d1 (r1 ∷ rest) (dims_first_again d keeps.mesh.dims)
    ∙ behind-one (at_radices d) (at_depth Two n.radices) r1 rest (radices_line_again n.radices keeps.mesh)
    ∙ from_depth Two n keeps

-- the lines of a network that keeps the rules lead to its end
pub whole_again : (f : Format) (n : Network) → Keeps f n → behind at_header (lines_of f n) ≡ fine (ended f n)
whole_again f n keeps = ap (behind at_header) (lines_grouped f n) ∙ from_header f n keeps
