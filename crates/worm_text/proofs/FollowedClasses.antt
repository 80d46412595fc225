-- The same of the lines of classes, and of the end.
use Rattle.std.proofs.Common.{◌≡◌, lit<, ℕ, suc, ◌+◌, ◌<◌, ◌≤◌, Bool, true, false, leb, ltb, List, [], ◌∷◌, ◌++◌}
use Rattle.std.proofs.Common.{length, get_or, Result, Ok, refl, sym, ap, subst, ◌∙◌, append_assoc, arith, sum, All}
use Rattle.std.specs.Prelude.{not, codes, Contains}
use Rattle.std.specs.Fmt.{decimal}
use Rattle.std.specs.Str.{bytes_eq}
use Rattle.std.specs.List.{list_any}
use Rattle.std.proofs.lemmas.Bool.Decides.{nat_tests}
use Rattle.std.proofs.lemmas.List.{append-nil, length_push}
use Rattle.std.proofs.lemmas.List.Elements.{All-push}
use Rattle.std.proofs.lemmas.List.Sums.{sum_by-append, sum_by-cons}
use Rattle.std.proofs.lemmas.List.Folds.{list_any_at}
use Rattle.worm_text.specs.declared.fault.Why.{Why}
use Rattle.worm_text.specs.declared.fault.Why.TheVariants.{Missing, Range, Repeated, TooMany, AfterEnd}
use Rattle.worm_text.specs.declared.format.Format.{Format}
use Rattle.worm_text.specs.declared.format.Format.TheVariants.{One, Two}
use Rattle.worm_text.specs.declared.key.Key.{Key}
use Rattle.worm_text.specs.declared.key.Key.TheVariants.{Radix, Dims, Depth, Class, End}
use Rattle.worm_text.specs.Lines.{cut, line, space}
use Rattle.worm_text.specs.Words.{word_of}
use Rattle.worm_text.specs.Numerals.{is_name}
use Rattle.worm_text.specs.Network.{Network, IsBetween, header_line, class_line, class_lines, mesh_lines, depth_line}
use Rattle.worm_text.specs.Network.{AreNew, AreSingle, AreClasses}
use Rattle.worm_text.specs.Reading.{◌>>=◌, checked, number_at, name_at, word_at, key_at, no_more}
use Rattle.worm_text.specs.Stages.{Stage, at_header, at_radix, at_dims, at_dims_first, at_radices, at_depth, at_class}
use Rattle.worm_text.specs.Stages.{ended, new_name_at, channels_at, with_class, one_class, the_end, by_key, class_stage}
use Rattle.worm_text.specs.Stages.{judge, IsSound}
use Rattle.worm_text.proofs.Binds.{fine, fault, bind_ok, ok_is, checked_ok, no_more_ok}
use Rattle.worm_text.proofs.FieldLaws.{key_at_takes, word_at_takes, name_at_takes, number_at_takes, bytes_eq-same}
use Rattle.worm_text.proofs.Followed.{so_far, Follows, line_is, header_follows, radix_follows, dims_follow}
use Rattle.worm_text.proofs.Followed.{dims_first_follow, radices_follow, depth_follows}

class_lines-push : (f : Format) (names : List (List ℕ)) (ms : List ℕ) (name : List ℕ) (m : ℕ) → length ms ≡ length names
    → class_lines f (names ++ name ∷ []) (ms ++ m ∷ []) ≡ class_lines f names ms ++ class_line f name m ∷ []
class_lines-push f [] [] name m e = refl
class_lines-push f [] (k ∷ ms) name m e = absurd (omega arith)
class_lines-push f (c ∷ names) [] name m e = absurd (omega arith)
class_lines-push f (c ∷ names) (k ∷ ms) name m e =
    ap (λ (ls : List (List ℕ)). class_line f c k ∷ ls) (class_lines-push f names ms name m (omega arith))

-- ---- names apart

not_true : (b : Bool) → not b ≡ true → b ≡ false
not_true true e = absurd cc
not_true false e = refl

absent : (taken : List (List ℕ)) (name : List ℕ) → list_any (λ c. bytes_eq c name) taken ≡ false → Contains taken name
    → ⊥
absent taken name none (k, lt, at) =
    let t : bytes_eq (get_or taken k name) name ≡ true = ap (λ (c : List ℕ). bytes_eq c name) at ∙ bytes_eq-same name in
    let some = list_any_at (λ c. bytes_eq c name) taken k name lt t in
    cc

AreNew-push : (before names : List (List ℕ)) (name : List ℕ) → AreNew before names
    → (Contains (before ++ names) name → ⊥) → AreNew before (names ++ name ∷ [])
AreNew-push before [] name h not_in = (
  λ c. not_in
      (subst (λ (x : List (List ℕ)). Contains x name) (sym (append-nil before)) c),
  tt,
)
AreNew-push before (c ∷ names) name h not_in = (
  h.0,
  AreNew-push (before ++ c ∷ []) names name h.1
      (λ w. not_in (subst (λ (x : List (List ℕ)). Contains x name) (append_assoc before (c ∷ []) names) w)),
)

-- ---- channels

sum_ones : (ms : List ℕ) → All (λ m. m ≡ 1) ms → sum ms ≡ length ms
sum_ones [] h = refl
sum_ones (m ∷ ms) h =
    let first : m ≡ 1 = h 0 0 (omega arith) in
    let rest = sum_ones ms (λ i d lt. h (suc i) d (omega arith)) in
    omega (arith, sum_by-cons (λ x. x) m ms)

sum-push : (ms : List ℕ) (m : ℕ) → sum (ms ++ m ∷ []) ≡ sum ms + m
sum-push ms m = omega (arith, sum_by-append (λ x. x) ms (m ∷ []), sum_by-cons (λ x. x) m [])

abbrev pub channel_fields : Format → ℕ → List (List ℕ)
channel_fields One m = []
channel_fields Two m = codes "channels" ∷ decimal m ∷ []

pub class_line_is : (f : Format) (name : List ℕ) (m : ℕ)
    → class_line f name m ≡ line (codes "class" ∷ name ∷ channel_fields f m)
class_line_is One name m = refl
class_line_is Two name m = refl

record Channels (f : Format) (taken : List ℕ) (fields rest : List (List ℕ)) (m : ℕ) : Type 0 where
  fields-are : fields ≡ channel_fields f m ++ rest
  between : IsBetween 1 8 m
  total : sum (taken ++ m ∷ []) ≤ 8
  single : AreSingle f (taken ++ m ∷ [])

channels_take : (f : Format) (taken : List ℕ) (fields rest : List (List ℕ)) (m : ℕ) → length taken ≤ 3
    → AreSingle f taken → channels_at f taken fields ≡ fine (m, rest) → Channels f taken fields rest m
unfolding channels_at
channels_take One taken fields rest m few single e =
    let p = ok_is (1, fields) (m, rest) e in
    let m-is : 1 ≡ m = ap (λ (x : ℕ × List (List ℕ)). x.0) p in
    let s = sum_ones taken single in
    record {
      fields-are = ap (λ (x : ℕ × List (List ℕ)). x.1) p;
      between = (omega arith, omega arith);
      total = omega (arith, sum-push taken m);
      single = All-push (λ x. x ≡ 1) taken m single (sym m-is);
    }
channels_take Two taken fields rest m few single e =
    let a = bind_ok (word_at (codes "channels") fields)
    (λ rest. number_at 1 8 rest >>= λ m. checked (leb (sum taken + m.0) 8) Range m) (m, rest) e in
    let b = bind_ok (number_at 1 8 a.0) (λ m. checked (leb (sum taken + m.0) 8) Range m) (m, rest) a.2 in
    let c = checked_ok (leb (sum taken + b.0.0) 8) Range b.0 (m, rest) b.2 in
    let m-is : b.0.0 ≡ m = ap (λ (x : ℕ × List (List ℕ)). x.0) c.1 in
    let rest-is : b.0.1 ≡ rest = ap (λ (x : ℕ × List (List ℕ)). x.1) c.1 in
    let few : sum taken + b.0.0 ≤ 8 = let t = c.0 in grind (arith, nat_tests) in
    let k = number_at_takes 1 8 a.0 b.0.0 b.0.1 (lit< tt) b.1 in
    record {
      fields-are = word_at_takes (codes "channels") fields a.0 a.1
          ∙ ap (λ (fs : List (List ℕ)). codes "channels" ∷ fs)
          (k.0 ∙ ap (λ (n : ℕ). decimal n ∷ b.0.1) m-is ∙ ap (λ (fs : List (List ℕ)). decimal m ∷ fs) rest-is);
      between = (omega (arith, k.1), omega (arith, k.1));
      total = omega (arith, sum-push taken m);
      single = tt;
    }

-- ---- a class

record NewName (taken fields : List (List ℕ)) (name : List ℕ) (rest : List (List ℕ)) : Type 0 where
  fields-are : fields ≡ name ∷ rest
  spelled : is_name name ≡ true
  new : Contains taken name → ⊥

new_name_takes : (taken fields : List (List ℕ)) (name : List ℕ) (rest : List (List ℕ))
    → new_name_at taken fields ≡ fine (name, rest) → NewName taken fields name rest
unfolding new_name_at
new_name_takes taken fields name rest e =
    let a = bind_ok (name_at fields) (λ name. checked (not (list_any (λ c. bytes_eq c name.0) taken)) Repeated name)
    (name, rest) e in
    let b = checked_ok (not (list_any (λ c. bytes_eq c a.0.0) taken)) Repeated a.0 (name, rest) a.2 in
    let t = name_at_takes fields a.0.0 a.0.1 a.1 in
    let made : NewName taken fields a.0.0 a.0.1 =
    record { fields-are = t.0; spelled = t.1; new = absent taken a.0.0 (not_true _ b.0) } in
    subst (λ (x : List ℕ × List (List ℕ)). NewName taken fields x.0 x.1) b.1 made

one_class_follows : (f : Format) (n : Network) (l : List ℕ) (fields : List (List ℕ)) (t : Stage)
    → cut space l ≡ codes "class" ∷ fields → IsSound (at_class f n) → one_class f n fields ≡ fine t
    → Follows (at_class f n) l t
unfolding one_class
one_class_follows f n l fields t cuts (mesh, depth, classes) e =
    let z = bind_ok (checked (ltb (length n.classes) 4) TooMany n)
    (λ _. new_name_at n.classes fields >>= λ name. channels_at f n.channels name.1 >>= λ m. no_more m.1 >>=
    λ _. Ok (at_class f (with_class n name.0 m.0))) t e in
    let a = bind_ok (new_name_at n.classes fields)
    (λ name. channels_at f n.channels name.1 >>= λ m. no_more m.1 >>=
    λ _. Ok (at_class f (with_class n name.0 m.0))) t z.2 in
    let b = bind_ok (channels_at f n.channels a.0.1)
    (λ m. no_more m.1 >>= λ _. Ok (at_class f (with_class n a.0.0 m.0))) t a.2 in
    let c = bind_ok (no_more b.0.1) (λ _. Ok (at_class f (with_class n a.0.0 b.0.0))) t b.2 in
    let room : length n.classes < 4 = let q = (checked_ok (ltb (length n.classes) 4) TooMany n z.0 z.1).0 in
    grind (arith, nat_tests) in
    let name = new_name_takes n.classes fields a.0.0 a.0.1 a.1 in
    let few : length n.channels ≤ 3 = omega (arith, classes.paired) in
    let m = channels_take f n.channels a.0.1 b.0.1 b.0.0 few classes.single b.1 in
    let fields-are : fields ≡ a.0.0 ∷ channel_fields f b.0.0 =
    name.fields-are ∙ ap (λ (fs : List (List ℕ)). a.0.0 ∷ fs)
    (m.fields-are ∙ ap (λ (fs : List (List ℕ)). channel_fields f b.0.0 ++ fs) (no_more_ok b.0.1 c.0 c.1)
    ∙ append-nil (channel_fields f b.0.0)) in
    let l-is : l ≡ class_line f a.0.0 b.0.0 =
    line_is l _ (cuts ∙ ap (λ (fs : List (List ℕ)). codes "class" ∷ fs) fields-are)
    ∙ sym (class_line_is f a.0.0 b.0.0) in
    let pushed = class_lines-push f n.classes n.channels a.0.0 b.0.0 classes.paired in
    let front = header_line f ∷ mesh_lines f n.radices in
    let lines-are : so_far (at_class f (with_class n a.0.0 b.0.0)) ≡ so_far (at_class f n) ++ l ∷ [] =
    ap (λ (ls : List (List ℕ)). front ++ depth_line n.depth ∷ ls)
    (pushed ∙ ap (λ (x : List ℕ). class_lines f n.classes n.channels ++ x ∷ []) (sym l-is))
    ∙ sym (append_assoc front (depth_line n.depth ∷ class_lines f n.classes n.channels) (l ∷ [])) in
    let made : AreClasses f (n.classes ++ a.0.0 ∷ []) (n.channels ++ b.0.0 ∷ []) = record {
      count = omega (arith, length_push n.classes a.0.0);
      spelled = All-push (λ name. is_name name ≡ true) n.classes a.0.0 classes.spelled name.spelled;
      apart = AreNew-push [] n.classes a.0.0 classes.apart name.new;
      paired = omega (arith, length_push n.classes a.0.0, length_push n.channels b.0.0, classes.paired);
      each = All-push (IsBetween 1 8) n.channels b.0.0 classes.each m.between;
      total = m.total;
      single = m.single;
    } in
    subst (λ (t : Stage). Follows (at_class f n) l t) (ok_is (at_class f (with_class n a.0.0 b.0.0)) t c.2)
    (record { lines = lines-are; sound = (mesh, depth, made) })

the_end_follows : (f : Format) (n : Network) (l : List ℕ) (fields : List (List ℕ)) (t : Stage)
    → cut space l ≡ codes "end" ∷ fields → IsSound (at_class f n) → the_end f n fields ≡ fine t
    → Follows (at_class f n) l t
unfolding the_end
the_end_follows f n l fields t cuts (mesh, depth, classes) e =
    let a = bind_ok (checked (ltb 0 (length n.classes)) Missing n) (λ _. no_more fields >>= λ _. Ok (ended f n)) t e in
    let b = bind_ok (no_more fields) (λ _. Ok (ended f n)) t a.2 in
    let some : 1 ≤ length n.classes = let q = (checked_ok (ltb 0 (length n.classes)) Missing n a.0 a.1).0 in
    grind (arith, nat_tests) in
    let l-is : l ≡ codes "end" = line_is l _
    (cuts ∙ ap (λ (fs : List (List ℕ)). codes "end" ∷ fs) (no_more_ok fields b.0 b.1)) in
    subst (λ (t : Stage). Follows (at_class f n) l t) (ok_is (ended f n) t b.2)
    (record {
      lines = ap (λ (x : List ℕ). so_far (at_class f n) ++ x ∷ []) (sym l-is);
      sound = record { mesh = mesh; depth = depth; classes = classes; some = some };
    })

by_key_follows : (f : Format) (n : Network) (l : List ℕ) (key : Key) (fields : List (List ℕ)) (t : Stage)
    → cut space l ≡ word_of key ∷ fields → IsSound (at_class f n) → by_key f n key fields ≡ fine t
    → Follows (at_class f n) l t
by_key_follows f n l Class fields t cuts sound e = one_class_follows f n l fields t cuts sound e
by_key_follows f n l End fields t cuts sound e = the_end_follows f n l fields t cuts sound e
by_key_follows f n l Radix fields t cuts sound e =
    absurd (let x : ◌≡◌ {A = Result Stage Why} (fault Repeated) (fine t) = e in cc)
by_key_follows f n l Dims fields t cuts sound e =
    absurd (let x : ◌≡◌ {A = Result Stage Why} (fault Repeated) (fine t) = e in cc)
by_key_follows f n l Depth fields t cuts sound e =
    absurd (let x : ◌≡◌ {A = Result Stage Why} (fault Repeated) (fine t) = e in cc)

class_follows : (f : Format) (n : Network) (l : List ℕ) (t : Stage) → IsSound (at_class f n)
    → class_stage f n (cut space l) ≡ fine t → Follows (at_class f n) l t
unfolding class_stage
class_follows f n l t sound e =
    let a = bind_ok (key_at (cut space l)) (λ found. by_key f n found.0 found.1) t e in
    by_key_follows f n l a.0.0 a.0.1 t (key_at_takes (cut space l) a.0.0 a.0.1 a.1) sound a.2

-- a line that is judged well is the next of the text
pub judge_follows : (s : Stage) (l : List ℕ) (t : Stage) → IsSound s → judge s l ≡ fine t → Follows s l t
judge_follows at_header l t sound e = header_follows l t e
judge_follows at_radix l t sound e = radix_follows l t e
judge_follows (at_dims radix) l t sound e = dims_follow radix l t sound e
judge_follows at_dims_first l t sound e = dims_first_follow l t e
judge_follows (at_radices dims) l t sound e = radices_follow dims l t sound e
judge_follows (at_depth f radices) l t sound e = depth_follows f radices l t sound e
judge_follows (at_class f n) l t sound e = class_follows f n l t sound e
judge_follows (ended f n) l t sound e = absurd (let x : ◌≡◌ {A = Result Stage Why} (fault AfterEnd) (fine t) = e in cc)
