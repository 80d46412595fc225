-- A line that is judged well is the next line of the text of what has been said.
use Rattle.std.proofs.Common.{◌≡◌, lit<, lit≤, ℕ, suc, zero, ◌≤◌, true, leb, List, [], ◌∷◌, ◌++◌, length, get_or}
use Rattle.std.proofs.Common.{replicate, Result, Ok, refl, sym, ap, subst, ◌∙◌, append_assoc, arith, inl, inr, map, All}
use Rattle.std.specs.Prelude.{codes}
use Rattle.std.specs.Fmt.{decimal}
use Rattle.std.specs.Str.{bytes_eq}
use Rattle.std.proofs.lemmas.Bool.Decides.{nat_tests}
use Rattle.std.proofs.lemmas.List.{append-nil, length-replicate, get_or-replicate}
use Rattle.std.proofs.lemmas.List.Elements.{All-nil, All-cons}
use Rattle.std.proofs.lemmas.List.Splits.{join_with_byte-slice_split}
use Rattle.worm_mesh.specs.Address.{node_count}
use Rattle.worm_text.specs.declared.fault.Why.{Why}
use Rattle.worm_text.specs.declared.fault.Why.TheVariants.{Header, Range}
use Rattle.worm_text.specs.declared.format.Format.{Format}
use Rattle.worm_text.specs.declared.format.Format.TheVariants.{One, Two}
use Rattle.worm_text.specs.declared.key.Key.TheVariants.{Radix, Dims, Depth}
use Rattle.worm_text.specs.Lines.{cut, line, space}
use Rattle.worm_text.specs.Numerals.{is_name}
use Rattle.worm_text.specs.Network.{IsBetween, header_line, class_lines, mesh_lines, depth_line, lines_of}
use Rattle.worm_text.specs.Network.{IsMesh, AreClasses}
use Rattle.worm_text.specs.Reading.{◌>>=◌, number_at, no_more}
use Rattle.worm_text.specs.Stages.{Stage, at_header, at_radix, at_dims, at_dims_first, at_radices, at_depth, at_class}
use Rattle.worm_text.specs.Stages.{ended, begins, widened, copies_at, radices_at, header_stage, radix_stage, dims_stage}
use Rattle.worm_text.specs.Stages.{dims_first_stage, radices_stage, depth_stage, without_classes, IsSound}
use Rattle.worm_text.proofs.Binds.{fine, fault, bind_ok, ok_is, checked_ok, no_more_ok}
use Rattle.worm_text.proofs.Dimensions.{widened_is}
use Rattle.worm_text.proofs.FieldLaws.{same_bytes, chosen, begins_takes, number_at_takes}

-- the lines that lead to a stage
abbrev pub so_far : Stage → List (List ℕ)
so_far at_header = []
so_far at_radix = header_line One ∷ []
so_far (at_dims radix) = header_line One ∷ line (codes "radix" ∷ decimal radix ∷ []) ∷ []
so_far at_dims_first = header_line Two ∷ []
so_far (at_radices dims) = header_line Two ∷ line (codes "dims" ∷ decimal dims ∷ []) ∷ []
so_far (at_depth f radices) = header_line f ∷ mesh_lines f radices
so_far (at_class f n) = (header_line f ∷ mesh_lines f n.radices)
    ++ depth_line n.depth ∷ class_lines f n.classes n.channels
so_far (ended f n) = lines_of f n

-- t is the stage behind the line l
pub record Follows (s : Stage) (l : List ℕ) (t : Stage) : Type 0 where
  pub lines : so_far t ≡ so_far s ++ l ∷ []
  pub sound : IsSound t

pub line_is : (l : List ℕ) (fields : List (List ℕ)) → cut space l ≡ fields → l ≡ line fields
line_is l fields e = sym (join_with_byte-slice_split space l) ∙ ap line e

-- ---- the header

pub header_follows : (l : List ℕ) (t : Stage) → header_stage l ≡ fine t → Follows at_header l t
unfolding header_stage
header_follows l t e =
    elim (chosen (bytes_eq l (codes "wormnet 1")) (fine at_radix) _ (fine t) e) [
      | inl h ↦ subst (λ (t : Stage). Follows at_header l t) (ok_is at_radix t h.1)
          (record { lines = ap (λ (x : List ℕ). x ∷ []) (sym (same_bytes l _ h.0)); sound = tt })
      | inr h ↦ elim (chosen (bytes_eq l (codes "wormnet 2")) (fine at_dims_first) (fault Header) (fine t) h.1) [
        | inl g ↦ subst (λ (t : Stage). Follows at_header l t) (ok_is at_dims_first t g.1)
            (record { lines = ap (λ (x : List ℕ). x ∷ []) (sym (same_bytes l _ g.0)); sound = tt })
        | inr g ↦ absurd (let n : ◌≡◌ {A = Result Stage Why} (fault Header) (fine t) = g.1 in cc)
      ]
    ]

pub radix_follows : (l : List ℕ) (t : Stage) → radix_stage (cut space l) ≡ fine t → Follows at_radix l t
unfolding radix_stage
radix_follows l t e =
    let a = bind_ok (begins Radix [] (cut space l))
    (λ rest. number_at 2 16 rest >>= λ k. no_more k.1 >>= λ _. Ok (at_dims k.0)) t e in
    let b = bind_ok (number_at 2 16 a.0) (λ k. no_more k.1 >>= λ _. Ok (at_dims k.0)) t a.2 in
    let c = bind_ok (no_more b.0.1) (λ _. Ok (at_dims b.0.0)) t b.2 in
    let k = number_at_takes 2 16 a.0 b.0.0 b.0.1 (lit< tt) b.1 in
    let fields = begins_takes Radix [] (cut space l) a.0 a.1
    ∙ ap (λ (fs : List (List ℕ)). codes "radix" ∷ fs)
    (k.0 ∙ ap (λ (fs : List (List ℕ)). decimal b.0.0 ∷ fs) (no_more_ok b.0.1 c.0 c.1)) in
    let l-is = line_is l _ fields in
    subst (λ (t : Stage). Follows at_radix l t) (ok_is (at_dims b.0.0) t c.2)
    (record { lines = ap (λ (x : List ℕ). header_line One ∷ x ∷ []) (sym l-is); sound = k.1 })

-- ---- the mesh

nodes_push : (radices : List ℕ) (k : ℕ) (more : List ℕ) → widened radices k ≡ fine more → node_count more ≤ 256
nodes_push radices k more e =
    let c = checked_ok (leb (node_count (radices ++ k ∷ [])) 256) Range (radices ++ k ∷ []) more e in
    let t = c.0 in
    subst (λ (rs : List ℕ). node_count rs ≤ 256) c.1 (grind (arith, nat_tests))

replicate-cons : (radices : List ℕ) (k n : ℕ) → (radices ++ k ∷ []) ++ replicate n k ≡ radices ++ replicate (suc n) k
replicate-cons radices k n = append_assoc radices (k ∷ []) (replicate n k)

copies_take : (n : ℕ) (radices : List ℕ) (k : ℕ) (rs : List ℕ) → node_count radices ≤ 256
    → copies_at n radices k ≡ fine rs → (rs ≡ radices ++ replicate n k) × (node_count rs ≤ 256)
unfolding copies_at
copies_take zero radices k rs few e =
    let p = ok_is radices rs e in
    (sym p ∙ sym (append-nil radices), subst (λ (x : List ℕ). node_count x ≤ 256) p few)
copies_take (suc n) radices k rs few e =
    let a = bind_ok (widened radices k) (λ more. copies_at n more k) rs e in
    let rest = copies_take n a.0 k rs (nodes_push radices k a.0 a.1) a.2 in (
      rest.0 ∙ ap (λ (x : List ℕ). x ++ replicate n k) (widened_is radices k a.0 a.1) ∙ replicate-cons radices k n,
      rest.1,
    )

pub All-replicate : (P : ℕ → Type 0) (n k : ℕ) → P k → All P (replicate n k)
All-replicate P n k p i d lt = rw (get_or-replicate n i k d (omega (arith, length-replicate n k))) p

mesh_from_copies : (n k : ℕ) (rs : List ℕ) → IsBetween 1 3 n → IsBetween 2 16 k → copies_at n [] k ≡ fine rs
    → IsMesh One rs × (rs ≡ replicate n k)
mesh_from_copies n k rs between each e =
    let c = copies_take n [] k rs (lit≤ tt) e in
    let len = length-replicate n k in
    let first : get_or (replicate n k) 0 0 ≡ k = get_or-replicate n 0 k 0 (omega arith) in
    let made : IsMesh One (replicate n k) = record {
      dims = (omega arith, omega arith);
      each = All-replicate (IsBetween 2 16) n k each;
      nodes = subst (λ (x : List ℕ). node_count x ≤ 256) c.0 c.1;
      alike = rw first (All-replicate (λ x. x ≡ k) n k refl);
    } in
    (subst (IsMesh One) (sym c.0) made, c.0)

pub dims_follow : (radix : ℕ) (l : List ℕ) (t : Stage) → IsBetween 2 16 radix → dims_stage radix (cut space l) ≡ fine t
    → Follows (at_dims radix) l t
unfolding dims_stage
dims_follow radix l t sound e =
    let a = bind_ok (begins Dims (Radix ∷ []) (cut space l))
    (λ rest. number_at 1 3 rest >>= λ n. copies_at n.0 [] radix >>= λ radices. no_more n.1 >>=
    λ _. Ok (at_depth One radices)) t e in
    let b = bind_ok (number_at 1 3 a.0) (λ n. copies_at n.0 [] radix >>= λ radices. no_more n.1 >>=
    λ _. Ok (at_depth One radices)) t a.2 in
    let c = bind_ok (copies_at b.0.0 [] radix) (λ radices. no_more b.0.1 >>= λ _. Ok (at_depth One radices)) t b.2 in
    let d = bind_ok (no_more b.0.1) (λ _. Ok (at_depth One c.0)) t c.2 in
    let k = number_at_takes 1 3 a.0 b.0.0 b.0.1 (lit< tt) b.1 in
    let mesh = mesh_from_copies b.0.0 radix c.0 k.1 sound c.1 in
    let first : get_or c.0 0 0 ≡ radix = rw mesh.1 (get_or-replicate b.0.0 0 radix 0 (omega (arith, k.1))) in
    let count : length c.0 ≡ b.0.0 = ap length mesh.1 ∙ length-replicate b.0.0 radix in
    let fields = begins_takes Dims (Radix ∷ []) (cut space l) a.0 a.1
    ∙ ap (λ (fs : List (List ℕ)). codes "dims" ∷ fs)
    (k.0 ∙ ap (λ (fs : List (List ℕ)). decimal b.0.0 ∷ fs) (no_more_ok b.0.1 d.0 d.1)) in
    let l-is = line_is l _ fields in
    let both : mesh_lines One c.0 ≡ line (codes "radix" ∷ decimal radix ∷ []) ∷ l ∷ [] =
    ap (λ (r : ℕ). line (codes "radix" ∷ decimal r ∷ []) ∷ line (codes "dims" ∷ decimal (length c.0) ∷ []) ∷ []) first
    ∙ ap (λ (x : List ℕ). line (codes "radix" ∷ decimal radix ∷ []) ∷ x ∷ [])
    (ap (λ (m : ℕ). line (codes "dims" ∷ decimal m ∷ [])) count ∙ sym l-is) in
    subst (λ (t : Stage). Follows (at_dims radix) l t) (ok_is (at_depth One c.0) t d.2)
    (record { lines = ap (λ (ls : List (List ℕ)). header_line One ∷ ls) both; sound = mesh.0 })

pub dims_first_follow : (l : List ℕ) (t : Stage) → dims_first_stage (cut space l) ≡ fine t → Follows at_dims_first l t
unfolding dims_first_stage
dims_first_follow l t e =
    let a = bind_ok (begins Dims [] (cut space l))
    (λ rest. number_at 1 3 rest >>= λ n. no_more n.1 >>= λ _. Ok (at_radices n.0)) t e in
    let b = bind_ok (number_at 1 3 a.0) (λ n. no_more n.1 >>= λ _. Ok (at_radices n.0)) t a.2 in
    let c = bind_ok (no_more b.0.1) (λ _. Ok (at_radices b.0.0)) t b.2 in
    let k = number_at_takes 1 3 a.0 b.0.0 b.0.1 (lit< tt) b.1 in
    let fields = begins_takes Dims [] (cut space l) a.0 a.1
    ∙ ap (λ (fs : List (List ℕ)). codes "dims" ∷ fs)
    (k.0 ∙ ap (λ (fs : List (List ℕ)). decimal b.0.0 ∷ fs) (no_more_ok b.0.1 c.0 c.1)) in
    let l-is = line_is l _ fields in
    subst (λ (t : Stage). Follows at_dims_first l t) (ok_is (at_radices b.0.0) t c.2)
    (record { lines = ap (λ (x : List ℕ). header_line Two ∷ x ∷ []) (sym l-is); sound = k.1 })

-- the radices that fields give
record Radices (n : ℕ) (radices rs : List ℕ) (fields rest : List (List ℕ)) : Type 0 where
  ks : List ℕ
  whole : rs ≡ radices ++ ks
  fields-are : fields ≡ map decimal ks ++ rest
  len : length ks ≡ n
  each : All (IsBetween 2 16) ks
  few : node_count rs ≤ 256

radices_take : (n : ℕ) (radices rs : List ℕ) (fields rest : List (List ℕ)) → node_count radices ≤ 256
    → radices_at n radices fields ≡ fine (rs, rest) → Radices n radices rs fields rest
unfolding radices_at
radices_take zero radices rs fields rest few e =
    let p = ok_is (radices, fields) (rs, rest) e in
    let rs-is : radices ≡ rs = ap (λ (x : List ℕ × List (List ℕ)). x.0) p in
    let rest-is : fields ≡ rest = ap (λ (x : List ℕ × List (List ℕ)). x.1) p in
    record {
      ks = [];
      whole = sym rs-is ∙ sym (append-nil radices);
      fields-are = rest-is;
      len = refl;
      each = All-nil (IsBetween 2 16);
      few = subst (λ (x : List ℕ). node_count x ≤ 256) rs-is few;
    }
radices_take (suc n) radices rs fields rest few e =
    let a = bind_ok (number_at 2 16 fields) (λ k. widened radices k.0 >>= λ more. radices_at n more k.1) (rs, rest) e in
    let b = bind_ok (widened radices a.0.0) (λ more. radices_at n more a.0.1) (rs, rest) a.2 in
    let k = number_at_takes 2 16 fields a.0.0 a.0.1 (lit< tt) a.1 in
    let r = radices_take n b.0 rs a.0.1 rest (nodes_push radices a.0.0 b.0 b.1) b.2 in
    record {
      ks = a.0.0 ∷ r.ks;
      whole = r.whole ∙ ap (λ (x : List ℕ). x ++ r.ks) (widened_is radices a.0.0 b.0 b.1)
          ∙ append_assoc radices (a.0.0 ∷ []) r.ks;
      fields-are = k.0 ∙ ap (λ (fs : List (List ℕ)). decimal a.0.0 ∷ fs) r.fields-are;
      len = ap suc r.len;
      each = All-cons (IsBetween 2 16) a.0.0 r.ks k.1 r.each;
      few = r.few;
    }

pub radices_follow : (dims : ℕ) (l : List ℕ) (t : Stage) → IsBetween 1 3 dims
    → radices_stage dims (cut space l) ≡ fine t → Follows (at_radices dims) l t
unfolding radices_stage
radices_follow dims l t sound e =
    let a = bind_ok (begins Radix (Dims ∷ []) (cut space l))
    (λ rest. radices_at dims [] rest >>= λ radices. no_more radices.1 >>= λ _. Ok (at_depth Two radices.0)) t e in
    let b = bind_ok (radices_at dims [] a.0)
    (λ radices. no_more radices.1 >>= λ _. Ok (at_depth Two radices.0)) t a.2 in
    let c = bind_ok (no_more b.0.1) (λ _. Ok (at_depth Two b.0.0)) t b.2 in
    let r = radices_take dims [] b.0.0 a.0 b.0.1 (lit≤ tt) b.1 in
    let rs-is : r.ks ≡ b.0.0 = sym r.whole in
    let count : length b.0.0 ≡ dims = ap length (sym rs-is) ∙ r.len in
    let rest-is : a.0 ≡ map decimal b.0.0 =
    r.fields-are ∙ ap (λ (fs : List (List ℕ)). map decimal r.ks ++ fs) (no_more_ok b.0.1 c.0 c.1)
    ∙ append-nil (map decimal r.ks) ∙ ap (map decimal) rs-is in
    let l-is = line_is l _ (begins_takes Radix (Dims ∷ []) (cut space l) a.0 a.1
    ∙ ap (λ (fs : List (List ℕ)). codes "radix" ∷ fs) rest-is) in
    let made : IsMesh Two b.0.0 = record {
      dims = (omega (arith, count), omega (arith, count));
      each = subst (All (IsBetween 2 16)) rs-is r.each;
      nodes = r.few;
      alike = tt;
    } in
    let both : mesh_lines Two b.0.0 ≡ line (codes "dims" ∷ decimal dims ∷ []) ∷ l ∷ [] =
    ap (λ (m : ℕ). line (codes "dims" ∷ decimal m ∷ []) ∷ line (codes "radix" ∷ map decimal b.0.0) ∷ []) count
    ∙ ap (λ (x : List ℕ). line (codes "dims" ∷ decimal dims ∷ []) ∷ x ∷ []) (sym l-is) in
    subst (λ (t : Stage). Follows (at_radices dims) l t) (ok_is (at_depth Two b.0.0) t c.2)
    (record { lines = ap (λ (ls : List (List ℕ)). header_line Two ∷ ls) both; sound = made })

-- ---- the depth

no_classes : (f : Format) → AreClasses f [] []
no_classes One = record {
  count = lit≤ tt;
  spelled = All-nil (λ name. is_name name ≡ true);
  apart = tt;
  paired = refl;
  each = All-nil (IsBetween 1 8);
  total = lit≤ tt;
  single = All-nil (λ m. m ≡ 1);
}
no_classes Two = record {
  count = lit≤ tt;
  spelled = All-nil (λ name. is_name name ≡ true);
  apart = tt;
  paired = refl;
  each = All-nil (IsBetween 1 8);
  total = lit≤ tt;
  single = tt;
}

pub depth_follows : (f : Format) (radices : List ℕ) (l : List ℕ) (t : Stage) → IsMesh f radices
    → depth_stage f radices (cut space l) ≡ fine t → Follows (at_depth f radices) l t
unfolding depth_stage
depth_follows f radices l t mesh e =
    let a = bind_ok (begins Depth (Radix ∷ Dims ∷ []) (cut space l))
    (λ rest. number_at 1 16 rest >>= λ b. no_more b.1 >>= λ _. Ok (at_class f (without_classes radices b.0))) t e in
    let b = bind_ok (number_at 1 16 a.0) (λ b. no_more b.1 >>= λ _. Ok (at_class f (without_classes radices b.0))) t
    a.2 in
    let c = bind_ok (no_more b.0.1) (λ _. Ok (at_class f (without_classes radices b.0.0))) t b.2 in
    let k = number_at_takes 1 16 a.0 b.0.0 b.0.1 (lit< tt) b.1 in
    let fields = begins_takes Depth (Radix ∷ Dims ∷ []) (cut space l) a.0 a.1
    ∙ ap (λ (fs : List (List ℕ)). codes "depth" ∷ fs)
    (k.0 ∙ ap (λ (fs : List (List ℕ)). decimal b.0.0 ∷ fs) (no_more_ok b.0.1 c.0 c.1)) in
    let l-is = line_is l _ fields in
    subst (λ (t : Stage). Follows (at_depth f radices) l t) (ok_is (at_class f (without_classes radices b.0.0)) t c.2)
    (record {
      lines = ap (λ (x : List ℕ). (header_line f ∷ mesh_lines f radices) ++ x ∷ []) (sym l-is);
      sound = (mesh, k.1, no_classes f);
    })
