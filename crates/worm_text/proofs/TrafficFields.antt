-- The fields of an entry: what is read was spelled so.
use Rattle.std.proofs.Common.{◌≡◌, lit<, lit≤, ℕ, ◌-◌, ◌<◌, ◌≤◌, Bool, true, false, eqb, leb, ltb, List, [], ◌∷◌, ◌++◌}
use Rattle.std.proofs.Common.{length, get_or, Option, Some, None, Result, Ok, refl, sym, ap, subst, ◌∙◌, append_assoc}
use Rattle.std.proofs.Common.{arith, inl, inr, map, All}
use Rattle.std.specs.Prelude.{not, codes}
use Rattle.std.specs.Fmt.{decimal}
use Rattle.std.specs.Str.{bytes_eq}
use Rattle.std.specs.List.{position_or_len}
use Rattle.std.proofs.lemmas.Bool.Decides.{nat_tests}
use Rattle.std.proofs.lemmas.List.{append-nil, length_push}
use Rattle.std.proofs.lemmas.List.Elements.{All-nil, All-cons}
use Rattle.std.proofs.lemmas.List.Sums.{passes_at_first}
use Rattle.worm_mesh.specs.Address.{node_count}
use Rattle.worm_text.specs.declared.fault.Why.{Why}
use Rattle.worm_text.specs.declared.fault.Why.TheVariants.{Missing, Name, UnknownWord, OrderOfTurns, LaneClosed}
use Rattle.worm_text.specs.declared.fault.Why.TheVariants.{TooMany, ManyChannels}
use Rattle.worm_flit.specs.declared.Lane.{Lane}
use Rattle.worm_text.specs.Lines.{cut, line, space}
use Rattle.worm_text.specs.Network.{Network, IsBetween}
use Rattle.worm_text.specs.Reading.{◌>>=◌, checked, number_at, no_more}
use Rattle.worm_text.specs.Traffic.{Said, send, close, is_closed, last_turn, class_at, turn_at, lane_at}
use Rattle.worm_term.specs.Lanes.{lane_of}
use Rattle.worm_text.specs.Traffic.{words_at, is_open, send_at, close_at, entry_at}
use Rattle.worm_text.specs.TrafficText.{where_fields, entry_line, IsEntry}
use Rattle.worm_text.proofs.Binds.{fine, fault, bind_ok, ok_is, checked_ok, no_more_ok}
use Rattle.worm_text.proofs.FieldLaws.{same_bytes, chosen, number_at_takes}
use Rattle.worm_text.proofs.Followed.{line_is}

-- both parts of what was read
pub read_is : {A : Type 0} (x y : A) (fs gs : List (List ℕ)) → fine {A = A × List (List ℕ)} (x, fs) ≡ fine (y, gs)
    → (x ≡ y) × (fs ≡ gs)
read_is {A = A} x y fs gs e = let p = ok_is (x, fs) (y, gs) e in
    (ap (λ (z : A × List (List ℕ)). z.0) p, ap (λ (z : A × List (List ℕ)). z.1) p)

leb_le : (m n : ℕ) → leb m n ≡ true → m ≤ n
leb_le m n e = grind (arith, nat_tests)

ltb_lt : (m n : ℕ) → ltb m n ≡ true → m < n
ltb_lt m n e = grind (arith, nat_tests)

eqb_is : (m n : ℕ) → eqb m n ≡ true → m ≡ n
eqb_is m n e = grind (arith, nat_tests)

not_true : (b : Bool) → not b ≡ true → b ≡ false
not_true true e = absurd cc
not_true false e = refl

pub turn_takes : (last : ℕ) (fields : List (List ℕ)) (t : ℕ) (rest : List (List ℕ))
    → turn_at last fields ≡ fine (t, rest) → (fields ≡ decimal t ∷ rest) × (t ≤ 1000000) × (last ≤ t)
unfolding turn_at
turn_takes last fields t rest e =
    let a = bind_ok (number_at 0 1000000 fields) (λ turn. checked (leb last turn.0) OrderOfTurns turn) (t, rest) e in
    let k = number_at_takes 0 1000000 fields a.0.0 a.0.1 (lit< tt) a.1 in
    let c = checked_ok (leb last a.0.0) OrderOfTurns a.0 (t, rest) a.2 in
    let t-is : a.0.0 ≡ t = ap (λ (z : ℕ × List (List ℕ)). z.0) c.1 in
    let r-is : a.0.1 ≡ rest = ap (λ (z : ℕ × List (List ℕ)). z.1) c.1 in
    let le : last ≤ a.0.0 = leb_le last a.0.0 c.0 in (
      k.0 ∙ ap (λ (m : ℕ). decimal m ∷ a.0.1) t-is ∙ ap (λ (fs : List (List ℕ)). decimal t ∷ fs) r-is,
      omega (arith, k.1, t-is),
      omega (arith, le, t-is),
    )

pub class_takes : (names fields : List (List ℕ)) (c : ℕ) (rest : List (List ℕ)) → class_at names fields ≡ fine (c, rest)
    → (fields ≡ get_or names c [] ∷ rest) × (c < length names)
class_takes names [] c rest e = absurd cc
class_takes names (f ∷ fs) c rest e =
    elim (chosen (ltb (position_or_len (λ name. bytes_eq name f) names) (length names))
    (fine (position_or_len (λ name. bytes_eq name f) names, fs)) (fault Name) (fine (c, rest)) e) [
      | inr h ↦ absurd (let n : ◌≡◌ {A = Result (ℕ × List (List ℕ)) Why} (fault Name) (fine (c, rest)) = h.1 in cc)
      | inl h ↦
          let at = position_or_len (λ name. bytes_eq name f) names in
          let lt : at < length names = ltb_lt at (length names) h.0 in
          let r = read_is at c fs rest h.1 in
          let name-is : get_or names at [] ≡ f =
          same_bytes (get_or names at []) f (passes_at_first (λ name. bytes_eq name f) names [] lt) in (
            ap (λ (x : List ℕ). x ∷ fs) (sym name-is) ∙ ap (λ (k : ℕ). get_or names k [] ∷ fs) r.0
                ∙ ap (λ (gs : List (List ℕ)). get_or names c [] ∷ gs) r.1,
            omega (arith, lt, r.0),
          )
    ]

pub record LaneTaken (n : Network) (fields rest : List (List ℕ)) (lane : Lane) : Type 0 where
  pub fields-are : fields ≡ decimal lane.src ∷ decimal lane.dst ∷ get_or n.classes lane.class [] ∷ rest
  pub src : IsBetween 0 (node_count n.radices - 1) lane.src
  pub dst : IsBetween 0 (node_count n.radices - 1) lane.dst
  pub class : lane.class < length n.classes

pub lane_takes : (n : Network) (fields rest : List (List ℕ)) (lane : Lane) → node_count n.radices ≤ 256
    → lane_at n fields ≡ fine (lane, rest) → LaneTaken n fields rest lane
unfolding lane_at
lane_takes n fields rest lane few e =
    let high = node_count n.radices - 1 in
    let a = bind_ok (number_at 0 high fields)
    (λ src. number_at 0 high src.1 >>= λ dst. class_at n.classes dst.1 >>= λ class. Ok (
      lane_of src.0 dst.0 class.0,
      class.1,
    )) (lane, rest) e in
    let b = bind_ok (number_at 0 high a.0.1)
    (λ dst. class_at n.classes dst.1 >>= λ class. Ok (lane_of a.0.0 dst.0 class.0, class.1)) (lane, rest) a.2 in
    let c = bind_ok (class_at n.classes b.0.1) (λ class. Ok (lane_of a.0.0 b.0.0 class.0, class.1)) (lane, rest) b.2 in
    let s = number_at_takes 0 high fields a.0.0 a.0.1 (omega (arith, few)) a.1 in
    let d = number_at_takes 0 high a.0.1 b.0.0 b.0.1 (omega (arith, few)) b.1 in
    let k = class_takes n.classes b.0.1 c.0.0 c.0.1 c.1 in
    let r = read_is (lane_of a.0.0 b.0.0 c.0.0) lane c.0.1 rest c.2 in
    let taken : LaneTaken n fields c.0.1 (lane_of a.0.0 b.0.0 c.0.0) = record {
      fields-are = s.0 ∙ ap (λ (fs : List (List ℕ)). decimal a.0.0 ∷ fs)
          (d.0 ∙ ap (λ (fs : List (List ℕ)). decimal b.0.0 ∷ fs) k.0);
      src = s.1;
      dst = d.1;
      class = k.1;
    } in
    subst (λ (l : Lane). LaneTaken n fields rest l) r.0
    (subst (λ (fs : List (List ℕ)). LaneTaken n fields fs (lane_of a.0.0 b.0.0 c.0.0)) r.1 taken)

pub record WordsTaken (before ws : List ℕ) (fields : List (List ℕ)) : Type 0 where
  pub more : List ℕ
  pub whole : ws ≡ before ++ more
  pub fields-are : fields ≡ map decimal more
  pub each : All (IsBetween 0 4294967295) more
  pub count : IsBetween 1 32 (length ws)

pub words_take : (before : List ℕ) (fields : List (List ℕ)) (ws : List ℕ) → length before ≤ 32
    → words_at before fields ≡ fine ws → WordsTaken before ws fields
unfolding words_at
words_take before [] ws le e =
    elim (chosen (ltb 0 (length before)) (fine before) (fault Missing) (fine ws) e) [
      | inr h ↦ absurd (let n : ◌≡◌ {A = Result (List ℕ) Why} (fault Missing) (fine ws) = h.1 in cc)
      | inl h ↦
          let w = ok_is before ws h.1 in
          let lt = ltb_lt 0 (length before) h.0 in
          let len = ap length w in
          record {
            more = [];
            whole = sym w ∙ sym (append-nil before);
            fields-are = refl;
            each = All-nil (IsBetween 0 4294967295);
            count = (omega (arith, lt, len), omega (arith, le, len));
          }
    ]
words_take before (f ∷ fs) ws le e =
    let a = bind_ok (checked (ltb (length before) 32) TooMany before)
    (λ room. number_at 0 4294967295 (f ∷ fs) >>= λ word. words_at (before ++ word.0 ∷ []) fs) ws e in
    let room = checked_ok (ltb (length before) 32) TooMany before a.0 a.1 in
    let b = bind_ok (number_at 0 4294967295 (f ∷ fs)) (λ word. words_at (before ++ word.0 ∷ []) fs) ws a.2 in
    let k = number_at_takes 0 4294967295 (f ∷ fs) b.0.0 b.0.1 (lit< tt) b.1 in
    let lt = ltb_lt (length before) 32 room.0 in
    let r = words_take (before ++ b.0.0 ∷ []) fs ws (omega (arith, lt, length_push before b.0.0)) b.2 in
    let head : f ≡ decimal b.0.0 = let q = k.0 in cc in
    record {
      more = b.0.0 ∷ r.more;
      whole = r.whole ∙ append_assoc before (b.0.0 ∷ []) r.more;
      fields-are = ap (λ (x : List ℕ). x ∷ fs) head ∙ ap (λ (gs : List (List ℕ)). decimal b.0.0 ∷ gs) r.fields-are;
      each = All-cons (IsBetween 0 4294967295) b.0.0 r.more k.1 r.each;
      count = r.count;
    }

-- a line that is judged to be an entry
pub send_takes : (n : Network) (before : List Said) (fields : List (List ℕ)) (e : Said) → node_count n.radices ≤ 256
    → length before < 10000 → send_at n (last_turn before) (is_closed before) fields ≡ fine e
    → (line (codes "send" ∷ fields) ≡ entry_line n e) × IsEntry n before e
unfolding send_at
send_takes n before fields e few room q =
    let a = bind_ok (turn_at (last_turn before) fields)
    (λ turn. lane_at n turn.1 >>= λ lane. is_open (is_closed before) lane >>= λ _. words_at [] lane.1 >>=
    λ words. Ok (send turn.0 lane.0 words)) e q in
    let b = bind_ok (lane_at n a.0.1) (λ lane. is_open (is_closed before) lane >>= λ _. words_at [] lane.1 >>=
    λ words. Ok (send a.0.0 lane.0 words)) e a.2 in
    let c = bind_ok (is_open (is_closed before) b.0)
    (λ _. words_at [] b.0.1 >>= λ words. Ok (send a.0.0 b.0.0 words)) e b.2 in
    let d = bind_ok (words_at [] b.0.1) (λ words. Ok (send a.0.0 b.0.0 words)) e c.2 in
    let t = turn_takes (last_turn before) fields a.0.0 a.0.1 a.1 in
    let l = lane_takes n a.0.1 b.0.1 b.0.0 few b.1 in
    let o = checked_ok (not (is_closed before b.0.0)) LaneClosed b.0 c.0 c.1 in
    let w = words_take [] b.0.1 d.0 (lit≤ tt) d.1 in
    let ws : w.more ≡ d.0 = sym w.whole in
    let fields-are : fields ≡ where_fields n a.0.0 b.0.0 ++ map decimal d.0 =
    t.0 ∙ ap (λ (fs : List (List ℕ)). decimal a.0.0 ∷ fs)
    (l.fields-are ∙ ap (λ (fs : List (List ℕ)). decimal b.0.0.src ∷ decimal b.0.0.dst
    ∷ get_or n.classes b.0.0.class [] ∷ fs) (w.fields-are ∙ ap (map decimal) ws)) in
    let keeps : IsEntry n before (send a.0.0 b.0.0 d.0) = (
      record {
        room = room;
        turn_small = t.1;
        in_order = t.2;
        src = l.src;
        dst = l.dst;
        class = l.class;
        open_lane = not_true (is_closed before b.0.0) o.0;
      },
      w.count,
      subst (All (IsBetween 0 4294967295)) ws w.each,
    ) in
    subst (λ (x : Said). (line (codes "send" ∷ fields) ≡ entry_line n x) × IsEntry n before x)
    (ok_is (send a.0.0 b.0.0 d.0) e d.2) (ap (λ (fs : List (List ℕ)). line (codes "send" ∷ fs)) fields-are, keeps)

pub close_takes : (n : Network) (before : List Said) (fields : List (List ℕ)) (e : Said) → node_count n.radices ≤ 256
    → length before < 10000 → close_at n (last_turn before) (is_closed before) fields ≡ fine e
    → (line (codes "close" ∷ fields) ≡ entry_line n e) × IsEntry n before e
unfolding close_at
close_takes n before fields e few room q =
    let a = bind_ok (turn_at (last_turn before) fields)
    (λ turn. lane_at n turn.1 >>= λ lane. checked (eqb (get_or n.channels lane.0.class 0) 1) ManyChannels lane >>=
    λ _. is_open (is_closed before) lane >>= λ _. no_more lane.1 >>= λ _. Ok (close turn.0 lane.0)) e q in
    let b = bind_ok (lane_at n a.0.1) (λ lane. checked (eqb (get_or n.channels lane.0.class 0) 1) ManyChannels lane >>=
    λ _. is_open (is_closed before) lane >>= λ _. no_more lane.1 >>= λ _. Ok (close a.0.0 lane.0)) e a.2 in
    let m = bind_ok (checked (eqb (get_or n.channels b.0.0.class 0) 1) ManyChannels b.0)
    (λ _. is_open (is_closed before) b.0 >>= λ _. no_more b.0.1 >>= λ _. Ok (close a.0.0 b.0.0)) e b.2 in
    let c = bind_ok (is_open (is_closed before) b.0) (λ _. no_more b.0.1 >>= λ _. Ok (close a.0.0 b.0.0)) e m.2 in
    let d = bind_ok (no_more b.0.1) (λ _. Ok (close a.0.0 b.0.0)) e c.2 in
    let t = turn_takes (last_turn before) fields a.0.0 a.0.1 a.1 in
    let l = lane_takes n a.0.1 b.0.1 b.0.0 few b.1 in
    let one = checked_ok (eqb (get_or n.channels b.0.0.class 0) 1) ManyChannels b.0 m.0 m.1 in
    let o = checked_ok (not (is_closed before b.0.0)) LaneClosed b.0 c.0 c.1 in
    let none = no_more_ok b.0.1 d.0 d.1 in
    let fields-are : fields ≡ where_fields n a.0.0 b.0.0 =
    t.0 ∙ ap (λ (fs : List (List ℕ)). decimal a.0.0 ∷ fs)
    (l.fields-are ∙ ap (λ (fs : List (List ℕ)). decimal b.0.0.src ∷ decimal b.0.0.dst
    ∷ get_or n.classes b.0.0.class [] ∷ fs) none) in
    let keeps : IsEntry n before (close a.0.0 b.0.0) = (
      record {
        room = room;
        turn_small = t.1;
        in_order = t.2;
        src = l.src;
        dst = l.dst;
        class = l.class;
        open_lane = not_true (is_closed before b.0.0) o.0;
      },
      eqb_is (get_or n.channels b.0.0.class 0) 1 one.0,
    ) in
    subst (λ (x : Said). (line (codes "close" ∷ fields) ≡ entry_line n x) × IsEntry n before x)
    (ok_is (close a.0.0 b.0.0) e d.2) (ap (λ (fs : List (List ℕ)). line (codes "close" ∷ fs)) fields-are, keeps)

-- ---- a line

said_is : (x e : Said) → ◌≡◌ {A = Result (Option Said) Why} (Ok (Some x)) (Ok (Some e)) → x ≡ e
said_is x e h = cc

-- an entry behind its word
behind_word : (n : Network) (before : List Said) (word f : List ℕ) (fs : List (List ℕ)) (step : Result Said Why)
    (e : Said) → f ≡ word
    → (checked (ltb (length before) 10000) TooMany f >>= λ _. step >>= λ e. Ok (Some e)) ≡ fine (Some e)
    → (length before < 10000) × (step ≡ fine e)
behind_word n before word f fs step e w h =
    let b = bind_ok (checked (ltb (length before) 10000) TooMany f) (λ _. step >>= λ e. Ok (Some e)) (Some e) h in
    let c = bind_ok step (λ e. Ok (Some e)) (Some e) b.2 in (
      ltb_lt (length before) 10000 (checked_ok (ltb (length before) 10000) TooMany f b.0 b.1).0,
      c.1 ∙ ap (λ (x : Said). fine x) (said_is c.0 e c.2),
    )

pub entry_takes : (n : Network) (before : List Said) (l : List ℕ) (fields : List (List ℕ)) (e : Said)
    → node_count n.radices ≤ 256 → cut space l ≡ fields
    → entry_at n (length before) (last_turn before) (is_closed before) fields ≡ fine (Some e)
    → (l ≡ entry_line n e) × IsEntry n before e
unfolding entry_at
entry_takes n before l [] e few cuts h = absurd cc
entry_takes n before l (f ∷ fs) e few cuts h =
    elim (chosen (bytes_eq f (codes "send")) _ _ (fine (Some e)) h) [
      | inl k ↦
          let w = same_bytes f (codes "send") k.0 in
          let s = behind_word n before (codes "send") f fs
          (send_at n (last_turn before) (is_closed before) fs) e w k.1 in
          let t = send_takes n before fs e few s.0 s.1 in
          (line_is l _ (cuts ∙ ap (λ (x : List ℕ). x ∷ fs) w) ∙ t.0, t.1)
      | inr k ↦ elim (chosen (bytes_eq f (codes "close")) _ _ (fine (Some e)) k.1) [
        | inl k ↦
            let w = same_bytes f (codes "close") k.0 in
            let s = behind_word n before (codes "close") f fs
            (close_at n (last_turn before) (is_closed before) fs) e w k.1 in
            let t = close_takes n before fs e few s.0 s.1 in
            (line_is l _ (cuts ∙ ap (λ (x : List ℕ). x ∷ fs) w) ∙ t.0, t.1)
        | inr k ↦ elim (chosen (bytes_eq f (codes "end")) (no_more fs >>= λ _. Ok None) (fault UnknownWord)
            (fine (Some e)) k.1) [
              | inl k ↦ absurd (let b = bind_ok (no_more fs) (λ _. Ok None) (Some e) k.1 in
                  let x : ◌≡◌ {A = Result (Option Said) Why} (Ok None) (Ok (Some e)) = b.2 in cc)
              | inr k ↦ absurd (let x : ◌≡◌ {A = Result (Option Said) Why} (fault UnknownWord) (fine (Some e)) = k.1 in
                  cc)
            ]
      ]
    ]

no_entry : (n : Network) (before : List Said) (f : List ℕ) (step : Result Said Why)
    → (checked (ltb (length before) 10000) TooMany f >>= λ _. step >>= λ e. Ok (Some e)) ≡ fine None → ⊥
no_entry n before f step h =
    let b = bind_ok (checked (ltb (length before) 10000) TooMany f) (λ _. step >>= λ e. Ok (Some e)) None h in
    let c = bind_ok step (λ e. Ok (Some e)) None b.2 in
    let x : ◌≡◌ {A = Result (Option Said) Why} (Ok (Some c.0)) (Ok None) = c.2 in
    cc

pub end_takes : (n : Network) (before : List Said) (l : List ℕ) (fields : List (List ℕ)) → cut space l ≡ fields
    → entry_at n (length before) (last_turn before) (is_closed before) fields ≡ fine None → l ≡ codes "end"
unfolding entry_at
end_takes n before l [] cuts h = absurd cc
end_takes n before l (f ∷ fs) cuts h =
    elim (chosen (bytes_eq f (codes "send")) _ _ (fine None) h) [
      | inl k ↦ absurd (no_entry n before f (send_at n (last_turn before) (is_closed before) fs) k.1)
      | inr k ↦ elim (chosen (bytes_eq f (codes "close")) _ _ (fine None) k.1) [
        | inl k ↦ absurd (no_entry n before f (close_at n (last_turn before) (is_closed before) fs) k.1)
        | inr k ↦ elim (chosen (bytes_eq f (codes "end")) (no_more fs >>= λ _. Ok None) (fault UnknownWord)
            (fine None) k.1) [
              | inl k ↦
                  let b = bind_ok (no_more fs) (λ _. Ok None) None k.1 in
                  line_is l _ (cuts ∙ ap (λ (x : List ℕ). x ∷ fs) (same_bytes f (codes "end") k.0)
                  ∙ ap (λ (gs : List (List ℕ)). codes "end" ∷ gs) (no_more_ok fs b.0 b.1))
              | inr k ↦ absurd (let x : ◌≡◌ {A = Result (Option Said) Why} (fault UnknownWord) (fine None) = k.1 in cc)
            ]
      ]
    ]
