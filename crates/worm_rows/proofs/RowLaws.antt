-- Rows: what is read was spelled so, and what is spelled so is read.
use Rattle.std.proofs.Common.{◌≡◌, lit<, lit≤, ℕ, ◌+◌, ◌<◌, ◌≤◌, true, eqb, List, [], ◌∷◌, Result, Ok}
use Rattle.std.proofs.Common.{refl, sym, ap, subst, ◌∙◌, arith, inl, inr}
use Rattle.std.specs.Prelude.{codes}
use Rattle.std.specs.Fmt.{decimal}
use Rattle.std.proofs.lemmas.Bool.Decides.{nat_tests}
use Rattle.worm_mesh.specs.Address.{node_count}
use Rattle.worm_core.specs.declared.view.Place.{Place}
use Rattle.worm_core.specs.declared.view.Place.TheVariants.{Source, Buffer, Link}
use Rattle.worm_text.specs.declared.fault.Why.{Why}
use Rattle.worm_text.specs.declared.fault.Why.TheVariants.{Range, UnknownWord}
use Rattle.worm_text.specs.Lines.{cut, space}
use Rattle.worm_text.specs.Reading.{◌>>=◌, no_more, number_at}
use Rattle.worm_text.proofs.Binds.{fine, fault, ok_is, bind_ok}
use Rattle.worm_text.proofs.Cuts.{IsPlain, ArePlain, cut-line}
use Rattle.worm_text.proofs.FieldLaws.{number_at_takes, number_at_again}
use Rattle.worm_text.proofs.Again.{plain-decimal}
use Rattle.worm_rows.specs.declared.shape.Shape.{Shape}
use Rattle.worm_rows.specs.declared.rows.PacketId.{PacketId}
use Rattle.worm_rows.specs.declared.rows.Load.{Load}
use Rattle.worm_rows.specs.declared.rows.Load.TheVariants.{Close, Word}
use Rattle.worm_rows.specs.declared.rows.Row.{Row}
use Rattle.worm_rows.specs.declared.rows.Row.TheVariants.{Header, Options, Stopped, Delivered, Underway, NotOffered}
use Rattle.worm_rows.specs.declared.rows.Row.TheVariants.{Total}
use Rattle.worm_rows.specs.Rows.{place_fields, load_fields, packet_fields, row_fields, row_line}
use Rattle.worm_rows.specs.Rules.{IsWord, IsPacket, IsLoad, HasPlace, IsRow}
use Rattle.worm_rows.specs.Reading.{packet_at, place_at, load_at, header_at, options_at}
use Rattle.worm_rows.specs.Reading.{stopped_at, delivered_at, underway_at, not_offered_at, total_at, row_at}
use Rattle.worm_rows.proofs.StepsTake.{first_word, took_word, took_any, took_below, took_named, took_all, took_test}
use Rattle.worm_rows.proofs.StepsTake.{any_again, below_again, named_again}
use Rattle.worm_rows.proofs.Packets.{TookPacket, packet_takes, packet_again, place_takes, place_again, load_takes}
use Rattle.worm_rows.proofs.Packets.{load_again}

abbrev Fields : Type 0
Fields = List (List ℕ)

-- these are the fields of the row, which is in its ranges
abbrev pub Says : Shape → Fields → Row → Type 0
Says s fields row = (fields ≡ row_fields row) × IsRow s row

-- ---- what was read

header_takes : (s : Shape) (fs : Fields) (row : Row) → header_at fs ≡ fine row → Says s (codes "wormreport" ∷ fs) row
unfolding header_at
header_takes s fs row e =
    let a = bind_ok (number_at 1 1 fs) (λ version. no_more version.1 >>= λ _. Ok Header) row e in
    let k = number_at_takes 1 1 fs a.0.0 a.0.1 (lit< tt) a.1 in
    let o = took_all a.0.1 (λ _. Ok Header) row a.2 in
    let one : a.0.0 ≡ 1 = omega (arith, k.1) in
    let f : fs ≡ decimal 1 ∷ [] = k.0 ∙ ap (λ (m : ℕ). decimal m ∷ a.0.1) one
    ∙ ap (λ (r : Fields). decimal 1 ∷ r) o.0 in
    subst (λ (r : Row). Says s (codes "wormreport" ∷ fs) r) (ok_is Header row o.1)
    (ap (λ (r : Fields). codes "wormreport" ∷ r) f, tt)

options_takes : (s : Shape) (fs : Fields) (row : Row) → options_at fs ≡ fine row → Says s (codes "turns" ∷ fs) row
unfolding options_at
options_takes s fs row e =
    let a = took_any fs _ row e in
    let b = took_named (codes "workers") a.rest _ row a.next in
    let c = took_named (codes "drain") b.rest _ row b.next in
    let o = took_all c.rest _ row c.next in
    let f = a.fields-are ∙ ap (λ (r : Fields). decimal a.n ∷ r)
    (b.fields-are ∙ ap (λ (r : Fields). codes "workers" ∷ decimal b.n ∷ r)
    (c.fields-are ∙ ap (λ (r : Fields). codes "drain" ∷ decimal c.n ∷ r) o.0)) in
    subst (λ (r : Row). Says s (codes "turns" ∷ fs) r) (ok_is (Options a.n b.n c.n) row o.1)
    (ap (λ (r : Fields). codes "turns" ∷ r) f, (a.small, b.small, c.small))

stopped_takes : (s : Shape) (fs : Fields) (row : Row) → stopped_at fs ≡ fine row → Says s (codes "stopped" ∷ fs) row
unfolding stopped_at
stopped_takes s fs row e =
    let a = took_named (codes "worker") fs _ row e in
    let b = took_named (codes "turn") a.rest _ row a.next in
    let o = took_all b.rest _ row b.next in
    let f = a.fields-are ∙ ap (λ (r : Fields). codes "worker" ∷ decimal a.n ∷ r)
    (b.fields-are ∙ ap (λ (r : Fields). codes "turn" ∷ decimal b.n ∷ r) o.0) in
    subst (λ (r : Row). Says s (codes "stopped" ∷ fs) r) (ok_is (Stopped a.n b.n) row o.1)
    (ap (λ (r : Fields). codes "stopped" ∷ r) f, (a.small, b.small))

-- a packet between two nodes of the mesh
is_packet : (s : Shape) (src dst : ℕ) (fields rest : Fields) (p : PacketId) → TookPacket s src dst fields p rest
    → src < node_count s.mesh → dst < node_count s.mesh → IsPacket s p
is_packet s src dst fields rest p t from to =
    record { src = omega (arith, t.from, from); dst = omega (arith, t.to, to); class = t.class; number = t.number }

delivered_takes : (s : Shape) (fs : Fields) (row : Row) → delivered_at s fs ≡ fine row
    → Says s (codes "delivered" ∷ fs) row
unfolding delivered_at
delivered_takes s fs row e =
    let a = took_below (node_count s.mesh) fs _ row e in
    let w = took_word (codes "from") a.rest _ row a.next in
    let b = took_below (node_count s.mesh) w.rest _ row w.next in
    let p = bind_ok (packet_at s b.n a.n b.rest) _ row b.next in
    let t = packet_takes s b.n a.n b.rest p.0.0 p.0.1 p.1 in
    let l = bind_ok (load_at p.0.1) _ row p.2 in
    let k = load_takes p.0.1 l.0 l.1 in
    let f : fs ≡ decimal p.0.0.lane.dst ∷ codes "from" ∷ decimal p.0.0.lane.src ∷ packet_fields p.0.0
    (load_fields l.0) =
    a.fields-are ∙ ap (λ (r : Fields). decimal a.n ∷ r)
    (w.fields-are ∙ ap (λ (r : Fields). codes "from" ∷ r)
    (b.fields-are ∙ ap (λ (r : Fields). decimal b.n ∷ r) (t.fields-are ∙ ap (packet_fields p.0.0) k.0)))
    ∙ ap (λ (m : ℕ). decimal m ∷ codes "from" ∷ decimal b.n ∷ packet_fields p.0.0 (load_fields l.0)) (sym t.to)
    ∙ ap (λ (m : ℕ). decimal p.0.0.lane.dst ∷ codes "from" ∷ decimal m ∷ packet_fields p.0.0 (load_fields l.0))
    (sym t.from) in
    subst (λ (r : Row). Says s (codes "delivered" ∷ fs) r) (ok_is (Delivered p.0.0 l.0) row l.2)
    (ap (λ (r : Fields). codes "delivered" ∷ r) f, (is_packet s b.n a.n b.rest p.0.1 p.0.0 t b.small a.small, k.1))

underway_takes : (s : Shape) (fs : Fields) (row : Row) → underway_at s fs ≡ fine row
    → Says s (codes "underway" ∷ fs) row
unfolding underway_at
underway_takes s fs row e =
    let a = took_below (node_count s.mesh) fs _ row e in
    let b = took_below (node_count s.mesh) a.rest _ row a.next in
    let p = bind_ok (packet_at s a.n b.n b.rest) _ row b.next in
    let t = packet_takes s a.n b.n b.rest p.0.0 p.0.1 p.1 in
    let w = took_word (codes "flit") p.0.1 _ row p.2 in
    let i = took_below 32 w.rest _ row w.next in
    let l = bind_ok (place_at s i.rest) _ row i.next in
    let k = place_takes s i.rest l.0 l.1 in
    let tail = w.fields-are ∙ ap (λ (r : Fields). codes "flit" ∷ r)
    (i.fields-are ∙ ap (λ (r : Fields). decimal i.n ∷ r) k.0) in
    let f : fs ≡ decimal p.0.0.lane.src ∷ decimal p.0.0.lane.dst ∷ packet_fields p.0.0
    (codes "flit" ∷ decimal i.n ∷ place_fields l.0) =
    a.fields-are ∙ ap (λ (r : Fields). decimal a.n ∷ r)
    (b.fields-are ∙ ap (λ (r : Fields). decimal b.n ∷ r) (t.fields-are ∙ ap (packet_fields p.0.0) tail))
    ∙ ap (λ (m : ℕ). decimal m ∷ decimal b.n ∷ packet_fields p.0.0 (codes "flit" ∷ decimal i.n ∷ place_fields l.0))
    (sym t.from)
    ∙ ap (λ (m : ℕ). decimal p.0.0.lane.src ∷ decimal m ∷ packet_fields p.0.0
    (codes "flit" ∷ decimal i.n ∷ place_fields l.0)) (sym t.to) in
    subst (λ (r : Row). Says s (codes "underway" ∷ fs) r) (ok_is (Underway p.0.0 i.n l.0) row l.2) (
      ap (λ (r : Fields). codes "underway" ∷ r) f,
      (is_packet s a.n b.n b.rest p.0.1 p.0.0 t a.small b.small, i.small, k.1),
    )

not_offered_takes : (s : Shape) (fs : Fields) (row : Row) → not_offered_at fs ≡ fine row → Says s (codes "not" ∷ fs) row
unfolding not_offered_at
not_offered_takes s fs row e =
    let a = took_named (codes "offered") fs _ row e in
    let o = took_all a.rest _ row a.next in
    let f = a.fields-are ∙ ap (λ (r : Fields). codes "offered" ∷ decimal a.n ∷ r) o.0 in
    subst (λ (r : Row). Says s (codes "not" ∷ fs) r) (ok_is (NotOffered a.n) row o.1)
    (ap (λ (r : Fields). codes "not" ∷ r) f, a.small)

eqb_is : (m n : ℕ) → eqb m n ≡ true → m ≡ n
eqb_is m n e = grind (arith, nat_tests)

is_eqb : (n : ℕ) → eqb n n ≡ true
is_eqb n = grind (arith, nat_tests)

total_takes : (s : Shape) (fs : Fields) (row : Row) → total_at fs ≡ fine row → Says s (codes "total" ∷ fs) row
unfolding total_at
total_takes s fs row e =
    let a = took_named (codes "injected") fs _ row e in
    let b = took_named (codes "delivered") a.rest _ row a.next in
    let c = took_named (codes "underway") b.rest _ row b.next in
    let t = took_test (eqb a.n (b.n + c.n)) Range (c.n, c.rest) _ row c.next in
    let o = took_all c.rest _ row t.1 in
    let sums = eqb_is a.n (b.n + c.n) t.0 in
    let f = a.fields-are ∙ ap (λ (r : Fields). codes "injected" ∷ decimal a.n ∷ r)
    (b.fields-are ∙ ap (λ (r : Fields). codes "delivered" ∷ decimal b.n ∷ r)
    (c.fields-are ∙ ap (λ (r : Fields). codes "underway" ∷ decimal c.n ∷ r) o.0))
    ∙ ap (λ (m : ℕ). codes "injected" ∷ decimal m ∷ codes "delivered" ∷ decimal b.n ∷ codes "underway" ∷ decimal c.n
    ∷ []) sums in
    subst (λ (r : Row). Says s (codes "total" ∷ fs) r) (ok_is (Total b.n c.n) row o.1)
    (ap (λ (r : Fields). codes "total" ∷ r) f, omega (arith, a.small, sums))

-- the first field, and the others
with_word : (s : Shape) (f word : List ℕ) (fs : Fields) (row : Row) → f ≡ word → Says s (word ∷ fs) row
    → Says s (f ∷ fs) row
with_word s f word fs row is h = (ap (λ (w : List ℕ). w ∷ fs) is ∙ h.0, h.1)

pub row_takes : (s : Shape) (fields : Fields) (row : Row) → row_at s fields ≡ fine row → Says s fields row
unfolding row_at
row_takes s [] row e = absurd cc
row_takes s (f ∷ fs) row e =
    elim (first_word f (codes "wormreport") (header_at fs) _ (fine row) e) [
      | inl h ↦ with_word s f (codes "wormreport") fs row h.0 (header_takes s fs row h.1)
      | inr h ↦ elim (first_word f (codes "turns") (options_at fs) _ (fine row) h) [
        | inl h ↦ with_word s f (codes "turns") fs row h.0 (options_takes s fs row h.1)
        | inr h ↦ elim (first_word f (codes "stopped") (stopped_at fs) _ (fine row) h) [
          | inl h ↦ with_word s f (codes "stopped") fs row h.0 (stopped_takes s fs row h.1)
          | inr h ↦ elim (first_word f (codes "delivered") (delivered_at s fs) _ (fine row) h) [
            | inl h ↦ with_word s f (codes "delivered") fs row h.0 (delivered_takes s fs row h.1)
            | inr h ↦ elim (first_word f (codes "underway") (underway_at s fs) _ (fine row) h) [
              | inl h ↦ with_word s f (codes "underway") fs row h.0 (underway_takes s fs row h.1)
              | inr h ↦ elim (first_word f (codes "not") (not_offered_at fs) _ (fine row) h) [
                | inl h ↦ with_word s f (codes "not") fs row h.0 (not_offered_takes s fs row h.1)
                | inr h ↦ elim (first_word f (codes "total") (total_at fs) (fault UnknownWord) (fine row) h) [
                  | inl h ↦ with_word s f (codes "total") fs row h.0 (total_takes s fs row h.1)
                  | inr h ↦ absurd (let n : ◌≡◌ {A = Result Row Why} (fault UnknownWord) (fine row) = h in cc)
                ]
              ]
            ]
          ]
        ]
      ]
    ]

-- ---- what is spelled so

header_again : header_at (decimal 1 ∷ []) ≡ fine Header
unfolding header_at
header_again = rw (number_at_again 1 1 1 [] (lit< tt) (lit≤ tt, lit≤ tt)) refl

options_again : (t w d : ℕ) → IsWord t → IsWord w → IsWord d
    → options_at (decimal t ∷ codes "workers" ∷ decimal w ∷ codes "drain" ∷ decimal d ∷ []) ≡ fine (Options t w d)
unfolding options_at
options_again t w d ht hw hd =
    rw (
      any_again t (codes "workers" ∷ decimal w ∷ codes "drain" ∷ decimal d ∷ []) ht,
      named_again (codes "workers") w (codes "drain" ∷ decimal d ∷ []) hw,
      named_again (codes "drain") d [] hd,
    ) refl

stopped_again : (w t : ℕ) → IsWord w → IsWord t
    → stopped_at (codes "worker" ∷ decimal w ∷ codes "turn" ∷ decimal t ∷ []) ≡ fine (Stopped w t)
unfolding stopped_at
stopped_again w t hw ht = rw (
  named_again (codes "worker") w (codes "turn" ∷ decimal t ∷ []) hw,
  named_again (codes "turn") t [] ht,
) refl

delivered_again : (s : Shape) (p : PacketId) (load : Load) → IsPacket s p → IsLoad load
    → delivered_at s (decimal p.lane.dst ∷ codes "from" ∷ decimal p.lane.src ∷ packet_fields p (load_fields load))
    ≡ fine (Delivered p load)
unfolding delivered_at
delivered_again s p load h l =
    let few : node_count s.mesh ≤ 4294967296 = omega (arith, s.few_nodes) in
    let rest = packet_fields p (load_fields load) in
    rw (
      below_again (node_count s.mesh) p.lane.dst (codes "from" ∷ decimal p.lane.src ∷ rest) h.dst few,
      below_again (node_count s.mesh) p.lane.src rest h.src few,
      packet_again s p (load_fields load) h.class h.number,
      load_again load l,
    ) refl

underway_again : (s : Shape) (p : PacketId) (index : ℕ) (place : Place) → IsPacket s p → index < 32 → HasPlace s place
    → underway_at s (decimal p.lane.src ∷ decimal p.lane.dst ∷ packet_fields p
    (codes "flit" ∷ decimal index ∷ place_fields place)) ≡ fine (Underway p index place)
unfolding underway_at
underway_again s p index place h i l =
    let few : node_count s.mesh ≤ 4294967296 = omega (arith, s.few_nodes) in
    let tail = codes "flit" ∷ decimal index ∷ place_fields place in
    let rest = packet_fields p tail in
    rw (
      below_again (node_count s.mesh) p.lane.src (decimal p.lane.dst ∷ rest) h.src few,
      below_again (node_count s.mesh) p.lane.dst rest h.dst few,
      packet_again s p tail h.class h.number,
      below_again 32 index (place_fields place) i (lit≤ tt),
      place_again s place l,
    ) refl

not_offered_again : (n : ℕ) → IsWord n → not_offered_at (codes "offered" ∷ decimal n ∷ []) ≡ fine (NotOffered n)
unfolding not_offered_at
not_offered_again n h = rw (named_again (codes "offered") n [] h) refl

total_again : (d u : ℕ) → IsWord (d + u)
    → total_at (codes "injected" ∷ decimal (d + u) ∷ codes "delivered" ∷ decimal d ∷ codes "underway" ∷ decimal u ∷ [])
    ≡ fine (Total d u)
unfolding total_at
total_again d u h =
    let hd : IsWord d = omega arith in
    let hu : IsWord u = omega arith in
    rw (
      named_again (codes "injected") (d + u) (codes "delivered" ∷ decimal d ∷ codes "underway" ∷ decimal u ∷ []) h,
      named_again (codes "delivered") d (codes "underway" ∷ decimal u ∷ []) hd,
      named_again (codes "underway") u [] hu,
      is_eqb (d + u),
    ) refl

pub row_again : (s : Shape) (row : Row) → IsRow s row → row_at s (row_fields row) ≡ fine row
unfolding row_at
row_again s Header h = header_again
row_again s (Options t w d) h = options_again t w d h.0 h.1 h.2
row_again s (Stopped w t) h = stopped_again w t h.0 h.1
row_again s (Delivered p load) h = delivered_again s p load h.0 h.1
row_again s (Underway p index place) h = underway_again s p index place h.0 h.1 h.2
row_again s (NotOffered n) h = not_offered_again n h
row_again s (Total d u) h = total_again d u h

-- ---- a row's line has no byte that parts lines, and its fields none that parts fields

plain : (n : ℕ) → IsWord n → IsPlain (decimal n)
plain n h = plain-decimal n (omega arith)

plain_place : (s : Shape) (place : Place) → HasPlace s place → ArePlain (place_fields place)
plain_place s Source h = (refl, tt)
plain_place s (Buffer node port vc) h = (
  refl,
  (
    plain node (omega (arith, h.0.in_mesh, s.few_nodes)),
    (plain port (omega (arith, h.0.small)), (plain vc (omega (arith, h.0.channel, s.few_channels)), tt)),
  ),
)
plain_place s (Link node port vc) h = (
  refl,
  (
    plain node (omega (arith, h.0.in_mesh, s.few_nodes)),
    (plain port (omega (arith, h.0.small)), (plain vc (omega (arith, h.0.channel, s.few_channels)), tt)),
  ),
)

plain_load : (load : Load) → IsLoad load → ArePlain (load_fields load)
plain_load Close h = (refl, tt)
plain_load (Word index word) h = (refl, (plain index (omega (arith, h.0)), (refl, (plain word h.1, tt))))

plain_packet : (s : Shape) (p : PacketId) (rest : Fields) → IsPacket s p → ArePlain rest
    → ArePlain (packet_fields p rest)
plain_packet s p rest h r = (
  refl,
  (
    plain p.lane.class (omega (arith, h.class, s.few_classes)),
    (refl, (plain p.number (omega (arith, h.number)), r)),
  ),
)

pub plain_row : (s : Shape) (row : Row) → IsRow s row → ArePlain (row_fields row)
plain_row s Header h = (refl, (plain 1 (lit< tt), tt))
plain_row s (Options t w d) h = (refl, (plain t h.0, (refl, (plain w h.1, (refl, (plain d h.2, tt))))))
plain_row s (Stopped w t) h = (refl, (refl, (plain w h.0, (refl, (plain t h.1, tt)))))
plain_row s (Delivered p load) h = (
  refl,
  (
    plain p.lane.dst (omega (arith, h.0.dst, s.few_nodes)),
    (
      refl,
      (
        plain p.lane.src (omega (arith, h.0.src, s.few_nodes)),
        plain_packet s p (load_fields load) h.0 (plain_load load h.1),
      ),
    ),
  ),
)
plain_row s (Underway p index place) h = (
  refl,
  (
    plain p.lane.src (omega (arith, h.0.src, s.few_nodes)),
    (
      plain p.lane.dst (omega (arith, h.0.dst, s.few_nodes)),
      plain_packet s p (codes "flit" ∷ decimal index ∷ place_fields place) h.0 (
        refl,
        (plain index (omega (arith, h.1)), plain_place s place h.2),
      ),
    ),
  ),
)
plain_row s (NotOffered n) h = (refl, (refl, (plain n h, tt)))
plain_row s (Total d u) h = (
  refl,
  (
    refl,
    (plain (d + u) h, (refl, (plain d (omega arith), (refl, (plain u (omega arith), tt))))),
  ),
)

pub cut_row : (s : Shape) (row : Row) → IsRow s row → cut space (row_line row) ≡ row_fields row
cut_row s Header h = cut-line _ _ (plain_row s Header h)
cut_row s (Options t w d) h = cut-line _ _ (plain_row s (Options t w d) h)
cut_row s (Stopped w t) h = cut-line _ _ (plain_row s (Stopped w t) h)
cut_row s (Delivered p load) h = cut-line _ _ (plain_row s (Delivered p load) h)
cut_row s (Underway p index place) h = cut-line _ _ (plain_row s (Underway p index place) h)
cut_row s (NotOffered n) h = cut-line _ _ (plain_row s (NotOffered n) h)
cut_row s (Total d u) h = cut-line _ _ (plain_row s (Total d u) h)
