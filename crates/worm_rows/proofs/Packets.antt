-- Packets, places and loads: what is read was spelled so, and what is spelled so is read.
use Rattle.std.proofs.Common.{◌≡◌, lit≤, ℕ, ◌<◌, ◌≤◌, List, [], ◌∷◌, Result, Ok, refl}
use Rattle.std.proofs.Common.{ap, subst, ◌∙◌, arith, inl, inr}
use Rattle.std.specs.Prelude.{codes}
use Rattle.std.specs.Fmt.{decimal}
use Rattle.worm_mesh.specs.Address.{node_count, has_neighbour}
use Rattle.worm_core.specs.declared.view.Place.{Place}
use Rattle.worm_core.specs.declared.view.Place.TheVariants.{Source, Buffer, Link}
use Rattle.worm_text.specs.declared.fault.Why.{Why}
use Rattle.worm_text.specs.declared.fault.Why.TheVariants.{Range, UnknownWord}
use Rattle.worm_text.specs.Reading.{◌>>=◌, no_more}
use Rattle.worm_text.proofs.Binds.{fine, fault, ok_is}
use Rattle.worm_rows.specs.declared.shape.Shape.{Shape}
use Rattle.worm_rows.specs.declared.rows.PacketId.{PacketId}
use Rattle.worm_rows.specs.declared.rows.Load.{Load}
use Rattle.worm_rows.specs.declared.rows.Load.TheVariants.{Close, Word}
use Rattle.worm_rows.specs.Rows.{spot_fields, place_fields, load_fields, packet_fields}
use Rattle.worm_rows.specs.Rules.{IsWord, IsLoad, HasPlace, has_buffer}
use Rattle.worm_rows.specs.Reading.{packet_id, packet_at, buffer_at, link_at, place_at}
use Rattle.worm_rows.specs.Reading.{load_word_at, load_at}
use Rattle.worm_rows.proofs.StepsTake.{first_word, took_word, took_below, took_named, took_all, took_test, below_again}
use Rattle.worm_rows.proofs.StepsTake.{named_again}

abbrev Fields : Type 0
Fields = List (List ℕ)

-- ---- a packet

pub record TookPacket (s : Shape) (src dst : ℕ) (fields : Fields) (p : PacketId) (rest : Fields) : Type 0 where
  pub from : p.lane.src ≡ src
  pub to : p.lane.dst ≡ dst
  pub fields-are : fields ≡ packet_fields p rest
  pub class : p.lane.class < s.classes
  pub number : p.number < 65536

pub packet_takes : (s : Shape) (src dst : ℕ) (fields : Fields) (p : PacketId) (rest : Fields)
    → packet_at s src dst fields ≡ fine (p, rest) → TookPacket s src dst fields p rest
unfolding packet_at
packet_takes s src dst fields p rest e =
    let a = took_word (codes "class") fields _ (p, rest) e in
    let c = took_below s.classes a.rest _ (p, rest) a.next in
    let b = took_word (codes "packet") c.rest _ (p, rest) c.next in
    let n = took_below 65536 b.rest _ (p, rest) b.next in
    let both = ok_is (packet_id src dst c.n n.n, n.rest) (p, rest) n.next in
    let p-is : packet_id src dst c.n n.n ≡ p = ap (λ (z : PacketId × Fields). z.0) both in
    let r-is : n.rest ≡ rest = ap (λ (z : PacketId × Fields). z.1) both in
    let taken : TookPacket s src dst fields (packet_id src dst c.n n.n) n.rest = record {
      from = refl;
      to = refl;
      fields-are = a.fields-are ∙ ap (λ (fs : Fields). codes "class" ∷ fs)
          (c.fields-are ∙ ap (λ (fs : Fields). decimal c.n ∷ fs)
          (b.fields-are ∙ ap (λ (fs : Fields). codes "packet" ∷ fs) n.fields-are));
      class = c.small;
      number = n.small;
    } in
    subst (λ (q : PacketId). TookPacket s src dst fields q rest) p-is
    (subst (λ (fs : Fields). TookPacket s src dst fields (packet_id src dst c.n n.n) fs) r-is taken)

pub packet_again : (s : Shape) (p : PacketId) (rest : Fields) → p.lane.class < s.classes → p.number < 65536
    → packet_at s p.lane.src p.lane.dst (packet_fields p rest) ≡ fine (p, rest)
unfolding packet_at
packet_again s p rest class number =
    let few : s.classes ≤ 4294967296 = omega (arith, s.few_classes) in
    rw (
      below_again s.classes p.lane.class (codes "packet" ∷ decimal p.number ∷ rest) class few,
      below_again 65536 p.number rest number (lit≤ tt),
    ) refl

-- ---- a place

spot_chain : (fields r1 r2 r3 : Fields) (node port vc : ℕ) → fields ≡ decimal node ∷ r1 → r1 ≡ decimal port ∷ r2
    → r2 ≡ decimal vc ∷ r3 → r3 ≡ [] → fields ≡ spot_fields node port vc
spot_chain fields r1 r2 r3 node port vc a b c d =
    a ∙ ap (λ (fs : Fields). decimal node ∷ fs)
    (b ∙ ap (λ (fs : Fields). decimal port ∷ fs) (c ∙ ap (λ (fs : Fields). decimal vc ∷ fs) d))

buffer_takes : (s : Shape) (fields : Fields) (place : Place) → buffer_at s fields ≡ fine place
    → (codes "buffer" ∷ fields ≡ place_fields place) × HasPlace s place
unfolding buffer_at
buffer_takes s fields place e =
    let a = took_below (node_count s.mesh) fields _ place e in
    let b = took_below 256 a.rest _ place a.next in
    let t = took_test (has_buffer s.mesh a.n b.n) Range (b.n, b.rest) _ place b.next in
    let c = took_below s.vcs b.rest _ place t.1 in
    let o = took_all c.rest _ place c.next in
    let f = spot_chain fields a.rest b.rest c.rest a.n b.n c.n a.fields-are b.fields-are c.fields-are o.0 in
    subst (λ (q : Place). (codes "buffer" ∷ fields ≡ place_fields q) × HasPlace s q)
    (ok_is (Buffer a.n b.n c.n) place o.1) (
      ap (λ (fs : Fields). codes "buffer" ∷ fs) f,
      (record { in_mesh = a.small; small = b.small; channel = c.small }, t.0),
    )

link_takes : (s : Shape) (fields : Fields) (place : Place) → link_at s fields ≡ fine place
    → (codes "link" ∷ fields ≡ place_fields place) × HasPlace s place
unfolding link_at
link_takes s fields place e =
    let a = took_below (node_count s.mesh) fields _ place e in
    let b = took_below 256 a.rest _ place a.next in
    let t = took_test (has_neighbour s.mesh a.n b.n) Range (b.n, b.rest) _ place b.next in
    let c = took_below s.vcs b.rest _ place t.1 in
    let o = took_all c.rest _ place c.next in
    let f = spot_chain fields a.rest b.rest c.rest a.n b.n c.n a.fields-are b.fields-are c.fields-are o.0 in
    subst (λ (q : Place). (codes "link" ∷ fields ≡ place_fields q) × HasPlace s q)
    (ok_is (Link a.n b.n c.n) place o.1) (
      ap (λ (fs : Fields). codes "link" ∷ fs) f,
      (record { in_mesh = a.small; small = b.small; channel = c.small }, t.0),
    )

pub place_takes : (s : Shape) (fields : Fields) (place : Place) → place_at s fields ≡ fine place
    → (fields ≡ place_fields place) × HasPlace s place
unfolding place_at
place_takes s [] place e = absurd cc
place_takes s (f ∷ fs) place e =
    elim (first_word f (codes "source") (no_more fs >>= λ _. Ok Source) _ (fine place) e) [
      | inl h ↦
          let o = took_all fs (λ _. Ok Source) place h.1 in
          subst (λ (q : Place). (f ∷ fs ≡ place_fields q) × HasPlace s q) (ok_is Source place o.1)
          (ap (λ (w : List ℕ). w ∷ fs) h.0 ∙ ap (λ (r : Fields). codes "source" ∷ r) o.0, tt)
      | inr h ↦ elim (first_word f (codes "buffer") (buffer_at s fs) _ (fine place) h) [
        | inl h ↦ let t = buffer_takes s fs place h.1 in (ap (λ (w : List ℕ). w ∷ fs) h.0 ∙ t.0, t.1)
        | inr h ↦ elim (first_word f (codes "link") (link_at s fs) (fault UnknownWord) (fine place) h) [
          | inl h ↦ let t = link_takes s fs place h.1 in (ap (λ (w : List ℕ). w ∷ fs) h.0 ∙ t.0, t.1)
          | inr h ↦ absurd (let n : ◌≡◌ {A = Result Place Why} (fault UnknownWord) (fine place) = h in cc)
        ]
      ]
    ]

buffer_again : (s : Shape) (node port vc : ℕ) → HasPlace s (Buffer node port vc)
    → buffer_at s (spot_fields node port vc) ≡ fine (Buffer node port vc)
unfolding buffer_at
buffer_again s node port vc h =
    let nodes : node_count s.mesh ≤ 4294967296 = omega (arith, s.few_nodes) in
    let vcs : s.vcs ≤ 4294967296 = omega (arith, s.few_channels) in
    rw (
      below_again (node_count s.mesh) node (decimal port ∷ decimal vc ∷ []) h.0.in_mesh nodes,
      below_again 256 port (decimal vc ∷ []) h.0.small (lit≤ tt),
      h.1,
      below_again s.vcs vc [] h.0.channel vcs,
    ) refl

link_again : (s : Shape) (node port vc : ℕ) → HasPlace s (Link node port vc)
    → link_at s (spot_fields node port vc) ≡ fine (Link node port vc)
unfolding link_at
link_again s node port vc h =
    let nodes : node_count s.mesh ≤ 4294967296 = omega (arith, s.few_nodes) in
    let vcs : s.vcs ≤ 4294967296 = omega (arith, s.few_channels) in
    rw (
      below_again (node_count s.mesh) node (decimal port ∷ decimal vc ∷ []) h.0.in_mesh nodes,
      below_again 256 port (decimal vc ∷ []) h.0.small (lit≤ tt),
      h.1,
      below_again s.vcs vc [] h.0.channel vcs,
    ) refl

pub place_again : (s : Shape) (place : Place) → HasPlace s place → place_at s (place_fields place) ≡ fine place
unfolding place_at
place_again s Source h = refl
place_again s (Buffer node port vc) h = buffer_again s node port vc h
place_again s (Link node port vc) h = link_again s node port vc h

-- ---- a load

load_word_takes : (fields : Fields) (load : Load) → load_word_at fields ≡ fine load
    → (codes "flit" ∷ fields ≡ load_fields load) × IsLoad load
unfolding load_word_at
load_word_takes fields load e =
    let a = took_below 32 fields _ load e in
    let b = took_named (codes "word") a.rest _ load a.next in
    let o = took_all b.rest _ load b.next in
    let f = a.fields-are ∙ ap (λ (fs : Fields). decimal a.n ∷ fs)
    (b.fields-are ∙ ap (λ (fs : Fields). codes "word" ∷ decimal b.n ∷ fs) o.0) in
    subst (λ (q : Load). (codes "flit" ∷ fields ≡ load_fields q) × IsLoad q) (ok_is (Word a.n b.n) load o.1)
    (ap (λ (fs : Fields). codes "flit" ∷ fs) f, (a.small, b.small))

pub load_takes : (fields : Fields) (load : Load) → load_at fields ≡ fine load
    → (fields ≡ load_fields load) × IsLoad load
unfolding load_at
load_takes [] load e = absurd cc
load_takes (f ∷ fs) load e =
    elim (first_word f (codes "close") (no_more fs >>= λ _. Ok Close) _ (fine load) e) [
      | inl h ↦
          let o = took_all fs (λ _. Ok Close) load h.1 in
          subst (λ (q : Load). (f ∷ fs ≡ load_fields q) × IsLoad q) (ok_is Close load o.1)
          (ap (λ (w : List ℕ). w ∷ fs) h.0 ∙ ap (λ (r : Fields). codes "close" ∷ r) o.0, tt)
      | inr h ↦ elim (first_word f (codes "flit") (load_word_at fs) (fault UnknownWord) (fine load) h) [
        | inl h ↦ let t = load_word_takes fs load h.1 in (ap (λ (w : List ℕ). w ∷ fs) h.0 ∙ t.0, t.1)
        | inr h ↦ absurd (let n : ◌≡◌ {A = Result Load Why} (fault UnknownWord) (fine load) = h in cc)
      ]
    ]

load_word_again : (index word : ℕ) → index < 32 → IsWord word
    → load_word_at (decimal index ∷ codes "word" ∷ decimal word ∷ []) ≡ fine (Word index word)
unfolding load_word_at
load_word_again index word i w = rw (
  below_again 32 index (codes "word" ∷ decimal word ∷ []) i (lit≤ tt),
  named_again (codes "word") word [] w,
) refl

pub load_again : (load : Load) → IsLoad load → load_at (load_fields load) ≡ fine load
unfolding load_at
load_again Close h = refl
load_again (Word index word) h = load_word_again index word h.0 h.1
