-- What texts name: one behind the other, and those without a tag.
use Rattle.std.proofs.Common.{◌≡◌, ◌+◌, ◌<◌, ◌/◌, ◌%◌, ℕ, zero, suc, List, [], ◌∷◌, ◌++◌, Bool, true, false, not}
use Rattle.std.proofs.Common.{◌&&◌, ◌==◌, nat_lt, cond, Result, Ok, Err, OnOk, map, take, length, get_or, flat_map}
use Rattle.std.proofs.Common.{refl, sym, ap, subst, ◌∙◌, append_assoc, arith}
use Rattle.std.specs.Prelude.{codes, decimal, string_bytes}
use Rattle.std.specs.Fmt.{digits, digits_onto, digit_glyph}
use Rattle.std.specs.List.{take_while}
use Rattle.std.proofs.lemmas.Bool.Decides.{nat_tests}
use Rattle.std.proofs.lemmas.List.{append-nil, flat_map_more, map_push, map-append, take_more}
use Rattle.std.proofs.lemmas.List.Sums.{take_while-cons}
use Rattle.worm_rows.specs.declared.rows.PacketId.{PacketId}
use Rattle.worm_picture.specs.declared.scene.Flit.{Flit}
use Rattle.worm_picture.specs.declared.views.Station.{Station}
use Rattle.worm_picture.specs.declared.views.NodeView.{NodeView}
use Rattle.worm_picture.specs.declared.svg.Svg.{Svg}
use Rattle.worm_rows.specs.declared.rows.Load.{Load}
use Rattle.worm_rows.specs.declared.rows.Load.TheVariants.{Close, Word}
use Rattle.worm_picture.specs.declared.titles.FlitTitle.{FlitTitle}
use Rattle.worm_picture.specs.declared.ways.Way.{Way}
use Rattle.worm_picture.specs.declared.ways.Way.TheVariants as way
use Rattle.worm_picture.specs.Titles.{flit_title, load_title}
use Rattle.worm_picture.specs.Ways.{way_path}
use Rattle.worm_picture.specs.Nodes.{station_flits, view_flits}
use Rattle.worm_picture.specs.Picture.{PicturesFlits, names, Names, flit_name, title_of, Adds, lacks}

-- ---- texts that lack a character

lacks_head : (b l : Bool) → (not b && l) ≡ true → (b ≡ false) × (l ≡ true)
lacks_head true l e = absurd (let no : false ≡ true = e in cc)
lacks_head false l e = (refl, e)

lacks_join : (k : ℕ) (a b : List ℕ) → lacks k a ≡ true → lacks k b ≡ true → lacks k (a ++ b) ≡ true
lacks_join k [] b ha hb = hb
lacks_join k (c ∷ a) b ha hb = let h = lacks_head (k == c) (lacks k a) ha in rw (h.0, lacks_join k a b h.1 hb) refl

glyph_60 : (d : ℕ) (b : Bool) → nat_lt d 10 ≡ b → (60 == cond b (48 + d) (87 + d)) ≡ false
glyph_60 d true e = grind (arith, nat_tests)
glyph_60 d false e = grind (arith, nat_tests)

module _ (k : ℕ) (differs : (d : ℕ) → (k == digit_glyph false d) ≡ false) where
  either_lacks : (b : Bool) (x y : List ℕ) → lacks k x ≡ true → lacks k y ≡ true → lacks k (cond b x y) ≡ true
  either_lacks true x y hx hy = hx
  either_lacks false x y hx hy = hy

  digits_lack : (most n : ℕ) (acc : List ℕ) → lacks k acc ≡ true → lacks k (digits_onto most 10 false n acc) ≡ true
  digits_lack zero n acc h = h
  digits_lack (suc most) n acc h =
      let more = digit_glyph false (n % 10) ∷ acc in
      let added : lacks k (digit_glyph false (n % 10) ∷ acc) ≡ true = rw (differs (n % 10), h) refl in
      either_lacks (n / 10 == 0) more (digits_onto most 10 false (n / 10) more) added
      (digits_lack most (n / 10) more added)

  decimal_lacks : (n : ℕ) → lacks k (decimal n) ≡ true
  unfolding digits
  decimal_lacks n = digits_lack 64 n [] refl

  number_lacks : (n : ℕ) (t : List ℕ) → lacks k t ≡ true → lacks k (decimal n ++ t) ≡ true
  number_lacks n t h = lacks_join k (decimal n) t (decimal_lacks n) h

no_tag : (d : ℕ) → (60 == digit_glyph false d) ≡ false
no_tag d = glyph_60 d (nat_lt d 10) refl

-- ---- names

skip : (c : ℕ) (cs : List ℕ) → (60 == c) ≡ false → names (c ∷ cs) ≡ names cs
skip c cs e = rw e refl

pub plain : (text : List ℕ) → lacks 60 text ≡ true → Names text []
plain [] h rest = refl
plain (c ∷ text) h rest = let e = lacks_head (60 == c) (lacks 60 text) h in
    skip c (text ++ rest) e.0 ∙ plain text e.1 rest

pub both : (a b : List ℕ) (us vs : List (List ℕ)) → Names a us → Names b vs → Names (a ++ b) (us ++ vs)
both a b us vs ha hb rest = ap names (append_assoc a b rest) ∙ ha (b ++ rest) ∙ ap (λ l. us ++ l) (hb rest)
    ∙ sym (append_assoc us vs (names rest))

pub word : (a b : List ℕ) (us : List (List ℕ)) → lacks 60 a ≡ true → Names b us → Names (a ++ b) us
word a b us h hb = both a b [] us (plain a h) hb

pub number : (n : ℕ) (b : List ℕ) (us : List (List ℕ)) → Names b us → Names (decimal n ++ b) us
number n b us hb = word (decimal n) b us (decimal_lacks 60 no_tag n) hb

pub last_number : (n : ℕ) → Names (decimal n) []
last_number n = plain (decimal n) (decimal_lacks 60 no_tag n)

-- ---- what is added

pub adds : {E : Type 0} (r : Result (Unit {0}) E) (old new : Svg) (text : List ℕ) (named : List (List ℕ))
    → OnOk r (string_bytes new.text ≡ string_bytes old.text ++ text) → Names text named → OnOk r (Adds old new named)
adds (Ok done) old new text named h says = record { text = text; added = h; says = says }
adds (Err e) old new text named h says = tt

pub adds_both : (a b c : Svg) (us vs : List (List ℕ)) → Adds a b us → Adds b c vs → Adds a c (us ++ vs)
adds_both a b c us vs h k = record {
  text = h.text ++ k.text;
  added = k.added ∙ ap (λ l. l ++ k.text) h.added ∙ append_assoc (string_bytes a.text) h.text k.text;
  says = both h.text k.text us vs h.says k.says;
}

pub adds_then : {E : Type 0} (r : Result (Unit {0}) E) (a b c : Svg) (us vs : List (List ℕ)) → Adds a b us
    → OnOk r (Adds b c vs) → OnOk r (Adds a c (us ++ vs))
adds_then (Ok done) a b c us vs h k = adds_both a b c us vs h k
adds_then (Err e) a b c us vs h k = tt

-- ---- what names nothing

pub wrote_none : (old new : Svg) (text : List ℕ) → string_bytes new.text ≡ string_bytes old.text ++ text
    → Names text [] → Adds old new []
wrote_none old new text h says = record { text = text; added = h; says = says }

pub none_both : (a b c : Svg) → Adds a b [] → Adds b c [] → Adds a c []
none_both a b c h k = adds_both a b c [] [] h k

pub none_then : {E : Type 0} (r : Result (Unit {0}) E) (a b c : Svg) → Adds a b [] → OnOk r (Adds b c [])
    → OnOk r (Adds a c [])
none_then r a b c h k = adds_then r a b c [] [] h k

-- a way, as a picture draws it
pub path : (w : Way) → Names (way_path w) []
path (way.In core level) = number core _ [] (number level _ [] (λ rest. refl))
path (way.Out core level to) = number core _ [] (number level _ [] (number to _ [] (last_number level)))
path (way.Stub core bend knee level to) =
    number core _ [] (number bend _ [] (number knee _ [] (number level _ [] (number to _ [] (last_number level)))))
path (way.Sink x y) = number x _ [] (last_number y)

load : (l : Load) → Names (load_title l) []
load Close = λ rest. refl
load (Word index word) = number index _ [] (last_number word)

-- what hovering over a delivered flit says
pub arrival : (src class packet : ℕ) (l : Load) → Names (codes "from " ++ (decimal src
    ++ (codes " class " ++ (decimal class ++ (codes " packet " ++ (decimal packet ++ load_title l)))))) []
arrival src class packet l = number src _ [] (number class _ [] (number packet _ [] (load l)))

-- ---- a title

up_to_tag : (w t : List ℕ) → lacks 60 w ≡ true → take_while (λ c. not (60 == c)) (w ++ 60 ∷ t) ≡ w
up_to_tag [] t h = refl
up_to_tag (c ∷ w) t h =
    let e = lacks_head (60 == c) (lacks 60 w) h in
    take_while-cons (λ c. not (60 == c)) c (w ++ 60 ∷ t) ∙ rw (e.0, up_to_tag w t e.1) refl

title_lacks : (t : FlitTitle) → lacks 60 (flit_title t) ≡ true
title_lacks t =
    let p = t.packet in
    let last = codes ", of 0 to " ++ decimal t.last in
    let flit = codes " flit " ++ (decimal t.index ++ last) in
    let packet = codes " packet " ++ (decimal p.number ++ flit) in
    let class = codes " class " ++ (decimal p.lane.class ++ packet) in
    let dst = codes " to " ++ (decimal p.lane.dst ++ class) in
    lacks_join 60 (codes "from ") (decimal p.lane.src ++ dst) refl (number_lacks 60 no_tag p.lane.src dst
    (lacks_join 60 (codes " to ") (decimal p.lane.dst ++ class) refl (number_lacks 60 no_tag p.lane.dst class
    (lacks_join 60 (codes " class ") (decimal p.lane.class ++ packet) refl (number_lacks 60 no_tag p.lane.class packet
    (lacks_join 60 (codes " packet ") (decimal p.number ++ flit) refl (number_lacks 60 no_tag p.number flit
    (lacks_join 60 (codes " flit ") (decimal t.index ++ last) refl (number_lacks 60 no_tag t.index last
    (lacks_join 60 (codes ", of 0 to ") (decimal t.last) refl (decimal_lacks 60 no_tag t.last)))))))))))

pub title : (t : FlitTitle) → Names (codes "<g><title>" ++ (flit_title t ++ codes "</title>")) (flit_title t ∷ [])
title t rest =
    let text = flit_title t in
    let tagless = title_lacks t in
    let named : take_while (λ c. not (60 == c)) ((text ++ codes "</title>") ++ rest) ≡ text =
    ap (take_while (λ c. not (60 == c))) (append_assoc text (codes "</title>") rest)
    ∙ up_to_tag text (codes "/title>" ++ rest) tagless in
    let others : names ((text ++ codes "</title>") ++ rest) ≡ names rest =
    word text (codes "</title>") [] tagless (λ rest. refl) rest in
    ap (λ l. l ∷ names ((text ++ codes "</title>") ++ rest)) named ∙ ap (λ l. text ∷ l) others

-- ---- flits one by one, and channel by channel

pub one_flit_more : (tails : PacketId → ℕ) (last i : ℕ) (d : Flit) (flits : List Flit) (a b c : Svg)
    → i < length flits → last ≡ tails (get_or flits i d).packet → Adds a b (map (flit_name tails) (take i flits))
    → Adds b c (title_of last (get_or flits i d) ∷ []) → Adds a c (map (flit_name tails) (take (i + 1) flits))
one_flit_more tails last i d flits a b c lt e h k =
    let flit = get_or flits i d in
    let named = map (flit_name tails) (take i flits) in
    subst (λ l. Adds a c l) (sym (ap (map (flit_name tails)) (take_more flits i d lt)
    ∙ map_push (flit_name tails) (take i flits) flit))
    (adds_both a b c named (flit_name tails flit ∷ []) h (subst (λ n. Adds b c (title_of n flit ∷ [])) e k))

pub one_part_more : {X : Type 0} (name : Flit → List ℕ) (flits : X → List Flit) (i : ℕ) (d x : X) (xs : List X)
    (a b c : Svg) → i < length xs → x ≡ get_or xs i d → Adds a b (map name (flat_map flits (take i xs)))
    → Adds b c (map name (flits x)) → Adds a c (map name (flat_map flits (take (i + 1) xs)))
one_part_more name flits i d x xs a b c lt e h k =
    let more : flat_map flits (take (i + 1) xs) ≡ flat_map flits (take i xs) ++ flits x =
    ap (flat_map flits) (take_more xs i d lt) ∙ sym (flat_map_more flits [] (take i xs) (get_or xs i d))
    ∙ ap (λ y. flat_map flits (take i xs) ++ flits y) (sym e) in
    subst (λ l. Adds a c l) (sym (ap (map name) more
    ∙ map-append name (flat_map flits (take i xs)) (flits x)))
    (adds_both a b c (map name (flat_map flits (take i xs))) (map name (flits x)) h k)

pub one_channel : {E : Type 0} (name : Flit → List ℕ) (r : Result (Unit {0}) E) (a b c d e f : Svg) (s : Station)
    (held coming : List Flit)
    → held ≡ s.held.items → coming ≡ s.coming.items → Adds a b [] → Adds b c []
    → Adds c d (map name held) → Adds d e (map name coming) → OnOk r (Adds e f [])
    → OnOk r (Adds a f (map name (station_flits s)))
one_channel name r a b c d e f s held coming eh ec turned slots front behind closed =
    let us = map name held in
    let vs = map name coming in
    let all = adds_both a d e us vs (adds_both a c d [] us (adds_both a b c [] [] turned slots) front) behind in
    subst (λ l. OnOk r (Adds a f l))
    (append-nil (us ++ vs) ∙ sym (map-append name held coming)
    ∙ ap (map name) (ap (λ l. l ++ coming) eh ∙ ap (λ l. s.held.items ++ l) ec))
    (adds_then r a e f (us ++ vs) [] all closed)

pub one_node : {E : Type 0} (name : Flit → List ℕ) (r : Result (Unit {0}) E) (a b c d : Svg) (v : NodeView)
    (stations : List Station)
    → stations ≡ v.stations.items → Adds a b []
    → Adds b c (map name (flat_map station_flits stations)) → OnOk r (Adds c d [])
    → OnOk r (Adds a d (map name (view_flits v)))
one_node name r a b c d v stations e opened added closed =
    let us = map name (flat_map station_flits stations) in
    subst (λ l. OnOk r (Adds a d l)) (append-nil us ∙ ap (λ l. map name (flat_map station_flits l)) e)
    (adds_then r a c d us [] (adds_both a b c [] us opened added) closed)

-- ---- the whole

-- what stands before the flits and what comes behind them names none
pub pictures : (tails : PacketId → ℕ) (a b c d : Svg) (flits : List Flit) → string_bytes a.text ≡ [] → Adds a b []
    → Adds b c (map (flit_name tails) flits) → Adds c d [] → PicturesFlits (string_bytes d.text) tails flits
pictures tails a b c d flits empty front here behind =
    let named = map (flit_name tails) flits in
    let all = adds_both a c d named [] (adds_both a b c [] named front here) behind in
    let text : string_bytes d.text ≡ all.text ++ [] =
    all.added ∙ ap (λ l. l ++ all.text) empty ∙ sym (append-nil all.text) in
    ap names text ∙ all.says [] ∙ append-nil (named ++ []) ∙ append-nil named
