-- Words and flits stand for one another.
use Rattle.std.proofs.Common.{◌≡◌, ℕ, zero, suc, ◌+◌, ◌*◌, ◌/◌, ◌%◌, ◌<◌, ◌≤◌, Bool, true, false, refl, ap, ◌∙◌, arith}
use Rattle.std.proofs.Common.{ltb, leb, ◌&&◌}
use Rattle.std.proofs.lemmas.Bool.Decides.{nat_tests}
use Rattle.worm_flit.specs.declared.Kind.{Kind}
use Rattle.worm_flit.specs.declared.Kind.TheVariants.{Head, Body, Tail, Single, Close}
use Rattle.worm_flit.specs.declared.Flit.{Flit}
use Rattle.worm_flit.specs.Packing.{kind_number, kind_of, word_of, flit_by, flit_of, is_word, IsFlit}

abbrev kinds_at : ℕ → ℕ
kinds_at x = x / 4294967296 / 256 % 256

abbrev sources_at : ℕ → ℕ
sources_at x = x / 4294967296 / 256 / 256 / 256 / 65536 / 256 / 256

and_false : (a : Bool) → (a && false) ≡ false
and_false true = refl
and_false false = refl

pub no_kind : (x : ℕ) → 4 < kinds_at x → is_word x ≡ false
unfolding is_word
no_kind x h = let e : leb (kinds_at x) 4 ≡ false = grind (arith, nat_tests) in ap (λ b. b && ltb (sources_at x) 256) e

pub no_source : (x : ℕ) → 256 ≤ sources_at x → is_word x ≡ false
unfolding is_word
no_source x h = let e : ltb (sources_at x) 256 ≡ false = grind (arith, nat_tests) in
    ap (λ b. leb (kinds_at x) 4 && b) e ∙ and_false (leb (kinds_at x) 4)

pub is_one : (x : ℕ) → kinds_at x ≤ 4 → sources_at x < 256 → is_word x ≡ true
unfolding is_word
is_one x h k =
    let e : leb (kinds_at x) 4 ≡ true = grind (arith, nat_tests) in
    let d : ltb (sources_at x) 256 ≡ true = grind (arith, nat_tests) in
    (λ i. e i && d i)

kind_below : (k : Kind) → kind_number k ≤ 4
kind_below Head = omega arith
kind_below Body = omega arith
kind_below Tail = omega arith
kind_below Single = omega arith
kind_below Close = omega arith

kind_back : (k : Kind) → kind_of (kind_number k) ≡ k
kind_back Head = refl
kind_back Body = refl
kind_back Tail = refl
kind_back Single = refl
kind_back Close = refl

cut_word : (q r : ℕ) → r < 4294967296 → (q * 4294967296 + r) / 4294967296 ≡ q
cut_word q r h = omega arith

low_word : (q r : ℕ) → r < 4294967296 → (q * 4294967296 + r) % 4294967296 ≡ r
low_word q r h = omega arith

cut_byte : (q r : ℕ) → r < 256 → (q * 256 + r) / 256 ≡ q
cut_byte q r h = omega arith

low_byte : (q r : ℕ) → r < 256 → (q * 256 + r) % 256 ≡ r
low_byte q r h = omega arith

cut_packet : (q r : ℕ) → r < 65536 → (q * 65536 + r) / 65536 ≡ q
cut_packet q r h = omega arith

low_packet : (q r : ℕ) → r < 65536 → (q * 65536 + r) % 65536 ≡ r
low_packet q r h = omega arith

-- the parts of a word
record Parts (f : Flit) : Type 0 where
  whole : flit_of (word_of f) ≡ f
  sound : is_word (word_of f) ≡ true

parts : (f : Flit) → IsFlit f → Parts f
unfolding word_of flit_of
parts f fits =
    let k = kind_number f.kind in
    let nodes = f.lane.src * 256 + f.lane.dst in
    let lane = nodes * 256 + f.lane.class in
    let packets = lane * 65536 + f.packet in
    let stamp = packets * 256 + f.index in
    let kinds = stamp * 256 + k in
    let order = kinds * 256 + f.vc in
    let byte : k < 256 = omega (arith, kind_below f.kind) in
    let e1 : word_of f / 4294967296 ≡ order = cut_word order f.word fits.word in
    let e2 : word_of f / 4294967296 / 256 ≡ kinds = ap (λ n. n / 256) e1 ∙ cut_byte kinds f.vc fits.vc in
    let e3 : word_of f / 4294967296 / 256 / 256 ≡ stamp = ap (λ n. n / 256) e2 ∙ cut_byte stamp k byte in
    let e4 : word_of f / 4294967296 / 256 / 256 / 256 ≡ packets =
    ap (λ n. n / 256) e3 ∙ cut_byte packets f.index fits.index in
    let e5 : word_of f / 4294967296 / 256 / 256 / 256 / 65536 ≡ lane =
    ap (λ n. n / 65536) e4 ∙ cut_packet lane f.packet fits.packet in
    let e6 : word_of f / 4294967296 / 256 / 256 / 256 / 65536 / 256 ≡ nodes =
    ap (λ n. n / 256) e5 ∙ cut_byte nodes f.lane.class fits.class in
    let e7 : word_of f / 4294967296 / 256 / 256 / 256 / 65536 / 256 / 256 ≡ f.lane.src =
    ap (λ n. n / 256) e6 ∙ cut_byte f.lane.src f.lane.dst fits.dst in
    let d0 : word_of f % 4294967296 ≡ f.word = low_word order f.word fits.word in
    let d1 : word_of f / 4294967296 % 256 ≡ f.vc = ap (λ n. n % 256) e1 ∙ low_byte kinds f.vc fits.vc in
    let d2 : word_of f / 4294967296 / 256 % 256 ≡ k = ap (λ n. n % 256) e2 ∙ low_byte stamp k byte in
    let d3 : word_of f / 4294967296 / 256 / 256 % 256 ≡ f.index =
    ap (λ n. n % 256) e3 ∙ low_byte packets f.index fits.index in
    let d4 : word_of f / 4294967296 / 256 / 256 / 256 % 65536 ≡ f.packet =
    ap (λ n. n % 65536) e4 ∙ low_packet lane f.packet fits.packet in
    let d5 : word_of f / 4294967296 / 256 / 256 / 256 / 65536 % 256 ≡ f.lane.class =
    ap (λ n. n % 256) e5 ∙ low_byte nodes f.lane.class fits.class in
    let d6 : word_of f / 4294967296 / 256 / 256 / 256 / 65536 / 256 % 256 ≡ f.lane.dst =
    ap (λ n. n % 256) e6 ∙ low_byte f.lane.src f.lane.dst fits.dst in
    record {
      whole = (λ i. flit_by (d0 i) (d1 i) (d2 i) (d3 i) (d4 i) (d5 i) (d6 i) (e7 i))
          ∙ ap (λ (kind : Kind). record f { kind = kind }) (kind_back f.kind);
      sound = is_one (word_of f) (omega (arith, d2, kind_below f.kind)) (omega (arith, e7, fits.src));
    }

pub flit_of-word_of : (f : Flit) → IsFlit f → flit_of (word_of f) ≡ f
flit_of-word_of f fits = (parts f fits).whole

pub is_word-word_of : (f : Flit) → IsFlit f → is_word (word_of f) ≡ true
is_word-word_of f fits = (parts f fits).sound

kind_there : (k : ℕ) → k ≤ 4 → kind_number (kind_of k) ≡ k
kind_there zero h = refl
kind_there (suc zero) h = refl
kind_there (suc (suc zero)) h = refl
kind_there (suc (suc (suc zero))) h = refl
kind_there (suc (suc (suc (suc zero)))) h = refl
kind_there (suc (suc (suc (suc (suc k))))) h = absurd (omega arith)

joined_word : (x : ℕ) → (x / 4294967296) * 4294967296 + x % 4294967296 ≡ x
joined_word x = omega arith

joined_byte : (x : ℕ) → (x / 256) * 256 + x % 256 ≡ x
joined_byte x = omega arith

joined_packet : (x : ℕ) → (x / 65536) * 65536 + x % 65536 ≡ x
joined_packet x = omega arith

kinds_fit : (x : ℕ) → is_word x ≡ true → kinds_at x ≤ 4
unfolding is_word
kinds_fit x h = grind (arith, nat_tests)

pub word_of-flit_of : (x : ℕ) → is_word x ≡ true → word_of (flit_of x) ≡ x
unfolding word_of flit_of
word_of-flit_of x h =
    let order = x / 4294967296 in
    let kinds = order / 256 in
    let stamp = kinds / 256 in
    let packets = stamp / 256 in
    let lane = packets / 65536 in
    let nodes = lane / 256 in
    let e6 = joined_byte nodes in
    let e5 = ap (λ n. n * 256 + lane % 256) e6 ∙ joined_byte lane in
    let e4 = ap (λ n. n * 65536 + packets % 65536) e5 ∙ joined_packet packets in
    let e3 = ap (λ n. n * 256 + stamp % 256) e4 ∙ joined_byte stamp in
    let k = kind_there (kinds % 256) (kinds_fit x h) in
    let e2 = (λ i. e3 i * 256 + k i) ∙ joined_byte kinds in
    let e1 = ap (λ n. n * 256 + order % 256) e2 ∙ joined_byte order in
    ap (λ n. n * 4294967296 + x % 4294967296) e1 ∙ joined_word x

-- what `unpack` puts together
abbrev pub read_as : ℕ → Kind → Flit
read_as x k =
    record {
      lane = record {
        src = sources_at x;
        dst = x / 4294967296 / 256 / 256 / 256 / 65536 / 256 % 256;
        class = x / 4294967296 / 256 / 256 / 256 / 65536 % 256;
      };
      packet = x / 4294967296 / 256 / 256 / 256 % 65536;
      index = x / 4294967296 / 256 / 256 % 256;
      kind = k;
      vc = x / 4294967296 % 256;
      word = x % 4294967296;
    }

pub read_is : (x : ℕ) (k : Kind) → k ≡ kind_of (kinds_at x) → read_as x k ≡ flit_of x
unfolding flit_of
read_is x k e = ap (read_as x) e
