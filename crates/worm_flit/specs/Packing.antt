-- The word of a flit: from the top its source, destination, class, packet, index, kind, channel and word.
use Rattle.std.specs.Prelude.{ℕ, ◌+◌, ◌*◌, ◌/◌, ◌%◌, ◌<◌, ◌==◌, ltb, leb, ◌&&◌, Bool, if◌then◌else◌}
use Rattle.worm_flit.specs.declared.Kind.{Kind}
use Rattle.worm_flit.specs.declared.Kind.TheVariants.{Head, Body, Tail, Single, Close}
use Rattle.worm_flit.specs.declared.Flit.{Flit}

abbrev pub kind_number : Kind → ℕ
kind_number Head = 0
kind_number Body = 1
kind_number Tail = 2
kind_number Single = 3
kind_number Close = 4

abbrev pub kind_of : ℕ → Kind
kind_of n = if n == 0 then Head else (if n == 1 then Body
    else (if n == 2 then Tail else (if n == 3 then Single else Close)))

unfoldable pub word_of : Flit → ℕ
word_of f =
    ((((((f.lane.src * 256 + f.lane.dst) * 256 + f.lane.class) * 65536 + f.packet) * 256 + f.index) * 256 + kind_number
    f.kind) * 256 + f.vc) * 4294967296 + f.word

-- of the parts from the low end up
abbrev pub flit_by : ℕ → ℕ → ℕ → ℕ → ℕ → ℕ → ℕ → ℕ → Flit
flit_by word vc kind index packet class dst src =
    record {
      lane = record { src = src; dst = dst; class = class };
      packet = packet;
      index = index;
      kind = kind_of kind;
      vc = vc;
      word = word;
    }

unfoldable pub flit_of : ℕ → Flit
flit_of x =
    flit_by (x % 4294967296) (x / 4294967296 % 256) (x / 4294967296 / 256 % 256) (x / 4294967296 / 256 / 256 % 256)
    (x / 4294967296 / 256 / 256 / 256 % 65536)
    (x / 4294967296 / 256 / 256 / 256 / 65536 % 256) (x / 4294967296 / 256 / 256 / 256 / 65536 / 256 % 256)
    (x / 4294967296 / 256 / 256 / 256 / 65536 / 256 / 256)

-- it is the word of some flit
unfoldable pub is_word : ℕ → Bool
is_word x = leb (x / 4294967296 / 256 % 256) 4 && ltb (x / 4294967296 / 256 / 256 / 256 / 65536 / 256 / 256) 256

-- each number fits its field
pub record IsFlit (f : Flit) : Type 0 where
  pub src : f.lane.src < 256
  pub dst : f.lane.dst < 256
  pub class : f.lane.class < 256
  pub packet : f.packet < 65536
  pub index : f.index < 256
  pub vc : f.vc < 256
  pub word : f.word < 4294967296
