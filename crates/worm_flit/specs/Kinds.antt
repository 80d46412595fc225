-- Which kinds of flit begin a packet, which end it, and which is the close mark (Dally and Towles, chapter 12).
use Rattle.std.specs.Prelude.{Bool, true, false}
use Rattle.worm_flit.specs.declared.Kind.{Kind}
use Rattle.worm_flit.specs.declared.Kind.TheVariants.{Head, Body, Tail, Single, Close}

-- the first flit of a packet
abbrev pub opens : Kind → Bool
opens Head = true
opens Body = false
opens Tail = false
opens Single = true
opens Close = true

-- the last flit of a packet
abbrev pub closes : Kind → Bool
closes Head = false
closes Body = false
closes Tail = true
closes Single = true
closes Close = true

-- the mark that closes a lane
abbrev pub is_mark : Kind → Bool
is_mark Head = false
is_mark Body = false
is_mark Tail = false
is_mark Single = false
is_mark Close = true
