-- What is read off a flit's stamp: its lane and its channel.
use Rattle.std.specs.Prelude.{ℕ, Bool, ◌==◌, ◌&&◌, List}
use Rattle.std.specs.List.{filter}
use Rattle.worm_flit.specs.declared.Lane.{Lane}
use Rattle.worm_flit.specs.declared.Flit.{Flit}

-- the flit on another channel
abbrev pub with_channel : Flit → ℕ → Flit
with_channel f c = record f { vc = c }

-- the flit without its channel number
abbrev pub bare : Flit → Flit
bare f = with_channel f 0

abbrev pub is_of_lane : Lane → Flit → Bool
is_of_lane lane f = (f.lane.src == lane.src) && (f.lane.dst == lane.dst) && (f.lane.class == lane.class)

-- the flits of one lane
abbrev pub of_lane : Lane → List Flit → List Flit
of_lane lane fs = filter (is_of_lane lane) fs

-- the flits of one channel
abbrev pub on_channel : ℕ → List Flit → List Flit
on_channel c fs = filter (λ f. c == f.vc) fs
