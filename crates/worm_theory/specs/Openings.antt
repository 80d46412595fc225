-- A link's history may begin with a past, from before the split.
use Rattle.std.specs.Prelude.{◌≡◌, ℕ, zero, suc, ◌<◌, List, [], ◌∷◌, ◌++◌, Option, Some, None}
use Rattle.std.specs.Option.{option_to_list}
use Rattle.worm_flit.specs.declared.Flit.{Flit}
use Rattle.worm_flit.specs.Stamps.{on_channel, with_channel}
use Rattle.worm_flit.specs.Packets.{mark}
use Rattle.worm_flit.specs.Worms.{IsWorm, latest}
use Rattle.worm_theory.specs.Worm.{Worm}
use Rattle.worm_theory.specs.Shape.{Shape}
use Rattle.worm_theory.specs.Network.{Network}
use Rattle.worm_theory.specs.Parts.{worm_end, opened}

-- The past of a link into port p of node x: a worm on each channel, after which each channel stands where its input
-- channel stood at the split, whatever was before it (so it is empty on no channel).
pub record IsOpening (s : Shape) (old : Network) (x p : ℕ) (past : List Flit) : Type 0 where
  pub worms : (v : ℕ) → IsWorm (on_channel v past)
  pub stands : (v : ℕ) → v < s.vcs → (w : Worm) → worm_end w (on_channel v past) ≡ opened old x p v

-- One flit per channel makes such a past: the last of its buffer, or else the last that left it, or else a mark.
abbrev pub seed_from : ℕ → Option Flit → Flit
seed_from v None = with_channel (mark (record { src = 0; dst = 0; class = 0 }) 0) v
seed_from v (Some f) = with_channel f v

abbrev pub seed : Network → ℕ → ℕ → ℕ → Flit
seed old x p v = seed_from v (latest (option_to_list (old.last_out x p v) ++ old.buffer x p v))

abbrev pub seeds : Network → ℕ → ℕ → ℕ → List Flit
seeds old x p zero = []
seeds old x p (suc n) = seeds old x p n ++ seed old x p n ∷ []

-- The past of the queue of a link, by port o from node y to node x, that is made at the split: such a past, and then
-- what was on the link, which the far end has at once.
abbrev pub past_of : Shape → Network → ℕ → ℕ → ℕ → List Flit
past_of s old y o x = seeds old x (s.opposite o) s.vcs ++ old.out y o
