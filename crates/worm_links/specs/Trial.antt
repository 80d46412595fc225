-- The link and the flits of the tests and of the benchmark: node 0 of two sends to node 1, on channels of one class.
use Rattle.std.specs.Prelude.{◌≡◌, ◌==◌, ℕ, true, false, [], ◌∷◌, ◌++◌, Option, Some, None}
use Rattle.worm_flit.specs.declared.Flit.{Flit}
use Rattle.worm_flit.specs.declared.Kind.{Kind}
use Rattle.worm_flit.specs.Kinds.{closes}
use Rattle.worm_flit.specs.Worms.{latest_on}
use Rattle.worm_links.specs.declared.LinkCfg.{LinkCfg}
use Rattle.worm_links.specs.Links.{TxView}

abbrev pub pair_link : ℕ → ℕ → LinkCfg
pair_link channels depth =
    record {
      mesh = 2 ∷ [];
      node = 0;
      port = 1;
      channels = channels;
      depth = depth;
      owners = 0 ∷ 0 ∷ 0 ∷ 0 ∷ 0 ∷ 0 ∷ 0 ∷ 0 ∷ [];
    }

abbrev pub trial_flit : ℕ → ℕ → Kind → ℕ → Flit
trial_flit packet index kind vc =
    record {
      lane = record { src = 0; dst = 1; class = 0 };
      packet = packet;
      index = index;
      kind = kind;
      vc = vc;
      word = packet;
    }

-- the last flit of a channel, those of the link's past among them
abbrev pub last_on : ℕ → TxView → Option Flit
last_on c tx = latest_on c (tx.past ++ tx.sent)

-- no packet is open
abbrev pub IsClear : Option Flit → Type 0
IsClear None = Unit {0}
IsClear (Some f) = closes f.kind ≡ true

-- the link of so many channels, on none of which a packet is open
pub record IsReady (channels : ℕ) (tx : TxView) : Type 0 where
  pub link : tx.link ≡ pair_link channels tx.link.depth
  pub clear : (c : ℕ) → IsClear (last_on c tx)

-- the packet of the flit f is open, and no other
pub record IsOpen (channels : ℕ) (tx : TxView) (f : Flit) : Type 0 where
  pub link : tx.link ≡ pair_link channels tx.link.depth
  pub last : last_on f.vc tx ≡ Some f
  pub clear : (c : ℕ) → (c == f.vc) ≡ false → IsClear (last_on c tx)
