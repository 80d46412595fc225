-- What a link carries, and how contracts see its ends. The buffers' room goes back as credits (Dally and Towles,
-- chapter 13).
use Rattle.std.specs.Prelude.{◌≡◌, ℕ, ◌*◌, ◌<◌, true, List, [], ◌++◌, All, Some, slice_get, replicate}
use Rattle.worm_links.specs.History.{QueueName}
use Rattle.worm_flit.specs.declared.Flit.{Flit}
use Rattle.worm_flit.specs.Packing.{is_word}
use Rattle.worm_flit.specs.Stamps.{on_channel}
use Rattle.worm_flit.specs.Worms.{IsWorm}
use Rattle.worm_mesh.specs.Address.{node_count}
use Rattle.worm_route.specs.Crossing.{crosses}
use Rattle.worm_links.specs.declared.LinkCfg.{LinkCfg}
use Rattle.worm_links.specs.declared.history.Opened.{Opened}

-- an item of the queue is the word of a flit
abbrev pub IsWord : ℕ → Type 0
IsWord x = is_word x ≡ true

-- the flit's channel is one of the link's and owned by its class, and its route, from a node of the mesh to a node of
-- the mesh, crosses the link
pub record MayCross (link : LinkCfg) (f : Flit) : Type 0 where
  pub channel : f.vc < link.channels
  pub owned : slice_get link.owners f.vc ≡ Some f.lane.class
  pub source : f.lane.src < node_count link.mesh
  pub destination : f.lane.dst < node_count link.mesh
  pub route : crosses link.mesh link.node link.port f.lane.src f.lane.dst ≡ true

-- the flits are a worm on each channel
abbrev pub AreWorms : List Flit → Type 0
AreWorms flits = (c : ℕ) → IsWorm (on_channel c flits)

abbrev pub opened : LinkCfg → List Flit → Opened
opened link past = record { cfg = link; past = past }

-- each flit may cross the link, and with those of its past they are a worm on each channel
pub record IsLinkHistory (link : Opened) (flits : List Flit) : Type 0 where
  pub worms : AreWorms (link.past ++ flits)
  pub crossing : All (MayCross link.cfg) flits

-- each credit is for a channel of the link
abbrev pub IsCreditHistory : Opened → List ℕ → Type 0
IsCreditHistory link credits = All (λ c. c < link.cfg.channels) credits

abbrev pub no_cfg : LinkCfg
no_cfg = record { mesh = []; node = 0; port = 0; channels = 0; depth = 0; owners = replicate 8 0 }

-- what a queue is of before it is divided
abbrev pub no_link : Opened
no_link = opened no_cfg []

abbrev pub link_capacity : LinkCfg → ℕ
link_capacity link = link.channels * link.depth

-- of the sender's end: the link and its past, the queue, and all that was sent
pub record TxView : Type 0 where
  pub link : LinkCfg
  pub past : List Flit
  pub queue : QueueName
  pub sent : List Flit

-- of the taker's end: the same with all that was taken
pub record RxView : Type 0 where
  pub link : LinkCfg
  pub past : List Flit
  pub queue : QueueName
  pub taken : List Flit

pub record EndsView : Type 0 where
  pub link : LinkCfg
  pub past : List Flit
  pub queue : QueueName
  pub sent : List Flit
  pub taken : List Flit

-- of the ends of a credit line: channel numbers in place of flits
pub record CreditTxView : Type 0 where
  pub link : LinkCfg
  pub queue : QueueName
  pub sent : List ℕ

pub record CreditRxView : Type 0 where
  pub link : LinkCfg
  pub queue : QueueName
  pub taken : List ℕ

pub record CreditEndsView : Type 0 where
  pub link : LinkCfg
  pub queue : QueueName
  pub sent : List ℕ
  pub taken : List ℕ
