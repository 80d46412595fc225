-- What a worker's end of a link knows: all that went over it since the network was split.
use Rattle.std.specs.Prelude.{◌≡◌, ℕ, ◌≤◌, ◌<◌, Bool, true, false, cond, List, [], ◌∷◌, ◌++◌, length, sum, slice_get}
use Rattle.std.specs.Prelude.{slice_index_or, Some}
use Rattle.worm_flit.specs.declared.Flit.{Flit}
use Rattle.worm_flit.specs.Channels.{owner_of}
use Rattle.worm_flit.specs.Stamps.{on_channel}
use Rattle.worm_flit.specs.Worms.{Continues}
use Rattle.worm_links.specs.declared.LinkCfg.{LinkCfg}
use Rattle.worm_links.specs.Links.{MayCross, link_capacity}
use Rattle.worm_theory.specs.Network.{Network}
use Rattle.worm_split.specs.declared.ends.End.{End}
use Rattle.worm_split.specs.declared.ends.End.TheVariants.{Inner, Leaving, Entering}
use Rattle.worm_split.specs.declared.ends.EndPair.{EndPair}

-- the link by port o of node y, in a mesh with these radices, whose classes own these numbers of channels
pub record IsLinkOf (mesh channels : List ℕ) (y o : ℕ) (link : LinkCfg) : Type 0 where
  pub same_mesh : link.mesh ≡ mesh
  pub same_node : link.node ≡ y
  pub same_port : link.port ≡ o
  pub same_channels : link.channels ≡ sum channels
  pub owners : (v : ℕ) → v < sum channels → slice_get link.owners v ≡ Some (owner_of channels v)

-- whether flits leave by the end; whether they enter by it
abbrev pub leaves_by : End → Bool
leaves_by Inner = false
leaves_by (Leaving tx back) = true
leaves_by (Entering rx give) = false

abbrev pub enters_by : End → Bool
enters_by Inner = false
enters_by (Leaving tx back) = false
enters_by (Entering rx give) = true

-- what was sent by the end, or else what the worker's own list has; the same of the credits that were given
abbrev pub sent_on : End → List Flit → List Flit
sent_on Inner flits = flits
sent_on (Leaving tx back) flits = tx.sent
sent_on (Entering rx give) flits = flits

abbrev pub given_on : End → List ℕ → List ℕ
given_on Inner credits = credits
given_on (Leaving tx back) credits = credits
given_on (Entering rx give) credits = give.sent

-- what was taken by the end, flits and credits
abbrev pub taken_on : End → List Flit
taken_on Inner = []
taken_on (Leaving tx back) = []
taken_on (Entering rx give) = rx.taken

abbrev pub returned_on : End → List ℕ
returned_on Inner = []
returned_on (Leaving tx back) = back.taken
returned_on (Entering rx give) = []

-- A network of lists as the worker has it whose ends these are, by node and output port: a link that leaves its nodes
-- has all that was sent on it, and the credit line of one that enters them all that was given.
abbrev pub seen_by : (ℕ → ℕ → End) → Network → Network
seen_by end net = record net {
  out = λ y o. sent_on (end y o) (net.out y o);
  credit_list = λ y o. given_on (end y o) (net.credit_list y o);
}

-- the same end of the same queues, whatever went over them
abbrev pub IsSameEnd : End → End → Type 0
IsSameEnd Inner Inner = Unit {0}
IsSameEnd Inner (Leaving tx back) = ⊥
IsSameEnd Inner (Entering rx give) = ⊥
IsSameEnd (Leaving tx back) Inner = ⊥
IsSameEnd (Leaving tx back) (Leaving tx2 back2) =
    (tx2.link ≡ tx.link) × (tx2.past ≡ tx.past) × (tx2.queue ≡ tx.queue) × (back2.link ≡ back.link)
    × (back2.queue ≡ back.queue)
IsSameEnd (Leaving tx back) (Entering rx2 give2) = ⊥
IsSameEnd (Entering rx give) Inner = ⊥
IsSameEnd (Entering rx give) (Leaving tx2 back2) = ⊥
IsSameEnd (Entering rx give) (Entering rx2 give2) =
    (rx2.link ≡ rx.link) × (rx2.past ≡ rx.past) × (rx2.queue ≡ rx.queue) × (give2.link ≡ give.link)
    × (give2.queue ≡ give.queue)

-- The end of a link that a worker has, of the two that were made: whether it owns the node that the link leaves, and
-- the one that the link enters.
abbrev pub end_made : Bool → Bool → EndPair → End
end_made near far pair = cond near (cond far Inner pair.out) (cond far pair.into Inner)

-- The two ends of the link by port o of node y, as they are made: of one flit queue with this past, which holds as many
-- flits as buffers of this depth beyond it, and of one credit line; nothing has gone over either.
abbrev pub AreEndsMade : (mesh channels : List ℕ) → (depth y o : ℕ) → (past : List Flit) → End → End → Type 0
AreEndsMade mesh channels depth y o past (Leaving tx back) (Entering rx give) =
    (IsLinkOf mesh channels y o tx.link × (tx.past ≡ past) × (tx.sent ≡ []) × (tx.link.depth ≡ depth))
    × ((rx.link ≡ tx.link) × (rx.past ≡ past) × (rx.queue ≡ tx.queue) × (rx.taken ≡ []))
    × ((back.link ≡ tx.link) × (back.taken ≡ []))
    × ((give.link ≡ tx.link) × (give.queue ≡ back.queue) × (give.sent ≡ []))
AreEndsMade mesh channels depth y o past Inner into = ⊥
AreEndsMade mesh channels depth y o past (Entering rx give) into = ⊥
AreEndsMade mesh channels depth y o past (Leaving tx back) Inner = ⊥
AreEndsMade mesh channels depth y o past (Leaving tx back) (Leaving tx2 back2) = ⊥

-- by number of the link, where it is there
abbrev pub end_at : List End → ℕ → End
end_at ends k = slice_index_or ends k Inner

abbrev pub no_pair : EndPair
no_pair = record { out = Inner; into = Inner }

abbrev pub pair_at : List EndPair → ℕ → EndPair
pair_at pairs k = slice_index_or pairs k no_pair

-- What goes over an end

-- the credit came back by it
abbrev pub CreditPopped : End → ℕ → End → Type 0
CreditPopped Inner c new = ⊥
CreditPopped (Leaving tx back) c new = (new ≡ Leaving tx (record back { taken = back.taken ++ c ∷ [] }))
    × (c < back.link.channels)
CreditPopped (Entering rx give) c new = ⊥

-- the flit came by it: it continues what was taken on its channel, and may cross the link
abbrev pub FlitPopped : End → Flit → End → Type 0
FlitPopped Inner f new = ⊥
FlitPopped (Leaving tx back) f new = ⊥
FlitPopped (Entering rx give) f new =
    (new ≡ Entering (record rx { taken = rx.taken ++ f ∷ [] }) give)
    × Continues (on_channel f.vc (rx.past ++ rx.taken)) f × MayCross rx.link f

-- the flit may be sent by it, and was, or was not
abbrev pub MayGo : End → Flit → Type 0
MayGo Inner f = Unit {0}
MayGo (Leaving tx back) f = Continues (on_channel f.vc (tx.past ++ tx.sent)) f × MayCross tx.link f
MayGo (Entering rx give) f = Unit {0}

abbrev pub FlitPushed : End → Flit → Bool → End → Type 0
FlitPushed Inner f true new = ⊥
FlitPushed (Leaving tx back) f true new = new ≡ Leaving (record tx { sent = tx.sent ++ f ∷ [] }) back
FlitPushed (Entering rx give) f true new = ⊥
FlitPushed Inner f false new = new ≡ Inner
FlitPushed (Leaving tx back) f false new = (new ≡ Leaving tx back) × (link_capacity tx.link ≤ length tx.sent)
FlitPushed (Entering rx give) f false new = new ≡ Entering rx give

-- the credit may be given by it, and was, or was not
abbrev pub MayGive : End → ℕ → Type 0
MayGive Inner c = Unit {0}
MayGive (Leaving tx back) c = Unit {0}
MayGive (Entering rx give) c = c < give.link.channels

abbrev pub CreditPushed : End → ℕ → Bool → End → Type 0
CreditPushed Inner c true new = ⊥
CreditPushed (Leaving tx back) c true new = ⊥
CreditPushed (Entering rx give) c true new = new ≡ Entering rx (record give { sent = give.sent ++ c ∷ [] })
CreditPushed Inner c false new = new ≡ Inner
CreditPushed (Leaving tx back) c false new = new ≡ Leaving tx back
CreditPushed (Entering rx give) c false new = (new ≡ Entering rx give) × (link_capacity give.link ≤ length give.sent)
