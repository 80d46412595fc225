-- The rule of a queue with one sender and one taker: what was sent is what was taken and then what the queue holds,
-- and what was sent is a history that the link allows. A view is what one pass of the queue knows.
use Rattle.std.specs.Prelude.{◌≡◌, ℕ, ◌≤◌, Bool, true, false, List, [], ◌∷◌, ◌++◌, length, map, All}
use mathlib.Core.Option.{some}
use lib.ListN.{get_elem?}
use Rattle.crossbeam_queue.specs.Passes.{Pass}
use Rattle.worm_links.specs.declared.history.Known.{Known}

-- which queue a pass belongs to
pub record QueueName : Type 0 where
  pub words : ℕ
  pub slots : ℕ
  pub views_name : ℕ
  pub atom : ℕ
  pub block : ℕ
  pub offset : ℕ
  pub slot_names : List ℕ

abbrev pub queue_of : {T V : Type 0} → Pass T V → QueueName
queue_of p =
    record {
      words = p.table_id.words;
      slots = p.table_id.slots;
      views_name = p.table_id.views_name;
      atom = p.table_id.atom;
      block = p.table_id.block;
      offset = p.table_id.offset;
      slot_names = p.table_id.slot_names;
    }

module _ {C X : Type 0} where
  -- the views of an end that pushes, of one that pops, and of both ends together
  abbrev pub known : C → Bool → Bool → List X → List X → Known C X
  known link pushes pops sent taken = record { link = link; pushes = pushes; pops = pops; sent = sent; taken = taken }

  abbrev pub sender : C → List X → Known C X
  sender link sent = known link true false sent []

  abbrev pub taker : C → List X → Known C X
  taker link taken = known link false true [] taken

  abbrev pub whole : C → List X → List X → Known C X
  whole link sent taken = known link true true sent taken

  -- only the writer may push, and it knows what was sent; only the reader may pop, and it knows what was taken
  abbrev pub Fits : ℕ → ℕ → C → List X → List X → ℕ → Known C X → Type 0
  Fits writer reader link sent taken pass v =
      (v.pushes ≡ true → (pass ≡ writer) × (v.link ≡ link) × (v.sent ≡ sent)) ×
      (v.pops ≡ true → (pass ≡ reader) × (v.link ≡ link) × (v.taken ≡ taken))

  -- `read` is what an item of the queue stands for, and a sound item stands for something
  module _ {T : Type 0} (read : T → X) (Sound : T → Type 0) (IsHistory : C → List X → Type 0) where
    -- the rule of a queue that holds these items, whose passes know this: there is one list of all that was sent and
    -- one of all that was taken, which the pass `writer` and the pass `reader` know
    pub record IsKept (items : List T) (views : List (Known C X)) : Type 0 where
      pub link : C
      pub writer : ℕ
      pub reader : ℕ
      pub sent : List X
      pub taken : List X
      pub order : sent ≡ taken ++ map read items
      pub sound : All Sound items
      pub history : IsHistory link sent
      pub fits : (pass : ℕ) (v : Known C X) → get_elem? views pass ≡ some v → Fits writer reader link sent taken pass v

    -- the item stands at the end of what was sent
    abbrev pub Pushed : Known C X → T → Known C X → Type 0
    Pushed v x w = w ≡ known v.link v.pushes v.pops (v.sent ++ read x ∷ []) v.taken

    -- the item stands at the end of what was taken, which is a history; who may push too knows that it was sent next
    abbrev pub Popped : Known C X → T → Known C X → Type 0
    Popped v x w =
        (w ≡ known v.link v.pushes v.pops v.sent (v.taken ++ read x ∷ [])) × Sound x ×
        IsHistory v.link (v.taken ++ read x ∷ [])
        × (v.pushes ≡ true → (rest : List X) × (v.sent ≡ (v.taken ++ read x ∷ []) ++ rest))

    -- what the queue holds was sent
    abbrev pub HoldsSent : Known C X → List T → Type 0
    HoldsSent v items = length items ≤ length v.sent

    -- what the queue holds was sent, and not taken
    abbrev pub HoldsRest : Known C X → List T → Type 0
    HoldsRest v items = v.pushes ≡ true → v.sent ≡ v.taken ++ map read items
