-- Which pass the ends of a queue hold.
use Rattle.std.specs.Prelude.{◌≡◌, ℕ, Option, List, ◌++◌}
use Rattle.crossbeam_queue.specs.declared.array_queue.Doing.{Doing}
use Rattle.crossbeam_queue.specs.declared.array_queue.Slotted.{Slotted}
use Rattle.crossbeam_queue.specs.Passes.{Pass, view, IsPassOf, ruled_capacity}
use Rattle.worm_links.specs.declared.history.Known.{Known}
use Rattle.worm_links.specs.History.{sender, taker, whole}

module _ {C T X Q A : Type 0} (IsHistory : C → List X → Type 0) (line : Slotted (Option T) (Doing T (Known C X)) Q A)
    (pass : Pass T (Known C X)) where
  pub record IsSender (capacity : ℕ) : Type 0 where
    pub here : IsPassOf line pass
    pub room : ruled_capacity line ≡ capacity
    pub role : view pass ≡ sender (view pass).link (view pass).sent
    pub history : IsHistory (view pass).link (view pass).sent

  pub record IsTaker : Type 0 where
    pub here : IsPassOf line pass
    pub role : view pass ≡ taker (view pass).link (view pass).taken
    pub history : IsHistory (view pass).link (view pass).taken

  pub record IsWhole : Type 0 where
    pub here : IsPassOf line pass
    pub role : view pass ≡ whole (view pass).link (view pass).sent (view pass).taken
    pub history : IsHistory (view pass).link (view pass).sent
    pub rest : (rest : List X) × ((view pass).sent ≡ (view pass).taken ++ rest)
