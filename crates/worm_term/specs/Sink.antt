-- What a contract sees of a sink (Dally and Towles, chapters 12 and 13).
use Rattle.std.specs.Prelude.{ℕ, Bool, ◌&&◌, List, [], ◌∷◌, ◌++◌}
use Rattle.std.specs.List.{list_any}
use Rattle.worm_flit.specs.declared.Lane.{Lane}
use Rattle.worm_flit.specs.declared.Flit.{Flit}
use Rattle.worm_flit.specs.Kinds.{is_mark}
use Rattle.worm_flit.specs.Stamps.{is_of_lane}

-- the flits that came, in order
pub record SinkState : Type 0 where
  pub node : ℕ
  pub delivered : List Flit

-- the lane's mark has come
abbrev pub has_mark : SinkState → Lane → Bool
has_mark s lane = list_any (λ f. is_mark f.kind && is_of_lane lane f) s.delivered

abbrev pub after_take : SinkState → Flit → SinkState
after_take s f = record s { delivered = s.delivered ++ f ∷ [] }
