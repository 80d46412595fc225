-- One port, one channel or one node more.
use Rattle.std.proofs.Common.{◌≡◌, ◌<◌, ◌+◌, ℕ, List, [], ◌∷◌, ◌++◌, map, length, get_or, take, flat_map, sym, ap}
use Rattle.std.proofs.Common.{◌∙◌}
use Rattle.std.specs.List.{range_with_len}
use Rattle.std.proofs.lemmas.List.{flat_map_more, map_push, take_more}
use Rattle.worm_picture.specs.declared.scene.Spot.{Spot}
use Rattle.worm_picture.specs.declared.views.Station.{Station}
use Rattle.worm_picture.specs.declared.views.NodeView.{NodeView}
use Rattle.worm_picture.specs.Nodes.{spots_at, spots_in}
use Rattle.worm_picture.proofs.Pieces.{range_more}

pub one_port_more : (node n vcs : ℕ) (spots more new : List Spot) → new ≡ spots ++ more
    → spots ≡ spots_in node n vcs → more ≡ spots_at node vcs n
    → new ≡ spots_in node (n + 1) vcs
one_port_more node n vcs spots more new joined old added =
    joined ∙ rw (old, added) (flat_map_more (spots_at node vcs) [] (range_with_len 0 n) n)
    ∙ ap (flat_map (spots_at node vcs)) (sym (range_more n))

pub one_station_more : (i : ℕ) (d : Spot) (spots : List Spot) (stations new : List Station) (s : Station)
    → new ≡ stations ++ s ∷ [] → map (λ s. s.spot) stations ≡ take i spots
    → i < length spots → s.spot ≡ get_or spots i d → map (λ s. s.spot) new ≡ take (i + 1) spots
one_station_more i d spots stations new s joined old lt spot =
    ap (map (λ (s : Station). s.spot)) joined ∙ map_push (λ (s : Station). s.spot) stations s ∙ rw (
      old,
      spot,
    ) (sym (take_more spots i d lt))

pub one_node_more : (n : ℕ) (views new : List NodeView) (v : NodeView) → new ≡ views ++ v ∷ []
    → map (λ v. v.node) views ≡ range_with_len 0 n → v.node ≡ n
    → map (λ v. v.node) new ≡ range_with_len 0 (n + 1)
one_node_more n views new v joined old node =
    ap (map (λ (v : NodeView). v.node)) joined ∙ map_push (λ (v : NodeView). v.node) views v ∙ rw (
      old,
      node,
    ) (sym (range_more n))
