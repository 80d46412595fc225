use Rattle.std.proofs.Common.{ap, sym, ◌∙◌, ◌++◌, ◌∷◌, [], drop}
use Rattle.std.specs.Prelude.{flat_map}
use Rattle.worm_flit.specs.Stamps.{of_lane}
use Rattle.worm_mesh.proofs.Digits.{AreLarge-from_radices}
use Rattle.worm_route.specs.Places.{Source, Buffer}
use Rattle.worm_term.specs.Source.{queue_at}
use Rattle.worm_core.specs.LaneView.{at_place, held_at, places_past}
use Rattle.worm_node.specs.declared.node.Node.{Node}
use Rattle.worm_core.specs.declared.view.Place.TheVariants.{Source as InSource}
use Rattle.worm_core.proofs.LanePlaces.{places_split, past_held}
use Rattle.worm_core.proofs.view.underway.Goals as goal

pub returns : goal.returns
returns c =
    let s = c.args.fabric.now in
    let lane = c.args.lane in
    let l = AreLarge-from_radices s.mesh c.requires.framed.radices.radices in
    let unfed = ap (λ (n : Node). at_place InSource
    (of_lane lane (drop (queue_at n.source lane.class).fed (queue_at n.source lane.class).injected)))
    c.node.ensures in
    past_held (held_at s lane) [] _ _ _ _ (places_past s.mesh lane.src lane.dst)
    (Buffer lane.src c.terminal.result) Source _
    (c.in_ok-put_past.ensures ∙ ap (λ hs. hs ++ flat_map (held_at s lane) (places_past s.mesh lane.src lane.dst))
    c.new-held.ensures.items) c.in_ok-put_buffers.ensures c.in_ok-put_unfed.ensures unfed
    (places_split s.mesh l lane.dst c.requires.dst lane.src c.requires.src
    ∙ ap (λ p. places_past s.mesh lane.src lane.dst ++ Buffer lane.src p ∷ Source ∷ [])
    (sym c.terminal.ensures.value))
