use Rattle.std.proofs.Common.{arith, sym, ap, ◌∙◌}
use Rattle.worm_split.specs.Ends.{leaves_by}
use Rattle.worm_split.specs.PartState.{part_state, end_of}
use Rattle.worm_split.proofs.EndsKnown.{HasLinks, out_looked_up, out_end_bound}
use Rattle.worm_split.proofs.Staying.{leaves_means}
use Rattle.worm_split.proofs.part.Part.leaves.Goals as goal
use Rattle.worm_split.proofs.part.Part.leaves.Goals.{In-Some}

-- the link out of the port
leaving : (c : In-Some)
    → let i = c.self.inside in
    HasLinks (part_state i.region i.ends.items i.opening.value i.pairs.value.items) c.args.node c.args.out
    c.in-Some.links
leaving c = record {
  part = c.self.invariant.0;
  framed = c.recall.ensures.framed;
  at = sym c.in-Some.is ∙ c.links_at.ensures;
}

pub index-requires : goal.index-requires
index-requires c =
    omega (arith, out_end_bound (leaving (goal.at.index-requires c).In-Some) c.from.result c.from.ensures)

pub returns : goal.returns
returns c =
    let i = c.self.inside in
    let p = part_state i.region i.ends.items i.opening.value i.pairs.value.items in
    let looked = out_looked_up (leaving (goal.at.returns c).In-Some) c.from.result c.index.result.now c.from.ensures
    c.index.ensures in
    rw (← c.self.view_is) (leaves_means (end_of p c.args.node c.args.out) c.is_leaving.result
    (c.is_leaving.ensures ∙ ap leaves_by looked))
