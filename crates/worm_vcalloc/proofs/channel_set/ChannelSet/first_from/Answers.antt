use Rattle.std.proofs.Common.{◌<◌, ◌/◌, ◌%◌, arith, subst, sym}
use Rattle.std.specs.Int.{trailing_zeros, w64}
use Rattle.worm_vcalloc.specs.ChannelSet.{IsFirstFrom}
use Rattle.worm_vcalloc.proofs.PlacesInOrder.{first_ahead, first_behind}
use Rattle.worm_vcalloc.proofs.channel_set.ChannelSet.first_from.Goals as goal
use Rattle.worm_vcalloc.proofs.channel_set.ChannelSet.first_from.Goals.{then-ahead-ne0, else-ahead-ne0}

pub returns : goal.returns
returns c =
    let some : 0 < c.self.inside.bits = omega arith in
    rw (← c.self.view_is) (elim c.if-ahead-ne0.branch [
      | then-ahead-ne0 w ↦
          subst (λ asked. IsFirstFrom c.self.inside.bits c.args.place (trailing_zeros w64 asked / 8)
          (trailing_zeros w64 asked % 8)) (sym w.asked-is)
          (first_ahead c.self.inside.bits c.args.place c.self.invariant c.requires
          (omega (arith, w.if-ahead-ne0.true)))
      | else-ahead-ne0 w ↦
          subst (λ asked. IsFirstFrom c.self.inside.bits c.args.place (trailing_zeros w64 asked / 8)
          (trailing_zeros w64 asked % 8)) (sym w.asked-is)
          (first_behind c.self.inside.bits c.args.place c.self.invariant c.requires some w.if-ahead-ne0.false)
    ])
