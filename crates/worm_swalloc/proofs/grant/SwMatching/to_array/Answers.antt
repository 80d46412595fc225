use Rattle.std.proofs.Common.{◌∙◌, None, arith, sym, ap, length, slice_index_or, slice_set, inl, inr}
use Rattle.std.proofs.Common.{get_or-set_same, get_or-set_other}
use Rattle.std.proofs.lemmas.Bool.{cases_eq}
use Rattle.std.proofs.lemmas.List.{length-set, ext_get_or}
use Rattle.worm_swalloc.proofs.GrantsOfSet.{length-granted_of}
use Rattle.worm_swalloc.proofs.grant.SwMatching.to_array.Goals as goal

pub loop-port-preserved : goal.loop-port-preserved
loop-port-preserved c =
    let long = c.loop-port.invariant.0 in (
      length-set c.loop-port.grants c.loop-port.port c.get.result ∙ long,
      λ p below. elim (cases_eq p c.loop-port.port) [
        | inl e ↦
            ap (λ k. slice_index_or (slice_set c.loop-port.grants c.loop-port.port c.get.result) k None) e
            ∙ get_or-set_same c.loop-port.grants c.loop-port.port c.get.result None (omega arith)
            ∙ c.get.ensures ∙ sym (ap (λ k. slice_index_or c.args.self.now k None) e)
        | inr other ↦
            get_or-set_other c.loop-port.grants c.loop-port.port p c.get.result None other
            ∙ c.loop-port.invariant.1 p (omega arith)
      ],
    )

pub returns : goal.returns
returns c =
    ext_get_or None c.loop-port.grants c.args.self.now
    (c.loop-port.invariant.0 ∙ sym (ap length (sym c.self.view_is)
    ∙ length-granted_of c.self.inside.requests c.self.inside.granted))
    (λ p below. c.loop-port.invariant.1 p (omega (arith, below, c.loop-port.invariant.0)))
