use Rattle.std.proofs.Common.{◌≡◌, ◌<◌, true, false, inl, inr, arith, length, sym, ◌∙◌}
use Rattle.std.specs.Prelude.{slice_index_or, slice_set}
use Rattle.std.proofs.lemmas.Bool.{cases_eq}
use Rattle.std.proofs.lemmas.List.{get_or-set_other}
use Rattle.worm_region.proofs.TurnInParts.{begun_same, marked}
use Rattle.worm_region.proofs.turn.sources_of.Goals as goal

pub loop-i-preserved : goal.loop-i-preserved
loop-i-preserved c = λ x below unmarked. elim (cases_eq x c.from.result) [
  | inl here ↦
      let set : slice_index_or (slice_set c.loop-i.sources c.from.result true) x true ≡ true =
      rw here (marked c.loop-i.sources c.from.result) in
      let no : true ≡ false = sym set ∙ unmarked in
      absurd (cc)
  | inr other ↦
      let within : c.loop-i.i < length c.args.entries.now = omega arith in
      begun_same x c.args.entries.now c.loop-i.i c.source.result within c.source.ensures
      (λ same. other (sym (c.from.ensures ∙ same)))
      (c.loop-i.invariant x below (sym (get_or-set_other c.loop-i.sources c.from.result x true true other) ∙ unmarked))
]
