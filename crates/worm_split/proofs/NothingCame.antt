-- Nothing came off an end: the part stays as it was.
use Rattle.std.proofs.Common.{◌≡◌, ◌∙◌, ℕ, List, get_or, ap, sym, subst}
use Rattle.std.specs.Prelude.{slice_set}
use Rattle.std.proofs.lemmas.List.{set-get_or}
use Rattle.worm_split.specs.declared.ends.End.{End}
use Rattle.worm_split.specs.PartState.{PartState, IsSamePart}
use Rattle.worm_split.proofs.PartLoops.{same_still}

pub nothing_off : (p : PartState) (n : ℕ) (old new : End) → old ≡ get_or p.ends n old → new ≡ old →
    record p { ends = slice_set p.ends n new } ≡ p
nothing_off p n old new looked same =
    ap (λ (e : End). record p { ends = slice_set p.ends n e }) (same ∙ looked)
    ∙ ap (λ (es : List End). record p { ends = es }) (set-get_or p.ends n old)

pub still_same : (old new : PartState) → new ≡ old → IsSamePart old new
still_same old new same = subst (λ (p : PartState). IsSamePart old p) (sym same) (same_still old)
