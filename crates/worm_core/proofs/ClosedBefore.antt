-- Entries close a lane where an entry among them does.
use Rattle.std.proofs.Common.{◌≡◌, ◌||◌, Bool, true, false, List, [], ◌∷◌, ◌++◌, refl, ap, ◌∙◌}
use Rattle.std.proofs.lemmas.List.Folds.{list_any-append}
use Rattle.worm_flit.specs.declared.Lane.{Lane}
use Rattle.worm_script.specs.declared.entry.Entry.{Entry}
use Rattle.worm_core.specs.Acceptable.{closes, is_closed}

pub still_closed : (before more : List Entry) (lane : Lane) → is_closed before lane ≡ true
    → is_closed (before ++ more) lane ≡ true
still_closed before more lane e = list_any-append (λ (f : Entry). closes lane f.act) before more ∙ rw e refl

or_true : (b : Bool) → (b || true) ≡ true
or_true true = refl
or_true false = refl

pub closed_last : (before : List Entry) (e : Entry) (lane : Lane) → closes lane e.act ≡ true
    → is_closed (before ++ e ∷ []) lane ≡ true
closed_last before e lane h =
    let last : is_closed (e ∷ []) lane ≡ true = rw h refl in
    list_any-append (λ (f : Entry). closes lane f.act) before (e ∷ [])
    ∙ (ap (λ (b : Bool). is_closed before lane || b) last ∙ or_true (is_closed before lane))
