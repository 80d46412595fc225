-- What the workers did, one worker more after the others.
use Rattle.std.proofs.Common.{◌≡◌, ℕ, ◌+◌, List, [], ◌∷◌, ◌++◌, length, arith, subst, sym, ap, ◌∙◌, append-nil}
use Rattle.std.proofs.Common.{append_assoc}
use Rattle.worm_script.specs.declared.entry.Entry.{Entry}
use Rattle.worm_split.specs.PartState.{PartState}
use Rattle.worm_run.specs.declared.working.Worked.{Worked}
use Rattle.worm_run.specs.Working.{AllWorked, WorkedAs, stop_of}
use Rattle.worm_run.specs.Runs.{Ending, stops_of}

pub AllWorked-snoc : (stop pass : ℕ → ℕ → Type 0) (script : List Entry) (turns first last : ℕ)
    (ps : List PartState) (ws : List Worked) (p : PartState) (w : Worked) → last ≡ first + length ps →
    AllWorked stop pass script turns first ps ws → WorkedAs stop pass script turns last p w →
    AllWorked stop pass script turns first (ps ++ p ∷ []) (ws ++ w ∷ [])
AllWorked-snoc stop pass script turns first last [] [] p w at all here =
    let same : last ≡ first = omega arith in
    (subst (λ (n : ℕ). WorkedAs stop pass script turns n p w) same here, tt)
AllWorked-snoc stop pass script turns first last [] (x ∷ ws) p w at all here = absurd all
AllWorked-snoc stop pass script turns first last (q ∷ ps) [] p w at all here = absurd all
AllWorked-snoc stop pass script turns first last (q ∷ ps) (x ∷ ws) p w at all here =
    (all.0, AllWorked-snoc stop pass script turns (first + 1) last ps ws p w (omega arith) all.1 here)

-- the stops of one worker more
pub stops_of-snoc : (first last : ℕ) (es : List Ending) (e : Ending) → last ≡ first + length es →
    stops_of first (es ++ e ∷ []) ≡ stops_of first es ++ stop_of last e.ended e.why
stops_of-snoc first last [] e at =
    let same : last ≡ first = omega arith in
    append-nil (stop_of first e.ended e.why) ∙ ap (λ (n : ℕ). stop_of n e.ended e.why) (sym same)
stops_of-snoc first last (x ∷ es) e at =
    ap (λ l. stop_of first x.ended x.why ++ l) (stops_of-snoc (first + 1) last es e (omega arith))
    ∙ sym (append_assoc (stop_of first x.ended x.why) (stops_of (first + 1) es) (stop_of last e.ended e.why))

-- of no parts there are no workers
pub none_worked : (stop pass : ℕ → ℕ → Type 0) (script : List Entry) (turns : ℕ) (ps : List PartState)
    (ws : List Worked) → ps ≡ [] → ws ≡ [] → AllWorked stop pass script turns 0 ps ws
none_worked stop pass script turns ps ws no_parts none = rw (no_parts, none) tt
