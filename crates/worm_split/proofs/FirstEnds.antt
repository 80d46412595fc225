-- A worker's ends of links as they are made: nothing has gone over them.
use Rattle.std.proofs.Common.{◌≡◌, ℕ, Bool, true, false, cond, List, [], refl}
use Rattle.worm_flit.specs.declared.Flit.{Flit}
use Rattle.worm_split.specs.declared.ends.End.{End}
use Rattle.worm_split.specs.declared.ends.End.TheVariants.{Inner, Leaving, Entering}
use Rattle.worm_split.specs.Ends.{AreEndsMade, IsSameEnd, given_on, returned_on, sent_on, taken_on}

pub same_end_itself : (e : End) → IsSameEnd e e
same_end_itself Inner = tt
same_end_itself (Leaving tx back) = (refl, refl, refl, refl, refl)
same_end_itself (Entering rx give) = (refl, refl, refl, refl, refl)

-- the worker's end of a link, of which it owns the near node or not, and the far one or not
abbrev pub first_end : Bool → Bool → End → End → End
first_end near far out into = cond near (cond far Inner out) (cond far into Inner)

-- What the worker sees of the link over it: of a link that leaves its nodes nothing was sent, of one that enters them
-- no credit was given.
pub record IsUnused (near far : Bool) (e : End) : Type 0 where
  pub took : taken_on e ≡ []
  pub got : returned_on e ≡ []
  pub inner : near ≡ far → e ≡ Inner
  pub leaves : near ≡ true → far ≡ false → (flits : List Flit) (credits : List ℕ) → (sent_on e flits ≡ [])
      × (given_on e credits ≡ credits)
  pub enters : near ≡ false → far ≡ true → (flits : List Flit) (credits : List ℕ) → (sent_on e flits ≡ flits)
      × (given_on e credits ≡ [])

module _ (mesh channels : List ℕ) (depth y o : ℕ) (past : List Flit) where
  out_unused : (out into : End) → AreEndsMade mesh channels depth y o past out into → IsUnused true false out
  out_unused Inner into made = absurd made
  out_unused (Entering rx give) into made = absurd made
  out_unused (Leaving tx back) Inner made = absurd made
  out_unused (Leaving tx back) (Leaving tx1 back1) made = absurd made
  out_unused (Leaving tx back) (Entering rx give) made = record {
    took = refl;
    got = made.2.1;
    inner = λ e. absurd (cc);
    leaves = λ near far flits credits. (made.0.2, refl);
    enters = λ near far flits credits. absurd (cc);
  }

  into_unused : (out into : End) → AreEndsMade mesh channels depth y o past out into → IsUnused false true into
  into_unused Inner into made = absurd made
  into_unused (Entering rx give) into made = absurd made
  into_unused (Leaving tx back) Inner made = absurd made
  into_unused (Leaving tx back) (Leaving tx1 back1) made = absurd made
  into_unused (Leaving tx back) (Entering rx give) made = record {
    took = made.1.3;
    got = refl;
    inner = λ e. absurd (cc);
    leaves = λ near far flits credits. absurd (cc);
    enters = λ near far flits credits. (refl, made.3.2);
  }

  pub first_unused : (near far : Bool) (out into : End) → ((near ≡ far → ⊥)
      → AreEndsMade mesh channels depth y o past out into)
      → IsUnused near far (first_end near far out into)
  first_unused true true out into made = record {
    took = refl;
    got = refl;
    inner = λ e. refl;
    leaves = λ near far flits credits. absurd (cc);
    enters = λ near far flits credits. absurd (cc);
  }
  first_unused true false out into made = out_unused out into (made (λ e. cc))
  first_unused false true out into made = into_unused out into (made (λ e. cc))
  first_unused false false out into made = record {
    took = refl;
    got = refl;
    inner = λ e. refl;
    leaves = λ near far flits credits. absurd (cc);
    enters = λ near far flits credits. absurd (cc);
  }
