-- The two ends of a link between two workers, each as its worker has it, are of one flit queue and of one credit line.
use Rattle.std.proofs.Common.{◌≡◌, ℕ, List, refl, sym, ◌∙◌}
use Rattle.worm_flit.specs.declared.Flit.{Flit}
use Rattle.worm_links.specs.Links.{TxView, RxView, CreditTxView, CreditRxView}
use Rattle.worm_split.specs.declared.ends.End.{End}
use Rattle.worm_split.specs.declared.ends.End.TheVariants.{Inner, Leaving, Entering}
use Rattle.worm_split.specs.Ends.{IsSameEnd, AreEndsMade}

pub record Meet (near far : End) : Type 0 where
  pub tx : TxView
  pub back : CreditRxView
  pub rx : RxView
  pub give : CreditTxView
  pub near_is : near ≡ Leaving tx back
  pub far_is : far ≡ Entering rx give
  pub queue : tx.queue ≡ rx.queue
  pub line : give.queue ≡ back.queue

module _ (mesh channels : List ℕ) (depth y o : ℕ) (past : List Flit) where
  pub ends_meet : (out into near far : End) → AreEndsMade mesh channels depth y o past out into → IsSameEnd out near
      → IsSameEnd into far
      → Meet near far
  ends_meet Inner into near far made h k = absurd made
  ends_meet (Entering rx give) into near far made h k = absurd made
  ends_meet (Leaving tx back) Inner near far made h k = absurd made
  ends_meet (Leaving tx back) (Leaving tx1 back1) near far made h k = absurd made
  ends_meet (Leaving tx back) (Entering rx give) Inner far made h k = absurd h
  ends_meet (Leaving tx back) (Entering rx give) (Entering rx1 give1) far made h k = absurd h
  ends_meet (Leaving tx back) (Entering rx give) (Leaving tx1 back1) Inner made h k = absurd k
  ends_meet (Leaving tx back) (Entering rx give) (Leaving tx1 back1) (Leaving tx2 back2) made h k = absurd k
  ends_meet (Leaving tx back) (Entering rx give) (Leaving tx1 back1) (Entering rx1 give1) made h k = record {
    tx = tx1;
    back = back1;
    rx = rx1;
    give = give1;
    near_is = refl;
    far_is = refl;
    queue = h.2 ∙ (sym made.1.2 ∙ sym k.2);
    line = k.4 ∙ (made.3.1 ∙ sym h.4);
  }

-- an end that is of no queue, as it was made
pub still_inner : (e : End) → IsSameEnd Inner e → e ≡ Inner
still_inner Inner h = refl
still_inner (Leaving tx back) h = absurd h
still_inner (Entering rx give) h = absurd h
