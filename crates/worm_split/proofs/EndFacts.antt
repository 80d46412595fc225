-- What a part knows of its end of a link.
use Rattle.std.proofs.Common.{◌≡◌, ℕ, Bool, true, false, cond, List, refl, sym, subst, ◌∙◌}
use Rattle.worm_flit.specs.declared.Flit.{Flit}
use Rattle.worm_links.specs.declared.LinkCfg.{LinkCfg}
use Rattle.worm_links.specs.Links.{TxView, RxView, CreditTxView, CreditRxView}
use Rattle.worm_split.specs.declared.ends.End.{End}
use Rattle.worm_split.specs.declared.ends.End.TheVariants.{Inner, Leaving, Entering}
use Rattle.worm_split.specs.Ends.{IsLinkOf, IsSameEnd, AreEndsMade}

-- the sender's end of a link
pub record IsLeavingEnd (mesh channels : List ℕ) (y o : ℕ) (past : List Flit) (near far : Bool) (tx : TxView)
    (back : CreditRxView) : Type 0 where
  pub near_own : near ≡ true
  pub far_elsewhere : far ≡ false
  pub link : IsLinkOf mesh channels y o tx.link
  pub past_is : tx.past ≡ past
  pub line : back.link ≡ tx.link

-- the taker's end of one
pub record IsEnteringEnd (mesh channels : List ℕ) (y o : ℕ) (past : List Flit) (near far : Bool) (rx : RxView)
    (give : CreditTxView) : Type 0 where
  pub near_elsewhere : near ≡ false
  pub far_own : far ≡ true
  pub link : IsLinkOf mesh channels y o rx.link
  pub past_is : rx.past ≡ past
  pub line : give.link ≡ rx.link

module _ (mesh channels : List ℕ) (depth y o : ℕ) (past : List Flit) where
  link_of_same : (a b : LinkCfg) → b ≡ a → IsLinkOf mesh channels y o a → IsLinkOf mesh channels y o b
  link_of_same a b e h = subst (IsLinkOf mesh channels y o) (sym e) h

  -- by which of the link's nodes are owned, and the ends that were made of it
  pub leaving_end : (near far : Bool) (out into : End) (tx : TxView) (back : CreditRxView)
      → ((near ≡ far → ⊥) → AreEndsMade mesh channels depth y o past out into)
      → IsSameEnd (cond near (cond far Inner out) (cond far into Inner)) (Leaving tx back)
      → IsLeavingEnd mesh channels y o past near far tx back
  leaving_end true true out into tx back made same = absurd same
  leaving_end false false out into tx back made same = absurd same
  leaving_end true false Inner into tx back made same = absurd same
  leaving_end true false (Entering rx give) into tx back made same = absurd same
  leaving_end true false (Leaving tx0 back0) Inner tx back made same = absurd (made (λ e. cc))
  leaving_end true false (Leaving tx0 back0) (Leaving tx1 back1) tx back made same = absurd (made (λ e. cc))
  leaving_end true false (Leaving tx0 back0) (Entering rx0 give0) tx back made same =
      let ends = made (λ e. cc) in
      record {
        near_own = refl;
        far_elsewhere = refl;
        link = link_of_same tx0.link tx.link same.0 ends.0.0;
        past_is = same.1 ∙ ends.0.1;
        line = same.3 ∙ (ends.2.0 ∙ sym same.0);
      }
  leaving_end false true Inner into tx back made same = absurd (made (λ e. cc))
  leaving_end false true (Entering rx give) into tx back made same = absurd (made (λ e. cc))
  leaving_end false true (Leaving tx0 back0) Inner tx back made same = absurd same
  leaving_end false true (Leaving tx0 back0) (Leaving tx1 back1) tx back made same = absurd (made (λ e. cc))
  leaving_end false true (Leaving tx0 back0) (Entering rx0 give0) tx back made same = absurd same

  pub entering_end : (near far : Bool) (out into : End) (rx : RxView) (give : CreditTxView)
      → ((near ≡ far → ⊥) → AreEndsMade mesh channels depth y o past out into)
      → IsSameEnd (cond near (cond far Inner out) (cond far into Inner)) (Entering rx give)
      → IsEnteringEnd mesh channels y o past near far rx give
  entering_end true true out into rx give made same = absurd same
  entering_end false false out into rx give made same = absurd same
  entering_end true false Inner into rx give made same = absurd same
  entering_end true false (Entering rx1 give1) into rx give made same = absurd (made (λ e. cc))
  entering_end true false (Leaving tx0 back0) into rx give made same = absurd same
  entering_end false true Inner into rx give made same = absurd (made (λ e. cc))
  entering_end false true (Entering rx1 give1) into rx give made same = absurd (made (λ e. cc))
  entering_end false true (Leaving tx0 back0) Inner rx give made same = absurd same
  entering_end false true (Leaving tx0 back0) (Leaving tx1 back1) rx give made same = absurd same
  entering_end false true (Leaving tx0 back0) (Entering rx0 give0) rx give made same =
      let ends = made (λ e. cc) in
      record {
        near_elsewhere = refl;
        far_own = refl;
        link = link_of_same tx0.link rx.link (same.0 ∙ ends.1.0) ends.0.0;
        past_is = same.1 ∙ ends.1.1;
        line = same.3 ∙ (ends.3.0 ∙ sym (same.0 ∙ ends.1.0));
      }

  -- where one of the link's nodes is owned and the other is not, it has an end
  pub inner_end : (near far : Bool) (out into : End)
      → ((near ≡ far → ⊥) → AreEndsMade mesh channels depth y o past out into)
      → IsSameEnd (cond near (cond far Inner out) (cond far into Inner)) Inner → near ≡ far
  inner_end true true out into made same = refl
  inner_end false false out into made same = refl
  inner_end true false Inner into made same = absurd (made (λ e. cc))
  inner_end true false (Entering rx give) into made same = absurd same
  inner_end true false (Leaving tx0 back0) into made same = absurd same
  inner_end false true Inner into made same = absurd (made (λ e. cc))
  inner_end false true (Entering rx1 give1) into made same = absurd (made (λ e. cc))
  inner_end false true (Leaving tx0 back0) Inner made same = absurd (made (λ e. cc))
  inner_end false true (Leaving tx0 back0) (Leaving tx1 back1) made same = absurd same
  inner_end false true (Leaving tx0 back0) (Entering rx0 give0) made same = absurd same
