-- What goes over the worker's ends of links, as the theory of a part has it: a change of one end and of the lists is a
-- change of what was sent, given or came.
use Rattle.std.proofs.Common.{◌≡◌, ℕ, inl, inr, List, [], ◌∷◌, ◌++◌, refl, ap}
use Rattle.worm_flit.specs.declared.Flit.{Flit}
use Rattle.worm_links.specs.Links.{TxView, RxView, CreditTxView, CreditRxView}
use Rattle.worm_theory.specs.Network.{Network, put2}
use Rattle.worm_theory.proofs.Places.{place_cases}
use Rattle.worm_theory.proofs.Bridge.{same_network}
use Rattle.worm_split.specs.declared.ends.End.{End}
use Rattle.worm_split.specs.declared.ends.End.TheVariants.{Leaving, Entering}
use Rattle.worm_split.specs.Ends.{seen_by, sent_on, given_on, taken_on, returned_on}

module _ (end : ℕ → ℕ → End) (net : Network) (x o : ℕ) where
  -- a credit comes back over a link that leaves the part
  pub credit_back : (c : ℕ) (tx : TxView) (back : CreditRxView) → end x o ≡ Leaving tx back
      → let seen = seen_by end net in
      seen_by (put2 end x o (Leaving tx (record back { taken = back.taken ++ c ∷ [] })))
      (record net { credit_list = put2 net.credit_list x o (net.credit_list x o ++ c ∷ []) })
      ≡ record seen { credit_list = put2 seen.credit_list x o (seen.credit_list x o ++ c ∷ []) }
  credit_back c tx back e = same_network _ _ record {
    buffer = λ y p v. refl;
    in_record = λ y p v. refl;
    last_out = λ y p v. refl;
    owed = λ y p v. refl;
    holder = λ y p v. refl;
    credits = λ y p v. refl;
    out = λ y q. elim (place_cases y q x o) [
      | inl here ↦ rw here.0 (rw (here.1, here.2) (rw e refl))
      | inr away ↦ rw away.0 refl
    ];
    credit_list = λ y q. elim (place_cases y q x o) [
      | inl here ↦ rw here.0 (rw e refl)
      | inr away ↦ rw away.0 refl
    ];
    injected = λ y k. refl;
    unfed = λ y k. refl;
  }

  pub credit_returned : (c : ℕ) (tx : TxView) (back : CreditRxView) → end x o ≡ Leaving tx back → (y q : ℕ)
      → returned_on (put2 end x o (Leaving tx (record back { taken = back.taken ++ c ∷ [] })) y q)
      ≡ put2 (λ y2 q2. returned_on (end y2 q2)) x o (returned_on (end x o) ++ c ∷ []) y q
  credit_returned c tx back e y q = elim (place_cases y q x o) [
    | inl here ↦ rw here.0 (rw e refl)
    | inr away ↦ rw away.0 refl
  ]

  pub credit_takes_none : (c : ℕ) (tx : TxView) (back : CreditRxView) → end x o ≡ Leaving tx back → (y q : ℕ)
      → taken_on (put2 end x o (Leaving tx (record back { taken = back.taken ++ c ∷ [] })) y q) ≡ taken_on (end y q)
  credit_takes_none c tx back e y q = elim (place_cases y q x o) [
    | inl here ↦ rw here.0 (rw (here.1, here.2) (rw e refl))
    | inr away ↦ rw away.0 refl
  ]

  -- a flit comes over a link that enters the part
  pub flit_came : (f : Flit) (rx : RxView) (give : CreditTxView) → end x o ≡ Entering rx give
      → let seen = seen_by end net in
      seen_by (put2 end x o (Entering (record rx { taken = rx.taken ++ f ∷ [] }) give))
      (record net { out = put2 net.out x o (net.out x o ++ f ∷ []) })
      ≡ record seen { out = put2 seen.out x o (seen.out x o ++ f ∷ []) }
  flit_came f rx give e = same_network _ _ record {
    buffer = λ y p v. refl;
    in_record = λ y p v. refl;
    last_out = λ y p v. refl;
    owed = λ y p v. refl;
    holder = λ y p v. refl;
    credits = λ y p v. refl;
    out = λ y q. elim (place_cases y q x o) [
      | inl here ↦ rw here.0 (rw e refl)
      | inr away ↦ rw away.0 refl
    ];
    credit_list = λ y q. elim (place_cases y q x o) [
      | inl here ↦ rw here.0 (rw (here.1, here.2) (rw e refl))
      | inr away ↦ rw away.0 refl
    ];
    injected = λ y k. refl;
    unfed = λ y k. refl;
  }

  pub flit_taken : (f : Flit) (rx : RxView) (give : CreditTxView) → end x o ≡ Entering rx give → (y q : ℕ)
      → taken_on (put2 end x o (Entering (record rx { taken = rx.taken ++ f ∷ [] }) give) y q)
      ≡ put2 (λ y2 q2. taken_on (end y2 q2)) x o (taken_on (end x o) ++ f ∷ []) y q
  flit_taken f rx give e y q = elim (place_cases y q x o) [
    | inl here ↦ rw here.0 (rw e refl)
    | inr away ↦ rw away.0 refl
  ]

  pub flit_returns_none : (f : Flit) (rx : RxView) (give : CreditTxView) → end x o ≡ Entering rx give → (y q : ℕ)
      → returned_on (put2 end x o (Entering (record rx { taken = rx.taken ++ f ∷ [] }) give) y q)
      ≡ returned_on (end y q)
  flit_returns_none f rx give e y q = elim (place_cases y q x o) [
    | inl here ↦ rw here.0 (rw (here.1, here.2) (rw e refl))
    | inr away ↦ rw away.0 refl
  ]

  -- a flit leaves over a link that leaves the part
  pub flit_sent : (f : Flit) (tx : TxView) (back : CreditRxView) → end x o ≡ Leaving tx back → (other : Network)
      → other.out ≡ net.out → other.credit_list ≡ net.credit_list
      → seen_by (put2 end x o (Leaving (record tx { sent = tx.sent ++ f ∷ [] }) back)) other
      ≡ record (seen_by end other) { out = put2 (seen_by end net).out x o ((seen_by end net).out x o ++ f ∷ []) }
  flit_sent f tx back e other same_out same_credits = same_network _ _ record {
    buffer = λ y p v. refl;
    in_record = λ y p v. refl;
    last_out = λ y p v. refl;
    owed = λ y p v. refl;
    holder = λ y p v. refl;
    credits = λ y p v. refl;
    out = λ y q. elim (place_cases y q x o) [
      | inl here ↦ rw here.0 (rw e refl)
      | inr away ↦ rw away.0 (ap (λ (out : ℕ → ℕ → List Flit). sent_on (end y q) (out y q)) same_out)
    ];
    credit_list = λ y q. elim (place_cases y q x o) [
      | inl here ↦ rw here.0 (rw (here.1, here.2) (rw e refl))
      | inr away ↦ rw away.0 refl
    ];
    injected = λ y k. refl;
    unfed = λ y k. refl;
  }

  -- a credit is given over a link that enters it
  pub credit_given : (c : ℕ) (rx : RxView) (give : CreditTxView) → end x o ≡ Entering rx give → (other : Network)
      → other.out ≡ net.out → other.credit_list ≡ net.credit_list
      → seen_by (put2 end x o (Entering rx (record give { sent = give.sent ++ c ∷ [] }))) other
      ≡ record (seen_by end other) {
        credit_list = put2 (seen_by end net).credit_list x o
            ((seen_by end net).credit_list x o ++ c ∷ []);
      }
  credit_given c rx give e other same_out same_credits = same_network _ _ record {
    buffer = λ y p v. refl;
    in_record = λ y p v. refl;
    last_out = λ y p v. refl;
    owed = λ y p v. refl;
    holder = λ y p v. refl;
    credits = λ y p v. refl;
    out = λ y q. elim (place_cases y q x o) [
      | inl here ↦ rw here.0 (rw (here.1, here.2) (rw e refl))
      | inr away ↦ rw away.0 refl
    ];
    credit_list = λ y q. elim (place_cases y q x o) [
      | inl here ↦ rw here.0 (rw e refl)
      | inr away ↦ rw away.0 (ap (λ (list : ℕ → ℕ → List ℕ). given_on (end y q) (list y q)) same_credits)
    ];
    injected = λ y k. refl;
    unfed = λ y k. refl;
  }

  -- neither changes what was taken or came back
  pub sent_takes : (f : Flit) (tx : TxView) (back : CreditRxView) → end x o ≡ Leaving tx back → (y q : ℕ)
      → (taken_on (put2 end x o (Leaving (record tx { sent = tx.sent ++ f ∷ [] }) back) y q) ≡ taken_on (end y q))
      × (returned_on (put2 end x o (Leaving (record tx { sent = tx.sent ++ f ∷ [] }) back) y q) ≡ returned_on (end y q))
  sent_takes f tx back e y q = elim (place_cases y q x o) [
    | inl here ↦ rw here.0 (rw (here.1, here.2) (rw e (refl, refl)))
    | inr away ↦ rw away.0 (refl, refl)
  ]

  pub given_takes : (c : ℕ) (rx : RxView) (give : CreditTxView) → end x o ≡ Entering rx give → (y q : ℕ)
      → (taken_on (put2 end x o (Entering rx (record give { sent = give.sent ++ c ∷ [] })) y q) ≡ taken_on (end y q))
      × (returned_on (put2 end x o (Entering rx (record give { sent = give.sent ++ c ∷ [] })) y q)
      ≡ returned_on (end y q))
  given_takes c rx give e y q = elim (place_cases y q x o) [
    | inl here ↦ rw here.0 (rw (here.1, here.2) (rw e (refl, refl)))
    | inr away ↦ rw away.0 (refl, refl)
  ]
