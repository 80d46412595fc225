-- What comes and goes over a part's ends keeps it a part.
use Rattle.std.proofs.Common.{◌≡◌, ℕ, List, [], ◌∷◌, ◌++◌, Some, refl, sym, ap, subst, ◌∙◌}
use Rattle.worm_flit.specs.declared.Flit.{Flit}
use Rattle.worm_flit.specs.Stamps.{on_channel, with_channel}
use Rattle.worm_flit.specs.Worms.{Continues}
use Rattle.worm_records.specs.declared.InRecord.TheVariants.{Active}
use Rattle.worm_theory.specs.Network.{Network, put2}
use Rattle.worm_theory.specs.Steps.{IsThere, Enabled, Send, GiveCredit, after, sent, sent_by, gave, gave_to}
use Rattle.worm_links.specs.Links.{TxView, RxView, CreditTxView, CreditRxView, MayCross}
use Rattle.worm_mesh.specs.Address.{neighbour_of}
use Rattle.worm_region.specs.Shape.{net_shape}
use Rattle.worm_region.specs.State.{NetState, IsSameConfig, shape, network_of}
use Rattle.worm_theory.specs.Region.{HasPart, among}
use Rattle.worm_theory.specs.Openings.{past_of}
use Rattle.worm_theory.proofs.Regions.{pull_part, step_part}
use Rattle.worm_theory.proofs.RegionQueues.{pull_credit_region}
use Rattle.worm_split.specs.declared.ends.End.{End}
use Rattle.worm_split.specs.declared.ends.End.TheVariants.{Leaving, Entering}
use Rattle.worm_split.specs.Ends.{IsSameEnd, seen_by, taken_on, returned_on}
use Rattle.worm_split.specs.PartState.{PartState, IsPart, end_of, owns, part_network, taken_by, returned_to}
use Rattle.worm_split.specs.PartTurns.{with_end}
use Rattle.worm_split.proofs.Crossing.{cross_leaves}
use Rattle.worm_split.proofs.PartFacts.{mesh_of_part, linked_there, is_leaving, is_entering, part_with_end}
use Rattle.worm_split.proofs.SeenAtEnds.{credit_back, credit_returned, credit_takes_none, flit_came, flit_taken}
use Rattle.worm_split.proofs.SeenAtEnds.{flit_returns_none, flit_sent, sent_takes, credit_given, given_takes}

module _ (p : PartState) (part : IsPart p) (x o y : ℕ) (linked : (shape p.opening).neighbour x o ≡ Some y)
    (net : NetState) (config : IsSameConfig p.net net) where
  pub linked_now : neighbour_of p.net.mesh x o ≡ Some y
  unfolding net_shape
  linked_now = rw part.config.mesh linked

  -- a part with another end of this link, in the words of the theory
  by_theory : (e : End) → IsSameEnd (end_of p x o) e
      → (n : Network) (taken : ℕ → ℕ → List Flit) (returned : ℕ → ℕ → List ℕ)
      → n ≡ seen_by (put2 (end_of p) x o e) (network_of net)
      → ((z q : ℕ) → taken_on (put2 (end_of p) x o e z q) ≡ taken z q)
      → ((z q : ℕ) → returned_on (put2 (end_of p) x o e z q) ≡ returned z q)
      → HasPart (shape p.opening) (network_of p.opening) (owns p) n taken returned → IsPart (with_end p x o e net)
  by_theory e same n taken returned network takes returns had =
      let s = shape p.opening in
      let old = network_of p.opening in
      let takes_all : taken ≡ (λ z q. taken_on (put2 (end_of p) x o e z q)) = λ t z q. sym (takes z q) t in
      let returns_all : returned ≡ (λ z q. returned_on (put2 (end_of p) x o e z q)) = λ t z q. sym (returns z q) t in
      let first = subst (λ (m : Network). HasPart s old (owns p) m taken returned) network had in
      let second = subst (λ (f : ℕ → ℕ → List Flit). HasPart s old (owns p)
      (seen_by (put2 (end_of p) x o e) (network_of net)) f returned) takes_all first in
      part_with_end p part x o e net (linked_there p part x o y linked_now) config same
      (subst (λ (f : ℕ → ℕ → List ℕ). HasPart s old (owns p) (seen_by (put2 (end_of p) x o e) (network_of net))
      (λ z q. taken_on (put2 (end_of p) x o e z q)) f) returns_all second)

  -- a credit comes back over a link that leaves the part
  pub credit_comes : (tx : TxView) (back : CreditRxView) (c : ℕ) → end_of p x o ≡ Leaving tx back
      → network_of net ≡ record (network_of p.net)
      { credit_list = put2 (network_of p.net).credit_list x o ((network_of p.net).credit_list x o ++ c ∷ []) }
      → IsPart (with_end p x o (Leaving tx (record back { taken = back.taken ++ c ∷ [] })) net)
  credit_comes tx back c end after_it =
      let N = network_of p.net in
      let e = Leaving tx (record back { taken = back.taken ++ c ∷ [] }) in
      let is = is_leaving p part x o y tx back linked end in
      let seen = part_network p in
      by_theory e (rw end (refl, refl, refl, refl, refl))
      (record seen { credit_list = put2 seen.credit_list x o (seen.credit_list x o ++ c ∷ []) }) (taken_by p)
      (put2 (returned_to p) x o (returned_to p x o ++ c ∷ []))
      (sym (ap (λ (n : Network). seen_by (put2 (end_of p) x o e) n) after_it
      ∙ credit_back (end_of p) N x o c tx back end))
      (credit_takes_none (end_of p) N x o c tx back end) (credit_returned (end_of p) N x o c tx back end)
      (pull_credit_region (shape p.opening) (mesh_of_part p part) (network_of p.opening) (owns p)
      (among (owns p) seen (network_of p.opening)) (taken_by p)
      (returned_to p) part.holds x o y linked c is.near_own is.far_elsewhere)

  -- a flit comes over a link that enters it
  pub flit_comes : (rx : RxView) (give : CreditTxView) (f : Flit) → end_of p x o ≡ Entering rx give
      → Continues (on_channel f.vc (rx.past ++ rx.taken)) f → MayCross rx.link f
      → network_of net ≡ record (network_of p.net)
      { out = put2 (network_of p.net).out x o ((network_of p.net).out x o ++ f ∷ []) }
      → IsPart (with_end p x o (Entering (record rx { taken = rx.taken ++ f ∷ [] }) give) net)
  flit_comes rx give f end continues crossing after_it =
      let N = network_of p.net in
      let e = Entering (record rx { taken = rx.taken ++ f ∷ [] }) give in
      let is = is_entering p part x o y rx give linked end in
      let seen = part_network p in
      let leaves = cross_leaves p.opening x o rx.link f part.opened.framed is.link crossing in
      let took : rx.taken ≡ taken_by p x o = rw end refl in
      let goes_on : Continues (on_channel f.vc
      (past_of (shape p.opening) (network_of p.opening) x o y ++ taken_by p x o)) f
      = subst (λ (fs : List Flit). Continues (on_channel f.vc fs) f) ((λ t. is.past_is t ++ took t)) continues in
      by_theory e (rw end (refl, refl, refl, refl, refl))
      (record seen { out = put2 seen.out x o (seen.out x o ++ f ∷ []) })
      (put2 (taken_by p) x o (taken_by p x o ++ f ∷ [])) (returned_to p)
      (sym (ap (λ (n : Network). seen_by (put2 (end_of p) x o e) n) after_it
      ∙ flit_came (end_of p) N x o f rx give end))
      (flit_taken (end_of p) N x o f rx give end) (flit_returns_none (end_of p) N x o f rx give end)
      (pull_part (shape p.opening) (mesh_of_part p part) (network_of p.opening) (owns p) seen (taken_by p)
      (returned_to p) part.holds x o y f linked is.near_elsewhere is.far_own goes_on leaves)

  -- a flit leaves over a link that leaves the part
  pub flit_goes : (z v c : ℕ) (f : Flit) (rest : List Flit) (tx : TxView) (back : CreditRxView)
      → end_of p x o ≡ Leaving tx back
      → IsThere (shape p.opening) (Send x z v) → Enabled (shape p.opening) (network_of p.net) (Send x z v)
      → (network_of p.net).in_record x z v ≡ Active o c → (network_of p.net).buffer x z v ≡ f ∷ rest
      → network_of net ≡ record (after (shape p.opening) (network_of p.net) (Send x z v))
      { out = (network_of p.net).out }
      → IsPart (with_end p x o (Leaving (record tx { sent = tx.sent ++ with_channel f c ∷ [] }) back) net)
  flit_goes z v c f rest tx back end there enabled active front after_it =
      let N = network_of p.net in
      let s = shape p.opening in
      let e = Leaving (record tx { sent = tx.sent ++ with_channel f c ∷ [] }) back in
      let is = is_leaving p part x o y tx back linked end in
      let seen = part_network p in
      let takes = sent_takes (end_of p) N x o (with_channel f c) tx back end in
      let sent_is : (n : Network) → n.in_record x z v ≡ Active o c → n.buffer x z v ≡ f ∷ rest
      → after s n (Send x z v) ≡ sent_by s n x z v o c f rest = λ n a b. (λ t. sent s n x z v (a t) (b t)) in
      let is_after : record (after s N (Send x z v)) { out = N.out }
      ≡ record (sent_by s N x z v o c f rest) { out = N.out } =
      ap (λ (n : Network). record n { out = N.out }) (sent_is N active front) in
      let network : after s seen (Send x z v) ≡ seen_by (put2 (end_of p) x o e) (network_of net)
      = sent_is seen active front ∙ sym (ap (λ (n : Network). seen_by (put2 (end_of p) x o e) n) (after_it ∙ is_after)
      ∙ flit_sent (end_of p) N x o (with_channel f c) tx back end
      (record (sent_by s N x z v o c f rest) { out = N.out }) refl refl) in
      by_theory e (rw end (refl, refl, refl, refl, refl)) (after s seen (Send x z v)) (taken_by p)
      (returned_to p) network (λ a b. (takes a b).0) (λ a b. (takes a b).1)
      (step_part s (mesh_of_part p part) (network_of p.opening) (owns p) (taken_by p) (returned_to p) seen
      (Send x z v) is.near_own there enabled part.holds)

  -- a credit is given over a link that enters it, which leads to port z of node y
  pub credit_goes : (z v : ℕ) (rx : RxView) (give : CreditTxView) → end_of p x o ≡ Entering rx give
      → (shape p.opening).neighbour y z ≡ Some x → (shape p.opening).opposite z ≡ o
      → IsThere (shape p.opening) (GiveCredit y z v) → Enabled (shape p.opening) (network_of p.net) (GiveCredit y z v)
      → network_of net ≡ record (after (shape p.opening) (network_of p.net) (GiveCredit y z v))
      { credit_list = (network_of p.net).credit_list }
      → IsPart (with_end p x o (Entering rx (record give { sent = give.sent ++ v ∷ [] })) net)
  credit_goes z v rx give end back opposite there enabled after_it =
      let N = network_of p.net in
      let s = shape p.opening in
      let e = Entering rx (record give { sent = give.sent ++ v ∷ [] }) in
      let is = is_entering p part x o y rx give linked end in
      let seen = part_network p in
      let takes = given_takes (end_of p) N x o v rx give end in
      let gave_is : (n : Network) → after s n (GiveCredit y z v) ≡ gave_to n y z v x o =
      λ n. (λ t. gave s n y z v (back t)) ∙ (λ t. gave_to n y z v x (opposite t)) in
      let network : after s seen (GiveCredit y z v) ≡ seen_by (put2 (end_of p) x o e) (network_of net)
      = gave_is seen ∙ sym (ap (λ (n : Network). seen_by (put2 (end_of p) x o e) n)
      (after_it ∙ ap (λ (n : Network). record n { credit_list = N.credit_list }) (gave_is N))
      ∙ credit_given (end_of p) N x o v rx give end
      (record (gave_to N y z v x o) { credit_list = N.credit_list }) refl refl) in
      by_theory e (rw end (refl, refl, refl, refl, refl)) (after s seen (GiveCredit y z v)) (taken_by p)
      (returned_to p) network (λ a b. (takes a b).0) (λ a b. (takes a b).1)
      (step_part s (mesh_of_part p part) (network_of p.opening) (owns p) (taken_by p) (returned_to p) seen
      (GiveCredit y z v) is.far_own there enabled part.holds)
