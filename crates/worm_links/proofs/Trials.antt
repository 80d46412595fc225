-- The tests' flits may cross the tests' link, one after another, packet after packet.
use Rattle.std.proofs.Common.{◌≡◌, ℕ, zero, suc, ◌<◌, ◌==◌, true, false, [], ◌∷◌, ◌++◌, Some, refl, sym, ap, ◌∙◌}
use Rattle.std.proofs.Common.{subst, arith, append_assoc, eqb-true}
use Rattle.std.specs.Prelude.{slice_get, Bool, Option, None, MatchBool, ◌-◌, ◌+◌}
use Rattle.worm_flit.specs.declared.Flit.{Flit}
use Rattle.worm_flit.specs.declared.Kind.{Kind}
use Rattle.worm_flit.specs.Kinds.{opens, closes}
use Rattle.worm_flit.specs.Worms.{Opens, Follows, latest_on, MayFollow}
use Rattle.worm_flit.proofs.Worming.{latest_here, latest_else}
use Rattle.worm_links.specs.declared.LinkCfg.{LinkCfg}
use Rattle.worm_links.specs.Links.{MayCross, TxView}
use Rattle.worm_links.specs.Trial.{pair_link, trial_flit, last_on, IsClear, IsReady, IsOpen}

zeros : (c : ℕ) → c < 8 → slice_get {X = ℕ} (0 ∷ 0 ∷ 0 ∷ 0 ∷ 0 ∷ 0 ∷ 0 ∷ 0 ∷ []) c ≡ Some 0
zeros zero h = refl
zeros (suc zero) h = refl
zeros (suc (suc zero)) h = refl
zeros (suc (suc (suc zero))) h = refl
zeros (suc (suc (suc (suc zero)))) h = refl
zeros (suc (suc (suc (suc (suc zero))))) h = refl
zeros (suc (suc (suc (suc (suc (suc zero)))))) h = refl
zeros (suc (suc (suc (suc (suc (suc (suc zero))))))) h = refl
zeros (suc (suc (suc (suc (suc (suc (suc (suc c)))))))) h = absurd (omega arith)

may_cross : (channels depth packet index : ℕ) (kind : Kind) (vc : ℕ) → vc < channels → vc < 8 →
    MayCross (pair_link channels depth) (trial_flit packet index kind vc)
may_cross channels depth packet index kind vc below few =
    record { channel = below; owned = zeros vc few; source = omega arith; destination = omega arith; route = refl }

pub crosses_pair : (link : LinkCfg) (f : Flit) (channels depth packet index : ℕ) (kind : Kind) (vc : ℕ) →
    link ≡ pair_link channels depth → f ≡ trial_flit packet index kind vc → vc < channels → vc < 8 → MayCross link f
crosses_pair link f channels depth packet index kind vc e d below few =
    subst (λ (p : LinkCfg × Flit). MayCross p.0 p.1) (λ i. (sym e i, sym d i))
    (may_cross channels depth packet index kind vc below few)

abbrev pub with_flit : TxView → Flit → TxView
with_flit tx f = record tx { sent = tx.sent ++ f ∷ [] }

last_here : (tx : TxView) (f : Flit) → last_on f.vc (with_flit tx f) ≡ Some f
last_here tx f = ap (latest_on f.vc) (sym (append_assoc tx.past tx.sent (f ∷ []))) ∙ latest_here (tx.past ++ tx.sent) f

last_else : (c : ℕ) (tx : TxView) (f : Flit) → (c == f.vc) ≡ false → last_on c (with_flit tx f) ≡ last_on c tx
last_else c tx f e =
    ap (latest_on c) (sym (append_assoc tx.past tx.sent (f ∷ []))) ∙ latest_else c (tx.past ++ tx.sent) f e

pub opened : {channels : ℕ} (tx now : TxView) (f : Flit) → IsReady channels tx → now ≡ with_flit tx f →
    IsOpen channels now f
opened {channels} tx now f ready is =
    subst (λ (t : TxView). IsOpen channels t f) (sym is)
    (record {
      link = ready.link;
      last = last_here tx f;
      clear = λ c e. subst IsClear (sym (last_else c tx f e)) (ready.clear c);
    })

pub carried : {channels : ℕ} (tx now : TxView) (g f : Flit) → g.vc ≡ f.vc → IsOpen channels tx g →
    now ≡ with_flit tx f → IsOpen channels now f
carried {channels} tx now g f same was is =
    subst (λ (t : TxView). IsOpen channels t f) (sym is)
    (record {
      link = was.link;
      last = last_here tx f;
      clear = λ c e. subst IsClear (sym (last_else c tx f e)) (was.clear c (ap (λ k. c == k) same ∙ e));
    })

pub ended : {channels : ℕ} (tx : TxView) (f : Flit) → closes f.kind ≡ true → IsOpen channels tx f →
    IsReady channels tx
ended {channels} tx f end was = record { link = was.link; clear = λ c. by_test c (c == f.vc) refl }
  where
    by_test : (c : ℕ) (b : Bool) → (c == f.vc) ≡ b → IsClear (last_on c tx)
    by_test c true e = subst (λ k. IsClear (last_on k tx)) (sym (eqb-true c f.vc e)) (subst IsClear (sym was.last) end)
    by_test c false e = was.clear c e

may_begin : (last : Option Flit) (f : Flit) → IsClear last → opens f.kind ≡ true → f.index ≡ 0 → MayFollow last f
may_begin None f clear first at = tt
may_begin (Some g) f clear first at =
    subst (λ b. MatchBool b (Opens f) ((opens f.kind ≡ false) × (f.lane ≡ g.lane) × (f.packet ≡ g.packet) ×
    (f.index ≡ g.index + 1))) (sym clear) (first, at)

pub begins_packet : {channels : ℕ} (tx : TxView) (f : Flit) → IsReady channels tx → opens f.kind ≡ true →
    f.index ≡ 0 → MayFollow (last_on f.vc tx) f
begins_packet {channels} tx f ready first at = may_begin (last_on f.vc tx) f (ready.clear f.vc) first at

pub goes_on : {channels : ℕ} (tx : TxView) (packet index : ℕ) (before kind : Kind) (vc : ℕ) → 0 < index →
    closes before ≡ false → opens kind ≡ false → IsOpen channels tx (trial_flit packet (index - 1) before vc)
    → MayFollow (last_on vc tx) (trial_flit packet index kind vc)
goes_on {channels} tx packet index before kind vc some more next was =
    let g = trial_flit packet (index - 1) before vc in
    let f = trial_flit packet index kind vc in
    let follows : Follows g f =
    subst (λ b. MatchBool b (Opens f) ((opens f.kind ≡ false) × (f.lane ≡ g.lane) × (f.packet ≡ g.packet) ×
    (f.index ≡ g.index + 1))) (sym more) (next, refl, refl, omega arith) in
    subst (λ l. MayFollow l f) (sym was.last) follows

-- a link whose past is one flit of a packet that is still open
pub resumed : (tx : TxView) (f : Flit) → tx.link ≡ pair_link 2 tx.link.depth → tx.past ≡ f ∷ [] → tx.sent ≡ [] →
    IsOpen 2 tx f
resumed tx f link past sent =
    let seen : tx.past ++ tx.sent ≡ [] ++ f ∷ [] = (λ i. past i ++ sent i) in
    record {
      link = link;
      last = ap (latest_on f.vc) seen ∙ latest_here [] f;
      clear = λ c e. subst IsClear (sym (ap (latest_on c) seen ∙ latest_else c [] f e)) tt;
    }
