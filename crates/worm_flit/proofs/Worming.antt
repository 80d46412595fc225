-- Beginnings of worms, and one flit more on one channel.
use Rattle.std.proofs.Common.{◌≡◌, ℕ, ◌==◌, true, false, List, [], ◌∷◌, ◌++◌, Some, cond, refl, sym, ap, ◌∙◌, subst}
use Rattle.std.proofs.Common.{eq-eqb, eqb-true}
use Rattle.std.proofs.lemmas.List.{append-nil}
use Rattle.std.proofs.lemmas.List.Elements.{filter-append}
use Rattle.worm_flit.specs.declared.Flit.{Flit}
use Rattle.worm_flit.specs.Stamps.{on_channel}
use Rattle.worm_flit.specs.Worms.{Leads, IsWorm, Continues, latest, latest_on, MayFollow}

leads_front : (f : Flit) (xs ys : List Flit) → Leads f (xs ++ ys) → Leads f xs
leads_front f [] ys h = tt
leads_front f (x ∷ xs) ys h = h

pub worm_front : (xs ys : List Flit) → IsWorm (xs ++ ys) → IsWorm xs
worm_front [] ys h = tt
worm_front (x ∷ xs) ys h = (leads_front x xs ys h.0, worm_front xs ys h.1)

pub on_channel_here : (c : ℕ) (xs : List Flit) (f : Flit) → (c == f.vc) ≡ true
    → on_channel c (xs ++ f ∷ []) ≡ on_channel c xs ++ f ∷ []
on_channel_here c xs f e = filter-append (λ (g : Flit). c == g.vc) xs (f ∷ [])
    ∙ ap (λ b. on_channel c xs ++ cond b (f ∷ []) []) e

pub on_channel_else : (c : ℕ) (xs : List Flit) (f : Flit) → (c == f.vc) ≡ false
    → on_channel c (xs ++ f ∷ []) ≡ on_channel c xs
on_channel_else c xs f e = (filter-append (λ (g : Flit). c == g.vc) xs (f ∷ [])
    ∙ ap (λ b. on_channel c xs ++ cond b (f ∷ []) []) e) ∙ append-nil (on_channel c xs)

-- a worm on each channel, and so with a flit that continues its own
pub worms_grow : (xs : List Flit) (f : Flit) → ((c : ℕ) → IsWorm (on_channel c xs)) → Continues (on_channel f.vc xs) f
    → (c : ℕ) → IsWorm (on_channel c (xs ++ f ∷ []))
worms_grow xs f h more c = by_test (c == f.vc) refl
  where
    by_test : (b : _) → (c == f.vc) ≡ b → IsWorm (on_channel c (xs ++ f ∷ []))
    by_test true e = subst IsWorm (sym (on_channel_here c xs f e))
        (subst (λ k. IsWorm (on_channel k xs ++ f ∷ [])) (sym (eqb-true c f.vc e)) more)
    by_test false e = subst IsWorm (sym (on_channel_else c xs f e)) (h c)

pub worms_front : (xs ys : List Flit) → ((c : ℕ) → IsWorm (on_channel c (xs ++ ys))) → (c : ℕ)
    → IsWorm (on_channel c xs)
worms_front xs ys h c = worm_front (on_channel c xs) (on_channel c ys)
    (subst IsWorm (filter-append (λ (g : Flit). c == g.vc) xs ys) (h c))

pub worms_latest : (xs : List Flit) (f : Flit) → ((c : ℕ) → IsWorm (on_channel c (xs ++ f ∷ [])))
    → Continues (on_channel f.vc xs) f
worms_latest xs f h = subst IsWorm (on_channel_here f.vc xs f (eq-eqb f.vc f.vc refl)) (h f.vc)

-- a flit continues a worm exactly where it may follow its last
pub continues_latest : (xs : List Flit) (f : Flit) → IsWorm xs → MayFollow (latest xs) f → Continues xs f
continues_latest [] f h m = (tt, tt)
continues_latest (x ∷ []) f h m = (m, (tt, tt))
continues_latest (x ∷ y ∷ ys) f h m = (h.0, continues_latest (y ∷ ys) f h.1 m)

pub latest-push : (xs : List Flit) (f : Flit) → latest (xs ++ f ∷ []) ≡ Some f
latest-push [] f = refl
latest-push (x ∷ []) f = refl
latest-push (x ∷ y ∷ ys) f = latest-push (y ∷ ys) f

pub latest_here : (xs : List Flit) (f : Flit) → latest_on f.vc (xs ++ f ∷ []) ≡ Some f
latest_here xs f = ap latest (on_channel_here f.vc xs f (eq-eqb f.vc f.vc refl)) ∙ latest-push (on_channel f.vc xs) f

pub latest_else : (c : ℕ) (xs : List Flit) (f : Flit) → (c == f.vc) ≡ false
    → latest_on c (xs ++ f ∷ []) ≡ latest_on c xs
latest_else c xs f e = ap latest (on_channel_else c xs f e)
