-- Lists of flits that lead from one place in a channel's packets to another.
use Rattle.std.proofs.Common.{ℕ, List, [], ◌∷◌, ◌++◌, append_assoc, refl, sym, subst, ◌≡◌, Bool, true, false, cond}
use Rattle.worm_flit.specs.declared.Flit.{Flit}
use Rattle.worm_flit.specs.Stamps.{with_channel, bare}
use Rattle.worm_theory.specs.Worm.{Worm, Between, Within, MayCome, Runs, after_flit}

pub Runs-append : (fs gs : List Flit) (a b c : Worm) → Runs a fs b → Runs b gs c → Runs a (fs ++ gs) c
Runs-append [] gs a b c p q = subst (λ x. Runs x gs c) (sym p) q
Runs-append (f ∷ fs) gs a b c p q = (p.0, Runs-append fs gs (after_flit f) b c p.1 q)

pub Runs-split : (fs gs : List Flit) (a c : Worm) → Runs a (fs ++ gs) c → (b : Worm) × Runs a fs b × Runs b gs c
Runs-split [] gs a c p = (a, refl, p)
Runs-split (f ∷ fs) gs a c p = let rest = Runs-split fs gs (after_flit f) c p.1 in (rest.0, (p.0, rest.1), rest.2)

pub nowhere : (g : Flit) → Between ≡ Within g → ⊥
nowhere g e = cc

-- the flit that a channel is within after one
pub within-is : (b : Bool) (f g : Flit) → cond b Between (Within (bare f)) ≡ Within g → bare f ≡ g
within-is true f g e = cc
within-is false f g e = cc

-- the channel that a flit is on plays no part
pub MayCome-channel : (a : Worm) (f : Flit) (c : ℕ) → MayCome a f → MayCome a (with_channel f c)
MayCome-channel Between f c p = p
MayCome-channel (Within g) f c p = p

-- a flit goes from the front of the second list to the end of the first, perhaps onto another channel
pub Runs-shift : (fs : List Flit) (f : Flit) (c : ℕ) (gs : List Flit) (a b : Worm) → Runs a (fs ++ f ∷ gs) b
    → Runs a ((fs ++ with_channel f c ∷ []) ++ gs) b
Runs-shift [] f c gs a b p = (MayCome-channel a f c p.0, p.1)
Runs-shift (g ∷ fs) f c gs a b p = (p.0, Runs-shift fs f c gs (after_flit g) b p.1)

-- one more at the end
pub Runs-push : (fs gs : List Flit) (f : Flit) (a b : Worm) → Runs a (fs ++ gs) b → MayCome b f
    → Runs a (fs ++ (gs ++ f ∷ [])) (after_flit f)
Runs-push fs gs f a b p q = rw (← append_assoc fs gs (f ∷ []))
    (Runs-append (fs ++ gs) (f ∷ []) a b (after_flit f) p (q, refl))
