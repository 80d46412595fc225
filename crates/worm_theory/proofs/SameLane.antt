-- Lanes that are one, and lanes that are none.
use Rattle.std.proofs.Common.{◌≡◌, true, Option, Some, None, refl}
use Rattle.std.proofs.lemmas.Bool.{eq-eqb}
use Rattle.worm_flit.specs.declared.Lane.{Lane}
use Rattle.worm_theory.proofs.Packets.{is_same_lane}

pub same_lane : (a b : Lane) → ◌≡◌ {A = Option Lane} (Some a) (Some b) → a ≡ b
same_lane a b e = cc

pub is_same : (a b : Lane) → a ≡ b → is_same_lane a b ≡ true
is_same a b e = rw (e, eq-eqb b.src b.src refl, eq-eqb b.dst b.dst refl, eq-eqb b.class b.class refl) refl

pub no_lane : (a : Lane) → ◌≡◌ {A = Option Lane} None (Some a) → ⊥
no_lane a e = cc
