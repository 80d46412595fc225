-- A sound network in plainer words.
use Rattle.std.proofs.Common.{◌≡◌, ℕ, ◌+◌, Bool, true, false, cond, List, [], ◌∷◌, ◌++◌, Option, Some, None, IsSome}
use Rattle.std.proofs.Common.{IsSomeAnd, inl, inr, ◌==◌, MatchBool, option_to_list, refl, ◌∙◌}
use Rattle.worm_flit.specs.declared.Flit.{Flit}
use Rattle.worm_flit.specs.Stamps.{bare, on_channel}
use Rattle.worm_flit.specs.Kinds.{closes, opens}
use Rattle.worm_flit.specs.Worms.{Opens, Leads, IsWorm, latest, latest_on}
use Rattle.worm_theory.specs.Worm.{Worm, Between, Within, Runs, MayCome, worm_after, after_flit}
use Rattle.worm_theory.specs.Shape.{Shape, IsMesh}
use Rattle.worm_theory.specs.Network.{Network, upstream, upstream_of}
use Rattle.worm_records.specs.declared.InRecord.{InRecord}
use Rattle.worm_records.specs.declared.InRecord.TheVariants.{Idle, Waiting, Active}
use Rattle.worm_theory.specs.Sound.{Sound, Agrees, unfed_on}
use Rattle.worm_theory.specs.Steps.{IsPort}
use Rattle.worm_theory.specs.WormFormed.{channel_holds, awaited, IsDone, EndsAt, held_last, Joint, RecordBetween}
use Rattle.worm_theory.specs.WormFormed.{RecordWithin, ComesNext, RecordFits}
use Rattle.worm_theory.proofs.Runs.{within-is}
use Rattle.worm_theory.proofs.Places.{number_cases}

pub Follows-cases : (b : Bool) (f g : Flit) → MayCome (cond b Between (Within (bare f))) g
    → MatchBool b (Opens g) ((opens g.kind ≡ false) × (g.lane ≡ f.lane) × (g.packet ≡ f.packet)
    × (g.index ≡ f.index + 1))
Follows-cases true f g h = h
Follows-cases false f g h = h

-- the flits that come after one
pub Runs-leads : (f : Flit) (fs : List Flit) (b : Worm) → Runs (after_flit f) fs b → Leads f fs
Runs-leads f [] b h = tt
Runs-leads f (g ∷ fs) b h = Follows-cases (closes f.kind) f g h.0

pub Runs-worm : (fs : List Flit) (a b : Worm) → Runs a fs b → IsWorm fs
Runs-worm [] a b h = tt
Runs-worm (f ∷ fs) a b h = (Runs-leads f fs b h.1, Runs-worm fs (after_flit f) b h.1)

-- with what came before them
pub Runs-joined : (last : Option Flit) (fs : List Flit) (b : Worm) → Runs (worm_after last) fs b
    → IsWorm (option_to_list last ++ fs)
Runs-joined None fs b h = Runs-worm fs Between b h
Runs-joined (Some f) fs b h = (Runs-leads f fs b h, Runs-worm fs (after_flit f) b h)

runs-latest : (f : Flit) (fs : List Flit) (b : Worm) → Runs (after_flit f) fs b → worm_after (latest (f ∷ fs)) ≡ b
runs-latest f [] b h = h
runs-latest f (g ∷ fs) b h = runs-latest g fs b h.1

-- the last of them says where they lead
pub Runs-latest : (last : Option Flit) (fs : List Flit) (b : Worm) → Runs (worm_after last) fs b
    → worm_after (latest (option_to_list last ++ fs)) ≡ b
Runs-latest None [] b h = h
Runs-latest None (f ∷ fs) b h = runs-latest f fs b h.1
Runs-latest (Some f) fs b h = runs-latest f fs b h

between-done : (b : Bool) (g : Flit) → cond b Between (Within (bare g)) ≡ Between → b ≡ true
between-done true g e = refl
between-done false g e = cc

done : (last : Option Flit) → worm_after last ≡ Between → IsDone last
done None e = tt
done (Some f) e = between-done (closes f.kind) f e

ends-within : (last : Option Flit) (g : Flit) → worm_after last ≡ Within (bare g)
    → IsSomeAnd last (λ f. bare f ≡ bare g)
ends-within None g e = cc
ends-within (Some f) g e = within-is (closes f.kind) f (bare g) e

ends-at : (b : Bool) (last : Option Flit) (g : Flit) → worm_after last ≡ cond b Between (Within (bare g))
    → MatchBool b (IsDone last) (IsSomeAnd last (λ f. bare f ≡ bare g))
ends-at true last g e = done last e
ends-at false last g e = ends-within last g e

ends : (last held : Option Flit) → worm_after last ≡ worm_after held → EndsAt last held
ends last None e = done last e
ends last (Some g) e = ends-at (closes g.kind) last g e

upstream-last : (net : Network) (y : ℕ) (holder : Option (ℕ × ℕ))
    → upstream_of net.last_out y holder ≡ worm_after (held_last net y holder)
upstream-last net y None = refl
upstream-last net y (Some h) = refl

pub joint : (s : Shape) (net : Network) → Sound s net → (y o x v : ℕ) → s.neighbour y o ≡ Some x → Joint s net y o x v
joint s net sound y o x v linked =
    let h = sound.links y o x v linked in
    record {
      worm = Runs-joined (net.last_out x (s.opposite o) v) (channel_holds s net y o x v) (upstream net y o v) h;
      ends = ends (latest (option_to_list (net.last_out x (s.opposite o) v) ++ channel_holds s net y o x v))
          (held_last net y (net.holder y o v))
          (Runs-latest (net.last_out x (s.opposite o) v) (channel_holds s net y o x v) (upstream net y o v) h
          ∙ upstream-last net y (net.holder y o v));
    }

pub sink-worm : (s : Shape) (net : Network) → Sound s net → (x v : ℕ) → IsWorm (on_channel v (net.out x s.terminal))
sink-worm s net sound x v = Runs-worm (on_channel v (net.out x s.terminal)) Between (upstream net x s.terminal v)
    (sound.sinks x v)

pub sink-ends : (s : Shape) (net : Network) → Sound s net → (x v : ℕ)
    → EndsAt (latest_on v (net.out x s.terminal)) (held_last net x (net.holder x s.terminal v))
sink-ends s net sound x v =
    ends (latest_on v (net.out x s.terminal)) (held_last net x (net.holder x s.terminal v))
    (Runs-latest None (on_channel v (net.out x s.terminal)) (upstream net x s.terminal v) (sound.sinks x v)
    ∙ upstream-last net x (net.holder x s.terminal v))

pub source-worm : (s : Shape) (net : Network) → Sound s net → (x v : ℕ)
    → IsWorm (option_to_list (net.last_out x s.terminal v) ++ (net.buffer x s.terminal v ++ unfed_on s net x v))
source-worm s net sound x v = Runs-joined (net.last_out x s.terminal v)
    (net.buffer x s.terminal v ++ unfed_on s net x v) Between (sound.sources x v)

next-cases : (last : Option Flit) (coming : List Flit) (b : Worm) → Runs (worm_after last) coming b
    → ComesNext last coming
next-cases None [] b h = tt
next-cases None (f ∷ fs) b h = h.0
next-cases (Some g) coming b h = Runs-leads g coming b h

-- what an input channel awaits comes after what left it last
pub awaited-runs : (s : Shape) (mesh : IsMesh s) (net : Network) → Sound s net → (x p v : ℕ) → IsPort s x p
    → (b : Worm) × Runs (worm_after (net.last_out x p v)) (awaited s net x p v) b
awaited-runs s mesh net sound x p v port =
    elim (number_cases p s.terminal) [
      | inl at ↦ (Between, rw (at.0, at.1) (sound.sources x v))
      | inr away ↦ elim port [
        | inl at ↦ absurd (away.1 at)
        | inr linked ↦ by_end (s.neighbour x p) refl linked away.0
      ]
    ]
  where
    by_end : (end : Option ℕ) → s.neighbour x p ≡ end → IsSome end → (p == s.terminal) ≡ false
        → (b : Worm) × Runs (worm_after (net.last_out x p v)) (awaited s net x p v) b
    by_end None e some off = cc
    by_end (Some y) e some off =
        let back = mesh.link_back x p y e in
        let twice = mesh.opposite_twice x p y e in
        let runs = sound.links y (s.opposite p) x v back in
        (upstream net y (s.opposite p) v, rw (off, e) (rw twice at runs))

-- the next flit of a channel, in its buffer or else on the way there, continues what left the buffer last
pub comes-next : (s : Shape) → IsMesh s → (net : Network) → Sound s net → (x p v : ℕ) → IsPort s x p
    → ComesNext (net.last_out x p v) (awaited s net x p v)
comes-next s mesh net sound x p v port =
    let runs = awaited-runs s mesh net sound x p v port in
    next-cases (net.last_out x p v) (awaited s net x p v) runs.0 runs.1

pub fits-between : (s : Shape) (x : ℕ) (r : InRecord) (fs : List Flit) → Agrees s x r Between fs
    → RecordBetween s x r fs
fits-between s x Idle fs h = tt
fits-between s x (Waiting o) [] h = absurd h.1
fits-between s x (Waiting o) (f ∷ fs) h = h.1
fits-between s x (Active o c) [] h = absurd h
fits-between s x (Active o c) (f ∷ fs) h = h

fits-within : (s : Shape) (x : ℕ) (r : InRecord) (g : Flit) (fs : List Flit) → Agrees s x r (Within (bare g)) fs
    → RecordWithin s x r g
fits-within s x Idle g fs h = cc
fits-within s x (Waiting o) g fs h = let e = h.0 in cc
fits-within s x (Active o c) g fs h = h

fits-after : (b : Bool) (s : Shape) (x : ℕ) (r : InRecord) (g : Flit) (fs : List Flit)
    → Agrees s x r (cond b Between (Within (bare g))) fs → MatchBool b (RecordBetween s x r fs) (RecordWithin s x r g)
fits-after true s x r g fs h = fits-between s x r fs h
fits-after false s x r g fs h = fits-within s x r g fs h

fits : (s : Shape) (x : ℕ) (r : InRecord) (last : Option Flit) (fs : List Flit) → Agrees s x r (worm_after last) fs
    → RecordFits s x r last fs
fits s x r None fs h = fits-between s x r fs h
fits s x r (Some g) fs h = fits-after (closes g.kind) s x r g fs h

pub record-fits : (s : Shape) (net : Network) → Sound s net → (x p v : ℕ)
    → RecordFits s x (net.in_record x p v) (net.last_out x p v) (net.buffer x p v)
record-fits s net sound x p v = fits s x (net.in_record x p v) (net.last_out x p v) (net.buffer x p v)
    (sound.records x p v)
