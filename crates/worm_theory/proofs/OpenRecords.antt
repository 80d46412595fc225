-- The records of an input channel, by the packet that is open past it.
use Rattle.std.proofs.Common.{◌≡◌, ℕ, Bool, true, false, cond, inl, inr, Option, Some, None, IsSomeAnd, List, [], ◌∷◌}
use Rattle.std.proofs.Common.{All, refl, sym, ap, subst, ◌∙◌}
use Rattle.std.specs.Prelude.{IfSome}
use Rattle.std.proofs.lemmas.List.Elements.{All-head}
use Rattle.worm_flit.specs.declared.Lane.{Lane}
use Rattle.worm_flit.specs.declared.Flit.{Flit}
use Rattle.worm_flit.specs.Kinds.{closes}
use Rattle.worm_flit.specs.Stamps.{bare}
use Rattle.worm_flit.specs.Worms.{Opens}
use Rattle.worm_records.specs.declared.InRecord.TheVariants.{Active}
use Rattle.worm_theory.specs.Worm.{Worm, Between, Within, Runs, worm_after, lane_at}
use Rattle.worm_theory.specs.Shape.{Shape, IsMesh, HasLane, Owns, OwnsAlone, Enters, at_source, by_link}
use Rattle.worm_theory.specs.Network.{Network}
use Rattle.worm_theory.specs.Steps.{IsPort}
use Rattle.worm_theory.specs.Sound.{Sound, Agrees, InBuffer, Passes}
use Rattle.worm_theory.specs.PacketCut.{PacketsHold}
use Rattle.worm_theory.specs.WormFormed.{awaited, IfFront}
use Rattle.worm_theory.specs.OpenPast.{IsOpenPast, IsWithin, OneOpenAt, OpenRecord, FreeRecord}
use Rattle.worm_theory.proofs.WormFormed.{Runs-leads, awaited-runs, fits-between}
use Rattle.worm_theory.proofs.LatestPast.{latest_past, holds_on, within_open}
use Rattle.worm_theory.proofs.OpenPast.{open_once}

pub enters_port : (s : Shape) → IsMesh s → (lane : Lane) {x p : ℕ} → Enters s lane x p → IsPort s x p
enters_port s mesh lane at_source = inl refl
enters_port s mesh lane (by_link {x = y} {p = q} {y = x} before linked) = let back =
    mesh.link_back y (s.next_port y lane.dst) x linked in inr (rw back refl)

-- an input channel is between packets, or something left it and it is within that flit's packet
last_cases : (P : Type 0) (last : Option Flit) → (worm_after last ≡ Between → P)
    → ((f : Flit) → last ≡ Some f → worm_after last ≡ Within (bare f) → P) → P
last_cases P None between within = between refl
last_cases P (Some f) between within = by_kind (closes f.kind) refl
  where
    by_kind : (b : Bool) → closes f.kind ≡ b → P
    by_kind true e = between (rw e refl)
    by_kind false e = within f refl (rw e refl)

done_by : (s : Shape) (x p v : ℕ) (last : Option Flit) → worm_after last ≡ Between → IfSome last (Passes s x p v)
    → IfSome last (λ f. (closes f.kind ≡ true) × Passes s x p v f)
done_by s x p v None e h = tt
done_by s x p v (Some f) e h = (by_kind (closes f.kind) e, h)
  where
    by_kind : (b : Bool) → cond b Between (Within (bare f)) ≡ Between → b ≡ true
    by_kind true e = refl
    by_kind false e = cc

opens_next : (fs : List Flit) (b : Worm) → Runs Between fs b → IfFront fs Opens
opens_next [] b runs = tt
opens_next (f ∷ fs) b runs = runs.0

last_of : (last : Option Flit) (f : Flit) → last ≡ Some f → (P : Flit → Type 0) → IfSome last P → P f
last_of None f e P h = absurd (let no : ◌≡◌ {A = Option Flit} None (Some f) = e in cc)
last_of (Some g) f e P h = let same : g ≡ f = cc in subst P same h

module _ (s : Shape) (mesh : IsMesh s) (net : Network) (sound : Sound s net) (hold : PacketsHold s net) where
  -- the record while a packet is open past the channel
  within_record : (lane : Lane) (there : HasLane s lane) (k x p v : ℕ) → Enters s lane x p → (f : Flit)
      → net.last_out x p v ≡ Some f → worm_after (net.last_out x p v) ≡ Within (bare f) → lane ≡ f.lane → k ≡ f.packet
      → OpenRecord s net lane k x p v
  within_record lane there k x p v at f left w l n =
      let by = holds_on s mesh lane there k net sound hold x p v (bare f) w l in
      let runs = awaited-runs s mesh net sound x p v (enters_port s mesh lane at) in
      record {
        out_vc = by.0;
        active = by.1;
        owned = by.2;
        last = f;
        left = left;
        passed = latest_past s mesh lane there k net sound hold (s.hops x lane.dst) x p v (bare f) at refl w l n;
        next = Runs-leads f (awaited s net x p v) runs.0
            (subst (λ last. Runs (worm_after last) (awaited s net x p v) runs.0) left runs.1);
      }

  -- of a channel that is within the packet
  own_record : (lane : Lane) (there : HasLane s lane) (k x p v : ℕ) → Enters s lane x p → IsWithin s net lane k x p v
      → OpenRecord s net lane k x p v
  own_record lane there k x p v at own =
      last_cases (OpenRecord s net lane k x p v) (net.last_out x p v)
      (λ between. absurd (let no : Between ≡ Within own.flit = sym between ∙ own.last in cc))
      (λ f left within.
      let same : bare f ≡ own.flit = let e : Within (bare f) ≡ Within own.flit = sym within ∙ own.last in cc in
      within_record lane there k x p v at f left within (own.own_lane ∙ sym (ap (λ (g : Flit). g.lane) same))
      (own.own_packet ∙ sym (ap (λ (g : Flit). g.packet) same)))

  pub open_at : (lane : Lane) (k : ℕ) → HasLane s lane → (x p : ℕ) → Enters s lane x p → IsOpenPast s net lane k x
      → OneOpenAt s net lane k x p
  open_at lane k there x p at opened =
      let once = open_once s mesh lane there k net sound hold x p at opened in
      record { one = once; record_of = own_record lane there k x p once.vc at once.within }

  pub open_record : (lane : Lane) (k : ℕ) → HasLane s lane → (x p v : ℕ) → Enters s lane x p → Owns s lane.class v
      → OwnsAlone s lane.class v → IsOpenPast s net lane k x → OpenRecord s net lane k x p v
  open_record lane k there x p v at owned alone opened =
      let one = open_once s mesh lane there k net sound hold x p at opened in
      subst (λ u. OpenRecord s net lane k x p u) (alone one.vc one.within.owned)
      (own_record lane there k x p one.vc at one.within)

  pub free_record : (x p v : ℕ) → IsPort s x p
      → ((lane : Lane) (k : ℕ) → HasLane s lane → Enters s lane x p → Owns s lane.class v → IsOpenPast s net lane k x
      → ⊥) → FreeRecord s net x p v
  free_record x p v port none =
      last_cases (FreeRecord s net x p v) (net.last_out x p v)
      (λ between.
      let runs = awaited-runs s mesh net sound x p v port in
      record {
        done = done_by s x p v (net.last_out x p v) between (sound.passed x p v);
        next = opens_next (awaited s net x p v) runs.0
            (subst (λ w. Runs w (awaited s net x p v) runs.0) between runs.1);
        fits = fits-between s x (net.in_record x p v) (net.buffer x p v)
            (subst (λ w. Agrees s x (net.in_record x p v) w (net.buffer x p v)) between (sound.records x p v));
      })
      (λ f left within.
      let pass = last_of (net.last_out x p v) f left (Passes s x p v) (sound.passed x p v) in
      absurd (none f.lane f.packet pass.lane_there pass.entered pass.owned
      (within_open s mesh f.lane pass.lane_there f.packet net sound hold x p v pass.entered (
        bare f,
        within,
        refl,
        refl,
      ))))

  -- never two packets are open past one channel
  pub never_two : (v x p : ℕ) (lane : Lane) (k : ℕ) → HasLane s lane → Enters s lane x p → Owns s lane.class v
      → OwnsAlone s lane.class v → IsOpenPast s net lane k x →
      (other : Lane) (j : ℕ) → HasLane s other → Enters s other x p → Owns s other.class v → OwnsAlone s other.class v
      → IsOpenPast s net other j x → (lane ≡ other) × (k ≡ j)
  never_two v x p lane k there at owned alone opened other j there2 at2 owned2 alone2 opened2 =
      let one = open_once s mesh lane there k net sound hold x p at opened in
      let two = open_once s mesh other there2 j net sound hold x p at2 opened2 in
      let here : worm_after (net.last_out x p v) ≡ Within one.within.flit =
      subst (λ u. worm_after (net.last_out x p u) ≡ Within one.within.flit)
      (alone one.vc one.within.owned) one.within.last in
      let here2 : worm_after (net.last_out x p v) ≡ Within two.within.flit =
      subst (λ u. worm_after (net.last_out x p u) ≡ Within two.within.flit)
      (alone2 two.vc two.within.owned) two.within.last in
      let same : one.within.flit ≡ two.within.flit = let e : Within one.within.flit ≡ Within two.within.flit =
      sym here ∙ here2 in cc in (
        one.within.own_lane ∙ ap (λ (g : Flit). g.lane) same ∙ sym two.within.own_lane,
        one.within.own_packet ∙ ap (λ (g : Flit). g.packet) same ∙ sym two.within.own_packet,
      )

-- a record's channel and the input channel belong to one class
class_at : (s : Shape) (x p v : ℕ) (P : Lane → Type 0) (last : Option Flit) (fs : List Flit)
    → IfSome last (Passes s x p v) → All (InBuffer s x p v) fs → IsSomeAnd (lane_at (worm_after last) fs) P
    → (l : Lane) × Owns s l.class v × P l
class_at s x p v P None [] pass all h = absurd h
class_at s x p v P None (f ∷ fs) pass all h = (f.lane, (All-head (InBuffer s x p v) f fs all).1.owned, h)
class_at s x p v P (Some g) fs pass all h = by_kind (closes g.kind) fs all h
  where
    by_kind : (b : Bool) (fs : List Flit) → All (InBuffer s x p v) fs
        → IsSomeAnd (lane_at (cond b Between (Within (bare g))) fs) P → (l : Lane) × Owns s l.class v × P l
    by_kind true [] all h = absurd h
    by_kind true (f ∷ fs) all h = (f.lane, (All-head (InBuffer s x p v) f fs all).1.owned, h)
    by_kind false fs all h = (g.lane, pass.owned, h)

pub same_class : (s : Shape) (net : Network) → Sound s net → (x p v o c : ℕ) → net.in_record x p v ≡ Active o c
    → s.owner c ≡ s.owner v
same_class s net sound x p v o c active =
    let agrees = rw active at (sound.records x p v) in
    let by = class_at s x p v (λ l. (s.next_port x l.dst ≡ o) × Owns s l.class c) (net.last_out x p v)
    (net.buffer x p v) (sound.passed x p v) (sound.buffered x p v) agrees in
    by.2.1.1 ∙ sym by.1.1
