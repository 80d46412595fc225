-- What a link brings may arrive.
use Rattle.std.proofs.Common.{◌≡◌, ℕ, ◌<◌, inl, inr, ◌==◌, List, [], ◌∷◌, ◌++◌, length, Some, refl, sym, ap, ◌∙◌}
use Rattle.std.proofs.Common.{arith, append-nil, eq-eqb}
use Rattle.std.proofs.lemmas.List.Elements.{All-nil, All-cons, All-head, All-tail, All-push, filter-append}
use Rattle.worm_flit.specs.declared.Flit.{Flit}
use Rattle.worm_flit.specs.Stamps.{on_channel}
use Rattle.worm_theory.specs.Worm.{Worm, Runs, after_flit}
use Rattle.worm_theory.specs.Shape.{Shape, IsMesh}
use Rattle.worm_theory.specs.Network.{Network, upstream}
use Rattle.worm_theory.specs.Sound.{Sound, Leaves}
use Rattle.worm_theory.proofs.Places.{number_cases, same-true}
use Rattle.worm_theory.proofs.Runs.{Runs-append, Runs-split}
use Rattle.worm_theory.proofs.Credit.{count-cons}
use Rattle.worm_theory.specs.Parts.{Parts, split, worm_end, opened, reached}
use Rattle.worm_theory.specs.PartSound.{PartSound}
use Rattle.worm_theory.specs.Links.{LinkHolds, GoesOn, MayArrive}
use Rattle.worm_theory.specs.PartSteps.{arrive}
use Rattle.worm_theory.proofs.PartLists.{Runs-end, worm_end-append}
use Rattle.worm_theory.proofs.Coming.{reached_grown}
use Rattle.worm_theory.proofs.Join.{link_goes_on, link_leaves, link_balance, line_channels}

-- a run and where it leads, cut in two
runs_first : (a : Worm) (xs ys : List Flit) → Runs a (xs ++ ys) (worm_end a (xs ++ ys)) → Runs a xs (worm_end a xs)
runs_first a xs ys h =
    let halves = Runs-split xs ys a (worm_end a (xs ++ ys)) h in
    let met = Runs-end xs a halves.0 halves.1 in
    rw met halves.1

runs_then : (a : Worm) (xs ys : List Flit) → Runs a (xs ++ ys) (worm_end a (xs ++ ys)) →
    Runs (worm_end a xs) ys (worm_end (worm_end a xs) ys)
runs_then a xs ys h =
    let halves = Runs-split xs ys a (worm_end a (xs ++ ys)) h in
    let met = Runs-end xs a halves.0 halves.1 in
    let end = sym (worm_end-append xs ys a) in
    rw (end, met) halves.2

module _ (s : Shape) (old : Network) (parts : Parts) (x p : ℕ) where
  abbrev Goes : ℕ → List Flit → Type 0
  Goes v fs = Runs (reached old parts x p v) (on_channel v fs) (worm_end (reached old parts x p v) (on_channel v fs))

  -- one more, that goes on from all of them
  more_follow : (fs : List Flit) (f : Flit) → ((v : ℕ) → Goes v fs) → GoesOn old x p (parts.arrived x p ++ fs) f →
      (v : ℕ) → Goes v (fs ++ f ∷ [])
  more_follow fs f follow next v =
      let more = filter-append (λ (g : Flit). v == g.vc) fs (f ∷ []) in
      let before = follow v in
      elim (number_cases v f.vc) [
        | inl on ↦
            let all : on_channel v (fs ++ f ∷ []) ≡ on_channel v fs ++ f ∷ [] = rw (more, on.0) refl in
            let stands : worm_end (reached old parts x p v) (on_channel v fs) ≡
            worm_end (opened old x p f.vc) (on_channel f.vc (parts.arrived x p ++ fs)) =
            sym (worm_end-append (on_channel v (parts.arrived x p)) (on_channel v fs) (opened old x p v)) ∙
            ap (worm_end (opened old x p v)) (sym (filter-append (λ (g : Flit). v == g.vc) (parts.arrived x p) fs)) ∙
            ap (λ w. worm_end (opened old x p w) (on_channel w (parts.arrived x p ++ fs))) on.1 in
            let end : worm_end (reached old parts x p v) (on_channel v fs ++ f ∷ []) ≡ after_flit f =
            worm_end-append (on_channel v fs) (f ∷ []) (reached old parts x p v) in
            let last : Runs (worm_end (reached old parts x p v) (on_channel v fs)) (f ∷ []) (after_flit f) =
            rw stands (next, refl) in
            rw (all, end) (Runs-append (on_channel v fs) (f ∷ []) (reached old parts x p v)
            (worm_end (reached old parts x p v) (on_channel v fs)) (after_flit f) before last)
        | inr off ↦
            let all : on_channel v (fs ++ f ∷ []) ≡ on_channel v fs =
            rw (more, off.0) (append-nil (on_channel v fs)) in
            rw all before
      ]

  pub more_arrive : (fs : List Flit) (f : Flit) → MayArrive s old parts x p fs →
      GoesOn old x p (parts.arrived x p ++ fs) f → ((y : ℕ) → s.neighbour x p ≡ Some y → Leaves s y (s.opposite p) f) →
      MayArrive s old parts x p (fs ++ f ∷ [])
  more_arrive fs f may next crosses = record {
    follow = more_follow fs f may.follow next;
    cross = λ y linked. All-push (Leaves s y (s.opposite p)) fs f (may.cross y linked) (crosses y linked);
  }

  module _ (f : Flit) (fs : List Flit) (may : MayArrive s old parts x p (f ∷ fs)) where
    both : (v : ℕ) → Runs (reached old parts x p v) (on_channel v (f ∷ []) ++ on_channel v fs)
        (worm_end (reached old parts x p v) (on_channel v (f ∷ []) ++ on_channel v fs))
    both v = let split = filter-append (λ (g : Flit). v == g.vc) (f ∷ []) fs in rw (← split) (may.follow v)

    -- the front alone
    pub front_arrives : MayArrive s old parts x p (f ∷ [])
    front_arrives = record {
      follow = λ v. runs_first (reached old parts x p v) (on_channel v (f ∷ [])) (on_channel v fs) (both v);
      cross =
          λ y linked. All-cons (Leaves s y (s.opposite p)) f []
          (All-head (Leaves s y (s.opposite p)) f fs (may.cross y linked)) (All-nil (Leaves s y (s.opposite p)));
    }

    -- the rest, once the front has arrived
    pub rest_arrive : MayArrive s old (arrive parts x p f) x p fs
    rest_arrive = record {
      follow = λ v.
          let stands = reached_grown parts x p f old x p v (same-true x p x p refl refl) refl refl in
          rw stands (runs_then (reached old parts x p v) (on_channel v (f ∷ [])) (on_channel v fs) (both v));
      cross = λ y linked. All-tail (Leaves s y (s.opposite p)) f fs (may.cross y linked);
    }

  -- nothing else plays a part
  pub still_arrive : (new : Parts) (fs : List Flit) → new.arrived x p ≡ parts.arrived x p →
      MayArrive s old parts x p fs → MayArrive s old new x p fs
  still_arrive new fs same may = record { follow = λ v. rw same (may.follow v); cross = may.cross }

-- A link whose two ends are known: what it holds may arrive, and there is room for it and for the credits on their way
-- back.
module _ (s : Shape) (mesh : IsMesh s) (old : Network) (parts : Parts) (sound : PartSound s old parts) (y o x : ℕ)
    (linked : s.neighbour y o ≡ Some x) where
  module _ (fs : List Flit) (credits : List ℕ) (holds : LinkHolds s parts y o x fs credits) where
    pub held_arrive : MayArrive s old parts x (s.opposite o) fs
    held_arrive =
        let back = mesh.link_back y o x linked in
        let twice = mesh.opposite_twice y o x linked in
        record {
          follow = λ v.
              let goes_on = link_goes_on s old parts sound y o x linked fs holds.sent v in
              let end =
              Runs-end (on_channel v fs) (reached old parts x (s.opposite o) v) (upstream parts.near y o v) goes_on in
              rw end goes_on;
          cross = λ z e.
              let same_node : z ≡ y = cc in
              rw (twice, same_node) (link_leaves s old parts sound y o x linked fs holds.sent);
        }

  pub flit_room : (was : Sound s old) (f : Flit) (fs : List Flit) (credits : List ℕ) →
      LinkHolds s parts y o x (f ∷ fs) credits → length (parts.near.buffer x (s.opposite o) f.vc) < s.depth
  flit_room was f fs credits holds =
      let leaves = All-head (Leaves s y o) f fs (link_leaves s old parts sound y o x linked (f ∷ fs) holds.sent) in
      let on = eq-eqb f.vc f.vc refl in
      let sum =
      rw on at (link_balance s mesh old parts was sound y o x linked (f ∷ fs) credits holds f.vc leaves.owned.0) in
      omega arith

  pub credit_room : (was : Sound s old) (c : ℕ) (cs : List ℕ) (fs : List Flit) → LinkHolds s parts y o x fs (c ∷ cs) →
      (c < s.vcs) × (parts.near.credits y o c < s.depth)
  credit_room was c cs fs holds =
      let there =
      All-head (λ (d : ℕ). d < s.vcs) c cs
      (line_channels s mesh old parts was sound y o x linked fs (c ∷ cs) holds) in
      let on = eq-eqb c c refl in
      let sum =
      rw (count-cons c c cs, on) at (link_balance s mesh old parts was sound y o x linked fs (c ∷ cs) holds c there) in
      (there, omega arith)

-- at the split it holds what it held
pub split_link_holds : (s : Shape) → IsMesh s → (old : Network) (y o x : ℕ) → s.neighbour y o ≡ Some x →
    LinkHolds s (split s old) y o x (old.out y o) (old.credit_list y o)
split_link_holds s mesh old y o x linked =
    let back = mesh.link_back y o x linked in
    let twice = mesh.opposite_twice y o x linked in
    record { sent = refl; given = rw back (ap (old.credit_list y) twice) }
