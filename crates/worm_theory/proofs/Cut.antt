-- Flits of a lane, along its route from the sink back.
use Rattle.std.proofs.Common.{◌≡◌, ℕ, Some, suc, zero, ◌<◌, ◌≤◌, ◌⊎◌, inl, inr, Bool, true, false, cond, List, [], ◌∷◌}
use Rattle.std.proofs.Common.{◌++◌, map, refl, sym, ◌∙◌, arith, append_assoc, append-nil}
use Rattle.worm_flit.specs.declared.Lane.{Lane}
use Rattle.worm_flit.specs.declared.Flit.{Flit}
use Rattle.worm_flit.specs.Stamps.{bare, of_lane, is_of_lane}
use Rattle.worm_theory.specs.Shape.{Shape, IsMesh, HasLane, Enters, at_source, by_link}
use Rattle.worm_theory.specs.Cut.{held, at_link, underway_from, ahead_from, past_from}
use Rattle.worm_theory.proofs.Routes.{enters_node, enters_within, enters_once, hop}

-- what one flit adds to its lane
abbrev pub held_one : Lane → Flit → List Flit
held_one lane f = cond (is_of_lane lane f) (bare f ∷ []) []

pub one-cons : (b : Bool) (f : Flit) (fs : List Flit)
    → map bare (cond b (f ∷ fs) fs) ≡ cond b (bare f ∷ []) [] ++ map bare fs
one-cons true f fs = refl
one-cons false f fs = refl

pub held-cons : (lane : Lane) (f : Flit) (fs : List Flit) → held lane (f ∷ fs) ≡ held_one lane f ++ held lane fs
held-cons lane f fs = one-cons (is_of_lane lane f) f (of_lane lane fs)

pub held-append : (lane : Lane) (fs gs : List Flit) → held lane (fs ++ gs) ≡ held lane fs ++ held lane gs
held-append lane [] gs = refl
held-append lane (f ∷ fs) gs =
    rw (
      held-cons lane f (fs ++ gs),
      held-cons lane f fs,
      held-append lane fs gs,
      append_assoc (held_one lane f) (held lane fs) (held lane gs),
    )

pub held-push : (lane : Lane) (fs : List Flit) (f : Flit) → held lane (fs ++ f ∷ []) ≡ held lane fs ++ held_one lane f
held-push lane fs f = rw (held-append lane fs (f ∷ []), held-cons lane f [], append-nil)

module _ (s : Shape) (mesh : IsMesh s) (lane : Lane) (there : HasLane s lane) where
  abbrev pub ahead : (ℕ → ℕ → List Flit) → (ℕ → ℕ → List Flit) → ℕ → ℕ → ℕ → List Flit
  ahead store line n x p = ahead_from s store line lane.dst n x p

  pub ahead-split : (store line : ℕ → ℕ → List Flit) (n x p : ℕ) → x < s.nodes → s.hops x lane.dst ≡ n
      → ahead store line n x p ≡ line lane.dst s.terminal ++ underway_from s store line lane.dst n x p
  ahead-split store line zero x p in_mesh e =
      let ended = mesh.arrives x lane.dst in_mesh there.destination e in
      let port = ended.1 in
      rw (port, ended.0)
  ahead-split store line (suc n) x p in_mesh e =
      let on = mesh.goes_on x lane.dst n in_mesh there.destination e in
      let linked = on.1 in
      let rest = ahead-split store line n on.0 (s.opposite (s.next_port x lane.dst)) on.2 on.3 in
      rw (
        linked,
        rest,
        append_assoc (line lane.dst s.terminal)
            (underway_from s store line lane.dst n on.0 (s.opposite (s.next_port x lane.dst)))
            (line x (s.next_port x lane.dst) ++ store x p),
      )

  abbrev pub past : (ℕ → ℕ → List Flit) → (ℕ → ℕ → List Flit) → ℕ → ℕ → List Flit
  past store line n x = past_from s store line lane.dst n x

  pub ahead-past : (store line : ℕ → ℕ → List Flit) (n x p : ℕ)
      → ahead store line n x p ≡ past store line n x ++ store x p
  ahead-past store line zero x p = refl
  ahead-past store line (suc n) x p =
      sym (append_assoc (at_link (s.neighbour x (s.next_port x lane.dst))
      (λ y. ahead store line n y (s.opposite (s.next_port x lane.dst)))) (line x (s.next_port x lane.dst))
      (store x p))

  -- a node of the route seen from the source
  pub behind : (store line : ℕ → ℕ → List Flit) {x p : ℕ} → Enters s lane x p
      → (rest : List Flit) × (ahead store line (s.hops lane.src lane.dst) lane.src s.terminal
      ≡ ahead store line (s.hops x lane.dst) x p ++ rest)
  behind store line at_source = ([], sym (append-nil (ahead store line (s.hops lane.src lane.dst) lane.src s.terminal)))
  behind store line (by_link {x} {p} {y} before linked) =
      let up = behind store line before in
      let one = hop s mesh lane there y before linked in (
        line x (s.next_port x lane.dst) ++ store x p ++ up.0,
        up.1 ∙ rw (
          one,
          linked,
          append_assoc
              (ahead store line (s.hops y lane.dst) y (s.opposite (s.next_port x lane.dst)))
              (line x (s.next_port x lane.dst) ++ store x p) up.0,
        ),
      )

  pub behind_link : (store line : ℕ → ℕ → List Flit) (x p y : ℕ) → Enters s lane x p
      → s.neighbour x (s.next_port x lane.dst) ≡ Some y →
      (rest : List Flit) × (ahead store line (s.hops lane.src lane.dst) lane.src s.terminal
      ≡ ahead store line (s.hops y lane.dst) y (s.opposite (s.next_port x lane.dst))
      ++ (line x (s.next_port x lane.dst) ++ rest))
  behind_link store line x p y before linked =
      let up = behind store line before in
      let one = hop s mesh lane there y before linked in (
        store x p ++ up.0,
        up.1 ∙ rw (
          one,
          linked,
          append_assoc (ahead store line (s.hops y lane.dst) y (s.opposite (s.next_port x lane.dst)))
              (line x (s.next_port x lane.dst) ++ store x p) up.0,
          append_assoc (line x (s.next_port x lane.dst)) (store x p) up.0,
        ),
      )

  module _ (store store' line line' : ℕ → ℕ → List Flit) where
    -- nothing of the lane changes at this node
    abbrev pub SameAt : ℕ → Type 0
    SameAt z = ((q : ℕ) → store' z q ≡ store z q) × ((o : ℕ) → line' z o ≡ line z o)

    -- nothing changes past a node
    pub frame : (n x p : ℕ) → x < s.nodes → s.hops x lane.dst ≡ n → ((z : ℕ) → s.hops z lane.dst ≤ n → SameAt z)
        → ahead store' line' n x p ≡ ahead store line n x p
    frame zero x p in_mesh e same =
        let here = same x (omega arith) in
        rw (here.1 (s.next_port x lane.dst), here.0 p)
    frame (suc n) x p in_mesh e same =
        let on = mesh.goes_on x lane.dst n in_mesh there.destination e in
        let here = same x (omega arith) in
        let linked = on.1 in
        let rest = frame n on.0 (s.opposite (s.next_port x lane.dst)) on.2 on.3 (λ z h. same z (omega arith)) in
        rw (linked, rest, here.1 (s.next_port x lane.dst), here.0 p)

    -- what is added at a node's buffer is added at the end
    pub grown : (n x p : ℕ) (more : List Flit) → x < s.nodes → s.hops x lane.dst ≡ n
        → ((z : ℕ) → s.hops z lane.dst < n → SameAt z) →
        line' x (s.next_port x lane.dst) ≡ line x (s.next_port x lane.dst) → store' x p ≡ store x p ++ more →
        ahead store' line' n x p ≡ ahead store line n x p ++ more
    grown zero x p more in_mesh e same line_same full =
        rw (line_same, full, append_assoc (line x (s.next_port x lane.dst)) (store x p) more)
    grown (suc n) x p more in_mesh e same line_same full =
        let on = mesh.goes_on x lane.dst n in_mesh there.destination e in
        let linked = on.1 in
        let rest = frame n on.0 (s.opposite (s.next_port x lane.dst)) on.2 on.3 (λ z h. same z (omega arith)) in
        rw (
          linked,
          rest,
          line_same,
          full,
          append_assoc (ahead store line n on.0 (s.opposite (s.next_port x lane.dst)))
              (line x (s.next_port x lane.dst) ++ store x p) more,
          append_assoc (line x (s.next_port x lane.dst)) (store x p) more,
        )

    -- what goes from a node's buffer to the end of the link after it stays in its place
    pub passed_on : (n x p : ℕ) → x < s.nodes → s.hops x lane.dst ≡ n → ((z : ℕ) → s.hops z lane.dst < n → SameAt z) →
        line' x (s.next_port x lane.dst) ++ store' x p ≡ line x (s.next_port x lane.dst) ++ store x p →
        ahead store' line' n x p ≡ ahead store line n x p
    passed_on zero x p in_mesh e same hop_same = hop_same
    passed_on (suc n) x p in_mesh e same hop_same =
        let on = mesh.goes_on x lane.dst n in_mesh there.destination e in
        let linked = on.1 in
        let rest = frame n on.0 (s.opposite (s.next_port x lane.dst)) on.2 on.3 (λ z h. same z (omega arith)) in
        rw (linked, rest, hop_same)

    -- nothing changes past a node
    pub past_frame : (n x : ℕ) → x < s.nodes → s.hops x lane.dst ≡ n → ((z : ℕ) → s.hops z lane.dst < n → SameAt z)
        → line' x (s.next_port x lane.dst) ≡ line x (s.next_port x lane.dst)
        → past store' line' n x ≡ past store line n x
    past_frame zero x in_mesh e same line_same = line_same
    past_frame (suc n) x in_mesh e same line_same =
        let on = mesh.goes_on x lane.dst n in_mesh there.destination e in
        let linked = on.1 in
        let rest = frame n on.0 (s.opposite (s.next_port x lane.dst)) on.2 on.3 (λ z h. same z (omega arith)) in
        rw (linked, rest, line_same)

    -- what is added to the link after a node is added past it
    pub past_grown : (n x : ℕ) (more : List Flit) → x < s.nodes → s.hops x lane.dst ≡ n
        → ((z : ℕ) → s.hops z lane.dst < n → SameAt z)
        → line' x (s.next_port x lane.dst) ≡ line x (s.next_port x lane.dst) ++ more
        → past store' line' n x ≡ past store line n x ++ more
    past_grown zero x more in_mesh e same line_more = line_more
    past_grown (suc n) x more in_mesh e same line_more =
        let on = mesh.goes_on x lane.dst n in_mesh there.destination e in
        let linked = on.1 in
        let rest = frame n on.0 (s.opposite (s.next_port x lane.dst)) on.2 on.3 (λ z h. same z (omega arith)) in
        rw (
          linked,
          rest,
          line_more,
          append_assoc (ahead store line n on.0 (s.opposite (s.next_port x lane.dst)))
              (line x (s.next_port x lane.dst)) more,
        )

    module _ (y q : ℕ) (at : Enters s lane y q)
        (change : ahead store' line' (s.hops y lane.dst) y q ≡ ahead store line (s.hops y lane.dst) y q) (same : (z : ℕ)
        → s.hops y lane.dst < s.hops z lane.dst → SameAt z) where
      moved_here : (n x p : ℕ) → Enters s lane x p → s.hops x lane.dst ≡ n → s.hops y lane.dst ≡ n
          → ahead store' line' n x p ≡ ahead store line n x p
      moved_here n x p from e num =
          let once = enters_once s mesh lane there at from (num ∙ sym e) in
          rw (num, once.0, once.1) at change

      -- a change at node y that adds nothing adds nothing seen from further back
      pub moved : (n x p : ℕ) → Enters s lane x p → s.hops x lane.dst ≡ n → s.hops y lane.dst ≤ n
          → ahead store' line' n x p ≡ ahead store line n x p
      moved zero x p from e le = moved_here zero x p from e (omega arith)
      moved (suc n) x p from e le =
          let order : (s.hops y lane.dst ≡ suc n) ⊎ (s.hops y lane.dst ≤ n) = grind arith in
          elim order [
            | inl num ↦ moved_here (suc n) x p from e num
            | inr less ↦
                let on = mesh.goes_on x lane.dst n (enters_node s mesh lane there from) there.destination e in
                let here = same x (omega arith) in
                let linked = on.1 in
                let next : Enters s lane on.0 (s.opposite (s.next_port x lane.dst)) = by_link {p = p} from linked in
                let rest = moved n on.0 (s.opposite (s.next_port x lane.dst)) next on.3 less in
                rw (linked, rest, here.1 (s.next_port x lane.dst), here.0 p)
          ]

      pub moved_all : ahead store' line' (s.hops lane.src lane.dst) lane.src s.terminal
          ≡ ahead store line (s.hops lane.src lane.dst) lane.src s.terminal
      moved_all = moved (s.hops lane.src lane.dst) lane.src s.terminal at_source refl
          (enters_within s mesh lane there at)

      -- nor does it add anything past a node further back
      pub past_kept : (n x p : ℕ) → Enters s lane x p → s.hops x lane.dst ≡ n
          → line' x (s.next_port x lane.dst) ≡ line x (s.next_port x lane.dst)
          → (s.hops y lane.dst < n) ⊎ ((z : ℕ) → s.hops z lane.dst < n → SameAt z)
          → past store' line' n x ≡ past store line n x
      past_kept zero x p from e line_same side = line_same
      past_kept (suc n) x p from e line_same side =
          let on = mesh.goes_on x lane.dst n (enters_node s mesh lane there from) there.destination e in
          let linked = on.1 in
          let next : Enters s lane on.0 (s.opposite (s.next_port x lane.dst)) = by_link {p = p} from linked in
          let rest : ahead store' line' n on.0 (s.opposite (s.next_port x lane.dst))
          ≡ ahead store line n on.0 (s.opposite (s.next_port x lane.dst)) =
          elim side [
            | inl further ↦ moved n on.0 (s.opposite (s.next_port x lane.dst)) next on.3 (omega arith)
            | inr nearer ↦ frame n on.0 (s.opposite (s.next_port x lane.dst)) on.2 on.3 (λ z h. nearer z (omega arith))
          ] in
          rw (linked, rest, line_same)
