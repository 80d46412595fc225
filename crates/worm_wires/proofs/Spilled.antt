-- Ports and nodes whose lists have all that comes in.
use Rattle.std.proofs.Common.{◌≡◌, ◌≢◌, ℕ, ◌+◌, ◌<◌, Bool, refl, inl, inr, List, set, Option, Some, None}
use Rattle.std.proofs.Common.{arith, ap, sym}
use Rattle.std.proofs.Common.{below_more, subst, ◌∙◌}
use Rattle.std.specs.Prelude.{IsSome, option_map, slice_get}
use Rattle.std.proofs.lemmas.List.{get_or-set_other, get_or-set_same}
use Rattle.worm_flit.specs.SmallSet.{has}
use Rattle.worm_mesh.specs.Address.{neighbour_of, opposite_of}
use Rattle.worm_mesh.specs.Links.{links_before}
use Rattle.worm_wires.specs.Arrivals.{LinksView}
use Rattle.worm_wires.specs.Links.{LinkView}
use Rattle.worm_wires.specs.Inbox.{AreInboxes, ArePortsSpilled, AreSpilled, Inbox, IsFiled, IsSpilled, IsTray, Kind}
use Rattle.worm_wires.specs.Inbox.{Tray, inbox_at, no_inbox, of_credits, of_flits}
use Rattle.worm_wires.proofs.AllSpilled.{unlinked_spilled}
use Rattle.worm_wires.proofs.Apart.{number_cases}
use Rattle.worm_wires.proofs.Called.{IsCall, inbox_is}
use Rattle.worm_wires.proofs.EachKind.{IsKind}
use Rattle.worm_wires.proofs.TrayCalled.{tray_is}

-- what a port's tray has of one kind is in the list of its link now; else nothing has changed
pub record IsPortSpilled {A B : Type 0} (kind : Kind A) (other : Kind B) (old new : List Inbox) (x p : ℕ)
    : Type 0 where
  pub here : has (kind.tray (inbox_at new x)).here p ≡ has (kind.tray (inbox_at new x)).more p
  pub comes : (q : ℕ) → q < 8 → (q ≡ p → ⊥)
      → has (kind.tray (inbox_at new x)).here q ≡ has (kind.tray (inbox_at old x)).here q
  pub listed : (q : ℕ) → q < 8 → (q ≡ p → ⊥)
      → has (kind.tray (inbox_at new x)).more q ≡ has (kind.tray (inbox_at old x)).more q
  pub kept : other.tray (inbox_at new x) ≡ other.tray (inbox_at old x)
  pub others : (y : ℕ) → (y ≡ x → ⊥) → inbox_at new y ≡ inbox_at old y

-- a port, after a write of its inbox
pub port_put : {A B : Type 0} {kind : Kind A} {other : Kind B} {put : LinkView → List A → LinkView}
    → IsKind kind other put → {mesh : List ℕ} {lists : List LinkView} {inboxes : List Inbox} {now : LinksView}
    {x i : ℕ} {read : Inbox} → IsCall mesh lists inboxes now x i read → {tray tray_now : Tray A}
    → kind.tray read ≡ tray → (p : ℕ) (box : Inbox) → kind.tray box ≡ tray_now → (here : Bool) (front : Option A)
    → IsFiled tray tray_now p here here front → other.tray box ≡ other.tray read
    → IsPortSpilled kind other inboxes (set inboxes i box) x p
port_put {kind = kind} {other = other} is {inboxes = inboxes} {x = x} call tray_read p box it here front filed kept =
    let this : inbox_at (set inboxes x box) x ≡ box =
    get_or-set_same inboxes x box no_inbox (omega (arith, call.sound.nodes, call.node)) in
    let new = ap (λ (b : Inbox). kind.tray b) this ∙ it in
    let old = tray_is is call tray_read in
    subst (λ (v : ℕ). IsPortSpilled kind other inboxes (set inboxes v box) x p) (sym call.at)
    record {
      here = ap (λ (t : Tray _). has t.here p) new ∙ filed.comes.here ∙ sym filed.listed.here
          ∙ sym (ap (λ (t : Tray _). has t.more p) new);
      comes = λ q q_in away. ap (λ (t : Tray _). has t.here q) new ∙ filed.comes.elsewhere q q_in away
          ∙ ap (λ (t : Tray _). has t.here q) (sym old);
      listed = λ q q_in away. ap (λ (t : Tray _). has t.more q) new ∙ filed.listed.elsewhere q q_in away
          ∙ ap (λ (t : Tray _). has t.more q) (sym old);
      kept = ap (λ (b : Inbox). other.tray b) this ∙ kept ∙ ap (λ (b : Inbox). other.tray b) (sym (inbox_is call));
      others = λ y away. get_or-set_other inboxes x y box no_inbox away;
    }

-- one port more of a node, of one kind
port_more : {A B : Type 0} (kind : Kind A) (other : Kind B) (old new : List Inbox) (x p : ℕ) → p < 6
    → IsPortSpilled kind other old new x p → IsSpilled (kind.tray (inbox_at old x)) p
    → IsSpilled (kind.tray (inbox_at new x)) (p + 1)
port_more kind other old new x p p_in done before = λ q below. elim (number_cases q p) [
  | inl at ↦
      subst (λ (v : ℕ). has (kind.tray (inbox_at new x)).here v ≡ has (kind.tray (inbox_at new x)).more v) (sym at.1)
      done.here
  | inr away ↦
      let other_port : q ≢ p = away.1 in
      let lower : q < p = grind arith in
      let q_in : q < 8 = omega (arith, lower, p_in) in
      done.comes q q_in other_port ∙ before q lower ∙ sym (done.listed q q_in other_port)
]

-- and of both
pub ports_spilled : {old mid new : List Inbox} {x p : ℕ} → p < 6 → IsPortSpilled of_flits of_credits old mid x p
    → IsPortSpilled of_credits of_flits mid new x p → ArePortsSpilled old new x p
ports_spilled {old} {mid} {new} {x} {p} p_in flits credits = record {
  more = λ before. record {
    flits = subst (λ (t : Tray _). IsSpilled t (p + 1)) (sym credits.kept)
        (port_more of_flits of_credits old mid x p p_in flits before.flits);
    credits = port_more of_credits of_flits mid new x p p_in credits
        (subst (λ (t : Tray ℕ). IsSpilled t p) (sym flits.kept) before.credits);
  };
  others = λ y away. credits.others y away ∙ flits.others y away;
}

-- and of a port that has no link

tray_more : {A : Type 0} (kind : Kind A) (mesh : List ℕ) (links : List LinkView) (x : ℕ) (tray : Tray A) (p : ℕ)
    → p < 6 → kind.link mesh x p ≡ None → IsTray kind mesh links x tray → IsSpilled tray p → IsSpilled tray (p + 1)
tray_more kind mesh links x tray p p_in none is before =
    below_more _ _ before
    (unlinked_spilled kind.list links (has tray.here p) (has tray.more p) (slice_get tray.front p)
    (kind.link mesh x p) none (is p (omega (arith, p_in))))

none_of : (n : Option ℕ) → (IsSome n → ⊥) → n ≡ None
none_of None none = refl
none_of (Some y) none = absurd (none refl)

pub port_unlinked : {mesh : List ℕ} {links : List LinkView} {inboxes : List Inbox} {x p : ℕ}
    → AreInboxes mesh links inboxes → x < 256 → p < 6 → (IsSome (neighbour_of mesh x p) → ⊥)
    → ArePortsSpilled inboxes inboxes x p
port_unlinked {mesh} {links} {inboxes} {x} {p} are x_in p_in away = record {
  more = λ before.
      let none = none_of (neighbour_of mesh x p) away in
      record {
        flits = tray_more of_flits mesh links x (inbox_at inboxes x).flits p p_in
            (ap (λ (n : Option ℕ). option_map (λ y. links_before mesh y (opposite_of p)) n) none)
            (are.known x x_in).flits before.flits;
        credits = tray_more of_credits mesh links x (inbox_at inboxes x).credits p p_in
            (ap (λ (n : Option ℕ). option_map (λ y. links_before mesh x p) n) none)
            (are.known x x_in).credits before.credits;
      };
  others = λ y apart. refl;
}

-- and one node more
pub node_spilled : (old new : List Inbox) (i : ℕ) → AreSpilled (inbox_at new i) 6
    → ((y : ℕ) → (y ≡ i → ⊥) → inbox_at new y ≡ inbox_at old y)
    → ((x : ℕ) → x < i → AreSpilled (inbox_at old x) 6) → (x : ℕ) → x < i + 1 → AreSpilled (inbox_at new x) 6
node_spilled old new i here others before x below = elim (number_cases x i) [
  | inl at ↦ subst (λ (v : ℕ). AreSpilled (inbox_at new v) 6) (sym at.1) here
  | inr away ↦
      let other : x ≢ i = away.1 in
      subst (λ (b : Inbox). AreSpilled b 6) (sym (others x other)) (before x (grind arith))
]
