-- An inbox that is filled from the lists of a node's links, port by port.
use Rattle.std.proofs.Common.{◌≡◌, ◌≢◌, ℕ, ◌+◌, ◌<◌, ◌≤◌, Bool, true, false, inl, inr, List, [], ◌∷◌, Option, None}
use Rattle.std.proofs.Common.{refl, arith, ap, sym, subst, ◌∙◌, length, set, below_more, get_or-set_other}
use Rattle.std.proofs.Common.{get_or-set_same}
use Rattle.std.specs.Prelude.{slice_get, is_some}
use Rattle.std.proofs.lemmas.Bool.{cases_lt}
use Rattle.worm_flit.specs.SmallSet.{has}
use Rattle.worm_flit.proofs.SmallSets.{has_none}
use Rattle.worm_wires.specs.Arrivals.{has_front, on_link}
use Rattle.worm_wires.specs.Inbox.{AreSpilled, Inbox, IsFiled, IsInbox, IsSpilled, IsTray, IsWay, Kind, Tray, inbox_at}
use Rattle.worm_wires.specs.Inbox.{room_of}
use Rattle.worm_wires.specs.Links.{LinkView}
use Rattle.worm_wires.proofs.Apart.{number_cases}

-- of one port, where the list has all that comes in
pub record IsAsList {A : Type 0} (here more : Bool) (front : Option A) (list : List A) : Type 0 where
  pub comes : here ≡ has_front list
  pub listed : more ≡ has_front list
  pub first : here ≡ true → front ≡ slice_get list 0

none_alone : {A : Type 0} (here : Bool) (list : List A) → here ≡ has_front list → list ≡ [] → here ≡ false
none_alone here [] comes e = comes
none_alone here (x ∷ xs) comes e = absurd (cc)

way_of : {A : Type 0} (here more : Bool) (front : Option A) (list : List A) (room : ℕ)
    → IsAsList here more front list → IsWay here more front list room
way_of here more front list room is = record {
  listed = is.listed;
  first = λ some. (is.comes ∙ some, is.first (is.comes ∙ some));
  alone = λ empty some. let none = none_alone here list is.comes empty in absurd (cc);
}

-- What is filled of a tray below a port; at and past it nothing is in it
pub record IsFilled {A : Type 0} (tray : Tray A) (list : ℕ → List A) (port : ℕ) : Type 0 where
  pub done : (p : ℕ) → p < port → IsAsList (has tray.here p) (has tray.more p) (slice_get tray.front p) (list p)
  pub none_come : (p : ℕ) → port ≤ p → p < 8 → has tray.here p ≡ false
  pub none_listed : (p : ℕ) → port ≤ p → p < 8 → has tray.more p ≡ false

pub filled_none : {A : Type 0} (tray : Tray A) (list : ℕ → List A) → tray.here ≡ 0 → tray.more ≡ 0
    → IsFilled tray list 0
filled_none tray list no_here no_more = record {
  done = λ p below. absurd (omega (arith, below));
  none_come = λ p above p_in. ap (λ (bits : ℕ). has bits p) no_here ∙ has_none 0 p refl;
  none_listed = λ p above p_in. ap (λ (bits : ℕ). has bits p) no_more ∙ has_none 0 p refl;
}

-- one port more
pub filled_more : {A : Type 0} (old new : Tray A) (list : ℕ → List A) (port : ℕ) (front : Option A) → port < 6
    → IsFiled old new port (is_some front) (is_some front) front → front ≡ slice_get (list port) 0
    → IsFilled old list port → IsFilled new list (port + 1)
filled_more old new list port front port_in filed is filled =
    let some : is_some front ≡ has_front (list port) = ap is_some is in
    record {
      done = λ p below. elim (number_cases p port) [
        | inl at ↦
            subst (λ (v : ℕ). IsAsList (has new.here v) (has new.more v) (slice_get new.front v) (list v)) (sym at.1)
            record {
              comes = filed.comes.here ∙ some;
              listed = filed.listed.here ∙ some;
              first = λ within. filed.first (sym filed.comes.here ∙ within) ∙ is;
            }
        | inr away ↦
            let other = away.1 in
            let lower : p < port = grind arith in
            let p_in : p < 8 = omega (arith, lower, port_in) in
            let before = filled.done p lower in
            record {
              comes = filed.comes.elsewhere p p_in away.1 ∙ before.comes;
              listed = filed.listed.elsewhere p p_in away.1 ∙ before.listed;
              first = λ within. filed.others p away.1
                  ∙ before.first (sym (filed.comes.elsewhere p p_in away.1) ∙ within);
            }
      ];
      none_come = λ p above p_in.
          let other : p ≢ port = omega (arith, above) in
          filed.comes.elsewhere p p_in other ∙ filled.none_come p (omega (arith, above)) p_in;
      none_listed = λ p above p_in.
          let other : p ≢ port = omega (arith, above) in
          filed.listed.elsewhere p p_in other ∙ filled.none_listed p (omega (arith, above)) p_in;
    }

-- all of them, where ports past the sixth have no link
all_filled : {A : Type 0} (tray : Tray A) (list : ℕ → List A) (port : ℕ) → 6 ≤ port → port ≤ 6
    → ((p : ℕ) → 6 ≤ p → list p ≡ []) → IsFilled tray list port → (p : ℕ) → p < 8
    → IsAsList (has tray.here p) (has tray.more p) (slice_get tray.front p) (list p)
all_filled tray list port six few none filled p p_in = elim (cases_lt p 6) [
  | inl below ↦ filled.done p (omega (arith, below, six))
  | inr above ↦
      let no_front : has_front (list p) ≡ false = ap has_front (none p (omega (arith, above))) in
      let no_here : has tray.here p ≡ false = filled.none_come p (omega (arith, above, few)) p_in in
      record {
        comes = no_here ∙ sym no_front;
        listed = filled.none_listed p (omega (arith, above, few)) p_in ∙ sym no_front;
        first = λ within. absurd (cc);
      }
]

-- what it is then
pub tray_filled : {A : Type 0} (kind : Kind A) (mesh : List ℕ) (links : List LinkView) (x : ℕ) (tray : Tray A)
    (port : ℕ) → 6 ≤ port → port ≤ 6 → ((p : ℕ) → 6 ≤ p → kind.link mesh x p ≡ None)
    → IsFilled tray (λ p. on_link kind.list links (kind.link mesh x p)) port
    → IsTray kind mesh links x tray × IsSpilled tray 8
tray_filled kind mesh links x tray port six few past filled =
    let all = all_filled tray (λ p. on_link kind.list links (kind.link mesh x p)) port six few
    (λ p above. ap (λ (n : Option ℕ). on_link kind.list links n) (past p above)) filled in (
      λ p p_in. way_of (has tray.here p) (has tray.more p) (slice_get tray.front p)
          (on_link kind.list links (kind.link mesh x p)) (room_of links (kind.link mesh x p)) (all p p_in),
      λ p p_in. (all p p_in).comes ∙ sym (all p p_in).listed,
    )

-- one node more whose inbox is filled
pub nodes_more : (mesh : List ℕ) (links : List LinkView) (inboxes : List Inbox) (i : ℕ) (box : Inbox)
    → i < length inboxes → IsInbox mesh links i box × AreSpilled box 8
    → ((x : ℕ) → x < i → IsInbox mesh links x (inbox_at inboxes x) × AreSpilled (inbox_at inboxes x) 8) → (x : ℕ)
    → x < i + 1 → IsInbox mesh links x (inbox_at (set inboxes i box) x) × AreSpilled (inbox_at (set inboxes i box) x) 8
nodes_more mesh links inboxes i box there here before =
    below_more _ _ (λ x below. let away : x ≢ i = omega arith in
    rw get_or-set_other (before x below)) (rw get_or-set_same here)
