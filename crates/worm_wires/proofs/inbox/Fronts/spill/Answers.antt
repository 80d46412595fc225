use Rattle.std.proofs.Common.{◌≡◌, ◌<◌, ◌∙◌, ◌++◌, ◌∷◌, [], ℕ, Bool, false, true, List, Option}
use Rattle.std.proofs.Common.{ap, arith, get_or, length, refl, sym}
use Rattle.std.specs.Prelude.{option_to_list, slice_get}
use Rattle.std.specs.VecDeque.{deque_capacity}
use mathlib.Core.Bool.{beq}
use Rattle.worm_flit.specs.SmallSet.{has}
use Rattle.worm_wires.specs.Inbox.{IsWay, whole}
use Rattle.worm_wires.proofs.Ways.{got, waits, whole_front}
use Rattle.worm_wires.proofs.inbox.Fronts.spill.Goals as goal

-- two tests that are alike are the same
same_by : (a b : Bool) → beq a b ≡ true → a ≡ b
same_by true true like = refl
same_by true false like = absurd (cc)
same_by false true like = absurd (cc)
same_by false false like = refl

-- two tests that are not alike differ
differ : (a b : Bool) → beq a b ≡ false → a ≡ b → ⊥
differ true true unlike same = cc
differ true false unlike same = cc
differ false true unlike same = cc
differ false false unlike same = cc

-- where both or neither is so, the list has all
both : {A : Type 0} (here more : Bool) (front : Option A) (list : List A) (room : ℕ) → IsWay here more front list room
    → here ≡ more → list ≡ whole here front list
both here more front list room way same = sym (whole_front here front list (same ∙ way.listed))

-- of what is in the inbox alone, one comes in, and it goes into the list
alone : {A : Type 0} (here more : Bool) (front list now : List A) (room p i : ℕ) (d : A)
    → IsWay here more (slice_get front p) list room → (here ≡ more → ⊥) → i ≡ p → now ≡ list ++ get_or front i d ∷ []
    → (here ≡ true) × (now ≡ whole here (slice_get front p) list)
alone true more front [] now room p i d way unlike at is =
    (refl, is ∙ ap option_to_list (sym (got front p i d at (way.alone refl refl).1)))
alone false more front [] now room p i d way unlike at is = absurd (unlike (sym way.listed))
alone here more front (x ∷ xs) now room p i d way unlike at is =
    absurd (unlike ((way.first refl).0 ∙ sym way.listed))

pub push_back_reserved-requires : goal.push_back_reserved-requires
push_back_reserved-requires g c =
    let room : length c.args.list.now.items < deque_capacity c.args.list.now =
    waits (has c.args.here.now c.args.port) (has c.args.self.now.more c.args.port)
    (slice_get c.args.self.now.front c.args.port) c.args.list.now.items (deque_capacity c.args.list.now) c.requires.way
    (λ same. differ c.contains.result c.contains-2.result c.if-contains.false
    (c.contains.ensures ∙ same ∙ sym c.contains-2.ensures)) in
    omega arith

-- by the two tests, either both are so or neither
alike : (g : _) (c : goal.Then-contains g)
    → has c.args.here.now c.args.port ≡ has c.args.self.now.more c.args.port
alike g c = sym c.contains.ensures ∙ same_by _ _ c.if-contains.true ∙ c.contains-2.ensures

pub returns-then-contains-clause-list : goal.returns-then-contains-clause-list
returns-then-contains-clause-list g c = both _ _ _ _ _ c.requires.way (alike g c)

pub returns-then-contains-clause-filed : goal.returns-then-contains-clause-filed
returns-then-contains-clause-filed g c = record {
  comes = record { here = refl; elsewhere = λ q small other. refl };
  listed = record { here = sym (alike g c); elsewhere = λ q small other. refl };
  first = λ some. refl;
  others = λ q other. refl;
}

-- what is in the inbox alone goes into the list
by_list : (g : _) (c : goal.After-put g) → (has c.args.here.now c.args.port ≡ true)
    × (c.push_back_reserved.new.self.items
    ≡ whole (has c.args.here.now c.args.port) (slice_get c.args.self.now.front c.args.port) c.args.list.now.items)
by_list g c =
    alone (has c.args.here.now c.args.port) (has c.args.self.now.more c.args.port) c.args.self.now.front
    c.args.list.now.items _ _ c.args.port c.from.result _ c.requires.way
    (λ same. differ c.contains.result c.contains-2.result c.if-contains.false
    (c.contains.ensures ∙ same ∙ sym c.contains-2.ensures)) c.from.ensures c.push_back_reserved.ensures.items

pub returns-clause-list : goal.returns-clause-list
returns-clause-list g c = (by_list g c).1

pub returns-clause-filed : goal.returns-clause-filed
returns-clause-filed g c = record {
  comes = record { here = refl; elsewhere = λ q small other. refl };
  listed = rw (by_list g c).0 c.put.ensures;
  first = λ some. refl;
  others = λ q other. refl;
}
