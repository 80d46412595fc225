-- How far a loop has come that takes the members out of a set, the first one first, and does at each what there is to
-- do: over the numbers below a count, at which there is nothing to do but at the members.
use Rattle.std.proofs.Common.{◌≡◌, ℕ, zero, suc, ◌+◌, ◌-◌, ◌*◌, ◌<◌, ◌≤◌, ◌⊎◌, inl, inr, None, arith, sym, subst, ◌∙◌}
use Rattle.std.proofs.Common.{false, ap, refl}
use Rattle.std.specs.List.{range_with_len}
use Rattle.std.proofs.lemmas.Bool.{cases_lt, true≢false}
use Rattle.worm_flit.specs.SmallSet.{has, IsFirst}
use Rattle.worm_vcalloc.specs.ChannelSet.{has as has_channel, IsFirst as IsFirstChannel, IsFirstPort}
use Rattle.worm_theory.proofs.Places.{number_cases}
use Rattle.worm_region.specs.State.{NetState}
use Rattle.worm_region.specs.Turns.{Does, Each, Passage}
use Rattle.worm_region.specs.Workable.{IsWorkable}
use Rattle.worm_region.proofs.Passages.{does_nothing, does_still, loop_more}

-- all numbers below the next one are done, and out of the set as those that are none, and of the others this holds
pub record Walked (Done Holds IsOut : ℕ → Type 0) (count : ℕ) : Type 0 where
  pub next : ℕ
  pub next_in : next ≤ count
  pub done : Done next
  pub gone : (n : ℕ) → (n < next) ⊎ (count ≤ n) → IsOut n
  pub rest : (n : ℕ) → next ≤ n → n < count → Holds n

-- the first member was taken out of a set
pub record IsTaken (IsOut IsOutNow : ℕ → Type 0) (first : ℕ) : Type 0 where
  pub was_in : IsOut first → ⊥
  pub none_before : (n : ℕ) → n < first → IsOut n
  pub here : IsOutNow first
  pub elsewhere : (n : ℕ) → (n ≡ first → ⊥) → IsOut n → IsOutNow n

pub walked_start : {Done Holds IsOut : ℕ → Type 0} {count : ℕ} → Done 0 → ((n : ℕ) → count ≤ n → IsOut n)
    → ((n : ℕ) → n < count → Holds n) → Walked Done Holds IsOut count
walked_start done past holds = record {
  next = 0;
  next_in = omega arith;
  done = done;
  gone = λ n apart. elim apart [
    | inl below ↦ absurd (omega arith)
    | inr above ↦ past n above
  ];
  rest = λ n above n_in. holds n n_in;
}

-- a member is none of those that are done
pub walked_place : {Done Holds IsOut : ℕ → Type 0} {count n : ℕ} (w : Walked Done Holds IsOut count)
    → (IsOut n → ⊥) → (w.next ≤ n) × (n < count)
walked_place {count = count} {n = n} w is_in = (
  elim (cases_lt n w.next) [
    | inl below ↦ absurd (is_in (w.gone n (inl below)))
    | inr above ↦ above
  ],
  elim (cases_lt n count) [
    | inl within ↦ within
    | inr past ↦ absurd (is_in (w.gone n (inr past)))
  ],
)

module _ {Done Holds IsOut : ℕ → Type 0} {count : ℕ}
    (still : (n : ℕ) → n < count → Holds n → IsOut n → Done n → Done (n + 1)) where
  along : (w : Walked Done Holds IsOut count) (k : ℕ) → w.next + k ≤ count → ((n : ℕ) → n < w.next + k → IsOut n)
      → Done (w.next + k)
  along w zero within out = let same : w.next ≡ w.next + zero = omega arith in subst Done same w.done
  along w (suc k) within out =
      let n = w.next + k in
      let same : n + 1 ≡ w.next + suc k = omega arith in
      subst Done same
      (still n (omega arith) (w.rest n (omega arith) (omega arith)) (out n (omega arith))
      (along w k (omega arith) (λ m below. out m (omega arith))))

  -- numbers that are no members are passed
  pub walked_to : (w : Walked Done Holds IsOut count) (n : ℕ) → w.next ≤ n → n ≤ count
      → ((m : ℕ) → m < n → IsOut m) → Done n
  walked_to w n above within out =
      let same : w.next + (n - w.next) ≡ n = omega arith in
      subst Done same (along w (n - w.next) (omega arith) (λ m below. out m (omega arith)))

  -- one more
  pub walked_more : {DoneNow HoldsNow IsOutNow : ℕ → Type 0} (first : ℕ) → Walked Done Holds IsOut count
      → IsTaken IsOut IsOutNow first → (Done first → DoneNow (first + 1))
      → ((n : ℕ) → first < n → n < count → Holds n → HoldsNow n) → Walked DoneNow HoldsNow IsOutNow count
  walked_more {IsOutNow = IsOutNow} first w taken step others =
      let place = walked_place w taken.was_in in
      let from = place.0 in
      let within = place.1 in
      record {
        next = first + 1;
        next_in = omega arith;
        done = step (walked_to w first from (omega arith) taken.none_before);
        gone = λ n apart. elim (number_cases n first) [
          | inl same ↦ subst IsOutNow (sym same.1) taken.here
          | inr away ↦ taken.elsewhere n away.1 (elim apart [
            | inl below ↦ let differs = away.1 in taken.none_before n (omega arith)
            | inr past ↦ w.gone n (inr past)
          ])
        ];
        rest = λ n above n_in. others n (omega arith) n_in (w.rest n (omega arith) n_in);
      }

  -- all
  pub walked_all : Walked Done Holds IsOut count → ((n : ℕ) → IsOut n) → Done count
  walked_all w out = walked_to w count w.next_in (omega arith) (λ m below. out m)

-- of a set of numbers

abbrev pub IsOut : ℕ → ℕ → Type 0
IsOut set n = n < 8 → has set n ≡ false

pub number_taken : {set new first : ℕ} → IsFirst set new first → IsTaken (IsOut set) (IsOut new) first
number_taken first = record {
  was_in = λ out. true≢false (sym first.was_in ∙ out first.in_range);
  none_before = λ n below n_few. first.none_before n below;
  here = λ n_few. first.taken.here;
  elsewhere = λ n away out n_few. first.taken.elsewhere n n_few away ∙ out n_few;
}

-- of the ports of a set of channels

abbrev pub IsPortOut : ℕ → ℕ → Type 0
IsPortOut set p = p < 7 → (v : ℕ) → v < 8 → has_channel set p v ≡ false

pub port_taken : {set new first : ℕ} → IsFirstPort set new first → IsTaken (IsPortOut set) (IsPortOut new) first
port_taken port = record {
  was_in = λ out. true≢false (sym port.some_in.2 ∙ out port.port_in port.some_in.0 port.some_in.1);
  none_before = λ p below p_few v v_few. port.none_before p v below v_few;
  here = λ p_few. port.taken;
  elsewhere = λ p away out p_few v v_few. port.elsewhere p v p_few v_few away ∙ out p_few v v_few;
}

-- of a set of channels, the number of each its place, eight to a port

abbrev pub IsChannelOut : ℕ → ℕ → Type 0
IsChannelOut set n = (p v : ℕ) → 8 * p + v ≡ n → p < 7 → v < 8 → has_channel set p v ≡ false

pub channel_taken : {set new port vc : ℕ} → IsFirstChannel set new port vc
    → IsTaken (IsChannelOut set) (IsChannelOut new) (8 * port + vc)
channel_taken {new = new} {port = port} {vc = vc} first = record {
  was_in = λ out. true≢false (sym first.was_in ∙ out port vc refl first.port_in first.channel_in);
  none_before = λ n below p v is p_few v_few. first.none_before p v v_few (omega arith);
  here = λ p v is p_few v_few. ap (λ (n : ℕ). has new n) is ∙ first.taken.here;
  elsewhere = λ n away out p v is p_few v_few.
      first.taken.elsewhere p v p_few v_few (λ e f. away (omega arith)) ∙ out p v is p_few v_few;
}

-- of the passages of a network, of which all below a number were made
pub record Passed (P : ℕ → Passage) (a b : NetState) (n : ℕ) : Type 0 where
  pub does : Does (Each P (range_with_len 0 n)) a None b
  pub sound : IsWorkable b

pub passed_none : (P : ℕ → Passage) (a : NetState) → IsWorkable a → Passed P a a 0
passed_none P a sound = record { does = does_nothing a; sound = sound }

pub passed_more : (P : ℕ → Passage) (a b c : NetState) (n : ℕ) → Passed P a b n → Does (P n) b None c → IsWorkable c
    → Passed P a c (n + 1)
passed_more P a b c n passed does sound = record { does = loop_more P n a b c None passed.does does; sound = sound }

pub passed_still : (P : ℕ → Passage) (a b : NetState) (n : ℕ) → Passed P a b n → P n b None b → Passed P a b (n + 1)
passed_still P a b n passed still = passed_more P a b b n passed (does_still (P n) b still) passed.sound
