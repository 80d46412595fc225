-- Room for one worker more, while what the workers gave back is gathered.
use Rattle.std.proofs.Common.{◌≡◌, ℕ, ◌+◌, ◌^◌, ◌<◌, ◌≤◌, List, [], ◌∷◌, ◌++◌, length, map, Fits, w64}
use Rattle.std.proofs.Common.{ap, sym, ◌∙◌, refl, arith, append-nil, length-append}
use Rattle.std.proofs.lemmas.List.{length-map}
use Rattle.worm_run.specs.declared.working.Worked.{Worked}

-- a list of no length is empty
pub no_items : {A : Type 0} (items : List A) (len : ℕ) → len ≡ length items → len ≡ 0 → items ≡ []
no_items [] len is none = refl
no_items (x ∷ items) len is none = absurd (omega arith)

-- nor has an empty list any length
pub none_of_none : {A : Type 0} (items : List A) (len : ℕ) → len ≡ length items → items ≡ [] → len ≤ 0
none_of_none items len is none = let n = ap (λ l. length l) none in omega arith

-- where one more is to come, fewer came than there are
pub fewer : (so_far left rest done : List Worked) (w : Worked) → so_far ++ left ≡ done → left ≡ w ∷ rest →
    length so_far < length done
fewer so_far left rest done w all is =
    let one = ap (λ (l : List Worked). length l) is in
    let both = ap (λ (l : List Worked). length l) all in
    let sum = length-append so_far left in
    omega arith

-- room for what one worker more gives
pub has_room : {A : Type 0} (f : Worked → A) (so_far done : List Worked) (items : List A) (len count cap : ℕ) →
    len ≡ length items → items ≡ map f so_far → length so_far < length done → count ≡ length done → count ≤ cap →
    len < cap
has_room f so_far done items len count cap is each few all room =
    let n = ap (λ l. length l) each ∙ length-map so_far f in
    omega arith

-- room for its stop
pub has_stop_room : (len came all count cap : ℕ) → len ≤ came → came < all → count ≡ all → count ≤ cap → len < cap
has_stop_room len came all count cap few more is room = omega arith

-- its number fits
pub next_fits : (worker came all count cap : ℕ) → worker ≡ came → came < all → count ≡ all → count ≤ cap →
    cap < 2 ^ 63 → Fits w64 (worker + 1)
next_fits worker came all count cap is more same room small = omega arith

-- where none is to come, all came
pub all_came : (so_far left done : List Worked) (len : ℕ) → so_far ++ left ≡ done → len ≡ length left → len ≡ 0 →
    so_far ≡ done
all_came so_far left done len all is none =
    sym (append-nil so_far) ∙ (ap (λ (l : List Worked). so_far ++ l) (sym (no_items left len is none)) ∙ all)

-- one fewer is to come
pub less : (after before : ℕ) → after + 1 ≡ before → after < before
less after before is = omega arith

-- room stays where it grows
pub grown : (count before after : ℕ) → count ≤ before → before ≤ after → count ≤ after
grown count before after room more = omega arith

-- there are no more stops than workers
pub one_more : (after before came more : ℕ) → after ≤ before + 1 → before ≤ came → more ≡ came + 1 → after ≤ more
one_more after before came more one few is = omega arith

-- room for each part
pub fits_in : (done parts cap : ℕ) → done ≡ parts → parts ≤ cap → done ≤ cap
fits_in done parts cap same room = omega arith

-- room for each part, in a list that kept its room
pub grown_from : (done parts before after : ℕ) → done ≡ parts → parts ≤ before → before ≤ after → done ≤ after
grown_from done parts before after same room more = omega arith

-- the number of a worker, counted from none
pub from_none : (worker came ends : ℕ) → worker ≡ came → ends ≡ came → worker ≡ 0 + ends
from_none worker came ends is same = omega arith
