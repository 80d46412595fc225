-- A text in an option's range reads as a number in it.
use Rattle.std.proofs.Common.{◌≡◌, ◌∙◌, ◌≤◌, ℕ, List, Option, Some, None, Result, Ok, Err, ap, is_some, refl, sym}
use Rattle.std.specs.Prelude.{IsSome, IsSomeAnd, option_map}
use Rattle.std.specs.Str.Parse.{ParsesUnsigned, digits_value, without_leading_plus}
use Rattle.clap.specs.Words.{IsUnsignedIn, ReadsOne, Text}

-- the text, if there is one, was read as a number in the range
pub record IsRead (least most : ℕ) (text : Option Text) (read : Option ℕ) : Type 0 where
  pub value : ℕ
  pub is : read ≡ Some value
  pub said : option_map (λ t. digits_value 10 (without_leading_plus t)) text ≡ Some value
  pub low : least ≤ value
  pub high : value ≤ most

-- and that number is the one that stands in the answer
pub read_there : (least most : ℕ) (text : Option Text) (read : Option ℕ) (n : ℕ)
    → IsRead least most text read → read ≡ Some n
    → (option_map (λ t. digits_value 10 (without_leading_plus t)) text ≡ Some n) × (least ≤ n) × (n ≤ most)
read_there least most text read n r there =
    let is : r.value ≡ n = cc (r.is, there) in
    (r.said ∙ ap Some is, rw (← is) r.low, rw (← is) r.high)

pub number_read : {E : Type 0} (gives : Text → Result ℕ E → Type 0) (least most : ℕ) (text : Option Text)
    (read : Option ℕ) → ((t : Text) (r : Result ℕ E) → gives t r → ParsesUnsigned 64 10 t r)
    → ((t : Text) → text ≡ Some t → ReadsOne gives t read) → IsSomeAnd text (IsUnsignedIn least most)
    → IsRead least most text read
number_read gives least most None read parses reads given = absurd given
number_read gives least most (Some t) read parses reads given = by_read read (reads t refl)
  where
    by_read : (r : Option ℕ) → ReadsOne gives t r → IsRead least most (Some t) r
    by_read (Some n) h =
        let is : n ≡ digits_value 10 (without_leading_plus t) = (parses t (Ok n) h).1 in
        record {
          value = n;
          is = refl;
          said = ap Some (sym is);
          low = rw is given.2;
          high = rw is given.3;
        }
    by_read None h = absurd (parses t (Err h.0) h.1 (given.0, given.1))

-- what shows as some text is some text
pub some_shown : {X Y : Type 0} (f : X → Y) (o : Option X) (v : Option Y) → option_map f o ≡ v → IsSome v → IsSome o
some_shown f None v shown given = ap is_some shown ∙ given
some_shown f (Some x) v shown given = refl
