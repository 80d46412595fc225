-- What each line of a network text has to be, after the lines before it.
use Rattle.std.specs.Prelude.{ℕ, zero, suc, ◌+◌, List, [], ◌∷◌, ◌++◌, length, sum, not, Result, Ok, Err, nat_le, nat_lt}
use Rattle.std.specs.Prelude.{if◌then◌else◌, codes}
use Rattle.std.specs.Str.{bytes_eq}
use Rattle.std.specs.List.{list_any}
use Rattle.worm_mesh.specs.Address.{node_count}
use Rattle.worm_text.specs.declared.fault.Why.{Why}
use Rattle.worm_text.specs.declared.fault.Why.TheVariants.{Header, Missing, Range, Repeated, TooMany, AfterEnd}
use Rattle.worm_text.specs.declared.format.Format.{Format}
use Rattle.worm_text.specs.declared.format.Format.TheVariants.{One, Two}
use Rattle.worm_text.specs.declared.key.Key.{Key}
use Rattle.worm_text.specs.declared.key.Key.TheVariants.{Radix, Dims, Depth, Class, End}
use Rattle.worm_text.specs.Lines.{cut, space}
use Rattle.worm_text.specs.Network.{Network, IsBetween, IsMesh, AreClasses, Keeps}
use Rattle.worm_text.specs.Reading.{◌>>=◌, checked, number_at, name_at, word_at, key_at, expected, no_more}

-- where a reader is, and what the lines so far have said
pub data Stage : Type 0 where
  at_header : Stage
  -- format 1
  at_radix : Stage
  at_dims : (radix : ℕ) → Stage
  -- format 2
  at_dims_first : Stage
  at_radices : (dims : ℕ) → Stage
  -- both
  at_depth : (f : Format) (radices : List ℕ) → Stage
  at_class : (f : Format) (so_far : Network) → Stage
  ended : (f : Format) (n : Network) → Stage

-- a line that begins with this key, the others having come before
unfoldable pub begins : Key → List Key → List (List ℕ) → Result (List (List ℕ)) Why
begins wanted earlier fields = do
  found ← key_at fields
  _ ← expected wanted earlier found.0
  Ok found.1

-- one dimension more, where the nodes allow it
abbrev pub widened : List ℕ → ℕ → Result (List ℕ) Why
widened radices k = checked (nat_le (node_count (radices ++ k ∷ [])) 256) Range (radices ++ k ∷ [])

-- so many dimensions more of one radix
unfoldable pub copies_at : ℕ → List ℕ → ℕ → Result (List ℕ) Why
copies_at zero radices k = Ok radices
copies_at (suc n) radices k = do
  more ← widened radices k
  copies_at n more k

-- so many dimensions more, each of a radix that the next field gives
unfoldable pub radices_at : ℕ → List ℕ → List (List ℕ) → Result (List ℕ × List (List ℕ)) Why
radices_at zero radices fields = Ok (radices, fields)
radices_at (suc n) radices fields = do
  k ← number_at 2 16 fields
  more ← widened radices k.0
  radices_at n more k.1

unfoldable pub header_stage : List ℕ → Result Stage Why
header_stage l =
    if bytes_eq l (codes "wormnet 1") then Ok at_radix
    else if bytes_eq l (codes "wormnet 2") then Ok at_dims_first
    else Err Header

unfoldable pub radix_stage : List (List ℕ) → Result Stage Why
radix_stage fields = do
  rest ← begins Radix [] fields
  k ← number_at 2 16 rest
  _ ← no_more k.1
  Ok (at_dims k.0)

unfoldable pub dims_stage : ℕ → List (List ℕ) → Result Stage Why
dims_stage radix fields = do
  rest ← begins Dims (Radix ∷ []) fields
  n ← number_at 1 3 rest
  radices ← copies_at n.0 [] radix
  _ ← no_more n.1
  Ok (at_depth One radices)

unfoldable pub dims_first_stage : List (List ℕ) → Result Stage Why
dims_first_stage fields = do
  rest ← begins Dims [] fields
  n ← number_at 1 3 rest
  _ ← no_more n.1
  Ok (at_radices n.0)

unfoldable pub radices_stage : ℕ → List (List ℕ) → Result Stage Why
radices_stage dims fields = do
  rest ← begins Radix (Dims ∷ []) fields
  radices ← radices_at dims [] rest
  _ ← no_more radices.1
  Ok (at_depth Two radices.0)

abbrev pub without_classes : List ℕ → ℕ → Network
without_classes radices depth = record { radices = radices; depth = depth; classes = []; channels = [] }

unfoldable pub depth_stage : Format → List ℕ → List (List ℕ) → Result Stage Why
depth_stage f radices fields = do
  rest ← begins Depth (Radix ∷ Dims ∷ []) fields
  b ← number_at 1 16 rest
  _ ← no_more b.1
  Ok (at_class f (without_classes radices b.0))

-- a name that no class has yet
unfoldable pub new_name_at : List (List ℕ) → List (List ℕ) → Result (List ℕ × List (List ℕ)) Why
new_name_at taken fields = do
  name ← name_at fields
  checked (not (list_any (λ c. bytes_eq c name.0) taken)) Repeated name

-- how many channels the class has: one in format 1
unfoldable pub channels_at : Format → List ℕ → List (List ℕ) → Result (ℕ × List (List ℕ)) Why
channels_at One taken fields = Ok (1, fields)
channels_at Two taken fields = do
  rest ← word_at (codes "channels") fields
  m ← number_at 1 8 rest
  checked (nat_le (sum taken + m.0) 8) Range m

abbrev pub with_class : Network → List ℕ → ℕ → Network
with_class n name count = record n { classes = n.classes ++ name ∷ []; channels = n.channels ++ count ∷ [] }

-- a class, of which there are at most four
unfoldable pub one_class : Format → Network → List (List ℕ) → Result Stage Why
one_class f n fields = do
  _ ← checked (nat_lt (length n.classes) 4) TooMany n
  name ← new_name_at n.classes fields
  m ← channels_at f n.channels name.1
  _ ← no_more m.1
  Ok (at_class f (with_class n name.0 m.0))

-- the end, behind one class at least
unfoldable pub the_end : Format → Network → List (List ℕ) → Result Stage Why
the_end f n fields = do
  _ ← checked (nat_lt 0 (length n.classes)) Missing n
  _ ← no_more fields
  Ok (ended f n)

abbrev pub by_key : Format → Network → Key → List (List ℕ) → Result Stage Why
by_key f n Class fields = one_class f n fields
by_key f n End fields = the_end f n fields
by_key f n _ fields = Err Repeated

unfoldable pub class_stage : Format → Network → List (List ℕ) → Result Stage Why
class_stage f n fields = do
  found ← key_at fields
  by_key f n found.0 found.1

-- the stage behind a finished line
abbrev pub judge : Stage → List ℕ → Result Stage Why
judge at_header l = header_stage l
judge at_radix l = radix_stage (cut space l)
judge (at_dims radix) l = dims_stage radix (cut space l)
judge at_dims_first l = dims_first_stage (cut space l)
judge (at_radices dims) l = radices_stage dims (cut space l)
judge (at_depth f radices) l = depth_stage f radices (cut space l)
judge (at_class f n) l = class_stage f n (cut space l)
judge (ended f n) l = Err AfterEnd

-- what has been said so far keeps the rules
abbrev pub IsSound : Stage → Type 0
IsSound (at_dims radix) = IsBetween 2 16 radix
IsSound (at_radices dims) = IsBetween 1 3 dims
IsSound (at_depth f radices) = IsMesh f radices
IsSound (at_class f n) = IsMesh f n.radices × IsBetween 1 16 n.depth × AreClasses f n.classes n.channels
IsSound (ended f n) = Keeps f n
IsSound _ = Unit {0}
