-- The inboxes, as a call reads and writes them in the two places where they stand.
use Rattle.std.proofs.Common.{◌≡◌, ℕ, suc, zero, ◌<◌, List, [], ◌∷◌, length, get_or, set}
use Rattle.std.proofs.Common.{refl, arith, ap, sym, subst, ◌∙◌}
use Rattle.std.specs.Simd.Lanes.{zip2}
use Rattle.std.proofs.lemmas.List.{get_or_default, set-get_or}
use Rattle.std.proofs.lemmas.Simd.{get_or-zip2, length-zip2}
use Rattle.worm_wires.specs.Arrivals.{LinksView}
use Rattle.worm_wires.specs.Inbox.{AreFiled, Inbox, inbox_by, inboxes_by, links_by}
use Rattle.worm_wires.specs.Links.{LinkView}
use Rattle.worm_wires.specs.declared.inbox.Arrivals.{Arrivals}
use Rattle.worm_wires.specs.declared.inbox.NodeFronts.{NodeFronts}
use Rattle.worm_wires.proofs.Called.{AreSeen, IsCall}

zip2_below : {X Y Z : Type 0} (f : X → Y → Z) (xs : List X) (ys : List Y) (i : ℕ) → i < length (zip2 f xs ys)
    → i < length xs
zip2_below f [] ys i below = below
zip2_below f (x ∷ xs) [] i below = absurd (omega (arith, below))
zip2_below f (x ∷ xs) (y ∷ ys) zero below = omega arith
zip2_below f (x ∷ xs) (y ∷ ys) (suc i) below =
    let rest = zip2_below f xs ys i (omega (arith, below)) in omega (arith, rest)

zip2_set : {X Y Z : Type 0} (f : X → Y → Z) (xs : List X) (ys : List Y) (i : ℕ) (x : X) (y : Y)
    → zip2 f (set xs i x) (set ys i y) ≡ set (zip2 f xs ys) i (f x y)
zip2_set f [] ys i x y = refl
zip2_set f (a ∷ xs) [] zero x y = refl
zip2_set f (a ∷ xs) [] (suc i) x y = refl
zip2_set f (a ∷ xs) (b ∷ ys) zero x y = refl
zip2_set f (a ∷ xs) (b ∷ ys) (suc i) x y = ap (λ l. f a b ∷ l) (zip2_set f xs ys i x y)

-- both written are the joined list written
pub joined_set : (arrivals : List Arrivals) (fronts : List NodeFronts) (i : ℕ) (a : Arrivals) (f : NodeFronts)
    → inboxes_by (set arrivals i a) (set fronts i f) ≡ set (inboxes_by arrivals fronts) i (inbox_by a f)
unfolding inboxes_by
joined_set arrivals fronts i a f = zip2_set inbox_by arrivals fronts i a f

pub joined_length : (arrivals : List Arrivals) (fronts : List NodeFronts) → length arrivals ≡ 256
    → length fronts ≡ 256 → length (inboxes_by arrivals fronts) ≡ 256
unfolding inboxes_by
joined_length arrivals fronts sets all = length-zip2 inbox_by arrivals fronts (sets ∙ sym all) ∙ sets

sets_there : (arrivals : List Arrivals) (fronts : List NodeFronts) (i : ℕ)
    → i < length (inboxes_by arrivals fronts) → i < length arrivals
unfolding inboxes_by
sets_there arrivals fronts i below = zip2_below inbox_by arrivals fronts i below

joined_at : (arrivals : List Arrivals) (fronts : List NodeFronts) (i : ℕ) (d : Arrivals) (e : NodeFronts) (b : Inbox)
    → i < length arrivals → i < length fronts
    → get_or (inboxes_by arrivals fronts) i b ≡ inbox_by (get_or arrivals i d) (get_or fronts i e)
unfolding inboxes_by
joined_at arrivals fronts i d e b a_in f_in = get_or-zip2 inbox_by arrivals fronts i d e b a_in f_in

abbrev pub no_arrivals : Arrivals
no_arrivals = record { flits = 0; credits = 0 }

abbrev pub no_fronts : NodeFronts
no_fronts = record { flits = record { more = 0; front = [] }; credits = record { more = 0; front = [] } }

module _ {mesh : List ℕ} {lists : List LinkView} {arrivals : List Arrivals} {fronts : List NodeFronts}
    (filed : AreFiled mesh lists arrivals fronts) (i : ℕ) where
  -- what a call reads of a node
  pub call_of : (now : LinksView) (x : ℕ) (d : Arrivals) (f : NodeFronts)
      → record { mesh = mesh; states = links_by mesh lists (inboxes_by arrivals fronts) } ≡ now → x < 256 → i ≡ x
      → f ≡ get_or fronts i f
      → IsCall mesh lists (inboxes_by arrivals fronts) now x i (inbox_by (get_or arrivals i d) f)
  call_of now x d f seen x_in at reads =
      let i_in : i < length (inboxes_by arrivals fronts) = omega (arith, filed.inboxes.nodes, at, x_in) in
      record {
        sound = filed.inboxes;
        seen = seen;
        node = x_in;
        at = at;
        reads = ap (λ (g : NodeFronts). inbox_by (get_or arrivals i d) g) reads
            ∙ sym (joined_at arrivals fronts i d f (inbox_by (get_or arrivals i d) f)
            (sets_there arrivals fronts i i_in) (omega (arith, filed.all, at, x_in)));
      }

  -- and one that reads no front
  pub sets_call_of : (now : LinksView) (x : ℕ) (d : Arrivals)
      → record { mesh = mesh; states = links_by mesh lists (inboxes_by arrivals fronts) } ≡ now → x < 256 → i ≡ x
      → IsCall mesh lists (inboxes_by arrivals fronts) now x i
      (inbox_by (get_or arrivals i d) (get_or fronts i no_fronts))
  sets_call_of now x d seen x_in at =
      call_of now x d (get_or fronts i no_fronts) seen x_in at
      (get_or_default fronts i no_fronts (get_or fronts i no_fronts) (omega (arith, filed.all, at, x_in)))

  -- and what stands there after a write, at one node of both, or of the ports alone, or of the fronts alone

  pub sets_set : (a : Arrivals) (f : NodeFronts) → f ≡ get_or fronts i f
      → inboxes_by (set arrivals i a) fronts ≡ set (inboxes_by arrivals fronts) i (inbox_by a f)
  sets_set a f reads =
      ap (λ (l : List NodeFronts). inboxes_by (set arrivals i a) l)
      (sym ((λ t. set fronts i (reads t)) ∙ set-get_or fronts i f))
      ∙ joined_set arrivals fronts i a f

  pub fronts_set : (d : Arrivals) (f : NodeFronts) → inboxes_by arrivals (set fronts i f)
      ≡ set (inboxes_by arrivals fronts) i (inbox_by (get_or arrivals i d) f)
  fronts_set d f =
      ap (λ (l : List Arrivals). inboxes_by l (set fronts i f)) (sym (set-get_or arrivals i d))
      ∙ joined_set arrivals fronts i (get_or arrivals i d) f

-- the links with what is on them, as they are seen, where the inboxes stand in two places
pub record AreLinks (mesh : List ℕ) (lists : List LinkView) (arrivals : List Arrivals) (fronts : List NodeFronts)
    (now : LinksView) : Type 0 where
  pub filed : AreFiled mesh lists arrivals fronts
  pub seen : record { mesh = mesh; states = links_by mesh lists (inboxes_by arrivals fronts) } ≡ now

pub links_are : {mesh : List ℕ} {lists : List LinkView} {arrivals : List Arrivals} {fronts : List NodeFronts}
    {inboxes : List Inbox} {now : LinksView} → length fronts ≡ 256 → inboxes_by arrivals fronts ≡ inboxes
    → AreSeen mesh lists inboxes now → AreLinks mesh lists arrivals fronts now
links_are {mesh} {lists} {now = now} all same seen =
    let are = subst (λ (b : List Inbox). AreSeen mesh lists b now) (sym same) seen in
    record { filed = record { all = all; inboxes = are.sound }; seen = are.seen }
