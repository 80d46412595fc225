-- Which ports a look at what is kept of a node finds: flits come in by them, or credits come back.
use Rattle.std.proofs.Common.{◌≡◌, ◌==◌, ℕ, ◌*◌, ◌<◌, ◌≤◌, Bool, true, false, inl, inr, List, [], ◌∷◌, length, get_or}
use Rattle.std.proofs.Common.{Option, Some, None, refl, arith, ap, sym, ◌∙◌}
use Rattle.std.specs.Prelude.{IsTrue, option_map, IsSome, slice_get}
use Rattle.std.proofs.lemmas.Bool.{cases_lt}
use Rattle.worm_mesh.specs.Address.{neighbour_of, opposite_of}
use Rattle.worm_mesh.specs.Links.{links_before}
use Rattle.worm_wires.specs.Links.{LinkView, blank_link}
use Rattle.worm_wires.specs.Wiring.{into_from}
use Rattle.worm_flit.specs.SmallSet.{has}
use Rattle.worm_wires.specs.Arrivals.{LinksView, AreFronts, credits_of, credits_to}
use Rattle.worm_wires.specs.Arrivals.{flits_of, flits_to, has_front, number_into, number_out}
use Rattle.worm_wires.specs.Arrivals.{state_at}
use Rattle.worm_flit.proofs.SmallSets.{has_none}
use Rattle.worm_wires.proofs.Wired.{in_none, out_none}

-- nothing at the front of a list that brings nothing

nothing_by : (mesh : List ℕ) (states : List LinkView) (p : ℕ) (n : Option ℕ) → IsSome n
    → flits_of states (option_map (λ y. links_before mesh y (opposite_of p)) n) ≡ []
    → slice_get (get_or states (into_from mesh p n) blank_link).flits 0 ≡ None
nothing_by mesh states p None some none = absurd (cc)
nothing_by mesh states p (Some y) some none = rw none refl

pub nothing_in : (l : LinksView) (x p : ℕ) → IsSome (neighbour_of l.mesh x p) → flits_to l x p ≡ []
    → slice_get (state_at l (number_into l x p)).flits 0 ≡ None
nothing_in l x p linked none = nothing_by l.mesh l.states p (neighbour_of l.mesh x p) linked none

nothing_back : (mesh : List ℕ) (states : List LinkView) (x o : ℕ) (n : Option ℕ) → IsSome n
    → credits_of states (option_map (λ y. links_before mesh x o) n) ≡ []
    → slice_get (get_or states (links_before mesh x o) blank_link).credits 0 ≡ None
nothing_back mesh states x o None some none = absurd (cc)
nothing_back mesh states x o (Some y) some none = rw none refl

pub nothing_out : (l : LinksView) (x o : ℕ) → IsSome (neighbour_of l.mesh x o) → credits_to l x o ≡ []
    → slice_get (state_at l (number_out l x o)).credits 0 ≡ None
nothing_out l x o linked none = nothing_back l.mesh l.states x o (neighbour_of l.mesh x o) linked none

no_front : {A : Type 0} (xs : List A) → has_front xs ≡ false → xs ≡ []
no_front [] none = refl
no_front (x ∷ xs) none = absurd (cc)

some_front : {A : Type 0} (xs : List A) → has_front xs ≡ true → xs ≡ [] → ⊥
some_front [] some none = cc
some_front (x ∷ xs) some none = cc

-- where nothing comes in by any port a look finds that
pub come_by : {A : Type 0} (list_to : ℕ → List A) (bits : ℕ) (empty : Bool) → AreFronts list_to bits
    → (empty ≡ false → (p : ℕ) × (p < 8) × (has bits p ≡ true)) → ((p : ℕ) → list_to p ≡ []) → empty ≡ true
come_by list_to bits true are some none = refl
come_by list_to bits false are some none =
    let one = some refl in
    absurd (some_front (list_to one.0) (sym (are one.0 one.1) ∙ one.2) (none one.0))

-- What a port of a set says of a list that comes in by it, where none comes in past the mesh ports

module _ {A : Type 0} (list_to : ℕ → List A) (bits last : ℕ) (are : AreFronts list_to bits) (few : last ≤ 6)
    (past : (p : ℕ) → last ≤ p → list_to p ≡ []) where
  pub lacks : (p : ℕ) → (p < 8 → has bits p ≡ false) → list_to p ≡ []
  lacks p none = elim (cases_lt p 8) [
    | inl below ↦ no_front (list_to p) (sym (are p below) ∙ none below)
    | inr above ↦ past p (omega arith)
  ]

  -- a port of the set is a mesh port
  pub is_below : (p : ℕ) → p < 8 → has bits p ≡ true → p < last
  is_below p p_in on = elim (cases_lt p last) [
    | inl below ↦ below
    | inr above ↦ absurd (some_front (list_to p) (sym (are p p_in) ∙ on) (past p above))
  ]

  pub none_come : (bits == 0) ≡ true → (p : ℕ) → list_to p ≡ []
  none_come none p = lacks p (λ below. has_none bits p none)

-- a port by which something comes in has a link

into_some : (mesh : List ℕ) (states : List LinkView) (p : ℕ) (n : Option ℕ)
    → has_front (flits_of states (option_map (λ y. links_before mesh y (opposite_of p)) n)) ≡ true → IsSome n
into_some mesh states p None on = absurd (cc)
into_some mesh states p (Some y) on = refl

out_some : (mesh : List ℕ) (states : List LinkView) (x o : ℕ) (n : Option ℕ)
    → has_front (credits_of states (option_map (λ y. links_before mesh x o) n)) ≡ true → IsSome n
out_some mesh states x o None on = absurd (cc)
out_some mesh states x o (Some y) on = refl

pub linked_in : (l : LinksView) (x set p : ℕ) → AreFronts (flits_to l x) set → p < 8 → has set p ≡ true
    → IsSome (neighbour_of l.mesh x p)
linked_in l x set p are p_in on = into_some l.mesh l.states p (neighbour_of l.mesh x p) (sym (are p p_in) ∙ on)

pub linked_out : (l : LinksView) (x set o : ℕ) → AreFronts (credits_to l x) set → o < 8 → has set o ≡ true
    → IsSome (neighbour_of l.mesh x o)
linked_out l x set o are o_in on = out_some l.mesh l.states x o (neighbour_of l.mesh x o) (sym (are o o_in) ∙ on)

-- past the mesh ports nothing comes in

pub flits_past : (l : LinksView) (x p : ℕ) → 2 * length l.mesh ≤ p → flits_to l x p ≡ []
flits_past l x p above = ap (λ (n : Option ℕ). flits_of l.states n) (in_none l.mesh x p above)

pub credits_past : (l : LinksView) (x o : ℕ) → 2 * length l.mesh ≤ o → credits_to l x o ≡ []
credits_past l x o above = ap (λ (n : Option ℕ). credits_of l.states n) (out_none l.mesh x o above)

pub true_of : (b : Bool) → IsTrue b → b ≡ true
true_of true h = refl
true_of false h = absurd (cc)
