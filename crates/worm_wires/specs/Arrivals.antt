-- The mesh ports of a node at which something comes in: a flit from the link into the port, or a credit from the link
-- out of it (Dally and Towles, chapter 13).
use Rattle.std.specs.Prelude.{ℕ, ◌≡◌, ◌<◌, Bool, List, [], slice_get, slice_index_or, slice_set, Option, None, Some}
use Rattle.std.specs.Prelude.{is_some}
use Rattle.worm_flit.specs.declared.Flit.{Flit}
use Rattle.worm_mesh.specs.Address.{neighbour_of}
use Rattle.worm_mesh.specs.Links.{links_before}
use Rattle.worm_wires.specs.Links.{LinkView, blank_link}
use Rattle.worm_wires.specs.Wiring.{in_link, into_from, out_link}
use Rattle.worm_flit.specs.SmallSet.{has}

-- a mesh, and what is on each of its links
pub record LinksView : Type 0 where
  pub mesh : List ℕ
  pub states : List LinkView

abbrev pub state_at : LinksView → ℕ → LinkView
state_at l k = slice_index_or l.states k blank_link

abbrev pub with_state : LinksView → ℕ → LinkView → LinksView
with_state l k state = record l { states = slice_set l.states k state }

-- the numbers of the link into a port and of the link out of it
abbrev pub number_into : LinksView → ℕ → ℕ → ℕ
number_into l x p = into_from l.mesh p (neighbour_of l.mesh x p)

abbrev pub number_out : LinksView → ℕ → ℕ → ℕ
number_out l x o = links_before l.mesh x o

-- what is on a link, if it is there
abbrev pub on_link : {A : Type 0} → (LinkView → List A) → List LinkView → Option ℕ → List A
on_link list links None = []
on_link list links (Some k) = list (slice_index_or links k blank_link)

abbrev pub flits_of : List LinkView → Option ℕ → List Flit
flits_of links number = on_link (λ link. link.flits) links number

abbrev pub credits_of : List LinkView → Option ℕ → List ℕ
credits_of links number = on_link (λ link. link.credits) links number

-- the flits that come in by a port, and the credits
abbrev pub flits_to : LinksView → ℕ → ℕ → List Flit
flits_to l x p = flits_of l.states (in_link l.mesh x p)

abbrev pub credits_to : LinksView → ℕ → ℕ → List ℕ
credits_to l x o = credits_of l.states (out_link l.mesh x o)

-- a list is not empty
abbrev pub has_front : {A : Type 0} → List A → Bool
has_front xs = is_some (slice_get xs 0)

-- a set has the ports whose list is not empty, and no others
abbrev pub AreFronts : {A : Type 0} → (ℕ → List A) → ℕ → Type 0
AreFronts list_to set = (p : ℕ) → p < 8 → has set p ≡ has_front (list_to p)
