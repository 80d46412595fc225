-- The flits of a report's rows are in the network.
use Rattle.std.proofs.Common.{◌≡◌, ◌≤◌, ◌<◌, ◌+◌, ◌*◌, ℕ, List, [], ◌∷◌, true, false, ◌==◌, Option, None}
use Rattle.std.proofs.Common.{Some, option_map, IfSome, length, All, refl, sym, ◌∙◌, inl, inr}
use Rattle.std.proofs.Common.{arith}
use Rattle.std.specs.List.{cons_option}
use Rattle.std.proofs.lemmas.Bool.{cases_lt}
use Rattle.std.proofs.lemmas.Bool.Decides.{nat_tests}
use Rattle.std.proofs.lemmas.List.Elements.{All-nil, All-cons}
use Rattle.worm_mesh.specs.Address.{neighbour_of, opposite_of}
use Rattle.worm_mesh.proofs.Digits.{AreLarge}
use Rattle.worm_mesh.proofs.Neighbours.{no_port, Joins-from, Joins-back}
use Rattle.worm_core.specs.declared.view.Place.{Place}
use Rattle.worm_core.specs.declared.view.Place.TheVariants.{Source, Buffer, Link}
use Rattle.worm_rows.specs.declared.shape.Shape.{Shape}
use Rattle.worm_rows.specs.declared.standing.Standing.{Standing}
use Rattle.worm_rows.specs.declared.rows.Row.{Row}
use Rattle.worm_rows.specs.declared.rows.Row.TheVariants.{Header, Options, Stopped, Delivered, Underway, NotOffered}
use Rattle.worm_rows.specs.declared.rows.Row.TheVariants.{Total}
use Rattle.worm_rows.specs.Rules.{has_buffer, HasPlace, IsRow, Follow, behind}
use Rattle.worm_picture.specs.declared.scene.Flit.{Flit}
use Rattle.worm_picture.specs.Scene.{spot_at, spot_of, seen, seen_flits}
use Rattle.worm_picture.specs.Nodes.{HasSpot}

past_ports : (port most : ℕ) → most + 1 ≤ port → (port == most) ≡ false
past_ports port most le = grind (arith, nat_tests)

buffer_port : (mesh : List ℕ) (node port : ℕ) → has_buffer mesh node port ≡ true → port < 2 * length mesh + 1
buffer_port mesh node port h =
    elim (cases_lt port (2 * length mesh + 1)) [
      | inl lt ↦ lt
      | inr le ↦
          let no : has_buffer mesh node port ≡ false =
          rw (past_ports port (2 * length mesh) le, no_port mesh node port (omega arith)) refl in
          absurd (let no : true ≡ false = sym h ∙ no in cc)
    ]

at_link : (s : Shape) (node port vc : ℕ) → AreLarge s.mesh → vc < s.vcs → (to : Option ℕ)
    → neighbour_of s.mesh node port ≡ to
    → IfSome (option_map (λ to. spot_at true to (opposite_of port) vc) to) (HasSpot s)
at_link s node port vc large channel None e = tt
at_link s node port vc large channel (Some to) e =
    let there = Joins-from s.mesh node port to large e in
    let back = Joins-back s.mesh node port to there in
    record { node = there.to_node; port = omega (arith, back.mesh_port); channel = channel }

at_place : (s : Shape) (place : Place) → AreLarge s.mesh → HasPlace s place → IfSome (spot_of s.mesh place) (HasSpot s)
at_place s Source large h = tt
at_place s (Buffer node port vc) large h =
    record { node = h.0.in_mesh; port = buffer_port s.mesh node port h.1; channel = h.0.channel }
at_place s (Link node port vc) large h = at_link s node port vc large h.0.channel (neighbour_of s.mesh node port) refl

with_spot : {A B : Type 0} (P : A → Type 0) (Q : B → Type 0) (f : A → B) → ((a : A) → P a → Q (f a)) → (r : Option A)
    → IfSome r P → IfSome (option_map f r) Q
with_spot P Q f h None p = tt
with_spot P Q f h (Some a) p = h a p

at_row : (s : Shape) (row : Row) → AreLarge s.mesh → IsRow s row → IfSome (seen s.mesh row) (λ f. HasSpot s f.spot)
at_row s Header large h = tt
at_row s (Options turns workers drain) large h = tt
at_row s (Stopped worker turn) large h = tt
at_row s (Delivered packet load) large h = tt
at_row s (Underway packet index place) large h =
    with_spot (HasSpot s) (λ (f : Flit). HasSpot s f.spot) _ (λ spot has. has) (spot_of s.mesh place)
    (at_place s place large h.2)
at_row s (NotOffered entries) large h = tt
at_row s (Total delivered underway) large h = tt

with_option : {X : Type 0} (P : X → Type 0) (r : Option X) (xs : List X) → IfSome r P → All P xs
    → All P (cons_option r xs)
with_option P None xs h all = all
with_option P (Some x) xs h all = All-cons P x xs h all

pub rows_in_mesh : (s : Shape) (t : Standing) (rows : List Row) → AreLarge s.mesh → Follow s t rows
    → All (λ f. HasSpot s f.spot) (seen_flits s.mesh rows)
rows_in_mesh s t [] large h = All-nil (λ (f : Flit). HasSpot s f.spot)
rows_in_mesh s t (row ∷ rows) large h =
    with_option (λ (f : Flit). HasSpot s f.spot) (seen s.mesh row) (seen_flits s.mesh rows) (at_row s row large h.0)
    (rows_in_mesh s (behind t row) rows large h.2)
