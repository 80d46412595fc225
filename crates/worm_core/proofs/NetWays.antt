-- In a sound network there is always a way out: what is ready for the sink is at home, and a link has room for what
-- has a credit, and for the credit that is owed.
use Rattle.std.proofs.Common.{◌≡◌, ℕ, zero, suc, ◌*◌, ◌<◌, ◌==◌, true, inl, inr, List, [], ◌∷◌, length, Option, Some}
use Rattle.std.proofs.Common.{None, refl, arith, sym, subst, ◌∙◌}
use Rattle.worm_flit.specs.declared.Flit.{Flit}
use Rattle.worm_mesh.specs.Address.{neighbour_of, node_count}
use Rattle.worm_route.specs.Route.{port_of, hops_of}
use Rattle.worm_records.specs.declared.InRecord.{InRecord}
use Rattle.worm_records.specs.declared.InRecord.TheVariants.{Idle, Waiting, Active}
use Rattle.worm_router.specs.Router.{input_at, leaving, leaving_by}
use Rattle.worm_theory.specs.Steps.{Send, IsPort, IsThere}
use Rattle.worm_theory.proofs.Places.{bool_cases}
use Rattle.worm_theory.proofs.Send.{leading, passing, front_follows}
use Rattle.worm_region.specs.Shape.{net_shape}
use Rattle.worm_region.specs.State.{NetState, IsNet, IsFramed, IsNetPlace, shape, network_of, router_at}
use Rattle.worm_region.specs.Moves.{HasWay}
use Rattle.worm_region.proofs.FrameKept.{framed_mesh}
use Rattle.worm_region.proofs.PlacesThere.{net_place}
use Rattle.worm_region.proofs.SendAgrees.{may_leave}
use Rattle.worm_region.proofs.AsListed.{buffer_there, record_there}

-- what leaves for the sink is at home
at_home : (s : NetState) (x o d n : ℕ) → IsFramed s → x < node_count s.mesh → d < node_count s.mesh →
    port_of s.mesh x d ≡ o → hops_of s.mesh x d ≡ n → o ≡ 2 * length s.mesh → d ≡ x
unfolding net_shape
at_home s x o d zero framed x_in d_in e none at = sym ((framed_mesh s framed).arrives x d x_in d_in none).0
at_home s x o d (suc n) framed x_in d_in e more at =
    let mesh = framed_mesh s framed in
    let on = mesh.goes_on x d n x_in d_in more in
    let linked : neighbour_of s.mesh x (2 * length s.mesh) ≡ Some on.0 =
    subst (λ (q : ℕ). neighbour_of s.mesh x q ≡ Some on.0) (e ∙ at) on.1 in
    let none = mesh.terminal_alone x in
    let clash : ◌≡◌ {A = Option ℕ} None (Some on.0) = sym none ∙ linked in
    absurd (cc)

same_true : (a b : ℕ) → (a == b) ≡ true → a ≡ b
same_true a b e = grind arith

way_of : (s : NetState) (x p v : ℕ) → IsNet s → IsNetPlace s x p v → x < node_count s.mesh → IsPort (shape s) x p →
    (st : InRecord) (fs : List Flit)
    → (input_at (router_at s x) p v).state ≡ st → (input_at (router_at s x) p v).buffer ≡ fs →
    HasWay s x (leaving_by (router_at s x) p (input_at (router_at s x) p v) st fs)
unfolding net_shape
way_of s x p v net place x_in port Idle fs e b = tt
way_of s x p v net place x_in port (Waiting o) fs e b = tt
way_of s x p v net place x_in port (Active o c) [] e b = tt
way_of s x p v net place x_in port (Active o c) (f ∷ rest) e b = elim (bool_cases (may_leave s x p v o c)) [
  | inl test ↦
      let N = network_of s in
      let mesh = framed_mesh s net.framed in
      let record_is = record_there s x p v place ∙ e in
      let buffer_is = buffer_there s x p v place ∙ b in
      let follows =
      front_follows (shape s) mesh N x p v o c f rest record_is buffer_is port net.sound.links net.sound.sources in
      let leads = leading (shape s) N x p v o c f rest record_is buffer_is follows net.sound.records in
      let passes = passing (shape s) N x p v o c f rest record_is buffer_is net.sound.buffered in
      let d_in = passes.lane_there.destination in
      rw test (λ at. at_home s x o f.lane.dst (hops_of s.mesh x f.lane.dst) net.framed x_in d_in leads.0 refl
      (same_true o (2 * length s.mesh) at))
  | inr test ↦ rw test tt
]

pub send_way : (s : NetState) (x p v : ℕ) → IsNet s → IsThere (shape s) (Send x p v) →
    HasWay s x (leaving (router_at s x) p v)
unfolding net_shape
send_way s x p v net there =
    let place = net_place s x p v net.framed there.0 there.1 there.2 in
    way_of s x p v net place there.0 there.1 (input_at (router_at s x) p v).state
    (input_at (router_at s x) p v).buffer refl refl
