-- What a Send needs of a region's lists where its place is there, and what it answers.
use Rattle.std.proofs.Common.{◌≡◌, ℕ, ◌*◌, length, List, ap, subst, sym}
use Rattle.std.specs.Prelude.{Result}
use Rattle.worm_router.specs.Router.{leaving, terminal}
use Rattle.worm_theory.specs.Steps.{Send, IsThere}
use Rattle.worm_region.specs.State.{NetState, IsNetPlace, router_at, shape, sink_at}
use Rattle.worm_region.specs.Moves.{LeavesByLink, Sends}
use Rattle.worm_region.specs.Replies.{Replies}
use Rattle.worm_region.specs.Workable.{IsWorkable, owned}
use Rattle.worm_region.specs.declared.step.Moved.{Moved}
use Rattle.worm_region.specs.declared.fault.StepFault.{StepFault}
use Rattle.worm_region.proofs.PlacesThere.{net_place}
use Rattle.worm_region.proofs.ReachedBySteps.{answered_inside}
use Rattle.worm_region.proofs.SendAgrees.{SendsWithin, send_answers, send_leads}

-- of the lists that a region has, for those that its caller sees
pub record IsTried (s seen : NetState) (x p v : ℕ) : Type 0 where
  pub place : IsNetPlace s x p v
  pub terminal : terminal (router_at s x) ≡ 2 * length s.mesh
  pub way : LeavesByLink s x (leaving (router_at s x) p v)
  pub sink : (sink_at s x).node ≡ x
  pub answers : (answer : Result Moved StepFault) (new : NetState)
      → Sends s x p v (leaving (router_at s x) p v) answer new
      → IsWorkable new × Replies seen (Send x p v) answer new

pub is_tried : (s seen : NetState) (x p v : ℕ) → s ≡ seen → IsWorkable s → IsThere (shape seen) (Send x p v)
    → SendsWithin (owned seen) seen x p v → IsTried s seen x p v
is_tried s seen x p v same net there_seen within_seen =
    let there = subst (λ (t : NetState). IsThere (shape t) (Send x p v)) (sym same) there_seen in
    let within = subst (λ (t : NetState). SendsWithin (owned t) t x p v) (sym same) within_seen in
    let place = net_place s x p v net.framed there.0 there.1 there.2 in
    let node = net.framed.each_node x place.node_in in
    record {
      place = place;
      terminal = ap (λ (mesh : List ℕ). 2 * length mesh) node.same_mesh;
      way = send_leads s x p v net within there;
      sink = node.sink_node;
      answers = λ answer new sends.
          answered_inside s seen new (Send x p v) answer same (send_answers s x p v net within there answer new sends);
    }
