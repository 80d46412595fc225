-- Credits are given by the ports that owe one, and what any other port owes stays.
use Rattle.std.proofs.Common.{◌≡◌, ◌==◌, ℕ, ◌+◌, ◌-◌, ◌*◌, ◌<◌, ◌≤◌, true, false, inr, List, length, nat_lt, sum}
use Rattle.std.proofs.Common.{Some, None, refl, arith, ap, sym, subst, ◌∙◌}
use Rattle.std.specs.Prelude.{IsSome, Result}
use Rattle.std.specs.List.{range_with_len}
use Rattle.std.proofs.lemmas.Bool.{eq-eqb, false_from_ne_true}
use Rattle.std.proofs.lemmas.Bool.Decides.{nat_tests}
use Rattle.worm_vcalloc.specs.ChannelSet.{has, IsFirstPort, IsLowest}
use Rattle.worm_vcalloc.proofs.SetMembers.{has-zero}
use Rattle.worm_mesh.specs.Address.{neighbour_of, node_count}
use Rattle.worm_mesh.proofs.Digits.{AreLarge-from_radices}
use Rattle.worm_router.specs.Router.{ChannelState, RouterState, input_at, with_input, terminal, width, after_gave}
use Rattle.worm_router.specs.Busy.{IsSetOf, OweByLinks, owes}
use Rattle.worm_theory.specs.Steps.{GiveCredit, IsThere}
use Rattle.worm_theory.proofs.Places.{same-false}
use Rattle.worm_region.specs.Shape.{net_shape}
use Rattle.worm_region.specs.State.{IsSameConfig, NetState, node_at, router_at, shape, with_node, with_router}
use Rattle.worm_region.specs.Workable.{IsWorkable}
use Rattle.worm_region.specs.Replies.{Attempts, Replies}
use Rattle.worm_region.specs.Moves.{OwesTheSame, can_give}
use Rattle.worm_region.specs.Turns.{Does, Each, lowest_owed, GivesCreditBy}
use Rattle.worm_node.specs.declared.node.Node.{Node}
use Rattle.worm_region.specs.declared.step.Moved.{Moved}
use Rattle.worm_region.specs.declared.fault.StepFault.{StepFault}
use Rattle.worm_region.proofs.NodeWritten.{node_at-put, input_of-put, input_of-there}
use Rattle.worm_region.proofs.PlacesThere.{linked_port, net_place}
use Rattle.worm_region.proofs.ReachedBySteps.{by_made}
use Rattle.worm_region.proofs.Passages.{loop_more}
use Rattle.worm_region.proofs.SetWalked.{IsPortOut, Walked}
use Rattle.worm_region.proofs.SetWalked.{port_taken, walked_all, walked_more, walked_place, walked_start}
use Rattle.worm_region.proofs.TurnInParts.{gives_none, owed_lowest, owing_some}

-- what is written of one input channel of a node's router leaves the others
pub input_elsewhere : (a : NetState) (x q c p v : ℕ) (one : ChannelState) → IsWorkable a → x < length a.nodes →
    q ≤ terminal (router_at a x) → c < width (router_at a x) → (p ≡ q → v ≡ c → ⊥)
    → v < width (router_at (with_router a x (with_input (router_at a x) q c one)) x)
    → (v < width (router_at a x))
    × (input_at (router_at (with_router a x (with_input (router_at a x) q c one)) x) p v ≡ input_at (router_at a x) p v)
input_elsewhere a x q c p v one net there q_in c_in away within =
    let r = router_at a x in
    let new = with_input r q c one in
    let m : Node = record (node_at a x) { router = new } in
    let itself : (x == x) ≡ true = eq-eqb x x refl in
    let at : node_at (with_node a x m) x ≡ m = rw (node_at-put a x m x there, itself) refl in
    let router : router_at (with_node a x m) x ≡ new = ap (λ (n : Node). n.router) at in
    let v_in : v < width r = subst (λ (q : RouterState). v < width q) router within in
    let node = net.framed.each_node x there in
    let put = input_of-put r q c one (record { port_in = q_in; channel_in = c_in }) node.all_inputs p v in
    let apart = same-false p v q c away in (
      v_in,
      ap (λ (q : RouterState). input_at q p v) router
          ∙ (sym (input_of-there new p v v_in) ∙ (put ∙ (rw apart (input_of-there r p v v_in)))),
    )

-- what a credit that was given leaves of the other ports
pub gave_elsewhere : (a : NetState) (x q c p v : ℕ) → IsWorkable a → x < length a.nodes → q ≤ terminal (router_at a x) →
    c < width (router_at a x) → (p ≡ q → ⊥) → v < width (router_at (with_router a x (after_gave (router_at a x) q c)) x)
    → OwesTheSame a (with_router a x (after_gave (router_at a x) q c)) x p v
gave_elsewhere a x q c p v net there q_in c_in away within =
    let was = input_at (router_at a x) q c in
    let kept = input_elsewhere a x q c p v (record was { owed = was.owed - 1 }) net there q_in c_in (λ e f. away e)
    within in
    record { there = kept.0; owed = ap (λ (s : ChannelState). s.owed) kept.1 }

pub give_elsewhere : (a b : NetState) (x q c : ℕ) (answer : Result Moved StepFault) → IsWorkable a →
    Replies a (GiveCredit x q c) answer b → (p v : ℕ) → (p ≡ q → ⊥) → v < width (router_at b x) → OwesTheSame a b x p v
unfolding net_shape
give_elsewhere a b x q c answer net replies p v away =
    by_made (λ s. v < width (router_at s x) → OwesTheSame a s x p v) a b (GiveCredit x q c) answer replies
    (λ within. record { there = within; owed = refl })
    (λ done within.
    let place = net_place a x q c net.framed done.there.0 (inr done.there.1) done.there.2 in
    let kept = gave_elsewhere a x q c p v net place.node_in place.place.port_in place.place.channel_in away within in
    record { there = kept.there; owed = kept.owed })

-- the set of a router's channels that owe

pub none_owed : (n : ℕ) → nat_lt 0 n ≡ false → n ≡ 0
none_owed n none = grind (arith, nat_tests)

-- the ports and channels of a router that is there are those of the network
pub router_size : (s : NetState) (x : ℕ) → IsWorkable s → x < node_count s.mesh →
    (terminal (router_at s x) ≡ 2 * length s.mesh) × (width (router_at s x) ≡ sum s.channels)
router_size s x net there =
    let all = net.framed.all_nodes in
    let node = net.framed.each_node x (omega arith) in
    (ap (λ (m : List ℕ). 2 * length m) node.same_mesh, ap (λ (m : List ℕ). sum m) node.same_channels)

-- a router's ports that face links are the ports of its node that have them
pub node_owes : (s : NetState) (x set : ℕ) → IsWorkable s → x < node_count s.mesh
    → OweByLinks (router_at s x).mesh (router_at s x).node set → OweByLinks s.mesh x set
node_owes s x set sound there links =
    let all = sound.framed.all_nodes in
    let node = sound.framed.each_node x (omega arith) in
    subst (λ (m : List ℕ). OweByLinks m x set) node.same_mesh
    (subst (λ (y : ℕ). OweByLinks (router_at s x).mesh y set) node.same_node links)

-- what a set has of a port is what owes a credit there, and the port has a link
pub record OwesAt (owing : ℕ) (s : NetState) (x p : ℕ) : Type 0 where
  pub owed : (v : ℕ) → v < sum s.channels → has owing p v ≡ can_give s x p v
  pub within : (v : ℕ) → v < 8 → has owing p v ≡ true → v < sum s.channels
  pub linked : (v : ℕ) → v < 8 → has owing p v ≡ true → IsSome (neighbour_of s.mesh x p)

-- the lowest channel that the set has of a port owes a credit, as no lower one does
pub record IsNext (s : NetState) (x p v : ℕ) : Type 0 where
  pub there : IsThere (shape s) (GiveCredit x p v)
  pub owes : 0 < (input_at (router_at s x) p v).owed
  pub lowest : Some v ≡ lowest_owed (router_at s x) p

module _ (owing : ℕ) (s : NetState) (x p : ℕ) (sound : IsWorkable s) (there : x < node_count s.mesh) where
  pub owes_first : IsSetOf owes (router_at s x) owing → OweByLinks s.mesh x owing → p < 2 * length s.mesh
      → OwesAt owing s x p
  owes_first set links p_in =
      let size = router_size s x sound there in
      let few = sound.framed.radices.few_dims in
      record {
        owed = λ v v_in. set.inside p v (omega (arith, size.0)) (omega (arith, size.1));
        within = λ v v_few some. omega (arith, size.1, (set.outside p v (omega arith) v_few some).1);
        linked = λ v v_few some. links.each p v (omega arith) v_few some;
      }

  -- a port with a channel that owes has a link, so it is below the terminal
  pub port_owing : (v : ℕ) → OweByLinks s.mesh x owing → p < 7 → v < 8 → has owing p v ≡ true → p < 2 * length s.mesh
  port_owing v links p_few v_few some =
      linked_port s.mesh x p (AreLarge-from_radices s.mesh sound.framed.radices.radices) _ refl
      (links.each p v p_few v_few some)

  pub lowest_next : (v : ℕ) → OwesAt owing s x p → IsLowest owing p v → IsNext s x p v
  unfolding net_shape
  lowest_next v at lowest =
      let v_in = at.within v lowest.channel_in lowest.is_in in
      let wide = (router_size s x sound there).1 in
      let owes = owing_some (input_at (router_at s x) p v).owed (sym (at.owed v v_in) ∙ lowest.is_in) in
      record {
        there = (there, at.linked v lowest.channel_in lowest.is_in, v_in);
        owes = owes;
        lowest =
            owed_lowest (router_at s x) p (Some v) (omega arith, owes)
            (λ k less. none_owed (input_at (router_at s x) p k).owed
            (sym (at.owed k (omega arith)) ∙ lowest.none_below k less)) tt;
      }

  pub none_lowest : OwesAt owing s x p → ((v : ℕ) → v < 8 → has owing p v ≡ false)
      → None ≡ lowest_owed (router_at s x) p
  none_lowest at none =
      let few = sound.framed.classes.total in
      let wide = (router_size s x sound there).1 in
      owed_lowest (router_at s x) p None tt tt
      (λ v v_in. none_owed (input_at (router_at s x) p v).owed (sym (at.owed v (omega arith)) ∙ none v (omega arith)))

  -- it was so before, and nothing has changed of the port
  pub owes_still : (before : NetState) (set : ℕ) → OwesAt set before x p → IsSameConfig before s
      → ((v : ℕ) → v < 8 → has owing p v ≡ has set p v)
      → ((v : ℕ) → v < width (router_at s x) → OwesTheSame before s x p v) → OwesAt owing s x p
  owes_still before set at config kept others =
      let few = sound.framed.classes.total in
      let same : sum s.channels ≡ sum before.channels = ap (λ (cs : List ℕ). sum cs) config.channels in
      let wide = (router_size s x sound there).1 in
      record {
        owed = λ v v_in.
            kept v (omega arith) ∙ at.owed v (omega arith)
            ∙ ap (λ (n : ℕ). nat_lt 0 n) (sym (others v (omega arith)).owed);
        within = λ v v_few some.
            let before_in = at.within v v_few (sym (kept v v_few) ∙ some) in omega arith;
        linked = λ v v_few some.
            subst (λ (m : List ℕ). IsSome (neighbour_of m x p)) (sym config.mesh)
            (at.linked v v_few (sym (kept v v_few) ∙ some));
      }

-- a walk over the mesh ports of a node, at those of which that have a channel in a set, which are those that owe
pub record Owing (Done : ℕ → Type 0) (x count owing : ℕ) (s : NetState) : Type 0 where
  pub sound : IsWorkable s
  pub there : x < node_count s.mesh
  pub ports : 2 * length s.mesh ≡ count
  pub walked : Walked Done (λ p. OwesAt owing s x p) (IsPortOut owing) count

pub owing_start : {Done : ℕ → Type 0} (x owing : ℕ) (s : NetState) → IsWorkable s → x < node_count s.mesh
    → IsSetOf owes (router_at s x) owing → OweByLinks s.mesh x owing → Done 0
    → Owing Done x (2 * length s.mesh) owing s
owing_start x owing s sound there set links done = record {
  sound = sound;
  there = there;
  ports = refl;
  walked = walked_start done
      (λ p past p_few v v_few. false_from_ne_true (has owing p v)
      (λ on. let p_in = port_owing owing s x p sound there v links p_few v_few on in omega arith))
      (λ p p_in. owes_first owing s x p sound there set links p_in);
}

module _ {Done : ℕ → Type 0} {x count owing : ℕ} {s : NetState} (left : Owing Done x count owing s) where
  module _ {new q : ℕ} (first : IsFirstPort owing new q) where
    pub owing_place : (left.walked.next ≤ q) × (q < count)
    owing_place = walked_place left.walked (port_taken first).was_in

    pub owing_next : {v : ℕ} → IsLowest owing q v → IsNext s x q v
    owing_next {v = v} lowest =
        lowest_next owing s x q left.sound left.there v (left.walked.rest q owing_place.0 owing_place.1) lowest

  module _ (still : (p : ℕ) → None ≡ lowest_owed (router_at s x) p → Done p → Done (p + 1)) where
    stays : (p : ℕ) → p < count → OwesAt owing s x p → IsPortOut owing p → Done p → Done (p + 1)
    stays p p_in at out done =
        let few = left.sound.framed.radices.few_dims in
        let ports = left.ports in
        still p (none_lowest owing s x p left.sound left.there at (out (omega arith))) done

    pub owing_all : owing ≡ 0 → Done count
    owing_all none = walked_all stays left.walked (λ p p_few v v_few. ap (λ (n : ℕ). has n p v) none ∙ has-zero p v)

    pub owing_more : {DoneNow : ℕ → Type 0} {new q : ℕ} (first : IsFirstPort owing new q) → (to : NetState)
        → IsSameConfig s to → IsWorkable to → (Done q → DoneNow (q + 1))
        → ((p v : ℕ) → (p ≡ q → ⊥) → v < width (router_at to x) → OwesTheSame s to x p v)
        → Owing DoneNow x count new to
    owing_more {new = new} {q = q} first to config sound step others =
        let few = sound.framed.radices.few_dims in
        let mesh = ap (λ (m : List ℕ). 2 * length m) config.mesh ∙ left.ports in
        let there = subst (λ (m : List ℕ). x < node_count m) (sym config.mesh) left.there in
        record {
          sound = sound;
          there = there;
          ports = mesh;
          walked = walked_more stays q left.walked (port_taken first) step
              (λ p above p_in at.
              let away : p ≡ q → ⊥ = λ e. omega arith in
              owes_still new to x p sound there s owing at config
              (λ v v_few. first.elsewhere p v (omega arith) v_few away) (λ v v_in. others p v away v_in));
        }

-- the ports below one have given their credits
abbrev pub Given : ℕ → NetState → NetState → ℕ → Type 0
Given x a b p = Does (Each (GivesCreditBy Attempts x) (range_with_len 0 p)) a None b

-- as far as one that owes none
pub given_still : (x : ℕ) (a b : NetState) (p : ℕ) → None ≡ lowest_owed (router_at b x) p → Given x a b p
    → Given x a b (p + 1)
given_still x a b p none given = loop_more (GivesCreditBy Attempts x) p a b b None given (gives_none x p b none)
