-- The channels of a node that lack a route are routed, and any other has nothing to route.
use Rattle.std.proofs.Common.{◌≡◌, ℕ, zero, suc, ◌+◌, ◌-◌, ◌*◌, ◌<◌, ◌≤◌, ◌&&◌, true, false, inl, inr}
use Rattle.std.proofs.Common.{List, length, map}
use Rattle.std.proofs.Common.{sum, None, refl, arith, ap, sym, subst, ◌∙◌}
use Rattle.std.specs.Prelude.{Result}
use Rattle.std.specs.List.{range_with_len}
use Rattle.std.proofs.lemmas.Bool.{cases_lt, false_from_ne_true}
use Rattle.worm_vcalloc.specs.ChannelSet.{has, IsFirst}
use Rattle.worm_vcalloc.proofs.SetMembers.{has-zero}
use Rattle.worm_mesh.specs.Address.{node_count}
use Rattle.worm_records.specs.declared.InRecord.TheVariants.{Waiting}
use Rattle.worm_router.specs.Router.{ChannelState, input_at, in_state, is_idle, opens_front, front_port}
use Rattle.worm_router.specs.Router.{width, can_route}
use Rattle.worm_router.specs.Busy.{IsSetOf, lacks_route}
use Rattle.worm_router.proofs.Resting.{routes_none}
use Rattle.worm_theory.specs.Steps.{IsThere, Route}
use Rattle.worm_region.specs.Shape.{net_shape}
use Rattle.worm_region.specs.State.{NetState, router_at, shape}
use Rattle.worm_region.specs.Workable.{IsWorkable}
use Rattle.worm_region.specs.Replies.{Attempts, Replies}
use Rattle.worm_region.specs.Moves.{RoutesTheSame}
use Rattle.worm_region.specs.Turns.{Each, Does, Reaches, all_channels, all_ports, RoutesChannelsBy}
use Rattle.worm_region.specs.Turns.{AreThere, RoutesPortBy}
use Rattle.worm_region.specs.declared.step.Moved.{Moved}
use Rattle.worm_region.specs.declared.fault.StepFault.{StepFault}
use Rattle.worm_region.proofs.LowestGiven.{input_elsewhere, router_size}
use Rattle.worm_region.proofs.PassIsGrants.{there_still}
use Rattle.worm_region.proofs.PlacesThere.{net_place}
use Rattle.worm_region.proofs.Passages.{does_for, does_nothing, does_ranged, does_still, loop_more}
use Rattle.worm_region.proofs.ReachedBySteps.{by_made, joined, reached}
use Rattle.worm_region.proofs.RoutedStays.{route_still}
use Rattle.worm_region.proofs.SetWalked.{IsChannelOut, Walked, channel_taken, walked_all, walked_more, walked_place}
use Rattle.worm_region.proofs.SetWalked.{walked_start}

-- a route leaves what other channels have to route

pub route_elsewhere : (a b : NetState) (x q c : ℕ) (answer : Result Moved StepFault) → IsWorkable a →
    Replies a (Route x q c) answer b → (p v : ℕ) → (p ≡ q → v ≡ c → ⊥) → v < width (router_at b x) →
    RoutesTheSame a b x p v
unfolding net_shape
route_elsewhere a b x q c answer net replies p v away =
    by_made (λ s. v < width (router_at s x) → RoutesTheSame a s x p v) a b (Route x q c) answer replies
    (λ within. record { there = within; routes = refl })
    (λ done within.
    let place = net_place a x q c net.framed done.there.0 done.there.1 done.there.2 in
    let r = router_at a x in
    let one : ChannelState = in_state (input_at r q c) (Waiting (front_port r (input_at r q c).buffer)) in
    let kept = input_elsewhere a x q c p v one net place.node_in place.place.port_in place.place.channel_in away within
    in
    record { there = kept.0; routes = ap (λ (s : ChannelState). is_idle s.state && opens_front s.buffer) kept.1 })

-- all of the ports below one are done, and of it the channels below one
pub record Routed (x : ℕ) (a b : NetState) (port vc : ℕ) : Type 0 where
  pub mid : NetState
  pub ports : Does (Each (RoutesPortBy Attempts x) (range_with_len 0 port)) a None mid
  pub row : Does (Each (λ c. Attempts (Route x port c)) (range_with_len 0 vc)) mid None b

-- all places below one are done, eight to a port, of which the last may be no channels
pub record Passed (x : ℕ) (a b : NetState) (n : ℕ) : Type 0 where
  pub sound : IsWorkable b
  pub reaches : Reaches a b
  pub to : (p v : ℕ) → 8 * p + v ≡ n → v < 8 → Routed x a b p (sum a.channels - (sum a.channels - v))

-- a place of which the set has no channel has none to route, and a channel of the set is there
pub record RoutesAt (set : ℕ) (s : NetState) (x n : ℕ) : Type 0 where
  pub rest : (p v : ℕ) → 8 * p + v ≡ n → v < sum s.channels → has set p v ≡ false
      → can_route (router_at s x) p v ≡ false
  pub there : (p v : ℕ) → 8 * p + v ≡ n → v < 8 → has set p v ≡ true → IsThere (shape s) (Route x p v)

abbrev pub place_count : NetState → ℕ
place_count s = 8 * (2 * length s.mesh + 1)

-- how far the channels have come
abbrev pub Covered : ℕ → NetState → NetState → ℕ → Type 0
Covered x a b set = Walked (Passed x a b) (RoutesAt set b x) (IsChannelOut set) (place_count a)

-- the first channel that is left is there
pub first_there : {x : ℕ} {a b : NetState} {set new q v : ℕ} → Covered x a b set → IsFirst set new q v
    → IsThere (shape b) (Route x q v)
first_there {q = q} {v = v} covered first =
    let place = walked_place covered (channel_taken first).was_in in
    (covered.rest (8 * q + v) place.0 place.1).there q v refl first.channel_in first.was_in

module _ (x : ℕ) (a : NetState) where
  -- a channel more, or none where the port has no such
  channel_done : (b c : NetState) (p v : ℕ) → Routed x a b p (sum a.channels - (sum a.channels - v))
      → (v < sum a.channels → Does (Attempts (Route x p v)) b None c) → (sum a.channels ≤ v → c ≡ b)
      → Routed x a c p (sum a.channels - (sum a.channels - suc v))
  channel_done b c p v routed step stays = elim (cases_lt v (sum a.channels)) [
    | inl within ↦
        let now : sum a.channels - (sum a.channels - v) ≡ v = omega arith in
        let then : v + 1 ≡ sum a.channels - (sum a.channels - suc v) = omega arith in
        let done = subst (λ (n : ℕ). Does (Each (λ i. Attempts (Route x p i)) (range_with_len 0 n)) routed.mid None b)
        now routed.row in
        subst (λ (n : ℕ). Routed x a c p n) then (record {
          mid = routed.mid;
          ports = routed.ports;
          row = loop_more (λ i. Attempts (Route x p i)) v routed.mid b c None done (step within);
        })
    | inr past ↦
        let same : sum a.channels - (sum a.channels - v) ≡ sum a.channels - (sum a.channels - suc v) = omega arith in
        subst (λ (s : NetState). Routed x a s p (sum a.channels - (sum a.channels - suc v))) (sym (stays past))
        (subst (λ (n : ℕ). Routed x a b p n) same routed)
  ]

  -- all channels of a port are done, and so is the port
  port_done : (b : NetState) (p n : ℕ) → n ≡ sum a.channels → Routed x a b p n → Routed x a b (p + 1) 0
  port_done b p n whole routed =
      let same = ap (λ (cs : List ℕ). sum cs) routed.ports.reaches.config.channels ∙ sym whole in
      record {
        mid = b;
        ports =
            loop_more (RoutesPortBy Attempts x) p a routed.mid b None routed.ports
            (does_ranged (λ s. map (Route x p) (all_channels s)) (Route x p) (sum routed.mid.channels) n routed.mid b
            refl same routed.row);
        row = does_nothing b;
      }

  place_done : (b c : NetState) (n : ℕ) → sum a.channels ≤ 8 → Passed x a b n
      → ((p v : ℕ) → 8 * p + v ≡ n → v < sum a.channels → Does (Attempts (Route x p v)) b None c)
      → ((p v : ℕ) → 8 * p + v ≡ n → v < 8 → sum a.channels ≤ v → c ≡ b)
      → (p v : ℕ) → 8 * p + v ≡ n + 1 → v < 8 → Routed x a c p (sum a.channels - (sum a.channels - v))
  place_done b c n few passed step stays p zero is v_few =
      let last : 8 * (p - 1) + 7 ≡ n = omega arith in
      let one : (p - 1) + 1 ≡ p = omega arith in
      let none : 0 ≡ sum a.channels - (sum a.channels - 0) = omega arith in
      subst (λ (n : ℕ). Routed x a c p n) none (subst (λ (p : ℕ). Routed x a c p 0) one
      (port_done c (p - 1) (sum a.channels - (sum a.channels - 8)) (omega arith)
      (channel_done b c (p - 1) 7 (passed.to (p - 1) 7 last (omega arith)) (step (p - 1) 7 last)
      (stays (p - 1) 7 last (omega arith)))))
  place_done b c n few passed step stays p (suc v) is v_few =
      let at : 8 * p + v ≡ n = omega arith in
      channel_done b c p v (passed.to p v at (omega arith)) (step p v at) (stays p v at (omega arith))

  pub routed_start : (set : ℕ) → x < node_count a.mesh → IsWorkable a → IsSetOf lacks_route (router_at a x) set
      → AreThere a x set → Covered x a a set
  routed_start set there sound unrouted all_there =
      let size = router_size a x sound there in
      let few = sound.framed.radices.few_dims in
      let total = sound.framed.classes.total in
      walked_start
      (record {
        sound = sound;
        reaches = reached a;
        to = λ p v is v_few.
            let none : 0 ≡ sum a.channels - (sum a.channels - v) = omega arith in
            let first : 0 ≡ p = omega arith in
            subst (λ (n : ℕ). Routed x a a p n) none (subst (λ (p : ℕ). Routed x a a p 0) first
            (record { mid = a; ports = does_nothing a; row = does_nothing a }));
      })
      (λ n past p v is p_few v_few. false_from_ne_true (has set p v)
      (λ on. let place = unrouted.outside p v p_few v_few on in omega (arith, size.0, place.0)))
      (λ n n_in. record {
        rest = λ p v is v_in none. routes_none (input_at (router_at a x) p v)
            (sym (unrouted.inside p v (omega (arith, size.0)) (omega (arith, size.1))) ∙ none);
        there = λ p v is v_few some. all_there p v (omega arith) v_few some;
      })

  module _ (x_in : x < node_count a.mesh) (b : NetState) (set : ℕ) where
    stays : (n : ℕ) → n < place_count a → RoutesAt set b x n → IsChannelOut set n → Passed x a b n
        → Passed x a b (n + 1)
    stays n n_in at out passed =
        let config = passed.reaches.config in
        let wide = ap (λ (cs : List ℕ). sum cs) config.channels in
        let mesh = ap (λ (m : List ℕ). length m) config.mesh in
        let there = subst (λ (m : List ℕ). x < node_count m) (sym config.mesh) x_in in
        let few = passed.sound.framed.radices.few_dims in
        let total = passed.sound.framed.classes.total in
        record {
          sound = passed.sound;
          reaches = passed.reaches;
          to = place_done b b n (omega arith) passed
              (λ p v is v_in. does_still (Attempts (Route x p v)) b
              (route_still b x p v passed.sound there (omega arith)
              (at.rest p v is (omega arith) (out p v is (omega arith) (omega arith)))))
              (λ p v is v_few past. refl);
        }

    pub routed_more : (c : NetState) (new q v : ℕ) → Covered x a b set → IsFirst set new q v
        → Does (Attempts (Route x q v)) b None c
        → ((p u : ℕ) → (p ≡ q → u ≡ v → ⊥) → u < width (router_at c x) → RoutesTheSame b c x p u) → IsWorkable c
        → Covered x a c new
    unfolding net_shape
    routed_more c new q v covered first does others sound =
        let config = does.reaches.config in
        let before = covered.done.reaches.config in
        let there = subst (λ (m : List ℕ). x < node_count m) (sym (config.mesh ∙ before.mesh)) x_in in
        let wide = (router_size c x sound there).1 in
        let same = ap (λ (cs : List ℕ). sum cs) config.channels in
        let same_before = ap (λ (cs : List ℕ). sum cs) before.channels in
        let mesh = ap (λ (m : List ℕ). length m) before.mesh in
        let few = covered.done.sound.framed.radices.few_dims in
        let total = covered.done.sound.framed.classes.total in
        let taken = channel_taken first in
        let place = walked_place covered taken.was_in in
        let v_few = first.channel_in in
        let v_in : v < sum b.channels = (first_there covered first).2 in
        walked_more stays (8 * q + v) covered taken
        (λ passed. record {
          sound = sound;
          reaches = joined a b c passed.reaches does.reaches;
          to = place_done b c (8 * q + v) (omega arith) passed
              (λ p u is u_in.
              let p_is : q ≡ p = omega arith in
              let u_is : v ≡ u = omega arith in
              subst (λ (i : ℕ). Does (Attempts (Route x i u)) b None c) p_is
              (subst (λ (i : ℕ). Does (Attempts (Route x q i)) b None c) u_is does))
              (λ p u is u_few past. absurd (omega arith));
        })
        (λ n above n_in at. record {
          rest = λ p u is u_in none.
              let away : p ≡ q → u ≡ v → ⊥ = λ e f. omega arith in
              (others p u away (omega arith)).routes
              ∙ at.rest p u is (omega arith)
              (sym (first.taken.elsewhere p u (omega arith) (omega arith) away) ∙ none);
          there = λ p u is u_few some.
              let kept = first.taken.elsewhere p u (omega arith) u_few (λ e f. omega arith) in
              there_still b c x p u config (at.there p u is u_few (sym kept ∙ some));
        })

    pub routed_all : Covered x a b set → set ≡ 0 → Does (RoutesChannelsBy Attempts x) a None b
    routed_all covered none =
        let passed = walked_all stays covered (λ n p v is p_few v_few. ap (λ (s : ℕ). has s p v) none ∙ has-zero p v) in
        let routed = passed.to (2 * length a.mesh + 1) 0 (omega arith) (omega arith) in
        let zero_is : sum a.channels - (sum a.channels - 0) ≡ 0 = omega arith in
        let same = subst (λ (n : ℕ). Does (Each (λ i. Attempts (Route x (2 * length a.mesh + 1) i))
        (range_with_len 0 n)) routed.mid None b) zero_is routed.row in
        does_for all_ports (RoutesPortBy Attempts x) (2 * length a.mesh + 1) (2 * length a.mesh + 1) a b None refl
        refl (subst (λ (s : NetState). Does (Each (RoutesPortBy Attempts x) (range_with_len 0 (2 * length a.mesh + 1)))
        a None s) (sym same.exact.1) routed.ports)
