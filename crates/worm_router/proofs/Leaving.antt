-- What is there for a flit that may leave.
use Rattle.std.proofs.Common.{ap, sym, ◌∙◌, slice_get, ℕ, ◌≤◌, ◌<◌, ◌≡◌, ◌==◌, ◌&&◌, ◌||◌, nat_lt, not, List}
use Rattle.std.proofs.Common.{[], ◌∷◌, length, All, Bool, true, false, Some, None, arith, refl, subst, if◌then◌else◌}
use Rattle.std.proofs.lemmas.Bool.Decides.{nat_tests}
use Rattle.std.proofs.lemmas.List.Elements.{All-get_or}
use Rattle.worm_flit.specs.declared.Flit.{Flit}
use Rattle.worm_flit.specs.Stamps.{with_channel}
use Rattle.worm_mesh.specs.Address.{node_count}
use Rattle.worm_route.specs.Route.{port_of}
use Rattle.worm_records.specs.declared.InRecord.{InRecord}
use Rattle.worm_records.specs.declared.InRecord.TheVariants.{Idle, Waiting, Active}
use Rattle.worm_vcalloc.specs.ChannelSet.{has}
use Rattle.worm_router.specs.Router.{RouterState, ChannelState, IsRouter, IsChannel, IsPlace, StateFits, MayLeave}
use Rattle.worm_router.specs.Router.{terminal, width, line, fresh_channel, input_at, is_linked, output_at, leaving}
use Rattle.worm_router.specs.Router.{front_port, leaving_by}
use Rattle.worm_router.specs.Busy.{IsSetOf, is_occupied}
use Rattle.worm_router.proofs.Laws.{line-places}

pub channel_at : (r : RouterState) (port vc : ℕ) → IsRouter r → IsPlace r port vc
    → IsChannel r.mesh r.channels r.depth (input_at r port vc)
channel_at r port vc sound place =
    let within = line-places r port vc place in
    All-get_or (IsChannel r.mesh r.channels r.depth) r.inputs (line r port vc) (fresh_channel r.depth)
    (omega (arith, sound.lists.all_inputs)) sound.lists.inputs_sound

leaves_by : (r : RouterState) (port vc o v : ℕ) (f : Flit) (fs : List Flit) (d : ℕ × Flit) (b : Bool)
    → StateFits (terminal r) (width r) (Active o v) → f.lane.dst < node_count r.mesh
    → (input_at r port vc).owed ≤ r.depth
    → ((o == terminal r || nat_lt 0 (output_at r o v).credits) &&
    (not (is_linked r port) || nat_lt (input_at r port vc).owed r.depth)) ≡ b
    → (if b then Some (o, with_channel f v) else None) ≡ Some d → MayLeave r port vc d
leaves_by r port vc o v f fs d true fits bound owes e is =
    let same : (o, with_channel f v) ≡ d = cc in
    subst (MayLeave r port vc) same record {
      out_in = fits.0;
      channel_in = fits.1;
      bound_for_node = bound;
      has_credit = grind (arith, nat_tests);
      may_owe = grind (arith, nat_tests);
    }
leaves_by r port vc o v f fs d false fits bound owes e is = absurd (cc)

may_leave_by : (r : RouterState) (port vc : ℕ) (s : InRecord) (fs : List Flit) (d : ℕ × Flit)
    → StateFits (terminal r) (width r) s → All (λ f. f.lane.dst < node_count r.mesh) fs
    → (input_at r port vc).owed ≤ r.depth
    → leaving_by r port (input_at r port vc) s fs ≡ Some d → MayLeave r port vc d
may_leave_by r port vc Idle fs d fits bound owes is = absurd (cc)
may_leave_by r port vc (Waiting o) fs d fits bound owes is = absurd (cc)
may_leave_by r port vc (Active o v) [] d fits bound owes is = absurd (cc)
may_leave_by r port vc (Active o v) (f ∷ fs) d fits bound owes is =
    leaves_by r port vc o v f fs d ((o == terminal r || nat_lt 0 (output_at r o v).credits) &&
    (not (is_linked r port) || nat_lt (input_at r port vc).owed r.depth)) fits
    (bound 0 f (omega arith)) owes refl is

pub may_leave : (r : RouterState) (port vc : ℕ) (d : ℕ × Flit) → IsRouter r → IsPlace r port vc
    → leaving r port vc ≡ Some d → MayLeave r port vc d
may_leave r port vc d sound place is =
    let here = channel_at r port vc sound place in
    may_leave_by r port vc (input_at r port vc).state
    (input_at r port vc).buffer d here.state_fits here.bound_for_nodes here.owed_fits is

-- what may leave is of a channel that holds the output channel that it leaves by
pub leaves_by_state : (r : RouterState) (port : ℕ) (c : ChannelState) (s : InRecord) (fs : List Flit) (d : ℕ × Flit)
    → leaving_by r port c s fs ≡ Some d → s ≡ Active d.0 d.1.vc
leaves_by_state r port c Idle fs d is = absurd (cc)
leaves_by_state r port c (Waiting o) fs d is = absurd (cc)
leaves_by_state r port c (Active o v) [] d is = absurd (cc)
leaves_by_state r port c (Active o v) (f ∷ fs) d is =
    by_test ((o == terminal r || nat_lt 0 (output_at r o v).credits)
    && (not (is_linked r port) || nat_lt c.owed r.depth)) is where
      by_test : (b : Bool) → (if b then Some (o, with_channel f v) else None) ≡ Some d → Active o v ≡ Active d.0 d.1.vc
      by_test true e = let pair : (o, with_channel f v) ≡ d = cc in ap (λ (k : ℕ × Flit). Active k.0 k.1.vc) pair
      by_test false e = absurd (cc)

-- what may leave an active channel, by its front and its two tests
pub leaving_is : (r : RouterState) (port vc out out_vc : ℕ) (c : ChannelState) (front : Flit) (credit owe : Bool)
    → c ≡ input_at r port vc → c.state ≡ Active out out_vc
    → slice_get c.buffer 0 ≡ Some front → credit ≡ (out == terminal r || nat_lt 0 (output_at r out out_vc).credits)
    → owe ≡ (not (is_linked r port) || nat_lt c.owed r.depth)
    → leaving r port vc ≡ (if credit && owe then Some (out, with_channel front out_vc) else None)
leaving_is r port vc out out_vc c front credit owe is active first a b =
    ap (λ (x : ChannelState). leaving_by r port x x.state x.buffer) (sym is)
    ∙ ap (λ s. leaving_by r port c s c.buffer) active ∙ by_buffer c.buffer first where
      by_buffer : (fs : List Flit) → slice_get fs 0 ≡ Some front
          → leaving_by r port c (Active out out_vc) fs
          ≡ (if credit && owe then Some (out, with_channel front out_vc) else None)
      by_buffer [] e = absurd (cc)
      by_buffer (f ∷ fs) e =
          let same : f ≡ front = cc in
          ap (λ g. if (out == terminal r || nat_lt 0 (output_at r out out_vc).credits) &&
          (not (is_linked r port) || nat_lt c.owed r.depth) then Some (out, with_channel g out_vc) else None) same
          ∙ ap (λ k. if k && (not (is_linked r port) || nat_lt c.owed r.depth)
          then Some (out, with_channel front out_vc) else None) (sym a)
          ∙ ap (λ k. if credit && k then Some (out, with_channel front out_vc) else None) (sym b)

-- the port by which a front flit's route leaves
pub front_port_is : (r : RouterState) (fs : List Flit) (front : Flit) → slice_get fs 0 ≡ Some front
    → front_port r fs ≡ port_of r.mesh r.node front.lane.dst
front_port_is r [] front first = absurd (cc)
front_port_is r (f ∷ fs) front first =
    let same : f ≡ front = cc in ap (λ (g : Flit). port_of r.mesh r.node g.lane.dst) same

-- a channel whose front may leave has a flit
leaves_some : (r : RouterState) (port : ℕ) (c : ChannelState) (s : InRecord) (fs : List Flit) (d : ℕ × Flit)
    → leaving_by r port c s fs ≡ Some d → nat_lt 0 (length fs) ≡ true
leaves_some r port c Idle fs d is = absurd (cc)
leaves_some r port c (Waiting o) fs d is = absurd (cc)
leaves_some r port c (Active o v) [] d is = absurd (cc)
leaves_some r port c (Active o v) (f ∷ fs) d is = grind (arith, nat_tests)

pub leaves_occupied : (r : RouterState) (port vc set : ℕ) (d : ℕ × Flit) → IsPlace r port vc
    → IsSetOf is_occupied r set → leaving r port vc ≡ Some d → has set port vc ≡ true
leaves_occupied r port vc set d place those leaves =
    those.inside port vc place.port_in place.channel_in
    ∙ leaves_some r port (input_at r port vc) (input_at r port vc).state (input_at r port vc).buffer d leaves
