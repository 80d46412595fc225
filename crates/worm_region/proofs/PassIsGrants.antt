-- A pass of an allocator leaves a network as a list of grants does; the arbiters are no part of what it stands for.
use Rattle.std.proofs.Common.{◌≡◌, ℕ, zero, suc, ◌+◌, ◌*◌, ◌<◌, ◌≤◌, ◌==◌, cond, Bool, true, false, ◌&&◌}
use Rattle.std.proofs.Common.{if◌then◌else◌, List, [], ◌∷◌, length, sum, drop, Ok, Option, Some, None, is_some, refl}
use Rattle.std.proofs.Common.{arith, ap, sym, subst, ◌∙◌}
use Rattle.std.specs.Prelude.{Result, fold, IsSome, is_none, option_map}
use Rattle.std.specs.List.{range_with_len}
use Rattle.std.proofs.lemmas.List.{set-set}
use Rattle.std.proofs.Math.ListN.{length-set}
use Rattle.std.proofs.lemmas.List.Elements.{All-nil}
use Rattle.std.proofs.lemmas.Bool.{and_parts}
use Rattle.worm_flit.specs.declared.Flit.{Flit}
use Rattle.worm_flit.specs.Channels.{owns}
use Rattle.worm_mesh.specs.Address.{node_count}
use Rattle.worm_records.specs.declared.InRecord.{InRecord}
use Rattle.worm_records.specs.declared.InRecord.TheVariants.{Idle, Waiting, Active}
use Rattle.worm_router.specs.Router.{RouterState, width, terminal, input_at, output_at, granting, leaving, leaving_by}
use Rattle.worm_router.specs.Router.{can_grant, after_grant, after_granting}
use Rattle.worm_router.specs.Allocation.{written, with_port_grants, with_grants, channel_pass, after_allocate}
use Rattle.worm_router.specs.Allocation.{after_choose, ready_at, ready_outs}
use Rattle.worm_router.proofs.TableRows.{cell_has}
use Rattle.worm_theory.proofs.Channels.{owned_by}
use Rattle.worm_swalloc.specs.SwAlloc.{SwAllocState}
use Rattle.worm_theory.specs.Shape.{Shape}
use Rattle.worm_theory.specs.Network.{Network}
use Rattle.worm_theory.specs.Steps.{Grant, Send, IsThere, node_of}
use Rattle.worm_theory.proofs.Bridge.{same_network}
use Rattle.worm_vcalloc.specs.Table.{cell}
use Rattle.worm_vcalloc.specs.VcAlloc.{VcAllocState}
use Rattle.worm_region.specs.Shape.{net_shape}
use Rattle.worm_node.specs.declared.node.Node.{Node}
use Rattle.worm_region.specs.State.{NetState, IsNetPlace, IsSameConfig, shape, network_of, node_at, router_at}
use Rattle.worm_region.specs.State.{with_node, with_router, input_of, output_of, link_of}
use Rattle.worm_region.specs.Workable.{IsWorkable, owned, Works}
use Rattle.worm_region.specs.Answers.{moved_of}
use Rattle.worm_region.specs.Moves.{IsReady, chosen_router}
use Rattle.worm_region.specs.Replies.{Replies}
use Rattle.worm_region.specs.Turns.{ReachesAt}
use Rattle.worm_region.specs.declared.step.Moved.{Moved}
use Rattle.worm_region.specs.declared.fault.StepFault.{StepFault}
use Rattle.worm_region.proofs.NodeWritten.{node_at-put, node_kept}
use Rattle.worm_region.proofs.FrameKept.{node_framed}
use Rattle.worm_region.proofs.PlacesThere.{flit_there}
use Rattle.worm_region.proofs.GrantAgrees.{grant_answers}
use Rattle.worm_region.proofs.NodeWritten.{with_router_same}
use Rattle.worm_region.proofs.StaysAtNode.{none_at, joined_at, answered_at}
use Rattle.worm_term.specs.Source.{queue_at}

-- a node that is written is read back
pub node_written : (s : NetState) (x : ℕ) (n : Node) → x < length s.nodes → node_at (with_node s x n) x ≡ n
node_written s x n there =
    let itself : (x == x) ≡ true = grind arith in
    rw (node_at-put s x n x there, itself) refl

pub router_written : (s : NetState) (x : ℕ) (r : RouterState) → x < length s.nodes → router_at (with_router s x r) x ≡ r
router_written s x r there =
    ap (λ (m : Node). m.router) (node_written s x (record (node_at s x) { router = r }) there)

-- a router written over a router
with_router_twice : (s : NetState) (x : ℕ) (r q : RouterState) → x < length s.nodes →
    with_router (with_router s x r) x q ≡ with_router s x q
with_router_twice s x r q there =
    let n : Node = record (node_at s x) { router = r } in
    let same : with_router (with_router s x r) x q ≡
    with_node (with_node s x n) x (record (node_at s x) { router = q }) =
    ap (λ (m : Node). with_node (with_node s x n) x (record m { router = q })) (node_written s x n there) in
    same ∙ ap (λ (nodes : List Node). record s { nodes = nodes })
    (set-set s.nodes x n (record (node_at s x) { router = q }))

-- the arbiters alone

arbiters_apart : (s : NetState) (x : ℕ) (a : VcAllocState) (b : SwAllocState) → x < length s.nodes →
    network_of (with_router s x (record (router_at s x) { channel_alloc = a; switch_alloc = b })) ≡ network_of s
unfolding network_of
arbiters_apart s x a b there =
    let n : Node = record (node_at s x) { router = record (router_at s x) { channel_alloc = a; switch_alloc = b } } in
    same_network _ _ record {
      buffer = λ y p v. node_kept (λ (m : Node). (input_of m.router p v).buffer) s x n there refl y;
      in_record = λ y p v. node_kept (λ (m : Node). (input_of m.router p v).state) s x n there refl y;
      last_out = λ y p v. node_kept (λ (m : Node). (input_of m.router p v).last_out) s x n there refl y;
      owed = λ y p v. node_kept (λ (m : Node). (input_of m.router p v).owed) s x n there refl y;
      holder = λ y p v. node_kept (λ (m : Node). (output_of m.router p v).holder) s x n there refl y;
      credits = λ y p v. node_kept (λ (m : Node). (output_of m.router p v).credits) s x n there refl y;
      out =
          λ y q. ap (λ (d : List Flit). cond (q == 2 * length s.mesh) d (link_of s y q).flits)
          (node_kept (λ (m : Node). m.sink.delivered) s x n there refl y);
      credit_list = λ y q. refl;
      injected = λ y j. node_kept (λ (m : Node). (queue_at m.source j).injected) s x n there refl y;
      unfed =
          λ y j. node_kept (λ (m : Node). drop (queue_at m.source j).fed (queue_at m.source j).injected) s x n there
          refl y;
    }

pub arbiters_moved : (s : NetState) (x : ℕ) (a : VcAllocState) (b : SwAllocState) → IsWorkable s → x < length s.nodes
    → IsWorkable (with_router s x (record (router_at s x) { channel_alloc = a; switch_alloc = b })) ×
    ReachesAt x s (with_router s x (record (router_at s x) { channel_alloc = a; switch_alloc = b }))
arbiters_moved s x a b net there =
    let n : Node = record (node_at s x) { router = record (router_at s x) { channel_alloc = a; switch_alloc = b } } in
    let old = net.framed.each_node x there in
    let same = arbiters_apart s x a b there in
    let back = sym same in (
      record {
        framed = node_framed s x n net.framed there record {
          same_mesh = old.same_mesh;
          same_node = old.same_node;
          same_channels = old.same_channels;
          same_depth = old.same_depth;
          all_inputs = old.all_inputs;
          all_outputs = old.all_outputs;
          source_node = old.source_node;
          source_nodes = old.source_nodes;
          source_channels = old.source_channels;
          source_holds = old.source_holds;
          fed_within = old.fed_within;
          sink_node = old.sink_node;
        };
        works = subst (λ (m : Network). Works (shape s) (owned s) m) back net.works;
      },
      record {
        steps =
            [];
        at_node = All-nil (λ step. node_of step ≡ x);
        led = same;
        config = record { mesh = refl; channels = refl; depth = refl; names = refl; own = refl };
      },
    )

some_if : (b : Bool) (q o : ℕ) → (if b then Some q else None) ≡ Some o → b ≡ true
some_if true q o e = refl
some_if false q o e = let no_grant : ◌≡◌ {A = Option ℕ} None (Some o) = e in absurd (cc)

-- what is granted is there
granted_there : (s : NetState) (x p v k o : ℕ) → IsWorkable s → x < node_count s.mesh → IsNetPlace s x p v →
    (st : InRecord) (fs : List Flit)
    → (input_at (router_at s x) p v).buffer ≡ fs → granting (router_at s x) st fs k ≡ Some o →
    IsThere (shape s) (Grant x p v k)
unfolding net_shape
granted_there s x p v k o net x_in place Idle fs b e =
    let no_grant : ◌≡◌ {A = Option ℕ} None (Some o) = e in absurd (cc)
granted_there s x p v k o net x_in place (Active q c) fs b e =
    let no_grant : ◌≡◌ {A = Option ℕ} None (Some o) = e in absurd (cc)
granted_there s x p v k o net x_in place (Waiting q) [] b e =
    let no_grant : ◌≡◌ {A = Option ℕ} None (Some o) = e in absurd (cc)
granted_there s x p v k o net x_in place (Waiting q) (f ∷ rest) b e =
    let node = net.framed.each_node x place.node_in in
    let test =
    some_if (is_none (output_at (router_at s x) q k).holder && owns (router_at s x).channels f.lane.class k) q o e in
    let owned =
    (and_parts (is_none (output_at (router_at s x) q k).holder)
    (owns (router_at s x).channels f.lane.class k) test).1 in
    let within = (owned_by (router_at s x).channels f.lane.class k owned).0 in
    let there = flit_there s x p v f rest net x_in place b in
    (there.0, there.1, there.2, rw (← node.same_channels) within)

-- what is ready to leave is there
leaving_there : (s : NetState) (x p v : ℕ) → IsWorkable s → x < node_count s.mesh → IsNetPlace s x p v →
    (st : InRecord) (fs : List Flit)
    → (input_at (router_at s x) p v).buffer ≡ fs →
    IsSome (leaving_by (router_at s x) p (input_at (router_at s x) p v) st fs) → IsThere (shape s) (Send x p v)
leaving_there s x p v net x_in place Idle fs b ready = absurd (cc)
leaving_there s x p v net x_in place (Waiting o) fs b ready = absurd (cc)
leaving_there s x p v net x_in place (Active o c) [] b ready = absurd (cc)
leaving_there s x p v net x_in place (Active o c) (f ∷ rest) b ready = flit_there s x p v f rest net x_in place b

pub ready_there : (s : NetState) (x p v : ℕ) → IsWorkable s → x < node_count s.mesh → IsReady (router_at s x) p v →
    IsThere (shape s) (Send x p v)
ready_there s x p v net x_in ready =
    let all = net.framed.all_nodes in
    let c = input_at (router_at s x) p v in
    leaving_there s x p v net x_in (record { node_in = omega arith; place = ready.place }) c.state c.buffer refl
    ready.leaves

-- what a table of the channels that may send names is ready
some_ready : (o : Option (ℕ × Flit)) (out : ℕ) → option_map (λ (leave : ℕ × Flit). leave.0) o ≡ Some out → IsSome o
some_ready None out e = let none : ◌≡◌ {A = Option ℕ} None (Some out) = e in absurd (cc)
some_ready (Some leave) out e = refl

pub named_ready : (r : RouterState) (p v out : ℕ) → cell (ready_outs r) p v None ≡ Some out → IsReady r p v
named_ready r p v out =
    cell_has (λ (o : Option ℕ). o ≡ Some out → IsReady r p v) r None (ready_at r) p v (λ e.
    let none : ◌≡◌ {A = Option ℕ} None (Some out) = e in absurd (cc))
    (λ place e. record { place = place; leaves = some_ready (leaving r p v) out e })

-- a place that is there stays there
pub there_still : (a b : NetState) (x p v : ℕ) → IsSameConfig a b → IsThere (shape a) (Send x p v) →
    IsThere (shape b) (Send x p v)
there_still a b x p v config there =
    let same : shape b ≡ shape a = λ t. net_shape (config.mesh t) (config.channels t) (config.depth t) in
    subst (λ (s : Shape). IsThere s (Send x p v)) (sym same) there

-- what each grant that is tried keeps, and each change that leaves all places as they are
pub record IsKeptByGrants (x : ℕ) (K : NetState → Type 0) : Type 0 where
  pub by_grant : (t u : NetState) (p v k : ℕ) (answer : Result Moved StepFault) → Replies t (Grant x p v k) answer u →
      K t → K u
  pub by_places : (t u : NetState) → IsSameConfig t u → network_of u ≡ network_of t → K t → K u

-- a grant that is tried
grant_by : (K : NetState → Type 0) (s : NetState) (x p v k : ℕ) → IsKeptByGrants x K → IsWorkable s →
    IsNetPlace s x p v
    → x < node_count s.mesh → (o : Option ℕ) → can_grant (router_at s x) p v k ≡ o → K s
    → IsWorkable (with_router s x (after_grant (router_at s x) p v k)) ×
    K (with_router s x (after_grant (router_at s x) p v k))
grant_by K s x p v k keeps net place x_in None e had =
    let none : after_grant (router_at s x) p v k ≡ router_at s x =
    ap (λ (o : Option ℕ). after_granting (router_at s x) p v k o) e in
    let same : s ≡ with_router s x (after_grant (router_at s x) p v k) =
    sym (ap (λ (q : RouterState). with_router s x q) none ∙ with_router_same s x place.node_in) in
    (subst IsWorkable same net, subst K same had)
grant_by K s x p v k keeps net place x_in (Some o) e had =
    let c = input_at (router_at s x) p v in
    let there = granted_there s x p v k o net x_in place c.state c.buffer refl e in
    let answer = grant_answers s x p v k net there in
    let done = Ok (moved_of (is_some (can_grant (router_at s x) p v k))) in
    (answer.0, keeps.by_grant s (with_router s x (after_grant (router_at s x) p v k)) p v k done answer.1 had)

-- a router that a list of tried grants makes of the node's router
record Granted (K : NetState → Type 0) (s : NetState) (x : ℕ) (r : RouterState) : Type 0 where
  mesh : r.mesh ≡ s.mesh
  channels : r.channels ≡ s.channels
  net : IsWorkable (with_router s x r)
  kept : K (with_router s x r)

config_after : (r : RouterState) (p v k : ℕ) (o : Option ℕ)
    → ((after_granting r p v k o).mesh ≡ r.mesh) × ((after_granting r p v k o).channels ≡ r.channels)
config_after r p v k None = (refl, refl)
config_after r p v k (Some o) = (refl, refl)

-- a fold over numbers keeps what each of its steps keeps
fold_range : {A : Type 0} (P : A → Type 0) (f : A → ℕ → A) (m : ℕ) → ((a : A) (i : ℕ) → i < m → P a → P (f a i))
    → (from n : ℕ) → from + n ≤ m → (a : A) → P a → P (fold f a (range_with_len from n))
fold_range P f m step from zero within a had = had
fold_range P f m step from (suc n) within a had =
    fold_range P f m step (from + 1) n (omega arith) (f a from) (step a from (omega arith) had)

module _ (K : NetState → Type 0) (s : NetState) (x : ℕ) (keeps : IsKeptByGrants x K) (there : x < length s.nodes)
    (x_in : x < node_count s.mesh) where
  grant_more : (r : RouterState) (p v k : ℕ) → p ≤ 2 * length s.mesh → v < sum s.channels → Granted K s x r →
      Granted K s x (after_grant r p v k)
  grant_more r p v k p_in v_in had =
      let t = with_router s x r in
      let own : router_at t x ≡ r = router_written s x r there in
      let there_t : x < length t.nodes = rw length-set there in
      let port_in : p ≤ terminal (router_at t x) = rw (own, had.mesh) p_in in
      let channel_in : v < width (router_at t x) = rw (own, had.channels) v_in in
      let place : IsNetPlace t x p v =
      record { node_in = there_t; place = record { port_in = port_in; channel_in = channel_in } } in
      let done = grant_by K t x p v k keeps had.net place x_in (can_grant (router_at t x) p v k) refl had.kept in
      let to : with_router t x (after_grant (router_at t x) p v k) ≡ with_router s x (after_grant r p v k) =
      ap (λ (q : RouterState). with_router t x (after_grant q p v k)) own ∙
      with_router_twice s x r (after_grant r p v k) there in
      let config = config_after r p v k (can_grant r p v k) in
      record {
        mesh = config.0 ∙ had.mesh;
        channels = config.1 ∙ had.channels;
        net = subst IsWorkable to done.0;
        kept = subst K to done.1;
      }

  written_more : (r : RouterState) (p v : ℕ) (o : Option ℕ) → p ≤ 2 * length s.mesh → v < sum s.channels →
      Granted K s x r → Granted K s x (written r p v o)
  written_more r p v None p_in v_in had = had
  written_more r p v (Some k) p_in v_in had = grant_more r p v k p_in v_in had

  port_granted : (grants : List (List (Option ℕ))) (r : RouterState) (p : ℕ) → p ≤ 2 * length s.mesh → Granted K s x r
      → Granted K s x (with_port_grants grants r p)
  unfolding with_port_grants
  port_granted grants r p p_in had =
      fold_range (λ q. Granted K s x q) (λ q v. written q p v (cell grants p v None)) (sum s.channels)
      (λ q v v_in before. written_more q p v (cell grants p v None) p_in v_in before) 0 (width r)
      (rw had.channels (omega arith)) r had

  all_granted : (grants : List (List (Option ℕ))) (r : RouterState) → Granted K s x r →
      Granted K s x (with_grants grants r)
  unfolding with_grants
  all_granted grants r had =
      fold_range (λ q. Granted K s x q) (with_port_grants grants) (2 * length s.mesh + 1)
      (λ q p p_in before. port_granted grants q p (omega arith) before) 0 (terminal r + 1)
      (rw had.mesh (omega arith)) r had

-- a pass of the channel allocator keeps it
pub allocated_keeps : (K : NetState → Type 0) (s : NetState) (x : ℕ) → IsKeptByGrants x K → IsWorkable s →
    x < length s.nodes → K s
    → IsWorkable (with_router s x (after_allocate (router_at s x))) ×
    K (with_router s x (after_allocate (router_at s x)))
allocated_keeps K s x keeps net there had =
    let node = net.framed.each_node x there in
    let all = net.framed.all_nodes in
    let x_in : x < node_count s.mesh = omega arith in
    let pass = channel_pass (router_at s x) in
    let r : RouterState = record (router_at s x) { channel_alloc = pass.alloc } in
    let moved = arbiters_moved s x pass.alloc (router_at s x).switch_alloc net there in
    let same : IsSameConfig s (with_router s x r) =
    record { mesh = refl; channels = refl; depth = refl; names = refl; own = refl } in
    let start : Granted K s x r = record {
      mesh = node.same_mesh;
      channels = node.same_channels;
      net = moved.0;
      kept =
          keeps.by_places s (with_router s x r) same
          (arbiters_apart s x pass.alloc (router_at s x).switch_alloc there) had;
    } in
    let end = all_granted K s x keeps there x_in pass.grants r start in
    (end.net, end.kept)

reaches_kept : (x : ℕ) (s : NetState) → IsKeptByGrants x (ReachesAt x s)
reaches_kept x s = record {
  by_grant = λ t u p v k answer replied had. joined_at x s t u had (answered_at t u (Grant x p v k) answer replied);
  by_places =
      λ t u config same had. joined_at x s t u had
      (record { steps = []; at_node = All-nil _; led = same; config = config });
}

pub allocated : (s : NetState) (x : ℕ) → IsWorkable s → x < length s.nodes
    → IsWorkable (with_router s x (after_allocate (router_at s x))) ×
    ReachesAt x s (with_router s x (after_allocate (router_at s x)))
allocated s x net there = allocated_keeps (ReachesAt x s) s x (reaches_kept x s) net there (none_at x s)

pub chosen : (s : NetState) (x : ℕ) → IsWorkable s → x < length s.nodes →
    IsWorkable (with_router s x (chosen_router (router_at s x))) ×
    ReachesAt x s (with_router s x (chosen_router (router_at s x)))
unfolding chosen_router
chosen s x net there =
    arbiters_moved s x (router_at s x).channel_alloc (after_choose (router_at s x)).switch_alloc net there

-- which leaves all places as they are
pub chosen_apart : (s : NetState) (x : ℕ) → x < length s.nodes
    → network_of (with_router s x (chosen_router (router_at s x))) ≡ network_of s
unfolding chosen_router
chosen_apart s x there =
    arbiters_apart s x (router_at s x).channel_alloc (after_choose (router_at s x)).switch_alloc there

-- the same of a node of the mesh
pub allocated_in : (s : NetState) (x : ℕ) → IsWorkable s → x < node_count s.mesh →
    IsWorkable (with_router s x (after_allocate (router_at s x))) ×
    ReachesAt x s (with_router s x (after_allocate (router_at s x)))
allocated_in s x net there = let all = net.framed.all_nodes in allocated s x net (omega arith)

pub chosen_in : (s : NetState) (x : ℕ) → IsWorkable s → x < node_count s.mesh →
    IsWorkable (with_router s x (chosen_router (router_at s x))) ×
    ReachesAt x s (with_router s x (chosen_router (router_at s x)))
chosen_in s x net there = let all = net.framed.all_nodes in chosen s x net (omega arith)
