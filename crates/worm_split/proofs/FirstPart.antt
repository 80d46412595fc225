-- What a worker has at the split is its part of the network.
use Rattle.std.proofs.Common.{◌≡◌, ℕ, ◌+◌, ◌*◌, ◌<◌, ◌≤◌, ◌%◌, ◌==◌, ◌⊎◌, Bool, true, false, cond, inl, inr, List, []}
use Rattle.std.proofs.Common.{length, sum, replicate, Option, Some, None, refl, arith, sym, ap, subst, ◌∙◌}
use Rattle.std.specs.Prelude.{slice_index_or, All}
use Rattle.std.specs.List.{count_by}
use Rattle.worm_flit.specs.declared.Flit.{Flit}
use Rattle.worm_flit.specs.Stamps.{on_channel}
use Rattle.worm_mesh.specs.Address.{has_neighbour, neighbour_of}
use Rattle.worm_mesh.specs.Links.{links_before, link_count}
use Rattle.worm_mesh.specs.declared.mesh.LinkEnds.{LinkEnds}
use Rattle.worm_mesh.proofs.Digits.{AreLarge, AreLarge-from_radices}
use Rattle.worm_mesh.proofs.Neighbours.{Joins-from, has_neighbour-from_Joins}
use Rattle.worm_theory.specs.Network.{Network}
use Rattle.worm_theory.specs.Shape.{Shape, IsMesh}
use Rattle.worm_theory.specs.Steps.{empty}
use Rattle.worm_theory.proofs.Keeps.{empty_sound}
use Rattle.worm_theory.proofs.Places.{bool_cases}
use Rattle.worm_wires.specs.Links.{empty_link}
use Rattle.worm_region.specs.Owned.{owned_by}
use Rattle.worm_region.specs.Shape.{net_shape}
use Rattle.worm_region.specs.State.{NetState, IsFramed, IsNet, link_at}
use Rattle.worm_node.specs.NewNodes.{fresh_node}
use Rattle.worm_region.specs.State.{network_of, node_at, shape, sink_at}
use Rattle.worm_region.specs.Workable.{IsBound, IsKept, IsSent, IsWorkable, Works, owned}
use Rattle.worm_node.specs.declared.node.Node.{Node}
use Rattle.worm_region.proofs.FrameKept.{framed_mesh}
use Rattle.worm_region.proofs.LinkWritten.{credits_there, out_there}
use Rattle.worm_region.proofs.NewNet.{workable, stands_for}
use Rattle.worm_region.proofs.AllOwned.{all_within}
use Rattle.worm_region.proofs.StaysWorking.{sound_works}
use Rattle.worm_theory.specs.Openings.{past_of}
use Rattle.worm_theory.specs.Region.{Begins, HasPart}
use Rattle.worm_theory.proofs.RegionQueues.{first_part}
use Rattle.worm_split.specs.declared.ends.End.{End}
use Rattle.worm_split.specs.declared.ends.End.TheVariants.{Inner}
use Rattle.worm_split.specs.Apart.{AreWays}
use Rattle.worm_split.specs.Ends.{AreEndsMade, IsSameEnd, end_at, end_made, given_on, pair_at, returned_on, sent_on}
use Rattle.worm_split.specs.Ends.{taken_on}
use Rattle.worm_split.specs.Exchange.{far_of, near_of, way_at}
use Rattle.worm_split.specs.PartState.{PartState, HasConfigOf, IsPart, end_of, owns, part_network, returned_to}
use Rattle.worm_split.specs.PartState.{taken_by}
use Rattle.worm_split.specs.Splits.{ArePairsMade}
use Rattle.worm_split.proofs.FirstEnds.{IsUnused, first_unused, same_end_itself}
use Rattle.worm_split.proofs.Gathered.{IsWay, net_holds, way_is}
use Rattle.worm_split.proofs.JoinNet.{no_link_there}
use Rattle.worm_split.proofs.SameNodes.{SameAt, leads_at, same_at}

-- what a worker was dealt
pub record IsDealtPart (ways : List LinkEnds) (p : PartState) : Type 0 where
  pub config : HasConfigOf p.opening p.net
  pub worker : p.net.own.worker < p.net.own.workers
  pub node_own : (x : ℕ) (n : Node) → owns p x ≡ true → slice_index_or p.net.nodes x n ≡ slice_index_or
      p.opening.nodes x n
  pub node_other : (x : ℕ) → owns p x ≡ false → let n = fresh_node p.opening.mesh p.opening.channels p.opening.depth
      x in slice_index_or p.net.nodes x n ≡ n
  pub flits : (k : ℕ) → (link_at p.net k).flits ≡ cond (far_of p.net.own ways k) (link_at p.opening k).flits []
  pub credits : (k : ℕ) → (link_at p.net k).credits ≡ cond (near_of p.net.own ways k) (link_at p.opening k).credits []
  pub ends : (k : ℕ) → end_at p.ends k ≡ end_made (near_of p.net.own ways k) (far_of p.net.own ways k)
      (pair_at p.pairs k)
  pub all_ends : length p.ends ≡ link_count p.opening.mesh
  pub framed : IsFramed p.net

both_none : {A : Type 0} (b : Bool) → ◌≡◌ {A = List A} (cond b [] []) []
both_none {A} true = refl
both_none {A} false = refl

module _ (p : PartState) (net : IsNet p.opening) (ways : List LinkEnds) (are : AreWays p.opening.mesh ways)
    (made : ArePairsMade p.opening p.net.own.workers ways p.pairs) (dealt : IsDealtPart ways p) where
  abbrev O : NetState
  O = p.opening

  abbrev old : Network
  old = network_of p.opening

  abbrev N : Network
  N = network_of p.net

  large : AreLarge O.mesh
  large = AreLarge-from_radices O.mesh net.framed.radices.radices

  mesh : IsMesh (shape p.opening)
  mesh = framed_mesh O net.framed

  fresh_same : (x : ℕ) → fresh_node p.net.mesh p.net.channels p.net.depth x ≡ fresh_node O.mesh O.channels O.depth x
  fresh_same x = λ t. fresh_node (dealt.config.mesh t) (dealt.config.channels t) (dealt.config.depth t) x

  pub node_mine : (x : ℕ) → owns p x ≡ true → node_at p.net x ≡ node_at O x
  node_mine x e = ap (λ (n : Node). slice_index_or p.net.nodes x n) (fresh_same x)
      ∙ dealt.node_own x (fresh_node O.mesh O.channels O.depth x) e

  node_others : (x : ℕ) → owns p x ≡ false → node_at p.net x ≡ fresh_node O.mesh O.channels O.depth x
  node_others x e = ap (λ (n : Node). slice_index_or p.net.nodes x n) (fresh_same x) ∙ dealt.node_other x e

  -- a network in which nothing has happened
  abbrev F : NetState
  F = record O { nodes = []; links = replicate (link_count O.mesh) (empty_link (sum O.channels * O.depth)) }

  fresh_stands : network_of F ≡ empty (shape p.opening)
  fresh_stands = stands_for O.mesh O.channels O.depth O.names [] (replicate (link_count O.mesh) (empty_link
      (sum O.channels * O.depth))) O.own (λ x. refl) refl

  same_mine : (x : ℕ) → owns p x ≡ true → SameAt N old x
  same_mine x e = same_at p.net O x (node_mine x e)

  same_others : (x : ℕ) → owns p x ≡ false → SameAt N (empty (shape p.opening)) x
  same_others x e = subst (λ (n : Network). SameAt N n x) fresh_stands (same_at p.net F x (node_others x e))

  -- a link, from node y by port o to node x
  module _ (y o x : ℕ) (linked : (shape p.opening).neighbour y o ≡ Some x) where
    linked_by : neighbour_of O.mesh y o ≡ Some x
    unfolding net_shape
    linked_by = linked

    abbrev k : ℕ
    k = links_before p.opening.mesh y o

    way : IsWay ways k y o x
    way = way_is O.mesh ways large are y o x linked_by

    has : has_neighbour O.mesh y o ≡ true
    has = has_neighbour-from_Joins O.mesh y o x large (Joins-from O.mesh y o x large linked_by)

    has_now : has_neighbour p.net.mesh y o ≡ true
    has_now = ap (λ (m : List ℕ). has_neighbour m y o) dealt.config.mesh ∙ has

    number : links_before p.net.mesh y o ≡ k
    number = ap (λ (m : List ℕ). links_before m y o) dealt.config.mesh

    near_is : near_of p.net.own ways k ≡ owns p y
    near_is = ap (λ (z : ℕ). owned_by p.net.own z) way.from

    far_is : far_of p.net.own ways k ≡ owns p x
    far_is = ap (λ (z : ℕ). owned_by p.net.own z) way.to

    pub out_linked : N.out y o ≡ cond (owns p x) (old.out y o) []
    out_linked = out_there p.net y o dealt.framed has_now ∙ (ap (λ (n : ℕ). (link_at p.net n).flits) number
        ∙ (dealt.flits k
        ∙ ((λ t. cond (far_is t) (link_at O k).flits []) ∙ ap (λ (l : List Flit). cond (owns p x) l []) (sym
        (out_there O y o net.framed has)))))

    pub line_linked : N.credit_list y o ≡ cond (owns p y) (old.credit_list y o) []
    line_linked = credits_there p.net y o dealt.framed has_now ∙ (ap (λ (n : ℕ). (link_at p.net n).credits) number
        ∙ (dealt.credits k
        ∙ ((λ t. cond (near_is t) (link_at O k).credits []) ∙ ap (λ (l : List ℕ). cond (owns p y) l []) (sym
        (credits_there O y o net.framed has)))))

    pub end_linked : end_of p y o ≡ end_made (owns p y) (owns p x) (pair_at p.pairs k)
    end_linked = rw has_now (ap (λ (n : ℕ). end_at p.ends n) number ∙ (dealt.ends k
        ∙ (λ t. end_made (near_is t) (far_is t) (pair_at p.pairs k))))

    pub pair_made : (y % p.net.own.workers ≡ x % p.net.own.workers → ⊥)
        → AreEndsMade O.mesh O.channels O.depth y o (past_of (shape p.opening) (network_of p.opening) y o x)
        (pair_at p.pairs k).out (pair_at p.pairs k).into
    pair_made apart =
        let W = p.net.own.workers in
        let pair = pair_at p.pairs k in
        let z = way_at ways k in
        let all = made.all in
        let within = way.within in
        let had = (made.each k (omega arith)).between (λ e. apart (subst (λ (i : ℕ). i % W ≡ x % W) way.from
        (subst (λ (i : ℕ). z.from % W ≡ i % W) way.to e))) in
        subst (λ (i : ℕ). AreEndsMade O.mesh O.channels O.depth y o (past_of (shape O) old y o i) pair.out pair.into)
        way.to
        (subst (λ (i : ℕ). AreEndsMade O.mesh O.channels O.depth y i (past_of
        (shape O) old y i z.to) pair.out pair.into) way.out_port
        (subst (λ (i : ℕ). AreEndsMade O.mesh O.channels O.depth i z.out_port (past_of
        (shape O) old i z.out_port z.to) pair.out pair.into) way.from had))

    pub unused : IsUnused (owns p y) (owns p x) (end_of p y o)
    unused =
        let pair = pair_at p.pairs k in
        subst (λ (e : End). IsUnused (owns p y) (owns p x) e) (sym end_linked)
        (first_unused O.mesh O.channels O.depth y o (past_of (shape p.opening) (network_of p.opening) y o x) (owns p y)
        (owns p x) pair.out pair.into
        (λ apart. pair_made (λ e. apart (ap (λ (r : ℕ). r == p.net.own.worker) e))))

  -- a port with no link
  module _ (y o : ℕ) (none : (shape p.opening).neighbour y o ≡ None) where
    none_then : has_neighbour O.mesh y o ≡ false
    unfolding net_shape
    none_then = no_link_there O.mesh y o none

    none_now : has_neighbour p.net.mesh y o ≡ false
    none_now = ap (λ (m : List ℕ). has_neighbour m y o) dealt.config.mesh ∙ none_then

    bare_out : (m : NetState) → has_neighbour m.mesh y o ≡ false → (network_of m).out y o ≡ cond
        (o == 2 * length m.mesh) (sink_at m y).delivered []
    unfolding network_of
    bare_out m e = rw e refl

    bare_line : (m : NetState) → has_neighbour m.mesh y o ≡ false → (network_of m).credit_list y o ≡ []
    unfolding network_of
    bare_line m e = rw e refl

    pub end_unlinked : end_of p y o ≡ Inner
    end_unlinked = rw none_now refl

    pub out_unlinked : owns p y ≡ true → N.out y o ≡ old.out y o
    out_unlinked e = bare_out p.net none_now
        ∙ ((λ t. cond (o == 2 * length (dealt.config.mesh t)) (node_mine y e t).sink.delivered [])
        ∙ sym (bare_out O none_then))

    pub out_none : owns p y ≡ false → N.out y o ≡ []
    out_none e = bare_out p.net none_now
        ∙ (ap (λ (n : Node). cond (o == 2 * length p.net.mesh) n.sink.delivered []) (node_others y e)
        ∙ both_none (o == 2 * length p.net.mesh))

    pub line_none : N.credit_list y o ≡ []
    line_none = bare_line p.net none_now

  -- a list is as it was, or empty
  out_either : (y o : ℕ) (n : Option ℕ) → (shape p.opening).neighbour y o ≡ n
      → (N.out y o ≡ old.out y o) ⊎ (N.out y o ≡ [])
  out_either y o None e = elim (bool_cases (owns p y)) [
    | inl here ↦ inl (out_unlinked y o e here)
    | inr away ↦ inr
        (out_none y o e away)
  ]
  out_either y o (Some x) e = elim (bool_cases (owns p x)) [
    | inl here ↦ inl (out_linked y o x e ∙ rw here refl)
    | inr away ↦ inr (out_linked y o x e ∙ rw away refl)
  ]

  line_either : (y o : ℕ) (n : Option ℕ) → (shape p.opening).neighbour y o ≡ n
      → (N.credit_list y o ≡ old.credit_list y o) ⊎ (N.credit_list y o ≡ [])
  line_either y o None e = inr (line_none y o e)
  line_either y o (Some x) e = elim (bool_cases (owns p y)) [
    | inl here ↦ inl (line_linked y o x e ∙ rw here refl)
    | inr away ↦ inr (line_linked y o x e ∙ rw away refl)
  ]

  all_of : {A : Type 0} (P : A → Type 0) (now was : List A) → (now ≡ was) ⊎ (now ≡ []) → All P was → All P now
  all_of {A} P now was either all = elim either [
    | inl same ↦ subst (λ (l : List A). All P l) (sym same) all
    | inr none ↦ subst (λ (l : List A). All P l) (sym none) (λ i d below. absurd (omega arith))
  ]

  works : Works (shape p.opening) (owned p.net) N
  works =
      let s = shape p.opening in
      let then = (workable O net).works in
      let fresh : Works s (owned p.net) (empty s) = sound_works s mesh (empty s) (empty_sound s) in
      record {
        records = λ x q v there. elim (bool_cases (owns p x)) [
          | inl e ↦ leads_at s N old x q v (same_mine x e) (then.records x q v there)
          | inr e ↦ leads_at s N (empty s) x q v (same_others x e) (fresh.records x q v there)
        ];
        buffered = λ x q v. elim (bool_cases (owns p x)) [
          | inl e ↦ subst (λ (l : List Flit). All (IsKept s x q) l) (sym ((same_mine x e).buffer q v))
              (then.buffered x q v)
          | inr e ↦ subst (λ (l : List Flit). All (IsKept s x q) l) (sym ((same_others x e).buffer q v))
              (fresh.buffered x q v)
        ];
        out = λ x o. all_of (IsSent s) (N.out x o) (old.out x o) (out_either x o (s.neighbour x o) refl) (then.out x o);
        entries = λ y o. all_of (λ (c : ℕ). c < s.vcs) (N.credit_list y o) (old.credit_list y o)
            (line_either y o (s.neighbour y o) refl) (then.entries y o);
        few = λ x o y c linked c_in. elim (bool_cases (owns p x)) [
          | inl e ↦ subst (λ (n : ℕ). n ≤ s.depth) (sym ((same_mine x e).credits o c)) (then.few x o y c linked c_in)
          | inr e ↦ subst (λ (n : ℕ). n ≤ s.depth) (sym ((same_others x e).credits o c)) (fresh.few x o y c linked c_in)
        ];
        credits = λ y o x v v_in linked near far.
            let own = all_within O y o net.all_owned x linked in
            let out : N.out y o ≡ old.out y o = out_linked y o x linked ∙ rw far refl in
            let line : N.credit_list y o ≡ old.credit_list y o = line_linked y o x linked ∙ rw near refl in
            (λ t. (same_mine y near).credits o v t + length (on_channel v (out t)) + length
            ((same_mine x far).buffer (s.opposite o) v t)
            + (same_mine x far).owed (s.opposite o) v t + count_by (λ c. v == c) (line t))
            ∙ then.credits y o x v v_in linked own.0 own.1;
        unfed = λ x c. elim (bool_cases (owns p x)) [
          | inl e ↦ subst (λ (l : List Flit). All (IsBound s) l) (sym ((same_mine x e).unfed c)) (then.unfed x c)
          | inr e ↦ subst (λ (l : List Flit). All (IsBound s) l) (sym ((same_others x e).unfed c)) (fresh.unfed x c)
        ];
      }

  pub first_works : IsWorkable p.net
  first_works = record {
    framed = dealt.framed;
    works = subst (λ (s : Shape). Works s (owned p.net) N) (λ t. net_shape (sym dealt.config.mesh t)
        (sym dealt.config.channels t) (sym dealt.config.depth t)) works;
  }

  pub first_begins : Begins (shape p.opening) (network_of p.opening) (owns p) (part_network p)
  first_begins = record {
    buffer = λ x q v e. (same_mine x e).buffer q v;
    in_record = λ x q v e. (same_mine x e).in_record q v;
    last_out = λ x q v e. (same_mine x e).last_out q v;
    owed = λ x q v e. (same_mine x e).owed q v;
    holder = λ x o c e. (same_mine x e).holder o c;
    credits = λ x o c e. (same_mine x e).credits o c;
    injected = λ x c e. (same_mine x e).injected c;
    unfed = λ x c e. (same_mine x e).unfed c;
    within = λ y o x linked near far.
        let inner = (unused y o x linked).inner (near ∙ sym far) in (
          ap (λ (e : End). sent_on e (N.out y o)) inner ∙ (out_linked y o x linked ∙ rw far refl),
          ap (λ (e : End). given_on e (N.credit_list y o)) inner ∙ (line_linked y o x linked ∙ rw near refl),
        );
    leaving = λ y o x linked near far.
        let leaves = (unused y o x linked).leaves near far (N.out y o) (N.credit_list y o) in
        (leaves.0, leaves.1 ∙ (line_linked y o x linked ∙ rw near refl));
    entering = λ y o x linked near far.
        let enters = (unused y o x linked).enters near far (N.out y o) (N.credit_list y o) in
        (enters.0 ∙ (out_linked y o x linked ∙ rw far refl), enters.1);
    ends = λ x o none e. ap (λ (end : End). sent_on end (N.out x o)) (end_unlinked x o none) ∙ out_unlinked x o none e;
  }

  took : (y o : ℕ) (n : Option ℕ) → (shape p.opening).neighbour y o ≡ n → (taken_by p y o ≡ [])
      × (returned_to p y o ≡ [])
  took y o None e = (ap taken_on (end_unlinked y o e), ap returned_on (end_unlinked y o e))
  took y o (Some x) e = ((unused y o x e).took, (unused y o x e).got)

  pub first_is_part : IsPart p
  first_is_part =
      let s = shape p.opening in
      let begun = first_part s mesh old (owns p) (net_holds O net) (part_network p) first_begins in
      let takes : (λ (y o : ℕ). []) ≡ taken_by p = λ t y o. sym (took y o (s.neighbour y o) refl).0 t in
      let returns : (λ (y o : ℕ). []) ≡ returned_to p = λ t y o. sym (took y o (s.neighbour y o) refl).1 t in
      record {
        opened = net;
        config = dealt.config;
        worker = dealt.worker;
        made = λ y o x linked apart. pair_made y o x linked apart;
        all_ends = dealt.all_ends ∙ ap link_count (sym dealt.config.mesh);
        ends = λ y o x linked. subst (λ (e : End). IsSameEnd (end_made (owns p y) (owns p x) (pair_at p.pairs
            (links_before p.opening.mesh y o))) e)
            (sym (end_linked y o x linked)) (same_end_itself (end_made (owns p y) (owns p x) (pair_at p.pairs
            (links_before p.opening.mesh y o))));
        holds = subst (λ (f : ℕ → ℕ → List ℕ). HasPart s old (owns p) (part_network p) (taken_by p) f) returns
            (subst (λ (f : ℕ → ℕ → List Flit). HasPart s old (owns p) (part_network p) f (λ y o. [])) takes begun);
      }
