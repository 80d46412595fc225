-- One worker more is dealt its part.
use Rattle.std.proofs.Common.{◌≡◌, ℕ, ◌+◌, ◌-◌, ◌*◌, ◌<◌, ◌≤◌, List, [], ◌∷◌, ◌++◌, length}
use Rattle.std.proofs.Common.{length-append, sum, Ok, Err, refl, arith, sym, ap, subst, ◌∙◌}
use Rattle.std.specs.Prelude.{All, OnErr, Result, Vec, if◌then◌else◌, is_ok, slice_index_or, vec_capacity, vec_len}
use Rattle.std.proofs.lemmas.List.{get_or-replicate, get_or_append_left, get_or_at}
use Rattle.std.proofs.Math.ListN.{length-replicate}
use Rattle.worm_mesh.specs.Links.{link_count}
use Rattle.worm_mesh.specs.declared.mesh.LinkEnds.{LinkEnds}
use Rattle.worm_wires.specs.Links.{LinkView, blank_link, empty_link}
use Rattle.worm_region.proofs.NewNet.{fresh_is}
use Rattle.worm_region.specs.State.{NetState, IsNet, IsNodeOf}
use Rattle.worm_region.specs.Workable.{IsWorkable}
use Rattle.worm_node.specs.declared.node.Node.{Node}
use Rattle.worm_region.specs.declared.owner.Owner.{Owner}
use Rattle.worm_split.specs.declared.ends.End.{End}
use Rattle.worm_split.specs.declared.ends.End.TheVariants.{Inner}
use Rattle.worm_split.specs.declared.ends.EndPair.{EndPair}
use Rattle.worm_split.specs.declared.memory.Seat.{Seat}
use Rattle.worm_split.specs.Apart.{Apart, AreWays, ArePaired, IsExchanged, with_lists}
use Rattle.worm_split.specs.PartState.{PartState, HasConfigOf, IsPart}
use Rattle.worm_split.specs.Splits.{IsFirstPart, IsSeat, IsSplitOf, no_part, part_at, seat_state}
use Rattle.worm_split.proofs.Dealing.{IsDealt, credits_own, dealt_on, ends_own, flits_own}
use Rattle.worm_split.proofs.Dealing.{node_other, node_own}
use Rattle.worm_split.proofs.Exchanged.{framed_in, framed_with}
use Rattle.worm_split.proofs.FirstPart.{IsDealtPart, end_linked, first_begins, first_is_part, first_works, pair_made}
use Rattle.worm_split.proofs.FirstPart.{node_mine}
use Rattle.worm_split.proofs.MadeSoFar.{each_push}

-- what is dealt, what is yet to deal, and the parts so far
pub record DealSoFar (O : NetState) (W : ℕ) (pairs : List EndPair) (w : ℕ) (kept : Apart) (seats : List Seat)
    (parts : List PartState) (room : ℕ) : Type 0 where
  pub dealt : IsDealt O W pairs w kept
  pub all : All (IsSeat O pairs) seats
  pub count : length seats + w ≡ W
  pub long : length parts ≡ w
  pub each : (j : ℕ) → j < w → IsFirstPart O W j pairs (part_at parts j)
  pub enough : W ≤ room

pub all_last : {A : Type 0} (P : A → Type 0) (xs ys : List A) (x : A) → ys ≡ xs ++ x ∷ [] → All P ys → P x × All P xs
all_last {A} P xs ys x is all =
    let long = ap (λ (l : List A). length l) is ∙ length-append xs (x ∷ []) in
    let at : slice_index_or ys (length xs) x ≡ x = ap (λ (l : List A). slice_index_or l (length xs) x) is
    ∙ get_or_at xs x [] x (length xs) refl in (
      subst P at (all (length xs) x (omega arith)),
      λ k d below.
          let same : slice_index_or ys k d ≡ slice_index_or xs k d = ap (λ (l : List A). slice_index_or l k d) is
          ∙ get_or_append_left xs (x ∷ []) d k below in
          subst P same (all k d (omega arith)),
    )

-- the last of the workers has the last seat
pub one_left : {O : NetState} {W w : ℕ} {pairs : List EndPair} {kept : Apart} {seats : List Seat}
    {parts : List PartState} {room : ℕ} (rest : List Seat) (seat : Seat)
    → DealSoFar O W pairs w kept seats parts room → seats ≡ rest ++ seat ∷ [] → W - 1 ≤ w
    → DealSoFar O W pairs (W - 1) kept seats parts room
one_left {O} {W} {w} {pairs} {kept} {seats} {parts} {room} rest seat so_far popped past =
    let long = ap (λ (l : List Seat). length l) popped ∙ length-append rest (seat ∷ []) in
    let count = so_far.count in
    let at : w ≡ W - 1 = omega arith in
    subst (λ (n : ℕ). DealSoFar O W pairs n kept seats parts room) at so_far

-- a worker's part once its seat's lists are exchanged
abbrev pub dealt_state : Seat → Owner → List Node → List LinkView → List End → PartState
dealt_state seat own nodes links ends =
    record (seat_state seat own) { net = with_lists (seat_state seat own).net nodes links; ends = ends }

-- What is dealt to a worker: its part works, and with it on the list one worker more has its own.
pub record Deals (O : NetState) (W w : ℕ) (pairs : List EndPair) (new : Apart) (rest : List Seat)
    (parts : List PartState) (room : ℕ) (part : PartState) : Type 0 where
  pub works : IsWorkable part.net
  pub is_part : IsPart part
  pub kept : HasConfigOf part.opening new.net
  pub space : length parts < room
  pub further : (more : List PartState) (new_room : ℕ) → more ≡ parts ++ part ∷ [] → room ≤ new_room
      → DealSoFar O W pairs (w + 1) new rest more new_room

-- it is put on the list, which has room
pub one_more : {O : NetState} {W w : ℕ} {pairs : List EndPair} {kept : Apart} {rest : List Seat} {part : PartState}
    {T E Z : Type 0} (old new : Vec PartState Z) → Deals O W w pairs kept rest old.items (vec_capacity old) part
    → (r : Result T E) (p : PartState) → p ≡ part
    → new.items ≡ (if is_ok r then old.items ++ p ∷ [] else old.items) → OnErr r (vec_capacity old ≤ vec_len old)
    → vec_capacity old ≤ vec_capacity new → DealSoFar O W pairs (w + 1) kept rest new.items (vec_capacity new)
one_more old new deals (Ok a) p same is full grown =
    deals.further new.items (vec_capacity new) (is ∙ ap (λ (q : PartState). old.items ++ q ∷ []) same) grown
one_more old new deals (Err e) p same is full grown =
    let space = deals.space in
    let over : vec_capacity old ≤ vec_len old = full in
    absurd (omega (arith, old.ok.0))

module _ {O : NetState} {W w : ℕ} {pairs : List EndPair} {kept new : Apart} {seats : List Seat}
    {parts : List PartState} {room : ℕ} {new_nodes : List Node} {new_links : List LinkView} {new_ends : List End}
    (rest : List Seat) (seat : Seat) (net : IsNet O) (so_far : DealSoFar O W pairs w kept seats parts room)
    (below : w < W) (popped : seats ≡ rest ++ seat ∷ [])
    (did : IsExchanged (record { worker = w; workers = W }) kept new seat.nodes.items new_nodes
    seat.links.items new_links seat.ends.items new_ends) where
  abbrev dealt : IsDealt O W pairs w kept
  dealt = so_far.dealt

  last : IsSeat O pairs seat × All (IsSeat O pairs) rest
  last = all_last (IsSeat O pairs) rest seats seat popped so_far.all

  abbrev is : IsSeat O pairs seat
  is = last.0

  abbrev part : PartState
  part = dealt_state seat (record { worker = w; workers = W }) new_nodes new_links new_ends

  abbrev dealt_net : NetState
  dealt_net = part.net

  -- the worker's part, with the network that was split as its opening
  abbrev p0 : PartState
  p0 = record { net = dealt_net; ends = new_ends; opening = O; pairs = pairs }

  config : HasConfigOf O dealt_net
  config = record {
    mesh = is.config.radices;
    channels = is.config.channels;
    depth = is.config.depth;
    names = is.config.names;
  }

  deal_on : IsDealt O W pairs (w + 1) new
  deal_on = dealt_on O W w pairs kept new dealt seat is new_nodes new_links new_ends did

  ways : AreWays O.mesh kept.ways
  ways =
      subst (λ (m : List ℕ). AreWays m kept.ways) deal_on.config.mesh
      (subst (λ (ways : List LinkEnds). AreWays new.net.mesh ways) did.ways did.fits.ways)

  dealt_part : IsDealtPart kept.ways p0
  dealt_part = record {
    config = config;
    worker = below;
    node_own = node_own O W w pairs kept new dealt seat is new_nodes new_links new_ends did;
    node_other = node_other O W w pairs kept new dealt seat is new_nodes new_links new_ends did;
    flits = flits_own O W w pairs kept new dealt seat is new_nodes new_links new_ends did;
    credits = credits_own O W w pairs kept new dealt seat is new_nodes new_links new_ends did;
    ends = ends_own O W w pairs kept new dealt seat is new_nodes new_links new_ends did;
    all_ends = did.ends.other_length ∙ (sym did.ends.same_length ∙ (did.fits.all_pairs
        ∙ ap link_count deal_on.config.mesh));
    framed = framed_in O kept.net dealt_net new_nodes new_links dealt.config config did.framed;
  }

  state_is : p0 ≡ part
  state_is = λ t. record { net = dealt_net; ends = new_ends; opening = sym is.opening t; pairs = sym is.made t }

  deal_first : IsFirstPart O W w pairs part
  deal_first = record {
    own = refl;
    opened = is.opening;
    made = is.made;
    config = config;
    nodes = node_mine p0 net kept.ways ways dealt.made dealt_part;
    begins = first_begins p0 net kept.ways ways dealt.made dealt_part;
    queues = λ y o x linked apart. pair_made p0 net kept.ways ways dealt.made dealt_part y o x linked apart;
    ends = λ y o x linked. end_linked p0 net kept.ways ways dealt.made dealt_part y o x linked;
  }

  deal_further : (more : List PartState) (new_room : ℕ) → more ≡ parts ++ part ∷ [] → room ≤ new_room
      → DealSoFar O W pairs (w + 1) new rest more new_room
  deal_further more new_room pushed grown =
      let seat_long = ap (λ (l : List Seat). length l) popped ∙ length-append rest (seat ∷ []) in
      let count = so_far.count in
      let long = so_far.long in
      let part_long = ap (λ (l : List PartState). length l) pushed ∙ length-append parts (part ∷ []) in
      let enough = so_far.enough in
      record {
        dealt = deal_on;
        all = last.1;
        count = omega arith;
        long = omega arith;
        each = each_push (λ (j : ℕ) (q : PartState). IsFirstPart O W j pairs q) no_part parts more part w long
            pushed so_far.each deal_first;
        enough = omega arith;
      }

  pub deals : Deals O W w pairs new rest parts room part
  deals =
      let long = so_far.long in
      let enough = so_far.enough in
      record {
        works = first_works p0 net kept.ways ways dealt.made dealt_part;
        is_part = subst IsPart state_is (first_is_part p0 net kept.ways ways dealt.made dealt_part);
        kept = subst (λ (s : NetState). HasConfigOf s new.net) (sym is.opening) deal_on.config;
        space = omega arith;
        further = deal_further;
      }

-- a worker's lists fit the network that is taken apart
pub seat_lists : {O : NetState} {W w : ℕ} {pairs : List EndPair} {kept : Apart} {seats : List Seat}
    {parts : List PartState} {room : ℕ} (rest : List Seat) (seat : Seat) → IsNet O
    → DealSoFar O W pairs w kept seats parts room
    → seats ≡ rest ++ seat ∷ [] → ArePaired kept seat.nodes.items seat.links.items seat.ends.items
seat_lists {O} {pairs = pairs} {kept = kept} {seats = seats} rest seat net so_far popped =
    let config = so_far.dealt.config in
    let is = (all_last (IsSeat O pairs) rest seats seat popped so_far.all).0 in
    let room = sum O.channels * O.depth in
    let all = net.framed.all_nodes in
    let all_links = net.framed.all_links in
    let long : length seat.links.items ≡ link_count O.mesh = ap (λ (l : List LinkView). length l) is.links
    ∙ length-replicate (link_count O.mesh) (empty_link room) in
    record {
      framed = framed_in O O kept.net seat.nodes.items seat.links.items
          (record { mesh = refl; channels = refl; depth = refl; names = refl }) config
          (framed_with O seat.nodes.items seat.links.items net.framed (is.all_nodes ∙ sym net.framed.all_nodes)
          (long ∙ sym net.framed.all_links)
          (λ x there. subst (λ (n : Node). IsNodeOf O.mesh O.channels O.depth x n) (sym (is.nodes x))
          (fresh_is O.mesh O.channels O.depth x))
          (λ k there.
          let at = ap (λ (l : List LinkView). (slice_index_or l k blank_link).room) is.links
          ∙ ap (λ (l : LinkView). l.room) (get_or-replicate (link_count O.mesh) k (empty_link room) blank_link
          (omega arith)) in
          omega arith));
      ends = (ap (λ (l : List End). length l) is.ends ∙ length-replicate (link_count O.mesh) Inner)
          ∙ ap link_count (sym config.mesh);
    }

pub all_dealt : {O : NetState} {W w : ℕ} {pairs : List EndPair} {kept : Apart} {seats : List Seat}
    {parts : List PartState} {room : ℕ}
    → DealSoFar O W pairs w kept seats parts room → w ≡ W → IsSplitOf O W parts
all_dealt {pairs = pairs} so_far all = record {
  pairs = pairs;
  count = so_far.long ∙ all;
  each = λ j below. so_far.each j (omega arith);
}
