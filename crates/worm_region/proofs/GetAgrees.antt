-- A node takes a credit just where the theory enables TakeCredit, and that makes of the network what TakeCredit does.
use Rattle.std.proofs.Common.{◌≡◌, ℕ, ◌+◌, ◌*◌, ◌<◌, ◌≤◌, ◌==◌, Bool, true, false, if◌then◌else◌, inl, inr, List, []}
use Rattle.std.proofs.Common.{◌∷◌, length, drop, sum, Ok, Option, Some, None, refl, arith, ap, sym, subst, ◌∙◌}
use Rattle.std.specs.Prelude.{All, IsSome}
use Rattle.std.proofs.Math.ListN.{length-set}
use Rattle.std.proofs.lemmas.List.Elements.{All-head}
use Rattle.worm_mesh.specs.Address.{neighbour_of}
use Rattle.worm_router.specs.Router.{output_at, after_credit}
use Rattle.worm_theory.specs.Network.{Network, put2, put3}
use Rattle.worm_theory.specs.Steps.{TakeCredit, IsThere, Enabled, FrontIs, after, got}
use Rattle.worm_theory.proofs.Places.{bool_cases}
use Rattle.worm_region.specs.Shape.{net_shape}
use Rattle.worm_region.specs.State.{NetState, IsFramed, IsNetPlace, shape, network_of, router_at, with_router}
use Rattle.worm_wires.specs.Links.{LinkView}
use Rattle.worm_region.specs.State.{link_at}
use Rattle.worm_region.specs.Workable.{IsWorkableBy}
use Rattle.worm_region.specs.Replies.{Replies}
use Rattle.worm_region.specs.Answers.{moved_of}
use Rattle.worm_region.specs.Moves.{done_step, link_out, front_credit, CreditFits, can_get, after_getting}
use Rattle.worm_region.proofs.NodeWritten.{put2_same, put3_same, output_bridge}
use Rattle.worm_region.proofs.LinkWritten.{link_bridge, link_framed, out_there, credits_there}
use Rattle.worm_region.proofs.AsListed.{holder_there, spent_there}
use Rattle.worm_region.proofs.FrameKept.{step_made, router_framed}
use Rattle.worm_region.proofs.LinksThere.{leader}
use Rattle.worm_region.proofs.LinkedPorts.{of_node, port_there}
use Rattle.worm_region.proofs.ListFronts.{first_of, none_of}

-- only the credits of an output channel are changed
credit_bridge : (s : NetState) (x o c : ℕ) → IsFramed s → IsNetPlace s x o c
    → network_of (with_router s x (after_credit (router_at s x) o c)) ≡
    record (network_of s) { credits = put3 (network_of s).credits x o c ((network_of s).credits x o c + 1) }
credit_bridge s x o c framed place =
    let N = network_of s in
    let u = output_at (router_at s x) o c in
    let holder = put3_same N.holder x o c u.holder (sym (holder_there s x o c place.place.channel_in)) in
    let more : u.credits + 1 ≡ N.credits x o c + 1 =
    ap (λ (n : ℕ). n + 1) (sym (spent_there s x o c place.place.channel_in)) in
    let same : record N {
      holder = put3 N.holder x o c u.holder;
      credits = put3 N.credits x o c (u.credits + 1);
    } ≡ record N { credits = put3 N.credits x o c (N.credits x o c + 1) }
    = λ t. record N { holder = holder t; credits = put3 N.credits x o c (more t) } in
    output_bridge s x o c (record u { credits = u.credits + 1 }) place.node_in place.place
    (framed.each_node x place.node_in).all_outputs ∙ same

Outcome : (ℕ → Bool) → NetState → ℕ → ℕ → Option ℕ → Bool → Type 0
Outcome own s x o c b =
    IsWorkableBy own (if b then after_getting s x o c else s) ×
    Replies s (TakeCredit x o) (Ok (moved_of b)) (if b then after_getting s x o c else s)

module _ (s : NetState) (x o y : ℕ) {own : ℕ → Bool} (net : IsWorkableBy own s) (x_in : x < length s.nodes)
    (e : neighbour_of s.mesh x o ≡ Some y) where
  -- the front credit of a link is of a channel
  credit_place : (c : ℕ) (rest : List ℕ) → (link_at s (link_out s x o)).credits ≡ c ∷ rest →
      IsNetPlace s x o c × (c < sum s.channels)
  unfolding net_shape
  credit_place c rest credits =
      let node = net.framed.each_node x x_in in
      let lead = leader s x o y net.framed e in
      let list = credits_there s x o net.framed lead.has ∙ credits in
      let all = subst (λ (cs : List ℕ). All (λ v. v < sum s.channels) cs) list (net.works.entries x o) in
      let channel : c < sum s.channels = All-head (λ (v : ℕ). v < sum s.channels) c rest all in
      let port : o < 2 * length s.mesh = lead.port_in in
      let port_le : o ≤ 2 * length s.mesh = omega arith in (
        record {
          node_in = x_in;
          place = record { port_in = rw node.same_mesh port_le; channel_in = rw node.same_channels channel };
        },
        channel,
      )

  get_done : (c : ℕ) → front_credit s x o ≡ Some c → can_get (router_at s x) o (Some c) ≡ true
      → Enabled (shape s) (network_of s) (TakeCredit x o) ×
      (network_of (after_getting s x o (Some c)) ≡ after (shape s) (network_of s) (TakeCredit x o)) ×
      IsFramed (after_getting s x o (Some c))
  unfolding net_shape
  get_done c first room =
      let k = link_out s x o in
      let N = network_of s in
      let node = net.framed.each_node x x_in in
      let lead = leader s x o y net.framed e in
      let credits = first_of (link_at s k).credits c first in
      let rest = drop 1 (link_at s k).credits in
      let place = credit_place c rest credits in
      let list : N.credit_list x o ≡ c ∷ rest = credits_there s x o net.framed lead.has ∙ credits in
      let spent = spent_there s x o c place.0.place.channel_in in
      let few : N.credits x o c ≤ s.depth = net.works.few x o y c e place.1 in
      let less : N.credits x o c < s.depth =
      elim (bool_cases ((output_at (router_at s x) o c).credits == (router_at s x).depth)) [
        | inl full ↦
            let no : (if (output_at (router_at s x) o c).credits == (router_at s x).depth then false else true) ≡ true =
            room in absurd (cc)
        | inr some ↦ let d = node.same_depth in grind arith
      ] in
      let enabled : Enabled (shape s) N (TakeCredit x o) =
      subst (λ (cs : List ℕ). FrontIs cs (λ v. N.credits x o v < s.depth)) (sym list) less in
      let r = after_credit (router_at s x) o c in
      let mid = with_router s x r in
      let mid_framed = router_framed s x r.inputs r.outputs net.framed x_in refl (rw length-set refl) in
      let l : LinkView = record (link_at s k) { credits = rest } in
      let from_mid = link_bridge mid x o l mid_framed lead.has in
      let mid_is = credit_bridge s x o c net.framed place.0 in
      let linked =
      ap (λ (n : Network). record n {
        out = put2 n.out x o (link_at s k).flits;
        credit_list = put2 n.credit_list x o rest;
      }) mid_is in
      let flits = put2_same N.out x o (link_at s k).flits (sym (out_there s x o net.framed lead.has)) in
      let same : record N {
        credits = put3 N.credits x o c (N.credits x o c + 1);
        out = put2 N.out x o (link_at s k).flits;
        credit_list = put2 N.credit_list x o rest;
      }
      ≡ got N x o (c ∷ rest)
      = λ t. record N {
        credits = put3 N.credits x o c (N.credits x o c + 1);
        out = flits t;
        credit_list = put2 N.credit_list x o rest;
      } in
      let to_after : got N x o (c ∷ rest) ≡ after (shape s) N (TakeCredit x o) =
      ap (λ (cs : List ℕ). got N x o cs) (sym list) in
      (enabled, from_mid ∙ (linked ∙ (same ∙ to_after)), link_framed mid k l mid_framed lead.bound refl)

  get_idle : (c : Option ℕ) → front_credit s x o ≡ c → can_get (router_at s x) o c ≡ false →
      Enabled (shape s) (network_of s) (TakeCredit x o) → ⊥
  unfolding net_shape
  get_idle None first can h =
      let lead = leader s x o y net.framed e in
      let list : (network_of s).credit_list x o ≡ [] =
      credits_there s x o net.framed lead.has ∙ none_of (link_at s (link_out s x o)).credits first in
      subst (λ (cs : List ℕ). FrontIs cs (λ v. (network_of s).credits x o v < s.depth)) list h
  get_idle (Some c) first can h =
      let node = net.framed.each_node x x_in in
      let lead = leader s x o y net.framed e in
      let credits = first_of (link_at s (link_out s x o)).credits c first in
      let rest = drop 1 (link_at s (link_out s x o)).credits in
      let place = credit_place c rest credits in
      let list : (network_of s).credit_list x o ≡ c ∷ rest = credits_there s x o net.framed lead.has ∙ credits in
      let less : (network_of s).credits x o c < s.depth =
      subst (λ (cs : List ℕ). FrontIs cs (λ v. (network_of s).credits x o v < s.depth)) list h in
      let spent = spent_there s x o c place.0.place.channel_in in
      let d = node.same_depth in
      let some : ((output_at (router_at s x) o c).credits == (router_at s x).depth) ≡ false = grind arith in
      let no : (if (output_at (router_at s x) o c).credits == (router_at s x).depth then false else true) ≡ false =
      can in
      absurd (cc)

  get_at : IsThere (shape s) (TakeCredit x o) → (c : Option ℕ) (b : Bool)
      → front_credit s x o ≡ c → can_get (router_at s x) o c ≡ b
      → after_getting s x o c ≡ done_step s (TakeCredit x o) → Outcome own s x o c b
  unfolding Outcome
  get_at there None true first can same = absurd (cc)
  get_at there (Some c) true first can same =
      let step = get_done c first can in
      let new = after_getting s x o (Some c) in
      step_made s new.nodes new.links (TakeCredit x o) net there (λ no. no) step same
  get_at there c false first can same =
      (net, (there, get_idle c first can, refl, refl))

  fits_by : (c : Option ℕ) → front_credit s x o ≡ c → CreditFits (router_at s x) o c
  fits_by None first = tt
  fits_by (Some c) first =
      (credit_place c (drop 1 (link_at s (link_out s x o)).credits)
      (first_of (link_at s (link_out s x o)).credits c first)).0.place

get_by : (s : NetState) (x o : ℕ) → {own : ℕ → Bool} → IsWorkableBy own s → x < length s.nodes →
    IsThere (shape s) (TakeCredit x o) → (n : Option ℕ) → neighbour_of s.mesh x o ≡ n → IsSome n
    → Outcome own s x o (front_credit s x o) (can_get (router_at s x) o (front_credit s x o))
get_by s x o net x_in there None e some = absurd (cc)
get_by s x o net x_in there (Some y) e some =
    get_at s x o y net x_in e there (front_credit s x o)
    (can_get (router_at s x) o (front_credit s x o)) refl refl refl

pub get_answers : (s : NetState) (x o : ℕ) → {own : ℕ → Bool} → IsWorkableBy own s →
    IsSome (neighbour_of s.mesh x o) → (done : Bool) (new : NetState)
    → done ≡ can_get (router_at s x) o (front_credit s x o)
    → new ≡ (if done then after_getting s x o (front_credit s x o) else s)
    → IsWorkableBy own new × Replies s (TakeCredit x o) (Ok (moved_of done)) new
unfolding net_shape Outcome
get_answers s x o net linked done new e after =
    let all = net.framed.all_nodes in
    let there = port_there s.mesh x o linked in
    let node_in = there.0 in
    rw after (rw e (get_by s x o net (omega arith) there (neighbour_of s.mesh x o) refl linked))

fits_from : (s : NetState) (x o : ℕ) → {own : ℕ → Bool} → IsWorkableBy own s → x < length s.nodes → (n : Option ℕ) →
    neighbour_of s.mesh x o ≡ n → IsSome n → CreditFits (router_at s x) o (front_credit s x o)
fits_from s x o net x_in None e some = absurd (cc)
fits_from s x o net x_in (Some y) e some = fits_by s x o y net x_in e (front_credit s x o) refl

pub credit_fits : (s : NetState) (x o : ℕ) → {own : ℕ → Bool} → IsWorkableBy own s →
    IsSome (neighbour_of s.mesh x o) → CreditFits (router_at s x) o (front_credit s x o)
credit_fits s x o net linked =
    let all = net.framed.all_nodes in
    let node_in = of_node s.mesh x o linked in
    fits_from s x o net (omega arith) (neighbour_of s.mesh x o) refl linked
