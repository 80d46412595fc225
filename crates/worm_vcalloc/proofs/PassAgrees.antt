-- Lemmas that tie the code of a pass to its definition.
use Rattle.std.proofs.Common.{◌≡◌, ℕ, ◌+◌, ◌/◌, ◌%◌, ◌<◌, ◌≤◌, Bool, true, false, List, zero, suc, fold, cond, ◌&&◌}
use Rattle.std.proofs.Common.{◌*◌, Option, Some, None, is_some, is_none, refl, sym, ap, ◌∙◌, subst, arith}
use Rattle.std.proofs.Common.{[], slice_index_or, add-one, inl, inr}
use Rattle.std.proofs.lemmas.Bool.{cases_Bool}
use Rattle.std.proofs.lemmas.List.{get_or_default}
use Rattle.std.specs.List.{range_with_len}
use Rattle.worm_vcalloc.specs.declared.request.VcRequest.{VcRequest}
use Rattle.worm_vcalloc.specs.Arbiter.{ArbiterState, winner, after_pick, no_arbiter}
use Rattle.worm_vcalloc.specs.ChannelSet.{IsFirstFrom}
use Rattle.worm_vcalloc.specs.Places.{arbiters_at, IsPlaced}
use Rattle.worm_vcalloc.specs.Table.{cell, with_cell}
use Rattle.worm_vcalloc.specs.VcAlloc.{VcAllocState, VcPass, with_grant, is_requester, vc_winner, offered}
use Rattle.worm_vcalloc.specs.VcAlloc.{vc_step, port_pass}
use Rattle.worm_vcalloc.specs.VcRequest.{is_for, allows}
use Rattle.worm_vcalloc.proofs.ArbitersStay.{IsVcAlloc}
use Rattle.worm_vcalloc.proofs.Winner.{winner_none}
use Rattle.worm_vcalloc.proofs.Lines.{at_line, line_port}
use Rattle.worm_vcalloc.proofs.PlacesInOrder.{first_wins, none_wins}
use Rattle.worm_vcalloc.proofs.PlacesKept.{arbiter_after, arbiters_at_moved, cell_at, place_in}
use Rattle.worm_vcalloc.proofs.RequestersHeard.{AreAsking}
use Rattle.worm_vcalloc.proofs.TableCells.{with_cell_same}

-- a fold over a range that is one longer
fold-range_suc : {X : Type 0} (step : X → ℕ → X) (x : X) (a n : ℕ)
    → fold step x (range_with_len a (suc n)) ≡ step (fold step x (range_with_len a n)) (a + n)
fold-range_suc step x a zero = ap (step x) (omega arith)
fold-range_suc step x a (suc n) =
    fold-range_suc step (step x a) (a + 1) n ∙ ap (step (fold step (step x a) (range_with_len (a + 1) n))) (omega arith)

pub fold-range_next : {X : Type 0} (step : X → ℕ → X) (x : X) (n : ℕ)
    → fold step x (range_with_len 0 (suc n)) ≡ step (fold step x (range_with_len 0 n)) n
fold-range_next step x n = fold-range_suc step x 0 n ∙ ap (step (fold step x (range_with_len 0 n))) (omega arith)

pub fold-range_more : {X : Type 0} (step : X → ℕ → X) (x : X) (n : ℕ)
    → fold step x (range_with_len 0 (n + 1)) ≡ step (fold step x (range_with_len 0 n)) n
fold-range_more step x n = rw add-one (fold-range_suc step x 0 n
    ∙ ap (step (fold step x (range_with_len 0 n))) (omega arith))

-- how far a pass has come, within which the numbers of ports and channels stay
pub record Reached (first : VcAllocState) (here there : VcPass) : Type 0 where
  pub is : here ≡ there
  pub ports : here.alloc.ports ≡ first.ports
  pub vcs : here.alloc.vcs ≡ first.vcs

-- the loop over channels: a free channel is offered
pub channel_offered : (waiting : List (List (Option VcRequest))) (free : List (List Bool)) (first : VcAllocState)
    (start here there : VcPass) (out channel : ℕ)
    → Reached first here (fold (vc_step waiting free out) start (range_with_len 0 channel))
    → cell free out channel false ≡ true
    → there ≡ offered waiting here out channel
    → there.alloc.ports ≡ here.alloc.ports
    → there.alloc.vcs ≡ here.alloc.vcs
    → Reached first there (fold (vc_step waiting free out) start (range_with_len 0 (channel + 1)))
channel_offered waiting free first start here there out channel r is_free is same_ports same_channels = record {
  is = is ∙ ap (λ p. offered waiting p out channel) r.is
      ∙ sym (ap (λ b. cond b (offered waiting
      (fold (vc_step waiting free out) start (range_with_len 0 channel)) out channel)
      (fold (vc_step waiting free out) start (range_with_len 0 channel))) is_free)
      ∙ sym (fold-range_more (vc_step waiting free out) start channel);
  ports = same_ports ∙ r.ports;
  vcs = same_channels ∙ r.vcs;
}

-- the loop over channels: a held channel is passed over
pub channel_passed : (waiting : List (List (Option VcRequest))) (free : List (List Bool)) (first : VcAllocState)
    (start here there : VcPass) (out channel : ℕ)
    → Reached first here (fold (vc_step waiting free out) start (range_with_len 0 channel))
    → cell free out channel false ≡ false
    → there ≡ here
    → Reached first there (fold (vc_step waiting free out) start (range_with_len 0 (channel + 1)))
channel_passed waiting free first start here there out channel r is_held is = record {
  is = is ∙ r.is
      ∙ sym (ap (λ b. cond b (offered waiting
      (fold (vc_step waiting free out) start (range_with_len 0 channel)) out channel)
      (fold (vc_step waiting free out) start (range_with_len 0 channel))) is_held)
      ∙ sym (fold-range_more (vc_step waiting free out) start channel);
  ports = ap (λ p. p.alloc.ports) is ∙ r.ports;
  vcs = ap (λ p. p.alloc.vcs) is ∙ r.vcs;
}

-- the loop over ports
pub port_passed : (waiting : List (List (Option VcRequest))) (free : List (List Bool)) (first : VcAllocState)
    (start here there : VcPass) (out : ℕ)
    → Reached first here (fold (port_pass waiting free) start (range_with_len 0 out))
    → there ≡ port_pass waiting free here out
    → there.alloc.ports ≡ here.alloc.ports
    → there.alloc.vcs ≡ here.alloc.vcs
    → Reached first there (fold (port_pass waiting free) start (range_with_len 0 (out + 1)))
port_passed waiting free first start here there out r is same_ports same_channels = record {
  is = is ∙ ap (λ p. port_pass waiting free p out) r.is ∙ sym (fold-range_more (port_pass waiting free) start out);
  ports = same_ports ∙ r.ports;
  vcs = same_channels ∙ r.vcs;
}

-- ---- what an offer leaves

-- a pass of an allocator that is kept by places
abbrev pub pass_at : ℕ → ℕ → List (List ℕ) → List (List (Option ℕ)) → VcPass
pass_at ports vcs places grants = record {
  alloc = record { ports = ports; vcs = vcs; arbiters = arbiters_at ports vcs places };
  grants = grants;
}

-- an output channel that nobody wins is offered in vain
pub offered_in_vain : (waiting : List (List (Option VcRequest))) (pass : VcPass) (out channel : ℕ)
    → vc_winner waiting pass out channel ≡ None → offered waiting pass out channel ≡ pass
unfolding offered
offered_in_vain waiting pass out channel nobody =
    ap
    (λ line. record {
      alloc = record {
        ports = pass.alloc.ports;
        vcs = pass.alloc.vcs;
        arbiters = with_cell pass.alloc.arbiters out channel
            (after_pick (cell pass.alloc.arbiters out channel no_arbiter) line);
      };
      grants = with_grant pass.alloc.vcs pass.grants channel line;
    })
    nobody
    ∙ ap (λ arbiters. record {
      alloc = record {
        ports = pass.alloc.ports;
        vcs = pass.alloc.vcs;
        arbiters = arbiters;
      };
      grants = pass.grants;
    }) (with_cell_same pass.alloc.arbiters out channel no_arbiter)

-- one whose requesters are a set, of which one is the first from the place of its arbiter
pub offered_first : (waiting : List (List (Option VcRequest))) (grants : List (List (Option ℕ)))
    (ports vcs : ℕ) (places : List (List ℕ)) (out channel asking d port vc : ℕ)
    → IsPlaced ports vcs places → out < ports → channel < vcs
    → AreAsking waiting grants ports vcs out channel asking
    → IsFirstFrom asking (cell places out channel d + 1) port vc
    → record {
      alloc = record {
        ports = ports;
        vcs = vcs;
        arbiters = arbiters_at ports vcs (with_cell places out channel (8 * port + vc));
      };
      grants = with_cell grants port vc (Some channel);
    }
    ≡ offered waiting (pass_at ports vcs places grants) out channel
unfolding offered
offered_first waiting grants ports vcs places out channel asking d port vc h lo lc a f =
    let few = h.few_ports in
    let few' = h.few_channels in
    let old = cell_at ports vcs places out channel h (omega arith) (omega arith) in
    let start = place_in ports vcs places out channel h (omega arith) (omega arith) in
    let place = a.within port vc f.port_in f.channel_in f.first.requests in
    let won : Some (port * vcs + vc) ≡ vc_winner waiting (pass_at ports vcs places grants) out channel =
    first_wins ports vcs (cell places out channel 0) asking port vc (is_requester waiting grants out channel)
    few h.some_channel few' start.port_in start.channel_in place.0 place.1 a.requesters
    (subst (λ s. IsFirstFrom asking (s + 1) port vc)
    (sym (get_or_default (slice_index_or places out []) channel 0 d
    (omega (arith, h.shape.columns out (omega arith)))))
    f)
    ∙ ap (λ b. winner b (λ line. is_requester waiting grants out channel (line / vcs) (line % vcs)))
    (sym old) in
    ap (λ arbiters. record {
      alloc = record { ports = ports; vcs = vcs; arbiters = arbiters };
      grants = with_cell grants port vc (Some channel);
    }) (arbiters_at_moved ports vcs places out channel (8 * port + vc)
    ∙ ap (with_cell (arbiters_at ports vcs places) out channel)
    (arbiter_after ports vcs (cell places out channel 0) port vc (omega (arith, f.channel_in))
    ∙ ap (λ b. after_pick b (Some (port * vcs + vc))) (sym old)))
    ∙ ap (λ granted. record {
      alloc = record {
        ports = ports;
        vcs = vcs;
        arbiters = with_cell (arbiters_at ports vcs places) out channel
            (after_pick (cell (arbiters_at ports vcs places) out channel no_arbiter)
            (Some (port * vcs + vc)));
      };
      grants = granted;
    }) (sym (at_line (λ p v. with_cell grants p v (Some channel)) port vcs vc place.1))
    ∙ ap (λ line. record {
      alloc = record {
        ports = ports;
        vcs = vcs;
        arbiters = with_cell (arbiters_at ports vcs places) out channel
            (after_pick (cell (arbiters_at ports vcs places) out channel no_arbiter) line);
      };
      grants = with_grant vcs grants channel line;
    }) won

-- one whose requesters are the empty set
pub offered_none : (waiting : List (List (Option VcRequest))) (grants : List (List (Option ℕ)))
    (ports vcs : ℕ) (places : List (List ℕ)) (out channel asking : ℕ)
    → IsPlaced ports vcs places → out < ports → channel < vcs
    → AreAsking waiting grants ports vcs out channel asking → asking ≡ 0
    → pass_at ports vcs places grants ≡ offered waiting (pass_at ports vcs places grants) out channel
offered_none waiting grants ports vcs places out channel asking h lo lc a empty =
    let few = h.few_ports in
    let few' = h.few_channels in
    let start = place_in ports vcs places out channel h (omega arith) (omega arith) in
    sym (offered_in_vain waiting (pass_at ports vcs places grants) out channel
    (sym (none_wins ports vcs (cell places out channel 0) asking (is_requester waiting grants out channel)
    h.some_channel start.port_in start.channel_in a.requesters empty
    ∙ ap (λ b. winner b (λ line. is_requester waiting grants out channel (line / vcs) (line % vcs)))
    (sym (cell_at ports vcs places out channel h (omega arith) (omega arith))))))

-- one that nobody asks for
offered_unasked : (waiting : List (List (Option VcRequest))) (pass : VcPass) (out channel : ℕ)
    → IsVcAlloc pass.alloc.ports pass.alloc.vcs pass.alloc.arbiters
    → out < pass.alloc.ports → channel < pass.alloc.vcs
    → ((p v : ℕ) → p < pass.alloc.ports → v < pass.alloc.vcs → is_for (cell waiting p v None) out ≡ false)
    → offered waiting pass out channel ≡ pass
offered_unasked waiting pass out channel r lo lc none =
    let few = r.few_ports in
    let few' = r.few_channels in
    let a : ArbiterState = cell pass.alloc.arbiters out channel no_arbiter in
    let wide : a.width ≡ pass.alloc.ports * pass.alloc.vcs = r.width out channel (omega arith) (omega arith) in
    let low : a.pointer < pass.alloc.ports * pass.alloc.vcs = r.pointer out channel (omega arith) (omega arith) in
    offered_in_vain waiting pass out channel
    (winner_none a _ (omega arith)
    (λ line l.
    let place = line_port pass.alloc.ports pass.alloc.vcs line r.some_channel (omega arith) in
    ap
    (λ b. (b && allows (cell waiting (line / pass.alloc.vcs) (line % pass.alloc.vcs) None) channel) && is_none
    (cell pass.grants (line / pass.alloc.vcs) (line % pass.alloc.vcs) None))
    (none (line / pass.alloc.vcs) (line % pass.alloc.vcs) place.0 place.1)))

-- an output port that nobody asks for is passed over
pub port_pass_unasked : (waiting : List (List (Option VcRequest))) (free : List (List Bool)) (pass : VcPass) (out : ℕ)
    → IsVcAlloc pass.alloc.ports pass.alloc.vcs pass.alloc.arbiters
    → out < pass.alloc.ports
    → ((p v : ℕ) → p < pass.alloc.ports → v < pass.alloc.vcs → is_for (cell waiting p v None) out ≡ false)
    → port_pass waiting free pass out ≡ pass
unfolding port_pass
port_pass_unasked waiting free pass out r lo none = go pass.alloc.vcs (omega arith) where
  step : (channel : ℕ) → channel < pass.alloc.vcs → vc_step waiting free out pass channel ≡ pass
  step channel lc = elim (cases_Bool (cell free out channel false)) [
    | inl is_free ↦ ap (λ b. cond b (offered waiting pass out channel) pass) is_free
        ∙ offered_unasked waiting pass out channel r lo lc none
    | inr is_held ↦ ap (λ b. cond b (offered waiting pass out channel) pass) is_held
  ]

  go : (n : ℕ) → n ≤ pass.alloc.vcs → fold (vc_step waiting free out) pass (range_with_len 0 n) ≡ pass
  go zero few = refl
  go (suc n) few = fold-range_next (vc_step waiting free out) pass n
      ∙ ap (λ p. vc_step waiting free out p n) (go n (omega arith)) ∙ step n (omega arith)

pub none_where_not_some : {X : Type 0} (o : Option X) → is_some o ≡ false → o ≡ None
none_where_not_some None e = refl
none_where_not_some (Some x) e = absurd (cc)
