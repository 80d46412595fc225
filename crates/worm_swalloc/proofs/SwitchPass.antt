-- Lemmas on a pass of the switch allocator.
use Rattle.std.proofs.Common.{◌≡◌, ℕ, ◌+◌, ◌<◌, ◌≤◌, Bool, true, false, List, [], Option, Some, None, IfSome, is_some}
use Rattle.std.proofs.Common.{refl, sym, ap, ◌∙◌, arith, slice_index_or, slice_set, length, inl, inr, ltb, cond}
use Rattle.std.proofs.Common.{replicate, ◌&&◌, subst}
use Rattle.std.specs.Option.{option_map}
use Rattle.std.proofs.lemmas.Bool.{cases_lt, cases_Bool, lt-ltb, ltb-true, eqb-true, eq-eqb}
use Rattle.std.proofs.lemmas.Bool.{and_parts, and_from, true≢false}
use Rattle.std.proofs.lemmas.List.{get_or-replicate, length-replicate, get_or_past, get_or_default}
use Rattle.worm_vcalloc.specs.ChannelSet.{has, IsFirstPort}
use Rattle.worm_vcalloc.proofs.PassAgrees.{none_where_not_some}
use Rattle.worm_vcalloc.specs.Arbiter.{ArbiterState, no_arbiter, winner, after_pick, line_requests}
use Rattle.worm_vcalloc.specs.Table.{cell}
use Rattle.worm_vcalloc.proofs.Winner.{winner_same, winner_none, winner_requests, winner_none_requests}
use Rattle.worm_swalloc.specs.declared.grant.SwGrant.{SwGrant}
use Rattle.worm_swalloc.specs.Front.{with_front}
use Rattle.worm_swalloc.specs.SwAlloc.{SwAllocState, IsSwAlloc, IsSwitchMatching, AreChannelsBelow}
use Rattle.worm_swalloc.specs.SwAlloc.{request_of, named_channel, named, all_named, is_for, chosen, with_choice}
use Rattle.worm_swalloc.specs.SwAlloc.{is_line, if_chosen, granted, sw_grants, sw_after, output_after, input_after}
use Rattle.worm_swalloc.specs.SwAlloc.{channel_of, with_move, after_grant}
use Rattle.worm_swalloc.proofs.FrontGiven.{with_front_zero, slice_set-with_front, slice_index_or-with_front_below}
use Rattle.worm_swalloc.proofs.FrontGiven.{slice_index_or-with_front_past, with_front_same, with_front_kept}
use Rattle.worm_swalloc.proofs.FrontGiven.{with_front_skip}
use Rattle.worm_swalloc.proofs.PortsWalked.{IsWalked, walked_start, walked_from, walked_over, walked_more, walked_all}

pub get_or-replicate_same : {X : Type 0} (n i : ℕ) (x : X) → slice_index_or (replicate n x) i x ≡ x
get_or-replicate_same n i x = elim (cases_lt i n) [
  | inl within ↦ get_or-replicate n i x x within
  | inr past ↦ get_or_past (replicate n x) i x (let e = length-replicate n x in omega arith)
]

-- the winner among lines that stand for a test
pub winner_of_lines : (a : ArbiterState) (width lines : ℕ) (asks : ℕ → Bool) → a.width ≡ width → a.pointer < width
    → ((line : ℕ) → line < width → line_requests lines line ≡ asks line)
    → winner a (line_requests lines) ≡ winner a asks
winner_of_lines a width lines asks wide low same =
    winner_same a (line_requests lines) asks (omega arith) (λ i l. same i (omega arith))

-- the only line that asks wins
pub winner_sole : (a : ArbiterState) (asks : ℕ → Bool) (k : ℕ) → a.pointer ≤ a.width → k < a.width → asks k ≡ true
    → ((i : ℕ) → asks i ≡ true → i ≡ k) → winner a asks ≡ Some k
winner_sole a asks k ok within there sole = go (winner a asks) refl where
  go : (w : Option ℕ) → winner a asks ≡ w → winner a asks ≡ Some k
  go None e = absurd (true≢false (sym there ∙ winner_none_requests a asks ok e k within))
  go (Some i) e = e ∙ ap Some (sole i (winner_requests a asks i ok e).1)

-- the channel that an input arbiter names, from the lines that the code gathers
pub named_is : (s : SwAllocState) (ready : List (List (Option ℕ))) (port lines : ℕ) (d : ArbiterState) (w : Option ℕ)
    → IsSwAlloc s.ports s.vcs s.inputs s.outputs → port < s.ports → port < length s.inputs
    → ((line : ℕ) → line < s.vcs → line_requests lines line ≡ is_some (cell ready port line None))
    → w ≡ winner (slice_index_or s.inputs port d) (line_requests lines) → w ≡ named_channel s ready port
named_is s ready port lines d w r lp within same e =
    let few = r.few_ports in
    e ∙ ap (λ a. winner a (line_requests lines)) (get_or_default s.inputs port d no_arbiter within)
    ∙ winner_of_lines (slice_index_or s.inputs port no_arbiter) s.vcs lines
    (λ vc. is_some (cell ready port vc None)) (r.input_width port (omega arith))
    (r.input_pointer port (omega arith)) same

-- the input port that an output arbiter chooses, likewise
pub chosen_is : (s : SwAllocState) (requests : List (Option SwGrant)) (out lines : ℕ) (d : ArbiterState) (w : Option ℕ)
    → IsSwAlloc s.ports s.vcs s.inputs s.outputs → out < s.ports → out < length s.outputs
    → ((line : ℕ) → line < s.ports → line_requests lines line ≡ is_for (slice_index_or requests line None) out)
    → w ≡ winner (slice_index_or s.outputs out d) (line_requests lines) → w ≡ chosen s requests out
chosen_is s requests out lines d w r lo within same e =
    let few = r.few_ports in
    e ∙ ap (λ a. winner a (line_requests lines)) (get_or_default s.outputs out d no_arbiter within)
    ∙ winner_of_lines (slice_index_or s.outputs out no_arbiter) s.ports lines
    (λ port. is_for (slice_index_or requests port None) out) (r.output_width out (omega arith))
    (r.output_pointer out (omega arith)) same

-- an arbiter that has moved past its winner
pub moved_is : (arbiters : List ArbiterState) (i : ℕ) (d new : ArbiterState) (w w' : Option ℕ) → i < length arbiters
    → w ≡ w'
    → new ≡ after_pick (slice_index_or arbiters i d) w → new ≡ after_pick (slice_index_or arbiters i no_arbiter) w'
moved_is arbiters i d new w w' within same e =
    e ∙ ap (λ a. after_pick a w) (get_or_default arbiters i d no_arbiter within)
    ∙ ap (after_pick (slice_index_or arbiters i no_arbiter)) same

-- what one choice leaves of the grants and of the allocator
pub choice_is : (s : SwAllocState) (requests grants : List (Option SwGrant)) (out lines : ℕ) (d new : ArbiterState)
    (w : Option ℕ) → IsSwAlloc s.ports s.vcs s.inputs s.outputs → out < s.ports → out < length s.outputs
    → ((line : ℕ) → line < s.ports → line_requests lines line ≡ is_for (slice_index_or requests line None) out)
    → w ≡ winner (slice_index_or s.outputs out d) (line_requests lines)
    → new ≡ after_pick (slice_index_or s.outputs out d) w
    → (with_choice grants requests w ≡ with_choice grants requests (chosen s requests out))
    × (◌≡◌ {A = SwAllocState} (record s {
      inputs = with_move s.inputs requests w;
      outputs = slice_set s.outputs out new;
    })
    (record s {
      inputs = with_move s.inputs requests (chosen s requests out);
      outputs = slice_set s.outputs out (output_after s requests out);
    }))
choice_is s requests grants out lines d new w r lo within same won moved =
    let choice = chosen_is s requests out lines d w r lo within same won in (
      ap (with_choice grants requests) choice,
      ap (λ a. record s { inputs = with_move s.inputs requests w; outputs = slice_set s.outputs out a })
          (moved_is s.outputs out d new w (chosen s requests out) within choice moved)
          ∙ ap (λ v. record s {
            inputs = with_move s.inputs requests v;
            outputs = slice_set s.outputs out (output_after s requests out);
          }) choice,
    )

-- ---- the requests

-- where no channel of an input port is ready, it names none
pub named_unready : (s : SwAllocState) (ready : List (List (Option ℕ))) (port : ℕ)
    → IsSwAlloc s.ports s.vcs s.inputs s.outputs → port < s.ports
    → ((v : ℕ) → v < 8 → cell ready port v None ≡ None) → named s ready port ≡ None
named_unready s ready port r lp none =
    let few = r.few_ports in
    let few' = r.few_channels in
    let wide = r.input_width port (omega arith) in
    let low = r.input_pointer port (omega arith) in
    ap (request_of (slice_index_or ready port []))
    (winner_none (slice_index_or s.inputs port no_arbiter) (λ vc. is_some (cell ready port vc None)) (omega arith)
    (λ vc l. ap is_some (none vc (omega arith))))

-- the input ports below n have been asked, where n is as far as the walk has come
pub record AskedBelow (s : SwAllocState) (ready : List (List (Option ℕ))) (keys left : ℕ)
    (requests : List (Option SwGrant)) : Type 0 where
  pub next : ℕ
  pub walked : IsWalked keys left next s.ports
  pub requests_are : requests ≡ with_front next (named s ready) (replicate 7 None)

-- the requests as far as the next port that has a ready channel
asked_to : (s : SwAllocState) (ready : List (List (Option ℕ))) (keys left n m : ℕ)
    → IsSwAlloc s.ports s.vcs s.inputs s.outputs → n ≤ m → m ≤ s.ports
    → ((p v : ℕ) → p < 7 → v < 8 → has keys p v ≡ is_some (cell ready p v None))
    → ((p v : ℕ) → n ≤ p → p < m → v < 8 → has keys p v ≡ false)
    → with_front n (named s ready) (replicate 7 None) ≡ with_front m (named s ready) (replicate 7 None)
asked_to s ready keys left n m r from within keyed none =
    let few = r.few_ports in
    with_front_skip n m (named s ready) (replicate 7 None) None from (omega arith)
    (λ i l l'.
    named_unready s ready i r (omega arith)
    (λ v lv. none_where_not_some (cell ready i v None) (sym (keyed i v (omega arith) lv) ∙ none i v l l' lv))
    ∙ sym (get_or-replicate_same 7 i None))

pub asked_start : (s : SwAllocState) (ready : List (List (Option ℕ))) (keys : ℕ) (requests : List (Option SwGrant))
    → requests ≡ replicate 7 None
    → AskedBelow s ready keys keys requests
asked_start s ready keys requests e = record {
  next = 0;
  walked = walked_start keys s.ports;
  requests_are = e ∙ sym (with_front_zero (named s ready) (replicate 7 None));
}

-- a port that has yet to be asked has no request
pub not_asked : (s : SwAllocState) (ready : List (List (Option ℕ))) (keys left left' port : ℕ)
    (requests : List (Option SwGrant)) → AskedBelow s ready keys left requests → IsFirstPort left left' port
    → slice_index_or requests port None ≡ None
not_asked s ready keys left left' port requests b f =
    let from = walked_from keys left left' b.next s.ports port b.walked f in
    ap (λ xs. slice_index_or xs port None) b.requests_are
    ∙ slice_index_or-with_front_past b.next port (named s ready) (replicate 7 None) None from
    ∙ get_or-replicate_same 7 port None

-- the next port has been asked
pub asked_more : (s : SwAllocState) (ready : List (List (Option ℕ))) (keys left left' port : ℕ)
    (requests requests' : List (Option SwGrant))
    → IsSwAlloc s.ports s.vcs s.inputs s.outputs
    → ((p v : ℕ) → p < 7 → v < 8 → has keys p v ≡ is_some (cell ready p v None))
    → AskedBelow s ready keys left requests → IsFirstPort left left' port → port < s.ports
    → requests' ≡ slice_set requests port (named s ready port)
    → AskedBelow s ready keys left' requests'
asked_more s ready keys left left' port requests requests' r keyed b f within e =
    let few = r.few_ports in
    let from = walked_from keys left left' b.next s.ports port b.walked f in
    record {
      next = port + 1;
      walked = walked_more keys left left' b.next s.ports port b.walked f within few;
      requests_are = e
          ∙ ap (λ xs. slice_set xs port (named s ready port))
          (b.requests_are ∙ asked_to s ready keys left b.next port r from (omega arith) keyed
          (λ p v l l' lv. walked_over keys left left' b.next s.ports port p v b.walked f l l' (omega arith) lv))
          ∙ slice_set-with_front port (named s ready) (replicate 7 None) None (omega arith);
    }

-- all have been asked
pub asked_all : (s : SwAllocState) (ready : List (List (Option ℕ))) (keys left : ℕ) (requests : List (Option SwGrant))
    → IsSwAlloc s.ports s.vcs s.inputs s.outputs
    → ((p v : ℕ) → p < 7 → v < 8 → has keys p v ≡ is_some (cell ready p v None))
    → AskedBelow s ready keys left requests → left ≡ 0 → requests ≡ all_named s ready
asked_all s ready keys left requests r keyed b e =
    let few = b.walked.few in
    b.requests_are ∙ asked_to s ready keys left b.next s.ports r few (omega arith) keyed
    (λ p v l l' lv. walked_all keys left b.next s.ports p v b.walked e l l' lv)

-- ---- the matching

granted_parts : (s : SwAllocState) (requests : List (Option SwGrant)) (n port : ℕ) (o : Option SwGrant) (g : SwGrant)
    → if_chosen s requests n port o ≡ Some g → (o ≡ Some g) × (g.out < n) × (chosen s requests g.out ≡ Some port)
granted_parts s requests n port None g e = absurd (cc)
granted_parts s requests n port (Some h) g e =
    elim (cases_Bool (ltb h.out n && is_line (chosen s requests h.out) port)) [
      | inl t ↦
          let same : Some h ≡ Some g = sym (ap (λ b. cond b (Some h) None) t) ∙ e in
          let hg : h ≡ g = cc in
          let parts = and_parts _ _ t in (
            same,
            let l = ltb-true h.out n parts.0 in let o : h.out ≡ g.out = ap (λ x. x.out) hg in omega arith,
            line_is (chosen s requests g.out) (ap (λ x. is_line (chosen s requests x.out) port) (sym hg) ∙ parts.1),
          )
      | inr f ↦ let no : None ≡ Some g = sym (ap (λ b. cond b (Some h) None) f) ∙ e in absurd (cc)
    ] where
      line_is : (o : Option ℕ) → is_line o port ≡ true → o ≡ Some port
      line_is None e = absurd (cc)
      line_is (Some q) e = ap Some (eqb-true q port e)

-- a named request is a ready channel with its output port
pub request_parts : (row : List (Option ℕ)) (vc : Option ℕ) (g : SwGrant) → request_of row vc ≡ Some g
    → (vc ≡ Some g.vc) × (slice_index_or row g.vc None ≡ Some g.out)
request_parts row None g e = absurd (cc)
request_parts row (Some v) g e = go (slice_index_or row v None) refl where
  go : (o : Option ℕ) → slice_index_or row v None ≡ o
      → (Some v ≡ Some g.vc) × (slice_index_or row g.vc None ≡ Some g.out)
  go None n = let no : None ≡ Some g = sym (ap (option_map (λ out. record { vc = v; out = out })) n) ∙ e in absurd (cc)
  go (Some out) n =
      let same : ◌≡◌ {A = Option SwGrant} (Some (record { vc = v; out = out })) (Some g) =
      sym (ap (option_map (λ out. record { vc = v; out = out })) n) ∙ e in
      let hg : ◌≡◌ {A = SwGrant} (record { vc = v; out = out }) g = cc in
      let ev : v ≡ g.vc = ap (λ x. x.vc) hg in
      let eo : out ≡ g.out = ap (λ x. x.out) hg in
      (ap Some ev, ap (λ k. slice_index_or row k None) (sym ev) ∙ n ∙ ap Some eo)

-- a grant is that of a port that is there
grant_within : (s : SwAllocState) (requests : List (Option SwGrant)) (port : ℕ) (g : SwGrant)
    → slice_index_or (with_front s.ports (granted s requests s.ports) (replicate 7 None)) port None ≡ Some g
    → (port < s.ports) × (granted s requests s.ports port ≡ Some g)
grant_within s requests port g e =
    elim (cases_lt port s.ports) [
      | inl below ↦ (
        below,
        sym (slice_index_or-with_front_below s.ports port (granted s requests s.ports)
            (replicate 7 None) None below) ∙ e,
      )
      | inr past ↦
          let nothing : slice_index_or (replicate 7 None) port None ≡ None = get_or-replicate_same 7 port None in
          let no : None ≡ Some g = sym nothing
          ∙ sym (slice_index_or-with_front_past s.ports port (granted s requests s.ports)
          (replicate 7 None) None past) ∙ e in absurd (cc)
    ]

-- the grants of a pass are a matching
pub matching : (s : SwAllocState) (ready : List (List (Option ℕ))) → IsSwAlloc s.ports s.vcs s.inputs s.outputs
    → IsSwitchMatching s ready (sw_grants s ready)
matching s ready r = record {
  requested = λ port g e.
      let w = grant_within s (all_named s ready) port g e in
      let p = granted_parts s (all_named s ready) s.ports port (slice_index_or (all_named s ready) port None) g w.1 in
      let few = r.few_ports in
      let is_named : named s ready port ≡ Some g =
      sym (slice_index_or-with_front_below s.ports port (named s ready) (replicate 7 None) None w.0) ∙ p.0 in
      let q = request_parts (slice_index_or ready port []) (named_channel s ready port) g is_named in
      let wide : (slice_index_or s.inputs port no_arbiter).width ≡ s.vcs =
      r.input_width port (omega (arith, w.0)) in
      let low : (slice_index_or s.inputs port no_arbiter).pointer < s.vcs =
      r.input_pointer port (omega (arith, w.0)) in
      let v = winner_requests (slice_index_or s.inputs port no_arbiter) (λ vc. is_some (cell ready port vc None)) g.vc
      (omega arith) q.0 in
      (q.1, w.0, omega (arith, v.0), p.1);
  once = λ port port' g g' e e' same.
      let w = grant_within s (all_named s ready) port g e in
      let w' = grant_within s (all_named s ready) port' g' e' in
      let p = granted_parts s (all_named s ready) s.ports port (slice_index_or (all_named s ready) port None) g w.1 in
      let p' = granted_parts s (all_named s ready) s.ports port'
      (slice_index_or (all_named s ready) port' None) g' w'.1 in
      let both : Some port ≡ Some port' = sym p.2 ∙ ap (chosen s (all_named s ready)) same ∙ p'.2 in
      cc;
  complete = λ port g within e below. go port g within e below (chosen s (all_named s ready) g.out) refl;
} where
  go : (port : ℕ) (g : SwGrant) → port < s.ports → named s ready port ≡ Some g → g.out < s.ports
      → (w : Option ℕ) → chosen s (all_named s ready) g.out ≡ w
      → (port' : ℕ) × (g' : SwGrant) × (slice_index_or (sw_grants s ready) port' None ≡ Some g') × (g'.out ≡ g.out)
  go port g within e below None is =
      let wide : (slice_index_or s.outputs g.out no_arbiter).width ≡ s.ports =
      r.output_width g.out (let few = r.few_ports in omega arith) in
      let low : (slice_index_or s.outputs g.out no_arbiter).pointer < s.ports =
      r.output_pointer g.out (let few = r.few_ports in omega arith) in
      let no = winner_none_requests (slice_index_or s.outputs g.out no_arbiter)
      (λ p. is_for (slice_index_or (all_named s ready) p None) g.out) (omega arith) is port (omega arith) in
      let yes : is_for (slice_index_or (all_named s ready) port None) g.out ≡ true =
      ap (λ o. is_for o g.out) (slice_index_or-with_front_below s.ports port (named s ready)
      (replicate 7 None) None within ∙ e) ∙ eq-eqb g.out g.out refl in
      absurd (true≢false (sym yes ∙ no))
  go port g within e below (Some q) is =
      let wide : (slice_index_or s.outputs g.out no_arbiter).width ≡ s.ports =
      r.output_width g.out (let few = r.few_ports in omega arith) in
      let low : (slice_index_or s.outputs g.out no_arbiter).pointer < s.ports =
      r.output_pointer g.out (let few = r.few_ports in omega arith) in
      let won = winner_requests (slice_index_or s.outputs g.out no_arbiter)
      (λ p. is_for (slice_index_or (all_named s ready) p None) g.out) q (omega arith) is in
      request (slice_index_or (all_named s ready) q None) refl won.1 (omega (arith, won.0)) where
        request : (o : Option SwGrant) → slice_index_or (all_named s ready) q None ≡ o
            → is_for (slice_index_or (all_named s ready) q None) g.out ≡ true → q < s.ports
            → (port' : ℕ) × (g' : SwGrant) × (slice_index_or (sw_grants s ready) port' None ≡ Some g')
            × (g'.out ≡ g.out)
        request None n asked lq = absurd (true≢false (sym asked ∙ ap (λ o. is_for o g.out) n))
        request (Some g') n asked lq =
            let same : g'.out ≡ g.out = eqb-true g'.out g.out (ap (λ o. is_for o g.out) (sym n) ∙ asked) in
            let here : is_line (chosen s (all_named s ready) g'.out) q ≡ true =
            ap (λ k. is_line (chosen s (all_named s ready) k) q) same ∙ ap (λ o. is_line o q) is
            ∙ eq-eqb q q refl in (
              q,
              g',
              slice_index_or-with_front_below s.ports q (granted s (all_named s ready) s.ports)
                  (replicate 7 None) None lq
                  ∙ ap (if_chosen s (all_named s ready) s.ports q) n
                  ∙ ap (λ b. cond b (Some g') None)
                  (and_from (ltb g'.out s.ports) (is_line (chosen s (all_named s ready) g'.out) q)
                  (lt-ltb g'.out s.ports (omega arith)) here),
              same,
            )

-- a named channel is one of the port's
pub named_within : (s : SwAllocState) (ready : List (List (Option ℕ))) (requests : List (Option SwGrant))
    → IsSwAlloc s.ports s.vcs s.inputs s.outputs
    → requests ≡ all_named s ready → AreChannelsBelow s.vcs requests
named_within s ready requests r e port =
    subst (λ o. IfSome o (λ g. g.vc < s.vcs)) (ap (λ xs. slice_index_or xs port None) (sym e))
    (go (slice_index_or (all_named s ready) port None) refl) where
      go : (o : Option SwGrant) → slice_index_or (all_named s ready) port None ≡ o → IfSome o (λ g. g.vc < s.vcs)
      go None n = tt
      go (Some g) n = elim (cases_lt port s.ports) [
        | inl below ↦
            let few = r.few_ports in
            let is_named : named s ready port ≡ Some g =
            sym (slice_index_or-with_front_below s.ports port (named s ready) (replicate 7 None) None below) ∙ n in
            let q = request_parts (slice_index_or ready port []) (named_channel s ready port) g is_named in
            let wide : (slice_index_or s.inputs port no_arbiter).width ≡ s.vcs =
            r.input_width port (omega arith) in
            let low : (slice_index_or s.inputs port no_arbiter).pointer < s.vcs =
            r.input_pointer port (omega arith) in
            let v = winner_requests (slice_index_or s.inputs port no_arbiter)
            (λ vc. is_some (cell ready port vc None)) g.vc
            (omega arith) q.0 in
            omega (arith, v.0)
        | inr past ↦
            let no : None ≡ Some g = sym (get_or-replicate_same 7 port None)
            ∙ sym (slice_index_or-with_front_past s.ports port (named s ready) (replicate 7 None) None past) ∙ n in
            absurd (cc)
      ]

-- the allocator after a pass, as the code leaves it
pub pass_is : (s now : SwAllocState) (ready : List (List (Option ℕ))) (requests grants : List (Option SwGrant))
    → s.ports ≤ length s.inputs
    → requests ≡ all_named s ready → grants ≡ sw_grants s ready
    → now ≡ record s {
      inputs = with_front s.ports (after_grant s grants) s.inputs;
      outputs = with_front s.ports (output_after s requests) s.outputs;
    }
    → now ≡ sw_after s ready
pass_is s now ready requests grants long are_named are_granted e =
    e
    ∙ ap (λ r. record s {
      inputs = with_front s.ports (after_grant s grants) s.inputs;
      outputs = with_front s.ports (output_after s r) s.outputs;
    }) are_named
    ∙ ap (λ i. record s { inputs = i; outputs = with_front s.ports (output_after s (all_named s ready)) s.outputs })
    (ap (λ r. with_front s.ports (after_grant s r) s.inputs) are_granted
    ∙ with_front_same s.ports (after_grant s (sw_grants s ready))
    (input_after s ready (sw_grants s ready)) s.inputs no_arbiter long
    (λ i l. moved i (slice_index_or (sw_grants s ready) i None) refl)) where
      moved : (i : ℕ) (o : Option SwGrant) → slice_index_or (sw_grants s ready) i None ≡ o
          → after_grant s (sw_grants s ready) i ≡ input_after s ready (sw_grants s ready) i
      moved i None n =
          ap (λ o. after_pick (slice_index_or s.inputs i no_arbiter) (channel_of o)) n
          ∙ sym (ap (λ o. cond (is_some o) (after_pick (slice_index_or s.inputs i no_arbiter) (named_channel s ready i))
          (slice_index_or s.inputs i no_arbiter)) n)
      moved i (Some g) n =
          let w = grant_within s (all_named s ready) i g n in
          let p = granted_parts s (all_named s ready) s.ports i (slice_index_or (all_named s ready) i None) g w.1 in
          let is_named : named s ready i ≡ Some g =
          sym (slice_index_or-with_front_below s.ports i (named s ready) (replicate 7 None) None w.0) ∙ p.0 in
          let q = request_parts (slice_index_or ready i []) (named_channel s ready i) g is_named in
          ap (λ o. after_pick (slice_index_or s.inputs i no_arbiter) (channel_of o)) n
          ∙ ap (after_pick (slice_index_or s.inputs i no_arbiter)) (sym q.0)
          ∙ sym (ap (λ o. cond (is_some o) (after_pick (slice_index_or s.inputs i no_arbiter) (named_channel s ready i))
          (slice_index_or s.inputs i no_arbiter)) n)

-- ---- where nothing is ready

all_named_none : (s : SwAllocState) (ready : List (List (Option ℕ))) → IsSwAlloc s.ports s.vcs s.inputs s.outputs
    → ((p v : ℕ) → p < 7 → v < 8 → cell ready p v None ≡ None)
    → all_named s ready ≡ replicate 7 None
all_named_none s ready r none =
    with_front_kept s.ports (named s ready) (replicate 7 None) None r.few_ports
    (λ i l. let few = r.few_ports in named_unready s ready i r l (λ v lv. none i v (omega arith) lv)
    ∙ sym (get_or-replicate_same 7 i None))

-- nothing is granted
pub sw_grants_none : (s : SwAllocState) (ready : List (List (Option ℕ)))
    → IsSwAlloc s.ports s.vcs s.inputs s.outputs → ((p v : ℕ) → p < 7 → v < 8 → cell ready p v None ≡ None)
    → sw_grants s ready ≡ replicate 7 None
sw_grants_none s ready r none =
    with_front_kept s.ports (granted s (all_named s ready) s.ports) (replicate 7 None) None r.few_ports
    (λ i l. ap (if_chosen s (all_named s ready) s.ports i)
    (ap (λ xs. slice_index_or xs i None) (all_named_none s ready r none) ∙ get_or-replicate_same 7 i None)
    ∙ sym (get_or-replicate_same 7 i None))

-- no arbiter moves
pub sw_after_none : (s : SwAllocState) (ready : List (List (Option ℕ)))
    → IsSwAlloc s.ports s.vcs s.inputs s.outputs → s.ports ≤ length s.inputs → s.ports ≤ length s.outputs
    → ((p v : ℕ) → p < 7 → v < 8 → cell ready p v None ≡ None)
    → sw_after s ready ≡ s
sw_after_none s ready r long long' none =
    ap (λ i. record s { inputs = i; outputs = with_front s.ports (output_after s (all_named s ready)) s.outputs })
    (with_front_kept s.ports (input_after s ready (sw_grants s ready)) s.inputs no_arbiter long
    (λ i l. ap (λ o. cond (is_some o) (after_pick (slice_index_or s.inputs i no_arbiter) (named_channel s ready i))
    (slice_index_or s.inputs i no_arbiter))
    (ap (λ xs. slice_index_or xs i None) (sw_grants_none s ready r none) ∙ get_or-replicate_same 7 i None)))
    ∙ ap (λ o. record s { outputs = o })
    (with_front_kept s.ports (output_after s (all_named s ready)) s.outputs no_arbiter long'
    (λ i l.
    let few = r.few_ports in
    let wide = r.output_width i (omega arith) in
    let low = r.output_pointer i (omega arith) in
    ap (after_pick (slice_index_or s.outputs i no_arbiter))
    (winner_none (slice_index_or s.outputs i no_arbiter)
    (λ port. is_for (slice_index_or (all_named s ready) port None) i) (omega arith)
    (λ port l'. ap (λ o. is_for o i) (ap (λ xs. slice_index_or xs port None) (all_named_none s ready r none)
    ∙ get_or-replicate_same 7 port None)))))
