-- Lemmas on a pass over ready channels that are apart: each of them is granted.
use Rattle.std.proofs.Common.{◌≡◌, Bool, ℕ, ◌<◌, ◌≤◌, true, false, List, [], Option, Some, None, is_some}
use Rattle.std.proofs.Common.{refl, sym, ap, ◌∙◌, arith, cond, ltb, inl, inr}
use Rattle.std.proofs.Common.{slice_index_or, slice_set, length, replicate, get_or-set_same, get_or-set_other}
use Rattle.std.specs.Option.{option_map}
use Rattle.std.proofs.lemmas.Bool.{and_from, cases_eq, cases_lt, eq-eqb, eqb-true, lt-ltb, ne_eqb, true≢false}
use Rattle.std.proofs.lemmas.List.{ext_get_or, length-set}
use Rattle.worm_vcalloc.specs.Arbiter.{ArbiterState, no_arbiter, after_pick}
use Rattle.worm_vcalloc.specs.ChannelSet.{has, IsFirst, IsFirstPort}
use Rattle.worm_vcalloc.specs.Table.{cell}
use Rattle.worm_vcalloc.proofs.Winner.{winner_none, winner_same}
use Rattle.worm_swalloc.specs.Front.{with_front}
use Rattle.worm_swalloc.specs.declared.grant.SwGrant.{SwGrant}
use Rattle.worm_swalloc.specs.SwAlloc.{SwAllocState, IsSwAlloc, AreApart, AreRequested, after_grant, after_granting}
use Rattle.worm_swalloc.specs.SwAlloc.{all_named, channel_of, chosen, granted, granted_at, granted_of, if_chosen}
use Rattle.worm_swalloc.specs.SwAlloc.{if_in, is_for, is_line, is_of, named, named_channel, output_after}
use Rattle.worm_swalloc.specs.SwAlloc.{request_of, sw_grants}
use Rattle.worm_swalloc.proofs.FrontGiven.{length-with_front, slice_index_or-with_front_below}
use Rattle.worm_swalloc.proofs.FrontGiven.{slice_index_or-with_front_past, with_front_kept, with_front_same}
use Rattle.worm_swalloc.proofs.PortsWalked.{walked_from}
use Rattle.worm_swalloc.proofs.SwitchPass.{AskedBelow, asked_more, asked_start, get_or-replicate_same}
use Rattle.worm_swalloc.proofs.SwitchPass.{not_asked, request_parts, winner_sole}

-- a list whose first elements are given by a function, one of which is set
set_in_front : {X : Type 0} (n i : ℕ) (f g : ℕ → X) (xs : List X) (d x : X) → n ≤ length xs → i < n → x ≡ g i
    → ((j : ℕ) → j < n → ((j ≡ i) → ⊥) → f j ≡ g j) → slice_set (with_front n f xs) i x ≡ with_front n g xs
set_in_front n i f g xs d x long within here others =
    let all = length-with_front n f xs long in
    let all' = length-with_front n g xs long in
    let same = length-set (with_front n f xs) i x in
    ext_get_or d (slice_set (with_front n f xs) i x) (with_front n g xs) (same ∙ all ∙ sym all')
    (λ j _. elim (cases_eq j i) [
      | inl e ↦
          ap (λ k. slice_index_or (slice_set (with_front n f xs) i x) k d) e
          ∙ get_or-set_same (with_front n f xs) i x d (omega arith)
          ∙ here
          ∙ sym (slice_index_or-with_front_below n i g xs d within)
          ∙ ap (λ k. slice_index_or (with_front n g xs) k d) (sym e)
      | inr other ↦
          get_or-set_other (with_front n f xs) i j x d other
          ∙ elim (cases_lt j n) [
            | inl below ↦
                slice_index_or-with_front_below n j f xs d below ∙ others j below other
                ∙ sym (slice_index_or-with_front_below n j g xs d below)
            | inr past ↦
                slice_index_or-with_front_past n j f xs d past
                ∙ sym (slice_index_or-with_front_past n j g xs d past)
          ]
    ])

-- the channels that have come out of the set have been granted, and no others
pub record EachBelow (s : SwAllocState) (ready : List (List (Option ℕ))) (keys left : ℕ)
    (requests : List (Option SwGrant)) (now : SwAllocState) : Type 0 where
  pub asked : AskedBelow s ready keys left requests
  pub among : (p v : ℕ) → p < 7 → v < 8 → has left p v ≡ true → has keys p v ≡ true
  pub state : now ≡ record s {
    inputs = with_front s.ports (after_grant s requests) s.inputs;
    outputs = with_front s.ports (output_after s requests) s.outputs;
  }

module _ (s : SwAllocState) (ready : List (List (Option ℕ))) (r : IsSwAlloc s.ports s.vcs s.inputs s.outputs)
    (apart : AreApart s ready) where
  -- a ready channel is named by its port
  pub apart_named : (port vc out : ℕ) → cell ready port vc None ≡ Some out
      → named s ready port ≡ Some (record { vc = vc; out = out })
  apart_named port vc out e =
      let few = r.few_ports in
      let within = apart.within port vc out e in
      let wide : (slice_index_or s.inputs port no_arbiter).width ≡ s.vcs = r.input_width port (omega (arith, within)) in
      let low : (slice_index_or s.inputs port no_arbiter).pointer < s.vcs =
      r.input_pointer port (omega (arith, within)) in
      let first : named_channel s ready port ≡ Some vc =
      winner_sole (slice_index_or s.inputs port no_arbiter) (λ v. is_some (cell ready port v None)) vc (omega arith)
      (omega (arith, within)) (ap is_some e) (λ v there. only v (cell ready port v None) refl there) in
      ap (request_of (slice_index_or ready port [])) first
      ∙ ap (option_map (λ o. record { vc = vc; out = o })) e
    where
      only : (v : ℕ) (o : Option ℕ) → cell ready port v None ≡ o → is_some (cell ready port v None) ≡ true → v ≡ vc
      only v None n there = absurd (true≢false (sym there ∙ ap is_some n))
      only v (Some out') n there = apart.inputs port v vc out' out n e

  -- and what is named is a ready channel
  named_apart : (port : ℕ) (g : SwGrant) → named s ready port ≡ Some g → cell ready port g.vc None ≡ Some g.out
  named_apart port g e = (request_parts (slice_index_or ready port []) (named_channel s ready port) g e).1

  -- the first ready channel is all that its port has
  pub apart_first : (keys left left' port vc out : ℕ)
      → ((p v : ℕ) → p < 7 → v < 8 → has keys p v ≡ is_some (cell ready p v None))
      → ((p v : ℕ) → p < 7 → v < 8 → has left p v ≡ true → has keys p v ≡ true)
      → cell ready port vc None ≡ Some out → IsFirst left left' port vc → IsFirstPort left left' port
  apart_first keys left left' port vc out keyed among e f =
      record {
        port_in = f.port_in;
        some_in = (vc, f.channel_in, f.was_in);
        none_before = λ p c below lc. f.none_before p c lc (omega arith);
        taken = λ c lc. elim (cases_eq c vc) [
          | inl here ↦ ap (has left' port) here ∙ f.taken.here
          | inr other ↦ f.taken.elsewhere port c f.port_in lc (λ _ same. other same)
              ∙ alone c lc other (has left port c) refl
        ];
        elsewhere = λ p c lp lc other. f.taken.elsewhere p c lp lc (λ same _. other same);
        fewer = f.fewer;
      }
    where
      only : (c : ℕ) (o : Option ℕ) → cell ready port c None ≡ o → is_some (cell ready port c None) ≡ true → c ≡ vc
      only c None n there = absurd (true≢false (sym there ∙ ap is_some n))
      only c (Some out') n there = apart.inputs port c vc out' out n e

      alone : (c : ℕ) → c < 8 → ((c ≡ vc) → ⊥) → (b : Bool) → has left port c ≡ b → b ≡ false
      alone c lc other true e' =
          absurd (other (only c (cell ready port c None) refl
          (sym (keyed port c f.port_in lc) ∙ among port c f.port_in lc e')))
      alone c lc other false e' = refl

  -- ---- channel after channel

  -- nobody that was asked before names the output port of the next
  apart_new : (keys left left' port vc out : ℕ) (requests : List (Option SwGrant))
      → AskedBelow s ready keys left requests → IsFirstPort left left' port → cell ready port vc None ≡ Some out
      → (p : ℕ) → is_for (slice_index_or requests p None) out ≡ false
  apart_new keys left left' port vc out requests b f e p =
      ap (λ xs. is_for (slice_index_or xs p None) out) b.requests_are
      ∙ elim (cases_lt p b.next) [
        | inl below ↦
            ap (λ o. is_for o out)
            (slice_index_or-with_front_below b.next p (named s ready) (replicate 7 None) None below)
            ∙ before below (named s ready p) refl
        | inr past ↦
            ap (λ o. is_for o out) (slice_index_or-with_front_past b.next p (named s ready) (replicate 7 None) None past
            ∙ get_or-replicate_same 7 p None)
      ] where
        before : p < b.next → (o : Option SwGrant) → named s ready p ≡ o → is_for o out ≡ false
        before below None n = refl
        before below (Some g) n = elim (cases_eq g.out out) [
          | inl same ↦
              let here : p ≡ port = apart.outputs p port g.vc vc out (named_apart p g n ∙ ap Some same) e in
              let from = walked_from keys left left' b.next s.ports port b.walked f in
              absurd (omega arith)
          | inr other ↦ ne_eqb g.out out other
        ]

  -- so it chooses the next, and the others choose as before
  module _ (requests : List (Option SwGrant)) (port : ℕ) (g : SwGrant) (within : port < s.ports)
      (out_in : g.out < s.ports) (room : port < length requests) (none : slice_index_or requests port None ≡ None)
      (new : (p : ℕ) → is_for (slice_index_or requests p None) g.out ≡ false) where
    abbrev added : List (Option SwGrant)
    added = slice_set requests port (Some g)

    apart_chosen : chosen s added g.out ≡ Some port
    apart_chosen =
        let few = r.few_ports in
        let wide : (slice_index_or s.outputs g.out no_arbiter).width ≡ s.ports = r.output_width g.out (omega arith) in
        let low : (slice_index_or s.outputs g.out no_arbiter).pointer < s.ports =
        r.output_pointer g.out (omega arith) in
        winner_sole (slice_index_or s.outputs g.out no_arbiter) (λ p. is_for (slice_index_or added p None) g.out) port
        (omega arith) (omega arith)
        (ap (λ o. is_for o g.out) (get_or-set_same requests port (Some g) None room) ∙ eq-eqb g.out g.out refl)
        (λ p there. elim (cases_eq p port) [
          | inl here ↦ here
          | inr other ↦ absurd (true≢false (sym there
              ∙ ap (λ o. is_for o g.out) (get_or-set_other requests port p (Some g) None other) ∙ new p))
        ])

    nobody_chosen : chosen s requests g.out ≡ None
    nobody_chosen =
        let few = r.few_ports in
        let wide : (slice_index_or s.outputs g.out no_arbiter).width ≡ s.ports = r.output_width g.out (omega arith) in
        let low : (slice_index_or s.outputs g.out no_arbiter).pointer < s.ports =
        r.output_pointer g.out (omega arith) in
        winner_none (slice_index_or s.outputs g.out no_arbiter) (λ p. is_for (slice_index_or requests p None) g.out)
        (omega arith) (λ p _. new p)

    others_choose : (out : ℕ) → out < s.ports → ((out ≡ g.out) → ⊥) → chosen s requests out ≡ chosen s added out
    others_choose out below other =
        let few = r.few_ports in
        let wide : (slice_index_or s.outputs out no_arbiter).width ≡ s.ports = r.output_width out (omega arith) in
        let low : (slice_index_or s.outputs out no_arbiter).pointer < s.ports = r.output_pointer out (omega arith) in
        winner_same (slice_index_or s.outputs out no_arbiter) (λ p. is_for (slice_index_or requests p None) out)
        (λ p. is_for (slice_index_or added p None) out) (omega arith)
        (λ p _. elim (cases_eq p port) [
          | inl here ↦
              ap (λ k. is_for (slice_index_or requests k None) out) here ∙ ap (λ o. is_for o out) none
              ∙ sym (ne_eqb g.out out (λ same. other (sym same)))
              ∙ sym (ap (λ o. is_for o out) (get_or-set_same requests port (Some g) None room))
              ∙ ap (λ k. is_for (slice_index_or added k None) out) (sym here)
          | inr elsewhere ↦
              ap (λ o. is_for o out) (sym (get_or-set_other requests port p (Some g) None elsewhere))
        ])

    -- what the pass has made of the arbiters with one request more
    apart_moved : (now : SwAllocState) → s.ports ≤ length s.inputs → s.ports ≤ length s.outputs
        → now ≡ record s {
          inputs = with_front s.ports (after_grant s requests) s.inputs;
          outputs = with_front s.ports (output_after s requests) s.outputs;
        }
        → after_granting now port g ≡ record s {
          inputs = with_front s.ports (after_grant s added) s.inputs;
          outputs = with_front s.ports (output_after s added) s.outputs;
        }
    apart_moved now long long' is =
        ap (λ (n : SwAllocState). after_granting n port g) is
        ∙ ap (λ (xs : List ArbiterState). record s {
          inputs = xs;
          outputs = slice_set before g.out (after_pick (slice_index_or before g.out no_arbiter) (Some port));
        })
        (set_in_front s.ports port (after_grant s requests) (after_grant s added) s.inputs no_arbiter
        (after_pick (slice_index_or (with_front s.ports (after_grant s requests) s.inputs) port no_arbiter) (Some g.vc))
        long within
        (ap (λ (a : ArbiterState). after_pick a (Some g.vc))
        (slice_index_or-with_front_below s.ports port (after_grant s requests) s.inputs no_arbiter within
        ∙ ap (λ o. after_pick (slice_index_or s.inputs port no_arbiter) (channel_of o)) none)
        ∙ sym (ap (λ o. after_pick (slice_index_or s.inputs port no_arbiter) (channel_of o))
        (get_or-set_same requests port (Some g) None room)))
        (λ j _ other. ap (λ o. after_pick (slice_index_or s.inputs j no_arbiter) (channel_of o))
        (sym (get_or-set_other requests port j (Some g) None other))))
        ∙ ap (λ (xs : List ArbiterState). record s {
          inputs = with_front s.ports (after_grant s added) s.inputs;
          outputs = xs;
        })
        (set_in_front s.ports g.out (output_after s requests) (output_after s added) s.outputs no_arbiter
        (after_pick (slice_index_or before g.out no_arbiter) (Some port)) long' out_in
        (ap (λ (a : ArbiterState). after_pick a (Some port))
        (slice_index_or-with_front_below s.ports g.out (output_after s requests) s.outputs no_arbiter out_in
        ∙ ap (after_pick (slice_index_or s.outputs g.out no_arbiter)) nobody_chosen)
        ∙ sym (ap (after_pick (slice_index_or s.outputs g.out no_arbiter)) apart_chosen))
        (λ j below other. ap (after_pick (slice_index_or s.outputs j no_arbiter)) (others_choose j below other)))
      where
        before : List ArbiterState
        before = with_front s.ports (output_after s requests) s.outputs

  -- none at first
  pub each_start : (keys : ℕ) (requests : List (Option SwGrant)) → s.ports ≤ length s.inputs
      → s.ports ≤ length s.outputs → requests ≡ replicate 7 None → EachBelow s ready keys keys requests s
  each_start keys requests long long' e =
      let none : (p : ℕ) → slice_index_or requests p None ≡ None =
      λ p. ap (λ xs. slice_index_or xs p None) e ∙ get_or-replicate_same 7 p None in
      record {
        asked = asked_start s ready keys requests e;
        among = λ p v _ _ there. there;
        state = sym (
            ap (λ (xs : List ArbiterState). record s {
              inputs = xs;
              outputs = with_front s.ports (output_after s requests) s.outputs;
            })
            (with_front_kept s.ports (after_grant s requests) s.inputs no_arbiter long
            (λ i _. ap (λ o. after_pick (slice_index_or s.inputs i no_arbiter) (channel_of o)) (none i)))
            ∙ ap (λ (xs : List ArbiterState). record s { outputs = xs })
            (with_front_kept s.ports (output_after s requests) s.outputs no_arbiter long'
            (λ i below.
            let few = r.few_ports in
            let wide : (slice_index_or s.outputs i no_arbiter).width ≡ s.ports = r.output_width i (omega arith) in
            let low : (slice_index_or s.outputs i no_arbiter).pointer < s.ports = r.output_pointer i (omega arith) in
            ap (after_pick (slice_index_or s.outputs i no_arbiter))
            (winner_none (slice_index_or s.outputs i no_arbiter) (λ p. is_for (slice_index_or requests p None) i)
            (omega arith) (λ p _. ap (λ o. is_for o i) (none p))))));
      }

  -- the next, too
  pub each_more : (keys left left' port vc out : ℕ) (requests requests' : List (Option SwGrant))
      (now next : SwAllocState) → s.ports ≤ length s.inputs → s.ports ≤ length s.outputs → 7 ≤ length requests
      → ((p v : ℕ) → p < 7 → v < 8 → has keys p v ≡ is_some (cell ready p v None))
      → EachBelow s ready keys left requests now → IsFirst left left' port vc → cell ready port vc None ≡ Some out
      → requests' ≡ slice_set requests port (Some (record { vc = vc; out = out }))
      → next ≡ after_granting now port (record { vc = vc; out = out }) → EachBelow s ready keys left' requests' next
  each_more keys left left' port vc out requests requests' now next long long' room keyed b f e added_is moved =
      let few = r.few_ports in
      let within = apart.within port vc out e in
      let whole = apart_first keys left left' port vc out keyed b.among e f in
      let none = not_asked s ready keys left left' port requests b.asked whole in
      let new = apart_new keys left left' port vc out requests b.asked whole e in
      record {
        asked = asked_more s ready keys left left' port requests requests' r keyed b.asked whole within.0
            (added_is ∙ ap (slice_set requests port) (sym (apart_named port vc out e)));
        among = λ p v lp lv there. elim (cases_eq p port) [
          | inl here ↦ absurd (true≢false (sym (ap (λ k. has left' k v) (sym here) ∙ there) ∙ whole.taken v lv))
          | inr other ↦ b.among p v lp lv (sym (whole.elsewhere p v lp lv other) ∙ there)
        ];
        state = moved
            ∙ apart_moved requests port (record { vc = vc; out = out }) within.0 within.2 (omega arith) none new now
            long long' b.state
            ∙ ap (λ xs. record s {
              inputs = with_front s.ports (after_grant s xs) s.inputs;
              outputs = with_front s.ports (output_after s xs) s.outputs;
            }) (sym added_is);
      }

  -- ---- all of them

  -- what is named is granted
  pub apart_granted : sw_grants s ready ≡ all_named s ready
  apart_granted =
      let few = r.few_ports in
      with_front_same s.ports (granted s (all_named s ready) s.ports) (named s ready) (replicate 7 None) None few
      (λ p below.
      ap (if_chosen s (all_named s ready) s.ports p)
      (slice_index_or-with_front_below s.ports p (named s ready) (replicate 7 None) None below)
      ∙ kept p below (named s ready p) refl)
    where
      -- nobody else asks for the output port
      alone : (p q : ℕ) (g : SwGrant) → named s ready p ≡ Some g
          → is_for (slice_index_or (all_named s ready) q None) g.out ≡ true → q ≡ p
      alone p q g n asks = elim (cases_lt q s.ports) [
        | inl below ↦
            by_name (named s ready q) refl
            (ap (λ o. is_for o g.out)
            (sym (slice_index_or-with_front_below s.ports q (named s ready) (replicate 7 None) None below)) ∙ asks)
        | inr past ↦ absurd (true≢false (sym asks ∙ ap (λ o. is_for o g.out)
            (slice_index_or-with_front_past s.ports q (named s ready) (replicate 7 None) None past
            ∙ get_or-replicate_same 7 q None)))
      ] where
        by_name : (o : Option SwGrant) → named s ready q ≡ o → is_for (named s ready q) g.out ≡ true → q ≡ p
        by_name None e asks' = absurd (true≢false (sym asks' ∙ ap (λ o. is_for o g.out) e))
        by_name (Some h) e asks' =
            let same : h.out ≡ g.out = eqb-true h.out g.out (ap (λ o. is_for o g.out) (sym e) ∙ asks') in
            apart.outputs q p h.vc g.vc g.out (named_apart q h e ∙ ap Some same) (named_apart p g n)

      kept : (p : ℕ) → p < s.ports → (o : Option SwGrant) → named s ready p ≡ o
          → if_chosen s (all_named s ready) s.ports p (named s ready p) ≡ named s ready p
      kept p below None n = ap (if_chosen s (all_named s ready) s.ports p) n ∙ sym n
      kept p below (Some g) n =
          let few = r.few_ports in
          let within = apart.within p g.vc g.out (named_apart p g n) in
          let wide : (slice_index_or s.outputs g.out no_arbiter).width ≡ s.ports =
          r.output_width g.out (omega (arith, within)) in
          let low : (slice_index_or s.outputs g.out no_arbiter).pointer < s.ports =
          r.output_pointer g.out (omega (arith, within)) in
          let choice : chosen s (all_named s ready) g.out ≡ Some p =
          winner_sole (slice_index_or s.outputs g.out no_arbiter)
          (λ q. is_for (slice_index_or (all_named s ready) q None) g.out) p (omega arith) (omega arith)
          (ap (λ o. is_for o g.out)
          (slice_index_or-with_front_below s.ports p (named s ready) (replicate 7 None) None below ∙ n)
          ∙ eq-eqb g.out g.out refl)
          (λ q asks. alone p q g n asks) in
          ap (if_chosen s (all_named s ready) s.ports p) n
          ∙ ap (λ b. cond b (Some g) None)
          (and_from (ltb g.out s.ports) (is_line (chosen s (all_named s ready) g.out) p)
          (lt-ltb g.out s.ports within.2) (ap (λ w. is_line w p) choice ∙ eq-eqb p p refl))
          ∙ sym n

  -- the ready channels are those of the requests
  pub apart_requested : (keys : ℕ) (requests : List (Option SwGrant))
      → ((p v : ℕ) → p < 7 → v < 8 → has keys p v ≡ is_some (cell ready p v None)) → requests ≡ all_named s ready
      → AreRequested requests keys
  apart_requested keys requests keyed e port vc lp lv there =
      at (cell ready port vc None) refl (sym (keyed port vc lp lv) ∙ there) where
        at : (o : Option ℕ) → cell ready port vc None ≡ o → is_some (cell ready port vc None) ≡ true
            → is_of (slice_index_or requests port None) vc ≡ true
        at None n some = absurd (true≢false (sym some ∙ ap is_some n))
        at (Some out) n some =
            ap (λ xs. is_of (slice_index_or xs port None) vc) e
            ∙ ap (λ o. is_of o vc)
            (slice_index_or-with_front_below s.ports port (named s ready) (replicate 7 None) None
            (apart.within port vc out n).0 ∙ apart_named port vc out n)
            ∙ eq-eqb vc vc refl

  -- and all requests are granted by them
  pub apart_all : (keys : ℕ) (requests : List (Option SwGrant))
      → ((p v : ℕ) → p < 7 → v < 8 → has keys p v ≡ is_some (cell ready p v None)) → requests ≡ all_named s ready
      → granted_of requests keys ≡ sw_grants s ready
  apart_all keys requests keyed e =
      let few = r.few_ports in
      ap (λ xs. granted_of xs keys) e
      ∙ with_front_same 7 (granted_at (all_named s ready) keys)
      (λ p. slice_index_or (all_named s ready) p None) (replicate 7 None) None (omega arith)
      (λ p below. kept p below (slice_index_or (all_named s ready) p None) refl)
      ∙ again
      ∙ sym apart_granted
    where
      kept : (p : ℕ) → p < 7 → (o : Option SwGrant) → slice_index_or (all_named s ready) p None ≡ o
          → if_in keys p (slice_index_or (all_named s ready) p None) ≡ slice_index_or (all_named s ready) p None
      kept p below None n = ap (if_in keys p) n ∙ sym n
      kept p below (Some g) n = elim (cases_lt p s.ports) [
        | inl within ↦
            let is_named : named s ready p ≡ Some g =
            sym (slice_index_or-with_front_below s.ports p (named s ready) (replicate 7 None) None within) ∙ n in
            let there = named_apart p g is_named in
            let inside = apart.within p g.vc g.out there in
            let few = r.few_channels in
            ap (if_in keys p) n
            ∙ ap (λ b. cond b (Some g) None) (keyed p g.vc below (omega (arith, inside)) ∙ ap is_some there)
            ∙ sym n
        | inr past ↦
            let nothing = slice_index_or-with_front_past s.ports p (named s ready) (replicate 7 None) None past
            ∙ get_or-replicate_same 7 p None in
            ap (if_in keys p) nothing ∙ sym nothing
      ]

      again : with_front 7 (λ p. slice_index_or (all_named s ready) p None) (replicate 7 None) ≡ all_named s ready
      again =
          let few = r.few_ports in
          let long = length-with_front s.ports (named s ready) (replicate 7 None) few in
          let long' = length-with_front 7 (λ p. slice_index_or (all_named s ready) p None) (replicate 7 None)
          (omega arith) in
          ext_get_or None (with_front 7 (λ p. slice_index_or (all_named s ready) p None) (replicate 7 None))
          (all_named s ready) (long' ∙ sym long)
          (λ p l. slice_index_or-with_front_below 7 p (λ q. slice_index_or (all_named s ready) q None)
          (replicate 7 None) None (omega (arith, long')))
