-- Each channel that holds an output channel is its holder, and what keeps that so.
use Rattle.std.proofs.Common.{◌≡◌, ℕ, ◌+◌, ◌*◌, Bool, true, false, if◌then◌else◌, inl, inr, slice_set}
use Rattle.std.proofs.Common.{slice_index_or, replicate, None, Some, All, ap, sym, ◌∙◌, subst}
use Rattle.std.proofs.lemmas.Grind.{get_or-set_at}
use Rattle.std.proofs.lemmas.Bool.{cases_eq}
use Rattle.std.proofs.lemmas.Nat.{same_from_place}
use Rattle.std.proofs.lemmas.List.{get_or-set_other}
use Rattle.std.proofs.lemmas.List.Elements.{All-set, All-get_or, All-replicate}
use Rattle.worm_records.specs.declared.InRecord.TheVariants.{Idle, Active, Waiting}
use Rattle.worm_records.specs.declared.OutRecord.{OutRecord}
use Rattle.worm_router.specs.Router.{RouterState, ChannelState, terminal, width, line, fresh_channel, free_output}
use Rattle.worm_router.specs.Router.{input_at}
use Rattle.worm_router.specs.Busy.{AreHolders, IsHolder}
use Rattle.worm_router.proofs.NothingReady.{get_or-replicate_same}
use Rattle.worm_router.proofs.Places.{IsInput, IsOutput, same_at}

-- a channel that waits holds none
pub none_by_waiting : {x o k : ℕ} → Waiting x ≡ Active o k → ⊥
none_by_waiting same = cc

-- nor does one that is idle
pub none_by_idle : {o k : ℕ} → Idle ≡ Active o k → ⊥
none_by_idle same = cc

-- an input channel is written that holds nothing new
pub holders_in : (r : RouterState) (port vc i : ℕ) (had now : ChannelState) → IsInput r port vc i had
    → ((o c : ℕ) → now.state ≡ Active o c → had.state ≡ Active o c)
    → ((o c : ℕ) → had.state ≡ Active o c → now.state ≡ Active o c)
    → AreHolders r → AreHolders (record r { inputs = slice_set r.inputs i now })
holders_in r port vc i had now input before after are = record {
  held = λ p v o c p_in v_in holds. elim (cases_eq (line r p v) i) [
    | inl same ↦
        let now_is = get_or-set_at r.inputs i (line r p v) now (fresh_channel r.depth) same input.within in
        let was : had ≡ input_at r p v = input.was
        ∙ ap (λ k. slice_index_or r.inputs k (fresh_channel r.depth)) (sym same) in
        are.held p v o c p_in v_in (sym (ap (λ (x : ChannelState). x.state) was)
        ∙ before o c (sym (ap (λ (x : ChannelState). x.state) now_is) ∙ holds))
    | inr other ↦ are.held p v o c p_in v_in
        (sym (ap (λ (x : ChannelState). x.state)
        (get_or-set_other r.inputs i (line r p v) now (fresh_channel r.depth) other)) ∙ holds)
  ];
  holds = λ o c h o_in c_in held.
      let holds = are.holds o c h o_in c_in held in
      elim (cases_eq (line r h.0 h.1) i) [
        | inl same ↦
            let was : had ≡ input_at r h.0 h.1 = input.was
            ∙ ap (λ k. slice_index_or r.inputs k (fresh_channel r.depth)) (sym same) in
            ap (λ (x : ChannelState). x.state)
            (get_or-set_at r.inputs i (line r h.0 h.1) now (fresh_channel r.depth) same input.within)
            ∙ after o c (ap (λ (x : ChannelState). x.state) was ∙ holds)
        | inr other ↦ ap (λ (x : ChannelState). x.state)
            (get_or-set_other r.inputs i (line r h.0 h.1) now (fresh_channel r.depth) other) ∙ holds
      ];
  fit = are.fit;
}

-- an output channel is written that keeps its holder
pub holders_out : (r : RouterState) (out vc o : ℕ) (had u : OutRecord) → IsOutput r out vc o had → u.holder ≡ had.holder
    → AreHolders r → AreHolders (record r { outputs = slice_set r.outputs o u })
holders_out r out vc o had u output same are = record {
  held = λ p v q c p_in v_in holds.
      same_at (λ (w : OutRecord). w.holder) r.outputs o (line r q c) u (free_output r.depth) output.within
      (same ∙ ap (λ (w : OutRecord). w.holder) output.was)
      ∙ are.held p v q c p_in v_in holds;
  holds = λ q c h q_in c_in held. are.holds q c h q_in c_in
      (sym (same_at (λ (w : OutRecord). w.holder) r.outputs o (line r q c) u (free_output r.depth) output.within
      (same ∙ ap (λ (w : OutRecord). w.holder) output.was)) ∙ held);
  fit = All-set (λ (w : OutRecord). IsHolder (terminal r) (width r) w.holder) r.outputs o u
      (subst (IsHolder (terminal r) (width r)) (sym (same ∙ ap (λ (w : OutRecord). w.holder) output.was))
      (All-get_or (λ (w : OutRecord). IsHolder (terminal r) (width r) w.holder) r.outputs o
      (free_output r.depth) output.within are.fit))
      are.fit;
}

-- a channel is granted a free output channel
pub holders_held : (r : RouterState) (port vc i out out_vc o : ℕ) (had now : ChannelState) (had_out u : OutRecord)
    → IsInput r port vc i had → IsOutput r out out_vc o had_out
    → ((q c : ℕ) → had.state ≡ Active q c → ⊥)
    → now.state ≡ Active out out_vc → had_out.holder ≡ None → u.holder ≡ Some (port, vc)
    → AreHolders r → AreHolders (record r { inputs = slice_set r.inputs i now; outputs = slice_set r.outputs o u })
holders_held r port vc i out out_vc o had now had_out u input output held_none granted free takes are = record {
  held = λ p v q c p_in v_in holds. elim (cases_eq (line r p v) i) [
    | inl same ↦
        let at = same_from_place p v port vc (width r) v_in input.place.channel_in (same ∙ input.at) in
        let now_is = get_or-set_at r.inputs i (line r p v) now (fresh_channel r.depth) same input.within in
        let it : Active out out_vc ≡ Active q c =
        sym granted ∙ sym (ap (λ (x : ChannelState). x.state) now_is) ∙ holds in
        let out_is : q ≡ out = cc in
        let vc_is : c ≡ out_vc = cc in
        let here : line r q c ≡ o = ap (λ k. k * width r + c) out_is ∙ ap (λ k. out * width r + k) vc_is
        ∙ sym output.at in
        ap (λ (w : OutRecord). w.holder) (get_or-set_at r.outputs o (line r q c) u
        (free_output r.depth) here output.within)
        ∙ takes ∙ ap (λ k. Some (k, vc)) (sym at.0) ∙ ap (λ k. Some (p, k)) (sym at.1)
    | inr other ↦
        let held = are.held p v q c p_in v_in
        (sym (ap (λ (x : ChannelState). x.state)
        (get_or-set_other r.inputs i (line r p v) now (fresh_channel r.depth) other)) ∙ holds) in
        elim (cases_eq (line r q c) o) [
          | inl here ↦
              let unlike : None ≡ Some (p, v) = sym free ∙ ap (λ (w : OutRecord). w.holder) output.was
              ∙ ap (λ k. (slice_index_or r.outputs k (free_output r.depth)).holder) (sym here) ∙ held in
              absurd (cc)
          | inr away ↦ ap (λ (w : OutRecord). w.holder)
              (get_or-set_other r.outputs o (line r q c) u (free_output r.depth) away) ∙ held
        ]
  ];
  holds = λ q c h q_in c_in held. elim (cases_eq (line r q c) o) [
    | inl here ↦
        let at = same_from_place q c out out_vc (width r) c_in output.place.channel_in (here ∙ output.at) in
        let both : Some (port, vc) ≡ Some h = sym takes
        ∙ sym (ap (λ (w : OutRecord). w.holder)
        (get_or-set_at r.outputs o (line r q c) u (free_output r.depth) here output.within)) ∙ held in
        let pair : (port, vc) ≡ h = cc in
        let same : line r h.0 h.1 ≡ i = ap (λ (k : ℕ × ℕ). line r k.0 k.1) (sym pair) ∙ sym input.at in
        ap (λ (x : ChannelState). x.state)
        (get_or-set_at r.inputs i (line r h.0 h.1) now (fresh_channel r.depth) same input.within)
        ∙ granted ∙ ap (λ k. Active k out_vc) (sym at.0) ∙ ap (λ k. Active q k) (sym at.1)
    | inr away ↦
        let holds = are.holds q c h q_in c_in (sym (ap (λ (w : OutRecord). w.holder)
        (get_or-set_other r.outputs o (line r q c) u (free_output r.depth) away)) ∙ held) in
        elim (cases_eq (line r h.0 h.1) i) [
          | inl same ↦
              let was : had ≡ input_at r h.0 h.1 = input.was
              ∙ ap (λ k. slice_index_or r.inputs k (fresh_channel r.depth)) (sym same) in
              absurd (held_none q c (ap (λ (x : ChannelState). x.state) was ∙ holds))
          | inr other ↦ ap (λ (x : ChannelState). x.state)
              (get_or-set_other r.inputs i (line r h.0 h.1) now (fresh_channel r.depth) other) ∙ holds
        ]
  ];
  fit = All-set (λ (w : OutRecord). IsHolder (terminal r) (width r) w.holder) r.outputs o u
      (subst (IsHolder (terminal r) (width r)) (sym takes) (input.place.port_in, input.place.channel_in)) are.fit;
}

-- a closing flit frees both
pub holders_freed : (r : RouterState) (port vc i out out_vc o : ℕ) (had now : ChannelState) (had_out u : OutRecord)
    → IsInput r port vc i had → IsOutput r out out_vc o had_out
    → had.state ≡ Active out out_vc → now.state ≡ Idle → u.holder ≡ None
    → AreHolders r → AreHolders (record r { inputs = slice_set r.inputs i now; outputs = slice_set r.outputs o u })
holders_freed r port vc i out out_vc o had now had_out u input output held_it idle free are = record {
  held = λ p v q c p_in v_in holds. elim (cases_eq (line r p v) i) [
    | inl same ↦
        let now_is = get_or-set_at r.inputs i (line r p v) now (fresh_channel r.depth) same input.within in
        let unlike : Idle ≡ Active q c = sym idle ∙ sym (ap (λ (x : ChannelState). x.state) now_is) ∙ holds in
        absurd (cc)
    | inr other ↦
        let held = are.held p v q c p_in v_in
        (sym (ap (λ (x : ChannelState). x.state)
        (get_or-set_other r.inputs i (line r p v) now (fresh_channel r.depth) other)) ∙ holds) in
        elim (cases_eq (line r q c) o) [
          | inl here ↦
              let was : had ≡ input_at r port vc =
              input.was ∙ ap (λ k. slice_index_or r.inputs k (fresh_channel r.depth)) input.at in
              let its = are.held port vc out out_vc input.place.port_in input.place.channel_in
              (sym (ap (λ (x : ChannelState). x.state) was) ∙ held_it) in
              let both : Some (p, v) ≡ Some (port, vc) =
              sym held ∙ ap (λ k. (slice_index_or r.outputs k (free_output r.depth)).holder) (here ∙ output.at)
              ∙ its in
              let pair : (p, v) ≡ (port, vc) = cc in
              let port_is : p ≡ port = ap (λ (k : ℕ × ℕ). k.0) pair in
              let vc_is : v ≡ vc = ap (λ (k : ℕ × ℕ). k.1) pair in
              absurd (other (ap (λ k. k * width r + v) port_is ∙ ap (λ k. port * width r + k) vc_is ∙ sym input.at))
          | inr away ↦ ap (λ (w : OutRecord). w.holder)
              (get_or-set_other r.outputs o (line r q c) u (free_output r.depth) away) ∙ held
        ]
  ];
  holds = λ q c h q_in c_in held. elim (cases_eq (line r q c) o) [
    | inl here ↦
        let unlike : None ≡ Some h = sym free
        ∙ sym (ap (λ (w : OutRecord). w.holder)
        (get_or-set_at r.outputs o (line r q c) u (free_output r.depth) here output.within)) ∙ held in
        absurd (cc)
    | inr away ↦
        let holds = are.holds q c h q_in c_in (sym (ap (λ (w : OutRecord). w.holder)
        (get_or-set_other r.outputs o (line r q c) u (free_output r.depth) away)) ∙ held) in
        elim (cases_eq (line r h.0 h.1) i) [
          | inl same ↦
              let was : had ≡ input_at r h.0 h.1 = input.was
              ∙ ap (λ k. slice_index_or r.inputs k (fresh_channel r.depth)) (sym same) in
              let both : Active out out_vc ≡ Active q c = sym held_it
              ∙ ap (λ (x : ChannelState). x.state) was ∙ holds in
              let out_is : out ≡ q = cc in
              let vc_is : out_vc ≡ c = cc in
              absurd (away (ap (λ k. k * width r + c) (sym out_is) ∙ ap (λ k. out * width r + k) (sym vc_is)
              ∙ sym output.at))
          | inr other ↦ ap (λ (x : ChannelState). x.state)
              (get_or-set_other r.inputs i (line r h.0 h.1) now (fresh_channel r.depth) other) ∙ holds
        ]
  ];
  fit = All-set (λ (w : OutRecord). IsHolder (terminal r) (width r) w.holder) r.outputs o u
      (subst (IsHolder (terminal r) (width r)) (sym free) tt) are.fit;
}

-- none holds, where all are fresh
pub fresh_holders : (r : RouterState) (count : ℕ) → r.inputs ≡ replicate count (fresh_channel r.depth)
    → r.outputs ≡ replicate count (free_output r.depth) → AreHolders r
fresh_holders r count all free = record {
  held = λ p v o c p_in v_in holds.
      let unlike : Idle ≡ Active o c = sym (ap (λ (x : ChannelState). x.state)
      (ap (λ l. slice_index_or l (line r p v) (fresh_channel r.depth)) all
      ∙ get_or-replicate_same count (line r p v) (fresh_channel r.depth))) ∙ holds in
      absurd (cc);
  holds = λ o c h o_in c_in held.
      let unlike : None ≡ Some h = sym (ap (λ (w : OutRecord). w.holder)
      (ap (λ l. slice_index_or l (line r o c) (free_output r.depth)) free
      ∙ get_or-replicate_same count (line r o c) (free_output r.depth))) ∙ held in
      absurd (cc);
  fit = subst (All (λ (w : OutRecord). IsHolder (terminal r) (width r) w.holder)) (sym free)
      (All-replicate (λ (w : OutRecord). IsHolder (terminal r) (width r) w.holder) count (free_output r.depth) tt);
}

-- a flit that left: where it closed both are free, and otherwise all is held as before
pub holders_left : (r : RouterState) (port vc i out out_vc o : ℕ) (had now : ChannelState) (had_out u : OutRecord)
    (closed : Bool) → IsInput r port vc i had → IsOutput r out out_vc o had_out
    → had.state ≡ Active out out_vc → now.state ≡ (if closed then Idle else had.state)
    → u.holder ≡ (if closed then None else had_out.holder)
    → AreHolders r → AreHolders (record r { inputs = slice_set r.inputs i now; outputs = slice_set r.outputs o u })
holders_left r port vc i out out_vc o had now had_out u true input output held_it idle free are =
    holders_freed r port vc i out out_vc o had now had_out u input output held_it idle free are
holders_left r port vc i out out_vc o had now had_out u false input output held_it same kept are =
    holders_out (record r { inputs = slice_set r.inputs i now }) out out_vc o had_out u
    (record {
      place = record { port_in = output.place.port_in; channel_in = output.place.channel_in };
      at = output.at;
      within = output.within;
      was = output.was;
    }) kept
    (holders_in r port vc i had now input (λ q c holds. sym same ∙ holds) (λ q c holds. same ∙ holds) are)
