-- Which channels hold an output channel without a credit, and what each call leaves of that.
use Rattle.std.proofs.Common.{◌≡◌, ℕ, ◌+◌, ◌<◌, ◌≤◌, ◌&&◌, ◌||◌, ◌==◌, Bool, true, false, not, nat_lt}
use Rattle.std.proofs.Common.{if◌then◌else◌, inl, inr, List, [], ◌∷◌, length, slice_set, slice_index_or, Option, Some}
use Rattle.std.proofs.Common.{None, IfSome, MatchOption, refl, arith, ap, sym, ◌∙◌, subst}
use Rattle.std.proofs.lemmas.Grind.{get_or-set_at}
use Rattle.std.proofs.lemmas.Bool.{cases_eq}
use Rattle.std.proofs.lemmas.Bool.Decides.{nat_tests}
use Rattle.std.proofs.lemmas.List.{get_or-set_other}
use Rattle.std.proofs.lemmas.List.Elements.{All-get_or}
use Rattle.worm_flit.specs.declared.Flit.{Flit}
use Rattle.worm_flit.specs.Stamps.{with_channel}
use Rattle.worm_records.specs.declared.InRecord.{InRecord}
use Rattle.worm_records.specs.declared.InRecord.TheVariants.{Idle, Waiting, Active}
use Rattle.worm_records.specs.declared.OutRecord.{OutRecord}
use Rattle.worm_vcalloc.specs.ChannelSet.{has}
use Rattle.worm_router.specs.Router.{RouterState, ChannelState, IsPlace, IsRouter, StateFits, terminal, width, line}
use Rattle.worm_router.specs.Router.{free_output, input_at, is_linked, output_at, leaving, leaving_by, credit_of}
use Rattle.worm_router.specs.Busy.{AreHolders, IsHolder, LackCredit, IsFiled, lacks_credit}
use Rattle.worm_router.proofs.Leaving.{channel_at}
use Rattle.worm_router.proofs.Places.{IsInput, IsOutput}
use Rattle.worm_router.proofs.Those.{those_filed, those_stay}

-- ---- an output channel is written

-- a channel that does not hold it, or where it has credits as before
pub lacks_out : (r : RouterState) (o : ℕ) (u : OutRecord) (s : InRecord) → o < length r.outputs
    → ((q c : ℕ) → s ≡ Active q c → line r q c ≡ o
    → nat_lt 0 u.credits ≡ nat_lt 0 (slice_index_or r.outputs o (free_output r.depth)).credits)
    → lacks_credit (record r { outputs = slice_set r.outputs o u }) s ≡ lacks_credit r s
lacks_out r o u Idle within same = refl
lacks_out r o u (Waiting q) within same = refl
lacks_out r o u (Active q c) within same = elim (cases_eq (line r q c) o) [
  | inl at ↦
      ap (λ (w : OutRecord). not (q == terminal r || nat_lt 0 w.credits))
      (get_or-set_at r.outputs o (line r q c) u (free_output r.depth) at within)
      ∙ ap (λ b. not (q == terminal r || b)) (same q c refl at)
      ∙ ap (λ k. not (q == terminal r || nat_lt 0 (slice_index_or r.outputs k (free_output r.depth)).credits)) (sym at)
  | inr other ↦ ap (λ (w : OutRecord). not (q == terminal r || nat_lt 0 w.credits))
      (get_or-set_other r.outputs o (line r q c) u (free_output r.depth) other)
]

-- a channel that holds it lacks a credit where it has fewer than a flit costs
lacks_at : (is_terminal : Bool) (credits : ℕ)
    → nat_lt credits (if is_terminal then 0 else 1) ≡ not (is_terminal || nat_lt 0 credits)
lacks_at true credits = grind (arith, nat_tests)
lacks_at false credits = grind (arith, nat_tests)

lacks_here : (r : RouterState) (out vc o spent : ℕ) (u : OutRecord) (s : InRecord) → o ≡ line r out vc
    → o < length r.outputs → s ≡ Active out vc → spent ≡ credit_of r out
    → nat_lt u.credits spent ≡ lacks_credit (record r { outputs = slice_set r.outputs o u }) s
lacks_here r out vc o spent u s at within is costs =
    ap (nat_lt u.credits) costs ∙ lacks_at (out == terminal r) u.credits
    ∙ sym (ap (λ (w : OutRecord). not (out == terminal r || nat_lt 0 w.credits))
    (get_or-set_at r.outputs o (line r out vc) u (free_output r.depth) (sym at) within))
    ∙ sym (ap (lacks_credit (record r { outputs = slice_set r.outputs o u })) is)

-- ---- what the calls of a router ask of that

-- a channel whose front may leave lacks none

first_true : (a b : Bool) (d : ℕ × Flit) (o : ℕ) (f : Flit) → (if a && b then Some (o, f) else None) ≡ Some d
    → not a ≡ false
first_true true b d o f e = refl
first_true false b d o f e = absurd (cc)

pub leaves_with_credit : (r : RouterState) (port vc set : ℕ) (d : ℕ × Flit) → IsPlace r port vc → LackCredit r set
    → leaving r port vc ≡ Some d → has set port vc ≡ false
leaves_with_credit r port vc set d place those leaves =
    those.each port vc place.port_in place.channel_in
    ∙ by (input_at r port vc) (input_at r port vc).state (input_at r port vc).buffer leaves where
      by : (c : ChannelState) (s : InRecord) (fs : List Flit) → leaving_by r port c s fs ≡ Some d
          → lacks_credit r s ≡ false
      by c Idle fs is = refl
      by c (Waiting o) fs is = refl
      by c (Active o v) [] is = absurd (cc)
      by c (Active o v) (f ∷ fs) is =
          first_true (o == terminal r || nat_lt 0 (output_at r o v).credits)
          (not (is_linked r port) || nat_lt c.owed r.depth) d o (with_channel f v) is

-- ---- one input channel is written

module _ (r : RouterState) (port vc i : ℕ) (had now : ChannelState) (input : IsInput r port vc i had)
    (few_ports : terminal r ≤ 6) (few_channels : width r ≤ 8) (old new : ℕ) (same : new ≡ old) where
  -- its record stays
  pub lack_stay : now.state ≡ had.state → LackCredit r old
      → LackCredit (record r { inputs = slice_set r.inputs i now }) new
  lack_stay is =
      those_stay r port vc i had now input few_ports few_channels (λ p c. lacks_credit r c.state) r.outputs old new same
      (ap (lacks_credit r) is)

  -- it comes to wait
  pub lack_waiting : (out : ℕ) → had.state ≡ Idle → now.state ≡ Waiting out → LackCredit r old
      → LackCredit (record r { inputs = slice_set r.inputs i now }) new
  lack_waiting out was is =
      those_stay r port vc i had now input few_ports few_channels (λ p c. lacks_credit r c.state) r.outputs old new same
      (ap (lacks_credit r) is ∙ sym (ap (lacks_credit r) was))

-- ---- and an output channel that it holds

module _ (r : RouterState) (port vc i : ℕ) (had now : ChannelState) (input : IsInput r port vc i had)
    (few_ports : terminal r ≤ 6) (few_channels : width r ≤ 8)
    (out out_vc o : ℕ) (had_out u : OutRecord) (output : IsOutput r out out_vc o had_out) where
  -- no other channel holds it
  not_its : (p v q k : ℕ) → AreHolders r → (((p ≡ port) × (v ≡ vc)) → ⊥) → ((h : ℕ × ℕ) → had_out.holder ≡ Some h
      → h ≡ (port, vc)) → IsPlace r p v → (input_at r p v).state ≡ Active q k → line r q k ≡ o → ⊥
  not_its p v q k held other its place holds at =
      let by : had_out.holder ≡ Some (p, v) =
      ap (λ (w : OutRecord). w.holder) output.was
      ∙ ap (λ j. (slice_index_or r.outputs j (free_output r.depth)).holder) (sym at)
      ∙ held.held p v q k place.port_in place.channel_in holds in
      let pair = its (p, v) by in
      other (ap (λ (j : ℕ × ℕ). j.0) pair, ap (λ (j : ℕ × ℕ). j.1) pair)

  -- it is filed anew where it holds that, and else lacks none as before
  pub lack_filed : (old new : ℕ)
      → IsFiled old new port vc (lacks_credit (record r { outputs = slice_set r.outputs o u }) now.state)
      → ((h : ℕ × ℕ) → had_out.holder ≡ Some h → h ≡ (port, vc))
      → AreHolders r → LackCredit r old
      → LackCredit (record r { inputs = slice_set r.inputs i now; outputs = slice_set r.outputs o u }) new
  lack_filed old new filed its held those =
      those_filed r port vc i had now input few_ports few_channels (λ p c. lacks_credit r c.state)
      (λ p c. lacks_credit (record r { outputs = slice_set r.outputs o u }) c.state) (slice_set r.outputs o u) old new
      filed (λ p v place other. lacks_out r o u (input_at r p v).state output.within
      (λ q k holds at. absurd (not_its p v q k held
      (λ both. other (ap (λ j. line r j v) both.0 ∙ ap (λ j. line r port j) both.1 ∙ sym input.at)) its place holds
      at))) those

  -- it holds that now
  pub lack_held : (spent old new : ℕ) → now.state ≡ Active out out_vc → spent ≡ credit_of r out
      → IsFiled old new port vc (nat_lt u.credits spent)
      → ((h : ℕ × ℕ) → had_out.holder ≡ Some h → h ≡ (port, vc))
      → AreHolders r → LackCredit r old
      → LackCredit (record r { inputs = slice_set r.inputs i now; outputs = slice_set r.outputs o u }) new
  lack_held spent old new holds costs filed its held those =
      lack_filed old new (subst (IsFiled old new port vc)
      (lacks_here r out out_vc o spent u now.state output.at output.within holds costs) filed) its held those

  -- it held that, and has let a flit out
  pub lack_left : (closed : Bool) (spent old new : ℕ) → had.state ≡ Active out out_vc
      → now.state ≡ (if closed then Idle else had.state) → spent ≡ credit_of r out
      → IsFiled old new port vc (not closed && nat_lt u.credits spent)
      → ((h : ℕ × ℕ) → had_out.holder ≡ Some h → h ≡ (port, vc))
      → AreHolders r → LackCredit r old
      → LackCredit (record r { inputs = slice_set r.inputs i now; outputs = slice_set r.outputs o u }) new
  lack_left true spent old new held_it idle costs filed its held those =
      lack_filed old new (subst (IsFiled old new port vc)
      (sym (ap (lacks_credit (record r { outputs = slice_set r.outputs o u })) idle)) filed) its held those
  lack_left false spent old new held_it same costs filed its held those =
      lack_held spent old new (same ∙ held_it) costs filed its held those

-- ---- an output channel has one credit more

module _ (r : RouterState) (out vc o : ℕ) (had u : OutRecord) (output : IsOutput r out vc o had)
    (one_more : u.credits ≡ had.credits + 1) (few_ports : terminal r ≤ 6) (few_channels : width r ≤ 8)
    (sound : IsRouter r) (held : AreHolders r) where
  abbrev after : RouterState
  after = record r { outputs = slice_set r.outputs o u }

  holder_is : had.holder ≡ (output_at r out vc).holder
  holder_is =
      ap (λ (w : OutRecord). w.holder) output.was
      ∙ ap (λ k. (slice_index_or r.outputs k (free_output r.depth)).holder) output.at

  -- its holder lacks none
  its : (s : InRecord) → s ≡ Active out vc → lacks_credit after s ≡ false
  its s is =
      let some : nat_lt 0 u.credits ≡ true = grind (arith, nat_tests) in
      ap (lacks_credit after) is
      ∙ ap (λ (w : OutRecord). not (out == terminal r || nat_lt 0 w.credits))
      (get_or-set_at r.outputs o (line r out vc) u (free_output r.depth) (sym output.at) output.within)
      ∙ ap (λ b. not (out == terminal r || b)) some
      ∙ none (out == terminal r) where
        none : (b : Bool) → not (b || true) ≡ false
        none true = refl
        none false = refl

  -- all others are as before
  not_its_holder : (p v : ℕ) → IsPlace r p v → ((had.holder ≡ Some (p, v)) → ⊥)
      → lacks_credit after (input_at r p v).state ≡ lacks_credit r (input_at r p v).state
  not_its_holder p v place other =
      lacks_out r o u (input_at r p v).state output.within (λ q k holds at.
      let fits : StateFits (terminal r) (width r) (Active q k) =
      subst (StateFits (terminal r) (width r)) holds (channel_at r p v sound place).state_fits in
      absurd (other (holder_is
      ∙ ap (λ j. (slice_index_or r.outputs j (free_output r.depth)).holder) (sym output.at ∙ sym at)
      ∙ held.held p v q k place.port_in place.channel_in holds)))

  credited : (holder : Option (ℕ × ℕ)) (old new : ℕ) → had.holder ≡ holder → LackCredit r old
      → MatchOption holder (new ≡ old) (λ place. IsFiled old new place.0 place.1 false) → LackCredit after new
  credited None old new is those same = record {
    each = λ p v p_in v_in.
        ap (λ k. has k p v) same ∙ those.each p v p_in v_in
        ∙ sym (not_its_holder p v (record { port_in = p_in; channel_in = v_in })
        (λ some. let unlike : None ≡ Some (p, v) = sym is ∙ some in absurd (cc)));
  }
  credited (Some h) old new is those filed = record {
    each = λ p v p_in v_in. elim (cases_eq p h.0) [
      | inl a ↦ elim (cases_eq v h.1) [
        | inl b ↦
            ap (λ k. has new k v) a ∙ ap (λ k. has new h.0 k) b ∙ filed.here
            ∙ sym (its (input_at r p v).state
            (ap (λ k. (input_at r k v).state) a ∙ ap (λ k. (input_at r h.0 k).state) b
            ∙ held.holds out vc h output.place.port_in output.place.channel_in (sym holder_is ∙ is)))
        | inr ne ↦ away p v p_in v_in (λ pair. ne (ap (λ (k : ℕ × ℕ). k.1) pair))
      ]
      | inr ne ↦ away p v p_in v_in (λ pair. ne (ap (λ (k : ℕ × ℕ). k.0) pair))
    ];
  } where
    away : (p v : ℕ) → p ≤ terminal r → v < width r → (((p, v) ≡ h) → ⊥)
        → has new p v ≡ lacks_credit after (input_at r p v).state
    away p v p_in v_in other =
        filed.elsewhere p v (omega arith) (omega arith)
        (λ a b. other (ap (λ k. (k, v)) a ∙ ap (λ k. (h.0, k)) b))
        ∙ those.each p v p_in v_in
        ∙ sym (not_its_holder p v (record { port_in = p_in; channel_in = v_in })
        (λ some. let both : Some h ≡ Some (p, v) = sym is ∙ some in
        let pair : h ≡ (p, v) = cc in other (sym pair)))

  pub lack_credited : (old new : ℕ) → u.holder ≡ had.holder → LackCredit r old
      → MatchOption u.holder (new ≡ old) (λ place. IsFiled old new place.0 place.1 false) → LackCredit after new
  lack_credited old new same those filed = credited u.holder old new (sym same) those filed

-- the holder of an output channel is there
pub holder_fits : (r : RouterState) (out vc o : ℕ) (had : OutRecord) (holder : Option (ℕ × ℕ))
    → IsOutput r out vc o had → holder ≡ had.holder → terminal r ≤ 6 → width r ≤ 8 → AreHolders r
    → IfSome holder (λ place. (place.0 < 7) × (place.1 < 8))
holder_fits r out vc o had holder output same few_ports few_channels held =
    by holder (subst (IsHolder (terminal r) (width r)) (sym (same ∙ ap (λ (w : OutRecord). w.holder) output.was))
    (All-get_or (λ (w : OutRecord). IsHolder (terminal r) (width r) w.holder) r.outputs o (free_output r.depth)
    output.within held.fit)) where
      by : (h : Option (ℕ × ℕ)) → IsHolder (terminal r) (width r) h
          → IfSome h (λ place. (place.0 < 7) × (place.1 < 8))
      by None fits = tt
      by (Some h) fits = let a = fits.0 in let b = fits.1 in (omega arith, omega arith)
