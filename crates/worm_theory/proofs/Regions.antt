-- Parts whose networks say anything of the nodes that they do not own.
use Rattle.std.proofs.Common.{◌≡◌, ℕ, Bool, true, false, ◌==◌, ◌<◌, length, inl, inr, List, [], ◌∷◌, ◌++◌, All, Option}
use Rattle.std.proofs.Common.{Some, None, refl, sym, subst, append_assoc, eq-eqb}
use Rattle.std.proofs.lemmas.List.Elements.{All-head, All-tail}
use Rattle.worm_flit.specs.declared.Flit.{Flit}
use Rattle.worm_flit.specs.Stamps.{on_channel, with_channel}
use Rattle.worm_flit.specs.Worms.{IsWorm, Continues}
use Rattle.worm_records.specs.declared.InRecord.TheVariants.{Active}
use Rattle.worm_theory.specs.Shape.{Shape, IsMesh}
use Rattle.worm_theory.specs.Network.{Network, put2}
use Rattle.worm_theory.specs.Steps.{Step, FrontIs, IsPort, IsThere, Enabled, StepsLead, after, node_of}
use Rattle.worm_theory.specs.Sound.{Leaves}
use Rattle.worm_theory.specs.Growth.{SinksGrow, SourcesGrow}
use Rattle.worm_theory.proofs.Bridge.{same_network}
use Rattle.worm_theory.specs.PartSound.{PartSound}
use Rattle.worm_theory.specs.Openings.{seeds, past_of}
use Rattle.worm_theory.proofs.Join.{link_leaves}
use Rattle.worm_theory.proofs.Bringing.{flit_room, credit_room}
use Rattle.worm_theory.specs.Join.{Holds}
use Rattle.worm_theory.specs.Region.{HasPart, OwnSound, among, parts_of}
use Rattle.worm_theory.specs.Whole.{AreQueues, link_of, line_of, whole}
use Rattle.worm_theory.specs.Parts.{split}
use Rattle.worm_theory.proofs.Split.{split_holds}
use Rattle.worm_theory.proofs.Openings.{seeds_open, sent_worms, pop_goes_on, push_continues}
use Rattle.worm_theory.proofs.Among.{after_among, enabled_among}
use Rattle.worm_theory.proofs.RegionSteps.{step_region}
use Rattle.worm_theory.proofs.RegionQueues.{region_push, pull_region, whole_holds, whole_sinks, whole_sources}

module _ (s : Shape) (mesh : IsMesh s) (old : Network) (own : ℕ → Bool) (taken : ℕ → ℕ → List Flit)
    (returned : ℕ → ℕ → List ℕ) where
  pub step_part : (net : Network) (step : Step) → own (node_of step) ≡ true → IsThere s step → Enabled s net step →
      HasPart s old own net taken returned → HasPart s old own (after s net step) taken returned
  step_part net step here there enabled part =
      let same = after_among own s net old step here there enabled in
      rw same (step_region s mesh old own (among own net old) taken returned part step here there
      (enabled_among own s net old step here enabled))

  -- whichever of the steps are done
  pub steps_part : (steps : List Step) (net new : Network) → All (λ step. own (node_of step) ≡ true) steps →
      StepsLead s net steps new → HasPart s old own net taken returned → HasPart s old own new taken returned
  steps_part [] net new here lead part = subst (λ n. HasPart s old own n taken returned) (sym lead) part
  steps_part (step ∷ steps) net new here lead part =
      steps_part steps lead.0 new (All-tail (λ (q : Step). own (node_of q) ≡ true) step steps here) lead.2
      (elim lead.1 [
        | inl done ↦
            subst (λ n. HasPart s old own n taken returned) (sym done.2)
            (step_part net step (All-head (λ (q : Step). own (node_of q) ≡ true) step steps here) done.0 done.1 part)
        | inr idle ↦ subst (λ n. HasPart s old own n taken returned) (sym idle.1) part
      ])

-- What goes over the queues between parts, said by the worm rule of the queues.
pub past_worms : (s : Shape) → IsMesh s → (old : Network) → Holds s old → (y o x : ℕ) → s.neighbour y o ≡ Some x →
    (v : ℕ) → IsWorm (on_channel v (past_of s old y o x))
past_worms s mesh old was y o x linked v =
    sent_worms s old (split s old) (split_holds s mesh old was).sound y o x linked
    (seeds old x (s.opposite o) s.vcs) (seeds_open s old x (s.opposite o)) v

module _ (s : Shape) (mesh : IsMesh s) (old : Network) (own : ℕ → Bool) (net : Network) (taken : ℕ → ℕ → List Flit)
    (returned : ℕ → ℕ → List ℕ) (part : HasPart s old own net taken returned) where
  abbrev sound : PartSound s old (parts_of (among own net old) part.since)
  sound = part.holds.sound

  on_link : (y o x : ℕ) (b : Bool) → own y ≡ b → s.neighbour y o ≡ Some x → own x ≡ true →
      All (Leaves s y o) (net.out y o)
  on_link y o x true near linked here =
      link_leaves s old (parts_of (among own net old) part.since) sound y o x linked (net.out y o)
      (part.within y o x linked near here).sent
  on_link y o x false far linked here =
      let back = mesh.link_back y o x linked in
      let twice = mesh.opposite_twice y o x linked in
      rw twice at ((part.entering y o x linked far here).1.cross y back)

  pub own_sound : OwnSound s own net
  own_sound = record {
    buffered = λ x p v here. rw here at (sound.buffered x p v);
    fits = λ x p v here. rw here at (sound.fits x p v);
    records = λ x p v here. rw here at (sound.records x p v);
    holders = λ x o c p v here. rw here at (sound.holders x o c p v);
    passed = λ x p v here. rw here at (sound.passed x p v);
    accepted = λ x k here. rw here at (sound.accepted x k);
    unfed = λ x k here. rw here at (sound.unfed x k);
    histories = λ lane here. rw here at (sound.histories lane);
    arriving = λ y o x linked here. on_link y o x (own y) refl linked here;
    sunk = λ x here.
        let all = part.ends x s.terminal (mesh.terminal_alone x) here in rw all at (sound.leaving x s.terminal);
  }

  -- what is sent on a link that leaves the part may go onto its queue
  pub push_part : (x p v o c z : ℕ) (f : Flit) → own x ≡ true → own z ≡ false → s.neighbour x o ≡ Some z →
      IsPort s x p → net.in_record x p v ≡ Active o c → FrontIs (net.buffer x p v) (λ front. front ≡ f) →
      Continues (on_channel c (past_of s old x o z ++ net.out x o)) (with_channel f c) ×
      Leaves s x o (with_channel f c)
  push_part x p v o c z f here there linked port active front =
      let past = seeds old z (s.opposite o) s.vcs in
      let may =
      region_push s mesh old own (among own net old) taken returned part x p v o c z f here there linked port
      (rw here active) (rw here front) in
      let all = (part.leaving x o z linked here there).0 in
      let worms =
      rw all at (sent_worms s old (parts_of (among own net old) part.since) sound x o z linked past
      (seeds_open s old z (s.opposite o)) c) in
      let order = append_assoc past (old.out x o) (net.out x o) in (
        rw order (push_continues s old z (s.opposite o) past (old.out x o ++ net.out x o) (with_channel f c)
            (seeds_open s old z (s.opposite o)) may.1.owned.0 worms may.0),
        may.1,
      )

  -- what comes off the queue of a link that enters it goes to the end of what the link has
  pub pull_part : (y o x : ℕ) (f : Flit) → s.neighbour y o ≡ Some x → own y ≡ false → own x ≡ true →
      Continues (on_channel f.vc (past_of s old y o x ++ taken y o)) f → Leaves s y o f →
      HasPart s old own (record net { out = put2 net.out y o (net.out y o ++ f ∷ []) })
      (put2 taken y o (taken y o ++ f ∷ [])) returned
  pull_part y o x f linked far here continues leaves =
      let past = seeds old x (s.opposite o) s.vcs in
      let order = append_assoc past (old.out y o) (taken y o) in
      let next =
      pop_goes_on s old x (s.opposite o) past (old.out y o ++ taken y o) f
      (seeds_open s old x (s.opposite o)) leaves.owned.0 (rw order at continues) in
      pull_region s mesh old own (among own net old) taken returned part y o x linked f far here next leaves

  -- within a part a link has room for what it holds, and so has its credit count
  module _ (was : Holds s old) (y o x : ℕ) (linked : s.neighbour y o ≡ Some x) (near : own y ≡ true)
      (here : own x ≡ true) where
    pub link_room : (f : Flit) (fs : List Flit) → net.out y o ≡ f ∷ fs →
        length (net.buffer x (s.opposite o) f.vc) < s.depth
    link_room f fs front =
        let holds = part.within y o x linked near here in
        rw here at (flit_room s mesh old (parts_of (among own net old) part.since) sound y o x linked was.sound f fs
        (net.credit_list y o) (rw front at holds))

    pub count_room : (c : ℕ) (cs : List ℕ) → net.credit_list y o ≡ c ∷ cs →
        (c < s.vcs) × (net.credits y o c < s.depth)
    count_room c cs front =
        let holds = part.within y o x linked near here in
        rw near at (credit_room s mesh old (parts_of (among own net old) part.since) sound y o x linked was.sound c cs
        (net.out y o) (rw front at holds))

module _ (s : Shape) (mesh : IsMesh s) (old : Network) (was : Holds s old) (owner : ℕ → ℕ) (net : ℕ → Network)
    (taken : ℕ → ℕ → ℕ → List Flit) (returned : ℕ → ℕ → ℕ → List ℕ)
    (part : (k : ℕ) → HasPart s old (λ x. owner x == k) (net k) (taken k) (returned k)) (flits : ℕ → ℕ → List Flit)
    (credits : ℕ → ℕ → List ℕ) (queues : AreQueues s owner net taken returned flits credits) where
  abbrev seen : ℕ → Network
  seen k = among (λ x. owner x == k) (net k) old

  owned : (x : ℕ) → (owner x == owner x) ≡ true
  owned x = eq-eqb (owner x) (owner x) refl

  same_queues : AreQueues s owner seen taken returned flits credits
  same_queues = record { within = queues.within; between = queues.between }

  -- each node is read from its owner
  same_whole : whole s owner seen flits credits ≡ whole s owner net flits credits
  same_whole =
      same_network (whole s owner seen flits credits) (whole s owner net flits credits) (record {
        buffer = λ x p v. let at = owned x in rw at refl;
        in_record = λ x p v. let at = owned x in rw at refl;
        last_out = λ x p v. let at = owned x in rw at refl;
        owed = λ x p v. let at = owned x in rw at refl;
        holder = λ x o c. let at = owned x in rw at refl;
        credits = λ x o c. let at = owned x in rw at refl;
        out = λ y o. out_same y o (s.neighbour y o);
        credit_list = λ y o. line_same y o (s.neighbour y o);
        injected = λ x k. let at = owned x in rw at refl;
        unfed = λ x k. let at = owned x in rw at refl;
      })
    where
      out_same : (y o : ℕ) (end : Option ℕ) → link_of owner seen flits y o end ≡ link_of owner net flits y o end
      out_same y o None = refl
      out_same y o (Some x) = refl

      line_same : (y o : ℕ) (end : Option ℕ) → line_of owner seen credits y o end ≡ line_of owner net credits y o end
      line_same y o None = refl
      line_same y o (Some x) = refl

  pub parts_hold : Holds s (whole s owner net flits credits)
  parts_hold =
      subst (λ n. Holds s n) same_whole
      (whole_holds s mesh old was owner seen taken returned part flits credits same_queues)

  pub parts_sinks : SinksGrow s old (whole s owner net flits credits)
  parts_sinks =
      subst (λ n. SinksGrow s old n) same_whole
      (whole_sinks s mesh old was owner seen taken returned part flits credits same_queues)

  pub parts_sources : SourcesGrow old (whole s owner net flits credits)
  parts_sources =
      subst (λ n. SourcesGrow old n) same_whole
      (whole_sources s mesh old was owner seen taken returned part flits credits same_queues)
