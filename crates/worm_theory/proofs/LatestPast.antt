-- An input channel that is within a packet: what left it last is the last of the packet that is past the node, and none
-- of that closes.
use Rattle.std.proofs.Common.{◌≡◌, ℕ, zero, suc, ◌<◌, ◌⊎◌, inl, inr, Bool, true, false, cond, Option, Some, None, List}
use Rattle.std.proofs.Common.{[], ◌∷◌, ◌++◌, length, refl, sym, ap, subst, ◌∙◌, arith, append_assoc, append-nil}
use Rattle.worm_flit.specs.declared.Lane.{Lane}
use Rattle.worm_flit.specs.declared.Flit.{Flit}
use Rattle.worm_flit.specs.Kinds.{closes}
use Rattle.worm_flit.specs.Stamps.{bare, on_channel}
use Rattle.worm_flit.specs.Worms.{latest}
use Rattle.worm_records.specs.declared.InRecord.{InRecord}
use Rattle.worm_records.specs.declared.InRecord.TheVariants.{Idle, Waiting, Active}
use Rattle.worm_theory.specs.Worm.{Worm, Between, Within, Runs, after_flit, worm_after}
use Rattle.worm_theory.specs.Shape.{Shape, IsMesh, HasLane, Owns, Enters, by_link}
use Rattle.worm_theory.specs.Network.{Network, upstream}
use Rattle.worm_theory.specs.Sound.{Sound, Agrees}
use Rattle.worm_theory.specs.Cut.{past_from}
use Rattle.worm_theory.specs.PacketCut.{packet_held, packet_store, packet_line, PacketsHold}
use Rattle.worm_theory.specs.OpenPast.{packet_past, IsOpenPast}
use Rattle.worm_theory.proofs.Places.{number_cases}
use Rattle.worm_theory.proofs.Runs.{within-is, nowhere}
use Rattle.worm_theory.proofs.Routes.{enters_node}
use Rattle.worm_theory.proofs.Cut.{ahead, ahead-past, behind}
use Rattle.worm_theory.proofs.PacketLists.{IsOn, packet_one, packet-cons, packet-append, packet_cases, joined-none}
use Rattle.worm_theory.proofs.PacketLists.{joined-one}
use Rattle.worm_theory.proofs.Histories.{ClosesLast, history-closes, packet-of_lane, none_closes}
use Rattle.worm_theory.proofs.ChannelLists.{none_of, first_channel, all_on}
use Rattle.worm_theory.proofs.ChannelLines.{cut_ahead, in_range, link_both, link_within, stored_more, more, sink_both}

latest-cons : (f : Flit) (gs : List Flit) (g : Flit) → latest gs ≡ Some g → latest (f ∷ gs) ≡ Some g
latest-cons f [] g e = cc
latest-cons f (h ∷ hs) g e = e

pub latest-after : (fs gs : List Flit) (g : Flit) → latest gs ≡ Some g → latest (fs ++ gs) ≡ Some g
latest-after [] gs g e = e
latest-after (f ∷ fs) gs g e = latest-cons f (fs ++ gs) g (latest-after fs gs g e)

latest-some : (fs : List Flit) (g : Flit) → latest fs ≡ Some g → 0 < length fs
latest-some [] g e = cc
latest-some (f ∷ fs) g e = omega arith

unclosing : (b : Bool) (f g : Flit) → cond b Between (Within (bare f)) ≡ Within g → b ≡ false
unclosing true f g e = cc
unclosing false f g e = refl

-- what a channel is within does not close
pub still_open : (last : Option Flit) (g : Flit) → worm_after last ≡ Within g → closes g.kind ≡ false
still_open None g e = cc
still_open (Some f) g e = ap (λ (q : Flit). closes q.kind) (sym (within-is (closes f.kind) f g e))
    ∙ unclosing (closes f.kind) f g e

-- a run that ends within a packet is empty, or has that packet's flit as its last of the packet
run_latest : (lane : Lane) (k : ℕ) (fs : List Flit) (a c : Worm) (g : Flit) → Runs a fs c → c ≡ Within g → lane ≡ g.lane
    → k ≡ g.packet → ((fs ≡ []) × (a ≡ Within g)) ⊎ (latest (packet_held lane k fs) ≡ Some g)
run_latest lane k [] a c g runs e l n = inl (refl, runs ∙ e)
run_latest lane k (f ∷ fs) a c g runs e l n =
    elim (run_latest lane k fs (after_flit f) c g runs.1 e l n) [
      | inl last ↦
          let is_g = within-is (closes f.kind) f g last.1 in
          let none : packet_held lane k fs ≡ [] = ap (λ gs. packet_held lane k gs) last.0 in
          elim (packet_cases lane k f) [
            | inl on ↦ inr (rw (packet-cons lane k f fs, on.0, none) (ap Some is_g))
            | inr off ↦ absurd (off.1 (l ∙ sym (ap (λ (q : Flit). q.lane) is_g))
                (n ∙ sym (ap (λ (q : Flit). q.packet) is_g)))
          ]
      | inr later ↦ inr (rw (packet-cons lane k f fs)
          (latest-after (packet_one lane k f) (packet_held lane k fs) g later))
    ]

-- the record of a channel that is within a packet
active_of : (s : Shape) (x : ℕ) (r : InRecord) (g : Flit) (fs : List Flit) → Agrees s x r (Within g) fs
    → (c : ℕ) × (r ≡ Active (s.next_port x g.lane.dst) c) × Owns s g.lane.class c
active_of s x Idle g fs h = cc
active_of s x (Waiting o) g fs h = let e = h.0 in cc
active_of s x (Active o c) g fs h = (c, ap (λ q. Active q c) (sym h.0), h.1)

module _ (s : Shape) (mesh : IsMesh s) (lane : Lane) (there : HasLane s lane) (k : ℕ) (net : Network)
    (sound : Sound s net) (hold : PacketsHold s net) where
  -- it holds an output channel, toward the packet's next node
  pub holds_on : (x p v : ℕ) (g : Flit) → worm_after (net.last_out x p v) ≡ Within g → lane ≡ g.lane
      → (c : ℕ) × (net.in_record x p v ≡ Active (s.next_port x lane.dst) c) × Owns s lane.class c
      × (upstream net x (s.next_port x lane.dst) c ≡ Within g)
  holds_on x p v g e l =
      let act = active_of s x (net.in_record x p v) g (net.buffer x p v) (rw e at (sound.records x p v)) in
      let active : net.in_record x p v ≡ Active (s.next_port x lane.dst) act.0 =
      act.1 ∙ ap (λ (q : Lane). Active (s.next_port x q.dst) act.0) (sym l) in
      let held : net.holder x (s.next_port x lane.dst) act.0 ≡ Some (p, v) =
      (sound.holders x (s.next_port x lane.dst) act.0 p v).1 active in
      (act.0, active, subst (λ (q : Lane). Owns s q.class act.0) (sym l) act.2, rw held e)

  abbrev store : ℕ → ℕ → List Flit
  store = packet_store s net lane k

  abbrev line : ℕ → ℕ → List Flit
  line = packet_line net lane k

  -- what left it last is the last flit of the packet that is past the node
  pub latest_past : (n x p v : ℕ) (g : Flit) → Enters s lane x p → s.hops x lane.dst ≡ n
      → worm_after (net.last_out x p v) ≡ Within g → lane ≡ g.lane → k ≡ g.packet
      → latest (past_from s store line lane.dst n x) ≡ Some g
  latest_past zero x p v g at e w l n =
      let o = s.next_port x lane.dst in
      let ended = mesh.arrives x lane.dst (enters_node s mesh lane there at) there.destination e in
      let port : s.next_port x lane.dst ≡ s.terminal = ended.1 in
      let by = holds_on x p v g w l in
      let c = by.0 in
      let runs : Runs Between (on_channel by.0 (net.out x (s.next_port x lane.dst)))
      (upstream net x (s.next_port x lane.dst) by.0) =
      subst (λ q. Runs Between (on_channel by.0 (net.out x q)) (upstream net x q by.0)) (sym port)
      (sound.sinks x by.0) in
      let sink : net.out x (s.next_port x lane.dst) ≡ net.out lane.dst s.terminal = let node = ended.0 in cc in
      elim (run_latest lane k (on_channel c (net.out x o)) Between (upstream net x o c) g runs by.3 l n) [
        | inl none ↦ absurd (nowhere g none.1)
        | inr last ↦
            let some : 0 < length (packet_held lane k (on_channel c (net.out lane.dst s.terminal))) =
            subst (λ fs. 0 < length (packet_held lane k (on_channel by.0 fs))) sink
            (latest-some (packet_held lane k (on_channel c (net.out x o))) g last) in
            let others : (u : ℕ) → u < s.vcs → (u ≡ by.0 → ⊥)
            → packet_held lane k (on_channel u (net.out x (s.next_port x lane.dst))) ≡ [] =
            λ u _ apart. none_of (packet_held lane k (on_channel u (net.out x o)))
            (λ some2. sink_both s mesh lane there k net sound hold c u
            (λ q. apart (sym q)) some (subst (λ fs. 0 < length (packet_held lane k (on_channel u fs))) sink
            some2)) in
            ap latest (all_on lane k s.vcs c (net.out x o)
            (in_range s mesh lane there k net sound hold x o) others) ∙ last
      ]
  latest_past (suc n) x p v g at e w l m =
      let o = s.next_port x lane.dst in
      let q = s.opposite (s.next_port x lane.dst) in
      let on = mesh.goes_on x lane.dst n (enters_node s mesh lane there at) there.destination e in
      let y = on.0 in
      let linked = on.1 in
      let next : Enters s lane on.0 (s.opposite (s.next_port x lane.dst)) = by_link {p = p} at linked in
      let by = holds_on x p v g w l in
      let c = by.0 in
      let c_there = by.2.0 in
      let before = past_from s store line lane.dst n on.0 in
      let whole : past_from s store line lane.dst (suc n) x ≡ (before ++ store on.0 q) ++ line x o =
      rw linked (ap (λ fs. fs ++ line x o) (ahead-past s mesh lane there store line n on.0 q)) in
      elim (run_latest lane k (net.buffer y q c ++ on_channel c (net.out x o)) (worm_after (net.last_out y q c))
      (upstream net x o c) g (sound.links x o y c linked) by.3 l m) [
        | inl none ↦
            let onward = latest_past n y q c g next on.3 none.1 l m in
            let nothing : packet_held lane k (net.buffer on.0 q by.0 ++ on_channel by.0 (net.out x o)) ≡ [] =
            ap (λ fs. packet_held lane k fs) none.0 in
            let empty : (u : ℕ) → u < s.vcs
            → 0 < length (packet_held lane k (net.buffer on.0 q u ++ on_channel u (net.out x o))) → ⊥ =
            λ u u_there some. elim (number_cases by.0 u) [
              | inl same ↦ let here : 0 < length
                  (packet_held lane k (net.buffer on.0 q by.0 ++ on_channel by.0 (net.out x o))) =
                  subst (λ d. 0 < length (packet_held lane k (net.buffer on.0 q d ++ on_channel d (net.out x o))))
                  (sym same.1) some in let zero = ap length nothing in omega arith
              | inr apart ↦ link_within s mesh lane there k net sound hold x p on.0 at linked by.0 u c_there u_there
                  apart.1 (g, none.1, l, m) some
            ] in
            let store_none : store on.0 q ≡ [] =
            joined-none s.vcs (λ u. packet_held lane k (net.buffer on.0 q u))
            (λ u u_there. none_of (packet_held lane k (net.buffer on.0 q u))
            (λ some. empty u u_there (stored_more s mesh lane there k net sound hold x p on.0 at linked u
            some))) in
            let line_none : line x o ≡ [] = none_of (line x o)
            (λ some. let first = first_channel lane k s.vcs (net.out x o)
            (in_range s mesh lane there k net sound hold x o) some in
            empty first.0 first.1 (more s mesh lane there k net sound hold x p on.0 at linked first.0 first.2)) in
            rw (whole, store_none, line_none, append-nil before, append-nil before) onward
        | inr last ↦
            let some = latest-some (packet_held lane k (net.buffer on.0 q by.0 ++ on_channel by.0 (net.out x o))) g
            last in
            let others : (u : ℕ) → u < s.vcs → (u ≡ by.0 → ⊥)
            → 0 < length (packet_held lane k (net.buffer on.0 q u ++ on_channel u (net.out x o))) → ⊥ =
            λ u u_there apart. link_both s mesh lane there k net sound hold x p on.0 at linked by.0 u c_there u_there
            (λ d. apart (sym d)) some in
            let store_one : store on.0 q ≡ packet_held lane k (net.buffer on.0 q by.0) =
            joined-one s.vcs c (λ u. packet_held lane k (net.buffer on.0 q u)) c_there
            (λ u u_there apart. none_of (packet_held lane k (net.buffer on.0 q u))
            (λ more_u. others u u_there apart
            (stored_more s mesh lane there k net sound hold x p on.0 at linked u more_u))) in
            let line_one : line x o ≡ packet_held lane k (on_channel by.0 (net.out x o)) =
            all_on lane k s.vcs c (net.out x o) (in_range s mesh lane there k net sound hold x o)
            (λ u u_there apart. none_of (packet_held lane k (on_channel u (net.out x o)))
            (λ more_u. others u u_there apart
            (more s mesh lane there k net sound hold x p on.0 at linked u more_u))) in
            let join = packet-append lane k (net.buffer on.0 q by.0) (on_channel by.0 (net.out x o)) in
            rw (
              whole,
              store_one,
              line_one,
              append_assoc before (packet_held lane k (net.buffer on.0 q by.0))
                  (packet_held lane k (on_channel by.0 (net.out x o))),
              ← join,
            )
            (latest-after before (packet_held lane k (net.buffer on.0 q by.0 ++ on_channel by.0 (net.out x o))) g last)
      ]

  -- so the packet is open past the node
  pub within_open : (x p v : ℕ) → Enters s lane x p → IsOn lane k (worm_after (net.last_out x p v))
      → IsOpenPast s net lane k x
  within_open x p v at on =
      let split = behind s mesh lane there store line at in
      let before = packet_past s net lane k x in
      let hu = packet_held lane k (net.unfed lane.src lane.class) in
      let order : ahead s mesh lane there store line (s.hops lane.src lane.dst) lane.src s.terminal ++ hu ≡ before
      ++ (store x p ++ (split.0 ++ hu)) =
      ap (λ fs. fs ++ hu) (split.1 ∙ ap (λ fs. fs ++ split.0)
      (ahead-past s mesh lane there store line (s.hops x lane.dst) x p)) ∙
      append_assoc (before ++ store x p) split.0 hu ∙ append_assoc before (store x p) (split.0 ++ hu) in
      let closing : ClosesLast (packet_held lane k (net.injected lane.src lane.class)) =
      subst ClosesLast (packet-of_lane lane k (net.injected lane.src lane.class))
      (history-closes lane k (sound.histories lane)) in
      let ordered : ClosesLast (before ++ (store x p ++ (split.0 ++ hu))) =
      subst ClosesLast (sym (cut_ahead s mesh lane there k net sound hold) ∙ order) closing in
      record {
        some = hold.within_past lane k there x p v on.0 at on.1 on.2 on.3;
        unclosed = none_closes before (store x p ++ (split.0 ++ hu)) on.0 ordered
            (latest_past (s.hops x lane.dst) x p v on.0 at refl on.1 on.2 on.3)
            (still_open (net.last_out x p v) on.0 on.1);
      }
