-- A packet that is open past a node is so past exactly one of its input channels.
use Rattle.std.proofs.Common.{◌≡◌, ℕ, zero, suc, ◌<◌, ◌⊎◌, inl, inr, false, Option, Some, None, List, [], ◌∷◌, ◌++◌}
use Rattle.std.proofs.Common.{length, refl, sym, ap, subst, ◌∙◌, arith, length-append}
use Rattle.std.specs.Prelude.{IfSome}
use Rattle.worm_flit.specs.declared.Lane.{Lane}
use Rattle.worm_flit.specs.declared.Flit.{Flit}
use Rattle.worm_flit.specs.Stamps.{bare, on_channel}
use Rattle.worm_flit.specs.Kinds.{closes}
use Rattle.worm_theory.specs.Worm.{Worm, Between, Within, Runs, MayCome, after_flit, worm_after}
use Rattle.worm_theory.specs.Shape.{Shape, IsMesh, HasLane, Owns, Enters, by_link}
use Rattle.worm_theory.specs.Network.{Network, upstream, upstream_of}
use Rattle.worm_theory.specs.Sound.{Sound, Passes}
use Rattle.worm_theory.specs.Cut.{past_from}
use Rattle.worm_theory.specs.PacketCut.{packet_held, packet_store, packet_line, joined, PacketsHold}
use Rattle.worm_theory.specs.OpenPast.{NoneCloses, IsOpenPast, IsWithin, OneWithinAt}
use Rattle.worm_theory.proofs.Places.{number_cases}
use Rattle.worm_theory.proofs.Routes.{enters_node, enters_once}
use Rattle.worm_theory.proofs.Cut.{ahead-past}
use Rattle.worm_theory.proofs.PacketLists.{IsOn, packet_one, packet-cons, packet-append, packet_cases}
use Rattle.worm_theory.proofs.ChannelLists.{first_channel, on-yes, on-other}
use Rattle.worm_theory.proofs.ChannelLines.{in_range}
use Rattle.worm_theory.proofs.Runs.{within-is}

none-left : (xs ys : List Flit) → NoneCloses (xs ++ ys) → NoneCloses xs
none-left [] ys h = tt
none-left (x ∷ xs) ys h = (h.0, none-left xs ys h.1)

none-right : (xs ys : List Flit) → NoneCloses (xs ++ ys) → NoneCloses ys
none-right [] ys h = h
none-right (x ∷ xs) ys h = none-right xs ys h.1

none-append : (xs ys : List Flit) → NoneCloses xs → NoneCloses ys → NoneCloses (xs ++ ys)
none-append [] ys h g = g
none-append (x ∷ xs) ys h g = (h.0, none-append xs ys h.1 g)

none-joined : (m v : ℕ) (a : ℕ → List Flit) → v < m → NoneCloses (joined m a) → NoneCloses (a v)
none-joined zero v a l h = absurd (omega arith)
none-joined (suc m) v a l h =
    elim (number_cases v m) [
      | inl last ↦ subst (λ w. NoneCloses (a w)) (sym last.1) (none-right (joined m a) (a m) h)
      | inr earlier ↦ let apart = earlier.1 in let below : v < m = grind arith in
          none-joined m v a below (none-left (joined m a) (a m) h)
    ]

some-joined : (m : ℕ) (a : ℕ → List Flit) → 0 < length (joined m a) → (v : ℕ) × (v < m) × (0 < length (a v))
some-joined zero a h = absurd (omega arith)
some-joined (suc m) a h =
    let sum = length-append (joined m a) (a m) in
    let order : (0 < length (a m)) ⊎ (0 < length (joined m a)) = grind arith in
    elim order [
      | inl last ↦ (m, omega arith, last)
      | inr earlier ↦ let r = some-joined m a earlier in let below = r.1 in (r.0, omega arith, r.2)
    ]

module _ (lane : Lane) (k : ℕ) where
  none-on : (v : ℕ) (fs : List Flit) → NoneCloses (packet_held lane k fs)
      → NoneCloses (packet_held lane k (on_channel v fs))
  none-on v [] h = tt
  none-on v (f ∷ fs) h =
      let parts : NoneCloses (packet_one lane k f ++ packet_held lane k fs) =
      subst NoneCloses (packet-cons lane k f fs) h in
      let rest = none-on v fs (none-right (packet_one lane k f) (packet_held lane k fs) parts) in
      elim (number_cases v f.vc) [
        | inl here ↦ subst NoneCloses (sym (on-yes lane k v f fs here.0))
            (none-append (packet_one lane k f) (packet_held lane k (on_channel v fs))
            (none-left (packet_one lane k f) (packet_held lane k fs) parts) rest)
        | inr away ↦ subst NoneCloses (sym (on-other lane k v f fs away.0)) rest
      ]

  -- a run that is within the packet, or has a flit of it, ends within it where none of its flits closes
  run_end : (fs : List Flit) (a c : Worm) → Runs a fs c → NoneCloses (packet_held lane k fs)
      → IsOn lane k a ⊎ (0 < length (packet_held lane k fs)) → IsOn lane k c
  run_end [] a c runs unclosed start =
      elim start [
        | inl h ↦ (h.0, sym runs ∙ h.1, h.2, h.3)
        | inr some ↦ absurd (omega arith)
      ]
  run_end (f ∷ fs) a c runs unclosed start =
      elim (packet_cases lane k f) [
        | inl on ↦
            let whole : packet_held lane k (f ∷ fs) ≡ bare f ∷ packet_held lane k fs =
            packet-cons lane k f fs ∙ rw on.0 refl in
            let each : NoneCloses (bare f ∷ packet_held lane k fs) = subst NoneCloses whole unclosed in
            let kind : closes f.kind ≡ false = each.0 in
            let after : after_flit f ≡ Within (bare f) = rw kind refl in
            run_end fs (after_flit f) c runs.1 each.1 (inl (bare f, after, on.1, on.2))
        | inr off ↦
            let whole : packet_held lane k (f ∷ fs) ≡ packet_held lane k fs = packet-cons lane k f fs ∙ rw off.0 refl in
            elim start [
              | inl h ↦ let follows : MayCome (Within h.0) f = subst (λ w. MayCome w f) h.1 runs.0 in
                  absurd (off.1 (h.2 ∙ sym follows.1) (h.3 ∙ sym follows.2))
              | inr some ↦ run_end fs (after_flit f) c runs.1 (subst NoneCloses whole unclosed)
                  (inr (subst (λ gs. 0 < length gs) whole some))
            ]
      ]

module _ (s : Shape) (mesh : IsMesh s) (lane : Lane) (there : HasLane s lane) (k : ℕ) (net : Network)
    (sound : Sound s net) (hold : PacketsHold s net) where
  held_by : (x o c : ℕ) (g : Flit) (h : Option (ℕ × ℕ)) → net.holder x o c ≡ h → upstream_of net.last_out x h ≡ Within g
      → (p : ℕ) × (v : ℕ) × (net.holder x o c ≡ Some (p, v)) × (worm_after (net.last_out x p v) ≡ Within g)
  held_by x o c g None e u = cc
  held_by x o c g (Some h) e u = (h.0, h.1, e, u)

  passed_by : (x p v : ℕ) (g : Flit) (last : Option Flit) → worm_after last ≡ Within g → IfSome last (Passes s x p v)
      → (f : Flit) × Passes s x p v f × (f.lane ≡ g.lane)
  passed_by x p v g None w h = cc
  passed_by x p v g (Some f) w h = (f, h, ap (λ (f2 : Flit). f2.lane) (within-is (closes f.kind) f g w))

  within_of : (x p c : ℕ) → Enters s lane x p → IsOn lane k (upstream net x (s.next_port x lane.dst) c)
      → (v : ℕ) × IsWithin s net lane k x p v
  within_of x p c at h =
      let o = s.next_port x lane.dst in
      let by = held_by x o c h.0 (net.holder x o c) refl h.1 in
      let pass = passed_by x by.0 by.1 h.0 (net.last_out x by.0 by.1) by.3 (sound.passed x by.0 by.1) in
      let own : f_lane pass.0 ≡ lane = pass.2 ∙ sym h.2 in
      let entered : Enters s lane x by.0 = subst (λ l. Enters s l x by.0) own pass.1.entered in
      let port = (enters_once s mesh lane there entered at refl).1 in
      let within : IsWithin s net lane k x by.0 by.1 = record {
        owned = subst (λ l. Owns s (f_class l) by.1) own pass.1.owned;
        flit = h.0;
        last = by.3;
        own_lane = h.2;
        own_packet = h.3;
        out_vc = c;
        active = (sound.holders x o c by.0 by.1).0 by.2;
      } in
      (by.1, subst (λ q. IsWithin s net lane k x q by.1) port within)
    where
      f_lane : Flit → Lane
      f_lane f = f.lane

      f_class : Lane → ℕ
      f_class l = l.class

  abbrev store : ℕ → ℕ → List Flit
  store = packet_store s net lane k

  abbrev line : ℕ → ℕ → List Flit
  line = packet_line net lane k

  open_end : (n x p : ℕ) → Enters s lane x p → s.hops x lane.dst ≡ n → 0 < length (past_from s store line lane.dst n x)
      → NoneCloses (past_from s store line lane.dst n x) → (v : ℕ) × IsWithin s net lane k x p v
  open_end zero x p at e some unclosed =
      let o = s.next_port x lane.dst in
      let ended = mesh.arrives x lane.dst (enters_node s mesh lane there at) there.destination e in
      let port : s.next_port x lane.dst ≡ s.terminal = ended.1 in
      let first = first_channel lane k s.vcs (net.out x o)
      (in_range s mesh lane there k net sound hold x o) some in
      let runs : Runs Between (on_channel first.0 (net.out x (s.next_port x lane.dst)))
      (upstream net x (s.next_port x lane.dst) first.0) =
      subst (λ q. Runs Between (on_channel first.0 (net.out x q)) (upstream net x q first.0)) (sym port)
      (sound.sinks x first.0) in
      within_of x p first.0 at (run_end lane k (on_channel first.0 (net.out x o)) Between
      (upstream net x o first.0) runs (none-on lane k first.0 (net.out x o) unclosed) (inr first.2))
  open_end (suc n) x p at e some unclosed =
      let o = s.next_port x lane.dst in
      let on = mesh.goes_on x lane.dst n (enters_node s mesh lane there at) there.destination e in
      let y = on.0 in
      let linked = on.1 in
      let q = s.opposite (s.next_port x lane.dst) in
      let next : Enters s lane on.0 (s.opposite (s.next_port x lane.dst)) = by_link {p = p} at linked in
      let before = past_from s store line lane.dst n on.0 in
      let whole : past_from s store line lane.dst (suc n) x ≡ (before ++ store on.0 q) ++ line x o =
      rw linked (ap (λ fs. fs ++ line x o) (ahead-past s mesh lane there store line n on.0 q)) in
      let length_all = ap length whole ∙ length-append (before ++ store on.0 q) (line x o) in
      let length_first = length-append before (store on.0 q) in
      let unclosed_all : NoneCloses ((before ++ store on.0 q) ++ line x o) = subst NoneCloses whole unclosed in
      let unclosed_first = none-left (before ++ store on.0 q) (line x o) unclosed_all in
      let unclosed_line = none-right (before ++ store on.0 q) (line x o) unclosed_all in
      let unclosed_store = none-right before (store on.0 q) unclosed_first in
      let onward : (c : ℕ) → c < s.vcs
      → IsOn lane k (worm_after (net.last_out on.0 q c))
      ⊎ (0 < length (packet_held lane k (net.buffer on.0 q c ++ on_channel c (net.out x o))))
      → (v : ℕ) × IsWithin s net lane k x p v =
      λ c c_there start. within_of x p c at
      (run_end lane k (net.buffer on.0 q c ++ on_channel c (net.out x o)) (worm_after (net.last_out on.0 q c))
      (upstream net x o c) (sound.links x o on.0 c linked)
      (subst NoneCloses (sym (packet-append lane k (net.buffer on.0 q c) (on_channel c (net.out x o))))
      (none-append (packet_held lane k (net.buffer on.0 q c)) (packet_held lane k (on_channel c (net.out x o)))
      (none-joined s.vcs c (λ v. packet_held lane k (net.buffer on.0 q v)) c_there unclosed_store)
      (none-on lane k c (net.out x o) unclosed_line)))
      start) in
      let order : (0 < length before) ⊎ ((0 < length (store on.0 q)) ⊎ (0 < length (line x o))) = grind arith in
      elim order [
        | inl far ↦
            let r = open_end n on.0 q next on.3 far (none-left before (store on.0 q) unclosed_first) in
            onward r.0 r.1.owned.0 (inl (r.1.flit, r.1.last, r.1.own_lane, r.1.own_packet))
        | inr near ↦ elim near [
          | inl stored ↦
              let r = some-joined s.vcs (λ v. packet_held lane k (net.buffer on.0 q v)) stored in
              let positive = r.2 in
              let sum = ap length (packet-append lane k (net.buffer on.0 q r.0) (on_channel r.0 (net.out x o)))
              ∙ length-append (packet_held lane k (net.buffer on.0 q r.0))
              (packet_held lane k (on_channel r.0 (net.out x o))) in
              onward r.0 r.1 (inr (omega arith))
          | inr linked_some ↦
              let r = first_channel lane k s.vcs (net.out x o)
              (in_range s mesh lane there k net sound hold x o) linked_some in
              let positive = r.2 in
              let sum = ap length (packet-append lane k (net.buffer on.0 q r.0) (on_channel r.0 (net.out x o)))
              ∙ length-append (packet_held lane k (net.buffer on.0 q r.0))
              (packet_held lane k (on_channel r.0 (net.out x o))) in
              onward r.0 r.1 (inr (omega arith))
        ]
      ]

  pub open_once : (x p : ℕ) → Enters s lane x p → IsOpenPast s net lane k x → OneWithinAt s net lane k x p
  open_once x p at h =
      let r = open_end (s.hops x lane.dst) x p at refl h.some h.unclosed in
      record {
        vc = r.0;
        within = r.1;
        alone = λ q w other. let same = hold.one x q w p r.0 other.flit r.1.flit other.last r.1.last
            (sym other.own_lane ∙ r.1.own_lane) (sym other.own_packet ∙ r.1.own_packet) in (same.0, same.1);
      }
