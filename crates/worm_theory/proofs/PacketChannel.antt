-- The flits of one packet are on one channel of a port.
use Rattle.std.proofs.Common.{◌≡◌, ℕ, ◌+◌, ◌<◌, ◌≤◌, inl, inr, ◌==◌, List, [], ◌∷◌, ◌++◌, length, refl, sym, ap, ◌∙◌}
use Rattle.std.proofs.Common.{arith}
use Rattle.worm_flit.specs.declared.Lane.{Lane}
use Rattle.worm_flit.specs.declared.Flit.{Flit}
use Rattle.worm_flit.specs.Stamps.{on_channel}
use Rattle.worm_theory.specs.Worm.{Worm, Within, Runs}
use Rattle.worm_theory.specs.PacketCut.{packet_held, joined}
use Rattle.worm_theory.proofs.Places.{bool_cases}
use Rattle.worm_theory.proofs.PacketLists.{packet_one, packet-cons, packet-append, first_of_packet, zeros, zeros-append}
use Rattle.worm_theory.proofs.PacketLists.{zeros-first, zeros-le-one, zeros-after, joined-two, IsIndexed}

-- the packet's flits on one channel of a link are among those on the link
pub zeros-on_channel : (lane : Lane) (k v : ℕ) (fs : List Flit)
    → zeros (packet_held lane k (on_channel v fs)) ≤ zeros (packet_held lane k fs)
zeros-on_channel lane k v [] = omega arith
zeros-on_channel lane k v (f ∷ fs) =
    let less = zeros-on_channel lane k v fs in
    let all = ap zeros (packet-cons lane k f fs) ∙ zeros-append (packet_one lane k f) (packet_held lane k fs) in
    elim (bool_cases (v == f.vc)) [
      | inl on ↦
          let part : packet_held lane k (on_channel v (f ∷ fs)) ≡ packet_one lane k f
          ++ packet_held lane k (on_channel v fs) = rw on (packet-cons lane k f (on_channel v fs)) in
          let some = ap zeros part ∙ zeros-append (packet_one lane k f) (packet_held lane k (on_channel v fs)) in
          omega arith
      | inr off ↦
          let part : packet_held lane k (on_channel v (f ∷ fs)) ≡ packet_held lane k (on_channel v fs) = rw off in
          let some = ap zeros part in
          omega arith
    ]

-- Where a channel of a port has a flit of the packet, in its buffer or coming, no other buffer of the port has one.
module _ (lane : Lane) (k : ℕ) (before store line rest : List Flit)
    (indexed : IsIndexed 0 (before ++ (store ++ (line ++ rest)))) (m : ℕ) (buffers : ℕ
    → List Flit) (store_is : store ≡ joined m (λ u. packet_held lane k (buffers u)))
    (v w : ℕ) (v_there : v < m) (w_there : w < m) (apart : v ≡ w → ⊥)
    (coming_v coming_w : List Flit) (from_v from_w to_v to_w : Worm) (runs_v : Runs from_v (buffers v ++ coming_v) to_v)
    (runs_w : Runs from_w (buffers w ++ coming_w) to_w) (comes : zeros (packet_held lane k coming_v) ≤ zeros line)
    (past_v : (g : Flit) → from_v ≡ Within g → lane ≡ g.lane → k ≡ g.packet → 0 < length before) (past_w : (g : Flit)
    → from_w ≡ Within g → lane ≡ g.lane → k ≡ g.packet → 0 < length before)
    (one : (g g2 : Flit) → from_v ≡ Within g → from_w ≡ Within g2 → lane ≡ g.lane → k ≡ g.packet → lane ≡ g2.lane
    → k ≡ g2.packet → ⊥)
    (a : Flit) (as' : List Flit) (has : packet_held lane k (buffers v ++ coming_v) ≡ a ∷ as') where
  all_zeros : zeros (before ++ (store ++ (line ++ rest))) ≡ zeros before + (zeros store + (zeros line + zeros rest))
  all_zeros = rw (
    zeros-append before (store ++ (line ++ rest)),
    zeros-append store (line ++ rest),
    zeros-append line rest,
  )

  stored : zeros (packet_held lane k (buffers v)) + zeros (packet_held lane k (buffers w)) ≤ zeros store
  stored = rw store_is (joined-two m v w (λ u. packet_held lane k (buffers u)) v_there w_there apart)

  none_behind : 0 < length before → zeros store + (zeros line + zeros rest) ≡ 0
  none_behind some =
      let none = zeros-after before (store ++ (line ++ rest)) indexed some in
      let sum = zeros-append store (line ++ rest) in
      let sum2 = zeros-append line rest in
      omega arith

  first_v : a.index ≡ 0 → 0 < zeros (packet_held lane k (buffers v)) + zeros (packet_held lane k coming_v)
  first_v e =
      let some = zeros-first a as' e in
      let sum = ap zeros (sym has ∙ packet-append lane k (buffers v) coming_v)
      ∙ zeros-append (packet_held lane k (buffers v)) (packet_held lane k coming_v) in
      omega arith

  none_at : (hw : List Flit) → packet_held lane k (buffers w) ≡ hw → packet_held lane k (buffers w) ≡ []
  none_at [] e = e
  none_at (b ∷ bs) e =
      let whole : packet_held lane k (buffers w ++ coming_w) ≡ b ∷ (bs ++ packet_held lane k coming_w) =
      packet-append lane k (buffers w) coming_w ∙ ap (λ gs. gs ++ packet_held lane k coming_w) e in
      let two = stored in
      let total = all_zeros in
      let once = zeros-le-one (before ++ (store ++ (line ++ rest))) indexed in
      let w_zeros : b.index ≡ 0 → 0 < zeros (packet_held lane k (buffers w)) = λ z. rw e (zeros-first b bs z) in
      elim (first_of_packet lane k (buffers v ++ coming_v) from_v to_v a as' runs_v has) [
        | inl opens_v ↦
            let some_v = first_v opens_v in
            elim (first_of_packet lane k (buffers w ++ coming_w) from_w to_w b
            (bs ++ packet_held lane k coming_w) runs_w whole) [
              | inl opens_w ↦ let some_w = w_zeros opens_w in absurd (omega arith)
              | inr on_w ↦ let none = none_behind (past_w on_w.0 on_w.1 on_w.2 on_w.3) in absurd (omega arith)
            ]
        | inr on_v ↦
            elim (first_of_packet lane k (buffers w ++ coming_w) from_w to_w b
            (bs ++ packet_held lane k coming_w) runs_w whole) [
              | inl opens_w ↦ let some_w = w_zeros opens_w in let none =
                  none_behind (past_v on_v.0 on_v.1 on_v.2 on_v.3) in absurd (omega arith)
              | inr on_w ↦ absurd (one on_v.0 on_w.0 on_v.1 on_w.1 on_v.2 on_v.3 on_w.2 on_w.3)
            ]
      ]

  pub only_channel : packet_held lane k (buffers w) ≡ []
  only_channel = none_at (packet_held lane k (buffers w)) refl
