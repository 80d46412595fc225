use Rattle.std.proofs.Common.{◌≡◌, ◌⊎◌, ◌+◌, ◌-◌, ◌^◌, ◌&&◌, ◌||◌, ℕ, Bool, true, false, not, Some, cond, max, min}
use Rattle.std.proofs.Common.{ap, ◌∙◌}
use Rattle.std.proofs.Common.{inl, inr}
use Rattle.std.specs.Prelude.{is_some}
use Rattle.std.specs.BTreeMap as tree
use Rattle.std.specs.Ordering.{is_eq}
use Rattle.worm_picture.specs.Packets.{packet_cmp, moves_in, tail_in}
use Rattle.worm_picture.specs.declared.packets.Packets.{Packets}
use Rattle.worm_picture.specs.declared.packets.Packet.{Packet}
use Rattle.worm_picture.proofs.Moving.{counts_it, counts_none, given_sign, kept_sign, one_sign_more}
use Rattle.worm_picture.proofs.Tails.{one_flit_more}
use Rattle.worm_picture.proofs.packets.Packets.note.Goals as goal
use Rattle.worm_picture.proofs.packets.Packets.note.Goals.{then-moves+then-is_none, else-moves}
use Rattle.worm_picture.proofs.packets.Packets.note.Goals.{else-moves-via-then-moves+else-is_none}
use Rattle.worm_picture.proofs.packets.Packets.note.Goals.{else-moves-via-else-moves}

pub returns : goal.returns
returns c =
    let old = c.args.self.now in
    let packet = c.args.packet in
    let index = c.args.index in
    let moves = c.args.moves in
    let told = c.max.ensures ∙ ap (λ (k : Packet). max k.last index) c.get-known.ensures in
    let now = c.if-moves.known in
    let last : now.last ≡ max (tail_in old packet) index = elim c.if-moves.branch [
      | then-moves+then-is_none w ↦ ap (λ (k : Packet). k.last) w.known-is ∙ told
      | else-moves w ↦ ap (λ (k : Packet). k.last) w.known-is ∙ told
    ] in
    let kept : c.if-moves.self.packets ≡ old.packets = elim c.if-moves.branch [
      | then-moves+then-is_none w ↦ ap (λ (p : Packets). p.packets) w.self-is
      | else-moves w ↦ ap (λ (p : Packets). p.packets) w.self-is
    ] in
    let signed = is_some c.get-known.result.sign in
    let before : signed ≡ moves_in old packet = ap (λ (k : Packet). is_some k.sign) c.get-known.ensures in
    let counted : Bool → ℕ = λ b. cond (moves && not b) (min (old.moving + 1) (2 ^ 32 - 1)) old.moving in
    let sign : is_some now.sign ≡ (signed || moves) = elim c.if-moves.branch [
      | then-moves+then-is_none w ↦
          ap (λ (k : Packet). is_some k.sign) w.known-is ∙ given_sign moves signed w.if-moves.true
      | else-moves w ↦
          let why : (moves ≡ false) ⊎ (signed ≡ true) = elim w.else-moves.branch [
            | else-moves-via-then-moves+else-is_none v ↦ inr v.if-is_none.ensures
            | else-moves-via-else-moves v ↦ inl v.if-moves.false
          ] in
          ap (λ (k : Packet). is_some k.sign) w.known-is ∙ kept_sign moves signed why
    ] in
    let count : c.if-moves.self.moving ≡ counted signed = elim c.if-moves.branch [
      | then-moves+then-is_none w ↦
          ap (λ (p : Packets). p.moving) w.self-is ∙ w.saturating_add-self.ensures
          ∙ counts_it moves signed (min (old.moving + 1) (2 ^ 32 - 1)) old.moving w.if-moves.true w.if-is_none.ensures
      | else-moves w ↦
          let why : (moves ≡ false) ⊎ (signed ≡ true) = elim w.else-moves.branch [
            | else-moves-via-then-moves+else-is_none v ↦ inr v.if-is_none.ensures
            | else-moves-via-else-moves v ↦ inl v.if-moves.false
          ] in
          ap (λ (p : Packets). p.moving) w.self-is
          ∙ counts_none moves signed (min (old.moving + 1) (2 ^ 32 - 1)) old.moving why
    ] in
    let new : Packets = record { packets = c.insert.new.self; moving = c.if-moves.self.moving } in
    record {
      tails = λ other.
          one_flit_more old new packet other index now last
          (c.in_ok-insert.ensures.updates.0 other
          ∙ ap (λ t. cond (is_eq (packet_cmp packet other)) (Some now) (tree.get packet_cmp t other)) kept);
      signs = λ other.
          one_sign_more old new packet other moves now (sign ∙ ap (λ (b : Bool). b || moves) before)
          (c.in_ok-insert.ensures.updates.0 other
          ∙ ap (λ t. cond (is_eq (packet_cmp packet other)) (Some now) (tree.get packet_cmp t other)) kept);
      moving = count ∙ ap counted before;
    }
