use Rattle.std.proofs.Common.{◌≡◌, ◌≤◌, ◌+◌, ◌++◌, [], ◌∷◌, ℕ, List, zero, suc, refl, ap, ◌∙◌, take, slice_get, Some}
use Rattle.std.proofs.Common.{length, vec_len, vec_capacity, arith, append_assoc, IsOk, is_ok, take_all, Result, Ok}
use Rattle.std.proofs.Common.{Err, if◌then◌else◌, add-one}
use Rattle.worm_flit.specs.Packets.{packet_flits}
use Rattle.worm_flit.proofs.Packets.{length-packet_flits}
use Rattle.worm_term.proofs.queue.push_flits.Goals as goal

take-next : {X : Type 0} (xs : List X) (i : ℕ) (x : X) → slice_get xs i ≡ Some x → take (suc i) xs ≡ take i xs ++ x ∷ []
take-next [] i x is = cc
take-next (y ∷ ys) zero x is = let e : y ≡ x = cc in rw e refl
take-next (y ∷ ys) (suc i) x is = ap (λ zs. y ∷ zs) (take-next ys i x is)

if_pushed : {T E X : Type 0} (r : Result T E) (old new : List X) (x : X) → IsOk r
    → new ≡ (if is_ok r then old ++ x ∷ [] else old) → new ≡ old ++ x ∷ []
if_pushed (Ok v) old new x ok is = is
if_pushed (Err e) old new x ok is = cc

pub loop-i-preserved : goal.loop-i-preserved
loop-i-preserved c =
    let ok : IsOk c.push.result = c.push.ensures.succeeds (omega arith) in
    let pushed : c.push.new.self.items ≡ c.loop-i.flits.items ++ c.flit_at.result ∷ [] =
    if_pushed c.push.result c.loop-i.flits.items c.push.new.self.items c.flit_at.result ok c.push.ensures.items in
    let capacity : vec_capacity c.loop-i.flits ≤ vec_capacity c.push.new.self = c.push.ensures.capacity in
    let longer : vec_len c.push.new.self ≤ vec_len c.loop-i.flits + 1 = c.push.ensures.upper_bound in (
      rw (
        add-one,
        take-next (packet_flits c.args.packet.now.lane c.args.number c.args.packet.now.words) c.loop-i.i
            c.flit_at.result c.flit_at.ensures,
        ← append_assoc,
        ← c.loop-i.invariant.0,
      ) pushed,
      omega arith,
    )

pub returns-clause-ok : goal.returns-clause-ok
returns-clause-ok c =
    let same : length (packet_flits c.args.packet.now.lane c.args.number c.args.packet.now.words) ≤ c.loop-i.i = let n =
    length-packet_flits c.args.packet.now.lane c.args.number c.args.packet.now.words in
    let words : length c.words.result.now ≡ length c.args.packet.now.words = ap length c.words.ensures.value in
    omega arith in
    c.loop-i.invariant.0 ∙ ap (λ zs. c.args.flits.now.items ++ zs)
    (take_all c.loop-i.i (packet_flits c.args.packet.now.lane c.args.number c.args.packet.now.words) same)
