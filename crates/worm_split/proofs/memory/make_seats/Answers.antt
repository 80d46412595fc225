use Rattle.std.proofs.Common.{◌∷◌, [], List, length, length-append, ap, arith, subst, sym}
use Rattle.std.specs.Prelude.{All}
use Rattle.std.proofs.lemmas.List.Elements.{All-push}
use Rattle.worm_split.specs.declared.memory.Seat.{Seat}
use Rattle.worm_split.specs.Splits.{IsSeat}
use Rattle.worm_split.proofs.memory.make_seats.Goals as goal

pub loop-worker-preserved : goal.loop-worker-preserved
loop-worker-preserved c =
    let s = c.loop-worker in
    let seat = c.in_ok-make_seat.field-0 in
    let items = c.in_ok-push.ensures.items in
    let P = IsSeat c.args.net.now c.args.pairs.now.items in
    record {
      all = subst (λ (l : List Seat). All P l) (sym items)
          (All-push P s.seats.items seat s.invariant.all c.in_ok-make_seat.ensures);
      count = let longer = ap (λ (l : List Seat). length l) items in let count = s.invariant.count in
          omega (arith, length-append s.seats.items (seat ∷ []));
    }
