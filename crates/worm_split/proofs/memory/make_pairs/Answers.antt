use Rattle.std.proofs.Common.{◌≡◌, ◌∷◌, [], ℕ, List, length, length-append, ap, arith, subst}
use Rattle.std.proofs.lemmas.List.{get_or_read}
use Rattle.worm_mesh.specs.declared.mesh.LinkEnds.{LinkEnds}
use Rattle.worm_split.specs.declared.ends.EndPair.{EndPair}
use Rattle.worm_split.specs.Ends.{no_pair}
use Rattle.worm_split.specs.Exchange.{way_at}
use Rattle.worm_split.specs.Splits.{IsPairMade}
use Rattle.worm_split.proofs.MadeSoFar.{each_push}
use Rattle.worm_split.proofs.memory.make_pairs.Goals as goal

pub loop-k-preserved : goal.loop-k-preserved
loop-k-preserved c =
    let s = c.loop-k in
    let pair = c.in_ok-make_pair_of.field-0 in
    let ways = c.args.ways.now.items in
    let net = c.args.net.now in
    let items = c.in_ok-push.ensures.items in
    let count = s.invariant.count in
    let way : c.index-way.result.now ≡ way_at ways s.k = get_or_read ways s.k c.index-way.result.now
    (omega arith) c.index-way.ensures _ in
    record {
      count = let longer = ap (λ (l : List EndPair). length l) items in
          omega (arith, length-append s.pairs.items (pair ∷ []));
      each = each_push (λ (k : ℕ) (l : EndPair). IsPairMade net c.args.workers
          (way_at ways k) l) no_pair s.pairs.items c.push.new.self.items pair s.k
          count items s.invariant.each (subst (λ
          (w : LinkEnds). IsPairMade net c.args.workers w pair) way c.in_ok-make_pair_of.ensures);
    }
