use Rattle.std.proofs.Common.{◌≡◌, ℕ, length, ap, arith, subst, sym, ◌∙◌}
use Rattle.worm_core.specs.Headline.{DeliversInOrder}
use Rattle.worm_region.specs.State.{IsNet}
use Rattle.worm_core.proofs.Headline.{delivers}
use Rattle.worm_split.specs.Apart.{Apart}
use Rattle.worm_split.specs.Ends.{pair_at}
use Rattle.worm_split.specs.Joins.{AreEmptied, AreOfOne, IsBetween, IsJoinOf, IsLaterThan}
use Rattle.worm_split.specs.Splits.{part_at}
use Rattle.worm_split.proofs.JoinResult.{is_join, is_later, joined_net, queues_meet, result}
use Rattle.worm_split.proofs.joining.join.Goals as goal

pub empty_pairs-requires : goal.empty_pairs-requires
empty_pairs-requires g c =
    let some = c.requires.some in
    let whole = c.gather-whole.result in
    let same : length c.args.parts.items ≡ c.len-workers.result = omega arith in
    record {
      workers = omega arith;
      queues = subst (λ (n : ℕ). (k : ℕ) → IsBetween n whole.ways k
          → AreOfOne (pair_at whole.pairs k).out (pair_at whole.pairs k).into) same
          (queues_meet c.args.parts.items c.requires whole c.gather-whole.ensures);
    }

pub from_parts-requires : goal.from_parts-requires
from_parts-requires g c =
    let whole = c.gather-whole.result in
    let links = c.empty_pairs.new.self.net.links in
    let count : c.len-workers.result ≡ length c.args.parts.items = omega arith in
    let e : AreEmptied (length c.args.parts.items) (length whole.ways) whole.ways whole.pairs whole.net.links links
    = subst (λ (n : ℕ). AreEmptied n (length whole.ways) whole.ways whole.pairs whole.net.links links) count
    c.empty_pairs.ensures.links in
    subst IsNet (sym (ap (λ (a : Apart). a.net) c.whole.view_is ∙ c.empty_pairs.ensures.rest))
    (joined_net c.args.parts.items c.requires whole c.gather-whole.ensures links e)

pub returns : goal.returns
returns g c =
    let parts = c.args.parts.items in
    let kept = c.gather-whole.result in
    let links = c.empty_pairs.new.self.net.links in
    let count : c.len-workers.result ≡ length parts = omega arith in
    let e : AreEmptied (length parts) (length kept.ways) kept.ways kept.pairs kept.net.links links
    = subst (λ (n : ℕ). AreEmptied n (length kept.ways) kept.ways kept.pairs kept.net.links links) count
    c.empty_pairs.ensures.links in
    let net = joined_net parts c.requires kept c.gather-whole.ensures links e in
    let same : result parts c.requires kept c.gather-whole.ensures links e ≡ c.from_parts.result =
    sym (c.from_parts.ensures ∙ (ap (λ (a : Apart). a.net) c.whole.view_is ∙ c.empty_pairs.ensures.rest)) in
    record {
      joined = subst (λ s. IsJoinOf parts s) same
          (is_join parts c.requires kept c.gather-whole.ensures links e);
      later = subst (λ s. IsLaterThan (part_at parts 0).opening s) same
          (is_later parts c.requires kept c.gather-whole.ensures links e);
      delivers = subst DeliversInOrder same (delivers
          (result parts c.requires kept c.gather-whole.ensures links e) net);
    }
