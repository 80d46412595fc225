-- Credits are given by the ports of a part's node that owe one, across or within, and what any other port owes stays.
use Rattle.std.proofs.Common.{◌≡◌, ℕ, ◌+◌, ◌*◌, ◌<◌, inl, inr, length, sum}
use Rattle.std.proofs.Common.{Option, Some, None, refl, arith, ap, sym, subst}
use Rattle.std.specs.List.{range_with_len}
use Rattle.std.specs.Option.{option_to_list}
use Rattle.worm_vcalloc.specs.ChannelSet.{IsFirstPort, IsLowest}
use Rattle.worm_mesh.specs.Address.{node_count}
use Rattle.worm_router.specs.Router.{width, after_gave}
use Rattle.worm_region.specs.Shape.{net_shape}
use Rattle.worm_region.specs.State.{NetState, router_at, with_router}
use Rattle.worm_region.specs.Moves.{OwesTheSame}
use Rattle.worm_region.specs.Turns.{Each}
use Rattle.worm_region.specs.Turns.{lowest_owed}
use Rattle.worm_region.specs.Workable.{IsWorkable}
use Rattle.worm_region.proofs.LowestGiven.{Owing, gave_elsewhere, give_elsewhere, owing_more, owing_next}
use Rattle.worm_region.proofs.LowestGiven.{owing_place, router_size}
use Rattle.worm_split.specs.PartState.{PartState, IsSamePart}
use Rattle.worm_split.specs.PartTurns.{Gives, GivesCredit}
use Rattle.worm_region.proofs.Passages.{each_one}
use Rattle.worm_split.proofs.PartLoops.{of_more, same_on}

-- What the other ports owe

-- a credit that went by a link to another worker's node is owed no more, and nothing else of the router changed
went_elsewhere : (a b : NetState) (x q c : ℕ) → IsWorkable a → x < node_count a.mesh → q < 2 * length a.mesh
    → c < sum a.channels → b ≡ with_router a x (after_gave (router_at a x) q c) → (p v : ℕ) → (p ≡ q → ⊥)
    → v < width (router_at b x) → OwesTheSame a b x p v
went_elsewhere a b x q c net x_in q_in c_in went p v away =
    let all = net.framed.all_nodes in
    let size = router_size a x net x_in in
    subst (λ (s : NetState). v < width (router_at s x) → OwesTheSame a s x p v) (sym went)
    (gave_elsewhere a x q c p v net (omega arith) (omega (arith, size.0)) (omega (arith, size.1)) away)

gives_elsewhere : (x q c : ℕ) (a b : PartState) → IsWorkable a.net → x < node_count a.net.mesh
    → q < 2 * length a.net.mesh → c < sum a.net.channels → Gives x q c a None b → (p v : ℕ) → (p ≡ q → ⊥)
    → v < width (router_at b.net x) → OwesTheSame a.net b.net x p v
gives_elsewhere x q c a b net x_in q_in c_in gives p v away within = elim gives [
  | inl across ↦ elim across.1.answer [
    | inl went ↦
        let net_is = ap (λ (s : PartState). s.net) went in
        went_elsewhere a.net b.net x q c net x_in q_in c_in net_is p v away within
    | inr stayed ↦
        subst (λ (s : NetState). v < width (router_at s x) → OwesTheSame a.net s x p v)
        (sym (ap (λ (s : PartState). s.net) stayed.0)) (λ there. record { there = there; owed = refl }) within
  ]
  | inr inside ↦
      let tried = inside.1.0 in
      give_elsewhere a.net b.net x q c tried.0 net tried.1 p v away within
]

-- The ports below one are passed. A port whose credit came back is passed too: it still owes, and is not asked again in
-- this turn.
pub record Given (x : ℕ) (a b : PartState) (p : ℕ) : Type 0 where
  pub each : Each (GivesCredit x) (range_with_len 0 p) a None b
  pub same : IsSamePart a b

-- as far as one that owes none
pub given_still : (x : ℕ) (a b : PartState) (p : ℕ) → None ≡ lowest_owed (router_at b.net x) p → Given x a b p
    → Given x a b (p + 1)
given_still x a b p none given = record {
  each = of_more (GivesCredit x) p a b b given.each
      (subst (λ (vc : Option ℕ). Each (Gives x p) (option_to_list vc) b None b) none (refl, refl));
  same = given.same;
}

one_gives : (x q c : ℕ) (b d : PartState) → Some c ≡ lowest_owed (router_at b.net x) q → Gives x q c b None d
    → GivesCredit x q b None d
one_gives x q c b d lowest gives =
    subst (λ (vc : Option ℕ). Each (Gives x q) (option_to_list vc) b None d) lowest
    (each_one (Gives x q) c b d None gives)

-- how far the ports have come
abbrev pub Gave : ℕ → PartState → PartState → ℕ → Type 0
Gave x a b owing = Owing (Given x a b) x (2 * length a.net.mesh) owing b.net

pub gave_more : (x : ℕ) (a b d : PartState) (owing new q c : ℕ) → Gave x a b owing → IsFirstPort owing new q
    → IsLowest owing q c → Gives x q c b None d → IsSamePart b d → IsWorkable d.net → Gave x a d new
unfolding net_shape
gave_more x a b d owing new q c gave first lowest gives same sound =
    let next = owing_next gave first lowest in
    let place = owing_place gave first in
    let ports = gave.ports in
    owing_more gave (given_still x a b) first d.net same.config sound
    (λ given. record {
      each = of_more (GivesCredit x) q a b d given.each (one_gives x q c b d next.lowest gives);
      same = same_on a b d given.same same;
    })
    (gives_elsewhere x q c b d gave.sound gave.there (omega (arith, place.1)) next.there.2 gives)
