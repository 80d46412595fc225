use Rattle.std.proofs.Common.{◌≡◌, ℕ, ◌+◌, ◌*◌, ◌%◌, ◌<◌, length, Option, Some, None, arith, ap, sym, subst, refl, ◌∙◌}
use Rattle.std.proofs.lemmas.Bool.Decides.{nat_tests}
use Rattle.worm_mesh.specs.Address.{neighbour_of, stride_of}
use Rattle.worm_region.specs.declared.owner.Owner.{Owner}
use Rattle.worm_wires.proofs.StepsAdd.{step_from_zero}
use Rattle.worm_split.specs.PartState.{PartState}
use Rattle.worm_split.proofs.part.Part.leads_away.Goals as goal

pub unreachable-requires : goal.unreachable-requires
unreachable-requires c =
    let mesh = c.self.inside.region.mesh in
    let there : c.args.dim < length mesh =
    subst (λ (p : PartState). c.args.dim < length p.net.mesh) (sym c.self.view_is) c.requires in
    let one = step_from_zero mesh c.args.dim (2 * c.args.dim + 1) c.recall.ensures.framed.radices there refl in
    let is : c.neighbour.result ≡ Some (stride_of mesh c.args.dim) =
    c.neighbour.ensures.value ∙ ((λ t. neighbour_of (c.mesh.ensures t) 0 (2 * c.args.dim + 1)) ∙ one) in
    let none : ◌≡◌ {A = Option ℕ} None (Some (stride_of mesh c.args.dim)) = sym c.in_default.is ∙ is in
    absurd (cc)

pub returns : goal.returns
returns c = λ no.
    let net = c.self.inside.region in
    let mesh = net.mesh in
    let there : c.args.dim < length mesh =
    subst (λ (p : PartState). c.args.dim < length p.net.mesh) (sym c.self.view_is) c.requires in
    let one = step_from_zero mesh c.args.dim (2 * c.args.dim + 1) c.recall.ensures.framed.radices there refl in
    let is : c.neighbour.result ≡ Some (stride_of mesh c.args.dim) =
    c.neighbour.ensures.value ∙ ((λ t. neighbour_of (c.mesh.ensures t) 0 (2 * c.args.dim + 1)) ∙ one) in
    let found : ◌≡◌ {A = Option ℕ} (Some c.in-Some.beyond) (Some (stride_of mesh c.args.dim)) = sym c.in-Some.is ∙ is in
    let same : c.in-Some.beyond ≡ stride_of mesh c.args.dim = cc in
    let size : stride_of mesh c.args.dim ≡ c.from.result = sym same ∙ sym c.from.ensures in
    let count : net.own.workers ≡ c.own.result.workers = sym (ap (λ (w : Owner). w.workers) c.own.ensures) in
    let rest : c.from.result % c.own.result.workers ≡ 0 = grind (arith, nat_tests) in
    subst (λ (p : PartState). stride_of p.net.mesh c.args.dim % p.net.own.workers ≡ 0) c.self.view_is
    ((λ t. (size t) % (count t)) ∙ rest)
