use Rattle.std.proofs.Common.{ℕ, ◌≡◌, ◌&&◌, Bool, true, false, not, Option, Some, None, is_none, is_some}
use Rattle.std.proofs.Common.{ap, refl, ◌∙◌}
use Rattle.worm_flit.specs.Channels.{owns}
use Rattle.worm_records.specs.declared.OutRecord.{OutRecord}
use Rattle.worm_router.specs.Router.{RouterState, output_at}
use Rattle.worm_router.proofs.Places.{output_read}
use Rattle.worm_router.proofs.router.Router.is_free_for.Goals as goal

is_none_by : (h : Option (ℕ × ℕ)) (b : Bool) → is_some h ≡ not b → b ≡ is_none h
is_none_by None true e = refl
is_none_by None false e = absurd (cc)
is_none_by (Some x) false e = refl
is_none_by (Some x) true e = absurd (cc)

pub returns : goal.returns
returns c =
    let out = output_at c.args.self.now c.args.out c.args.out_vc in
    let read : c.index.result.now ≡ out =
    output_read _ c.args.self.now c.args.out c.args.out_vc c.line.result c.index.result.now c.self.view_is
    c.index.ensures c.line.ensures.value c.line.ensures.in_outputs in
    ap (λ b. b && c.owns-is_its.result)
    (is_none_by c.index.result.now.holder c.is_none-is_free.result c.is_none-is_free.ensures
    ∙ ap (λ (u : OutRecord). is_none u.holder) read)
    ∙ ap (λ b. is_none out.holder && b)
    (c.owns-is_its.ensures ∙ ap (λ (q : RouterState). owns q.channels c.args.class c.args.out_vc) c.self.view_is)
