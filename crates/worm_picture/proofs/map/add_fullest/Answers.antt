use Rattle.std.proofs.Common.{◌-◌, ℕ, string_bytes, subst}
use Rattle.worm_picture.specs.Map.{ListsBuffers, buffers_with}
use Rattle.worm_picture.proofs.Listed.{lists_none, lists_one_number_more}
use Rattle.worm_picture.proofs.map.add_fullest.Goals as goal

pub loop-lack-init : goal.loop-lack-init
loop-lack-init c = lists_none c.args.mesh.now 12 (string_bytes c.args.map.now)

pub loop-lack-preserved : goal.loop-lack-preserved
loop-lack-preserved c =
    lists_one_number_more c.args.mesh.now (λ (lack : ℕ). buffers_with c.args.views.now (c.args.depth - lack)) 12
    c.loop-lack.left _ c.loop-lack.lack (string_bytes c.args.map.now) (string_bytes c.loop-lack.map)
    (string_bytes c.add_all_with.new.map) c.loop-lack.invariant
    (subst (λ (n : ℕ). ListsBuffers c.args.mesh.now c.loop-lack.left (buffers_with c.args.views.now n)
    (string_bytes c.loop-lack.map) (string_bytes c.add_all_with.new.map) c.in_ok-left.left) c.from.ensures
    c.in_ok-left.ensures)
