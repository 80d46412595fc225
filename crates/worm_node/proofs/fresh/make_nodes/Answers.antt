use Rattle.std.proofs.Common.{◌≡◌, ℕ, ◌++◌, ◌∷◌, [], List, None, ap, arith, length, length-append}
use Rattle.std.proofs.Common.{subst, sym, ◌∙◌}
use Rattle.std.proofs.lemmas.List.{get_or-set_other, get_or_default, length-set}
use Rattle.worm_node.specs.NewNodes.{AreFresh}
use Rattle.worm_node.specs.NewNodes.{fresh_node}
use Rattle.worm_node.specs.declared.node.Node.{Node}
use Rattle.worm_node.proofs.Pushed.{fresh_push}
use Rattle.worm_node.proofs.fresh.make_nodes.Goals as goal

-- what stood in the place
taken : (c : goal.In_ok-push)
    → c.in-Some.node ≡ fresh_node c.args.mesh.now c.args.channels.now c.args.depth c.loop-x.x
taken c =
    let all = c.loop-x.invariant.all in
    let before = c.in_ok-places.ensures.places in
    let left = c.loop-x.invariant.left c.loop-x.x (omega arith) (omega (arith, before)) in
    let read =
    get_or_default c.loop-x.places.items c.loop-x.x c.index_mut.result.now None (omega (arith, all, before)) in
    let value = c.index_mut.ensures.value in
    let now = c.in-Some.ensures.value in
    let some = c.in-Some.is in
    cc

pub loop-x-preserved : goal.loop-x-preserved
loop-x-preserved c =
    let xs = c.loop-x.nodes.items in
    let mesh = c.args.mesh.now in
    let channels = c.args.channels.now in
    let depth = c.args.depth in
    let inv = c.loop-x.invariant in
    let counted = inv.counted in
    let fresh = fresh_node mesh channels depth (length xs) in
    let items : c.push.new.self.items ≡ xs ++ fresh ∷ [] =
    c.in_ok-push.ensures.items
    ∙ ap (λ (n : Node). xs ++ n ∷ []) (taken c ∙ ap (λ (n : ℕ). fresh_node mesh channels depth n) (sym counted)) in
    record {
      all = length-set c.loop-x.places.items c.loop-x.x c.take.new.self ∙ inv.all;
      counted = let longer = ap (λ (ys : List Node). length ys) items in
          omega (arith, longer, counted, length-append xs (fresh ∷ []));
      fresh = subst (AreFresh mesh channels depth) (sym items) (fresh_push mesh channels depth xs inv.fresh);
      left = λ y later within.
          get_or-set_other c.loop-x.places.items c.loop-x.x y c.take.new.self None (λ e. omega (arith, later, e))
          ∙ inv.left y (omega (arith, later)) within;
    }
