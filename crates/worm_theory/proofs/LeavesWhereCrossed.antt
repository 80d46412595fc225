-- A route crosses a link exactly where the theory's flits of the lane leave by it.
use Rattle.std.proofs.Common.{ℕ, ◌≡◌, ◌*◌, ◌<◌, true, Some, List, [], ◌∷◌, ◌++◌, length, refl, ap, sym, ◌∙◌, subst}
use Rattle.std.proofs.Common.{append_assoc}
use Rattle.std.specs.Prelude.{◌↔◌}
use Rattle.worm_flit.specs.declared.Lane.{Lane}
use Rattle.worm_mesh.specs.Address.{node_count, neighbour_of, Joins}
use Rattle.worm_mesh.proofs.Digits.{AreLarge}
use Rattle.worm_mesh.proofs.Neighbours.{neighbour_of-some, Joins-from, Joins-port}
use Rattle.worm_route.specs.Route.{route_of, port_of}
use Rattle.worm_route.specs.Crossing.{crosses, Follows}
use Rattle.worm_route.proofs.Onward.{onward, begins, next_node, goes_further}
use Rattle.worm_route.proofs.CrossesWhereNext.{crosses_exactly, not_last, heads}
use Rattle.worm_theory.specs.Shape.{Shape, HasLane, Enters, at_source, by_link}
use Rattle.worm_theory.specs.ShapeOf.{shape_of}
use Rattle.worm_theory.specs.Standing.{LeavesBy}
use Rattle.worm_theory.proofs.Stands.{in_node}

module _ (ks counts : List ℕ) (depth : ℕ) (l : AreLarge ks) (lane : Lane)
    (there : HasLane (shape_of ks counts depth) lane) where
  abbrev shape : Shape
  shape = shape_of ks counts depth

  inside : {x p : ℕ} → Enters shape lane x p → x < node_count ks
  inside at = in_node ks counts depth l lane there at

  -- the route up to a node that it enters, and from there on
  so_far : {x p : ℕ} → Enters shape lane x p
      → (before : List ℕ) × (route_of ks lane.src lane.dst ≡ before ++ route_of ks x lane.dst)
  so_far at_source = ([], refl)
  so_far (by_link {x} {p} {y} from linked) =
      let up = so_far from in
      let ne = goes_further ks l x lane.dst y linked in
      let on = onward ks l x lane.dst (inside from) there.destination ne in
      let same = next_node ks l x lane.dst y (inside from) there.destination ne linked in (
        up.0 ++ x ∷ [],
        up.1 ∙ (ap (λ v. up.0 ++ v) (on.route ∙ ap (λ v. x ∷ route_of ks v lane.dst) same)
            ∙ sym (append_assoc up.0 (x ∷ []) (route_of ks y lane.dst))),
      )

  leaves_follows : (x port : ℕ) → LeavesBy shape lane x port → Follows ks x port lane.src lane.dst
  leaves_follows x port h =
      let at : neighbour_of ks x (port_of ks x lane.dst) ≡ Some h.to = rw h.by_port h.linked in
      let ne = goes_further ks l x lane.dst h.to at in
      let in_mesh = inside h.entered in
      let on = onward ks l x lane.dst in_mesh there.destination ne in
      let same = next_node ks l x lane.dst h.to in_mesh there.destination ne at in
      let joined = Joins-from ks x port h.to l h.linked in
      let up = so_far h.entered in
      let rest = begins ks l h.to lane.dst joined.to_node there.destination in
      record {
        to = h.to;
        joined = joined;
        before = up.0;
        later = rest.0;
        route = up.1 ∙ ap (λ v. up.0 ++ v) (on.route
            ∙ (ap (λ v. x ∷ route_of ks v lane.dst) same ∙ ap (λ v. x ∷ v) rest.1));
      }

  -- two nodes that follow one another in the route from s
  walks : (before : List ℕ) (s p x to : ℕ) (later : List ℕ) → s < node_count ks → Enters shape lane s p
      → route_of ks s lane.dst ≡ before ++ x ∷ to ∷ later
      → (q : ℕ) × Enters shape lane x q × Joins ks x (port_of ks x lane.dst) to
  walks [] s p x to later in_mesh from e =
      let on = onward ks l s lane.dst in_mesh there.destination
      (not_last ks l [] s lane.dst x to later there.destination e) in
      let rest = begins ks l on.to lane.dst on.joined.to_node there.destination in
      let first = heads s x (route_of ks on.to lane.dst) (to ∷ later) (sym on.route ∙ e) in
      let second = heads on.to to rest.0 later (sym rest.1 ∙ first.1) in
      (p, subst (λ v. Enters shape lane v p) first.0 from, rw (← first.0, ← second.0) on.joined)
  walks (a ∷ before) s p x to later in_mesh from e =
      let on = onward ks l s lane.dst in_mesh there.destination
      (not_last ks l (a ∷ before) s lane.dst x to later there.destination e) in
      let first = heads s a (route_of ks on.to lane.dst) (before ++ x ∷ to ∷ later) (sym on.route ∙ e) in
      walks before on.to (shape.opposite (port_of ks s lane.dst)) x to later on.joined.to_node
      (by_link {p = p} from (neighbour_of-some ks s (port_of ks s lane.dst) on.to l on.joined)) first.1

  follows_leaves : (x port : ℕ) → Follows ks x port lane.src lane.dst → LeavesBy shape lane x port
  follows_leaves x port h =
      let w = walks h.before lane.src (2 * length ks) x h.to h.later there.source at_source h.route in
      let same = Joins-port ks x (port_of ks x lane.dst) port h.to w.2 h.joined in
      record {
        from_port = w.0;
        entered = w.1;
        by_port = same;
        to = h.to;
        linked = neighbour_of-some ks x port h.to l h.joined;
      }

  pub crosses_leaves : (x port : ℕ) → (crosses ks x port lane.src lane.dst ≡ true) ↔ LeavesBy shape lane x port
  crosses_leaves x port =
      let exact = crosses_exactly ks l x port lane.src lane.dst there.source there.destination in
      (λ h. follows_leaves x port (exact.0 h), λ h. exact.1 (leaves_follows x port h))
