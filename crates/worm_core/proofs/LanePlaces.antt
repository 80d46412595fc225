-- The places of a lane, walked link by link: those past a node are those past the next one, then its buffer and the
-- link to it.
use Rattle.std.proofs.Common.{ℕ, ◌≡◌, ◌+◌, ◌*◌, ◌<◌, List, [], ◌∷◌, ◌++◌, length, reverse, take, arith, ap, sym, ◌∙◌}
use Rattle.std.proofs.Common.{length-append, append_assoc}
use Rattle.std.specs.Prelude.{flat_map}
use Rattle.std.proofs.Math.Seq.{take-append-add, take-append_seam}
use Rattle.std.proofs.lemmas.List.{reverse-append, append-nil}
use Rattle.std.proofs.lemmas.List.Concat.{flat_map-append}
use Rattle.worm_mesh.specs.Address.{node_count, opposite_of, Joins}
use Rattle.worm_mesh.specs.declared.mesh.LinkEnds.{LinkEnds}
use Rattle.worm_mesh.proofs.Digits.{AreLarge}
use Rattle.worm_mesh.proofs.Neighbours.{neighbour_of-some}
use Rattle.worm_route.specs.Route.{route_of, port_of, hops_of}
use Rattle.worm_route.specs.Places.{Place, Source, Buffer, Link, places_of}
use Rattle.worm_route.proofs.Onward.{onward, next_node, hops_nearer, hops_arrived}
use Rattle.worm_route.proofs.PlacesByNode.{ArePlaces-of}
use Rattle.worm_route.proofs.Track.{IsWay-route}
use Rattle.worm_theory.proofs.Joined.{between, between-all, between-push}
use Rattle.worm_theory.proofs.PastPlaces.{nearer, between-nearer}
use Rattle.worm_region.specs.NextLink.{IsNextLink}
use Rattle.worm_core.specs.LaneView.{places_past}

module _ (ks : List ℕ) (l : AreLarge ks) (dst : ℕ) (dst_in : dst < node_count ks) where
  -- the nodes of the route from x, from the last to the first
  abbrev way : ℕ → List ℕ
  way x = reverse (route_of ks x dst)

  -- those that the route has past node x, then its own two
  split : (x : ℕ) → x < node_count ks → places_of ks x dst ≡ nearer ks dst (way x)
      ++ Buffer x (2 * length ks) ∷ Source ∷ []
  split x x_in =
      let goes = IsWay-route ks l x dst x_in dst_in in
      sym (between-all ks dst dst (way x) goes.begins)
      ∙ between-nearer ks dst (2 * length ks) x (Source ∷ []) (way x) goes.ends

  past_is : (x : ℕ) → x < node_count ks → places_past ks x dst ≡ nearer ks dst (way x)
  past_is x x_in =
      let front = nearer ks dst (way x) in
      let two = Buffer x (2 * length ks) ∷ Source ∷ [] in
      let count = (ArePlaces-of ks l x dst x_in dst_in).count in
      let both : length (places_of ks x dst) ≡ length (nearer ks dst (way x)) + 2 =
      ap length (split x x_in) ∙ length-append front two in
      let length_is : 2 * hops_of ks x dst ≡ length (nearer ks dst (way x)) = omega arith in
      (λ t. take (length_is t) (split x x_in t)) ∙ take-append_seam front two

  -- the places of the lanes from x are those past x, its injection buffer and its source
  pub places_split : (x : ℕ) → x < node_count ks
      → places_of ks x dst ≡ places_past ks x dst ++ Buffer x (2 * length ks) ∷ Source ∷ []
  places_split x x_in = split x x_in ∙ ap (λ ps. ps ++ Buffer x (2 * length ks) ∷ Source ∷ []) (sym (past_is x x_in))

  -- at the destination there are none
  pub past_arrived : (x : ℕ) → x ≡ dst → places_past ks x dst ≡ []
  past_arrived x same =
      let none : 2 * hops_of ks x dst ≡ 0 = omega (arith, hops_arrived ks l dst, ap (λ v. hops_of ks v dst) same) in
      ap (λ (n : ℕ). take n (places_of ks x dst)) none

  -- else they are those past the next node, its buffer and the link to it
  module _ (x : ℕ) (x_in : x < node_count ks) (link : LinkEnds) (next : IsNextLink ks x dst link) where
    to_is : (onward ks l x dst x_in dst_in next.further).to ≡ link.to
    to_is =
        let joined : Joins ks x (port_of ks x dst) link.to = rw (← next.by_port) next.joined in
        next_node ks l x dst link.to x_in dst_in next.further
        (neighbour_of-some ks x (port_of ks x dst) link.to l joined)

    pub hops_fall : hops_of ks link.to dst < hops_of ks x dst
    hops_fall =
        let less = hops_nearer ks l x dst x_in dst_in next.further in
        let same = ap (λ (y : ℕ). hops_of ks y dst) to_is in
        omega arith

    pub past_next : places_past ks x dst ≡ places_past ks link.to dst
        ++ Buffer link.to link.in_port ∷ Link x link.out_port ∷ []
    past_next =
        let y = link.to in
        let y_in = next.joined.to_node in
        let port = port_of ks x dst in
        let on = onward ks l x dst x_in dst_in next.further in
        let goes = IsWay-route ks l y dst y_in dst_in in
        let past = nearer ks dst (way y) in
        let ends = Link x port ∷ Buffer x (2 * length ks) ∷ Source ∷ [] in
        let two = Buffer x (2 * length ks) ∷ Source ∷ [] in
        let route : route_of ks x dst ≡ x ∷ route_of ks y dst =
        on.route ∙ ap (λ (v : ℕ). x ∷ route_of ks v dst) to_is in
        let nodes : way x ≡ way y ++ x ∷ [] = ap reverse route ∙ reverse-append (x ∷ []) (route_of ks y dst) in
        let whole_way = IsWay-route ks l x dst x_in dst_in in
        let whole : places_of ks x dst ≡ past ++ Buffer y (opposite_of port) ∷ ends =
        sym (between-all ks dst dst (way x) whole_way.begins) ∙ (
        ap (between ks dst (2 * length ks) (Source ∷ [])) nodes ∙ (
        between-push ks dst (2 * length ks) dst x (Source ∷ []) (way y) goes.begins ∙
        between-nearer ks dst (opposite_of port) y ends (way y) goes.ends)) in
        let count = (ArePlaces-of ks l x dst x_in dst_in).count in
        let both : length (places_of ks x dst) ≡ length past + 4 =
        ap length whole ∙ length-append past (Buffer y (opposite_of port) ∷ ends) in
        let length_is : 2 * hops_of ks x dst ≡ length past + 2 = omega arith in
        let entered : opposite_of port ≡ link.in_port = ap opposite_of (sym next.by_port) ∙ sym next.entered in
        let taken : places_past ks x dst ≡ past ++ Buffer y (opposite_of port) ∷ Link x port ∷ [] =
        (λ t. take (length_is t) (whole t)) ∙ take-append-add past (Buffer y (opposite_of port) ∷ ends) 2 in
        let named : past ++ Buffer y (opposite_of port) ∷ Link x port ∷ [] ≡ past
        ++ Buffer y link.in_port ∷ Link x link.out_port ∷ [] =
        λ t. past ++ Buffer y (entered t) ∷ Link x (sym next.by_port t) ∷ [] in
        taken ∙ (named ∙ ap (λ ps. ps ++ Buffer y link.in_port ∷ Link x link.out_port ∷ []) (sym (past_is y y_in)))

-- what these hold of a lane, added after what was there
pub past_held : {H : Type 0} (holds : Place
    → List H) (start before between_them after line : List H) (past : List Place) (buffer link : Place)
    (places : List Place)
    → before ≡ start ++ flat_map holds past → between_them ≡ before ++ holds buffer → after ≡ between_them ++ line
    → line ≡ holds link
    → places ≡ past ++ buffer ∷ link ∷ [] → after ≡ start ++ flat_map holds places
past_held {H} holds start before between_them after line past buffer link places first second third last all =
    let two : flat_map holds (buffer ∷ link ∷ []) ≡ holds buffer ++ holds link =
    ap (λ hs. holds buffer ++ hs) (append-nil (holds link)) in
    let whole : flat_map holds places ≡ flat_map holds past ++ (holds buffer ++ holds link) =
    ap (flat_map holds) all ∙ (flat_map-append holds past (buffer ∷ link ∷ [])
    ∙ ap (λ hs. flat_map holds past ++ hs) two) in
    let so_far : after ≡ ((start ++ flat_map holds past) ++ holds buffer) ++ holds link =
    third ∙ (ap (λ hs. between_them ++ hs) last
    ∙ (ap (λ hs. hs ++ holds link) second ∙ ap (λ hs. (hs ++ holds buffer) ++ holds link) first)) in
    so_far ∙ (append_assoc (start ++ flat_map holds past) (holds buffer) (holds link)
    ∙ (append_assoc start (flat_map holds past) (holds buffer ++ holds link)
    ∙ ap (λ hs. start ++ hs) (sym whole)))
