-- Each hop of a route, by nodes.
use Rattle.std.proofs.Common.{ℕ, zero, suc, ◌≡◌, ◌≢◌, ◌+◌, ◌-◌, ◌*◌, ◌/◌, ◌%◌, ◌<◌, ◌≤◌, inl, inr, true, false, cond}
use Rattle.std.proofs.Common.{eqb, ltb, Option, Some, None, List, [], ◌∷◌, length, drop, map, get_or, set, arith, refl}
use Rattle.std.proofs.Common.{ap, sym, ◌∙◌}
use Rattle.std.proofs.lemmas.Bool.{cases_order, cases_eq, lt-ltb, le-ltb, eq-eqb, ne_eqb}
use Rattle.std.proofs.lemmas.List.{drop_all}
use Rattle.worm_mesh.specs.Address.{node_count, stride_of, number_of, address_of, digit_of, neighbour_of, Joins}
use Rattle.worm_mesh.proofs.Digits.{AreLarge, length-address_of, digit_of_lt, address_up, address_down}
use Rattle.worm_mesh.proofs.Digits.{number_of-address_of, same_node}
use Rattle.worm_mesh.proofs.Neighbours.{joins_up, joins_down, neighbour_of-some, neighbour_of-none, no_port}
use Rattle.worm_route.specs.Route.{route_of, distance_of, hops_of, port_from, port_of, walk, LeadsOn}
use Rattle.worm_route.proofs.Legs.{toward, next_address, legs, legs_self, legs_step, distance_of_self, distance_of_step}
use Rattle.worm_route.proofs.Legs.{tail_differs, route_addresses_is}

-- the lowest place where s and t differ
pub record FirstDiffers (port : ℕ) (s t : List ℕ) : Type 0 where
  pub d : ℕ
  pub fits : d < length s
  pub differs : get_or s d 0 ≢ get_or t d 0
  pub port_is : port_from port s t ≡ port + 2 * d + cond (ltb (get_or s d 0) (get_or t d 0)) 1 0
  pub next_is : next_address s t ≡ set s d (toward (get_or s d 0) (get_or t d 0))

port_side : (a b port : ℕ) → cond (ltb a b) (port + 1) port ≡ port + 2 * 0 + cond (ltb a b) 1 0
port_side a b port =
    elim (ltb a b) as (λ v. cond v (port + 1) port ≡ port + 2 * 0 + cond v 1 0) [
      | true ↦ omega arith
      | false ↦ omega arith
    ]

-- the port past the first dimension, and past all of them
pub port_from_up : (port : ℕ) (s t : List ℕ) → port_from (port + 2) s t ≡ port_from port s t + 2
port_from_up port [] t = refl
port_from_up port (a ∷ s) [] = refl
port_from_up port (a ∷ s) (b ∷ t) =
    elim (eqb a b) as (λ v. cond v (port_from (port + 2 + 2) s t) (cond (ltb a b) (port + 2 + 1) (port + 2))
    ≡ cond v (port_from (port + 2) s t) (cond (ltb a b) (port + 1) port) + 2) [
      | true ↦ port_from_up (port + 2) s t
      | false ↦ elim (ltb a b) as (λ v. cond v (port + 2 + 1) (port + 2) ≡ cond v (port + 1) port + 2) [
        | true ↦
            omega arith
        | false ↦ omega arith
      ]
    ]

port_from_self : (port : ℕ) (s : List ℕ) → port_from port s s ≡ port + 2 * length s
port_from_self port [] = omega arith
port_from_self port (a ∷ s) = rw (eq-eqb a a refl) (omega (arith, port_from_self (port + 2) s))

-- at the destination it is the terminal
pub port_arrived : (ks : List ℕ) (x : ℕ) → port_of ks x x ≡ 2 * length ks
port_arrived ks x = omega (arith, port_from_self 0 (address_of ks x), length-address_of ks x)

pub first_differs : (port : ℕ) (s t : List ℕ) → length s ≡ length t → s ≢ t → FirstDiffers port s t
first_differs port [] [] e ne = absurd (ne refl)
first_differs port [] (b ∷ t) e ne = absurd (omega arith)
first_differs port (a ∷ s) [] e ne = absurd (omega arith)
first_differs port (a ∷ s) (b ∷ t) e ne =
    elim (cases_eq a b) [
      | inl same ↦
          let rest = first_differs (port + 2) s t (omega arith) (tail_differs a b s t same ne) in
          record {
            d = suc rest.d;
            fits = omega (arith, rest.fits);
            differs = rest.differs;
            port_is = rw (eq-eqb a b same) (rw rest.port_is (omega arith));
            next_is = rw (eq-eqb a b same) (ap (λ r. a ∷ r) rest.next_is);
          }
      | inr differ ↦ record {
        d = 0;
        fits = omega arith;
        differs = differ;
        port_is = rw (ne_eqb a b differ) (port_side a b port);
        next_is = rw (ne_eqb a b differ) refl;
      }
    ]

-- the next node of the route to t, behind `port` of x
pub record Hop (ks : List ℕ) (x port t : ℕ) : Type 0 where
  pub to : ℕ
  pub joined : Joins ks x port to
  pub address_is : address_of ks to ≡ next_address (address_of ks x) (address_of ks t)

module _ (ks : List ℕ) (l : AreLarge ks) where
  pub addresses_differ : (x t : ℕ) → x < node_count ks → t < node_count ks → x ≢ t → address_of ks x ≢ address_of ks t
  addresses_differ x t p q ne e = ne (same_node ks x t l p q e)

  pub same_length : (x t : ℕ) → length (address_of ks x) ≡ length (address_of ks t)
  same_length x t = length-address_of ks x ∙ sym (length-address_of ks t)

  hop_up : (x t port d : ℕ) → x < node_count ks → d < length ks → port / 2 ≡ d → port % 2 ≡ 1
      → digit_of ks x d < digit_of ks t d → next_address (address_of ks x) (address_of ks t)
      ≡ set (address_of ks x) d (digit_of ks x d + 1) → Hop ks x port t
  hop_up x t port d n fits half odd lt next =
      let below = digit_of_lt ks t d l fits in
      let room : digit_of ks x (port / 2) + 1 < get_or ks (port / 2) 0 = rw half (omega arith) in
      let mesh_port : port < 2 * length ks = omega arith in
      let within : port / 2 < length ks = rw half fits in
      record {
        to = x + stride_of ks (port / 2);
        joined = joins_up ks x port l n mesh_port odd room;
        address_is = address_up ks x (port / 2) l within room ∙ rw half (sym next);
      }

  hop_down : (x t port d : ℕ) → x < node_count ks → d < length ks → port / 2 ≡ d → port % 2 ≡ 0
      → digit_of ks t d < digit_of ks x d → next_address (address_of ks x) (address_of ks t)
      ≡ set (address_of ks x) d (digit_of ks x d - 1) → Hop ks x port t
  hop_down x t port d n fits half even lt next =
      let room : 0 < digit_of ks x (port / 2) = rw half (omega arith) in
      let mesh_port : port < 2 * length ks = omega arith in
      let within : port / 2 < length ks = rw half fits in
      record {
        to = x - stride_of ks (port / 2);
        joined = joins_down ks x port l n mesh_port even room;
        address_is = address_down ks x (port / 2) l within room ∙ rw half (sym next);
      }

  pub hop : (x t : ℕ) → x < node_count ks → t < node_count ks → x ≢ t → Hop ks x (port_of ks x t) t
  hop x t p q ne =
      let first = first_differs 0 (address_of ks x) (address_of ks t) (same_length x t) (addresses_differ x t p q ne) in
      let fits : first.d < length ks = omega (arith, first.fits, length-address_of ks x) in
      elim (cases_order (digit_of ks x first.d) (digit_of ks t first.d)) [
        | inl same ↦ absurd (first.differs same)
        | inr differ ↦ elim differ [
          | inl lt ↦
              let test = lt-ltb (digit_of ks x first.d) (digit_of ks t first.d) lt in
              let port : port_of ks x t ≡ 2 * first.d + 1 = first.port_is ∙ rw test (omega arith) in
              hop_up x t (port_of ks x t) first.d p fits (omega arith) (omega arith) lt (first.next_is ∙ rw test refl)
          | inr gt ↦
              let test = le-ltb (digit_of ks x first.d) (digit_of ks t first.d) (omega arith) in
              let port : port_of ks x t ≡ 2 * first.d = first.port_is ∙ rw test (omega arith) in
              hop_down x t (port_of ks x t) first.d p fits (omega arith) (omega arith) gt (first.next_is ∙ rw test refl)
        ]
      ]

  route_is : (x t : ℕ) → route_of ks x t ≡ map (number_of ks) (legs (address_of ks x) (address_of ks t))
  route_is x t =
      ap (map (number_of ks)) (route_addresses_is (address_of ks x) (address_of ks t) (same_length x t))

  -- the route from a node to itself is that node
  pub route_arrived : (t : ℕ) → t < node_count ks → route_of ks t t ≡ t ∷ []
  route_arrived t p =
      route_is t t ∙ (ap (map (number_of ks)) (legs_self (address_of ks t))
      ∙ ap (λ v. v ∷ []) (number_of-address_of ks t l p))

  -- the port of the code leads on along the route
  pub onward : (x t : ℕ) → x < node_count ks → t < node_count ks → x ≢ t → LeadsOn ks x (port_of ks x t) t
  onward x t p q ne =
      let h = hop x t p q ne in
      let step = legs_step (address_of ks x) (address_of ks t) (same_length x t) (addresses_differ x t p q ne) in
      let rest : map (number_of ks) (legs (next_address (address_of ks x) (address_of ks t)) (address_of ks t))
      ≡ route_of ks h.to t =
      rw (← h.address_is) (sym (route_is h.to t)) in
      record {
        to = h.to;
        joined = h.joined;
        route = route_is x t ∙ (ap (map (number_of ks)) step ∙ rw (number_of-address_of ks x l p, rest) refl);
      }

  -- the address of the next node
  pub address_of-onward : (x t : ℕ) (p : x < node_count ks) (q : t < node_count ks) (ne : x ≢ t)
      → address_of ks (onward x t p q ne).to ≡ next_address (address_of ks x) (address_of ks t)
  unfolding onward
  address_of-onward x t p q ne = (hop x t p q ne).address_is

  -- a route begins with its source
  pub begins : (s t : ℕ) → s < node_count ks → t < node_count ks → (later : List ℕ) × (route_of ks s t ≡ s ∷ later)
  begins s t p q =
      elim (cases_eq s t) [
        | inl same ↦ ([], ap (λ v. route_of ks v t) same ∙ (route_arrived t q ∙ ap (λ v. v ∷ []) (sym same)))
        | inr ne ↦ let on = onward s t p q ne in (route_of ks on.to t, on.route)
      ]

  -- the next node is the neighbour at the next port
  pub next_node : (x t y : ℕ) (p : x < node_count ks) (q : t < node_count ks) (ne : x ≢ t)
      → neighbour_of ks x (port_of ks x t) ≡ Some y → (onward x t p q ne).to ≡ y
  next_node x t y p q ne linked =
      let on = onward x t p q ne in
      let there : neighbour_of ks x (port_of ks x t) ≡ Some on.to =
      neighbour_of-some ks x (port_of ks x t) on.to l on.joined in
      cc

  -- where there is one, the route is not at its end
  pub goes_further : (x t y : ℕ) → neighbour_of ks x (port_of ks x t) ≡ Some y → x ≢ t
  goes_further x t y linked e =
      let port : port_of ks x t ≡ 2 * length ks = rw e (port_arrived ks t) in
      let none : neighbour_of ks x (2 * length ks) ≡ None =
      neighbour_of-none ks x (2 * length ks) (no_port ks x (2 * length ks) (omega arith)) in
      let some : neighbour_of ks x (2 * length ks) ≡ Some y = rw port at linked in
      let clash : ◌≡◌ {A = Option ℕ} None (Some y) = sym none ∙ some in
      cc

  -- and is one hop nearer
  pub hops_nearer : (x t : ℕ) (p : x < node_count ks) (q : t < node_count ks) (ne : x ≢ t)
      → hops_of ks x t ≡ hops_of ks (onward x t p q ne).to t + 1
  unfolding onward
  hops_nearer x t p q ne =
      let h = hop x t p q ne in
      distance_of_step (address_of ks x) (address_of ks t) (same_length x t) (addresses_differ x t p q ne)
      ∙ ap (λ a. distance_of a (address_of ks t) + 1) (sym h.address_is)

  pub hops_arrived : (t : ℕ) → hops_of ks t t ≡ 0
  hops_arrived t = distance_of_self (address_of ks t)

  -- walking by ports is the route
  pub walk_is : (n x t : ℕ) → x < node_count ks → t < node_count ks → hops_of ks x t ≡ n
      → walk ks t n x ≡ route_of ks x t
  walk_is zero x t p q e =
      elim (cases_eq x t) [
        | inl same ↦ rw same (sym (route_arrived t q))
        | inr ne ↦ absurd (omega (arith, hops_nearer x t p q ne))
      ]
  walk_is (suc n) x t p q e =
      elim (cases_eq x t) [
        | inl same ↦ absurd (omega (arith, hops_arrived t, ap (λ v. hops_of ks v t) same))
        | inr ne ↦
            let on = onward x t p q ne in
            let next : neighbour_of ks x (port_of ks x t) ≡ Some on.to =
            neighbour_of-some ks x (port_of ks x t) on.to l on.joined in
            rw next (ap (λ r. x ∷ r) (walk_is n on.to t on.joined.to_node q (omega (arith, hops_nearer x t p q ne)))
            ∙ sym on.route)
      ]

pub distance_of-past : (n : ℕ) (s t : List ℕ) → length s ≤ n → distance_of (drop n s) (drop n t) ≡ 0
distance_of-past n s t h = rw (drop_all n s h) refl
