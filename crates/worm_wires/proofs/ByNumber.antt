-- A list by link number, and what it has for each node and port.
use Rattle.std.proofs.Common.{◌≡◌, ℕ, zero, suc, ◌+◌, ◌*◌, ◌<◌, ◌≤◌, Bool, true, false, cond, inl, inr, List, []}
use Rattle.std.proofs.Common.{◌∷◌, ◌++◌, length, get_or, take, refl, arith, ap, sym, ◌∙◌, append-nil}
use Rattle.std.proofs.Math.Seq.{take-suc, take-length}
use Rattle.std.proofs.lemmas.Bool.{cases_lt}
use Rattle.std.proofs.lemmas.List.{append_assoc, get_or-append-add, get_or_append_left, length-append}
use Rattle.worm_mesh.specs.Address.{has_neighbour, node_count}
use Rattle.worm_mesh.specs.Links.{count_below, degree_of, link_count, links_before, sum_below}
use Rattle.worm_mesh.proofs.Numbers.{count_below_past, sum_below_past}
use Rattle.worm_wires.specs.Inbox.{by_number, of_nodes, of_ports}

-- How many it has

ports_count : {A : Type 0} (linked : ℕ → Bool) (f : ℕ → A) (n : ℕ) → length (of_ports linked f n) ≡ count_below linked n
ports_count linked f zero = refl
ports_count linked f (suc o) =
    let before = ports_count linked f o in
    length-append (of_ports linked f o) (cond (linked o) (f o ∷ []) []) ∙ one (linked o) before
  where
    one : (b : Bool) → length (of_ports linked f o) ≡ count_below linked o
        → length (of_ports linked f o) + length (cond b (f o ∷ []) []) ≡ count_below linked o + cond b 1 0
    one true before = rw before refl
    one false before = rw before refl

nodes_count : {A : Type 0} (mesh : List ℕ) (f : ℕ → ℕ → A) (n : ℕ)
    → length (of_nodes mesh f n) ≡ sum_below (degree_of mesh) n
nodes_count mesh f zero = refl
nodes_count mesh f (suc x) =
    length-append (of_nodes mesh f x) (of_ports (has_neighbour mesh x) (f x) (2 * length mesh))
    ∙ (λ t. nodes_count mesh f x t + ports_count (has_neighbour mesh x) (f x) (2 * length mesh) t)

-- What it has for a port, and for a node's port

port_at : {A : Type 0} (linked : ℕ → Bool) (f : ℕ → A) (d : A) (o n : ℕ) → o < n → linked o ≡ true
    → get_or (of_ports linked f n) (count_below linked o) d ≡ f o
port_at linked f d o zero below there = absurd (omega arith)
port_at linked f d o (suc n) below there = elim (cases_lt o n) [
  | inl lt ↦
      let less : count_below linked o < length (of_ports linked f n) =
      omega (arith, ports_count linked f n, count_below_past linked o n lt there) in
      get_or_append_left (of_ports linked f n) (cond (linked n) (f n ∷ []) []) d (count_below linked o) less
      ∙ port_at linked f d o n lt there
  | inr ge ↦
      let same : o ≡ n = omega arith in
      rw (← same, there, ← ports_count linked f o)
      (ap (λ (i : ℕ). get_or (of_ports linked f o ++ f o ∷ []) i d) (omega arith)
      ∙ get_or-append-add (of_ports linked f o) (f o ∷ []) 0 d)
]

node_at : {A : Type 0} (mesh : List ℕ) (f : ℕ → ℕ → A) (d : A) (x o n : ℕ) → x < n → o < 2 * length mesh
    → has_neighbour mesh x o ≡ true → get_or (of_nodes mesh f n) (links_before mesh x o) d ≡ f x o
node_at mesh f d x o zero below port there = absurd (omega arith)
node_at mesh f d x o (suc n) below port there = elim (cases_lt x n) [
  | inl lt ↦
      let less : links_before mesh x o < length (of_nodes mesh f n) =
      omega (
        arith,
        nodes_count mesh f n,
        count_below_past (has_neighbour mesh x) o (2 * length mesh) port there,
        sum_below_past (degree_of mesh) x n lt,
      ) in
      get_or_append_left (of_nodes mesh f n) (of_ports (has_neighbour mesh n) (f n) (2 * length mesh)) d
      (links_before mesh x o) less
      ∙ node_at mesh f d x o n lt port there
  | inr ge ↦
      let same : x ≡ n = omega arith in
      let start = nodes_count mesh f n in
      ap (λ (v : ℕ). get_or (of_nodes mesh f (suc n)) (links_before mesh v o) d) same
      ∙ ap (λ (i : ℕ). get_or (of_nodes mesh f (suc n)) (i + count_below (has_neighbour mesh n) o) d) (sym start)
      ∙ get_or-append-add (of_nodes mesh f n) (of_ports (has_neighbour mesh n) (f n) (2 * length mesh))
      (count_below (has_neighbour mesh n) o) d
      ∙ port_at (has_neighbour mesh n) (f n) d o (2 * length mesh) port
      (ap (λ (v : ℕ). has_neighbour mesh v o) (sym same) ∙ there)
      ∙ ap (λ (v : ℕ). f v o) (sym same)
]

pub number_at : {A : Type 0} (mesh : List ℕ) (f : ℕ → ℕ → A) (d : A) (x o : ℕ) → x < node_count mesh
    → o < 2 * length mesh → has_neighbour mesh x o ≡ true
    → get_or (by_number mesh f) (links_before mesh x o) d ≡ f x o
unfolding by_number
number_at mesh f d x o below port there = node_at mesh f d x o (node_count mesh) below port there

pub numbers_count : {A : Type 0} (mesh : List ℕ) (f : ℕ → ℕ → A) → length (by_number mesh f) ≡ link_count mesh
unfolding by_number
numbers_count mesh f = nodes_count mesh f (node_count mesh)

-- What a list has for each node and port says which it is

module _ {A : Type 0} (mesh : List ℕ) (f : ℕ → ℕ → A) (d : A) (list : List A) where
  ports_taken : (x o : ℕ) → sum_below (degree_of mesh) x + count_below (has_neighbour mesh x) o ≤ length list
      → ((p : ℕ) → p < o → has_neighbour mesh x p ≡ true → get_or list (links_before mesh x p) d ≡ f x p)
      → take (sum_below (degree_of mesh) x) list ≡ of_nodes mesh f x
      → take (links_before mesh x o) list ≡ of_nodes mesh f x ++ of_ports (has_neighbour mesh x) (f x) o
  ports_taken x zero long each before =
      ap (λ (i : ℕ). take i list) (omega arith) ∙ before ∙ sym (append-nil (of_nodes mesh f x))
  ports_taken x (suc o) long each before =
      by_test (has_neighbour mesh x o) refl
      (λ more. ports_taken x o (omega (arith, long, more)) (λ p below. each p (omega arith)) before)
    where
      by_test : (b : Bool) → has_neighbour mesh x o ≡ b
          → (count_below (has_neighbour mesh x) o ≤ count_below (has_neighbour mesh x) (suc o)
          → take (links_before mesh x o) list ≡ of_nodes mesh f x ++ of_ports (has_neighbour mesh x) (f x) o)
          → take (links_before mesh x (suc o)) list
          ≡ of_nodes mesh f x ++ of_ports (has_neighbour mesh x) (f x) (suc o)
      by_test true e rest =
          let more : count_below (has_neighbour mesh x) (suc o) ≡ count_below
          (has_neighbour mesh x) o + 1 = rw e refl in
          let next : links_before mesh x (suc o) ≡ suc (links_before mesh x o) = omega (arith, more) in
          ap (λ (i : ℕ). take i list) next
          ∙ take-suc list (links_before mesh x o) d (omega (arith, long, more))
          ∙ (λ t. rest (omega (arith, more)) t ++ (each o (omega arith) e t ∷ []))
          ∙ append_assoc (of_nodes mesh f x) (of_ports (has_neighbour mesh x) (f x) o) (f x o ∷ [])
          ∙ rw e refl
      by_test false e rest =
          let more : count_below (has_neighbour mesh x) (suc o) ≡ count_below (has_neighbour mesh x) o =
          rw e (omega arith) in
          let same : links_before mesh x (suc o) ≡ links_before mesh x o = omega (arith, more) in
          ap (λ (i : ℕ). take i list) same
          ∙ rest (omega (arith, more))
          ∙ rw e (ap (λ (ys : List A). of_nodes mesh f x ++ ys)
          (sym (append-nil (of_ports (has_neighbour mesh x) (f x) o))))

  nodes_taken : (n : ℕ) → sum_below (degree_of mesh) n ≤ length list
      → ((x p : ℕ) → x < n → p < 2 * length mesh → has_neighbour mesh x p ≡ true
      → get_or list (links_before mesh x p) d ≡ f x p)
      → take (sum_below (degree_of mesh) n) list ≡ of_nodes mesh f n
  nodes_taken zero long each = refl
  nodes_taken (suc x) long each =
      ports_taken x (2 * length mesh) long (λ p below. each x p (omega arith) below)
      (nodes_taken x (omega (arith, long)) (λ y p below. each y p (omega arith)))

  pub determined : length list ≡ link_count mesh
      → ((x p : ℕ) → x < node_count mesh → p < 2 * length mesh → has_neighbour mesh x p ≡ true
      → get_or list (links_before mesh x p) d ≡ f x p)
      → list ≡ by_number mesh f
  unfolding by_number
  determined all each =
      sym (take-length list) ∙ ap (λ (n : ℕ). take n list) all
      ∙ nodes_taken (node_count mesh) (omega (arith, all)) each
