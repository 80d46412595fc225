-- The text as a whole: chains by their length, and a report's rows.
use Rattle.std.proofs.Common.{◌≡◌, ◌==◌, ◌-◌, ℕ, Bool, true, false, cond, List, [], ◌∷◌, ◌++◌, map, length, filter}
use Rattle.std.proofs.Common.{flat_map, IsPermutation, Result, Ok, Err, IfOk, append_assoc, refl, sym, ap, subst, ◌∙◌}
use Rattle.std.specs.List.{range_with_len}
use Rattle.std.proofs.lemmas.List.Concat.{flat_map-append}
use Rattle.worm_rows.specs.declared.shape.Shape.{Shape}
use Rattle.worm_rows.specs.declared.rows.PacketId.{PacketId}
use Rattle.worm_rows.specs.declared.rows.Row.{Row}
use Rattle.worm_rows.specs.Rules.{IsReport}
use Rattle.worm_picture.specs.declared.packets.Packets.{Packets}
use Rattle.worm_picture.specs.declared.views.NodeView.{NodeView}
use Rattle.worm_picture.specs.Nodes.{AreViews, shown}
use Rattle.worm_picture.specs.Packets.{tail_in, tail_of}
use Rattle.worm_picture.specs.Scene.{seen_flits}
use Rattle.worm_waits.specs.declared.waits.Wait.{Wait}
use Rattle.worm_waits.specs.Waits.{Told, waits}
use Rattle.worm_waits.specs.Chains.{begins, behind, chain_of, chains, longest_first, with_behind}
use Rattle.worm_waits.specs.Text.{TellsWaits, chain_line, chain_lines, line_if_of, waits_text}

-- ---- chains by their length

flat_map_pieces : {A B C : Type 0} (h : B → List C) (f : A → List B) (places : List A)
    → flat_map h (flat_map f places) ≡ flat_map (λ a. flat_map h (f a)) places
flat_map_pieces h f [] = refl
flat_map_pieces h f (a ∷ places) = flat_map-append h (f a) (flat_map f places)
    ∙ ap (λ l. flat_map h (f a) ++ l) (flat_map_pieces h f places)

same_pieces : {A B : Type 0} (f g : A → List B) → ((a : A) → f a ≡ g a) → (places : List A)
    → flat_map f places ≡ flat_map g places
same_pieces f g same [] = refl
same_pieces f g same (a ∷ places) = rw (same a, same_pieces f g same places) refl

module _ (ws : List Wait) where
  one_line : (b : Bool) (w : Wait) (lines : List ℕ) (kept : List Wait) → lines ≡ flat_map (chain_line ws) kept
      → cond b (chain_line ws w) [] ++ lines ≡ flat_map (chain_line ws) (cond b (w ∷ kept) kept)
  one_line true w lines kept e = ap (λ l. chain_line ws w ++ l) e
  one_line false w lines kept e = e

  lines_of : (n : ℕ) (firsts : List Wait) → flat_map (line_if_of ws n) (map (chain_of ws) firsts)
      ≡ flat_map (chain_line ws) (filter (λ w. length (behind ws w) == n) firsts)
  lines_of n [] = refl
  lines_of n (w ∷ firsts) = one_line (length (behind ws w) == n) w _ _ (lines_of n firsts)

  pub lines_by_length : chain_lines ws (chains ws) ≡ flat_map (chain_line ws) (longest_first ws)
  lines_by_length =
      let numbers = range_with_len 0 (length ws) in
      same_pieces (λ k. flat_map (line_if_of ws (length ws - k)) (chains ws))
      (λ k. flat_map (chain_line ws) (with_behind ws (length ws - k)))
      (λ k. lines_of (length ws - k) (filter (begins ws) ws)) numbers
      ∙ sym (flat_map_pieces (chain_line ws) (λ k. with_behind ws (length ws - k)) numbers)

-- ---- written one after another

pub put_together : (a b c d s t u v w : List ℕ) → s ≡ [] → t ≡ s ++ a → u ≡ t ++ b → v ≡ u ++ c → w ≡ v ++ d
    → w ≡ a ++ (b ++ (c ++ d))
put_together a b c d s t u v w hs ht hu hv hw =
    hw ∙ ap (λ l. l ++ d) (hv ∙ ap (λ l. l ++ c) (hu ∙ ap (λ l. l ++ b) (ht ∙ ap (λ l. l ++ a) hs)))
    ∙ append_assoc (a ++ b) c d ∙ append_assoc a b (c ++ d)

-- ---- a report's rows

module _ (s : Shape) (channels : List ℕ) (depth : ℕ) (rows : List Row) where
  abbrev told_with : (PacketId → ℕ) → List NodeView → Told
  told_with tails views = record {
    mesh = s.mesh;
    channels = channels;
    depth = depth;
    rows = rows;
    tails = tails;
    views = views;
  }

  pub tells_rows : {X E : Type 0} (bytes : X → List ℕ) (r : Result X E) (packets : Packets) (views seen : List NodeView)
      (ws : List Wait) → seen ≡ views → ((packet : PacketId) → tail_in packets packet ≡ tail_of rows packet)
      → AreViews s rows (tail_in packets) views
      → (IsReport s rows → IsPermutation (seen_flits s.mesh rows) (shown views))
      → ws ≡ waits (told_with (tail_in packets) seen) → IfOk r (λ text. bytes text ≡ waits_text ws)
      → IfOk r (λ text. TellsWaits s channels depth rows (bytes text))
  tells_rows bytes (Ok text) packets views seen ws same_views tails are once all is =
      let same : tail_in packets ≡ tail_of rows = λ i packet. tails packet i in
      record {
        views = views;
        are_views = subst (λ (t : PacketId → ℕ). AreViews s rows t views) same are;
        once = once;
        text_is = is ∙ ap waits_text (all ∙ ap (λ (t : PacketId → ℕ). waits (told_with t seen)) same
            ∙ ap (λ (v : List NodeView). waits (told_with (tail_of rows) v)) same_views);
      }
  tells_rows bytes (Err e) packets views seen ws same_views tails are once all is = tt
