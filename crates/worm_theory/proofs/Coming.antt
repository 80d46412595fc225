-- A flit comes into a buffer, from its link or from its source.
use Rattle.std.proofs.Common.{◌≡◌, ℕ, true, inl, inr, ◌==◌, [], ◌∷◌, ◌++◌, All, refl, sym, ap, ◌∙◌, append_assoc}
use Rattle.std.proofs.Common.{append-nil}
use Rattle.std.proofs.lemmas.List.Elements.{All-push, filter-append}
use Rattle.worm_flit.specs.declared.Flit.{Flit}
use Rattle.worm_flit.specs.Stamps.{on_channel}
use Rattle.worm_theory.specs.Shape.{Shape}
use Rattle.worm_theory.specs.Network.{Network, same}
use Rattle.worm_theory.proofs.Places.{number_cases, place_cases}
use Rattle.worm_theory.specs.Parts.{Parts, worm_end, reached}
use Rattle.worm_theory.specs.PartSound.{ChannelsQueue, ComesBy}
use Rattle.worm_theory.specs.PartSteps.{arrive}
use Rattle.worm_theory.proofs.PartLists.{worm_end-append}

module _ (parts : Parts) (x p : ℕ) (f : Flit) where
  -- the channels of its port have more: one the flit, the others nothing
  pub buffer_grown : (x2 p2 v2 : ℕ) → same x2 p2 x p ≡ true → x2 ≡ x → p2 ≡ p →
      (arrive parts x p f).near.buffer x2 p2 v2 ≡ parts.near.buffer x2 p2 v2 ++ on_channel v2 (f ∷ [])
  buffer_grown x2 p2 v2 here node port =
      elim (number_cases v2 f.vc) [
        | inl on ↦
            let full : parts.near.buffer x p f.vc ≡ parts.near.buffer x2 p2 v2 = cc in
            rw (here, on.0, full) refl
        | inr off ↦ rw (here, off.0) (sym (append-nil (parts.near.buffer x2 p2 v2)))
      ]

  pub arrived_grown : (x2 p2 : ℕ) → same x2 p2 x p ≡ true → x2 ≡ x → p2 ≡ p →
      (arrive parts x p f).arrived x2 p2 ≡ parts.arrived x2 p2 ++ f ∷ []
  arrived_grown x2 p2 here node port =
      let list : parts.arrived x p ≡ parts.arrived x2 p2 = cc in
      rw (here, list) refl

  pub arrived_on : (x2 p2 v2 : ℕ) → same x2 p2 x p ≡ true → x2 ≡ x → p2 ≡ p →
      on_channel v2 ((arrive parts x p f).arrived x2 p2) ≡
      on_channel v2 (parts.arrived x2 p2) ++ on_channel v2 (f ∷ [])
  arrived_on x2 p2 v2 here node port =
      ap (on_channel v2) (arrived_grown x2 p2 here node port) ∙
      filter-append (λ (g : Flit). v2 == g.vc) (parts.arrived x2 p2) (f ∷ [])

  -- and stand where it leaves them
  pub reached_grown : (old : Network) (x2 p2 v2 : ℕ) → same x2 p2 x p ≡ true → x2 ≡ x → p2 ≡ p →
      reached old (arrive parts x p f) x2 p2 v2 ≡ worm_end (reached old parts x2 p2 v2) (on_channel v2 (f ∷ []))
  reached_grown old x2 p2 v2 here node port =
      let list = arrived_on x2 p2 v2 here node port in
      rw list (worm_end-append (on_channel v2 (parts.arrived x2 p2)) (on_channel v2 (f ∷ [])) _)

  pub coming_channels : (old : Network) → ChannelsQueue old parts → ChannelsQueue old (arrive parts x p f)
  coming_channels old queues x2 p2 v2 =
      let h = queues x2 p2 v2 in
      elim (place_cases x2 p2 x p) [
        | inl here ↦
            ap (λ fs. on_channel v2 (parts.departed x2 p2) ++ fs) (buffer_grown x2 p2 v2 here.0 here.1 here.2) ∙
            sym (append_assoc (on_channel v2 (parts.departed x2 p2)) (parts.near.buffer x2 p2 v2)
            (on_channel v2 (f ∷ []))) ∙
            ap (λ fs. fs ++ on_channel v2 (f ∷ [])) h ∙
            append_assoc (old.buffer x2 p2 v2) (on_channel v2 (parts.arrived x2 p2)) (on_channel v2 (f ∷ [])) ∙
            ap (λ fs. old.buffer x2 p2 v2 ++ fs) (sym (arrived_on x2 p2 v2 here.0 here.1 here.2))
        | inr away ↦ rw away.0 h
      ]

  pub coming_by : (s : Shape) → ComesBy s x p f → ((x2 p2 : ℕ) → All (ComesBy s x2 p2) (parts.arrived x2 p2)) →
      (x2 p2 : ℕ) → All (ComesBy s x2 p2) ((arrive parts x p f).arrived x2 p2)
  coming_by s comes all x2 p2 =
      elim (place_cases x2 p2 x p) [
        | inl here ↦ rw (here.0, here.1, here.2) (All-push (ComesBy s x p) (parts.arrived x p) f (all x p) comes)
        | inr away ↦ rw away.0 (all x2 p2)
      ]
