-- Histories of credits on one line.
use Rattle.std.proofs.Common.{ℕ, ◌<◌, List, [], ◌∷◌, ◌++◌, length, subst}
use Rattle.std.proofs.lemmas.List.Elements.{All-nil, All-push, All-take}
use Rattle.std.proofs.Math.Seq.{take-append_seam}
use Rattle.worm_links.specs.declared.history.Opened.{Opened}
use Rattle.worm_links.specs.Links.{IsCreditHistory}

pub no_credit : (link : Opened) → IsCreditHistory link []
no_credit link = All-nil (λ (c : ℕ). c < link.cfg.channels)

pub credits_front : (link : Opened) (xs ys : List ℕ) → IsCreditHistory link (xs ++ ys) → IsCreditHistory link xs
credits_front link xs ys h =
    subst (IsCreditHistory link) (take-append_seam xs ys)
    (All-take (λ (c : ℕ). c < link.cfg.channels) (length xs) (xs ++ ys) h)

pub credits_grow : (link : Opened) (xs : List ℕ) (c : ℕ) → c < link.cfg.channels → IsCreditHistory link xs →
    IsCreditHistory link (xs ++ c ∷ [])
credits_grow link xs c below h = All-push (λ (c : ℕ). c < link.cfg.channels) xs c h below
