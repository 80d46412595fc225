-- Histories of flits on one link, and what a step of its queue tells of them.
use Rattle.std.proofs.Common.{◌≡◌, ℕ, List, [], ◌∷◌, ◌++◌, length, subst, sym, append_assoc}
use Rattle.std.proofs.lemmas.List.{append-nil}
use Rattle.std.specs.Prelude.{All}
use Rattle.std.proofs.lemmas.List.Elements.{All-nil, All-push, All-take, All-drop, All-head}
use Rattle.std.proofs.Math.Seq.{take-append_seam}
use Rattle.worm_flit.specs.declared.Flit.{Flit}
use Rattle.worm_flit.specs.Packing.{flit_of}
use Rattle.worm_flit.specs.Stamps.{on_channel}
use Rattle.worm_flit.specs.Worms.{Continues}
use Rattle.worm_flit.proofs.Worming.{worms_grow, worms_front, worms_latest}
use Rattle.worm_links.specs.declared.history.Known.{Known}
use Rattle.worm_links.specs.declared.history.Opened.{Opened}
use Rattle.worm_links.specs.History.{Popped}
use Rattle.worm_links.specs.Links.{AreWorms, IsWord, MayCross, IsLinkHistory}

pub none_yet : (link : Opened) → AreWorms link.past → IsLinkHistory link []
none_yet link worms =
    record { worms = subst AreWorms (sym (append-nil link.past)) worms; crossing = All-nil (MayCross link.cfg) }

All-front : {X : Type 0} (P : X → Type 0) (xs ys : List X) → All P (xs ++ ys) → All P xs
All-front P xs ys h = subst (All P) (take-append_seam xs ys) (All-take P (length xs) (xs ++ ys) h)

All-last : {X : Type 0} (P : X → Type 0) (xs : List X) (x : X) → All P (xs ++ x ∷ []) → P x
All-last P [] x h = All-head P x [] h
All-last P (y ∷ xs) x h = All-last P xs x (All-drop P 1 (y ∷ (xs ++ x ∷ [])) h)

pub history_front : (link : Opened) (xs ys : List Flit) → IsLinkHistory link (xs ++ ys) → IsLinkHistory link xs
history_front link xs ys h =
    record {
      worms = worms_front (link.past ++ xs) ys (subst AreWorms (sym (append_assoc link.past xs ys)) h.worms);
      crossing = All-front (MayCross link.cfg) xs ys h.crossing;
    }

pub history_grows : (link : Opened) (xs : List Flit) (f : Flit) → Continues (on_channel f.vc (link.past ++ xs)) f →
    MayCross link.cfg f → IsLinkHistory link xs → IsLinkHistory link (xs ++ f ∷ [])
history_grows link xs f more may h =
    record {
      worms = subst AreWorms (append_assoc link.past xs (f ∷ [])) (worms_grow (link.past ++ xs) f h.worms more);
      crossing = All-push (MayCross link.cfg) xs f h.crossing may;
    }

-- what the last flit of a history meets
pub latest : (link : Opened) (xs : List Flit) (f : Flit) → IsLinkHistory link (xs ++ f ∷ []) →
    Continues (on_channel f.vc (link.past ++ xs)) f × MayCross link.cfg f
latest link xs f h = (
  worms_latest (link.past ++ xs) f (subst AreWorms (sym (append_assoc link.past xs (f ∷ []))) h.worms),
  All-last (MayCross link.cfg) xs f h.crossing,
)

abbrev Line : Type 0
Line = Known Opened Flit

abbrev pub Took : Line → ℕ → Line → Type 0
Took = Popped flit_of IsWord IsLinkHistory

-- what a pop tells of its flit
pub pop_tells : (v w : Line) (x : ℕ) (f : Flit) → f ≡ flit_of x → Took v x w →
    Continues (on_channel f.vc (v.link.past ++ v.taken)) f × MayCross v.link.cfg f
pop_tells v w x f flit told =
    subst (λ (f : Flit). Continues (on_channel f.vc (v.link.past ++ v.taken)) f ×
    MayCross v.link.cfg f) (sym flit) (latest v.link v.taken (flit_of x) told.2)
