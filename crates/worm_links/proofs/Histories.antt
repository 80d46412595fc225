-- Each move of a queue with one sender and one taker keeps its rule.
use Rattle.std.proofs.Common.{◌≡◌, ◌≢◌, ℕ, zero, suc, true, false, true≢false, List, [], ◌∷◌, ◌++◌, length, map, set}
use Rattle.std.proofs.Common.{sym, refl, ap, ◌∙◌, subst, ⊎_elim, append_assoc, arith, length-append}
use Rattle.std.proofs.lemmas.List.Elements.{All-nil, All-push, All-head, All-tail}
use Rattle.std.proofs.lemmas.List.{map-append, length-map}
use mathlib.Core.Option.{some, some-ne-none, some-injective}
use lib.ListN.{get_elem?}
use Rattle.crossbeam_queue.specs.Fifo.{Pushes, Pops, Forks, Merges, Learns}
use Rattle.crossbeam_queue.proofs.Lists.{at_set, at_snoc}
use Rattle.worm_links.specs.declared.history.Known.{Known}
use Rattle.worm_links.specs.History.{known, sender, taker, whole, Fits, IsKept, Pushed, Popped, HoldsSent}
use Rattle.worm_links.specs.History.{HoldsRest}

off : false ≡ true → ⊥
off e = true≢false (sym e)

module _ {X : Type 0} where
  none_after : (xs ys : List X) → [] ≡ xs ++ ys → [] ≡ ys
  none_after [] ys e = e
  none_after (x ∷ xs) ys e = absurd (cc)

module _ {C X : Type 0} where
  at_end : (l : List (Known C X)) (a b : Known C X) (j : ℕ) → get_elem? l j ≢ some b →
      get_elem? (l ++ a ∷ []) j ≡ some b → j ≡ length l
  at_end [] a b zero n e = refl
  at_end [] a b (suc j) n e = absurd (some-ne-none b (sym e))
  at_end (x ∷ xs) a b zero n e = absurd (n e)
  at_end (x ∷ xs) a b (suc j) n e = ap suc (at_end xs a b j n e)

  abbrev Each : (ℕ → Known C X → Type 0) → List (Known C X) → Type 0
  Each F views = (pass : ℕ) (v : Known C X) → get_elem? views pass ≡ some v → F pass v

  each_set : (F : ℕ → Known C X → Type 0) (views : List (Known C X)) (pass : ℕ) (w : Known C X) → F pass w →
      ((j : ℕ) (u : Known C X) → j ≢ pass → get_elem? views j ≡ some u → F j u) → Each F (set views pass w)
  each_set F views pass w mine others j u e =
      ⊎_elim (λ (x : (j ≡ pass) × (w ≡ u)). subst (λ (y : ℕ × Known C X). F y.0 y.1) (λ i. (sym x.0 i, x.1 i)) mine)
      (λ (x : (j ≢ pass) × (get_elem? views j ≡ some u)). others j u x.0 x.1) (at_set views pass j w u e)

  module _ {T : Type 0} (read : T → X) (Sound : T → Type 0) (IsHistory : C → List X → Type 0) where
    abbrev Kept : List T → List (Known C X) → Type 0
    Kept = IsKept read Sound IsHistory

    pub begins : (link : C) → IsHistory link [] → Kept [] (whole link [] [] ∷ [])
    begins link none = record {
      link = link;
      writer = 0;
      reader = 0;
      sent = [];
      taken = [];
      order = refl;
      sound = All-nil Sound;
      history = none;
      fits = one;
    }
      where
        one : (j : ℕ) (u : Known C X) → get_elem? (whole link [] [] ∷ []) j ≡ some u → Fits 0 0 link [] [] j u
        one zero u e =
            subst (Fits 0 0 link [] [] 0) (some-injective _ _ e) ((λ _. (refl, refl, refl)), (λ _. (refl, refl, refl)))
        one (suc j) u e = absurd (some-ne-none u (sym e))

    pub sends : (n pass : ℕ) (v : Known C X) (x : T) → v.pushes ≡ true → Sound x →
        (IsHistory v.link v.sent → IsHistory v.link (v.sent ++ read x ∷ []))
        → Pushes Kept n pass v x (Pushed read Sound IsHistory v x)
    sends n pass v x may sound grows items views _ h at =
        let w : Known C X = known v.link v.pushes v.pops (v.sent ++ read x ∷ []) v.taken in
        let mine = h.fits pass v at in
        let m = mine.0 may in (
          w,
          record {
            link = h.link;
            writer = h.writer;
            reader = h.reader;
            sent = h.sent ++ read x ∷ [];
            taken = h.taken;
            order =
                ap (λ l. l ++ read x ∷ []) h.order ∙ append_assoc h.taken (map read items) (read x ∷ []) ∙
                ap (λ l. h.taken ++ l) (sym (map-append read items (x ∷ [])));
            sound = All-push Sound items x h.sound sound;
            history =
                subst (λ (y : C × List X). IsHistory y.0 (y.1 ++ read x ∷ [])) (λ i. (m.1 i, m.2 i))
                (grows (subst (λ (y : C × List X). IsHistory y.0 y.1) (λ i. (sym m.1 i, sym m.2 i)) h.history));
            fits =
                each_set (Fits h.writer h.reader h.link (h.sent ++ read x ∷ []) h.taken) views pass w
                ((λ _. (m.0, m.1, ap (λ l. l ++ read x ∷ []) m.2)), mine.1)
                (λ j u apart e. ((λ p. absurd (apart (((h.fits j u e).0 p).0 ∙ sym m.0))), (h.fits j u e).1));
          },
          refl,
        )

    pub takes : (pass : ℕ) (v : Known C X) → v.pops ≡ true →
        ((link : C) (xs ys : List X) → IsHistory link (xs ++ ys) → IsHistory link xs)
        → Pops Kept pass v (Popped read Sound IsHistory v)
    takes pass v may front x items views h at =
        let w : Known C X = known v.link v.pushes v.pops v.sent (v.taken ++ read x ∷ []) in
        let mine = h.fits pass v at in
        let m = mine.1 may in
        let now : List X = h.taken ++ read x ∷ [] in
        let order : h.sent ≡ now ++ map read items =
        h.order ∙ sym (append_assoc h.taken (read x ∷ []) (map read items)) in
        let seen : v.taken ++ read x ∷ [] ≡ now = ap (λ l. l ++ read x ∷ []) m.2 in (
          w,
          record {
            link = h.link;
            writer = h.writer;
            reader = h.reader;
            sent = h.sent;
            taken = now;
            order = order;
            sound = All-tail Sound x items h.sound;
            history = h.history;
            fits = each_set (Fits h.writer h.reader h.link h.sent now) views pass w (mine.0, λ _. (m.0, m.1, seen))
                (λ j u apart e. ((h.fits j u e).0, λ p. absurd (apart (((h.fits j u e).1 p).0 ∙ sym m.0))));
          },
          (
            refl,
            All-head Sound x items h.sound,
            subst (λ (y : C × List X). IsHistory y.0 y.1) (λ i. (sym m.1 i, sym seen i))
                (front h.link now (map read items) (subst (IsHistory h.link) order h.history)),
            λ b. (map read items, ((mine.0 b).2 ∙ order) ∙ ap (λ l. l ++ map read items) (sym seen)),
          ),
        )

    -- before anything is sent, the link may still be named
    pub divides : (pass : ℕ) (v : Known C X) (link : C) → v.pushes ≡ true → v.pops ≡ true → v.sent ≡ [] →
        IsHistory link [] → Forks Kept pass v (sender link []) (taker link [])
    divides pass v link a b new none items views h at =
        let l : Known C X = sender link [] in
        let r : Known C X = taker link [] in
        let mine = h.fits pass v at in
        let vs : List (Known C X) = set views pass l in
        let empty : [] ≡ h.taken ++ map read items = (sym new ∙ (mine.0 a).2) ∙ h.order in
        let Old : ℕ → Known C X → Type 0 =
        λ j u. (u.pushes ≡ true → (j ≡ h.writer) × (u.link ≡ link) × (u.sent ≡ [])) × (u.pops ≢ true) in
        let old : Each Old vs = each_set Old views pass l ((λ _. ((mine.0 a).0, refl, refl)), off)
        (λ j u apart e. (
          (λ p. absurd (apart (((h.fits j u e).0 p).0 ∙ sym (mine.0 a).0))),
          λ p. apart (((h.fits j u e).1 p).0 ∙ sym (mine.1 b).0),
        )) in
        record {
          link = link;
          writer = h.writer;
          reader = length vs;
          sent = [];
          taken = [];
          order = none_after h.taken (map read items) empty;
          sound = h.sound;
          history = none;
          fits = λ j u e. ⊎_elim (λ x. ((old j u x).0, λ p. absurd ((old j u x).1 p)))
              (λ (is : r ≡ u). (
                (λ p. absurd (off (ap (λ (y : Known C X). y.pushes) is ∙ p))),
                (λ p. (
                  at_end vs r u j (λ x. (old j u x).1 p) e,
                  ap (λ (y : Known C X). y.link) (sym is),
                  ap (λ (y : Known C X). y.taken) (sym is),
                )),
              ))
              (at_snoc vs r u j e);
        }

    pub reunites : (pass : ℕ) (v : Known C X) (other : ℕ) (u : Known C X) (nobody : C) → v.pops ≡ true →
        u.pushes ≡ true
        → Merges Kept pass v other u (whole u.link u.sent v.taken) (known nobody false false [] [])
    reunites pass v other u nobody a b items views h at two at' =
        let both : Known C X = whole u.link u.sent v.taken in
        let spent : Known C X = known nobody false false [] [] in
        let mine = h.fits pass v at in
        let m = mine.1 a in
        let vs : List (Known C X) = set views pass both in
        let was : get_elem? views other ≡ some u =
        ⊎_elim (λ x. absurd (two x.0)) (λ x. x.1) (at_set views pass other both u at') in
        let theirs = (h.fits other u was).0 b in
        let Now : ℕ → Known C X → Type 0 = λ j y. j ≢ other → Fits pass h.reader h.link h.sent h.taken j y in
        let now : Each Now vs =
        each_set Now views pass both (λ _. ((λ _. (refl, theirs.1, theirs.2)), (λ _. (m.0, theirs.1, m.2))))
        (λ j y _ e apart. ((λ p. absurd (apart (((h.fits j y e).0 p).0 ∙ sym theirs.0))), (h.fits j y e).1)) in
        record {
          link = h.link;
          writer = pass;
          reader = h.reader;
          sent = h.sent;
          taken = h.taken;
          order = h.order;
          sound = h.sound;
          history = h.history;
          fits =
              each_set (Fits pass h.reader h.link h.sent h.taken) vs other spent (
                (λ p. absurd (off p)),
                (λ p. absurd (off p)),
              ) (λ j y apart e. now j y e apart);
        }

    pub learns_sent : (pass : ℕ) (v : Known C X) → v.pushes ≡ true →
        Learns Kept pass v (HoldsSent read Sound IsHistory v)
    learns_sent pass v a items views h at =
        let e : v.sent ≡ h.taken ++ map read items = ((h.fits pass v at).0 a).2 ∙ h.order in
        omega (arith, ap length e, length-append h.taken (map read items), length-map items read)

    pub learns_rest : (pass : ℕ) (v : Known C X) → v.pops ≡ true →
        Learns Kept pass v (HoldsRest read Sound IsHistory v)
    learns_rest pass v a items views h at =
        λ b. (((h.fits pass v at).0 b).2 ∙ h.order) ∙ ap (λ l. l ++ map read items) (sym ((h.fits pass v at).1 a).2)
