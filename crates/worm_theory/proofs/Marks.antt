-- After a lane's mark nothing of it is delivered or under way.
use Rattle.std.proofs.Common.{◌≡◌, ℕ, ◌+◌, Bool, true, false, ◌||◌, inl, inr, List, [], ◌∷◌, ◌++◌, map, refl, sym, ap}
use Rattle.std.proofs.Common.{◌∙◌, append_assoc}
use Rattle.std.proofs.lemmas.List.Folds.{list_any-append}
use Rattle.std.proofs.lemmas.List.{map-append}
use Rattle.worm_flit.specs.declared.Lane.{Lane}
use Rattle.worm_flit.specs.declared.Flit.{Flit}
use Rattle.worm_flit.specs.Stamps.{bare, of_lane}
use Rattle.worm_flit.specs.Kinds.{is_mark}
use Rattle.worm_flit.specs.Packets.{History, closed, fresh, mark, packet, packet_flits}
use Rattle.worm_theory.specs.Shape.{Shape, IsMesh, HasLane, Owns, OwnsAlone}
use Rattle.worm_theory.specs.Network.{Network}
use Rattle.worm_theory.specs.Steps.{Step, StepsLead, has_mark, lane_injected}
use Rattle.worm_theory.specs.Sound.{Sound}
use Rattle.worm_theory.specs.Cut.{held, delivered, underway, LanesCut}
use Rattle.worm_theory.specs.Growth.{NothingMore, SinksGrow}
use Rattle.worm_theory.proofs.Places.{bool_cases}
use Rattle.worm_theory.proofs.Packets.{packet-unmarked}
use Rattle.worm_theory.proofs.Cut.{held-append}
use Rattle.worm_theory.proofs.CutKeeps.{steps_keep}
use Rattle.worm_theory.proofs.Growth.{steps_sinks}
use Rattle.worm_theory.proofs.ChannelLists.{nil_parts}

or-false : (a b : Bool) → (a || b) ≡ false → (a ≡ false) × (b ≡ false)
or-false true b e = cc
or-false false b e = (refl, e)

unmarked : (lane : Lane) (n : ℕ) (fs : List Flit) → History lane n false fs → has_mark fs ≡ false
unmarked lane n fs h = unmarked-by h refl where
  unmarked-by : {m : ℕ} {b : Bool} {gs : List Flit} → History lane m b gs → b ≡ false → has_mark gs ≡ false
  unmarked-by fresh e = refl
  unmarked-by (packet {n = m} {fs = gs} ws some few before) e =
      list_any-append (λ (f : Flit). is_mark f.kind) gs (packet_flits lane m ws) ∙ rw (
        unmarked-by before refl,
        packet-unmarked lane m ws,
      )
  unmarked-by (closed before) e = cc

bare-marks : (fs : List Flit) → has_mark (map bare fs) ≡ has_mark fs
bare-marks [] = refl
bare-marks (f ∷ fs) = rw (bare-marks fs)

-- in a list whose last alone may be a mark, what follows a mark is nothing
last_mark : (gs as' : List Flit) (z m : Flit) (bs : List Flit) → has_mark gs ≡ false → gs ++ z ∷ [] ≡ as' ++ m ∷ bs
    → is_mark m.kind ≡ true → bs ≡ []
last_mark [] [] z m bs none e marked = cc
last_mark [] (a ∷ []) z m bs none e marked = cc
last_mark [] (a ∷ b ∷ as') z m bs none e marked = cc
last_mark (g ∷ gs) [] z m bs none e marked =
    let first : g ≡ m = cc in
    let off = (or-false (is_mark g.kind) (has_mark gs) none).0 in
    let on : is_mark g.kind ≡ true = ap (λ (f : Flit). is_mark f.kind) first ∙ marked in
    cc
last_mark (g ∷ gs) (a ∷ as') z m bs none e marked =
    let rest : gs ++ z ∷ [] ≡ as' ++ m ∷ bs = cc in
    last_mark gs as' z m bs (or-false (is_mark g.kind) (has_mark gs) none).1 rest marked

no_mark : (gs as' : List Flit) (m : Flit) (bs : List Flit) → has_mark gs ≡ false → gs ≡ as' ++ m ∷ bs
    → is_mark m.kind ≡ true → ⊥
no_mark [] [] m bs none e marked = cc
no_mark [] (a ∷ as') m bs none e marked = cc
no_mark (g ∷ gs) [] m bs none e marked =
    let first : g ≡ m = cc in
    let off = (or-false (is_mark g.kind) (has_mark gs) none).0 in
    let on : is_mark g.kind ≡ true = ap (λ (f : Flit). is_mark f.kind) first ∙ marked in
    cc
no_mark (g ∷ gs) (a ∷ as') m bs none e marked =
    let rest : gs ≡ as' ++ m ∷ bs = cc in
    no_mark gs as' m bs (or-false (is_mark g.kind) (has_mark gs) none).1 rest marked

history_mark : (lane : Lane) {n : ℕ} {b : Bool} {fs : List Flit} → History lane n b fs
    → (as' : List Flit) (m : Flit) (bs : List Flit) → map bare fs ≡ as' ++ m ∷ bs → is_mark m.kind ≡ true → bs ≡ []
history_mark lane fresh as' m bs e marked = absurd (no_mark [] as' m bs refl e marked)
history_mark lane (packet {n} {fs} ws some few before) as' m bs e marked =
    let none : has_mark (map bare (fs ++ packet_flits lane n ws)) ≡ false =
    bare-marks (fs ++ packet_flits lane n ws)
    ∙ unmarked lane (n + 1) (fs ++ packet_flits lane n ws) (packet ws some few before) in
    absurd (no_mark (map bare (fs ++ packet_flits lane n ws)) as' m bs none e marked)
history_mark lane (closed {n} {fs} before) as' m bs e marked =
    last_mark (map bare fs) as' (bare (mark lane n)) m bs (bare-marks fs ∙ unmarked lane n fs before)
    (sym (map-append bare fs (mark lane n ∷ [])) ∙ e) marked

pub mark_is_last : (s : Shape) (net : Network) → Sound s net → LanesCut s net → (lane : Lane) (c : ℕ) → HasLane s lane
    → Owns s lane.class c → OwnsAlone s lane.class c →
    (as' : List Flit) (m : Flit) (bs : List Flit) → delivered s net lane ≡ as' ++ m ∷ bs → is_mark m.kind ≡ true
    → bs ++ underway s net lane c ≡ []
mark_is_last s net sound cut lane c there owned alone as' m bs e marked =
    history_mark lane (sound.histories lane) as' m (bs ++ underway s net lane c)
    (sym (cut lane c there owned alone) ∙ ap (λ fs. fs ++ underway s net lane c) e
    ∙ append_assoc as' (m ∷ bs) (underway s net lane c)) marked

bare-none : (fs : List Flit) → map bare fs ≡ [] → fs ≡ []
bare-none [] e = refl
bare-none (f ∷ fs) e = cc

-- so a mark is the last that its lane's source accepted
pub mark_is_accepted_last : (s : Shape) (net : Network) → Sound s net
    → (lane : Lane) (as' : List Flit) (m : Flit) (bs : List Flit) → lane_injected net lane ≡ as' ++ m ∷ bs
    → is_mark m.kind ≡ true → bs ≡ []
mark_is_accepted_last s net sound lane as' m bs e marked =
    bare-none bs (history_mark lane (sound.histories lane) (map bare as') (bare m) (map bare bs)
    (ap (λ fs. map bare fs) e ∙ map-append bare as' (m ∷ bs)) marked)

find_mark : (fs : List Flit) → has_mark fs ≡ true
    → (as' : List Flit) × (m : Flit) × (bs : List Flit) × (fs ≡ as' ++ m ∷ bs) × (is_mark m.kind ≡ true)
find_mark [] e = cc
find_mark (f ∷ fs) e =
    elim (bool_cases (is_mark f.kind)) [
      | inl on ↦ ([], f, fs, refl, on)
      | inr off ↦
          let later : has_mark fs ≡ true = rw off at e in
          let r = find_mark fs later in
          (f ∷ r.0, r.1, r.2, ap (λ gs. f ∷ gs) r.3, r.4)
    ]

-- once a lane's mark is delivered its sink gets nothing more of it, if sinks only grow and the network is sound still
pub nothing_more_grown : (s : Shape) (old new : Network) → Sound s new → LanesCut s new → SinksGrow s old new
    → (lane : Lane) (c : ℕ)
    → HasLane s lane → Owns s lane.class c → OwnsAlone s lane.class c → has_mark (delivered s old lane) ≡ true
    → NothingMore s old new lane
nothing_more_grown s old new sound cut grow lane c there owned alone marked =
    let grown = grow lane.dst in
    let found = find_mark (delivered s old lane) marked in
    let all : delivered s new lane ≡ found.0 ++ found.1 ∷ (found.2 ++ held lane grown.0) =
    ap (λ fs. held lane fs) grown.1 ∙ held-append lane (old.out lane.dst s.terminal) grown.0
    ∙ ap (λ fs. fs ++ held lane grown.0) found.3 ∙ append_assoc found.0 (found.1 ∷ found.2) (held lane grown.0) in
    let last = mark_is_last s new sound cut lane c there owned alone found.0 found.1
    (found.2 ++ held lane grown.0) all found.4 in
    let none = (nil_parts found.2 (held lane grown.0)
    (nil_parts (found.2 ++ held lane grown.0) (underway s new lane c) last).0).1 in
    (grown.0, grown.1, bare-none (of_lane lane grown.0) none)

-- the same, whatever steps are taken
pub nothing_more : (s : Shape) → IsMesh s → (steps : List Step) (old new : Network) → StepsLead s old steps new
    → Sound s old → LanesCut s old → (lane : Lane) (c : ℕ) → HasLane s lane → Owns s lane.class c
    → OwnsAlone s lane.class c → has_mark (delivered s old lane) ≡ true → NothingMore s old new lane
nothing_more s mesh steps old new lead sound cut lane c there owned alone marked =
    let kept = steps_keep s mesh steps old new lead sound cut in
    nothing_more_grown s old new kept.0 kept.1
    (λ x. steps_sinks s mesh steps old new lead x) lane c there owned alone marked
