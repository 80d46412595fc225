use Rattle.std.proofs.Common.{◌≡◌, ◌<◌, ◌∙◌, ℕ, List, Some, Ok, [], ◌∷◌, ◌++◌, map, length, sym, ap, refl, inl, inr}
use Rattle.std.proofs.Common.{arith}
use Rattle.std.proofs.lemmas.List.{length-map, length_push}
use Rattle.std.proofs.lemmas.Bool.Decides.{nat_tests}
use Rattle.std.specs.BTreeSet.{contains}
use Rattle.std.specs.Prelude.{◌||◌}
use Rattle.worm_flit.specs.declared.Lane.{Lane}
use Rattle.worm_text.specs.Lines.{cut, space, newline}
use Rattle.worm_text.specs.Network.{view}
use Rattle.worm_text.specs.Traffic.{Said, read_entries, entry_view, lane_cmp, closes}
use Rattle.worm_text.specs.Asked.{said_by}
use Rattle.worm_text.proofs.Entries.{same_call, stops, ends_well, ends_ill, goes_on, last-push, closed-push, room}
use Rattle.worm_text.proofs.Entries.{on_ok}
use Rattle.worm_text.proofs.TrafficPieces.{read_one, last_read}
use Rattle.worm_text.proofs.traffic.read_entries.Goals as goal

pub returns-in-Err : goal.returns-in-Err
returns-in-Err c =
    let n = view c.args.config.now in
    let es = c.loop-front.script in
    let i = c.loop-front.invariant in
    let len : c.len.result ≡ length (map entry_view es) =
    omega (arith, length-map es entry_view, c.len.ensures) in
    let call = same_call n (map entry_view es) c.len.result c.loop-front.last
    (contains lane_cmp c.loop-front.closed.lanes) (cut space c.in-Some.front.now) len i.last i.closed in
    inr (stops n (map entry_view es) c.loop-front.line c.loop-front.rest.now c.in-Some.front.now c.in-Some.after.now
    (read_entries n [] 2 (cut newline c.args.rest.now)) c.in-Err.why c.in-Some.ensures.parts i.read
    (sym call ∙ c.in-Err.ensures))

pub returns-then-is_empty : goal.returns-then-is_empty
returns-then-is_empty c =
    let n = view c.args.config.now in
    let es = c.loop-front.script in
    let i = c.loop-front.invariant in
    let len : c.len.result ≡ length (map entry_view es) =
    omega (arith, length-map es entry_view, c.len.ensures) in
    let call = same_call n (map entry_view es) c.len.result c.loop-front.last
    (contains lane_cmp c.loop-front.closed.lanes) (cut space c.in-Some.front.now) len i.last i.closed in
    let none : length c.in-Some.after.now ≡ 0 = grind (arith, nat_tests, c.is_empty.ensures, c.if-is_empty.true) in
    ends_well n (map entry_view es) c.loop-front.line c.loop-front.rest.now c.in-Some.front.now c.in-Some.after.now
    (read_entries n [] 2 (cut newline c.args.rest.now)) c.in-Some.ensures.parts i.read
    (sym call ∙ rw c.in-Ok-None.field-0-is at c.in-Ok-None.ensures) none

pub returns-else-is_empty : goal.returns-else-is_empty
returns-else-is_empty c =
    let n = view c.args.config.now in
    let es = c.loop-front.script in
    let i = c.loop-front.invariant in
    let len : c.len.result ≡ length (map entry_view es) =
    omega (arith, length-map es entry_view, c.len.ensures) in
    let call = same_call n (map entry_view es) c.len.result c.loop-front.last
    (contains lane_cmp c.loop-front.closed.lanes) (cut space c.in-Some.front.now) len i.last i.closed in
    let some : 0 < length c.in-Some.after.now = grind (arith, nat_tests, c.is_empty.ensures, c.if-is_empty.false) in
    inr (ends_ill n (map entry_view es) c.loop-front.line c.loop-front.rest.now c.in-Some.front.now c.in-Some.after.now
    (read_entries n [] 2 (cut newline c.args.rest.now)) c.in-Some.ensures.parts i.read
    (sym call ∙ rw c.in-Ok-None.field-0-is at c.in-Ok-None.ensures) some)

pub loop-front-preserved : goal.loop-front-preserved
loop-front-preserved c =
    let n = view c.args.config.now in
    let es = c.loop-front.script in
    let i = c.loop-front.invariant in
    let len : c.len.result ≡ length (map entry_view es) =
    omega (arith, length-map es entry_view, c.len.ensures) in
    let call = same_call n (map entry_view es) c.len.result c.loop-front.last
    (contains lane_cmp c.loop-front.closed.lanes) (cut space c.in-Some.front.now) len i.last i.closed in
    let e = c.entry-entry.result in
    let made = c.entry-entry.ensures ∙ ap (λ (ws : List ℕ). said_by c.in-Ok-Some.asked ws) c.as_slice.ensures.value in
    let told = rw c.in-Ok-Some.field-0-is at c.in-Ok-Some.ensures ∙ ap (λ (s : Said). Ok (Some s)) (sym made) in
    let j = sym call ∙ told in
    let items : c.push.new.self ≡ es ++ e ∷ [] =
    on_ok c.push.result c.is_err-else-is_err.result
    (c.push.new.self ≡ es ++ e ∷ []) c.push.ensures.ok c.is_err-else-is_err.ensures.negation
    c.if-is_err-2.false in
    let g = goes_on n es e c.loop-front.line c.loop-front.rest.now c.in-Some.front.now c.in-Some.after.now
    (read_entries n [] 2 (cut newline c.args.rest.now)) c.in-Some.ensures.parts i.read j in
    let r = room n c.len.result c.loop-front.last (contains lane_cmp c.loop-front.closed.lanes)
    (cut space c.in-Some.front.now) (entry_view e) told in
    let noted = on_ok c.note.result c.is_err.result ((other : Lane)
    → contains lane_cmp c.note.new.self.lanes other
    ≡ (closes other (entry_view e) || contains lane_cmp c.loop-front.closed.lanes other)) c.note.ensures.noted
    c.is_err.ensures.negation c.if-is_err.false in
    record {
      read = rw items g;
      last = rw items (last-push es e);
      closed = λ lane. rw items (closed-push es e lane (contains lane_cmp c.loop-front.closed.lanes lane)
          (contains lane_cmp c.note.new.self.lanes lane) (i.closed lane) (noted lane));
      count = rw items (omega (arith, length_push es e, i.count));
      few = rw items (omega (arith, length_push es e, len, length-map es entry_view, r));
      read_so_far = rw items (read_one n es e
          (cut newline c.args.rest.now) c.loop-front.rest.now c.in-Some.front.now c.in-Some.after.now
          (omega (arith, c.requires.counted, c.requires.few)) c.in-Some.ensures.parts i.read_so_far j);
    }

pub returns-then-is_err : goal.returns-then-is_err
returns-then-is_err c =
    let n = view c.args.config.now in
    let es = c.loop-front.script in
    let i = c.loop-front.invariant in
    let len : c.len.result ≡ length (map entry_view es) =
    omega (arith, length-map es entry_view, c.len.ensures) in
    let call = same_call n (map entry_view es) c.len.result c.loop-front.last
    (contains lane_cmp c.loop-front.closed.lanes) (cut space c.in-Some.front.now) len i.last i.closed in
    let pieces = cut newline c.args.rest.now in
    let e = c.entry-entry.result in
    let made = c.entry-entry.ensures ∙ ap (λ (ws : List ℕ). said_by c.in-Ok-Some.asked ws) c.as_slice.ensures.value in
    let told = rw c.in-Ok-Some.field-0-is at c.in-Ok-Some.ensures ∙ ap (λ (s : Said). Ok (Some s)) (sym made) in
    let one = read_one n es e pieces c.loop-front.rest.now c.in-Some.front.now c.in-Some.after.now
    (omega (arith, c.requires.counted, c.requires.few)) c.in-Some.ensures.parts i.read_so_far (sym call ∙ told) in
    inl (refl, last_read n es e pieces c.in-Some.after.now c.loop-front.line one i.count)
