-- What is written of rows is the text that is read of them.
use Rattle.std.proofs.Common.{◌≡◌, ℕ, ◌+◌, ◌-◌, List, [], ◌∷◌, ◌++◌, map, refl, sym, ap, ◌∙◌, arith}
use Rattle.std.specs.Prelude.{codes}
use Rattle.std.specs.Fmt.{decimal}
use Rattle.std.proofs.lemmas.List.Concat.{flat_map-cons}
use Rattle.worm_flit.specs.declared.Flit.{Flit}
use Rattle.worm_flit.specs.declared.Kind.{Kind}
use Rattle.worm_flit.specs.declared.Kind.TheVariants as k
use Rattle.worm_report.specs.declared.row.Row as written
use Rattle.worm_report.specs.declared.row.Row.TheVariants as w
use Rattle.worm_core.specs.declared.view.Place.{Place}
use Rattle.worm_core.specs.declared.view.Place.TheVariants.{Source, Buffer, Link}
use Rattle.worm_report.specs.Rows as r
use Rattle.worm_text.specs.Lines.{line, newline}
use Rattle.worm_rows.specs.Rows.{row_fields, row_line, rows_text, load_fields, place_fields}
use Rattle.worm_rows.specs.Written.{load_of, row_of, IsSummed, AreSummed}

same_load : (kind : Kind) (flit : Flit) → r.load_fields kind flit ≡ load_fields (load_of kind flit)
same_load k.Single flit = refl
same_load k.Head flit = refl
same_load k.Body flit = refl
same_load k.Tail flit = refl
same_load k.Close flit = refl

same_place : (place : Place) → r.place_fields place ≡ place_fields place
same_place Source = refl
same_place (Buffer node port vc) = refl
same_place (Link node port vc) = refl

same_fields : (row : written.Row) → IsSummed row → r.row_fields row ≡ row_fields (row_of row)
same_fields w.Header h = refl
same_fields (w.Options turns workers drain) h = refl
same_fields (w.Stopped worker turn) h = refl
same_fields (w.Delivered node flit) h =
    ap (λ (fs : List (List ℕ)). codes "delivered" ∷ decimal node ∷ codes "from" ∷ decimal flit.lane.src ∷ codes "class"
    ∷ decimal flit.lane.class ∷ codes "packet" ∷ decimal flit.packet ∷ fs) (same_load flit.kind flit)
same_fields (w.Underway lane held) h =
    ap (λ (fs : List (List ℕ)). codes "underway" ∷ decimal lane.src ∷ decimal lane.dst ∷ codes "class"
    ∷ decimal held.flit.lane.class ∷ codes "packet" ∷ decimal held.flit.packet ∷ codes "flit"
    ∷ decimal held.flit.index ∷ fs) (same_place held.place)
same_fields (w.NotOffered entries) h = refl
same_fields (w.Total injected delivered) h =
    let sum : injected ≡ delivered + (injected - delivered) = omega arith in
    ap (λ (n : ℕ). codes "total" ∷ codes "injected" ∷ decimal n ∷ codes "delivered" ∷ decimal delivered
    ∷ codes "underway" ∷ decimal (injected - delivered) ∷ []) sum

same_line : (row : written.Row) → IsSummed row → r.row_text row ≡ row_line (row_of row) ++ newline ∷ []
unfolding r.row_text
same_line row h = ap (λ (fs : List (List ℕ)). line fs ++ newline ∷ []) (same_fields row h)

pub same_text : (rows : List written.Row) → AreSummed rows → r.rows_text rows ≡ rows_text (map row_of rows)
same_text [] h = refl
same_text (row ∷ rows) h =
    flat_map-cons r.row_text row rows ∙ ap (λ (x : List ℕ). x ++ r.rows_text rows) (same_line row h.0)
    ∙ ap (λ (x : List ℕ). (row_line (row_of row) ++ newline ∷ []) ++ x) (same_text rows h.1)
    ∙ sym (flat_map-cons (λ (l : List ℕ). l ++ newline ∷ []) (row_line (row_of row))
    (map row_line (map row_of rows)))
