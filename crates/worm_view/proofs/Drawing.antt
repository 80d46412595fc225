-- What a call that writes tells, where both texts are accepted.
use Rattle.std.proofs.Common.{◌≡◌, ◌++◌, ◌∙◌, ℕ, List, Option, Result, Ok, Err, OnOk, OnErr, IfErr, ap}
use Rattle.std.proofs.Common.{append-nil, inl, inr, subst, sym}
use Rattle.std.specs.Io.KnownBytes.{Appends, Keeps}
use Rattle.worm_report.specs.Writing.{Writes}
use Rattle.worm_report.specs.declared.summary.ReportFault.{ReportFault}
use Rattle.worm_view.specs.declared.form.Form.{Form}
use Rattle.worm_view.specs.declared.fault.ViewFault.{ViewFault}
use Rattle.worm_view.specs.declared.fault.ViewFault.TheVariants.{Network, Report, ReadNetwork, ReadReport, NoMemory}
use Rattle.worm_view.specs.declared.fault.ViewFault.TheVariants.{Write}
use Rattle.worm_view.specs.Programs.{BeginsToDraw, DrawsTexts, FailsTexts, FailsToDraw, GaveBoth, IsDrawing, Stream}
use Rattle.worm_view.specs.Programs.{WritesPart, stream}
use Rattle.worm_view.specs.Views.{IsRefused}

-- ---- bytes that are those of a drawing

pub gave_all : {a b : Option (List ℕ)} {u : Unit {0}} (bytes drawing : List ℕ) → bytes ≡ drawing
    → Writes a b (Ok u) bytes → Appends a b drawing
gave_all {a = a} {b = b} bytes drawing same w =
    subst (Appends a b)
    (sym (w.whole ∙ ap (λ (z : List ℕ). w.front ++ z) w.all ∙ append-nil w.front) ∙ same) w.given

pub gave_part : {a b : Option (List ℕ)} {r : Result (Unit {0}) ReportFault} (bytes drawing : List ℕ) → bytes ≡ drawing
    → Writes a b r bytes → WritesPart (stream a b) drawing
gave_part bytes drawing same w =
    record { front = w.front; rest = w.rest; whole = sym same ∙ w.whole; written = w.given }

-- ---- texts

pub drew : (form : Form) (network report drawing : List ℕ) (out : Stream) (result : Result (Unit {0}) ViewFault)
    → IsDrawing form network report drawing → OnOk result (Appends out.old out.new drawing)
    → OnOk result (DrawsTexts form network report out)
drew form network report drawing out (Ok done) of_texts written =
    record { drawing = drawing; of_texts = of_texts; written = written }
drew form network report drawing out (Err fault) of_texts written = tt

pub failed : (form : Form) (network report drawing : List ℕ) (out : Stream) (result : Result (Unit {0}) ViewFault)
    → IsDrawing form network report drawing → IfErr result (λ fault. fault ≡ Write)
    → OnErr result (WritesPart out drawing) → IfErr result (FailsTexts form network report out)
failed form network report drawing out (Ok done) of_texts same written = tt
failed form network report drawing out (Err fault) of_texts same written =
    let begun : BeginsToDraw form network report out =
    record { drawing = drawing; of_texts = of_texts; written = written } in
    subst (FailsTexts form network report out) (sym same) begun

-- two texts that are not both accepted, where nothing was written
pub refused : (form : Form) (network report : List ℕ) (out : Stream) (fault : ViewFault)
    → IsRefused network report fault → Keeps out.old out.new → FailsTexts form network report out fault
refused form network report out (Network t) is keeps = (is, keeps)
refused form network report out (Report t) is keeps = (is, keeps)
refused form network report out ReadNetwork is keeps = absurd is
refused form network report out ReadReport is keeps = absurd is
refused form network report out NoMemory is keeps = (inl is, keeps)
refused form network report out Write is keeps = absurd is

-- ---- readers

-- what a fault tells of two texts, it tells of the readers that gave them
told : (form : Form) (first second out : Stream) (network report : List ℕ) (fault : ViewFault)
    → GaveBoth first second network report → FailsTexts form network report out fault
    → FailsToDraw form first second out fault
told form first second out network report (Network t) gave h =
    record { network = network; report = report; gave = gave; fails = h }
told form first second out network report (Report t) gave h =
    record { network = network; report = report; gave = gave; fails = h }
told form first second out network report ReadNetwork gave h = absurd h
told form first second out network report ReadReport gave h = absurd h
told form first second out network report NoMemory gave h =
    inr (record { network = network; report = report; gave = gave; fails = h })
told form first second out network report Write gave h =
    record { network = network; report = report; gave = gave; fails = h }

pub failed_reading : (form : Form) (first second out : Stream) (network report read_network read_report : List ℕ)
    (result : Result (Unit {0}) ViewFault) → GaveBoth first second network report
    → read_network ≡ network → read_report ≡ report → IfErr result (FailsTexts form read_network read_report out)
    → IfErr result (FailsToDraw form first second out)
failed_reading form first second out network report read_network read_report (Ok done) gave n r h = tt
failed_reading form first second out network report read_network read_report (Err fault) gave n r h =
    told form first second out network report fault gave
    (subst (λ (text : List ℕ). FailsTexts form network text out fault) r
    (subst (λ (text : List ℕ). FailsTexts form text read_report out fault) n h))
