-- What the program makes of two texts: a drawing of the report, or the fault that comes first.
use Rattle.std.specs.Prelude.{ℕ, ◌≡◌, ◌⊎◌, List, ◌++◌, Option, Result, IfErr, OnOk}
use Rattle.std.specs.Io.KnownBytes.{Keeps, Appends}
use Rattle.worm_text.specs.Network.{Network}
use Rattle.worm_rows.specs.declared.shape.Shape.{Shape}
use Rattle.worm_rows.specs.declared.rows.Row.{Row}
use Rattle.worm_view.specs.declared.form.Form.{Form}
use Rattle.worm_view.specs.declared.form.Form.TheVariants.{Picture, Map, Waits}
use Rattle.worm_view.specs.declared.fault.ViewFault.{ViewFault}
use Rattle.worm_view.specs.declared.fault.ViewFault.TheVariants as f
use Rattle.worm_picture.specs.Map.{MapsRows}
use Rattle.worm_picture.specs.Picture.{PicturesRows}
use Rattle.worm_waits.specs.Text.{TellsWaits}
use Rattle.worm_text.specs.Whole.{GaveFront, GaveWhole, IsWhole}
use Rattle.worm_view.specs.Views.{IsAccepted, IsRefused, RanOutOver}

-- what a reader had left and has left, or what a writer held and holds
pub record Stream : Type 0 where
  pub old : Option (List ℕ)
  pub new : Option (List ℕ)

abbrev pub stream : Option (List ℕ) → Option (List ℕ) → Stream
stream old new = record { old = old; new = new }

-- a reader gave this text, of 64 MiB at most, to its end
abbrev pub GaveText : Stream → List ℕ → Type 0
GaveText reader text = IsWhole 67108864 reader.old reader.new text

-- a reader gave some text so
abbrev pub GaveSome : Stream → Type 0
GaveSome reader = GaveWhole 67108864 reader.old reader.new

-- a reader gave some first part of what it had
abbrev pub GavePart : Stream → Type 0
GavePart reader = GaveFront reader.old reader.new

-- both readers gave their texts to the end
pub record GaveBoth (first second : Stream) (network report : List ℕ) : Type 0 where
  pub of_network : GaveText first network
  pub of_report : GaveText second report

-- Texts at hand

-- both texts are accepted
pub record Accepts (network report : List ℕ) : Type 0 where
  pub said : Network
  pub shape : Shape
  pub rows : List Row
  pub accepted : IsAccepted network report said shape rows

-- what a drawing of a report shows: a picture its flits, a map where they are, and the waits who waits for whom
abbrev pub IsDrawn : Form → Network → Shape → List Row → List ℕ → Type 0
IsDrawn Picture n s rows drawing = PicturesRows s rows drawing
IsDrawn Map n s rows drawing = MapsRows s n.depth rows drawing
IsDrawn Waits n s rows drawing = TellsWaits s n.channels n.depth rows drawing

-- both texts are accepted, and this is drawn of them
pub record IsDrawing (form : Form) (network report drawing : List ℕ) : Type 0 where
  pub accepts : Accepts network report
  pub drawn : IsDrawn form accepts.said accepts.shape accepts.rows drawing

-- a first part of these bytes was written
pub record WritesPart (out : Stream) (bytes : List ℕ) : Type 0 where
  pub front : List ℕ
  pub rest : List ℕ
  pub whole : bytes ≡ front ++ rest
  pub written : Appends out.old out.new front

-- a drawing of both texts was written, all of it
pub record DrawsTexts (form : Form) (network report : List ℕ) (out : Stream) : Type 0 where
  pub drawing : List ℕ
  pub of_texts : IsDrawing form network report drawing
  pub written : Appends out.old out.new drawing

-- a first part of a drawing of both texts was written
pub record BeginsToDraw (form : Form) (network report : List ℕ) (out : Stream) : Type 0 where
  pub drawing : List ℕ
  pub of_texts : IsDrawing form network report drawing
  pub written : WritesPart out drawing

-- What a fault tells of two texts at hand: nothing was written, but where the writer failed. Memory ran out over the
-- report, or over the drawing of two texts that are accepted.
abbrev pub FailsTexts : Form → List ℕ → List ℕ → Stream → ViewFault → Type 0
FailsTexts form network report out (f.Network t) = IsRefused network report (f.Network t) × Keeps out.old out.new
FailsTexts form network report out (f.Report t) = IsRefused network report (f.Report t) × Keeps out.old out.new
FailsTexts form network report out f.ReadNetwork = ⊥
FailsTexts form network report out f.ReadReport = ⊥
FailsTexts form network report out f.NoMemory =
    (RanOutOver network report ⊎ Accepts network report) × Keeps out.old out.new
FailsTexts form network report out f.Write = BeginsToDraw form network report out

-- Readers

-- both readers gave their texts, and a drawing of the report was written
pub record Draws (form : Form) (first second out : Stream) : Type 0 where
  pub network : List ℕ
  pub report : List ℕ
  pub gave : GaveBoth first second network report
  pub draws : DrawsTexts form network report out

-- both readers gave their texts, of which this holds
pub record FailsBoth (Holds : List ℕ → List ℕ → Type 0) (first second : Stream) : Type 0 where
  pub network : List ℕ
  pub report : List ℕ
  pub gave : GaveBoth first second network report
  pub fails : Holds network report

-- What a fault of reading tells: the report is not read before the network was, and where memory ran out what was read
-- was read to its end, so that no text past the limit is told so.
abbrev pub ReadsNot : Stream → Stream → ViewFault → Type 0
ReadsNot first second f.ReadNetwork = GavePart first × Keeps second.old second.new
ReadsNot first second f.ReadReport = GaveSome first × GavePart second
ReadsNot first second f.NoMemory = GaveSome first × (Keeps second.old second.new ⊎ GaveSome second)
ReadsNot first second (f.Network t) = ⊥
ReadsNot first second (f.Report t) = ⊥
ReadsNot first second f.Write = ⊥

-- what a fault tells where two readers give the texts
abbrev pub FailsToDraw : Form → Stream → Stream → Stream → ViewFault → Type 0
FailsToDraw form first second out (f.Network t) =
    FailsBoth (λ network report. FailsTexts form network report out (f.Network t)) first second
FailsToDraw form first second out (f.Report t) =
    FailsBoth (λ network report. FailsTexts form network report out (f.Report t)) first second
FailsToDraw form first second out f.ReadNetwork = ReadsNot first second f.ReadNetwork × Keeps out.old out.new
FailsToDraw form first second out f.ReadReport = ReadsNot first second f.ReadReport × Keeps out.old out.new
FailsToDraw form first second out f.NoMemory =
    (ReadsNot first second f.NoMemory × Keeps out.old out.new)
    ⊎ FailsBoth (λ network report. FailsTexts form network report out f.NoMemory) first second
FailsToDraw form first second out f.Write =
    FailsBoth (λ network report. FailsTexts form network report out f.Write) first second

-- what a run answers, and what it reads and writes for that
pub record RunsView (form : Form) (first second out : Stream) (result : Result (Unit {0}) ViewFault) : Type 0 where
  pub ok : OnOk result (Draws form first second out)
  pub err : IfErr result (FailsToDraw form first second out)
