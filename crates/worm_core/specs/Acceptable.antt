-- Scripts that no source refuses: their lanes are the network's, only lanes of classes with one channel are closed, and
-- no entry of a lane stands behind its close.
use Rattle.std.specs.Prelude.{ℕ, ◌≡◌, ◌==◌, ◌<◌, ◌&&◌, Bool, false, List, [], ◌∷◌, ◌++◌, length, slice_index, Option}
use Rattle.std.specs.Prelude.{Some, None, ◌⊎◌}
use Rattle.std.specs.List.{list_any}
use Rattle.worm_flit.specs.declared.Lane.{Lane}
use Rattle.worm_mesh.specs.Address.{node_count}
use Rattle.worm_script.specs.declared.entry.Act.{Act}
use Rattle.worm_script.specs.declared.entry.Act.TheVariants.{Offer, Close}
use Rattle.worm_script.specs.declared.entry.Entry.{Entry}
use Rattle.worm_region.specs.declared.fault.StepFault.{StepFault}
use Rattle.worm_region.specs.declared.fault.StepFault.TheVariants.{NoMemory}
use Rattle.worm_region.specs.State.{NetState}
use Rattle.worm_region.specs.NewNet.{IsFresh}
use Rattle.worm_script.specs.Script.{AreInOrder, lane_of}
use Rattle.worm_region.specs.Turns.{OneThreadRun}

-- it closes the lane
abbrev pub closes : Lane → Act → Bool
closes lane (Offer packet) = false
closes lane (Close other) = (other.src == lane.src) && (other.dst == lane.dst) && (other.class == lane.class)

-- one of the entries closes the lane
abbrev pub is_closed : List Entry → Lane → Bool
is_closed entries lane = list_any (λ (e : Entry). closes lane e.act) entries

-- only a lane whose class owns one channel is closed
abbrev pub MayClose : List ℕ → Act → Type 0
MayClose channels (Offer packet) = Unit {0}
MayClose channels (Close lane) = slice_index channels lane.class ≡ 1

-- what a network with this mesh and these channels may be asked behind these entries
pub record IsAcceptable (mesh channels : List ℕ) (before : List Entry) (act : Act) : Type 0 where
  pub src : (lane_of act).src < node_count mesh
  pub dst : (lane_of act).dst < node_count mesh
  pub class : (lane_of act).class < length channels
  pub open_lane : is_closed before (lane_of act) ≡ false
  pub may_close : MayClose channels act

-- each entry is acceptable behind those before it
abbrev pub AreAcceptable : List ℕ → List ℕ → List Entry → List Entry → Type 0
AreAcceptable mesh channels before [] = Unit {0}
AreAcceptable mesh channels before (e ∷ es) =
    IsAcceptable mesh channels before e.act × AreAcceptable mesh channels (before ++ e ∷ []) es

pub record IsAcceptableScript (mesh channels : List ℕ) (script : List Entry) : Type 0 where
  pub in_order : AreInOrder script
  pub few : length script < 65535
  pub entries : AreAcceptable mesh channels [] script

-- no fault ended it, or want of memory did
abbrev pub EndsForMemory : Option StepFault → Type 0
EndsForMemory fault = (fault ≡ None) ⊎ (fault ≡ Some NoMemory)

-- A run of such a script from a new network is ended by nothing but want of memory: no source refuses an entry.
abbrev pub IsTakenWhole : List ℕ → List ℕ → List Entry → Type 0
IsTakenWhole mesh channels script =
    (depth : ℕ) (names : List (List ℕ)) (opening closing : NetState) → IsFresh mesh channels depth names opening
    → (turns drain : ℕ) (stop : Option ℕ) (fault : Option StepFault)
    → OneThreadRun script turns drain opening stop fault closing → EndsForMemory fault
