-- A script, without where it lies in memory.
use Rattle.std.specs.Prelude.{List, map}
use Rattle.worm_script.specs.declared.entry.Entry.{Entry}
use Rattle.worm_text.specs.Traffic.{Said, entry_view}

abbrev pub said_of : List Entry → List Said
said_of script = map entry_view script
