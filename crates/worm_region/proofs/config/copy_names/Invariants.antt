use Rattle.std.proofs.Common.{◌≡◌, length, take}
use Rattle.worm_region.specs.State.{texts_of}
use Rattle.worm_region.proofs.config.copy_names.Given as goal

abbrev pub invariant-loop-name : goal.invariant-loop-name
invariant-loop-name l = record {
  copied : texts_of l.copies.items ≡ texts_of (take l.name-index l.name-items);
  count : length l.copies.items ≡ l.name-index;
}
