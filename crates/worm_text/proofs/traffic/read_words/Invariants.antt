use Rattle.std.proofs.Common.{◌≡◌, [], length}
use Rattle.worm_text.specs.Traffic.{words_at}
use Rattle.worm_text.proofs.traffic.read_words.Given as goal

abbrev pub invariant-loop-words : goal.invariant-loop-words
invariant-loop-words l = words_at l.words.items l.fields ≡ words_at [] l.fn.fields

abbrev pub decreases-loop-words : goal.decreases-loop-words
decreases-loop-words l = length l.fields
