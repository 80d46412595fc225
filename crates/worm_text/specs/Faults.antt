-- The words that say a text's fault.
use Rattle.std.specs.Prelude.{ℕ, List, codes}
use Rattle.worm_text.specs.declared.fault.Why.{Why}
use Rattle.worm_text.specs.declared.fault.Why.TheVariants.{Header, Missing, Number, Range, Name, Repeated, UnknownWord}
use Rattle.worm_text.specs.declared.fault.Why.TheVariants.{OrderOfTurns, LaneClosed, TooMany, NoEnd, AfterEnd, NoMemory}
use Rattle.worm_text.specs.declared.fault.Why.TheVariants.{ManyChannels}

abbrev pub words_of : Why → List ℕ
words_of Header = codes "header"
words_of Missing = codes "missing"
words_of Number = codes "number"
words_of Range = codes "range"
words_of Name = codes "name"
words_of Repeated = codes "repeated"
words_of UnknownWord = codes "unknown word"
words_of OrderOfTurns = codes "order of turns"
words_of LaneClosed = codes "lane closed"
words_of TooMany = codes "too many"
words_of NoEnd = codes "no end"
words_of AfterEnd = codes "after end"
words_of NoMemory = codes "no memory"
words_of ManyChannels = codes "many channels"
