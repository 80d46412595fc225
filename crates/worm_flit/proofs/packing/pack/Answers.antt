use Rattle.std.proofs.Common.{ap, ◌∙◌, arith}
use Rattle.worm_flit.specs.Packing.{word_of, flit_of, is_word, IsFlit}
use Rattle.worm_flit.proofs.Packed.{flit_of-word_of, is_word-word_of}
use Rattle.worm_flit.proofs.packing.pack.Goals as goal

pub returns-clause-word : goal.returns-clause-word
unfolding word_of
returns-clause-word c = cc

pub returns-clause-back : goal.returns-clause-back
returns-clause-back c =
    let f = c.args.flit in
    let fits : IsFlit f = record {
      src = omega arith;
      dst = omega arith;
      class = omega arith;
      packet = omega arith;
      index = omega arith;
      vc = omega arith;
      word = omega arith;
    } in (
      ap is_word (returns-clause-word c) ∙ is_word-word_of f fits,
      ap flit_of (returns-clause-word c) ∙ flit_of-word_of f fits,
    )
