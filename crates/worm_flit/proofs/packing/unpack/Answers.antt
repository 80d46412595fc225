use Rattle.std.proofs.Common.{sym, ap, ◌∙◌, Some, true≢false}
use Rattle.worm_flit.specs.Packing.{flit_of, is_word, word_of}
use Rattle.worm_flit.proofs.Packed.{no_kind, no_source, is_one, flit_of-word_of, is_word-word_of, word_of-flit_of}
use Rattle.worm_flit.proofs.Packed.{read_is}
use Rattle.worm_flit.proofs.packing.unpack.Goals as goal

pub returns-then-kinds-gt4-clause-fields : goal.returns-then-kinds-gt4-clause-fields
returns-then-kinds-gt4-clause-fields c = rw (no_kind c.args.word c.if-kinds-gt4.true)

pub returns-then-kinds-gt4-clause-every : goal.returns-then-kinds-gt4-clause-every
returns-then-kinds-gt4-clause-every c =
    λ f fits e. absurd (true≢false (sym (is_word-word_of f fits)
    ∙ (ap is_word e ∙ no_kind c.args.word c.if-kinds-gt4.true)))

pub returns-then-sources-ge-BYTE-clause-fields : goal.returns-then-sources-ge-BYTE-clause-fields
returns-then-sources-ge-BYTE-clause-fields c = rw (no_source c.args.word c.if-sources-ge-BYTE.true)

pub returns-then-sources-ge-BYTE-clause-every : goal.returns-then-sources-ge-BYTE-clause-every
returns-then-sources-ge-BYTE-clause-every c =
    λ f fits e. absurd (true≢false (sym (is_word-word_of f fits)
    ∙ (ap is_word e ∙ no_source c.args.word c.if-sources-ge-BYTE.true)))

pub returns-clause-fields : goal.returns-clause-fields
returns-clause-fields c = rw (is_one c.args.word c.if-kinds-gt4.false c.if-sources-ge-BYTE.false)
    (ap Some (read_is c.args.word _ c.from_number.ensures))

pub returns-clause-found : goal.returns-clause-found
returns-clause-found c = ap word_of (read_is c.args.word _ c.from_number.ensures)
    ∙ word_of-flit_of c.args.word (is_one c.args.word c.if-kinds-gt4.false c.if-sources-ge-BYTE.false)

pub returns-clause-every : goal.returns-clause-every
returns-clause-every c = λ f fits e. ap Some
    (read_is c.args.word _ c.from_number.ensures ∙ (sym (ap flit_of e) ∙ flit_of-word_of f fits))
