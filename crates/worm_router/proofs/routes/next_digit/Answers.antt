use Rattle.worm_router.proofs.Digits.{counted, started}
use Rattle.worm_router.proofs.routes.next_digit.Goals as goal

pub returns-then-next-radix : goal.returns-then-next-radix
returns-then-next-radix c = λ n here. counted n c.args.digit c.args.radix here c.if-next-radix.true

pub returns-else-next-radix : goal.returns-else-next-radix
returns-else-next-radix c = λ n here.
    started n c.args.digit c.args.radix here c.requires c.if-next-radix.false
