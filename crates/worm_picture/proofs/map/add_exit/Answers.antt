use Rattle.worm_picture.proofs.map.add_exit.Goals as goal

pub returns-in-Some : goal.returns-in-Some
returns-in-Some c = rw (c.in-Some.is, ← c.sign_of-sign.ensures) c.write.ensures.bytes
