use Rattle.ty_memc.proofs.pieces.SeenPiece.new.Goals as goal

pub returns : goal.returns
returns c = λ bytes. record { request = c.new.ensures bytes; text = c.new-2.ensures bytes }
