use Rattle.std.proofs.Common.{◌≡◌, ◌∙◌, false, sym, true}
use Rattle.tc_hashdb.proofs.many.given_up.Goals as goal

-- a limit was met in a space that isn't sound
pub returns-clause-full : goal.returns-clause-full
returns-clause-full g c = λ full. absurd (let never : true ≡ false = sym c.if-not-is_sound.false ∙ c.is_sound.ensures ∙ c.requires full in cc)
