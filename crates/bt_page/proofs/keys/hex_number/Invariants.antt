use Rattle.std.proofs.Common.{◌≡◌, ◌<◌, ◌^◌, take}
use Rattle.bt_page.specs.Keys.{hex_number}
use Rattle.bt_page.proofs.keys.hex_number.Given as goal

abbrev pub invariant-loop-b : goal.invariant-loop-b
invariant-loop-b l = record { value : l.n ≡ hex_number (take l.b-index l.digits); fits : l.n < 16 ^ l.b-index }
