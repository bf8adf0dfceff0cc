use Rattle.std.proofs.Common.{◌<◌, ◌≤◌, length, refl, arith}
use Rattle.std.proofs.lemmas.Grind.{common_steps}
use Rattle.tc_realfs.proofs.Showing.{put_absent, put_there}
use Rattle.tc_realfs.proofs.pages.Pages.put_part.Goals as goal

pub returns-in_default : goal.returns-in_default
returns-in_default c = λ file inside s.
    let far : length c.args.self.now.slots.items ≤ c.of-spot.result.slot = grind (arith, common_steps) in
    put_absent c.of-spot.result c.args.at c.args.bytes.now file c.args.self.now _ c.of-spot.ensures c.requires.inside far refl inside s

pub returns : goal.returns
returns c = λ file inside s.
    let low : c.of-spot.result.slot < length c.args.self.now.slots.items = grind (arith, common_steps) in
    put_there c.of-spot.result c.args.at c.args.bytes.now file c.args.self.now _ c.in-Some.page.now c.put.new.self c.of-spot.ensures c.requires.inside (record { low = low; is = c.in-Some.ensures.value }) refl c.put.ensures inside s
