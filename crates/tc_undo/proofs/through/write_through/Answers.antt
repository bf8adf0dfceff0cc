use Rattle.std.proofs.Common.{◌≡◌, ◌+◌, refl, ap, length, arith, rules, get_or, max}
use Rattle.tc_base.specs.Files.{wrote}
use Rattle.tc_io.specs.Images.{written}
use Rattle.ud_log.specs.Undo.{length_of}
use Rattle.ud_state.specs.Since.{quiet_then}
use Rattle.ud_state.proofs.Changing.{length_write}
use Rattle.ud_state.proofs.Replaying.{short_at}
use Rattle.ud_state.proofs.Writing.{put_done, put_lost, put_quiet}
use Rattle.tc_undo.proofs.Changing.{all_secured, begins_inside, changes, may_log}
use Rattle.tc_undo.proofs.through.write_through.Goals as goal

pub secure-requires-clause-may : goal.secure-requires-clause-may
secure-requires-clause-may g c = may_log c.requires.may c.requires.lens

pub returns-in_err-write-clause-quiet : goal.returns-in_err-write-clause-quiet
returns-in_err-write-clause-quiet g c = record {
  stays = search rules;
  quiet = λ t.
      let mid = g.V.Volume.calls c.secure.new.vol in
      let new = g.V.Volume.calls c.write.new.self in
      let all = all_secured c.requires.may c.requires.lens c.in_ok-secure.ensures.secures t in
      let low = begins_inside c.requires.may c.requires.lens c.in_ok-secure.ensures.secures t in
      quiet_then _ mid new (c.secure.ensures.quiet.quiet t) (put_lost mid new _ c.args.file c.args.at c.args.bytes.now all c.requires.may.data_file low c.requires.small (g.met.V.Volume.now_is_image c.secure.new.vol t) (g.met.V.Volume.now_is_image c.write.new.self t) (c.in_err-write.ensures.lost t));
}

pub returns-clause-quiet : goal.returns-clause-quiet
returns-clause-quiet g c = record {
  stays = search rules;
  quiet = λ t.
      let mid = g.V.Volume.calls c.secure.new.vol in
      let new = g.V.Volume.calls c.write.new.self in
      let all = all_secured c.requires.may c.requires.lens c.in_ok-secure.ensures.secures t in
      let low = begins_inside c.requires.may c.requires.lens c.in_ok-secure.ensures.secures t in
      quiet_then _ mid new (c.secure.ensures.quiet.quiet t) (put_quiet mid new _ c.args.file c.args.at c.args.bytes.now all c.requires.may.data_file low c.requires.small (g.met.V.Volume.now_is_image c.secure.new.vol t) (g.met.V.Volume.now_is_image c.write.new.self t) (c.in_ok-write.ensures.made t));
}

pub returns-clause-changes : goal.returns-clause-changes
returns-clause-changes g c =
    let mid = g.V.Volume.calls c.secure.new.vol in
    let new = g.V.Volume.calls c.write.new.self in
    let lens = c.args.lens.now in
    let end = c.args.at + length c.args.bytes.now in
    let secures = c.in_ok-secure.ensures.secures in
    let item : get_or lens c.place-i.result 0 ≡ length_of lens c.args.file = ap (λ k. get_or lens k 0) c.place-i.ensures.place in
    let is : c.max.result ≡ max (length_of lens c.args.file) end = omega (arith, c.max.ensures, item) in
    changes c.requires.may c.requires.lens secures new (written c.args.at c.args.bytes.now) c.in_ok-write.ensures.made (wrote c.args.at c.args.bytes.now) (λ l. refl) (λ k. max k end) (length_write c.args.at c.args.bytes.now)
    c.place-i.result c.max.result c.place-i.ensures.place is c.in_ok-secure.ensures.active (omega (arith, short_at lens c.place-i.result c.requires.lens.short, c.max.ensures, c.requires.small))
    (λ t.
    let all = all_secured c.requires.may c.requires.lens secures t in
    let low = begins_inside c.requires.may c.requires.lens secures t in
    put_done mid new _ c.args.file c.args.at c.args.bytes.now all c.requires.may.data_file low c.requires.small (c.in_ok-write.ensures.made t))
