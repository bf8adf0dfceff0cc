use Rattle.std.proofs.Common.{◌≡◌, refl, ap, subst, take, arith, rules, get_or, min}
use Rattle.tc_io.specs.Images.{cut_to}
use Rattle.ud_log.specs.Undo.{length_of}
use Rattle.ud_state.specs.Since.{quiet_then}
use Rattle.ud_state.specs.State.{Secured}
use Rattle.ud_state.proofs.Changing.{length_cut}
use Rattle.ud_state.proofs.Replaying.{short_at}
use Rattle.ud_state.proofs.Writing.{cut_done, cut_lost, cut_quiet}
use Rattle.tc_undo.proofs.Changing.{all_secured, begins_inside, changes, lens_stay, may_log}
use Rattle.tc_undo.proofs.through.cut_through.Goals as goal

pub secure-requires-clause-may : goal.secure-requires-clause-may
secure-requires-clause-may g c = may_log c.requires.may c.requires.lens

pub returns-in_err-cut-clause-quiet : goal.returns-in_err-cut-clause-quiet
returns-in_err-cut-clause-quiet g c = record {
  stays = search rules;
  quiet = λ t.
      let mid = g.V.Volume.calls c.secure.new.vol in
      let new = g.V.Volume.calls c.cut.new.self in
      let f = c.args.file in
      let here = (lens_stay c.requires.may c.requires.lens c.in_ok-secure.ensures.secures t).at f c.requires.may.data_file in
      let all = all_secured c.requires.may c.requires.lens c.in_ok-secure.ensures.secures t in
      let low = begins_inside c.requires.may c.requires.lens c.in_ok-secure.ensures.secures t in
      quiet_then _ mid new (c.secure.ensures.quiet.quiet t) (cut_lost mid new _ f c.args.len (subst (λ k. Secured mid c.secure.new.log.recorded f c.args.len k) here all) c.requires.may.data_file low (g.met.V.Volume.now_is_image c.secure.new.vol t) (g.met.V.Volume.now_is_image c.cut.new.self t) (c.in_err-cut.ensures.lost t));
}

pub returns-clause-quiet : goal.returns-clause-quiet
returns-clause-quiet g c = record {
  stays = search rules;
  quiet = λ t.
      let mid = g.V.Volume.calls c.secure.new.vol in
      let new = g.V.Volume.calls c.cut.new.self in
      let f = c.args.file in
      let here = (lens_stay c.requires.may c.requires.lens c.in_ok-secure.ensures.secures t).at f c.requires.may.data_file in
      let all = all_secured c.requires.may c.requires.lens c.in_ok-secure.ensures.secures t in
      let low = begins_inside c.requires.may c.requires.lens c.in_ok-secure.ensures.secures t in
      quiet_then _ mid new (c.secure.ensures.quiet.quiet t) (cut_quiet mid new _ f c.args.len (subst (λ k. Secured mid c.secure.new.log.recorded f c.args.len k) here all) c.requires.may.data_file low (g.met.V.Volume.now_is_image c.secure.new.vol t) (g.met.V.Volume.now_is_image c.cut.new.self t) (c.in_ok-cut.ensures.made t));
}

pub returns-clause-changes : goal.returns-clause-changes
returns-clause-changes g c =
    let mid = g.V.Volume.calls c.secure.new.vol in
    let new = g.V.Volume.calls c.cut.new.self in
    let lens = c.args.lens.now in
    let f = c.args.file in
    let secures = c.in_ok-secure.ensures.secures in
    let item : get_or lens c.place-i.result 0 ≡ length_of lens f = ap (λ k. get_or lens k 0) c.place-i.ensures.place in
    let is : c.min.result ≡ min (length_of lens f) c.args.len = omega (arith, c.min.ensures, item) in
    changes c.requires.may c.requires.lens secures new (cut_to c.args.len) c.in_ok-cut.ensures.made (take c.args.len) (λ l. refl) (λ k. min k c.args.len) (λ l le. length_cut c.args.len l)
    c.place-i.result c.min.result c.place-i.ensures.place is c.in_ok-secure.ensures.active (omega (arith, short_at lens c.place-i.result c.requires.lens.short, c.min.ensures))
    (λ t.
    let here = (lens_stay c.requires.may c.requires.lens secures t).at f c.requires.may.data_file in
    let all = all_secured c.requires.may c.requires.lens secures t in
    let low = begins_inside c.requires.may c.requires.lens secures t in
    cut_done mid new _ f c.args.len (subst (λ k. Secured mid c.secure.new.log.recorded f c.args.len k) here all) c.requires.may.data_file low (c.in_ok-cut.ensures.made t))
