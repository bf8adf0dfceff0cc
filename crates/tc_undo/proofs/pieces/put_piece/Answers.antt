use Rattle.std.proofs.Common.{◌≡◌, ◌+◌, max, length, get_or, set, refl, sym, ◌∙◌, ap, subst, arith, rules, true}
use Rattle.tc_base.specs.Files.{wrote}
use Rattle.tc_io.specs.Images.{written, now}
use Rattle.ud_log.specs.Undo.{length_of, place_of}
use Rattle.ud_state.specs.State.{AreLens, Unchanged}
use Rattle.ud_state.proofs.Changing.{length_write, mark_unchanged, set_lens, step_others, step_reads}
use Rattle.ud_state.proofs.Replaying.{short_at}
use Rattle.ud_state.proofs.Writing.{put_lost, put_quiet}
use Rattle.tc_undo.proofs.Needs.{same_set, short_set}
use Rattle.tc_undo.proofs.Putting.{put_tx}
use Rattle.tc_undo.proofs.pieces.put_piece.Goals as goal

pub returns-in_err-write-clause-quiet : goal.returns-in_err-write-clause-quiet
returns-in_err-write-clause-quiet g c = record {
  stays = search rules;
  quiet = λ t.
      let r = c.requires in
      put_lost (g.V.Volume.calls c.args.vol.now) (g.V.Volume.calls c.write.new.self) _ c.args.file c.args.at c.args.bytes.now (r.secured t) r.data_file (r.within t) r.small (g.met.V.Volume.now_is_image c.args.vol.now t) (g.met.V.Volume.now_is_image c.write.new.self t) (c.in_err-write.ensures.lost t);
}

pub returns-clause-quiet : goal.returns-clause-quiet
returns-clause-quiet g c = record {
  stays = search rules;
  quiet = λ t.
      let r = c.requires in
      put_quiet (g.V.Volume.calls c.args.vol.now) (g.V.Volume.calls c.write.new.self) _ c.args.file c.args.at c.args.bytes.now (r.secured t) r.data_file (r.within t) r.small (g.met.V.Volume.now_is_image c.args.vol.now t) (g.met.V.Volume.now_is_image c.write.new.self t) (c.in_ok-write.ensures.made t);
}

pub returns-clause-puts : goal.returns-clause-puts
returns-clause-puts g c =
    let r = c.requires in
    let old = g.V.Volume.calls c.args.vol.now in
    let new = g.V.Volume.calls c.write.new.self in
    let f = c.args.file in
    let at = c.args.at in
    let bytes = c.args.bytes.now in
    let lens = c.args.lens.now in
    let end = at + length bytes in
    let i = c.place-i.result in
    let n = c.max.result in
    let step = written at bytes in
    let made = c.in_ok-write.ensures.made in
    let item : get_or lens i 0 ≡ length_of lens f = ap (λ k. get_or lens k 0) c.place-i.ensures.place in
    let is : n ≡ max (length_of lens f) end = omega (arith, c.max.ensures, item) in
    let here : (t : g.V.Volume.tells) → now new f ≡ wrote at bytes (now old f) = λ t. step_reads old new f step (made t) r.data_file in
    record {
      log_is = refl;
      tx = λ t kept es tx guards. put_tx old new kept es f at bytes tx r.data_file (r.within t) r.small guards (made t);
      unchanged = λ t u. subst (λ k. Unchanged new (set c.args.log.now.changed k true)) (sym c.place-i.ensures.place) (mark_unchanged old new f step (made t) r.data_file c.args.log.now.changed u);
      lens = record {
        short = short_set lens i n r.knows.short (omega (arith, short_at lens i r.knows.short, c.max.ensures, r.small));
        are = λ t.
            let long : n ≡ length (now new f) = is ∙ ap (λ k. max k end) ((r.knows.are t).at f r.data_file) ∙ sym (ap length (here t) ∙ length_write at bytes (now old f) (r.within t)) in
            subst (λ k. AreLens (set lens k n) (now new)) (sym c.place-i.ensures.place) (set_lens old new f step (made t) r.data_file lens n (r.knows.are t) long);
      };
      sized = same_set lens i (place_of f) n (max (length_of lens f) end) c.place-i.ensures.place is;
      here = here;
      others = λ t h other. step_others old new f step (made t) r.data_file h other;
    }
