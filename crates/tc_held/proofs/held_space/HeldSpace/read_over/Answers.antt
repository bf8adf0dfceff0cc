use Rattle.std.proofs.Common.{◌≡◌, ◌≤◌, ◌+◌, ◌⊎◌, length, take, drop, ap, ◌∙◌, arith, inl, inr, ⊎_elim}
use Rattle.std.proofs.lemmas.Bool.{cases_lt}
use Rattle.tc_held.specs.Held.{over}
use Rattle.tc_held.proofs.Holding.{held_same}
use Rattle.tc_held.proofs.Showing.{shown_all, shows_read}
use Rattle.tc_held.proofs.held_space.HeldSpace.read_over.Goals as goal

pub look_front-requires-clause-inside : goal.look_front-requires-clause-inside
look_front-requires-clause-inside g c = λ t some. omega (arith, some, c.min-long.ensures, c.saturating_sub-there.ensures, c.len.ensures t)

pub returns-in_err-look_front-clause-held : goal.returns-in_err-look_front-clause-held
returns-in_err-look_front-clause-held g c =
    let old = c.args.self.now in
    held_same g.S.Space g.S.Batched.logged old.below old.held c.requires.held c.look_front.new.space c.look_front.ensures.reads.keeps.same_limit c.look_front.ensures.reads.files c.look_front.ensures.logged

pub returns-clause-held : goal.returns-clause-held
returns-clause-held g c =
    let old = c.args.self.now in
    held_same g.S.Space g.S.Batched.logged old.below old.held c.requires.held c.look_front.new.space c.look_front.ensures.reads.keeps.same_limit c.look_front.ensures.reads.files c.look_front.ensures.logged

pub returns-clause-bytes : goal.returns-clause-bytes
returns-clause-bytes g c = λ t.
    let s = g.S.Space in
    let old = c.args.self.now in
    let f = c.args.file in
    let at = c.args.at in
    let under = s.now old.below f in
    let now = over old.held (s.now old.below) f in
    let read = c.look_front.new.into in
    let into = c.lay.new.into in
    let same : length read ≡ length c.args.into.now = c.look_front.auto.into in
    let long : length into ≡ length c.args.into.now = c.lay.ensures.long ∙ same in
    let n = c.min-long.result in
    let whole : (length under ≤ at + n) ⊎ (length read ≤ n) = ⊎_elim
    (λ less. inl (omega (arith, less, same, c.min-long.ensures, c.saturating_sub-there.ensures, c.len.ensures t)))
    (λ all. inr (omega (arith, all, same)))
    (cases_lt n (length c.args.into.now)) in
    let shows = c.lay.ensures.lays.each under (c.requires.held.reaches t f) (shows_read read at n under whole (c.in_ok-look_front.ensures.bytes t)) in
    shown_all into at now (omega (arith, long, c.requires.reaches.inside t)) shows ∙ ap (λ k. take k (drop at now)) long
