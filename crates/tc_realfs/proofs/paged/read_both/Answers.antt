use Rattle.std.proofs.Common.{◌≡◌, ◌∙◌, ◌+◌, ◌*◌, ◌/◌, ◌≤◌, length, take, drop, sym, ap, arith}
use Rattle.tc_realfs.proofs.Showing.{read_front, read_behind}
use Rattle.tc_realfs.proofs.paged.read_both.Goals as goal

pub returns-clause-shows : goal.returns-clause-shows
returns-clause-shows g c = λ file told s.
    let read : c.read_at.new.into ≡ take (length c.read_at.new.into) (drop (c.args.at / 4096 * 4096) file) = c.in_ok-read_at.ensures file told ∙ ap (λ n. take n (drop (c.args.at / 4096 * 4096) file)) (sym c.read_at.auto.into) in
    let long : 4096 ≤ length c.read_at.new.into = omega (arith, c.read_at.auto.into, c.min-count.ensures) in
    let next : c.args.at / 4096 * 4096 + 4096 ≡ (c.args.at / 4096 + 1) * 4096 = omega arith in
    c.keep-2.ensures file
    (read_behind (c.args.at / 4096 * 4096) 4096 _ _ file c.split_at.ensures.back long read ∙ ap (λ n. take (length c.split_at.result.1.now) (drop n file)) next)
    (c.keep.ensures file (read_front (c.args.at / 4096 * 4096) 4096 _ _ file c.split_at.ensures.front c.split_at.ensures.front_len long read) s)
