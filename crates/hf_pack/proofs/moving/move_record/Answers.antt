use Rattle.std.proofs.Common.{rules, ◌≡◌, ◌∙◌, ◌+◌, ◌*◌, ℕ, List, length, take, ap, subst, arith}
use Rattle.std.proofs.lemmas.Result.{on_ok_weaker}
use Rattle.tc_space.specs.Frames.{keeps_then, others_then}
use Rattle.tc_space.specs.Stores.{Only}
use Rattle.hf_head.specs.Heads.{unit}
use Rattle.hf_tree.specs.Links.{width}
use Rattle.hf_pack.specs.Moving.{rechained, renamed_in}
use Rattle.hf_pack.specs.Streams.{Pushed}
use Rattle.hf_pack.proofs.Records.{chains, chains_long, ends_inside, front_is, front_long, record_moved}
use Rattle.hf_pack.proofs.moving.move_record.Goals as goal

pub read_head-requires-clause-inside : goal.read_head-requires-clause-inside
read_head-requires-clause-inside g c = λ t. let w = c.requires.there t in omega (arith, ends_inside c.args.head.now w.r c.args.block.now.place (g.S.Space.now c.args.space.now c.args.file) w.has)

pub push-requires-clause-reaches : goal.push-requires-clause-reaches
push-requires-clause-reaches g c = record {
  file = c.requires.ready.is_data;
  inside = λ t.
      let w = c.requires.there t in
      let f : ℕ → ℕ = renamed_in c.args.head.now c.args.targets.now in
      let xs : List ℕ = take (2 + 2 * c.width.result) c.new_front-front.result in
      let e : xs ≡ chains (rechained f w.r) = ap (λ (k : ℕ). take (2 + 2 * k) c.new_front-front.result) c.width.ensures.value ∙ front_is f w.r c.in-Ok.rec (width c.args.head.now) (take (2 + 2 * width c.args.head.now) c.new_front-front.result) w.has.is.whole.fits.0 w.has.wide (c.in-Ok.ensures.head t w.r w.has) c.new_front-front.ensures in
      omega (arith, ends_inside c.args.head.now w.r c.args.block.now.place (g.S.Space.now c.args.space.now c.args.file) w.has, front_long f w.r xs e, w.low, ap length (c.read_head.ensures.reads.files t c.args.file));
}

pub copy-requires-clause-behind : goal.copy-requires-clause-behind
copy-requires-clause-behind g c = λ t.
    let w = c.requires.there t in
    let f : ℕ → ℕ = renamed_in c.args.head.now c.args.targets.now in
    let xs : List ℕ = take (2 + 2 * c.width.result) c.new_front-front.result in
    let e : xs ≡ chains (rechained f w.r) = ap (λ (k : ℕ). take (2 + 2 * k) c.new_front-front.result) c.width.ensures.value ∙ front_is f w.r c.in-Ok.rec (width c.args.head.now) (take (2 + 2 * width c.args.head.now) c.new_front-front.result) w.has.is.whole.fits.0 w.has.wide (c.in-Ok.ensures.head t w.r w.has) c.new_front-front.ensures in
    let n : length xs ≡ 2 + 2 * c.width.result = omega (arith, ap length e, chains_long (rechained f w.r), w.has.wide, c.width.ensures.value) in
    let ends = ends_inside c.args.head.now w.r c.args.block.now.place (g.S.Space.now c.args.space.now c.args.file) w.has in
    let few = front_long f w.r xs e in
    let p = c.in_ok-push.ensures.pushed t in
    let same = ap length (c.read_head.ensures.reads.files t c.args.file) in
    let long = c.read_head.ensures.long t in
    record {
      behind = omega (arith, p.ends, c.saturating_add.ensures, n, w.low, ends, few, long);
      inside = omega (arith, c.saturating_add.ensures, c.saturating_sub-rest.ensures, n, w.sized, ends, few, long, p.long, same);
    }

pub returns-clause-moved : goal.returns-clause-moved
returns-clause-moved g c = on_ok_weaker c.copy.result (λ copied t r has sized.
    let f : ℕ → ℕ = renamed_in c.args.head.now c.args.targets.now in
    let old : List ℕ = g.S.Space.now c.args.space.now c.args.file in
    let mid : List ℕ = g.S.Space.now c.push.new.space c.args.file in
    let new : List ℕ = g.S.Space.now c.copy.new.space c.args.file in
    let xs : List ℕ = take (2 + 2 * c.width.result) c.new_front-front.result in
    let e : xs ≡ chains (rechained f r) = ap (λ (k : ℕ). take (2 + 2 * k) c.new_front-front.result) c.width.ensures.value ∙ front_is f r c.in-Ok.rec (width c.args.head.now) (take (2 + 2 * width c.args.head.now) c.new_front-front.result) has.is.whole.fits.0 has.wide (c.in-Ok.ensures.head t r has) c.new_front-front.ensures in
    let n : length xs ≡ 2 + 2 * c.width.result = omega (arith, ap length e, chains_long (rechained f r), has.wide, c.width.ensures.value) in
    let ends = ends_inside c.args.head.now r c.args.block.now.place old has in
    let few = front_long f r xs e in
    let long = c.read_head.ensures.long t in
    record_moved f (unit c.args.head.now) r c.args.block.now.place c.args.block.now.size c.saturating_add.result c.saturating_sub-rest.result xs old mid new c.args.stream.now c.push.new.self c.copy.new.self has.is sized e (c.requires.there t).low
    (omega (arith, c.saturating_add.ensures, n, ends, few, long)) (omega (arith, c.saturating_sub-rest.ensures, n))
    (subst (λ (l : List ℕ). Pushed c.args.stream.now c.push.new.self l mid xs) (c.read_head.ensures.reads.files t c.args.file) (c.in_ok-push.ensures.pushed t))
    (copied t)) c.copy.ensures.copied

pub returns-clause-writes : goal.returns-clause-writes
returns-clause-writes g c =
    let a = c.args.space.now in
    let b = c.read_head.new.space in
    let mid = c.push.new.space in
    let reads = c.in-Ok.ensures.reads in
    let first = c.in_ok-push.ensures.writes in
    record {
      others = on_ok_weaker c.copy.result (λ rest. others_then g.S.Space (Only c.args.file) a mid c.copy.new.space (others_then g.S.Space (Only c.args.file) a b mid (record { same = λ t f other. reads.files t f }) first.others) rest) c.copy.ensures.writes.others;
      outcome = c.copy.ensures.writes.outcome;
      keeps = keeps_then g.S.Space a mid c.copy.new.space (keeps_then g.S.Space a b mid reads.keeps first.keeps) c.copy.ensures.writes.keeps;
      full = c.copy.ensures.writes.full;
      cause = search rules;
    }

pub returns-in_err-push-clause-writes : goal.returns-in_err-push-clause-writes
returns-in_err-push-clause-writes g c = record {
  others = search rules;
  outcome = search rules;
  keeps = keeps_then g.S.Space c.args.space.now c.read_head.new.space c.push.new.space c.in-Ok.ensures.reads.keeps c.in_err-push.ensures.writes.keeps;
  full = search rules;
  cause = search rules;
}
