use Rattle.std.proofs.Common.{◌≡◌, ◌-◌, ◌∙◌, arith, rules, ap, sym, length, take, drop, true, false}
use Rattle.tc_io.specs.Images.{now, Calls}
use Rattle.tc_undo.proofs.EntryBack.{long, again_there, start_is, file_is, place_is, formed_is, first_of_four, few_of_four}
use Rattle.tc_undo.proofs.put_back.find_back.Goals as goal

pub read-requires-clause-inside : goal.read-requires-clause-inside
read-requires-clause-inside g c = λ t. let en = c.requires.ends t in omega (arith, long _ _ en.e en.front en.rest en.is)

pub returns-then-end-lt20-clause-whole : goal.returns-then-end-lt20-clause-whole
returns-then-end-lt20-clause-whole g c = λ t. let en = c.requires.ends t in absurd (omega (arith, en.is.there, c.if-end-lt20.true))

pub returns-then-size-end-clause-whole : goal.returns-then-size-end-clause-whole
returns-then-size-end-clause-whole g c = λ t.
    let en = c.requires.ends t in
    absurd (omega (arith, en.is.there, c.if-size-end.true, c.read_again-size.ensures.number, again_there _ _ en.e en.front en.rest en.is c.read.new.into (c.in_ok-read.ensures.bytes t)))

pub returns-then-not-is_formed-clause-whole : goal.returns-then-not-is_formed-clause-whole
returns-then-not-is_formed-clause-whole g c = λ t.
    let en = c.requires.ends t in
    let size : c.read_again-size.result ≡ length en.e.bytes = c.read_again-size.ensures.number ∙ again_there _ _ en.e en.front en.rest en.is c.read.new.into (c.in_ok-read.ensures.bytes t) in
    let start = start_is _ _ en.e en.front en.rest en.is c.read_again-size.result size in
    let head = c.in_ok-read-2.ensures.bytes t ∙ ap (λ (cs : Calls). take 16 (drop (c.args.end - 20 - c.read_again-size.result) (now cs 1))) (c.read.ensures.calls t) in
    let file = c.read_head-head.ensures.file ∙ file_is _ _ en.e en.front en.rest en.is (c.args.end - 20 - c.read_again-size.result) start c.read-2.new.into head in
    let right = formed_is _ _ en.e en.front en.rest en.is (c.args.end - 20 - c.read_again-size.result) start c.read-2.new.into head c.read_head-head.result.file c.read_again-size.result c.read_again-size.result file size size in
    let both : false ≡ true = sym c.if-not-is_formed.true ∙ c.is_formed.ensures ∙ right in
    absurd (cc)

pub returns-clause-finds : goal.returns-clause-finds
returns-clause-finds g c =
    let formed = sym c.is_formed.ensures ∙ c.if-not-is_formed.false in
    record {
      data_file = first_of_four c.read_head-head.result.file c.read_again-size.result formed;
      few = few_of_four c.read_head-head.result.file c.read_again-size.result formed;
      start = search rules;
      back = λ t e front rest is.
          let size : c.read_again-size.result ≡ length e.bytes = c.read_again-size.ensures.number ∙ again_there _ _ e front rest is c.read.new.into (c.in_ok-read.ensures.bytes t) in
          let start = start_is _ _ e front rest is c.read_again-size.result size in
          let head = c.in_ok-read-2.ensures.bytes t ∙ ap (λ (cs : Calls). take 16 (drop (c.args.end - 20 - c.read_again-size.result) (now cs 1))) (c.read.ensures.calls t) in
          record {
            file = c.read_head-head.ensures.file ∙ file_is _ _ e front rest is (c.args.end - 20 - c.read_again-size.result) start c.read-2.new.into head;
            at = c.read_head-head.ensures.at ∙ place_is _ _ e front rest is (c.args.end - 20 - c.read_again-size.result) start c.read-2.new.into head;
            size = size;
            start = start;
          };
    }
