use Rattle.std.proofs.Common.{◌≡◌, ◌+◌, ◌∙◌, arith, ap, sym, length, take, drop, refl, Result, Ok, Err, OnErr, inl}
use Rattle.std.proofs.lemmas.List.{take_at, places}
use Rattle.tc_io.specs.Images.{now, Calls, written, IsLost}
use Rattle.tc_undo.specs.Found.{IsBack}
use Rattle.tc_undo.proofs.EntryBack.{long, bytes_are, as_lost, as_made, short_take}
use Rattle.tc_undo.proofs.put_back.put_back_one.Goals as goal

on_err : {T E : Type 0} (r : Result T E) (P : Type 0) → P → OnErr r P
on_err (Ok x) P p = tt
on_err (Err e) P p = p

pub read-requires-clause-inside : goal.read-requires-clause-inside
read-requires-clause-inside g c = λ t.
    let en = c.requires.ends t in
    let all = long _ _ en.e en.front en.rest en.is in
    let same = ap (λ (cs : Calls). length (now cs 1)) (c.find_back.ensures.reads.calls t) in
    omega (arith, all, same, short_take, c.in_ok-found.ensures.finds.start)

pub returns-in_err-read-clause-lost : goal.returns-in_err-read-clause-lost
returns-in_err-read-clause-lost g c = on_err c.from_residual-in_err-read.result _ (λ t. record { lost = λ e front rest is. inl (c.read.ensures.calls t ∙ c.find_back.ensures.reads.calls t) })

pub returns-in_err-write-clause-lost : goal.returns-in_err-write-clause-lost
returns-in_err-write-clause-lost g c = on_err c.from_residual-in_err-write.result _ (λ t. record {
  lost = λ e front rest is.
      let old = g.V.Volume.calls c.args.vol.now in
      let same : g.V.Volume.calls c.read.new.self ≡ old = c.read.ensures.calls t ∙ c.find_back.ensures.reads.calls t in
      let b : IsBack e front c.in_ok-found.found = c.in_ok-found.ensures.finds.back t e front rest is in
      let r = c.read.new.into in
      let n = c.in_ok-found.found.size in
      let all : length r ≡ n = grind (arith, places, c.read.auto.into, c.in_ok-found.ensures.finds.few) in
      let there : r ≡ take n (drop (c.in_ok-found.found.start + 16) (now (g.V.Volume.calls c.find_back.new.vol) 1)) = c.in_ok-read.ensures.bytes t ∙ ap (λ k. take k (drop (c.in_ok-found.found.start + 16) (now (g.V.Volume.calls c.find_back.new.vol) 1))) (sym c.read.auto.into ∙ all) in
      let bytes : r ≡ e.bytes = there ∙ ap (λ (cs : Calls). take n (drop (c.in_ok-found.found.start + 16) (now cs 1))) (c.find_back.ensures.reads.calls t) ∙ bytes_are _ _ e front rest is c.in_ok-found.found.start b.start (take 16 (drop c.in_ok-found.found.start (now old 1))) refl n b.size in
      let lost = c.in_err-write.ensures.lost t in
      let step : IsLost old (g.V.Volume.calls c.write.new.self) e.file (written e.at e.bytes) = as_lost (g.V.Volume.calls c.read.new.self) old (g.V.Volume.calls c.write.new.self) c.in_ok-found.found.file e.file c.in_ok-found.found.at e.at _ e.bytes lost same b.file b.at (take_at r _ n all ∙ bytes) in
      step;
})

pub returns-clause-put : goal.returns-clause-put
returns-clause-put g c = λ t. record {
  made = λ e front rest is.
      let old = g.V.Volume.calls c.args.vol.now in
      let same : g.V.Volume.calls c.read.new.self ≡ old = c.read.ensures.calls t ∙ c.find_back.ensures.reads.calls t in
      let b : IsBack e front c.in_ok-found.found = c.in_ok-found.ensures.finds.back t e front rest is in
      let r = c.read.new.into in
      let n = c.in_ok-found.found.size in
      let all : length r ≡ n = grind (arith, places, c.read.auto.into, c.in_ok-found.ensures.finds.few) in
      let there : r ≡ take n (drop (c.in_ok-found.found.start + 16) (now (g.V.Volume.calls c.find_back.new.vol) 1)) = c.in_ok-read.ensures.bytes t ∙ ap (λ k. take k (drop (c.in_ok-found.found.start + 16) (now (g.V.Volume.calls c.find_back.new.vol) 1))) (sym c.read.auto.into ∙ all) in
      let bytes : r ≡ e.bytes = there ∙ ap (λ (cs : Calls). take n (drop (c.in_ok-found.found.start + 16) (now cs 1))) (c.find_back.ensures.reads.calls t) ∙ bytes_are _ _ e front rest is c.in_ok-found.found.start b.start (take 16 (drop c.in_ok-found.found.start (now old 1))) refl n b.size in
      (as_made (g.V.Volume.calls c.read.new.self) old (g.V.Volume.calls c.write.new.self) c.in_ok-found.found.file e.file c.in_ok-found.found.at e.at _ e.bytes (c.in_ok-write.ensures.made t) same b.file b.at (take_at r _ n all ∙ bytes), b.start);
}
