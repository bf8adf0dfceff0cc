-- Where a line ends, whatever comes behind.
use Rattle.std.proofs.Common.{◌≡◌, ℕ, suc, ◌+◌, ◌<◌, ◌≤◌, not, eq-eqb, List, ◌++◌, length, take, drop, get_or, Ok, Err, sym, ap, ◌∙◌, arith, length-append}
use Rattle.std.proofs.lemmas.Bool.{ne_eqb, lt-ltb, le-ltb, cond-true, cond-false}
use Rattle.std.proofs.lemmas.List.{drop-append-le, take-append-le}
use Rattle.std.specs.Prelude.{◌≢◌}
use Rattle.tc_base.specs.declared.fields.NotWhole.TheVariants.{Part, Bad}
use Rattle.ty_memc.specs.Reading.{is_inside, line_len, line_at, without_return}
use Rattle.ty_memc.specs.Taking.{IsLineEnd}
use Rattle.ty_memc.proofs.Runs.{run_more, run_here, run_append, run_grows}

pub feed_here : (bytes : List ℕ) (n : ℕ) → n < length bytes → n ≤ line_len bytes → get_or bytes n 0 ≡ 10 → n ≡ line_len bytes
unfolding line_len
feed_here bytes n within less is = run_here is_inside bytes n within less (ap not (eq-eqb (get_or bytes n 0) 10 is))

pub feed_behind : (bytes : List ℕ) (n : ℕ) → n < length bytes → n ≤ line_len bytes → get_or bytes n 0 ≢ 10 → n + 1 ≤ line_len bytes
unfolding line_len
feed_behind bytes n within less ne = run_more is_inside bytes n within less (ap not (ne_eqb (get_or bytes n 0) 10 ne))

pub len_stays : (bytes more : List ℕ) → line_len bytes < length bytes → line_len (bytes ++ more) ≡ line_len bytes
unfolding line_len
len_stays bytes more less = run_append is_inside bytes more less

pub len_grows : (bytes more : List ℕ) → line_len bytes ≤ line_len (bytes ++ more)
unfolding line_len
len_grows bytes more = run_grows is_inside bytes more

pub line_stays : (bytes : List ℕ) (at : ℕ) (more : List ℕ) → IsLineEnd at bytes → line_at (bytes ++ more) ≡ Ok (without_return (take at bytes), drop (at + 1) bytes ++ more)
line_stays bytes at more e =
    let all : List ℕ = bytes ++ more in
    let len : line_len all ≡ at = len_stays bytes more (omega (arith, e.is, e.within)) ∙ sym e.is in
    cond-false _ _ _ (le-ltb 2047 (line_len all) (omega (arith, len, e.short)))
    ∙ cond-true _ _ _ (lt-ltb (line_len all) (length all) (omega (arith, len, e.within, length-append bytes more)))
    ∙ ap (λ (n : ℕ). Ok (without_return (take n all), drop (suc n) all)) len
    ∙ (λ i. Ok (without_return (take-append-le at bytes more (omega (arith, e.within)) i), drop (one at i) all))
    ∙ ap (λ (l : List ℕ). Ok (without_return (take at bytes), l)) (drop-append-le (at + 1) bytes more (omega (arith, e.within)))
  where
    one : (n : ℕ) → suc n ≡ n + 1
    one n = omega arith

pub line_part : (bytes : List ℕ) → length bytes ≤ line_len bytes → length bytes ≤ 2047 → line_len bytes ≡ length bytes → line_at bytes ≡ Err Part
line_part bytes long short is = cond-false _ _ _ (le-ltb 2047 (line_len bytes) (omega (arith, is, short))) ∙ cond-false _ _ _ (le-ltb (line_len bytes) (length bytes) long)

pub line_bad : (bytes : List ℕ) → 2048 ≤ line_len bytes → line_at bytes ≡ Err Bad
line_bad bytes long = cond-true _ _ _ (lt-ltb 2047 (line_len bytes) (omega (arith, long)))
