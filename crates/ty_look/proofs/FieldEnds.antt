-- Where a request ends, once its sizes are there.
use Rattle.std.proofs.Common.{◌≡◌, inl, inr, ℕ, ◌+◌, ◌*◌, ◌/◌, ◌<◌, ◌≤◌, nat_eq, List, [], ◌∷◌, ◌++◌, length, take, drop, Ok, Err, refl, sym, ap, subst, ◌∙◌, arith, length-append, length-drop}
use Rattle.std.proofs.lemmas.Bool.{le-ltb, lt-ltb, cases_lt, cond-true, cond-false}
use Rattle.std.proofs.lemmas.List.{drop-append-le, drop-drop}
use Rattle.tc_base.specs.declared.fields.NotWhole.TheVariants.{Part}
use Rattle.tc_base.specs.Reading.{Front, ◌>>=◌, size_at}
use Rattle.tc_base.proofs.Exact.{bind_ok, same_whole}
use Rattle.tc_base.proofs.ExactFields.{chosen}
use Rattle.ty_wire.specs.Form.{Field, text, word, long, Heads, Values}
use Rattle.ty_wire.specs.Reading.{long_at, head_at, heads_then, body_then, values_at, room, items_at, counted_at, Entry, plain, counted, command_of, read_by, pick, entries, fields_at, request_at}
use Rattle.ty_look.specs.Seen.{number_size, numbers_size, end_from, end_at, list_at, entry_end, pick_end, or_none, command_end, announced_at, ArePart}
use Rattle.ty_wire.proofs.Stays.{Stays, size_stays, stays_at, rest_is}

-- ---- numbers and sizes that are there stay

-- how many bytes the texts have
abbrev pub texts_size : (fs : List Field) → Heads fs → ℕ
texts_size [] h = 0
texts_size (text most ∷ fs) h = h.0 + texts_size fs h.1
texts_size (word ∷ fs) h = texts_size fs h.1
texts_size (long ∷ fs) h = texts_size fs h.1

pub ends_from : (fs : List Field) (n : ℕ) (h : Heads fs) → end_from n fs h ≡ n + numbers_size fs + texts_size fs h
ends_from [] n h = omega arith
ends_from (text most ∷ fs) n h = omega (arith, ends_from fs (n + (4 + h.0)) h.1)
ends_from (word ∷ fs) n h = omega (arith, ends_from fs (n + 4) h.1)
ends_from (long ∷ fs) n h = omega (arith, ends_from fs (n + 8) h.1)

long_stays : (bytes : List ℕ) (x : ℕ) (rest : List ℕ) → long_at bytes ≡ Ok (x, rest) → Stays long_at bytes x 8
long_stays bytes x rest e =
    let a = bind_ok (size_at 4294967295 bytes) (λ hi. size_at 4294967295 hi.1 >>= λ lo. Ok (hi.0 * 4294967296 + lo.0, lo.1)) (x, rest) e in
    let b = bind_ok (size_at 4294967295 a.0.1) (λ lo. Ok (a.0.0 * 4294967296 + lo.0, lo.1)) (x, rest) a.2 in
    let s = size_stays 4294967295 bytes a.0.0 a.0.1 a.1 in
    let behind = rest_is (size_at 4294967295) bytes a.0.0 4 a.0.1 s a.1 in
    let t = stays_at (size_at 4294967295) 4 bytes b.0.0 4 s.inside (subst (λ (l : List ℕ). Stays (size_at 4294967295) l b.0.0 4) behind (size_stays 4294967295 a.0.1 b.0.0 b.0.1 b.1)) in
    let is = (same_whole (a.0.0 * 4294967296 + b.0.0) x b.0.1 rest b.2).0 in
    record {
      inside = t.inside;
      reads = λ more.
          ap (λ (r : Front ℕ). r >>= λ hi. size_at 4294967295 hi.1 >>= λ lo. Ok (hi.0 * 4294967296 + lo.0, lo.1)) (s.reads more)
          ∙ ap (λ (r : Front ℕ). r >>= λ lo. Ok (a.0.0 * 4294967296 + lo.0, lo.1)) (t.reads more) ∙ ap (λ (n : ℕ). Ok (n, drop 8 (bytes ++ more))) is;
    }

head_stays : (f : Field) (bytes : List ℕ) (x : ℕ) (rest : List ℕ) → head_at f bytes ≡ Ok (x, rest) → Stays (head_at f) bytes x (number_size f)
head_stays (text most) bytes x rest e = size_stays most bytes x rest e
head_stays word bytes x rest e = size_stays 4294967295 bytes x rest e
head_stays long bytes x rest e = long_stays bytes x rest e

pub record HeadsStay {A : Type 0} (fs : List Field) (k : Heads fs → List ℕ → Front A) (bytes : List ℕ) (h : Heads fs) (rest : List ℕ) : Type 0 where
  pub inside : numbers_size fs ≤ length bytes
  pub behind : rest ≡ drop (numbers_size fs) bytes
  pub reads : (more : List ℕ) → heads_then fs k (bytes ++ more) ≡ k h (drop (numbers_size fs) (bytes ++ more))

pub heads_stay : {A B : Type 0} (fs : List Field) (p : Heads fs → List ℕ → Front B) (k : Heads fs → List ℕ → Front A) (bytes : List ℕ) (y : B × List ℕ) → heads_then fs p bytes ≡ Ok y
    → (h : Heads fs) × (rest : List ℕ) × (p h rest ≡ Ok y) × HeadsStay fs k bytes h rest
heads_stay [] p k bytes y e = (tt, bytes, e, record { inside = omega arith; behind = refl; reads = λ more. refl })
heads_stay {A} {B} (f ∷ fs) p k bytes y e =
    let a = bind_ok (head_at f bytes) (λ n. heads_then fs (λ ns. p (n.0, ns)) n.1) y e in
    let x = a.0.0 in
    let s = head_stays f bytes x a.0.1 a.1 in
    let behind = rest_is (head_at f) bytes x (number_size f) a.0.1 s a.1 in
    let d = heads_stay fs (λ ns. p (x, ns)) (λ ns. k (x, ns)) a.0.1 y a.2 in
    let t = d.3 in
    let size : number_size f + numbers_size fs ≤ length bytes = omega (arith, s.inside, t.inside, ap length behind, length-drop (number_size f) bytes) in (
      (x, d.0),
      d.1,
      d.2,
      record {
        inside = size;
        behind = t.behind ∙ ap (drop (numbers_size fs)) behind ∙ drop-drop (numbers_size fs) (number_size f) bytes;
        reads = λ more.
            let b = bytes ++ more in
            let rest_more : drop (number_size f) b ≡ a.0.1 ++ more = drop-append-le (number_size f) bytes more s.inside ∙ ap (λ (l : List ℕ). l ++ more) (sym behind) in
            ap (λ (r : Front ℕ). r >>= λ n. heads_then fs (λ ns. k (n.0, ns)) n.1) (s.reads more)
            ∙ ap (λ (l : List ℕ). heads_then fs (λ ns. k (x, ns)) l) rest_more ∙ t.reads more
            ∙ ap (λ (l : List ℕ). k (x, d.0) (drop (numbers_size fs) l)) (sym rest_more) ∙ ap (λ (l : List ℕ). k (x, d.0) l) (drop-drop (numbers_size fs) (number_size f) b);
      },
    )

-- ---- texts that aren't all there

abbrev sized : ℕ → List ℕ → Front ℕ
sized n rest = Ok (n, rest)

abbrev texts_of : (fs : List Field) → ℕ → Heads fs → ℕ → List ℕ → Front (Values fs × List (List ℕ))
texts_of fs most h n rest = body_then fs h (λ v rest. items_at most n (room fs h) rest >>= λ xs. Ok ((v, xs.0), xs.1)) rest

abbrev count_of : (fs : List Field) → ℕ → Heads fs → List ℕ → Front (Values fs × List (List ℕ))
count_of fs most h rest = size_at (room fs h / 4) rest >>= λ n. texts_of fs most h n.0 n.1

body_short : {A : Type 0} (fs : List Field) (h : Heads fs) (k : Values fs → List ℕ → Front A) (bytes : List ℕ) → length bytes < texts_size fs h → body_then fs h k bytes ≡ Err Part
body_short [] h k bytes short = absurd (omega (arith, short))
body_short {A} (text most ∷ fs) h k bytes short = elim (cases_lt (length bytes) h.0) [
  | inl lack ↦ ap (λ (r : Front (List ℕ)). r >>= λ x. body_then fs h.1 (λ v. k (x.0, v)) x.1) (cond-true _ _ _ (lt-ltb _ _ lack))
  | inr there ↦
      let more : length (drop h.0 bytes) < texts_size fs h.1 = omega (arith, short, there, length-drop h.0 bytes) in
      ap (λ (r : Front (List ℕ)). r >>= λ x. body_then fs h.1 (λ v. k (x.0, v)) x.1) (cond-false _ _ _ (le-ltb _ _ there)) ∙ body_short fs h.1 (λ v. k (take h.0 bytes, v)) (drop h.0 bytes) more
]
body_short (word ∷ fs) h k bytes short = body_short fs h.1 (λ v. k (h.0, v)) bytes short
body_short (long ∷ fs) h k bytes short = body_short fs h.1 (λ v. k (h.0, v)) bytes short

values_short : (fs : List Field) (bytes : List ℕ) (n : ℕ) (rest more : List ℕ) → end_at fs bytes ≡ Ok (n, rest) → 2 + length (bytes ++ more) < n → values_at fs (bytes ++ more) ≡ Err Part
values_short fs bytes n rest more e short =
    let d = heads_stay fs (λ h rest. sized (end_from 2 fs h) rest) (λ h. body_then fs h (λ v rest. Ok (v, rest))) bytes (n, rest) e in
    let b = bytes ++ more in
    let is = (same_whole (end_from 2 fs d.0) n d.1 rest d.2).0 in
    let lack : length (drop (numbers_size fs) b) < texts_size fs d.0 = omega (arith, short, is, ends_from fs 2 d.0, length-drop (numbers_size fs) b, d.3.inside, length-append bytes more) in
    d.3.reads more ∙ body_short fs d.0 (λ v rest. Ok (v, rest)) (drop (numbers_size fs) b) lack

counted_short : (fs : List Field) (most : ℕ) (bytes : List ℕ) (n : ℕ) (rest more : List ℕ) → list_at fs bytes ≡ Ok (n, rest) → 2 + length (bytes ++ more) < n → counted_at fs most (bytes ++ more) ≡ Err Part
counted_short fs most bytes n rest more e short =
    let d = heads_stay fs (λ h rest. size_at (room fs h / 4) rest >>= λ c. sized (end_from 6 fs h) c.1) (count_of fs most) bytes (n, rest) e in
    let h = d.0 in
    let b = bytes ++ more in
    let a = bind_ok (size_at (room fs h / 4) d.1) (λ c. sized (end_from 6 fs h) c.1) (n, rest) d.2 in
    let is = (same_whole (end_from 6 fs h) n a.0.1 rest a.2).0 in
    let count : size_at (room fs h / 4) (drop (numbers_size fs) bytes) ≡ Ok (a.0.0, a.0.1) = ap (size_at (room fs h / 4)) (sym d.3.behind) ∙ a.1 in
    let s = stays_at (size_at (room fs h / 4)) (numbers_size fs) bytes a.0.0 4 d.3.inside (size_stays (room fs h / 4) (drop (numbers_size fs) bytes) a.0.0 a.0.1 count) in
    let lack : length (drop (numbers_size fs + 4) b) < texts_size fs h = omega (arith, short, is, ends_from fs 6 h, length-drop (numbers_size fs + 4) b, s.inside, length-append bytes more) in
    d.3.reads more ∙ ap (λ (r : Front ℕ). r >>= λ c. texts_of fs most h c.0 c.1) (s.reads more)
    ∙ body_short fs h (λ v rest. items_at most a.0.0 (room fs h) rest >>= λ xs. Ok ((v, xs.0), xs.1)) (drop (numbers_size fs + 4) b) lack

-- ---- the table

entry_short : (e : Entry) (bytes : List ℕ) (n : ℕ) (rest more : List ℕ) → entry_end e bytes ≡ Ok (n, rest) → 2 + length (bytes ++ more) < n → read_by e (bytes ++ more) ≡ Err Part
entry_short (plain c fs build) bytes n rest more e short = ap (λ (r : Front (Values fs)). r >>= λ v. Ok (build v.0, v.1)) (values_short fs bytes n rest more e short)
entry_short (counted c fs most build) bytes n rest more e short = ap (λ (r : Front (Values fs × List (List ℕ))). r >>= λ v. Ok (build v.0.0 v.0.1, v.1)) (counted_short fs most bytes n rest more e short)

pick_short : (es : List Entry) (c : ℕ) (bytes : List ℕ) (n : ℕ) (rest more : List ℕ) → pick_end es c bytes ≡ Ok (n, rest) → 2 + length (bytes ++ more) < n → pick es c (bytes ++ more) ≡ Err Part
pick_short [] c bytes n rest more e short = absurd cc
pick_short (d ∷ es) c bytes n rest more e short = elim (chosen (nat_eq c (command_of d)) _ _ (Ok (n, rest)) e) [
  | inl h ↦ cond-true _ _ _ h.0 ∙ entry_short d bytes n rest more h.1 short
  | inr h ↦ cond-false _ _ _ h.0 ∙ pick_short es c bytes n rest more h.1 short
]

or_none_short : (r : Front ℕ) (c : ℕ) (bytes more : List ℕ) → r ≡ pick_end entries c bytes → 2 + length (bytes ++ more) < or_none r → pick entries c (bytes ++ more) ≡ Err Part
or_none_short (Ok x) c bytes more e short = pick_short entries c bytes x.0 x.1 more (sym e) short
or_none_short (Err d) c bytes more e short = absurd (omega (arith, short))

command_short : (magic : ℕ) (rest more : List ℕ) → 1 + length (rest ++ more) < command_end magic rest → request_at (magic ∷ (rest ++ more)) ≡ Err Part
unfolding request_at fields_at
command_short magic [] more short = absurd (omega (arith, short))
command_short magic (c ∷ rest) more short = elim (chosen (nat_eq magic 0xC8) (or_none (pick_end entries c rest)) 0 (command_end magic (c ∷ rest)) refl) [
  | inl h ↦ cond-true _ _ _ h.0 ∙ or_none_short (pick_end entries c rest) c rest more refl (omega (arith, short, h.1))
  | inr h ↦ absurd (omega (arith, short, h.1))
]

pub announced_part : (bytes : List ℕ) → ArePart (announced_at bytes) bytes
unfolding announced_at
announced_part [] more short = absurd (omega (arith, short))
announced_part (magic ∷ rest) more short = command_short magic rest more (omega (arith, short))
